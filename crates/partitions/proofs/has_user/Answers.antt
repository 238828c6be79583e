use borrow.Author.Rules.{rules}
use Prim.Native.Nat.{ℕ}
use lib.Dec.{eqb}
use Rattle.partitions.specs.Settings.{has_user}
use Rattle.partitions.proofs.has_user.Goals as goal

pub returns : goal.returns
unfolding has_user
returns c = c.any_user.ensures (λ (x : ℕ). eqb x c.args.family) (λ x r h. search rules)
