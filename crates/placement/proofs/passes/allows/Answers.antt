use borrow.Author.Tests.{ne_eqb}
use native.Mathlib.Omega.{arith}
use Rattle.placement.specs.Passes.{pass_allows}
use Rattle.placement.proofs.passes.allows.Goals as goal

pub returns-in-0 : goal.returns-in-0
unfolding pass_allows
returns-in-0 c = rw c.in-0.is (simp c.bootable.ensures)

pub returns-in-1 : goal.returns-in-1
unfolding pass_allows
returns-in-1 c =
    let m = c.in-1.is in
    rw m (simp (c.bootable-in-1.ensures, c.other.ensures))

pub returns-in-2 : goal.returns-in-2
unfolding pass_allows
returns-in-2 c = rw c.in-2.is c.unowned.ensures

pub returns-in_default : goal.returns-in_default
unfolding pass_allows
returns-in_default c =
    simp (ne_eqb c.args.pass 0 (λ e. omega arith), ne_eqb c.args.pass 1 (λ e. omega arith), ne_eqb c.args.pass 2 (λ e. omega arith))
