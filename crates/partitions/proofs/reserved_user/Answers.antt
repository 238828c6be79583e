use borrow.Author.Rules.{rules}
use Rattle.partitions.specs.Settings.{is_reserved, reserved_user}
use Rattle.partitions.proofs.reserved_user.Goals as goal

pub returns : goal.returns
unfolding reserved_user
returns c = c.any_user.ensures is_reserved (λ x r h. search rules)
