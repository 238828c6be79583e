use mathlib.Core.Path.{ap}
use Rattle.laws.specs.Numbered.{numbered}
use Rattle.trace_parts.specs.Merging.{merge_number}
use borrow.Author.Rules.{rules}
use Rattle.trace_parts.proofs.Sums.{merge_is}
use Rattle.trace_parts.proofs.merge_parts.Goals as goal

pub returns : goal.returns
returns c =
    ap (numbered merge_number) (merge_is _ _ (search rules) c.if-not-is_good.ensures c.if-not-is_good-2.ensures c.if-not-has_room.ensures c.join.ensures)
