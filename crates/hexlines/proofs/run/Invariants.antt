-- `hexlines::run`: the text that waits fits, and no more lines than bytes are read. The measure is what is left of the input.
use Rattle.std.proofs.Common.{◌-◌, ◌≤◌, length}
use Rattle.hexlines.proofs.run.Given as goal

abbrev pub invariant-loop-at : goal.invariant-loop-at
invariant-loop-at g l = (l.used ≤ length l.waiting) × (l.index ≤ l.at) × (l.at ≤ length l.input)

abbrev pub decreases-loop-at : goal.decreases-loop-at
decreases-loop-at g l = length l.input - l.at
