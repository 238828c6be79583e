use Rattle.ihex_write.specs.Fill.{fill_lines}
use Rattle.ihex_write.specs.Put.{put_lines}
use Rattle.std.proofs.Common.{◌≡◌, ◌+◌, ◌-◌, ◌*◌}
use Rattle.ihex_write.proofs.filling.put_fill.Given as goal

abbrev pub invariant-loop-k : goal.invariant-loop-k
invariant-loop-k l = put_lines l.out (l.at + 64 * l.k) (fill_lines (l.m - 64 * l.k)) ≡ put_lines l.initial.out l.at (fill_lines l.m)
