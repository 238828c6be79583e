use Rattle.std.proofs.Common.{◌≡◌, ◌%◌, take}
use Rattle.ihex_record.specs.Record.{total}
use Rattle.ihex_record.proofs.sum.Given as goal

abbrev pub invariant-loop-i : goal.invariant-loop-i
invariant-loop-i l = l.s ≡ total (take l.i l.bytes) % 256
