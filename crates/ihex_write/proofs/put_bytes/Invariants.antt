use Rattle.ihex_record.specs.Write.{bytes_text}
use Rattle.laws.specs.Over.{over}
use Rattle.std.proofs.Common.{◌≡◌, take}
use Rattle.ihex_write.proofs.put_bytes.Given as goal

abbrev pub invariant-loop-i : goal.invariant-loop-i
invariant-loop-i l = l.out ≡ over l.initial.out l.at (bytes_text (take l.i l.bytes))
