use Rattle.call_bytes.proofs.hex.Laws.{line_case_lem}
use native.Mathlib.Omega.{arith}
use Rattle.call_bytes.proofs.hex.line.Goals as goal

pub returns : goal.returns
returns c = line_case_lem _ _ _ c.read_reader-was.ensures c.line-read.ensures.image_after c.has_failed-failed.ensures c.changes-changed.ensures c.keep_reader.ensures c.number.ensures c.position.ensures (omega arith)
