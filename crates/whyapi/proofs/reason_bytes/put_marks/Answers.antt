use mathlib.Core.Path.{refl}
use native.Mathlib.Omega.{arith}
use Rattle.whyapi.proofs.reason_bytes.Laws.{marks_put}
use Rattle.whyapi.proofs.reason_bytes.put_marks.Goals as goal

pub returns : goal.returns
returns c = let start = c in marks_put start.args.out.now _ _ start.args.marks start.requires (omega arith) c.copy_from_slice.ensures.after refl c.copy_from_slice-2.ensures.after
