use mathlib.Core.Path.{refl}
use native.Mathlib.Omega.{arith}
use Rattle.store_entry.proofs.chunk_bits.Groups.{chunks}
use Rattle.store_entry.proofs.chunk_bits.bytes_of.Goals as goal

pub returns : goal.returns
returns c =
    let a = c.args.c in
    rw (
      c.copy_from_slice.ensures.after,
      c.copy_from_slice-2.ensures.after,
      c.copy_from_slice-3.ensures.after,
      c.copy_from_slice-4.ensures.after,
      c.copy_from_slice-5.ensures.after,
      c.copy_from_slice-6.ensures.after,
      c.to_be_bytes-a.ensures,
      c.middle-b.ensures,
      c.middle-d.ensures,
      c.middle-e.ensures,
      c.middle-f.ensures,
    )
    (chunks a.h a.u a.v a.w a.x a.tail (omega arith) (omega arith) (omega arith) (omega arith) (omega arith) (omega arith) _ _ _ _ _ _ refl (omega arith) refl refl refl refl)
