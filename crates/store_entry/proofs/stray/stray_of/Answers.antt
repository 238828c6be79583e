use mathlib.Core.Path.{refl}
use native.Mathlib.Nat.{div-one}
use Rattle.laws.specs.Packing.{unpacked, total}
use Rattle.store_entry.specs.EntryBits.{stray_from}
use Rattle.store_entry.specs.Fields.{chunk_fields}
use Rattle.store_entry.proofs.stray.stray_of.Goals as goal

pub returns : goal.returns
unfolding stray_from chunk_fields unpacked total
returns c = rw (div-one c.args.c.h, div-one c.args.c.tail) refl
