use native.Mathlib.Omega.{arith}
use Rattle.laws.specs.Packing.{total, packed, octets, none, one}
use Rattle.store_entry.proofs.chunk_bits.join5.Goals as goal

pub returns : goal.returns
unfolding octets packed total
returns c = record { fit = one {w = 8} {v = c.args.a} (omega arith) (one {w = 8} {v = c.args.b} (omega arith) (one {w = 8} {v = c.args.c} (omega arith) (one {w = 8} {v = c.args.d} (omega arith) (one {w = 8} {v = c.args.e} (omega arith) none)))); number = omega arith }
