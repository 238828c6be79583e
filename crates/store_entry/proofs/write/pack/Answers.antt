use Prim.Native.Nat.{ℕ, ◌*◌, ◌%◌}
use mathlib.Core.Path.{ap, ◌∙◌}
use native.Mathlib.Omega.{arith}
use Rattle.store_entry.proofs.chunk_bits.ReadBack.{kept_whole}
use Rattle.store_entry.proofs.Entries.{entry_joined}
use Rattle.laws.proofs.Widths.{bit_lt}
use Rattle.partitions.proofs.Numbers.{from_bit}
use Rattle.store_entry.proofs.write.pack.Goals as goal

pub overflow_mul-from : goal.overflow_mul-from
overflow_mul-from c =
    let b = c.args.e.no_restart in
    omega (arith, c.from-9.ensures, from_bit b, bit_lt b)

pub returns : goal.returns
returns c =
    let start = c in
    let last = c.from-9.ensures ∙ from_bit _ in
    c.write.ensures
    ∙ kept_whole _ _ _ _ _ _ (omega (arith, c.lead-h.ensures.1, c.marks-m.ensures.1)) (omega (arith, last, bit_lt start.args.e.no_restart))
    ∙ entry_joined start.args.e _ _ _ _ _ _ _ _ _ _ _ _ _ _ _
    c.lead-h.ensures.0 c.marks-m.ensures.0
    (c.from.ensures ∙ c.kind.ensures.value) (ap (λ (k : ℕ). k % 16) (c.from-2.ensures ∙ c.index.ensures))
    (c.from-3.ensures ∙ from_bit _) (c.from-4.ensures ∙ from_bit _) (c.from-5.ensures ∙ from_bit _) (c.from-6.ensures ∙ from_bit _)
    (c.from-7.ensures ∙ from_bit _) (c.from-8.ensures ∙ from_bit _)
    c.slot_of.ensures c.slot_of-2.ensures c.slot_of-3.ensures c.slot_of-4.ensures (ap (λ (k : ℕ). k * 32) last)
    (omega arith) (omega arith) (omega arith) (omega arith)
