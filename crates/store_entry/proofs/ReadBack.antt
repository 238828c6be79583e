-- An entry's fields from six large ones. Assumes nothing.
use mathlib.Core.Path.{◌≡◌, refl, ◌∙◌}
use mathlib.Core.List.{List, [], ◌∷◌, ◌++◌}
use Prim.Native.Nat.{ℕ, ◌/◌, ◌%◌, ◌^◌, ◌<◌}
use native.Mathlib.Nat.{mod-lt}
use lib.Pow.{pow_pos}
use Rattle.laws.specs.Packing.{total, packed, unpacked, octets, fields_of, Fit}
use Rattle.laws.proofs.Widths.{fields_are, packed_unpacked, packed_lt}
use Rattle.laws.proofs.Groups.{Coarse, done, solo, many, coarse_fit, coarse_packed}
use Rattle.store_entry.specs.Chunks.{chunk_widths, chunks_of}
use Rattle.store_entry.proofs.chunk_bits.Groups.{computes}
use Rattle.store_entry.specs.EntryBits.{entry_widths}
use Rattle.store_entry.specs.Fields.{chunk_fields, lead_widths}

pub even : total entry_widths ≡ total (octets 22)
unfolding total octets
even = refl

pub short : (bs : List ℕ) → Fit (octets 22) bs → packed (octets 22) bs < 2 ^ total chunk_widths
short bs f = rw computes (packed_lt f)

as_entry : (h u v w x tail : ℕ) → h < 2 ^ 42 → u < 2 ^ 32 → v < 2 ^ 32 → w < 2 ^ 32 → x < 2 ^ 32 → tail < 64
    → Coarse entry_widths (unpacked lead_widths h ++ (u ∷ v ∷ w ∷ x ∷ (unpacked (1 ∷ 5 ∷ []) tail ++ []))) chunk_widths (h ∷ u ∷ v ∷ w ∷ x ∷ tail ∷ [])
unfolding total
as_entry h u v w x tail ph pu pv pw px pt = many lead_widths h ph (solo 32 u pu (solo 32 v pv (solo 32 w pw (solo 32 x px (many (1 ∷ 5 ∷ []) tail pt done)))))

pub entry_fields_lem : (bs : List ℕ) → Fit (octets 22) bs → chunk_fields (chunks_of bs) ≡ fields_of entry_widths 22 bs
unfolding chunk_fields chunks_of fields_of unpacked total
entry_fields_lem bs f =
    let n = packed (octets 22) bs in
    let c = as_entry (n / 2 ^ 134 % 2 ^ 42) (n / 2 ^ 102 % 2 ^ 32) (n / 2 ^ 70 % 2 ^ 32) (n / 2 ^ 38 % 2 ^ 32) (n / 2 ^ 6 % 2 ^ 32) (n / 2 ^ 0 % 2 ^ 6) (mod-lt _ (pow_pos 42)) (mod-lt _ (pow_pos 32)) (mod-lt _ (pow_pos 32)) (mod-lt _ (pow_pos 32)) (mod-lt _ (pow_pos 32)) (mod-lt _ (pow_pos 6)) in
    fields_are entry_widths 22 even bs (coarse_fit c) (coarse_packed c ∙ packed_unpacked chunk_widths n (short bs f))
