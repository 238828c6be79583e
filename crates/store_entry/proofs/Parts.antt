-- What is read of a part, by its length. Assumes nothing.
use mathlib.Core.Path.{◌≡◌, ap, ◌∙◌}
use mathlib.Core.Bool.{Bool, true, false}
use mathlib.Core.List.{List, [], ◌∷◌}
use Prim.Native.Nat.{ℕ, suc, ◌<◌}
use lib.Dec.{eqb}
use lib.ListN.{length, get_or}
use borrow.Author.Tests.{eqb-true}
use Rattle.std.specs.Prelude.{Some, None}
use Rattle.laws.proofs.Tests.{split}
use Rattle.partitions.specs.declared.Entry.{Entry}
use Rattle.partitions.specs.Settings.{blank_entry}
use Rattle.laws.specs.Packing.{octets, fields_of, Fit, none, one}
use Rattle.store_entry.specs.declared.chunk_bits.Chunks.{Chunks}
use Rattle.store_entry.specs.Chunks.{chunks_of, entry_chunks}
use Rattle.store_entry.specs.EntryBits.{entry_widths, entry_from, stray_from, entry_in, stray_in}
use Rattle.store_entry.specs.Fields.{chunk_fields}
use Rattle.store_entry.proofs.ReadBack.{entry_fields_lem}

-- bytes fit their eight bits
bytes_fit : (b : List ℕ) → ((i : ℕ) → get_or b i 0 < 256) → Fit (octets (length b)) b
unfolding octets
bytes_fit [] h = none
bytes_fit (x ∷ b) h = one {w = 8} (h 0) (bytes_fit b (λ i. h (suc i)))

pub part_fit : (n : ℕ) (b : List ℕ) → length b ≡ n → ((i : ℕ) → get_or b i 0 < 256) → Fit (octets n) b
part_fit n b e h = rw (← e) (bytes_fit b h)

-- ---- a part

module _ (b : List ℕ) where
  read_none : None ≡ entry_chunks b → eqb (length b) 22 ≡ false
  unfolding entry_chunks
  read_none h = split (eqb (length b) 22) (λ t. let z = rw t at h in cc) (λ f. f)

  read_some : {c : Chunks} → Some c ≡ entry_chunks b → (eqb (length b) 22 ≡ true) × (c ≡ chunks_of b)
  unfolding entry_chunks
  read_some {c} h =
      split (eqb (length b) 22)
      (λ t. let z = rw t at h in (t, cc))
      (λ f. let z = rw f at h in cc)

  pub entry_other : None ≡ entry_chunks b → {e : Entry} → e ≡ blank_entry → e ≡ entry_in b
  unfolding entry_in
  entry_other h {e} q = q ∙ rw (read_none h)

  pub stray_other : None ≡ entry_chunks b → (version : ℕ) → true ≡ stray_in version b
  unfolding stray_in
  stray_other h version = rw (read_none h)

  module _ (low : (i : ℕ) → get_or b i 0 < 256) {c : Chunks} (k : Some c ≡ entry_chunks b) where
    whole : eqb (length b) 22 ≡ true
    whole = (read_some k).0

    same : chunk_fields c ≡ fields_of entry_widths 22 b
    same = ap chunk_fields (read_some k).1 ∙ entry_fields_lem b (part_fit 22 b (eqb-true (length b) 22 whole) low)

    pub entry_part : {e : Entry} → e ≡ entry_from (chunk_fields c) → e ≡ entry_in b
    unfolding entry_in
    entry_part {e} q = q ∙ ap entry_from same ∙ rw whole

    pub stray_part : (version : ℕ) {r : Bool} → r ≡ stray_from version (chunk_fields c) → r ≡ stray_in version b
    unfolding stray_in
    stray_part version {r} q = q ∙ ap (stray_from version) same ∙ rw whole
