-- Bytes that are laid as those of settings are their store. Assumes nothing.
use Prim.Native.Nat.{ℕ, zero, suc, ◌+◌, ◌*◌, ◌/◌, ◌%◌, ◌^◌, ◌<◌, ◌≤◌}
use mathlib.Core.Path.{◌≡◌, sym, ap, ◌∙◌, subst}
use mathlib.Core.List.{List, [], ◌∷◌}
use native.Mathlib.Nat.{mod-eq_of_lt, mod-lt}
use native.Mathlib.Omega.{arith}
use lib.ListN.{length, get_or, take, drop, length-take, length-drop, take-append-drop}
use lib.Pow.{pow_pos}
use lib.Seq.{drop-drop, length-take-le}
use borrow.Author.Tests.{le-ltb}
use Rattle.laws.specs.Sets.{any}
use Rattle.laws.specs.Rows.{rows}
use Rattle.laws.proofs.Tests.{split}
use Rattle.laws.proofs.Laws.{any_all, any_found}
use Rattle.partitions.specs.declared.Entry.{Entry}
use Rattle.partitions.specs.declared.Settings.{Settings}
use Rattle.partitions.specs.Settings.{entry_at}
use Rattle.laws.specs.Packing.{total, unpacked, bytes_of, fields_of}
use Rattle.laws.proofs.Widths.{bytes_fields}
use Rattle.store_entry.specs.EntryBits.{index_of, slot, entry_widths, entry_fields, packed_entry}
use Rattle.store_entry.proofs.ReadBack.{even}
use Rattle.store_entry.proofs.OneEntry.{Fits}
use Rattle.store_entry.proofs.Parts.{part_fit}
use Rattle.settings_store.specs.Store.{head_fields, head_in, head_widths, no_restart_at, part_in, row_at, store_of, version_of}
use Rattle.settings_claims.specs.Claims.{Narrow, Bytes}
use Rattle.settings_claims.specs.Bits.{value_of, head_bits, entry_bits, slot_of, EntryLaid, Laid}
use Rattle.settings_claims.proofs.Parts.{rows_parts}
use Rattle.settings_claims.proofs.Bits.{value_fields, flag_is, arch_is, kind_is, index_is}
use Rattle.settings_claims.proofs.Encoding.{low_part, head_whole, store_parts}

-- what w bits say is below 2 ^ w
below : (x w : ℕ) {y : ℕ} → x % 2 ^ w ≡ y → y < 2 ^ w
below x w e = subst (λ (z : ℕ). z < 2 ^ w) e (mod-lt x (pow_pos w))

module _ (s : Settings) (b : List ℕ) (low : Bytes b) (few : s.count ≤ 16) (users : (k : ℕ) → k < s.count → (entry_at s.table k).user_count ≤ 4) (laid : Laid s b) where
  module _ (k : ℕ) (l : k < s.count) where
    abbrev e : Entry
    e = entry_at s.table k

    abbrev x : EntryLaid e b k
    x = laid.entries k l

    part-22 : length (part_in b k) ≡ 22
    part-22 = let long = laid.long in simp (length-take, length-drop) (omega arith)

    fits : Fits e
    fits =
        record {
          first = below (value_of (part_in b k) / 2 ^ 163) 13 x.first;
          sectors = below (value_of (part_in b k) / 2 ^ 149) 14 x.sectors;
          index = below (value_of (part_in b k) / 2 ^ 143) 4 (x.index ∙ sym (index_is e.link));
          users = users k l;
        }

    slots : (i : ℕ) → get_or (entry_bits b k 42 32 ∷ entry_bits b k 74 32 ∷ entry_bits b k 106 32 ∷ entry_bits b k 138 32 ∷ []) i 0 ≡ get_or (slot_of e 0 ∷ slot_of e 1 ∷ slot_of e 2 ∷ slot_of e 3 ∷ []) i 0
    slots i = ap (λ (f : List ℕ). get_or f i 0) x.families

    fields : fields_of entry_widths 22 (part_in b k) ≡ entry_fields e
    unfolding unpacked total entry_fields slot
    fields =
        let first : entry_bits b k 0 13 ≡ e.first % 8192 = x.first ∙ sym (mod-eq_of_lt fits.first) in
        let sectors : entry_bits b k 13 14 ≡ e.sectors % 16384 = x.sectors ∙ sym (mod-eq_of_lt fits.sectors) in
        let index : entry_bits b k 29 4 ≡ index_of e.link % 16 = x.index ∙ sym (index_is e.link) ∙ sym (mod-eq_of_lt fits.index) in
        let count : entry_bits b k 39 3 ≡ e.user_count % 8 = x.users ∙ sym (mod-eq_of_lt (omega (arith, users k l))) in
        value_fields entry_widths 22 (part_in b k) part-22
        ∙ (λ i.
        first i ∷ sectors i ∷ (x.kind ∙ sym (kind_is e.link)) i ∷ index i
        ∷ (x.accepts_data ∙ sym (flag_is e.«data»)) i ∷ (x.accepts_arm_s ∙ sym (flag_is e.arm_s)) i
        ∷ (x.accepts_riscv ∙ sym (flag_is e.riscv)) i ∷ (x.accepts_arm_ns ∙ sym (flag_is e.arm_ns)) i
        ∷ (x.shut_arm ∙ sym (flag_is e.not_bootable_arm)) i ∷ (x.shut_riscv ∙ sym (flag_is e.not_bootable_riscv)) i ∷ count i
        ∷ slots 0 i ∷ slots 1 i ∷ slots 2 i ∷ slots 3 i ∷ (x.no_restart ∙ sym (flag_is e.no_restart)) i ∷ x.zeros i ∷ [])

    narrow_at : (i : ℕ) → slot e i < 2 ^ 32
    unfolding slot
    narrow_at zero = below (value_of (part_in b k) / 2 ^ 102) 32 (slots 0)
    narrow_at (suc zero) = below (value_of (part_in b k) / 2 ^ 70) 32 (slots 1)
    narrow_at (suc (suc zero)) = below (value_of (part_in b k) / 2 ^ 38) 32 (slots 2)
    narrow_at (suc (suc (suc zero))) = below (value_of (part_in b k) / 2 ^ 6) 32 (slots 3)
    narrow_at (suc (suc (suc (suc i)))) = rw (le-ltb (suc (suc (suc (suc i)))) e.user_count (omega (arith, users k l))) (omega arith)

    row_is : row_at s.table k ≡ part_in b k
    unfolding row_at packed_entry
    row_is = ap (bytes_of entry_widths 22) (sym fields) ∙ bytes_fields entry_widths 22 even (part_fit 22 (part_in b k) part-22 (low_part 22 (2 + 22 * k) b low))

  version : head_bits b 0 4 ≡ version_of s
  unfolding version_of no_restart_at
  version =
      split (any s.count (no_restart_at s.table))
      (λ t. let m = any_found (no_restart_at s.table) s.count t in laid.version_2 m.0 m.1 m.2 ∙ rw t)
      (λ t. laid.version_1 (any_all (no_restart_at s.table) s.count t) ∙ rw t)

  head_is : head_in b ≡ head_fields s
  unfolding head_in unpacked total head_fields
  head_is =
      value_fields head_widths 2 (take 2 b) (length-take-le 2 b (omega (arith, laid.long)))
      ∙ (λ i.
      version i ∷ laid.count i ∷ (laid.auto_switch ∙ sym (flag_is s.auto_switch)) i ∷ (laid.absolute ∙ sym (flag_is s.absolute)) i
      ∷ (laid.arm ∙ sym (flag_is s.arm)) i ∷ (laid.riscv ∙ sym (flag_is s.riscv)) i ∷ (laid.current ∙ sym (arch_is s.current)) i ∷ laid.zeros i ∷ [])

  head_bytes : bytes_of head_widths 2 (head_fields s) ≡ take 2 b
  head_bytes = ap (bytes_of head_widths 2) (sym head_is) ∙ head_whole b (part_fit 2 (take 2 b) (length-take-le 2 b (omega (arith, laid.long))) (low_part 2 0 b low))

  rows_are : rows (row_at s.table) s.count ≡ drop 2 b
  rows_are =
      rows_parts 22 (row_at s.table) s.count (drop 2 b) (let long = laid.long in length-drop 2 b ∙ omega arith)
      (λ k l. ap (take 22) (drop-drop (22 * k) 2 b) ∙ sym (row_is k l))

  pub laid_store : store_of s ≡ b
  laid_store = store_parts s head_bytes rows_are ∙ take-append-drop 2 b

  pub laid_fits : (k : ℕ) → k < s.count → Fits (entry_at s.table k)
  laid_fits k l = fits k l

  pub laid_narrow : Narrow s
  laid_narrow k i l = narrow_at k l i
