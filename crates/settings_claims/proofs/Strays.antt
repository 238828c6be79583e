-- What is stray in a store, by its bits. Assumes nothing.
use Prim.Native.Nat.{ℕ, ◌+◌, ◌*◌, ◌/◌, ◌%◌, ◌<◌, ◌≤◌}
use mathlib.Core.Path.{◌≡◌, sym, ap, ◌∙◌}
use mathlib.Core.Logic.{◌≢◌}
use mathlib.Core.Bool.{Bool, true, false, not, ◌&&◌, ◌||◌, or-true}
use mathlib.Core.List.{List}
use native.Mathlib.Omega.{arith}
use lib.Dec.{leb, eqb, ltb}
use lib.ListN.{length, get_or, length-take, length-drop}
use borrow.Author.Tests.{eq-eqb, ne_eqb, lt-ltb, le-leb}
use Rattle.laws.specs.Sets.{any}
use Rattle.laws.proofs.Tests.{split, clash, both}
use Rattle.laws.proofs.Laws.{any_hit, any_none}
use Rattle.partitions.specs.Table.{table_of}
use Rattle.partitions.proofs.Tables.{table_at}
use Rattle.laws.specs.Packing.{total, unpacked, fields_of}
use Rattle.store_entry.specs.EntryBits.{entry_widths, entry_from, stray_from}
use Rattle.store_entry.proofs.OneEntry.{nine}
use Rattle.settings_store.specs.Store.{no_restart_at, part_in, entry_of, stray_at}
use Rattle.settings_claims.specs.Bits.{value_of, entry_bits}
use Rattle.settings_claims.specs.Refusals.{version_in, count_in, Whole, Stray, head_zeros, kind_3, unlinked_index, many_users_case, unused_slot_0, unused_slot_1, unused_slot_2, unused_slot_3, sixth_last, last_five, needless_2}
use Rattle.settings_claims.proofs.Bits.{value_fields}
use Rattle.settings_claims.proofs.Encoding.{entry_whole, stray_whole, no_restart_of}

-- ---- one entry's fields

module _ (v : ℕ) (f : List ℕ) where
  abbrev free : ℕ → Bool
  free k = leb (get_or f 10 0) k && not (eqb (get_or f (11 + k) 0) 0)

  unstrayed : stray_from v f ≡ false
      → (eqb (get_or f 2 0) 3 ≡ false) × (eqb (get_or f 2 0) 0 && not (eqb (get_or f 3 0) 0) ≡ false) × (ltb 4 (get_or f 10 0) ≡ false)
      × (free 0 ≡ false) × (free 1 ≡ false) × (free 2 ≡ false) × (free 3 ≡ false) × (eqb v 1 && not (eqb (get_or f 15 0) 0) ≡ false) × (not (eqb (get_or f 16 0) 0) ≡ false)
  unfolding stray_from
  unstrayed z =
      nine (eqb (get_or f 2 0) 3) (eqb (get_or f 2 0) 0 && not (eqb (get_or f 3 0) 0)) (ltb 4 (get_or f 10 0)) (free 0) (free 1) (free 2) (free 3)
      (eqb v 1 && not (eqb (get_or f 15 0) 0)) (not (eqb (get_or f 16 0) 0)) z

  -- a test that no unstray fields pass
  by : (x : Bool) → (stray_from v f ≡ false → x ≡ false) → x ≡ true → stray_from v f ≡ true
  by x h t = split (stray_from v f) (λ e. e) (λ z. clash x t (h z))

not_zero : {x y : ℕ} → x ≡ y → y ≢ 0 → not (eqb x 0) ≡ true
not_zero {x} {y} e h = rw (ne_eqb x 0 (λ z. h (sym e ∙ z)))

module _ (b : List ℕ) (len : ℕ) (w : Whole b len) where
  module _ (k : ℕ) (l : k < count_in b) where
    part-22 : length (part_in b k) ≡ 22
    part-22 = let long = w.long in simp (length-take, length-drop) (omega arith)

    abbrev f : List ℕ
    f = fields_of entry_widths 22 (part_in b k)

    fields : f ≡ unpacked entry_widths (value_of (part_in b k))
    fields = value_fields entry_widths 22 (part_in b k) part-22

    at : (i : ℕ) → get_or f i 0 ≡ get_or (unpacked entry_widths (value_of (part_in b k))) i 0
    at i = ap (λ (x : List ℕ). get_or x i 0) fields

    kind : get_or f 2 0 ≡ entry_bits b k 27 2
    unfolding unpacked total
    kind = at 2

    index : get_or f 3 0 ≡ entry_bits b k 29 4
    unfolding unpacked total
    index = at 3

    users : get_or f 10 0 ≡ entry_bits b k 39 3
    unfolding unpacked total
    users = at 10

    slot-0 : get_or f 11 0 ≡ entry_bits b k 42 32
    unfolding unpacked total
    slot-0 = at 11

    slot-1 : get_or f 12 0 ≡ entry_bits b k 74 32
    unfolding unpacked total
    slot-1 = at 12

    slot-2 : get_or f 13 0 ≡ entry_bits b k 106 32
    unfolding unpacked total
    slot-2 = at 13

    slot-3 : get_or f 14 0 ≡ entry_bits b k 138 32
    unfolding unpacked total
    slot-3 = at 14

    restart : get_or f 15 0 ≡ entry_bits b k 170 1
    unfolding unpacked total
    restart = at 15

    zeros : get_or f 16 0 ≡ entry_bits b k 171 5
    unfolding unpacked total
    zeros = at 16

    -- a family in a slot from the count of users on
    unused : (i : ℕ) {y : ℕ} → get_or f (11 + i) 0 ≡ y → entry_bits b k 39 3 ≤ i → y ≢ 0 → leb (get_or f 10 0) i && not (eqb (get_or f (11 + i) 0) 0) ≡ true
    unused i e h n = both {a = leb (get_or f 10 0) i} (rw users (le-leb (entry_bits b k 39 3) i h)) (not_zero e n)

    strayed : stray_from (version_in b) f ≡ true → any (count_in b) (stray_at b (version_in b)) ≡ true
    strayed t = any_hit (stray_at b (version_in b)) (count_in b) k l (stray_whole b (version_in b) k part-22 ∙ t)

    restarts : entry_bits b k 170 1 ≡ 0 → no_restart_at (table_of (entry_of b) (count_in b)) k ≡ false
    unfolding entry_from
    restarts z =
        let t = table_of (entry_of b) (count_in b) in
        no_restart_of t k (table_at (entry_of b) (count_in b) k w.few l ∙ entry_whole b k part-22) ∙ rw (restart ∙ z)

  -- a head, an entry or a version that is stray
  abbrev test : Bool
  test =
      not (eqb ((get_or b 0 0 * 256 + get_or b 1 0) / 1 % 4) 0) || any (count_in b) (stray_at b (version_in b))
      || eqb (version_in b) 2 && not (any (count_in b) (no_restart_at (table_of (entry_of b) (count_in b))))

  entry_test : any (count_in b) (stray_at b (version_in b)) ≡ true → test ≡ true
  entry_test t = rw (t, or-true (not (eqb ((get_or b 0 0 * 256 + get_or b 1 0) / 1 % 4) 0)))

  version_test : eqb (version_in b) 2 && not (any (count_in b) (no_restart_at (table_of (entry_of b) (count_in b)))) ≡ true → test ≡ true
  version_test t = rw (t, or-true (not (eqb ((get_or b 0 0 * 256 + get_or b 1 0) / 1 % 4) 0) || any (count_in b) (stray_at b (version_in b))))

  entry_hit : (k : ℕ) (l : k < count_in b) (x : Bool) → (stray_from (version_in b) (f k l) ≡ false → x ≡ false) → x ≡ true → test ≡ true
  entry_hit k l x h t = entry_test (strayed k l (by (version_in b) (f k l) x h t))

  pub stray_tested : Stray b → test ≡ true
  stray_tested (head_zeros h) = rw (ne_eqb ((get_or b 0 0 * 256 + get_or b 1 0) / 1 % 4) 0 (λ z. h (omega (arith, z))))
  stray_tested (kind_3 k l h) =
      entry_hit k l (eqb (get_or (f k l) 2 0) 3) (λ z. (unstrayed (version_in b) (f k l) z).0) (eq-eqb (get_or (f k l) 2 0) 3 (kind k l ∙ h))
  stray_tested (unlinked_index k l h n) =
      entry_hit k l (eqb (get_or (f k l) 2 0) 0 && not (eqb (get_or (f k l) 3 0) 0)) (λ z. (unstrayed (version_in b) (f k l) z).1)
      (both (eq-eqb (get_or (f k l) 2 0) 0 (kind k l ∙ h)) (not_zero (index k l) n))
  stray_tested (many_users_case k l h) =
      entry_hit k l (ltb 4 (get_or (f k l) 10 0)) (λ z. (unstrayed (version_in b) (f k l) z).2) (rw (users k l) (lt-ltb 4 (entry_bits b k 39 3) h))
  stray_tested (unused_slot_0 k l h n) = entry_hit k l (free (version_in b) (f k l) 0) (λ z. (unstrayed (version_in b) (f k l) z).3) (unused k l 0 (slot-0 k l) h n)
  stray_tested (unused_slot_1 k l h n) = entry_hit k l (free (version_in b) (f k l) 1) (λ z. (unstrayed (version_in b) (f k l) z).4) (unused k l 1 (slot-1 k l) h n)
  stray_tested (unused_slot_2 k l h n) = entry_hit k l (free (version_in b) (f k l) 2) (λ z. (unstrayed (version_in b) (f k l) z).5) (unused k l 2 (slot-2 k l) h n)
  stray_tested (unused_slot_3 k l h n) = entry_hit k l (free (version_in b) (f k l) 3) (λ z. (unstrayed (version_in b) (f k l) z).6) (unused k l 3 (slot-3 k l) h n)
  stray_tested (sixth_last k l v n) =
      entry_hit k l (eqb (version_in b) 1 && not (eqb (get_or (f k l) 15 0) 0)) (λ z. (unstrayed (version_in b) (f k l) z).7)
      (both (eq-eqb (version_in b) 1 v) (not_zero (restart k l) n))
  stray_tested (last_five k l n) = entry_hit k l (not (eqb (get_or (f k l) 16 0) 0)) (λ z. (unstrayed (version_in b) (f k l) z).8) (not_zero (zeros k l) n)
  stray_tested (needless_2 v h) =
      let t = table_of (entry_of b) (count_in b) in
      version_test
      (both (eq-eqb (version_in b) 2 v)
      (rw (any_none (no_restart_at t) (count_in b) (λ k l. restarts k l (h k l)))))
