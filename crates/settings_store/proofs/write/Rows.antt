-- What is written: the head's two bytes, and the rows after it. Assumes nothing.
use Prim.Native.Nat.{ℕ, ◌+◌, ◌-◌, ◌*◌, ◌/◌, ◌%◌, ◌≤◌}
use mathlib.Core.Path.{◌≡◌, refl, sym, ap, ◌∙◌}
use mathlib.Core.List.{List, [], ◌∷◌}
use native.Mathlib.Nat.{div-one}
use native.Mathlib.Omega.{arith}
use lib.ListN.{length, take-append-drop}
use borrow.Rule.Slice.PartMut.{put_mid}
use Rattle.laws.specs.Over.{over}
use Rattle.laws.specs.Rows.{rows}
use Rattle.laws.proofs.OverLaws.{length_over, over_next, part_over}
use Rattle.laws.proofs.RowsLaws.{rows_none, rows_more, length_rows}
use Rattle.partitions.specs.declared.Entry.{Entry}
use Rattle.partitions.specs.declared.Settings.{Settings}
use Rattle.partitions.specs.Settings.{entry_at}
use Rattle.laws.specs.Packing.{total, packed, unpacked, octets, bytes_of}
use Rattle.store_entry.specs.EntryBits.{packed_entry}
use Rattle.settings_store.specs.Written.{head_widths, head_fields, row_at, store_of}

-- ---- the rows

pub length_row : (t : List Entry) (k : ℕ) → length (row_at t k) ≡ 22
unfolding row_at packed_entry bytes_of unpacked octets
length_row t k = refl

row_is : (t : List Entry) (k : ℕ) {e : Entry} {r : List ℕ} → e ≡ entry_at t k → r ≡ packed_entry e → r ≡ row_at t k
unfolding row_at
row_is t k {e} {r} h q = q ∙ ap packed_entry h

pub rows_first : (out : List ℕ) (t : List Entry) → 2 ≤ length out → out ≡ over out 2 (rows (row_at t) 0)
unfolding over
rows_first out t h = rw (rows_none (row_at t)) (sym (take-append-drop 2 out))

module _ (out₀ : List ℕ) (t : List Entry) where
  pub rows_long : (out : List ℕ) (k : ℕ) → 2 + 22 * k ≤ length out₀ → out ≡ over out₀ 2 (rows (row_at t) k) → length out ≡ length out₀
  rows_long out k room s =
      let fits : 2 + length (rows (row_at t) k) ≤ length out₀ = omega (arith, length_rows 22 k (row_at t) (λ j l. length_row t j) k (omega arith)) in
      ap length s ∙ length_over out₀ 2 (rows (row_at t) k) fits

  -- one row more, copied into the part that was lent
  pub rows_next : (out ys r : List ℕ) (k : ℕ) {e : Entry} → 2 + 22 * (k + 1) ≤ length out₀ → out ≡ over out₀ 2 (rows (row_at t) k)
      → e ≡ entry_at t k → r ≡ packed_entry e
      → ys ≡ r
      → put_mid (2 + 22 * k) (2 + 22 * k + 22 - (2 + 22 * k)) out ys ≡ over out₀ 2 (rows (row_at t) (k + 1))
  rows_next out ys r k {e} room s he hr hy =
      let y : r ≡ row_at t k = row_is t k he hr in
      let long : length r ≡ 22 = ap length y ∙ length_row t k in
      let same = rows_long out k (omega arith) s in
      let at : 2 + length (rows (row_at t) k) ≡ 2 + 22 * k = omega (arith, length_rows 22 k (row_at t) (λ j l. length_row t j) k (omega arith)) in
      part_over (2 + 22 * k) 22 out r ys long (omega arith) hy
      ∙ rw (y, s, rows_more (row_at t) k) (over_next out₀ 2 (rows (row_at t) k) (2 + 22 * k) (row_at t k) at (omega (arith, length_row t k)))

-- ---- the head

pub head_put : (s : Settings) (out : List ℕ) (x : ℕ) {c h ys : List ℕ} → 2 + 22 * s.count ≤ length out → x ≡ packed head_widths (head_fields s)
    → h ≡ x / 256 % 256 ∷ x % 256 ∷ [] → ys ≡ h → c ≡ put_mid 0 (0 + 2 - 0) out ys
    → over c 2 (rows (row_at s.table) s.count) ≡ over out 0 (store_of s)
unfolding store_of bytes_of unpacked octets total
head_put s out x {c} {h} {ys} room e hh hy hc =
    let r = rows (row_at s.table) s.count in
    let long : length r ≡ 22 * s.count = length_rows 22 s.count (row_at s.table) (λ j l. length_row s.table j) s.count (omega arith) in
    let two : c ≡ over out 0 (x / 256 % 256 ∷ x % 256 ∷ []) = hc ∙ part_over 0 2 out h ys (ap length hh) (omega arith) hy ∙ ap (over out 0) hh in
    rw (two, ← e, div-one x) (over_next out 0 (x / 256 % 256 ∷ x % 256 ∷ []) 2 r refl (omega arith))
