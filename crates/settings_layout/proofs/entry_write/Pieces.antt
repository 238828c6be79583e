-- An entry that is written, piece by piece. Assumes nothing.
use Prim.Native.Nat.{ℕ, ◌+◌, ◌-◌}
use mathlib.Core.Path.{◌≡◌, refl, ap, ◌∙◌}
use mathlib.Core.Logic.{◌≢◌}
use mathlib.Core.List.{List, ◌++◌}
use native.Mathlib.Omega.{arith}
use lib.ListN.{length, length-append}
use borrow.Author.Tests.{eq-eqb, ne_eqb}
use borrow.Rule.Slice.PartMut.{put_mid}
use Rattle.laws.specs.Bytes.{low_first}
use Rattle.laws.specs.Over.{over}
use Rattle.laws.proofs.OverLaws.{length_over, over_next, over_whole, part_over}
use Rattle.uf2_block.specs.Write.{le32, put_at}
use Rattle.uf2_block.proofs.WriteLaws.{put_after}
use Rattle.uf2_block.proofs.WriteLaws as fields
use Rattle.partitions.specs.declared.Entry.{Entry}
use Rattle.settings_layout.specs.EntryBytes.{number_bytes, flag_bytes, with_entry}
use Rattle.settings_layout.proofs.entries.Entries.{length_numbers, length_flags}

pub six_put : (b : List ℕ) (f s u v w x : ℕ) → length b ≡ 34
    → put_at (put_at (put_at (put_at (put_at (put_at b 0 f) 4 s) 8 u) 12 v) 16 w) 20 x ≡ over b 0 (le32 f ++ le32 s ++ le32 u ++ le32 v ++ le32 w ++ le32 x)
unfolding low_first
six_put b f s u v w x e =
    rw (
      fields.put_over b 0 f (omega arith),
      put_after b (le32 f) 4 s refl (omega arith),
      put_after b _ 8 u refl (omega arith),
      put_after b _ 12 v refl (omega arith),
      put_after b _ 16 w refl (omega arith),
    )
    (put_after b _ 20 x refl (omega arith))

-- the numbers, and then the flags, copied after them
pub entry_put : (b : List ℕ) (e : Entry) {c f ys : List ℕ} → length b ≡ 34 → c ≡ over b 0 (number_bytes e) → f ≡ flag_bytes e
    → ys ≡ f
    → put_mid 24 (24 + 10 - 24) c ys ≡ with_entry b e
unfolding with_entry
entry_put b e {c} {f} {ys} hb hc hf hy =
    let n = number_bytes e in
    let g = flag_bytes e in
    let ln = length_numbers e in
    let lg = length_flags e in
    let lc : length c ≡ 34 = ap length hc ∙ length_over b 0 n (omega (arith, ln)) ∙ hb in
    let lf : length f ≡ 10 = ap length hf ∙ lg in
    let at : 0 + length n ≡ 24 = omega (arith, ln) in
    part_over 24 10 c f ys lf (omega arith) hy
    ∙ rw (hc, hf) (over_next b 0 n 24 g at (omega (arith, lg)))
    ∙ over_whole b (n ++ g) (omega (arith, length-append n g, ln, lg))
    ∙ rw (eq-eqb (length b) 34 hb)

pub entry_other : (b : List ℕ) (e : Entry) → length b ≢ 34 → b ≡ with_entry b e
unfolding with_entry
entry_other b e h = rw (ne_eqb (length b) 34 h)
