-- A block that is written piece by piece. Assumes nothing.
use Prim.Native.Nat.{ℕ, ◌+◌, ◌-◌, ◌≤◌}
use mathlib.Core.Path.{◌≡◌, refl, sym, ap, ◌∙◌}
use mathlib.Core.Logic.{◌≢◌}
use mathlib.Core.Bool.{and-false}
use mathlib.Core.List.{List, ◌++◌}
use native.Mathlib.Omega.{arith}
use lib.Dec.{eqb}
use lib.ListN.{length, take, drop, length-append, length-take, length-drop}
use borrow.Author.Tests.{eq-eqb, ne_eqb}
use borrow.Rule.Slice.PartMut.{put_mid}
use Rattle.memory.specs.Many.{many}
use Rattle.memory.proofs.fill.Laws.{length_many}
use Rattle.laws.specs.Over.{over}
use Rattle.laws.specs.Bytes.{low_first}
use Rattle.laws.proofs.BytesLaws.{length_low}
use Rattle.laws.proofs.OverLaws.{length_over, over_next, over_whole, put_over, part_over}
use Rattle.uf2_block.specs.Write.{le32, put_at}
use Rattle.uf2_block.proofs.WriteLaws.{put_after}
use Rattle.uf2_block.proofs.WriteLaws as fields
use Rattle.uf2_make.specs.Uf2lead.{first_over, last_over}
use Rattle.uf2_make.specs.Uf2block.{lead_bytes, block_bytes, block_over}

lead_put : (b : List ℕ) (a n t f : ℕ) → length b ≡ 512 → last_over (first_over b 0x2000 a) n t f ≡ over b 0 (lead_bytes a n t f)
unfolding low_first lead_bytes first_over last_over
lead_put b a n t f e =
    rw (
      fields.put_over b 0 0x0A324655 (omega arith),
      put_after b (le32 0x0A324655) 4 0x9E5D5157 refl (omega arith),
      put_after b _ 8 0x2000 refl (omega arith),
      put_after b _ 12 a refl (omega arith),
      put_after b _ 16 256 refl (omega arith),
      put_after b _ 20 n refl (omega arith),
      put_after b _ 24 t refl (omega arith),
    )
    (put_after b _ 28 f refl (omega arith))

-- a piece right after what is written already
piece : (b s p : List ℕ) (k n : ℕ) → length s ≡ k → length p ≡ n → k + n ≤ length b → over (over b 0 s) k p ≡ over b 0 (s ++ p)
piece b s p k n e h l = over_next b 0 s k p (omega arith) (omega arith)

pub length_lead : (a n t f : ℕ) → length (lead_bytes a n t f) ≡ 32
unfolding low_first lead_bytes
length_lead a n t f = refl

-- what stands before the last magic number
pub length_data : (a n t f : ℕ) (page : List ℕ) → length page ≡ 256 → length ((lead_bytes a n t f ++ page) ++ many 220 0) ≡ 508
length_data a n t f page h =
    let lead = lead_bytes a n t f in
    omega (arith, length-append (lead ++ page) (many 220 0), length-append lead page, length_lead a n t f, h, length_many 220 0)

pub length_block : (a n t f : ℕ) (page : List ℕ) → length page ≡ 256 → length (block_bytes a n t f page) ≡ 512
unfolding block_bytes
length_block a n t f page h =
    omega (arith, length-append ((lead_bytes a n t f ++ page) ++ many 220 0) (le32 0x0AB16F30), length_data a n t f page h, length_low 4 0x0AB16F30)

pub block_put : (b : List ℕ) (a n t f : ℕ) (page : List ℕ) {c d e g ys zs : List ℕ} → length b ≡ 512 → length page ≡ 256
    → c ≡ last_over (first_over b 0x2000 a) n t f
    → ys ≡ page → d ≡ put_mid 32 (32 + 256 - 32) c ys
    → zs ≡ many (length (take (288 + 220 - 288) (drop 288 d))) 0 → e ≡ put_mid 288 (288 + 220 - 288) d zs
    → g ≡ put_at e 508 0x0AB16F30 → g ≡ block_bytes a n t f page
unfolding block_bytes
block_put b a n t f page {c} {d} {e} {g} {ys} {zs} hb hp hl hy hd hz he hg =
    let lead = lead_bytes a n t f in
    let l = length_lead a n t f in
    let hc : c ≡ over b 0 lead = hl ∙ lead_put b a n t f hb in
    let lc : length c ≡ 512 = ap length hc ∙ length_over b 0 lead (omega (arith, l)) ∙ hb in
    let d2 : d ≡ over b 0 (lead ++ page) =
    hd ∙ part_over 32 256 c page ys hp (omega arith) hy ∙ rw hc (piece b lead page 32 256 l hp (omega arith)) in
    let m : length (lead ++ page) ≡ 288 = omega (arith, length-append lead page, l, hp) in
    let ld : length d ≡ 512 = ap length d2 ∙ length_over b 0 (lead ++ page) (omega (arith, m)) ∙ hb in
    let z : zs ≡ many 220 0 = hz ∙ ap (λ (k : ℕ). many k 0) (part d ld) in
    let e2 : e ≡ over b 0 ((lead ++ page) ++ many 220 0) =
    he ∙ rw (z, d2) (put_over 288 220 _ (many 220 0) (length_many 220 0) ∙ piece b (lead ++ page) (many 220 0) 288 220 m (length_many 220 0) (omega arith)) in
    let q = length_data a n t f page hp in
    let last = ((lead ++ page) ++ many 220 0) ++ le32 0x0AB16F30 in
    hg
    ∙ rw e2
    (put_after b ((lead ++ page) ++ many 220 0) 508 0x0AB16F30 q (omega arith)
    ∙ over_whole b last (length-append ((lead ++ page) ++ many 220 0) (le32 0x0AB16F30) ∙ rw (q, length_low 4 0x0AB16F30) (sym hb)))
  where
    part : (d : List ℕ) → length d ≡ 512 → length (take (288 + 220 - 288) (drop 288 d)) ≡ 220
    part d h = simp (length-take, length-drop) (omega arith)

-- ---- one block by itself

module _ (out : List ℕ) (a n t f : ℕ) (page : List ℕ) where
  pub other_output : length out ≢ 512 → out ≡ block_over out a n t f page
  unfolding block_over
  other_output h = rw (ne_eqb (length out) 512 h)

  pub other_page : length page ≢ 256 → out ≡ block_over out a n t f page
  unfolding block_over
  other_page h = rw (ne_eqb (length page) 256 h, and-false (eqb (length out) 512))

  pub one_block : length out ≡ 512 → length page ≡ 256 → {b : List ℕ} → b ≡ block_bytes a n t f page → b ≡ block_over out a n t f page
  unfolding block_over
  one_block h k {b} e = e ∙ rw (eq-eqb (length out) 512 h, eq-eqb (length page) 256 k)
