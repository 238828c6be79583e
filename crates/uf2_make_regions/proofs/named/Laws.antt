-- A block with a region that is written piece by piece. Assumes nothing.
use Prim.Native.Nat.{ℕ, ◌+◌, ◌-◌, ◌≤◌}
use mathlib.Core.Path.{◌≡◌, refl, sym, ap, ◌∙◌}
use mathlib.Core.List.{List, ◌++◌}
use native.Mathlib.Omega.{arith}
use lib.ListN.{length, take, drop, length-append, length-take, length-drop}
use borrow.Rule.Slice.PartMut.{put_mid}
use Rattle.memory.specs.Many.{many}
use Rattle.memory.proofs.fill.Laws.{length_many}
use Rattle.laws.specs.Over.{over}
use Rattle.laws.specs.Bytes.{low_first}
use Rattle.laws.proofs.BytesLaws.{length_low}
use Rattle.laws.proofs.OverLaws.{length_over, over_next, over_whole, put_over, part_over}
use Rattle.uf2_block.specs.Write.{le32, put_at}
use Rattle.uf2_block.proofs.WriteLaws.{put_after}
use Rattle.uf2_block.proofs.WriteLaws as fields
use Rattle.md5_digest.specs.Md5.{digest_bytes}
use Rattle.md5_digest.specs.declared.Digest.{Digest}
use Rattle.uf2_block.specs.Digests.{with_digest}
use Rattle.uf2_block.proofs.digest_bytes.Laws.{digest_put}
use Rattle.uf2_make.specs.Uf2lead.{first_over, last_over}
use Rattle.uf2_make_regions.specs.Block.{lead_bytes, region_bytes, block_bytes}

-- ---- the fields before the data

pub lead_put : (b : List ℕ) (a n t f : ℕ) → length b ≡ 512
    → last_over (first_over b 0x6000 a) n t f ≡ over b 0 (lead_bytes a n t f)
unfolding low_first lead_bytes first_over last_over
lead_put b a n t f e =
    rw (
      fields.put_over b 0 0x0A324655 (omega arith),
      put_after b (le32 0x0A324655) 4 0x9E5D5157 refl (omega arith),
      put_after b _ 8 0x6000 refl (omega arith),
      put_after b _ 12 a refl (omega arith),
      put_after b _ 16 256 refl (omega arith),
      put_after b _ 20 n refl (omega arith),
      put_after b _ 24 t refl (omega arith),
    )
    (put_after b _ 28 f refl (omega arith))

pub length_lead : (a n t f : ℕ) → length (lead_bytes a n t f) ≡ 32
unfolding low_first lead_bytes
length_lead a n t f = refl

-- a piece right after what is written already
piece : (b s p : List ℕ) (k n : ℕ) → length s ≡ k → length p ≡ n → k + n ≤ length b → over (over b 0 s) k p ≡ over b 0 (s ++ p)
piece b s p k n e h l = over_next b 0 s k p (omega arith) (omega arith)

-- ---- the region

pub length_digest : (x : Digest) → length (digest_bytes x) ≡ 16
unfolding low_first digest_bytes
length_digest x = refl

pub length_region : (base : ℕ) (x : Digest) → length (region_bytes base x) ≡ 24
unfolding low_first region_bytes digest_bytes
length_region base x = refl

pub region_put : (b : List ℕ) (base : ℕ) (x : Digest) {d c ys : List ℕ} → length b ≡ 24
    → d ≡ put_at b 0 base → c ≡ put_at d 4 4096 → ys ≡ with_digest (take (8 + 16 - 8) (drop 8 c)) x
    → put_mid 8 (8 + 16 - 8) c ys ≡ region_bytes base x
unfolding region_bytes
region_put b base x {d} {c} {ys} hb hd hc hy =
    let head = le32 base ++ le32 4096 in
    let c2 : c ≡ over b 0 head = hc ∙ rw (hd, fields.put_over b 0 base (omega arith)) (put_after b (le32 base) 4 4096 (length_low 4 base) (omega arith)) in
    let lh : length head ≡ 8 = omega (arith, length-append (le32 base) (le32 4096), length_low 4 base, length_low 4 4096) in
    let lc : length c ≡ 24 = ap length c2 ∙ length_over b 0 head (omega (arith, lh)) ∙ hb in
    let y : ys ≡ digest_bytes x = hy ∙ digest_put (take (8 + 16 - 8) (drop 8 c)) x (part c lc) in
    let ly : length ys ≡ 16 = ap length y ∙ length_digest x in
    put_over 8 16 c ys ly
    ∙ rw (y, c2) (piece b head (digest_bytes x) 8 16 lh (length_digest x) (omega arith))
    ∙ over_whole b (head ++ digest_bytes x) (omega (arith, length-append head (digest_bytes x), lh, length_digest x))
  where
    part : (c : List ℕ) → length c ≡ 24 → length (take (8 + 16 - 8) (drop 8 c)) ≡ 16
    part c h = simp (length-take, length-drop) (omega arith)

-- ---- the whole block

-- what stands before the region, and before the last magic number
pub length_padded : (a n t f : ℕ) (page : List ℕ) → length page ≡ 256 → length ((lead_bytes a n t f ++ page) ++ many 196 0) ≡ 484
length_padded a n t f page h =
    let lead = lead_bytes a n t f in
    omega (arith, length-append (lead ++ page) (many 196 0), length-append lead page, length_lead a n t f, h, length_many 196 0)

pub length_data : (a n t f : ℕ) (page : List ℕ) (base : ℕ) (x : Digest) → length page ≡ 256
    → length (((lead_bytes a n t f ++ page) ++ many 196 0) ++ region_bytes base x) ≡ 508
length_data a n t f page base x h =
    omega (arith, length-append ((lead_bytes a n t f ++ page) ++ many 196 0) (region_bytes base x), length_padded a n t f page h, length_region base x)

pub length_block : (a n t f : ℕ) (page : List ℕ) (base : ℕ) (x : Digest) → length page ≡ 256 → length (block_bytes a n t f page base x) ≡ 512
unfolding block_bytes
length_block a n t f page base x h =
    omega (arith, length-append (((lead_bytes a n t f ++ page) ++ many 196 0) ++ region_bytes base x) (le32 0x0AB16F30), length_data a n t f page base x h, length_low 4 0x0AB16F30)

pub block_put : (b : List ℕ) (a n t f : ℕ) (page : List ℕ) (base : ℕ) (x : Digest) {c d e g h ys zs rs : List ℕ} → length b ≡ 512 → length page ≡ 256
    → c ≡ over b 0 (lead_bytes a n t f)
    → ys ≡ page → d ≡ put_mid 32 (32 + 256 - 32) c ys
    → zs ≡ many (length (take (288 + 196 - 288) (drop 288 d))) 0 → e ≡ put_mid 288 (288 + 196 - 288) d zs
    → rs ≡ region_bytes base x → g ≡ put_mid 484 (484 + 24 - 484) e rs
    → h ≡ put_at g 508 0x0AB16F30 → h ≡ block_bytes a n t f page base x
unfolding block_bytes
block_put b a n t f page base x {c} {d} {e} {g} {h} {ys} {zs} {rs} hb hp hc hy hd hz he hr hg hh =
    let lead = lead_bytes a n t f in
    let l = length_lead a n t f in
    let lc : length c ≡ 512 = ap length hc ∙ length_over b 0 lead (omega (arith, l)) ∙ hb in
    let d2 : d ≡ over b 0 (lead ++ page) =
    hd ∙ part_over 32 256 c page ys hp (omega arith) hy ∙ rw hc (piece b lead page 32 256 l hp (omega arith)) in
    let m : length (lead ++ page) ≡ 288 = omega (arith, length-append lead page, l, hp) in
    let ld : length d ≡ 512 = ap length d2 ∙ length_over b 0 (lead ++ page) (omega (arith, m)) ∙ hb in
    let z : zs ≡ many 196 0 = hz ∙ ap (λ (k : ℕ). many k 0) (part d ld) in
    let pad = (lead ++ page) ++ many 196 0 in
    let e2 : e ≡ over b 0 pad =
    he ∙ rw (z, d2) (put_over 288 196 _ (many 196 0) (length_many 196 0) ∙ piece b (lead ++ page) (many 196 0) 288 196 m (length_many 196 0) (omega arith)) in
    let q = length_padded a n t f page hp in
    let r = length_region base x in
    let g2 : g ≡ over b 0 (pad ++ region_bytes base x) =
    hg ∙ rw (hr, e2) (put_over 484 24 _ (region_bytes base x) r ∙ piece b pad (region_bytes base x) 484 24 q r (omega arith)) in
    let w = length_data a n t f page base x hp in
    let last = (pad ++ region_bytes base x) ++ le32 0x0AB16F30 in
    hh
    ∙ rw g2
    (put_after b (pad ++ region_bytes base x) 508 0x0AB16F30 w (omega arith)
    ∙ over_whole b last (length-append (pad ++ region_bytes base x) (le32 0x0AB16F30) ∙ rw (w, length_low 4 0x0AB16F30) (sym hb)))
  where
    part : (d : List ℕ) → length d ≡ 512 → length (take (288 + 196 - 288) (drop 288 d)) ≡ 196
    part d h = simp (length-take, length-drop) (omega arith)
