-- A sector's final bytes: as the code places them, and byte by byte. Assumes nothing.
use Prim.Native.Nat.{ℕ, ◌+◌, ◌-◌, ◌<◌, ◌≤◌, min}
use mathlib.Core.Path.{◌≡◌, refl, sym, ap, ◌∙◌}
use mathlib.Core.List.{List, ◌++◌}
use native.Mathlib.Omega.{arith}
use Rattle.std.proofs.lemmas.List.{take_min}
use lib.Dec.{leb}
use lib.ListN.{length, get_or, take, drop, replicate, length-take, length-drop}
use lib.Seq.{take_all, ext_get_or, get_or-take, get_or-drop, length-take-le}
use borrow.Author.Tests.{leb-true, leb-false}
use borrow.Rule.Slice.PartMut.{put_mid}
use Rattle.memory.specs.Many.{many}
use Rattle.memory.proofs.fill.Laws.{length_many, get_d_many}
use Rattle.laws.specs.Over.{over}
use Rattle.laws.proofs.Tests.{split}
use Rattle.laws.proofs.OverLaws.{length_over, over_inside, over_before, over_after, part_over}
use Rattle.md5_digest.specs.Md5.{md5_of}
use Rattle.md5_digest.specs.declared.Digest.{Digest}
use Rattle.uf2_make_regions.specs.Sector.{sector_of}
use Rattle.uf2_make_regions.specs.File.{sector_digest}
use Rattle.uf2_make_regions.specs.Claims.{FinalSector}

pub blank : replicate 4096 255 ≡ many 4096 255
unfolding many
blank = refl

-- ---- the image's part, copied into a blank sector

module _ (image : List ℕ) (at from count : ℕ) (room : at + count ≤ 4096) (inside : from + count ≤ length image) where
  pub placed_over : {d ys : List ℕ} → d ≡ many 4096 255
      → ys ≡ take (from + count - from) (drop from image)
      → put_mid at (at + count - at) d ys ≡ over (many 4096 255) at (take count (drop from image))
  placed_over {d} {ys} hd hy =
      let p = take (from + count - from) (drop from image) in
      let n : from + count - from ≡ count = omega arith in
      let long : length p ≡ count = simp (length-take, length-drop) (omega arith) in
      let size : length d ≡ 4096 = ap length hd ∙ length_many 4096 255 in
      part_over at count d p ys long (omega arith) hy ∙ rw (hd, n) refl

  pub placed_long : {d ys : List ℕ} → d ≡ many 4096 255
      → ys ≡ take (from + count - from) (drop from image)
      → length (put_mid at (at + count - at) d ys) ≡ 4096
  placed_long hd hy =
      let fits : at + length (take count (drop from image)) ≤ length (many 4096 255) =
      omega (arith, length_many 4096 255, length-take-le count (drop from image) (omega (arith, length-drop from image))) in
      ap length (placed_over hd hy) ∙ length_over (many 4096 255) at (take count (drop from image)) fits ∙ length_many 4096 255

-- ---- the part that the image has of it

module _ (image : List ℕ) (start base : ℕ) {at from : ℕ} (ha : at ≡ start - base) (hf : from ≡ base - start) {x : Digest} where
  -- as much as there is room for, or all that is left
  pub by_least : {n : ℕ} → n ≡ min (4096 - at) (length image - from) → x ≡ md5_of (over (many 4096 255) at (take n (drop from image))) → x ≡ sector_digest image start base
  unfolding sector_of
  by_least {n} h e =
      let m = length-drop from image in
      let same : take n (drop from image) ≡ take (4096 - at) (drop from image) =
      rw (h, ← m) (take_min (4096 - at) (drop from image)) in
      e ∙ ap (λ (p : List ℕ). md5_of (over (many 4096 255) at p)) same ∙ rw (ha, hf) refl

-- ---- byte by byte

module _ (image : List ℕ) (start base : ℕ) where
  abbrev at : ℕ
  at = start - base

  abbrev from : ℕ
  from = base - start

  abbrev part : List ℕ
  part = take (4096 - at) (drop from image)

  module _ (near : start ≤ base + 4096) where
    fits : at + length part ≤ length (many 4096 255)
    fits = rw (length_many 4096 255, length-take (4096 - at) (drop from image)) (omega arith)

    pub length_sector : length (sector_of image start base) ≡ 4096
    unfolding sector_of
    length_sector = length_over (many 4096 255) at part fits ∙ length_many 4096 255

    -- where the image's part ends
    part-size : (j : ℕ) → j < 4096 - at → from + j < length image → j < length part
    part-size j h l = rw (length-take (4096 - at) (drop from image), length-drop from image) (omega arith)

    part_none : (j : ℕ) → length image ≤ from + j → length part ≤ j
    part_none j l = rw (length-take (4096 - at) (drop from image), length-drop from image) (omega arith)

    pub final : FinalSector image start base (sector_of image start base)
    unfolding sector_of
    final =
        record {
          long = unfold sector_of in length_sector;
          pages = λ j h s e.
              let i = j - at in
              let hi : i < 4096 - at = omega arith in
              let p : i < length part = part-size i hi (omega arith) in
              let there : from + i ≡ base + j - start = omega arith in
              over_inside (many 4096 255) at part fits j (omega arith) (omega arith)
              ∙ get_or-take (4096 - at) (drop from image) i 0 hi
              ∙ get_or-drop from image i 0
              ∙ ap (λ (k : ℕ). get_or image k 0) there;
          before = λ j h s. over_before (many 4096 255) at part fits j (omega arith) ∙ get_d_many 4096 255 j h;
          after = λ j h e.
              split (leb at j)
              (λ y. let l = leb-true at j y in over_after (many 4096 255) at part fits j (omega (arith, part_none (j - at) (omega arith))) ∙ get_d_many 4096 255 j h)
              (λ z. let l = leb-false at j z in over_before (many 4096 255) at part fits j (omega arith) ∙ get_d_many 4096 255 j h);
        }

-- the conditions leave one content
pub one_content : (image : List ℕ) (start base : ℕ) (c d : List ℕ) → FinalSector image start base c → FinalSector image start base d → c ≡ d
one_content image start base c d p q =
    ext_get_or 0 c d (p.long ∙ sym q.long)
    (λ j h.
    let l : j < 4096 = omega (arith, p.long) in
    split (leb start (base + j))
    (λ y.
    let s = leb-true start (base + j) y in
    split (leb (start + length image) (base + j))
    (λ u. let e = leb-true (start + length image) (base + j) u in p.after j l e ∙ sym (q.after j l e))
    (λ u. let e = leb-false (start + length image) (base + j) u in p.pages j l s e ∙ sym (q.pages j l s e)))
    (λ z. let s = leb-false start (base + j) z in p.before j l s ∙ sym (q.before j l s)))
