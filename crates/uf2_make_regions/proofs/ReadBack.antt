-- Each block of a file with regions is read as what it was made of, and the output after the last stays. Assumes nothing.
use Prim.Native.Nat.{ℕ, ◌+◌, ◌-◌, ◌*◌, ◌/◌, ◌%◌, ◌<◌, ◌≤◌, ◌^◌}
use mathlib.Core.Path.{◌≡◌, refl, sym, ap, ◌∙◌, subst}
use mathlib.Core.List.{List, [], ◌++◌, append_assoc}
use native.Mathlib.Omega.{arith}
use lib.ListN.{length, take, drop, length-append, length-drop}
use lib.Seq.{take_at, drop_at, drop-drop, take-append-le, drop-append-le}
use borrow.Author.Tests.{eq-eqb}
use Rattle.memory.specs.Many.{many}
use Rattle.memory.proofs.fill.Laws.{length_many}
use Rattle.laws.specs.Bytes.{low_first}
use Rattle.laws.specs.Over.{over}
use Rattle.laws.proofs.BytesLaws.{length_low}
use Rattle.uf2_block.specs.Block.{field_at, is_block}
use Rattle.uf2_block.specs.Write.{le32}
use Rattle.uf2_block.proofs.WriteLaws.{field_le32}
use Rattle.md5_digest.specs.Md5.{md5_of, digest_bytes}
use Rattle.md5_digest.proofs.Laws.{Words, digest_words}
use Rattle.md5_digest.specs.declared.Digest.{Digest}
use Rattle.std.specs.Prelude.{Ok}
use Rattle.uf2_make.proofs.checks.Checks.{Right, made_right}
use Rattle.uf2_make.specs.Uf2file.{page_of}
use Rattle.uf2_make.proofs.Files.{length_page}
use Rattle.uf2_make_regions.specs.Sector.{sector_start, sector_of}
use Rattle.uf2_make_regions.specs.Block.{lead_bytes, region_bytes, block_bytes}
use Rattle.uf2_make_regions.specs.File.{sector_digest, file_bytes, make_of}
use Rattle.uf2_make_regions.specs.Claims.{FinalSector, words_in, Reads, BlocksReadBack, RestStays}
use Rattle.uf2_make_regions.proofs.Files.{block_at_lem, length_file, part_file}
use Rattle.uf2_make_regions.proofs.named.Laws.{length_lead, length_padded, length_data, length_block, length_digest}
use Rattle.uf2_make_regions.proofs.sector.Laws.{final, one_content}

-- ---- the fields of one block

-- those before the data, whatever comes after them
module _ (a n t f : ℕ) (s : List ℕ) where
  at0 : field_at (lead_bytes a n t f ++ s) 0 ≡ 0x0A324655
  unfolding low_first lead_bytes
  at0 = field_le32 [] 0x0A324655 (le32 0x9E5D5157 ++ (le32 0x6000 ++ (le32 a ++ (le32 256 ++ (le32 n ++ (le32 t ++ (le32 f ++ s))))))) (omega arith)

  at4 : field_at (lead_bytes a n t f ++ s) 4 ≡ 0x9E5D5157
  unfolding low_first lead_bytes
  at4 = field_le32 (le32 0x0A324655) 0x9E5D5157 (le32 0x6000 ++ (le32 a ++ (le32 256 ++ (le32 n ++ (le32 t ++ (le32 f ++ s)))))) (omega arith)

  at8 : field_at (lead_bytes a n t f ++ s) 8 ≡ 0x6000
  unfolding low_first lead_bytes
  at8 = field_le32 (le32 0x0A324655 ++ le32 0x9E5D5157) 0x6000 (le32 a ++ (le32 256 ++ (le32 n ++ (le32 t ++ (le32 f ++ s))))) (omega arith)

  at12 : a < 2 ^ 32 → field_at (lead_bytes a n t f ++ s) 12 ≡ a
  unfolding low_first lead_bytes
  at12 h = field_le32 ((le32 0x0A324655 ++ le32 0x9E5D5157) ++ le32 0x6000) a (le32 256 ++ (le32 n ++ (le32 t ++ (le32 f ++ s)))) h

  at16 : field_at (lead_bytes a n t f ++ s) 16 ≡ 256
  unfolding low_first lead_bytes
  at16 = field_le32 (((le32 0x0A324655 ++ le32 0x9E5D5157) ++ le32 0x6000) ++ le32 a) 256 (le32 n ++ (le32 t ++ (le32 f ++ s))) (omega arith)

  at20 : n < 2 ^ 32 → field_at (lead_bytes a n t f ++ s) 20 ≡ n
  unfolding low_first lead_bytes
  at20 h = field_le32 ((((le32 0x0A324655 ++ le32 0x9E5D5157) ++ le32 0x6000) ++ le32 a) ++ le32 256) n (le32 t ++ (le32 f ++ s)) h

  at24 : t < 2 ^ 32 → field_at (lead_bytes a n t f ++ s) 24 ≡ t
  unfolding low_first lead_bytes
  at24 h = field_le32 (((((le32 0x0A324655 ++ le32 0x9E5D5157) ++ le32 0x6000) ++ le32 a) ++ le32 256) ++ le32 n) t (le32 f ++ s) h

  at28 : f < 2 ^ 32 → field_at (lead_bytes a n t f ++ s) 28 ≡ f
  unfolding low_first lead_bytes
  at28 h = field_le32 ((((((le32 0x0A324655 ++ le32 0x9E5D5157) ++ le32 0x6000) ++ le32 a) ++ le32 256) ++ le32 n) ++ le32 t) f s h

-- a field after so many bytes
field_after : (p : List ℕ) (x : ℕ) (q : List ℕ) (k : ℕ) → length p ≡ k → x < 2 ^ 32 → field_at (p ++ (le32 x ++ q)) k ≡ x
unfolding low_first
field_after p x q k e h = subst (λ (i : ℕ). field_at (p ++ (le32 x ++ q)) i ≡ x) e (field_le32 p x q h)

module _ (a n t f : ℕ) (page : List ℕ) (base : ℕ) (x : Digest) (size : length page ≡ 256) where
  abbrev b : List ℕ
  b = block_bytes a n t f page base x

  abbrev padded : List ℕ
  padded = (lead_bytes a n t f ++ page) ++ many 196 0

  abbrev rest : List ℕ
  rest = (many 196 0 ++ region_bytes base x) ++ le32 0x0AB16F30

  -- the lead, the page, and what comes after them
  by_lead : b ≡ lead_bytes a n t f ++ (page ++ rest)
  unfolding block_bytes
  by_lead = simp append_assoc

  by_page : b ≡ (lead_bytes a n t f ++ page) ++ (many 196 0 ++ (region_bytes base x ++ le32 0x0AB16F30))
  unfolding block_bytes
  by_page = simp append_assoc

  by_start : b ≡ padded ++ (le32 base ++ (le32 4096 ++ (digest_bytes x ++ le32 0x0AB16F30)))
  unfolding block_bytes region_bytes
  by_start = simp append_assoc

  by_length : b ≡ (padded ++ le32 base) ++ (le32 4096 ++ (digest_bytes x ++ le32 0x0AB16F30))
  unfolding block_bytes region_bytes
  by_length = simp append_assoc

  by_digest : b ≡ ((padded ++ le32 base) ++ le32 4096) ++ (digest_bytes x ++ le32 0x0AB16F30)
  unfolding block_bytes region_bytes
  by_digest = simp append_assoc

  by_last : b ≡ (padded ++ region_bytes base x) ++ (le32 0x0AB16F30 ++ [])
  unfolding block_bytes low_first
  by_last = refl

  pub in_lead : (k y : ℕ) → field_at (lead_bytes a n t f ++ (page ++ rest)) k ≡ y → field_at b k ≡ y
  in_lead k y h = rw by_lead h

  pub at508 : field_at b 508 ≡ 0x0AB16F30
  at508 = rw by_last (field_after (padded ++ region_bytes base x) 0x0AB16F30 [] 508 (length_data a n t f page base x size) (omega arith))

  pub at484 : base < 2 ^ 32 → field_at b 484 ≡ base
  at484 h = rw by_start (field_after padded base (le32 4096 ++ (digest_bytes x ++ le32 0x0AB16F30)) 484 (length_padded a n t f page size) h)

  to488 : length (padded ++ le32 base) ≡ 488
  to488 = omega (arith, length-append padded (le32 base), length_padded a n t f page size, length_low 4 base)

  pub at488 : field_at b 488 ≡ 4096
  at488 = rw by_length (field_after (padded ++ le32 base) 4096 (digest_bytes x ++ le32 0x0AB16F30) 488 to488 (omega arith))

  pub digest_at : take 16 (drop 492 b) ≡ digest_bytes x
  digest_at =
      let p = (padded ++ le32 base) ++ le32 4096 in
      let l : length p ≡ 492 = omega (arith, length-append (padded ++ le32 base) (le32 4096), to488, length_low 4 4096) in
      ap (λ (z : List ℕ). take 16 (drop 492 z)) by_digest
      ∙ ap (take 16) (drop_at p (digest_bytes x ++ le32 0x0AB16F30) 492 l)
      ∙ take_at (digest_bytes x) (le32 0x0AB16F30) 16 (length_digest x)

  -- the words of the digest, of 32 bits each
  pub words_at : Words x → words_in b ≡ x
  unfolding digest_bytes
  words_at h =
      let p = (padded ++ le32 base) ++ le32 4096 in
      let l : length p ≡ 492 = omega (arith, length-append (padded ++ le32 base) (le32 4096), to488, length_low 4 4096) in
      let pa = p ++ le32 x.a in
      let la : length pa ≡ 496 = omega (arith, length-append p (le32 x.a), l, length_low 4 x.a) in
      let pb = pa ++ le32 x.b in
      let lb : length pb ≡ 500 = omega (arith, length-append pa (le32 x.b), la, length_low 4 x.b) in
      let pc = pb ++ le32 x.c in
      let lc : length pc ≡ 504 = omega (arith, length-append pb (le32 x.c), lb, length_low 4 x.c) in
      let last = le32 0x0AB16F30 in
      let ea : b ≡ p ++ (le32 x.a ++ (le32 x.b ++ (le32 x.c ++ (le32 x.d ++ last)))) = by_digest ∙ simp append_assoc in
      let eb : b ≡ pa ++ (le32 x.b ++ (le32 x.c ++ (le32 x.d ++ last))) = by_digest ∙ simp append_assoc in
      let ec : b ≡ pb ++ (le32 x.c ++ (le32 x.d ++ last)) = by_digest ∙ simp append_assoc in
      let ed : b ≡ pc ++ (le32 x.d ++ last) = by_digest ∙ simp append_assoc in
      let fa : field_at b 492 ≡ x.a = rw ea (field_after p x.a _ 492 l h.a) in
      let fb : field_at b 496 ≡ x.b = rw eb (field_after pa x.b _ 496 la h.b) in
      let fc : field_at b 500 ≡ x.c = rw ec (field_after pb x.c _ 500 lb h.c) in
      let fd : field_at b 504 ≡ x.d = rw ed (field_after pc x.d last 504 lc h.d) in
      λ i. record { a = fa i; b = fb i; c = fc i; d = fd i }

  pub page_at : take 256 (drop 32 b) ≡ page
  page_at =
      ap (λ (z : List ℕ). take 256 (drop 32 z)) by_lead
      ∙ ap (take 256) (drop_at (lead_bytes a n t f) (page ++ rest) 32 (length_lead a n t f))
      ∙ take_at page rest 256 size

  pub padding_at : take 196 (drop 288 b) ≡ many 196 0
  padding_at =
      let p = lead_bytes a n t f ++ page in
      let q = region_bytes base x ++ le32 0x0AB16F30 in
      let l : length p ≡ 288 = omega (arith, length-append (lead_bytes a n t f) page, length_lead a n t f, size) in
      ap (λ (z : List ℕ). take 196 (drop 288 z)) by_page
      ∙ ap (take 196) (drop_at p (many 196 0 ++ q) 288 l)
      ∙ take_at (many 196 0) q 196 (length_many 196 0)

-- ---- block k of an image

module _ (image : List ℕ) (family start n room : ℕ) (r : Right (length image) start room n) (narrow : family < 2 ^ 32) (k : ℕ) (l : k < n) where
  abbrev a : ℕ
  a = start + 256 * k

  abbrev base : ℕ
  base = sector_start a

  abbrev x : Digest
  x = sector_digest image start base

  abbrev made : List ℕ
  made = block_bytes a k n family (page_of image k) base x

  size : length (page_of image k) ≡ 256
  size = length_page image family start n r.whole k l

  block_reads : Reads image family start n k made
  unfolding is_block
  block_reads =
      let page = page_of image k in
      let window = r.window in
      let low = r.low in
      let aligned = r.aligned in
      let s = page ++ ((many 196 0 ++ region_bytes base x) ++ le32 0x0AB16F30) in
      let lead = in_lead a k n family page base x size in
      let first = lead 0 0x0A324655 (at0 a k n family s) in
      let second = lead 4 0x9E5D5157 (at4 a k n family s) in
      let here = lead 12 a (at12 a k n family s (omega arith)) in
      let region = at484 a k n family page base x size (omega arith) in
      record {
        long = length_block a k n family page base x size;
        magic = rw (eq-eqb (field_at made 0) 0x0A324655 first, eq-eqb (field_at made 4) 0x9E5D5157 second, eq-eqb (field_at made 508) 0x0AB16F30 (at508 a k n family page base x size));
        flags = lead 8 0x6000 (at8 a k n family s);
        address_back = here;
        size_back = lead 16 256 (at16 a k n family s);
        number_back = lead 20 k (at20 a k n family s (omega arith));
        total_back = lead 24 n (at24 a k n family s (omega arith));
        family_back = lead 28 family (at28 a k n family s narrow);
        page_back = page_at a k n family page base x size;
        padding = padding_at a k n family page base x size;
        sector = omega (arith, region);
        window = omega (arith, region);
        before = omega (arith, region, here);
        behind = omega (arith, region, here);
        one_sector = at488 a k n family page base x size;
        digest = λ c h.
            let there : FinalSector image start base c = subst (λ (y : ℕ). FinalSector image start y c) region h in
            let same : sector_of image start base ≡ c = one_content image start base (sector_of image start base) c (final image start base (omega arith)) there in
            digest_at a k n family page base x size ∙ ap (λ (z : List ℕ). digest_bytes (md5_of z)) same;
        words = λ c h.
            let there : FinalSector image start base c = subst (λ (y : ℕ). FinalSector image start y c) region h in
            let same : sector_of image start base ≡ c = one_content image start base (sector_of image start base) c (final image start base (omega arith)) there in
            words_at a k n family page base x size (digest_words (sector_of image start base)) ∙ ap md5_of same;
      }

-- ---- the output

over_first : (d s : List ℕ) → over d 0 s ≡ s ++ drop (length s) d
unfolding over
over_first d s = let e : 0 + length s ≡ length s = omega arith in rw e

module _ (image out : List ℕ) (family start n : ℕ) (made : (make_of image family start out).answer ≡ Ok n) where
  right : Right (length image) start (length out) n
  unfolding make_of
  right = made_right (length image) start (length out) n made

  written : (make_of image family start out).output ≡ file_bytes image family start ++ drop (512 * n) out
  unfolding make_of
  written =
      let file = file_bytes image family start in
      rw made (over_first out file ∙ ap (λ (k : ℕ). file ++ drop k out) (length_file image family start n right.whole))

  -- block k of the output is block k of the file
  pub output_block : (k : ℕ) → k < n → take 512 (drop (512 * k) (make_of image family start out).output)
      ≡ block_bytes (start + 256 * k) k n family (page_of image k) (sector_start (start + 256 * k)) (sector_digest image start (sector_start (start + 256 * k)))
  output_block k l =
      let file = file_bytes image family start in
      let long : length file ≡ 512 * n = length_file image family start n right.whole in
      let rest : 512 ≤ length (drop (512 * k) file) = rw (length-drop (512 * k) file) (omega arith) in
      ap (λ (b : List ℕ). take 512 (drop (512 * k) b)) written
      ∙ ap (take 512) (drop-append-le (512 * k) file (drop (512 * n) out) (omega arith))
      ∙ take-append-le 512 (drop (512 * k) file) (drop (512 * n) out) rest
      ∙ part_file image family start n right.whole k l
      ∙ block_at_lem image family start n right.whole k

pub blocks_read_back : BlocksReadBack
blocks_read_back image out family start n narrow made k l =
    rw (output_block image out family start n made k l)
    (block_reads image family start n (length out) (right image out family start n made) narrow k l)

pub rest_stays : RestStays
rest_stays image out family start n made =
    let r = right image out family start n made in
    ap (drop (512 * n)) (written image out family start n made)
    ∙ drop_at (file_bytes image family start) (drop (512 * n) out) (512 * n) (length_file image family start n r.whole)
