-- Each block of a file that is made is read as what it was made of, and the output after the last stays. Assumes nothing.
use Prim.Native.Nat.{ℕ, ◌+◌, ◌*◌, ◌<◌, ◌≤◌, ◌^◌}
use mathlib.Core.Path.{◌≡◌, ap, ◌∙◌, subst}
use mathlib.Core.List.{List, [], ◌++◌, append_assoc}
use native.Mathlib.Omega.{arith}
use lib.ListN.{length, take, drop, length-append, length-drop}
use lib.Seq.{take_at, drop_at, take-append-le, drop-append-le}
use borrow.Author.Tests.{eq-eqb}
use Rattle.memory.specs.Many.{many}
use Rattle.memory.proofs.fill.Laws.{length_many}
use Rattle.laws.specs.Bytes.{low_first}
use Rattle.laws.specs.Over.{over}
use Rattle.uf2_block.specs.Block.{field_at, is_block}
use Rattle.uf2_block.specs.Write.{le32}
use Rattle.uf2_block.proofs.WriteLaws.{field_le32}
use Rattle.std.specs.Prelude.{Ok}
use Rattle.uf2_make.specs.Uf2file.{page_of, file_bytes, make_of}
use Rattle.uf2_make.specs.Claims.{Reads, BlocksReadBack, RestStays}
use Rattle.uf2_make.proofs.checks.Checks.{Right, made_right}
use Rattle.uf2_make.specs.Uf2block.{lead_bytes, block_bytes}
use Rattle.uf2_make.proofs.page_block.Blocks.{length_lead, length_data, length_block}
use Rattle.uf2_make.proofs.Files.{length_page, block_at_lem, length_file, part_file}

-- ---- one block

-- the fields before the data, whatever comes after them
module _ (a n t f : ℕ) (s : List ℕ) where
  at0 : field_at (lead_bytes a n t f ++ s) 0 ≡ 0x0A324655
  unfolding low_first lead_bytes
  at0 = field_le32 [] 0x0A324655 (le32 0x9E5D5157 ++ (le32 0x2000 ++ (le32 a ++ (le32 256 ++ (le32 n ++ (le32 t ++ (le32 f ++ s))))))) (omega arith)

  at4 : field_at (lead_bytes a n t f ++ s) 4 ≡ 0x9E5D5157
  unfolding low_first lead_bytes
  at4 = field_le32 (le32 0x0A324655) 0x9E5D5157 (le32 0x2000 ++ (le32 a ++ (le32 256 ++ (le32 n ++ (le32 t ++ (le32 f ++ s)))))) (omega arith)

  at8 : field_at (lead_bytes a n t f ++ s) 8 ≡ 0x2000
  unfolding low_first lead_bytes
  at8 = field_le32 (le32 0x0A324655 ++ le32 0x9E5D5157) 0x2000 (le32 a ++ (le32 256 ++ (le32 n ++ (le32 t ++ (le32 f ++ s))))) (omega arith)

  at12 : a < 2 ^ 32 → field_at (lead_bytes a n t f ++ s) 12 ≡ a
  unfolding low_first lead_bytes
  at12 h = field_le32 ((le32 0x0A324655 ++ le32 0x9E5D5157) ++ le32 0x2000) a (le32 256 ++ (le32 n ++ (le32 t ++ (le32 f ++ s)))) h

  at16 : field_at (lead_bytes a n t f ++ s) 16 ≡ 256
  unfolding low_first lead_bytes
  at16 = field_le32 (((le32 0x0A324655 ++ le32 0x9E5D5157) ++ le32 0x2000) ++ le32 a) 256 (le32 n ++ (le32 t ++ (le32 f ++ s))) (omega arith)

  at20 : n < 2 ^ 32 → field_at (lead_bytes a n t f ++ s) 20 ≡ n
  unfolding low_first lead_bytes
  at20 h = field_le32 ((((le32 0x0A324655 ++ le32 0x9E5D5157) ++ le32 0x2000) ++ le32 a) ++ le32 256) n (le32 t ++ (le32 f ++ s)) h

  at24 : t < 2 ^ 32 → field_at (lead_bytes a n t f ++ s) 24 ≡ t
  unfolding low_first lead_bytes
  at24 h = field_le32 (((((le32 0x0A324655 ++ le32 0x9E5D5157) ++ le32 0x2000) ++ le32 a) ++ le32 256) ++ le32 n) t (le32 f ++ s) h

  at28 : f < 2 ^ 32 → field_at (lead_bytes a n t f ++ s) 28 ≡ f
  unfolding low_first lead_bytes
  at28 h = field_le32 ((((((le32 0x0A324655 ++ le32 0x9E5D5157) ++ le32 0x2000) ++ le32 a) ++ le32 256) ++ le32 n) ++ le32 t) f s h

module _ (a n t f : ℕ) (page : List ℕ) (size : length page ≡ 256) where
  -- the lead, then the data and the last magic number
  parts : block_bytes a n t f page ≡ lead_bytes a n t f ++ ((page ++ many 220 0) ++ le32 0x0AB16F30)
  unfolding block_bytes
  parts = rw (append_assoc (lead_bytes a n t f) page (many 220 0)) (append_assoc (lead_bytes a n t f) (page ++ many 220 0) (le32 0x0AB16F30))

  at508 : field_at (block_bytes a n t f page) 508 ≡ 0x0AB16F30
  unfolding block_bytes low_first
  at508 =
      let p = (lead_bytes a n t f ++ page) ++ many 220 0 in
      subst (λ (k : ℕ). field_at (p ++ le32 0x0AB16F30) k ≡ 0x0AB16F30) (length_data a n t f page size) (field_le32 p 0x0AB16F30 [] (omega arith))

  in_lead : (k x : ℕ) → field_at (lead_bytes a n t f ++ ((page ++ many 220 0) ++ le32 0x0AB16F30)) k ≡ x → field_at (block_bytes a n t f page) k ≡ x
  in_lead k x h = rw parts h

  block_reads : a < 2 ^ 32 → n < 2 ^ 32 → t < 2 ^ 32 → f < 2 ^ 32 → Reads (block_bytes a n t f page) a n t f page
  unfolding is_block
  block_reads ha hn ht hf =
      let s = (page ++ many 220 0) ++ le32 0x0AB16F30 in
      let first = in_lead 0 0x0A324655 (at0 a n t f s) in
      let second = in_lead 4 0x9E5D5157 (at4 a n t f s) in
      let long : length (page ++ many 220 0) ≡ 476 = omega (arith, length-append page (many 220 0), size, length_many 220 0) in
      record {
        long = length_block a n t f page size;
        magic = rw (eq-eqb (field_at (block_bytes a n t f page) 0) 0x0A324655 first, eq-eqb (field_at (block_bytes a n t f page) 4) 0x9E5D5157 second, eq-eqb (field_at (block_bytes a n t f page) 508) 0x0AB16F30 at508);
        flags = in_lead 8 0x2000 (at8 a n t f s);
        address_back = in_lead 12 a (at12 a n t f s ha);
        size_back = in_lead 16 256 (at16 a n t f s);
        number_back = in_lead 20 n (at20 a n t f s hn);
        total_back = in_lead 24 t (at24 a n t f s ht);
        family_back = in_lead 28 f (at28 a n t f s hf);
        page_back = ap (λ (l : List ℕ). take 476 (drop 32 l)) parts ∙ ap (take 476) (drop_at (lead_bytes a n t f) s 32 (length_lead a n t f)) ∙ take_at (page ++ many 220 0) (le32 0x0AB16F30) 476 long;
      }

-- ---- the output

over_first : (d s : List ℕ) → over d 0 s ≡ s ++ drop (length s) d
unfolding over
over_first d s = let e : 0 + length s ≡ length s = omega arith in rw e

module _ (image out : List ℕ) (family start n : ℕ) (made : (make_of image family start out).answer ≡ Ok n) where
  right : Right (length image) start (length out) n
  unfolding make_of
  right = made_right (length image) start (length out) n made

  written : (make_of image family start out).output ≡ file_bytes image family start ++ drop (512 * n) out
  unfolding make_of
  written =
      let file = file_bytes image family start in
      rw made (over_first out file ∙ ap (λ (k : ℕ). file ++ drop k out) (length_file image family start n right.whole))

  -- block k of the output is block k of the file
  pub output_block : (k : ℕ) → k < n → take 512 (drop (512 * k) (make_of image family start out).output) ≡ block_bytes (start + 256 * k) k n family (page_of image k)
  output_block k l =
      let file = file_bytes image family start in
      let long : length file ≡ 512 * n = length_file image family start n right.whole in
      let rest : 512 ≤ length (drop (512 * k) file) = rw (length-drop (512 * k) file) (omega arith) in
      ap (λ (b : List ℕ). take 512 (drop (512 * k) b)) written
      ∙ ap (take 512) (drop-append-le (512 * k) file (drop (512 * n) out) (omega arith))
      ∙ take-append-le 512 (drop (512 * k) file) (drop (512 * n) out) rest
      ∙ part_file image family start n right.whole k l
      ∙ block_at_lem image family start n right.whole k

pub blocks_read_back : BlocksReadBack
blocks_read_back image out family start n narrow made k l =
    let r = right image out family start n made in
    let window = r.window in
    rw (output_block image out family start n made k l)
    (block_reads (start + 256 * k) k n family (page_of image k) (length_page image family start n r.whole k l) (omega arith) (omega arith) (omega arith) narrow)

pub rest_stays : RestStays
rest_stays image out family start n made =
    let r = right image out family start n made in
    ap (drop (512 * n)) (written image out family start n made)
    ∙ drop_at (file_bytes image family start) (drop (512 * n) out) (512 * n) (length_file image family start n r.whole)
