-- The bytes of a file that is made are the blocks of one that is valid. Assumes nothing.
use Prim.Native.Nat.{ℕ, ◌+◌, ◌-◌, ◌*◌, ◌/◌, ◌<◌, ◌≤◌}
use mathlib.Core.Path.{◌≡◌, sym, ap, ◌∙◌}
use mathlib.Core.List.{List}
use native.Mathlib.Nat.{min-le_right}
use native.Mathlib.Omega.{arith}
use lib.ListN.{length, take, drop, get_or, length-take, length-drop}
use lib.Seq.{length-take-le, get_or-take, get_or-drop, ext_get_or}
use Rattle.partitions.specs.declared.Settings.{Settings}
use Rattle.uf2_block.specs.Block.{field_at}
use Rattle.arrival.specs.Arrive.{World, lengths_of}
use Rattle.demand.specs.Demand.{File, ValidFile, Plain}
use Rattle.uf2_make.specs.Uf2file.{page_of, make_of}
use Rattle.uf2_make.specs.Claims.{Reads}
use Rattle.uf2_make.proofs.ReadBack.{blocks_read_back}
use Rattle.file_claims.specs.Delivery.{made_file, IsMade, Deliverable, MadeFileIsValid}
use Rattle.file_claims.proofs.Delivery.{made_file_is_valid}
use Rattle.file_check.specs.Check.{piece_at, field_in}
use Rattle.file_check.specs.Valid.{Pieces, PlainIsValid}
use Rattle.file_check.proofs.Theorems.{plain_is_valid}
use Rattle.file_claims.specs.MadeCheck.{made_bytes, MadeIsFoundValid}

-- a part of the first so many elements is that part of all
part : (l : List ℕ) (n i : ℕ) → i < n → n * 512 ≤ length l → take 512 (drop (i * 512) (take (n * 512) l)) ≡ take 512 (drop (512 * i) l)
part l n i h r =
    ext_get_or 0 (take 512 (drop (i * 512) (take (n * 512) l))) (take 512 (drop (512 * i) l)) (a ∙ sym b)
    (λ j g.
    let hj : j < 512 = omega (arith, a) in
    get_or-take 512 (drop (i * 512) (take (n * 512) l)) j 0 hj
    ∙ get_or-drop (i * 512) (take (n * 512) l) j 0
    ∙ get_or-take (n * 512) l (i * 512 + j) 0 (omega arith)
    ∙ ap (λ (k : ℕ). get_or l k 0) (omega arith)
    ∙ sym (get_or-take 512 (drop (512 * i) l) j 0 hj ∙ get_or-drop (512 * i) l j 0))
  where
    a : length (take 512 (drop (i * 512) (take (n * 512) l))) ≡ 512
    a = length-take-le 512 (drop (i * 512) (take (n * 512) l)) (omega (arith, length-drop (i * 512) (take (n * 512) l), length-take-le (n * 512) l r))

    b : length (take 512 (drop (512 * i) l)) ≡ 512
    b = length-take-le 512 (drop (512 * i) l) (omega (arith, length-drop (512 * i) l))

module _ (s : Settings) (w : World) (image out : List ℕ) (family start at size : ℕ) (made : IsMade image family start out)
    (D : Deliverable s w image family start at size) where
  abbrev n : ℕ
  n = length image / 256

  abbrev F : File
  F = made_file image family start out

  abbrev f : List ℕ
  f = made_bytes image family start out

  abbrev output : List ℕ
  output = (make_of image family start out).output

  reads : (k : ℕ) → k < n → Reads (F.block k) (start + 256 * k) k n family (page_of image k)
  reads k h = blocks_read_back image out family start n D.narrow made k h

  valid : ValidFile s w F
  valid = unfold MadeFileIsValid in made_file_is_valid s w image out family start at size made D

  -- no block names a region: flag 0x2000 alone is set
  plain : Plain s w F
  plain k h = rw (reads k h).flags

  -- the last block is there whole
  room : n * 512 ≤ length output
  room =
      let some = valid.some in
      let long = (reads (n - 1) (omega arith)).long in
      omega (arith, long, length-take 512 (drop (512 * (n - 1)) output), min-le_right 512 (length (drop (512 * (n - 1)) output)), length-drop (512 * (n - 1)) output)

  piece_is : (i : ℕ) → i < n → piece_at f i ≡ F.block i
  unfolding piece_at
  piece_is i h = part output n i h room

  number_is : (i : ℕ) → i < n → field_in f i 20 ≡ i
  number_is i h = ap (λ (a : List ℕ). field_at a 20) (piece_is i h) ∙ (reads i h).number_back

  pieces : Pieces f F
  pieces =
      record {
        count = length-take-le (n * 512) output room;
        below = λ i h. omega (arith, number_is i h);
        each = λ i h. ap F.block (number_is i h) ∙ sym (piece_is i h);
        once = λ i j hi hj e. sym (number_is i hi) ∙ e ∙ number_is j hj;
      }

pub made_is_found_valid : MadeIsFoundValid
unfolding MadeIsFoundValid
made_is_found_valid s w image out family start at size made D =
    (unfold PlainIsValid in plain_is_valid s w (made_bytes image family start out) (made_file image family start out) D.idle
    (valid s w image out family start at size made D) (pieces s w image out family start at size made D) (plain s w image out family start at size made D))
