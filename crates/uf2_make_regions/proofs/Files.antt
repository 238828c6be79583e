-- The blocks of a file with regions, one after the other. Assumes nothing.
use Prim.Native.Nat.{ℕ, ◌+◌, ◌-◌, ◌*◌, ◌/◌, ◌<◌, ◌≤◌}
use mathlib.Core.Path.{◌≡◌, refl, sym, ap, ◌∙◌}
use mathlib.Core.List.{List}
use native.Mathlib.Omega.{arith}
use lib.ListN.{length, take, drop}
use borrow.Rule.Slice.PartMut.{put_mid}
use Rattle.laws.specs.Over.{over}
use Rattle.laws.specs.Rows.{rows}
use Rattle.laws.proofs.OverLaws.{length_over, put_over}
use Rattle.laws.proofs.RowsLaws.{rows_none, length_rows, part_rows, rows_over}
use Rattle.md5_digest.specs.declared.Digest.{Digest}
use Rattle.std.specs.Prelude.{Ok, Err}
use Rattle.uf2_make.specs.declared.checks.MakeError.{MakeError}
use Rattle.uf2_make.specs.Uf2check.{check_of}
use Rattle.uf2_make.specs.Uf2file.{page_of, make_call}
use Rattle.uf2_make.proofs.Files.{length_page}
use Rattle.uf2_make_regions.specs.Sector.{sector_start}
use Rattle.uf2_make_regions.specs.Block.{block_bytes}
use Rattle.uf2_make_regions.specs.File.{sector_digest, block_at, file_bytes, make_of}
use Rattle.uf2_make_regions.proofs.named.Laws.{length_block}

-- an image of n pages
module _ (image : List ℕ) (family start n : ℕ) (whole : length image ≡ 256 * n) where
  -- block k, as the code has its fields
  pub block_is : (k a base : ℕ) {x : Digest} {b : List ℕ} → a ≡ start + 256 * k → base ≡ sector_start a → x ≡ sector_digest image start base
      → b ≡ block_bytes a k n family (take (256 * k + 256 - 256 * k) (drop (256 * k) image)) base x → b ≡ block_at image family start k
  unfolding block_at
  block_is k a base ha hb hx e =
      let m : length image / 256 ≡ n = omega arith in
      let p : 256 * k + 256 - 256 * k ≡ 256 = omega arith in
      e ∙ rw (hx, hb, ha, m, p) refl

  pub block_at_lem : (k : ℕ) → block_at image family start k
      ≡ block_bytes (start + 256 * k) k n family (page_of image k) (sector_start (start + 256 * k)) (sector_digest image start (sector_start (start + 256 * k)))
  unfolding block_at
  block_at_lem k = let e : length image / 256 ≡ n = omega arith in rw e

  wide : (k : ℕ) → k < n → length (block_at image family start k) ≡ 512
  wide k l =
      let base = sector_start (start + 256 * k) in
      ap length (block_at_lem k) ∙ length_block (start + 256 * k) k n family (page_of image k) base (sector_digest image start base) (length_page image family start n whole k l)

  pub file_rows : file_bytes image family start ≡ rows (block_at image family start) n
  unfolding file_bytes
  file_rows = let e : length image / 256 ≡ n = omega arith in rw e

  pub length_file : length (file_bytes image family start) ≡ 512 * n
  length_file = rw file_rows (length_rows 512 n (block_at image family start) wide n (omega arith))

  pub part_file : (k : ℕ) → k < n → take 512 (drop (512 * k) (file_bytes image family start)) ≡ block_at image family start k
  part_file k l = rw file_rows (part_rows 512 n (block_at image family start) wide n k (omega arith) l)

  -- one block more, which a callee left in the part that it was lent
  pub blocks_more : (out₀ out ys : List ℕ) (k : ℕ) → 512 * n ≤ length out₀ → k < n
      → out ≡ over out₀ 0 (rows (block_at image family start) k) → ys ≡ block_at image family start k
      → put_mid (512 * k) (512 * k + 512 - 512 * k) out ys ≡ over out₀ 0 (rows (block_at image family start) (k + 1))
  blocks_more out₀ out ys k room l s y =
      let f = block_at image family start in
      put_over (512 * k) 512 out ys (ap length y ∙ wide k l) ∙ rw (y, s) (rows_over 512 n f wide out₀ k l (omega arith))

  pub blocks_whole : (out₀ out : List ℕ) (k : ℕ) → k ≡ n → out ≡ over out₀ 0 (rows (block_at image family start) k) → out ≡ over out₀ 0 (file_bytes image family start)
  blocks_whole out₀ out k e s = s ∙ rw (e, ← file_rows)

pub blocks_none : (image : List ℕ) (family start : ℕ) (out : List ℕ) → out ≡ over out 0 (rows (block_at image family start) 0)
unfolding over
blocks_none image family start out = rw (rows_none (block_at image family start))

-- ---- the call

module _ (image : List ℕ) (family start : ℕ) (out : List ℕ) where
  pub make_refused : {x : MakeError} → Err x ≡ check_of (length image) start (length out) → make_call (Err x) out ≡ make_of image family start out
  unfolding make_of
  make_refused e = rw (← e)

  pub make_made : (n : ℕ) {b : List ℕ} → Ok n ≡ check_of (length image) start (length out) → b ≡ over out 0 (file_bytes image family start)
      → make_call (Ok n) b ≡ make_of image family start out
  unfolding make_of
  make_made n {b} e k = rw (← e, k)
