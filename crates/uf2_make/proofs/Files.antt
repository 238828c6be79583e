-- The blocks of a file, one after the other. Assumes nothing.
use Prim.Native.Nat.{ℕ, ◌+◌, ◌-◌, ◌*◌, ◌/◌, ◌<◌, ◌≤◌}
use mathlib.Core.Path.{◌≡◌, refl, sym, ap, ◌∙◌}
use mathlib.Core.List.{List}
use native.Mathlib.Omega.{arith}
use lib.ListN.{length, take, drop, length-take, length-drop}
use borrow.Rule.Slice.PartMut.{put_mid}
use Rattle.laws.specs.Over.{over}
use Rattle.laws.specs.Rows.{rows}
use Rattle.laws.proofs.OverLaws.{length_over, put_over}
use Rattle.laws.proofs.RowsLaws.{rows_none, length_rows, part_rows, rows_over}
use Rattle.std.specs.Prelude.{Ok, Err}
use Rattle.uf2_make.specs.declared.checks.MakeError.{MakeError}
use Rattle.uf2_make.specs.Uf2check.{check_of}
use Rattle.uf2_make.specs.Uf2file.{page_of, block_at, file_bytes, make_call, make_of}
use Rattle.uf2_make.specs.Uf2block.{block_bytes, block_over}
use Rattle.uf2_make.proofs.page_block.Blocks.{length_block, one_block}

-- an image of n pages
module _ (image : List ℕ) (family start n : ℕ) (whole : length image ≡ 256 * n) where
  pub length_page : (k : ℕ) → k < n → length (page_of image k) ≡ 256
  length_page k l = simp (length-take, length-drop) (omega arith)

  pub block_at_lem : (k : ℕ) → block_at image family start k ≡ block_bytes (start + 256 * k) k n family (page_of image k)
  unfolding block_at
  block_at_lem k = let e : length image / 256 ≡ n = omega arith in rw e

  wide : (k : ℕ) → k < n → length (block_at image family start k) ≡ 512
  wide k l = ap length (block_at_lem k) ∙ length_block (start + 256 * k) k n family (page_of image k) (length_page k l)

  pub file_rows : file_bytes image family start ≡ rows (block_at image family start) n
  unfolding file_bytes
  file_rows = let e : length image / 256 ≡ n = omega arith in rw e

  pub length_file : length (file_bytes image family start) ≡ 512 * n
  length_file = rw file_rows (length_rows 512 n (block_at image family start) wide n (omega arith))

  pub part_file : (k : ℕ) → k < n → take 512 (drop (512 * k) (file_bytes image family start)) ≡ block_at image family start k
  part_file k l = rw file_rows (part_rows 512 n (block_at image family start) wide n k (omega arith) l)

  -- one block more, which a callee left in the part that it was lent; its address and its page as the code has them
  pub blocks_more : (out₀ out ys : List ℕ) (k a : ℕ) → 512 * n ≤ length out₀ → k < n → a ≡ start + 256 * k
      → length out ≡ length out₀ → out ≡ over out₀ 0 (rows (block_at image family start) k)
      → ys ≡ block_over (take (512 * k + 512 - 512 * k) (drop (512 * k) out)) a k n family (take (256 * k + 256 - 256 * k) (drop (256 * k) image))
      → put_mid (512 * k) (512 * k + 512 - 512 * k) out ys ≡ over out₀ 0 (rows (block_at image family start) (k + 1))
  blocks_more out₀ out ys k a room l ha same s hy =
      let f = block_at image family start in
      let part = take (512 * k + 512 - 512 * k) (drop (512 * k) out) in
      let page = take (256 * k + 256 - 256 * k) (drop (256 * k) image) in
      let p : length part ≡ 512 = simp (length-take, length-drop) (omega (arith, same)) in
      let q : length page ≡ 256 = simp (length-take, length-drop) (omega arith) in
      let b : block_bytes a k n family page ≡ block_over part a k n family page = one_block part a k n family page p q refl in
      let e : 256 * k + 256 - 256 * k ≡ 256 = omega arith in
      let y : ys ≡ f k = hy ∙ (sym b ∙ rw (e, ha) (sym (block_at_lem k))) in
      let long : length ys ≡ 512 = ap length y ∙ wide k l in
      put_over (512 * k) 512 out ys long ∙ rw (y, s) (rows_over 512 n f wide out₀ k l (omega arith))

  pub blocks_whole : (out₀ out : List ℕ) (k : ℕ) → k ≡ n → out ≡ over out₀ 0 (rows (block_at image family start) k) → out ≡ over out₀ 0 (file_bytes image family start)
  blocks_whole out₀ out k e s = s ∙ rw (e, ← file_rows)

pub blocks_none : (image : List ℕ) (family start : ℕ) (out : List ℕ) → out ≡ over out 0 (rows (block_at image family start) 0)
unfolding over
blocks_none image family start out = rw (rows_none (block_at image family start))

-- ---- the call

module _ (image : List ℕ) (family start : ℕ) (out : List ℕ) where
  pub make_refused : {x : MakeError} → Err x ≡ check_of (length image) start (length out) → make_call (Err x) out ≡ make_of image family start out
  unfolding make_of
  make_refused e = rw (← e)

  pub make_made : (n : ℕ) {b : List ℕ} → Ok n ≡ check_of (length image) start (length out) → b ≡ over out 0 (file_bytes image family start)
      → make_call (Ok n) b ≡ make_of image family start out
  unfolding make_of
  make_made n {b} e k = rw (← e, k)
