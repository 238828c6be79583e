-- The place that is told: it fits its 8 bytes, and is read back from them. Assumes nothing.
use Prim.Native.Nat.{ℕ, ◌+◌, ◌<◌, ◌≤◌, ◌^◌}
use mathlib.Core.Path.{◌≡◌, refl, sym, ◌∙◌, subst}
use mathlib.Core.Bool.{true}
use mathlib.Core.List.{List, [], ◌++◌}
use native.Mathlib.Omega.{arith}
use lib.ListN.{length}
use Rattle.std.specs.Prelude.{Option, Some, None}
use Rattle.laws.proofs.Tests.{split}
use Rattle.laws.specs.Bytes.{low_first}
use Rattle.laws.specs.Over.{over}
use Rattle.laws.proofs.OverLaws.{length_over, over_next, over_whole}
use Rattle.uf2_block.specs.Block.{field_at}
use Rattle.memory.specs.Flash.{flash_length}
use Rattle.memory.proofs.flash.Laws.{length_right}
use Rattle.partitions.specs.declared.Settings.{Settings}
use Rattle.partitions.specs.Settings.{good_settings}
use Rattle.placement.specs.declared.Place.{Place}
use Rattle.placement.specs.Place.{found_at, place_of, ask_of, PlaceAnswer}
use Rattle.placement.proofs.Laws.{ask_length, ask_settings, ask_place}
use Rattle.placement.proofs.Theorems.{place_inside}
use Rattle.uf2_block.specs.Write.{le32, put_at}
use Rattle.uf2_block.proofs.WriteLaws.{put_over, field_le32}
use Rattle.call_bytes.specs.PlacesCalls.{Low}

-- ---- it fits

module _ (s : Settings) (len f : ℕ) where
  found_low : flash_length len ≡ true → good_settings s len ≡ true → (p : Option Place) → place_of s len f ≡ p → Low (found_at p)
  found_low right good None e = tt
  found_low right good (Some p) e =
      let inside = (place_inside s len f right good p.start p.len e).2 in
      let most = (length_right len right).most in
      (omega arith, omega arith)

  pub ask_low : {x : PlaceAnswer} → x ≡ ask_of s len f → Low x
  ask_low e =
      subst Low (sym e)
      (split (flash_length len)
      (λ right.
      split (good_settings s len)
      (λ good. subst Low (sym (ask_place s len f right good)) (found_low right good (place_of s len f) refl))
      (λ bad. subst Low (sym (ask_settings s len f right bad)) tt))
      (λ wrong. subst Low (sym (ask_length s len f wrong)) tt))

-- ---- it is written

pub place_put : (b : List ℕ) (a n : ℕ) → length b ≡ 8 → put_at (put_at b 0 a) 4 n ≡ le32 a ++ le32 n
unfolding low_first
place_put b a n e =
    let fits : 0 + length (le32 a) ≤ length b = omega arith in
    let same = length_over b 0 (le32 a) fits in
    rw (put_over b 0 a (omega arith), put_over (over b 0 (le32 a)) 4 n (omega arith))
    (over_next b 0 (le32 a) 4 (le32 n) refl (omega arith) ∙ over_whole b (le32 a ++ le32 n) (sym e))

-- ---- it is read back

pub place_back : (a n : ℕ) → a < 2 ^ 32 → n < 2 ^ 32 → (field_at (le32 a ++ le32 n) 0 ≡ a) × (field_at (le32 a ++ le32 n) 4 ≡ n)
unfolding low_first
place_back a n p q = (field_le32 [] a (le32 n) p, field_le32 (le32 a) n [] q)
