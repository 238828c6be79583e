-- What stands in a place of the flash, by cases. Assumes nothing.
use Prim.Native.Nat.{ℕ}
use mathlib.Core.Path.{◌≡◌, sym, ◌∙◌}
use mathlib.Core.Bool.{Bool, true, false}
use mathlib.Core.List.{List}
use Rattle.std.specs.Prelude.{Option, Some, None}
use Rattle.uf2_block.specs.Block.{field_at, has_flag}
use Rattle.uf2_block.specs.Region.{region_of}
use Rattle.uf2_block.specs.declared.Region.{Region}
use Rattle.uf2_block.specs.Regions.{good_region, stands_in}
use Rattle.placement.specs.Place.{place_from}
use Rattle.placement.specs.declared.Place.{Place}
use Rattle.arrival.specs.Arrive.{stands_at}

module _ (f a : List ℕ) (start size : ℕ) where
  pub stands_bare : has_flag a 0x4000 ≡ false → false ≡ stands_at f (Some (place_from start size)) a
  unfolding stands_at
  stands_bare h = rw h

  module _ (h : has_flag a 0x4000 ≡ true) {g : Region} (e : g ≡ region_of a) {x : ℕ} (q : x ≡ field_at a 12) where
    pub stands_bad : good_region size x g ≡ false → false ≡ stands_at f (Some (place_from start size)) a
    unfolding stands_at
    stands_bad n = rw (h, sym e, sym q, n)

    pub stands_good : good_region size x g ≡ true → {r : Bool} → r ≡ stands_in f start g → r ≡ stands_at f (Some (place_from start size)) a
    unfolding stands_at
    stands_good n r = r ∙ rw (h, sym e, sym q, n)

pub stands_nowhere : (f a : List ℕ) {p : Option Place} → p ≡ None → false ≡ stands_at f p a
unfolding stands_at
stands_nowhere f a e = rw e
