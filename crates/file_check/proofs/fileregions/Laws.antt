-- Regions that are the same, and a region with which nothing is wrong. Assumes nothing.
use Prim.Native.Nat.{ℕ, ◌/◌}
use Rattle.std.specs.Prelude.{Result, Ok, Err, ⊤}
use mathlib.Core.Path.{◌≡◌, refl, sym, ap, ◌∙◌}
use mathlib.Core.Bool.{Bool, true, false, cond, not, ◌&&◌}
use mathlib.Core.List.{List}
use lib.Dec.{eqb}
use borrow.Author.Tests.{eqb-true, not-false}
use Rattle.laws.specs.Sets.{any}
use Rattle.laws.proofs.Tests.{clash, eqb_same, and_left, and_right}
use Rattle.uf2_block.specs.Block.{has_flag}
use Rattle.uf2_block.specs.Region.{region_of}
use Rattle.uf2_block.specs.declared.Region.{Region}
use Rattle.md5_digest.specs.Md5.{md5_of}
use Rattle.uf2_block.specs.Regions.{same_digest}
use Rattle.file_check.specs.Check.{pieces_in}
use Rattle.file_check.specs.Regions.{inside_of, same_region, strays_from, is_stray, is_bare, final_of, fault_in, is_right}
use Rattle.file_check.specs.declared.fileregions.RegionFault.{RegionFault}
use Rattle.file_check.specs.declared.fileregions.RegionFault.TheVariants.{OtherRegion, BareSector, OtherDigest}

pub same_true : (x g : Region) → same_region x g ≡ true → x ≡ g
unfolding same_region
same_true x g e =
    let c1 = eqb x.start g.start in
    let c2 = eqb x.len g.len in
    let c3 = eqb x.a g.a in
    let c4 = eqb x.b g.b in
    let c5 = eqb x.c g.c in
    let c6 = eqb x.d g.d in
    let e5 = and_left (c1 && c2 && c3 && c4 && c5) c6 e in
    let e4 = and_left (c1 && c2 && c3 && c4) c5 e5 in
    let e3 = and_left (c1 && c2 && c3) c4 e4 in
    let e2 = and_left (c1 && c2) c3 e3 in
    let p1 = eqb-true x.start g.start (and_left c1 c2 e2) in
    let p2 = eqb-true x.len g.len (and_right c1 c2 e2) in
    let p3 = eqb-true x.a g.a (and_right (c1 && c2) c3 e3) in
    let p4 = eqb-true x.b g.b (and_right (c1 && c2 && c3) c4 e4) in
    let p5 = eqb-true x.c g.c (and_right (c1 && c2 && c3 && c4) c5 e5) in
    let p6 = eqb-true x.d g.d (and_right (c1 && c2 && c3 && c4 && c5) c6 e) in
    λ i. record { start = p1 i; len = p2 i; a = p3 i; b = p4 i; c = p5 i; d = p6 i }

pub same_yes : (g : Region) → same_region g g ≡ true
unfolding same_region
same_yes g = rw (eqb_same g.start, eqb_same g.len, eqb_same g.a, eqb_same g.b, eqb_same g.c, eqb_same g.d)

-- data in a region that does not stray names that region
pub carries : (g : Region) (a : List ℕ) → inside_of g a ≡ true → strays_from g a ≡ false → (has_flag a 0x4000 ≡ true) × (region_of a ≡ g)
unfolding strays_from
carries g a y z =
    let p = has_flag a 0x4000 in
    let q = same_region (region_of a) g in
    let e : not (p && q) ≡ false = ap (λ (b : Bool). b && not (p && q)) (sym y) ∙ z in
    let t = not-false (p && q) e in
    (and_left p q t, same_true (region_of a) g (and_right p q t))

pub right_is : (x : Result ⊤ RegionFault) → is_right x ≡ true → x ≡ Ok tt
right_is (Ok u) e = refl
right_is (Err x) e = clash false e refl

-- a condition that a right region has passed
right_by : (b : Bool) (x y : Result ⊤ RegionFault) → is_right x ≡ false → is_right (cond b x y) ≡ true → (b ≡ false) × (is_right y ≡ true)
right_by true x y z e = clash (is_right x) e z
right_by false x y z e = (refl, e)

-- nothing is wrong with a region
pub record Fine (f : List ℕ) (g : Region) : Type 0 where
  pub carried : any (pieces_in f) (is_stray f g) ≡ false
  pub covered : any (g.len / 4096) (is_bare f g) ≡ false
  pub digest : same_digest (md5_of (final_of f g)) g ≡ true

pub fine_of : (f : List ℕ) (i : ℕ) (g : Region) → is_right (fault_in f i g) ≡ true → Fine f g
unfolding fault_in
fine_of f i g e =
    let p = right_by _ (Err (OtherRegion i _)) _ refl e in
    let q = right_by _ (Err (BareSector i _)) _ refl p.1 in
    let r = right_by _ (Err (OtherDigest i)) (Ok tt) refl q.1 in
    record { carried = p.0; covered = q.0; digest = not-false _ r.0 }

pub right_of : (f : List ℕ) (i : ℕ) (g : Region) → Fine f g → is_right (fault_in f i g) ≡ true
unfolding fault_in
right_of f i g h = rw (h.carried, h.covered, h.digest)
