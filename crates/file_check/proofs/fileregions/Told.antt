-- The answers about regions are true. Assumes nothing.
use Prim.Native.Nat.{ℕ, ◌+◌, ◌/◌, ◌<◌}
use Rattle.std.specs.Prelude.{Result, Ok, Err, ⊤}
use mathlib.Core.Path.{◌≡◌, refl, sym, ap, subst, ◌∙◌}
use mathlib.Core.Logic.{◌≢◌}
use mathlib.Core.Bool.{Bool, true, false, cond, not, ◌&&◌}
use mathlib.Core.List.{List}
use lib.Dec.{eqb, ltb, leb}
use borrow.Author.Tests.{eqb-true, eqb-false, eq-eqb, leb-true, ltb-true, le-leb, lt-ltb, not-true, not-false}
use Rattle.laws.specs.Sets.{any, least}
use Rattle.laws.proofs.Tests.{split, clash, and_left, and_right, both}
use Rattle.laws.proofs.Laws.{any_all, any_found, least_below}
use Rattle.uf2_block.specs.Block.{has_flag}
use Rattle.uf2_block.specs.Region.{region_of}
use Rattle.uf2_block.specs.declared.Region.{Region}
use Rattle.md5_digest.specs.Md5.{md5_of}
use Rattle.md5_digest.specs.declared.Digest.{Digest}
use Rattle.uf2_block.specs.Regions.{same_digest}
use Rattle.uf2_block.proofs.regions.Laws.{named_by, digest_true, digest_yes}
use Rattle.partitions.specs.declared.Settings.{Settings}
use Rattle.uf2_checks.specs.declared.Lengths.{Lengths}
use Rattle.arrival.specs.Standing.{digest_in}
use Rattle.file_check.specs.declared.FileFault.TheVariants.{BadBuffers}
use Rattle.file_check.specs.Check.{piece_at, pieces_in, field_in, is_guarding, check_of}
use Rattle.file_check.specs.declared.fileregions.RegionsChecked.{RegionsChecked}
use Rattle.file_check.specs.declared.fileregions.RegionsChecked.TheVariants.{As, Named}
use Rattle.file_check.specs.declared.fileregions.RegionFault.{RegionFault}
use Rattle.file_check.specs.declared.fileregions.RegionFault.TheVariants.{OtherRegion, BareSector, OtherDigest}
use Rattle.file_check.specs.Regions.{inside_of, same_region, strays_from, is_stray, is_bare, sector_in, final_of, fault_in, region_fault, is_right, is_wrong, regions_of, names_regions, after_check, check_regions_of}
use Rattle.file_check.specs.Told.{InRegion, Carries, sector_of, RightRegion, Told, RegionsAnswersAreTrue}
use Rattle.file_check.proofs.fileregions.Laws.{same_true, same_yes, Fine, fine_of}

module _ (f : List ℕ) (i : ℕ) where
  abbrev g : Region
  g = region_of (piece_at f i)

  pub inside_true : (k : ℕ) → inside_of g (piece_at f k) ≡ true → InRegion f i k
  unfolding inside_of region_of
  inside_true k e =
      let u = not (has_flag (piece_at f k) 0x1) in
      let v = leb (field_in f i 484) (field_in f k 12) in
      let w = ltb (field_in f k 12) (field_in f i 484 + field_in f i 488) in
      let l = and_left (u && v) w e in
      record { page = and_left u v l; from = leb-true _ _ (and_right u v l); to = ltb-true _ _ (and_right (u && v) w e) }

  pub inside_yes : (k : ℕ) → InRegion f i k → inside_of g (piece_at f k) ≡ true
  unfolding inside_of region_of
  inside_yes k h = both (both h.page (le-leb _ _ h.from)) (lt-ltb _ _ h.to)

  -- the same region, by its fields
  carries_of : (k : ℕ) → has_flag (piece_at f k) 0x4000 ≡ true → region_of (piece_at f k) ≡ g → Carries f i k
  unfolding region_of
  carries_of k p e =
      record {
        flag = p;
        start = ap (λ (x : Region). x.start) e;
        len = ap (λ (x : Region). x.len) e;
        digest = ap named_by e;
      }

  region_of_lem : (k : ℕ) → Carries f i k → region_of (piece_at f k) ≡ g
  unfolding region_of
  region_of_lem k c =
      λ t. record {
        start = c.start t;
        len = c.len t;
        a = (c.digest t).a;
        b = (c.digest t).b;
        c = (c.digest t).c;
        d = (c.digest t).d;
      }

  named_is : named_by g ≡ digest_in (piece_at f i)
  unfolding region_of
  named_is = refl

  sector_is : (k : ℕ) → sector_in g (piece_at f k) ≡ sector_of f i k
  unfolding region_of
  sector_is k = refl

  pub length_is : g.len ≡ field_in f i 488
  unfolding region_of
  length_is = refl

  -- a piece that strays
  stray_true : (k : ℕ) → is_stray f g k ≡ true → InRegion f i k × (Carries f i k → ⊥)
  unfolding strays_from
  stray_true k e =
      let p = inside_of g (piece_at f k) in
      let q = has_flag (piece_at f k) 0x4000 && same_region (region_of (piece_at f k)) g in (
        inside_true k (and_left p (not q) e),
        λ c. clash q (both c.flag (ap (λ (x : Region). same_region x g) (region_of_lem k c) ∙ same_yes g)) (not-true q (and_right p (not q) e)),
      )

  stray_false : (k : ℕ) → is_stray f g k ≡ false → InRegion f i k → Carries f i k
  unfolding strays_from
  stray_false k z h =
      let p = has_flag (piece_at f k) 0x4000 in
      let q = same_region (region_of (piece_at f k)) g in
      let e : not (p && q) ≡ false = ap (λ (b : Bool). b && not (p && q)) (sym (inside_yes k h)) ∙ z in
      let t = not-false (p && q) e in
      carries_of k (and_left p q t) (same_true (region_of (piece_at f k)) g (and_right p q t))

  -- a region with which nothing is wrong
  right_region : Fine f g → RightRegion f i
  right_region ok =
      record {
        same = λ k h. stray_false k (any_all (is_stray f g) (pieces_in f) ok.carried k h);
        every = λ q h.
            let z = any_all (is_bare f g) (g.len / 4096) ok.covered q (subst (λ (x : ℕ). q < x / 4096) (sym length_is) h) in
            let r = any_found (λ k. inside_of g (piece_at f k) && eqb (sector_in g (piece_at f k)) q) (pieces_in f) (not-false _ z) in
            let k = r.0 in
            let u = inside_of g (piece_at f k) in
            let v = eqb (sector_in g (piece_at f k)) q in
            (k, r.1, inside_true k (and_left u v r.2), sym (sector_is k) ∙ eqb-true _ _ (and_right u v r.2));
        digest = digest_true _ g ok.digest ∙ named_is;
      }

  not_digest : same_digest (md5_of (final_of f g)) g ≡ false → md5_of (final_of f g) ≢ digest_in (piece_at f i)
  not_digest z e = clash (same_digest (md5_of (final_of f g)) g) (ap (λ (x : Digest). same_digest x g) (e ∙ sym named_is) ∙ digest_yes g) z

  not_bare : (q : ℕ) → is_bare f g q ≡ true → (k : ℕ) → k < pieces_in f → InRegion f i k → sector_of f i k ≢ q
  not_bare q e k h r d =
      let P : ℕ → Bool = λ k. inside_of g (piece_at f k) && eqb (sector_in g (piece_at f k)) q in
      clash (P k) (both (inside_yes k r) (eq-eqb _ _ (sector_is k ∙ d))) (any_all P (pieces_in f) (not-true _ e) k h)

module _ (s : Settings) (n : Lengths) (a b c d : ℕ) (f : List ℕ) where
  abbrev T : RegionsChecked → Type 0
  T = Told s n a b c d f

  by : (v : Bool) (x y : RegionsChecked) → (v ≡ true → T x) → (v ≡ false → T y) → T (cond v x y)
  by true x y p q = p refl
  by false x y p q = q refl

  by-named : (v : Bool) (x y : Result ⊤ RegionFault) → (v ≡ true → T (Named x)) → (v ≡ false → T (Named y)) → T (Named (cond v x y))
  by-named true x y p q = p refl
  by-named false x y p q = q refl

  -- the region of piece i, with which something is wrong
  fault_told : (i : ℕ) → is_guarding s n f i ≡ true → is_right (region_fault f i) ≡ false → T (Named (region_fault f i))
  unfolding fault_in
  fault_told i y w =
      let h = g f i in
      split (any (pieces_in f) (is_stray f h))
      (λ t.
      let e : region_fault f i ≡ Err (OtherRegion i (least (pieces_in f) (is_stray f h))) = rw t in
      let r = least_below (is_stray f h) (pieces_in f) t in
      let v = stray_true f i (least (pieces_in f) (is_stray f h)) r.1 in
      subst (λ (x : Result ⊤ RegionFault). T (Named x)) (sym e) (y, r.0, v.0, v.1))
      (λ z1.
      split (any (h.len / 4096) (is_bare f h))
      (λ t.
      let e : region_fault f i ≡ Err (BareSector i (least (h.len / 4096) (is_bare f h))) = rw (z1, t) in
      let r = least_below (is_bare f h) (h.len / 4096) t in
      subst (λ (x : Result ⊤ RegionFault). T (Named x)) (sym e) (y, subst (λ (x : ℕ). least (h.len / 4096) (is_bare f h) < x / 4096) (length_is f i) r.0, not_bare f i (least (h.len / 4096) (is_bare f h)) r.1))
      (λ z2.
      split (same_digest (md5_of (final_of f h)) h)
      (λ t.
      let e : region_fault f i ≡ Ok tt = rw (z1, z2, t) in
      clash (is_right (Ok tt)) refl (sym (ap is_right e) ∙ w))
      (λ z3.
      let e : region_fault f i ≡ Err (OtherDigest i) = rw (z1, z2, z3) in
      subst (λ (x : Result ⊤ RegionFault). T (Named x)) (sym e) (y, not_digest f i z3))))

  regions_told : names_regions (check_of s n a b c f) ≡ true → T (Named (regions_of s n f))
  unfolding regions_of
  regions_told given =
      by-named (any (pieces_in f) (is_wrong s n f)) _ (Ok tt)
      (λ y.
      let i = least (pieces_in f) (is_wrong s n f) in
      let r = least_below (is_wrong s n f) (pieces_in f) y in
      let u = is_guarding s n f i in
      let v = is_right (region_fault f i) in
      fault_told i (and_left u (not v) r.1) (not-true v (and_right u (not v) r.1)))
      (λ z. (
        given,
        λ i h y.
            let e = any_all (is_wrong s n f) (pieces_in f) z i h in
            let q : not (is_right (region_fault f i)) ≡ false = ap (λ (b : Bool). b && not (is_right (region_fault f i))) (sym y) ∙ e in
            right_region f i (fine_of f i (g f i) (not-false _ q)),
      ))

  answers : T (check_regions_of s n a b c d f)
  unfolding check_regions_of after_check
  answers =
      let x = check_of s n a b c f in
      by (not (names_regions x)) (As x) _
      (λ y. (λ z. refl, λ t. clash (names_regions x) t (not-true _ y)))
      (λ y.
      let t = not-false (names_regions x) y in
      by (not (eqb d n.flash)) (As (Err BadBuffers)) _
      (λ u. (λ z. clash (names_regions x) t z, λ v. (refl, eqb-false _ _ (not-true _ u))))
      (λ u. regions_told t))

pub regions_answers_are_true : RegionsAnswersAreTrue
unfolding RegionsAnswersAreTrue
regions_answers_are_true s n a b c d f = answers s n a b c d f
