-- A file that the first check found to name regions: its place and its buffers, and the answer as it is cut. Assumes nothing.
use Prim.Native.Nat.{ℕ, ◌<◌, ◌≤◌}
use Rattle.std.specs.Prelude.{Result, Ok, Err, ⊤}
use mathlib.Core.Path.{◌≡◌, refl, sym, ap, subst, ◌∙◌}
use mathlib.Core.Bool.{Bool, true, false, cond, not, ◌&&◌}
use mathlib.Core.List.{List}
use native.Mathlib.Omega.{arith}
use lib.Dec.{eqb}
use lib.ListN.{length, take, drop}
use borrow.Author.Tests.{eqb-true, not-false}
use Rattle.std.specs.Prelude.{Some}
use Rattle.laws.specs.Sets.{any}
use Rattle.laws.proofs.Tests.{split, clash, and_left, and_right}
use Rattle.laws.proofs.Laws.{any_found, any_cong}
use Rattle.memory.proofs.fill.Laws.{length_many}
use Rattle.memory.specs.Bitmap.{unmarked}
use Rattle.memory.proofs.flash.Laws.{length_right}
use Rattle.uf2_block.specs.Block.{field_at, has_flag}
use Rattle.partitions.specs.declared.Settings.{Settings}
use Rattle.placement.specs.Place.{place_of, place_from}
use Rattle.transfer.specs.Transfer.{same_kind}
use Rattle.transfer.specs.declared.Kind.TheVariants.{Flash}
use Rattle.uf2_checks.specs.Screen.{rooms_of}
use Rattle.uf2_checks.specs.declared.Lengths.{Lengths}
use Rattle.uf2_checks.specs.declared.Rooms.{Rooms}
use Rattle.arrival.specs.Arrive.{right_lengths}
use Rattle.arrival.proofs.Heads.{kind_same}
use Rattle.arrival_claims.proofs.DecisionFacts.{right_true}
use Rattle.demand.specs.Demand.{size_of}
use Rattle.demand.proofs.Files.{Located, located}
use Rattle.file_check.specs.declared.FileFault.TheVariants.{BadBuffers, BadSettings, Ragged, Empty, Refused, OtherFamily, OtherTotal, OtherKind, SameNumber, Overlap, Missing, Guarded}
use Rattle.file_check.specs.Check.{Checked, piece_at, pieces_in, is_page, family_in, kind_in, is_sound, guards_in, is_guarding, right_maps, check_of}
use Rattle.file_check.specs.Valid.{file_of, answer_to}
use Rattle.file_check.specs.Faults.{Told, AnswersAreTrue}
use Rattle.file_check.proofs.Sound.{Sound, sound, valid, answer_is}
use Rattle.file_check.proofs.Theorems.{empty, empty_start}
use Rattle.file_check.proofs.Faults.{answers_are_true}
use Rattle.file_check.specs.Regions.{region_fault, is_right, is_wrong, regions_of, names_regions, after_check, check_regions_of}
use Rattle.file_check.specs.declared.fileregions.RegionsChecked.{RegionsChecked}
use Rattle.file_check.specs.declared.fileregions.RegionFault.{RegionFault}
use Rattle.region_checking.specs.Parts.{names_in, names_at, wrong_at, regions_by, Roomy, Opened}
use Rattle.file_check.proofs.First.{least_cong}

-- an answer that names regions
guarded_of : (x : Checked) → names_regions x ≡ true → (i : ℕ) × (x ≡ Err (Guarded i))
guarded_of (Err (Guarded i)) e = (i, refl)
guarded_of (Ok u) e = clash false e refl
guarded_of (Err BadBuffers) e = clash false e refl
guarded_of (Err BadSettings) e = clash false e refl
guarded_of (Err Ragged) e = clash false e refl
guarded_of (Err Empty) e = clash false e refl
guarded_of (Err (Refused i x)) e = clash false e refl
guarded_of (Err (OtherFamily i)) e = clash false e refl
guarded_of (Err (OtherTotal i)) e = clash false e refl
guarded_of (Err (OtherKind i)) e = clash false e refl
guarded_of (Err (SameNumber i j)) e = clash false e refl
guarded_of (Err (Overlap i j)) e = clash false e refl
guarded_of (Err (Missing k)) e = clash false e refl

module _ (s : Settings) (n : Lengths) (f : List ℕ) (yes : names_regions (answer_to s n f) ≡ true) where
  ok : Sound s n f
  ok = sound s n f (ap is_sound (guarded_of (answer_to s n f) yes).1)

  pub some_piece : 512 ≤ length f
  some_piece = omega (arith, ok.whole, ok.some)

  guarding : any (pieces_in f) (is_guarding s n f) ≡ true
  guarding =
      split (any (pieces_in f) (is_guarding s n f))
      (λ y. y)
      (λ z.
      let e : answer_to s n f ≡ Ok tt = answer_is s n f ok ∙ rw z in
      clash (names_regions (answer_to s n f)) yes (ap names_regions e))

  flat : same_kind (kind_in n f) Flash ≡ true
  flat =
      let q = any_found (is_guarding s n f) (pieces_in f) guarding in
      let a = same_kind (kind_in n f) Flash in
      let b = is_page f q.0 in
      let d = has_flag (piece_at f q.0) 0x4000 in
      and_left a b (and_left (a && b) d (and_left (a && b && d) (guards_in (place_of s n.flash (family_in f)) (piece_at f q.0)) q.2))

  L : Located s (empty n) (file_of n f)
  L = located s (empty n) (file_of n f) refl (valid s n f ok (empty n) (empty_start n)) (kind_same _ _ flat)

  place_is : place_of s n.flash (family_in f) ≡ Some (place_from L.start L.size)
  place_is = ap (λ (x : ℕ). place_of s x (family_in f)) (sym (length_many n.flash 0)) ∙ L.place

  names_same : (i : ℕ) → is_guarding s n f i ≡ names_at L.size f i
  unfolding names_in
  names_same i = (λ t. flat t && is_page f i && has_flag (piece_at f i) 0x4000 && guards_in (place_is t) (piece_at f i))

  -- the size that the code has
  module _ {k : ℕ} {p : Rooms} {m : ℕ} (e : k ≡ size_of p.flash) (r : p ≡ rooms_of s n.flash m) (g : m ≡ field_at (take 512 (drop 0 f)) 28) where
    size_is : k ≡ L.size
    unfolding piece_at
    size_is = e ∙ ap (λ (x : Rooms). size_of x.flash) r ∙ ap (λ (x : ℕ). size_of (place_of s n.flash x)) g ∙ ap size_of place_is

    pub regions_is : {x : Result ⊤ RegionFault} → x ≡ regions_by k f → x ≡ regions_of s n f
    unfolding regions_by regions_of
    regions_is q =
        let h : (j : ℕ) → j < pieces_in f → wrong_at L.size f j ≡ is_wrong s n f j = λ j l. ap (λ (b : Bool). b && not (is_right (region_fault f j))) (sym (names_same j)) in
        let a = any_cong (pieces_in f) (wrong_at L.size f) (is_wrong s n f) h in
        let b = least_cong (pieces_in f) (wrong_at L.size f) (is_wrong s n f) h in
        q ∙ ap (λ (y : ℕ). regions_by y f) size_is ∙ (λ t. cond (a t) (region_fault f (b t)) (Ok tt))

pub roomy_is : (s : Settings) (n : Lengths) (f : List ℕ) {a b c : List ℕ} (o : Opened s n f a b c) {k : ℕ} {p : Rooms} {m : ℕ} → k ≡ size_of p.flash → p ≡ rooms_of s n.flash m
    → m ≡ field_at (take 512 (drop 0 f)) 28 → Roomy k b c
roomy_is s n f o e r g =
    let yes = o.checked in
    let d = size_is s n f yes e r g in
    let w = (L s n f yes).within in
    let l = length_many n.flash 0 in
    let t = (length_right n.flash (right_true 512 n 16384 1024 (ok s n f yes).right).flash).most in
    record { most = omega (arith, d, w, l, t); image = omega (arith, d, w, l, o.image); marks = o.marks }

-- ---- after the first check

-- the maps had their lengths
pub opened_is : (s : Settings) (n : Lengths) (f a c o m : List ℕ) {x : Checked} → x ≡ check_of s n (length a) (length c) (length o) f → a ≡ unmarked (length a)
    → {b : Bool} → b ≡ names_regions x → not b ≡ false → length m ≡ n.flash → Opened s n f a c m
unfolding right_maps
opened_is s n f a c o m {x} q clear {b} e y h =
    let t : names_regions x ≡ true = sym e ∙ not-false b y in
    let g = guarded_of x t in
    let k : Told s n (length a) (length c) (length o) f (check_of s n (length a) (length c) (length o) f) = unfold AnswersAreTrue in answers_are_true s n (length a) (length c) (length o) f in
    let u : Told s n (length a) (length c) (length o) f (Err (Guarded g.0)) = subst (Told s n (length a) (length c) (length o) f) (sym q ∙ g.1) k in
    let r = u.0.lengths in
    let l = and_left (right_lengths 512 n (length a) 1024 && eqb (length c) 16384) (eqb (length o) 2080) r in
    let p1 : length a ≡ 16384 = (right_true 512 n (length a) 1024 (and_left (right_lengths 512 n (length a) 1024) (eqb (length c) 16384) l)).seen in
    let p2 : length c ≡ 16384 = eqb-true _ _ (and_right (right_lengths 512 n (length a) 1024) (eqb (length c) 16384) l) in
    let p3 : length o ≡ 2080 = eqb-true _ _ (and_right (right_lengths 512 n (length a) 1024 && eqb (length c) 16384) (eqb (length o) 2080) r) in
    record {
      checked = ap names_regions (sym (q ∙ (λ i. check_of s n (p1 i) (p2 i) (p3 i) f))) ∙ t;
      clear = clear;
      marks = p2;
      image = h;
    }

-- ---- the whole

-- the first check keeps the lengths
pub after_lengths : (s : Settings) (n : Lengths) (f : List ℕ) {a b c a' b' c' : ℕ} {x : Checked} → x ≡ check_of s n a b c f → a' ≡ a → b' ≡ b → c' ≡ c → x ≡ check_of s n a' b' c' f
after_lengths s n f e p q r = e ∙ sym (λ t. check_of s n (p t) (q t) (r t) f)

pub whole_is : (s : Settings) (n : Lengths) (f : List ℕ) (a b c d : ℕ) {x : Checked} {r : RegionsChecked} → x ≡ check_of s n a b c f → r ≡ after_check s n d f x
    → r ≡ check_regions_of s n a b c d f
unfolding check_regions_of
whole_is s n f a b c d e q = q ∙ ap (after_check s n d f) e
