-- The laws of the parts that the code is cut into. Assumes nothing.
use Prim.Native.Nat.{ℕ, zero, suc, ◌+◌, ◌/◌, ◌<◌, ◌≤◌}
use Rattle.std.specs.Prelude.{Option, Some, Result, Ok, Err, ⊤}
use mathlib.Core.Path.{◌≡◌, refl, sym, ap, ◌∙◌}
use mathlib.Core.Logic.{◌≢◌}
use mathlib.Core.Bool.{Bool, true, false, not, ◌&&◌, ◌||◌}
use mathlib.Core.List.{List}
use native.Mathlib.Numerals.{add-one}
use native.Mathlib.Omega.{arith}
use lib.Dec.{eqb, leb, ltb}
use lib.ListN.{length}
use borrow.Author.Tests.{eqb-true, eqb-false, not-true, not-false, leb-true, ltb-true}
use Rattle.laws.specs.Sets.{Set, any, least}
use Rattle.laws.proofs.Tests.{split, clash, and_left, and_right}
use Rattle.laws.proofs.Laws.{any_all, any_hit, least_none, least_below, least_is}
use Rattle.memory.specs.Bitmap.{with_mark, marked_in, unmarked}
use Rattle.memory.proofs.bitmap.Laws.{length_mark, length_unmarked, marked_same, marked_other, marked_unmarked}
use Rattle.trace_counts.specs.Counts.{is_missing}
use Rattle.md5_digest.specs.Md5.{md5_of}
use Rattle.uf2_block.specs.Block.{field_at, has_flag}
use Rattle.uf2_block.specs.Region.{region_of}
use Rattle.uf2_block.specs.declared.Region.{Region}
use Rattle.uf2_block.specs.Regions.{same_digest}
use Rattle.uf2_block.proofs.regions.Laws.{good_true}
use Rattle.file_check.proofs.fileregions.Laws.{carries, right_is, fine_of, right_of}
use Rattle.file_check.specs.First.{first_below}
use Rattle.file_check.proofs.First.{first_some, first_else, least_cong}
use Rattle.file_check.specs.Check.{piece_at, pieces_in}
use Rattle.file_check.specs.Regions.{inside_of, is_stray, is_bare, sector_in, in_turn, final_of, fault_in, region_fault, is_right}
use Rattle.file_check.specs.declared.fileregions.RegionFault.{RegionFault}
use Rattle.file_check.specs.declared.fileregions.RegionFault.TheVariants.{OtherRegion, BareSector, OtherDigest}
use Rattle.region_checking.specs.Parts.{names_in, names_at, sector_with, sectoring, note_with, noting, noted_after, wrong_at, asked_of, Noted, Roomy, regions_by}

-- ---- an arrival

module _ (g : Region) (a : List ℕ) where
  -- data in the region lies behind its start
  pub inside_low : inside_of g a ≡ true → g.start ≤ field_at a 12
  unfolding inside_of
  inside_low e =
      let u = not (has_flag a 0x1) in
      let v = leb g.start (field_at a 12) in
      let w = ltb (field_at a 12) (g.start + g.len) in
      leb-true _ _ (and_right u v (and_left (u && v) w e))

  pub inside_high : inside_of g a ≡ true → field_at a 12 < g.start + g.len
  unfolding inside_of
  inside_high e =
      let u = not (has_flag a 0x1) in
      let v = leb g.start (field_at a 12) in
      let w = ltb (field_at a 12) (g.start + g.len) in
      ltb-true _ _ (and_right (u && v) w e)

-- ---- steps in turn

pub turn_zero : (step : ℕ → List ℕ → List ℕ) (c : List ℕ) → in_turn step c 0 ≡ c
unfolding in_turn
turn_zero step c = refl

pub turn_more : (step : ℕ → List ℕ → List ℕ) (c : List ℕ) (k : ℕ) → in_turn step c (k + 1) ≡ step k (in_turn step c k)
unfolding in_turn
turn_more step c k = rw (add-one k)

-- ---- the sectors

or_no : (b : Bool) → b || false ≡ b
or_no true = refl
or_no false = refl

or_yes : (b : Bool) → b || true ≡ true
or_yes true = refl
or_yes false = refl

module _ (f : List ℕ) (g : Region) (m : List ℕ) where
  length_sectors : (n : ℕ) → length (in_turn (sectoring f g) m n) ≡ length m
  unfolding in_turn sector_with
  length_sectors zero = refl
  length_sectors (suc n) =
      split (inside_of g (piece_at f n))
      (λ y. rw y (length_mark _ _ ∙ length_sectors n))
      (λ z. rw z (length_sectors n))

-- a piece in sector q of the region
abbrev in_sector : List ℕ → Region → ℕ → Set
in_sector f g q k = inside_of g (piece_at f k) && eqb (sector_in g (piece_at f k)) q

marked_sector : (f : List ℕ) (g : Region) (len q n : ℕ) → q / 8 < len → marked_in (in_turn (sectoring f g) (unmarked len) n) q ≡ any n (in_sector f g q)
unfolding in_turn sector_with any
marked_sector f g len q zero h = marked_unmarked len q
marked_sector f g len q (suc n) h =
    let m = in_turn (sectoring f g) (unmarked len) n in
    let s = sector_in g (piece_at f n) in
    let l : length m ≡ len = length_sectors f g (unmarked len) n ∙ length_unmarked len in
    split (inside_of g (piece_at f n))
    (λ y.
    split (eqb s q)
    (λ e.
    let d : s ≡ q = eqb-true s q e in
    let k : marked_in (with_mark m s) q ≡ true = ap (λ (x : ℕ). marked_in (with_mark m x) q) d ∙ marked_same m q (omega (arith, l)) in
    rw (y, e) (k ∙ sym (or_yes (any n (in_sector f g q)))))
    (λ z.
    let d : q ≢ s = λ e. eqb-false s q z (sym e) in
    rw (y, z) (marked_other m s q d ∙ marked_sector f g len q n h ∙ sym (or_no (any n (in_sector f g q))))))
    (λ z. rw z (marked_sector f g len q n h ∙ sym (or_no (any n (in_sector f g q)))))

pub bare_is : (f : List ℕ) (g : Region) {len : ℕ} {m b : List ℕ} {q : ℕ} → len ≡ 16384 → g.len ≤ 33554432 → m ≡ unmarked len → b ≡ in_turn (sectoring f g) m (pieces_in f)
    → q ≡ least (g.len / 4096) (is_missing b) → q ≡ least (g.len / 4096) (is_bare f g)
bare_is f g {len} l few p e h =
    h
    ∙ least_cong (g.len / 4096) (is_missing _) (is_bare f g)
    (λ q k.
    ap not
    ((λ t. marked_in ((e ∙ ap (λ (x : List ℕ). in_turn (sectoring f g) x (pieces_in f)) p) t) q)
    ∙ marked_sector f g len q (pieces_in f) (omega (arith, l, few, k))))

-- ---- what is wrong with a region

told : (n : ℕ) (P : Set) {k : ℕ} → k ≡ least n P → k < n → any n P ≡ true
told n P e l =
    split (any n P) (λ y. y) (λ z. let d = least_none P n z in absurd (omega (arith, d, e)))

untold : (n : ℕ) (P : Set) {k : ℕ} → k ≡ least n P → n ≤ k → any n P ≡ false
untold n P e l =
    split (any n P) (λ y. let d = (least_below P n y).0 in absurd (omega (arith, d, e))) (λ z. z)

module _ (f : List ℕ) (i : ℕ) (g : Region) where
  pub stray_told : {k : ℕ} → Some k ≡ first_below (pieces_in f) (is_stray f g) → Err (OtherRegion i k) ≡ fault_in f i g
  unfolding fault_in
  stray_told e = let y = first_some (pieces_in f) (is_stray f g) e in rw y.0 (ap (λ (k : ℕ). Err (OtherRegion i k)) y.1)

  module _ {o : Option ℕ} (e : o ≡ first_below (pieces_in f) (is_stray f g)) (w : (k : ℕ) → o ≡ Some k → ⊥) {q : ℕ} (h : q ≡ least (g.len / 4096) (is_bare f g)) where
    none : any (pieces_in f) (is_stray f g) ≡ false
    none = first_else (pieces_in f) (is_stray f g) e w

    pub bare_told : q < g.len / 4096 → Err (BareSector i q) ≡ fault_in f i g
    unfolding fault_in
    bare_told b =
        let y = told (g.len / 4096) (is_bare f g) h b in
        rw (none, y) (ap (λ (k : ℕ). Err (BareSector i k)) h)

    module _ (b : g.len / 4096 ≤ q) {r : Bool} (d : r ≡ same_digest (md5_of (final_of f g)) g) where
      pub digest_told : r ≡ false → Err (OtherDigest i) ≡ fault_in f i g
      unfolding fault_in
      digest_told x =
          let y = untold (g.len / 4096) (is_bare f g) h b in
          let v : same_digest (md5_of (final_of f g)) g ≡ false = sym d ∙ x in
          rw (none, y, v)

      pub right_told : r ≡ true → Ok tt ≡ fault_in f i g
      unfolding fault_in
      right_told x =
          let y = untold (g.len / 4096) (is_bare f g) h b in
          let v : same_digest (md5_of (final_of f g)) g ≡ true = sym d ∙ x in
          rw (none, y, v)

-- ---- what is marked

-- what is marked and was not is a piece in the region
marked_new : (f : List ℕ) (g : Region) (m : List ℕ) (n j : ℕ) → marked_in m j ≡ false → marked_in (in_turn (noting f g) m n) j ≡ true → inside_of g (piece_at f j) ≡ true
unfolding in_turn note_with
marked_new f g m zero j z e = clash (marked_in m j) e z
marked_new f g m (suc n) j z e =
    let c = in_turn (noting f g) m n in
    split (inside_of g (piece_at f n))
    (λ y.
    split (eqb j n)
    (λ q. ap (λ (k : ℕ). inside_of g (piece_at f k)) (eqb-true j n q) ∙ y)
    (λ q. marked_new f g m n j z (sym (marked_other c n j (eqb-false j n q)) ∙ (rw y at e))))
    (λ q. marked_new f g m n j z (rw q at e))

module _ (size : ℕ) (f : List ℕ) where
  -- nothing is wrong with the region of any piece in a region that is right
  not_wrong : (i j : ℕ) (g : Region) → j < pieces_in f → is_right (fault_in f i g) ≡ true → inside_of g (piece_at f j) ≡ true → wrong_at size f j ≡ false
  not_wrong i j g h y p =
      let ok = fine_of f i g y in
      let c = carries g (piece_at f j) p (any_all (is_stray f g) (pieces_in f) ok.carried j h) in
      let t : is_right (region_fault f j) ≡ true = ap (λ (x : Region). is_right (fault_in f j x)) c.1 ∙ right_of f j g ok in
      rw t (and_no (names_at size f j))
    where
      and_no : (b : Bool) → b && false ≡ false
      and_no true = refl
      and_no false = refl

  pub noted_after_lem : (i : ℕ) (g : Region) (m : List ℕ) {r : List ℕ} → Noted size f m → r ≡ noted_after f i g m → Noted size f r
  noted_after_lem i g m {r} before e j h y =
      split (is_right (fault_in f i g))
      (λ t.
      let q : r ≡ in_turn (noting f g) m (pieces_in f) = e ∙ unfold noted_after in rw t in
      split (marked_in m j)
      (λ old. before j h old)
      (λ new. not_wrong i j g h t (marked_new f g m (pieces_in f) j new (ap (λ (x : List ℕ). marked_in x j) (sym q) ∙ y))))
      (λ z.
      let q : r ≡ m = e ∙ unfold noted_after in rw z in
      before j h (ap (λ (x : List ℕ). marked_in x j) (sym q) ∙ y))

  pub noted_none : (m : List ℕ) → m ≡ unmarked (length m) → Noted size f m
  noted_none m e j h y = clash (marked_in m j) y (ap (λ (x : List ℕ). marked_in x j) e ∙ marked_unmarked (length m) j)

  -- ---- one piece

  module _ (i : ℕ) {l : List ℕ} (p : l ≡ piece_at f i) {b : Bool} (e : b ≡ names_in size l) where
    named : {v : Bool} → b ≡ v → names_at size f i ≡ v
    named y = ap (names_in size) (sym p) ∙ sym e ∙ y

    pub asked_none : not b ≡ true → Ok tt ≡ asked_of size f i
    unfolding asked_of
    asked_none y = let z = named (not-true b y) in rw z

    module _ (y : not b ≡ false) where
      names : names_at size f i ≡ true
      names = named (not-false b y)

      pub asked_marked : (m : List ℕ) → Noted size f m → i < pieces_in f → {k : Bool} → k ≡ marked_in m i → k ≡ true → Ok tt ≡ asked_of size f i
      unfolding asked_of
      asked_marked m noted h q t =
          let z : wrong_at size f i ≡ false = noted i h (sym q ∙ t) in
          let u : not (is_right (region_fault f i)) ≡ false = ap (λ (b : Bool). b && not (is_right (region_fault f i))) (sym names) ∙ z in
          sym (rw names (right_is (region_fault f i) (not-false _ u)))

      pub asked_is : {g : Region} → g ≡ region_of l → {r : Result ⊤ RegionFault} → r ≡ fault_in f i g → r ≡ asked_of size f i
      unfolding asked_of
      asked_is h q = q ∙ ap (fault_in f i) (h ∙ ap region_of p) ∙ sym (rw names)

      pub region_few : {g : Region} → g ≡ region_of l → g.len ≤ size
      unfolding names_in
      region_few {g} h =
          let a = piece_at f i in
          let q = good_true size (field_at a 12) (region_of a) (and_right (not (has_flag a 0x1) && has_flag a 0x4000) _ names) in
          let d : g.len ≡ (region_of a).len = ap (λ (x : Region). x.len) (h ∙ ap region_of p) in
          omega (arith, d, q.within)

  -- ---- every piece

  pub asked_right : (i : ℕ) {r : Result ⊤ RegionFault} → r ≡ asked_of size f i → is_right r ≡ true → wrong_at size f i ≡ false
  unfolding asked_of
  asked_right i e y =
      split (names_at size f i)
      (λ t. let k : asked_of size f i ≡ region_fault f i = rw t in let q : is_right (region_fault f i) ≡ true = sym (ap is_right (e ∙ k)) ∙ y in rw (t, q))
      (λ z. rw z)

  pub regions_told : (i : ℕ) → i < pieces_in f → any i (wrong_at size f) ≡ false → {r : Result ⊤ RegionFault} → r ≡ asked_of size f i → is_right r ≡ false → r ≡ regions_by size f
  unfolding asked_of regions_by
  regions_told i h before e y =
      split (names_at size f i)
      (λ t.
      let u : asked_of size f i ≡ region_fault f i = rw t in
      let k = e ∙ u in
      let q : is_right (region_fault f i) ≡ false = sym (ap is_right k) ∙ y in
      let v : wrong_at size f i ≡ true = rw (t, q) in
      let a = any_hit (wrong_at size f) (pieces_in f) i h v in
      let l = least_is (wrong_at size f) (pieces_in f) i h before v in
      k ∙ sym (rw (a, l)))
      (λ z. let u : asked_of size f i ≡ Ok tt = rw z in clash (is_right (Ok tt)) refl (sym (ap is_right (e ∙ u)) ∙ y))

  pub regions_none : any (pieces_in f) (wrong_at size f) ≡ false → Ok tt ≡ regions_by size f
  unfolding regions_by
  regions_none z = rw z

pub roomy_same : (size : ℕ) (c b : List ℕ) {c' b' : List ℕ} → Roomy size c b → length c' ≡ length c → length b' ≡ length b → Roomy size c' b'
roomy_same size c b h p q = record { most = h.most; image = omega (arith, h.image, q); marks = p ∙ h.marks }
