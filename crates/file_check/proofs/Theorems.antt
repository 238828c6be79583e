-- The theorems of specs/Valid.antt. Assumes nothing.
use Prim.Native.Nat.{ℕ, zero, suc, ◌+◌, ◌-◌, ◌%◌, ◌<◌, ◌≤◌}
use Rattle.std.specs.Prelude.{Ok, Err}
use mathlib.Core.Path.{◌≡◌, refl, sym, ap, subst, ◌∙◌, fun_ext}
use mathlib.Core.Logic.{◌≢◌}
use mathlib.Core.Bool.{Bool, true, false, not, cond, ◌&&◌}
use mathlib.Core.List.{List}
use native.Mathlib.Omega.{arith}
use lib.Dec.{eqb, ltb, leb}
use borrow.Author.Tests.{eqb-false, ne_eqb, ltb-true, leb-true, leb-false, lt-ltb, le-leb, not-true}
use Rattle.std.specs.Prelude.{Option, Some, None, Ok}
use Rattle.laws.specs.Sets.{Set, any, least, size}
use Rattle.laws.proofs.Tests.{split, clash, is_false, and_left, and_right, both}
use Rattle.laws.proofs.Laws.{any_none, any_all}
use Rattle.memory.specs.Many.{many}
use Rattle.memory.proofs.fill.Laws.{length_many}
use Rattle.memory.specs.Flash.{spans}
use Rattle.uf2_block.specs.Block.{field_at, has_flag}
use Rattle.uf2_block.specs.Region.{region_of}
use Rattle.uf2_block.specs.declared.Region.{Region}
use Rattle.uf2_block.specs.Regions.{good_region}
use Rattle.partitions.specs.declared.Settings.{Settings}
use Rattle.placement.specs.Place.{place_of}
use Rattle.placement.specs.declared.Place.{Place}
use Rattle.transfer.specs.Transfer.{same_kind}
use Rattle.transfer.specs.declared.Kind.TheVariants.{Flash}
use Rattle.transfer.specs.declared.Head.{Head}
use Rattle.transfer.specs.declared.State.TheVariants.{Idle}
use Rattle.uf2_checks.specs.Screen.{screen_of, Screening}
use Rattle.uf2_checks.specs.declared.Lengths.{Lengths}
use Rattle.arrival.specs.Arrive.{World, lengths_of, right_lengths}
use Rattle.arrival.specs.Lists.{receive_all}
use Rattle.arrival.proofs.Count.{placed_of}
use Rattle.arrival_claims.proofs.Screening.{lens, Board, Good, screen_good}
use Rattle.demand.specs.Demand.{File, is_data, address_of, ValidFile, Sent, seen_of, size_of, is_guarded, Plain, Contents, Ends, ListEnds, PlainAnswers}
use Rattle.demand.proofs.Files.{board, blocks_of, screen_block}
use Rattle.demand.proofs.Demand.{list_ends, plain_answers}
use Rattle.file_check.specs.declared.FileFault.TheVariants.{Guarded}
use Rattle.file_check.specs.Check.{Checked, piece_at, pieces_in, field_in, is_page, kind_alone, total_in, family_in, kind_in, same_number, near, overlaps, is_valid, is_sound, guards_in, is_guarding}
use Rattle.file_check.specs.Valid.{Start, file_of, Pieces, Good as GoodFile, answer_to, PlainAt, ValidIsValid, GuardedIsValid, NothingElseIsValid, PlainIsValid, Delivered, ValidArrives}
use Rattle.file_check.proofs.Sound.{Sound, sound, valid, pieces, at, kind_alone_lem, found_at, Fine, answer_is}

-- ---- regions

-- in no place no region counts
no_room : (x : ℕ) (g : Region) → good_region 0 x g ≡ false
unfolding good_region
no_room x g =
    is_false _
    (λ e.
    let a = eqb (g.start % 4096) 0 && eqb (g.len % 4096) 0 in
    let b = not (eqb g.len 0) in
    let c = leb 0x10000000 g.start in
    let d = leb (g.start - 0x10000000 + g.len) 0 in
    let u = leb g.start x in
    let v = leb (x + 256) (g.start + g.len) in
    let e6 = and_left (a && b && c && d && u) v e in
    let e5 = and_left (a && b && c && d) u e6 in
    let z : g.start - 0x10000000 + g.len ≤ 0 = leb-true _ _ (and_right (a && b && c) d e5) in
    let e4 = and_left (a && b && c) d e5 in
    let k : g.len ≢ 0 = eqb-false _ _ (not-true _ (and_right a b (and_left (a && b) c e4))) in
    absurd (k (omega arith)))

guards_is : (p : Option Place) (a : List ℕ) → good_region (size_of p) (field_at a 12) (region_of a) ≡ guards_in p a
guards_is None a = no_room (field_at a 12) (region_of a)
guards_is (Some p) a = refl

pub plain : (s : Settings) (n : Lengths) (f : List ℕ) (ok : Sound s n f) → any (pieces_in f) (is_guarding s n f) ≡ false → PlainAt s n (file_of n f)
plain s n f ok e w st k h =
    let i = least (pieces_in f) (λ i. eqb (field_in f i 20) k) in
    let z : is_guarding s n f i ≡ false = any_all (is_guarding s n f) (pieces_in f) e i (found_at s n f ok w st k h).0 in
    let a = piece_at f i in
    ap (λ (b : Bool). same_kind (kind_in n f) Flash && is_page f i && has_flag a 0x4000 && b)
    (ap (λ (x : Lengths). good_region (size_of (place_of s x.flash (family_in f))) (field_at a 12) (region_of a)) st.lengths
    ∙ guards_is (place_of s n.flash (family_in f)) a)
    ∙ z

-- ---- a sound answer

-- a board with buffers of lengths n
abbrev pub empty : Lengths → World
empty n =
    record {
      transfer = Idle;
      seen = many 16384 0;
      held = record { flash = many n.flash 0; sectors = many 1024 0; main = many n.main 0; xip = many n.xip 0 };
    }

pub empty_start : (n : Lengths) → Start n (empty n)
empty_start n =
    record {
      idle = refl;
      lengths = λ i. record { flash = length_many n.flash 0 i; main = length_many n.main 0 i; xip = length_many n.xip 0 i };
      seen = length_many 16384 0;
      sectors = length_many 1024 0;
    }

good_file : (s : Settings) (n : Lengths) (f : List ℕ) → Sound s n f → GoodFile s n f (file_of n f)
good_file s n f ok = record { pieces = pieces s n f ok (empty n) (empty_start n); valid = λ w st. valid s n f ok w st }

guarded_not : (b : Bool) (i : ℕ) {x : Checked} → x ≡ cond b (Err (Guarded i)) (Ok tt) → x ≡ Ok tt → b ≡ false
guarded_not true i e q = clash false (ap is_valid (sym e ∙ q)) refl
guarded_not false i e q = refl

no_region : (s : Settings) (n : Lengths) (f : List ℕ) → Sound s n f → answer_to s n f ≡ Ok tt → any (pieces_in f) (is_guarding s n f) ≡ false
no_region s n f ok e = guarded_not _ (least (pieces_in f) (is_guarding s n f)) (answer_is s n f ok) e

pub valid_is_valid : ValidIsValid
unfolding ValidIsValid
valid_is_valid s n f e =
    let ok = sound s n f (ap is_sound e) in
    (good_file s n f ok, plain s n f ok (no_region s n f ok e))

pub guarded_is_valid : GuardedIsValid
unfolding GuardedIsValid
guarded_is_valid s n f i e = good_file s n f (sound s n f (ap is_sound e))

-- ---- delivered

pub size_all : (n : ℕ) (S : Set) → ((k : ℕ) → k < n → S k ≡ true) → size n S ≡ n
unfolding size
size_all zero S h = refl
size_all (suc n) S h = rw (h n (omega arith)) (omega (arith, size_all n S (λ k l. h k (omega arith))))

-- demand 3 of a valid file without regions, every block of which came
ends_of : (s : Settings) (w : World) (F : File) → w.transfer ≡ Idle → ValidFile s w F → Plain s w F → (l : List (List ℕ)) → Sent s w F l
    → Ends s w F (seen_of F l) (receive_all s w l)
ends_of s w F idle ok p l sent = unfold ListEnds in list_ends s w F idle ok l sent p

delivered : (s : Settings) (w : World) (F : File) → w.transfer ≡ Idle → ValidFile s w F → Plain s w F → (l : List (List ℕ)) → Sent s w F l
    → ((k : ℕ) → k < F.total → seen_of F l k ≡ true) → Delivered s w F l
delivered s w F idle ok p l sent each =
    let ends = ends_of s w F idle ok p l sent in
    record {
      done = ends.counts.whole (size_all F.total (seen_of F l) each);
      contents = subst (λ (S : Set). Contents s w F S (receive_all s w l)) whole ends.contents;
      answers = unfold PlainAnswers in plain_answers s w F idle ok l sent p;
    }
  where
    whole : seen_of F l ≡ (λ k. ltb k F.total)
    whole = fun_ext (λ k. split (ltb k F.total) (λ y. each k (ltb-true _ _ y) ∙ sym y) (λ z. rw z))

pub valid_arrives : ValidArrives
unfolding ValidArrives
valid_arrives s w f l idle seen sectors e sent each =
    let n = lengths_of w.held in
    let st : Start n w = record { idle = idle; lengths = refl; seen = seen; sectors = sectors } in
    let ok = sound s n f (ap is_sound e) in
    delivered s w (file_of n f) idle (valid s n f ok w st) (plain s n f ok (no_region s n f ok e) w st) l sent
    (λ k h. both (lt-ltb k (total_in f) h) (each (at s n f ok k) (found_at s n f ok w st k h).0))

-- ---- and no other file

either_sound : (b : Bool) (i : ℕ) → is_sound (cond b (Err (Guarded i)) (Ok tt)) ≡ true
either_sound true i = refl
either_sound false i = refl

module _ (s : Settings) (w : World) (f : List ℕ) (F : File) (idle : w.transfer ≡ Idle) (ok : ValidFile s w F) (p : Pieces f F) where
  abbrev n : Lengths
  n = lengths_of w.held

  B : Board s w
  B = board s w F idle ok

  st : Start n w
  st = record { idle = idle; lengths = refl; seen = B.seen; sectors = B.sectors }

  many_pieces : pieces_in f ≡ F.total
  many_pieces = omega (arith, p.count)

  abbrev number : ℕ → ℕ
  number i = field_in f i 20

  -- what a block has, its piece has
  of_block : (A : Type 0) (g : List ℕ → A) (i : ℕ) → i < F.total → g (piece_at f i) ≡ g (F.block (number i))
  of_block A g i h = sym (ap g (p.each i h))

  screened : (i : ℕ) → i < F.total → screen_of s n Idle (piece_at f i) ≡ Ok (placed_of (blocks_of s w F) (number i))
  screened i h =
      of_block Screening (screen_of s n Idle) i h
      ∙ (λ j. screen_of s n (sym idle j) (F.block (number i)))
      ∙ screen_block s w F idle ok (number i) (p.below i h)

  kind_at : (i : ℕ) → i < F.total → kind_alone n (piece_at f i) ≡ F.kind
  kind_at i h =
      let e : screen_of s (lens w) w.transfer (piece_at f i) ≡ Ok (placed_of (blocks_of s w F) (number i)) =
      of_block Screening (screen_of s (lens w) w.transfer) i h ∙ screen_block s w F idle ok (number i) (p.below i h) in
      let g : Good s w (piece_at f i) (Ok (placed_of (blocks_of s w F) (number i))) = subst (Good s w (piece_at f i)) e (screen_good s w (piece_at f i)) in
      sym (kind_alone_lem s n w st (piece_at f i)) ∙ sym (ap (λ (x : Head). x.kind) g.head)

  page_data : (i : ℕ) → i < F.total → is_page f i ≡ is_data F (number i)
  page_data i h = of_block Bool (λ a. not (has_flag a 0x1)) i h

  -- two pieces with a byte in common are one
  overlap_not : (i j : ℕ) → i < F.total → j < i → overlaps f i j ≡ true → ⊥
  overlap_not i j h l e =
      let hj : j < F.total = omega arith in
      let yy = and_left (is_page f i && is_page f j) (near (field_in f j 12) (field_in f i 12)) e in
      let nn = and_right (is_page f i && is_page f j) (near (field_in f j 12) (field_in f i 12)) e in
      let yi = sym (page_data i h) ∙ and_left (is_page f i) (is_page f j) yy in
      let yj = sym (page_data j hj) ∙ and_right (is_page f i) (is_page f j) yy in
      let a = field_in f j 12 in
      let b = field_in f i 12 in
      let ea : a ≡ address_of F (number j) = of_block ℕ (λ x. field_at x 12) j hj in
      let eb : b ≡ address_of F (number i) = of_block ℕ (λ x. field_at x 12) i h in
      let la : a < b + 256 = ltb-true _ _ (and_left (ltb a (b + 256)) (ltb b (a + 256)) nn) in
      let lb : b < a + 256 = ltb-true _ _ (and_right (ltb a (b + 256)) (ltb b (a + 256)) nn) in
      split (leb a b)
      (λ q. let le : a ≤ b = leb-true _ _ q in
      let same = ok.disjoint (number j) (number i) b (p.below j hj) (p.below i h) yj yi (spans-at _ b (omega arith) (omega arith)) (spans-at _ b (omega arith) (omega arith)) in
      let d = p.once j i hj h same in omega arith)
      (λ q. let le : b < a = leb-false _ _ q in
      let same = ok.disjoint (number j) (number i) a (p.below j hj) (p.below i h) yj yi (spans-at _ a (omega arith) (omega arith)) (spans-at _ a (omega arith) (omega arith)) in
      let d = p.once j i hj h same in omega arith)
    where
      spans-at : (x j : ℕ) → x ≤ j → j < x + 256 → spans x j ≡ true
      spans-at x j u v = both (le-leb x j u) (lt-ltb j (x + 256) v)

  fine : (i : ℕ) → i < F.total → Fine s n f i
  fine i h =
      let z : 0 < F.total = ok.some in
      record {
        placed = placed_of (blocks_of s w F) (number i);
        passes = screened i h;
        beside = record {
          family = of_block ℕ (λ a. field_at a 28) i h ∙ ok.families (number i) (p.below i h) ∙ sym (of_block ℕ (λ a. field_at a 28) 0 z ∙ ok.families (number 0) (p.below 0 z));
          total = of_block ℕ (λ a. field_at a 24) i h ∙ ok.totals (number i) (p.below i h) ∙ sym (of_block ℕ (λ a. field_at a 24) 0 z ∙ ok.totals (number 0) (p.below 0 z));
          kind = kind_at i h ∙ sym (kind_at 0 z);
          new = any_none (same_number f i) i (λ j l. ne_eqb (number j) (number i) (λ e. let d = p.once j i (omega arith) h e in omega arith));
          apart = any_none (overlaps f i) i (λ j l. is_false (overlaps f i j) (λ e. overlap_not i j h l e));
        };
      }

  whole : Sound s n f
  whole =
      record {
        right = unfold right_lengths in rw (B.flash, B.main, B.xip);
        good = B.good;
        whole = omega (arith, p.count);
        some = λ e. omega (arith, p.count, ok.some);
        fines = λ i h. fine i (omega (arith, many_pieces));
        count = many_pieces ∙ sym (of_block ℕ (λ a. field_at a 24) 0 ok.some ∙ ok.totals (number 0) (p.below 0 ok.some));
      }

  -- a piece names a region that counts exactly if its block does
  guarding_is : (i : ℕ) → i < F.total → is_guarding s n f i ≡ is_guarded s w F (number i)
  guarding_is i h =
      let z : 0 < F.total = ok.some in
      let k : kind_in n f ≡ F.kind = kind_at 0 z in
      let m : family_in f ≡ F.family = of_block ℕ (λ a. field_at a 28) 0 z ∙ ok.families (number 0) (p.below 0 z) in
      let a : piece_at f i ≡ F.block (number i) = sym (p.each i h) in
      (λ t. same_kind (k t) Flash && not (has_flag (a t) 0x1) && has_flag (a t) 0x4000 && guards_in (place_of s n.flash (m t)) (a t))
      ∙ ap (λ (b : Bool). same_kind F.kind Flash && is_data F (number i) && has_flag (F.block (number i)) 0x4000 && b)
      (sym (guards_is (place_of s n.flash F.family) (F.block (number i))))

pub nothing_else_is_valid : NothingElseIsValid
unfolding NothingElseIsValid
nothing_else_is_valid s w f F idle ok p =
    let n = lengths_of w.held in
    ap is_sound (answer_is s n f (whole s w f F idle ok p))
    ∙ either_sound (any (pieces_in f) (is_guarding s n f)) (least (pieces_in f) (is_guarding s n f))

pub plain_is_valid : PlainIsValid
unfolding PlainIsValid
plain_is_valid s w f F idle ok p none =
    let n = lengths_of w.held in
    let ok-here = whole s w f F idle ok p in
    let count = many_pieces s w f F idle ok p in
    let unguarded : any (pieces_in f) (is_guarding s n f) ≡ false =
    any_none (is_guarding s n f) (pieces_in f)
    (λ i h.
    let hi : i < F.total = omega arith in
    guarding_is s w f F idle ok p i hi ∙ none (field_in f i 20) (p.below i hi)) in
    answer_is s n f ok-here ∙ rw unguarded
