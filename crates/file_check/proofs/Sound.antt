-- Pieces with which nothing is wrong are the blocks of a valid file. Assumes nothing.
use Prim.Native.Nat.{ℕ, zero, suc, ◌+◌, ◌*◌, ◌%◌, ◌<◌, ◌≤◌}
use Rattle.std.specs.Prelude.{Ok, Err}
use mathlib.Core.Path.{◌≡◌, refl, sym, ap, subst, ◌∙◌}
use mathlib.Core.Logic.{◌≢◌}
use mathlib.Core.Bool.{Bool, true, false, not, cond, ◌||◌, or_comm}
use mathlib.Core.List.{List}
use native.Mathlib.Omega.{arith}
use lib.Dec.{eqb, ltb, leb}
use lib.ListN.{length, drop, length-drop}
use lib.Seq.{length-take-le}
use borrow.Author.Tests.{eqb-true, eqb-false, eq-eqb, ne_eqb, ltb-true, ltb-false, leb-true, lt-ltb, le-leb, not-true, not-false}
use Rattle.std.specs.Prelude.{Ok, Err}
use Rattle.laws.specs.Sets.{none, add, size, any, least}
use Rattle.laws.proofs.Tests.{split, clash, eqb_same, and_left, and_right, both}
use Rattle.laws.proofs.Laws.{size_none, size_add, size_full, size_cong, any_all, any_none, least_below, least_is}
use Rattle.memory.specs.Flash.{flash_length, payload_of, spans}
use Rattle.uf2_block.specs.Block.{field_at, has_flag, fields_of}
use Rattle.partitions.specs.Settings.{good_settings}
use Rattle.partitions.specs.declared.Settings.{Settings}
use Rattle.transfer.specs.Transfer.{same_kind, good_state}
use Rattle.transfer.specs.declared.Kind.{Kind}
use Rattle.transfer.specs.declared.Kind.TheVariants.{Flash, MainRam, XipRam}
use Rattle.transfer.specs.declared.State.TheVariants.{Idle}
use Rattle.uf2_checks.specs.Screen.{window_of, window_kind, screen_of, Screening}
use Rattle.uf2_checks.specs.declared.Lengths.{Lengths}
use Rattle.uf2_checks.specs.declared.PlacedBlock.{PlacedBlock}
use Rattle.arrival.specs.Arrive.{World, ram_length, right_lengths, receive_of, after_screening}
use Rattle.arrival.specs.Windows.{lies, kind_of}
use Rattle.arrival.proofs.Heads.{kind_same, same_kind_lem}
use Rattle.arrival_claims.proofs.Screening.{lens, Board, Passing, Good, screen_good, kind_window}
use Rattle.arrival_claims.proofs.DecisionFacts.{board_decides, right_true, step_late}
use Rattle.demand.specs.Demand.{File, answer_number, ValidFile}
use Rattle.file_check.specs.declared.FileFault.TheVariants.{BadBuffers, BadSettings, Ragged, Empty, OtherFamily, OtherTotal, OtherKind, SameNumber, Overlap, Missing, Guarded}
use Rattle.file_check.specs.Check.{Checked, piece_at, pieces_in, field_in, is_page, kind_alone, total_in, family_in, kind_in, numbers_below, same_number, near, overlaps, beside_of, screened_to, fault_at, is_valid, is_sound, is_faulty, is_guarding, whole_of, pieces_of, right_maps, check_of}
use Rattle.file_check.specs.Valid.{Start, file_of, Pieces, answer_to}

-- ---- a piece with which nothing is wrong

pub record Beside (n : Lengths) (f : List ℕ) (i : ℕ) : Type 0 where
  pub family : field_in f i 28 ≡ family_in f
  pub total : field_in f i 24 ≡ total_in f
  pub kind : kind_alone n (piece_at f i) ≡ kind_in n f
  pub new : any i (same_number f i) ≡ false
  pub apart : any i (overlaps f i) ≡ false

-- a condition that a sound answer has passed
sound_by : (b : Bool) (x y : Checked) → is_sound x ≡ false → is_sound (cond b x y) ≡ true → (b ≡ false) × (is_sound y ≡ true)
sound_by true x y z e = clash (is_sound x) e z
sound_by false x y z e = (refl, e)

valid_sound : (x : Checked) → is_valid x ≡ true → is_sound x ≡ true
valid_sound (Ok u) e = refl
valid_sound (Err x) e = clash false e refl

beside_sound : (n : Lengths) (f : List ℕ) (i : ℕ) → is_sound (beside_of n f i) ≡ true → Beside n f i
unfolding beside_of
beside_sound n f i e =
    let p = sound_by _ (Err (OtherFamily i)) _ refl e in
    let q = sound_by _ (Err (OtherTotal i)) _ refl p.1 in
    let r = sound_by _ (Err (OtherKind i)) _ refl q.1 in
    let t = sound_by _ (Err (SameNumber i _)) _ refl r.1 in
    let u = sound_by _ (Err (Overlap i _)) (Ok tt) refl t.1 in
    record {
      family = eqb-true _ _ (not-false _ p.0);
      total = eqb-true _ _ (not-false _ q.0);
      kind = kind_same _ _ (not-false _ r.0);
      new = t.0;
      apart = u.0;
    }

pub beside : (n : Lengths) (f : List ℕ) (i : ℕ) → is_valid (beside_of n f i) ≡ true → Beside n f i
beside n f i e = beside_sound n f i (valid_sound (beside_of n f i) e)

beside_valid : (n : Lengths) (f : List ℕ) (i : ℕ) → Beside n f i → is_valid (beside_of n f i) ≡ true
unfolding beside_of
beside_valid n f i b =
    rw (
      eq-eqb (field_in f i 28) (family_in f) b.family,
      eq-eqb (field_in f i 24) (total_in f) b.total,
      ap (λ (k : Kind). same_kind k (kind_in n f)) b.kind ∙ same_kind_lem (kind_in n f),
      b.new,
      b.apart,
    )

pub record Fine (s : Settings) (n : Lengths) (f : List ℕ) (i : ℕ) : Type 0 where
  pub placed : PlacedBlock
  pub passes : screen_of s n Idle (piece_at f i) ≡ Ok placed
  pub beside : Beside n f i

pub fine : (s : Settings) (n : Lengths) (f : List ℕ) (i : ℕ) → is_valid (fault_at s n f i) ≡ true → Fine s n f i
unfolding fault_at
fine s n f i e = go (screen_of s n Idle (piece_at f i)) refl e
  where
    go : (x : Screening) → screen_of s n Idle (piece_at f i) ≡ x → is_valid (screened_to n f i x) ≡ true → Fine s n f i
    go (Err x) q e = clash false e refl
    go (Ok p) q e = record { placed = p; passes = q; beside = beside n f i e }

-- ---- every number is there

pub eqb_swap : (a b : ℕ) → eqb a b ≡ eqb b a
eqb_swap a b =
    split (eqb b a)
    (λ y. eq-eqb a b (sym (eqb-true b a y)) ∙ sym y)
    (λ z. ne_eqb a b (λ e. eqb-false b a z (sym e)) ∙ sym z)

pub below_more : (f : List ℕ) (i k : ℕ) → numbers_below f (suc i) k ≡ add (field_in f i 20) (numbers_below f i) k
unfolding any
below_more f i k = or_comm (numbers_below f i k) (eqb (field_in f i 20) k) ∙ ap (λ (b : Bool). b || numbers_below f i k) (eqb_swap (field_in f i 20) k)

-- as many different numbers as pieces
pub counted : (f : List ℕ) (t i : ℕ) → ((j : ℕ) → j < i → (field_in f j 20 < t) × (any j (same_number f j) ≡ false)) → size t (numbers_below f i) ≡ i
counted f t zero h = size_cong t (numbers_below f 0) none (λ k l. unfold any in refl) ∙ size_none t
counted f t (suc i) h =
    size_cong t (numbers_below f (suc i)) (add (field_in f i 20) (numbers_below f i)) (λ k l. below_more f i k)
    ∙ size_add t (numbers_below f i) (field_in f i 20) (h i (omega arith)).0 (h i (omega arith)).1
    ∙ ap suc (counted f t i (λ j l. h j (omega arith)))

-- ---- the pieces

pub piece_size : (f : List ℕ) (i : ℕ) → i < pieces_in f → length (piece_at f i) ≡ 512
unfolding piece_at
piece_size f i h = length-take-le 512 (drop (i * 512) f) (omega (arith, length-drop (i * 512) f))

-- the kind of an arrival at an Idle start
pub kind_alone_lem : (s : Settings) (n : Lengths) (w : World) → Start n w → (a : List ℕ) → kind_of w a ≡ kind_alone n a
kind_alone_lem s n w st a =
    split (has_flag a 0x1)
    (λ y. unfold kind_of in rw (y, st.idle))
    (λ z. kind_window s w a z ∙ unfold fields_of in rw z (ap (λ (x : Lengths). window_kind (window_of x (field_at a 12))) st.lengths))

pub spans_near : (a b j : ℕ) → spans a j ≡ true → spans b j ≡ true → near a b ≡ true
spans_near a b j p q =
    let pa : a ≤ j = leb-true _ _ (and_left (leb a j) (ltb j (a + 256)) p) in
    let pb : j < a + 256 = ltb-true _ _ (and_right (leb a j) (ltb j (a + 256)) p) in
    let qa : b ≤ j = leb-true _ _ (and_left (leb b j) (ltb j (b + 256)) q) in
    let qb : j < b + 256 = ltb-true _ _ (and_right (leb b j) (ltb j (b + 256)) q) in
    both (lt-ltb a _ (omega arith)) (lt-ltb b _ (omega arith))

-- rows 1 to 3 are passed at such a start
pub board_of_lem : (s : Settings) (n : Lengths) (w : World) → Start n w → right_lengths 512 n 16384 1024 ≡ true → good_settings s n.flash ≡ true → Board s w
board_of_lem s n w st right good =
    let r = right_true 512 n 16384 1024 right in
    let e = st.lengths in
    record {
      flash = ap (λ (x : Lengths). flash_length x.flash) e ∙ r.flash;
      seen = st.seen;
      sectors = st.sectors;
      main = ap (λ (x : Lengths). ram_length MainRam x.main) e ∙ r.main;
      xip = ap (λ (x : Lengths). ram_length XipRam x.xip) e ∙ r.xip;
      good = ap (λ (x : Lengths). good_settings s x.flash) e ∙ good;
      state = rw st.idle (unfold good_state in refl);
    }

-- a piece that passes at such a start
pub passing_of : (s : Settings) (n : Lengths) (f : List ℕ) (w : World) → Start n w → (i : ℕ) (p : PlacedBlock) → screen_of s n Idle (piece_at f i) ≡ Ok p
    → Passing s w (piece_at f i) p
passing_of s n f w st i p e =
    subst (Good s w (piece_at f i)) ((λ j. screen_of s (st.lengths j) (st.idle j) (piece_at f i)) ∙ e) (screen_good s w (piece_at f i))

-- where the conditions hold
pub record Sound (s : Settings) (n : Lengths) (f : List ℕ) : Type 0 where
  pub right : right_lengths 512 n 16384 1024 ≡ true
  pub good : good_settings s n.flash ≡ true
  pub whole : length f % 512 ≡ 0
  pub some : length f ≢ 0
  pub fines : (i : ℕ) → i < pieces_in f → Fine s n f i
  pub count : pieces_in f ≡ total_in f

module _ (s : Settings) (n : Lengths) (f : List ℕ) (ok : Sound s n f) where
  -- where block k stands
  abbrev pub at : ℕ → ℕ
  at k = least (pieces_in f) (λ i. eqb (field_in f i 20) k)

  pub at_of : (i : ℕ) → i < pieces_in f → at (field_in f i 20) ≡ i
  at_of i h = least_is (λ j. eqb (field_in f j 20) (field_in f i 20)) (pieces_in f) i h (ok.fines i h).beside.new (eqb_same (field_in f i 20))

  module _ (w : World) (st : Start n w) where
    board : Board s w
    board = board_of_lem s n w st ok.right ok.good

    screened : (i : ℕ) (h : i < pieces_in f) → screen_of s (lens w) w.transfer (piece_at f i) ≡ Ok (ok.fines i h).placed
    screened i h = (λ j. screen_of s (st.lengths j) (st.idle j) (piece_at f i)) ∙ (ok.fines i h).passes

    passing : (i : ℕ) (h : i < pieces_in f) → Passing s w (piece_at f i) (ok.fines i h).placed
    passing i h = subst (Good s w (piece_at f i)) (screened i h) (screen_good s w (piece_at f i))

    pub number_below : (i : ℕ) → i < pieces_in f → field_in f i 20 < total_in f
    number_below i h = omega (arith, (passing i h).below, (ok.fines i h).beside.total)

    pub found_at : (k : ℕ) → k < total_in f → (at k < pieces_in f) × (field_in f (at k) 20 ≡ k)
    found_at k h =
        let c : size (total_in f) (numbers_below f (pieces_in f)) ≡ pieces_in f = counted f (total_in f) (pieces_in f) (λ j l. (number_below j l, (ok.fines j l).beside.new)) in
        let y : numbers_below f (pieces_in f) k ≡ true = size_full (total_in f) (numbers_below f (pieces_in f)) k (omega (arith, c, ok.count)) h in
        let r = least_below (λ i. eqb (field_in f i 20) k) (pieces_in f) y in
        (r.0, eqb-true _ _ r.1)

    kind_is : (i : ℕ) → i < pieces_in f → kind_of w (piece_at f i) ≡ kind_in n f
    kind_is i h = kind_alone_lem s n w st (piece_at f i) ∙ (ok.fines i h).beside.kind

    passes_at : (i : ℕ) → i < pieces_in f → 12 ≤ answer_number s w (piece_at f i)
    unfolding receive_of after_screening
    passes_at i h =
        rw (board_decides s w (piece_at f i) board (piece_size f i h), screened i h)
        (step_late w (payload_of (piece_at f i)) (ok.fines i h).placed _ w.transfer _)

    -- two data pieces with a byte in common are not one before the other
    apart : (a b j : ℕ) → b < pieces_in f → a < b → is_page f a ≡ true → is_page f b ≡ true → spans (field_in f a 12) j ≡ true → spans (field_in f b 12) j ≡ true → ⊥
    apart a b j h l ya yb p q =
        clash (overlaps f b a) (both (both yb ya) (spans_near (field_in f a 12) (field_in f b 12) j p q))
        (any_all (overlaps f b) b (ok.fines b h).beside.apart a l)

    pub valid : ValidFile s w (file_of n f)
    valid =
        record {
          some = omega (arith, ok.count, ok.whole, ok.some);
          numbers = λ k h. (found_at k h).1;
          families = λ k h. (ok.fines (at k) (found_at k h).0).beside.family;
          totals = λ k h. (ok.fines (at k) (found_at k h).0).beside.total;
          disjoint = disjoint;
          kinds = kinds;
          quiet = quiet;
          passes = λ k h. passes_at (at k) (found_at k h).0;
        }
      where
        F : File
        F = file_of n f

        disjoint : (i k j : ℕ) → i < total_in f → k < total_in f → is_page f (at i) ≡ true → is_page f (at k) ≡ true
            → spans (field_in f (at i) 12) j ≡ true → spans (field_in f (at k) 12) j ≡ true → i ≡ k
        disjoint i k j hi hk yi yk p q =
            split (eqb (at i) (at k))
            (λ e. sym (found_at i hi).1 ∙ ap (λ (x : ℕ). field_in f x 20) (eqb-true _ _ e) ∙ (found_at k hk).1)
            (λ z.
            let d : at i ≢ at k = eqb-false _ _ z in
            split (ltb (at i) (at k))
            (λ l. absurd (apart (at i) (at k) j (found_at k hk).0 (ltb-true _ _ l) yi yk p q))
            (λ l. absurd (apart (at k) (at i) j (found_at i hi).0 (omega (arith, ltb-false (at i) (at k) l)) yk yi q p)))

        kinds : (k : ℕ) → k < total_in f → is_page f (at k) ≡ true → lies (kind_in n f) (field_in f (at k) 12) ≡ true
        kinds k h y =
            let i = at k in
            let z : has_flag (piece_at f i) 0x1 ≡ false = not-true (has_flag (piece_at f i) 0x1) y in
            let p = (passing i (found_at k h).0).page z in
            subst (λ (u : Kind). lies u (field_in f i 12) ≡ true) (kind_is i (found_at k h).0)
            (both (le-leb _ _ p.low) (lt-ltb _ _ p.high))

        quiet : kind_in n f ≢ Flash → (k : ℕ) → k < total_in f → is_page f (at k) ≡ true
        quiet d k h =
            let i = at k in
            split (has_flag (piece_at f i) 0x1)
            (λ y. absurd (d (sym (ok.fines i (found_at k h).0).beside.kind ∙ rw y)))
            (λ z. rw z)

    pub pieces : Pieces f (file_of n f)
    pieces =
        record {
          count = omega (arith, ok.count, ok.whole);
          below = λ i h. number_below i (omega (arith, ok.count));
          each = λ i h. ap (piece_at f) (at_of i (omega (arith, ok.count)));
          once = λ i j hi hj e. sym (at_of i (omega (arith, ok.count))) ∙ ap at e ∙ at_of j (omega (arith, ok.count));
        }

-- ---- what the answer says

-- what is wrong with a piece is never a region
piece_fault : (s : Settings) (n : Lengths) (f : List ℕ) (i : ℕ) → is_sound (fault_at s n f i) ≡ true → is_valid (fault_at s n f i) ≡ true
unfolding fault_at
piece_fault s n f i e = go (screen_of s n Idle (piece_at f i)) e
  where
    go : (x : Screening) → is_sound (screened_to n f i x) ≡ true → is_valid (screened_to n f i x) ≡ true
    go (Err x) e = e
    go (Ok p) e = beside_valid n f i (beside_sound n f i e)

module _ (s : Settings) (n : Lengths) (f : List ℕ) where
  -- the first piece with which something is wrong is told
  pieces_fine : is_sound (pieces_of s n f) ≡ true → (any (pieces_in f) (is_faulty s n f) ≡ false) × (is_sound (whole_of s n f) ≡ true)
  unfolding pieces_of
  pieces_fine e =
      split (any (pieces_in f) (is_faulty s n f))
      (λ y.
      let r = least_below (is_faulty s n f) (pieces_in f) y in
      let i = least (pieces_in f) (is_faulty s n f) in
      clash (is_valid (fault_at s n f i)) (piece_fault s n f i (rw y at e)) (not-true (is_valid (fault_at s n f i)) r.1))
      (λ z. (z, rw z at e))

  pub sound : is_sound (answer_to s n f) ≡ true → Sound s n f
  unfolding check_of right_maps whole_of
  sound e =
      let p = sound_by _ (Err BadBuffers) _ refl e in
      let q = sound_by _ (Err BadSettings) _ refl p.1 in
      let r = sound_by _ (Err Ragged) _ refl q.1 in
      let t = sound_by _ (Err Empty) _ refl r.1 in
      let u = pieces_fine t.1 in
      let v = sound_by _ (Err (Missing _)) _ refl u.1 in
      record {
        right = and_left _ true (and_left _ true (not-false _ p.0));
        good = not-false _ q.0;
        whole = eqb-true _ _ (not-false _ r.0);
        some = eqb-false _ _ t.0;
        fines = λ i h. fine s n f i (not-false _ (any_all (is_faulty s n f) (pieces_in f) u.0 i h));
        count = eqb-true _ _ (not-false _ v.0);
      }

-- ---- and back: where the conditions hold, the answer is sound

pub fine_valid : (s : Settings) (n : Lengths) (f : List ℕ) (i : ℕ) → Fine s n f i → is_valid (fault_at s n f i) ≡ true
unfolding fault_at
fine_valid s n f i x = rw x.passes (beside_valid n f i x.beside)

pub answer_is : (s : Settings) (n : Lengths) (f : List ℕ) → Sound s n f
    → answer_to s n f ≡ cond (any (pieces_in f) (is_guarding s n f)) (Err (Guarded (least (pieces_in f) (is_guarding s n f)))) (Ok tt)
unfolding check_of right_maps pieces_of whole_of
answer_is s n f ok =
    rw (
      ok.right,
      ok.good,
      eq-eqb (length f % 512) 0 ok.whole,
      ne_eqb (length f) 0 ok.some,
      any_none (is_faulty s n f) (pieces_in f) (λ i h. ap not (fine_valid s n f i (ok.fines i h))),
      eq-eqb (pieces_in f) (total_in f) ok.count,
    )
