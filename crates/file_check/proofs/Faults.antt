-- The answers are true. Assumes nothing.
use Prim.Native.Nat.{ℕ, ◌%◌, ◌<◌, ◌≤◌}
use Rattle.std.specs.Prelude.{Ok, Err}
use mathlib.Core.Path.{◌≡◌, refl, sym, ap, subst, ◌∙◌}
use mathlib.Core.Logic.{◌≢◌}
use mathlib.Core.Bool.{Bool, true, false, cond, not, ◌&&◌}
use mathlib.Core.List.{List}
use native.Mathlib.Omega.{arith}
use lib.Dec.{eqb}
use lib.ListN.{length}
use borrow.Author.Tests.{eqb-true, eqb-false, not-true, not-false}
use Rattle.std.specs.Prelude.{Ok, Err}
use Rattle.laws.specs.Sets.{any, least, size}
use Rattle.laws.proofs.Tests.{split, clash, and_left}
use Rattle.laws.proofs.Laws.{any_all, least_below, size_le}
use Rattle.partitions.specs.Settings.{good_settings}
use Rattle.partitions.specs.declared.Settings.{Settings}
use Rattle.memory.specs.Flash.{payload_of}
use Rattle.transfer.specs.Transfer.{same_kind}
use Rattle.transfer.specs.declared.Kind.{Kind}
use Rattle.transfer.specs.declared.State.TheVariants.{Idle}
use Rattle.uf2_checks.specs.Screen.{screen_of, Screening}
use Rattle.uf2_checks.specs.declared.Lengths.{Lengths}
use Rattle.uf2_checks.specs.declared.PlacedBlock.{PlacedBlock}
use Rattle.arrival.specs.Arrive.{World, right_lengths, receive_of, after_screening}
use Rattle.arrival.proofs.Heads.{kind_same, same_kind_lem}
use Rattle.arrival_claims.proofs.Screening.{lens, Board}
use Rattle.arrival_claims.proofs.DecisionFacts.{board_decides, right_true, step_late}
use Rattle.demand.proofs.Lists.{receive_refused}
use Rattle.file_check.specs.declared.FileFault.TheVariants.{BadBuffers, BadSettings, Ragged, Empty, Missing, Guarded}
use Rattle.file_check.specs.Check.{Checked, piece_at, pieces_in, field_in, kind_alone, total_in, family_in, kind_in, same_number, overlaps, beside_of, screened_to, fault_at, is_valid, is_faulty, is_missing, is_guarding, whole_of, pieces_of, right_maps, check_of, numbers_below}
use Rattle.file_check.specs.Valid.{Start}
use Rattle.file_check.specs.Faults.{Opens, First, Taken, Fits, Fine, Told, AnswersAreTrue}
use Rattle.file_check.proofs.Sound.{Fine as FinePiece, fine, board_of_lem, piece_size, counted, passing_of}
use Rattle.file_check.proofs.Theorems.{empty, empty_start, size_all}

valid_is : (x : Checked) → is_valid x ≡ true → x ≡ Ok tt
valid_is (Ok u) e = refl
valid_is (Err x) e = clash false e refl

module _ (s : Settings) (n : Lengths) (a b c : ℕ) (f : List ℕ) where
  abbrev T : Checked → Type 0
  T x = Told s n a b c f x

  by : (q : Bool) (x y : Checked) → (q ≡ true → T x) → (q ≡ false → T y) → T (cond q x y)
  by true x y p r = p refl
  by false x y p r = r refl

  module _ (o : Opens s n a b c f) where
    lengths : right_lengths 512 n 16384 1024 ≡ true
    lengths =
        let e : right_lengths 512 n a 1024 ≡ true = unfold right_maps in and_left (right_lengths 512 n a 1024) (eqb b 16384) (and_left (right_lengths 512 n a 1024 && eqb b 16384) (eqb c 2080) o.lengths) in
        subst (λ (x : ℕ). right_lengths 512 n x 1024 ≡ true) (right_true 512 n a 1024 e).seen e

    board : (w : World) → Start n w → Board s w
    board w st = board_of_lem s n w st lengths o.good

    -- ---- a piece with which something is wrong
    module _ (i : ℕ) (first : First s n f i) where
      screened : (w : World) (st : Start n w) → screen_of s (lens w) w.transfer (piece_at f i) ≡ screen_of s n Idle (piece_at f i)
      screened w st = λ j. screen_of s (st.lengths j) (st.idle j) (piece_at f i)

      beside-told : Taken s n f i → is_valid (beside_of n f i) ≡ false → T (beside_of n f i)
      unfolding beside_of
      beside-told t =
          split (eqb (field_in f i 28) (family_in f))
          (λ y1. rw y1
          (split (eqb (field_in f i 24) (total_in f))
          (λ y2. rw y2
          (split (same_kind (kind_alone n (piece_at f i)) (kind_in n f))
          (λ y3.
          let fits : Fits n f i = record { family = eqb-true _ _ y1; total = eqb-true _ _ y2; kind = kind_same _ _ y3 } in
          rw y3
          (split (any i (same_number f i))
          (λ y4. let r = least_below (same_number f i) i y4 in rw y4 (λ z. (o, first, t, fits, r.0, r.1, r.2)))
          (λ z4. rw z4
          (split (any i (overlaps f i))
          (λ y5. let r = least_below (overlaps f i) i y5 in rw y5 (λ z. (o, first, t, fits, z4, r.0, r.1, r.2)))
          (λ z5. rw z5 (λ z. clash true refl z))))))
          (λ z3. rw z3 (λ z. (o, first, t, eqb-true _ _ y1, eqb-true _ _ y2, λ e. clash (same_kind (kind_alone n (piece_at f i)) (kind_in n f)) (ap (λ (k : Kind). same_kind k (kind_in n f)) e ∙ same_kind_lem (kind_in n f)) z3)))))
          (λ z2. rw z2 (λ z. (o, first, t, eqb-true _ _ y1, eqb-false _ _ z2)))))
          (λ z1. rw z1 (λ z. (o, first, t, eqb-false _ _ z1)))

      taken : (p : PlacedBlock) → screen_of s n Idle (piece_at f i) ≡ Ok p → Taken s n f i
      unfolding receive_of after_screening
      taken p e w st =
          rw (board_decides s w (piece_at f i) (board w st) (piece_size f i first.here), screened w st ∙ e)
          (step_late w (payload_of (piece_at f i)) p _ w.transfer _)

      fault_told : is_valid (fault_at s n f i) ≡ false → T (fault_at s n f i)
      unfolding fault_at
      fault_told = go (screen_of s n Idle (piece_at f i)) refl
        where
          go : (x : Screening) → screen_of s n Idle (piece_at f i) ≡ x → is_valid (screened_to n f i x) ≡ false → T (screened_to n f i x)
          go (Err x) e z = (o, first, λ w st. receive_refused s w (piece_at f i) (board w st) (piece_size f i first.here) x (screened w st ∙ e))
          go (Ok p) e z = beside-told (taken p e) z

    -- ---- every piece is fine

    module _ (ok : Fine s n f) where
      finePiece : (i : ℕ) → i < pieces_in f → FinePiece s n f i
      finePiece i h = fine s n f i (ap is_valid (ok i h))

      -- as many numbers as pieces, each below the total
      sized : size (total_in f) (numbers_below f (pieces_in f)) ≡ pieces_in f
      sized =
          counted f (total_in f) (pieces_in f)
          (λ j l.
          let x = finePiece j l in
          let st = empty_start n in
          let g = passing_of s n f (empty n) st j x.placed x.passes in
          (omega (arith, g.below, x.beside.total), x.beside.new))

      missing-some : pieces_in f ≢ total_in f → (pieces_in f < total_in f) × (any (total_in f) (is_missing f) ≡ true)
      missing-some d =
          let l : size (total_in f) (numbers_below f (pieces_in f)) ≤ total_in f = size_le (total_in f) (numbers_below f (pieces_in f)) in
          let less : pieces_in f < total_in f = omega (arith, sized) in (
            less,
            split (any (total_in f) (is_missing f)) (λ y. y)
                (λ z. absurd (d (sym sized ∙ size_all (total_in f) (numbers_below f (pieces_in f)) (λ k h. not-false _ (any_all (is_missing f) (total_in f) z k h))))),
          )

      whole_told : T (whole_of s n f)
      unfolding whole_of
      whole_told =
          by (not (eqb (pieces_in f) (total_in f))) (Err (Missing (least (total_in f) (is_missing f)))) _
          (λ y.
          let m = missing-some (eqb-false _ _ (not-true _ y)) in
          let r = least_below (is_missing f) (total_in f) m.1 in
          (o, ok, m.0, r.0, r.1, r.2))
          (λ z.
          let e : pieces_in f ≡ total_in f = eqb-true _ _ (not-false _ z) in
          by (any (pieces_in f) (is_guarding s n f)) (Err (Guarded (least (pieces_in f) (is_guarding s n f)))) (Ok tt)
          (λ y. let r = least_below (is_guarding s n f) (pieces_in f) y in (o, ok, e, r.0, r.1, r.2))
          (λ g. (o, ok, e, g)))

    pieces-told : T (pieces_of s n f)
    unfolding pieces_of
    pieces-told =
        by (any (pieces_in f) (is_faulty s n f)) _ _
        (λ y.
        let r = least_below (is_faulty s n f) (pieces_in f) y in
        let i = least (pieces_in f) (is_faulty s n f) in
        fault_told i
        (record { here = r.0; before = λ j l. valid_is _ (not-false _ (any_all (is_faulty s n f) i r.2 j l)) })
        (not-true _ r.1))
        (λ z. whole_told (λ j l. valid_is _ (not-false _ (any_all (is_faulty s n f) (pieces_in f) z j l))))

  told : T (check_of s n a b c f)
  unfolding check_of
  told =
      by (not (right_maps n a b c)) (Err BadBuffers) _
      (λ y. not-true _ y)
      (λ z1.
      let l = not-false _ z1 in
      by (not (good_settings s n.flash)) (Err BadSettings) _
      (λ y. (l, not-true _ y))
      (λ z2.
      let g = not-false _ z2 in
      by (not (eqb (length f % 512) 0)) (Err Ragged) _
      (λ y. (l, g, eqb-false _ _ (not-true _ y)))
      (λ z3.
      by (eqb (length f) 0) (Err Empty) _
      (λ y. (l, g, eqb-true _ _ y))
      (λ z4. pieces-told (record { lengths = l; good = g; whole = eqb-true _ _ (not-false _ z3); some = eqb-false _ _ z4 })))))

pub answers_are_true : AnswersAreTrue
unfolding AnswersAreTrue
answers_are_true s n a b c f = told s n a b c f
