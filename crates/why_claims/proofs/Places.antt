-- A place asked for alone: its answer is the receiver's, and its reason the true one. Assumes nothing.
use Rattle.std.specs.Prelude.{Result, Ok, Err}
use mathlib.Core.Path.{◌≡◌, refl, sym, ap, subst, ◌∙◌}
use mathlib.Core.Bool.{true, cond, not}
use mathlib.Core.Logic.{⊎_elim}
use Prim.Native.Nat.{ℕ, ◌<◌, ◌≤◌}
use lib.ListN.{get_or}
use native.Mathlib.Omega.{arith}
use Rattle.std.specs.Prelude.{Option, Some, None, Ok, Err}
use Rattle.laws.proofs.Tests.{split}
use Rattle.memory.specs.Flash.{flash_length}
use Rattle.partitions.specs.declared.Settings.{Settings}
use Rattle.partitions.specs.Settings.{entry_at, good_settings}
use Rattle.placement.specs.Place.{used_count, place_of, found_at, ask_of, place_answer_number, place_from}
use Rattle.placement.specs.declared.Place.{Place}
use Rattle.placement.specs.declared.PlaceError.TheVariants as ask
use Rattle.why_place.specs.declared.Rule.TheVariants.{Absolute, NoTable}
use Rattle.partitions.proofs.Laws.{good_count}
use Rattle.placement.proofs.Laws.{ask_length, ask_settings, ask_place}
use Rattle.transfer.specs.Transfer.{number_of}
use Rattle.transfer.specs.declared.Answer.{Answer}
use Rattle.transfer.specs.declared.Answer.TheVariants as answer
use Rattle.why_settings.specs.Faults.{first_fault}
use Rattle.why_place.specs.Placing.{denies, Marked, flash_access, granted_spot, spot_by, spot_of, spot_place, SpotTrue}
use Rattle.why_place.specs.declared.Denial.TheVariants.{NoEntry}
use Rattle.why_place.specs.declared.Origin.{Origin}
use Rattle.why_place.specs.declared.Origin.TheVariants as origin
use Rattle.why_place.proofs.Theorems.{granted_is_placed, spot_is_placed, place_is_true}
use Rattle.why_causes.specs.Causes.{answer_of, reason_with}
use Rattle.why_causes.specs.Checks.{by_numbers, row_of, or_next, or_last, Deciding}
use Rattle.why_causes.specs.Lengths.{flash_row}
use Rattle.why_causes.proofs.Rows.{deciding}
use Rattle.why_causes.specs.declared.Cause.{Cause}
use Rattle.why_causes.specs.declared.Cause.TheVariants.{NoPlace, Kept}
use Rattle.why_causes.specs.declared.Reason.{Reason}
use Rattle.why.specs.Parts.{finding_row, access_row, place_part}
use Rattle.why.specs.Why.{entries_of}
use Rattle.why.specs.Placed.{place_checks, place_test, holds_of, placed_spot, placed_by, placed_of, placed_number, placed_marks, why_place_of}
use Rattle.why.proofs.Laws.{place_parts}
use Rattle.why_claims.specs.Claims.{PlaceAnswerIsTheReceivers, refusal_or, PlaceReasonIsTrue, FoundTrue, FoundPlaceIsTrue, place_named, FoundPlaceIsTheReceivers, PlaceMarksAreTrue}
use Rattle.why_claims.proofs.Answers.{told, told_next, flash_answer}
use Rattle.why_claims.proofs.Agree.{finding_answer, flash_denied, flash_open}
use Rattle.why_claims.proofs.Fields.{mark_fields, low_used, first_fields}
use Rattle.settings_claims.proofs.Targeting.{gets_said}
use Rattle.why_claims.proofs.Theorems.{never, decided_holds, marks_denied}
use Rattle.why_place.specs.declared.Denial.{Denial}

-- a row whose answer is the same whatever comes after it decides, and one that leaves what comes after it passes
number_decides : (r : Result (Unit {0}) Reason) (q : Result Origin Reason) (x : Answer) → told r answer.Kept ≡ x → told r answer.Noted ≡ x → placed_number (placed_by r q) ≡ number_of x
number_decides (Ok u) q x e h = let z : answer.Kept ≡ answer.Noted = e ∙ sym h in absurd (let v : ◌≡◌ {A = ℕ} 0 1 = cc in omega arith)
number_decides (Err z) q x e h = ap number_of e

number_passes : (r : Result (Unit {0}) Reason) (q : Result Origin Reason) → told r answer.Kept ≡ answer.Kept → told r answer.Noted ≡ answer.Noted → placed_number (placed_by r q) ≡ placed_number q
number_passes (Ok u) q e h = refl
number_passes (Err z) q e h = let v : answer.Kept ≡ answer.Noted = sym e ∙ h in absurd (let u : ◌≡◌ {A = ℕ} 0 1 = cc in omega arith)

-- the reason of no refusal
abbrev no_reason : Reason
no_reason = reason_with Kept 0 0

module _ (s : Settings) (len f : ℕ) where
  abbrev row : Result (Unit {0}) Reason
  row = row_of (holds_of s len f) (place_checks s len f)

  row_told : (y : Answer) → told row y ≡ cond (not (flash_length len)) answer.BadBuffers (cond (not (good_settings s len)) answer.BadSettings (told (access_row f (flash_access s f)) y))
  unfolding place_part
  row_told y =
      let z = told (access_row f (flash_access s f)) y in
      ap (λ (r : Result (Unit {0}) Reason). told r y) (place_parts s len f)
      ∙ told_next (place_part s len) (access_row f (flash_access s f)) y
      ∙ told_next (row_of by_numbers (flash_row len)) (finding_row s len (first_fault s len)) z
      ∙ flash_answer len (told (finding_row s len (first_fault s len)) z)
      ∙ ap (cond (not (flash_length len)) answer.BadBuffers) (finding_answer s len z)

  -- a family that is not shut out has a spot
  granted_found : flash_access s f ≡ Ok tt → (z : Result Origin Denial) → granted_spot s f ≡ z → (y : Reason) → (placed_number (placed_spot f z) ≡ 0) × (refusal_or y (placed_spot f z) ≡ y)
  unfolding spot_of
  granted_found g (Err x) e y =
      let p : spot_place s len (spot_of s f) ≡ None = rw (g, e) refl in
      absurd ((granted_is_placed s len f).0 g (sym (spot_is_placed s len f) ∙ p))
  granted_found g (Ok (origin.Whole r)) e y = (refl, refl)
  granted_found g (Ok (origin.Entry p k)) e y = (refl, refl)

  -- the last of the rows passes where all do
  access_granted : (p : Result (Unit {0}) Reason) (x : Result (Unit {0}) Denial) → or_next p (access_row f x) ≡ Ok tt → x ≡ Ok tt
  access_granted p (Ok u) e = refl
  access_granted (Ok o) (Err x) e = absurd (let u : ◌≡◌ {A = ℕ} 0 1 = cc in omega arith)
  access_granted (Err z) (Err x) e = absurd (let u : ◌≡◌ {A = ℕ} 0 1 = cc in omega arith)

  number_at : (p : Option Place) → place_of s len f ≡ p → flash_length len ≡ true → good_settings s len ≡ true → placed_number (placed_of s len f) ≡ place_answer_number (found_at p)
  unfolding placed_of
  number_at None e l g =
      let denied : (y : Answer) → told row y ≡ answer.NoPlace = λ y. row_told y ∙ rw (l, g) (flash_denied s len f y e) in
      number_decides row (placed_spot f (granted_spot s f)) answer.NoPlace (denied answer.Kept) (denied answer.Noted)
  number_at (Some p) e l g =
      let open_is : (y : Answer) → told row y ≡ y = λ y. row_told y ∙ rw (l, g) (flash_open s len f y e) in
      number_passes row (placed_spot f (granted_spot s f)) (open_is answer.Kept) (open_is answer.Noted)
      ∙ (granted_found ((granted_is_placed s len f).1 (λ h. let q : None ≡ Some p = sym h ∙ e in let z : ◌≡◌ {A = ℕ} 0 1 = cc in omega arith)) (granted_spot s f) refl no_reason).0

  answer_is_asked : placed_number (placed_of s len f) ≡ place_answer_number (ask_of s len f)
  unfolding placed_of
  answer_is_asked =
      split (flash_length len)
      (λ l.
      split (good_settings s len)
      (λ g. number_at (place_of s len f) refl l g ∙ ap place_answer_number (sym (ask_place s len f l g)))
      (λ g.
      let bad : (y : Answer) → told row y ≡ answer.BadSettings = λ y. row_told y ∙ rw (l, g) refl in
      number_decides row (placed_spot f (granted_spot s f)) answer.BadSettings (bad answer.Kept) (bad answer.Noted)
      ∙ ap place_answer_number (sym (ask_settings s len f l g))))
      (λ l.
      let bad : (y : Answer) → told row y ≡ answer.BadBuffers = λ y. row_told y ∙ rw l refl in
      number_decides row (placed_spot f (granted_spot s f)) answer.BadBuffers (bad answer.Kept) (bad answer.Noted)
      ∙ ap place_answer_number (sym (ask_length s len f l)))

  reason_decides : (y : Reason) → Deciding (holds_of s len f) y (place_checks s len f) (refusal_or y (placed_of s len f))
  unfolding placed_of
  reason_decides y =
      subst (Deciding (holds_of s len f) y (place_checks s len f)) (by_row row refl) (deciding (holds_of s len f) y (place_checks s len f))
    where
      by_row : (r : Result (Unit {0}) Reason) → row ≡ r → or_last y r ≡ refusal_or y (placed_by r (placed_spot f (granted_spot s f)))
      by_row (Err x) e = refl
      by_row (Ok u) e =
          sym (granted_found (access_granted (place_part s len) (flash_access s f) (sym (place_parts s len f) ∙ e)) (granted_spot s f) refl y).1

  -- ---- where no entry takes the family

  marks_true : (x : Reason) → placed_of s len f ≡ Err x → x.cause ≡ NoPlace NoEntry → (k : ℕ) → k < used_count s.count
      → Marked (entry_at s.table k) f (get_or (placed_marks s f (placed_of s len f)) k 0)
  marks_true x e h k l =
      let d = subst (λ (p : Result Origin Reason). Deciding (holds_of s len f) no_reason (place_checks s len f) (refusal_or no_reason p)) e (reason_decides no_reason) in
      let t : denies s f NoEntry ≡ true =
      ⊎_elim
      (λ q. let c : NoPlace NoEntry ≡ Kept = sym h ∙ ap (λ (r : Reason). r.cause) q in let z : ◌≡◌ {A = ℕ} 0 1 = cc in absurd (never z))
      (λ q. ap (λ (c : Cause). place_test s len f c x.got x.against) (sym h) ∙ q)
      (decided_holds (holds_of s len f) no_reason d) in
      rw (e, ap (λ (c : Cause). get_or (entries_of s f c) k 0) h) (marks_denied s f t k l)

  -- ---- where it is found

  -- what a spot tells is told of the place
  spot_found : s.count ≤ 16 → (z : Result Origin Denial) → SpotTrue s f z → FoundTrue s f (placed_spot f z)
  spot_found most (Err x) t = tt
  spot_found most (Ok (origin.Whole Absolute)) t = t
  spot_found most (Ok (origin.Whole NoTable)) t = (t.0, gets_said s f t.2)
  spot_found most (Ok (origin.Entry p k)) t = rw t.1 (first_fields s f most t.0 k t.2)

  -- where every row passes, the settings are good
  passed_good : row ≡ Ok tt → good_settings s len ≡ true
  passed_good e =
      split (good_settings s len)
      (λ g. g)
      (λ g.
      let h : answer.Kept ≡ cond (not (flash_length len)) answer.BadBuffers answer.BadSettings =
      ap (λ (r : Result (Unit {0}) Reason). told r answer.Kept) (sym e) ∙ row_told answer.Kept ∙ rw g in
      split (flash_length len)
      (λ l. let q : answer.Kept ≡ answer.BadSettings = rw l at h in absurd (let z : ◌≡◌ {A = ℕ} 0 1 = cc in omega arith))
      (λ l. let q : answer.Kept ≡ answer.BadBuffers = rw l at h in absurd (let z : ◌≡◌ {A = ℕ} 0 1 = cc in omega arith)))

  -- where every row passes, the spot is the one of the place
  passed_spot : row ≡ Ok tt → spot_of s f ≡ granted_spot s f
  unfolding spot_of
  passed_spot e = ap (λ (x : Result (Unit {0}) Denial). spot_by x (granted_spot s f)) (access_granted (place_part s len) (flash_access s f) (sym (place_parts s len f) ∙ e))

  found_true : FoundTrue s f (placed_of s len f)
  unfolding placed_of
  found_true = by_row row refl
    where
      by_row : (r : Result (Unit {0}) Reason) → row ≡ r → FoundTrue s f (placed_by r (placed_spot f (granted_spot s f)))
      by_row (Err x) e = tt
      by_row (Ok u) e = spot_found (good_count s len (passed_good e)) (granted_spot s f) (subst (SpotTrue s f) (passed_spot e) (place_is_true s f))

  -- the place that is named is the spot's
  spot_named : (z : Result Origin Denial) → place_named s len (placed_spot f z) ≡ spot_place s len z
  spot_named (Err x) = refl
  spot_named (Ok (origin.Whole r)) = refl
  spot_named (Ok (origin.Entry p k)) = refl

  -- where the receiver finds a place rows 1 and 2 pass
  asked_found : (a n : ℕ) → ask_of s len f ≡ Ok (place_from a n) → (flash_length len ≡ true) × (good_settings s len ≡ true) × (place_of s len f ≡ Some (place_from a n))
  asked_found a n e =
      split (flash_length len)
      (λ l.
      split (good_settings s len)
      (λ g. (l, g, same (place_of s len f) (sym (ask_place s len f l g) ∙ e)))
      (λ g. let h : Err ask.BadSettings ≡ Ok (place_from a n) = sym (ask_settings s len f l g) ∙ e in let z : ◌≡◌ {A = ℕ} 0 1 = cc in absurd (omega arith)))
      (λ l. let h : Err ask.BadBuffers ≡ Ok (place_from a n) = sym (ask_length s len f l) ∙ e in let z : ◌≡◌ {A = ℕ} 0 1 = cc in absurd (omega arith))
    where
      same : (p : Option Place) → found_at p ≡ Ok (place_from a n) → p ≡ Some (place_from a n)
      same None h = absurd (let z : ◌≡◌ {A = ℕ} 0 1 = cc in omega arith)
      same (Some p) h = let x : p ≡ place_from a n = cc in ap Some x

  found_named : (a n : ℕ) → ask_of s len f ≡ Ok (place_from a n) → place_named s len (placed_of s len f) ≡ Some (place_from a n)
  unfolding placed_of
  found_named a n e = by_row row refl
    where
      open_is : (y : Answer) → told row y ≡ y
      open_is y = let q = asked_found a n e in row_told y ∙ rw (q.0, q.1) (flash_open s len f y q.2)

      by_row : (r : Result (Unit {0}) Reason) → row ≡ r → place_named s len (placed_by r (placed_spot f (granted_spot s f))) ≡ Some (place_from a n)
      by_row (Err x) h =
          let told_is : (y : Answer) → answer_of x.cause ≡ y = λ y. ap (λ (r : Result (Unit {0}) Reason). told r y) (sym h) ∙ open_is y in
          let v : answer.Kept ≡ answer.Noted = sym (told_is answer.Kept) ∙ told_is answer.Noted in
          let z : ◌≡◌ {A = ℕ} 0 1 = cc in absurd (omega arith)
      by_row (Ok u) h = spot_named (granted_spot s f) ∙ (ap (spot_place s len) (sym (passed_spot h)) ∙ (spot_is_placed s len f ∙ (asked_found a n e).2))

pub found_place_is_true : FoundPlaceIsTrue
unfolding FoundPlaceIsTrue why_place_of
found_place_is_true s len f = found_true s len f

pub found_place_is_the_receivers : FoundPlaceIsTheReceivers
unfolding FoundPlaceIsTheReceivers why_place_of
found_place_is_the_receivers s len f a n e = found_named s len f a n e

pub place_marks_are_true : PlaceMarksAreTrue
unfolding PlaceMarksAreTrue why_place_of
place_marks_are_true s len f x e h k l u =
    mark_fields (entry_at s.table k) f _ (marks_true s len f x e h k (low_used s.count k l u))

pub place_answer_is_the_receivers : PlaceAnswerIsTheReceivers
unfolding PlaceAnswerIsTheReceivers why_place_of
place_answer_is_the_receivers s len f = answer_is_asked s len f

pub place_reason_is_true : PlaceReasonIsTrue
unfolding PlaceReasonIsTrue why_place_of
place_reason_is_true s len f y = reason_decides s len f y
