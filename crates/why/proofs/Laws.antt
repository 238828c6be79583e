-- Rows one after the other, the reason of an arrival and of a place, by cases as the code asks them. Assumes nothing.
use Rattle.std.specs.Prelude.{Result, Ok, Err}
use mathlib.Core.Path.{◌≡◌, refl, sym, ap, ◌∙◌}
use mathlib.Core.Bool.{Bool, true}
use mathlib.Core.List.{List, ◌++◌}
use Prim.Native.Nat.{ℕ}
use lib.ListN.{length}
use Rattle.std.specs.Prelude.{Option}
use Rattle.std.specs.Result.{MatchResult, IsErrAnd}
use Rattle.why.specs.Checklist.{denial_reason}
use Rattle.memory.specs.Bitmap.{marked_in}
use Rattle.uf2_block.specs.Block.{field_at, has_flag, fields_of}
use Rattle.uf2_block.specs.declared.Block.{Block}
use Rattle.partitions.specs.declared.Settings.{Settings}
use Rattle.partitions.specs.Settings.{good_settings}
use Rattle.placement.specs.Place.{place_of}
use Rattle.placement.specs.declared.Place.{Place}
use Rattle.transfer.specs.Transfer.{head_with}
use Rattle.transfer.specs.declared.Kind.{Kind}
use Rattle.transfer.specs.declared.Head.{Head}
use Rattle.arrival.specs.Arrive.{World, lengths_of}
use Rattle.why_settings.specs.Faults.{first_fault}
use Rattle.why_settings.proofs.Theorems.{sound_is_good}
use Rattle.why_place.specs.Placing.{flash_denials, flash_access, granted_spot, spot_by, spot_of}
use Rattle.why_place.specs.declared.Origin.{Origin}
use Rattle.why_causes.specs.Checks.{by_numbers, row_of, or_next, or_last}
use Rattle.why_causes.specs.Lengths.{flash_row}
use Rattle.why_causes.specs.declared.Reason.{Reason}
use Rattle.why_causes.proofs.Rows.{rows_next}
use Rattle.why_checks.specs.Block.{start_at, size_at, kind_of, raised_of}
use Rattle.why_checks.specs.Parts.{fate_part, written_part, late_part}
use Rattle.why.specs.declared.Why.{Why}
use Rattle.why.specs.declared.WhyPlace.{WhyPlace}
use Rattle.why.specs.Why.{settings_row, block_kind, head_in, place_in, last_of, reason_of, discards_of, entries_of, why_of}
use Rattle.why.specs.Placed.{place_checks, holds_of, placed_spot, placed_by, placed_of, placed_marks, why_place_of}
use Rattle.why.specs.Parts.{finding_row, access_row, early_part, block_part, place_part}
use Rattle.why.proofs.Rows.{or_three, settings_rows, denial_rows, reason_parts}
use Rattle.why_place.specs.declared.Denial.{Denial}

-- ---- row 2

-- good settings have no fault
pub finding_good : (s : Settings) (len : ℕ) → good_settings s len ≡ true → Ok tt ≡ finding_row s len (first_fault s len)
finding_good s len g = ap (finding_row s len) (sym ((sound_is_good s len).1 g))

-- ---- an arrival

module _ (s : Settings) (w : World) (a : List ℕ) where
  -- rows 8 to 11, and what comes after them
  abbrev block_of : Result (Unit {0}) Reason
  block_of = block_part s (place_in s w a) (block_kind w a) (lengths_of w.held) (fields_of a)

  abbrev late_of : Result (Unit {0}) Reason
  late_of =
      or_next (fate_part w.transfer (head_in w a) (field_at a 20) (marked_in w.seen (field_at a 20)) (has_flag a 0x1))
      (written_part w.held.flash (start_at (place_in s w a)) (size_at (place_in s w a)) (block_kind w a) a (raised_of w.transfer (head_in w a)) (field_at a 24))

  -- what the code reads of the arrival is the meaning's
  module _ {b : Block} (q : b ≡ fields_of a) {k : Kind} (l : k ≡ kind_of (lengths_of w.held) w.transfer b) where
    family : b.family ≡ field_at a 28
    unfolding fields_of
    family = ap (λ (x : Block). x.family) q

    total : b.total ≡ field_at a 24
    unfolding fields_of
    total = ap (λ (x : Block). x.total) q

    kind : k ≡ block_kind w a
    kind = l ∙ ap (kind_of (lengths_of w.held) w.transfer) q

    head : {g : Head} → g ≡ head_with k b.family b.total → g ≡ head_in w a
    head e =
        e
        ∙ (ap (λ (x : Kind). head_with x b.family b.total) kind
        ∙ (ap (λ (x : ℕ). head_with (block_kind w a) x b.total) family
        ∙ ap (λ (x : ℕ). head_with (block_kind w a) (field_at a 28) x) total))

  module _ {e : Result (Unit {0}) Reason} (p : e ≡ early_part s w.transfer a (lengths_of w.held) (length w.seen) (length w.held.sectors)) where
    pub reason_early : {x : Reason} → e ≡ Err x → x ≡ reason_of s w a
    reason_early h = sym (reason_parts s w a ∙ ap (λ (u : Result (Unit {0}) Reason). or_last (last_of w a) (or_next u (or_next block_of late_of))) (sym p ∙ h))

    module _ (h : e ≡ Ok tt) {b : Block} (q : b ≡ fields_of a) {k : Kind} (l : k ≡ kind_of (lengths_of w.held) w.transfer b)
        {o : Option Place} (u : o ≡ place_of s (length w.held.flash) b.family) {r : Result (Unit {0}) Reason} (z : r ≡ block_part s o k (lengths_of w.held) b) where
      spot_is : o ≡ place_in s w a
      spot_is = u ∙ ap (place_of s (length w.held.flash)) (family q l)

      row_is : r ≡ block_part s (place_in s w a) (block_kind w a) (lengths_of w.held) (fields_of a)
      row_is =
          z
          ∙ (ap (λ (x : Option Place). block_part s x k (lengths_of w.held) b) spot_is
          ∙ (ap (λ (x : Kind). block_part s (place_in s w a) x (lengths_of w.held) b) (kind q l)
          ∙ ap (block_part s (place_in s w a) (block_kind w a) (lengths_of w.held)) q))

      pub reason_block : {y : Reason} → r ≡ Err y → y ≡ reason_of s w a
      reason_block j =
          sym
          (reason_parts s w a
          ∙ (ap (λ (x : Result (Unit {0}) Reason). or_last (last_of w a) (or_next x (or_next block_of late_of))) (sym p ∙ h)
          ∙ ap (λ (x : Result (Unit {0}) Reason). or_last (last_of w a) (or_next x late_of)) (sym row_is ∙ j)))

      pub reason_late : r ≡ Ok tt → {g : Head} → g ≡ head_with k b.family b.total → {v : Reason}
          → v ≡ late_part w.transfer g o b.comment b.number a w.held.flash w.seen → v ≡ reason_of s w a
      unfolding late_part fields_of
      reason_late j m c =
          c
          ∙ (ap (λ (x : Head). late_part w.transfer x o b.comment b.number a w.held.flash w.seen) (head q l m)
          ∙ (ap (λ (x : Option Place). late_part w.transfer (head_in w a) x b.comment b.number a w.held.flash w.seen) spot_is
          ∙ (ap (λ (x : Block). late_part w.transfer (head_in w a) (place_in s w a) x.comment x.number a w.held.flash w.seen) q
          ∙ sym
          (reason_parts s w a
          ∙ (ap (λ (x : Result (Unit {0}) Reason). or_last (last_of w a) (or_next x (or_next block_of late_of))) (sym p ∙ h)
          ∙ ap (λ (x : Result (Unit {0}) Reason). or_last (last_of w a) (or_next x late_of)) (sym row_is ∙ j))))))

  -- what is told of a reason
  abbrev made : Reason → Bool → List ℕ → Why
  made r d m = record { reason = r; discarded = d; entries = m }

  pub explained : {r : Reason} → r ≡ reason_of s w a → {b : Block} (q : b ≡ fields_of a) {k : Kind} (l : k ≡ kind_of (lengths_of w.held) w.transfer b)
      → {g : Head} → g ≡ head_with k b.family b.total → {d : Bool} → d ≡ discards_of w.transfer g r.cause
      → {m : List ℕ} → m ≡ entries_of s b.family r.cause → record { reason = r; discarded = d; entries = m } ≡ why_of s w a
  unfolding why_of
  explained {r} e q l h {d} x {m} y =
      ap (λ (d : Bool). made r d m) (x ∙ ap (λ (g : Head). discards_of w.transfer g r.cause) (head q l h))
      ∙ (ap (λ (m : List ℕ). made r (discards_of w.transfer (head_in w a) r.cause) m) (y ∙ ap (λ (f : ℕ). entries_of s f r.cause) (family q l))
      ∙ ap (λ (r : Reason). made r (discards_of w.transfer (head_in w a) r.cause) (entries_of s (field_at a 28) r.cause)) e)

-- ---- a place asked for alone

module _ (s : Settings) (len f : ℕ) where
  flash_rows : row_of (holds_of s len f) (flash_row len) ≡ row_of by_numbers (flash_row len)
  unfolding row_of flash_row
  flash_rows = refl

  next : (l m : List Reason) {p q : Result (Unit {0}) Reason} → row_of (holds_of s len f) l ≡ p → row_of (holds_of s len f) m ≡ q → row_of (holds_of s len f) (l ++ m) ≡ or_next p q
  next l m {p} e k = rows_next (holds_of s len f) l m ∙ (ap (λ (r : Result (Unit {0}) Reason). or_next r (row_of (holds_of s len f) m)) e ∙ ap (or_next p) k)

  pub place_parts : row_of (holds_of s len f) (place_checks s len f) ≡ or_next (place_part s len) (access_row f (flash_access s f))
  unfolding place_checks place_part flash_access
  place_parts =
      next (flash_row len) _ flash_rows
      (next (settings_row s len) _ (settings_rows (holds_of s len f) s len (λ x. refl)) (denial_rows (holds_of s len f) s f (λ x. refl) flash_denials))
      ∙ sym (or_three (row_of by_numbers (flash_row len)) (finding_row s len (first_fault s len)) (access_row f (flash_access s f)))

  by_access : (x : Result (Unit {0}) Denial) (y : Result Origin Denial) → placed_spot f (spot_by x y) ≡ placed_by (access_row f x) (placed_spot f y)
  by_access (Ok u) y = refl
  by_access (Err x) y = refl

  module _ {r : Result (Unit {0}) Reason} (e : r ≡ place_part s len) where
    placed_is : {q : Result (Unit {0}) Reason} → r ≡ q → placed_of s len f ≡ placed_by (or_next q (access_row f (flash_access s f))) (placed_spot f (granted_spot s f))
    unfolding placed_of
    placed_is h = ap (λ (x : Result (Unit {0}) Reason). placed_by x (placed_spot f (granted_spot s f))) (place_parts ∙ ap (λ (x : Result (Unit {0}) Reason). or_next x (access_row f (flash_access s f))) (sym e ∙ h))

    pub placed_row : {x : Reason} → r ≡ Err x → Err x ≡ placed_of s len f
    placed_row h = sym (placed_is h)

    pub placed_spot_lem : r ≡ Ok tt → {y : Result Origin Denial} → y ≡ spot_of s f → placed_spot f y ≡ placed_of s len f
    unfolding spot_of
    placed_spot_lem h k = ap (placed_spot f) k ∙ (by_access (flash_access s f) (granted_spot s f) ∙ sym (placed_is h))

    -- the place that is found, or its denial as a reason
    pub placed_mapped : r ≡ Ok tt → {y : Result Origin Denial} → y ≡ spot_of s f → (v : Result Origin Reason) (P : Denial → Reason → Type 0)
        → ((x : Denial) (z : Reason) → P x z → z ≡ denial_reason f x) → MatchResult y (λ o. v ≡ Ok o) (λ x. IsErrAnd v (P x)) → v ≡ placed_of s len f
    placed_mapped h k v P q m = by-case _ k m ∙ placed_spot_lem h k
      where
        by-err : (w : Result Origin Reason) (x : Denial) → IsErrAnd w (P x) → w ≡ Err (denial_reason f x)
        by-err (Ok o) x i = absurd i
        by-err (Err z) x i = ap Err (q x z i)

        by-case : (y : Result Origin Denial) → y ≡ spot_of s f → MatchResult y (λ o. v ≡ Ok o) (λ x. IsErrAnd v (P x)) → v ≡ placed_spot f y
        by-case (Ok o) k m = m
        by-case (Err x) k m = by-err v x m

  abbrev told : Result Origin Reason → List ℕ → WhyPlace
  told p m = record { placed = p; entries = m }

  pub place_explained : {p : Result Origin Reason} → p ≡ placed_of s len f → {m : List ℕ} → m ≡ placed_marks s f p → record { placed = p; entries = m } ≡ why_place_of s len f
  unfolding why_place_of
  place_explained {p} e k =
      ap (told p) k ∙ ap (λ (p : Result Origin Reason). told p (placed_marks s f p)) e
