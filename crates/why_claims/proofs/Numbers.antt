-- Each reason of rows 3 to 7 and 9 to 11 tells the numbers of its condition. Assumes nothing.
use Rattle.std.specs.Prelude.{None, Some, Ok, Err}
use Prim.Native.Nat.{ℕ, ◌+◌, ◌<◌}
use mathlib.Core.Path.{◌≡◌, refl, sym, ap, subst, ◌∙◌}
use mathlib.Core.Logic.{◌≢◌}
use mathlib.Core.Bool.{Bool, true, false, cond, not, ◌&&◌}
use mathlib.Core.List.{List, [], ◌∷◌, ◌++◌, append_assoc}
use native.Mathlib.Omega.{arith}
use lib.Dec.{eqb}
use lib.ListN.{length}
use borrow.Author.Tests.{ltb-true, ltb-false, leb-true, leb-false, eqb-true, eqb-false, not-true, le-leb, lt-ltb, ne_eqb}
use Rattle.std.specs.Prelude.{Option, Some, None}
use Rattle.laws.proofs.Tests.{split, clash, is_false, and_left, and_right}
use Rattle.uf2_block.specs.Block.{field_at, has_flag, fields_of}
use Rattle.partitions.specs.declared.Settings.{Settings}
use Rattle.placement.specs.Place.{place_of, place_from}
use Rattle.placement.specs.declared.Place.{Place}
use Rattle.transfer.specs.declared.Kind.{Kind}
use Rattle.transfer.specs.declared.Kind.TheVariants.{Flash, MainRam, XipRam}
use Rattle.transfer.specs.declared.Head.{Head}
use Rattle.transfer.specs.declared.State.{State}
use Rattle.transfer.specs.declared.State.TheVariants.{Idle, Running, Done}
use Rattle.uf2_checks.specs.Screen.{base_of, extent_of, in_window, window_of, Window}
use Rattle.uf2_checks.specs.declared.Lengths.{Lengths}
use Rattle.uf2_checks.proofs.Windows.{WindowFacts, window_facts}
use Rattle.arrival.specs.Arrive.{World, lengths_of}
use Rattle.arrival.specs.Windows as windows
use Rattle.why_settings.specs.Faults.{fault_in, faults_of, first_in, first_fault}
use Rattle.why_settings.proofs.Theorems.{sound_is_good}
use Rattle.partitions.specs.Settings.{good_settings}
use Rattle.memory.specs.Bitmap.{marked_in}
use Rattle.transfer.specs.Transfer.{head_with, same_head}
use Rattle.arrival.specs.Windows.{head_of}
use Rattle.arrival.proofs.Heads.{head_same}
use Rattle.why_checks.specs.Block.{is_done, is_again}
use Rattle.why_settings.specs.declared.Fault.{Fault}
use Rattle.why_place.specs.Placing.{denies, first_denial, flash_denials, ram_denials, flash_access}
use Rattle.why_place.specs.declared.Denial.{Denial}
use Rattle.why_place.proofs.Theorems.{granted_is_placed}
use Rattle.why_causes.specs.Checks.{Deciding, none, here, later, running_row, done_row, state_row, magic_row, flags_row, header_row}
use Rattle.why_causes.specs.declared.Cause.TheVariants.{Finished, Again}
use Rattle.why_causes.specs.declared.Reason.{Reason}
use Rattle.why_causes.specs.Lengths.{flash_row, buffer_row, lengths_row}
use Rattle.why_causes.specs.Numbers.{payload_row, numbers_row, address_row, stray_row, window_row}
use Rattle.why_checks.specs.Block.{room_of, address_in, page_row, kind_of, body_row, fate_row, written_row, raised_of}
use Rattle.why.specs.Why.{fault_row, settings_row, denial_row, place_row, block_row, block_kind, head_in, place_in, board_rows, checks_of, last_of, holds_in}
use Rattle.why_claims.specs.Claims.{ReasonIsTrue}
use Rattle.why_claims.proofs.Theorems.{reason_is_true}
use Rattle.why_claims.proofs.Answers.{in_none}
use Rattle.why_claims.proofs.Discards.{kinds}
use Rattle.why_claims.specs.Numbers.{Room, in_flash, in_main, in_xip, Windowed, flash_window, main_window, xip_window, Counted, Numbered, Tested, count_under, count_over_case, running_over, done_under, done_over, first_magic, second_magic, last_magic, container, no_family, bad_payload_case, total_zero, total_past, number_past, below, no_window, ragged, past, past_main, past_xip, arrival_length, flash_ragged, flash_under, flash_over, seen_length, sectors_length, main_length, xip_length, bad_settings, no_place, no_ram_place, is_done_case, is_again_case, of_row_14, of_row_15, of_row_16, of_row_17, NumbersAreTrue}

-- ---- the check that decides, in a list of two parts

abbrev pub All : (Reason → Type 0) → List Reason → Type 0
All P [] = Unit {0}
All P (c ∷ l) = P c × All P l

module _ (test : Reason → Bool) (last : Reason) (P : Reason → Type 0) where
  -- a check that decides has what its own list has of each that decides
  abbrev Each : List Reason → Type 0
  Each l = All (λ c. test c ≡ true → P c) l

  abbrev Passed : List Reason → Type 0
  Passed l = All (λ c. test c ≡ false) l

  parts : (l m : List Reason) {r : Reason} → Deciding test last (l ++ m) r → Each l → (Passed l → Deciding test last m r → P r) → P r
  parts [] m d h k = k tt d
  parts (c ∷ l) m (here e) h k = h.0 e
  parts (c ∷ l) m (later e d) h k = parts l m d h.1 (λ p q. k (e, p) q)

  whole : (l : List Reason) {r : Reason} → Deciding test last l r → P last → Each l → P r
  whole [] none p h = p
  whole (c ∷ l) (here e) p h = h.0 e
  whole (c ∷ l) (later e d) p h = whole l d p h.1

-- ---- of one condition

differs : (x n : ℕ) → not (eqb x n) ≡ true → x ≢ n
differs x n h = eqb-false x n (not-true _ h)

neither : (x n : ℕ) → not (eqb x 0) && not (eqb x n) ≡ true → (x ≢ 0) × (x ≢ n)
neither x n h = (differs x 0 (and_left (not (eqb x 0)) (not (eqb x n)) h), differs x n (and_right (not (eqb x 0)) (not (eqb x n)) h))

-- settings with a fault are bad
not_sound : (s : Settings) (len : ℕ) (before : List Fault) (x : Fault) (l : List Fault) → fault_in s len x ≡ true → first_in s len (before ++ (x ∷ l)) ≢ None
unfolding first_in
not_sound s len [] x l h e = let g : Some x ≡ None = rw h at e in let z : ◌≡◌ {A = ℕ} 0 1 = cc in omega arith
not_sound s len (y ∷ before) x l h e =
    split (fault_in s len y)
    (λ t. let g : Some y ≡ None = rw t at e in let z : ◌≡◌ {A = ℕ} 0 1 = cc in absurd (omega arith))
    (λ t. not_sound s len before x l h (rw t at e))

fault_bad : (s : Settings) (len : ℕ) (before : List Fault) (x : Fault) (l : List Fault) → faults_of s ≡ before ++ (x ∷ l) → fault_in s len x ≡ true → good_settings s len ≡ false
unfolding first_fault
fault_bad s len before x l e h = is_false _ (λ g. not_sound s len before x l h (ap (first_in s len) (sym e) ∙ (sound_is_good s len).1 g))

-- a family that a rule shuts out has no place
not_granted : (s : Settings) (f : ℕ) (before : List Denial) (x : Denial) (l : List Denial) → denies s f x ≡ true → first_denial s f (before ++ (x ∷ l)) ≢ Ok tt
unfolding first_denial
not_granted s f [] x l h e = let g : Err x ≡ Ok tt = rw h at e in let z : ◌≡◌ {A = ℕ} 0 1 = cc in omega arith
not_granted s f (y ∷ before) x l h e =
    split (denies s f y)
    (λ t. let g : Err y ≡ Ok tt = rw t at e in let z : ◌≡◌ {A = ℕ} 0 1 = cc in absurd (omega arith))
    (λ t. not_granted s f before x l h (rw t at e))

denied_nowhere : (s : Settings) (len f : ℕ) (before : List Denial) (x : Denial) (l : List Denial) → flash_denials ≡ before ++ (x ∷ l) → denies s f x ≡ true → place_of s len f ≡ None
unfolding flash_access
denied_nowhere s len f before x l e h = at (place_of s len f) refl
  where
    at : (p : Option Place) → place_of s len f ≡ p → place_of s len f ≡ None
    at None q = q
    at (Some p) q =
        absurd
        (not_granted s f before x l h
        (ap (first_denial s f) (sym e) ∙ (granted_is_placed s len f).1 (λ z. let g : Some (place_from p.start p.len) ≡ None = sym q ∙ z in let z1 : ◌≡◌ {A = ℕ} 0 1 = cc in omega arith)))

module _ (s : Settings) (w : World) (a : List ℕ) where
  abbrev Is : Reason → Type 0
  Is r = Tested s w a r.cause r.got r.against

  abbrev Tells : List Reason → Type 0
  Tells l = Each (holds_in s w a) (last_of w a) Is l

  all_next : (l m : List Reason) → Tells l → Tells m → Tells (l ++ m)
  all_next [] m h k = k
  all_next (c ∷ l) m h k = (h.0, all_next l m h.1 k)

  -- ---- rows 1 to 3

  lengths : Tells (lengths_row (length a) (lengths_of w.held) (length w.seen) (length w.held.sectors))
  unfolding lengths_row flash_row buffer_row
  lengths = (
    λ h. arrival_length (differs _ _ h),
    (
      λ h. flash_ragged (differs _ _ h),
      (
        λ h. flash_under (ltb-true _ _ h),
        (
          λ h. flash_over (ltb-true _ _ h),
          (λ h. seen_length (differs _ _ h), (λ h. sectors_length (differs _ _ h), (λ h. main_length (neither _ _ h).0 (neither _ _ h).1, (λ h. xip_length (neither _ _ h).0 (neither _ _ h).1, tt)))),
        ),
      ),
    ),
  )

  settings : (before l : List Fault) → faults_of s ≡ before ++ l → Tells (fault_row s (length w.held.flash) l)
  unfolding fault_row
  settings before [] e = tt
  settings before (x ∷ l) e = (λ h. bad_settings (fault_bad s (length w.held.flash) before x l e h), settings (before ++ (x ∷ [])) l (e ∙ sym (append_assoc before (x ∷ []) l)))

  state : (t : State) → w.transfer ≡ t → Tells (state_row t)
  unfolding state_row running_row done_row
  state Idle e = tt
  state (Running r) e =
      (λ h. count_under r e (ltb-true _ _ h), (λ h. count_over_case r e (leb-true _ _ h), (λ h. running_over r e (ltb-true _ _ h), tt)))
  state (Done g) e = (λ h. done_under g e (ltb-true _ _ h), (λ h. done_over g e (ltb-true _ _ h), tt))

  -- ---- rows 4 to 7

  header : Tells (header_row a)
  unfolding header_row magic_row flags_row
  header = (
    λ h. first_magic (eqb-false _ _ (not-true _ h)),
    (
      λ h. second_magic (eqb-false _ _ (not-true _ h)),
      (
        λ h. last_magic (eqb-false _ _ (not-true _ h)),
        (λ h. container (eqb-true _ _ h), (λ h. no_family (eqb-false _ _ (not-true _ h)), tt)),
      ),
    ),
  )

  -- ---- row 8

  flash_denials_lem : windows.kind_of w a ≡ Flash → (before l : List Denial) → flash_denials ≡ before ++ l → Tells (denial_row (field_at a 28) l)
  unfolding denial_row
  flash_denials_lem k before [] e = tt
  flash_denials_lem k before (x ∷ l) e =
      (λ h. no_place k (denied_nowhere s (length w.held.flash) (field_at a 28) before x l e h), flash_denials_lem k (before ++ (x ∷ [])) l (e ∙ sym (append_assoc before (x ∷ []) l)))

  ram_denials_lem : windows.kind_of w a ≢ Flash → Tells (denial_row (field_at a 28) ram_denials)
  unfolding denial_row
  ram_denials_lem k = (λ h. no_ram_place k (not-true _ h), tt)

  places : (k : Kind) → windows.kind_of w a ≡ k → Tells (place_row k (field_at a 28))
  unfolding place_row
  places Flash e = flash_denials_lem e [] flash_denials refl
  places MainRam e = ram_denials_lem (λ f. let g : MainRam ≡ Flash = sym e ∙ f in let z : ◌≡◌ {A = ℕ} 0 1 = cc in omega arith)
  places XipRam e = ram_denials_lem (λ f. let g : XipRam ≡ Flash = sym e ∙ f in let z : ◌≡◌ {A = ℕ} 0 1 = cc in omega arith)

  granted : (l : List Denial) → Passed (holds_in s w a) (last_of w a) Is (denial_row (field_at a 28) l) → first_denial s (field_at a 28) l ≡ Ok tt
  unfolding denial_row first_denial
  granted [] p = refl
  granted (x ∷ l) p = rw p.0 (granted l p.1)

  -- the bytes of its place, where row 8 is passed
  pub room : (k : Kind) → windows.kind_of w a ≡ k → Passed (holds_in s w a) (last_of w a) Is (place_row k (field_at a 28)) → Room s w a (room_of (place_in s w a) k)
  unfolding place_row flash_access
  room Flash e p = at (place_in s w a) refl
    where
      at : (x : Option Place) → place_in s w a ≡ x → Room s w a (room_of x Flash)
      at None q = absurd ((granted_is_placed s (length w.held.flash) (field_at a 28)).0 (granted flash_denials p) q)
      at (Some p) q = in_flash p.start p.len e q
  room MainRam e p = in_main e
  room XipRam e p = in_xip e

  -- ---- rows 9 to 11

  -- a list of checks after some that have passed
  abbrev After : List Reason → Reason → Type 0
  After l r = Deciding (holds_in s w a) (last_of w a) l r

  abbrev Gone : List Reason → Type 0
  Gone l = Passed (holds_in s w a) (last_of w a) Is l

  assoc : (l m n : List Reason) {r : Reason} → After ((l ++ m) ++ n) r → After (l ++ (m ++ n)) r
  assoc l m n {r} x = rw append_assoc at x

  payload : Tells (payload_row (field_at a 16))
  unfolding payload_row
  payload = (λ h. bad_payload_case (eqb-false _ _ (not-true _ h)), tt)

  stray : (Windowed w (field_at a 12) → ⊥) → Tells (stray_row (field_at a 12))
  unfolding stray_row
  stray o = (λ h. below (ltb-true _ _ h), (λ h. no_window (leb-true _ _ h) o, tt))

  -- an address that passes there is in flash's window
  pub stray_gone : Gone (stray_row (field_at a 12)) → Windowed w (field_at a 12)
  unfolding stray_row
  stray_gone p = flash_window (ltb-false _ _ p.0) (leb-false _ _ p.1.0)

  windowed : (u : Window) → WindowFacts (lengths_of w.held) (field_at a 12) u → (k : Kind) → u ≡ Some k → Windowed w (field_at a 12)
  windowed None f k e = let z : ◌≡◌ {A = ℕ} 0 1 = cc in absurd (omega arith)
  windowed (Some Flash) f k e = flash_window f.low f.high
  windowed (Some MainRam) f k e = main_window (eqb-false _ _ (not-true _ f.lent)) f.low f.high
  windowed (Some XipRam) f k e = xip_window (eqb-false _ _ (not-true _ f.lent)) f.low f.high

  pub strays : window_of (lengths_of w.held) (field_at a 12) ≡ None → Windowed w (field_at a 12) → ⊥
  strays e (flash_window l m) = clash (in_window (lengths_of w.held) Flash (field_at a 12)) (rw (le-leb _ _ l, lt-ltb _ _ m)) (in_none _ _ e Flash)
  strays e (main_window n l m) = clash (in_window (lengths_of w.held) MainRam (field_at a 12)) (rw (ne_eqb _ _ n, le-leb _ _ l, lt-ltb _ _ m)) (in_none _ _ e MainRam)
  strays e (xip_window n l m) = clash (in_window (lengths_of w.held) XipRam (field_at a 12)) (rw (ne_eqb _ _ n, le-leb _ _ l, lt-ltb _ _ m)) (in_none _ _ e XipRam)

  module _ (size : ℕ) (R : Room s w a size) where
    numbers : Counted w a → Tells (numbers_row (field_at a 24) (field_at a 20) size)
    unfolding numbers_row
    numbers c = (λ h. total_zero c (eqb-true _ _ h), (λ h. total_past c R (ltb-true _ _ h), (λ h. number_past c (leb-true _ _ h), tt)))

    numbered : Gone (numbers_row (field_at a 24) (field_at a 20) size) → Numbered a size
    unfolding numbers_row
    numbered p =
        let z : field_at a 24 ≢ 0 = eqb-false _ _ p.0 in
        record { some = omega (arith, z); fits = ltb-false _ _ p.1.0; below = leb-false _ _ p.1.1.0 }

    address : field_at a 12 < 0x12000000 → Numbered a size → Tells (address_row (field_at a 12) size)
    unfolding address_row
    address l m = (λ h. below (ltb-true _ _ h), (λ h. ragged l R m (eqb-false _ _ (not-true _ h)), (λ h. past l R m (ltb-true _ _ h), tt)))

    -- the bytes of a RAM's window
    ram_room : (k : Kind) → windows.kind_of w a ≡ k → k ≢ Flash → size ≡ extent_of k
    ram_room k e n = by_room R
      where
        same : (j : Kind) → windows.kind_of w a ≡ j → k ≡ j
        same j f = sym e ∙ f

        by_room : {m : ℕ} → Room s w a m → m ≡ extent_of k
        by_room (in_flash start m f p) = absurd (n (same Flash f))
        by_room (in_main f) = ap extent_of (sym (same MainRam f))
        by_room (in_xip f) = ap extent_of (sym (same XipRam f))

    inside : (k : Kind) → windows.kind_of w a ≡ k → field_at a 12 < base_of k + extent_of k → Numbered a size → Tells (address_in k (field_at a 12) size)
    unfolding address_in window_row
    inside Flash e l m = address l m
    inside MainRam e l m = (λ h. past_main e (subst (Numbered a) (ram_room MainRam e (λ f. let z : ◌≡◌ {A = ℕ} 0 1 = cc in omega arith)) m) (ltb-true _ _ h), tt)
    inside XipRam e l m = (λ h. past_xip e (subst (Numbered a) (ram_room XipRam e (λ f. let z : ◌≡◌ {A = ℕ} 0 1 = cc in omega arith)) m) (ltb-true _ _ h), tt)

    abbrev lens : Lengths
    lens = lengths_of w.held

    -- of a data block, by its window
    page : {r : Reason} (late : List Reason) → has_flag a 0x1 ≡ false → (u : Window) → window_of lens (field_at a 12) ≡ u → WindowFacts lens (field_at a 12) u
        → ((k : Kind) → u ≡ Some k → windows.kind_of w a ≡ k) → After (page_row u size (fields_of a) ++ late) r → (After late r → Is r) → Is r
    unfolding page_row fields_of
    page late c None e f g d k =
        let T = holds_in s w a in
        let L = last_of w a in
        let p = payload_row (field_at a 16) in
        let x = stray_row (field_at a 12) in
        let n = numbers_row (field_at a 24) (field_at a 20) size in
        parts T L Is p _ (assoc p (x ++ n) late d) payload
        (λ gone d1.
        parts T L Is x _ (assoc x n late d1) (stray (strays e))
        (λ out d2. absurd (strays e (stray_gone out))))
    page late c (Some v) e f g d k =
        let T = holds_in s w a in
        let L = last_of w a in
        let p = payload_row (field_at a 16) in
        let n = numbers_row (field_at a 24) (field_at a 20) size in
        let x = address_in v (field_at a 12) size in
        parts T L Is p _ (assoc p (n ++ x) late d) payload
        (λ gone d1.
        parts T L Is n _ (assoc n x late d1) (numbers (λ q. windowed (Some v) f v refl))
        (λ counted d2. parts T L Is x late d2 (inside v (g v refl) f.high (numbered counted)) (λ z d3. k d3)))

    body : {r : Reason} (late : List Reason) → After (body_row size lens (fields_of a) ++ late) r → (After late r → Is r) → Is r
    unfolding body_row fields_of kind_of
    body {r} late = by-case (has_flag a 0x1) refl
      where
        kind_is : has_flag a 0x1 ≡ false → (k : Kind) → window_of lens (field_at a 12) ≡ Some k → windows.kind_of w a ≡ k
        kind_is c k e = sym (kinds s w a) ∙ rw (c, e)

        by-case : (c : Bool) → has_flag a 0x1 ≡ c
            → After (cond c (numbers_row (field_at a 24) (field_at a 20) size) (page_row (window_of lens (field_at a 12)) size (fields_of a)) ++ late) r
            → (After late r → Is r) → Is r
        by-case true c d k = parts (holds_in s w a) (last_of w a) Is (numbers_row (field_at a 24) (field_at a 20) size) late d (numbers (λ f. clash (has_flag a 0x1) c f)) (λ z e. k e)
        by-case false c d k =
            page late c (window_of lens (field_at a 12)) refl (window_facts lens (field_at a 12)) (λ v e. kind_is c v e) d k

  -- ---- rows 12 to 16

  finished : (t : State) → w.transfer ≡ t → is_done t ≡ true → {g n : ℕ} → Tested s w a Finished g n
  finished Idle e h = clash false h refl
  finished (Running r) e h = clash false h refl
  finished (Done g) e h = is_done_case g e

  again : (t : State) → w.transfer ≡ t → is_again t (head_in w a) (marked_in w.seen (field_at a 20)) ≡ true → {g n : ℕ} → Tested s w a Again g n
  again Idle e h = clash false h refl
  again (Running r) e h =
      let m = marked_in w.seen (field_at a 20) in
      let i : r.head ≡ head_of w a = head_same r.head (head_in w a) (and_left (same_head r.head (head_in w a)) m h) ∙ ap (λ (u : Kind). head_with u (field_at a 28) (field_at a 24)) (kinds s w a) in
      is_again_case r.count (e ∙ ap (λ (x : Head). Running (record { head = x; count = r.count })) i) (and_right (same_head r.head (head_in w a)) m h)
  again (Done g) e h = clash false h refl

  fate : Tells (fate_row w.transfer (head_in w a) (field_at a 20))
  unfolding fate_row
  fate = (λ h. finished w.transfer refl h, (λ h. again w.transfer refl h, (λ h. of_row_15, (λ h. of_row_16, tt))))

  written : (n t : ℕ) → Tells (written_row n t)
  unfolding written_row
  written n t = (λ h. of_row_14, (λ h. of_row_14, (λ h. of_row_14, (λ h. of_row_14, (λ h. of_row_14, (λ h. of_row_14, (λ h. of_row_14, tt)))))))

  -- ---- all of them

  board : Tells (board_rows s w.transfer (length a) (lengths_of w.held) (length w.seen) (length w.held.sectors))
  unfolding board_rows settings_row
  board =
      all_next (lengths_row (length a) (lengths_of w.held) (length w.seen) (length w.held.sectors)) _ lengths
      (all_next (settings_row s (length w.held.flash)) _ (settings [] (faults_of s) refl) (state w.transfer refl))

  told : {r : Reason} → Deciding (holds_in s w a) (last_of w a) (checks_of s w a) r → Is r
  unfolding checks_of block_row fields_of
  told {r} d =
      let T = holds_in s w a in
      let L = last_of w a in
      let k = block_kind w a in
      let size = room_of (place_in s w a) k in
      let late : List Reason = fate_row w.transfer (head_in w a) (field_at a 20) ++ written_row (raised_of w.transfer (head_in w a)) (field_at a 24) in
      parts T L Is (board_rows s w.transfer (length a) (lengths_of w.held) (length w.seen) (length w.held.sectors)) _ d board
      (λ p d1.
      parts T L Is (header_row a) _ d1 header
      (λ q d2.
      parts T L Is (place_row k (field_at a 28)) _ (assoc (place_row k (field_at a 28)) (body_row size (lengths_of w.held) (fields_of a)) late d2) (places k (sym (kinds s w a)))
      (λ o d3.
      body size (room k (sym (kinds s w a)) o) late d3
      (λ d4. whole T L Is late d4 of_row_17 (all_next (fate_row w.transfer (head_in w a) (field_at a 20)) _ fate (written _ _))))))

pub numbers_are_true : NumbersAreTrue
unfolding NumbersAreTrue ReasonIsTrue
numbers_are_true s w a = told s w a (reason_is_true s w a)
