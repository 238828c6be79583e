-- What an arrival has passed that a later row answers. Assumes nothing.
use Rattle.std.specs.Prelude.{None}
use Prim.Native.Nat.{ℕ, ◌/◌, ◌%◌, ◌<◌, ◌≤◌}
use mathlib.Core.Path.{◌≡◌, refl, sym, ap, subst, ◌∙◌}
use mathlib.Core.Logic.{◌≢◌, ◌⊎◌, inl, inr}
use mathlib.Core.Bool.{Bool, true, false, cond, not, ◌&&◌}
use mathlib.Core.List.{List, [], ◌∷◌, ◌++◌, append_assoc}
use native.Mathlib.Omega.{arith}
use lib.Dec.{eqb}
use lib.ListN.{length}
use borrow.Author.Tests.{ltb-false, leb-false, eqb-true, eqb-false, not-false}
use Rattle.std.specs.Prelude.{Some, None}
use Rattle.laws.proofs.Tests.{split, clash}
use Rattle.uf2_block.specs.Block.{field_at, has_flag, fields_of}
use Rattle.partitions.specs.declared.Settings.{Settings}
use Rattle.transfer.specs.Transfer.{number_of}
use Rattle.transfer.specs.declared.Answer.{Answer}
use Rattle.transfer.specs.declared.Kind.{Kind}
use Rattle.transfer.specs.declared.Kind.TheVariants.{Flash, MainRam, XipRam}
use Rattle.transfer.specs.declared.State.{State}
use Rattle.transfer.specs.declared.State.TheVariants.{Idle, Running, Done}
use Rattle.uf2_checks.specs.Screen.{window_of, Window}
use Rattle.arrival.specs.Arrive.{World, Forecast, lengths_of, receive_of}
use Rattle.arrival.specs.Windows as windows
use Rattle.arrival.specs.Facts.{LookTells}
use Rattle.arrival.proofs.Facts.{look_tells}
use Rattle.why_settings.specs.Faults.{faults_of, first_in, first_fault}
use Rattle.why_settings.specs.declared.Fault.{Fault}
use Rattle.why_settings.proofs.Theorems.{sound_is_good}
use Rattle.why_place.specs.Placing.{flash_denials, ram_denials}
use Rattle.why_place.specs.declared.Denial.{Denial}
use Rattle.why_causes.specs.Causes.{answer_of}
use Rattle.why_causes.specs.Checks.{Deciding, here, later, running_row, done_row, state_row, magic_row, flags_row, header_row}
use Rattle.why_causes.specs.declared.Reason.{Reason}
use Rattle.why_causes.specs.Lengths.{flash_row, buffer_row, lengths_row}
use Rattle.why_causes.specs.Numbers.{payload_row, numbers_row, address_row, stray_row, window_row}
use Rattle.why_checks.specs.Block.{room_of, address_in, page_row, kind_of, body_row, fate_row, written_row, raised_of}
use Rattle.why.specs.Why.{fault_row, settings_row, denial_row, place_row, block_row, block_kind, head_in, place_in, board_rows, checks_of, last_of, holds_in, why_of}
use Rattle.why_claims.specs.Claims.{ReasonIsTrue, AnswerIsTheReceivers}
use Rattle.why_claims.proofs.Theorems.{reason_is_true, answer_is_the_receivers}
use Rattle.why_claims.proofs.Discards.{kinds}
use Rattle.why_claims.specs.Numbers.{Room, in_flash, in_main, in_xip}
use Rattle.why_claims.proofs.Numbers.{All}
use Rattle.why_claims.proofs.Numbers as numbers
use Rattle.why_claims.specs.Passed as passed
use Rattle.why_claims.specs.Passed.{Lengths, Addressed, RowsArePassed}

all_left : (P : Reason → Type 0) (l m : List Reason) → All P (l ++ m) → All P l
all_left P [] m h = tt
all_left P (c ∷ l) m h = (h.0, all_left P l m h.1)

all_right : (P : Reason → Type 0) (l m : List Reason) → All P (l ++ m) → All P m
all_right P [] m h = h
all_right P (c ∷ l) m h = all_right P l m h.1

all_next : (P : Reason → Type 0) (l m : List Reason) → All P l → All P m → All P (l ++ m)
all_next P [] m h k = k
all_next P (c ∷ l) m h k = (h.0, all_next P l m h.1 k)

-- the number of a check's answer
abbrev row : Reason → ℕ
row c = number_of (answer_of c.cause)

-- the checks of rows up to k are passed where a later row answers
up_to : (test : Reason → Bool) (last : Reason) (k : ℕ) (l m : List Reason) {r : Reason} → Deciding test last (l ++ m) r → All (λ c. row c ≤ k) l → k < row r
    → All (λ c. test c ≡ false) l
up_to test last k [] m d h n = tt
up_to test last k (c ∷ l) m (here e) h n = absurd (omega (arith, h.0, n))
up_to test last k (c ∷ l) m (later e d) h n = (e, up_to test last k l m d h.1 n)

-- ---- the rows of the checks

all_faults : (k : ℕ) → 2 ≤ k → (s : Settings) (len : ℕ) (l : List Fault) → All (λ c. row c ≤ k) (fault_row s len l)
unfolding fault_row
all_faults k b s len [] = tt
all_faults k b s len (x ∷ l) = (b, all_faults k b s len l)

all_denials : (k : ℕ) → 8 ≤ k → (f : ℕ) (l : List Denial) → All (λ c. row c ≤ k) (denial_row f l)
unfolding denial_row
all_denials k b f [] = tt
all_denials k b f (x ∷ l) = (b, all_denials k b f l)

module _ (s : Settings) (w : World) (a : List ℕ) where
  abbrev lens : List Reason
  lens = lengths_row (length a) (lengths_of w.held) (length w.seen) (length w.held.sectors)

  abbrev body : List Reason
  body = body_row (room_of (place_in s w a) (block_kind w a)) (lengths_of w.held) (fields_of a)

  abbrev rest : List Reason
  rest = fate_row w.transfer (head_in w a) (field_at a 20) ++ written_row (raised_of w.transfer (head_in w a)) (field_at a 24)

  lens_1 : (k : ℕ) → 1 ≤ k → All (λ c. row c ≤ k) lens
  unfolding lengths_row flash_row buffer_row
  lens_1 k b = (b, (b, (b, (b, (b, (b, (b, (b, tt))))))))

  state_3 : (k : ℕ) → 3 ≤ k → (t : State) → All (λ c. row c ≤ k) (state_row t)
  unfolding state_row running_row done_row
  state_3 k b Idle = tt
  state_3 k b (Running r) = (b, (b, (b, tt)))
  state_3 k b (Done g) = (b, (b, tt))

  place_8 : (k : ℕ) → 8 ≤ k → (u : Kind) (f : ℕ) → All (λ c. row c ≤ k) (place_row u f)
  unfolding place_row
  place_8 k b Flash f = all_denials k b f flash_denials
  place_8 k b MainRam f = all_denials k b f ram_denials
  place_8 k b XipRam f = all_denials k b f ram_denials

  numbers_11 : (x y z : ℕ) → All (λ c. row c ≤ 11) (numbers_row x y z)
  unfolding numbers_row
  numbers_11 x y z = (omega arith, (omega arith, (omega arith, tt)))

  address_11 : (x z : ℕ) → All (λ c. row c ≤ 11) (address_row x z)
  unfolding address_row
  address_11 x z = (omega arith, (omega arith, (omega arith, tt)))

  stray_11 : (x : ℕ) → All (λ c. row c ≤ 11) (stray_row x)
  unfolding stray_row
  stray_11 x = (omega arith, (omega arith, tt))

  in_11 : (u : Kind) (x z : ℕ) → All (λ c. row c ≤ 11) (address_in u x z)
  unfolding address_in window_row
  in_11 Flash x z = address_11 x z
  in_11 MainRam x z = (omega arith, tt)
  in_11 XipRam x z = (omega arith, tt)

  payload_9 : (k : ℕ) → 9 ≤ k → (z : ℕ) → All (λ c. row c ≤ k) (payload_row z)
  unfolding payload_row
  payload_9 k b z = (b, tt)

-- ---- one part after the other

module _ (test : Reason → Bool) (last : Reason) {r : Reason} where
  skip : (l m : List Reason) → Deciding test last (l ++ m) r → All (λ c. test c ≡ false) l → Deciding test last m r
  skip [] m d h = d
  skip (c ∷ l) m (here e) h = clash (test c) e h.0
  skip (c ∷ l) m (later e d) h = skip l m d h.1

  step : (k : ℕ) (l m : List Reason) → Deciding test last (l ++ m) r → All (λ c. row c ≤ k) l → k < row r → All (λ c. test c ≡ false) l × Deciding test last m r
  step k l m d h n = let p = up_to test last k l m d h n in (p, skip l m d p)

module _ (s : Settings) (w : World) (a : List ℕ) {r : Reason} (d : Deciding (holds_in s w a) (last_of w a) (checks_of s w a) r) (k : ℕ) (n : k < row r) where
  abbrev T : Reason → Bool
  T = holds_in s w a

  abbrev L : Reason
  L = last_of w a

  abbrev False : List Reason → Type 0
  False l = All (λ c. T c ≡ false) l

  abbrev After : List Reason → Type 0
  After m = Deciding T L m r

  abbrev m7 : List Reason
  m7 = body s w a ++ rest s w a

  abbrev m5 : List Reason
  m5 = header_row a ++ (place_row (block_kind w a) (field_at a 28) ++ m7)

  abbrev len : ℕ
  len = length w.held.flash

  -- the whole list, bracketed to the right
  whole : After (lens s w a ++ (settings_row s len ++ (state_row w.transfer ++ m5)))
  unfolding checks_of board_rows block_row fields_of
  whole =
      subst After
      (append_assoc (lens s w a) (settings_row s len ++ state_row w.transfer) _
      ∙ ap (λ (x : List Reason). lens s w a ++ x)
      (append_assoc (settings_row s len) (state_row w.transfer) _
      ∙ ap (λ (x : List Reason). settings_row s len ++ (state_row w.transfer ++ (header_row a ++ x))) (append_assoc (place_row (block_kind w a) (field_at a 28)) (body s w a) (rest s w a))))
      d

  at_1 : 1 ≤ k → False (lens s w a) × After (settings_row s len ++ (state_row w.transfer ++ m5))
  at_1 b = step T L k (lens s w a) _ whole (lens_1 s w a k b) n

  at_2 : 2 ≤ k → False (settings_row s len) × After (state_row w.transfer ++ m5)
  at_2 b = step T L k (settings_row s len) _ (at_1 (omega arith)).1 (unfold settings_row in all_faults k b s len (faults_of s)) n

  at_3 : 3 ≤ k → False (state_row w.transfer) × After m5
  at_3 b = step T L k (state_row w.transfer) _ (at_2 (omega arith)).1 (state_3 s w a k b w.transfer) n

  abbrev magic : List Reason
  magic = magic_row (field_at a 0) (field_at a 4) (field_at a 508)

  at_4 : 4 ≤ k → False magic × After (flags_row (field_at a 8) ++ (place_row (block_kind w a) (field_at a 28) ++ m7))
  unfolding header_row magic_row
  at_4 b = step T L k magic _ (subst After (append_assoc magic (flags_row (field_at a 8)) _) (at_3 (omega arith)).1) (b, (b, (b, tt))) n

  at_5 : 5 ≤ k → (field_at a 8 / 0x1000 % 2 ≢ 1)
  unfolding flags_row
  at_5 b = eqb-false _ _ (step T L k (_ ∷ []) _ (at_4 (omega arith)).1 (b, tt) n).0.0

  at_7 : 7 ≤ k → (field_at a 8 / 0x2000 % 2 ≡ 1) × After (place_row (block_kind w a) (field_at a 28) ++ m7)
  unfolding flags_row
  at_7 b = let x = step T L k (_ ∷ _ ∷ []) _ (at_4 (omega arith)).1 (omega arith, (b, tt)) n in (eqb-true _ _ (not-false _ x.0.1.0), x.1)

  at_8 : 8 ≤ k → False (place_row (block_kind w a) (field_at a 28)) × After m7
  at_8 b = step T L k (place_row (block_kind w a) (field_at a 28)) _ (at_7 (omega arith)).1 (place_8 s w a k b (block_kind w a) (field_at a 28)) n

  -- the parts of a data block's rows 9 to 11, and of a comment's row 10
  abbrev room : ℕ
  room = room_of (place_in s w a) (block_kind w a)

  abbrev window : Window
  window = window_of (lengths_of w.held) (field_at a 12)

  at_9 : 9 ≤ k → has_flag a 0x1 ≡ false → field_at a 16 ≡ 256
  unfolding body_row fields_of page_row payload_row
  at_9 b c = by_window window (subst (λ (x : Bool). After (cond x (numbers_row (field_at a 24) (field_at a 20) room) (page_row window room (fields_of a)) ++ rest s w a)) c (at_8 (omega arith)).1)
    where
      first : (m : List Reason) → After (payload_row (field_at a 16) ++ m) → field_at a 16 ≡ 256
      first m x = eqb-true _ _ (not-false _ (step T L k (payload_row (field_at a 16)) m x (b, tt) n).0.0)

      by_window : (u : Window) → After (page_row u room (fields_of a) ++ rest s w a) → field_at a 16 ≡ 256
      by_window None x = first _ x
      by_window (Some v) x = first _ x

  body_11 : All (λ c. row c ≤ 11) (body s w a)
  unfolding body_row fields_of page_row
  body_11 = by-case (has_flag a 0x1) window
    where
      by-case : (c : Bool) (u : Window) → All (λ c. row c ≤ 11) (cond c (numbers_row (field_at a 24) (field_at a 20) room) (page_row u room (fields_of a)))
      by-case true u = numbers_11 s w a _ _ _
      by-case false None = all_next _ (payload_row (field_at a 16)) _ (payload_9 s w a 11 (omega arith) _) (all_next _ (stray_row (field_at a 12)) _ (stray_11 s w a _) (numbers_11 s w a _ _ _))
      by-case false (Some v) = all_next _ (payload_row (field_at a 16)) _ (payload_9 s w a 11 (omega arith) _) (all_next _ (numbers_row (field_at a 24) (field_at a 20) room) _ (numbers_11 s w a _ _ _) (in_11 s w a v _ _))

  abbrev NumbersFalse : Type 0
  NumbersFalse = False (numbers_row (field_at a 24) (field_at a 20) room)

  at_11 : k ≡ 11 → False (body s w a)
  at_11 e = (step T L k (body s w a) _ (at_8 (omega arith)).1 (subst (λ (i : ℕ). All (λ c. row c ≤ i) (body s w a)) (sym e) body_11) n).0

  numbers_false : k ≡ 11 → NumbersFalse
  unfolding body_row fields_of page_row
  numbers_false e = by-case (has_flag a 0x1) window (at_11 e)
    where
      by-case : (c : Bool) (u : Window) → False (cond c (numbers_row (field_at a 24) (field_at a 20) room) (page_row u room (fields_of a))) → NumbersFalse
      by-case true u x = x
      by-case false None x = all_right _ (stray_row (field_at a 12)) _ (all_right _ (payload_row (field_at a 16)) _ x)
      by-case false (Some v) x = all_left _ (numbers_row (field_at a 24) (field_at a 20) room) _ (all_right _ (payload_row (field_at a 16)) _ x)

  -- row 11 by the kind of the window
  abbrev AddressFalse : Kind → Type 0
  AddressFalse u = False (address_in u (field_at a 12) room)

  kind_in_lem : has_flag a 0x1 ≡ false → (u : Window) → window ≡ u → (v : Kind) → windows.kind_of w a ≡ v → False (page_row u room (fields_of a)) → AddressFalse v
  unfolding page_row fields_of kind_of address_in
  kind_in_lem c None e v f x = absurd (numbers.strays s w a e (numbers.stray_gone s w a (all_left _ (stray_row (field_at a 12)) _ (all_right _ (payload_row (field_at a 16)) _ x))))
  kind_in_lem c (Some u) e v f x =
      let g : v ≡ u = sym f ∙ sym (kinds s w a) ∙ rw (c, e) in
      subst AddressFalse (sym g) (all_right _ (numbers_row (field_at a 24) (field_at a 20) room) _ (all_right _ (payload_row (field_at a 16)) _ x))

  address_false : k ≡ 11 → has_flag a 0x1 ≡ false → (v : Kind) → windows.kind_of w a ≡ v → AddressFalse v
  unfolding body_row fields_of
  address_false e c v f = kind_in_lem c window refl v f (subst (λ (x : Bool). False (cond x (numbers_row (field_at a 24) (field_at a 20) room) (page_row window room (fields_of a)))) c (at_11 e))

-- ---- the bytes of the place

room_is : (s : Settings) (w : World) (a : List ℕ) (size : ℕ) → Room s w a size → size ≡ room_of (place_in s w a) (block_kind w a)
room_is s w a size (in_flash start n e p) = rw (kinds s w a, e, p)
room_is s w a size (in_main e) = rw (kinds s w a, e)
room_is s w a size (in_xip e) = rw (kinds s w a, e)

-- ---- good settings

no_fault : (s : Settings) (w : World) (a : List ℕ) (l : List Fault) → All (λ c. holds_in s w a c ≡ false) (fault_row s (length w.held.flash) l) → first_in s (length w.held.flash) l ≡ None
unfolding fault_row first_in
no_fault s w a [] h = refl
no_fault s w a (x ∷ l) h = rw h.0 (no_fault s w a l h.1)

either : (x n : ℕ) → not (eqb x 0) && not (eqb x n) ≡ false → (x ≡ 0) ⊎ (x ≡ n)
either x n e = split (eqb x 0) (λ y. inl (eqb-true x 0 y)) (λ z. inr (eqb-true x n (not-false _ (rw z at e))))

sound_state : (T : Reason → Bool) (s : Settings) (w : World) (a : List ℕ) (t : State) → All (λ c. holds_in s w a c ≡ false) (state_row t) → passed.Sound t
unfolding state_row running_row done_row
sound_state T s w a Idle h = passed.idle
sound_state T s w a (Running r) h = passed.running (ltb-false _ _ h.0) (leb-false _ _ h.1.0) (ltb-false _ _ h.1.1.0)
sound_state T s w a (Done g) h = passed.done (ltb-false _ _ h.0) (ltb-false _ _ h.1.0)

by_reason : (s : Settings) (w : World) (a : List ℕ) {r : Reason} → Deciding (holds_in s w a) (last_of w a) (checks_of s w a) r → passed.Passed s w a (row r)
unfolding lengths_row flash_row buffer_row settings_row first_fault magic_row numbers_row address_in address_row window_row
by_reason s w a d =
    record {
      row_1 = λ n.
          let x = (at_1 s w a d 1 n (omega arith)).0 in
          record {
            arrival = eqb-true _ _ (not-false _ x.0);
            flash_whole = eqb-true _ _ (not-false _ x.1.0);
            flash_least = ltb-false _ _ x.1.1.0;
            flash_most = ltb-false _ _ x.1.1.1.0;
            seen = eqb-true _ _ (not-false _ x.1.1.1.1.0);
            sectors = eqb-true _ _ (not-false _ x.1.1.1.1.1.0);
            main = either _ _ x.1.1.1.1.1.1.0;
            xip = either _ _ x.1.1.1.1.1.1.1.0;
          };
      row_2 = λ n. (sound_is_good s (length w.held.flash)).0 (no_fault s w a (faults_of s) (at_2 s w a d 2 n (omega arith)).0);
      row_3 = λ n. sound_state (holds_in s w a) s w a w.transfer (at_3 s w a d 3 n (omega arith)).0;
      row_4 = λ n. let x = (at_4 s w a d 4 n (omega arith)).0 in (eqb-true _ _ (not-false _ x.0), eqb-true _ _ (not-false _ x.1.0), eqb-true _ _ (not-false _ x.1.1.0));
      row_5 = λ n. at_5 s w a d 5 n (omega arith);
      row_7 = λ n. (at_7 s w a d 7 n (omega arith)).0;
      row_8 = λ n. (room_of (place_in s w a) (block_kind w a), numbers.room s w a (block_kind w a) (sym (kinds s w a)) (at_8 s w a d 8 n (omega arith)).0);
      row_9 = λ n c. at_9 s w a d 9 n (omega arith) c;
      row_10 = λ n size R.
          let x = numbers_false s w a d 11 n refl in
          let e = room_is s w a size R in
          let z : field_at a 24 ≢ 0 = eqb-false _ _ x.0 in
          (omega (arith, z), rw e (ltb-false _ _ x.1.0), leb-false _ _ x.1.1.0);
      row_11 = λ n c size R.
          let e = room_is s w a size R in
          record {
            flash = λ f. let x = address_false s w a d 11 n refl c Flash f in (ltb-false _ _ x.0, eqb-true _ _ (not-false _ x.1.0), rw e (ltb-false _ _ x.1.1.0));
            main = λ f. ltb-false _ _ (address_false s w a d 11 n refl c MainRam f).0;
            xip = λ f. ltb-false _ _ (address_false s w a d 11 n refl c XipRam f).0;
          };
    }

pub rows_are_passed : RowsArePassed
unfolding RowsArePassed ReasonIsTrue AnswerIsTheReceivers LookTells
rows_are_passed s w a =
    let e : answer_of (why_of s w a).reason.cause ≡ (receive_of s w a).answer = answer_is_the_receivers s w a ∙ ap (λ (o : Forecast). o.answer) (look_tells s w a) in
    subst (λ (x : Answer). passed.Passed s w a (number_of x)) e (by_reason s w a (reason_is_true s w a))
