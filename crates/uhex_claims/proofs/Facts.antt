-- The claims of specs/Facts.antt hold. Assumes nothing.
use Prim.Native.Nat.{ℕ, ◌+◌, ◌-◌, ◌≤◌, ◌<◌}
use mathlib.Core.Path.{◌≡◌, refl, ap, ◌∙◌}
use mathlib.Core.Logic.{◌⊎◌, ◌≢◌, ⊎_elim}
use mathlib.Core.Bool.{true, false, not, ◌||◌, and-false, or-true}
use mathlib.Core.List.{List}
use native.Mathlib.Omega.{arith}
use lib.Dec.{ltb, leb, eqb}
use lib.ListN.{length, take}
use lib.Seq.{length-take-le, get_or-take}
use borrow.Author.Tests.{leb-true, eqb-true, le-ltb, le-leb, lt-leb, eq-eqb, ne_eqb}
use Rattle.laws.specs.Over.{over}
use Rattle.laws.proofs.Tests.{split, clash, is_false, eqb_same, or_left, or_right, and_left, and_right}
use Rattle.laws.proofs.OverLaws.{length_over, over_inside, over_before, over_after}
use Rattle.ihex_record.specs.Record.{word_of, read_of}
use Rattle.ihex_record.specs.declared.Record.{Record}
use Rattle.std.specs.Prelude.{Ok}
use Rattle.uhex_grammar.specs.Answers.{number_of, is_failure}
use Rattle.uhex_grammar.specs.Boards.{is_v1, is_v2, has_board, both_boards}
use Rattle.uhex_grammar.specs.Grammar.{is_extended_linear, data_kind, role_of}
use Rattle.uhex_grammar.proofs.Laws.{kept_failure, kept_not}
use Rattle.uhex_grammar.specs.declared.Answer.{Answer}
use Rattle.uhex_grammar.specs.declared.Answer.TheVariants as answer
use Rattle.uhex_grammar.specs.declared.ReaderState.{ReaderState}
use Rattle.uhex_grammar.specs.declared.ReaderState.TheVariants.{Between, Opened, Inside, Padded, Ended, Failed}
use Rattle.uhex_effects.specs.declared.Reader.{Reader}
use Rattle.uhex_effects.specs.declared.Effect.TheVariants.{Stores}
use Rattle.uhex_reader.specs.Reader.{bad_failure, bad_reader, with_state, with_data, moved_to, given_of, effect_of}
use Rattle.uhex_reader.specs.Line.{LineOutcome, line_outcome, failed_by, failing, address_of, storing, effect_outcome, record_outcome, parsed_line, live_line, halt_of, halt_line, bad_image, line_of}
use Rattle.uhex_claims.specs.Facts.{reads_on, Only33Stores, LengthKept, Ready, BadChangesNothing, BadExactly, FailedRepeats, AfterEndStated, FailuresFail, moves_offset, move_of, OffsetMoves, OwnKept, StaysGood, EndEnds, EndOrMissing, PassedOrRepeated, OwnData, StoreIn, StoresOwnData, OwnDataIsStored, ElsewhereUnchanged, OtherBoardUnchanged, BadDigitAt, BadDigitAnswered, BadPosition}
use Rattle.ihex_record.proofs.Good.{good_len, length_data}
use Rattle.ihex_record.proofs.Positions.{bad_position_lem, bad_inside, bad_there, good_before}
use Rattle.uhex_claims.proofs.LineCase.{After, LineCase, bad, past, again, failed, out, stored, passed, ended, good_state_lem, line_case, linear_no_data}

-- ---- the numbers of failures

pub failure_from : (a : Answer) → is_failure a ≡ true → 20 ≤ number_of a
failure_from a e =
    split (leb 20 (number_of a))
    (λ y. leb-true 20 (number_of a) y)
    (λ z. let f : eqb (number_of a) 36 ≡ true = rw z at e in omega (arith, eqb-true (number_of a) 36 f))

pub failure_not_moves : (a : Answer) → is_failure a ≡ true → moves_offset a ≡ false
failure_not_moves a e = is_false (moves_offset a) (λ y. clash (is_failure a) e (taken y))
  where
    taken : moves_offset a ≡ true → is_failure a ≡ false
    taken y =
        let n = number_of a in
        let p : 32 ≤ n = leb-true 32 n (and_left (leb 32 n) (leb n 35) y) in
        let q : n ≤ 35 = leb-true n 35 (and_right (leb 32 n) (leb n 35) y) in
        rw (lt-leb n 30 (omega arith), and-false (leb 20 n), ne_eqb n 36 (λ f. omega arith))

-- ---- a record's data in an image

own_length : {r : Reader} {l img : List ℕ} (rec : Record) → OwnData r l img rec → length (take rec.len (read_of l).«data») ≡ rec.len
own_length {r} {l} rec d =
    length-take-le rec.len (read_of l).«data» (omega (arith, good_len l rec d.says, length_data l))

module _ (r : Reader) (l img : List ℕ) where
  pub fits : (rec : Record) → OwnData r l img rec → address_of r rec + length (take rec.len (read_of l).«data») ≤ length img
  fits rec d = omega (arith, own_length rec d, d.fits)

  stored_in : (rec : Record) → OwnData r l img rec → StoreIn r l img rec (over img (address_of r rec) (take rec.len (read_of l).«data»))
  stored_in rec d =
      let at = address_of r rec in
      let s = take rec.len (read_of l).«data» in
      record {
        whole = refl;
        inside = λ i h.
            let e : at + i - at ≡ i = omega arith in
            over_inside img at s (fits rec d) (at + i) (omega arith) (omega (arith, own_length rec d))
            ∙ rw e (get_or-take rec.len (read_of l).«data» i 0 h);
        outside = λ j. ⊎_elim
            (λ b. over_before img at s (fits rec d) j b)
            (λ b. over_after img at s (fits rec d) j (omega (arith, own_length rec d)));
      }

  -- ---- what changes nothing

  unstored : {o : LineOutcome} → LineCase r l img o → o.answer ≢ answer.Stored → o.image ≡ img
  unstored (bad a n x) h = refl
  unstored (past e) h = refl
  unstored (again f e g) h = refl
  unstored (failed a f) h = refl
  unstored (out rec q p w m) h = refl
  unstored (stored rec q d w m) h = absurd (h refl)
  unstored (passed rec q p w m) h = refl
  unstored (ended rec p w b m) h = refl

  keeps_length : {o : LineOutcome} → LineCase r l img o → length o.image ≡ length img
  keeps_length (bad a n x) = refl
  keeps_length (past e) = refl
  keeps_length (again f e g) = refl
  keeps_length (failed a f) = refl
  keeps_length (out rec q p w m) = refl
  keeps_length (stored rec q d w m) = length_over img (address_of r rec) (take rec.len (read_of l).«data») (fits rec d)
  keeps_length (passed rec q p w m) = refl
  keeps_length (ended rec p w b m) = refl

  nothing_bad : {o : LineOutcome} → LineCase r l img o → number_of o.answer ≤ 19 → o ≡ line_outcome r o.answer img
  nothing_bad (bad a n x) h = refl
  nothing_bad (past e) h = refl
  nothing_bad (again f e g) h = refl
  nothing_bad (failed a f) h = absurd (omega (arith, failure_from a (kept_failure a f)))
  nothing_bad (out rec q p w m) h = absurd (omega arith)
  nothing_bad (stored rec q d w m) h = absurd (omega arith)
  nothing_bad (passed rec q p w m) h = absurd (omega arith)
  nothing_bad (ended rec p w b m) h = absurd (omega arith)

  not_bad : {o : LineOutcome} → LineCase r l img o → Ready r img → 20 ≤ number_of o.answer
  not_bad (bad a n x) y = absurd (x y)
  not_bad (past e) y = omega arith
  not_bad (again f e g) y = failure_from f.answer (kept_failure f.answer g)
  not_bad (failed a f) y = failure_from a (kept_failure a f)
  not_bad (out rec q p w m) y = omega arith
  not_bad (stored rec q d w m) y = omega arith
  not_bad (passed rec q p w m) y = omega arith
  not_bad (ended rec p w b m) y = omega arith

  -- ---- what changes the reader

  fails : {o : LineOutcome} → LineCase r l img o → is_failure o.answer ≡ true → o ≡ failing r o.answer img
  unfolding with_state
  fails (bad a n x) h = absurd (omega (arith, failure_from a h))
  fails (past e) h = clash false h refl
  fails (again f e g) h = ap (λ s. line_outcome (with_state r s) f.answer img) e
  fails (failed a f) h = refl
  fails (out rec q p w m) h = clash false h refl
  fails (stored rec q d w m) h = clash false h refl
  fails (passed rec q p w m) h = clash false h refl
  fails (ended rec p w b m) h = clash false h refl

  moves : {o : LineOutcome} → LineCase r l img o → o.reader.offset ≡ r.offset + move_of o.answer l
  unfolding with_state moved_to
  moves (bad a n x) = rw (lt-leb 32 (number_of a) (omega arith)) (omega arith)
  moves (past e) = omega arith
  moves (again f e g) = rw (failure_not_moves f.answer (kept_failure f.answer g)) (omega arith)
  moves (failed a f) = rw (failure_not_moves a (kept_failure a f)) (omega arith)
  moves (out rec q p w m) = refl
  moves (stored rec q d w m) = refl
  moves (passed rec q p w m) = refl
  moves (ended rec p w b m) = refl

  keeps_own : {o : LineOutcome} → LineCase r l img o → o.reader.own ≡ r.own
  unfolding with_state moved_to
  keeps_own (bad a n x) = refl
  keeps_own (past e) = refl
  keeps_own (again f e g) = refl
  keeps_own (failed a f) = refl
  keeps_own (out rec q p w m) = w.own
  keeps_own (stored rec q d w m) = w.own
  keeps_own (passed rec q p w m) = w.own
  keeps_own (ended rec p w b m) = refl

  good_own : bad_reader r ≡ false → not (is_v1 r.own || is_v2 r.own) ≡ false
  unfolding bad_reader
  good_own n =
      or_left (not (is_v1 r.own || is_v2 r.own)) (ltb 4194304 r.offset)
      (or_left (not (is_v1 r.own || is_v2 r.own) || ltb 4194304 r.offset) (bad_failure r.state) n)

  good_offset : bad_reader r ≡ false → ltb 4194304 r.offset ≡ false
  unfolding bad_reader
  good_offset n =
      or_right (not (is_v1 r.own || is_v2 r.own)) (ltb 4194304 r.offset)
      (or_left (not (is_v1 r.own || is_v2 r.own) || ltb 4194304 r.offset) (bad_failure r.state) n)

  -- a reader of the same board, whose offset is within the limit
  good_next : (q : Reader) → q.own ≡ r.own → ltb 4194304 q.offset ≡ false → bad_failure q.state ≡ false → bad_reader r ≡ false
      → bad_reader q ≡ false
  unfolding bad_reader
  good_next q o e s n = rw (o, e, s, good_own n)

  good_onward : {rec : Record} {q : Reader} → After r l rec q → r.offset + length l ≤ 4194304 → bad_reader r ≡ false
      → bad_reader (moved_to q (r.offset + length l)) ≡ false
  unfolding moved_to
  good_onward {q = q} w m h =
      good_next (moved_to q (r.offset + length l)) w.own (le-ltb 4194304 (r.offset + length l) m) (w.state (good_state_lem r h)) h

  good_stays : {o : LineOutcome} → LineCase r l img o → bad_reader r ≡ false → bad_reader o.reader ≡ false
  unfolding with_state moved_to bad_failure
  good_stays (bad a n x) h = h
  good_stays (past e) h = h
  good_stays (again f e g) h = h
  good_stays (failed a f) h = good_next (failed_by a r) refl (good_offset h) (rw f) h
  good_stays (out rec q p w m) h = good_onward w m h
  good_stays (stored rec q d w m) h = good_onward w m h
  good_stays (passed rec q p w m) h = good_onward w m h
  good_stays (ended rec p w b m) h = good_next (moved_to (with_state r Ended) (r.offset + length l)) refl (le-ltb 4194304 (r.offset + length l) m) refl h

  ends : {o : LineOutcome} → LineCase r l img o → o.answer ≡ answer.Ended → (both_boards r.data_seen ≡ true) × (o.reader.state ≡ Ended)
  unfolding with_state moved_to
  ends (bad a n x) h = absurd (omega (arith, ap number_of h))
  ends (past e) h = absurd (omega (arith, ap number_of h))
  ends (again f e g) h = clash (is_failure f.answer) (kept_failure f.answer g) (ap is_failure h)
  ends (failed a f) h = clash (is_failure a) (kept_failure a f) (ap is_failure h)
  ends (out rec q p w m) h = absurd (omega (arith, ap number_of h))
  ends (stored rec q d w m) h = absurd (omega (arith, ap number_of h))
  ends (passed rec q p w m) h = absurd (omega (arith, ap number_of h))
  ends (ended rec p w b m) h = (b, refl)

  -- ---- what is stored

  stores : {o : LineOutcome} → LineCase r l img o → o.answer ≡ answer.Stored → (rec : Record) × OwnData r l img rec × StoreIn r l img rec o.image
  stores (bad a n x) h = absurd (omega (arith, ap number_of h))
  stores (past e) h = absurd (omega (arith, ap number_of h))
  stores (again f e g) h = clash (is_failure f.answer) (kept_failure f.answer g) (ap is_failure h)
  stores (failed a f) h = clash (is_failure a) (kept_failure a f) (ap is_failure h)
  stores (out rec q p w m) h = absurd (omega (arith, ap number_of h))
  stores (stored rec q d w m) h = (rec, d, stored_in rec d)
  stores (passed rec q p w m) h = absurd (omega (arith, ap number_of h))
  stores (ended rec p w b m) h = absurd (omega (arith, ap number_of h))

  elsewhere : {o : LineOutcome} → LineCase r l img o → r.state ≢ Inside r.own → o.image ≡ img
  elsewhere (bad a n x) h = refl
  elsewhere (past e) h = refl
  elsewhere (again f e g) h = refl
  elsewhere (failed a f) h = refl
  elsewhere (out rec q p w m) h = refl
  elsewhere (stored rec q d w m) h = absurd (h d.section)
  elsewhere (passed rec q p w m) h = refl
  elsewhere (ended rec p w b m) h = refl

-- ---- the claims

pub only_33_stores : Only33Stores
unfolding Only33Stores
only_33_stores r l img = unstored r l img (line_case r l img)

pub length_kept : LengthKept
unfolding LengthKept
length_kept r l img = keeps_length r l img (line_case r l img)

pub bad_changes_nothing : BadChangesNothing
unfolding BadChangesNothing
bad_changes_nothing r l img = nothing_bad r l img (line_case r l img)

pub bad_exactly : BadExactly
unfolding BadExactly line_of
bad_exactly r l img = (
  λ h. split (bad_image (length img))
      (λ y. let n : 20 ≤ 19 = rw y at h in absurd (omega arith))
      (λ z.
      split (bad_reader r)
      (λ y. let n : 20 ≤ 18 = rw (z, y) at h in absurd (omega arith))
      (λ n. record { image = z; reader = n })),
  not_bad r l img (line_case r l img),
)

pub failed_repeats : FailedRepeats
unfolding FailedRepeats line_of halt_line
failed_repeats r l img f y e = rw (y.image, y.reader, e)

pub after_end : AfterEndStated
unfolding AfterEndStated line_of halt_line
after_end r l img y e = rw (y.image, y.reader, e)

pub failures_fail : FailuresFail
unfolding FailuresFail
failures_fail r l img = fails r l img (line_case r l img)

pub offset_moves : OffsetMoves
unfolding OffsetMoves
offset_moves r l img = moves r l img (line_case r l img)

pub own_kept : OwnKept
unfolding OwnKept
own_kept r l img = keeps_own r l img (line_case r l img)

pub stays_good : StaysGood
unfolding StaysGood
stays_good r l img = good_stays r l img (line_case r l img)

pub end_ends : EndEnds
unfolding EndEnds
end_ends r l img = ends r l img (line_case r l img)

pub stores_own_data : StoresOwnData
unfolding StoresOwnData
stores_own_data r l img = stores r l img (line_case r l img)

pub elsewhere_unchanged : ElsewhereUnchanged
unfolding ElsewhereUnchanged
elsewhere_unchanged r l img = elsewhere r l img (line_case r l img)

pub other_board_unchanged : OtherBoardUnchanged
unfolding OtherBoardUnchanged
other_board_unchanged r l img b n s =
    elsewhere r l img (line_case r l img)
    (λ e. ⊎_elim (λ i. let x : b ≡ r.own = cc in n x) (λ i. let z : ◌≡◌ {A = ℕ} 0 1 = cc in omega arith) s)

-- ---- what a good record comes to, by where the reader stands

-- within the limit
live_good : (r : Reader) (l img : List ℕ) (rec : Record) → r.offset + length l ≤ 4194304 → (read_of l).parsed ≡ Ok rec
    → live_line r l img ≡ record_outcome r rec (read_of l).«data» (r.offset + length l) img
unfolding live_line parsed_line
live_good r l img rec m p = rw (le-ltb 4194304 (r.offset + length l) m, p)

-- in a state s that reads on
pub good_line : (r : Reader) (l img : List ℕ) (rec : Record) (s : ReaderState) → Ready r img → r.offset + length l ≤ 4194304 → (read_of l).parsed ≡ Ok rec
    → r.state ≡ s → halt_line r l img (halt_of s) ≡ live_line r l img
    → line_of r l img
    ≡ effect_outcome r rec (read_of l).«data» (r.offset + length l) img (effect_of r (role_of s rec.kind rec.len) rec.address rec.len (word_of (read_of l).«data»))
unfolding line_of record_outcome
good_line r l img rec s y m p e live =
    rw (y.image, y.reader)
    (ap (λ (s : ReaderState). halt_line r l img (halt_of s)) e ∙ live ∙ live_good r l img rec m p
    ∙ ap (λ (s : ReaderState). effect_outcome r rec (read_of l).«data» (r.offset + length l) img (effect_of r (role_of s rec.kind rec.len) rec.address rec.len (word_of (read_of l).«data»))) e)

own_step : {r : Reader} {l img : List ℕ} (rec : Record) → OwnData r l img rec
    → effect_of r (role_of (Inside r.own) rec.kind rec.len) rec.address rec.len (word_of (read_of l).«data») ≡ Ok (Stores (with_data r r.own))
unfolding role_of effect_of given_of
own_step {r} rec d =
    let k : eqb rec.kind (data_kind r.own) ≡ true = eq-eqb rec.kind (data_kind r.own) d.kind in
    let n : is_extended_linear rec.kind rec.len ≡ false =
    is_false (is_extended_linear rec.kind rec.len)
    (λ y. clash (eqb rec.kind (data_kind r.own)) k (linear_no_data rec.kind rec.len r.own y)) in
    rw (n, k, le-ltb 65536 (rec.address + rec.len) d.within, ne_eqb rec.len 0 (λ e. omega (arith, d.some)), eqb_same r.own)

pub own_data_is_stored : OwnDataIsStored
unfolding OwnDataIsStored
own_data_is_stored r l img rec y m d =
    ap (λ (o : LineOutcome). o.answer)
    (good_line r l img rec (Inside r.own) y m d.says d.section (unfold halt_line in refl)
    ∙ ap (effect_outcome r rec (read_of l).«data» (r.offset + length l) img) (own_step rec d))
    ∙ unfold effect_outcome storing with_data in rw (le-ltb (length img) (address_of r rec + rec.len) d.fits)

pub end_or_missing : EndOrMissing
unfolding EndOrMissing
end_or_missing r l img rec y m p s k n =
    ap (λ (o : LineOutcome). o.answer) (good_line r l img rec Between y m p s (unfold halt_line in refl))
    ∙ unfold effect_outcome role_of effect_of in rw (k, n) (split (both_boards r.data_seen) (λ b. rw b) (λ b. rw b))

pub passed_or_repeated : PassedOrRepeated
unfolding PassedOrRepeated
passed_or_repeated r l img rec b y m d =
    ap (λ (o : LineOutcome). o.answer) (good_line r l img rec Opened y m d.says d.opened (unfold halt_line in refl))
    ∙ unfold effect_outcome role_of effect_of in
    rw (d.kind, le-leb 2 rec.len d.some, d.board) (split (has_board r.sections_seen b) (λ c. rw c) (λ c. rw c))

-- ---- a bad digit

pub bad_digit_at : BadDigitAt
unfolding BadDigitAt
bad_digit_at l p e =
    record {
      after = (bad_position_lem l p e).0;
      within = (bad_inside l p e, (bad_position_lem l p e).1);
      bad = bad_there l p e;
      first = good_before l p e;
    }

-- a reader that reads on
pub live_at : (r : Reader) (l img : List ℕ) (s : ReaderState) → reads_on s ≡ true → halt_line r l img (halt_of s) ≡ live_line r l img
unfolding halt_line
live_at r l img Between y = refl
live_at r l img Opened y = refl
live_at r l img (Inside b) y = refl
live_at r l img (Padded b) y = refl
live_at r l img Ended y = clash false y refl
live_at r l img (Failed f) y = clash false y refl

pub bad_digit_answered : BadDigitAnswered
unfolding BadDigitAnswered line_of live_line parsed_line
bad_digit_answered r l img p y n m e =
    rw (y.image, y.reader) (live_at r l img r.state n ∙ rw (le-ltb 4194304 (r.offset + length l) m, e))

failure_bad : (p : ℕ) → (p < 1) ⊎ (520 < p) → bad_failure (Failed (record { answer = answer.BadDigit p })) ≡ true
unfolding bad_failure
failure_bad p h = rw (kept_not p h)

bad_by : (r : Reader) → bad_failure r.state ≡ true → bad_reader r ≡ true
unfolding bad_reader
bad_by r h = rw h (or-true (not (is_v1 r.own || is_v2 r.own) || ltb 4194304 r.offset))

pub bad_position_refused : BadPosition
unfolding BadPosition line_of
bad_position_refused r l img p y e h = rw (y, bad_by r (ap bad_failure e ∙ failure_bad p h))
