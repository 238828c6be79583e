-- The claims of specs/HexTurns.antt hold. Assumes nothing.
use Prim.Native.Nat.{ℕ, zero, suc, ◌+◌, ◌%◌, ◌≤◌, ◌<◌, ◌^◌}
use mathlib.Core.Path.{◌≡◌, refl, sym, ap, subst, ◌∙◌}
use mathlib.Core.Bool.{Bool, true, false, not, ◌||◌, cond}
use mathlib.Core.List.{List, [], ◌∷◌, map}
use native.Mathlib.Omega.{arith}
use lib.Dec.{ltb, leb, eqb}
use lib.ListN.{length, get_or, take, drop}
use lib.Seq.{get_or-drop}
use borrow.Author.Tests.{ltb-false, eqb-true, eqb-false, not-false}
use Rattle.laws.proofs.Tests.{split, clash, or_left, or_right}
use Rattle.ihex_record.specs.Record.{ParseResult, text_of, bytes_of, len_of, data_of, word_of, read_of, bytes_by}
use Rattle.ihex_record.specs.Write.{Bytes}
use Rattle.ihex_record.specs.declared.Record.{Record}
use Rattle.std.specs.Prelude.{Option, Some, None, Result, Ok, Err}
use Rattle.ihex_record.specs.declared.LineError.TheVariants as error
use Rattle.ihex_record.proofs.Good.{good_line}
use Rattle.ihex_record.proofs.Positions.{bad_position_lem}
use Rattle.ihex_record.proofs.Data32.{get_d_data32}
use Rattle.uhex_grammar.specs.Answers.{position_of}
use Rattle.uhex_grammar.specs.declared.Answer.{Answer}
use Rattle.uhex_grammar.specs.Boards.{is_v1, is_v2, has_board, both_boards}
use Rattle.uhex_grammar.specs.Grammar.{is_extended_linear, is_end_of_file, is_block_start, data_kind, after_padding, role_of}
use Rattle.uhex_grammar.specs.declared.ReaderState.{ReaderState}
use Rattle.uhex_grammar.specs.declared.ReaderState.TheVariants.{Between, Opened, Inside, Padded, Ended, Failed}
use Rattle.uhex_grammar.specs.declared.Role.{Role}
use Rattle.uhex_grammar.specs.declared.Role.TheVariants.{Opening, Naming, Address, Data, Padding, Other, Closing, Ending}
use Rattle.uhex_effects.specs.declared.Reader.{Reader}
use Rattle.uhex_effects.specs.declared.Effect.{Effect}
use Rattle.uhex_effects.specs.declared.Effect.TheVariants.{Passes, Stores, Ends}
use Rattle.uhex_reader.specs.Reader.{bad_failure, bad_reader, with_state, with_upper, with_section, with_data, moved_to, given_of, effect_of}
use Rattle.uhex_reader.specs.Line.{LineOutcome, outside, storing, effect_outcome, record_outcome, parsed_line, live_line, halt_of, halt_line, bad_image, line_of}
use Rattle.uhex_claims.specs.Facts.{StaysGood}
use Rattle.uhex_claims.specs.Lines.{Session, read_all, line_answers, next}
use Rattle.uhex_claims.proofs.Facts.{stays_good}
use Rattle.uhex_layout.specs.Readers.{half_at, reader_state_from, fields_from, reader_from}
use Rattle.uhex_layout.proofs.Answers.{position_most}
use Rattle.uhex_layout.proofs.Refused.{length_bad}
use Rattle.uhex_layout.proofs.Written.{SmallState, Small}
use Rattle.settings_layout.specs.Layout.{byte_at}
use Rattle.call_bytes.specs.HexCalls.{line_result, line_call_of}
use Rattle.call_bytes.proofs.hex.Laws.{line_next}
use Rattle.call_claims.specs.HexTurns.{LentSession, call_line, left_by_line, call_lines, line_returns, session_of, CallsAreLines}
use Rattle.call_claims.proofs.CallLists.{number_low}

-- ---- by cases of a test

either : {A : Type 0} (P : A → Type 0) (b : Bool) {x y : A} → P x → P y → P (cond b x y)
either P true p q = p
either P false p q = q

-- ---- the word that a record says fits 16 bits

abbrev Low : List ℕ → Type 0
Low d = (i : ℕ) → get_or d i 0 < 256

digits_low : (l : List ℕ) → Low (bytes_of l)
unfolding bytes_by
digits_low [] i = omega arith
digits_low (c ∷ []) i = omega arith
digits_low (c ∷ d ∷ l) zero = omega arith
digits_low (c ∷ d ∷ l) (suc i) = digits_low l i

take_low : (n : ℕ) (d : List ℕ) → Low d → Low (take n d)
take_low zero d h i = omega arith
take_low (suc n) [] h i = omega arith
take_low (suc n) (x ∷ d) h zero = h zero
take_low (suc n) (x ∷ d) h (suc i) = take_low n d (λ j. h (suc j)) i

word_low : (l : List ℕ) (rec : Record) → (read_of l).parsed ≡ Ok rec → word_of (read_of l).«data» < 2 ^ 16
word_low l rec e =
    let b = bytes_of (drop 1 (text_of l)) in
    let d : Low (data_of b) = take_low (len_of b) (drop 4 b) (λ i. rw (get_or-drop 4 b i 0) (digits_low (drop 1 (text_of l)) (4 + i))) in
    rw (good_line l rec e, get_d_data32 (data_of b) 0 (omega arith), get_d_data32 (data_of b) 1 (omega arith)) (omega (arith, d 0, d 1))

-- ---- upper address and section's board fit 16 bits

abbrev Narrow : Reader → Type 0
Narrow r = (r.upper < 2 ^ 16) × SmallState r.state

-- what a record is names no other board
abbrev NarrowRole : Option Role → Type 0
NarrowRole (Some Opening) = Unit {0}
NarrowRole (Some Naming) = Unit {0}
NarrowRole (Some Address) = Unit {0}
NarrowRole (Some (Data b)) = Unit {0}
NarrowRole (Some (Padding b)) = b < 2 ^ 16
NarrowRole (Some Other) = Unit {0}
NarrowRole (Some Closing) = Unit {0}
NarrowRole (Some Ending) = Unit {0}
NarrowRole None = Unit {0}

after_narrow : (board kind : ℕ) → board < 2 ^ 16 → NarrowRole (after_padding board kind)
unfolding after_padding
after_narrow board kind h =
    either NarrowRole (eqb kind 12) h (either NarrowRole (eqb kind 14) tt (either NarrowRole (eqb kind 11) tt tt))

role_narrow : (s : ReaderState) (kind len : ℕ) → SmallState s → NarrowRole (role_of s kind len)
unfolding role_of
role_narrow Between kind len h = either NarrowRole (is_extended_linear kind len) tt (either NarrowRole (is_end_of_file kind len) tt tt)
role_narrow Opened kind len h = either NarrowRole (is_block_start kind len) tt tt
role_narrow (Inside b) kind len h =
    either NarrowRole (is_extended_linear kind len) tt (either NarrowRole (eqb kind (data_kind b)) tt (after_narrow b kind h))
role_narrow (Padded b) kind len h = after_narrow b kind h
role_narrow Ended kind len h = tt
role_narrow (Failed f) kind len h = tt

abbrev NarrowStep : Result Effect Answer → Type 0
NarrowStep (Err a) = position_of a < 2 ^ 16
NarrowStep (Ok (Passes q)) = Narrow q
NarrowStep (Ok (Stores q)) = Narrow q
NarrowStep (Ok (Ends q)) = Narrow q

module _ (r : Reader) (h : Narrow r) where
  step_narrow : (x : Option Role) (address len word : ℕ) → NarrowRole x → word < 2 ^ 16 → NarrowStep (effect_of r x address len word)
  unfolding effect_of given_of with_state with_upper with_section with_data
  step_narrow (Some Opening) address len word n w = either NarrowStep (not (eqb (r.offset % 512) 0)) (omega arith) (w, tt)
  step_narrow (Some Naming) address len word n w = either NarrowStep (has_board r.sections_seen word) (omega arith) (h.0, w)
  step_narrow (Some Address) address len word n w = (w, h.1)
  step_narrow (Some (Data b)) address len word n w =
      either NarrowStep (ltb 65536 (address + len)) (omega arith)
      (either (λ (t : Effect). NarrowStep (Ok t)) (eqb len 0) h (either (λ (t : Effect). NarrowStep (Ok t)) (eqb b r.own) h h))
  step_narrow (Some (Padding b)) address len word n w = (h.0, n)
  step_narrow (Some Other) address len word n w = h
  step_narrow (Some Closing) address len word n w = (h.0, tt)
  step_narrow (Some Ending) address len word n w = either NarrowStep (both_boards r.data_seen) (h.0, tt) (omega arith)
  step_narrow None address len word n w = omega arith

  abbrev NarrowOut : LineOutcome → Type 0
  NarrowOut o = Narrow o.reader

  stepped_narrow : (rec : Record) (d : List ℕ) (e : ℕ) (img : List ℕ) (x : Result Effect Answer) → NarrowStep x → NarrowOut (effect_outcome r rec d e img x)
  unfolding effect_outcome storing moved_to with_state
  stepped_narrow rec d e img (Err a) n = (h.0, n)
  stepped_narrow rec d e img (Ok (Passes q)) n = n
  stepped_narrow rec d e img (Ok (Stores q)) n = either NarrowOut (outside q rec img) n n
  stepped_narrow rec d e img (Ok (Ends q)) n = n

  module _ (l img : List ℕ) where
    parsed-narrow : (e : ℕ) (p : ParseResult) → (read_of l).parsed ≡ p → NarrowOut (parsed_line r (read_of l).«data» e img p)
    unfolding parsed_line record_outcome with_state
    parsed-narrow e (Ok rec) q =
        stepped_narrow rec (read_of l).«data» e img _
        (step_narrow (role_of r.state rec.kind rec.len) rec.address rec.len (word_of (read_of l).«data»)
        (role_narrow r.state rec.kind rec.len h.1) (word_low l rec q))
    parsed-narrow e (Err error.NoColon) q = (h.0, omega arith)
    parsed-narrow e (Err error.BadShape) q = (h.0, omega arith)
    parsed-narrow e (Err (error.BadDigit k)) q = (h.0, omega (arith, bad_position_lem l k q))
    parsed-narrow e (Err error.TooLong) q = (h.0, omega arith)
    parsed-narrow e (Err error.BadLength) q = (h.0, omega arith)
    parsed-narrow e (Err error.BadSum) q = (h.0, omega arith)

    live-narrow : NarrowOut (live_line r l img)
    unfolding live_line with_state
    live-narrow =
        either NarrowOut (ltb 4194304 (r.offset + length l)) (h.0, omega arith) (parsed-narrow (r.offset + length l) (read_of l).parsed refl)

    state-narrow : (s : ReaderState) → NarrowOut (halt_line r l img (halt_of s))
    unfolding halt_line
    state-narrow Between = live-narrow
    state-narrow Opened = live-narrow
    state-narrow (Inside b) = live-narrow
    state-narrow (Padded b) = live-narrow
    state-narrow Ended = h
    state-narrow (Failed f) = h

    line-narrow : NarrowOut (line_of r l img)
    unfolding line_of
    line-narrow = either NarrowOut (bad_image (length img)) h (either NarrowOut (bad_reader r) h (state-narrow r.state))

-- the reader that bytes are
from_narrow : (b : List ℕ) → Bytes b → Narrow (reader_from b)
unfolding reader_from fields_from reader_state_from
from_narrow b h =
    let half : (i : ℕ) → half_at b i < 2 ^ 16 = number_low 2 b h in
    let k = byte_at b 8 in
    either Narrow (eqb (length b) 16)
    (either Narrow (leb k 5) (
      half 2,
      either SmallState (eqb k 0) tt
          (either SmallState (eqb k 1) tt
          (either SmallState (eqb k 2) (half 10)
          (either SmallState (eqb k 3) (half 10)
          (either SmallState (eqb k 4) tt (omega (arith, position_most (byte_at b 9) (half_at b 10), half 10)))))),
    )
    (omega arith, tt))
    (omega arith, tt)

-- ---- a reader that row 18 lets through is in range

good_board : (r : Reader) → bad_reader r ≡ false → is_v1 r.own || is_v2 r.own ≡ true
unfolding bad_reader
good_board r n = not-false (is_v1 r.own || is_v2 r.own) (or_left _ (ltb 4194304 r.offset) (or_left _ (bad_failure r.state) n))

good_offset : (r : Reader) → bad_reader r ≡ false → r.offset ≤ 4194304
unfolding bad_reader
good_offset r n =
    ltb-false 4194304 r.offset (or_right (not (is_v1 r.own || is_v2 r.own)) _ (or_left _ (bad_failure r.state) n))

good_own : (r : Reader) → bad_reader r ≡ false → r.own < 2 ^ 16
good_own r n =
    split (is_v1 r.own)
    (λ y. omega (arith, eqb-true r.own 0x9900 y))
    (λ z. let v : is_v2 r.own ≡ true = rw z at (good_board r n) in omega (arith, eqb-true r.own 0x9903 v))

good_small : (r : Reader) → bad_reader r ≡ false → Narrow r → Small r
good_small r n h = record { own = good_own r n; upper = h.0; offset = omega (arith, good_offset r n); state = h.1 }

-- ---- one call

-- a bad reader's bytes stay as they were
bad_stays : (t l img : List ℕ) → bad_reader (reader_from t) ≡ true → reader_from (line_call_of t l img).reader ≡ (line_of (reader_from t) l img).reader
unfolding line_call_of line_of
bad_stays t l img y = split (bad_image (length img)) (λ i. rw i) (λ j. rw (j, y))

-- bytes of a reader that row 18 lets through are 16
good_size : (t : List ℕ) → bad_reader (reader_from t) ≡ false → length t ≡ 16
good_size t n =
    split (eqb (length t) 16)
    (λ y. eqb-true (length t) 16 y)
    (λ z. clash (bad_reader (reader_from t)) (length_bad t (eqb-false (length t) 16 z)) n)

next_reader : (t l img : List ℕ) → Narrow (reader_from t) → reader_from (line_call_of t l img).reader ≡ (line_of (reader_from t) l img).reader
unfolding StaysGood
next_reader t l img h =
    let r = reader_from t in
    split (bad_reader r)
    (λ y. bad_stays t l img y)
    (λ n. line_next t l img (good_size t n) (good_small (line_of r l img).reader (stays_good r l img n) (line-narrow r h l img)))

next_held : (h : LentSession) (l : List ℕ) → Narrow (reader_from h.reader) → session_of (left_by_line (call_line h l)) ≡ next (session_of h) l
unfolding line_call_of
next_held h l n = ap (λ (r : Reader). record { reader = r; image = (call_line h l).image }) (next_reader h.reader l h.image n)

next_narrow : (h : LentSession) (l : List ℕ) → Narrow (reader_from h.reader) → Narrow (reader_from (call_line h l).reader)
next_narrow h l n = subst Narrow (sym (next_reader h.reader l h.image n)) (line-narrow (reader_from h.reader) n l h.image)

-- ---- a list of calls

calls_held : (h : LentSession) (ls : List (List ℕ)) → Narrow (reader_from h.reader) → session_of (call_lines h ls) ≡ read_all (session_of h) ls
unfolding call_lines read_all
calls_held h [] n = refl
calls_held h (l ∷ ls) n =
    calls_held (left_by_line (call_line h l)) ls (next_narrow h l n) ∙ ap (λ (x : Session). read_all x ls) (next_held h l n)

calls_answers : (h : LentSession) (ls : List (List ℕ)) → Narrow (reader_from h.reader) → line_returns h ls ≡ map line_result (line_answers (session_of h) ls)
unfolding line_returns line_answers line_call_of
calls_answers h [] n = refl
calls_answers h (l ∷ ls) n =
    ap (λ (x : List ℕ). (call_line h l).result ∷ x)
    (calls_answers (left_by_line (call_line h l)) ls (next_narrow h l n) ∙ ap (λ (x : Session). map line_result (line_answers x ls)) (next_held h l n))

pub calls_are_lines : CallsAreLines
unfolding CallsAreLines
calls_are_lines h ls b =
    let n = from_narrow h.reader b in
    (calls_held h ls n, calls_answers h ls n)
