-- The claims of specs/Exact.antt hold. Assumes nothing.
use Prim.{Unit, tt}
use Prim.Native.Nat.{ℕ, ◌+◌, ◌*◌, ◌%◌, ◌≤◌, ◌<◌}
use mathlib.Core.Path.{◌≡◌, refl, sym, ap, subst, ◌∙◌}
use mathlib.Core.Logic.{◌⊎◌, ◌≢◌, inl, inr, ⊎_elim}
use mathlib.Core.Bool.{Bool, true, false, cond, ◌&&◌, ◌||◌, or-true}
use mathlib.Core.List.{List}
use native.Mathlib.Omega.{arith}
use lib.Dec.{ltb, leb, eqb}
use lib.ListN.{length}
use borrow.Author.Tests.{eqb-true, eqb-false, leb-true, leb-false, ltb-true, le-leb, le-ltb, lt-ltb}
use Rattle.laws.proofs.Tests.{split, clash, and_left, and_right}
use Rattle.ihex_record.specs.Record.{ParseResult, word_of, read_of}
use Rattle.ihex_record.specs.declared.Record.{Record}
use Rattle.std.specs.Prelude.{Option, Some, None, Result, Ok, Err}
use Rattle.uhex_grammar.specs.Answers.{number_of}
use Rattle.uhex_grammar.specs.Boards.{has_board, both_boards}
use Rattle.uhex_grammar.specs.Grammar.{is_extended_linear, is_end_of_file, is_block_start, data_kind, after_padding, role_of}
use Rattle.ihex_record.specs.declared.LineError.TheVariants as error
use Rattle.uhex_grammar.specs.declared.Answer.{Answer}
use Rattle.uhex_grammar.specs.declared.Answer.TheVariants as answer
use Rattle.uhex_grammar.specs.declared.ReaderState.{ReaderState}
use Rattle.uhex_grammar.specs.declared.ReaderState.TheVariants.{Between, Opened, Inside, Padded, Ended, Failed}
use Rattle.uhex_grammar.specs.declared.Role.{Role}
use Rattle.uhex_grammar.specs.declared.Role.TheVariants.{Opening, Naming, Address, Data, Padding, Other, Closing, Ending}
use Rattle.uhex_effects.specs.declared.Reader.{Reader}
use Rattle.uhex_effects.specs.declared.Effect.{Effect}
use Rattle.uhex_effects.specs.declared.Effect.TheVariants.{Passes, Stores, Ends}
use Rattle.uhex_reader.specs.Reader.{with_data, given_of, effect_of}
use Rattle.uhex_reader.specs.Line.{LineOutcome, address_of, outside, storing, effect_outcome, parsed_line, live_line, halt_line, halt_of, bad_image, line_of}
use Rattle.uhex_claims.proofs.Facts.{good_line}
use Rattle.uhex_claims.specs.Whole.{data_type_of}
use Rattle.uhex_claims.specs.Exact.{ImageBeforeReader, Open, TooLongExactly, Reading, Allowed, opening_04, ending_01, naming_0_a, inside_04, inside_data, inside_0_e, inside_0_c, inside_0_b, padded_0_e, padded_0_c, padded_0_b, OutOfPlaceExactly, PassedOrUnaligned, DataOrCrosses, EndedOrMissing, UpperPasses, OthersPass}
use Rattle.uhex_claims.proofs.OneRecord.{data_kind_lem, role_data, role_plain}

-- ---- before the record

pub image_before_reader : ImageBeforeReader
unfolding ImageBeforeReader line_of
image_before_reader r l img = (
  λ h. let n = length img in
      let y : bad_image n ≡ true =
      ⊎_elim (λ (k : n < 1). rw (lt-ltb n 1 k)) (λ (k : 1048576 < n). rw (lt-ltb 1048576 n k) (or-true (ltb n 1))) h in
      rw y,
  λ h k y. rw (le-ltb (length img) 1 h, le-ltb 1048576 (length img) k, y),
)

-- an open reader reads on
open_state : (r : Reader) (l img : List ℕ) (s : ReaderState) → r.state ≡ s → Open r img → halt_line r l img (halt_of s) ≡ live_line r l img
unfolding halt_line
open_state r l img Between e o = refl
open_state r l img Opened e o = refl
open_state r l img (Inside b) e o = refl
open_state r l img (Padded b) e o = refl
open_state r l img Ended e o = absurd (o.unended e)
open_state r l img (Failed f) e o = absurd (o.unfailed f e)

open_live : (r : Reader) (l img : List ℕ) → Open r img → line_of r l img ≡ live_line r l img
unfolding line_of
open_live r l img o = rw (o.ready.image, o.ready.reader) (open_state r l img r.state refl o)

-- ---- what a step can come to

-- a failure by a record is one of 26 to 30
Below : Result Effect Answer → Type 0
Below (Err a) = number_of a ≤ 30
Below (Ok (Passes q)) = Unit {0}
Below (Ok (Stores q)) = Unit {0}
Below (Ok (Ends q)) = Unit {0}

effect_below : (r : Reader) (x : Option Role) (address len word : ℕ) → Below (effect_of r x address len word)
unfolding Below effect_of given_of
effect_below r (Some Opening) address len word = split (eqb (r.offset % 512) 0) (λ y. rw y tt) (λ n. rw n (omega arith))
effect_below r (Some Naming) address len word = split (has_board r.sections_seen word) (λ y. rw y (omega arith)) (λ n. rw n tt)
effect_below r (Some Address) address len word = tt
effect_below r (Some (Data b)) address len word =
    split (ltb 65536 (address + len))
    (λ y. rw y (omega arith))
    (λ n. rw n (split (eqb len 0) (λ y. rw y tt) (λ z. rw z (split (eqb b r.own) (λ y. rw y tt) (λ w. rw w tt)))))
effect_below r (Some (Padding b)) address len word = tt
effect_below r (Some Other) address len word = tt
effect_below r (Some Closing) address len word = tt
effect_below r (Some Ending) address len word = split (both_boards r.data_seen) (λ y. rw y tt) (λ n. rw n (omega arith))
effect_below r None address len word = omega arith

outcome_below : (r : Reader) (rec : Record) (d : List ℕ) (e : ℕ) (img : List ℕ) (t : Result Effect Answer) → Below t → number_of (effect_outcome r rec d e img t).answer ≤ 35
unfolding Below effect_outcome storing
outcome_below r rec d e img (Err a) h = omega arith
outcome_below r rec d e img (Ok (Passes q)) h = omega arith
outcome_below r rec d e img (Ok (Stores q)) h = split (outside q rec img) (λ y. rw y (omega arith)) (λ n. rw n (omega arith))
outcome_below r rec d e img (Ok (Ends q)) h = omega arith

parsed_below : (r : Reader) (d : List ℕ) (e : ℕ) (img : List ℕ) (p : ParseResult) → number_of (parsed_line r d e img p).answer ≤ 35
unfolding parsed_line Rattle.uhex_reader.specs.Line.record_outcome
parsed_below r d e img (Ok rec) =
    outcome_below r rec d e img (effect_of r (role_of r.state rec.kind rec.len) rec.address rec.len (word_of d))
    (effect_below r (role_of r.state rec.kind rec.len) rec.address rec.len (word_of d))
parsed_below r d e img (Err error.NoColon) = omega arith
parsed_below r d e img (Err error.BadShape) = omega arith
parsed_below r d e img (Err (error.BadDigit k)) = omega arith
parsed_below r d e img (Err error.TooLong) = omega arith
parsed_below r d e img (Err error.BadLength) = omega arith
parsed_below r d e img (Err error.BadSum) = omega arith

pub too_long_exactly : TooLongExactly
unfolding TooLongExactly live_line
too_long_exactly r l img o = (
  λ a. split (ltb 4194304 (r.offset + length l))
      (λ y. ltb-true 4194304 (r.offset + length l) y)
      (λ n.
      let e : live_line r l img ≡ parsed_line r (read_of l).«data» (r.offset + length l) img (read_of l).parsed = rw n in
      let m = parsed_below r (read_of l).«data» (r.offset + length l) img (read_of l).parsed in
      absurd (omega (arith, ap number_of (sym (ap (λ (q : LineOutcome). q.answer) (open_live r l img o ∙ e)) ∙ a)))),
  λ h. ap (λ (q : LineOutcome). q.answer) (open_live r l img o) ∙ rw (lt-ltb 4194304 (r.offset + length l) h),
)

-- ---- the record

module _ (r : Reader) (l img : List ℕ) (rec : Record) (o : Reading r l img rec) where
  -- what the line comes to, in a state
  read_at : (s : ReaderState) → r.state ≡ s
      → (line_of r l img).answer
      ≡ (effect_outcome r rec (read_of l).«data» (r.offset + length l) img (effect_of r (role_of s rec.kind rec.len) rec.address rec.len (word_of (read_of l).«data»))).answer
  read_at s e =
      ap (λ (q : LineOutcome). q.answer) (good_line r l img rec s o.reader.ready o.within o.says e (open_state r l img s e o.reader))

  unaligned : r.state ≡ Between → rec.kind ≡ 4 → rec.len ≡ 2 → (line_of r l img).answer ≡ cond (eqb (r.offset % 512) 0) answer.Passed answer.Unaligned
  unfolding role_of effect_of effect_outcome
  unaligned e k n = read_at Between e ∙ rw (k, n) (split (eqb (r.offset % 512) 0) (λ y. rw y) (λ z. rw z))

  missing : r.state ≡ Between → rec.kind ≡ 1 → rec.len ≡ 0 → (line_of r l img).answer ≡ cond (r.data_seen.v1 && r.data_seen.v2) answer.Ended answer.MissingBoard
  unfolding role_of effect_of effect_outcome
  missing e k n = read_at Between e ∙ rw (k, n) (split (r.data_seen.v1 && r.data_seen.v2) (λ y. rw y) (λ z. rw z))

  upper : (b : ℕ) → r.state ≡ Inside b → rec.kind ≡ 4 → rec.len ≡ 2 → (line_of r l img).answer ≡ answer.Passed
  unfolding role_of effect_of effect_outcome
  upper b e k n = read_at (Inside b) e ∙ rw (k, n)

  -- 0C, 0E and 0B
  after_0_c : (b : ℕ) → (rec.kind ≡ 12) ⊎ (rec.kind ≡ 14) ⊎ (rec.kind ≡ 11)
      → (effect_outcome r rec (read_of l).«data» (r.offset + length l) img (effect_of r (after_padding b rec.kind) rec.address rec.len (word_of (read_of l).«data»))).answer
      ≡ answer.Passed
  unfolding after_padding effect_of effect_outcome
  after_0_c b k = ⊎_elim (λ (e : rec.kind ≡ 12). rw e) (⊎_elim (λ (e : rec.kind ≡ 14). rw e) (λ (e : rec.kind ≡ 11). rw e)) k

  others : (b : ℕ) → (r.state ≡ Inside b) ⊎ (r.state ≡ Padded b) → (rec.kind ≡ 12) ⊎ (rec.kind ≡ 14) ⊎ (rec.kind ≡ 11) → (line_of r l img).answer ≡ answer.Passed
  others b s k =
      ⊎_elim
      (λ (e : r.state ≡ Inside b). read_at (Inside b) e ∙ rw (role_plain b rec.len rec.kind (not-kind 4 refl) (not-kind 0 refl) (not-kind 13 refl)) (after_0_c b k))
      (λ (e : r.state ≡ Padded b). read_at (Padded b) e ∙ unfold role_of in after_0_c b k) s
    where
      not-kind : (n : ℕ) → eqb n 12 || eqb n 14 || eqb n 11 ≡ false → rec.kind ≢ n
      not-kind n h e =
          clash (eqb n 12 || eqb n 14 || eqb n 11)
          (subst (λ (m : ℕ). eqb m 12 || eqb m 14 || eqb m 11 ≡ true) e
          (⊎_elim (λ (f : rec.kind ≡ 12). rw f) (⊎_elim (λ (f : rec.kind ≡ 14). rw f) (λ (f : rec.kind ≡ 11). rw f)) k))
          h

  -- data of a board in its section
  crosses : (b : ℕ) → r.state ≡ Inside b → rec.kind ≡ data_type_of b
      → (line_of r l img).answer
      ≡ cond (ltb 65536 (rec.address + rec.len)) answer.Crosses
      (cond (eqb b r.own && leb 1 rec.len)
      (cond (leb (65536 * r.upper + rec.address + rec.len) (length img)) answer.Stored answer.Outside)
      answer.Passed)
  unfolding effect_of given_of effect_outcome storing with_data
  crosses b e k =
      read_at (Inside b) e
      ∙ rw (role_data b rec.len rec.kind k)
      (split (ltb 65536 (rec.address + rec.len))
      (λ y. rw y)
      (λ n.
      rw n
      (split (eqb rec.len 0)
      (λ y. rw (eqb-true rec.len 0 y) (none (eqb b r.own)))
      (λ z.
      let some : leb 1 rec.len ≡ true = le-leb 1 rec.len (omega (arith, eqb-false rec.len 0 z)) in
      rw (z, some)
      (split (eqb b r.own)
      (λ y.
      rw y
      (split (leb (address_of r rec + rec.len) (length img))
      (λ f. rw (f, le-ltb (length img) (address_of r rec + rec.len) (leb-true (address_of r rec + rec.len) (length img) f)))
      (λ f. rw (f, lt-ltb (length img) (address_of r rec + rec.len) (leb-false (address_of r rec + rec.len) (length img) f)))))
      (λ m. rw m))))))
    where
      none : (c : Bool) → answer.Passed ≡ cond (c && false) (cond (leb (65536 * r.upper + rec.address + 0) (length img)) answer.Stored answer.Outside) answer.Passed
      none true = refl
      none false = refl

pub passed_or_unaligned : PassedOrUnaligned
unfolding PassedOrUnaligned
passed_or_unaligned r l img rec o e k n = unaligned r l img rec o e k n

pub data_or_crosses : DataOrCrosses
unfolding DataOrCrosses
data_or_crosses r l img rec o b e k = crosses r l img rec o b e k

pub ended_or_missing : EndedOrMissing
unfolding EndedOrMissing
ended_or_missing r l img rec o e k n = missing r l img rec o e k n

pub upper_passes : UpperPasses
unfolding UpperPasses
upper_passes r l img rec o b e k n = upper r l img rec o b e k n

pub others_pass : OthersPass
unfolding OthersPass
others_pass r l img rec o b e k = others r l img rec o b e k

-- ---- 26

-- a record has a place, or is refused
allowed_or : (s : ReaderState) (kind len : ℕ) → s ≢ Ended → ((f : Rattle.uhex_grammar.specs.declared.Failure.Failure) → s ≢ Failed f) → Allowed s kind len ⊎ (role_of s kind len ≡ None)
unfolding role_of after_padding
allowed_or Between kind len u v =
    split (is_extended_linear kind len)
    (λ y.
    inl (place_at opening_04 (eqb-true kind 4 (and_left (eqb kind 4) (eqb len 2) y)) (eqb-true len 2 (and_right (eqb kind 4) (eqb len 2) y))))
    (λ n.
    split (is_end_of_file kind len)
    (λ y.
    inl (place_at ending_01 (eqb-true kind 1 (and_left (eqb kind 1) (eqb len 0) y)) (eqb-true len 0 (and_right (eqb kind 1) (eqb len 0) y))))
    (λ m. inr (rw (n, m))))
  where
    place_at : {k n : ℕ} → Allowed Between k n → kind ≡ k → len ≡ n → Allowed Between kind len
    place_at a e f = rw (e, f) a
allowed_or Opened kind len u v =
    split (is_block_start kind len)
    (λ y. inl (rw (eqb-true kind 10 (and_left (eqb kind 10) (leb 2 len) y)) (naming_0_a (leb-true 2 len (and_right (eqb kind 10) (leb 2 len) y)))))
    (λ n. inr (rw n))
allowed_or (Inside b) kind len u v =
    split (is_extended_linear kind len)
    (λ y.
    inl (rw (eqb-true kind 4 (and_left (eqb kind 4) (eqb len 2) y), eqb-true len 2 (and_right (eqb kind 4) (eqb len 2) y)) inside_04))
    (λ n.
    split (eqb kind (data_kind b))
    (λ y. inl (inside_data (eqb-true kind (data_kind b) y ∙ data_kind_lem b)))
    (λ m.
    split (eqb kind 12)
    (λ y. inl (rw (eqb-true kind 12 y) inside_0_c))
    (λ w.
    split (eqb kind 14)
    (λ y. inl (rw (eqb-true kind 14 y) inside_0_e))
    (λ z. split (eqb kind 11) (λ y. inl (rw (eqb-true kind 11 y) inside_0_b)) (λ t. inr (rw (n, m, w, z, t)))))))
allowed_or (Padded b) kind len u v =
    split (eqb kind 12)
    (λ y. inl (rw (eqb-true kind 12 y) padded_0_c))
    (λ w.
    split (eqb kind 14)
    (λ y. inl (rw (eqb-true kind 14 y) padded_0_e))
    (λ z. split (eqb kind 11) (λ y. inl (rw (eqb-true kind 11 y) padded_0_b)) (λ t. inr (rw (w, z, t)))))
allowed_or Ended kind len u v = absurd (u refl)
allowed_or (Failed f) kind len u v = absurd (v f refl)

-- a role that is none of refused
is_refused : Option Role → Bool
is_refused (Some Opening) = false
is_refused (Some Naming) = false
is_refused (Some Address) = false
is_refused (Some (Data b)) = false
is_refused (Some (Padding b)) = false
is_refused (Some Other) = false
is_refused (Some Closing) = false
is_refused (Some Ending) = false
is_refused None = true

allowed_role : {s : ReaderState} {kind len : ℕ} → Allowed s kind len → is_refused (role_of s kind len) ≡ false
unfolding role_of after_padding is_refused
allowed_role opening_04 = refl
allowed_role ending_01 = refl
allowed_role (naming_0_a {n} h) = rw (le-leb 2 n h)
allowed_role inside_04 = refl
allowed_role (inside_data {b} {kind} {n} k) = rw (role_data b n kind k)
allowed_role (inside_0_e {b} {n}) = rw (role_plain b n 14 (λ f. omega arith) (λ f. omega arith) (λ f. omega arith))
allowed_role (inside_0_c {b} {n}) = rw (role_plain b n 12 (λ f. omega arith) (λ f. omega arith) (λ f. omega arith))
allowed_role (inside_0_b {b} {n}) = rw (role_plain b n 11 (λ f. omega arith) (λ f. omega arith) (λ f. omega arith))
allowed_role padded_0_e = refl
allowed_role padded_0_c = refl
allowed_role padded_0_b = refl

-- the answer of a step that a role allows is not 26
Not26 : Result Effect Answer → Type 0
Not26 (Err a) = number_of a ≢ 26
Not26 (Ok (Passes q)) = Unit {0}
Not26 (Ok (Stores q)) = Unit {0}
Not26 (Ok (Ends q)) = Unit {0}

effect_not : (r : Reader) (x : Option Role) (address len word : ℕ) → is_refused x ≡ false → Not26 (effect_of r x address len word)
unfolding Not26 effect_of given_of is_refused
effect_not r (Some Opening) address len word h = split (eqb (r.offset % 512) 0) (λ y. rw y tt) (λ n. rw n (λ e. omega arith))
effect_not r (Some Naming) address len word h = split (has_board r.sections_seen word) (λ y. rw y (λ e. omega arith)) (λ n. rw n tt)
effect_not r (Some Address) address len word h = tt
effect_not r (Some (Data b)) address len word h =
    split (ltb 65536 (address + len))
    (λ y. rw y (λ e. omega arith))
    (λ n. rw n (split (eqb len 0) (λ y. rw y tt) (λ z. rw z (split (eqb b r.own) (λ y. rw y tt) (λ w. rw w tt)))))
effect_not r (Some (Padding b)) address len word h = tt
effect_not r (Some Other) address len word h = tt
effect_not r (Some Closing) address len word h = tt
effect_not r (Some Ending) address len word h = split (both_boards r.data_seen) (λ y. rw y tt) (λ n. rw n (λ e. omega arith))
effect_not r None address len word h = clash true refl h

outcome_not : (r : Reader) (rec : Record) (d : List ℕ) (e : ℕ) (img : List ℕ) (t : Result Effect Answer) → Not26 t → number_of (effect_outcome r rec d e img t).answer ≢ 26
unfolding Not26 effect_outcome storing
outcome_not r rec d e img (Err a) h = h
outcome_not r rec d e img (Ok (Passes q)) h = λ f. omega arith
outcome_not r rec d e img (Ok (Stores q)) h = split (outside q rec img) (λ y. rw y (λ f. omega arith)) (λ n. rw n (λ f. omega arith))
outcome_not r rec d e img (Ok (Ends q)) h = λ f. omega arith

pub out_of_place_exactly : OutOfPlaceExactly
unfolding OutOfPlaceExactly
out_of_place_exactly r l img rec o = (
  λ a w. outcome_not r rec (read_of l).«data» (r.offset + length l) img
      (effect_of r (role_of r.state rec.kind rec.len) rec.address rec.len (word_of (read_of l).«data»))
      (effect_not r (role_of r.state rec.kind rec.len) rec.address rec.len (word_of (read_of l).«data») (allowed_role w))
      (ap number_of (sym (read_at r l img rec o r.state refl) ∙ a)),
  λ w. ⊎_elim (λ (y : Allowed r.state rec.kind rec.len). absurd (w y))
      (λ (e : role_of r.state rec.kind rec.len ≡ None).
      read_at r l img rec o r.state refl
      ∙ ap (λ (x : Option Role). (effect_outcome r rec (read_of l).«data» (r.offset + length l) img (effect_of r x rec.address rec.len (word_of (read_of l).«data»))).answer) e
      ∙ unfold effect_of effect_outcome in refl)
      (allowed_or r.state rec.kind rec.len o.reader.unended o.reader.unfailed),
)
