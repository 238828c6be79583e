-- A good record after the records before it: those that go on, and what a line then comes to. Assumes nothing.
use Prim.Native.Nat.{ℕ, ◌+◌, ◌%◌, ◌≤◌}
use mathlib.Core.Path.{◌≡◌, refl, sym, ap, ◌∙◌}
use mathlib.Core.Logic.{◌≢◌}
use mathlib.Core.Bool.{Bool, true, false, ◌&&◌, ◌||◌, cond, and-false, or-false}
use mathlib.Core.List.{List}
use native.Mathlib.Omega.{arith}
use lib.Dec.{ltb, leb, eqb}
use lib.ListN.{length}
use lib.Seq.{length-take-le, get_or-take}
use borrow.Author.Tests.{eqb-true, eqb-false, leb-true, leb-false, ltb-false, eq-eqb, ne_eqb, le-leb, le-ltb, lt-ltb}
use Rattle.laws.specs.Over.{over}
use Rattle.laws.proofs.Tests.{split, clash, eqb_same, and_left, and_right}
use Rattle.ihex_record.specs.Record.{read_of, word_of as word_at}
use Rattle.ihex_record.specs.declared.Record.{Record}
use Rattle.std.specs.Prelude.{Some, Result, Ok, Err}
use Rattle.ihex_record.proofs.Good.{good_len, length_data}
use Rattle.uhex_grammar.specs.Answers.{number_of, is_failure}
use Rattle.uhex_grammar.specs.Boards.{is_v1, is_v2, with_board}
use Rattle.uhex_grammar.specs.Grammar.{is_extended_linear, is_end_of_file, is_block_start, data_kind, after_padding, role_of}
use Rattle.uhex_grammar.specs.declared.Answer.{Answer}
use Rattle.uhex_grammar.specs.declared.Answer.TheVariants as answer
use Rattle.uhex_grammar.specs.declared.ReaderState.{ReaderState}
use Rattle.uhex_grammar.specs.declared.ReaderState.TheVariants.{Between, Opened, Inside, Padded, Ended}
use Rattle.uhex_effects.specs.declared.Reader.{Reader}
use Rattle.uhex_effects.specs.declared.Effect.{Effect}
use Rattle.uhex_effects.specs.declared.Effect.TheVariants.{Passes, Stores, Ends}
use Rattle.uhex_reader.specs.Reader.{with_state, with_upper, with_section, with_data, moved_to, given_of, effect_of}
use Rattle.uhex_reader.specs.Line as unihex
use Rattle.uhex_reader.specs.Line.{LineOutcome, line_outcome, storing, effect_outcome, record_outcome, parsed_line, live_line, halt_line, halt_of, line_of}
use Rattle.uhex_claims.specs.Facts.{Ready}
use Rattle.uhex_claims.proofs.Facts.{good_line}
use Rattle.uhex_claims.specs.Items.{Item, item_of, word_of}
use Rattle.uhex_claims.specs.Whole.{data_type_of}
use Rattle.uhex_claims.specs.State.{Place, between, opened, body, padded, place_after, is_in, gives_for, names_for, State, after, address_of, fits_in, answer_for, image_with, reader_state_of, reader_of}

-- ---- the records that go on, by the place where they stand

-- a second section of V1 or V2
abbrev pub second : State → ℕ → Bool
second s b = (eqb b 0x9900 || eqb b 0x9903) && s.section_seen b

pub data Goes (s : State) (x : Item) : Place → Type 0 where
  opening : x.kind ≡ 4 → length x.bytes ≡ 2 → s.size % 512 ≡ 0 → Goes s x between
  naming : x.kind ≡ 10 → 2 ≤ length x.bytes → second s (word_of x) ≡ false → Goes s x opened
  upper : {b : ℕ} → x.kind ≡ 4 → length x.bytes ≡ 2 → Goes s x (body b)
  given : {b : ℕ} → x.kind ≡ data_type_of b → x.address + length x.bytes ≤ 65536 → Goes s x (body b)
  other : {b : ℕ} → x.kind ≡ 14 → Goes s x (body b)
  padding : {b : ℕ} → x.kind ≡ 12 → Goes s x (body b)
  closing : {b : ℕ} → x.kind ≡ 11 → Goes s x (body b)
  tail_other : {b : ℕ} → x.kind ≡ 14 → Goes s x (padded b)
  tail_padding : {b : ℕ} → x.kind ≡ 12 → Goes s x (padded b)
  tail_closing : {b : ℕ} → x.kind ≡ 11 → Goes s x (padded b)

-- ---- types

pub not_data : (kind b : ℕ) → kind ≢ 0 → kind ≢ 13 → eqb kind (data_type_of b) ≡ false
unfolding data_type_of
not_data kind b z t = split (eqb b 0x9900) (λ v. rw v (ne_eqb kind 0 z)) (λ v. rw v (ne_eqb kind 13 t))

pub data_not : (kind b n : ℕ) → n ≢ 0 → n ≢ 13 → kind ≡ data_type_of b → kind ≢ n
data_not kind b n z t k e = clash (eqb n (data_type_of b)) (eq-eqb n (data_type_of b) (sym e ∙ k)) (not_data n b z t)

pub data_kind_lem : (b : ℕ) → data_kind b ≡ data_type_of b
unfolding data_kind data_type_of
data_kind_lem b = refl

-- ---- what a record adds

module _ (x : Item) where
  pub no_name : x.kind ≢ 10 → (b : ℕ) → names_for x b ≡ false
  unfolding names_for
  no_name n b = rw (ne_eqb x.kind 10 n)

  pub a_name : x.kind ≡ 10 → (b : ℕ) → names_for x b ≡ eqb (word_of x) b
  unfolding names_for
  a_name n b = rw n

  pub no_gift : x.kind ≢ 0 → x.kind ≢ 13 → (p : Place) (b : ℕ) → gives_for p x b ≡ false
  unfolding gives_for
  no_gift z t p b = rw (not_data x.kind b z t, and-false (is_in p b))

  pub no_gift_at : (p : Place) → ((b : ℕ) → is_in p b ≡ false) → (b : ℕ) → gives_for p x b ≡ false
  unfolding gives_for
  no_gift_at p h b = rw (h b)

  pub no_bytes : length x.bytes ≡ 0 → (p : Place) (b : ℕ) → gives_for p x b ≡ false
  unfolding gives_for
  no_bytes e p b = rw (e, and-false (eqb x.kind (data_type_of b)), and-false (is_in p b))

  pub a_gift : (c : ℕ) → x.kind ≡ data_type_of c → 1 ≤ length x.bytes → (b : ℕ) → gives_for (body c) x b ≡ eqb c b
  unfolding gives_for
  a_gift c k n b =
      rw (k, le-leb 1 (length x.bytes) n)
      (split (eqb c b) (λ y. rw (y, eqb-true c b y, eqb_same (data_type_of b))) (λ z. rw z))

-- ---- readers

abbrev rd : ℕ → ℕ → ReaderState → ℕ → Bool → Bool → Bool → Bool → Reader
rd own at s u c d g h =
    record { own = own; offset = at; state = s; upper = u; sections_seen = record { v1 = c; v2 = d }; data_seen = record { v1 = g; v2 = h } }

same : (own at : ℕ) {s t : ReaderState} {u v : ℕ} {c c' d d' g g' h h' : Bool} → s ≡ t → u ≡ v → c ≡ c' → d ≡ d' → g ≡ g' → h ≡ h'
    → rd own at s u c d g h ≡ rd own at t v c' d' g' h'
same own at {s} {t} {u} {v} {c} {c'} {d} {d'} {g} {g'} {h} {h'} e f i j k l =
    ap (λ (y : ReaderState). rd own at y u c d g h) e
    ∙ ap (λ (y : ℕ). rd own at t y c d g h) f
    ∙ ap (λ (y : Bool). rd own at t v y d g h) i
    ∙ ap (λ (y : Bool). rd own at t v c' y g h) j
    ∙ ap (λ (y : Bool). rd own at t v c' d' y h) k
    ∙ ap (λ (y : Bool). rd own at t v c' d' g' y) l

idle : (a b : Bool) → b ≡ false → a ≡ a || b
idle a b e = rw e (sym (or-false a))

-- the reader after a record, its offset as it was
abbrev next_of : ℕ → State → Item → Reader
next_of own s x = moved_to (reader_of own (after s x)) s.size

module _ (own : ℕ) (s : State) (x : Item) where
  -- a record that names nothing and gives nothing
  plain : (t : ReaderState) (u : ℕ) → t ≡ reader_state_of (place_after s.place x) → u ≡ cond (eqb x.kind 4) (word_of x) s.upper
      → x.kind ≢ 10 → ((b : ℕ) → gives_for s.place x b ≡ false)
      → rd own s.size t u (s.section_seen 0x9900) (s.section_seen 0x9903) (s.data_seen 0x9900) (s.data_seen 0x9903) ≡ next_of own s x
  unfolding moved_to
  plain t u e f n g =
      same own s.size e f
      (idle (s.section_seen 0x9900) (names_for x 0x9900) (no_name x n 0x9900))
      (idle (s.section_seen 0x9903) (names_for x 0x9903) (no_name x n 0x9903))
      (idle (s.data_seen 0x9900) (gives_for s.place x 0x9900) (g 0x9900))
      (idle (s.data_seen 0x9903) (gives_for s.place x 0x9903) (g 0x9903))

  not_04 : x.kind ≢ 4 → s.upper ≡ cond (eqb x.kind 4) (word_of x) s.upper
  not_04 n = rw (ne_eqb x.kind 4 n)

  is_04 : (w : ℕ) → x.kind ≡ 4 → w ≡ word_of x → w ≡ cond (eqb x.kind 4) (word_of x) s.upper
  is_04 w k e = rw k e

has_second : (s : State) (w : ℕ) → is_v1 w && s.section_seen 0x9900 || is_v2 w && s.section_seen 0x9903 ≡ second s w
has_second s w =
    split (eqb w 0x9900)
    (λ y. rw (eqb-true w 0x9900 y) (or-false (s.section_seen 0x9900)))
    (λ n. rw n (split (eqb w 0x9903) (λ y. rw (eqb-true w 0x9903 y)) (λ m. rw m)))

-- ---- what such a record comes to

abbrev passes : Reader → Result Effect Answer
passes r = Ok (Passes r)

abbrev stores : Reader → Result Effect Answer
stores r = Ok (Stores r)

-- own data is stored, and any other record passes
abbrev effect_for : ℕ → State → Item → Result Effect Answer
effect_for own s x = cond (gives_for s.place x own) (stores (next_of own s x)) (passes (next_of own s x))

-- what the reader makes of a record at a place, where w is its first two data bytes
abbrev pub made : ℕ → State → Item → ℕ → Place → Result Effect Answer
made own s x w p = effect_of (reader_of own s) (role_of (reader_state_of p) x.kind (length x.bytes)) x.address (length x.bytes) w

-- the reader, in another state, with another upper half
abbrev moved : ℕ → State → ReaderState → ℕ → Reader
moved own s t u = rd own s.size t u (s.section_seen 0x9900) (s.section_seen 0x9903) (s.data_seen 0x9900) (s.data_seen 0x9903)

choose : {A : Type 0} (b : Bool) (y z : A) → b ≡ false → z ≡ cond b y z
choose b y z e = rw e

chosen : {A : Type 0} (b : Bool) (y z : A) → b ≡ true → y ≡ cond b y z
chosen b y z e = rw e

-- a type that is none of data and 0A
pub role_plain : (b len kind : ℕ) → kind ≢ 4 → kind ≢ 0 → kind ≢ 13 → role_of (Inside b) kind len ≡ after_padding b kind
unfolding role_of
role_plain b len kind f z t = rw (ne_eqb kind 4 f, data_kind_lem b, not_data kind b z t)

pub role_data : (b len kind : ℕ) → kind ≡ data_type_of b → role_of (Inside b) kind len ≡ Some (Rattle.uhex_grammar.specs.declared.Role.TheVariants.Data b)
unfolding role_of
role_data b len kind k =
    rw (ne_eqb kind 4 (data_not kind b 4 (λ f. omega arith) (λ f. omega arith) k), data_kind_lem b, eq-eqb kind (data_type_of b) k)

module _ (own : ℕ) (s : State) (x : Item) (w : ℕ) (hw : 2 ≤ length x.bytes → w ≡ word_of x) where
  passing : (p : Place) (q : Reader) → gives_for s.place x own ≡ false → made own s x w p ≡ passes q → q ≡ next_of own s x
      → made own s x w p ≡ effect_for own s x
  passing p q g h f = h ∙ ap passes f ∙ choose (gives_for s.place x own) (stores (next_of own s x)) (passes (next_of own s x)) g

  -- a record that names nothing and gives nothing
  passing_plain : (p : Place) (t : ReaderState) (u : ℕ) → made own s x w p ≡ passes (moved own s t u) → t ≡ reader_state_of (place_after s.place x)
      → u ≡ cond (eqb x.kind 4) (word_of x) s.upper → x.kind ≢ 10 → ((b : ℕ) → gives_for s.place x b ≡ false)
      → made own s x w p ≡ effect_for own s x
  passing_plain p t u h e f n g = passing p (moved own s t u) (g own) h (plain own s x t u e f n g)

  made_opening : s.place ≡ between → x.kind ≡ 4 → length x.bytes ≡ 2 → s.size % 512 ≡ 0 → made own s x w between ≡ effect_for own s x
  unfolding role_of effect_of with_state with_upper place_after
  made_opening e k n m =
      passing_plain between Opened w (rw (k, n, m)) (rw e) (is_04 own s x w k (hw (omega arith))) (λ f. omega arith)
      (no_gift x (λ f. omega arith) (λ f. omega arith) s.place)

  made_upper : (b : ℕ) → s.place ≡ body b → x.kind ≡ 4 → length x.bytes ≡ 2 → made own s x w (body b) ≡ effect_for own s x
  unfolding role_of effect_of with_upper place_after
  made_upper b e k n =
      passing_plain (body b) (reader_state_of s.place) w (rw (k, n)) (rw (e, k)) (is_04 own s x w k (hw (omega arith))) (λ f. omega arith)
      (no_gift x (λ f. omega arith) (λ f. omega arith) s.place)

  made_naming : s.place ≡ opened → x.kind ≡ 10 → 2 ≤ length x.bytes → second s (word_of x) ≡ false → made own s x w opened ≡ effect_for own s x
  unfolding role_of effect_of with_state with_section with_board moved_to place_after
  made_naming e k n f =
      let g : (b : ℕ) → gives_for s.place x b ≡ false = no_gift x (λ f. omega arith) (λ f. omega arith) s.place in
      let new : is_v1 w && s.section_seen 0x9900 || is_v2 w && s.section_seen 0x9903 ≡ false = has_second s w ∙ ap (second s) (hw n) ∙ f in
      let at : reader_state_of (place_after s.place x) ≡ Inside (word_of x) = rw e in
      passing opened
      (rd own s.size (Inside w) s.upper (s.section_seen 0x9900 || is_v1 w) (s.section_seen 0x9903 || is_v2 w) (s.data_seen 0x9900) (s.data_seen 0x9903))
      (g own) (rw (k, le-leb 2 (length x.bytes) n, new))
      (same own s.size (ap Inside (hw n) ∙ sym at) (not_04 own s x (λ f. omega arith))
      (ap (λ (y : Bool). s.section_seen 0x9900 || y) (ap (λ (y : ℕ). eqb y 0x9900) (hw n) ∙ sym (a_name x k 0x9900)))
      (ap (λ (y : Bool). s.section_seen 0x9903 || y) (ap (λ (y : ℕ). eqb y 0x9903) (hw n) ∙ sym (a_name x k 0x9903)))
      (idle (s.data_seen 0x9900) (gives_for s.place x 0x9900) (g 0x9900))
      (idle (s.data_seen 0x9903) (gives_for s.place x 0x9903) (g 0x9903)))

  module _ (b : ℕ) (e : s.place ≡ body b) (k : x.kind ≡ data_type_of b) where
    stays : reader_state_of s.place ≡ reader_state_of (place_after s.place x)
    unfolding place_after
    stays =
        rw (e, ne_eqb x.kind 11 (data_not x.kind b 11 (λ f. omega arith) (λ f. omega arith) k), ne_eqb x.kind 12 (data_not x.kind b 12 (λ f. omega arith) (λ f. omega arith) k))

    no-upper : s.upper ≡ cond (eqb x.kind 4) (word_of x) s.upper
    no-upper = not_04 own s x (data_not x.kind b 4 (λ f. omega arith) (λ f. omega arith) k)

    no-0A : x.kind ≢ 10
    no-0A = data_not x.kind b 10 (λ f. omega arith) (λ f. omega arith) k

    given-next : 1 ≤ length x.bytes → with_data (reader_of own s) b ≡ next_of own s x
    unfolding with_data with_board moved_to
    given-next n =
        let g : (c : ℕ) → eqb b c ≡ gives_for s.place x c = λ c. sym (rw e (a_gift x b k n c)) in
        same own s.size stays no-upper
        (idle (s.section_seen 0x9900) (names_for x 0x9900) (no_name x no-0A 0x9900))
        (idle (s.section_seen 0x9903) (names_for x 0x9903) (no_name x no-0A 0x9903))
        (ap (λ (y : Bool). s.data_seen 0x9900 || y) (g 0x9900))
        (ap (λ (y : Bool). s.data_seen 0x9903 || y) (g 0x9903))

    made-data : x.address + length x.bytes ≤ 65536 → made own s x w (body b) ≡ Ok (given_of (reader_of own s) b (length x.bytes))
    unfolding effect_of
    made-data m =
        rw (role_data b (length x.bytes) x.kind k, le-ltb 65536 (x.address + length x.bytes) m)

    made-given : x.address + length x.bytes ≤ 65536 → made own s x w (body b) ≡ effect_for own s x
    unfolding given_of
    made-given m =
        split (eqb (length x.bytes) 0)
        (λ y.
        passing_plain (body b) (reader_state_of s.place) s.upper (made-data m ∙ rw y) stays no-upper no-0A
        (no_bytes x (eqb-true (length x.bytes) 0 y) s.place))
        (λ z.
        let n : 1 ≤ length x.bytes = omega (arith, eqb-false (length x.bytes) 0 z) in
        let g : gives_for s.place x own ≡ eqb b own = rw e (a_gift x b k n own) in
        split (eqb b own)
        (λ y.
        made-data m ∙ rw (z, y)
        (ap stores (given-next n) ∙ chosen (gives_for s.place x own) (stores (next_of own s x)) (passes (next_of own s x)) (g ∙ y)))
        (λ v. passing (body b) (with_data (reader_of own s) b) (g ∙ v) (made-data m ∙ rw (z, v)) (given-next n)))

  -- 0C, 0E and 0B
  made_other : (p : Place) (b : ℕ) → role_of (reader_state_of p) x.kind (length x.bytes) ≡ after_padding b x.kind
      → reader_state_of s.place ≡ reader_state_of (place_after s.place x) → x.kind ≡ 14 → made own s x w p ≡ effect_for own s x
  unfolding effect_of after_padding
  made_other p b r e k =
      passing_plain p (reader_state_of s.place) s.upper (rw (r, k)) e (not_04 own s x (λ f. omega arith)) (λ f. omega arith)
      (no_gift x (λ f. omega arith) (λ f. omega arith) s.place)

  made_padding : (p : Place) (b : ℕ) → role_of (reader_state_of p) x.kind (length x.bytes) ≡ after_padding b x.kind
      → Padded b ≡ reader_state_of (place_after s.place x) → x.kind ≡ 12 → made own s x w p ≡ effect_for own s x
  unfolding effect_of after_padding with_state
  made_padding p b r e k =
      passing_plain p (Padded b) s.upper (rw (r, k)) e (not_04 own s x (λ f. omega arith)) (λ f. omega arith)
      (no_gift x (λ f. omega arith) (λ f. omega arith) s.place)

  made_closing : (p : Place) (b : ℕ) → role_of (reader_state_of p) x.kind (length x.bytes) ≡ after_padding b x.kind
      → Between ≡ reader_state_of (place_after s.place x) → x.kind ≡ 11 → made own s x w p ≡ effect_for own s x
  unfolding effect_of after_padding with_state
  made_closing p b r e k =
      passing_plain p Between s.upper (rw (r, k)) e (not_04 own s x (λ f. omega arith)) (λ f. omega arith)
      (no_gift x (λ f. omega arith) (λ f. omega arith) s.place)

  made_goes : {p : Place} → s.place ≡ p → Goes s x p → made own s x w p ≡ effect_for own s x
  unfolding place_after role_of
  made_goes e (opening k n m) = made_opening e k n m
  made_goes e (naming k n f) = made_naming e k n f
  made_goes e (upper {b} k n) = made_upper b e k n
  made_goes e (given {b} k m) = made-given b e k m
  made_goes e (other {b} k) =
      made_other (body b) b (role_plain b (length x.bytes) x.kind (λ f. omega arith) (λ f. omega arith) (λ f. omega arith)) (rw (e, k)) k
  made_goes e (padding {b} k) =
      made_padding (body b) b (role_plain b (length x.bytes) x.kind (λ f. omega arith) (λ f. omega arith) (λ f. omega arith)) (rw (e, k)) k
  made_goes e (closing {b} k) =
      made_closing (body b) b (role_plain b (length x.bytes) x.kind (λ f. omega arith) (λ f. omega arith) (λ f. omega arith)) (rw (e, k)) k
  made_goes e (tail_other {b} k) = made_other (padded b) b refl (rw (e, k)) k
  made_goes e (tail_padding {b} k) = made_padding (padded b) b refl (rw (e, k)) k
  made_goes e (tail_closing {b} k) = made_closing (padded b) b refl (rw (e, k)) k

-- ---- every record at every place

pub data EffectCase (s : State) (x : Item) (p : Place) : Result Effect Answer → Type 0 where
  fails : (a : Answer) → is_failure a ≡ true → EffectCase s x p (Err a)
  goes : {t : Result Effect Answer} → Goes s x p → EffectCase s x p t
  ends : (q : Reader) → p ≡ between → x.kind ≡ 1 → length x.bytes ≡ 0 → s.data_seen 0x9900 ≡ true → s.data_seen 0x9903 ≡ true
      → EffectCase s x p (Ok (Ends q))

module _ (own : ℕ) (s : State) (x : Item) (w : ℕ) (hw : 2 ≤ length x.bytes → w ≡ word_of x) where
  abbrev n : ℕ
  n = length x.bytes

  steps_between : EffectCase s x between (made own s x w between)
  unfolding role_of effect_of
  steps_between =
      split (is_extended_linear x.kind n)
      (λ y.
      split (eqb (s.size % 512) 0)
      (λ z.
      goes
      (opening (eqb-true x.kind 4 (and_left (eqb x.kind 4) (eqb n 2) y)) (eqb-true n 2 (and_right (eqb x.kind 4) (eqb n 2) y))
      (eqb-true (s.size % 512) 0 z)))
      (λ z. rw (y, z) (fails answer.Unaligned refl)))
      (λ m.
      split (is_end_of_file x.kind n)
      (λ y.
      split (s.data_seen 0x9900 && s.data_seen 0x9903)
      (λ z.
      rw (m, y, z)
      (ends (with_state (reader_of own s) Ended) refl (eqb-true x.kind 1 (and_left (eqb x.kind 1) (eqb n 0) y))
      (eqb-true n 0 (and_right (eqb x.kind 1) (eqb n 0) y)) (and_left (s.data_seen 0x9900) (s.data_seen 0x9903) z)
      (and_right (s.data_seen 0x9900) (s.data_seen 0x9903) z)))
      (λ z. rw (m, y, z) (fails answer.MissingBoard refl)))
      (λ o. rw (m, o) (fails answer.OutOfPlace refl)))

  steps_opened : EffectCase s x opened (made own s x w opened)
  unfolding role_of effect_of
  steps_opened =
      split (is_block_start x.kind n)
      (λ y.
      let some : 2 ≤ n = leb-true 2 n (and_right (eqb x.kind 10) (leb 2 n) y) in
      split (second s (word_of x))
      (λ z.
      let again : is_v1 w && s.section_seen 0x9900 || is_v2 w && s.section_seen 0x9903 ≡ true = has_second s w ∙ ap (second s) (hw some) ∙ z in
      rw (y, again) (fails answer.Repeated refl))
      (λ z. goes (naming (eqb-true x.kind 10 (and_left (eqb x.kind 10) (leb 2 n) y)) some z)))
      (λ m. rw m (fails answer.OutOfPlace refl))

  steps_body : (b : ℕ) → EffectCase s x (body b) (made own s x w (body b))
  unfolding role_of effect_of after_padding
  steps_body b =
      split (is_extended_linear x.kind n)
      (λ y.
      goes (upper (eqb-true x.kind 4 (and_left (eqb x.kind 4) (eqb n 2) y)) (eqb-true n 2 (and_right (eqb x.kind 4) (eqb n 2) y))))
      (λ m.
      split (eqb x.kind (data_kind b))
      (λ y.
      split (ltb 65536 (x.address + n))
      (λ z. rw (m, y, z) (fails answer.Crosses refl))
      (λ z. goes (given (eqb-true x.kind (data_kind b) y ∙ data_kind_lem b) (ltb-false 65536 (x.address + n) z))))
      (λ o.
      split (eqb x.kind 12)
      (λ y. goes (padding (eqb-true x.kind 12 y)))
      (λ u.
      split (eqb x.kind 14)
      (λ y. goes (other (eqb-true x.kind 14 y)))
      (λ v.
      split (eqb x.kind 11)
      (λ y. goes (closing (eqb-true x.kind 11 y)))
      (λ t. rw (m, o, u, v, t) (fails answer.OutOfPlace refl))))))

  steps_padded : (b : ℕ) → EffectCase s x (padded b) (made own s x w (padded b))
  unfolding role_of effect_of after_padding
  steps_padded b =
      split (eqb x.kind 12)
      (λ y. goes (tail_padding (eqb-true x.kind 12 y)))
      (λ u.
      split (eqb x.kind 14)
      (λ y. goes (tail_other (eqb-true x.kind 14 y)))
      (λ v.
      split (eqb x.kind 11)
      (λ y. goes (tail_closing (eqb-true x.kind 11 y)))
      (λ t. rw (u, v, t) (fails answer.OutOfPlace refl))))

  pub steps : (p : Place) → EffectCase s x p (made own s x w p)
  steps between = steps_between
  steps opened = steps_opened
  steps (body b) = steps_body b
  steps (padded b) = steps_padded b

-- ---- a line

live : (r : Reader) (l img : List ℕ) (p : Place) → halt_line r l img (halt_of (reader_state_of p)) ≡ live_line r l img
unfolding halt_line
live r l img between = refl
live r l img opened = refl
live r l img (body b) = refl
live r l img (padded b) = refl

module _ (l : List ℕ) (rec : Record) (says : (read_of l).parsed ≡ Ok rec) where
  pub len_item : length (item_of l rec).bytes ≡ rec.len
  len_item = length-take-le rec.len (read_of l).«data» (omega (arith, good_len l rec says, length_data l))

  pub word_item : 2 ≤ length (item_of l rec).bytes → word_at (read_of l).«data» ≡ word_of (item_of l rec)
  word_item h =
      let n : 2 ≤ rec.len = omega (arith, len_item) in
      rw (get_or-take rec.len (read_of l).«data» 0 0 (omega arith), get_or-take rec.len (read_of l).«data» 1 0 (omega arith))

  module _ (own : ℕ) (s : State) (img : List ℕ) (ready : Ready (reader_of own s) img) (m : s.size + length l ≤ 4194304) where
    pub line_made : (p : Place) → s.place ≡ p
        → line_of (reader_of own s) l img
        ≡ effect_outcome (reader_of own s) rec (read_of l).«data» (s.size + length l) img (made own s (item_of l rec) (word_at (read_of l).«data») p)
    line_made p e =
        let r = reader_of own s in
        let d = (read_of l).«data» in
        good_line r l img rec (reader_state_of p) ready m says (ap reader_state_of e) (live r l img p)
        ∙ ap (λ (k : ℕ). effect_outcome r rec d (s.size + length l) img (effect_of r (role_of (reader_state_of p) rec.kind k) rec.address k (word_at d))) (sym len_item)

    -- own data that goes on, by its address
    own-address : gives_for s.place (item_of l rec) own ≡ true → unihex.address_of (next_of own s (item_of l rec)) rec ≡ address_of s (item_of l rec)
    unfolding gives_for moved_to
    own-address g =
        let x = item_of l rec in
        let k : eqb x.kind (data_type_of own) ≡ true =
        and_left (eqb x.kind (data_type_of own)) (leb 1 (length x.bytes)) (and_right (is_in s.place own) (eqb x.kind (data_type_of own) && leb 1 (length x.bytes)) g) in
        rw (ne_eqb rec.kind 4 (data_not rec.kind own 4 (λ f. omega arith) (λ f. omega arith) (eqb-true rec.kind (data_type_of own) k)))

    line-stored : gives_for s.place (item_of l rec) own ≡ true
        → effect_outcome (reader_of own s) rec (read_of l).«data» (s.size + length l) img (stores (next_of own s (item_of l rec)))
        ≡ line_outcome (reader_of own (after s (item_of l rec))) (answer_for own (length img) s (item_of l rec)) (image_with own s (item_of l rec) img)
    unfolding effect_outcome storing moved_to answer_for image_with
    line-stored g =
        let x = item_of l rec in
        let a = own-address g in
        split (fits_in (length img) s x)
        (λ y.
        let f : ltb (length img) (unihex.address_of (next_of own s x) rec + rec.len) ≡ false =
        le-ltb (length img) (unihex.address_of (next_of own s x) rec + rec.len) (omega (arith, a, len_item, leb-true (address_of s x + length x.bytes) (length img) y)) in
        rw (g, y, f) (ap (λ (k : ℕ). line_outcome (reader_of own (after s x)) answer.Stored (over img k x.bytes)) a))
        (λ z.
        let f : ltb (length img) (unihex.address_of (next_of own s x) rec + rec.len) ≡ true =
        lt-ltb (length img) (unihex.address_of (next_of own s x) rec + rec.len) (omega (arith, a, len_item, leb-false (address_of s x + length x.bytes) (length img) z)) in
        rw (g, z, f))

    line-passed : gives_for s.place (item_of l rec) own ≡ false
        → effect_outcome (reader_of own s) rec (read_of l).«data» (s.size + length l) img (passes (next_of own s (item_of l rec)))
        ≡ line_outcome (reader_of own (after s (item_of l rec))) (answer_for own (length img) s (item_of l rec)) (image_with own s (item_of l rec) img)
    unfolding effect_outcome moved_to answer_for image_with
    line-passed g = rw g

    pub line_goes : {p : Place} → s.place ≡ p → Goes s (item_of l rec) p
        → line_of (reader_of own s) l img
        ≡ line_outcome (reader_of own (after s (item_of l rec))) (answer_for own (length img) s (item_of l rec)) (image_with own s (item_of l rec) img)
    line_goes {p} e h =
        let x = item_of l rec in
        let made-it = made_goes own s x (word_at (read_of l).«data») word_item e h in
        line_made p e ∙ ap (effect_outcome (reader_of own s) rec (read_of l).«data» (s.size + length l) img) made-it
        ∙ split (gives_for s.place x own)
        (λ y. ap (effect_outcome (reader_of own s) rec (read_of l).«data» (s.size + length l) img)
        (sym (chosen (gives_for s.place x own) (stores (next_of own s x)) (passes (next_of own s x)) y)) ∙ line-stored y)
        (λ z. ap (effect_outcome (reader_of own s) rec (read_of l).«data» (s.size + length l) img)
        (sym (choose (gives_for s.place x own) (stores (next_of own s x)) (passes (next_of own s x)) z)) ∙ line-passed z)

    pub line_ends : s.place ≡ between → (item_of l rec).kind ≡ 1 → length (item_of l rec).bytes ≡ 0 → s.data_seen 0x9900 ≡ true → s.data_seen 0x9903 ≡ true
        → line_of (reader_of own s) l img ≡ line_outcome (moved_to (with_state (reader_of own s) Ended) (s.size + length l)) answer.Ended img
    unfolding role_of effect_of effect_outcome
    line_ends e k n a b = line_made between e ∙ rw (k, n, a, b)

pub answer_most : (own k : ℕ) (s : State) (x : Item) → number_of (answer_for own k s x) ≤ 34
unfolding answer_for
answer_most own k s x =
    split (gives_for s.place x own)
    (λ y. rw y (split (fits_in k s x) (λ z. rw z (omega arith)) (λ z. rw z (omega arith))))
    (λ z. rw z (omega arith))

pub answer_least : (own k : ℕ) (s : State) (x : Item) → 32 ≤ number_of (answer_for own k s x)
unfolding answer_for
answer_least own k s x =
    split (gives_for s.place x own)
    (λ y. rw y (split (fits_in k s x) (λ z. rw z (omega arith)) (λ z. rw z (omega arith))))
    (λ z. rw z (omega arith))

-- what is answered 33
pub answer_stored : (own k : ℕ) (s : State) (x : Item) → answer_for own k s x ≡ answer.Stored
    → (gives_for s.place x own ≡ true) × (address_of s x + length x.bytes ≤ k)
unfolding answer_for
answer_stored own k s x a =
    split (gives_for s.place x own)
    (λ y.
    split (fits_in k s x)
    (λ z. (y, leb-true (address_of s x + length x.bytes) k z))
    (λ z. let f : answer.Outside ≡ answer.Stored = rw (y, z) at a in absurd (omega (arith, ap number_of f))))
    (λ z. let f : answer.Passed ≡ answer.Stored = rw z at a in absurd (omega (arith, ap number_of f)))
