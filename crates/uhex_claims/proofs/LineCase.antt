-- What a line can come to: the eight ways, each with what is known there. Assumes nothing.
use Prim.{Unit, tt}
use Prim.Native.Nat.{ℕ, ◌+◌, ◌%◌, ◌≤◌}
use mathlib.Core.Path.{◌≡◌, refl, sym, ap, subst, ◌∙◌}
use mathlib.Core.Logic.{◌≢◌}
use mathlib.Core.Bool.{Bool, true, false, not, ◌&&◌, ◌||◌, cond, and-false, or-false}
use mathlib.Core.List.{List}
use native.Mathlib.Omega.{arith}
use lib.Dec.{ltb, leb, eqb}
use lib.ListN.{length, take}
use borrow.Author.Tests.{eqb-true, eqb-false, ltb-false, not-false, eq-eqb, ne_eqb, le-leb}
use Rattle.laws.specs.Over.{over}
use Rattle.laws.proofs.Tests.{split, clash, eqb_same, or_right, and_left}
use Rattle.ihex_record.specs.Record.{ParseResult, word_of, read_of}
use Rattle.ihex_record.specs.declared.Record.{Record}
use Rattle.std.specs.Prelude.{Option, Some, None, Result, Ok, Err}
use Rattle.ihex_record.specs.declared.LineError.TheVariants as error
use Rattle.uhex_grammar.specs.Answers.{number_of, is_kept}
use Rattle.uhex_grammar.specs.Boards.{is_v1, is_v2, has_board, with_board, both_boards}
use Rattle.uhex_grammar.specs.Grammar.{is_extended_linear, is_end_of_file, is_block_start, data_kind, after_padding, role_of}
use Rattle.uhex_grammar.proofs.Laws.{kept_digit}
use Rattle.ihex_record.proofs.Positions.{bad_position_lem}
use Rattle.uhex_grammar.specs.declared.Answer.{Answer}
use Rattle.uhex_grammar.specs.declared.Answer.TheVariants as answer
use Rattle.uhex_grammar.specs.declared.Boards.{Boards}
use Rattle.uhex_grammar.specs.declared.Failure.{Failure}
use Rattle.uhex_grammar.specs.declared.ReaderState.{ReaderState}
use Rattle.uhex_grammar.specs.declared.ReaderState.TheVariants.{Between, Opened, Inside, Padded, Ended, Failed}
use Rattle.uhex_grammar.specs.declared.Role.{Role}
use Rattle.uhex_grammar.specs.declared.Role.TheVariants.{Opening, Naming, Address, Data, Padding, Other, Closing, Ending}
use Rattle.uhex_effects.specs.declared.Reader.{Reader}
use Rattle.uhex_effects.specs.declared.Effect.{Effect}
use Rattle.uhex_effects.specs.declared.Effect.TheVariants.{Passes, Stores, Ends}
use Rattle.uhex_reader.specs.Reader.{bad_failure, bad_reader, with_state, with_upper, with_section, with_data, moved_to, given_of, effect_of}
use Rattle.uhex_reader.specs.Line.{LineOutcome, line_outcome, failing, address_of, outside, storing, effect_outcome, record_outcome, parsed_line, live_line, halt_of, halt_line, bad_image, line_of}
use Rattle.uhex_claims.specs.Facts.{Ready, OwnData}
use Rattle.uhex_claims.specs.Lines.{is_inside, says_data, is_opened, allows_extended_linear, says_extended_linear}

-- ---- what a record is, by its place

-- a type that is none of data, 0A and 04
abbrev plain : ℕ → Bool
plain kind = not (eqb kind 0 || eqb kind 4 || eqb kind 10 || eqb kind 13)

-- what is known of a record that is this there
abbrev RoleFacts : ReaderState → ℕ → ℕ → Option Role → Type 0
RoleFacts s kind len (Some Opening) = (allows_extended_linear s ≡ true) × (is_extended_linear kind len ≡ true)
RoleFacts s kind len (Some Naming) = (is_opened s ≡ true) × (is_block_start kind len ≡ true)
RoleFacts s kind len (Some Address) = (allows_extended_linear s ≡ true) × (is_extended_linear kind len ≡ true)
RoleFacts s kind len (Some (Data b)) = (s ≡ Inside b) × (kind ≡ data_kind b)
RoleFacts s kind len (Some (Padding b)) = plain kind ≡ true
RoleFacts s kind len (Some Other) = plain kind ≡ true
RoleFacts s kind len (Some Closing) = plain kind ≡ true
RoleFacts s kind len (Some Ending) = plain kind ≡ true
RoleFacts s kind len None = Unit {0}

after_padding_lem : (s : ReaderState) (board kind len : ℕ) → RoleFacts s kind len (after_padding board kind)
unfolding after_padding
after_padding_lem s board kind len =
    split (eqb kind 12)
    (λ y. rw y (ap plain (eqb-true kind 12 y)))
    (λ n.
    split (eqb kind 14)
    (λ y. rw (n, y) (ap plain (eqb-true kind 14 y)))
    (λ m. split (eqb kind 11) (λ y. rw (n, m, y) (ap plain (eqb-true kind 11 y))) (λ o. rw (n, m, o) tt)))

role_facts : (s : ReaderState) (kind len : ℕ) → RoleFacts s kind len (role_of s kind len)
unfolding role_of
role_facts Between kind len =
    split (is_extended_linear kind len)
    (λ y. rw y (refl, y))
    (λ n.
    split (is_end_of_file kind len)
    (λ y. rw (n, y) (ap plain (eqb-true kind 1 (and_left (eqb kind 1) (eqb len 0) y))))
    (λ m. rw (n, m) tt))
role_facts Opened kind len = split (is_block_start kind len) (λ y. rw y (refl, y)) (λ n. rw n tt)
role_facts (Inside board) kind len =
    split (is_extended_linear kind len)
    (λ y. rw y (refl, y))
    (λ n.
    split (eqb kind (data_kind board))
    (λ y. rw (n, y) (refl, eqb-true kind (data_kind board) y))
    (λ m. rw (n, m) (after_padding_lem (Inside board) board kind len)))
role_facts (Padded board) kind len = after_padding_lem (Padded board) board kind len
role_facts Ended kind len = tt
role_facts (Failed f) kind len = tt

-- ---- types: data, 04 and 0A

no_data : (kind b : ℕ) → kind ≢ 0 → kind ≢ 13 → eqb kind (data_kind b) ≡ false
unfolding data_kind
no_data kind b z t = split (is_v1 b) (λ v. rw v (ne_eqb kind 0 z)) (λ v. rw v (ne_eqb kind 13 t))

data_not : (kind b n : ℕ) → n ≢ 0 → n ≢ 13 → kind ≡ data_kind b → kind ≢ n
data_not kind b n z t k e = clash (eqb n (data_kind b)) (eq-eqb n (data_kind b) (sym e ∙ k)) (no_data n b z t)

kind_linear : (kind len : ℕ) → is_extended_linear kind len ≡ true → kind ≡ 4
kind_linear kind len y = eqb-true kind 4 (and_left (eqb kind 4) (eqb len 2) y)

kind_start : (kind len : ℕ) → is_block_start kind len ≡ true → kind ≡ 10
kind_start kind len y = eqb-true kind 10 (and_left (eqb kind 10) (leb 2 len) y)

pub linear_no_data : (kind len b : ℕ) → is_extended_linear kind len ≡ true → eqb kind (data_kind b) ≡ false
linear_no_data kind len b y =
    let e : kind ≡ 4 = kind_linear kind len y in no_data kind b (λ f. omega arith) (λ f. omega arith)

-- ---- a reader that goes on

-- a record gives a data byte for board b
abbrev pub given_at : ReaderState → Record → ℕ → Bool
given_at s rec b = is_inside s b && says_data (Ok rec) b

-- a record, whose first two data bytes are a word, names board b
abbrev pub named_at : ReaderState → Record → ℕ → ℕ → Bool
named_at s rec word b = is_opened s && (is_block_start rec.kind rec.len && eqb word b)

-- a record is an 04
abbrev pub set_at : ReaderState → Record → Bool
set_at s rec = allows_extended_linear s && says_extended_linear (Ok rec)

abbrev DataSeen : Reader → Record → Reader → Type 0
DataSeen r rec q = (b : ℕ) → is_v1 b || is_v2 b ≡ true → has_board q.data_seen b ≡ has_board r.data_seen b || given_at r.state rec b

abbrev SectionsSeen : Reader → Record → ℕ → Reader → Type 0
SectionsSeen r rec word q = (b : ℕ) → is_v1 b || is_v2 b ≡ true → has_board q.sections_seen b ≡ has_board r.sections_seen b || named_at r.state rec word b

abbrev Upper : Reader → Record → ℕ → Reader → Type 0
Upper r rec word q = q.upper ≡ cond (set_at r.state rec) word r.upper

pub record Onward (r : Reader) (rec : Record) (word : ℕ) (q : Reader) : Type 0 where
  pub own : q.own ≡ r.own
  pub state : bad_failure r.state ≡ false → bad_failure q.state ≡ false
  pub data_seen : DataSeen r rec q
  pub sections_seen : SectionsSeen r rec word q
  pub upper : Upper r rec word q

-- V1 or V2 and a further board
has_with : (s : Boards) (c b : ℕ) → is_v1 b || is_v2 b ≡ true → has_board (with_board s c) b ≡ has_board s b || eqb c b
unfolding with_board
has_with s c b k =
    split (is_v1 b)
    (λ y. subst (λ (b : ℕ). has_board (with_board s c) b ≡ has_board s b || eqb c b) (sym (eqb-true b 0x9900 y)) (swap s.v1 (is_v1 c)))
    (λ n.
    let y : is_v2 b ≡ true = rw n at k in
    subst (λ (b : ℕ). has_board (with_board s c) b ≡ has_board s b || eqb c b) (sym (eqb-true b 0x9903 y)) refl)
  where
    swap : (x y : Bool) → (x || y) || false ≡ (x || false) || y
    swap true y = refl
    swap false true = refl
    swap false false = refl

module _ (r : Reader) (rec : Record) (word : ℕ) where
  same_data_seen : (q : Reader) → rec.kind ≢ 0 → rec.kind ≢ 13 → q.data_seen ≡ r.data_seen → DataSeen r rec q
  same_data_seen q z t g b v =
      rw (g, no_data rec.kind b z t, and-false (is_inside r.state b)) (sym (or-false (has_board r.data_seen b)))

  same_sections_seen : (q : Reader) → rec.kind ≢ 10 → q.sections_seen ≡ r.sections_seen → SectionsSeen r rec word q
  same_sections_seen q n g b v = rw (g, ne_eqb rec.kind 10 n, and-false (is_opened r.state)) (sym (or-false (has_board r.sections_seen b)))

  same_upper : (q : Reader) → rec.kind ≢ 4 → q.upper ≡ r.upper → Upper r rec word q
  same_upper q n g = rw (ne_eqb rec.kind 4 n, and-false (allows_extended_linear r.state)) g

  -- by data of board c
  onward_given : (q : Reader) (c : ℕ) → q.own ≡ r.own → q.state ≡ r.state → q.sections_seen ≡ r.sections_seen → q.upper ≡ r.upper → rec.kind ≡ data_kind c
      → DataSeen r rec q → Onward r rec word q
  onward_given q c o s n u k g =
      record {
        own = o;
        state = λ e. ap bad_failure s ∙ e;
        data_seen = g;
        sections_seen = same_sections_seen q (data_not rec.kind c 10 (λ f. omega arith) (λ f. omega arith) k) n;
        upper = same_upper q (data_not rec.kind c 4 (λ f. omega arith) (λ f. omega arith) k) u;
      }

  -- of at least one byte, in its section
  onward_data : (c : ℕ) → r.state ≡ Inside c → rec.kind ≡ data_kind c → 1 ≤ rec.len → Onward r rec word (with_data r c)
  unfolding with_data
  onward_data c s k n =
      onward_given (with_data r c) c refl refl refl refl k
      (λ b v. has_with r.data_seen c b v ∙ ap (λ (x : Bool). has_board r.data_seen b || x) (given b))
    where
      given : (b : ℕ) → eqb c b ≡ given_at r.state rec b
      given b =
          rw (s, k, le-leb 1 rec.len n)
          (split (eqb c b) (λ y. rw (y, eqb-true c b y, eqb_same (data_kind b))) (λ z. rw z))

  -- of none
  onward_empty : (c : ℕ) → rec.kind ≡ data_kind c → rec.len ≡ 0 → Onward r rec word r
  onward_empty c k e =
      onward_given r c refl refl refl refl k
      (λ b v.
      rw (e, and-false (eqb rec.kind (data_kind b)), and-false (is_inside r.state b)) (sym (or-false (has_board r.data_seen b))))

  -- by an 04 in its place
  onward_linear : (q : Reader) → q.own ≡ r.own → q.data_seen ≡ r.data_seen → q.sections_seen ≡ r.sections_seen → q.upper ≡ word
      → (bad_failure r.state ≡ false → bad_failure q.state ≡ false) → (allows_extended_linear r.state ≡ true) × (is_extended_linear rec.kind rec.len ≡ true) → Onward r rec word q
  onward_linear q o g c u s h =
      let e : rec.kind ≡ 4 = kind_linear rec.kind rec.len h.1 in
      record {
        own = o;
        state = s;
        data_seen = same_data_seen q (λ f. omega arith) (λ f. omega arith) g;
        sections_seen = same_sections_seen q (λ f. omega arith) c;
        upper = rw (h.0, h.1) u;
      }

  -- by a record that is no data, no 0A and no 04
  onward_other : (q : Reader) → q.own ≡ r.own → q.data_seen ≡ r.data_seen → q.sections_seen ≡ r.sections_seen → q.upper ≡ r.upper
      → (bad_failure r.state ≡ false → bad_failure q.state ≡ false) → plain rec.kind ≡ true → Onward r rec word q
  onward_other q o g c u s h =
      record {
        own = o;
        state = s;
        data_seen = same_data_seen q (other 0 refl) (other 13 refl) g;
        sections_seen = same_sections_seen q (other 10 refl) c;
        upper = same_upper q (other 4 refl) u;
      }
    where
      other : (n : ℕ) → plain n ≡ false → rec.kind ≢ n
      other n y f = clash (plain n) (ap plain (sym f) ∙ h) y

  -- by the 0A of a section
  onward_name : (is_opened r.state ≡ true) × (is_block_start rec.kind rec.len ≡ true) → Onward r rec word (with_state (with_section r word) (Inside word))
  unfolding with_state with_section bad_failure
  onward_name h =
      let e : rec.kind ≡ 10 = kind_start rec.kind rec.len h.1 in
      record {
        own = refl;
        state = λ f. refl;
        data_seen = same_data_seen (with_state (with_section r word) (Inside word)) (λ f. omega arith) (λ f. omega arith) refl;
        sections_seen = λ b v. has_with r.sections_seen word b v ∙ rw (h.0, h.1);
        upper = same_upper (with_state (with_section r word) (Inside word)) (λ f. omega arith) refl;
      }

-- ---- what a good record does

pub data EffectCase (r : Reader) (rec : Record) (word : ℕ) : Result Effect Answer → Type 0 where
  broke : (a : Answer) → is_kept a ≡ true → EffectCase r rec word (Err a)
  went : (q : Reader) → Onward r rec word q → EffectCase r rec word (Ok (Passes q))
  stores : r.state ≡ Inside r.own → rec.kind ≡ data_kind r.own → 1 ≤ rec.len → rec.address + rec.len ≤ 65536
      → EffectCase r rec word (Ok (Stores (with_data r r.own)))
  closed : Onward r rec word (with_state r Ended) → both_boards r.data_seen ≡ true → EffectCase r rec word (Ok (Ends (with_state r Ended)))

module _ (r : Reader) (rec : Record) (word : ℕ) where
  stores_data : (c : ℕ) → r.state ≡ Inside c → rec.kind ≡ data_kind c → rec.address + rec.len ≤ 65536 → EffectCase r rec word (Ok (given_of r c rec.len))
  unfolding given_of
  stores_data c s k w =
      split (eqb rec.len 0)
      (λ y. rw y (went r (onward_empty r rec word c k (eqb-true rec.len 0 y))))
      (λ n.
      let some : 1 ≤ rec.len = omega (arith, eqb-false rec.len 0 n) in
      split (eqb c r.own)
      (λ y.
      let e : c ≡ r.own = eqb-true c r.own y in
      rw (n, y)
      (subst (λ (d : ℕ). EffectCase r rec word (Ok (Stores (with_data r d)))) (sym e) (stores (s ∙ ap Inside e) (k ∙ ap data_kind e) some w)))
      (λ m. rw (n, m) (went (with_data r c) (onward_data r rec word c s k some))))

  steps : (x : Option Role) → RoleFacts r.state rec.kind rec.len x → EffectCase r rec word (effect_of r x rec.address rec.len word)
  unfolding effect_of with_state with_upper bad_failure is_kept
  steps (Some Opening) h =
      split (not (eqb (r.offset % 512) 0))
      (λ y. rw y (broke answer.Unaligned refl))
      (λ n. rw n (went (with_state (with_upper r word) Opened) (onward_linear r rec word _ refl refl refl refl (λ e. refl) h)))
  steps (Some Naming) h =
      split (has_board r.sections_seen word)
      (λ y. rw y (broke answer.Repeated refl))
      (λ n. rw n (went (with_state (with_section r word) (Inside word)) (onward_name r rec word h)))
  steps (Some Address) h = went (with_upper r word) (onward_linear r rec word _ refl refl refl refl (λ e. e) h)
  steps (Some (Data c)) h =
      split (ltb 65536 (rec.address + rec.len))
      (λ y. rw y (broke answer.Crosses refl))
      (λ n. rw n (stores_data c h.0 h.1 (ltb-false 65536 (rec.address + rec.len) n)))
  steps (Some (Padding c)) h = went (with_state r (Padded c)) (onward_other r rec word _ refl refl refl refl (λ e. refl) h)
  steps (Some Other) h = went r (onward_other r rec word _ refl refl refl refl (λ e. e) h)
  steps (Some Closing) h = went (with_state r Between) (onward_other r rec word _ refl refl refl refl (λ e. refl) h)
  steps (Some Ending) h =
      split (both_boards r.data_seen)
      (λ y. rw y (closed (onward_other r rec word (with_state r Ended) refl refl refl refl (λ e. refl) h) y))
      (λ n. rw n (broke answer.MissingBoard refl))
  steps None h = broke answer.OutOfPlace refl

-- ---- the eight ways

-- the offset after the line
abbrev end_of : Reader → List ℕ → ℕ
end_of r l = r.offset + length l

-- a reader that goes on by the record of a line
abbrev pub After : Reader → List ℕ → Record → Reader → Type 0
After r l rec q = Onward r rec (word_of (read_of l).«data») q

pub data LineCase (r : Reader) (l img : List ℕ) : LineOutcome → Type 0 where
  bad : (a : Answer) → number_of a ≤ 19 → (Ready r img → ⊥) → LineCase r l img (line_outcome r a img)
  past : r.state ≡ Ended → LineCase r l img (line_outcome r answer.AfterEnd img)
  again : (f : Failure) → r.state ≡ Failed f → is_kept f.answer ≡ true → LineCase r l img (line_outcome r f.answer img)
  failed : (a : Answer) → is_kept a ≡ true → LineCase r l img (failing r a img)
  out : (rec : Record) (q : Reader) → (read_of l).parsed ≡ Ok rec → After r l rec q → end_of r l ≤ 4194304
      → LineCase r l img (line_outcome (moved_to q (end_of r l)) answer.Outside img)
  stored : (rec : Record) (q : Reader) → OwnData r l img rec → After r l rec q → end_of r l ≤ 4194304
      → LineCase r l img (line_outcome (moved_to q (end_of r l)) answer.Stored (over img (address_of r rec) (take rec.len (read_of l).«data»)))
  passed : (rec : Record) (q : Reader) → (read_of l).parsed ≡ Ok rec → After r l rec q → end_of r l ≤ 4194304
      → LineCase r l img (line_outcome (moved_to q (end_of r l)) answer.Passed img)
  ended : (rec : Record) → (read_of l).parsed ≡ Ok rec → After r l rec (with_state r Ended) → both_boards r.data_seen ≡ true
      → end_of r l ≤ 4194304 → LineCase r l img (line_outcome (moved_to (with_state r Ended) (end_of r l)) answer.Ended img)

pub good_state_lem : (r : Reader) → bad_reader r ≡ false → bad_failure r.state ≡ false
unfolding bad_reader
good_state_lem r n = or_right (not (is_v1 r.own || is_v2 r.own) || ltb 4194304 r.offset) (bad_failure r.state) n

module _ (r : Reader) (l img : List ℕ) where
  effect_case : (rec : Record) {x : Result Effect Answer} → (read_of l).parsed ≡ Ok rec → end_of r l ≤ 4194304 → EffectCase r rec (word_of (read_of l).«data») x
      → LineCase r l img (effect_outcome r rec (read_of l).«data» (end_of r l) img x)
  unfolding effect_outcome storing with_data
  effect_case rec p m (broke a f) = failed a f
  effect_case rec p m (went q o) = passed rec q p o m
  effect_case rec p m (stores s k n w) =
      let o = onward_data r rec (word_of (read_of l).«data») r.own s k n in
      split (outside r rec img)
      (λ y. rw y (out rec (with_data r r.own) p o m))
      (λ z.
      rw z
      (stored rec (with_data r r.own)
      (record { says = p; section = s; kind = k; some = n; within = w; fits = ltb-false (length img) (address_of r rec + rec.len) z })
      o m))
  effect_case rec p m (closed o b) = ended rec p o b m

  parsed_case : (p : ParseResult) → (read_of l).parsed ≡ p → end_of r l ≤ 4194304 → LineCase r l img (parsed_line r (read_of l).«data» (end_of r l) img p)
  unfolding parsed_line record_outcome is_kept
  parsed_case (Ok rec) p m =
      effect_case rec p m (steps r rec (word_of (read_of l).«data») (role_of r.state rec.kind rec.len) (role_facts r.state rec.kind rec.len))
  parsed_case (Err error.NoColon) p m = failed answer.NoColon refl
  parsed_case (Err error.BadShape) p m = failed answer.BadShape refl
  parsed_case (Err (error.BadDigit k)) p m =
      let w = bad_position_lem l k p in failed (answer.BadDigit k) (kept_digit k w.0 w.1)
  parsed_case (Err error.TooLong) p m = failed answer.TooLong refl
  parsed_case (Err error.BadLength) p m = failed answer.BadLength refl
  parsed_case (Err error.BadSum) p m = failed answer.BadSum refl

  live_case : LineCase r l img (live_line r l img)
  unfolding live_line is_kept
  live_case =
      split (ltb 4194304 (end_of r l))
      (λ y. rw y (failed answer.FileTooLong refl))
      (λ z. rw z (parsed_case (read_of l).parsed refl (ltb-false 4194304 (end_of r l) z)))

  state_case : (s : ReaderState) → r.state ≡ s → bad_failure s ≡ false → LineCase r l img (halt_line r l img (halt_of s))
  unfolding halt_line bad_failure
  state_case Between e n = live_case
  state_case Opened e n = live_case
  state_case (Inside b) e n = live_case
  state_case (Padded b) e n = live_case
  state_case Ended e n = past e
  state_case (Failed f) e n = again f e (not-false (is_kept f.answer) n)

  pub line_case : LineCase r l img (line_of r l img)
  unfolding line_of
  line_case =
      split (bad_image (length img))
      (λ y. rw y (bad answer.BadImage (omega arith) (λ w. clash (bad_image (length img)) y w.image)))
      (λ z.
      split (bad_reader r)
      (λ y. rw (z, y) (bad answer.BadReader (omega arith) (λ w. clash (bad_reader r) y w.reader)))
      (λ n. rw (z, n) (state_case r.state refl (good_state_lem r n))))
