-- Lines that say records: those that go on are read as their records say, and lines that are taken say such records. Assumes nothing.
use Prim.Native.Nat.{ℕ, ◌+◌, ◌≤◌, ◌<◌}
use mathlib.Core.Path.{◌≡◌, refl, sym, ap, subst, ◌∙◌}
use mathlib.Core.Logic.{◌⊎◌, inl, inr}
use mathlib.Core.Bool.{true, cond}
use mathlib.Core.List.{List, [], ◌∷◌, ◌++◌}
use native.Mathlib.Omega.{arith}
use lib.ListN.{length}
use lib.Dec.{ltb}
use borrow.Author.Tests.{le-leb, ltb-true, ltb-false}
use Rattle.laws.proofs.Tests.{split, clash, both}
use Rattle.laws.specs.Stores.{Store}
use Rattle.ihex_record.specs.Record.{read_of, word_of as word_at}
use Rattle.ihex_record.specs.declared.Record.{Record}
use Rattle.std.specs.Prelude.{Result, Ok}
use Rattle.uhex_grammar.specs.Answers.{number_of, is_failure}
use Rattle.uhex_grammar.proofs.Laws.{kept_failure}
use Rattle.uhex_grammar.specs.declared.Answer.{Answer}
use Rattle.uhex_grammar.specs.declared.Answer.TheVariants as answer
use Rattle.uhex_grammar.specs.declared.Failure.{Failure}
use Rattle.uhex_grammar.specs.declared.ReaderState.{ReaderState}
use Rattle.uhex_grammar.specs.declared.ReaderState.TheVariants as state
use Rattle.uhex_effects.specs.declared.Reader.{Reader}
use Rattle.uhex_reader.specs.Reader.{with_state, moved_to}
use Rattle.uhex_effects.specs.declared.Effect.{Effect}
use Rattle.uhex_reader.specs.Line.{LineOutcome, line_outcome, bad_image, effect_outcome, line_of}
use Rattle.uhex_claims.specs.Facts.{Ready, moves_offset, LengthKept, StaysGood, FailuresFail}
use Rattle.uhex_claims.specs.Lines.{Session, read_line, next, read_all, line_answers, store_of, is_stored, stores_of}
use Rattle.uhex_claims.specs.Claims.{FailureStays, EndStays}
use Rattle.uhex_claims.proofs.LineCase.{LineCase, bad, past, again, failed, out, stored, passed, ended, line_case}
use Rattle.uhex_claims.proofs.Facts.{failure_not_moves, length_kept, stays_good, failures_fail}
use Rattle.uhex_claims.proofs.Claims.{failure_stays, end_stays}
use Rattle.uhex_claims.specs.Items.{Item, item_of, Says, none, line}
use Rattle.uhex_claims.specs.State.{Place, between, opened, body, padded, gives_for, State, after, state_after, fits_in, answer_for, answers_for, image_with, image_for, stores_with, stores_for, reader_state_of, both_of, reader_of}
use Rattle.uhex_claims.specs.WholefileClaims as claims
use Rattle.uhex_claims.specs.WholefileClaims.{Acceptance, Stop}
use Rattle.uhex_claims.proofs.OneRecord.{Goes, EffectCase, fails, goes, ends, steps, word_item, line_made, line_goes, line_ends, answer_most, answer_least}
use Rattle.uhex_claims.proofs.Runs.{Runs, stop, step}

-- a reader that knows what records say, and an image
abbrev pub session : ℕ → State → List ℕ → Session
session own s img = record { reader = reader_of own s; image = img }

abbrev session_of : LineOutcome → Session
session_of o = record { reader = o.reader; image = o.image }

ready_next : (r : Reader) (l img : List ℕ) → Ready r img → Ready (line_of r l img).reader (line_of r l img).image
unfolding LengthKept StaysGood
ready_next r l img y =
    record { image = ap bad_image (length_kept r l img) ∙ y.image; reader = stays_good r l img y.reader }

-- ---- records that go on are read as they say

module _ (own : ℕ) where
  abbrev onward : State → Item → List ℕ → LineOutcome
  onward s x img = line_outcome (reader_of own (after s x)) (answer_for own (length img) s x) (image_with own s x img)

  module _ (s : State) (l img : List ℕ) (x : Item) (e : line_of (reader_of own s) l img ≡ onward s x img) where
    next_is : next (session own s img) l ≡ session own (after s x) (image_with own s x img)
    next_is = ap session_of e

    ready_on : Ready (reader_of own s) img → Ready (reader_of own (after s x)) (image_with own s x img)
    ready_on y = subst (λ (o : LineOutcome). Ready o.reader o.image) e (ready_next (reader_of own s) l img y)

    length-on : length (image_with own s x img) ≡ length img
    unfolding LengthKept
    length-on = sym (ap (λ (o : LineOutcome). length o.image) e) ∙ length_kept (reader_of own s) l img

  pub run_reads : {ls : List (List ℕ)} {xs : List Item} → Says ls xs → (s : State) (img : List ℕ) → Ready (reader_of own s) img → Runs s xs
      → (read_all (session own s img) ls ≡ session own (state_after s xs) (image_for own s xs img))
      × (line_answers (session own s img) ls ≡ answers_for own (length img) s xs)
      × Ready (reader_of own (state_after s xs)) (image_for own s xs img)
  unfolding read_all line_answers state_after image_for answers_for
  run_reads none s img y r = (refl, refl, y)
  run_reads (line {l} {ls} {xs} rec p t) s img y (step _ _ q e g m r) =
      let x = item_of l rec in
      let w = line_goes l rec p own s img y m e g in
      let n = next_is s l img x w in
      let h = run_reads t (after s x) (image_with own s x img) (ready_on s l img x w y) r in (
        ap (λ (k : Session). read_all k ls) n ∙ h.0,
        ap (λ (o : LineOutcome). o.answer ∷ line_answers (session_of o) ls) w
            ∙ ap (λ (k : List Answer). answer_for own (length img) s x ∷ k)
            (h.1 ∙ ap (λ (k : ℕ). answers_for own k (after s x) xs) (length-on s l img x w)),
        h.2,
      )

  -- and store what they say
  store_one : (s : State) (l img : List ℕ) (rec : Record) → (read_of l).parsed ≡ Ok rec → (o : LineOutcome) → o ≡ onward s (item_of l rec) img
      → cond (is_stored o.answer) (store_of (reader_of own s) (read_of l).«data» (read_of l).parsed) [] ≡ stores_with own (length img) s (item_of l rec)
  unfolding stores_with answer_for
  store_one s l img rec p o e =
      let x = item_of l rec in
      rw (e, p)
      (split (gives_for s.place x own)
      (λ y. rw y (split (fits_in (length img) s x) (λ z. rw z) (λ z. rw z)))
      (λ z. rw z))

  pub run_stores : {ls : List (List ℕ)} {xs : List Item} → Says ls xs → (s : State) (img : List ℕ) → Ready (reader_of own s) img → Runs s xs
      → stores_of (session own s img) ls ≡ stores_for own (length img) s xs
  unfolding stores_of stores_for
  run_stores none s img y r = refl
  run_stores (line {l} {ls} {xs} rec p t) s img y (step _ _ q e g m r) =
      let x = item_of l rec in
      let w = line_goes l rec p own s img y m e g in
      let h = run_stores t (after s x) (image_with own s x img) (ready_on s l img x w y) r in
      ap (λ (z : List Store). z ++ stores_of (next (session own s img) l) ls) (store_one s l img rec p (read_line (session own s img) l) w)
      ∙ ap (λ (k : Session). stores_with own (length img) s x ++ stores_of k ls) (next_is s l img x w)
      ∙ ap (λ (z : List Store). stores_with own (length img) s x ++ z) (h ∙ ap (λ (k : ℕ). stores_for own k (after s x) xs) (length-on s l img x w))

-- ---- every line after records that go on

pub data AfterRecords (own : ℕ) (s : State) (l img : List ℕ) : LineOutcome → Type 0 where
  refused : {o : LineOutcome} → is_failure o.answer ≡ true → AfterRecords own s l img o
  went : {o : LineOutcome} (rec : Record) → (read_of l).parsed ≡ Ok rec → s.size + length l ≤ 4194304 → Goes s (item_of l rec) s.place → AfterRecords own s l img o
  last : {o : LineOutcome} (rec : Record) → (read_of l).parsed ≡ Ok rec → s.size + length l ≤ 4194304 → s.place ≡ between → rec.kind ≡ 1
      → length (item_of l rec).bytes ≡ 0 → s.data_seen 0x9900 ≡ true → s.data_seen 0x9903 ≡ true → o.answer ≡ answer.Ended → AfterRecords own s l img o

not_ended : (p : Place) → reader_state_of p ≡ state.Ended → ⊥
not_ended between e = let z : ◌≡◌ {A = ℕ} 0 1 = cc in omega arith
not_ended opened e = let z : ◌≡◌ {A = ℕ} 0 1 = cc in omega arith
not_ended (body b) e = let z : ◌≡◌ {A = ℕ} 0 1 = cc in omega arith
not_ended (padded b) e = let z : ◌≡◌ {A = ℕ} 0 1 = cc in omega arith

not_failed : (p : Place) (f : Failure) → reader_state_of p ≡ state.Failed f → ⊥
not_failed between f e = let z : ◌≡◌ {A = ℕ} 0 1 = cc in omega arith
not_failed opened f e = let z : ◌≡◌ {A = ℕ} 0 1 = cc in omega arith
not_failed (body b) f e = let z : ◌≡◌ {A = ℕ} 0 1 = cc in omega arith
not_failed (padded b) f e = let z : ◌≡◌ {A = ℕ} 0 1 = cc in omega arith

module _ (own : ℕ) (s : State) (l img : List ℕ) (y : Ready (reader_of own s) img) where
  outcome_viewed : (rec : Record) → (read_of l).parsed ≡ Ok rec → s.size + length l ≤ 4194304 → {t : Result Effect Answer} → EffectCase s (item_of l rec) s.place t
      → AfterRecords own s l img (effect_outcome (reader_of own s) rec (read_of l).«data» (s.size + length l) img t)
  unfolding effect_outcome
  outcome_viewed rec p m (fails a f) = refused f
  outcome_viewed rec p m (goes g) = went rec p m g
  outcome_viewed rec p m (ends q e k n a b) = last rec p m e k n a b refl

  record_viewed : (rec : Record) → (read_of l).parsed ≡ Ok rec → s.size + length l ≤ 4194304 → AfterRecords own s l img (line_of (reader_of own s) l img)
  record_viewed rec p m =
      rw (line_made l rec p own s img y m s.place refl)
      (outcome_viewed rec p m (steps own s (item_of l rec) (word_at (read_of l).«data») (word_item l rec p) s.place))

  lined_viewed : {o : LineOutcome} → LineCase (reader_of own s) l img o → line_of (reader_of own s) l img ≡ o → AfterRecords own s l img o
  lined_viewed (bad a n x) e = absurd (x y)
  lined_viewed (past f) e = absurd (not_ended s.place f)
  lined_viewed (again f g h) e = absurd (not_failed s.place f g)
  lined_viewed (failed a f) e = refused (kept_failure a f)
  lined_viewed (out rec q p w m) e = subst (AfterRecords own s l img) e (record_viewed rec p m)
  lined_viewed (stored rec q d w m) e = subst (AfterRecords own s l img) e (record_viewed rec d.says m)
  lined_viewed (passed rec q p w m) e = subst (AfterRecords own s l img) e (record_viewed rec p m)
  lined_viewed (ended rec p w b m) e = subst (AfterRecords own s l img) e (record_viewed rec p m)

  pub viewed : AfterRecords own s l img (line_of (reader_of own s) l img)
  viewed = lined_viewed (line_case (reader_of own s) l img) refl

-- ---- lines that are taken say records that go on

fails_not : {A : Type 0} (a : Answer) → is_failure a ≡ true → 32 ≤ number_of a → number_of a ≤ 35 → A
fails_not a f h k = clash (moves_offset a) (both (le-leb 32 (number_of a) h) (le-leb (number_of a) 35 k)) (failure_not_moves a f)

failure_number_lem : (a : Answer) → is_failure a ≡ true → (number_of a < 32) ⊎ (34 < number_of a)
failure_number_lem a f =
    split (ltb (number_of a) 32)
    (λ y. inl (ltb-true (number_of a) 32 y))
    (λ n.
    split (ltb 34 (number_of a))
    (λ y. inr (ltb-true 34 (number_of a) y))
    (λ m. fails_not a f (ltb-false (number_of a) 32 n) (omega (arith, ltb-false 34 (number_of a) m))))

-- the records of some lines
abbrev pub RecordsOf : State → List (List ℕ) → Type 0
RecordsOf s ls = (xs : List Item) × Says ls xs × Runs s xs

module _ (own : ℕ) where
  one_more : (s : State) (l img : List ℕ) (ls : List (List ℕ)) (rec : Record) (p : (read_of l).parsed ≡ Ok rec) (m : s.size + length l ≤ 4194304)
      (g : Goes s (item_of l rec) s.place) → RecordsOf (after s (item_of l rec)) ls → RecordsOf s (l ∷ ls)
  one_more s l img ls rec p m g r = (item_of l rec ∷ r.0, line rec p r.1, step s (item_of l rec) s.place refl g m r.2)

  pub taken_run : (ls : List (List ℕ)) (s : State) (img : List ℕ) → Ready (reader_of own s) img → Acceptance (line_answers (session own s img) ls) → RecordsOf s ls
  unfolding line_answers
  taken_run [] s img y t = ([], none, stop)
  taken_run (l ∷ ls) s img y (claims.next h k t) = first (viewed own s l img y) (λ x e. taken_run ls (after s x) (image_with own s x img) (ready_on own s l img x e y) (subst (λ (h : Session). Acceptance (line_answers h ls)) (next_is own s l img x e) t))
    where
      first : AfterRecords own s l img (line_of (reader_of own s) l img)
          → ((x : Item) → line_of (reader_of own s) l img ≡ onward own s x img → RecordsOf (after s x) ls) → RecordsOf s (l ∷ ls)
      first (refused f) r = fails_not (read_line (session own s img) l).answer f h (omega arith)
      first (went rec p m g) r = one_more s l img ls rec p m g (r (item_of l rec) (line_goes l rec p own s img y m refl g))
      first (last rec p m e n z a b q) r = absurd (omega (arith, ap number_of q))

  -- an answer 32 to 35 comes only after such lines
  pub last_run : (ls : List (List ℕ)) (l : List ℕ) (s : State) (img : List ℕ) → Ready (reader_of own s) img
      → 32 ≤ number_of (read_line (read_all (session own s img) ls) l).answer → number_of (read_line (read_all (session own s img) ls) l).answer ≤ 35 → RecordsOf s ls
  unfolding read_all line_answers FailureStays EndStays
  last_run [] l s img y h k = ([], none, stop)
  last_run (f ∷ ls) l s img y h k =
      first (viewed own s f img y)
      (λ x e.
      let n = next_is own s f img x e in
      last_run ls l (after s x) (image_with own s x img) (ready_on own s f img x e y)
      (subst (λ (q : Session). 32 ≤ number_of (read_line (read_all q ls) l).answer) n h)
      (subst (λ (q : Session). number_of (read_line (read_all q ls) l).answer ≤ 35) n k))
    where
      after_first : Session
      after_first = next (session own s img) f

      stays : (a : Answer) → (read_all after_first ls ≡ after_first) → (line_answers after_first (l ∷ []) ≡ a ∷ []) → (read_line (read_all after_first ls) l).answer ≡ a
      stays a e g = ap (λ (q : Session). (read_line q l).answer) e ∙ ap (λ (z : List Answer). head_of z) g
        where
          head_of : List Answer → Answer
          head_of [] = a
          head_of (b ∷ z) = b

      first : AfterRecords own s f img (line_of (reader_of own s) f img)
          → ((x : Item) → line_of (reader_of own s) f img ≡ onward own s x img → RecordsOf (after s x) ls) → RecordsOf s (f ∷ ls)
      first (refused w) r =
          let a = (read_line (session own s img) f).answer in
          let e = stays a (failure_stays (session own s img) f ls w).0 (failure_stays (session own s img) f (l ∷ []) w).1 in
          fails_not a w (subst (λ (b : Answer). 32 ≤ number_of b) e h) (subst (λ (b : Answer). number_of b ≤ 35) e k)
      first (went rec p m g) r = one_more s f img ls rec p m g (r (item_of f rec) (line_goes f rec p own s img y m refl g))
      first (last rec p m e n z a b q) r =
          let w = stays answer.AfterEnd (end_stays (session own s img) f ls q).0 (end_stays (session own s img) f (l ∷ []) q).1 in
          absurd (omega (arith, ap number_of w))

  accepts : (k : ℕ) (s : State) (xs : List Item) → Acceptance (answers_for own k s xs)
  unfolding answers_for
  accepts k s [] = claims.none
  accepts k s (x ∷ xs) = claims.next (answer_least own k s x) (answer_most own k s x) (accepts k (after s x) xs)

  pub run_accepted : {ls : List (List ℕ)} {xs : List Item} → Says ls xs → (s : State) (img : List ℕ) → Ready (reader_of own s) img → Runs s xs
      → Acceptance (line_answers (session own s img) ls)
  run_accepted {ls} {xs} t s img y r = rw (run_reads own t s img y r).1 (accepts (length img) s xs)

  -- ---- any lines: the records of those before the first that is refused or ends

  pub record Recall (s : State) (img : List ℕ) (ls : List (List ℕ)) : Type 0 where
    pub before : List (List ℕ)
    pub rest : List (List ℕ)
    pub items : List Item
    pub whole : ls ≡ before ++ rest
    pub says : Says before items
    pub runs : Runs s items
    pub stops : Stop (read_all (session own s img) before) rest
    pub upper : (read_all (session own s img) ls).reader.upper ≡ (state_after s items).upper
    pub sections : (read_all (session own s img) ls).reader.sections_seen ≡ both_of (state_after s items).section_seen
    pub given : (read_all (session own s img) ls).reader.data_seen ≡ both_of (state_after s items).data_seen
    pub image : (read_all (session own s img) ls).image ≡ image_for own s items img

  -- a reader that went no further
  nothing_more : (s : State) (img : List ℕ) (ls : List (List ℕ)) (t : ReaderState) (e : ℕ)
      → Stop (session own s img) ls → read_all (session own s img) ls ≡ record { reader = moved_to (with_state (reader_of own s) t) e; image = img } → Recall s img ls
  unfolding read_all state_after image_for moved_to with_state
  nothing_more s img ls t e q h =
      record {
        before = [];
        rest = ls;
        items = [];
        whole = refl;
        says = none;
        runs = stop;
        stops = q;
        upper = ap (λ (k : Session). k.reader.upper) h;
        sections = ap (λ (k : Session). k.reader.sections_seen) h;
        given = ap (λ (k : Session). k.reader.data_seen) h;
        image = ap (λ (k : Session). k.image) h;
      }

  pub recall : (ls : List (List ℕ)) (s : State) (img : List ℕ) → Ready (reader_of own s) img → Recall s img ls
  unfolding read_all state_after image_for moved_to with_state FailureStays EndStays FailuresFail
  recall [] s img y = nothing_more s img [] (reader_state_of s.place) s.size claims.no_line refl
  recall (l ∷ ls) s img y =
      first (viewed own s l img y) (λ x e. recall ls (after s x) (image_with own s x img) (ready_on own s l img x e y))
    where
      first : AfterRecords own s l img (line_of (reader_of own s) l img)
          → ((x : Item) → line_of (reader_of own s) l img ≡ onward own s x img → Recall (after s x) (image_with own s x img) ls) → Recall s img (l ∷ ls)
      first (refused f) r =
          let a = (read_line (session own s img) l).answer in
          nothing_more s img (l ∷ ls) (state.Failed (record { answer = a })) s.size (claims.other_answer (failure_number_lem a f))
          ((failure_stays (session own s img) l ls f).0 ∙ ap session_of (failures_fail (reader_of own s) l img f))
      first (went rec p m g) r =
          let x = item_of l rec in
          let e = line_goes l rec p own s img y m refl g in
          let n = next_is own s l img x e in
          let k = r x e in
          record {
            before = l ∷ k.before;
            rest = k.rest;
            items = x ∷ k.items;
            whole = ap (λ (z : List (List ℕ)). l ∷ z) k.whole;
            says = line rec p k.says;
            runs = step s x s.place refl g m k.runs;
            stops = subst (λ (h : Session). Stop (read_all h k.before) k.rest) (sym n) k.stops;
            upper = ap (λ (h : Session). (read_all h ls).reader.upper) n ∙ k.upper;
            sections = ap (λ (h : Session). (read_all h ls).reader.sections_seen) n ∙ k.sections;
            given = ap (λ (h : Session). (read_all h ls).reader.data_seen) n ∙ k.given;
            image = ap (λ (h : Session). (read_all h ls).image) n ∙ k.image;
          }
      first (last rec p m e k n a b q) r =
          nothing_more s img (l ∷ ls) state.Ended (s.size + length l) (claims.other_answer (inr (omega (arith, ap number_of q))))
          ((end_stays (session own s img) l ls q).0 ∙ ap session_of (line_ends l rec p own s img y m e k n a b))
