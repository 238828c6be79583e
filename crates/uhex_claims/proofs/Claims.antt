-- The claims of specs/Claims.antt hold. Assumes nothing.
use Prim.Native.Nat.{ℕ, ◌+◌}
use mathlib.Core.Path.{◌≡◌, refl, sym, ap, ◌∙◌}
use mathlib.Core.Bool.{Bool, true, false, cond, ◌&&◌, ◌||◌, and-false, or-false, or_assoc}
use mathlib.Core.List.{List, [], ◌∷◌}
use native.Mathlib.Omega.{arith}
use lib.ListN.{length, get_or, take, replicate}
use borrow.Author.Tests.{le-leb, lt-leb, ne_eqb}
use Rattle.laws.proofs.Tests.{clash, and_left, and_right, both}
use Rattle.laws.specs.Stores.{Store, latest}
use Rattle.laws.proofs.StoresLaws.{latest_append, latest_none, latest_last, get_d_over}
use Rattle.ihex_record.specs.Record.{word_of, read_of}
use Rattle.ihex_record.specs.declared.Record.{Record}
use Rattle.std.specs.Prelude.{Ok}
use Rattle.uhex_grammar.specs.Answers.{number_of, is_failure}
use Rattle.uhex_grammar.specs.Boards.{is_v1, is_v2, has_board}
use Rattle.uhex_grammar.proofs.Laws.{kept_failure}
use Rattle.uhex_grammar.specs.declared.Answer.{Answer}
use Rattle.uhex_grammar.specs.declared.Answer.TheVariants.{Repeated, AfterEnd, Passed}
use Rattle.uhex_grammar.specs.declared.ReaderState.{ReaderState}
use Rattle.uhex_grammar.specs.declared.ReaderState.TheVariants.{Ended, Failed}
use Rattle.uhex_effects.specs.declared.Reader.{Reader}
use Rattle.uhex_reader.specs.Reader.{bad_failure, bad_reader, with_state, moved_to}
use Rattle.uhex_reader.specs.Line.{LineOutcome, line_outcome, address_of, bad_image}
use Rattle.uhex_claims.specs.Facts.{Ready, LengthKept, BadExactly, FailedRepeats, AfterEndStated, FailuresFail, moves_offset, move_of, OffsetMoves, OwnKept, StaysGood, EndEnds, PassedOrRepeated, StoresOwnData}
use Rattle.uhex_claims.specs.Lines.{Session, fresh_session, read_line, next, read_all, line_answers, store_of, is_stored, stores_of, bytes_taken, any_line, gives, any_gives, names, any_names, allows_extended_linear, says_extended_linear, sets_upper, latest_upper}
use Rattle.uhex_claims.specs.Claims.{ImageIsLatest, ImageLengthKept, OthersAsLent, LastStoreStands, StoresAreOwn, NeverBad, FailureStays, EndStays, OffsetIsSum, FreshOffsetIsSum, DataSeenIsGiven, EndAfterBoth, SectionsSeenAreNamed, SecondIsRepeated, UpperIsLatest}
use Rattle.uhex_claims.proofs.LineCase.{After, LineCase, bad, past, again, failed, out, stored, passed, ended, line_case}
use Rattle.uhex_claims.proofs.Facts.{failure_from, failure_not_moves, fits, length_kept, bad_exactly, failed_repeats, after_end, failures_fail, offset_moves, own_kept, stays_good, end_ends, passed_or_repeated, stores_own_data}

-- ---- one line

failure_not_stored : (a : Answer) → is_failure a ≡ true → is_stored a ≡ false
failure_not_stored a e =
    ne_eqb (number_of a) 33
    (λ q. clash (moves_offset a) (both (le-leb 32 (number_of a) (omega arith)) (le-leb (number_of a) 35 (omega arith))) (failure_not_moves a e))

module _ (r : Reader) (l img : List ℕ) where
  byte_next : (j : ℕ) {o : LineOutcome} → LineCase r l img o
      → get_or o.image j 0 ≡ latest j (cond (is_stored o.answer) (store_of r (read_of l).«data» (read_of l).parsed) []) (get_or img j 0)
  unfolding latest
  byte_next j (bad a n x) = rw (ne_eqb (number_of a) 33 (λ e. omega arith))
  byte_next j (past e) = refl
  byte_next j (again f e g) = rw (failure_not_stored f.answer (kept_failure f.answer g))
  byte_next j (failed a f) = rw (failure_not_stored a (kept_failure a f))
  byte_next j (out rec q p w m) = refl
  byte_next j (stored rec q d w m) =
      rw d.says (get_d_over img (address_of r rec) (take rec.len (read_of l).«data») j (fits r l img rec d))
  byte_next j (passed rec q p w m) = refl
  byte_next j (ended rec p w b m) = refl

  -- a mark of the reader, which only a line that moves the offset can set
  mark_next : (p : Reader → Bool) (is : Bool) → ((s : ReaderState) → p (with_state r s) ≡ p r) → ((q : Reader) (e : ℕ) → p (moved_to q e) ≡ p q)
      → ((rec : Record) (q : Reader) → (read_of l).parsed ≡ Ok rec → After r l rec q → p q ≡ p r || is)
      → {o : LineOutcome} → LineCase r l img o → p o.reader ≡ p r || moves_offset o.answer && is
  mark_next p is s m f (bad a n x) = rw (lt-leb 32 (number_of a) (omega arith)) (sym (or-false (p r)))
  mark_next p is s m f (past e) = sym (or-false (p r))
  mark_next p is s m f (again x e g) = rw (failure_not_moves x.answer (kept_failure x.answer g)) (sym (or-false (p r)))
  mark_next p is s m f (failed a g) = rw (failure_not_moves a (kept_failure a g)) (s (Failed (record { answer = a })) ∙ sym (or-false (p r)))
  mark_next p is s m f (out rec q y w k) = m q (r.offset + length l) ∙ f rec q y w
  mark_next p is s m f (stored rec q d w k) = m q (r.offset + length l) ∙ f rec q d.says w
  mark_next p is s m f (passed rec q y w k) = m q (r.offset + length l) ∙ f rec q y w
  mark_next p is s m f (ended rec y w c k) = m (with_state r Ended) (r.offset + length l) ∙ f rec (with_state r Ended) y w

  data_seen_next : (b : ℕ) → is_v1 b || is_v2 b ≡ true → {o : LineOutcome} → LineCase r l img o
      → has_board o.reader.data_seen b ≡ has_board r.data_seen b || moves_offset o.answer && gives b r l
  unfolding with_state moved_to
  data_seen_next b v =
      mark_next (λ q. has_board q.data_seen b) (gives b r l) (λ s. refl) (λ q e. refl) (λ rec q p w. rw p (w.data_seen b v))

  sections_seen_next : (b : ℕ) → is_v1 b || is_v2 b ≡ true → {o : LineOutcome} → LineCase r l img o
      → has_board o.reader.sections_seen b ≡ has_board r.sections_seen b || moves_offset o.answer && names b r l
  unfolding with_state moved_to
  sections_seen_next b v =
      mark_next (λ q. has_board q.sections_seen b) (names b r l) (λ s. refl) (λ q e. refl) (λ rec q p w. rw p (w.sections_seen b v))

  upper_onward : {rec : Record} {q : Reader} → (read_of l).parsed ≡ Ok rec → After r l rec q
      → q.upper ≡ cond (allows_extended_linear r.state && says_extended_linear (read_of l).parsed) (word_of (read_of l).«data») r.upper
  upper_onward p w = rw p w.upper

  upper_next : {o : LineOutcome} → LineCase r l img o → o.reader.upper ≡ cond (sets_upper r l o.answer) (word_of (read_of l).«data») r.upper
  unfolding with_state moved_to
  upper_next (bad a n x) = rw (lt-leb 32 (number_of a) (omega arith))
  upper_next (past e) = refl
  upper_next (again f e g) = rw (failure_not_moves f.answer (kept_failure f.answer g))
  upper_next (failed a f) = rw (failure_not_moves a (kept_failure a f))
  upper_next (out rec q p w m) = upper_onward p w
  upper_next (stored rec q d w m) = upper_onward d.says w
  upper_next (passed rec q p w m) = upper_onward p w
  upper_next (ended rec p w c m) = upper_onward p w

-- ---- lists

ready_next : (h : Session) (l : List ℕ) → Ready h.reader h.image → Ready (next h l).reader (next h l).image
unfolding LengthKept StaysGood
ready_next h l y =
    record {
      image = ap bad_image (length_kept h.reader l h.image) ∙ y.image;
      reader = stays_good h.reader l h.image y.reader;
    }

ready_all : (h : Session) (ls : List (List ℕ)) → Ready h.reader h.image → Ready (read_all h ls).reader (read_all h ls).image
unfolding read_all
ready_all h [] y = y
ready_all h (l ∷ ls) y = ready_all (next h l) ls (ready_next h l y)

ready_start : (own : ℕ) (img : List ℕ) → is_v1 own || is_v2 own ≡ true → bad_image (length img) ≡ false
    → Ready (fresh_session own img).reader (fresh_session own img).image
ready_start own img v e = record { image = e; reader = unfold bad_reader bad_failure in rw v }

-- a reader that gives every line the answer a and changes nothing
still : (h : Session) (a : Answer) → ((l : List ℕ) → read_line h l ≡ line_outcome h.reader a h.image) → (ls : List (List ℕ))
    → (read_all h ls ≡ h) × (line_answers h ls ≡ replicate (length ls) a)
unfolding read_all line_answers
still h a f [] = (refl, refl)
still h a f (l ∷ ls) =
    let same : next h l ≡ h = ap (λ (o : LineOutcome). data32 o) (f l) in
    let e = still h a f ls in (
      ap (λ (k : Session). read_all k ls) same ∙ e.0,
      rw same (ap (λ (o : LineOutcome). o.answer ∷ line_answers h ls) (f l) ∙ ap (λ (x : List Answer). a ∷ x) e.1),
    )
  where
    data32 : LineOutcome → Session
    data32 o = record { reader = o.reader; image = o.image }

mark_all : (p : Reader → Bool) (is : Reader → List ℕ → Bool)
    → ((h : Session) (l : List ℕ) → p (read_line h l).reader ≡ p h.reader || moves_offset (read_line h l).answer && is h.reader l)
    → (h : Session) (ls : List (List ℕ)) → p (read_all h ls).reader ≡ p h.reader || any_line is h ls
unfolding read_all any_line
mark_all p is f h [] = sym (or-false (p h.reader))
mark_all p is f h (l ∷ ls) =
    mark_all p is f (next h l) ls
    ∙ ap (λ (x : Bool). x || any_line is (next h l) ls) (f h l)
    ∙ or_assoc (p h.reader) (moves_offset (read_line h l).answer && is h.reader l) (any_line is (next h l) ls)

data_seen_all : (b : ℕ) → is_v1 b || is_v2 b ≡ true → (h : Session) (ls : List (List ℕ))
    → has_board (read_all h ls).reader.data_seen b ≡ has_board h.reader.data_seen b || any_gives h ls b
data_seen_all b v =
    mark_all (λ q. has_board q.data_seen b) (gives b)
    (λ h l. data_seen_next h.reader l h.image b v (line_case h.reader l h.image))

sections_seen_all : (b : ℕ) → is_v1 b || is_v2 b ≡ true → (h : Session) (ls : List (List ℕ))
    → has_board (read_all h ls).reader.sections_seen b ≡ has_board h.reader.sections_seen b || any_names h ls b
sections_seen_all b v =
    mark_all (λ q. has_board q.sections_seen b) (names b)
    (λ h l. sections_seen_next h.reader l h.image b v (line_case h.reader l h.image))

upper_all : (h : Session) (ls : List (List ℕ)) → (read_all h ls).reader.upper ≡ latest_upper h ls h.reader.upper
unfolding read_all latest_upper
upper_all h [] = refl
upper_all h (l ∷ ls) =
    upper_all (next h l) ls ∙ ap (latest_upper (next h l) ls) (upper_next h.reader l h.image (line_case h.reader l h.image))

own_all : (h : Session) (ls : List (List ℕ)) → (read_all h ls).reader.own ≡ h.reader.own
unfolding read_all
own_all h [] = refl
own_all h (l ∷ ls) = own_all (next h l) ls ∙ unfold OwnKept in own_kept h.reader l h.image

-- ---- the claims: the image

byte_all : (j : ℕ) (h : Session) (ls : List (List ℕ)) → get_or (read_all h ls).image j 0 ≡ latest j (stores_of h ls) (get_or h.image j 0)
unfolding read_all stores_of
byte_all j h [] = unfold latest in refl
byte_all j h (l ∷ ls) =
    let s = cond (is_stored (read_line h l).answer) (store_of h.reader (read_of l).«data» (read_of l).parsed) [] in
    byte_all j (next h l) ls
    ∙ ap (latest j (stores_of (next h l) ls)) (byte_next h.reader l h.image j (line_case h.reader l h.image))
    ∙ sym (latest_append j s (stores_of (next h l) ls) (get_or h.image j 0))

pub image_is_latest : ImageIsLatest
unfolding ImageIsLatest
image_is_latest h ls j = byte_all j h ls

length_all : (h : Session) (ls : List (List ℕ)) → length (read_all h ls).image ≡ length h.image
unfolding read_all
length_all h [] = refl
length_all h (l ∷ ls) = length_all (next h l) ls ∙ unfold LengthKept in length_kept h.reader l h.image

pub image_length_kept : ImageLengthKept
unfolding ImageLengthKept
image_length_kept h ls = length_all h ls

pub others_as_lent : OthersAsLent
unfolding OthersAsLent
others_as_lent h ls j e = byte_all j h ls ∙ latest_none j (stores_of h ls) (get_or h.image j 0) e

pub last_store_stands : LastStoreStands
unfolding LastStoreStands
last_store_stands h ls j before after s e c n =
    byte_all j h ls
    ∙ ap (λ (x : List Store). latest j x (get_or h.image j 0)) e
    ∙ latest_last j before after s (get_or h.image j 0) c n

pub stores_are_own : StoresAreOwn
unfolding StoresAreOwn StoresOwnData
stores_are_own own img ls l e =
    let h = read_all (fresh_session own img) ls in
    let t = stores_own_data h.reader l h.image e in
    (own_all (fresh_session own img) ls, (t.0, t.1))

-- ---- the answers

pub never_bad : NeverBad
unfolding NeverBad BadExactly
never_bad own img ls l v e =
    let h = read_all (fresh_session own img) ls in
    (bad_exactly h.reader l h.image).1 (ready_all (fresh_session own img) ls (ready_start own img v e))

pub failure_stays : FailureStays
unfolding FailureStays BadExactly FailuresFail FailedRepeats with_state
failure_stays h l ls e =
    let y : Ready h.reader h.image = (bad_exactly h.reader l h.image).0 (failure_from (read_line h l).answer e) in
    let s = ap (λ (o : LineOutcome). o.reader.state) (failures_fail h.reader l h.image e) in
    still (next h l) (read_line h l).answer
    (λ m. failed_repeats (next h l).reader m (next h l).image (record { answer = (read_line h l).answer }) (ready_next h l y) s) ls

pub end_stays : EndStays
unfolding EndStays EndEnds AfterEndStated BadExactly
end_stays h l ls e =
    let y : Ready h.reader h.image = (bad_exactly h.reader l h.image).0 (omega (arith, ap number_of e)) in
    still (next h l) AfterEnd
    (λ m. after_end (next h l).reader m (next h l).image (ready_next h l y) (end_ends h.reader l h.image e).1) ls

-- ---- what the reader has counted

offset_all : (h : Session) (ls : List (List ℕ)) → (read_all h ls).reader.offset ≡ h.reader.offset + bytes_taken h ls
unfolding read_all bytes_taken
offset_all h [] = omega arith
offset_all h (l ∷ ls) =
    let e : (next h l).reader.offset ≡ h.reader.offset + move_of (read_line h l).answer l =
    unfold OffsetMoves in offset_moves h.reader l h.image in
    omega (arith, offset_all (next h l) ls)

pub offset_is_sum : OffsetIsSum
unfolding OffsetIsSum
offset_is_sum h ls = offset_all h ls

pub fresh_offset_is_sum : FreshOffsetIsSum
unfolding FreshOffsetIsSum
fresh_offset_is_sum own img ls = omega (arith, offset_all (fresh_session own img) ls)

pub data_seen_is_given : DataSeenIsGiven
unfolding DataSeenIsGiven
data_seen_is_given own img ls b v =
    data_seen_all b v (fresh_session own img) ls ∙ rw (and-false (is_v1 b), and-false (is_v2 b))

pub end_after_both : EndAfterBoth
unfolding EndAfterBoth EndEnds DataSeenIsGiven
end_after_both own img ls l e =
    let h = read_all (fresh_session own img) ls in
    let g = h.reader.data_seen in
    let b : g.v1 && g.v2 ≡ true = (end_ends h.reader l h.image e).0 in (
      sym (data_seen_is_given own img ls 0x9900 refl) ∙ rw (and_left g.v1 g.v2 b),
      sym (data_seen_is_given own img ls 0x9903 refl) ∙ and_right g.v1 g.v2 b,
    )

pub sections_seen_are_named : SectionsSeenAreNamed
unfolding SectionsSeenAreNamed
sections_seen_are_named own img ls b v =
    sections_seen_all b v (fresh_session own img) ls ∙ rw (and-false (is_v1 b), and-false (is_v2 b))

pub second_is_repeated : SecondIsRepeated
unfolding SecondIsRepeated SectionsSeenAreNamed PassedOrRepeated
second_is_repeated own img ls l rec b o e v m d =
    let h = read_all (fresh_session own img) ls in
    passed_or_repeated h.reader l h.image rec b (ready_all (fresh_session own img) ls (ready_start own img o e)) m d
    ∙ ap (λ (x : Bool). cond x Repeated Passed) (sections_seen_are_named own img ls b v)

pub upper_is_latest : UpperIsLatest
unfolding UpperIsLatest
upper_is_latest own img ls = upper_all (fresh_session own img) ls
