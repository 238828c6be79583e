-- The claims of specs/Claims.antt hold. Assumes nothing.
use Prim.Native.Nat.{ℕ, ◌+◌, ◌≤◌}
use mathlib.Core.Path.{◌≡◌, refl, sym, ap, subst, ◌∙◌}
use mathlib.Core.Logic.{◌⊎◌, ◌≢◌, inl, inr, ⊎_elim}
use mathlib.Core.Bool.{true, false, ◌&&◌, ◌||◌, not, cond}
use mathlib.Core.List.{List, [], ◌∷◌, ◌++◌, append_assoc, append-nil}
use native.Mathlib.Omega.{arith}
use lib.ListN.{length}
use lib.Dec.{ltb, leb, eqb}
use borrow.Author.Tests.{le-ltb, eqb-true, leb-true}
use Rattle.laws.proofs.Tests.{split, clash, and_left, and_right}
use Rattle.laws.specs.Stores.{Store}
use Rattle.ihex_record.specs.Record.{read_of}
use Rattle.ihex_record.specs.declared.Record.{Record}
use Rattle.std.specs.Prelude.{Ok}
use Rattle.uhex_grammar.specs.Answers.{number_of, is_failure}
use Rattle.uhex_grammar.specs.Boards.{is_v1, is_v2}
use Rattle.uhex_grammar.specs.declared.Answer.{Answer}
use Rattle.uhex_grammar.specs.declared.Answer.TheVariants as answer
use Rattle.uhex_grammar.specs.declared.ReaderState.TheVariants as state
use Rattle.uhex_effects.specs.declared.Reader.{Reader}
use Rattle.uhex_reader.specs.Reader.{bad_failure, bad_reader, with_state, moved_to}
use Rattle.uhex_reader.specs.Line.{LineOutcome, line_outcome, line_of}
use Rattle.uhex_claims.specs.Facts.{Ready, OtherBoardUnchanged}
use Rattle.uhex_claims.specs.Claims.{ImageLengthKept}
use Rattle.uhex_claims.proofs.Facts.{other_board_unchanged}
use Rattle.uhex_claims.proofs.Claims.{image_length_kept}
use Rattle.uhex_claims.specs.Lines.{Session, fresh_session, read_line, next, read_all, line_answers, store_of, is_stored, stores_of}
use Rattle.uhex_claims.specs.Items.{Item, item_of, Says, none, line, size_of}
use Rattle.uhex_claims.specs.Whole.{data_type_of, Section, Sections, all_items, how_many, File}
use Rattle.uhex_claims.specs.State.{Place, between, opened, body, padded, is_in, gives_for, State, begin, state_after, answer_for, answers_for, image_for, stores_for, reader_state_of, reader_of}
use Rattle.uhex_claims.specs.WholefileClaims.{Setup, FileEnd, FileEnds, EndedIsFile, TakenIsKnown, MemoryIsRecords, OwnStore, StoredIsOwn, OtherBoardUntouched}
use Rattle.uhex_claims.proofs.OneRecord.{line_goes, line_ends, answer_most, answer_stored}
use Rattle.uhex_claims.proofs.Runs.{Runs, Once, size_append, size_after, sections_run, data_all}
use Rattle.uhex_claims.proofs.Parse.{parsed}
use Rattle.uhex_claims.proofs.Lists.{session, run_reads, run_stores, AfterRecords, refused, went, last, viewed, taken_run, last_run, run_accepted, recall}

-- ---- lists

read_append : (h : Session) (ks ls : List (List ℕ)) → read_all h (ks ++ ls) ≡ read_all (read_all h ks) ls
unfolding read_all
read_append h [] ls = refl
read_append h (k ∷ ks) ls = read_append (next h k) ks ls

answers_append : (h : Session) (ks ls : List (List ℕ)) → line_answers h (ks ++ ls) ≡ line_answers h ks ++ line_answers (read_all h ks) ls
unfolding read_all line_answers
answers_append h [] ls = refl
answers_append h (k ∷ ks) ls = ap (λ (z : List Answer). (read_line h k).answer ∷ z) (answers_append (next h k) ks ls)

stores_append : (h : Session) (ks ls : List (List ℕ)) → stores_of h (ks ++ ls) ≡ stores_of h ks ++ stores_of (read_all h ks) ls
unfolding read_all stores_of
stores_append h [] ls = refl
stores_append h (k ∷ ks) ls =
    let one = cond (is_stored (read_line h k).answer) (store_of h.reader (read_of k).«data» (read_of k).parsed) [] in
    ap (λ (z : List Store). one ++ z) (stores_append (next h k) ks ls)
    ∙ sym (append_assoc one (stores_of (next h k) ks) (stores_of (read_all (next h k) ks) ls))

pub says_append : {ks ls : List (List ℕ)} {xs ys : List Item} → Says ks xs → Says ls ys → Says (ks ++ ls) (xs ++ ys)
says_append none t = t
says_append (line rec p s) t = line rec p (says_append s t)

-- lines that say records and one more
record LastLine (ls : List (List ℕ)) (ys : List Item) (x : Item) : Type 0 where
  pub before : List (List ℕ)
  pub final : List ℕ
  pub rec : Record
  pub whole : ls ≡ before ++ (final ∷ [])
  pub says : Says before ys
  pub good : (read_of final).parsed ≡ Ok rec
  pub item : x ≡ item_of final rec

parted : (ys : List Item) (x : Item) {ls : List (List ℕ)} {xs : List Item} → xs ≡ ys ++ (x ∷ []) → Says ls xs → LastLine ls ys x
parted [] x e none = absurd (let z : ◌≡◌ {A = ℕ} 0 1 = cc in omega arith)
parted (y ∷ ys) x e none = absurd (let z : ◌≡◌ {A = ℕ} 0 1 = cc in omega arith)
parted [] x e (line {l} rec p none) =
    record { before = []; final = l; rec = rec; whole = refl; says = none; good = p; item = cc }
parted [] x e (line rec p (line rec' p' t)) = absurd (let z : ◌≡◌ {A = ℕ} 0 1 = cc in omega arith)
parted (y ∷ ys) x e (line {l} {ls} {xs} rec p t) =
    let f : xs ≡ ys ++ (x ∷ []) = cc in
    let g : item_of l rec ≡ y = cc in
    let r = parted ys x f t in
    record {
      before = l ∷ r.before;
      final = r.final;
      rec = r.rec;
      whole = ap (λ (z : List (List ℕ)). l ∷ z) r.whole;
      says = subst (λ (z : Item). Says (l ∷ r.before) (z ∷ ys)) g (line rec p r.says);
      good = r.good;
      item = r.item;
    }

-- ---- a fresh reader

ready_set : (own : ℕ) (img : List ℕ) → Setup own img → Ready (reader_of own begin) img
ready_set own img g =
    record {
      image = rw (le-ltb (length img) 1 g.some, le-ltb 1048576 (length img) g.most);
      reader = unfold bad_reader bad_failure in own-good g.board;
    }
  where
    own-good : (own ≡ 0x9900) ⊎ (own ≡ 0x9903) → (not (is_v1 own || is_v2 own) || ltb 4194304 0) || false ≡ false
    own-good b = ⊎_elim (λ (e : own ≡ 0x9900). rw e) (λ (e : own ≡ 0x9903). rw e) b

-- ---- a file

once_begin : (ss : List Section) → how_many 0x9900 ss ≤ 1 → how_many 0x9903 ss ≤ 1 → Once begin ss
unfolding Once
once_begin ss a b c v =
    split (eqb c 0x9900)
    (λ y. subst (λ (k : ℕ). 0 + how_many k ss ≤ 1) (sym (eqb-true c 0x9900 y)) (omega arith))
    (λ n.
    let y : eqb c 0x9903 ≡ true = rw n at v in
    subst (λ (k : ℕ). 0 + how_many k ss ≤ 1) (sym (eqb-true c 0x9903 y)) (omega arith))

module _ (own : ℕ) (img : List ℕ) (g : Setup own img) (xs : List Item) (f : File xs) where
  abbrev items : List Item
  items = all_items f.sections

  abbrev before_end : State
  before_end = state_after begin items

  file_size : size_of items + f.ending.size ≤ 4194304
  unfolding size_of
  file_size =
      let e : size_of xs ≡ size_of items + (f.ending.size + 0) = ap size_of f.whole ∙ size_append items (f.ending ∷ []) in
      omega (arith, f.short)

  file_runs : Runs begin items
  file_runs =
      sections_run f.ordered begin refl refl (once_begin f.sections f.once_v1 f.once_v2) (omega (arith, file_size))

  module _ (ls : List (List ℕ)) (p : LastLine ls items f.ending) where
    reads : (read_all (fresh_session own img) p.before ≡ session own before_end (image_for own begin items img))
        × (line_answers (fresh_session own img) p.before ≡ answers_for own (length img) begin items)
        × Ready (reader_of own before_end) (image_for own begin items img)
    reads = run_reads own p.says begin img (ready_set own img g) file_runs

    last_line : line_of (reader_of own before_end) p.final (image_for own begin items img)
        ≡ line_outcome (moved_to (with_state (reader_of own before_end) state.Ended) (before_end.size + length p.final)) answer.Ended (image_for own begin items img)
    last_line =
        let i : f.ending.size ≡ length p.final = ap (λ (x : Item). x.size) p.item in
        line_ends p.final p.rec p.good own before_end (image_for own begin items img) reads.2
        (omega (arith, size_after begin items, file_size)) (data_all 0x9900 f.ordered begin refl).0
        (sym (ap (λ (x : Item). x.kind) p.item) ∙ f.ends)
        (sym (ap (λ (x : Item). length x.bytes) p.item) ∙ f.empty)
        ((data_all 0x9900 f.ordered begin refl).1 ∙ f.data_v1)
        ((data_all 0x9903 f.ordered begin refl).1 ∙ f.data_v2)

    all_read : read_all (fresh_session own img) ls ≡ next (session own before_end (image_for own begin items img)) p.final
    unfolding read_all
    all_read =
        ap (read_all (fresh_session own img)) p.whole
        ∙ read_append (fresh_session own img) p.before (p.final ∷ [])
        ∙ ap (λ (h : Session). next h p.final) reads.0

    -- the last line stores nothing
    last-stores : stores_of (session own before_end (image_for own begin items img)) (p.final ∷ []) ≡ []
    unfolding stores_of
    last-stores = rw (ap (λ (o : LineOutcome). is_stored o.answer) last_line)

    file-end : FileEnd own img ls items
    unfolding line_answers moved_to with_state
    file-end =
        record {
          answers =
              ap (line_answers (fresh_session own img)) p.whole
              ∙ answers_append (fresh_session own img) p.before (p.final ∷ [])
              ∙ ap (λ (z : List Answer). z ++ line_answers (read_all (fresh_session own img) p.before) (p.final ∷ [])) reads.1
              ∙ ap (λ (h : Session). answers_for own (length img) begin items ++ ((read_line h p.final).answer ∷ [])) reads.0
              ∙ ap (λ (o : LineOutcome). answers_for own (length img) begin items ++ (o.answer ∷ [])) last_line;
          image = ap (λ (h : Session). h.image) all_read ∙ ap (λ (o : LineOutcome). o.image) last_line;
          stores =
              ap (stores_of (fresh_session own img)) p.whole
              ∙ stores_append (fresh_session own img) p.before (p.final ∷ [])
              ∙ ap (λ (z : List Store). z ++ stores_of (read_all (fresh_session own img) p.before) (p.final ∷ []))
              (run_stores own p.says begin img (ready_set own img g) file_runs)
              ∙ ap (λ (h : Session). stores_for own (length img) begin items ++ stores_of h (p.final ∷ [])) reads.0
              ∙ ap (λ (z : List Store). stores_for own (length img) begin items ++ z) last-stores
              ∙ append-nil (stores_for own (length img) begin items);
          ended = ap (λ (h : Session). h.reader.state) all_read ∙ ap (λ (o : LineOutcome). o.reader.state) last_line;
        }

pub file_ends : FileEnds
unfolding FileEnds
file_ends own img ls xs g s f = file-end own img g xs f ls (parted (all_items f.sections) f.ending f.whole s)

-- ---- and back

a_file : (xs : List Item) (l : List ℕ) (rec : Record) → Runs begin xs → let t = state_after begin xs in
    t.size + length l ≤ 4194304 → t.place ≡ between → rec.kind ≡ 1 → length (item_of l rec).bytes ≡ 0 → t.data_seen 0x9900 ≡ true → t.data_seen 0x9903 ≡ true
    → File (xs ++ (item_of l rec ∷ []))
unfolding Once size_of
a_file xs l rec r m e k n a b =
    let p = parsed r refl e in
    let ss = p.0 in
    let data_seen : (c : ℕ) → (state_after begin xs).data_seen c ≡ true → Rattle.uhex_claims.specs.Whole.any_gives c ss ≡ true =
    λ c h. sym (data_all c p.2 begin refl).1 ∙ ap (λ (z : List Item). (state_after begin z).data_seen c) (sym p.1) ∙ h in
    let sum : size_of (xs ++ (item_of l rec ∷ [])) ≡ size_of xs + (length l + 0) = size_append xs (item_of l rec ∷ []) in
    record {
      sections = ss;
      ending = item_of l rec;
      whole = ap (λ (z : List Item). z ++ (item_of l rec ∷ [])) p.1;
      ordered = p.2;
      ends = k;
      empty = n;
      once_v1 = omega (arith, p.3 0x9900 refl);
      once_v2 = omega (arith, p.3 0x9903 refl);
      data_v1 = data_seen 0x9900 a;
      data_v2 = data_seen 0x9903 b;
      short = omega (arith, size_after begin xs);
    }

pub ended_is_file : EndedIsFile
unfolding EndedIsFile
ended_is_file own img ls l g a =
    let h : 32 ≤ number_of (read_line (read_all (fresh_session own img) ls) l).answer = omega (arith, ap number_of a) in
    let k : number_of (read_line (read_all (fresh_session own img) ls) l).answer ≤ 35 = omega (arith, ap number_of a) in
    let y = ready_set own img g in
    let r = last_run own ls l begin img y h k in
    let w = run_reads own r.1 begin img y r.2 in
    let i = image_for own begin r.0 img in
    file-of r.0 r.1 r.2 i w.2 (viewed own (state_after begin r.0) l i w.2) (sym (ap (λ (h : Session). (read_line h l).answer) w.0) ∙ a)
  where
    file-of : (xs : List Item) → Says ls xs → Runs begin xs → (i : List ℕ) → Ready (reader_of own (state_after begin xs)) i
        → AfterRecords own (state_after begin xs) l i (line_of (reader_of own (state_after begin xs)) l i)
        → (line_of (reader_of own (state_after begin xs)) l i).answer ≡ answer.Ended
        → (zs : List Item) × Says (ls ++ (l ∷ [])) zs × File zs
    file-of xs s r i y (refused f) e = clash false (sym (ap is_failure e) ∙ f) refl
    file-of xs s r i y (went rec p m q) e =
        let t = state_after begin xs in
        let w = ap (λ (o : LineOutcome). o.answer) (line_goes l rec p own t i y m refl q) in
        absurd (omega (arith, ap number_of (sym w ∙ e), answer_most own (length i) t (item_of l rec)))
    file-of xs s r i y (last rec p m q k n a b z) e =
        (xs ++ (item_of l rec ∷ []), says_append s (line rec p none), a_file xs l rec r m q k n a b)

pub taken_is_known : TakenIsKnown
unfolding TakenIsKnown
taken_is_known own img ls g t =
    let y = ready_set own img g in
    let r = taken_run own ls begin img y t in
    let w = run_reads own r.1 begin img y r.2 in
    (r.0, r.1, record { reader = ap (λ (h : Session). h.reader) w.0; answers = w.1; image = ap (λ (h : Session). h.image) w.0 })

-- ---- any lines

pub memory_is_records : MemoryIsRecords
unfolding MemoryIsRecords
memory_is_records own img ls g =
    let y = ready_set own img g in
    let k = recall own ls begin img y in (
      k.before,
      k.rest,
      k.items,
      k.whole,
      k.says,
      run_accepted own k.says begin img y k.runs,
      k.stops,
      record { upper = k.upper; sections = k.sections; given = k.given; image = k.image },
    )

-- lines say one list of records
pub says_one : {ls : List (List ℕ)} {xs ys : List Item} → Says ls xs → Says ls ys → xs ≡ ys
says_one none none = refl
says_one (line {l} {ls} {xs} rec p s) (line rec' q t) =
    let e : rec ≡ rec' = cc in
    ap (λ (r : Record). item_of l r ∷ xs) e ∙ ap (λ (z : List Item). item_of l rec' ∷ z) (says_one s t)

is_body : (p : Place) (own : ℕ) → is_in p own ≡ true → p ≡ body own
is_body between own e = clash false e refl
is_body opened own e = clash false e refl
is_body (body b) own e = ap body (eqb-true b own e)
is_body (padded b) own e = clash false e refl

own_store : (own n : ℕ) (s : State) (x : Item) → answer_for own n s x ≡ answer.Stored → OwnStore own n s x
unfolding gives_for
own_store own n s x a =
    let h = answer_stored own n s x a in
    let d = eqb x.kind (data_type_of own) && leb 1 (length x.bytes) in
    let k : d ≡ true = and_right (is_in s.place own) d h.0 in
    record {
      section = is_body s.place own (and_left (is_in s.place own) d h.0);
      kind = eqb-true x.kind (data_type_of own) (and_left (eqb x.kind (data_type_of own)) (leb 1 (length x.bytes)) k);
      some = leb-true 1 (length x.bytes) (and_right (eqb x.kind (data_type_of own)) (leb 1 (length x.bytes)) k);
      fits = h.1;
    }

pub stored_is_own : StoredIsOwn
unfolding StoredIsOwn ImageLengthKept
stored_is_own own img ls l g a =
    let y = ready_set own img g in
    let r = last_run own ls l begin img y (omega (arith, ap number_of a)) (omega (arith, ap number_of a)) in
    let w = run_reads own r.1 begin img y r.2 in
    let i = image_for own begin r.0 img in
    let n : length i ≡ length img = sym (ap (λ (h : Session). length h.image) w.0) ∙ image_length_kept (fresh_session own img) ls in
    store-of r.0 r.1 i n w.2 (viewed own (state_after begin r.0) l i w.2) (sym (ap (λ (h : Session). (read_line h l).answer) w.0) ∙ a)
  where
    store-of : (xs : List Item) → Says ls xs → (i : List ℕ) → length i ≡ length img → Ready (reader_of own (state_after begin xs)) i
        → AfterRecords own (state_after begin xs) l i (line_of (reader_of own (state_after begin xs)) l i)
        → (line_of (reader_of own (state_after begin xs)) l i).answer ≡ answer.Stored
        → (zs : List Item) × (x : Item) × Says ls zs × Says (l ∷ []) (x ∷ []) × OwnStore own (length img) (state_after begin zs) x
    store-of xs s i n y (refused f) e = clash false (sym (ap is_failure e) ∙ f) refl
    store-of xs s i n y (went rec p m q) e =
        let t = state_after begin xs in
        let x = item_of l rec in
        let w = ap (λ (o : LineOutcome). o.answer) (line_goes l rec p own t i y m refl q) in
        (xs, x, s, line rec p none, subst (λ (k : ℕ). OwnStore own k t x) n (own_store own (length i) t x (sym w ∙ e)))
    store-of xs s i n y (last rec p m q k v a b z) e = absurd (omega (arith, ap number_of (sym z ∙ e)))

pub other_board_untouched : OtherBoardUntouched
unfolding OtherBoardUntouched TakenIsKnown OtherBoardUnchanged
other_board_untouched own img ls l xs b g t s n i =
    let k = taken_is_known own img ls g t in
    let h = read_all (fresh_session own img) ls in
    let e : h.reader ≡ reader_of own (state_after begin xs) =
    k.2.reader ∙ ap (λ (z : List Item). reader_of own (state_after begin z)) (says_one k.1 s) in
    let o : b ≢ h.reader.own = λ f. n (f ∙ ap (λ (r : Reader). r.own) e) in
    other_board_unchanged h.reader l h.image b o
    (⊎_elim
    (λ (q : (state_after begin xs).place ≡ body b). inl (ap (λ (r : Reader). r.state) e ∙ ap reader_state_of q))
    (λ (q : (state_after begin xs).place ≡ padded b). inr (ap (λ (r : Reader). r.state) e ∙ ap reader_state_of q))
    i)
