-- A plain file that is read with no refusal is one by its records, and what the reading gives is its data. Assumes nothing.
use Prim.Native.Nat.{ℕ, suc, ◌+◌, ◌*◌, ◌≤◌, ◌<◌}
use mathlib.Core.Path.{◌≡◌, refl, sym, ap, subst, ◌∙◌}
use mathlib.Core.Logic.{◌≢◌}
use mathlib.Core.Bool.{true, false, ◌||◌}
use mathlib.Core.List.{List, [], ◌∷◌, ◌++◌}
use native.Mathlib.Omega.{arith}
use Rattle.std.specs.Prelude.{Err}
use lib.Dec.{eqb, ltb}
use lib.ListN.{length}
use borrow.Author.Tests.{eqb-true, eqb-false, ne_eqb, le-leb, lt-leb, le-ltb, ltb-true, ltb-false}
use Rattle.laws.proofs.Tests.{split, clash, and_left, and_right}
use Rattle.laws.specs.Stores.{Store}
use Rattle.ihex_record.specs.Record.{ParseResult, read_of, on_record, word_of as word_at}
use Rattle.ihex_record.specs.declared.Record.{Record}
use Rattle.std.specs.Prelude.{Ok, Err}
use Rattle.uhex_grammar.specs.Answers.{refusal_of}
use Rattle.uhex_grammar.specs.declared.Answer.{Answer}
use Rattle.uhex_grammar.specs.declared.Answer.TheVariants.{FileTooLong}
use Rattle.uhex_claims.specs.Items.{Item, item_of, Says, none, line, size_of, word_of}
use Rattle.uhex_claims.proofs.OneRecord.{len_item, word_item}
use Rattle.ihex_file.specs.declared.Plain.{Plain}
use Rattle.ihex_file.specs.Line.{Reading as TakenReading, passed, is_end, is_segment, is_linear, is_start, plain, moved_by, with_base, data_taken, record_taken, fields_taken, line_taken, taken_of}
use Rattle.ihex_file.specs.File.{bad, fine, goes_on, bad_of, next_of, gives_of, records_from, lines_verdict}
use Rattle.uhex_join_claims.specs.PlainFile.{Records, ending_01, data_00, segment_02, start_03, linear_04, start_05, base_after, data_at, data_from}
use Rattle.uhex_join_claims.specs.Refusals.{PlainType, type_00, type_01, type_02, type_03, type_04, type_05, BadLine, row_36, rows_20_to_25, row_26, row_29}

-- ---- a line

-- one that is taken, before the 01
pub record Went (p : Plain) (l : List ℕ) (t : TakenReading) : Type 0 where
  pub rec : Record
  pub says : (read_of l).parsed ≡ Ok rec
  pub fits : p.offset + length l ≤ 4194304
  pub on : goes_on t ≡ true
  pub unlast : rec.kind ≢ 1
  pub type : PlainType rec.kind (length (item_of l rec).bytes)
  pub inside : rec.kind ≡ 0 → rec.address + length (item_of l rec).bytes ≤ 65536
  pub allowed : (xs : List Item) → Records xs → Records (item_of l rec ∷ xs)
  pub next : next_of p t ≡ plain (p.offset + length l) (base_after p.base (item_of l rec)) false
  pub gives : gives_of l t ≡ data_at p.base (item_of l rec)

-- the 01
pub record Last (p : Plain) (l : List ℕ) (t : TakenReading) : Type 0 where
  pub rec : Record
  pub says : (read_of l).parsed ≡ Ok rec
  pub fits : p.offset + length l ≤ 4194304
  pub on : goes_on t ≡ true
  pub kind : rec.kind ≡ 1
  pub ends : Records (item_of l rec ∷ [])
  pub next : (next_of p t).ended ≡ true
  pub gives : gives_of l t ≡ data_at p.base (item_of l rec)

pub data View (p : Plain) (l : List ℕ) (t : TakenReading) : Type 0 where
  stops : goes_on t ≡ false → BadLine p.offset l (bad_of t) → View p l t
  goes : Went p l t → View p l t
  ends : Last p l t → View p l t

module _ (p : Plain) (l : List ℕ) (unended : p.ended ≡ false) (fits : p.offset + length l ≤ 4194304) where
  module _ (rec : Record) (says : (read_of l).parsed ≡ Ok rec) where
    abbrev x : Item
    x = item_of l rec

    typed : {k n : ℕ} → PlainType k n → rec.kind ≡ k → length x.bytes ≡ n → PlainType rec.kind (length x.bytes)
    typed t e m = rw (e, m) t

    abbrev q : Plain
    q = moved_by p (length l)

    bytes_are : length x.bytes ≡ rec.len
    bytes_are = len_item l rec says

    -- a record that gives nothing
    no_data : rec.kind ≢ 0 → [] ≡ data_at p.base x
    no_data n = rw (ne_eqb rec.kind 0 n)

    -- and one that leaves what the address fields count from
    same_base : rec.kind ≢ 2 → rec.kind ≢ 4 → q ≡ plain (p.offset + length l) (base_after p.base x) false
    same_base n m = rw (ne_eqb rec.kind 2 n, ne_eqb rec.kind 4 m, unended)

    data-view : rec.kind ≡ 0 → View p l (data_taken q rec.address rec.len)
    unfolding data_taken
    data-view k =
        split (ltb 65536 (rec.address + rec.len))
        (λ y. rw y (stops refl (row_29 fits rec says k (ltb-true 65536 (rec.address + rec.len) y))))
        (λ n.
        let m : x.address + length x.bytes ≤ 65536 = omega (arith, bytes_are, ltb-false 65536 (rec.address + rec.len) n) in
        let same = same_base (λ e. omega arith) (λ e. omega arith) in
        rw n
        (split (eqb rec.len 0)
        (λ y.
        let z : length x.bytes < 1 = omega (arith, bytes_are, eqb-true rec.len 0 y) in
        rw y
        (goes
        (record { rec = rec; says = says; fits = fits; on = refl; unlast = λ e. omega arith; type = rw k type_00; inside = λ e. m; allowed = λ xs r. data_00 k m r; next = same; gives = rw (k, lt-leb 1 (length x.bytes) z) })))
        (λ w.
        let z : 1 ≤ length x.bytes = omega (arith, bytes_are, eqb-false rec.len 0 w) in
        rw w
        (goes
        (record { rec = rec; says = says; fits = fits; on = refl; unlast = λ e. omega arith; type = rw k type_00; inside = λ e. m; allowed = λ xs r. data_00 k m r; next = same; gives = rw (k, le-leb 1 (length x.bytes) z) })))))

    -- a record that sets what the address fields count from
    base-view : (k factor : ℕ) → rec.kind ≡ k → 1 < k → rec.len ≡ 2 → (factor * word_of x ≡ base_after p.base x)
        → PlainType k 2 → ((xs : List Item) → Records xs → Records (x ∷ xs)) → View p l (passed (with_base q (factor * word_at (read_of l).«data»)))
    base-view k factor e n m b t r =
        let w : word_at (read_of l).«data» ≡ word_of x = word_item l rec says (omega (arith, bytes_are)) in
        goes
        (record {
          rec = rec;
          says = says;
          fits = fits;
          on = refl;
          unlast = λ f. omega arith;
          type = typed t e (bytes_are ∙ m);
          inside = λ f. absurd (omega arith);
          allowed = r;
          next = rw (w, b, unended);
          gives = no_data (λ f. omega arith);
        })

    untyped : (k n : ℕ) → eqb k 0 ≡ false → is_end k n ≡ false → is_segment k n ≡ false → is_linear k n ≡ false → is_start k n ≡ false → PlainType k n → ⊥
    untyped k n a b c d e type_00 = clash true refl a
    untyped k n a b c d e type_01 = clash true refl b
    untyped k n a b c d e type_02 = clash true refl c
    untyped k n a b c d e type_03 = clash true refl e
    untyped k n a b c d e type_04 = clash true refl d
    untyped k n a b c d e type_05 = clash true refl e

    record-view : View p l (fields_taken q (word_at (read_of l).«data») rec)
    unfolding record_taken
    record-view =
        let k = rec.kind in
        let n = rec.len in
        split (eqb k 0)
        (λ y. rw y (data-view (eqb-true k 0 y)))
        (λ z0.
        rw z0
        (split (is_end k n)
        (λ y.
        let e : k ≡ 1 = eqb-true k 1 (and_left (eqb k 1) (eqb n 0) y) in
        let m : length x.bytes ≡ 0 = bytes_are ∙ eqb-true n 0 (and_right (eqb k 1) (eqb n 0) y) in
        rw y (ends (record { rec = rec; says = says; fits = fits; on = refl; kind = e; ends = ending_01 e m; next = refl; gives = no_data (λ f. omega arith) })))
        (λ z1.
        rw z1
        (split (is_segment k n)
        (λ y.
        let e : k ≡ 2 = eqb-true k 2 (and_left (eqb k 2) (eqb n 2) y) in
        let m : n ≡ 2 = eqb-true n 2 (and_right (eqb k 2) (eqb n 2) y) in
        rw y (base-view 2 16 e (omega arith) m (rw e) type_02 (λ xs r. segment_02 e (bytes_are ∙ m) r)))
        (λ z2.
        rw z2
        (split (is_linear k n)
        (λ y.
        let e : k ≡ 4 = eqb-true k 4 (and_left (eqb k 4) (eqb n 2) y) in
        let m : n ≡ 2 = eqb-true n 2 (and_right (eqb k 4) (eqb n 2) y) in
        rw y (base-view 4 65536 e (omega arith) m (rw e) type_04 (λ xs r. linear_04 e (bytes_are ∙ m) r)))
        (λ z4.
        rw z4
        (split (is_start k n)
        (λ y.
        let m : length x.bytes ≡ 4 = bytes_are ∙ eqb-true n 4 (and_right (eqb k 3 || eqb k 5) (eqb n 4) y) in
        rw y (start-view m (and_left (eqb k 3 || eqb k 5) (eqb n 4) y)))
        (λ zs. rw zs (stops refl (row_26 fits rec says (untyped k n z0 z1 z2 z4 zs))))))))))))
      where
        start-went : (k : ℕ) → rec.kind ≡ k → 2 < k → k ≢ 4 → PlainType rec.kind (length x.bytes) → ((xs : List Item) → Records xs → Records (x ∷ xs)) → View p l (passed q)
        start-went k e a c t r =
            goes
            (record {
              rec = rec;
              says = says;
              fits = fits;
              on = refl;
              unlast = λ f. omega arith;
              type = t;
              inside = λ f. absurd (omega arith);
              allowed = r;
              next = same_base (λ f. omega arith) (λ f. c (sym e ∙ f));
              gives = no_data (λ f. omega arith);
            })

        start-view : length x.bytes ≡ 4 → eqb rec.kind 3 || eqb rec.kind 5 ≡ true → View p l (passed q)
        start-view m y =
            split (eqb rec.kind 3)
            (λ t.
            let e = eqb-true rec.kind 3 t in
            start-went 3 e (omega arith) (λ f. omega arith) (typed type_03 e m) (λ xs r. start_03 e m r))
            (λ f.
            let e : rec.kind ≡ 5 = eqb-true rec.kind 5 (rw f at y) in
            start-went 5 e (omega arith) (λ f. omega arith) (typed type_05 e m) (λ xs r. start_05 e m r))

  unread : (r : ParseResult) → (read_of l).parsed ≡ r → ((rec : Record) → r ≢ Ok rec) → View p l (Err (refusal_of r))
  unread r e n =
      stops refl (subst (λ (z : ParseResult). BadLine p.offset l (refusal_of z)) e (rows_20_to_25 fits (λ rec f. n rec (sym e ∙ f))))

  parsed_view : (r : ParseResult) → (read_of l).parsed ≡ r
      → View p l (on_record (Err (refusal_of r)) (fields_taken (moved_by p (length l)) (word_at (read_of l).«data»)) r)
  parsed_view (Ok rec) e = record-view rec e
  parsed_view (Err x) e = unread (Err x) e (λ rec f. cc)

taken_is : (p : Plain) (l : List ℕ) → p.ended ≡ false → p.offset + length l ≤ 4194304
    → on_record (Err (refusal_of (read_of l).parsed)) (fields_taken (moved_by p (length l)) (word_at (read_of l).«data»)) (read_of l).parsed ≡ taken_of p l
unfolding taken_of line_taken
taken_is p l u m = rw (u, le-ltb 4194304 (p.offset + length l) m)

too_long : (p : Plain) (l : List ℕ) → p.ended ≡ false → ltb 4194304 (p.offset + length l) ≡ true → Err FileTooLong ≡ taken_of p l
unfolding taken_of line_taken
too_long p l u y = rw (u, y)

pub line_view : (p : Plain) (l : List ℕ) → p.ended ≡ false → View p l (taken_of p l)
line_view p l u =
    split (ltb 4194304 (p.offset + length l))
    (λ y. subst (View p l) (too_long p l u y) (stops refl (row_36 (ltb-true 4194304 (p.offset + length l) y))))
    (λ n.
    let m = ltb-false 4194304 (p.offset + length l) n in
    subst (View p l) (taken_is p l u m) (parsed_view p l u m (read_of l).parsed refl))

-- ---- lines

-- what is read of lines with no refusal
pub record Reading (p : Plain) (ls : List (List ℕ)) : Type 0 where
  pub items : List Item
  pub says : Says ls items
  pub records : Records items
  pub stores : records_from p ls ≡ data_from p.base items
  pub short : p.offset + size_of items ≤ 4194304

no_refusal : {A : Type 0} (k : ℕ) (a : Answer) → bad k a ≡ fine → A
no_refusal k a e = absurd (let z : ◌≡◌ {A = ℕ} 0 1 = cc in omega arith)

-- after the 01 there is no line
past_end : (p : Plain) (k : ℕ) (ls : List (List ℕ)) → p.ended ≡ true → lines_verdict p k ls ≡ fine → ls ≡ []
unfolding lines_verdict taken_of line_taken
past_end p k [] u e = refl
past_end p k (l ∷ ls) u e = no_refusal k _ (rw u at e)

went_on_lem : (p : Plain) (l : List ℕ) (ls : List (List ℕ)) (w : Went p l (taken_of p l))
    → Reading (plain (p.offset + length l) (base_after p.base (item_of l w.rec)) false) ls → Reading p (l ∷ ls)
unfolding records_from data_from size_of
went_on_lem p l ls w r =
    record {
      items = item_of l w.rec ∷ r.items;
      says = line w.rec w.says r.says;
      records = w.allowed r.items r.records;
      stores = rw (w.on, w.next, w.gives) (ap (λ (z : List Store). data_at p.base (item_of l w.rec) ++ z) r.stores);
      short = omega (arith, r.short);
    }

last_one : (p : Plain) (l : List ℕ) → Last p l (taken_of p l) → Reading p (l ∷ [])
unfolding records_from data_from size_of
last_one p l w =
    record {
      items = item_of l w.rec ∷ [];
      says = line w.rec w.says none;
      records = w.ends;
      stores = rw (w.on, w.gives);
      short = omega (arith, w.fits);
    }

pub plain_reading : (ls : List (List ℕ)) (p : Plain) (k : ℕ) → p.ended ≡ false → lines_verdict p k ls ≡ fine → Reading p ls
unfolding lines_verdict
plain_reading [] p k u e = no_refusal k _ (rw u at e)
plain_reading (l ∷ ls) p k u e = by-view (line_view p l u) (λ q f. plain_reading ls q (suc k) f)
  where
    by-view : View p l (taken_of p l) → ((q : Plain) → q.ended ≡ false → lines_verdict q (suc k) ls ≡ fine → Reading q ls) → Reading p (l ∷ ls)
    by-view (stops f w) r = no_refusal k _ (rw f at e)
    by-view (goes w) r =
        went_on_lem p l ls w (r (plain (p.offset + length l) (base_after p.base (item_of l w.rec)) false) refl (rw (w.on, w.next) at e))
    by-view (ends w) r =
        let f : lines_verdict (next_of p (taken_of p l)) (suc k) ls ≡ fine = rw w.on at e in
        subst (λ (z : List (List ℕ)). Reading p (l ∷ z)) (sym (past_end (next_of p (taken_of p l)) (suc k) ls w.next f)) (last_one p l w)
