-- And back: what a reading makes of lines that are good so far, of those of a plain file, and of the first bad one. Assumes nothing.
use Prim.Native.Nat.{ℕ, suc, ◌+◌, ◌≤◌}
use mathlib.Core.Path.{◌≡◌, refl, sym, ap, subst, ◌∙◌}
use mathlib.Core.Logic.{◌≢◌}
use mathlib.Core.Bool.{true, false}
use mathlib.Core.List.{List, [], ◌∷◌, ◌++◌, append-nil}
use native.Mathlib.Omega.{arith}
use lib.ListN.{length}
use Rattle.ihex_record.specs.Record.{read_of}
use Rattle.ihex_record.specs.declared.Record.{Record}
use Rattle.std.specs.Prelude.{Ok}
use Rattle.uhex_grammar.specs.declared.Answer.{Answer}
use Rattle.uhex_claims.specs.Items.{Item, item_of, Says, none, line, size_of}
use Rattle.uhex_claims.proofs.OneRecord.{len_item}
use Rattle.ihex_file.specs.declared.Plain.{Plain}
use Rattle.ihex_file.specs.Line.{plain, fresh_plain, line_taken, taken_of}
use Rattle.ihex_file.specs.File.{bad, fine, goes_on, next_of, lines_verdict}
use Rattle.uhex_join_claims.specs.PlainFile.{Records, ending_01, data_00, segment_02, start_03, linear_04, start_05, base_after}
use Rattle.uhex_join_claims.specs.Refusals.{PlainType, type_00, type_01, type_02, type_03, type_04, type_05, Begun, nothing, more, BadLine, row_36, rows_20_to_25, row_26, row_29, BadLines, bad_line, after_the_01, no_01}
use Rattle.uhex_join_claims.proofs.PlainRead.{View, stops, goes, ends, line_view}

-- ---- a line

-- one that says a record of a plain file, within the limit, is not bad
good_line : (size : ℕ) (l : List ℕ) {x : Answer} (rec : Record) → (read_of l).parsed ≡ Ok rec → size + length l ≤ 4194304
    → PlainType rec.kind (length (item_of l rec).bytes) → (rec.kind ≡ 0 → rec.address + length (item_of l rec).bytes ≤ 65536) → BadLine size l x → ⊥
good_line size l rec e m t c (row_36 h) = omega arith
good_line size l rec e m t c (rows_20_to_25 h f) = f rec e
good_line size l rec e m t c (row_26 h r f n) =
    let s : rec ≡ r = cc in
    n (subst (λ (z : Record). PlainType z.kind z.len) s (subst (PlainType rec.kind) (len_item l rec e) t))
good_line size l rec e m t c (row_29 h r f k n) =
    let s : r ≡ rec = cc in
    let i = ap (λ (z : Record). z.kind) s in
    let a = ap (λ (z : Record). z.address) s in
    let b = ap (λ (z : Record). z.len) s in
    omega (arith, c (sym i ∙ k), len_item l rec e)

-- a 00 of any length has its type
not_00 : (l : List ℕ) (q r : Record) → (read_of l).parsed ≡ Ok q → (read_of l).parsed ≡ Ok r → (PlainType q.kind q.len → ⊥) → r.kind ≡ 0 → ⊥
not_00 l q r f g n k =
    let s : r ≡ q = cc in
    let i : q.kind ≡ 0 = ap (λ (z : Record). z.kind) (sym s) ∙ k in
    n (subst (λ (z : ℕ). PlainType z q.len) (sym i) type_00)

-- a bad line fails one row first
bad_one : (size : ℕ) (l : List ℕ) {x y : Answer} → BadLine size l x → BadLine size l y → x ≡ y
bad_one size l (row_36 h) (row_36 k) = refl
bad_one size l (row_36 h) (rows_20_to_25 k g) = absurd (omega arith)
bad_one size l (row_36 h) (row_26 k r g n) = absurd (omega arith)
bad_one size l (row_36 h) (row_29 k r g i n) = absurd (omega arith)
bad_one size l (rows_20_to_25 h f) (row_36 k) = absurd (omega arith)
bad_one size l (rows_20_to_25 h f) (rows_20_to_25 k g) = refl
bad_one size l (rows_20_to_25 h f) (row_26 k r g n) = absurd (f r g)
bad_one size l (rows_20_to_25 h f) (row_29 k r g i n) = absurd (f r g)
bad_one size l (row_26 h q f m) (row_36 k) = absurd (omega arith)
bad_one size l (row_26 h q f m) (rows_20_to_25 k g) = absurd (g q f)
bad_one size l (row_26 h q f m) (row_26 k r g n) = refl
bad_one size l (row_26 h q f m) (row_29 k r g i n) = absurd (not_00 l q r f g m i)
bad_one size l (row_29 h q f i m) (row_36 k) = absurd (omega arith)
bad_one size l (row_29 h q f i m) (rows_20_to_25 k g) = absurd (g q f)
bad_one size l (row_29 h q f i m) (row_26 k r g n) = absurd (not_00 l r q g f n i)
bad_one size l (row_29 h q f i m) (row_29 k r g j n) = refl

-- the first of a plain file's records
record Allowed (x : Item) (xs : List Item) : Type 0 where
  pub type : PlainType x.kind (length x.bytes)
  pub inside : x.kind ≡ 0 → x.address + length x.bytes ≤ 65536
  pub more : x.kind ≢ 1 → Records xs
  pub last : x.kind ≡ 1 → xs ≡ []

another : {x : Item} {xs : List Item} {k : ℕ} → x.kind ≡ k → PlainType x.kind (length x.bytes) → 2 ≤ k → Records xs → Allowed x xs
another e t n r = record { type = t; inside = λ f. absurd (omega arith); more = λ f. r; last = λ f. absurd (omega arith) }

first_allowed : {x : Item} {xs : List Item} → Records (x ∷ xs) → Allowed x xs
first_allowed (ending_01 k n) = record { type = rw (k, n) type_01; inside = λ f. absurd (omega arith); more = λ f. absurd (f k); last = λ f. refl }
first_allowed (data_00 k n r) = record { type = rw k type_00; inside = λ f. n; more = λ f. r; last = λ f. absurd (omega arith) }
first_allowed (segment_02 k n r) = another k (rw (k, n) type_02) (omega arith) r
first_allowed (start_03 k n r) = another k (rw (k, n) type_03) (omega arith) r
first_allowed (linear_04 k n r) = another k (rw (k, n) type_04) (omega arith) r
first_allowed (start_05 k n r) = another k (rw (k, n) type_05) (omega arith) r

no_lines : {ls : List (List ℕ)} {xs : List Item} → Says ls xs → xs ≡ [] → ls ≡ []
no_lines none e = refl
no_lines (line rec p t) e = absurd (let z : ◌≡◌ {A = ℕ} 0 1 = cc in omega arith)

-- what is told of a bad line
bad_told : (p : Plain) (k : ℕ) (l : List ℕ) (ls : List (List ℕ)) (x : Answer) → p.ended ≡ false → BadLine p.offset l x → lines_verdict p k (l ∷ ls) ≡ bad k x
unfolding lines_verdict
bad_told p k l ls x u b = by-view (line_view p l u)
  where
    by-view : View p l (taken_of p l) → lines_verdict p k (l ∷ ls) ≡ bad k x
    by-view (stops f w) = rw f (ap (bad k) (bad_one p.offset l w b))
    by-view (goes w) = absurd (good_line p.offset l w.rec w.says w.fits w.type w.inside b)
    by-view (ends w) = let a = first_allowed w.ends in absurd (good_line p.offset l w.rec w.says w.fits a.type a.inside b)

-- ---- lines

-- lines that are passed over: those after them are read from q on, with their indices
abbrev Past : Plain → ℕ → List (List ℕ) → Plain → Type 0
Past p k ks q = (ls : List (List ℕ)) (n : ℕ) → n ≡ k + length ks → lines_verdict p k (ks ++ ls) ≡ lines_verdict q n ls

past_none : (p : Plain) (k : ℕ) → Past p k [] p
past_none p k ls n e = ap (λ (i : ℕ). lines_verdict p i ls) (omega arith)

past_line : (p : Plain) (k : ℕ) (l : List ℕ) (ks : List (List ℕ)) (q r : Plain) → goes_on (taken_of p l) ≡ true → next_of p (taken_of p l) ≡ q → Past q (suc k) ks r
    → Past p k (l ∷ ks) r
unfolding lines_verdict
past_line p k l ks q r on next z ls n e = rw (on, next) (z ls n (omega arith))

-- lines that are good so far
abbrev BegunPast : Plain → ℕ → List (List ℕ) → ℕ → Type 0
BegunPast p k ks n = (q : Plain) × Past p k ks q × (q.ended ≡ false) × (q.offset ≡ p.offset + n)

begun_past : {ls : List (List ℕ)} {xs : List Item} → Says ls xs → Begun xs → (p : Plain) (k : ℕ) → p.ended ≡ false → p.offset + size_of xs ≤ 4194304
    → BegunPast p k ls (size_of xs)
unfolding size_of
begun_past none nothing p k u m = (p, past_none p k, u, omega arith)
begun_past (line {l} {ls} {xs} rec e t) (more y n c b) p k u m = by-view (line_view p l u) (λ q v i. begun_past t b q (suc k) v i)
  where
    by-view : View p l (taken_of p l) → ((q : Plain) → q.ended ≡ false → q.offset + size_of xs ≤ 4194304 → BegunPast q (suc k) ls (size_of xs))
        → BegunPast p k (l ∷ ls) (length l + size_of xs)
    by-view (stops f w) h = absurd (good_line p.offset l rec e (omega arith) y c w)
    by-view (goes w) h =
        let q = plain (p.offset + length l) (base_after p.base (item_of l w.rec)) false in
        let z = h q refl (omega arith) in
        (z.0, past_line p k l ls q z.0 w.on w.next z.1, z.2, omega (arith, z.3))
    by-view (ends w) h = let s : rec ≡ w.rec = cc in absurd (n (ap (λ (z : Record). z.kind) s ∙ w.kind))

-- those of a plain file
abbrev PlainPast : Plain → ℕ → List (List ℕ) → Type 0
PlainPast p k ks = (q : Plain) × Past p k ks q × (q.ended ≡ true)

plain_past : {ls : List (List ℕ)} {xs : List Item} → Says ls xs → Records xs → (p : Plain) (k : ℕ) → p.ended ≡ false → p.offset + size_of xs ≤ 4194304
    → PlainPast p k ls
unfolding size_of
plain_past none r p k u m = elim r [ ]
plain_past (line {l} {ls} {xs} rec e t) r p k u m = by-view (line_view p l u) (λ q v w i. plain_past t w q (suc k) v i)
  where
    a : Allowed (item_of l rec) xs
    a = first_allowed r

    by-view : View p l (taken_of p l) → ((q : Plain) → q.ended ≡ false → Records xs → q.offset + size_of xs ≤ 4194304 → PlainPast q (suc k) ls)
        → PlainPast p k (l ∷ ls)
    by-view (stops f w) h = absurd (good_line p.offset l rec e (omega arith) a.type a.inside w)
    by-view (goes w) h =
        let s : w.rec ≡ rec = cc in
        let n : rec.kind ≢ 1 = λ f. w.unlast (ap (λ (z : Record). z.kind) s ∙ f) in
        let q = plain (p.offset + length l) (base_after p.base (item_of l w.rec)) false in
        let z = h q refl (a.more n) (omega arith) in
        (z.0, past_line p k l ls q z.0 w.on w.next z.1, z.2)
    by-view (ends w) h =
        let s : rec ≡ w.rec = cc in
        let n : ls ≡ [] = no_lines t (a.last (ap (λ (z : Record). z.kind) s ∙ w.kind)) in
        let q = next_of p (taken_of p l) in
        (q, past_line p k l ls q q w.on refl (rw n (past_none q (suc k))), w.next)

pub plain_fine : {ls : List (List ℕ)} {xs : List Item} → Says ls xs → Records xs → size_of xs ≤ 4194304 → lines_verdict fresh_plain 0 ls ≡ fine
unfolding lines_verdict
plain_fine {ls} s r m =
    let z = plain_past s r fresh_plain 0 refl (omega arith) in
    ap (lines_verdict fresh_plain 0) (sym (append-nil ls)) ∙ z.1 [] (length ls) (omega arith) ∙ rw z.2

-- what is told of lines with a bad one
pub first_told : (ls : List (List ℕ)) (j : ℕ) (x : Answer) → BadLines ls j x → lines_verdict fresh_plain 0 ls ≡ bad j x
unfolding lines_verdict taken_of line_taken
first_told ls j x (bad_line ks l rest xs e s b m w) =
    let z = begun_past s b fresh_plain 0 refl (omega arith) in
    let o : z.0.offset ≡ size_of xs = omega (arith, z.3) in
    ap (lines_verdict fresh_plain 0) e
    ∙ z.1 (l ∷ rest) (length ks) (omega arith)
    ∙ bad_told z.0 (length ks) l rest x z.2 (subst (λ (n : ℕ). BadLine n l x) (sym o) w)
first_told ls j x (after_the_01 ks l rest xs e s r m) =
    let z = plain_past s r fresh_plain 0 refl (omega arith) in
    ap (lines_verdict fresh_plain 0) e ∙ z.1 (l ∷ rest) (length ks) (omega arith) ∙ rw z.2
first_told ls j x (no_01 xs s b m) =
    let z = begun_past s b fresh_plain 0 refl (omega arith) in
    ap (lines_verdict fresh_plain 0) (sym (append-nil ls)) ∙ z.1 [] (length ls) (omega arith) ∙ rw z.2
