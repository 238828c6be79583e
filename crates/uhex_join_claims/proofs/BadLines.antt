-- A plain file's refusal names its first bad line, and the first row that the line fails. Assumes nothing.
use Prim.Native.Nat.{ℕ, suc, ◌+◌, ◌≤◌}
use mathlib.Core.Path.{◌≡◌, refl, sym, ap, subst, ◌∙◌}
use mathlib.Core.Logic.{◌≢◌}
use mathlib.Core.Bool.{true, false}
use mathlib.Core.List.{List, [], ◌∷◌, ◌++◌, append_assoc, append-nil}
use native.Mathlib.Omega.{arith}
use lib.ListN.{length, length-append}
use Rattle.uhex_grammar.specs.declared.Answer.{Answer}
use Rattle.uhex_grammar.specs.declared.Answer.TheVariants.{OutOfPlace, AfterEnd}
use Rattle.uhex_claims.specs.Items.{Item, item_of, Says, none, line, size_of}
use Rattle.uhex_claims.proofs.Runs.{size_append}
use Rattle.uhex_claims.proofs.WholefileClaims.{says_append}
use Rattle.ihex_file.specs.declared.Plain.{Plain}
use Rattle.ihex_file.specs.Line.{plain, fresh_plain, line_taken, taken_of}
use Rattle.ihex_file.specs.declared.BadLine.{BadLine as Told}
use Rattle.ihex_file.specs.File.{bad, fine, bad_of, next_of, lines_verdict}
use Rattle.uhex_join_claims.specs.PlainFile.{Records, base_after}
use Rattle.uhex_join_claims.specs.Refusals.{PlainType, Begun, nothing, more, BadLine, BadLines, bad_line, after_the_01, no_01}
use Rattle.uhex_join_claims.proofs.PlainRead.{Went, Last, View, stops, goes, ends, line_view}

begun_append : {xs : List Item} (x : Item) → PlainType x.kind (length x.bytes) → x.kind ≢ 1 → (x.kind ≡ 0 → x.address + length x.bytes ≤ 65536)
    → Begun xs → Begun (xs ++ (x ∷ []))
begun_append x t n c nothing = more t n c nothing
begun_append x t n c (more a b d r) = more a b d (begun_append x t n c r)

-- what was read before the lines that are left
record Before (p : Plain) (ks : List (List ℕ)) : Type 0 where
  pub items : List Item
  pub says : Says ks items
  pub begun : Begun items
  pub extends : (ys : List Item) → Records ys → Records (items ++ ys)
  pub size : size_of items ≡ p.offset
  pub short : size_of items ≤ 4194304

none_before : (p : Plain) → p.offset ≡ 0 → Before p []
unfolding size_of
none_before p e = record { items = []; says = none; begun = nothing; extends = λ ys r. r; size = sym e; short = omega arith }

size_one : (xs : List Item) (x : Item) → size_of (xs ++ (x ∷ [])) ≡ size_of xs + x.size
unfolding size_of
size_one xs x = size_append xs (x ∷ []) ∙ omega arith

one_more : (p : Plain) (ks : List (List ℕ)) (l : List ℕ) → Before p ks → (w : Went p l (taken_of p l))
    → Before (plain (p.offset + length l) (base_after p.base (item_of l w.rec)) false) (ks ++ (l ∷ []))
one_more p ks l b w =
    let x = item_of l w.rec in
    let xs = b.items in
    record {
      items = xs ++ (x ∷ []);
      says = says_append b.says (line w.rec w.says none);
      begun = begun_append x w.type w.unlast w.inside b.begun;
      extends = λ ys r. subst Records (sym (append_assoc xs (x ∷ []) ys)) (b.extends (x ∷ ys) (w.allowed ys r));
      size = omega (arith, size_one xs x, b.size);
      short = omega (arith, size_one xs x, b.size, w.fits);
    }

pub bad_is : (k j : ℕ) (x y : Answer) → bad k x ≡ bad j y → (k ≡ j) × (x ≡ y)
bad_is k j x y e =
    let s : ◌≡◌ {A = Told} (record { line = k; answer = x }) (record { line = j; answer = y }) = cc in
    (ap (λ (b : Told). b.line) s, ap (λ (b : Told). b.answer) s)

not_bad : {A : Type 0} (j : ℕ) (x : Answer) → fine ≡ bad j x → A
not_bad j x e = absurd (let z : ◌≡◌ {A = ℕ} 0 1 = cc in omega arith)

-- a line after the 01
past_end : (p : Plain) (k j : ℕ) (x : Answer) (ks ls : List (List ℕ)) (xs : List Item) → p.ended ≡ true → Says ks xs → Records xs → size_of xs ≤ 4194304 → k ≡ length ks
    → lines_verdict p k ls ≡ bad j x → BadLines (ks ++ ls) j x
unfolding lines_verdict taken_of line_taken
past_end p k j x ks [] xs u s r m n e = not_bad j x (rw u at e)
past_end p k j x ks (l ∷ ls) xs u s r m n e =
    let f = bad_is k j AfterEnd x (rw u at e) in
    subst (λ (y : Answer). BadLines (ks ++ (l ∷ ls)) j y) f.1
    (subst (λ (i : ℕ). BadLines (ks ++ (l ∷ ls)) i AfterEnd) (sym n ∙ f.0) (after_the_01 ks l ls xs refl s r (omega arith)))

bad_lines : (ls : List (List ℕ)) (p : Plain) (k j : ℕ) (x : Answer) (ks : List (List ℕ)) → p.ended ≡ false → Before p ks → k ≡ length ks
    → lines_verdict p k ls ≡ bad j x → BadLines (ks ++ ls) j x
unfolding lines_verdict
bad_lines [] p k j x ks u b n e =
    let f = bad_is k j OutOfPlace x (rw u at e) in
    subst (λ (y : Answer). BadLines (ks ++ []) j y) f.1
    (subst (λ (m : ℕ). BadLines (ks ++ []) m OutOfPlace) (sym n ∙ f.0)
    (subst (λ (z : List (List ℕ)). BadLines z (length ks) OutOfPlace) (sym (append-nil ks)) (no_01 b.items b.says b.begun (omega (arith, b.short)))))
bad_lines (l ∷ ls) p k j x ks u b n e = by-view (line_view p l u) (λ q m v w i. bad_lines ls q (suc k) j x m v w i)
  where
    longer : suc k ≡ length (ks ++ (l ∷ []))
    longer = omega (arith, length-append ks (l ∷ []))

    ended-short : (w : Last p l (taken_of p l)) → size_of (b.items ++ (item_of l w.rec ∷ [])) ≤ 4194304
    ended-short w = omega (arith, size_one b.items (item_of l w.rec), b.size, w.fits)

    by-view : View p l (taken_of p l)
        → ((q : Plain) (m : List (List ℕ)) → q.ended ≡ false → Before q m → suc k ≡ length m → lines_verdict q (suc k) ls ≡ bad j x → BadLines (m ++ ls) j x)
        → BadLines (ks ++ (l ∷ ls)) j x
    by-view (stops f w) r =
        let g = bad_is k j (bad_of (taken_of p l)) x (rw f at e) in
        subst (λ (y : Answer). BadLines (ks ++ (l ∷ ls)) j y) g.1
        (subst (λ (m : ℕ). BadLines (ks ++ (l ∷ ls)) m (bad_of (taken_of p l))) (sym n ∙ g.0)
        (bad_line ks l ls b.items refl b.says b.begun (omega (arith, b.short)) (subst (λ (m : ℕ). BadLine m l (bad_of (taken_of p l))) (sym b.size) w)))
    by-view (goes w) r =
        let q = plain (p.offset + length l) (base_after p.base (item_of l w.rec)) false in
        subst (λ (z : List (List ℕ)). BadLines z j x) (append_assoc ks (l ∷ []) ls)
        (r q (ks ++ (l ∷ [])) refl (one_more p ks l b w) longer (rw (w.on, w.next) at e))
    by-view (ends w) r =
        let y = item_of l w.rec in
        subst (λ (z : List (List ℕ)). BadLines z j x) (append_assoc ks (l ∷ []) ls)
        (past_end (next_of p (taken_of p l)) (suc k) j x (ks ++ (l ∷ [])) ls (b.items ++ (y ∷ [])) w.next (says_append b.says (line w.rec w.says none))
        (b.extends (y ∷ []) w.ends) (ended-short w) longer (rw w.on at e))

pub first_bad_lem : (ls : List (List ℕ)) (j : ℕ) (x : Answer) → lines_verdict fresh_plain 0 ls ≡ bad j x → BadLines ls j x
first_bad_lem ls j x e = bad_lines ls fresh_plain 0 j x [] refl (none_before fresh_plain refl) refl e
