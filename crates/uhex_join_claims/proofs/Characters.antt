-- The characters of every output. Assumes nothing.
use Prim.Native.Nat.{ℕ, zero, suc, ◌/◌, ◌%◌, ◌<◌}
use mathlib.Core.Path.{◌≡◌, refl, sym, ap, ◌∙◌}
use mathlib.Core.Bool.{not}
use mathlib.Core.List.{List, [], ◌∷◌, ◌++◌}
use native.Mathlib.Omega.{arith}
use lib.Dec.{eqb}
use lib.ListN.{length, get_or}
use borrow.Author.Tests.{eqb-true, not-false}
use Rattle.laws.specs.Sets.{Set, any}
use Rattle.laws.proofs.Laws.{any_all}
use Rattle.ihex_record.specs.Record.{total}
use Rattle.ihex_record.specs.Write.{digit_text, bytes_text, field_bytes, checksum, record_text, record_line, Bytes}
use Rattle.ihex_record.specs.declared.Record.{Record}
use Rattle.std.specs.Prelude.{Ok}
use Rattle.ihex_record.specs.Record.{ParseResult}
use Rattle.uhex_claims.specs.Items.{Item, item_of, item, Says, none, line}
use Rattle.uhex_join_claims.proofs.Written.{Fits, Written, nothing, more}
use Rattle.uhex_join_claims.proofs.Claims.{output, part_a, part_b, lines_there, says_there}
use Rattle.uhex_join_claims.proofs.Whole.{file_written}
use Rattle.uhex_join_claims.specs.Characters.{digits, pairs, sum_of, LineOf, Lines, no_line, next_line, JoinedCharacters}

-- ---- the digits are those of the text

wrong : Set
wrong n = not (eqb (digit_text n) (get_or digits n 0))

digit_is : (n : ℕ) → n < 16 → digit_text n ≡ get_or digits n 0
unfolding wrong any
digit_is n h = eqb-true (digit_text n) (get_or digits n 0) (not-false _ (any_all wrong 16 refl n h))

text_is : (l : List ℕ) → Bytes l → bytes_text l ≡ pairs l
unfolding bytes_text pairs
text_is [] h = refl
text_is (b ∷ l) h =
    let small : b < 256 = h 0 (omega arith) in
    rw (digit_is (b / 16) (omega arith), digit_is (b % 16) (omega arith), text_is l (λ i n. h (suc i) (omega arith)))

sum_is : (l : List ℕ) → total l ≡ sum_of l
unfolding total sum_of
sum_is [] = refl
sum_is (b ∷ l) = rw (sum_is l)

-- ---- a record that is written

bytes_cons : (b : ℕ) (l : List ℕ) → b < 256 → Bytes l → Bytes (b ∷ l)
bytes_cons b l h hs zero n = h
bytes_cons b l h hs (suc i) n = hs i (omega arith)

bytes_append : (l r : List ℕ) → Bytes l → Bytes r → Bytes (l ++ r)
bytes_append [] r h g = g
bytes_append (b ∷ l) r h g = bytes_cons b (l ++ r) (h 0 (omega arith)) (bytes_append l r (λ i n. h (suc i) (omega arith)) g)

line_of : (k a : ℕ) (d : List ℕ) → Fits k a d → LineOf (item k a d) (record_line k a d)
unfolding record_line record_text
line_of k a d f =
    let b : List ℕ = field_bytes k a d in
    let small : Bytes b =
    bytes_cons (length d) (a / 256 ∷ a % 256 ∷ k ∷ d) (omega (arith, f.short))
    (bytes_cons (a / 256) (a % 256 ∷ k ∷ d) (omega (arith, f.address)) (bytes_cons (a % 256) (k ∷ d) (omega arith) (bytes_cons k d f.kind f.bytes))) in
    record {
      check = checksum b;
      byte = omega arith;
      sums = rw (← sum_is b) (omega arith);
      text = ap (λ (t : List ℕ). (58 ∷ t) ++ (10 ∷ [])) (text_is (b ++ (checksum b ∷ [])) (bytes_append b (checksum b ∷ []) small (bytes_cons (checksum b) [] (omega arith) (λ i n. absurd (omega arith)))));
    }

written_lines : {ls : List (List ℕ)} {xs : List Item} → Written ls xs → Lines xs ls
written_lines nothing = no_line
written_lines (more {k} {a} {d} f w) = next_line (line_of k a d f) (written_lines w)

-- ---- what lines say is one list of records

says_one : {ls : List (List ℕ)} {xs ys : List Item} → Says ls xs → Says ls ys → xs ≡ ys
says_one none none = refl
says_one (line {l} {ls} {xs} rec e p) (line rec2 f q) =
    let g : ◌≡◌ {A = ParseResult} (Ok rec) (Ok rec2) = sym e ∙ f in
    let h : rec ≡ rec2 = cc in
    ap (λ (r : Record). item_of l r ∷ xs) h ∙ ap (λ (z : List Item). item_of l rec2 ∷ z) (says_one p q)

pub joined_characters : JoinedCharacters
unfolding JoinedCharacters
joined_characters a b out n e t =
    let o = output a b out n e in
    let w = file_written (part_a a b out n o).pieces (part_b a b out n o).pieces in
    let same = says_one (says_there a b out n o) t.says in
    rw (← same, lines_there a b out n o) (written_lines w)
