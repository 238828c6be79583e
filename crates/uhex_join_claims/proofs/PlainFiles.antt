-- A text that is read with no refusal is a plain file with a data byte, by its records, and no other text is; and its pieces. Assumes nothing.
use Prim.Native.Nat.{ℕ, ◌≤◌}
use mathlib.Core.Path.{◌≡◌, refl, sym, ap, subst, ◌∙◌}
use mathlib.Core.List.{List, [], ◌∷◌, flatten}
use native.Mathlib.Omega.{arith}
use Rattle.std.specs.Prelude.{Ok, Err}
use lib.Dec.{eqb}
use lib.ListN.{length, length-append}
use borrow.Author.Tests.{eqb-true}
use Rattle.laws.proofs.Tests.{split}
use Rattle.laws.specs.Stores.{Store}
use Rattle.uhex_grammar.specs.declared.Answer.{Answer}
use Rattle.uhex_grammar.specs.declared.Answer.TheVariants.{MissingBoard}
use Rattle.ihex_file.specs.Lines.{glue, lines_of}
use Rattle.uhex_claims.specs.Items.{Item, Says, none, line, size_of}
use Rattle.uhex_claims.proofs.WholefileClaims.{says_one}
use Rattle.ihex_file.specs.Line.{fresh_plain}
use Rattle.ihex_file.specs.File.{Verdict, bad, fine, records_of, lines_verdict, is_some, data_verdict, then_verdict, verdict_of}
use Rattle.ihex_data.specs.Pieces.{split_all, pieces_of}
use Rattle.uhex_join_claims.specs.PlainFile.{PlainFile, data_from, WithData, PlainPieces}
use Rattle.uhex_join_claims.specs.Refusals.{BadText, lines, no_data}
use Rattle.uhex_join_claims.proofs.Pieces.{Pieces}
use Rattle.uhex_join_claims.proofs.PlainRead.{Reading, plain_reading}
use Rattle.uhex_join_claims.proofs.BadLines.{bad_is, first_bad_lem}
use Rattle.uhex_join_claims.proofs.Past.{plain_fine, first_told}
use Rattle.uhex_join_claims.proofs.Cuts.{data_all, split_all_lem, split_some}

lines_flat : (s : List ℕ) → flatten (lines_of s) ≡ s
unfolding lines_of flatten
lines_flat [] = refl
lines_flat (c ∷ s) =
    let e = lines_flat s in
    split (eqb c 10)
    (λ y. rw y (ap (λ (z : List ℕ). 10 ∷ z) e ∙ ap (λ (k : ℕ). k ∷ s) (sym (eqb-true c 10 y))))
    (λ n. rw n (glued c (lines_of s) ∙ ap (λ (z : List ℕ). c ∷ z) e))
  where
    glued : (c : ℕ) (ls : List (List ℕ)) → flatten (glue c ls) ≡ c ∷ flatten ls
    glued c [] = refl
    glued c (l ∷ ls) = refl

pub said_length : {ls : List (List ℕ)} {xs : List Item} → Says ls xs → size_of xs ≡ length (flatten ls)
unfolding size_of flatten
said_length none = refl
said_length (line {l} {ls} rec p t) = omega (arith, said_length t, length-append l (flatten ls))

pub record PartedText (s : List ℕ) : Type 0 where
  pub plain : PlainPieces s (pieces_of s)
  pub pieces : Pieces (pieces_of s)
  pub some : 1 ≤ length (pieces_of s)

then_fine : (v w : Verdict) → then_verdict v w ≡ fine → (v ≡ fine) × (w ≡ fine)
then_fine (Ok u) w e = (refl, e)
then_fine (Err b) w e = absurd (let z : ◌≡◌ {A = ℕ} 0 1 = cc in omega arith)

data_some : (k : ℕ) (ss : List Store) → data_verdict k (is_some ss) ≡ fine → 1 ≤ length (split_all ss)
data_some k [] e = absurd (let z : ◌≡◌ {A = ℕ} 0 1 = cc in omega arith)
data_some k (s ∷ ss) e = split_some s ss

reading_file : (s : List ℕ) (r : Reading fresh_plain (lines_of s)) → PlainFile s r.items
reading_file s r =
    let n : length s ≡ size_of r.items = ap length (sym (lines_flat s)) ∙ sym (said_length r.says) in
    record { says = r.says; records = r.records; short = omega (arith, r.short) }

read_parted : (s : List ℕ) → Reading fresh_plain (lines_of s) → 1 ≤ length (split_all (records_of s)) → PartedText s
unfolding pieces_of records_of
read_parted s r m =
    let c = split_all_lem (data_all r.says r.records 0 (omega arith)) in
    record {
      plain = record { items = r.items; file = reading_file s r; cut = rw r.stores c.0 };
      pieces = rw r.stores c.1;
      some = m;
    }

pub parted : (s : List ℕ) → verdict_of s ≡ fine → PartedText s
unfolding verdict_of
parted s e =
    let f = then_fine (lines_verdict fresh_plain 0 (lines_of s)) (data_verdict (length (lines_of s)) (is_some (records_of s))) e in
    read_parted s (plain_reading (lines_of s) fresh_plain 0 refl f.0) (data_some (length (lines_of s)) (records_of s) f.1)

-- it is plain, with a data byte, and no other is

plain_data : (s : List ℕ) → Reading fresh_plain (lines_of s) → data_verdict (length (lines_of s)) (is_some (records_of s)) ≡ fine → WithData s
unfolding records_of
plain_data s r e =
    record {
      items = r.items;
      file = reading_file s r;
      some = some-data (length (lines_of s)) (data_from 0 r.items) (rw r.stores at e);
    }
  where
    some-data : (k : ℕ) (ss : List Store) → data_verdict k (is_some ss) ≡ fine → 1 ≤ length ss
    some-data k [] e = absurd (let z : ◌≡◌ {A = ℕ} 0 1 = cc in omega arith)
    some-data k (x ∷ ss) e = omega arith

pub fine_data : (s : List ℕ) → verdict_of s ≡ fine → WithData s
unfolding verdict_of
fine_data s e =
    let f = then_fine (lines_verdict fresh_plain 0 (lines_of s)) (data_verdict (length (lines_of s)) (is_some (records_of s))) e in
    plain_data s (plain_reading (lines_of s) fresh_plain 0 refl f.0) f.1

module _ (s : List ℕ) {xs : List Item} (f : PlainFile s xs) where
  file_fine : lines_verdict fresh_plain 0 (lines_of s) ≡ fine
  file_fine =
      let n : length s ≡ size_of xs = ap length (sym (lines_flat s)) ∙ sym (said_length f.says) in
      plain_fine f.says f.records (omega (arith, f.short))

  file_data : records_of s ≡ data_from 0 xs
  unfolding records_of
  file_data =
      let r = plain_reading (lines_of s) fresh_plain 0 refl file_fine in
      r.stores ∙ ap (data_from 0) (says_one r.says f.says)

pub data_fine : (s : List ℕ) → WithData s → verdict_of s ≡ fine
unfolding verdict_of
data_fine s w =
    rw (file_fine s w.file, file_data s w.file) (has-data (length (lines_of s)) (data_from 0 w.items) w.some)
  where
    has-data : (k : ℕ) (ss : List Store) → 1 ≤ length ss → data_verdict k (is_some ss) ≡ fine
    has-data k [] h = absurd (omega arith)
    has-data k (x ∷ ss) h = refl

-- ---- one with a refusal

no_data_bad : (s : List ℕ) (k : ℕ) (x : Answer) → Reading fresh_plain (lines_of s) → data_verdict (length (lines_of s)) (is_some (records_of s)) ≡ bad k x → BadText s k x
unfolding records_of
no_data_bad s k x r e = by-data (data_from 0 r.items) refl (rw r.stores at e)
  where
    by-data : (ss : List Store) → data_from 0 r.items ≡ ss → data_verdict (length (lines_of s)) (is_some ss) ≡ bad k x → BadText s k x
    by-data [] f e =
        let g = bad_is (length (lines_of s)) k MissingBoard x e in
        subst (λ (y : Answer). BadText s k y) g.1 (subst (λ (m : ℕ). BadText s m MissingBoard) g.0 (no_data r.items (reading_file s r) f))
    by-data (y ∷ ss) f e = absurd (let z : ◌≡◌ {A = ℕ} 0 1 = cc in omega arith)

pub bad_text : (s : List ℕ) (k : ℕ) (x : Answer) → verdict_of s ≡ bad k x → BadText s k x
unfolding verdict_of
bad_text s k x e = by_lines (lines_verdict fresh_plain 0 (lines_of s)) refl e
  where
    by_lines : (v : Verdict) → lines_verdict fresh_plain 0 (lines_of s) ≡ v → then_verdict v (data_verdict (length (lines_of s)) (is_some (records_of s))) ≡ bad k x → BadText s k x
    by_lines (Err b) f e = lines (first_bad_lem (lines_of s) k x (f ∙ e))
    by_lines (Ok u) f e = no_data_bad s k x (plain_reading (lines_of s) fresh_plain 0 refl f) e

-- and back: the refusal is told
pub text_told : (s : List ℕ) (k : ℕ) (x : Answer) → BadText s k x → verdict_of s ≡ bad k x
unfolding verdict_of
text_told s k x (lines b) = rw (first_told (lines_of s) k x b)
text_told s k x (no_data xs f e) = rw (file_fine s f, file_data s f, e)
