-- The position of a bad digit, and how long the lines of answers are. Assumes nothing.
use mathlib.Core.Path.{◌≡◌, refl, sym, ◌∙◌}
use mathlib.Core.List.{List, [], ◌++◌}
use Prim.Native.Nat.{ℕ, ◌+◌, ◌≤◌}
use native.Mathlib.Omega.{arith}
use lib.Dec.{eqb}
use lib.ListN.{length, length-append, take-append-drop}
use borrow.Author.Tests.{eq-eqb, ne_eqb}
use Rattle.laws.specs.Over.{over}
use Rattle.laws.proofs.Tests.{split}
use Rattle.laws.proofs.OverLaws.{over_next, length_over}
use Rattle.uhex_grammar.specs.Answers.{number_of, position_of}
use Rattle.uhex_grammar.specs.declared.Answer.{Answer}
use Rattle.text.specs.Ascii.{ascii}
use Rattle.text.specs.Parts.{end_of, put_part, decimal_of}
use Rattle.text.proofs.Laws.{put_fits, decimal_short}
use Rattle.text.specs.HexAnswer.{position_text, hex_answer_line, failed_text}

over_none : (xs : List ℕ) (at : ℕ) → xs ≡ over xs at []
unfolding over
over_none xs at = let e : at + 0 ≡ at = omega arith in rw e (sym (take-append-drop at xs))

pub position_none : (xs : List ℕ) (at p : ℕ) → p ≡ 0 → (at ≡ at + length (position_text p)) × (xs ≡ over xs at (position_text p))
unfolding position_text
position_none xs at p e = rw (eq-eqb p 0 e) (omega arith, over_none xs at)

pub position_some : (xs : List ℕ) (at p : ℕ) {ys zs : List ℕ} {b e : ℕ} → (p ≡ 0 → ⊥) → at + 30 ≤ length xs
    → (b ≡ end_of xs at (ascii " position ")) × (ys ≡ put_part xs at (ascii " position ")) → (e ≡ end_of ys b (decimal_of p)) × (zs ≡ put_part ys b (decimal_of p))
    → (e ≡ at + length (position_text p)) × (zs ≡ over xs at (position_text p))
unfolding position_text
position_some xs at p {ys} {zs} {b} {e} n h x' y' =
    let x = put_fits xs at (ascii " position ") (omega arith) x' in
    let s : length ys ≡ length xs = rw x.1 (length_over xs at (ascii " position ") (omega arith)) in
    let y = put_fits ys b (decimal_of p) (omega (arith, x.0, s, decimal_short p)) y' in
    rw (ne_eqb p 0 n) (
      y.0 ∙ rw x.0 (simp length-append (omega arith)),
      y.1 ∙ rw (x.1, x.0) (over_next xs at (ascii " position ") (at + 10) (decimal_of p) refl (omega (arith, decimal_short p))),
    )

pub position_short : (p : ℕ) → length (position_text p) ≤ 30
unfolding position_text
position_short p =
    split (eqb p 0) (λ y. rw y (omega arith)) (λ n. rw n (simp length-append (omega (arith, decimal_short p))))

pub hex_answer_short : (index : ℕ) (a : Answer) → length (hex_answer_line index a) ≤ 72
unfolding hex_answer_line
hex_answer_short index a =
    simp length-append (omega (arith, decimal_short index, decimal_short (number_of a), position_short (position_of a)))

pub start_short : (n : ℕ) → length (ascii "state failed " ++ decimal_of n) ≤ 33
start_short n = simp length-append (omega (arith, decimal_short n))

pub text_short : (n p : ℕ) → length (ascii "state failed " ++ decimal_of n ++ position_text p) ≤ 63
text_short n p = simp length-append (omega (arith, decimal_short n, position_short p))

pub failed_short : (a : Answer) → length (failed_text a) ≤ 63
unfolding failed_text
failed_short a = text_short (number_of a) (position_of a)
