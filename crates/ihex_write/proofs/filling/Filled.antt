-- The filling of a section: one 0C more while more than 64 characters are missing, then the 0B. Assumes nothing.
use Rattle.std.proofs.Common.{◌≡◌, ℕ, zero, suc, ◌+◌, ◌-◌, ◌*◌, ◌/◌, ◌%◌, ◌<◌, ◌≤◌, List, [], ◌∷◌, ◌++◌, length, replicate, sym, refl, ◌∙◌, arith, length-append}
use mathlib.Core.List.{flatten}
use Rattle.std.proofs.lemmas.List.{length-replicate}
use Rattle.ihex_record.specs.Types.{block_end, padded_data}
use Rattle.ihex_write.specs.Put.{put_line, put_lines}
use Rattle.ihex_write.proofs.Line.{length_line}
use Rattle.ihex_write.proofs.Lines.{put_one}
use Rattle.ihex_write.specs.Fill.{pads, pad_line, close_line, fill_lines}

pub fill_more : (m : ℕ) → 64 < m → fill_lines m ≡ pad_line ∷ fill_lines (m - 64)
unfolding fill_lines
fill_more m h =
    let one : pads m ≡ suc (pads (m - 64)) = omega arith in
    let rest : m - 64 * suc (pads (m - 64)) ≡ m - 64 - 64 * pads (m - 64) = omega arith in
    rw (one, rest) refl

pub fill_last : (m : ℕ) → m ≤ 64 → fill_lines m ≡ close_line m ∷ []
unfolding fill_lines
fill_last m h =
    let none : pads m ≡ 0 = omega arith in
    let all : m - 64 * 0 ≡ m = omega arith in
    rw (none, all) refl

-- ---- written

pub put_pad : (o : List ℕ) (at k m : ℕ) {q : List ℕ} {r : List ℕ} → 64 < m - 64 * k → put_lines o (at + 64 * k) (fill_lines (m - 64 * k)) ≡ r
    → q ≡ put_line o (at + 64 * k) pad_line → put_lines q (at + 64 * (k + 1)) (fill_lines (m - 64 * (k + 1))) ≡ r
unfolding put_lines
put_pad o at k m {q} {r} h e p =
    let n : length pad_line ≡ 64 = length_line padded_data 0 (replicate 26 255) in
    let place : at + 64 * (k + 1) ≡ at + 64 * k + length pad_line = omega arith in
    let less : m - 64 * (k + 1) ≡ m - 64 * k - 64 = omega arith in
    let f : put_lines (put_line o (at + 64 * k) pad_line) (at + 64 * k + length pad_line) (fill_lines (m - 64 * k - 64)) ≡ r =
    rw (fill_more (m - 64 * k) h) at e in
    rw (p, place, less) f

pub put_close : (o : List ℕ) (at m : ℕ) {q : List ℕ} {r : List ℕ} → m ≤ 64 → put_lines o at (fill_lines m) ≡ r → q ≡ put_line o at (close_line m) → q ≡ r
put_close o at m h e p = p ∙ sym (put_one o at (close_line m)) ∙ rw (fill_last m h) at e

-- ---- how long it is

length_pads : (n : ℕ) (ls : List (List ℕ)) → length (flatten (replicate n pad_line ++ ls)) ≡ 64 * n + length (flatten ls)
unfolding flatten
length_pads zero ls = omega arith
length_pads (suc n) ls =
    omega (
      arith,
      length-append pad_line (flatten (replicate n pad_line ++ ls)),
      length_line padded_data 0 (replicate 26 255),
      length_pads n ls,
    )

pub length_fill : (m : ℕ) → m % 2 ≡ 0 → length (flatten (fill_lines m)) ≡ 12 + m
unfolding fill_lines flatten
length_fill m e =
    let k = pads m in
    let rest = m - 64 * k in
    let last = close_line rest in
    omega (
      arith,
      length_pads k (last ∷ []),
      length-append last [],
      length_line block_end 0 (replicate (rest / 2) 255),
      length-replicate {A = ℕ} (rest / 2) 255,
    )
