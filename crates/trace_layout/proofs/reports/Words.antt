-- Words read and written, as the code has them. Assumes nothing.
use Prim.Native.Nat.{ℕ, ◌+◌, ◌-◌, ◌*◌, ◌≤◌, ◌<◌}
use mathlib.Core.Path.{◌≡◌, refl, ap, ◌∙◌}
use mathlib.Core.List.{List}
use native.Mathlib.Omega.{arith}
use Rattle.std.specs.Prelude.{Option, Some, None, is_some, unwrap_or}
use Rattle.std.specs.Int.{from_bool}
use lib.ListN.{length, get_or}
use borrow.Author.Tests.{lt-ltb, eq-eqb, ne_eqb}
use Rattle.laws.specs.Over.{over}
use Rattle.laws.specs.Rows.{rows}
use Rattle.laws.proofs.BytesLaws.{length_low}
use Rattle.laws.proofs.OverLaws.{length_over, over_whole}
use Rattle.laws.proofs.RowsLaws.{rows_none, length_rows, rows_over}
use Rattle.laws.proofs.TabLaws.{is_tab}
use Rattle.uf2_block.specs.Write.{put_at}
use Rattle.uf2_block.proofs.WriteLaws.{put_over}
use Rattle.trace_counts.specs.declared.Report.{Report}
use Rattle.trace_layout.specs.Reports.{count_at, counts_from, flag_of, missing_number, word_of, word_bytes, report_bytes, report_written}

-- ---- the counts, one after the other

-- the first k counts are there
pub record CountsTo (b c : List ℕ) (k : ℕ) : Type 0 where
  pub long : length c ≡ 16
  pub there : (j : ℕ) → j < k → get_or c j 0 ≡ count_at b j

pub counts_all : (b c : List ℕ) {k : ℕ} → 16 ≤ k → CountsTo b c k → c ≡ counts_from b
unfolding counts_from
counts_all b c {k} l a = is_tab c 16 (count_at b) a.long (λ j h. a.there j (omega arith))

-- ---- a word of a report

-- whether a number is missing, and which, as the code asks
flag_is : (m : Option ℕ) → from_bool (is_some m) ≡ flag_of m
flag_is None = refl
flag_is (Some k) = refl

number_is : (m : Option ℕ) → unwrap_or m 0 ≡ missing_number m
number_is None = refl
number_is (Some k) = refl

module _ (r : Report) where
  pub count_is : (j : ℕ) → j < 16 → get_or r.counts j 0 ≡ word_of r (j + 1)
  unfolding word_of
  count_is j l =
      let e : j + 1 - 1 ≡ j = omega arith in
      rw (ne_eqb (j + 1) 0 (λ e. omega (arith, e)), lt-ltb (j + 1) 17 (omega arith), e)

  -- ---- written

  wide : (k : ℕ) → k < 21 → length (word_bytes r k) ≡ 4
  wide k l = length_low 4 (word_of r k)

  words_none : (b : List ℕ) → b ≡ over b 0 (rows (word_bytes r) 0)
  unfolding over
  words_none b = rw (rows_none (word_bytes r))

  words_long : (b₀ b : List ℕ) (k : ℕ) → length b₀ ≡ 84 → k ≤ 21 → b ≡ over b₀ 0 (rows (word_bytes r) k) → length b ≡ 84
  words_long b₀ b k l h s =
      let long : length (rows (word_bytes r) k) ≡ 4 * k = length_rows 4 21 (word_bytes r) wide k h in
      ap length s ∙ length_over b₀ 0 (rows (word_bytes r) k) (omega arith) ∙ l

  module _ (b₀ : List ℕ) (l₀ : length b₀ ≡ 84) where
    -- one word more
    words_more : (k : ℕ) {at x : ℕ} {b c : List ℕ} → k < 21 → at ≡ 4 * k → b ≡ over b₀ 0 (rows (word_bytes r) k) → x ≡ word_of r k → c ≡ put_at b at x
        → c ≡ over b₀ 0 (rows (word_bytes r) (k + 1))
    words_more k {at} {x} {b} h a s e p =
        let l : length b ≡ 84 = words_long b₀ b k l₀ (omega arith) s in
        p ∙ ap (λ (j : ℕ). put_at b j x) a ∙ put_over b (4 * k) x (omega arith)
        ∙ rw (e, s) (rows_over 4 21 (word_bytes r) wide b₀ k h (omega arith))

    pub words_first : {c : List ℕ} → c ≡ put_at b₀ 0 r.records → c ≡ over b₀ 0 (rows (word_bytes r) 1)
    unfolding word_of
    words_first p = words_more 0 (omega arith) refl (words_none b₀) refl p

    -- count k
    pub words_count : (k : ℕ) {b c : List ℕ} → k < 16 → b ≡ over b₀ 0 (rows (word_bytes r) (k + 1)) → c ≡ put_at b (4 + 4 * k) (get_or r.counts k 0) → c ≡ over b₀ 0 (rows (word_bytes r) (k + 1 + 1))
    words_count k h s p = words_more (k + 1) (omega arith) (omega arith) s (count_is k h) p

    -- the four words after the counts
    pub words_last : {k f n : ℕ} {b c d e g : List ℕ} → k ≡ 16 → b ≡ over b₀ 0 (rows (word_bytes r) (k + 1)) → c ≡ put_at b 68 r.discards → d ≡ put_at c 72 r.marked
        → f ≡ from_bool (is_some r.missing) → e ≡ put_at d 76 f → n ≡ unwrap_or r.missing 0 → g ≡ put_at e 80 n → g ≡ report_written b₀ r
    unfolding word_of report_written report_bytes
    words_last {k} i s pc pd hf pe hn pg =
        let n : k + 1 ≡ 17 = omega arith in
        let sb = s ∙ ap (λ (j : ℕ). over b₀ 0 (rows (word_bytes r) j)) n in
        let sc = words_more 17 (omega arith) refl sb refl pc in
        let sd = words_more 18 (omega arith) refl sc refl pd in
        let se = words_more 19 (omega arith) refl sd (hf ∙ flag_is r.missing) pe in
        let sg = words_more 20 (omega arith) refl se (hn ∙ number_is r.missing) pg in
        let long : length (rows (word_bytes r) 21) ≡ length b₀ = omega (arith, length_rows 4 21 (word_bytes r) wide 21 (omega arith)) in
        sg ∙ rw (eq-eqb (length b₀) 84 l₀) (over_whole b₀ (rows (word_bytes r) 21) long)
