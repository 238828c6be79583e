-- What is written is read back, and bytes of another length are a report that 71 refuses. Assumes nothing.
use Prim.Native.Nat.{ℕ, ◌+◌, ◌*◌, ◌≤◌, ◌<◌, ◌^◌}
use mathlib.Core.Path.{◌≡◌, refl, sym, ap, ◌∙◌}
use mathlib.Core.Logic.{◌≢◌}
use mathlib.Core.Bool.{false}
use mathlib.Core.List.{List, ◌++◌}
use native.Mathlib.Omega.{arith}
use Rattle.std.specs.Prelude.{Option, Some, None}
use lib.ListN.{length, get_or, take, drop, take-append-drop}
use lib.Seq.{length-take-le}
use borrow.Author.Tests.{eq-eqb, ne_eqb}
use Rattle.laws.specs.Rows.{rows}
use Rattle.laws.proofs.BytesLaws.{length_low}
use Rattle.laws.proofs.RowsLaws.{length_rows, part_rows}
use Rattle.laws.proofs.TabLaws.{is_tab}
use Rattle.uf2_block.specs.Block.{field_at}
use Rattle.uf2_block.specs.Write.{le32}
use Rattle.uf2_block.proofs.WriteLaws.{field_le32}
use Rattle.trace_counts.specs.declared.Report.{Report}
use Rattle.trace_counts.specs.Counts.{sum_to, good_report}
use Rattle.trace_layout.proofs.reports.Words.{count_is}
use Rattle.trace_layout.specs.Reports.{missing_from, count_at, counts_from, fields_from, report_from, flag_of, missing_number, word_of, word_bytes, report_bytes, report_written}

-- every figure of a report is of 32 bits, and it has 16 counts
pub record Small (r : Report) : Type 0 where
  pub records : r.records < 2 ^ 32
  pub slots : length r.counts ≡ 16
  pub counts : (j : ℕ) → j < 16 → get_or r.counts j 0 < 2 ^ 32
  pub discards : r.discards < 2 ^ 32
  pub marked : r.marked < 2 ^ 32
  pub missing : missing_number r.missing < 2 ^ 32

-- a field whose four bytes are those of x
field_of : (b : List ℕ) (at x : ℕ) → at + 4 ≤ length b → take 4 (drop at b) ≡ le32 x → x < 2 ^ 32 → field_at b at ≡ x
field_of b at x l e h =
    let p = take at b in
    let s = drop 4 (drop at b) in
    let n : length p ≡ at = length-take-le at b (omega arith) in
    let q : b ≡ p ++ (le32 x ++ s) =
    sym (take-append-drop at b)
    ∙ ap (λ (z : List ℕ). p ++ z) (sym (take-append-drop 4 (drop at b)) ∙ ap (λ (z : List ℕ). z ++ s) e) in
    ap (λ (z : List ℕ). field_at z at) q
    ∙ ap (field_at (p ++ (le32 x ++ s))) (sym n)
    ∙ field_le32 p x s h

module _ (r : Report) (c : Small r) where
  wide : (k : ℕ) → k < 21 → length (word_bytes r k) ≡ 4
  wide k l = length_low 4 (word_of r k)

  long : length (report_bytes r) ≡ 84
  unfolding report_bytes
  long = length_rows 4 21 (word_bytes r) wide 21 (omega arith)

  -- word k is read back
  word_back : (k at : ℕ) → at ≡ 4 * k → k < 21 → word_of r k < 2 ^ 32 → field_at (report_bytes r) at ≡ word_of r k
  unfolding report_bytes
  word_back k at e l h =
      rw e
      (field_of (rows (word_bytes r) 21) (4 * k) (word_of r k) (omega (arith, length_rows 4 21 (word_bytes r) wide 21 (omega arith)))
      (part_rows 4 21 (word_bytes r) wide 21 k (omega arith) l) h)

  counts_back : counts_from (report_bytes r) ≡ r.counts
  unfolding counts_from
  counts_back =
      sym (is_tab r.counts 16 (count_at (report_bytes r)) c.slots
      (λ j l. sym (word_back (j + 1) (4 + 4 * j) (omega arith) (omega arith) (rw (← count_is r j l) (c.counts j l)) ∙ sym (count_is r j l))))

  missing_back : (m : Option ℕ) → missing_from (flag_of m) (missing_number m) ≡ m
  missing_back None = refl
  missing_back (Some k) = refl

  flag_low : (m : Option ℕ) → flag_of m < 2 ^ 32
  flag_low None = omega arith
  flag_low (Some k) = omega arith

  -- a report that is written is read back
  pub report_back : report_from (report_bytes r) ≡ r
  unfolding report_from fields_from word_of
  report_back =
      rw (
        eq-eqb (length (report_bytes r)) 84 long,
        word_back 0 0 refl (omega arith) c.records,
        counts_back,
        word_back 17 68 refl (omega arith) c.discards,
        word_back 18 72 refl (omega arith) c.marked,
        word_back 19 76 refl (omega arith) (flag_low r.missing),
        word_back 20 80 refl (omega arith) c.missing,
        missing_back r.missing,
      )

  pub written_back : (b : List ℕ) → length b ≡ 84 → report_from (report_written b r) ≡ r
  unfolding report_written
  written_back b l = rw (eq-eqb (length b) 84 l) report_back

-- bytes of another length are refused, by 71
pub other_refused : (b : List ℕ) → length b ≢ 84 → good_report (report_from b) ≡ false
unfolding report_from good_report sum_to
other_refused b h = rw (ne_eqb (length b) 84 h)
