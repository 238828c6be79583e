-- Parts read from bytes, and written. Assumes nothing.
use Prim.Native.Nat.{ℕ}
use mathlib.Core.Path.{◌≡◌, sym, ap, ◌∙◌}
use mathlib.Core.Logic.{◌≢◌}
use mathlib.Core.List.{List, ◌++◌, append_assoc}
use native.Mathlib.Omega.{arith}
use lib.ListN.{length, take, length-append}
use lib.Seq.{length-take-le}
use borrow.Author.Tests.{eq-eqb, ne_eqb}
use borrow.Rule.Slice.PartMut.{put_mid}
use Rattle.laws.specs.Over.{over}
use Rattle.laws.proofs.BytesLaws.{length_low}
use Rattle.laws.proofs.OverLaws as overs
use Rattle.laws.proofs.RowsLaws.{length_rows}
use Rattle.uf2_block.specs.Write.{le32, put_at}
use Rattle.uf2_block.proofs.WriteLaws.{put_after}
use Rattle.trace_counts.specs.declared.Report.{Report}
use Rattle.trace_layout.specs.Reports.{word_of, word_bytes, report_bytes, report_written}
use Rattle.trace_parts.specs.declared.Part.{Part}
use Rattle.partapi.specs.Parts.{part_bytes, part_written}

-- ---- written

pub report_long : (r : Report) → length (report_bytes r) ≡ 84
unfolding report_bytes
report_long r = length_rows 4 21 (word_bytes r) (λ k l. length_low 4 (word_of r k)) 21 (omega arith)

pub words_long : (p : Part) → length (part_bytes p) ≡ 96
unfolding part_bytes
words_long p =
    simp (length-append, report_long, length_low)

pub write_other : (b : List ℕ) (p : Part) → length b ≢ 96 → b ≡ part_written b p
unfolding part_written
write_other b p h = rw (ne_eqb (length b) 96 h)

module _ (b : List ℕ) (p : Part) (l : length b ≡ 96) where
  abbrev r : List ℕ
  r = report_bytes p.report

  report_first : {ys : List ℕ} → ys ≡ report_written (take 84 b) p.report → put_mid 0 84 b ys ≡ over b 0 r
  unfolding report_written
  report_first {ys} e =
      let h : length (take 84 b) ≡ 84 = length-take-le 84 b (omega arith) in
      let y : ys ≡ r = e ∙ rw (eq-eqb (length (take 84 b)) 84 h) in
      overs.put_over 0 84 b ys (ap length y ∙ report_long p.report) ∙ ap (over b 0) y

  pub write_all : {ys : List ℕ} → ys ≡ report_written (take 84 b) p.report → put_at (put_at (put_at (put_mid 0 84 b ys) 84 p.traces) 88 p.bad) 92 p.differs ≡ part_written b p
  unfolding part_written part_bytes
  write_all e =
      let t = le32 p.traces in
      let x = le32 p.bad in
      let d = le32 p.differs in
      let n = report_long p.report in
      let n1 : length (r ++ t) ≡ 88 = simp (length-append, n, length_low) in
      let n2 : length ((r ++ t) ++ x) ≡ 92 = simp (length-append, n, length_low) in
      rw (
        report_first e,
        put_after b r 84 p.traces n (omega arith),
        put_after b (r ++ t) 88 p.bad n1 (omega arith),
        put_after b ((r ++ t) ++ x) 92 p.differs n2 (omega arith),
        append_assoc (r ++ t) x d,
        append_assoc r t (x ++ d),
        eq-eqb (length b) 96 l,
      )
      (overs.over_whole b (r ++ (t ++ (x ++ d))) (words_long p ∙ sym l))
