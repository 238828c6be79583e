-- What is written is read back, and bytes of another length are a part that 71 refuses. Assumes nothing.
use Prim.Native.Nat.{ℕ, ◌<◌, ◌^◌}
use mathlib.Core.Path.{◌≡◌, sym, ap, ◌∙◌}
use mathlib.Core.Logic.{◌≢◌}
use mathlib.Core.Bool.{false}
use mathlib.Core.List.{List, [], ◌++◌, append_assoc, append-nil}
use native.Mathlib.Omega.{arith}
use lib.ListN.{length, take, length-append}
use lib.Seq.{take_at}
use borrow.Author.Tests.{eq-eqb, ne_eqb}
use Rattle.laws.proofs.BytesLaws.{length_low}
use Rattle.uf2_block.specs.Block.{field_at}
use Rattle.uf2_block.specs.Write.{le32}
use Rattle.uf2_block.proofs.WriteLaws.{field_le32}
use Rattle.trace_layout.specs.Reports.{report_bytes}
use Rattle.trace_layout.proofs.reports.Back.{Small, report_back, other_refused}
use Rattle.trace_parts.specs.declared.Part.{Part}
use Rattle.trace_parts.specs.Merging.{good_part}
use Rattle.partapi.specs.Parts.{part_from, part_bytes, part_written}
use Rattle.partapi.proofs.parts.Laws.{report_long, words_long}

-- every figure of a part is of 32 bits
pub record SmallPart (p : Part) : Type 0 where
  pub report : Small p.report
  pub traces : p.traces < 2 ^ 32
  pub bad : p.bad < 2 ^ 32
  pub differs : p.differs < 2 ^ 32

module _ (p : Part) (c : SmallPart p) where
  abbrev r : List ℕ
  r = report_bytes p.report

  abbrev t : List ℕ
  t = le32 p.traces

  abbrev x : List ℕ
  x = le32 p.bad

  abbrev d : List ℕ
  d = le32 p.differs

  traces_back : field_at (r ++ (t ++ (x ++ d))) 84 ≡ p.traces
  traces_back = ap (field_at (r ++ (t ++ (x ++ d)))) (sym (report_long p.report)) ∙ field_le32 r p.traces (x ++ d) c.traces

  bad_back : field_at (r ++ (t ++ (x ++ d))) 88 ≡ p.bad
  bad_back =
      let n : 88 ≡ length (r ++ t) = sym (simp (length-append, report_long p.report, length_low)) in
      ap (field_at (r ++ (t ++ (x ++ d)))) n
      ∙ ap (λ (b : List ℕ). field_at b (length (r ++ t))) (sym (append_assoc r t (x ++ d)))
      ∙ field_le32 (r ++ t) p.bad d c.bad

  differs_back : field_at (r ++ (t ++ (x ++ d))) 92 ≡ p.differs
  differs_back =
      let q = (r ++ t) ++ x in
      let n : 92 ≡ length q = sym (simp (length-append, report_long p.report, length_low)) in
      let e : r ++ (t ++ (x ++ d)) ≡ q ++ (d ++ []) =
      sym (append_assoc r t (x ++ d)) ∙ sym (append_assoc (r ++ t) x d) ∙ ap (λ (z : List ℕ). q ++ z) (sym (append-nil d)) in
      ap (field_at (r ++ (t ++ (x ++ d)))) n
      ∙ ap (λ (b : List ℕ). field_at b (length q)) e
      ∙ field_le32 q p.differs [] c.differs

  -- a part that is written is read back
  pub part_back : part_from (part_bytes p) ≡ p
  unfolding part_from part_bytes
  part_back =
      let n = report_long p.report in
      let h : take 84 (r ++ (t ++ (x ++ d))) ≡ r = take_at r (t ++ (x ++ d)) 84 n in
      rw (eq-eqb (length (r ++ (t ++ (x ++ d)))) 96 (words_long p), h, report_back p.report c.report, traces_back, bad_back, differs_back)

  pub written_back : (b : List ℕ) → length b ≡ 96 → part_from (part_written b p) ≡ p
  unfolding part_written
  written_back b l = rw (eq-eqb (length b) 96 l) part_back

-- bytes of another length are refused, by 71
pub other_length : (b : List ℕ) → length b ≢ 96 → good_part (part_from b) ≡ false
unfolding part_from good_part
other_length b h = rw (ne_eqb (length b) 96 h, other_refused [] (λ e. omega (arith, e)))
