-- Parts as bytes: a report's 21 words, then the traces and how many stopped as "bad" and as "differs". Assumes nothing.
use Rattle.std.specs.Prelude.{ℕ, cond, List, [], ◌++◌, eqb, length, take}
use Rattle.uf2_block.specs.Block.{field_at}
use Rattle.uf2_block.specs.Write.{le32}
use Rattle.trace_counts.specs.declared.Report.{Report}
use Rattle.trace_layout.specs.Reports.{report_from, report_bytes}
use Rattle.trace_parts.specs.declared.Part.{Part}

-- ---- read

abbrev pub part_with : Report → ℕ → ℕ → ℕ → Part
part_with r n b d = record { report = r; traces = n; bad = b; differs = d }

-- no bytes are no report, which 71 refuses
abbrev pub no_part : Part
no_part = part_with (report_from []) 0 0 0

-- 0 the report, 84 traces, 88 "bad", 92 "differs"; bytes of any other length are no part
unfoldable pub part_from : List ℕ → Part
part_from b = cond (eqb (length b) 96) (part_with (report_from (take 84 b)) (field_at b 84) (field_at b 88) (field_at b 92)) no_part

-- ---- written

unfoldable pub part_bytes : Part → List ℕ
part_bytes p = report_bytes p.report ++ (le32 p.traces ++ (le32 p.bad ++ le32 p.differs))

-- a part written over bytes, where there are 96
unfoldable pub part_written : List ℕ → Part → List ℕ
part_written b p = cond (eqb (length b) 96) (part_bytes p) b
