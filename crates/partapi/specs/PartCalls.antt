-- What the calls for parts answer and leave. Assumes nothing.
use Rattle.std.specs.Prelude.{ℕ, cond, List, Result, Ok, Err, eqb, length}
use Rattle.trace_layout.specs.Reports.{report_from}
use Rattle.trace_parts.specs.declared.Part.{Part}
use Rattle.trace_counts.specs.declared.ReportError.{ReportError}
use Rattle.trace_parts.specs.Merging.{merge_number, one_of, merge_of}
use Rattle.partapi.specs.Parts.{part_from, part_written}

-- what is returned, and what the part's bytes hold
pub record PartCall : Type 0 where
  pub result : ℕ
  pub part : List ℕ

-- both as one value, which the contracts name
abbrev pub part_call : ℕ → List ℕ → PartCall
part_call n b = record { result = n; part = b }

-- a refusal leaves the bytes
unfoldable pub kept_part : List ℕ → Result Part ReportError → List ℕ
kept_part b (Ok p) = part_written b p
kept_part b (Err e) = b

-- what is told of an outcome
unfoldable pub told_of : List ℕ → Result Part ReportError → PartCall
told_of b o = part_call (merge_number o) (kept_part b o)

-- the part of one trace: 71 too where the part has not 96 bytes
unfoldable pub one_call : List ℕ → ℕ → List ℕ → PartCall
one_call r stop b = cond (eqb (length b) 96) (told_of b (one_of (report_from r) stop)) (part_call 71 b)

-- two parts as one, in the bytes of the first
unfoldable pub merge_call : List ℕ → List ℕ → PartCall
merge_call b l = told_of b (merge_of (part_from b) (part_from l))
