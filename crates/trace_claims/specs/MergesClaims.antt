-- What is claimed of merged parts, whatever the traces, their settings and their buffers. proofs/ proves each claim, in lower case. Assumes nothing.
use Rattle.std.specs.Prelude.{ℕ, ◌+◌, ◌/◌, ◌≤◌, ◌≡◌, List, [], ◌∷◌, ◌++◌, Bool, true, false, Option, Some, None, Result, Ok, Err, length}
use Rattle.laws.specs.Sets.{one}
use Rattle.trace_piece.specs.declared.Stop.{Stop}
use Rattle.trace_piece.specs.declared.Stop.TheVariants as stop
use Rattle.trace_replay.specs.Replay.{replay_of}
use Rattle.trace_layout.specs.Kept.{figures_result}
use Rattle.trace_counts.specs.Counts.{fresh_report}
use Rattle.trace_counts.specs.declared.Report.{Report}
use Rattle.trace_report.specs.Report.{figures_number}
use Rattle.trace_claims.specs.Claims.{Job, done_by, add_all}
use Rattle.trace_parts.specs.declared.Part.{Part}
use Rattle.trace_counts.specs.declared.ReportError.{ReportError}
use Rattle.trace_parts.specs.Merging.{fresh_part, good_part, merge_number, one_of, merge_of}

-- ---- the part of a list of traces

-- where the replay of a trace stops (02, L10)
abbrev pub stop_in : Job → Option Stop
stop_in j = (replay_of j.settings j.lent j.trace).stop

abbrev pub stops_bad : Option Stop → Bool
stops_bad None = false
stops_bad (Some (stop.Bad i)) = true
stops_bad (Some (stop.Differs i)) = false

abbrev pub stops_differing : Option Stop → Bool
stops_differing None = false
stops_differing (Some (stop.Bad i)) = false
stops_differing (Some (stop.Differs i)) = true

-- how many traces pass a test of their stop
unfoldable pub how_many_stop : (Option Stop → Bool) → List Job → ℕ
how_many_stop f [] = 0
how_many_stop f (j ∷ l) = one (f (stop_in j)) + how_many_stop f l

-- L14's report over them, from fresh; how many there are; and how many stop as "bad" and as "differs"
abbrev pub part_of : List Job → Part
part_of l = record { report = add_all fresh_report l; traces = length l; bad = how_many_stop stops_bad l; differs = how_many_stop stops_differing l }

-- no call refuses its trace
unfoldable pub EachReplayed : Report → List Job → Type 0
EachReplayed r [] = 0 ≤ 0
EachReplayed r (j ∷ l) = (figures_number (done_by r j).answer ≡ 0) × EachReplayed (done_by r j).report l

-- all whole pieces of 513 bytes
unfoldable pub pieces_in : List Job → ℕ
pieces_in [] = 0
pieces_in (j ∷ l) = length j.trace / 513 + pieces_in l

-- so few pieces that no call can refuse
unfoldable pub FewPiecesAreReplayed : Type 0
FewPiecesAreReplayed = (l : List Job) → pieces_in l ≤ 4294967295 → EachReplayed fresh_report l

-- ---- a part is made of what L14's call leaves and answers of one trace

-- from a fresh report; `figures_result` is the number that the call returns
unfoldable pub OneIsTheList : Type 0
OneIsTheList =
    (j : Job) → EachReplayed fresh_report (j ∷ [])
    → one_of (done_by fresh_report j).report (figures_result (done_by fresh_report j).answer) ≡ Ok (part_of (j ∷ []))

-- ---- the merge of two parts is the part of the traces of both, one list after the other

unfoldable pub MergeIsTheList : Type 0
MergeIsTheList =
    (l m : List Job) → EachReplayed fresh_report (l ++ m) → length (l ++ m) ≤ 4294967295
    → merge_of (part_of l) (part_of m) ≡ Ok (part_of (l ++ m))

-- ---- any engine: lists of traces that are merged two at a time, in whatever way, the earlier ones first

pub data Plan : Type 0 where
  shard : List Job → Plan
  pair : Plan → Plan → Plan

unfoldable pub traces_of : Plan → List Job
traces_of (shard l) = l
traces_of (pair p q) = traces_of p ++ traces_of q

-- a refusal of either is the whole's
unfoldable pub merge_both : Result Part ReportError → Result Part ReportError → Result Part ReportError
merge_both (Err e) b = Err e
merge_both (Ok p) (Err e) = Err e
merge_both (Ok p) (Ok q) = merge_of p q

unfoldable pub run_plan : Plan → Result Part ReportError
run_plan (shard l) = Ok (part_of l)
run_plan (pair p q) = merge_both (run_plan p) (run_plan q)

unfoldable pub AnyPlanIsTheList : Type 0
AnyPlanIsTheList =
    (p : Plan) → EachReplayed fresh_report (traces_of p) → length (traces_of p) ≤ 4294967295
    → run_plan p ≡ Ok (part_of (traces_of p))

-- ---- laws of the merge itself

-- a part as 32 bits hold it, good, with 16 counts
pub record Whole (p : Part) : Type 0 where
  pub slots : length p.report.counts ≡ 16
  pub good : good_part p ≡ true
  pub records : p.report.records ≤ 4294967295
  pub traces : p.traces ≤ 4294967295

unfoldable pub FreshIsNeutral : Type 0
FreshIsNeutral = (p : Part) → Whole p → (merge_of p fresh_part ≡ Ok p) × (merge_of fresh_part p ≡ Ok p)

-- three parts, whichever two are merged first: the same answer, and where it is not a refusal the same part
unfoldable pub MergesAssociate : Type 0
MergesAssociate =
    (a b c : Part) → Whole a → Whole b → Whole c
    → let x = merge_both (merge_of a b) (Ok c) in
    let y = merge_both (Ok a) (merge_of b c) in
    (merge_number x ≡ merge_number y) × (merge_number x ≡ 0 → x ≡ y)

-- ---- the 84 bytes of a report alone cannot be merged

-- whoever merges reports alone, with no word of how many traces they are over, is wrong about some lists: if any trace ends with a number marked
unfoldable pub ReportsAloneCannot : Type 0
ReportsAloneCannot =
    (f : Report → Report → Report) → ((l m : List Job) → EachReplayed fresh_report (l ++ m) → f (add_all fresh_report l) (add_all fresh_report m) ≡ add_all fresh_report (l ++ m))
    → (j : Job) → length j.trace / 513 ≤ 4294967295 → (add_all fresh_report (j ∷ [])).marked ≡ 0
