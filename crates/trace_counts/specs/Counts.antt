-- Records counted by their answers (02, L14): a tally, and a report. Assumes nothing.
use Rattle.std.specs.Prelude.{ℕ, zero, suc, ◌+◌, ◌-◌, Bool, cond, not, ◌&&◌, List, [], ◌∷◌, replicate, Option, Some, None, ◌==◌, nat_le, slice_index, slice_set}
use Rattle.laws.specs.Sets.{Set, one, least}
use Rattle.memory.specs.Bitmap.{marked_in}
pub use Rattle.trace_counts.specs.Tally.{recorded_at, number_at, plus, added_at}
unfoldable pub use Rattle.trace_counts.specs.Tally.{raised, tallied, tally_to, added_counts}
use Rattle.transfer.specs.Transfer.{count_of}
use Rattle.transfer.specs.declared.State.{State}
use Rattle.transfer.specs.declared.State.TheVariants as state
use Rattle.trace_counts.specs.declared.Report.{Report}
use Rattle.trace_counts.specs.declared.ReportError.{ReportError}
use Rattle.trace_counts.specs.declared.ReportError.TheVariants.{BadReport, TooMany}

-- ---- a report

-- "a fresh, all-zero report"
abbrev pub fresh_report : Report
fresh_report = record { records = 0; counts = replicate 16 0; discards = 0; marked = 0; missing = None }

-- the sum of the first n counts
unfoldable pub sum_to : ℕ → List ℕ → ℕ
sum_to zero l = 0
sum_to (suc n) l = sum_to n l + slice_index l n

-- what 71 asks: "answer counts don't sum to its records, or with more discards than records" is bad
unfoldable pub good_report : Report → Bool
good_report r = sum_to 16 r.counts == r.records && nat_le r.discards r.records

-- what 70 asks: "Up to 4,294,967,295 records", with the whole pieces of the trace, "replayed or not"
unfoldable pub with_room : Report → ℕ → Bool
with_room r pieces = nat_le (r.records + pieces) 4294967295

-- the numbers of the two: 71 is asked first
abbrev pub error_number : ReportError → ℕ
error_number BadReport = 71
error_number TooMany = 70

-- ---- counts

-- the place of the count of an answer with number n: 1 to 5, then 7 to 17, for 6 is none of ours
abbrev pub slot_of : ℕ → ℕ
slot_of n = cond (nat_le n 5) (n - 1) (n - 2)

-- one record more with that answer
unfoldable pub count_one : List ℕ → ℕ → List ℕ
count_one c n = slice_set c (slot_of n) (slice_index c (slot_of n) + 1)

-- records with the answers of a list
unfoldable pub count_all : List ℕ → List ℕ → List ℕ
count_all c [] = c
count_all c (n ∷ l) = count_all (count_one c n) l

-- how many of a list are yes
unfoldable pub how_many_yes : List Bool → ℕ
how_many_yes [] = 0
how_many_yes (d ∷ l) = one d + how_many_yes l

-- ---- a tally added to a report

-- a report with a tally of n records
unfoldable pub with_tally : Report → List ℕ → ℕ → Report
with_tally r l n =
    record {
      records = plus r.records n;
      counts = added_counts r.counts l 16;
      discards = plus r.discards (slice_index l 32);
      marked = r.marked;
      missing = r.missing;
    }

-- ---- the end

-- number k is not marked
abbrev pub is_missing : List ℕ → Set
is_missing m k = not (marked_in m k)

-- "if Running, the smallest missing number"
abbrev pub missing_at : State → List ℕ → Option ℕ
missing_at state.Idle m = None
missing_at (state.Running r) m = Some (least r.head.total (is_missing m))
missing_at (state.Done g) m = None

-- the report with the end that a transfer and a seen map show
unfoldable pub ended_of : Report → State → List ℕ → Report
ended_of r x m =
    record { records = r.records; counts = r.counts; discards = r.discards; marked = count_of x; missing = missing_at x m }
