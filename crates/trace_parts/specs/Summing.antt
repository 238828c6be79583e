-- Two parts as one, as the code sums: in 32 bits. Assumes nothing.
use Rattle.std.specs.Prelude.{ℕ, zero, suc, cond, List, eqb, get_or, set}
use Rattle.trace_parts.specs.declared.Part.{Part}
pub use Rattle.trace_counts.specs.Tally.{plus}

-- at the first k places, and else as they were
unfoldable pub summed_to : List ℕ → List ℕ → ℕ → List ℕ
summed_to a b zero = a
summed_to a b (suc k) = set (summed_to a b k) k (plus (get_or a k 0) (get_or b k 0))

-- the later one, if there are traces
abbrev pub last_of : {A : Type 0} → ℕ → A → A → A
last_of traces earlier later = cond (eqb traces 0) earlier later

unfoldable pub joined_by : Part → Part → Part
joined_by a b =
    record {
      report = record {
        records = plus a.report.records b.report.records;
        counts = summed_to a.report.counts b.report.counts 16;
        discards = plus a.report.discards b.report.discards;
        marked = last_of b.traces a.report.marked b.report.marked;
        missing = last_of b.traces a.report.missing b.report.missing;
      };
      traces = plus a.traces b.traces;
      bad = plus a.bad b.bad;
      differs = plus a.differs b.differs;
    }
