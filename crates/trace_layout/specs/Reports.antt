-- Reports as bytes: 21 words, each a little-endian field of four bytes (`field_at`). Assumes nothing.
use Rattle.std.specs.Prelude.{ℕ, ◌+◌, ◌-◌, ◌*◌, cond, List, Option, Some, None, ltb, eqb, length, get_or, replicate}
use Rattle.laws.specs.Tab.{tab}
use Rattle.laws.specs.Rows.{rows}
use Rattle.uf2_block.specs.Block.{field_at}
use Rattle.uf2_block.specs.Write.{le32}
use Rattle.trace_counts.specs.declared.Report.{Report}

-- ---- read

-- a flag other than 0 is a number that is missing
abbrev pub missing_from : ℕ → ℕ → Option ℕ
missing_from flag number = cond (eqb flag 0) None (Some number)

-- count k
abbrev pub count_at : List ℕ → ℕ → ℕ
count_at b k = field_at b (4 + 4 * k)

unfoldable pub counts_from : List ℕ → List ℕ
counts_from b = tab 16 (count_at b)

-- 0 records, 4 the counts, 68 discards, 72 marked, 76 whether a number is missing, 80 which
unfoldable pub fields_from : List ℕ → Report
fields_from b =
    record {
      records = field_at b 0;
      counts = counts_from b;
      discards = field_at b 68;
      marked = field_at b 72;
      missing = missing_from (field_at b 76) (field_at b 80);
    }

-- one record that has no count, which 71 refuses (proofs/Back.antt)
abbrev pub no_report : Report
no_report = record { records = 1; counts = replicate 16 0; discards = 0; marked = 0; missing = None }

-- bytes of any other length are no report
unfoldable pub report_from : List ℕ → Report
report_from b = cond (eqb (length b) 84) (fields_from b) no_report

-- ---- written

abbrev pub flag_of : Option ℕ → ℕ
flag_of None = 0
flag_of (Some k) = 1

abbrev pub missing_number : Option ℕ → ℕ
missing_number None = 0
missing_number (Some k) = k

-- word k
unfoldable pub word_of : Report → ℕ → ℕ
word_of r k =
    cond (eqb k 0) r.records
    (cond (ltb k 17) (get_or r.counts (k - 1) 0)
    (cond (eqb k 17) r.discards
    (cond (eqb k 18) r.marked
    (cond (eqb k 19) (flag_of r.missing) (missing_number r.missing)))))

-- its four bytes
abbrev pub word_bytes : Report → ℕ → List ℕ
word_bytes r k = le32 (word_of r k)

unfoldable pub report_bytes : Report → List ℕ
report_bytes r = rows (word_bytes r) 21

-- a report written over bytes, where there are 84
unfoldable pub report_written : List ℕ → Report → List ℕ
report_written b r = cond (eqb (length b) 84) (report_bytes r) b
