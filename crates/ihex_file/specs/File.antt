-- A plain Intel Hex file: its data, and the refusal of its first bad line (02, L11). Assumes nothing.
use Rattle.std.specs.Prelude.{ℕ, suc, Bool, true, false, cond, List, [], ◌∷◌, ◌++◌, length, take, Option, Some, None, Result, Ok, Err}
use Rattle.laws.specs.Stores.{Store}
use Rattle.ihex_file.specs.Lines.{lines_of}
use Rattle.ihex_record.specs.Record.{read_of}
use Rattle.uhex_grammar.specs.Answers.{number_of}
use Rattle.uhex_grammar.specs.declared.Answer.{Answer}
use Rattle.uhex_grammar.specs.declared.Answer.TheVariants.{OutOfPlace, MissingBoard}
use Rattle.ihex_file.specs.declared.Plain.{Plain}
use Rattle.ihex_file.specs.declared.Data.{Data}
use Rattle.ihex_file.specs.declared.BadLine.{BadLine}
use Rattle.ihex_file.specs.Line.{Reading, fresh_plain, taken_of}

-- ---- a line that is taken, or refused

abbrev pub goes_on : Reading → Bool
goes_on (Err a) = false
goes_on (Ok t) = true

-- the reading after it; a refused line leaves p
abbrev pub next_of : Plain → Reading → Plain
next_of p (Err a) = p
next_of p (Ok t) = t.plain

-- a refused line's answer; of another line nothing asks for it
abbrev pub bad_of : Reading → Answer
bad_of (Err a) = a
bad_of (Ok t) = OutOfPlace

-- the data of a line
abbrev pub given_of : List ℕ → Option Data → List Store
given_of l None = []
given_of l (Some d) = record { address = d.address; bytes = take d.len (read_of l).«data» } ∷ []

-- the data record that a line says
abbrev pub gives_of : List ℕ → Reading → List Store
gives_of l (Err a) = []
gives_of l (Ok t) = given_of l t.given

-- ---- the data: "Non-empty data records keep their order and bytes"

-- of the lines before the first bad one
unfoldable pub records_from : Plain → List (List ℕ) → List Store
records_from p [] = []
records_from p (l ∷ ls) =
    cond (goes_on (taken_of p l)) (gives_of l (taken_of p l) ++ records_from (next_of p (taken_of p l)) ls) []

-- of a text
unfoldable pub records_of : List ℕ → List Store
records_of s = records_from fresh_plain (lines_of s)

-- ---- the refusal

-- a file is fine, or refused at a line
abbrev pub Verdict : Type 0
Verdict = Result (Unit {0}) BadLine

abbrev pub bad : ℕ → Answer → Verdict
bad k a = Err (record { line = k; answer = a })

abbrev pub fine : Verdict
fine = Ok tt

-- 01's number of a refusal; a file that is fine has none, and 0 stands for it
abbrev pub verdict_number : Verdict → ℕ
verdict_number (Ok u) = 0
verdict_number (Err b) = number_of b.answer

-- "at the first bad line", of lines of which the first has the index k; past the last one "no 01 at the end" is 26, at the number of lines
unfoldable pub lines_verdict : Plain → ℕ → List (List ℕ) → Verdict
lines_verdict p k [] = cond p.ended fine (bad k OutOfPlace)
lines_verdict p k (l ∷ ls) =
    cond (goes_on (taken_of p l)) (lines_verdict (next_of p (taken_of p l)) (suc k) ls) (bad k (bad_of (taken_of p l)))

-- there is data
abbrev pub is_some : List Store → Bool
is_some [] = false
is_some (s ∷ ss) = true

-- "then 30 for no data byte", at the number of lines
abbrev pub data_verdict : ℕ → Bool → Verdict
data_verdict n some = cond some fine (bad n MissingBoard)

-- the one, then the other
abbrev pub then_verdict : Verdict → Verdict → Verdict
then_verdict (Ok u) v = v
then_verdict (Err b) v = Err b

-- of a text
unfoldable pub verdict_of : List ℕ → Verdict
verdict_of s = then_verdict (lines_verdict fresh_plain 0 (lines_of s)) (data_verdict (length (lines_of s)) (is_some (records_of s)))

-- the same where the lines are read, n of them: they gave some data byte or none
unfoldable pub close_of : Plain → ℕ → Bool → Verdict
close_of p n some = then_verdict (lines_verdict p n []) (data_verdict n some)
