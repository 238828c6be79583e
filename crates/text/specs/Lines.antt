-- The lines of text of the program for UF2 arrivals (01, "Examples to compute with"), in ASCII. Assumes nothing.
use Rattle.std.specs.Prelude.{ℕ, Bool, List, ◌∷◌, ◌++◌}
use Rattle.transfer.specs.Transfer.{count_of}
use Rattle.transfer.specs.declared.State.{State}
use Rattle.transfer.specs.declared.State.TheVariants.{Idle, Running, Done}
use Rattle.text.specs.Ascii.{ascii}
use Rattle.text.specs.Parts.{decimal_of, pair_text, flag_digit}

-- ---- the line of an answer: "0 14 0"

-- " 0" or " 1", and the line's end
abbrev pub flag_text : Bool → List ℕ
flag_text b = ascii " " ++ (flag_digit b ∷ ascii "\n")

-- the arrival's index, its answer's number and its "discarded"
unfoldable pub answer_line : ℕ → ℕ → Bool → List ℕ
answer_line index answer discarded = pair_text index answer ++ flag_text discarded

-- ---- the last line: "state done total 2 seen 2"

-- "state idle", "state running", "state done"
abbrev pub state_name : State → List ℕ
state_name Idle = ascii "state idle"
state_name (Running r) = ascii "state running"
state_name (Done g) = ascii "state done"

-- its total; "state idle total 0"
abbrev pub state_total : State → ℕ
state_total Idle = 0
state_total (Running r) = r.head.total
state_total (Done g) = g.total

-- the name, " total ", the total, " seen ", the count, and the line's end
unfoldable pub counts_line : List ℕ → ℕ → ℕ → List ℕ
counts_line name total seen =
    name
    ++ ascii " total "
    ++ decimal_of total
    ++ ascii " seen "
    ++ decimal_of seen
    ++ ascii "\n"

-- "state idle total 0 seen 0"; "state running total", its total, "seen", its count; "state done total 2 seen 2"
unfoldable pub state_line : State → List ℕ
state_line s = counts_line (state_name s) (state_total s) (count_of s)
