-- The answer for two files (02, L11): its number, and refusals. Assumes nothing.
use Rattle.std.specs.Prelude.{ℕ, Result, Ok, Err}
use Rattle.uhex_grammar.specs.Answers.{number_of}
use Rattle.uhex_grammar.specs.declared.Answer.{Answer}
use Rattle.ihex_file.specs.File.{Verdict}
use Rattle.uhex_join.specs.declared.answers.Refusal.{Refusal}

-- how many bytes are written, or a refusal
abbrev pub Joined : Type 0
Joined = Result ℕ Refusal

-- 01's number of a refusal; a file that is written is none, and has 0
abbrev pub joined_number : Joined → ℕ
joined_number (Ok n) = 0
joined_number (Err r) = number_of r.answer

-- of a board's file, at a line; 0 and 0 for the output
abbrev pub refusal : ℕ → ℕ → Answer → Refusal
refusal board k a = record { board = board; line = k; answer = a }

-- a board's file, or its refusal
abbrev pub refused_by : ℕ → Verdict → Result (Unit {0}) Refusal
refused_by board (Ok u) = Ok u
refused_by board (Err b) = Err (refusal board b.line b.answer)
