-- What the code keeps while it reads a plain file, line by line. Assumes nothing.
use Rattle.std.specs.Prelude.{ℕ, ◌≤◌, ◌≡◌, cond, List, Result, Ok, Err}
use Rattle.laws.specs.Stores.{Store}
use Rattle.uhex_grammar.specs.declared.Answer.{Answer}
use Rattle.ihex_write.specs.Put.{put_lines}
use Rattle.ihex_file.specs.declared.Plain.{Plain}
use Rattle.ihex_file.specs.Line.{taken_of}
use Rattle.ihex_file.specs.File.{goes_on, next_of, bad_of, gives_of, verdict_of}
use Rattle.ihex_data.specs.declared.cuts.Tally.{Tally}
use Rattle.ihex_data.specs.declared.Scan.{Scan}
use Rattle.ihex_data.specs.declared.Body.{Body}
use Rattle.ihex_data.specs.Pieces.{split_all, pieces_of}
use Rattle.ihex_data.specs.Lines.{first_upper, data_lines, data_length}
use Rattle.ihex_data.specs.Tally.{tally_all}

-- where the reading stands, and what is kept of the pieces
abbrev pub scan : Plain → Tally → Scan
scan p t = record { plain = p; tally = t }

-- the pieces that a line gives
unfoldable pub line_pieces : Plain → List ℕ → List Store
line_pieces p l = split_all (gives_of l (taken_of p l))

-- a line
unfoldable pub step_of : Scan → List ℕ → Result Scan Answer
step_of s l =
    cond (goes_on (taken_of s.plain l)) (Ok (scan (next_of s.plain (taken_of s.plain l)) (tally_all s.tally (line_pieces s.plain l))))
    (Err (bad_of (taken_of s.plain l)))

-- what a whole file comes to
unfoldable pub body_of : List ℕ → Body
body_of s = record { verdict = verdict_of s; first = first_upper (pieces_of s); len = data_length (pieces_of s) }

-- and with the lines of its data written from `at` on
pub record Walk (out : List ℕ) (at kind : ℕ) (s : List ℕ) (r : Body) (o : List ℕ) : Type 0 where
  pub body : r ≡ body_of s
  pub most : r.len ≤ 1000000000
  pub lines : o ≡ put_lines out at (data_lines kind (pieces_of s))
