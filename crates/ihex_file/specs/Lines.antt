-- The lines of a text: "A line ends with its LF or the file." (02) Assumes nothing.
use Rattle.std.specs.Prelude.{ℕ, suc, ◌+◌, ◌≤◌, ◌<◌, ◌≢◌, cond, List, [], ◌∷◌, ◌++◌, eqb, ltb, length, get_or, drop}

-- a character in front of the first line
abbrev pub glue : ℕ → List (List ℕ) → List (List ℕ)
glue c [] = (c ∷ []) ∷ []
glue c (l ∷ ls) = (c ∷ l) ∷ ls

-- the lines, each with its LF; the last one may have none
unfoldable pub lines_of : List ℕ → List (List ℕ)
lines_of [] = []
lines_of (c ∷ cs) = cond (eqb c 10) ((10 ∷ []) ∷ lines_of cs) (glue c (lines_of cs))

-- how long the first line is, its LF included
unfoldable pub line_len : List ℕ → ℕ
line_len [] = 0
line_len (c ∷ cs) = cond (eqb c 10) 1 (suc (line_len cs))

-- where the line that begins at an index ends; where none begins there, the end of the text
unfoldable pub end_of : List ℕ → ℕ → ℕ
end_of s at = cond (ltb at (length s)) (at + line_len (drop at s)) (length s)

-- ---- and what they are, without a reading of the text from left to right

-- no character is an LF
abbrev pub NoLF : List ℕ → Type 0
NoLF t = (i : ℕ) → i < length t → get_or t i 0 ≢ 10

-- a text and its lines: each ends with its LF, which is its only one, and the last one may end with the text
pub data LinesOf : List ℕ → List (List ℕ) → Type 0 where
  no_line : LinesOf [] []
  last_line_case : {t : List ℕ} → 1 ≤ length t → NoLF t → LinesOf t (t ∷ [])
  line : (t : List ℕ) {rest : List ℕ} {ls : List (List ℕ)} → NoLF t → LinesOf rest ls → LinesOf (t ++ (10 ∷ rest)) ((t ++ (10 ∷ [])) ∷ ls)

-- so are those of every text
unfoldable pub LinesAre : Type 0
LinesAre = (s : List ℕ) → LinesOf s (lines_of s)
