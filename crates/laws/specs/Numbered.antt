-- An answer beside its number (01: "Where an answer is an enum, a definition gives this paper's number and values for each of its cases.
-- The promises use this definition."): a function whose answer is an enum promises one equation of such pairs. Assumes nothing.
use Rattle.std.specs.Prelude.{ℕ}

-- x, and the number that `number` gives it
abbrev pub numbered : {A : Type 0} → (A → ℕ) → A → A × ℕ
numbered number x = (x, number x)
