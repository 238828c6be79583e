-- A trace by how its records are written and where its pieces stand (02, L10). Assumes nothing.
use Rattle.std.specs.Prelude.{ℕ, zero, suc, ◌+◌, ◌*◌, ◌/◌, ◌≤◌, ◌≡◌, List, [], ◌∷◌, ◌++◌, Option, Some, None, length, take, drop}
use Rattle.trace_piece.specs.declared.Stop.{Stop}
use Rattle.trace_piece.specs.declared.Stop.TheVariants.{Bad, Differs}

-- ---- a record as it is written

-- "one byte, top bits first, with answer (5 bits), discarded (1), two zeros, then the arrival"
abbrev pub written : ℕ → ℕ → List ℕ → List ℕ
written answer discarded arrival = (answer * 8 + discarded * 4) ∷ arrival

-- "records of 513 bytes": of some answer and "discarded"
pub record IsRecord (p : List ℕ) : Type 0 where
  pub answer : ℕ
  pub discarded : ℕ
  pub arrival : List ℕ
  pub bit : discarded ≤ 1
  pub long : length arrival ≡ 512
  pub is : p ≡ written answer discarded arrival

-- ---- the pieces of a trace

-- piece k, which begins in the trace where 513 * k is below its length; the last may be shorter
abbrev pub piece_at : List ℕ → ℕ → List ℕ
piece_at t k = take 513 (drop (513 * k) t)

-- its arrival
abbrev pub arrival_at : List ℕ → ℕ → List ℕ
arrival_at t k = drop 1 (piece_at t k)

-- the arrivals of the first n pieces
unfoldable pub arrivals_to : List ℕ → ℕ → List (List ℕ)
arrivals_to t zero = []
arrivals_to t (suc n) = arrivals_to t n ++ (arrival_at t n ∷ [])

-- how many records stand before the stop
abbrev pub records_before : List ℕ → Option Stop → ℕ
records_before t None = length t / 513
records_before t (Some (Bad i)) = i
records_before t (Some (Differs i)) = i
