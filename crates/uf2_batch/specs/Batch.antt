-- Arrivals taken one after the other: the result of each, and what they leave. Assumes nothing.
use Rattle.std.specs.Prelude.{ℕ, zero, suc, ◌+◌, ◌/◌, Bool, false, ◌||◌, cond, List, [], ◌∷◌, leb, length, take, drop, set}
use Rattle.partitions.specs.declared.Settings.{Settings}
use Rattle.transfer.specs.Transfer.{number_of}
use Rattle.transfer.specs.declared.Answer.{Answer}
use Rattle.arrival.specs.Arrive.{Lent, World}
use Rattle.arrival.specs.Lists.{receive_all, answers_of, discards_of}
use Rattle.uf2_receiver.specs.Receiver.{world}
pub use Rattle.transfer_layout.specs.Results.{result_of, is_acceptance}
use Rattle.uf2_batch.specs.declared.Batch.{Batch}

-- the first n arrivals of 512 bytes
unfoldable pub arrivals_of : ℕ → List ℕ → List (List ℕ)
arrivals_of zero a = []
arrivals_of (suc n) a = take 512 a ∷ arrivals_of n (drop 512 a)

-- the result of each arrival
unfoldable pub results_of : List Answer → List Bool → List ℕ
results_of (x ∷ l) (d ∷ m) = result_of (number_of x) d ∷ results_of l m
results_of [] m = []
results_of (x ∷ l) [] = []

-- a block was accepted
unfoldable pub any_acceptance : List Answer → Bool
any_acceptance [] = false
any_acceptance (x ∷ l) = is_acceptance (number_of x) || any_acceptance l

-- numbers written over a list from index i on
unfoldable pub stored_from : List ℕ → ℕ → List ℕ → List ℕ
stored_from l i [] = l
stored_from l i (x ∷ xs) = stored_from (set l i x) (i + 1) xs

-- how many were taken, what they left, whether a block was accepted, and the results
pub record BatchEnd : Type 0 where
  pub number : ℕ
  pub world : World
  pub accepted : Bool
  pub results : List ℕ

-- what is returned, with results and buffers as they are left
abbrev pub batch_left : Batch → List ℕ → Lent → BatchEnd
batch_left b r h = record { number = b.number; world = world b.transfer h; accepted = b.accepted; results = r }

-- as many as there are whole arrivals and elements for results
abbrev pub fewer : ℕ → ℕ → ℕ
fewer a b = cond (leb a b) a b

-- arrivals a with room r for results
unfoldable pub batch_of : Settings → World → List ℕ → List ℕ → BatchEnd
batch_of s w a r =
    let n = fewer (length a / 512) (length r) in
    let l = arrivals_of n a in
    record {
      number = n;
      world = receive_all s w l;
      accepted = any_acceptance (answers_of s w l);
      results = stored_from r 0 (results_of (answers_of s w l) (discards_of s w l));
    }
