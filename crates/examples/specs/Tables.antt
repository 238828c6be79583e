-- Questions with what is expected of them, as rows of a table, and what the meaning gives. Assumes nothing.
use Rattle.std.specs.Prelude.{ℕ, ◌+◌, ◌-◌, ◌*◌, Bool, false, List, [], ◌∷◌, ◌++◌, map, replicate}
use Rattle.partitions.specs.Settings.{family_arm_s}
use Rattle.partitions.specs.declared.Settings.{Settings}
use Rattle.placement.specs.Place.{chosen_entry, ask_of, Choice, PlaceAnswer}
use Rattle.transfer.specs.Transfer.{number_of}
use Rattle.transfer.specs.declared.State.{State}
use Rattle.transfer.specs.declared.State.TheVariants.{Idle}
use Rattle.uf2_checks.specs.Screen.{screen_of, Screening}
use Rattle.uf2_checks.specs.declared.Lengths.{Lengths}
use Rattle.arrival.specs.Arrive.{World}
use Rattle.arrival.specs.Lists.{receive_all, answers_of, discards_of}
use Rattle.examples.specs.Boards.{arrival_of, lent_to}

-- what is asked: a list of arrivals to a transfer and lent buffers, the place of arm-s, or what an arrival is screened to beside buffers of so
-- many bytes
pub data Question : Type 0 where
  arriving : Settings → World → List (List ℕ) → Question
  placing : Settings → Question
  screening : Settings → Lengths → State → List ℕ → Question

-- what it gives: the answers' numbers, the discards, and the transfer and all buffers; the chosen entry and the answer to the place asked for
-- alone, which is none of its refusals; or a refusal, or a block that passes
pub data Result : Type 0 where
  left : List ℕ → List Bool → World → Result
  placed : Choice → PlaceAnswer → Result
  screened : Screening → Result

-- what the meaning gives
abbrev pub found : Question → Result
found (arriving s w l) = left (map number_of (answers_of s w l)) (discards_of s w l) (receive_all s w l)
found (placing s) = placed (chosen_entry s family_arm_s) (ask_of s 65536 family_arm_s)
found (screening s n t a) = screened (screen_of s n t a)

-- a question with what 01 wants of it
pub record Example : Type 0 where
  pub question : Question
  pub expected : Result

-- a row of the table
abbrev pub case : Question → Result → Example
case q r = record { question = q; expected = r }

-- n bytes of a map that are 0 but for one, of value v at index i: "block k is byte k/8, bit k mod 8 counted from the most significant"
abbrev pub marking : ℕ → ℕ → ℕ → List ℕ
marking n i v = replicate i 0 ++ (v ∷ replicate (n - i - 1) 0)

-- a transfer; byte 0 of the seen map; byte i of the sector map, and its value; the flash; the XIP RAM
abbrev pub after_with : State → ℕ → ℕ → ℕ → List ℕ → List ℕ → World
after_with t m i v f x =
    record { transfer = t; seen = marking 16384 0 m; held = record { flash = f; sectors = marking 1024 i v; main = []; xip = x } }

-- of a board without RAM
abbrev pub after : State → ℕ → ℕ → ℕ → List ℕ → World
after t m i v f = after_with t m i v f []

-- one arrival to an Idle transfer
abbrev pub one : Settings → List ℕ → ℕ → World → Example
one s a n w = case (arriving s (lent_to Idle) (a ∷ [])) (left (n ∷ []) (false ∷ []) w)

-- what was lent
abbrev pub as_lent : World
as_lent = lent_to Idle

-- a page of value v as page i of the sector at `before`, the rest of the sector erased, `rest` more bytes as lent
abbrev pub page : ℕ → ℕ → ℕ → ℕ → List ℕ
page before i v rest =
    replicate before 7 ++ (replicate (i * 256) 255 ++ (replicate 256 v ++ (replicate ((15 - i) * 256) 255 ++ replicate rest 7)))

-- arrival k of a file of three
abbrev pub block_of_three : ℕ → List ℕ
block_of_three k = arrival_of (0x10000000 + k * 256) k 3 k
