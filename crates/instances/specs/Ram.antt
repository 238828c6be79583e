-- Examples of files in RAM (02, L8), in a table, and the one statement over it. Proved in proofs/Tables.antt. Assumes nothing.
use Rattle.std.specs.Prelude.{ℕ, ◌-◌, ◌≡◌, true, false, List, [], ◌∷◌, ◌++◌, map, replicate}
use Rattle.transfer.specs.Transfer.{running}
use Rattle.transfer.specs.declared.Kind.TheVariants.{MainRam, XipRam}
use Rattle.transfer.specs.declared.State.TheVariants.{Idle, Done}
use Rattle.examples.specs.Boards.{arrival_of, comment_of, plain, head_to, arm_head, lent_with, lent_ram}
use Rattle.examples.specs.Tables.{arriving, left, found, Example, case, after_with, page}

-- an XIP RAM of 16,384 bytes with 256 of value v from `at` on
abbrev ram_page : ℕ → ℕ → List ℕ
ram_page at v = replicate at 5 ++ (replicate 256 v ++ replicate (16128 - at) 5)

-- a flash as lent
abbrev same_flash : List ℕ
same_flash = replicate 65536 7

unfoldable pub ram_examples : List Example
ram_examples =
    -- "No erase, no sector mark: only the 256 bytes change.", at a byte address
    case (arriving plain (lent_ram Idle) (arrival_of 0x13ffc001 0 3 1 ∷ []))
    (left (14 ∷ []) (false ∷ []) (after_with (running (head_to XipRam 3) 1) 128 0 0 same_flash (ram_page 1 1)))
    -- "a change of kind discards like a change of family"
    ∷ case (arriving plain (lent_ram (running (arm_head 3) 2)) (arrival_of 0x13ffc000 1 3 1 ∷ []))
    (left (14 ∷ []) (true ∷ []) (after_with (running (head_to XipRam 3) 1) 64 0 0 same_flash (ram_page 0 1)))
    ∷ case (arriving plain (lent_ram (running (head_to XipRam 3) 2)) (arrival_of 0x10000000 1 3 1 ∷ []))
    (left (14 ∷ []) (true ∷ []) (after_with (running (arm_head 3) 1) 64 0 128 (page 0 0 1 61440) (replicate 16384 5)))
    -- "A comment with the running transfer's family and total takes its kind": block 2 is the last
    ∷ case (arriving plain (lent_ram Idle) (arrival_of 0x13ffc000 0 3 1 ∷ comment_of 1 3 ∷ arrival_of 0x13ffc000 2 3 2 ∷ comment_of 1 3 ∷ []))
    (left (14 ∷ 16 ∷ 15 ∷ 12 ∷ []) (replicate 4 false) (after_with (Done (head_to XipRam 3)) 224 0 0 same_flash (ram_page 0 2)))
    -- "any other is flash": of another total
    ∷ case (arriving plain (lent_ram (running (head_to XipRam 3) 2)) (comment_of 0 4 ∷ []))
    (left (16 ∷ []) (true ∷ []) (after_with (running (arm_head 4) 1) 128 0 0 same_flash (replicate 16384 5)))
    -- "unless that kind's buffer is empty": main RAM is
    ∷ case (arriving plain (lent_ram (running (head_to MainRam 3) 2)) (comment_of 0 3 ∷ []))
    (left (16 ∷ []) (true ∷ []) (after_with (running (arm_head 3) 1) 128 0 0 same_flash (replicate 16384 5)))
    -- "other lengths are answer 1"
    ∷ case (arriving plain (lent_with 16383 Idle) (arrival_of 0x10000000 0 3 1 ∷ [])) (left (1 ∷ []) (false ∷ []) (lent_with 16383 Idle))
    ∷ []

unfoldable pub RamExamplesHold : Type 0
RamExamplesHold = map (λ e. found e.question) ram_examples ≡ map (λ e. e.expected) ram_examples
