-- The examples that 01 marks P ("Examples to compute with"), in a table, and the one statement over it. Proved in proofs/Examples.antt.
-- Assumes nothing.
use Rattle.std.specs.Prelude.{◌≡◌, true, false, List, [], ◌∷◌, ◌++◌, map, replicate, Some, Ok}
use Rattle.transfer.specs.Transfer.{running}
use Rattle.transfer.specs.declared.State.TheVariants.{Done}
use Rattle.examples.specs.Boards.{arrival_of, plain, partitioned, two_entries, arm_head, lent_to}
use Rattle.examples.specs.Tables.{arriving, placing, left, placed, found, Example, case, after, one, as_lent, page, block_of_three}
use Rattle.placement.specs.Place.{place_from}

-- 01's rows that are marked P, in its order
unfoldable pub examples : List Example
examples =
    -- "flash 65,536, no table, Arm, arm-s: total 256 passes, 257 gives 10;"
    one plain (arrival_of 0x10000000 0 256 1) 14 (after (running (arm_head 256) 1) 128 0 128 (page 0 0 1 61440))
    ∷ one plain (arrival_of 0x10000000 0 257 1) 10 as_lent
    -- "address 0x1000FF00 passes, 0x10010000 gives 11; number = total gives 10."
    ∷ one plain (arrival_of 0x1000FF00 0 256 1) 14 (after (running (arm_head 256) 1) 128 1 1 (page 61440 15 1 0))
    ∷ one plain (arrival_of 0x10010000 0 256 1) 11 as_lent
    ∷ one plain (arrival_of 0x10000000 3 3 1) 10 as_lent
    -- "place from sector 4, two sectors: 0x10000100 is stored at 16,640;"
    ∷ one partitioned (arrival_of 0x10000100 0 3 1) 14 (after (running (arm_head 3) 1) 128 0 8 (page 16384 1 1 45056))
    -- "0x10001F00 passes, 0x10002000 gives 11; total 33 gives 10."
    ∷ one partitioned (arrival_of 0x10001F00 0 32 1) 14 (after (running (arm_head 32) 1) 128 0 4 (page 20480 15 1 40960))
    ∷ one partitioned (arrival_of 0x10002000 0 32 1) 11 as_lent
    ∷ one partitioned (arrival_of 0x10000000 0 33 1) 10 as_lent
    -- "n = 3, arrivals 2, 0, 2, 1, 0: answers 14, 14, 13, 15, 12."
    ∷ case (arriving plain as_lent (block_of_three 2 ∷ block_of_three 0 ∷ block_of_three 2 ∷ block_of_three 1 ∷ block_of_three 0 ∷ []))
    (left (14 ∷ 14 ∷ 13 ∷ 15 ∷ 12 ∷ []) (replicate 5 false)
    (after (Done (arm_head 3)) 224 0 128
    (replicate 256 0 ++ (replicate 256 1 ++ (replicate 256 2 ++ (replicate 3328 255 ++ replicate 61440 7))))))
    -- "total 1: 15 at once, 3,840 bytes of 0xFF beside the payload."
    ∷ one plain (arrival_of 0x10000000 0 1 3) 15
    (after (Done (arm_head 1)) 128 0 128 (replicate 256 3 ++ (replicate 3840 255 ++ replicate 61440 7)))
    -- "Running with total 3, same family with total 4: 14, discarded, count 1."
    ∷ case (arriving plain (lent_to (running (arm_head 3) 2)) (arrival_of 0x10000000 0 4 1 ∷ []))
    (left (14 ∷ []) (true ∷ []) (after (running (arm_head 4) 1) 128 0 128 (page 0 0 1 61440)))
    -- "unowned entries 0 and 1 accept arm-s, 0 not bootable for Arm, Arm current: place 1; entry 1 gone: place 0."
    ∷ case (placing (two_entries 2)) (placed (Some 1) (Ok (place_from 8192 8192)))
    ∷ case (placing (two_entries 1)) (placed (Some 0) (Ok (place_from 0 8192)))
    ∷ []

-- every question gives what is expected
unfoldable pub ExamplesHold : Type 0
ExamplesHold = map (λ e. found e.question) examples ≡ map (λ e. e.expected) examples
