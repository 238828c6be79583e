-- Examples of comments (02, L3), in a table, and the one statement over it. Proved in proofs/Tables.antt. Assumes nothing.
use Rattle.std.specs.Prelude.{ℕ, ◌-◌, ◌*◌, ◌≡◌, true, false, List, [], ◌∷◌, ◌++◌, map, replicate}
use Rattle.transfer.specs.Transfer.{running}
use Rattle.transfer.specs.declared.State.TheVariants.{Done}
use Rattle.examples.specs.Boards.{block_with, comment_of, plain, arm_head, lent_to}
use Rattle.examples.specs.Tables.{arriving, left, found, Example, case, after, one, as_lent, page, block_of_three}

-- two pages of value v and of value w in one sector, with erased pages beside them: the first as page 0, the second as page i
abbrev pages : ℕ → ℕ → ℕ → List ℕ
pages v i w =
    replicate 256 v ++ (replicate ((i - 1) * 256) 255 ++ (replicate 256 w ++ (replicate ((15 - i) * 256) 255 ++ replicate 61440 7)))

unfoldable pub comment_examples : List Example
comment_examples =
    -- a comment between two data blocks: "Noted, or 15 if last"
    case (arriving plain as_lent (block_of_three 0 ∷ comment_of 1 3 ∷ block_of_three 2 ∷ []))
    (left (14 ∷ 16 ∷ 15 ∷ []) (replicate 3 false) (after (Done (arm_head 3)) 224 0 128 (pages 0 2 2)))
    -- "With the same number as a data block, the first to come stands."
    ∷ case (arriving plain as_lent (comment_of 0 3 ∷ block_of_three 0 ∷ block_of_three 1 ∷ []))
    (left (16 ∷ 13 ∷ 14 ∷ []) (replicate 3 false) (after (running (arm_head 3) 2) 192 0 128 (page 0 1 1 61440)))
    ∷ case (arriving plain as_lent (block_of_three 0 ∷ comment_of 0 3 ∷ []))
    (left (14 ∷ 13 ∷ []) (replicate 2 false) (after (running (arm_head 3) 1) 128 0 128 (page 0 0 0 61440)))
    -- a comment that is last, and alone
    ∷ one plain (comment_of 0 1) 15 (after (Done (arm_head 1)) 128 0 0 (replicate 65536 7))
    -- checks 5, 7 and 10 of a comment
    ∷ one plain (block_with 0x3001 0x10000000 256 0 3 1) 5 as_lent
    ∷ one plain (block_with 0x0001 0x10000000 256 0 3 1) 7 as_lent
    ∷ one plain (comment_of 0 257) 10 as_lent
    -- "may open or discard a transfer"
    ∷ case (arriving plain (lent_to (running (arm_head 3) 2)) (comment_of 0 4 ∷ []))
    (left (16 ∷ []) (true ∷ []) (after (running (arm_head 4) 1) 128 0 0 (replicate 65536 7)))
    ∷ []

unfoldable pub CommentExamplesHold : Type 0
CommentExamplesHold = map (λ e. found e.question) comment_examples ≡ map (λ e. e.expected) comment_examples
