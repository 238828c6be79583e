-- The definition of rows 4 to 11, cut as the code checks it. Assumes nothing.
use Rattle.std.specs.Prelude.{ℕ, ◌+◌, ◌-◌, ◌≤◌, cond, Some, None, Ok, Err}
use Rattle.uf2_block.specs.declared.Block.{Block}
use Rattle.transfer.specs.declared.Kind.{Kind}
use Rattle.transfer.specs.declared.Kind.TheVariants.{Flash, MainRam, XipRam}
use Rattle.transfer.specs.declared.Answer.TheVariants.{BadAddress}
use Rattle.uf2_checks.specs.Screen.{base_of, bad_address, placed_at, Screening, Window}
use Rattle.uf2_checks.specs.declared.Body.TheVariants.{Page}

-- "no multiple of 256" is asked of a flash address; RAM's windows are "by byte address" (02, L8)
abbrev pub alignment_of : Kind → ℕ
alignment_of Flash = 256
alignment_of MainRam = 1
alignment_of XipRam = 1

-- row 11, of a data block that rows 9 and 10 let through
unfoldable pub addressed : Kind → ℕ → ℕ → Block → Screening
addressed k start size b =
    cond (bad_address k size b) (Err BadAddress)
    (Ok (placed_at k (Page (start + (b.address - base_of k))) b))

-- the address is not below its window
abbrev pub Above : Window → ℕ → Type 0
Above None x = Unit
Above (Some k) x = base_of k ≤ x
