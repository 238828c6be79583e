-- Rows 9 to 11 of a data block, each check with the numbers that it tests (02, L6). Assumes nothing.
use Rattle.std.specs.Prelude.{ℕ, ◌+◌, List, ◌++◌, Some, None}
use Rattle.uf2_block.specs.declared.Block.{Block}
use Rattle.transfer.specs.declared.Kind.{Kind}
use Rattle.transfer.specs.declared.Kind.TheVariants.{Flash, MainRam, XipRam}
use Rattle.uf2_checks.specs.Screen.{base_of, extent_of, Window}
use Rattle.why_causes.specs.declared.Reason.{Reason}
use Rattle.why_causes.specs.Numbers.{payload_row, numbers_row, address_row, stray_row, window_row}

-- row 11, of a data block in the window of its kind
unfoldable pub address_in : Kind → ℕ → ℕ → List Reason
address_in Flash address size = address_row address size
address_in MainRam address size = window_row address (base_of MainRam + extent_of MainRam)
address_in XipRam address size = window_row address (base_of XipRam + extent_of XipRam)

-- rows 9 to 11, of a data block; "For an address in no window .. 11 comes before 10" (02, L8)
unfoldable pub page_row : Window → ℕ → Block → List Reason
page_row None size b = payload_row b.size ++ (stray_row b.address ++ numbers_row b.total b.number size)
page_row (Some k) size b = payload_row b.size ++ (numbers_row b.total b.number size ++ address_in k b.address size)
