-- Rows 9 to 11, each check with the numbers that it tests (02, L6). Assumes nothing.
use Rattle.std.specs.Prelude.{ℕ, ◌+◌, ◌-◌, ◌*◌, List, [], ◌∷◌}
use Rattle.why_causes.specs.declared.Numbers.TheVariants.{TotalZero, TotalPast, NumberPast}
use Rattle.why_causes.specs.declared.Address.TheVariants.{Below, Ragged, Past, PastWindow, NoWindow}
use Rattle.why_causes.specs.declared.Cause.TheVariants.{BadPayload, BadNumbers, BadAddress}
use Rattle.why_causes.specs.declared.Reason.{Reason}
use Rattle.why_causes.specs.Causes.{reason_with}

-- row 9: "size isn't 256"
unfoldable pub payload_row : ℕ → List Reason
payload_row size = reason_with BadPayload size 256 ∷ []

-- row 10, in a place or window of `size` bytes: "total 0, total x 256 over the place, or number >= total"
unfoldable pub numbers_row : ℕ → ℕ → ℕ → List Reason
numbers_row total number size =
    reason_with (BadNumbers TotalZero) total 0
    ∷ reason_with (BadNumbers TotalPast) (total * 256) size
    ∷ reason_with (BadNumbers NumberPast) number total
    ∷ []

-- row 11, of an address of flash, beside a place of `size` bytes
unfoldable pub address_row : ℕ → ℕ → List Reason
address_row address size =
    reason_with (BadAddress Below) address 0x10000000
    ∷ reason_with (BadAddress Ragged) address 256
    ∷ reason_with (BadAddress Past) (address - 0x10000000 + 256) size
    ∷ []

-- row 11, of "an address in no window" (02, L8): "below the window", or past the end of flash's and in no RAM of the board. Whether it is a multiple
-- of 256 is not asked there
unfoldable pub stray_row : ℕ → List Reason
stray_row address = reason_with (BadAddress Below) address 0x10000000 ∷ reason_with (BadAddress NoWindow) address 0x12000000 ∷ []

-- row 11, of an address in a window of RAM with this end
unfoldable pub window_row : ℕ → ℕ → List Reason
window_row address e = reason_with (BadAddress PastWindow) (address + 256) e ∷ []
