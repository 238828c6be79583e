-- Row 1, each check with the numbers that it tests (02, L6): "arrival, flash or a map has a wrong length", then RAM's two (02, L8). Assumes nothing.
use Rattle.std.specs.Prelude.{ℕ, List, [], ◌∷◌, ◌++◌}
use Rattle.uf2_checks.specs.declared.Lengths.{Lengths}
use Rattle.why_causes.specs.declared.Length.TheVariants.{Arrival, FlashRagged, FlashUnder, FlashOver, Seen, Sectors, Main, Xip}
use Rattle.why_causes.specs.declared.Cause.TheVariants.{BadBuffers}
use Rattle.why_causes.specs.declared.Reason.{Reason}
use Rattle.why_causes.specs.Causes.{reason_with}

unfoldable pub flash_row : ℕ → List Reason
flash_row n =
    reason_with (BadBuffers FlashRagged) n 4096
    ∷ reason_with (BadBuffers FlashUnder) n 4096
    ∷ reason_with (BadBuffers FlashOver) n 33554432
    ∷ []

unfoldable pub buffer_row : ℕ → ℕ → ℕ → ℕ → List Reason
buffer_row seen sectors main xip =
    reason_with (BadBuffers Seen) seen 16384
    ∷ reason_with (BadBuffers Sectors) sectors 1024
    ∷ reason_with (BadBuffers Main) main 532480
    ∷ reason_with (BadBuffers Xip) xip 16384
    ∷ []

unfoldable pub lengths_row : ℕ → Lengths → ℕ → ℕ → List Reason
lengths_row arrival n seen sectors =
    reason_with (BadBuffers Arrival) arrival 512 ∷ (flash_row n.flash ++ buffer_row seen sectors n.main n.xip)
