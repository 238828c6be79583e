-- What the call of C returns. Assumes nothing.
use Rattle.std.specs.Prelude.{ℕ, List}
use Rattle.arrival.specs.Arrive.{Held}
use Rattle.arrival.specs.Lending.{Slice}
use Rattle.settings_layout.specs.Layout.{settings_from}
use Rattle.uf2_verify.specs.Stands.{stand_number, stand_of}

-- bytes of settings, the arrival, and the memory
unfoldable pub stands_bytes : List ℕ → List ℕ → Held → ℕ
stands_bytes s a h = stand_number (stand_of (settings_from s) h a)

-- the same of the slices that the call is lent, which the contract names
abbrev pub stands_call_of : Slice → Slice → Held → ℕ
stands_call_of s a h = stands_bytes s a h
