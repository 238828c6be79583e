-- What a call for a reason answers and writes, by what it is lent. Assumes nothing.
use Rattle.std.specs.Prelude.{ℕ, List}
use Rattle.arrival.specs.Arrive.{Lent}
use Rattle.arrival.specs.Lending.{Slice, world}
use Rattle.settings_layout.specs.Layout.{settings_from, transfer_from}
use Rattle.why.specs.Why.{why_of}
use Rattle.why.specs.Placed.{why_place_of}
-- what is returned and written of a reason
pub use Rattle.whyapi.specs.WhyBytes.{Call, call_return}
unfoldable pub use Rattle.whyapi.specs.WhyBytes.{why_call, place_call}

-- of settings, transfer and arrival, what is lent, and the bytes of the reason as they were lent
abbrev pub why_call_of : Slice → Slice → Slice → Lent → List ℕ → Call
why_call_of s t a h l =
    why_call s t
    (why_of (settings_from s) (world (transfer_from t) h) a)
    l

-- a place asked for alone
abbrev pub place_call_of : List ℕ → ℕ → ℕ → List ℕ → Call
place_call_of s len f l = place_call s (why_place_of (settings_from s) len f) l
