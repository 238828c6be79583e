-- "The new field changes no answer" (02, L5), and no reason: settings that are alike but for it, for entries and for slots that are not used give the
-- same reasons, with the same numbers and the same marks. Proved in proofs/Alike.antt. Assumes nothing.
use Rattle.std.specs.Prelude.{ℕ, ◌≡◌, List}
use Rattle.partitions.specs.declared.Settings.{Settings}
use Rattle.partitions.specs.Alike.{Alike}
use Rattle.arrival.specs.Arrive.{World}
use Rattle.why.specs.Why.{why_of}
use Rattle.why.specs.Placed.{why_place_of}

-- of every arrival, and of every family's place
pub record SameReasons (s t : Settings) : Type 0 where
  pub why : (w : World) (a : List ℕ) → why_of s w a ≡ why_of t w a
  pub place : (len f : ℕ) → why_place_of s len f ≡ why_place_of t len f

unfoldable pub AlikeSettingsExplainAlike : Type 0
AlikeSettingsExplainAlike = (s t : Settings) → Alike s t → SameReasons s t
