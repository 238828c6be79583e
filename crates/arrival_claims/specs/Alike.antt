-- "The new field changes no answer" (02, L5), and no more does an entry or a slot that is not used: settings that are alike but for these give the
-- same good or bad, place, look and take. Proved in proofs/Alike.antt. Assumes nothing.
use Rattle.std.specs.Prelude.{ℕ, ◌≡◌, List}
use Rattle.partitions.specs.declared.Settings.{Settings}
use Rattle.partitions.specs.Settings.{good_settings}
use Rattle.partitions.specs.Alike.{Alike}
use Rattle.placement.specs.Place.{ask_of}
use Rattle.arrival.specs.Arrive.{World, receive_of, look_of}

-- the same answers to everything, and the same left behind
pub record SameAnswers (s t : Settings) : Type 0 where
  pub good : (len : ℕ) → good_settings s len ≡ good_settings t len
  pub place : (len f : ℕ) → ask_of s len f ≡ ask_of t len f
  pub look : (w : World) (a : List ℕ) → look_of s w a ≡ look_of t w a
  pub take : (w : World) (a : List ℕ) → receive_of s w a ≡ receive_of t w a

unfoldable pub AlikeSettingsAnswerAlike : Type 0
AlikeSettingsAnswerAlike = (s t : Settings) → Alike s t → SameAnswers s t
