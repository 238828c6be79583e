-- A look by what the arrival comes to, in the shape of the code's returns. Assumes nothing.
use mathlib.Core.Path.{◌≡◌, sym, ap, ◌∙◌}
use mathlib.Core.Bool.{false}
use mathlib.Core.List.{List}
use Prim.Native.Nat.{ℕ}
use Rattle.partitions.specs.declared.Settings.{Settings}
use Rattle.transfer.specs.declared.Transfer.{Transfer}
use Rattle.transfer.specs.declared.Deed.{Deed}
use Rattle.transfer.specs.declared.Accepted.{Accepted}
use Rattle.transfer.specs.declared.Answer.{Answer}
use Rattle.uf2_checks.specs.declared.PlacedBlock.{PlacedBlock}
use Rattle.arrival.specs.Arrive.{Lent, World, Decision, stays, accepts, forecast, forecast_of, look_of}
use Rattle.arrival.specs.Lending.{world}
use Rattle.uf2_known.specs.Verdict.{known_decision}
use Rattle.uf2_known.specs.declared.Known.{Known}
use Rattle.uf2_known.proofs.KnownLaws.{Knows, decision_is}

module _ (known : Known) (t : Transfer) (a : List ℕ) (h : Lent) where
  module _ {d : Decision} (k : d ≡ known_decision known (world t h) a) where
    -- what is said
    pub look_stays : {x : Answer} → d ≡ stays x → forecast x false ≡ forecast_of (known_decision known (world t h) a)
    look_stays e = ap forecast_of (sym e ∙ k)

    pub look_accepts : {p : PlacedBlock} {e : Deed} {y : Accepted} → d ≡ accepts p e y → forecast y.answer y.discarded ≡ forecast_of (known_decision known (world t h) a)
    look_accepts q = ap forecast_of (sym q ∙ k)

-- with what the settings and the lengths truly say handed in, it is as the meaning has it
pub look_is : (s : Settings) (w : World) (a : List ℕ) {k : Known} → Knows s w a k → forecast_of (known_decision k w a) ≡ look_of s w a
unfolding look_of
look_is s w a e = ap forecast_of (decision_is s w a e)
