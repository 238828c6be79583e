-- With what the settings and the lengths truly say handed in, an arrival is taken and accepted as the meaning has it. Assumes nothing.
use mathlib.Core.Path.{◌≡◌, ap}
use mathlib.Core.List.{List}
use Prim.Native.Nat.{ℕ}
use Rattle.memory.specs.Flash.{payload_of}
use Rattle.partitions.specs.declared.Settings.{Settings}
use Rattle.arrival.specs.Arrive.{World, done, receive_of}
use Rattle.uf2_known.specs.Verdict.{known_decision}
use Rattle.uf2_known.specs.declared.Known.{Known}
use Rattle.uf2_known.proofs.KnownLaws.{Knows, decision_is}
use Rattle.flash_plan.specs.Plan.{accepting_by, accepting_of}
use Rattle.uf2_receiver.specs.Receiver.{receive_known, accept_known}

module _ (s : Settings) (w : World) (a : List ℕ) {k : Known} (e : Knows s w a k) where
  pub known_is : receive_known k w a ≡ receive_of s w a
  unfolding receive_known receive_of
  known_is = ap (done w (payload_of a)) (decision_is s w a e)

  pub accept_is : accept_known k w a ≡ accepting_of s w a
  unfolding accept_known accepting_of
  accept_is = ap (accepting_by w a) (decision_is s w a e)
