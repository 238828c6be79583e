-- An arrival by cases, in the shape of the code's returns. Assumes nothing.
use mathlib.Core.Path.{◌≡◌}
use mathlib.Core.Bool.{Bool, true, false}
use mathlib.Core.List.{List}
use Prim.Native.Nat.{ℕ}
use Rattle.std.specs.Prelude.{Ok, Err}
use Rattle.transfer.specs.Transfer.{good_state}
use Rattle.transfer.specs.declared.State.{State}
use Rattle.transfer.specs.declared.Transfer.{Transfer}
use Rattle.transfer.specs.declared.Answer.{Answer}
use Rattle.transfer.specs.declared.Answer.TheVariants.{BadBuffers, BadSettings, BadState}
use Rattle.uf2_checks.specs.Screen.{screen_at, Screening}
use Rattle.uf2_checks.specs.declared.Lengths.{Lengths}
use Rattle.uf2_checks.specs.declared.PlacedBlock.{PlacedBlock}
use Rattle.arrival.specs.Arrive.{Lent, Decision, lengths_of, stands_at, after_screening, stays}
use Rattle.arrival.specs.Lending.{world}
use Rattle.uf2_known.specs.Verdict.{known_decision}
use Rattle.uf2_known.specs.declared.Known.{Known}

-- ---- rows 4 to 17

module _ (t : State) (seen : List ℕ) (kept : Bool) {c : Screening} where
  pub screened_refused : {x : Answer} → c ≡ Err x → stays x ≡ after_screening t seen kept c
  unfolding after_screening
  screened_refused q = rw q

  pub screened_passed : {p : PlacedBlock} → c ≡ Ok p → {d : Decision} → d ≡ after_screening t seen kept (Ok p) → d ≡ after_screening t seen kept c
  screened_passed q y = rw q y

-- ---- every row

module _ (known : Known) (t : Transfer) (a : List ℕ) (h : Lent) where
  abbrev sizes : Lengths
  sizes = lengths_of (world t h).held

  pub judge_lengths : known.right ≡ false → stays BadBuffers ≡ known_decision known (world t h) a
  unfolding known_decision
  judge_lengths l = rw l

  module _ (l : known.right ≡ true) where
    pub judge_settings : known.good ≡ false → stays BadSettings ≡ known_decision known (world t h) a
    unfolding known_decision
    judge_settings g = rw (l, g)

    module _ (g : known.good ≡ true) where
      pub judge_state : good_state t.state ≡ false → stays BadState ≡ known_decision known (world t h) a
      unfolding known_decision
      judge_state n = rw (l, g, n)

      pub judge_screened : good_state t.state ≡ true → {d : Decision} → d ≡ after_screening t.state h.seen (stands_at h.flash known.rooms.flash a) (screen_at known.rooms sizes t.state a) → d ≡ known_decision known (world t h) a
      unfolding known_decision
      judge_screened n y = rw (l, g, n) y
