-- The claim of specs/Alike.antt holds: an arrival is decided by good or bad, the place and the families in RAM. Assumes nothing.
use Prim.Native.Nat.{ℕ}
use mathlib.Core.Path.{◌≡◌, refl, ap}
use mathlib.Core.Bool.{Bool}
use mathlib.Core.List.{List, [], ◌∷◌}
use lib.ListN.{length}
use Rattle.memory.specs.Flash.{payload_of}
use Rattle.partitions.specs.declared.Settings.{Settings}
use Rattle.partitions.specs.Alike.{Alike}
use Rattle.partitions.proofs.Alike.{alike_good}
use Rattle.placement.proofs.Alike.{alike_places}
use Rattle.transfer.specs.declared.State.{State}
use Rattle.uf2_checks.specs.Screen.{screen_of}
use Rattle.uf2_checks.specs.declared.Lengths.{Lengths}
use Rattle.uf2_block.specs.Block.{field_at}
use Rattle.arrival.specs.Arrive.{World, decide, decided, done, forecast_of, lengths_of, standing, receive_of, look_of}
use Rattle.arrival.specs.Lists.{receive_all, answers_of, discards_of}
use Rattle.arrival_claims.specs.Alike.{AlikeSettingsAnswerAlike}

module _ (s t : Settings) (h : Alike s t) where
  screen_alike : (n : Lengths) (x : State) (a : List ℕ) → screen_of s n x a ≡ screen_of t n x a
  unfolding screen_of
  screen_alike n x a =
      let p = alike_places s t n.flash (field_at a 28) h in
      rw (p.0, p.1)

  decide_alike : (n : Lengths) (k : ℕ) (x : State) (seen : List ℕ) (kept : Bool) (a : List ℕ) → decide s n k x seen kept a ≡ decide t n k x seen kept a
  unfolding decide
  decide_alike n k x seen kept a = rw (alike_good s t n.flash h, screen_alike n x a)

  pub decided_alike : (w : World) (a : List ℕ) → decided s w a ≡ decided t w a
  decided_alike w a =
      let p = alike_places s t (length w.held.flash) (field_at a 28) h in
      rw (decide_alike (lengths_of w.held) (length w.held.sectors) w.transfer w.seen (standing s w.held.flash a) a, p.0)

pub alike_settings_answer_alike : AlikeSettingsAnswerAlike
unfolding AlikeSettingsAnswerAlike look_of receive_of
alike_settings_answer_alike s t h =
    record {
      good = λ len. alike_good s t len h;
      place = λ len f. (alike_places s t len f h).2;
      look = λ w a. ap forecast_of (decided_alike s t h w a);
      take = λ w a. ap (done w (payload_of a)) (decided_alike s t h w a);
    }

-- ---- and lists of arrivals

module _ (s t : Settings) (h : Alike s t) where
  same : (w : World) (a : List ℕ) → receive_of s w a ≡ receive_of t w a
  unfolding AlikeSettingsAnswerAlike
  same w a = (alike_settings_answer_alike s t h).take w a

  pub alike_left : (l : List (List ℕ)) (w : World) → receive_all s w l ≡ receive_all t w l
  unfolding receive_all
  alike_left [] w = refl
  alike_left (a ∷ l) w = rw (same w a) (alike_left l (receive_of t w a).world)

  pub alike_answers : (l : List (List ℕ)) (w : World) → answers_of s w l ≡ answers_of t w l
  unfolding answers_of
  alike_answers [] w = refl
  alike_answers (a ∷ l) w = rw (same w a, alike_answers l (receive_of t w a).world)

  pub alike_discards : (l : List (List ℕ)) (w : World) → discards_of s w l ≡ discards_of t w l
  unfolding discards_of
  alike_discards [] w = refl
  alike_discards (a ∷ l) w = rw (same w a, alike_discards l (receive_of t w a).world)
