-- An arrival by what it is screened to, and that rows 1 to 3 stay passed. Assumes nothing.
use Prim.Native.Nat.{ℕ, ◌+◌, ◌≤◌}
use mathlib.Core.Path.{◌≡◌, refl, ap, ◌∙◌}
use mathlib.Core.Bool.{Bool, true, false, cond}
use mathlib.Core.List.{List, [], ◌∷◌}
use native.Mathlib.Omega.{arith}
use lib.ListN.{length}
use Rattle.std.specs.Prelude.{Ok, Err}
use Rattle.memory.specs.Flash.{flash_length, payload_of}
use Rattle.partitions.specs.declared.Settings.{Settings}
use Rattle.partitions.specs.Settings.{good_settings}
use Rattle.transfer.specs.Transfer.{count_of, good_state, accepted}
use Rattle.transfer.specs.declared.Kind.TheVariants.{MainRam, XipRam}
use Rattle.transfer.specs.declared.Head.{Head}
use Rattle.transfer.specs.declared.Answer.{Answer}
use Rattle.uf2_checks.specs.Screen.{screen_of}
use Rattle.uf2_checks.specs.declared.Lengths.{Lengths}
use Rattle.uf2_checks.specs.declared.PlacedBlock.{PlacedBlock}
use Rattle.arrival.specs.Arrive.{World, Decision, ram_length, standing, after_screening, accept_of, unchanged, done, receive_of}
use Rattle.arrival.specs.Facts.{LengthsKept, ArrivalsKeepLengths}
use Rattle.arrival.specs.Lists.{receive_all}
use Rattle.arrival_claims.specs.Tally.{clears}
use Rattle.arrival.proofs.Pages.{arrive}
use Rattle.arrival_claims.proofs.Screening.{lens, Board, passing_few}
use Rattle.arrival_claims.proofs.DecisionFacts.{board_decides, DecisionFacts, refused, took, decision_facts, counted_good}
use Rattle.arrival.proofs.Facts.{arrivals_keep_lengths}

-- ---- an arrival that has passed rows 1 to 3, by what it is screened to

module _ (s : Settings) (w : World) (a : List ℕ) (B : Board s w) (l : length a ≡ 512) where
  pub receive_refused : (x : Answer) → screen_of s (lens w) w.transfer a ≡ Err x → receive_of s w a ≡ unchanged w x
  unfolding receive_of
  receive_refused x e =
      ap (done w (payload_of a)) (board_decides s w a B l ∙ ap (after_screening w.transfer w.seen (standing s w.held.flash a)) e)
      ∙ unfold after_screening done in refl

  pub receive_passed : (p : PlacedBlock) → screen_of s (lens w) w.transfer a ≡ Ok p → receive_of s w a ≡ arrive w (standing s w.held.flash a) p a
  unfolding receive_of
  receive_passed p e =
      ap (done w (payload_of a)) (board_decides s w a B l ∙ ap (after_screening w.transfer w.seen (standing s w.held.flash a)) e)
      ∙ unfold after_screening arrive in refl

-- ---- rows 1 to 3 stay passed

state_next : (s : Settings) (w : World) (a : List ℕ) {d : Decision} → DecisionFacts s w a d → good_state w.transfer ≡ true
    → good_state (done w (payload_of a) d).world.transfer ≡ true
unfolding done accept_of accepted
state_next s w a (refused x h) e = e
state_next s w a (took g k B l q t) e =
    rw t.is
    (counted_good g.head g.number (cond (clears w.transfer g.head) 1 (count_of w.transfer + 1)) (least (clears w.transfer g.head))
    (omega (arith, q.number, q.below, ap (λ (h : Head). h.total) q.head))
    (omega (arith, passing_few s w a g q B, ap (λ (h : Head). h.total) q.head)))
  where
    least : (b : Bool) → 1 ≤ cond b 1 (count_of w.transfer + 1)
    least true = omega arith
    least false = omega arith

pub lens_next : (s : Settings) (w : World) (a : List ℕ) → lens (receive_of s w a).world ≡ lens w
lens_next s w a = unfold ArrivalsKeepLengths in (arrivals_keep_lengths s w a).buffers

-- they are asked of the lengths and the transfer alone
pub board_same : (s : Settings) (v w : World) → LengthsKept v w → good_state v.transfer ≡ true → Board s w → Board s v
board_same s v w L t B =
    let e = L.buffers in
    record {
      flash = ap (λ (n : Lengths). flash_length n.flash) e ∙ B.flash;
      seen = L.seen ∙ B.seen;
      sectors = L.sectors ∙ B.sectors;
      main = ap (λ (n : Lengths). ram_length MainRam n.main) e ∙ B.main;
      xip = ap (λ (n : Lengths). ram_length XipRam n.xip) e ∙ B.xip;
      good = ap (λ (n : Lengths). good_settings s n.flash) e ∙ B.good;
      state = t;
    }

pub board_next : (s : Settings) (w : World) (a : List ℕ) → Board s w → Board s (receive_of s w a).world
board_next s w a B =
    board_same s (receive_of s w a).world w (unfold ArrivalsKeepLengths in arrivals_keep_lengths s w a)
    (unfold receive_of in state_next s w a (decision_facts s w a) B.state) B

-- ---- the worlds that a list from w on meets

-- rows 1 to 3 are passed, and the buffers have w's lengths
pub record Reached (s : Settings) (w v : World) : Type 0 where
  pub board : Board s v
  pub lengths : lens v ≡ lens w

pub reached_next : (s : Settings) (w v : World) (a : List ℕ) → Reached s w v → Reached s w (receive_of s v a).world
reached_next s w v a m = record { board = board_next s v a m.board; lengths = lens_next s v a ∙ m.lengths }

pub reached_after : (s : Settings) (w : World) (l : List (List ℕ)) (v : World) → Reached s w v → Reached s w (receive_all s v l)
unfolding receive_all
reached_after s w [] v m = m
reached_after s w (a ∷ l) v m = reached_after s w l (receive_of s v a).world (reached_next s w v a m)
