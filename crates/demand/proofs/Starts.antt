-- Two starts with one transfer and buffers of the same lengths, whatever they hold: a file that is valid at the one is valid at the other, and the
-- same arrivals are foreign to it. Assumes nothing.
use Prim.Native.Nat.{ℕ, ◌≤◌, ◌<◌}
use mathlib.Core.Path.{◌≡◌, refl, sym, ap, ◌∙◌}
use mathlib.Core.Bool.{false, ◌&&◌}
use mathlib.Core.List.{List}
use native.Mathlib.Omega.{arith}
use lib.ListN.{length}
use Rattle.std.specs.Prelude.{Ok, Err}
use Rattle.memory.specs.Flash.{payload_of}
use Rattle.uf2_block.specs.Block.{has_flag}
use Rattle.uf2_block.specs.Region.{region_of}
use Rattle.uf2_block.specs.Regions.{good_region}
use Rattle.partitions.specs.declared.Settings.{Settings}
use Rattle.placement.specs.Place.{place_of}
use Rattle.transfer.specs.Transfer.{same_kind, number_of, good_state}
use Rattle.transfer.specs.declared.Kind.{Kind}
use Rattle.transfer.specs.declared.Kind.TheVariants.{Flash, MainRam, XipRam}
use Rattle.transfer.specs.declared.State.{State}
use Rattle.uf2_checks.specs.Screen.{screen_of, Screening}
use Rattle.uf2_checks.specs.declared.Lengths.{Lengths}
use Rattle.uf2_checks.specs.declared.PlacedBlock.{PlacedBlock}
use Rattle.arrival.specs.Arrive.{World, Outcome, receive_of}
use Rattle.arrival.specs.Facts.{LengthsKept}
use Rattle.arrival.specs.File.{start_of, origin_of}
use Rattle.arrival.proofs.Pages.{arrive}
use Rattle.arrival_claims.proofs.Screening.{lens, Board}
use Rattle.arrival_claims.proofs.DecisionFacts.{step_late}
use Rattle.demand.specs.Demand.{File, answer_number, address_of, is_data, ValidFile, Foreign, Sent, size_of, Plain}
use Rattle.demand.proofs.Lists.{board_same, receive_refused, receive_passed}
use Rattle.demand.proofs.Runs.{mixed_map}
use Rattle.demand.proofs.Files.{earned}

module _ (s : Settings) (v w : World) (L : LengthsKept v w) (t : v.transfer ≡ w.transfer) where
  -- an answer of 4 to 11 is the same at both, and 12 or more is 12 or more
  pub record Answered (a : List ℕ) : Type 0 where
    pub refusal : answer_number s w a ≤ 11 → answer_number s v a ≡ answer_number s w a
    pub passing : 12 ≤ answer_number s w a → 12 ≤ answer_number s v a

  late : (u : World) (a : List ℕ) (B : Board s u) → length a ≡ 512 → (g : PlacedBlock) → screen_of s (lens u) u.transfer a ≡ Ok g → 12 ≤ answer_number s u a
  late u a B l g e =
      rw (receive_passed s u a B l g e) (unfold arrive in step_late u (payload_of a) g _ u.transfer _)

  pub answered : (a : List ℕ) → 4 ≤ answer_number s w a → Answered a
  answered a h = go (screen_of s (lens w) w.transfer a) refl
    where
      there : Board s w
      there = (earned s w a h).0

      here : Board s v
      here = board_same s v w L (ap good_state t ∙ there.state) there

      same : screen_of s (lens v) v.transfer a ≡ screen_of s (lens w) w.transfer a
      same = ap (λ (n : Lengths). screen_of s n v.transfer a) L.buffers ∙ ap (λ (u : State). screen_of s (lens w) u a) t

      go : (x : Screening) → screen_of s (lens w) w.transfer a ≡ x → Answered a
      go (Err x) e =
          let l = (earned s w a h).1 in
          let p : answer_number s v a ≡ answer_number s w a =
          ap (λ (o : Outcome). number_of o.answer) (receive_refused s v a here l x (same ∙ e))
          ∙ sym (ap (λ (o : Outcome). number_of o.answer) (receive_refused s w a there l x e)) in
          record { refusal = λ n. p; passing = λ n. omega (arith, p) }
      go (Ok g) e =
          let l = (earned s w a h).1 in
          record {
            refusal = λ n. absurd (omega (arith, n, late w a there l g e));
            passing = λ n. late v a here l g (same ∙ e);
          }

  -- a kind's window starts at the same byte of its buffer
  pub origin_there : (u : Kind) (f : ℕ) → origin_of s v u f ≡ origin_of s w u f
  origin_there Flash f = ap (λ (n : Lengths). start_of (place_of s n.flash f)) L.buffers
  origin_there MainRam f = refl
  origin_there XipRam f = refl

  module _ (F : File) where
    pub valid_there : ValidFile s w F → ValidFile s v F
    valid_there ok =
        record {
          some = ok.some;
          numbers = ok.numbers;
          families = ok.families;
          totals = ok.totals;
          disjoint = ok.disjoint;
          kinds = ok.kinds;
          quiet = ok.quiet;
          passes = λ k h. (answered (F.block k) (omega (arith, ok.passes k h))).passing (ok.passes k h);
        }

    foreign-there : (a : List ℕ) → Foreign s w F a → Foreign s v F a
    foreign-there a f =
        let e = (answered a f.least).refusal f.most in
        record { least = omega (arith, e, f.least); most = omega (arith, e, f.most); quiet = f.quiet }

    pub sent_there : {l : List (List ℕ)} → Sent s w F l → Sent s v F l
    sent_there m = mixed_map foreign-there m

    pub plain_there : Plain s w F → Plain s v F
    plain_there p k h =
        ap
        (λ (n : Lengths).
        same_kind F.kind Flash && is_data F k && has_flag (F.block k) 0x4000
        && good_region (size_of (place_of s n.flash F.family)) (address_of F k) (region_of (F.block k)))
        L.buffers
        ∙ p k h
