-- The hypotheses of specs/Delivery.antt are met by the image of specs/Instance.antt, and the theorem speaks of it. Assumes nothing.
use Prim.Native.Nat.{ℕ, zero, suc, ◌≤◌, ◌<◌}
use mathlib.Core.Path.{◌≡◌, refl}
use mathlib.Core.Bool.{true, false}
use mathlib.Core.List.{List, [], ◌∷◌}
use native.Mathlib.Omega.{arith}
use lib.Dec.{ltb}
use borrow.Author.Tests.{ltb-true, ltb-false, ne_eqb}
use Rattle.laws.proofs.Tests.{split, clash}
use Rattle.laws.specs.Sets.{any}
use Rattle.memory.specs.Flash.{flash_length}
use Rattle.partitions.specs.Settings.{family_arm_s, good_settings}
use Rattle.placement.specs.Place.{place_of}
use Rattle.arrival.specs.Arrive.{right_lengths}
use Rattle.uf2_make.specs.Uf2check.{check_of}
use Rattle.uf2_make.specs.Uf2file.{make_of}
use Rattle.file_claims.specs.Delivery.{IsMade, Deliverable, has_number, InAnyOrder}
use Rattle.file_claims.specs.Instance.{image, start, output, plain, board, made, MetByTwoPages, sent, TwoPagesArrive}
use Rattle.file_claims.proofs.Delivery.{in_any_order}

is_made_lem : IsMade image family_arm_s start output
unfolding make_of check_of
is_made_lem = refl

deliverable : Deliverable plain board image family_arm_s start 0 65536
deliverable =
    record {
      idle = refl;
      lengths = unfold right_lengths flash_length in refl;
      good = unfold good_settings any in refl;
      narrow = omega arith;
      placed = unfold place_of in refl;
      fits = omega arith;
    }

pub met_by_two_pages : MetByTwoPages
unfolding MetByTwoPages
met_by_two_pages = (is_made_lem, deliverable)

-- the numbers that are sent are those of the file
below : (k : ℕ) → has_number k (1 ∷ 0 ∷ 1 ∷ []) ≡ true → k < 2
unfolding has_number
below k e =
    split (ltb k 2)
    (λ y. ltb-true k 2 y)
    (λ z.
    let h : 2 ≤ k = ltb-false k 2 z in
    clash false (rw (ne_eqb k 1 (λ q. omega arith), ne_eqb k 0 (λ q. omega arith)) at e) refl)

each : (k : ℕ) → k < 2 → has_number k (1 ∷ 0 ∷ 1 ∷ []) ≡ true
unfolding has_number
each zero h = refl
each (suc zero) h = refl
each (suc (suc k)) h = absurd (omega arith)

pub two_pages_arrive : TwoPagesArrive
unfolding TwoPagesArrive InAnyOrder
two_pages_arrive = in_any_order plain board image output family_arm_s start 0 65536 is_made_lem deliverable (1 ∷ 0 ∷ 1 ∷ []) below each
