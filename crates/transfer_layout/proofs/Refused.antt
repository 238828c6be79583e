-- Bytes that are no state are a bad one. Assumes nothing.
use Prim.Native.Nat.{ℕ, ◌<◌}
use mathlib.Core.Path.{◌≡◌}
use mathlib.Core.Logic.{◌≢◌}
use mathlib.Core.Bool.{false}
use mathlib.Core.List.{List}
use native.Mathlib.Omega.{arith}
use lib.Dec.{ltb}
use lib.ListN.{length, get_or}
use borrow.Author.Tests.{eq-eqb, ne_eqb, lt-ltb}
use Rattle.laws.proofs.Tests.{split}
use Rattle.transfer.specs.declared.Head.{Head}
use Rattle.transfer.specs.declared.State.TheVariants.{Idle}
use Rattle.transfer.specs.Transfer.{good_state}
use Rattle.transfer_layout.specs.Transfers.{state_of, state_from}

pub state_length : (b : List ℕ) → length b ≢ 14 → good_state (state_from b) ≡ false
unfolding state_from good_state
state_length b h = rw (ne_eqb (length b) 14 h)

other_tag : (tag k : ℕ) (g : Head) (c : ℕ) → 2 < tag → good_state (state_of tag k g c) ≡ false
unfolding state_of good_state
other_tag tag k g c h =
    split (ltb 2 k)
    (λ q. simp (ne_eqb tag 0 (omega arith), q))
    (λ q. simp (ne_eqb tag 0 (omega arith), q, ne_eqb tag 1 (omega arith), ne_eqb tag 2 (omega arith)))

pub state_tag : (b : List ℕ) → length b ≡ 14 → 2 < get_or b 0 0 → good_state (state_from b) ≡ false
unfolding state_from
state_tag b e h = rw (eq-eqb (length b) 14 e) (other_tag (get_or b 0 0) _ _ _ h)

other_kind : (tag k : ℕ) (g : Head) (c : ℕ) → tag ≢ 0 → 2 < k → good_state (state_of tag k g c) ≡ false
unfolding state_of good_state
other_kind tag k g c d h = simp (ne_eqb tag 0 d, lt-ltb 2 k h)

-- the kind of a transfer that is not Idle
pub state_kind : (b : List ℕ) → length b ≡ 14 → get_or b 0 0 ≢ 0 → 2 < get_or b 13 0 → good_state (state_from b) ≡ false
unfolding state_from
state_kind b e d h = rw (eq-eqb (length b) 14 e) (other_kind (get_or b 0 0) _ _ _ d h)

-- one that is Idle is read whatever else stands there
pub idle_read : (b : List ℕ) → length b ≡ 14 → get_or b 0 0 ≡ 0 → state_from b ≡ Idle
unfolding state_from state_of
idle_read b e z = simp (eq-eqb (length b) 14 e, z)
