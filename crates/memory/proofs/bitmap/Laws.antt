-- The laws of marks, for a map of any length. Assumes nothing.
use mathlib.Core.Path.{◌≡◌, fun_ext}
use mathlib.Core.Bool.{true, false, not}
use mathlib.Core.List.{List}
use mathlib.Core.Logic.{◌≢◌}
use Prim.Native.Nat.{ℕ, ◌/◌, ◌%◌, ◌^◌, ◌-◌, ◌<◌, ◌≤◌}
use native.Mathlib.Nat.{zero-div}
use native.Mathlib.Decide.{dec_lt, ℕ_discrete}
use native.Mathlib.Omega.{arith}
use lib.ListN.{length, get_or, set, length-set, get_or-eq_default}
use lib.Seq.{get_or-set_same, get_or-set_other, set_out}
use lib.Bits.{bit_and, bit_or}
use lib.Dec.{eqb, ltb}
use borrow.Author.Tests.{eqb-true, eqb-false, ltb-true, ltb-false}
use Rattle.memory.specs.Many.{many}
use Rattle.memory.proofs.fill.Laws.{length_many, get_d_many}
use Rattle.laws.specs.Sets.{add}
use Rattle.laws.proofs.Tests.{split}
use Rattle.memory.specs.Bitmap.{bit, marked_in, with_mark, unmarked}
use Rattle.memory.proofs.bitmap.Byte.{with_same, with_other, or_mask, and_mask}

pub length_mark : (m : List ℕ) (k : ℕ) → length (with_mark m k) ≡ length m
unfolding with_mark
length_mark m k = length-set m (k / 8) _

pub length_unmarked : (n : ℕ) → length (unmarked n) ≡ n
unfolding unmarked
length_unmarked n = length_many n 0

-- ---- past the end

bit_zero : (i : ℕ) → bit 0 i ≡ false
unfolding bit
bit_zero i = rw (zero-div (2 ^ (7 - i)))

pub marked_past : (m : List ℕ) (k : ℕ) → length m ≤ k / 8 → marked_in m k ≡ false
unfolding marked_in
marked_past m k h = rw (get_or-eq_default m 0 h) (bit_zero (k % 8))

pub mark_past : (m : List ℕ) (k : ℕ) → length m ≤ k / 8 → with_mark m k ≡ m
unfolding with_mark
mark_past m k h = set_out m (k / 8) _ h

-- ---- marked after a mark

-- the same item, where the map has it
pub marked_same : (m : List ℕ) (k : ℕ) → k / 8 < length m → marked_in (with_mark m k) k ≡ true
unfolding marked_in with_mark
marked_same m k l = rw (get_or-set_same m (k / 8) _ 0 l) (with_same (get_or m (k / 8) 0) (k % 8))

-- another item
pub marked_other : (m : List ℕ) (k j : ℕ) → j ≢ k → marked_in (with_mark m k) j ≡ marked_in m j
marked_other m k j n = by_byte (dec_lt (k / 8) (length m)) (ℕ_discrete (j / 8) (k / 8))
  where
    near : k / 8 < length m → j / 8 ≡ k / 8 → marked_in (with_mark m k) j ≡ marked_in m j
    near l e =
        unfold marked_in with_mark in
        rw (e, get_or-set_same m (k / 8) _ 0 l) (with_other (get_or m (k / 8) 0) (k % 8) (j % 8) (omega arith) (omega arith) (omega arith))

    by_byte : Dec (k / 8 < length m) → Dec (j / 8 ≡ k / 8) → marked_in (with_mark m k) j ≡ marked_in m j
    by_byte (no l) d = rw (mark_past m k (omega arith))
    by_byte (yes l) (no e) = unfold marked_in with_mark in rw (get_or-set_other m (k / 8) (j / 8) _ 0 e)
    by_byte (yes l) (yes e) = near l e

-- the items marked are those from before, and k
pub marked_after : (m : List ℕ) (k : ℕ) → k / 8 < length m → marked_in (with_mark m k) ≡ add k (marked_in m)
marked_after m k l =
    fun_ext
    (λ j. split (eqb j k)
    (λ e. rw (e, eqb-true j k e) (marked_same m k l))
    (λ e. rw e (marked_other m k j (eqb-false j k e))))

-- ---- after clear

zeros : (n i : ℕ) → get_or (many n 0) i 0 ≡ 0
zeros n i =
    split (ltb i n)
    (λ y. get_d_many n 0 i (ltb-true i n y))
    (λ z. get_or-eq_default (many n 0) 0 (rw (length_many n 0) (ltb-false i n z)))

pub marked_unmarked : (n k : ℕ) → marked_in (unmarked n) k ≡ false
unfolding marked_in unmarked
marked_unmarked n k = rw (zeros n (k / 8)) (bit_zero (k % 8))

-- ---- as the code tests and sets them

pub mark_mask : (m : List ℕ) (k : ℕ) → set m (k / 8) (bit_or (get_or m (k / 8) 0) (128 / 2 ^ (k % 8))) ≡ with_mark m k
unfolding with_mark
mark_mask m k = rw (or_mask (get_or m (k / 8) 0) (k % 8) (omega arith))

pub marked_mask : (m : List ℕ) (k : ℕ) → not (eqb (bit_and (get_or m (k / 8) 0) (128 / 2 ^ (k % 8))) 0) ≡ marked_in m k
unfolding marked_in
marked_mask m k = and_mask (get_or m (k / 8) 0) (k % 8) (omega arith)
