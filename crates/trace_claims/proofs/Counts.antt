-- Counts of answers by their slots. Assumes nothing.
use Prim.Native.Nat.{ℕ, zero, suc, ◌+◌, ◌-◌, ◌≤◌, ◌<◌}
use mathlib.Core.Path.{◌≡◌, refl, sym, ap, subst, ◌∙◌}
use mathlib.Core.Logic.{◌≢◌}
use mathlib.Core.Bool.{Bool}
use mathlib.Core.List.{List, [], ◌∷◌, ◌++◌, map}
use native.Mathlib.Omega.{arith}
use lib.Dec.{leb, eqb}
use lib.ListN.{length, get_or}
use lib.Seq.{get_or-set_same, get_or-set_other}
use borrow.Author.Tests.{leb-true, leb-false, eqb-true, eqb-false}
use Rattle.laws.specs.Sets.{one}
use Rattle.laws.proofs.Tests.{split}
use Rattle.laws.proofs.Laws.{one_le}
use Rattle.partitions.specs.declared.Settings.{Settings}
use Rattle.transfer.specs.Transfer.{number_of}
use Rattle.transfer.specs.declared.Answer.{Answer}
use Rattle.transfer.specs.declared.Answer.TheVariants.{BadBuffers, BadSettings, BadState, NotBlock, Container, NoFamily, NoPlace, BadPayload, BadNumbers, BadAddress, Finished, Again, Written, Completed, Noted, Kept}
use Rattle.arrival.specs.Arrive.{World, receive_of}
use Rattle.arrival.specs.Lists.{answers_of, discards_of}
use Rattle.trace_counts.specs.Counts.{sum_to, slot_of, count_one, count_all, how_many_yes}
use Rattle.trace_counts.proofs.Sums.{sum_raised, slot_low, length_one}
use Rattle.trace_report.proofs.adding.Adds.{number_range}
use Rattle.trace_claims.specs.Claims.{sum_of, times_of, times_yes, place_of}

-- ---- no two answers have one slot

slot_other : (n m : ℕ) → 1 ≤ n → n ≢ 6 → 1 ≤ m → m ≢ 6 → slot_of n ≡ slot_of m → n ≡ m
slot_other n m a b c d e =
    split (leb n 5)
    (λ p.
    let i : n ≤ 5 = leb-true n 5 p in
    split (leb m 5)
    (λ q. let j : m ≤ 5 = leb-true m 5 q in let f : n - 1 ≡ m - 1 = rw (p, q) at e in omega arith)
    (λ q. let j : 5 < m = leb-false m 5 q in let f : n - 1 ≡ m - 2 = rw (p, q) at e in omega arith))
    (λ p.
    let i : 5 < n = leb-false n 5 p in
    split (leb m 5)
    (λ q. let j : m ≤ 5 = leb-true m 5 q in let f : n - 2 ≡ m - 1 = rw (p, q) at e in omega arith)
    (λ q. let j : 5 < m = leb-false m 5 q in let f : n - 2 ≡ m - 2 = rw (p, q) at e in omega arith))

slot_same : (x y : Answer) → slot_of (number_of x) ≡ slot_of (number_of y) → number_of x ≡ number_of y
slot_same x y e =
    let a = number_range x in
    let b = number_range y in
    slot_other (number_of x) (number_of y) a.0 a.2 b.0 b.2 e

slot_in : (c : List ℕ) → length c ≡ 16 → (y : Answer) → slot_of (number_of y) < length c
slot_in c l y = let a = number_range y in rw l (slot_low (number_of y) a.0 a.1)

-- the slot of an answer is its place
pub place_is : (x : Answer) → slot_of (number_of x) ≡ place_of x
place_is BadBuffers = refl
place_is BadSettings = refl
place_is BadState = refl
place_is NotBlock = refl
place_is Container = refl
place_is NoFamily = refl
place_is NoPlace = refl
place_is BadPayload = refl
place_is BadNumbers = refl
place_is BadAddress = refl
place_is Finished = refl
place_is Again = refl
place_is Written = refl
place_is Completed = refl
place_is Noted = refl
place_is Kept = refl

pub place_low : (x : Answer) → place_of x < 16
place_low x = let n = number_range x in subst (λ (k : ℕ). k < 16) (place_is x) (slot_low (number_of x) n.0 n.1)

-- ---- sums

sum_first : (n x : ℕ) (l : List ℕ) → sum_to (suc n) (x ∷ l) ≡ x + sum_to n l
unfolding sum_to
sum_first zero x l = omega arith
sum_first (suc n) x l = rw (sum_first n x l) (omega arith)

sum_all : (l : List ℕ) → sum_to (length l) l ≡ sum_of l
unfolding sum_to sum_of
sum_all [] = refl
sum_all (x ∷ l) = sum_first (length l) x l ∙ rw (sum_all l)

-- the sum of 16 counts is that of their list
pub sum_is : (l : List ℕ) → length l ≡ 16 → sum_to 16 l ≡ sum_of l
sum_is l e = ap (λ (n : ℕ). sum_to n l) (sym e) ∙ sum_all l

-- ---- one record more

one_at : (c : List ℕ) → length c ≡ 16 → (x y : Answer)
    → get_or (count_one c (number_of y)) (slot_of (number_of x)) 0 ≡ get_or c (slot_of (number_of x)) 0 + one (eqb (number_of x) (number_of y))
unfolding count_one
one_at c l x y =
    let v = get_or c (slot_of (number_of y)) 0 + 1 in
    split (eqb (number_of x) (number_of y))
    (λ p.
    let e : number_of x ≡ number_of y = eqb-true (number_of x) (number_of y) p in
    rw (p, e) (get_or-set_same c (slot_of (number_of y)) v 0 (slot_in c l y)))
    (λ p.
    let d : number_of x ≢ number_of y = eqb-false (number_of x) (number_of y) p in
    rw (p, get_or-set_other c (slot_of (number_of y)) (slot_of (number_of x)) v 0 (λ e. d (slot_same x y e))) (omega arith))

sum_one : (c : List ℕ) → length c ≡ 16 → (y : Answer) → sum_to 16 (count_one c (number_of y)) ≡ sum_to 16 c + 1
unfolding count_one
sum_one c l y = let a = number_range y in sum_raised 16 c (slot_of (number_of y)) (slot_low (number_of y) a.0 a.1) (slot_in c l y)

-- ---- all of them

pub length_all : (c l : List ℕ) → length (count_all c l) ≡ length c
unfolding count_all
length_all c [] = refl
length_all c (n ∷ l) = length_all (count_one c n) l ∙ length_one c n

pub counts_at : (l : List Answer) (c : List ℕ) → length c ≡ 16 → (x : Answer)
    → get_or (count_all c (map number_of l)) (slot_of (number_of x)) 0 ≡ get_or c (slot_of (number_of x)) 0 + times_of x l
unfolding count_all times_of
counts_at [] c h x = omega arith
counts_at (y ∷ l) c h x =
    counts_at l (count_one c (number_of y)) (length_one c (number_of y) ∙ h) x
    ∙ rw (one_at c h x y) (omega arith)

pub sum_at : (l : List Answer) (c : List ℕ) → length c ≡ 16 → sum_to 16 (count_all c (map number_of l)) ≡ sum_to 16 c + length l
unfolding count_all
sum_at [] c h = omega arith
sum_at (y ∷ l) c h =
    sum_at l (count_one c (number_of y)) (length_one c (number_of y) ∙ h)
    ∙ rw (sum_one c h y) (omega arith)

-- ---- lists one after the other

-- the meaning's "how many" is the claims'
pub yes_is : (l : List Bool) → how_many_yes l ≡ times_yes l
unfolding how_many_yes times_yes
yes_is [] = refl
yes_is (d ∷ l) = rw (yes_is l)

pub times_append : (x : Answer) (l m : List Answer) → times_of x (l ++ m) ≡ times_of x l + times_of x m
unfolding times_of
times_append x [] m = omega arith
times_append x (y ∷ l) m = rw (times_append x l m) (omega arith)

pub yes_append : (l m : List Bool) → times_yes (l ++ m) ≡ times_yes l + times_yes m
unfolding times_yes
yes_append [] m = omega arith
yes_append (d ∷ l) m = rw (yes_append l m) (omega arith)

pub yes_most : (l : List Bool) → times_yes l ≤ length l
unfolding times_yes
yes_most [] = omega arith
yes_most (d ∷ l) = omega (arith, yes_most l, one_le d)

pub length_answers : (s : Settings) (l : List (List ℕ)) (w : World) → length (answers_of s w l) ≡ length l
unfolding answers_of
length_answers s [] w = refl
length_answers s (a ∷ l) w = rw (length_answers s l (receive_of s w a).world)

pub length_discards : (s : Settings) (l : List (List ℕ)) (w : World) → length (discards_of s w l) ≡ length l
unfolding discards_of
length_discards s [] w = refl
length_discards s (a ∷ l) w = rw (length_discards s l (receive_of s w a).world)
