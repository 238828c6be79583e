-- Row 2's faults stand in 01's order: the condition before the entry, the entry before the other. Assumes nothing.
use mathlib.Core.Path.{◌≡◌, refl}
use mathlib.Core.Bool.{Bool, true, ◌&&◌}
use mathlib.Core.List.{List, [], ◌∷◌, ◌++◌}
use Prim.Native.Nat.{ℕ, zero, suc, ◌+◌, ◌*◌, ◌≤◌, ◌<◌}
use native.Mathlib.Omega.{arith}
use lib.Dec.{ltb}
use borrow.Author.Tests.{ltb-true, ltb-false, lt-ltb}
use Rattle.laws.proofs.Tests.{split, and_left, and_right}
use Rattle.partitions.specs.Settings.{count_over}
use Rattle.partitions.specs.declared.Settings.{Settings}
use Rattle.why_settings.specs.Faults.{each, sharing, condition_at, condition_for, used_of, faults_of}
use Rattle.why_settings.specs.declared.Fault.{Fault}
use Rattle.why_settings.specs.declared.Fault.TheVariants.{NoSectors, PastFlash, Shares, LinksUp, LinksToB, ManyUsers, ReservedUser}
use Rattle.why_claims.specs.Claims.{rank_of, ranks_from}

-- the rank of the last fault, or n where there is none
abbrev last_rank : ℕ → List Fault → ℕ
last_rank n [] = n
last_rank n (x ∷ l) = last_rank (rank_of x) l

-- ranks rise from over n to at most m
record Rising (n m : ℕ) (l : List Fault) : Type 0 where
  rises : ranks_from n l ≡ true
  ends : last_rank n l ≤ m

and_true : {a b : Bool} → a ≡ true → b ≡ true → a && b ≡ true
and_true p q = rw (p, q)

lower : (n m : ℕ) → n ≤ m → (l : List Fault) → ranks_from m l ≡ true → ranks_from n l ≡ true
lower n m h [] e = refl
lower n m h (x ∷ l) e =
    let q = ltb-true m (rank_of x) (and_left (ltb m (rank_of x)) (ranks_from (rank_of x) l) e) in
    and_true {a = ltb n (rank_of x)} {b = ranks_from (rank_of x) l} (lt-ltb n (rank_of x) (omega (arith, h, q))) (and_right (ltb m (rank_of x)) (ranks_from (rank_of x) l) e)

joined_rises : (n : ℕ) (l m : List Fault) → ranks_from n l ≡ true → ranks_from (last_rank n l) m ≡ true → ranks_from n (l ++ m) ≡ true
joined_rises n [] m p q = q
joined_rises n (x ∷ l) m p q =
    let a : ltb n (rank_of x) ≡ true = and_left (ltb n (rank_of x)) (ranks_from (rank_of x) l) p in
    let b : ranks_from (rank_of x) (l ++ m) ≡ true = joined_rises (rank_of x) l m (and_right (ltb n (rank_of x)) (ranks_from (rank_of x) l) p) q in
    and_true {a = ltb n (rank_of x)} {b = ranks_from (rank_of x) (l ++ m)} a b

joined_last : (n : ℕ) (l m : List Fault) → last_rank n (l ++ m) ≡ last_rank (last_rank n l) m
joined_last n [] m = refl
joined_last n (x ∷ l) m = joined_last (rank_of x) l m

last_most : (n m : ℕ) → n ≤ m → (l : List Fault) → last_rank n l ≤ last_rank m l
last_most n m h [] = h
last_most n m h (x ∷ l) = omega arith

-- one list after the other
joined : (a b c : ℕ) (l m : List Fault) → Rising a b l → Rising b c m → Rising a c (l ++ m)
joined a b c l m p q =
    record {
      rises = joined_rises a l m p.rises (lower (last_rank a l) b p.ends m q.rises);
      ends = let e = joined_last a l m in let h = last_most (last_rank a l) b p.ends m in let k = q.ends in omega (arith, e, h, k);
    }

-- f 0, then f 1, ..
steps : (f : ℕ → List Fault) (bound : ℕ → ℕ) (n : ℕ) → ((k : ℕ) → k < n → Rising (bound k) (bound (suc k)) (f k)) → Rising (bound zero) (bound n) (each f n)
unfolding each
steps f bound zero h = record { rises = refl; ends = omega arith }
steps f bound (suc n) h =
    joined (bound zero) (bound n) (bound (suc n)) (each f n) (f n) (steps f bound n (λ k l. h k (omega (arith, l)))) (h n (omega arith))

single : (n m : ℕ) (x : Fault) → n < rank_of x → rank_of x ≤ m → Rising n m (x ∷ [])
single n m x p q = record { rises = and_true (lt-ltb n (rank_of x) p) refl; ends = q }

-- up to 16 entries, each of which has 16 ranks
entries : (f : ℕ → List Fault) (a n : ℕ) → n ≤ 16 → ((k : ℕ) → k < n → Rising (a + k * 16) (a + k * 16 + 16) (f k)) → Rising a (a + 256) (each f n)
entries f a n l h =
    let r = steps f (λ k. a + k * 16) n (λ k q. let x = h k q in record { rises = x.rises; ends = omega (arith, x.ends) }) in
    record { rises = lower a (a + 0 * 16) (omega arith) (each f n) r.rises; ends = let e = r.ends in let q = last_most a (a + 0 * 16) (omega arith) (each f n) in omega (arith, e, q, l) }

-- an entry beside the others
others : (a n k : ℕ) → a ≡ 205 * 256 → n ≤ 16 → Rising (a + k * 16) (a + k * 16 + 16) (sharing n k)
unfolding sharing
others a n k e l =
    let r = steps (λ j. Shares k j ∷ []) (λ j. a + k * 16 + j) n
    (λ j q. single (a + k * 16 + j) (a + k * 16 + suc j) (Shares k j) (omega (arith, e)) (omega (arith, e))) in
    record {
      rises = lower (a + k * 16) (a + k * 16 + 0) (omega arith) (each (λ j. Shares k j ∷ []) n) r.rises;
      ends = let x = r.ends in let q = last_most (a + k * 16) (a + k * 16 + 0) (omega arith) (each (λ j. Shares k j ∷ []) n) in omega (arith, x, q, l);
    }

-- the seven conditions of entries, one after the other
conditions : (n : ℕ) → n ≤ 16 → Rising 51968 53760 (each (condition_for n) 7)
unfolding each condition_for condition_at
conditions n l =
    joined 51968 53504 53760 _ (each (condition_at n 6) n)
    (joined 51968 53248 53504 _ (each (condition_at n 5) n)
    (joined 51968 52992 53248 _ (each (condition_at n 4) n)
    (joined 51968 52736 52992 _ (each (condition_at n 3) n)
    (joined 51968 52480 52736 _ (each (condition_at n 2) n)
    (joined 51968 52224 52480 _ (each (condition_at n 1) n)
    (entries (condition_at n 0) 51968 n l (λ k q. single (51968 + k * 16) (51968 + k * 16 + 16) (NoSectors k) (omega arith) (omega arith)))
    (entries (condition_at n 1) 52224 n l (λ k q. single (52224 + k * 16) (52224 + k * 16 + 16) (PastFlash k) (omega arith) (omega arith))))
    (entries (condition_at n 2) 52480 n l (λ k q. others 52480 n k refl l)))
    (entries (condition_at n 3) 52736 n l (λ k q. single (52736 + k * 16) (52736 + k * 16 + 16) (LinksUp k) (omega arith) (omega arith))))
    (entries (condition_at n 4) 52992 n l (λ k q. single (52992 + k * 16) (52992 + k * 16 + 16) (LinksToB k) (omega arith) (omega arith))))
    (entries (condition_at n 5) 53248 n l (λ k q. single (53248 + k * 16) (53248 + k * 16 + 16) (ManyUsers k) (omega arith) (omega arith))))
    (entries (condition_at n 6) 53504 n l (λ k q. single (53504 + k * 16) (53504 + k * 16 + 16) (ReservedUser k) (omega arith) (omega arith)))

used_most : (s : Settings) → used_of s ≤ 16
used_most s = split (count_over s) (λ h. rw h (omega arith)) (λ h. let q = ltb-false 16 s.count h in rw h q)

pub faults_rank : (s : Settings) → ranks_from 0 (faults_of s) ≡ true
unfolding faults_of
faults_rank s = lower 51713 51968 (omega arith) (each (condition_for (used_of s)) 7) (conditions (used_of s) (used_most s)).rises
