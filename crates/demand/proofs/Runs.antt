-- The induction over a list of a file's blocks, mixed with arrivals that change nothing, from any start that its blocks open. Assumes nothing.
use Prim.Native.Nat.{ℕ, ◌<◌}
use mathlib.Core.Path.{◌≡◌, refl, sym, ap, subst, ◌∙◌, fun_ext}
use mathlib.Core.Bool.{Bool, true, false, ◌&&◌, ◌||◌, and-or_distrib_left, or_assoc, or_comm, and-false}
use mathlib.Core.List.{List, [], ◌∷◌, ◌++◌}
use native.Mathlib.Omega.{arith}
use lib.Dec.{eqb, ltb}
use lib.ListN.{length}
use borrow.Author.Tests.{eqb-true, eqb-false, lt-ltb, ltb-true}
use Rattle.laws.specs.Sets.{Set, add}
use Rattle.laws.proofs.Tests.{split, clash, is_false, eqb_same, and_left, and_right}
use Rattle.partitions.specs.declared.Settings.{Settings}
use Rattle.arrival.specs.Arrive.{Held, World, receive_of}
use Rattle.arrival.specs.Lists.{receive_all, AtEach}
use Rattle.demand.specs.Demand.{File, Mixed, nothing, own, other, same_bytes, among, seen_of}
use Rattle.arrival.proofs.Count.{Blocks, count, bytes_of, coming, Any, Invariant, Opens, After, Stepped, block_step, Carried, after_carried}
use Rattle.demand.proofs.Lists.{Reached, reached_next}

-- the bytes of two arrivals
pub same_true : (a b : List ℕ) → same_bytes a b ≡ true → a ≡ b
unfolding same_bytes
same_true [] [] e = refl
same_true [] (y ∷ b) e = clash false e refl
same_true (x ∷ a) [] e = clash false e refl
same_true (x ∷ a) (y ∷ b) e =
    let p : x ≡ y = eqb-true x y (and_left (eqb x y) (same_bytes a b) e) in
    let q : a ≡ b = same_true a b (and_right (eqb x y) (same_bytes a b) e) in
    λ i. p i ∷ q i

pub same_refl : (a : List ℕ) → same_bytes a a ≡ true
unfolding same_bytes
same_refl [] = refl
same_refl (x ∷ a) = rw (eqb_same x, same_refl a)

pub among_append : (a : List ℕ) (l m : List (List ℕ)) → among a (l ++ m) ≡ among a l || among a m
unfolding among
among_append a [] m = refl
among_append a (b ∷ l) m = rw (among_append a l m) (sym (or_assoc (same_bytes a b) (among a l) (among a m)))

-- ---- lists of a file's blocks, mixed with arrivals of which P holds

pub mixed_append : {F : File} {P : List ℕ → Type 0} {l m : List (List ℕ)} → Mixed F P l → Mixed F P m → Mixed F P (l ++ m)
mixed_append nothing q = q
mixed_append (own k h p) q = own k h (mixed_append p q)
mixed_append (other a f p) q = other a f (mixed_append p q)

-- the two parts of such a list are such lists
pub mixed_split : (F : File) (P : List ℕ → Type 0) (l m : List (List ℕ)) → Mixed F P (l ++ m) → Mixed F P l × Mixed F P m
mixed_split F P [] m p = (nothing, p)
mixed_split F P (a ∷ l) m p = go (λ r. mixed_split F P l m r) refl p
  where
    go : (Mixed F P (l ++ m) → Mixed F P l × Mixed F P m) → {n : List (List ℕ)} → n ≡ a ∷ (l ++ m) → Mixed F P n → Mixed F P (a ∷ l) × Mixed F P m
    go f e nothing = absurd (omega (arith, ap length e))
    go f e (own {l = n} k h r) =
        let x : F.block k ≡ a = cc in
        let y : n ≡ l ++ m = cc in
        let q = f (subst (Mixed F P) y r) in
        (subst (λ (b : List ℕ). Mixed F P (b ∷ l)) x (own k h q.0), q.1)
    go f e (other {l = n} b g r) =
        let x : b ≡ a = cc in
        let y : n ≡ l ++ m = cc in
        let q = f (subst (Mixed F P) y r) in
        (subst (λ (b : List ℕ). Mixed F P (b ∷ l)) x (other b g q.0), q.1)

pub mixed_map : {F : File} {P Q : List ℕ → Type 0} {l : List (List ℕ)} → ((a : List ℕ) → P a → Q a) → Mixed F P l → Mixed F Q l
mixed_map f nothing = nothing
mixed_map f (own k h p) = own k h (mixed_map f p)
mixed_map f (other a q p) = other a (f a q) (mixed_map f p)

-- ---- what is seen

pub seen_nothing : (F : File) (j : ℕ) → seen_of F [] j ≡ false
unfolding among
seen_nothing F j = and-false (ltb j F.total)

pub seen_append : (F : File) (l m : List (List ℕ)) (j : ℕ) → seen_of F (l ++ m) j ≡ seen_of F l j || seen_of F m j
seen_append F l m j = rw (among_append (F.block j) l m) (and-or_distrib_left (ltb j F.total) (among (F.block j) l) (among (F.block j) m))

-- the blocks of a file and the arrivals of which P holds, at every world that a list of them from w on meets: a block comes to what its page
-- does, an arrival of P changes nothing, and no two of them are the same
pub record Steady (s : Settings) (w : World) (F : Blocks) (P : List ℕ → Type 0) : Type 0 where
  pub ours : (v : World) → Reached s w v → Carried F w v.transfer → (k : ℕ) → k < count F → receive_of s v (bytes_of F k) ≡ coming F v k
  pub foreign : (v : World) → Reached s w v → Carried F w v.transfer → (a : List ℕ) → P a → (receive_of s v a).world ≡ v
  pub different : (j k : ℕ) → j < count F → k < count F → bytes_of F j ≡ bytes_of F k → j ≡ k
  pub apart : (j : ℕ) → j < count F → P (bytes_of F j) → ⊥

module _ (s : Settings) (w : World) (F : Blocks) (P : List ℕ → Type 0) (R : Steady s w F P) where
  -- block j is block k exactly if j is k
  is_block : (j k : ℕ) → k < count F → ltb j (count F) && same_bytes (bytes_of F j) (bytes_of F k) ≡ eqb j k
  is_block j k h =
      split (eqb j k)
      (λ e. rw (e, eqb-true j k e, lt-ltb k (count F) h, same_refl (bytes_of F k)))
      (λ e.
      rw e
      (is_false _
      (λ t.
      let l = ltb-true j (count F) (and_left (ltb j (count F)) (same_bytes (bytes_of F j) (bytes_of F k)) t) in
      let b : bytes_of F j ≡ bytes_of F k = same_true (bytes_of F j) (bytes_of F k) (and_right (ltb j (count F)) (same_bytes (bytes_of F j) (bytes_of F k)) t) in
      eqb-false j k e (R.different j k l h b))))

  -- no block is an arrival of P
  no_block : (j : ℕ) (a : List ℕ) → P a → ltb j (count F) && same_bytes (bytes_of F j) a ≡ false
  no_block j a f =
      is_false _
      (λ t.
      let l = ltb-true j (count F) (and_left (ltb j (count F)) (same_bytes (bytes_of F j) a) t) in
      let b : bytes_of F j ≡ a = same_true (bytes_of F j) a (and_right (ltb j (count F)) (same_bytes (bytes_of F j) a) t) in
      R.apart j l (subst P (sym b) f))

  pub seen_own : (k : ℕ) (l : List (List ℕ)) → k < count F → seen_of F.file (bytes_of F k ∷ l) ≡ add k (seen_of F.file l)
  unfolding among
  seen_own k l h =
      fun_ext
      (λ j.
      and-or_distrib_left (ltb j (count F)) (same_bytes (bytes_of F j) (bytes_of F k)) (among (bytes_of F j) l)
      ∙ ap (λ (b : Bool). b || (ltb j (count F) && among (bytes_of F j) l)) (is_block j k h))

  pub seen_other : (a : List ℕ) (l : List (List ℕ)) → P a → seen_of F.file (a ∷ l) ≡ seen_of F.file l
  unfolding among
  seen_other a l f =
      fun_ext
      (λ j.
      and-or_distrib_left (ltb j (count F)) (same_bytes (bytes_of F j) a) (among (bytes_of F j) l)
      ∙ ap (λ (b : Bool). b || (ltb j (count F) && among (bytes_of F j) l)) (no_block j a f))

-- ---- a list

-- the flash that each of its arrivals finds
abbrev pub Along : (List ℕ → Type 0) → Settings → World → List (List ℕ) → Type 0
Along Q s w l = AtEach (λ v a. Q v.held.flash) s w l

pub along_any : (s : Settings) (l : List (List ℕ)) (w : World) → Along Any s w l
unfolding AtEach
along_any s [] w = tt
along_any s (a ∷ l) w = (tt, along_any s l (receive_of s w a).world)

-- S, and then the blocks seen in a list
abbrev pub seen_from : Blocks → Set → List (List ℕ) → Set
seen_from F S l j = S j || seen_of F.file l j

module _ (s : Settings) (w : World) (F : Blocks) (P : List ℕ → Type 0) (R : Steady s w F P) (Inv : Set → Held → Type 0) (Met : List ℕ → Type 0)
    (K : Invariant F w.held Inv Met) (d : Bool) (o : Opens F w d) where
  pub from_own : (S : Set) (k : ℕ) (l : List (List ℕ)) → k < count F → seen_from F (add k S) l ≡ seen_from F S (bytes_of F k ∷ l)
  from_own S k l h =
      fun_ext
      (λ j.
      ap (λ (b : Bool). b || seen_of F.file l j) (or_comm (eqb j k) (S j))
      ∙ or_assoc (S j) (eqb j k) (seen_of F.file l j)
      ∙ sym (ap (λ (T : Set). S j || T j) (seen_own s w F P R k l h)))

  pub from_other : (S : Set) (a : List ℕ) (l : List (List ℕ)) → P a → seen_from F S l ≡ seen_from F S (a ∷ l)
  from_other S a l f = fun_ext (λ j. ap (λ (T : Set). S j || T j) (sym (seen_other s w F P R a l f)))

  -- what a block leaves, and what it is told
  pub own_step : (k : ℕ) → k < count F → (S : Set) (v : World) → Reached s w v → After F w Inv S v → Met v.held.flash
      → Stepped F w Inv d S k v.held.flash (receive_of s v (bytes_of F k))
  own_step k h S v m a e =
      subst (Stepped F w Inv d S k v.held.flash) (sym (R.ours v m (after_carried F w Inv S v a) k h)) (block_step F w Inv Met K d o k h S v a e)

  -- a foreign arrival leaves what it finds
  pub other_step : (x : List ℕ) → P x → (S : Set) (v : World) → Reached s w v → After F w Inv S v → After F w Inv S (receive_of s v x).world
  other_step x f S v m a = subst (After F w Inv S) (sym (R.foreign v m (after_carried F w Inv S v a) x f)) a

  -- the flash that each arrival finds is as `Met` says
  pub run_after : {l : List (List ℕ)} → Mixed F.file P l → (S : Set) (v : World) → Reached s w v → After F w Inv S v → Along Met s v l
      → After F w Inv (seen_from F S l) (receive_all s v l)
  unfolding receive_all AtEach
  run_after nothing S v m a e =
      subst (λ (T : Set). After F w Inv T v) (fun_ext (λ j. sym (ap (λ (b : Bool). S j || b) (seen_nothing F.file j) ∙ or_comm (S j) false))) a
  run_after (own {l = l} k h r) S v m a e =
      subst (λ (T : Set). After F w Inv T (receive_all s (receive_of s v (bytes_of F k)).world l)) (from_own S k l h)
      (run_after r (add k S) (receive_of s v (bytes_of F k)).world (reached_next s w v (bytes_of F k) m) (own_step k h S v m a e.0).next e.1)
  run_after (other {l = l} x f r) S v m a e =
      subst (λ (T : Set). After F w Inv T (receive_all s (receive_of s v x).world l)) (from_other S x l f)
      (run_after r S (receive_of s v x).world (reached_next s w v x m) (other_step x f S v m a) e.1)
