-- The induction over a list of a file's blocks where something is asked of the flash that an accepted block finds, and of no other. Assumes nothing.
use Prim.Native.Nat.{ℕ, ◌+◌, ◌<◌, ◌≤◌}
use mathlib.Core.Path.{◌≡◌, refl, sym, ap, subst, ◌∙◌, fun_ext}
use mathlib.Core.Bool.{Bool, true, false, ◌||◌, or_comm}
use mathlib.Core.List.{List}
use native.Mathlib.Omega.{arith}
use lib.Dec.{ltb}
use borrow.Author.Tests.{lt-ltb}
use Rattle.laws.specs.Sets.{Set, none, add, size}
use Rattle.laws.proofs.Tests.{split, eqb_same}
use Rattle.laws.proofs.Laws.{add_idle, size_lt, size_some}
use Rattle.memory.specs.Bitmap.{marked_in, map_of}
use Rattle.memory.proofs.bitmap.MapLaws.{marked_map}
use Rattle.memory.specs.Flash.{payload_of}
use Rattle.partitions.specs.declared.Settings.{Settings}
use Rattle.transfer.specs.Transfer.{running, counted, accepted, step_of}
use Rattle.arrival.specs.Arrive.{Held, World, Outcome, stepped, cleared_if, wiped_if, done, receive_of}
use Rattle.arrival.specs.Lists.{receive_all, AtEach}
use Rattle.demand.specs.Demand.{Mixed, nothing, own, other, answer_number}
use Rattle.arrival.proofs.Heads.{same_head_lem}
use Rattle.arrival.proofs.Pages.{arrive, apply, took_held}
use Rattle.arrival.proofs.Count.{Blocks, count, head_by, bytes_of, placed_of, deed_by, coming, applied, wipe, reached, Any, Invariant, Opens, After, untouched, begun, verdict, Stepped, some_seen, after_carried}
use Rattle.arrival_claims.proofs.DecisionFacts.{raised_number}
use Rattle.demand.proofs.Lists.{Reached, reached_next}
use Rattle.demand.proofs.Runs.{Steady, seen_nothing, seen_from, from_own, from_other, own_step}

-- ---- what block k leaves in the buffers and the sector map

module _ (F : Blocks) (few : count F ≤ 131072) (k : ℕ) (h : k < count F) where
  wiped_flash : (b : Bool) (x : Held) → (wiped_if b x).flash ≡ x.flash
  wiped_flash b x = unfold wiped_if in refl

  unwiped : (x : Held) → wiped_if false x ≡ x
  unwiped x = unfold wiped_if cleared_if in refl

  held_first : (w : World) (d : Bool) → Opens F w d → (coming F w k).world.held ≡ applied F k (wipe w.held)
  unfolding arrive done accepted
  held_first w d o =
      let e = deed_by F w.held.flash k in
      ap (λ st. (done w (payload_of (bytes_of F k)) (stepped (placed_of F k) e st)).world.held) (o.opens (marked_in w.seen k) e)
      ∙ took_held w (bytes_of F k) (F.stands w.held.flash k) (placed_of F k) (accepted e true d (head_by F) 1)
      ∙ ap (λ (f : List ℕ). apply (F.stands f k) (placed_of F k) (bytes_of F k) (wipe w.held)) (sym (wiped_flash true w.held))

  held_new : (S : Set) (x : Held) → S k ≡ false → (coming F (reached F S x) k).world.held ≡ applied F k x
  unfolding arrive step_of counted done accepted
  held_new S x z =
      let m : marked_in (map_of 16384 S) k ≡ S k = marked_map 16384 S k (omega (arith, few)) in
      rw (lt-ltb (size (count F) S) (count F) (size_lt (count F) S k h z), same_head_lem (head_by F), m, z)
      (took_held (record { transfer = running (head_by F) (size (count F) S); seen = map_of 16384 S; held = x }) (bytes_of F k) (F.stands x.flash k) (placed_of F k) (accepted (deed_by F x.flash k) false false (head_by F) (size (count F) S + 1))
      ∙ ap (apply (F.stands x.flash k) (placed_of F k) (bytes_of F k)) (unwiped x))

  held_again : (S : Set) (x : Held) → S k ≡ true → (coming F (reached F S x) k).world.held ≡ x
  unfolding arrive step_of counted done
  held_again S x y =
      let m : marked_in (map_of 16384 S) k ≡ S k = marked_map 16384 S k (omega (arith, few)) in
      split (ltb (size (count F) S) (count F)) (λ q. rw (q, same_head_lem (head_by F), m, y)) (λ q. rw q)

-- ---- a list

module _ (s : Settings) (w : World) (F : Blocks) (P : List ℕ → Type 0) (R : Steady s w F P) (few : count F ≤ 131072) (d : Bool) (o : Opens F w d)
    (Inv : Set → Held → Type 0) (Met : List ℕ → ℕ → Type 0) (begins : Inv none (wipe w.held))
    (goes_on : (S : Set) (k : ℕ) (x : Held) → k < count F → Inv S x → Met x.flash k → Inv (add k S) (applied F k x)) where
  -- transfer, seen map and answers need no invariant
  abbrev Free : Set → Held → Type 0
  Free S x = Unit {0}

  free : Invariant F w.held Free Any
  free = record { few = few; begins = tt; goes_on = λ S k x h new i m. tt }

  forget : (S : Set) (v : World) → After F w Inv S v → After F w Free S v
  forget S v (untouched e p) = untouched e p
  forget S v (begun x n i p) = begun x n tt p

  module _ (k : ℕ) (h : k < count F) (S : Set) (v : World) (m : Reached s w v) (a : After F w Inv S v)
      (met : 14 ≤ answer_number s v (bytes_of F k) → Met v.held.flash k) where
    abbrev next : World
    next = (receive_of s v (bytes_of F k)).world

    stepping : Stepped F w Free d S k v.held.flash (receive_of s v (bytes_of F k))
    stepping = own_step s w F P R Free Any free d o k h S v m (forget S v a) tt

    some : 1 ≤ size (count F) (add k S)
    some = size_some (count F) (add k S) k h (rw (eqb_same k))

    -- it is the world of the set, with some buffers
    told : (y : Held) × Unit {0} × (next ≡ reached F (add k S) y)
    told = some_seen F w Free (add k S) next stepping.next some

    came : next.held ≡ (coming F v k).world.held
    came = ap (λ (o : Outcome). o.world.held) (R.ours v m (after_carried F w Inv S v a) k h)

    to : (x : Held) → (coming F v k).world.held ≡ x → next ≡ reached F (add k S) x
    to x e = told.2 ∙ ap (reached F (add k S)) (sym (ap (λ (u : World). u.held) told.2) ∙ came ∙ e)

    -- a new block is accepted
    late : S k ≡ false → 14 ≤ answer_number s v (bytes_of F k)
    unfolding verdict
    late z =
        rw (stepping.told, lt-ltb (size (count F) S) (count F) (size_lt (count F) S k h z), z)
        (raised_number (deed_by F v.held.flash k) (head_by F) (size (count F) S + 1))

    go : After F w Inv S v → After F w Inv (add k S) next
    go (untouched e p) =
        let z : S k ≡ false = ap (λ (T : Set). T k) e in
        let same : (wipe w.held).flash ≡ v.held.flash = wiped_flash F few k h true w.held ∙ sym (ap (λ (u : World). u.held.flash) p) in
        let i : Inv (add k none) (applied F k (wipe w.held)) = goes_on none k (wipe w.held) h begins (subst (λ (f : List ℕ). Met f k) (sym same) (met (late z))) in
        begun (applied F k (wipe w.held)) some (subst (λ (T : Set). Inv (add k T) (applied F k (wipe w.held))) (sym e) i)
        (to (applied F k (wipe w.held)) (ap (λ (u : World). (coming F u k).world.held) p ∙ held_first F few k h w d o))
    go (begun x n i p) =
        let same : x.flash ≡ v.held.flash = sym (ap (λ (u : World). u.held.flash) p) in
        split (S k)
        (λ y.
        begun x some (subst (λ (T : Set). Inv T x) (sym (add_idle k S y)) i)
        (to x (ap (λ (u : World). (coming F u k).world.held) p ∙ held_again F few k h S x y)))
        (λ z.
        begun (applied F k x) some (goes_on S k x h i (subst (λ (f : List ℕ). Met f k) (sym same) (met (late z))))
        (to (applied F k x) (ap (λ (u : World). (coming F u k).world.held) p ∙ held_new F few k h S x z)))

    met-step : After F w Inv (add k S) next
    met-step = go a

  -- what is asked of an arrival and the world that it finds gives what is asked of the flash
  module _ (Q : World → List ℕ → Type 0) (asks : (k : ℕ) (v : World) → k < count F → Q v (bytes_of F k) → 14 ≤ answer_number s v (bytes_of F k) → Met v.held.flash k) where
    pub run_met : {l : List (List ℕ)} → Mixed F.file P l → (S : Set) (v : World) → Reached s w v → After F w Inv S v → AtEach Q s v l
        → After F w Inv (seen_from F S l) (receive_all s v l)
    unfolding receive_all AtEach
    run_met nothing S v m a e =
        subst (λ (T : Set). After F w Inv T v) (fun_ext (λ j. sym (ap (λ (b : Bool). S j || b) (seen_nothing F.file j) ∙ or_comm (S j) false))) a
    run_met (own {l = l} k h r) S v m a e =
        subst (λ (T : Set). After F w Inv T (receive_all s (receive_of s v (bytes_of F k)).world l)) (from_own s w F P R Free Any free d o S k l h)
        (run_met r (add k S) (receive_of s v (bytes_of F k)).world (reached_next s w v (bytes_of F k) m) (met-step k h S v m a (asks k v h e.0)) e.1)
    run_met (other {l = l} x f r) S v m a e =
        subst (λ (T : Set). After F w Inv T (receive_all s (receive_of s v x).world l)) (from_other s w F P R Free Any free d o S x l f)
        (run_met r S (receive_of s v x).world (reached_next s w v x m)
        (subst (After F w Inv S) (sym (R.foreign v m (after_carried F w Inv S v a) x f)) a) e.1)
