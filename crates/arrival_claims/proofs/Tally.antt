-- The claim of specs/Tally.antt holds. Assumes nothing.
use Prim.Native.Nat.{ℕ, ◌+◌, ◌-◌, ◌≤◌, ◌<◌}
use mathlib.Core.Path.{◌≡◌, refl, sym, ap, subst, ◌∙◌}
use mathlib.Core.Bool.{Bool, true, false, not, cond, ◌&&◌, ◌||◌}
use mathlib.Core.List.{List, [], ◌∷◌}
use native.Mathlib.Omega.{arith}
use lib.Dec.{ltb}
use lib.ListN.{length}
use borrow.Author.Tests.{ltb-false, le-leb, lt-leb}
use Rattle.laws.specs.Sets.{Set, none, add, size}
use Rattle.laws.proofs.Tests.{split, clash}
use Rattle.laws.proofs.Laws.{Within, size_none, size_le, size_add, size_within, within_none, within_add}
use Rattle.memory.specs.Bitmap.{marked_in, with_mark, map_of, marks}
use Rattle.memory.proofs.bitmap.MapLaws.{map_none, marked_map, mark_map, marks_map}
use Rattle.uf2_block.specs.Block.{field_at}
use Rattle.memory.specs.Flash.{payload_of}
use Rattle.partitions.specs.declared.Settings.{Settings}
use Rattle.transfer.specs.Transfer.{number_of, count_of, counted, accepted}
use Rattle.transfer.specs.declared.Head.{Head}
use Rattle.transfer.specs.declared.State.{State}
use Rattle.transfer.specs.declared.State.TheVariants.{Idle, Running, Done}
use Rattle.transfer.specs.declared.Deed.{Deed}
use Rattle.transfer.specs.declared.Accepted.{Accepted}
use Rattle.arrival.specs.Arrive.{World, Outcome, Decision, cleared_if, accept_of, done, receive_of}
use Rattle.arrival.specs.Lists.{Delivery, play_all}
use Rattle.arrival.specs.Windows.{head_of}
use Rattle.arrival_claims.specs.Tally.{is_accepted, clears, accepted_by, accepted_of, any_accepted, CountIsMarks}
use Rattle.arrival_claims.proofs.Screening.{passing_few}
use Rattle.arrival_claims.proofs.DecisionFacts.{AcceptFacts, took_number, deed_at, DecisionFacts, refused, took, decision_facts}

-- ---- the transfer and the seen map, A being what was accepted since the last clearing

-- the numbers of A are below the total g has, are c in number, and are what the map marks
pub record Counted (g : Head) (seen : List ℕ) (A : Set) (c : ℕ) : Type 0 where
  pub map : seen ≡ map_of 16384 A
  pub number : size g.total A ≡ c
  pub within : Within g.total A
  pub few : g.total ≤ 131072

abbrev Kept : State → List ℕ → Set → Type 0
Kept Idle seen A = Unit {0}
Kept (Running r) seen A = Counted r.head seen A r.count
Kept (Done g) seen A = Counted g seen A g.total

-- a block is counted on a map of A
counted_more : (g : Head) (n : ℕ) (A : Set) (m : List ℕ) (c : ℕ) → n < g.total → Counted g m A c → A n ≡ false
    → Kept (counted g (c + 1)) (with_mark m n) (add n A)
unfolding counted
counted_more g n A m c h e new =
    let z : size g.total (add n A) ≡ c + 1 = omega (arith, size_add g.total A n h new, e.number) in
    let p : with_mark m n ≡ map_of 16384 (add n A) = ap (λ (x : List ℕ). with_mark x n) e.map ∙ mark_map 16384 A n (omega (arith, e.few)) in
    let i : Within g.total (add n A) = within_add g.total n A h e.within in
    split (ltb (c + 1) g.total)
    (λ q. rw q (record { map = p; number = z; within = i; few = e.few }))
    (λ q.
    rw q
    (record {
      map = p;
      number = omega (arith, z, ltb-false (c + 1) g.total q, size_le g.total (add n A));
      within = i;
      few = e.few;
    }))

-- before the block that is accepted: no mark where the maps are cleared, else what the running transfer has
ready : (t : State) (seen : List ℕ) (A : Set) (g : Head) (n : ℕ) (d : Deed) (k : Accepted) → length seen ≡ 16384 → g.total ≤ 131072 → n < g.total
    → AcceptFacts t g (marked_in seen n) d k → Kept t seen A → (b : Bool) → clears t g ≡ b
    → Counted g (cleared_if b seen) (cond b none A) (cond b 0 (count_of t)) × (cond b none A n ≡ false)
unfolding cleared_if
ready t seen A g n d k l few h q e true y = (
  record { map = rw l (map_none 16384); number = size_none g.total; within = within_none g.total; few = few },
  refl,
)
ready t seen A g n d k l few h q e false z =
    let r = q.going z in
    let c : Counted r.0.head seen A r.0.count = subst (λ (t : State). Kept t seen A) r.1 e in
    let d : Counted g seen A r.0.count = subst (λ (g : Head). Counted g seen A r.0.count) r.2 c in (
      subst (λ (t : State). Counted g seen A (count_of t)) (sym r.1) d,
      sym (ap (λ (m : List ℕ). marked_in m n) d.map ∙ marked_map 16384 A n (omega (arith, few))) ∙ r.3,
    )

-- ---- one arrival

abbrev is_idle : State → Bool
is_idle Idle = true
is_idle (Running r) = false
is_idle (Done g) = false

counted_busy : (g : Head) (c : ℕ) → is_idle (counted g c) ≡ false
unfolding counted
counted_busy g c = split (ltb c g.total) (λ y. rw y) (λ z. rw z)

-- what an outcome keeps: the map of the accepted numbers, and Idle exactly where none was
pub record Keeping (s : Settings) (w : World) (a : List ℕ) (A : Set) (o : Outcome) : Type 0 where
  pub held : Kept o.world.transfer o.world.seen
      (cond (is_accepted o.answer) (add (field_at a 20) (cond (clears w.transfer (head_of w a)) none A)) A)
  pub busy : is_idle o.world.transfer ≡ not (is_accepted o.answer) && is_idle w.transfer

keeping : (s : Settings) (w : World) (a : List ℕ) (A : Set) {d : Decision} → DecisionFacts s w a d → Kept w.transfer w.seen A
    → Keeping s w a A (done w (payload_of a) d)
unfolding done accept_of accepted
keeping s w a A (refused x h) e =
    record { held = rw (lt-leb 14 (number_of x) (omega arith)) e; busy = rw (lt-leb 14 (number_of x) (omega arith)) }
keeping s w a A (took g k B l q t) e =
    let b = clears w.transfer g.head in
    let y : is_accepted k.answer ≡ true = le-leb 14 (number_of k.answer) (took_number t) in
    let total : g.head.total ≡ field_at a 24 = ap (λ (h : Head). h.total) q.head in
    let few : g.head.total ≤ 131072 = omega (arith, passing_few s w a g q B) in
    let below : g.number < g.head.total = omega (arith, q.number, q.below) in
    let r = ready w.transfer w.seen A g.head g.number (deed_at s w a g) k B.seen few below t e b refl in
    let c : cond b 0 (count_of w.transfer) + 1 ≡ cond b 1 (count_of w.transfer + 1) = plus b in
    let f : k.transfer.state ≡ counted g.head (cond b 0 (count_of w.transfer) + 1) =
    ap (λ (x : Accepted). x.transfer.state) t.is ∙ ap (counted g.head) (sym c) in
    let m : k.clears ≡ b = ap (λ (x : Accepted). x.clears) t.is in
    record {
      held =
          rw (y, f, m, ← q.head, ← q.number)
          (counted_more g.head g.number (cond b none A) (cleared_if b w.seen) (cond b 0 (count_of w.transfer)) below r.0 r.1);
      busy = rw (y, f) (counted_busy g.head (cond b 0 (count_of w.transfer) + 1));
    }
  where
    plus : (b : Bool) → cond b 0 (count_of w.transfer) + 1 ≡ cond b 1 (count_of w.transfer + 1)
    plus true = omega arith
    plus false = refl

-- ---- turns

step : (s : Settings) (w : World) (a : List ℕ) (A : Set) → Kept w.transfer w.seen A → Keeping s w a A (receive_of s w a)
step s w a A e = unfold receive_of in keeping s w a A (decision_facts s w a) e

kept_all : (l : List Delivery) (w : World) (A : Set) → Kept w.transfer w.seen A
    → Kept (play_all w l).transfer (play_all w l).seen (accepted_of w l A)
unfolding play_all accepted_of
kept_all [] w A e = e
kept_all (t ∷ l) w A e =
    let s = t.settings in
    let a = t.arrival in
    kept_all l (receive_of s w a).world (accepted_by s w a A) (step s w a A e).held

idle_all : (l : List Delivery) (w : World) (A : Set) → Kept w.transfer w.seen A
    → is_idle (play_all w l).transfer ≡ not (any_accepted w l) && is_idle w.transfer
unfolding play_all any_accepted accepted_of
idle_all [] w A e = refl
idle_all (t ∷ l) w A e =
    let s = t.settings in
    let a = t.arrival in
    let k = step s w a A e in
    idle_all l (receive_of s w a).world (accepted_by s w a A) k.held
    ∙ ap (λ (b : Bool). not (any_accepted (receive_of s w a).world l) && b) k.busy
    ∙ both (is_accepted (receive_of s w a).answer) (any_accepted (receive_of s w a).world l) (is_idle w.transfer)
  where
    both : (x y z : Bool) → not y && (not x && z) ≡ not (x || y) && z
    both true true z = refl
    both true false z = refl
    both false y z = refl

-- ---- the claim

idle_true : (t : State) → is_idle t ≡ true → t ≡ Idle
idle_true Idle e = refl
idle_true (Running r) e = clash false e refl
idle_true (Done g) e = clash false e refl

-- as many marks as the count
counts : (g : Head) (seen : List ℕ) (A : Set) (c : ℕ) → Counted g seen A c → (c ≡ marks seen) × (c ≡ size 131072 A)
counts g seen A c e =
    let t : ℕ = g.total in
    let n : 131072 - t + t ≡ 131072 = omega (arith, e.few) in
    let v : size t A ≡ size 131072 A = sym (size_within t (131072 - t) A e.within) ∙ ap (λ (x : ℕ). size x A) n in
    let u : marks seen ≡ size 131072 A = ap marks e.map ∙ marks_map 16384 A in
    (sym e.number ∙ v ∙ sym u, sym e.number ∙ v)

counts_of : (t : State) (seen : List ℕ) (A : Set) → Kept t seen A → is_idle t ≡ false → (count_of t ≡ marks seen) × (count_of t ≡ size 131072 A)
counts_of Idle seen A e z = clash true refl z
counts_of (Running r) seen A e z = counts r.head seen A r.count e
counts_of (Done g) seen A e z = counts g seen A g.total e

-- each number has room
rooms : (g : Head) (seen : List ℕ) (A : Set) (c : ℕ) → Counted g seen A c → (k : ℕ) → A k ≡ true → k < 131072
unfolding Within
rooms g seen A c e k y = omega (arith, e.within k y, e.few)

rooms_of_lem : (t : State) (seen : List ℕ) (A : Set) → Kept t seen A → is_idle t ≡ false → (k : ℕ) → A k ≡ true → k < 131072
rooms_of_lem Idle seen A e z = clash true refl z
rooms_of_lem (Running r) seen A e z = rooms r.head seen A r.count e
rooms_of_lem (Done g) seen A e z = rooms g seen A g.total e

pub count_is_marks : CountIsMarks
unfolding CountIsMarks
count_is_marks w idle l =
    let e : Kept w.transfer w.seen none = subst (λ (t : State). Kept t w.seen none) (sym idle) tt in
    let i : is_idle (play_all w l).transfer ≡ not (any_accepted w l) && true =
    idle_all l w none e ∙ ap (λ (t : State). not (any_accepted w l) && is_idle t) idle in
    let k = kept_all l w none e in
    let t = (play_all w l).transfer in
    let m = (play_all w l).seen in
    let A = accepted_of w l none in
    record {
      idle = (
        λ p. split (any_accepted w l)
            (λ y. clash true refl (ap is_idle (sym p) ∙ i ∙ rw y))
            (λ z. z),
        λ z. idle_true t (i ∙ rw z),
      );
      marked = λ y. (counts_of t m A k (i ∙ rw y)).0;
      different = λ y. (counts_of t m A k (i ∙ rw y)).1;
      room = λ y. rooms_of_lem t m A k (i ∙ rw y);
    }
