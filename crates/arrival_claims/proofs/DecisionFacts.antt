-- What has been decided of an arrival: an answer up to 13, or a block that passed rows 1 to 11 and a step that accepts it. Assumes nothing.
use Prim.Native.Nat.{ℕ, ◌+◌, ◌≤◌, ◌<◌}
use mathlib.Core.Path.{◌≡◌, refl, sym, ap, subst}
use mathlib.Core.Logic.{◌⊎◌, inl, inr}
use mathlib.Core.Bool.{Bool, true, false, not, cond, ◌&&◌}
use mathlib.Core.List.{List}
use native.Mathlib.Omega.{arith}
use lib.Dec.{eqb, ltb}
use lib.ListN.{length}
use borrow.Author.Tests.{eqb-true, le-leb}
use Rattle.std.specs.Prelude.{Ok, Err}
use Rattle.laws.proofs.Tests.{split, clash, and_left, and_right}
use Rattle.memory.specs.Bitmap.{marked_in}
use Rattle.memory.specs.Flash.{flash_length}
use Rattle.partitions.specs.declared.Settings.{Settings}
use Rattle.partitions.specs.Settings.{good_settings}
use Rattle.transfer.specs.Transfer.{number_of, count_of, good_state, same_head, counted, deed_answer, raised, accepted, step_of, Step}
use Rattle.transfer.specs.declared.Kind.TheVariants.{MainRam, XipRam}
use Rattle.transfer.specs.declared.Head.{Head}
use Rattle.transfer.specs.declared.Run.{Run}
use Rattle.transfer.specs.declared.State.{State}
use Rattle.transfer.specs.declared.State.TheVariants.{Idle, Running, Done}
use Rattle.transfer.specs.declared.Deed.{Deed}
use Rattle.transfer.specs.declared.Deed.TheVariants.{Stores, Notes, Keeps}
use Rattle.transfer.specs.declared.Accepted.{Accepted}
use Rattle.transfer.specs.declared.Answer.{Answer}
use Rattle.transfer.specs.declared.Answer.TheVariants.{BadBuffers, BadSettings, BadState}
use Rattle.uf2_checks.specs.Screen.{screen_of, Screening}
use Rattle.uf2_checks.specs.declared.Lengths.{Lengths}
use Rattle.uf2_checks.specs.declared.PlacedBlock.{PlacedBlock}
use Rattle.arrival.specs.Arrive.{World, Decision, outcome_number, done, stays, accepts, ram_length, right_lengths, standing, deed_of, stepped, after_screening, decide, decided}
use Rattle.arrival_claims.specs.Tally.{clears}
use Rattle.arrival.proofs.Heads.{head_same}
use Rattle.arrival_claims.proofs.Screening.{flash_of, lens, Board, Passing, Good, screen_good}

-- ---- rows 1 to 3

pub board_decides : (s : Settings) (w : World) (a : List ℕ) → Board s w → length a ≡ 512
    → decided s w a ≡ after_screening w.transfer w.seen (standing s w.held.flash a) (screen_of s (lens w) w.transfer a)
unfolding decide right_lengths
board_decides s w a B l = rw (l, B.flash, B.seen, B.sectors, B.main, B.xip, B.good, B.state)

pub record Right (a : ℕ) (n : Lengths) (m k : ℕ) : Type 0 where
  pub arrival : a ≡ 512
  pub flash : flash_length n.flash ≡ true
  pub seen : m ≡ 16384
  pub sectors : k ≡ 1024
  pub main : ram_length MainRam n.main ≡ true
  pub xip : ram_length XipRam n.xip ≡ true

pub right_true : (a : ℕ) (n : Lengths) (m k : ℕ) → right_lengths a n m k ≡ true → Right a n m k
unfolding right_lengths
right_true a n m k e =
    let p1 = eqb a 512 in
    let p2 = flash_length n.flash in
    let p3 = eqb m 16384 in
    let p4 = eqb k 1024 in
    let p5 = ram_length MainRam n.main in
    let p6 = ram_length XipRam n.xip in
    let e5 = and_left (p1 && p2 && p3 && p4 && p5) p6 e in
    let e4 = and_left (p1 && p2 && p3 && p4) p5 e5 in
    let e3 = and_left (p1 && p2 && p3) p4 e4 in
    let e2 = and_left (p1 && p2) p3 e3 in
    record {
      arrival = eqb-true a 512 (and_left p1 p2 e2);
      flash = and_right p1 p2 e2;
      seen = eqb-true m 16384 (and_right (p1 && p2) p3 e3);
      sectors = eqb-true k 1024 (and_right (p1 && p2 && p3) p4 e4);
      main = and_right (p1 && p2 && p3 && p4) p5 e5;
      xip = and_right (p1 && p2 && p3 && p4 && p5) p6 e;
    }

pub data Rows (s : Settings) (w : World) (a : List ℕ) : Type 0 where
  stopped : (x : Answer) → number_of x ≤ 3 → decided s w a ≡ stays x → Rows s w a
  through : Board s w → length a ≡ 512 → Rows s w a

pub rows : (s : Settings) (w : World) (a : List ℕ) → Rows s w a
rows s w a =
    split (right_lengths (length a) (lens w) (length w.seen) (length w.held.sectors))
    (λ y.
    split (good_settings s (flash_of w))
    (λ g.
    split (good_state w.transfer)
    (λ t.
    let r = right_true (length a) (lens w) (length w.seen) (length w.held.sectors) y in
    through
    (record {
      flash = r.flash;
      seen = r.seen;
      sectors = r.sectors;
      main = r.main;
      xip = r.xip;
      good = g;
      state = t;
    })
    r.arrival)
    (λ t. stopped BadState (omega arith) (unfold decide in rw (y, g, t))))
    (λ g. stopped BadSettings (omega arith) (unfold decide in rw (y, g))))
    (λ y. stopped BadBuffers (omega arith) (unfold decide in rw y))

-- ---- rows 12 to 17

pub raised_number : (d : Deed) (g : Head) (c : ℕ) → 14 ≤ number_of (raised d g c)
unfolding raised
raised_number d g c = split (ltb c g.total) (λ y. rw y (least d)) (λ z. rw z (omega arith))
  where
    least : (d : Deed) → 14 ≤ number_of (deed_answer d)
    least Stores = omega arith
    least Notes = omega arith
    least Keeps = omega arith

-- a block that passes is answered 12 or more
pub step_late : (w : World) (p : List ℕ) (g : PlacedBlock) (d : Deed) (t : State) (b : Bool) → 12 ≤ outcome_number (done w p (stepped g d (step_of t g.head b d)))
unfolding done step_of accepted
step_late w p g d Idle b = omega (arith, raised_number d g.head 1)
step_late w p g d (Running r) b =
    split (same_head r.head g.head)
    (λ q. rw q (split b (λ y. rw y (omega arith)) (λ z. rw z (omega (arith, raised_number d g.head (r.count + 1))))))
    (λ q. rw q (omega (arith, raised_number d g.head 1)))
step_late w p g d (Done h) b = omega arith

-- a running transfer of another head
abbrev pub runs_other : State → Head → Bool
runs_other Idle g = false
runs_other (Running r) g = not (same_head r.head g)
runs_other (Done h) g = false

-- a step that accepts a block of head g to a transfer t, where its number is marked or not, and which does d
pub record AcceptFacts (t : State) (g : Head) (marked : Bool) (d : Deed) (k : Accepted) : Type 0 where
  pub discards : Bool
  pub is : k ≡ accepted d (clears t g) discards g (cond (clears t g) 1 (count_of t + 1))
  pub going : clears t g ≡ false → (r : Run) × (t ≡ Running r) × (r.head ≡ g) × (marked ≡ false)
  pub opening : clears t g ≡ true → (t ≡ Idle) ⊎ (discards ≡ true)
  pub told : discards ≡ runs_other t g

abbrev StepFacts : State → Head → Bool → Deed → Step → Type 0
StepFacts t g m d (Err x) = number_of x.answer ≤ 13
StepFacts t g m d (Ok k) = AcceptFacts t g m d k

step_facts : (t : State) (g : Head) (m : Bool) (d : Deed) → StepFacts t g m d (step_of t g m d)
unfolding step_of
step_facts Idle g m d = record { discards = false; is = refl; going = λ e. clash true refl e; opening = λ e. inl refl; told = refl }
step_facts (Running r) g m d =
    split (same_head r.head g)
    (λ q.
    split m
    (λ y. rw (q, y) (omega arith))
    (λ z.
    rw (q, z)
    (record {
      discards = false;
      is = rw q;
      going = λ e. (r, refl, head_same r.head g q, refl);
      opening = λ e. clash false (rw q at e) refl;
      told = rw q;
    })))
    (λ q. rw q (record { discards = true; is = rw q; going = λ e. clash true refl (rw q at e); opening = λ e. inr refl; told = rw q }))
step_facts (Done h) g m d = omega arith

pub took_number : {t : State} {g : Head} {m : Bool} {d : Deed} {k : Accepted} → AcceptFacts t g m d k → 14 ≤ number_of k.answer
unfolding accepted
took_number {t} {g} {m} {d} {k} q = rw q.is (raised_number d g (cond (clears t g) 1 (count_of t + 1)))

-- what such a step hands back
module _ {t : State} {g : Head} {m : Bool} {d : Deed} {k : Accepted} (q : AcceptFacts t g m d k) where
  abbrev pub raised_count : ℕ
  raised_count = cond (clears t g) 1 (count_of t + 1)

  pub took_state : k.transfer.state ≡ counted g raised_count
  unfolding accepted
  took_state = ap (λ (x : Accepted). x.transfer.state) q.is

  pub took_answer : k.answer ≡ raised d g raised_count
  unfolding accepted
  took_answer = ap (λ (x : Accepted). x.answer) q.is

  pub took_clears : k.clears ≡ clears t g
  unfolding accepted
  took_clears = ap (λ (x : Accepted). x.clears) q.is

  pub took_discarded : k.discarded ≡ q.discards
  unfolding accepted
  took_discarded = ap (λ (x : Accepted). x.discarded) q.is

-- ---- every row

-- what a block g does that the arrival passes as
abbrev pub deed_at : Settings → World → List ℕ → PlacedBlock → Deed
deed_at s w a g = deed_of (standing s w.held.flash a) g

pub data DecisionFacts (s : Settings) (w : World) (a : List ℕ) : Decision → Type 0 where
  refused : (x : Answer) → number_of x ≤ 13 → DecisionFacts s w a (stays x)
  took : (g : PlacedBlock) (k : Accepted) → Board s w → length a ≡ 512 → Passing s w a g
      → AcceptFacts w.transfer g.head (marked_in w.seen g.number) (deed_at s w a g) k
      → DecisionFacts s w a (accepts g (deed_at s w a g) k)

pub decision_facts : (s : Settings) (w : World) (a : List ℕ) → DecisionFacts s w a (decided s w a)
decision_facts s w a = go (rows s w a)
  where
    steps : Board s w → length a ≡ 512 → (g : PlacedBlock) → Passing s w a g → (st : Step)
        → StepFacts w.transfer g.head (marked_in w.seen g.number) (deed_at s w a g) st
        → DecisionFacts s w a (stepped g (deed_at s w a g) st)
    steps B l g p (Err x) h = refused x.answer h
    steps B l g p (Ok k) h = took g k B l p h

    look : Board s w → length a ≡ 512 → (x : Screening) → Good s w a x
        → DecisionFacts s w a (after_screening w.transfer w.seen (standing s w.held.flash a) x)
    look B l (Err x) h = unfold after_screening in refused x (omega (arith, h))
    look B l (Ok g) h =
        unfold after_screening in steps B l g h (step_of w.transfer g.head (marked_in w.seen g.number) (deed_at s w a g))
        (step_facts w.transfer g.head (marked_in w.seen g.number) (deed_at s w a g))

    go : Rows s w a → DecisionFacts s w a (decided s w a)
    go (stopped x h e) = subst (DecisionFacts s w a) (sym e) (refused x (omega arith))
    go (through B l) = subst (DecisionFacts s w a) (sym (board_decides s w a B l)) (look B l (screen_of s (lens w) w.transfer a) (screen_good s w a))

-- ---- whether what the arrival would store stands is asked of a page alone

pub decide_same : (s : Settings) (w : World) (a : List ℕ) (b c : Bool) → ((g : PlacedBlock) → Passing s w a g → deed_of b g ≡ deed_of c g)
    → decide s (lens w) (length w.held.sectors) w.transfer w.seen b a ≡ decide s (lens w) (length w.held.sectors) w.transfer w.seen c a
unfolding decide
decide_same s w a b c e = rw (same (screen_of s (lens w) w.transfer a) (screen_good s w a))
  where
    same : (x : Screening) → Good s w a x → after_screening w.transfer w.seen b x ≡ after_screening w.transfer w.seen c x
    same (Err x) h = unfold after_screening in refl
    same (Ok g) h = unfold after_screening in rw (e g h)

-- ---- the transfer that comes back passes row 3

pub counted_good : (g : Head) (n c : ℕ) → 1 ≤ c → n < g.total → g.total ≤ 131072 → good_state (counted g c) ≡ true
unfolding good_state counted
counted_good g n c h b t =
    split (ltb c g.total)
    (λ q. rw (q, le-leb 1 c h, q, le-leb g.total 131072 t))
    (λ q. rw (q, le-leb 1 g.total (omega arith), le-leb g.total 131072 t))
