-- The claims of specs/Bounds.antt hold. Assumes nothing.
use Prim.Native.Nat.{ℕ, ◌+◌, ◌-◌, ◌/◌, ◌%◌, ◌≤◌, ◌<◌}
use mathlib.Core.Path.{◌≡◌, refl, sym, ap, subst, ◌∙◌}
use mathlib.Core.Logic.{◌⊎◌, ◌≢◌, ⊎_elim}
use mathlib.Core.Bool.{true, false, not, cond}
use mathlib.Core.List.{List}
use native.Mathlib.Omega.{arith}
use lib.Dec.{eqb}
use lib.ListN.{length, get_or}
use borrow.Author.Tests.{ne_eqb}
use Rattle.std.specs.Prelude.{Option, Some, Ok, Err}
use Rattle.laws.proofs.Tests.{split, clash, is_false}
use Rattle.uf2_block.specs.Block.{field_at, has_flag}
use Rattle.memory.specs.Flash.{payload_of, spans, room_at}
use Rattle.memory.proofs.flash.Laws.{length_right, get_d_store}
use Rattle.partitions.specs.declared.Settings.{Settings}
use Rattle.placement.specs.Place.{place_of, place_from}
use Rattle.placement.specs.declared.Place.{Place}
use Rattle.transfer.specs.Transfer.{number_of, same_kind}
use Rattle.transfer.specs.declared.Kind.{Kind}
use Rattle.transfer.specs.declared.Kind.TheVariants.{Flash, MainRam, XipRam}
use Rattle.transfer.specs.declared.Head.{Head}
use Rattle.transfer.specs.declared.Accepted.{Accepted}
use Rattle.transfer.specs.declared.Deed.{Deed}
use Rattle.transfer.specs.declared.Deed.TheVariants.{Stores, Notes, Keeps}
use Rattle.uf2_checks.specs.Screen.{is_lent, screen_of, Screening}
use Rattle.uf2_checks.specs.declared.Body.{Body}
use Rattle.uf2_checks.specs.declared.PlacedBlock.{PlacedBlock}
use Rattle.arrival.specs.Arrive.{Held, World, Decision, accepts, buffer_of, standing, after_screening, wiped_if, prepared_at, paged_at, at_of, done_to, accept_of, unchanged, done, receive_of}
use Rattle.arrival.specs.Windows.{window_start, has_buffer, kind_of}
use Rattle.arrival_claims.specs.Bounds.{RefusalsChangeNothing, Outside, OutsideKept, Windowed, WindowKept}
use Rattle.arrival.proofs.Heads.{kind_same}
use Rattle.arrival.proofs.Windows.{lies_is}
use Rattle.arrival.proofs.Paged.{Fits, paged_other, get_d_prepared}
use Rattle.arrival.proofs.Facts.{done_none, wiped_buffer}
use Rattle.arrival.proofs.Standing.{keeps_at}
use Rattle.arrival_claims.proofs.Effect.{spans_true}
use Rattle.arrival_claims.proofs.Screening.{flash_of, lens, Board, Passing, Good, screen_good, passing_room, passing_body, passing_fits, passing_deed}
use Rattle.arrival_claims.proofs.DecisionFacts.{board_decides, Rows, stopped, through, rows, deed_at, DecisionFacts, refused, took, decision_facts, took_number}

-- ---- answers 1 to 13

stayed : (s : Settings) (w : World) (a : List ℕ) (p : List ℕ) {d : Decision} → DecisionFacts s w a d → number_of (done w p d).answer ≤ 13
    → done w p d ≡ unchanged w (done w p d).answer
unfolding done
stayed s w a p (refused x h) n = refl
stayed s w a p (took g k B l q t) n = absurd (omega (arith, took_number t))

pub refusals_change_nothing : RefusalsChangeNothing
unfolding RefusalsChangeNothing receive_of
refusals_change_nothing s w a n = stayed s w a (payload_of a) (decision_facts s w a) n

-- ---- what an accepted block leaves of the buffers

module _ (s : Settings) (w : World) (a : List ℕ) (g : PlacedBlock) (k : Accepted) (q : Passing s w a g) (B : Board s w) where
  -- flash and RAM, with the maps cleared where the block opens a transfer
  abbrev pub before : Held
  before = wiped_if k.clears w.held

  abbrev pub after : Held
  after = (done w (payload_of a) (accepts g (deed_at s w a g) k)).world.held

  kind_is : g.head.kind ≡ kind_of w a
  kind_is = ap (λ (h : Head). h.kind) q.head

  pub left_none : (d : Deed) → deed_at s w a g ≡ d → d ≢ Stores → after ≡ before
  unfolding done accept_of
  left_none d e n = ap (λ (d : Deed). done_to d g.head.kind (at_of g.body) (payload_of a) before) e ∙ done_none d g.head.kind (at_of g.body) (payload_of a) before n

  pub deed_is : deed_at s w a g ≡ cond (has_flag a 0x1) Notes (cond (keeps_at s w a) Keeps Stores)
  deed_is = passing_deed s w a g q (standing s w.held.flash a)

  pub left_note : has_flag a 0x1 ≡ true → after ≡ before
  left_note y = left_none Notes (deed_is ∙ rw y) (λ e. let z : ◌≡◌ {A = ℕ} 0 1 = cc in omega arith)

  module _ (z : has_flag a 0x1 ≡ false) where
    abbrev pub at : ℕ
    at = q.start + (field_at a 12 - window_start (kind_of w a))

    -- what stands is kept
    pub left_kept : keeps_at s w a ≡ true → after ≡ before
    left_kept y = left_none Keeps (deed_is ∙ rw (z, y)) (λ e. let u : ◌≡◌ {A = ℕ} 0 1 = cc in omega arith)

    pub left_page : keeps_at s w a ≡ false → after ≡ paged_at (kind_of w a) at (payload_of a) before
    unfolding done accept_of
    left_page n =
        let e : deed_at s w a g ≡ Stores = deed_is ∙ rw (z, n) in
        ap (λ (d : Deed). done_to d g.head.kind (at_of g.body) (payload_of a) before) e
        ∙ ap (λ (b : Body). paged_at g.head.kind (at_of b) (payload_of a) before) (passing_body s w a g q B z)
        ∙ ap (λ (u : Kind). paged_at u at (payload_of a) before) kind_is

    pub left_fits : length a ≡ 512 → Fits (kind_of w a) (length (buffer_of (kind_of w a) before)) at (payload_of a)
    left_fits l =
        subst (λ (x : List ℕ). Fits (kind_of w a) (length x) at (payload_of a)) (sym (wiped_buffer k.clears w.held (kind_of w a)))
        (passing_fits s w a g q B z l)

  -- a buffer of another kind
  pub left_other : (u : Kind) → u ≢ kind_of w a → buffer_of u after ≡ buffer_of u w.held
  left_other u n =
      split (has_flag a 0x1)
      (λ y. ap (buffer_of u) (left_note y))
      (λ z.
      split (keeps_at s w a)
      (λ y. ap (buffer_of u) (left_kept z y))
      (λ x. ap (buffer_of u) (left_page z x) ∙ paged_other u (kind_of w a) (at z) (payload_of a) before n))
      ∙ wiped_buffer k.clears w.held u

-- ---- outside the place

-- a byte before or after a run of whole sectors is not changed by a page in it
outside_page : (start size at : ℕ) (p : List ℕ) (x : Held) (j : ℕ) → start % 4096 ≡ 0 → size % 4096 ≡ 0 → start ≤ at → at + 256 ≤ start + size
    → (j < start) ⊎ (start + size ≤ j) → get_or (paged_at Flash at p x).flash j 0 ≡ get_or x.flash j 0
unfolding paged_at
outside_page start size at p x j e f l h o =
    let away : spans at j ≡ false =
    is_false (spans at j) (λ y. let r = spans_true at j y in ⊎_elim (λ b. omega (arith, r)) (λ b. omega (arith, r)) o) in
    let far : eqb (j / 4096) (at / 4096) ≡ false = ne_eqb (j / 4096) (at / 4096) (λ y. ⊎_elim (λ b. omega arith) (λ b. omega arith) o) in
    get_d_store (prepared_at (at / 4096) x) at p j
    ∙ split (room_at (prepared_at (at / 4096) x) at p)
    (λ y. rw (y, away) (get_d_prepared (at / 4096) x j ∙ rw far))
    (λ z. rw z (get_d_prepared (at / 4096) x j ∙ rw far))

outside_done : (s : Settings) (w : World) (a : List ℕ) (j : ℕ) {d : Decision} → DecisionFacts s w a d → Outside (place_of s (flash_of w) (field_at a 28)) j
    → get_or (done w (payload_of a) d).world.held.flash j 0 ≡ get_or w.held.flash j 0
outside_done s w a j (refused x h) o = unfold done in refl
outside_done s w a j (took g k B l q t) o =
    split (same_kind Flash (kind_of w a))
    (λ y. flash (kind_same Flash (kind_of w a) y))
    (λ z. ap (λ (b : List ℕ). get_or b j 0) (left_other s w a g k q B Flash (λ e. clash (same_kind Flash (kind_of w a)) (ap (same_kind Flash) (sym e)) z)))
  where
    -- of a page of flash
    inside : Flash ≡ kind_of w a → has_flag a 0x1 ≡ false
        → get_or (paged_at (kind_of w a) (q.start + (field_at a 12 - window_start (kind_of w a))) (payload_of a) (wiped_if k.clears w.held)).flash j 0
        ≡ get_or (wiped_if k.clears w.held).flash j 0
    inside e z =
        let i = passing_room s w a g q B in
        let p : place_of s (flash_of w) (field_at a 28) ≡ Some (place_from q.start q.size) = rw (sym e) at q.place in
        let r : field_at a 12 - window_start Flash + 256 ≤ q.size = rw (sym e) at (q.page z).ends in
        rw (sym e)
        (outside_page q.start q.size (q.start + (field_at a 12 - window_start Flash)) (payload_of a) (wiped_if k.clears w.held) j
        (i.whole (sym e)).0 (i.whole (sym e)).1 (omega arith) (omega (arith, r)) (subst (λ (x : Option Place). Outside x j) p o))

    flash : Flash ≡ kind_of w a → get_or (done w (payload_of a) (accepts g (deed_at s w a g) k)).world.held.flash j 0 ≡ get_or w.held.flash j 0
    flash e =
        split (has_flag a 0x1)
        (λ y. ap (λ (h : Held). get_or h.flash j 0) (left_note s w a g k q B y))
        (λ z.
        split (keeps_at s w a)
        (λ y. ap (λ (h : Held). get_or h.flash j 0) (left_kept s w a g k q B z y))
        (λ n. ap (λ (h : Held). get_or h.flash j 0) (left_page s w a g k q B z n) ∙ inside e z))
        ∙ ap (λ (b : List ℕ). get_or b j 0) (wiped_buffer k.clears w.held Flash)

pub outside_kept : OutsideKept
unfolding OutsideKept receive_of
outside_kept s w a j o = outside_done s w a j (decision_facts s w a) o

-- ---- the windows

lent_buffer : (s : Settings) (w : World) → Board s w → (k : Kind) → is_lent (lens w) k ≡ true → has_buffer w k ≡ true
lent_buffer s w B Flash l = ap not (ne_eqb (flash_of w) 0 (λ e. omega (arith, (length_right (flash_of w) B.flash).least)))
lent_buffer s w B MainRam l = l
lent_buffer s w B XipRam l = l

pub window_kept : WindowKept
unfolding WindowKept receive_of done after_screening
window_kept s w a n z = go (rows s w a)
  where
    passed : Board s w → (x : Screening) → Good s w a x
        → 12 ≤ number_of (done w (payload_of a) (after_screening w.transfer w.seen (standing s w.held.flash a) x)).answer → Windowed w a
    passed B (Err x) h m = absurd (omega (arith, m, h.1))
    passed B (Ok g) h m =
        let k = kind_of w a in
        let i = passing_room s w a g h B in
        let p = h.page z in
        record {
          first = lies_is w (field_at a 12) k p.low p.high;
          last = lies_is w (field_at a 12 + 255) k (omega (arith, p.low)) (omega (arith, p.low, p.ends, i.ends));
          lent = lent_buffer s w B k h.lent;
        }

    go : Rows s w a → Windowed w a
    go (stopped x h e) = let m : 12 ≤ number_of x = rw e at n in absurd (omega (arith, m, h))
    go (through B l) =
        passed B (screen_of s (lens w) w.transfer a) (screen_good s w a) (rw (board_decides s w a B l) at n)
