-- The claims of specs/Ram.antt hold. Assumes nothing.
use Prim.Native.Nat.{ℕ, ◌+◌, ◌-◌, ◌≤◌, ◌<◌}
use mathlib.Core.Path.{◌≡◌, refl, sym, ap, ◌∙◌}
use mathlib.Core.Logic.{◌≢◌}
use mathlib.Core.Bool.{Bool, false, cond}
use mathlib.Core.List.{List}
use native.Mathlib.Omega.{arith}
use lib.ListN.{length, get_or}
use Rattle.laws.proofs.Tests.{split, clash, is_false}
use Rattle.uf2_block.specs.Block.{field_at, has_flag}
use Rattle.memory.specs.Flash.{payload_of, spans}
use Rattle.memory.proofs.flash.Laws.{get_d_payload}
use Rattle.partitions.specs.declared.Settings.{Settings}
use Rattle.transfer.specs.Transfer.{number_of, same_kind}
use Rattle.transfer.specs.declared.Kind.{Kind}
use Rattle.transfer.specs.declared.Kind.TheVariants.{Flash, MainRam, XipRam}
use Rattle.transfer.specs.declared.Accepted.{Accepted}
use Rattle.uf2_checks.specs.declared.PlacedBlock.{PlacedBlock}
use Rattle.arrival.specs.Arrive.{Held, World, Decision, buffer_of, accepts, cleared_if, wiped_if, done, receive_of}
use Rattle.arrival.specs.File.{origin_of}
use Rattle.arrival.specs.Windows.{window_start, kind_of, head_of}
use Rattle.arrival_claims.specs.Tally.{clears}
use Rattle.arrival_claims.specs.Ram.{OtherKindsKept, RamKept, RamStored, RamMarksNothing}
use Rattle.arrival.proofs.Heads.{same_kind_lem, kind_same}
use Rattle.arrival.proofs.Paged.{get_d_ram, sectors_ram}
use Rattle.arrival_claims.proofs.Effect.{spans_is}
use Rattle.arrival_claims.proofs.Screening.{Board, Passing, room_origin}
use Rattle.arrival_claims.proofs.DecisionFacts.{deed_at, DecisionFacts, refused, took, decision_facts, took_clears}
use Rattle.arrival.proofs.Standing.{keeps_at}
use Rattle.arrival.proofs.Facts.{wiped_buffer, wiped_sectors}
use Rattle.arrival_claims.proofs.Bounds.{left_note, left_page, left_fits, left_other}

-- ---- the other kinds

others : (s : Settings) (w : World) (a : List ℕ) (k : Kind) {d : Decision} → DecisionFacts s w a d → k ≢ kind_of w a
    → buffer_of k (done w (payload_of a) d).world.held ≡ buffer_of k w.held
others s w a k (refused x h) n = unfold done in refl
others s w a k (took g c B l q t) n = left_other s w a g c q B k n

pub other_kinds_kept : OtherKindsKept
unfolding OtherKindsKept receive_of
other_kinds_kept s w a k n = others s w a k (decision_facts s w a) n

-- ---- a page in RAM

-- nothing is kept there
keeps_ram : (s : Settings) (w : World) (a : List ℕ) → kind_of w a ≢ Flash → keeps_at s w a ≡ false
keeps_ram s w a n =
    let z : same_kind (kind_of w a) Flash ≡ false = is_false (same_kind (kind_of w a) Flash) (λ y. n (kind_same (kind_of w a) Flash y)) in
    rw z

-- a place in RAM starts at 0
ram_origin : (s : Settings) (w : World) (k : Kind) (f : ℕ) → k ≢ Flash → origin_of s w k f ≡ 0
ram_origin s w Flash f n = absurd (n refl)
ram_origin s w MainRam f n = refl
ram_origin s w XipRam f n = refl

module _ (s : Settings) (w : World) (a : List ℕ) (g : PlacedBlock) (c : Accepted) (q : Passing s w a g) (B : Board s w) (l : length a ≡ 512)
    (n : kind_of w a ≢ Flash) where
  start_zero : q.start ≡ 0
  start_zero =
      room_origin s w B (field_at a 28) (kind_of w a) q.start q.size q.place ∙ ram_origin s w (kind_of w a) (field_at a 28) n

  page_bytes : has_flag a 0x1 ≡ false → (j : ℕ)
      → get_or (buffer_of (kind_of w a) (done w (payload_of a) (accepts g (deed_at s w a g) c)).world.held) j 0
      ≡ cond (spans (field_at a 12 - window_start (kind_of w a)) j) (get_or (payload_of a) (j - (field_at a 12 - window_start (kind_of w a))) 0) (get_or (buffer_of (kind_of w a) w.held) j 0)
  page_bytes z j =
      let k = kind_of w a in
      let x = field_at a 12 - window_start k in
      let h = wiped_if c.clears w.held in
      let e : q.start + x ≡ x = omega (arith, start_zero) in
      ap (λ (v : Held). get_or (buffer_of k v) j 0) (left_page s w a g c q B z (keeps_ram s w a n))
      ∙ get_d_ram k (q.start + x) (payload_of a) h n (left_fits s w a g c q B z l) j
      ∙ ap (λ (i : ℕ). cond (spans i j) (get_or (payload_of a) (j - i) 0) (get_or (buffer_of k h) j 0)) e
      ∙ ap (λ (b : List ℕ). cond (spans x j) (get_or (payload_of a) (j - x) 0) (get_or b j 0)) (wiped_buffer c.clears w.held k)

-- each other byte stays
stay : (s : Settings) (w : World) (a : List ℕ) (k : Kind) (j : ℕ) {d : Decision} → DecisionFacts s w a d → k ≢ Flash
    → spans (field_at a 12 - window_start k) j ≡ false → get_or (buffer_of k (done w (payload_of a) d).world.held) j 0 ≡ get_or (buffer_of k w.held) j 0
stay s w a k j (refused x h) n e = unfold done in refl
stay s w a k j (took g c B l q t) n e =
    split (same_kind k (kind_of w a))
    (λ y. own k (kind_same k (kind_of w a) y) n e)
    (λ z. ap (λ (b : List ℕ). get_or b j 0) (left_other s w a g c q B k (λ r. clash (same_kind k (kind_of w a)) (ap (same_kind k) (sym r) ∙ same_kind_lem k) z)))
  where
    own : (k : Kind) → k ≡ kind_of w a → k ≢ Flash → spans (field_at a 12 - window_start k) j ≡ false
        → get_or (buffer_of k (done w (payload_of a) (accepts g (deed_at s w a g) c)).world.held) j 0 ≡ get_or (buffer_of k w.held) j 0
    own k r n e =
        rw r
        (split (has_flag a 0x1)
        (λ y.
        ap (λ (v : Held). get_or (buffer_of (kind_of w a) v) j 0) (left_note s w a g c q B y)
        ∙ ap (λ (b : List ℕ). get_or b j 0) (wiped_buffer c.clears w.held (kind_of w a)))
        (λ z.
        let f : spans (field_at a 12 - window_start (kind_of w a)) j ≡ false = rw r at e in
        page_bytes s w a g c q B l (rw r at n) z j ∙ rw f))

pub ram_kept : RamKept
unfolding RamKept receive_of
ram_kept s w a k j n e = stay s w a k j (decision_facts s w a) n e

-- and the 256 are the payload's
store : (s : Settings) (w : World) (a : List ℕ) (i : ℕ) {d : Decision} → DecisionFacts s w a d → 14 ≤ number_of (done w (payload_of a) d).answer
    → has_flag a 0x1 ≡ false → kind_of w a ≢ Flash → i < 256
    → get_or (buffer_of (kind_of w a) (done w (payload_of a) d).world.held) (field_at a 12 - window_start (kind_of w a) + i) 0 ≡ get_or a (32 + i) 0
store s w a i (refused x h) m z n b = let r : 14 ≤ number_of x = unfold done in m in absurd (omega arith)
store s w a i (took g c B l q t) m z n b =
    let x = field_at a 12 - window_start (kind_of w a) in
    page_bytes s w a g c q B l n z (x + i)
    ∙ rw (spans_is x (x + i) (omega arith) (omega arith))
    (ap (λ (j : ℕ). get_or (payload_of a) j 0) (omega arith) ∙ get_d_payload a i b)

pub ram_stored : RamStored
unfolding RamStored receive_of
ram_stored s w a i m z n b = store s w a i (decision_facts s w a) m z n b

-- ---- the sector map

no_mark : (s : Settings) (w : World) (a : List ℕ) {d : Decision} → DecisionFacts s w a d → 14 ≤ number_of (done w (payload_of a) d).answer
    → kind_of w a ≢ Flash
    → (done w (payload_of a) d).world.held.sectors ≡ cleared_if (clears w.transfer (head_of w a)) w.held.sectors
no_mark s w a (refused x h) m n = let r : 14 ≤ number_of x = unfold done in m in absurd (omega arith)
no_mark s w a (took g c B l q t) m n =
    split (has_flag a 0x1)
    (λ y. ap (λ (v : Held). v.sectors) (left_note s w a g c q B y))
    (λ z.
    ap (λ (v : Held). v.sectors) (left_page s w a g c q B z (keeps_ram s w a n))
    ∙ sectors_ram (kind_of w a) (q.start + (field_at a 12 - window_start (kind_of w a))) (payload_of a) (wiped_if c.clears w.held) n)
    ∙ wiped_sectors c.clears w.held
    ∙ ap (λ (b : Bool). cleared_if b w.held.sectors) (took_clears t ∙ ap (clears w.transfer) q.head)

pub ram_marks_nothing : RamMarksNothing
unfolding RamMarksNothing receive_of
ram_marks_nothing s w a m n = no_mark s w a (decision_facts s w a) m n
