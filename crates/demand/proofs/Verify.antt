-- The claims of specs/Verify.antt hold. Assumes nothing.
use Prim.Native.Nat.{ℕ, ◌+◌, ◌-◌, ◌≤◌, ◌<◌}
use mathlib.Core.Path.{◌≡◌, refl, sym, ap, subst, ◌∙◌}
use mathlib.Core.Logic.{◌≢◌, ◌⊎◌, inl, inr}
use mathlib.Core.Bool.{Bool, true, false, not, cond}
use mathlib.Core.List.{List}
use native.Mathlib.Omega.{arith}
use lib.Dec.{eqb}
use lib.ListN.{length, get_or, take, drop}
use lib.Seq.{get_or-take, get_or-drop}
use borrow.Author.Tests.{le-leb, eq-eqb, eqb-true, eqb-false, not-true, not-false}
use Rattle.std.specs.Prelude.{Result, Ok, Err}
use Rattle.laws.specs.Sets.{any}
use Rattle.laws.proofs.Tests.{split, clash}
use Rattle.laws.proofs.Laws.{any_none, any_all, any_found}
use Rattle.memory.specs.Flash.{payload_of}
use Rattle.partitions.specs.Settings.{good_settings}
use Rattle.partitions.specs.declared.Settings.{Settings}
use Rattle.transfer.specs.declared.Answer.{Answer}
use Rattle.transfer.specs.Transfer.{good_state, accepted, step_of}
use Rattle.transfer.specs.declared.Kind.{Kind}
use Rattle.transfer.specs.declared.State.{State}
use Rattle.transfer.specs.declared.State.TheVariants.{Idle}
use Rattle.transfer.specs.declared.Answer.TheVariants.{BadBuffers, BadSettings}
use Rattle.uf2_checks.specs.Screen.{screen_of, Screening}
use Rattle.uf2_checks.specs.declared.Body.{Body}
use Rattle.uf2_checks.specs.declared.Body.TheVariants.{Page, Note}
use Rattle.arrival.specs.Arrive.{Held, World, stays, standing, deed_of, after_screening, decide, buffer_of, lengths_of, right_lengths, forecast_number, forecast_of, look_of}
use Rattle.arrival.specs.Facts.{LengthsKept}
use Rattle.arrival.specs.Lists.{receive_all}
use Rattle.arrival.specs.Windows.{window_start}
use Rattle.arrival.proofs.Count.{body_of, placed_of}
use Rattle.arrival.proofs.Paged.{Fits}
use Rattle.arrival_claims.proofs.Screening.{lens, Board, Good, screen_good}
use Rattle.arrival_claims.proofs.DecisionFacts.{raised_number}
use Rattle.arrival_claims.proofs.Effect.{Valid}
use Rattle.uf2_verify.specs.declared.Stand.{Stand}
use Rattle.uf2_verify.specs.Stands.{stand_number, differ_at, same_page, page_stands, body_stands, told_by, after_rows, stand_of}
use Rattle.demand.specs.Demand.{File, address_of, is_data, origin_of, storage_of, ValidFile, Sent, seen_of, Plain, ListEnds}
use Rattle.demand.proofs.Files.{blocks_of, board, block_size, screen_block, valid}
use Rattle.demand.proofs.Demand.{list_ends}
use Rattle.demand.proofs.Starts.{origin_there, valid_there}
use Rattle.demand.specs.Verify.{told_of, payload_byte, memory_byte, InMemory, EveryMemory, AllStand, DiffersByAByte, EitherIsTold, InMemoryIsTold, ReceivedStands, RefusalsOfALook}

-- ---- 95 and 96 by the comparison

told_either : (b : Bool) → (stand_number (told_by b) ≡ 95) ⊎ (stand_number (told_by b) ≡ 96)
told_either true = inl refl
told_either false = inr refl

told_95 : (b : Bool) → stand_number (told_by b) ≡ 95 → b ≡ true
told_95 true e = refl
told_95 false e = absurd (omega (arith, e))

told_96 : (b : Bool) → stand_number (told_by b) ≡ 96 → b ≡ false
told_96 false e = refl
told_96 true e = absurd (omega (arith, e))

-- ---- two pages

module _ (a b : List ℕ) where
  pub same_byte : same_page a b ≡ true → (i : ℕ) → i < 256 → get_or a i 0 ≡ get_or b i 0
  unfolding same_page
  same_byte e i h = eqb-true _ _ (not-false _ (any_all (differ_at a b) 256 (not-true _ e) i h))

  pub bytes_same : ((i : ℕ) → i < 256 → get_or a i 0 ≡ get_or b i 0) → same_page a b ≡ true
  unfolding same_page
  bytes_same f = ap not (any_none (differ_at a b) 256 (λ i h. ap not (eq-eqb _ _ (f i h))))

  pub other_byte : same_page a b ≡ false → (i : ℕ) × (i < 256) × (get_or a i 0 ≢ get_or b i 0)
  unfolding same_page
  other_byte e =
      let f = any_found (differ_at a b) 256 (not-false _ e) in
      (f.0, f.1, eqb-false _ _ (not-true _ f.2))

-- ---- a block of a valid file

module _ (s : Settings) (w : World) (F : File) (idle : w.transfer ≡ Idle) (ok : ValidFile s w F) (h : Held) (n : lengths_of h ≡ lengths_of w.held) where
  -- the board when it is asked, with a fresh transfer
  abbrev v : World
  v = record { transfer = Idle; seen = w.seen; held = record { flash = h.flash; sectors = w.held.sectors; main = h.main; xip = h.xip } }

  alike : LengthsKept v w
  alike = record { buffers = n; seen = refl; sectors = refl }

  there : ValidFile s v F
  there = valid_there s v w alike (sym idle) F ok

  buffer_is : (u : Kind) → buffer_of u v.held ≡ buffer_of u h
  buffer_is Kind.Flash = refl
  buffer_is Kind.MainRam = refl
  buffer_is Kind.XipRam = refl

  B : Board s v
  B = board s v F refl there

  module _ (k : ℕ) (l : k < F.total) where
    abbrev a : List ℕ
    a = F.block k

    right : right_lengths (length a) (lengths_of h) 16384 1024 ≡ true
    unfolding right_lengths
    right = rw (block_size s v F refl there k l, B.flash, B.main, B.xip)

    stand-block : stand_of s h a ≡ told_by (body_stands h F.kind (body_of (blocks_of s v F) k) (payload_of a))
    unfolding stand_of after_rows
    stand-block = rw (right, B.good, screen_block s v F refl there k l)

    abbrev at : ℕ
    at = storage_of s v F k

    abbrev page : List ℕ
    page = take 256 (drop at (buffer_of F.kind h))

    comment-told : is_data F k ≡ false → told_of s h a ≡ 95
    comment-told c = ap stand_number stand-block ∙ rw c

    module _ (d : is_data F k ≡ true) where
      fits : Fits F.kind (length (buffer_of F.kind v.held)) at (payload_of a)
      fits = (valid s v F refl there).fits k l d

      room : at + 256 ≤ length (buffer_of F.kind h)
      room = subst (λ (b : List ℕ). at + 256 ≤ length b) (buffer_is F.kind) fits.within

      page-told : told_of s h a ≡ stand_number (told_by (same_page page (payload_of a)))
      unfolding page_stands
      page-told = ap stand_number stand-block ∙ rw (d, eq-eqb (length (payload_of a)) 256 fits.full, le-leb (at + 256) (length (buffer_of F.kind h)) room)

      -- byte i of either, in the words of the claims
      byte-there : (i : ℕ) → i < 256 → get_or page i 0 ≡ memory_byte s w h F k i
      byte-there i b =
          rw (get_or-take, get_or-drop)
          (ap (λ (o : ℕ). get_or (buffer_of F.kind h) (o + (address_of F k - window_start F.kind) + i) 0) (origin_there s v w alike (sym idle) F.kind F.family))

      byte-sent : (i : ℕ) → i < 256 → get_or (payload_of a) i 0 ≡ payload_byte F k i
      unfolding payload_of
      byte-sent i b = rw (get_or-take, get_or-drop) refl

      same-is : told_of s h a ≡ 95 → InMemory s w h F k
      same-is e i b =
          sym (byte-there i b) ∙ same_byte page (payload_of a) (told_95 _ (sym page-told ∙ e)) i b ∙ byte-sent i b

      is_same : InMemory s w h F k → told_of s h a ≡ 95
      is_same f =
          page-told ∙ ap (λ (b : Bool). stand_number (told_by b)) (bytes_same page (payload_of a) (λ i b. byte-there i b ∙ f i b ∙ sym (byte-sent i b)))

      is-other : told_of s h a ≡ 96 → (i : ℕ) × (i < 256) × (memory_byte s w h F k i ≢ payload_byte F k i)
      is-other e =
          let f = other_byte page (payload_of a) (told_96 _ (sym page-told ∙ e)) in
          (f.0, f.1, λ q. f.2 (byte-there f.0 f.1 ∙ q ∙ sym (byte-sent f.0 f.1)))

    either : (told_of s h a ≡ 95) ⊎ (told_of s h a ≡ 96)
    either = subst (λ (x : Result Stand Answer). (stand_number x ≡ 95) ⊎ (stand_number x ≡ 96)) (sym stand-block)
        (told_either (body_stands h F.kind (body_of (blocks_of s v F) k) (payload_of a)))

    differs : told_of s h a ≡ 96 → (is_data F k ≡ true) × ((i : ℕ) × (i < 256) × (memory_byte s w h F k i ≢ payload_byte F k i))
    differs e =
        split (is_data F k)
        (λ d. (d, is-other d e))
        (λ c. absurd (omega (arith, e, comment-told c)))

    all_there : (is_data F k ≡ true → InMemory s w h F k) → told_of s h a ≡ 95
    all_there f = split (is_data F k) (λ d. is_same d (f d)) comment-told

pub all_stand : AllStand
unfolding AllStand
all_stand s w F idle ok h n f k l d = same-is s w F idle ok h n k l d (f k l)

pub differs_by_a_byte : DiffersByAByte
unfolding DiffersByAByte
differs_by_a_byte s w F idle ok h n k l e = differs s w F idle ok h n k l e

pub either_is_told : EitherIsTold
unfolding EitherIsTold
either_is_told s w F idle ok h n k l = either s w F idle ok h n k l

pub in_memory_is_told : InMemoryIsTold
unfolding InMemoryIsTold
in_memory_is_told s w F idle ok h n k l f = all_there s w F idle ok h n k l f

pub received_stands : ReceivedStands
unfolding ReceivedStands ListEnds
received_stands s w F idle ok l sent plain k b m =
    let E = (list_ends s w F idle ok l sent plain).contents in
    all_there s w F idle ok (receive_all s w l).held E.lengths k b
    (λ d i c. E.payloads k b m d i c ∙ (unfold payload_of in rw (get_or-take, get_or-drop)))

-- ---- the refusals of a look

-- x is what a look says, and y what is told
abbrev Agree : ℕ → ℕ → Type 0
Agree x y = (x ≤ 11 → y ≡ x) × (12 ≤ x → (y ≡ 95) ⊎ (y ≡ 96))

module _ (s : Settings) (w : World) (a : List ℕ) where
  abbrev looked : Bool → Bool → Screening → ℕ
  looked r g c =
      forecast_number
      (forecast_of
      (cond (not r) (stays BadBuffers)
      (cond (not g) (stays BadSettings)
      (after_screening Idle w.seen (standing s w.held.flash a) c))))

  abbrev told : Bool → Bool → Screening → ℕ
  told r g c = stand_number (cond (not r) (Err BadBuffers) (cond (not g) (Err BadSettings) (after_rows w.held (payload_of a) c)))

  both : (r g : Bool) (c : Screening) → Good s w a c → Agree (looked r g c) (told r g c)
  unfolding after_screening after_rows step_of accepted
  both false g c f = (λ q. refl, λ q. absurd (omega (arith, q)))
  both true false c f = (λ q. refl, λ q. absurd (omega (arith, q)))
  both true true (Err x) f = (λ q. refl, λ q. absurd (omega (arith, q, f.1)))
  both true true (Ok g) f = (
    λ q. absurd (omega (arith, q, raised_number (deed_of (standing s w.held.flash a) g) g.head 1)),
    λ q. told_either (body_stands w.held g.head.kind g.body (payload_of a)),
  )

pub refusals_of_a_look : RefusalsOfALook
unfolding RefusalsOfALook look_of stand_of decide good_state
refusals_of_a_look s w a idle m k =
    let f =
    both s w a (right_lengths (length a) (lengths_of w.held) 16384 1024) (good_settings s (length w.held.flash)) (screen_of s (lens w) Idle a)
    (subst (λ (t : State). Good s w a (screen_of s (lens w) t a)) idle (screen_good s w a)) in
    rw (m, k, idle) f
