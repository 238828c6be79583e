-- From 14 on the raised count is told, which is the count of the transfer that the take leaves, and the block's total. Assumes nothing.
use mathlib.Core.Path.{◌≡◌, refl, sym, ap, subst, ◌∙◌}
use mathlib.Core.Bool.{Bool, true, false, cond, not}
use mathlib.Core.List.{List, [], ◌∷◌, ◌++◌}
use Prim.Native.Nat.{ℕ, ◌+◌, ◌≤◌}
use native.Mathlib.Omega.{arith}
use lib.Dec.{ltb, leb}
use lib.ListN.{length}
use borrow.Author.Tests.{ltb-true, ltb-false}
use Rattle.std.specs.Prelude.{Some, None}
use Rattle.laws.proofs.Tests.{split, and_left, and_right}
use Rattle.uf2_block.specs.Block.{field_at, fields_of}
use Rattle.uf2_block.specs.declared.Block.{Block}
use Rattle.memory.specs.Flash.{payload_of}
use Rattle.partitions.specs.declared.Settings.{Settings}
use Rattle.transfer.specs.Transfer.{number_of, head_with, count_of, same_head, good_state, counted}
use Rattle.transfer.specs.declared.Kind.{Kind}
use Rattle.transfer.specs.declared.Kind.TheVariants.{Flash, MainRam, XipRam}
use Rattle.transfer.specs.declared.Head.{Head}
use Rattle.transfer.specs.declared.Run.{Run}
use Rattle.transfer.specs.declared.Answer.{Answer}
use Rattle.transfer.specs.declared.Answer.TheVariants as answer
use Rattle.transfer.specs.declared.State.{State}
use Rattle.transfer.specs.declared.State.TheVariants.{Idle, Running, Done}
use Rattle.uf2_checks.specs.Screen.{window_of, Window}
use Rattle.uf2_checks.specs.declared.Lengths.{Lengths}
use Rattle.arrival.specs.Arrive.{World, Decision, lengths_of, accept_of, done, receive_of, Forecast}
use Rattle.arrival.specs.Facts.{LookTells}
use Rattle.arrival.proofs.Facts.{look_tells}
use Rattle.arrival.proofs.Heads.{head_same}
use Rattle.arrival_claims.specs.Tally.{clears}
use Rattle.arrival_claims.proofs.DecisionFacts.{DecisionFacts, refused, took, decision_facts, raised_count, took_state}
use Rattle.why_settings.specs.Faults.{faults_of}
use Rattle.why_settings.specs.declared.Fault.{Fault}
use Rattle.why_place.specs.Placing.{flash_denials, ram_denials}
use Rattle.why_place.specs.declared.Denial.{Denial}
use Rattle.why_causes.specs.Causes.{answer_of}
use Rattle.why_causes.specs.Checks.{Deciding, none, here, later, running_row, done_row, state_row, magic_row, flags_row, header_row}
use Rattle.why_causes.specs.declared.Reason.{Reason}
use Rattle.why_causes.specs.Lengths.{flash_row, buffer_row, lengths_row}
use Rattle.why_causes.specs.Numbers.{payload_row, numbers_row, address_row, stray_row, window_row}
use Rattle.why_checks.specs.Block.{address_in, page_row, body_row, raised_of, fate_row, written_row}
use Rattle.why.specs.Why.{fault_row, settings_row, denial_row, place_row, block_row, block_kind, head_in, place_in, board_rows, checks_of, last_of, holds_in, why_of}
use Rattle.why_claims.specs.Claims.{ReasonIsTrue, AnswerIsTheReceivers, CountIsRaised}
use Rattle.why_claims.proofs.Answers.{AllAnswer}
use Rattle.why_claims.proofs.Discards.{kinds}
use Rattle.why_claims.proofs.Theorems.{reason_is_true, answer_is_the_receivers}

-- ---- what the checks from 14 on tell

-- from 14 on these two numbers are told
abbrev Tells : ℕ → ℕ → Reason → Type 0
Tells n t r = 14 ≤ number_of (answer_of r.cause) → (r.got ≡ n) × (r.against ≡ t)

abbrev All : (Reason → Type 0) → List Reason → Type 0
All P [] = Unit {0}
All P (c ∷ l) = P c × All P l

all_next : (P : Reason → Type 0) (l m : List Reason) → All P l → All P m → All P (l ++ m)
all_next P [] m h k = k
all_next P (c ∷ l) m h k = (h.0, all_next P l m h.1 k)

decided_tells : (P : Reason → Type 0) (test : Reason → Bool) (last : Reason) {l : List Reason} {r : Reason} → Deciding test last l r → P last → All P l → P r
decided_tells P test last none p h = p
decided_tells P test last (here e) p h = h.0
decided_tells P test last (later e d) p h = decided_tells P test last d p h.1

module _ (n t : ℕ) where
  -- rows 1 to 13 are under 14
  abbrev Each : List Reason → Type 0
  Each l = All (Tells n t) l

  -- a row with one answer
  under : (x : Answer) (l : List Reason) → number_of x ≤ 13 → AllAnswer x l → Each l
  under x [] m h = tt
  under x (c ∷ l) m h = (λ k. let q = ap number_of h.0 in absurd (omega (arith, m, k, q)), under x l m h.1)

  lengths_tell : (x : ℕ) (m : Lengths) (u k : ℕ) → Each (lengths_row x m u k)
  unfolding lengths_row flash_row buffer_row
  lengths_tell x m u k = under answer.BadBuffers (lengths_row x m u k) (omega arith) (refl, (refl, (refl, (refl, (refl, (refl, (refl, (refl, tt))))))))

  faults_tell : (s : Settings) (len : ℕ) (l : List Fault) → Each (fault_row s len l)
  unfolding fault_row
  faults_tell s len [] = tt
  faults_tell s len (x ∷ l) = (λ h. absurd (omega (arith, h)), faults_tell s len l)

  state_tells : (x : State) → Each (state_row x)
  unfolding state_row running_row done_row
  state_tells Idle = tt
  state_tells (Running r) = under answer.BadState (running_row r) (omega arith) (refl, (refl, (refl, tt)))
  state_tells (Done g) = under answer.BadState (done_row g) (omega arith) (refl, (refl, tt))

  header_tells : (a : List ℕ) → Each (header_row a)
  unfolding header_row magic_row flags_row
  header_tells a =
      all_next (Tells n t) (magic_row (field_at a 0) (field_at a 4) (field_at a 508)) (flags_row (field_at a 8))
      (under answer.NotBlock (magic_row (field_at a 0) (field_at a 4) (field_at a 508)) (omega arith) (refl, (refl, (refl, tt))))
      (λ h. absurd (omega (arith, h)), (λ h. absurd (omega (arith, h)), tt))

  denials_tell : (f : ℕ) (l : List Denial) → Each (denial_row f l)
  unfolding denial_row
  denials_tell f [] = tt
  denials_tell f (x ∷ l) = (λ h. absurd (omega (arith, h)), denials_tell f l)

  place_tells : (k : Kind) (f : ℕ) → Each (place_row k f)
  unfolding place_row
  place_tells Flash f = denials_tell f flash_denials
  place_tells MainRam f = denials_tell f ram_denials
  place_tells XipRam f = denials_tell f ram_denials

  payload_tells : (z : ℕ) → Each (payload_row z)
  unfolding payload_row
  payload_tells z = (λ h. absurd (omega (arith, h)), tt)

  numbers_tell : (x y z : ℕ) → Each (numbers_row x y z)
  unfolding numbers_row
  numbers_tell x y z = under answer.BadNumbers (numbers_row x y z) (omega arith) (refl, (refl, (refl, tt)))

  address_tells : (x z : ℕ) → Each (address_row x z)
  unfolding address_row
  address_tells x z = under answer.BadAddress (address_row x z) (omega arith) (refl, (refl, (refl, tt)))

  stray_tells : (x : ℕ) → Each (stray_row x)
  unfolding stray_row
  stray_tells x = under answer.BadAddress (stray_row x) (omega arith) (refl, (refl, tt))

  in_tells : (k : Kind) (x z : ℕ) → Each (address_in k x z)
  unfolding address_in window_row
  in_tells Flash x z = address_tells x z
  in_tells MainRam x z = (λ h. absurd (omega (arith, h)), tt)
  in_tells XipRam x z = (λ h. absurd (omega (arith, h)), tt)

  page_tells : (u : Window) (z : ℕ) (b : Block) → Each (page_row u z b)
  unfolding page_row
  page_tells None z b =
      all_next (Tells n t) (payload_row b.size) _ (payload_tells b.size)
      (all_next (Tells n t) (stray_row b.address) _ (stray_tells b.address) (numbers_tell b.total b.number z))
  page_tells (Some k) z b =
      all_next (Tells n t) (payload_row b.size) _ (payload_tells b.size)
      (all_next (Tells n t) (numbers_row b.total b.number z) _ (numbers_tell b.total b.number z) (in_tells k b.address z))

  body_tells : (z : ℕ) (m : Lengths) (b : Block) → Each (body_row z m b)
  unfolding body_row
  body_tells z m b = by-case b.comment
    where
      by-case : (c : Bool) → Each (cond c (numbers_row b.total b.number z) (page_row (window_of m b.address) z b))
      by-case true = numbers_tell b.total b.number z
      by-case false = page_tells (window_of m b.address) z b

  -- the rest tell them
  written_tells : Each (written_row n t)
  unfolding written_row
  written_tells = (both, (both, (both, (both, (both, (both, (both, tt)))))))
    where
      both : 14 ≤ 14 → (n ≡ n) × (t ≡ t)
      both h = (refl, refl)

fate_tells : (x : State) (g : Head) (number : ℕ) → All (Tells (raised_of x g) g.total) (fate_row x g number)
unfolding fate_row
fate_tells x g number = (λ h. absurd (omega (arith, h)), (λ h. absurd (omega (arith, h)), (λ h. (refl, refl), (λ h. (refl, refl), tt))))

module _ (s : Settings) (w : World) (a : List ℕ) where
  abbrev count : ℕ
  count = raised_of w.transfer (head_in w a)

  abbrev total : ℕ
  total = field_at a 24

  every : All (Tells count total) (checks_of s w a)
  unfolding checks_of board_rows settings_row block_row
  every =
      let P = Tells count total in
      let len = length w.held.flash in
      let lens = lengths_of w.held in
      all_next P (board_rows s w.transfer (length a) lens (length w.seen) (length w.held.sectors)) _
      (all_next P (lengths_row (length a) lens (length w.seen) (length w.held.sectors)) _ (lengths_tell count total _ _ _ _)
      (all_next P (settings_row s len) _ (faults_tell count total s len (faults_of s)) (state_tells count total w.transfer)))
      (all_next P (header_row a) _ (header_tells count total a)
      (all_next P (block_row (place_in s w a) (block_kind w a) lens (fields_of a)) _
      (all_next P (place_row (block_kind w a) (fields_of a).family) _ (place_tells count total _ _) (body_tells count total _ lens (fields_of a)))
      (all_next P (fate_row w.transfer (head_in w a) (field_at a 20)) _ (fate_tells w.transfer (head_in w a) (field_at a 20))
      (written_tells count total))))

  told_are : 14 ≤ number_of (answer_of (why_of s w a).reason.cause) → ((why_of s w a).reason.got ≡ count) × ((why_of s w a).reason.against ≡ total)
  unfolding ReasonIsTrue
  told_are h = decided_tells (Tells count total) (holds_in s w a) (last_of w a) (reason_is_true s w a) (λ q. (refl, refl)) every h

-- ---- the transfer that the take leaves

-- a raised count up to the total
counted_count : (g : Head) (c : ℕ) → c ≤ g.total → count_of (counted g c) ≡ c
unfolding counted
counted_count g c h =
    split (ltb c g.total) (λ y. rw y) (λ z. let m = ltb-false c g.total z in rw z (omega (arith, h, m)))

-- of a transfer that passes row 3
raised_within : (x : State) (g : Head) → good_state x ≡ true → 1 ≤ g.total → raised_of x g ≤ g.total
unfolding good_state raised_of
raised_within Idle g h l = l
raised_within (Running r) g h l =
    split (same_head r.head g)
    (λ y.
    let e = ap (λ (u : Head). u.total) (head_same r.head g y) in
    let m = ltb-true r.count r.head.total (and_right (leb 1 r.count) (ltb r.count r.head.total) (and_left _ (leb r.head.total 131072) h)) in
    rw y (omega (arith, e, m)))
    (λ z. rw z l)
raised_within (Done u) g h l = l

-- a block that is accepted: one that clears the maps, or one more of the running transfer
raised_took : (x : State) (g : Head) → (clears x g ≡ false → (r : Run) × (x ≡ Running r)) → cond (clears x g) 1 (count_of x + 1) ≡ raised_of x g
unfolding raised_of
raised_took Idle g h = refl
raised_took (Running r) g h = by-case (same_head r.head g)
  where
    by-case : (b : Bool) → cond (not b) 1 (r.count + 1) ≡ cond b (r.count + 1) 1
    by-case true = refl
    by-case false = refl
raised_took (Done u) g h = let e : Done u ≡ Running (h refl).0 = (h refl).1 in let z : ◌≡◌ {A = ℕ} 0 1 = cc in absurd (omega arith)

left : (s : Settings) (w : World) (a : List ℕ) {d : Decision} → DecisionFacts s w a d → 14 ≤ number_of (done w (payload_of a) d).answer
    → count_of (done w (payload_of a) d).world.transfer ≡ raised_of w.transfer (head_in w a)
unfolding done accept_of
left s w a (refused x h) n = absurd (omega arith)
left s w a (took g k B l q t) n =
    let x = w.transfer in
    let i : g.head ≡ head_in w a = q.head ∙ ap (λ (u : Kind). head_with u (field_at a 28) (field_at a 24)) (sym (kinds s w a)) in
    let c : raised_count t ≡ raised_of x g.head = raised_took x g.head (λ e. let r = t.going e in (r.0, r.1)) in
    let e = ap (λ (u : Head). u.total) i in
    let m = raised_within x g.head B.state (omega (arith, e, q.below)) in
    ap count_of (took_state t) ∙ (ap (λ (u : ℕ). count_of (counted g.head u)) c ∙ (counted_count g.head (raised_of x g.head) m ∙ ap (raised_of x) i))

pub count_is_raised : CountIsRaised
unfolding CountIsRaised AnswerIsTheReceivers LookTells receive_of
count_is_raised s w a h =
    let e : answer_of (why_of s w a).reason.cause ≡ (receive_of s w a).answer = answer_is_the_receivers s w a ∙ ap (λ (o : Forecast). o.answer) (look_tells s w a) in
    let t = told_are s w a (subst (λ (x : Answer). 14 ≤ number_of x) (sym e) h) in (
      t.0 ∙ sym (left s w a (decision_facts s w a) h),
      t.1,
    )
