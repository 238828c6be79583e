-- Arrivals one after the other: one of them, a round of the loop, and its end. Assumes nothing.
use Prim.Native.Nat.{ℕ, suc, ◌+◌, ◌-◌, ◌*◌, ◌/◌, ◌<◌, ◌≤◌}
use mathlib.Core.Path.{◌≡◌, refl, sym, ap, ◌∙◌}
use mathlib.Core.Bool.{Bool, false, ◌||◌, or-false, or_assoc}
use mathlib.Core.List.{List, [], ◌∷◌}
use native.Mathlib.Omega.{arith}
use lib.ListN.{length, take, drop, set, length-take, length-drop}
use lib.Seq.{drop-drop}
use lib.Dec.{leb}
use borrow.Author.Tests.{leb-true, leb-false}
use Rattle.std.specs.Prelude.{min}
use Rattle.std.proofs.Math.Nat.{min-eq_left, min-eq_right}
use Rattle.laws.proofs.Tests.{split}
use Rattle.uf2_block.specs.Block.{field_at}
use Rattle.partitions.specs.declared.Settings.{Settings}
use Rattle.placement.specs.Place.{StartsLow}
use Rattle.uf2_checks.specs.Screen.{rooms_of}
use Rattle.transfer.specs.Transfer.{number_of}
use Rattle.transfer.specs.declared.Transfer.{Transfer}
use Rattle.arrival.specs.Arrive.{Lent, World, Outcome, receive_of}
use Rattle.arrival.specs.Lists.{receive_all, answers_of, discards_of}
use Rattle.uf2_commit.specs.declared.receipts.Receipt.{Receipt}
use Rattle.uf2_receiver.specs.Receiver.{world, outcome, receive_known}
use Rattle.uf2_receiver.proofs.KnownLaws.{known_is}
use Rattle.transfer_layout.specs.Results.{result_of, is_acceptance}
use Rattle.uf2_batch.specs.Opening.{lens_of}
use Rattle.uf2_known.specs.declared.judged.FamilyRooms.{FamilyRooms}
use Rattle.uf2_known.specs.declared.judged.Judgement.{Judgement}
use Rattle.uf2_known.specs.Judged.{rooms_at, rooms_next, judged_of}
use Rattle.uf2_known.proofs.judged.Laws.{next_is}
use Rattle.uf2_batch.specs.declared.Turn.{Turn}
use Rattle.uf2_batch.specs.Batch.{arrivals_of, results_of, any_acceptance, stored_from, BatchEnd, batch_left, fewer, batch_of}
use Rattle.uf2_batch.specs.Parts.{Knows, Judges, TurnEnd, turn_left, turn_of}

-- ---- one arrival of many

-- what the settings say of a family, by its name
pub knows_of : (s : Settings) (len : ℕ) {f : ℕ} {k : FamilyRooms} → k ≡ rooms_at s len f → StartsLow k.rooms.flash → Knows s len k
knows_of s len e low = record { said = e ∙ ap (λ (k : FamilyRooms). rooms_at s len k.family) (sym e); low = low }

-- what is kept of the family before serves the next one
next_kept : (s : Settings) (len f : ℕ) {b k : FamilyRooms} → Knows s len b → k ≡ rooms_next b s len f → k ≡ rooms_at s len f
next_kept s len f {b} q hk =
    hk ∙ ap (λ (b : FamilyRooms). rooms_next b s len f) q.said ∙ next_is s len b.family f

pub turn_knows : (s : Settings) (len f : ℕ) {b k : FamilyRooms} → Knows s len b → k ≡ rooms_next b s len f → (StartsLow b.rooms.flash → StartsLow k.rooms.flash) → Knows s len k
turn_knows s len f q hk low = knows_of s len (next_kept s len f q hk) (low q.low)

-- and so, with what was judged before, the arrival is taken as by itself
pub turn_known : (s : Settings) (u : Transfer) (a : List ℕ) (h : Lent) {f : ℕ} {right good : Bool} {b k : FamilyRooms} {o : Outcome} → Judges s h right good → length a ≡ 512 → f ≡ field_at a 28 → Knows s (length h.flash) b → k ≡ rooms_next b s (length h.flash) f → StartsLow k.rooms.flash → o ≡ receive_known (record { right = right; good = good; rooms = k.rooms }) (world u h) a → o ≡ receive_of s (world u h) a
turn_known s u a h {f = f} judges whole hf knows hk low ho =
    let rooms = ap (λ (k : FamilyRooms). k.rooms) (next_kept s (length h.flash) f knows hk) ∙ ap (rooms_of s (length h.flash)) hf in
    ho ∙ known_is s (world u h) a (rw (judges.0, judges.1, rooms, whole), low)

-- what is handed back of it
pub turn_told : (k : FamilyRooms) {r : Receipt} {g : Lent} {o : Outcome} {x : ℕ} {b : Bool} → outcome r g ≡ o → x ≡ result_of (number_of r.answer) r.discarded → b ≡ is_acceptance (number_of r.answer) → turn_left (record { kept = k; transfer = r.transfer; result = x; accepted = b }) g ≡ turn_of o
turn_told k ho hx hb = rw (hx, hb) (ap turn_of ho)

-- ---- lengths stay

-- the lent buffers are as long as others
abbrev pub SameLengths : Lent → Lent → Type 0
SameLengths h g =
    (length h.flash ≡ length g.flash)
    × (length h.seen ≡ length g.seen)
    × (length h.sectors ≡ length g.sectors)
    × (length h.main ≡ length g.main)
    × (length h.xip ≡ length g.xip)

-- the buffers h are as long as those that were lent, g, and so judged as they were
pub record Stays (s : Settings) (g : Lent) (right good : Bool) (h : Lent) : Type 0 where
  pub lengths : SameLengths h g
  pub judged : Judges s h right good

stays_first : (s : Settings) (g : Lent) {right good : Bool} → Judges s g right good → Stays s g right good g
stays_first s g q = record { lengths = (refl, refl, refl, refl, refl); judged = q }

-- as they are judged first
pub stays_judged : (s : Settings) (g : Lent) (f : ℕ) {j : Judgement} → j ≡ judged_of s (lens_of g) (length g.seen) (length g.sectors) f → Stays s g j.right j.good g
stays_judged s g f e = stays_first s g (ap (λ (j : Judgement). j.right) e, ap (λ (j : Judgement). j.good) e)

pub stays_on : (s : Settings) (g h k : Lent) {right good : Bool} → Stays s g right good h → SameLengths k h → Stays s g right good k
stays_on s g h k q e =
    let l = q.lengths in
    record {
      lengths = (e.0 ∙ l.0, e.1 ∙ l.1, e.2 ∙ l.2, e.3 ∙ l.3, e.4 ∙ l.4);
      judged = (rw (e.0, e.1, e.2, e.3, e.4) q.judged.0, rw e.0 q.judged.1);
    }

pub arrival_size : (n i : ℕ) (a : List ℕ) → i < n → n ≤ length a / 512 → length (take (i * 512 + 512 - i * 512) (drop (i * 512) a)) ≡ 512
arrival_size n i a l m = simp (length-take, length-drop) (omega arith)

-- ---- how many are taken

pub fewest : (a b : ℕ) → min a b ≡ fewer a b
fewest a b = split (leb a b) (λ h. rw h (min-eq_left (leb-true a b h))) (λ h. rw h (min-eq_right (omega (arith, leb-false a b h))))

-- ---- the arrivals that are left

arrivals_none : (n i : ℕ) (a : List ℕ) → n ≤ i → arrivals_of (n - i) a ≡ []
unfolding arrivals_of
arrivals_none n i a h = let z : n - i ≡ 0 = omega arith in rw z

arrivals_next : (n i : ℕ) (a : List ℕ) → i < n → arrivals_of (n - i) (drop (i * 512) a) ≡ take 512 (drop (i * 512) a) ∷ arrivals_of (n - (i + 1)) (drop ((i + 1) * 512) a)
unfolding arrivals_of
arrivals_next n i a h =
    let z : n - i ≡ suc (n - (i + 1)) = omega arith in
    let w : i * 512 + 512 ≡ (i + 1) * 512 = omega arith in
    rw z (ap (λ (l : List ℕ). take 512 (drop (i * 512) a) ∷ arrivals_of (n - (i + 1)) l) (drop-drop 512 (i * 512) a ∙ ap (λ (j : ℕ). drop j a) w))

-- of n arrivals, those of l are left in the world w, a block accepted before or not: the end, with the results from index i on
unfoldable pub end_from : ℕ → Settings → World → Bool → List ℕ → ℕ → List (List ℕ) → BatchEnd
end_from n s w accepted r i l =
    record {
      number = n;
      world = receive_all s w l;
      accepted = accepted || any_acceptance (answers_of s w l);
      results = stored_from r i (results_of (answers_of s w l) (discards_of s w l));
    }

module _ (n : ℕ) (s : Settings) (accepted : Bool) (r : List ℕ) (i : ℕ) where
  -- what follows one that came to e, where the arrivals of l are left
  abbrev after : List (List ℕ) → TurnEnd → BatchEnd
  after l e = end_from n s e.world (accepted || e.accepted) (set r i e.result) (i + 1) l

  end_next : (w : World) (a : List ℕ) (l : List (List ℕ)) → end_from n s w accepted r i (a ∷ l) ≡ after l (turn_of (receive_of s w a))
  unfolding end_from receive_all answers_of discards_of results_of any_acceptance stored_from
  end_next w a l = simp or_assoc

  end_none : (w : World) → end_from n s w accepted r i [] ≡ record { number = n; world = w; accepted = accepted; results = r }
  unfolding end_from receive_all answers_of discards_of results_of any_acceptance stored_from
  end_none w = simp (or-false accepted)

  -- a round of the loop
  pub end_more : (u : Transfer) (a : List ℕ) (h : Lent) {g : Lent} (o : Turn) → i < n → turn_left o g ≡ turn_of (receive_of s (world u h) (take (i * 512 + 512 - i * 512) (drop (i * 512) a))) → end_from n s (world o.transfer g) (accepted || o.accepted) (set r i o.result) (i + 1) (arrivals_of (n - (i + 1)) (drop ((i + 1) * 512) a)) ≡ end_from n s (world u h) accepted r i (arrivals_of (n - i) (drop (i * 512) a))
  end_more u a h o lt ho =
      let l = arrivals_of (n - (i + 1)) (drop ((i + 1) * 512) a) in
      let w = world u h in
      let size : i * 512 + 512 - i * 512 ≡ 512 = omega arith in
      ap (after l) (ho ∙ ap (λ (j : ℕ). turn_of (receive_of s w (take j (drop (i * 512) a)))) size)
      ∙ sym (end_next w (take 512 (drop (i * 512) a)) l)
      ∙ ap (end_from n s w accepted r i) (sym (arrivals_next n i a lt))

  -- the end of the loop
  pub end_ran : (u : Transfer) (a : List ℕ) (h : Lent) {e : BatchEnd} → n ≤ i → end_from n s (world u h) accepted r i (arrivals_of (n - i) (drop (i * 512) a)) ≡ e → batch_left (record { number = n; transfer = u; accepted = accepted }) r h ≡ e
  end_ran u a h l q =
      sym (ap (end_from n s (world u h) accepted r i) (arrivals_none n i (drop (i * 512) a) l) ∙ end_none (world u h)) ∙ q

-- the loop begins
pub end_starts : (s : Settings) (w : World) (a r : List ℕ) {n : ℕ} → n ≡ fewer (length a / 512) (length r) → end_from n s w false r 0 (arrivals_of (n - 0) (drop (0 * 512) a)) ≡ batch_of s w a r
unfolding end_from batch_of
end_starts s w a r {n} hn =
    let whole : n - 0 ≡ n = omega arith in
    rw (whole, hn)
