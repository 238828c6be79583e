-- What one stored flash page leaves. Assumes nothing.
use Prim.Native.Nat.{ℕ, ◌+◌, ◌-◌, ◌*◌, ◌/◌, ◌%◌, ◌≤◌, ◌<◌}
use mathlib.Core.Path.{◌≡◌, refl, sym, ap, subst, ◌∙◌}
use mathlib.Core.Logic.{◌⊎◌, inl, inr, ⊎_elim, ◌≢◌}
use mathlib.Core.Bool.{Bool, true, false, not, cond, ◌&&◌, ◌||◌}
use mathlib.Core.List.{List}
use native.Mathlib.Omega.{arith}
use lib.Dec.{eqb, ltb, leb}
use lib.ListN.{length, get_or}
use borrow.Author.Tests.{eqb-true, eq-eqb, ne_eqb, lt-ltb, le-ltb, ltb-true, ltb-false, lt-leb, le-leb}
use Rattle.std.specs.Prelude.{Some}
use Rattle.laws.proofs.Tests.{split, clash, is_false}
use Rattle.memory.specs.Bitmap.{marked_in, with_mark, unmarked}
use Rattle.memory.proofs.bitmap.Laws.{marked_after, marked_unmarked}
use Rattle.uf2_block.specs.Block.{field_at, has_flag}
use Rattle.memory.specs.Flash.{payload_of, spans, store_at}
use Rattle.memory.proofs.flash.Laws.{get_d_payload, get_d_store, room_yes, length_right}
use Rattle.partitions.specs.declared.Settings.{Settings}
use Rattle.placement.proofs.Laws.{start_is as same_start}
use Rattle.placement.specs.Place.{place_of, place_from}
use Rattle.transfer.specs.Transfer.{number_of, count_of, same_head, counted, raised}
use Rattle.transfer.specs.declared.Kind.{Kind}
use Rattle.transfer.specs.declared.Kind.TheVariants.{Flash}
use Rattle.transfer.specs.declared.Head.{Head}
use Rattle.transfer.specs.declared.Run.{Run}
use Rattle.transfer.specs.declared.State.{State}
use Rattle.transfer.specs.declared.State.TheVariants.{Idle, Running, Done}
use Rattle.transfer.specs.declared.Deed.{Deed}
use Rattle.transfer.specs.declared.Deed.TheVariants.{Stores, Notes, Keeps}
use Rattle.transfer.specs.declared.Accepted.{Accepted}
use Rattle.uf2_checks.specs.declared.PlacedBlock.{PlacedBlock}
use Rattle.arrival.specs.Arrive.{Held, World, Outcome, Decision, buffer_of, accepts, cleared_if, wiped_if, prepared_at, paged_at, accept_of, done, receive_of}
use Rattle.arrival.specs.Standing.{Standing}
use Rattle.arrival.specs.Windows.{window_start, kind_of, head_of}
use Rattle.arrival_claims.specs.Tally.{clears}
use Rattle.arrival.proofs.Heads.{head_same, same_head_lem}
use Rattle.arrival.proofs.Paged.{Fits, get_d_prepared, length_prepared}
use Rattle.arrival.proofs.Standing.{keeps_at, standing_of}
use Rattle.arrival.proofs.Facts.{length_cleared, wiped_buffer, wiped_sectors}
use Rattle.uf2_checks.specs.Screen.{room_in}
use Rattle.arrival_claims.proofs.Screening.{rooms_for, Board, Passing, passing_few, passing_room}
use Rattle.arrival_claims.proofs.DecisionFacts.{AcceptFacts, runs_other, deed_at, DecisionFacts, raised_count, took_state, took_answer, took_clears, took_discarded, refused, took, decision_facts}
use Rattle.arrival_claims.proofs.Bounds.{deed_is, left_page, left_fits}
use Rattle.arrival_claims.specs.Stored.{Raised, goes_on_case, opens, discards, Stored, FlashStored, FlashStoredStated}

-- ---- a map after a mark

cleared_marks : (b : Bool) (m : List ℕ) (k : ℕ) → marked_in (cleared_if b m) k ≡ not b && marked_in m k
unfolding cleared_if
cleared_marks true m k = marked_unmarked (length m) k
cleared_marks false m k = refl

after_mark : (b : Bool) (m : List ℕ) (n k : ℕ) → n / 8 < length m → marked_in (with_mark (cleared_if b m) n) k ≡ eqb k n || not b && marked_in m k
after_mark b m n k h =
    ap (λ (S : ℕ → Bool). S k) (marked_after (cleared_if b m) n (omega (arith, length_cleared b m)))
    ∙ ap (λ (x : Bool). eqb k n || x) (cleared_marks b m k)

-- ---- the raised count

record Going (w : World) (a : List ℕ) (d : Bool) : Type 0 where
  on : Bool
  count : ℕ
  raised : Raised w a on count d
  clear : clears w.transfer (head_of w a) ≡ not on
  same : count ≡ cond (clears w.transfer (head_of w a)) 1 (count_of w.transfer + 1)

going : (w : World) (a : List ℕ) {m : Bool} {d : Deed} {k : Accepted} → AcceptFacts w.transfer (head_of w a) m d k → (x : State) → w.transfer ≡ x → Going w a k.discarded
going w a t Idle e =
    let o : t.discards ≡ false = t.told ∙ ap (λ (y : State). runs_other y (head_of w a)) e in
    record { on = false; count = 1; raised = rw (took_discarded t, o) (opens e); clear = ap (λ (y : State). clears y (head_of w a)) e; same = rw (ap (λ (y : State). clears y (head_of w a)) e) }
going w a t (Running r) e =
    let o : t.discards ≡ not (same_head r.head (head_of w a)) = t.told ∙ ap (λ (y : State). runs_other y (head_of w a)) e in
    split (same_head r.head (head_of w a))
    (λ y.
    let h : r.head ≡ head_of w a = head_same r.head (head_of w a) y in
    let f : w.transfer ≡ Running (record { head = head_of w a; count = r.count }) = e ∙ ap (λ (g : Head). Running (record { head = g; count = r.count })) h in
    let c : clears w.transfer (head_of w a) ≡ false = ap (λ (x : State). clears x (head_of w a)) e ∙ ap not y in
    record {
      on = true;
      count = r.count + 1;
      raised = rw (took_discarded t, o, y) (goes_on_case r.count f);
      clear = c;
      same = rw c (ap (λ (x : State). count_of x + 1) (sym e));
    })
    (λ z.
    let c : clears w.transfer (head_of w a) ≡ true = ap (λ (x : State). clears x (head_of w a)) e ∙ ap not z in
    record {
      on = false;
      count = 1;
      raised = rw (took_discarded t, o, z) (discards r e (λ h. clash (same_head r.head (head_of w a)) (rw h (same_head_lem (head_of w a))) z));
      clear = c;
      same = rw c;
    })
going w a t (Done g) e =
    let r = t.going (ap (λ (y : State). clears y (head_of w a)) e) in
    let x : Done g ≡ Running r.0 = sym e ∙ r.1 in
    let z : ◌≡◌ {A = ℕ} 0 1 = cc in
    absurd (omega arith)

-- ---- the page

place_flash : (s : Settings) (w : World) (a : List ℕ) (u : Kind) → u ≡ Flash → (start size : ℕ) → room_in (rooms_for s w a) u ≡ Some (place_from start size)
    → place_of s (length w.held.flash) (field_at a 28) ≡ Some (place_from start size)
place_flash s w a u f start size h = ap (λ (v : Kind). room_in (rooms_for s w a) v) (sym f) ∙ h

either_out : (at j : ℕ) → (j < at) ⊎ (at + 256 ≤ j) → spans at j ≡ false
either_out at j h = ⊎_elim (λ (l : j < at). rw (lt-leb at j l)) (λ (l : at + 256 ≤ j). split (leb at j) (λ y. rw (y, le-ltb j (at + 256) l)) (λ z. rw z)) h

module _ (s : Settings) (w : World) (a : List ℕ) (g : PlacedBlock) (k : Accepted) (q : Passing s w a g) (B : Board s w) (l : length a ≡ 512)
    (t : AcceptFacts w.transfer g.head (marked_in w.seen g.number) (deed_at s w a g) k)
    (z : has_flag a 0x1 ≡ false) (f : kind_of w a ≡ Flash) (keeps : keeps_at s w a ≡ false) where
  abbrev at : ℕ
  at = q.start + (field_at a 12 - 0x10000000)

  abbrev h0 : Held
  h0 = wiped_if k.clears w.held

  held : (done w (payload_of a) (accepts g (deed_at s w a g) k)).world.held ≡ paged_at Flash at (payload_of a) h0
  held = left_page s w a g k q B z keeps ∙ ap (λ (u : Kind). paged_at u (q.start + (field_at a 12 - window_start u)) (payload_of a) h0) f

  fits : Fits Flash (length h0.flash) at (payload_of a)
  fits = subst (λ (u : Kind). Fits u (length (buffer_of u h0)) (q.start + (field_at a 12 - window_start u)) (payload_of a)) f (left_fits s w a g k q B z l)

  flash_same : h0.flash ≡ w.held.flash
  flash_same = wiped_buffer k.clears w.held Flash

  head_is : g.head ≡ head_of w a
  head_is = q.head

  clear_is : k.clears ≡ clears w.transfer (head_of w a)
  clear_is = took_clears t ∙ ap (clears w.transfer) q.head

  -- each byte
  byte : (j : ℕ) → get_or (paged_at Flash at (payload_of a) h0).flash j 0
      ≡ cond (spans at j) (get_or (payload_of a) (j - at) 0)
      (cond (eqb (j / 4096) (at / 4096) && ltb (at / 4096) (length h0.flash / 4096) && not (marked_in h0.sectors (at / 4096))) 255 (get_or h0.flash j 0))
  unfolding paged_at
  byte j =
      let n : at + 256 ≤ length (prepared_at (at / 4096) h0) = omega (arith, length_prepared (at / 4096) h0, fits.within) in
      get_d_store (prepared_at (at / 4096) h0) at (payload_of a) j
      ∙ rw (room_yes (prepared_at (at / 4096) h0) at (payload_of a) fits.full n) (ap (cond (spans at j) (get_or (payload_of a) (j - at) 0)) (get_d_prepared (at / 4096) h0 j))

  sector_in_lem : at / 4096 < length h0.flash / 4096
  sector_in_lem = let r = length_right (length w.held.flash) B.flash in let e = ap length flash_same in omega (arith, r.whole, fits.within, fits.aligned refl)

  -- all of it
  pub left_stored : FlashStored w a at (done w (payload_of a) (accepts g (deed_at s w a g) k))
  unfolding done accept_of counted raised paged_at
  left_stored =
      let u = going w a (subst (λ (x : Head). AcceptFacts w.transfer x (marked_in w.seen g.number) (deed_at s w a g) k) head_is t) w.transfer refl in
      let b : k.clears ≡ not u.on = clear_is ∙ u.clear in
      let c : u.count ≡ raised_count t = u.same ∙ ap (λ (x : Head). cond (clears w.transfer x) 1 (count_of w.transfer + 1)) (sym head_is) in
      let n : g.head.total ≡ field_at a 24 = ap (λ (x : Head). x.total) head_is in
      let st : k.transfer.state ≡ counted (head_of w a) u.count = took_state t ∙ ap (λ (x : ℕ). counted g.head x) (sym c) ∙ ap (λ (x : Head). counted x u.count) head_is in
      let deed : deed_at s w a g ≡ Stores = deed_is s w a g k q B ∙ rw (z, keeps) in
      let an : number_of k.answer ≡ cond (ltb u.count (field_at a 24)) 14 15 =
      ap number_of (took_answer t) ∙ ap (λ (x : ℕ). number_of (raised (deed_at s w a g) g.head x)) (sym c)
      ∙ ap (λ (x : Deed). number_of (raised x g.head u.count)) deed ∙ told g.head u.count (field_at a 24) n in
      let sec : h0.sectors ≡ cleared_if (not u.on) w.held.sectors = wiped_sectors k.clears w.held ∙ ap (λ (x : Bool). cleared_if x w.held.sectors) b in
      let few = passing_few s w a g q B in
      let low = q.below in
      let r = length_right (length w.held.flash) B.flash in
      let fl = ap length flash_same in
      let mark : marked_in h0.sectors (at / 4096) ≡ u.on && marked_in w.held.sectors (at / 4096) =
      ap (λ (m : List ℕ). marked_in m (at / 4096)) sec ∙ cleared_marks (not u.on) w.held.sectors (at / 4096) ∙ ap (λ (x : Bool). x && marked_in w.held.sectors (at / 4096)) (twice u.on) in
      record {
        on = u.on;
        count = u.count;
        raised = u.raised;
        stored = record {
          running = λ h. st ∙ run (head_of w a) u.count h;
          done = λ h. st ∙ end (head_of w a) u.count h;
          answer = an;
          seen = λ i h.
              ap (λ (m : List ℕ). marked_in m i) (ap (λ (x : Bool). with_mark (cleared_if x w.seen) g.number) b ∙ ap (λ (x : ℕ). with_mark (cleared_if (not u.on) w.seen) x) q.number)
              ∙ after_mark (not u.on) w.seen (field_at a 20) i (omega (arith, B.seen, few, low))
              ∙ ap (λ (x : Bool). eqb i (field_at a 20) || x && marked_in w.seen i) (twice u.on);
          sectors = λ i h.
              ap (λ (x : Held). marked_in x.sectors i) held
              ∙ ap (λ (m : List ℕ). marked_in (with_mark m (at / 4096)) i) sec
              ∙ after_mark (not u.on) w.held.sectors (at / 4096) i (omega (arith, B.sectors, fits.within, r.most, fl))
              ∙ ap (λ (x : Bool). eqb i (at / 4096) || x && marked_in w.held.sectors i) (twice u.on);
          payload = λ i h.
              ap (λ (x : Held). get_or x.flash (at + i) 0) held ∙ byte (at + i)
              ∙ rw (le-leb at (at + i) (omega arith), lt-ltb (at + i) (at + 256) (omega arith)) (ap (λ (x : ℕ). get_or (payload_of a) x 0) (omega arith) ∙ get_d_payload a i h);
          rest = λ j e h.
              ap (λ (x : Held). get_or x.flash j 0) held ∙ byte j
              ∙ rw (either_out at j h, eq-eqb (j / 4096) (at / 4096) e, lt-ltb (at / 4096) (length h0.flash / 4096) sector_in_lem, mark, flash_same)
              (swap (u.on && marked_in w.held.sectors (at / 4096)) (get_or w.held.flash j 0));
          others = λ j e.
              ap (λ (x : Held). get_or x.flash j 0) held ∙ byte j
              ∙ rw (out j e, ne_eqb (j / 4096) (at / 4096) e, flash_same);
        };
      }
    where
      twice : (b : Bool) → not (not b) ≡ b
      twice true = refl
      twice false = refl

      swap : (b : Bool) (x : ℕ) → cond (not b) 255 x ≡ cond b x 255
      swap true x = refl
      swap false x = refl

      out : (j : ℕ) → j / 4096 ≢ at / 4096 → spans at j ≡ false
      out j e =
          split (ltb j at)
          (λ y. either_out at j (inl (ltb-true j at y)))
          (λ y. split (ltb j (at + 256)) (λ x. absurd (e (omega (arith, fits.aligned refl, ltb-false j at y, ltb-true j (at + 256) x)))) (λ x. either_out at j (inr (ltb-false j (at + 256) x))))

      run : (g : Head) (c : ℕ) → c < g.total → counted g c ≡ Running (record { head = g; count = c })
      run g c h = rw (lt-ltb c g.total h)

      end : (g : Head) (c : ℕ) → g.total ≤ c → counted g c ≡ Done g
      end g c h = rw (le-ltb c g.total h)

      told : (g : Head) (c n : ℕ) → g.total ≡ n → number_of (raised Stores g c) ≡ cond (ltb c n) 14 15
      told g c n e = split (ltb c g.total) (λ y. rw (y, ← e, y)) (λ z. rw (z, ← e, z))

pub flash_stored : FlashStoredStated
unfolding FlashStoredStated receive_of
flash_stored s w a start size z f st m e = go (decision_facts s w a) m
  where
    go : {d : Decision} → DecisionFacts s w a d → 14 ≤ number_of (done w (payload_of a) d).answer → FlashStored w a (start + (field_at a 12 - 0x10000000)) (done w (payload_of a) d)
    go (refused x h) m = let r : 14 ≤ number_of x = unfold done in m in absurd (omega arith)
    go (took g k B l q t) m =
        let keeps : keeps_at s w a ≡ false = is_false (keeps_at s w a) (λ y. st (standing_of s w a z y)) in
        let p : place_of s (length w.held.flash) (field_at a 28) ≡ Some (place_from q.start q.size) = place_flash s w a (kind_of w a) f q.start q.size q.place in
        let x : Some (place_from start size) ≡ Some (place_from q.start q.size) = sym e ∙ p in
        let y : q.start ≡ start = sym (same_start x) in
        subst (λ (i : ℕ). FlashStored w a (i + (field_at a 12 - 0x10000000)) (done w (payload_of a) (accepts g (deed_at s w a g) k))) y
        (left_stored s w a g k q B l t z f keeps)
