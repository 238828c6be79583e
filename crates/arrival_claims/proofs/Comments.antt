-- The claims of specs/Comments.antt hold. Assumes nothing.
use Prim.Native.Nat.{ℕ, ◌+◌, ◌/◌, ◌%◌, ◌≤◌, ◌<◌}
use mathlib.Core.Path.{◌≡◌, refl, sym, ap, subst, ◌∙◌}
use mathlib.Core.Logic.{◌≢◌, inl, inr, ⊎_elim}
use mathlib.Core.Bool.{Bool, true, false, not, cond, ◌&&◌}
use mathlib.Core.List.{List, [], ◌∷◌}
use native.Mathlib.Omega.{arith}
use lib.Dec.{eqb, ltb, leb}
use lib.ListN.{length, set, length-set}
use borrow.Author.Tests.{eqb-true, eqb-false, le-ltb, leb-true, leb-false, ltb-true, ltb-false}
use Rattle.std.specs.Prelude.{Option, Some, None, Ok, Err}
use Rattle.laws.proofs.Tests.{split, clash, and_left, and_right, or_left, or_right}
use Rattle.memory.specs.Bitmap.{marked_in, with_mark}
use Rattle.memory.proofs.bitmap.Laws.{marked_past, marked_same, marked_other}
use Rattle.uf2_block.specs.Block.{field_at, has_flag, fields_of, flagged_of, header_of, Header}
use Rattle.uf2_block.specs.declared.HeaderError.TheVariants as header
use Rattle.uf2_block.proofs.Laws.{field_set}
use Rattle.memory.specs.Flash.{payload_of}
use Rattle.partitions.specs.declared.Settings.{Settings}
use Rattle.placement.specs.declared.Place.{Place}
use Rattle.transfer.specs.Transfer.{number_of, count_of, good_state, same_head, counted, deed_answer, raised}
use Rattle.transfer.specs.declared.Kind.{Kind}
use Rattle.transfer.specs.declared.Head.{Head}
use Rattle.transfer.specs.declared.Run.{Run}
use Rattle.transfer.specs.declared.State.{State}
use Rattle.transfer.specs.declared.State.TheVariants.{Idle, Running, Done}
use Rattle.transfer.specs.declared.Deed.{Deed}
use Rattle.transfer.specs.declared.Deed.TheVariants.{Stores, Notes, Keeps}
use Rattle.transfer.specs.declared.Accepted.{Accepted}
use Rattle.uf2_checks.specs.Screen.{note_kind, rooms_of, room_in, noted, note_found, found, after_header, screen_in, screen_of, Screening}
use Rattle.uf2_checks.proofs.Laws.{found_comment}
use Rattle.uf2_checks.specs.declared.Lengths.{Lengths}
use Rattle.uf2_checks.specs.declared.Rooms.{Rooms}
use Rattle.uf2_checks.specs.declared.PlacedBlock.{PlacedBlock}
use Rattle.uf2_checks.specs.declared.Body.TheVariants.{Note}
use Rattle.arrival.specs.Arrive.{Held, World, Decision, buffer_of, accepts, standing, decide, decided, cleared_if, wiped_if, at_of, accept_of, done, receive_of}
use Rattle.arrival.specs.Lists.{receive_all}
use Rattle.arrival.specs.Windows.{head_of}
use Rattle.arrival_claims.specs.Tally.{clears}
use Rattle.arrival_claims.specs.Comments.{is_noted, CommentsNote, NothingStored, Unstored, CommentsStoreNothing, Unread, CommentsUnread, any_discard, FirstStands}
use Rattle.arrival.proofs.Heads.{same_head_lem}
use Rattle.arrival_claims.proofs.Screening.{lens, Board, Passing, passing_few}
use Rattle.arrival_claims.proofs.DecisionFacts.{AcceptFacts, deed_at, DecisionFacts, raised_count, took_state, took_answer, took_clears, took_discarded, refused, took, decision_facts, decide_same}
use Rattle.arrival.proofs.Standing.{keeps_at}
use Rattle.arrival.proofs.Facts.{length_cleared, wiped_buffer, wiped_sectors, done_none}
use Rattle.arrival_claims.proofs.Bounds.{left_none, deed_is}

-- ---- of a decision

pub comments_note : CommentsNote
unfolding CommentsNote
comments_note s w a p d t e = go (decision_facts s w a) e
  where
    told : (b c : Bool) → is_noted (cond b Notes (cond c Keeps Stores)) ≡ b
    told true c = refl
    told false true = refl
    told false false = refl

    go : {x : Decision} → DecisionFacts s w a x → x ≡ accepts p d t → is_noted d ≡ has_flag a 0x1
    go (refused x h) e = let z : ◌≡◌ {A = ℕ} 0 1 = cc in absurd (omega arith)
    go (took g k B l q f) e =
        let x : deed_at s w a g ≡ d = cc in
        ap is_noted (sym x ∙ deed_is s w a g k q B) ∙ told (has_flag a 0x1) (keeps_at s w a)

pub nothing_stored : NothingStored
unfolding NothingStored receive_of
nothing_stored s w a p d t e n =
    ap (λ (x : Decision). (done w (payload_of a) x).world.held) e
    ∙ unfold done accept_of in done_none d p.head.kind (at_of p.body) (payload_of a) (wiped_if t.clears w.held) n

-- ---- of what arrives and what is left

raised_told : (e : Deed) (g : Head) (c : ℕ) → number_of (raised e g c) ≡ cond (ltb (count_of (counted g c)) g.total) (number_of (deed_answer e)) 15
unfolding raised counted
raised_told e g c = split (ltb c g.total) (λ y. rw (y, y)) (λ z. rw (z, le-ltb g.total g.total (omega arith)))

-- a count up to the total is the transfer's, at the total too
counted_told : (g : Head) (c : ℕ) → c ≤ g.total → count_of (counted g c) ≡ c
unfolding counted
counted_told g c h = split (ltb c g.total) (λ y. rw y) (λ z. rw z (omega (arith, ltb-false c g.total z)))

-- and so is the raised one: a running transfer's is below the total
raised_room : (t : State) (g : Head) (m : Bool) (d : Deed) (k : Accepted) → good_state t ≡ true → 1 ≤ g.total → AcceptFacts t g m d k
    → cond (clears t g) 1 (count_of t + 1) ≤ g.total
unfolding good_state
raised_room t g m d k good some q =
    split (clears t g)
    (λ y. rw y some)
    (λ z.
    let r = q.going z in
    let e : good_state (Running r.0) ≡ true = ap good_state (sym r.1) ∙ good in
    let c : count_of t ≡ r.0.count = ap count_of r.1 in
    let n : r.0.head.total ≡ g.total = ap (λ (h : Head). h.total) r.2 in
    rw z (omega (arith, c, n, below r.0 e)))
  where
    below : (r : Run) → good_state (Running r) ≡ true → r.count < r.head.total
    below r e =
        let a = leb 1 r.count in
        let b = ltb r.count r.head.total in
        ltb-true r.count r.head.total (and_right a b (and_left (a && b) (leb r.head.total 131072) e))

-- a transfer whose count is below its total runs, and another is done
went : (g : Head) (c : ℕ) → count_of (counted g c) < g.total → counted g c ≡ Running (record { head = g; count = count_of (counted g c) })
unfolding counted
went g c h = split (ltb c g.total) (λ y. rw y) (λ z. let l : g.total < g.total = rw z at h in absurd (omega arith))

ended : (g : Head) (c : ℕ) → g.total ≤ count_of (counted g c) → counted g c ≡ Done g
unfolding counted
ended g c h = split (ltb c g.total) (λ y. let l : g.total ≤ c = rw y at h in absurd (omega (arith, ltb-true c g.total y))) (λ z. rw z)

-- an accepted block that does e, which is not to store
pub unstored : (s : Settings) (w : World) (a : List ℕ) (e : Deed) (g : PlacedBlock) (k : Accepted) → Passing s w a g → Board s w
    → AcceptFacts w.transfer g.head (marked_in w.seen g.number) (deed_at s w a g) k → deed_at s w a g ≡ e → e ≢ Stores
    → Unstored (number_of (deed_answer e)) w a (done w (payload_of a) (accepts g (deed_at s w a g) k))
unfolding done accept_of
unstored s w a e g k q B t f n =
    let m : k.clears ≡ clears w.transfer (head_of w a) = took_clears t ∙ ap (clears w.transfer) q.head in
    let c : ℕ = raised_count t in
    let left = left_none s w a g k q B e f n in
    let st : k.transfer.state ≡ counted (head_of w a) c = took_state t ∙ ap (λ (h : Head). counted h c) q.head in
    let some : 1 ≤ g.head.total = omega (arith, ap (λ (h : Head). h.total) q.head, q.below) in
    let r : number_of k.answer ≡ number_of (raised e g.head c) =
    ap number_of (took_answer t) ∙ ap (λ (x : Deed). number_of (raised x g.head c)) f in
    record {
      buffers = λ u. ap (buffer_of u) left ∙ wiped_buffer k.clears w.held u;
      sectors =
          ap (λ (x : Held). x.sectors) left
          ∙ wiped_sectors k.clears w.held
          ∙ ap (λ (x : Bool). cleared_if x w.held.sectors) m;
      seen =
          ap (λ (x : Bool). with_mark (cleared_if x w.seen) g.number) m
          ∙ ap (with_mark (cleared_if (clears w.transfer (head_of w a)) w.seen)) q.number;
      count =
          ap count_of (took_state t)
          ∙ counted_told g.head c
          (raised_room w.transfer g.head (marked_in w.seen g.number) (deed_at s w a g) k B.state some t)
          ∙ ap (λ (h : Head). cond (clears w.transfer h) 1 (count_of w.transfer + 1)) q.head;
      running = λ h. subst (λ (x : State). count_of x < field_at a 24 → x ≡ Running (record { head = head_of w a; count = count_of x })) (sym st) (went (head_of w a) c) h;
      done = λ h. subst (λ (x : State). field_at a 24 ≤ count_of x → x ≡ Done (head_of w a)) (sym st) (ended (head_of w a) c) h;
      answer =
          r ∙ raised_told e g.head c
          ∙ ap (λ (h : Head). cond (ltb (count_of (counted g.head c)) h.total) (number_of (deed_answer e)) 15) q.head
          ∙ sym (ap (λ (x : State). cond (ltb (count_of x) (field_at a 24)) (number_of (deed_answer e)) 15) (took_state t));
    }

noting : (s : Settings) (w : World) (a : List ℕ) {d : Decision} → DecisionFacts s w a d → has_flag a 0x1 ≡ true
    → 14 ≤ number_of (done w (payload_of a) d).answer → Unstored 16 w a (done w (payload_of a) d)
noting s w a (refused x h) y n = let m : 14 ≤ number_of x = unfold done in n in absurd (omega arith)
noting s w a (took g k B l q t) y n =
    unstored s w a Notes g k q B t (deed_is s w a g k q B ∙ rw y) (λ e. let z : ◌≡◌ {A = ℕ} 0 1 = cc in omega arith)

pub comments_store_nothing : CommentsStoreNothing
unfolding CommentsStoreNothing receive_of
comments_store_nothing s w a y n = noting s w a (decision_facts s w a) y n

-- ---- what of a comment is not read

module _ (s : Settings) (n : Lengths) (t : State) (a : List ℕ) (i x : ℕ) (y : has_flag a 0x1 ≡ true) (o : Unread i) where
  abbrev b : List ℕ
  b = set a i x

  -- the other fields
  low : (at : ℕ) → at + 4 ≤ 12 → field_at b at ≡ field_at a at
  low at h = field_set a i x at (inl (⊎_elim (λ p. omega (arith, p)) (λ p. omega (arith, p)) o))

  between : (at : ℕ) → 20 ≤ at → at + 4 ≤ 32 → field_at b at ≡ field_at a at
  between at h l = field_set a i x at (⊎_elim (λ p. inr (omega (arith, p))) (λ p. inl (omega (arith, p))) o)

  last : field_at b 508 ≡ field_at a 508
  last = field_set a i x 508 (inr (⊎_elim (λ p. omega (arith, p)) (λ p. omega (arith, p)) o))

  family : field_at b 28 ≡ field_at a 28
  family = between 28 (omega arith) (omega arith)

  total : field_at b 24 ≡ field_at a 24
  total = between 24 (omega arith) (omega arith)

  kinds : (t : State) → note_kind n t (fields_of b) ≡ note_kind n t (fields_of a)
  unfolding note_kind fields_of
  kinds Idle = refl
  kinds (Running r) = rw (family, total)
  kinds (Done g) = refl

  beside : (k : Kind) (p : Option Place) → note_found k p (fields_of b) ≡ note_found k p (fields_of a)
  unfolding note_found noted fields_of
  beside k None = refl
  beside k (Some p) = rw (family, total, between 20 (omega arith) (omega arith))

  comment_b : has_flag b 0x1 ≡ true
  comment_b = ap (λ (n : ℕ). eqb (n / 0x1 % 2) 1) (low 8 (omega arith)) ∙ y

  found_same : (r : Rooms) → found r n t (fields_of b) ≡ found r n t (fields_of a)
  found_same r =
      let k = note_kind n t (fields_of a) in
      found_comment r n t (fields_of b) (unfold fields_of in comment_b)
      ∙ ap (λ (k : Kind). note_found k (room_in r k) (fields_of b)) (kinds t)
      ∙ beside k (room_in r k)
      ∙ sym (found_comment r n t (fields_of a) (unfold fields_of in y))

  abbrev after : Rooms → Header → Screening
  after r h = after_header h (found r n t)

  pass : (r : Rooms) (c : Bool) (h f g : Header) → after r f ≡ after r g → after r (cond c h f) ≡ after r (cond c h g)
  pass r true h f g e = refl
  pass r false h f g e = e

  screen_same : screen_of s n t b ≡ screen_of s n t a
  unfolding screen_of screen_in header_of flagged_of
  screen_same =
      let r = rooms_of s n.flash (field_at a 28) in
      rw (family, low 0 (omega arith), low 4 (omega arith), low 8 (omega arith), last)
      (pass r (not (eqb (field_at a 0) 0x0A324655)) (Err header.NotBlock) _ _
      (pass r (not (eqb (field_at a 4) 0x9E5D5157)) (Err header.NotBlock) _ _
      (pass r (not (eqb (field_at a 508) 0x0AB16F30)) (Err header.NotBlock) _ _
      (pass r (has_flag a 0x1000) (Err header.Container) _ _
      (pass r (not (has_flag a 0x2000)) (Err header.NoFamily) (Ok (fields_of b)) (Ok (fields_of a)) (found_same r))))))

-- an accepted comment does not read its payload
payload_unread : (s : Settings) (w : World) (a : List ℕ) (p : List ℕ) {d : Decision} → DecisionFacts s w a d → has_flag a 0x1 ≡ true
    → done w p d ≡ done w (payload_of a) d
unfolding done accept_of
payload_unread s w a p (refused x h) y = refl
payload_unread s w a p (took g k B l q t) y = let e : deed_at s w a g ≡ Notes = deed_is s w a g k q B ∙ rw y in rw e

pub comments_unread : CommentsUnread
unfolding CommentsUnread receive_of
comments_unread s w a i x y o =
    ap (done w (payload_of (set a i x))) same ∙ payload_unread s w a (payload_of (set a i x)) (decision_facts s w a) y
  where
    at : (b : Bool) → decide s (lens w) (length w.held.sectors) w.transfer w.seen b (set a i x)
        ≡ decide s (lens w) (length w.held.sectors) w.transfer w.seen b a
    at b = unfold decide in rw (length-set a i x, screen_same s (lens w) w.transfer a i x y o)

    -- nor is the region of a comment
    same : decided s w (set a i x) ≡ decided s w a
    same =
        at (standing s w.held.flash (set a i x))
        ∙ decide_same s w a (standing s w.held.flash (set a i x)) (standing s w.held.flash a) (λ g p. let e : g.body ≡ Note = p.body ∙ rw y in rw e)

-- ---- the first of two stands

-- the block of head g with number n has been accepted, and its transfer has not been discarded
abbrev Standing : Head → ℕ → State → List ℕ → Type 0
Standing g n Idle seen = ⊥
Standing g n (Running r) seen = (r.head ≡ g) × (marked_in seen n ≡ true)
Standing g n (Done h) seen = Unit {0}

counted_stands : (g : Head) (n c : ℕ) (seen : List ℕ) → marked_in seen n ≡ true → Standing g n (counted g c) seen
unfolding counted
counted_stands g n c seen m = split (ltb c g.total) (λ y. rw y (refl, m)) (λ z. rw z tt)

still_marked : (m : List ℕ) (k n : ℕ) → marked_in m n ≡ true → marked_in (with_mark m k) n ≡ true
still_marked m k n y =
    split (eqb n k)
    (λ e.
    let f : n ≡ k = eqb-true n k e in
    split (leb (length m) (n / 8))
    (λ p. clash (marked_in m n) y (marked_past m n (leb-true (length m) (n / 8) p)))
    (λ p. rw f (marked_same m k (inside f p))))
    (λ e. marked_other m k n (eqb-false n k e) ∙ y)
  where
    inside : n ≡ k → leb (length m) (n / 8) ≡ false → k / 8 < length m
    inside f p = omega (arith, leb-false (length m) (n / 8) p)

-- where it stands, no step accepts it again
no_step : (t : State) (seen : List ℕ) (g : Head) (n : ℕ) (d : Deed) (k : Accepted) → AcceptFacts t g (marked_in seen n) d k → Standing g n t seen → ⊥
no_step Idle seen g n d k f s = s
no_step (Running r) seen g n d k f s =
    let e : clears (Running r) g ≡ false = ap (λ (h : Head). not (same_head h g)) s.0 ∙ ap not (same_head_lem g) in
    clash (marked_in seen n) s.1 (f.going e).3
no_step (Done h) seen g n d k f s = let r = f.going refl in let e = r.1 in let z : ◌≡◌ {A = ℕ} 0 1 = cc in omega arith

accepted_stands : (s : Settings) (w : World) (a : List ℕ) {d : Decision} → DecisionFacts s w a d → 14 ≤ number_of (done w (payload_of a) d).answer
    → Standing (head_of w a) (field_at a 20) (done w (payload_of a) d).world.transfer (done w (payload_of a) d).world.seen
unfolding done accept_of
accepted_stands s w a (refused x h) n = absurd (omega arith)
accepted_stands s w a (took g k B l q t) n =
    let c : ℕ = raised_count t in
    let room : g.number / 8 < length (cleared_if k.clears w.seen) =
    omega (arith, length_cleared k.clears w.seen, B.seen, q.number, q.below, passing_few s w a g q B) in
    rw (took_state t, ← q.head, ← q.number)
    (counted_stands g.head g.number c (with_mark (cleared_if k.clears w.seen) g.number) (marked_same (cleared_if k.clears w.seen) g.number room))

stands_next : (s : Settings) (w : World) (b : List ℕ) (g : Head) (n : ℕ) {d : Decision} → DecisionFacts s w b d
    → (done w (payload_of b) d).discarded ≡ false → Standing g n w.transfer w.seen
    → Standing g n (done w (payload_of b) d).world.transfer (done w (payload_of b) d).world.seen
unfolding done accept_of
stands_next s w b g n (refused x h) e st = st
stands_next s w b g n (took f k B l q t) e st =
    split (clears w.transfer f.head)
    (λ y. ⊎_elim (λ i. absurd (subst (λ (x : State). Standing g n x w.seen) i st)) (λ i. clash true refl (sym (took_discarded t ∙ i) ∙ e)) (t.opening y))
    (λ z. onward z (t.going z))
  where
    unclear : (m : List ℕ) → cleared_if false m ≡ m
    unclear m = unfold cleared_if in refl

    onward : clears w.transfer f.head ≡ false
        → (r : Run) × (w.transfer ≡ Running r) × (r.head ≡ f.head) × (marked_in w.seen f.number ≡ false)
        → Standing g n k.transfer.state (with_mark (cleared_if k.clears w.seen) f.number)
    onward z r =
        let c : ℕ = raised_count t in
        let v : (r.0.head ≡ g) × (marked_in w.seen n ≡ true) = subst (λ (x : State). Standing g n x w.seen) r.1 st in
        let h : f.head ≡ g = sym r.2 ∙ v.0 in
        let x : k.transfer.state ≡ counted g c = took_state t ∙ ap (λ (y : Head). counted y c) h in
        let same : cleared_if k.clears w.seen ≡ w.seen = ap (λ (b : Bool). cleared_if b w.seen) (took_clears t ∙ z) ∙ unclear w.seen in
        rw (x, same) (counted_stands g n c (with_mark w.seen f.number) (still_marked w.seen f.number n v.1))

stands_all : (s : Settings) (g : Head) (n : ℕ) (l : List (List ℕ)) (w : World) → any_discard s w l ≡ false → Standing g n w.transfer w.seen
    → Standing g n (receive_all s w l).transfer (receive_all s w l).seen
unfolding any_discard receive_all
stands_all s g n [] w e st = st
stands_all s g n (b ∷ l) w e st =
    let p = or_left (receive_of s w b).discarded (any_discard s (receive_of s w b).world l) e in
    stands_all s g n l (receive_of s w b).world (or_right (receive_of s w b).discarded (any_discard s (receive_of s w b).world l) e)
    (unfold receive_of in stands_next s w b g n (decision_facts s w b) p st)

refused_again : (s : Settings) (v : World) (b : List ℕ) {d : Decision} → DecisionFacts s v b d → Standing (head_of v b) (field_at b 20) v.transfer v.seen
    → number_of (done v (payload_of b) d).answer ≤ 13
unfolding done
refused_again s v b (refused x h) st = h
refused_again s v b (took g k B l q t) st =
    absurd (no_step v.transfer v.seen g.head g.number (deed_at s v b g) k t (rw (q.head, q.number) st))

pub first_stands : FirstStands
unfolding FirstStands receive_all
first_stands s w a b l n e h m =
    let u = (receive_of s w a).world in
    let st : Standing (head_of w a) (field_at a 20) u.transfer u.seen = unfold receive_of in accepted_stands s w a (decision_facts s w a) n in
    let v = receive_all s u l in
    let sv : Standing (head_of w a) (field_at a 20) v.transfer v.seen = stands_all s (head_of w a) (field_at a 20) l u e st in
    unfold receive_of in refused_again s v b (decision_facts s v b) (rw (h, m) sv)
