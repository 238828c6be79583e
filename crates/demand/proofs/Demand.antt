-- The claims of specs/Demand.antt hold. Assumes nothing.
use Prim.Native.Nat.{ℕ, ◌+◌, ◌/◌, ◌≤◌, ◌<◌}
use mathlib.Core.Path.{◌≡◌, refl, sym, ap, subst, ◌∙◌, fun_ext}
use mathlib.Core.Logic.{◌≢◌}
use mathlib.Core.Bool.{Bool, true, false, not, ◌&&◌, ◌||◌, or_comm, not-and_self}
use mathlib.Core.List.{List, [], ◌∷◌, ◌++◌, map, map-id}
use native.Mathlib.Omega.{arith}
use lib.Dec.{eqb, ltb}
use lib.ListN.{length, get_or}
use borrow.Author.Tests.{eq-eqb, ne_eqb, eqb-true, eqb-false, ltb-true, ltb-false, le-leb, lt-leb}
use Rattle.std.specs.Prelude.{Option, Some, None}
use Rattle.laws.specs.Sets.{Set, none, add, size}
use Rattle.laws.proofs.Tests.{split}
use Rattle.laws.proofs.Laws.{add_idle, size_le, size_add, size_full}
use Rattle.memory.specs.Bitmap.{map_of}
use Rattle.partitions.specs.declared.Settings.{Settings}
use Rattle.placement.specs.Place.{place_of}
use Rattle.placement.specs.declared.Place.{Place}
use Rattle.uf2_block.specs.Block.{field_at, has_flag}
use Rattle.uf2_block.specs.Region.{region_of}
use Rattle.uf2_block.specs.Regions.{good_region}
use Rattle.transfer.specs.Transfer.{same_kind, number_of, counted, deed_answer, raised}
use Rattle.transfer.specs.declared.Kind.{Kind}
use Rattle.transfer.specs.declared.Kind.TheVariants.{Flash}
use Rattle.transfer.specs.declared.Answer.{Answer}
use Rattle.transfer.specs.declared.Answer.TheVariants.{Finished, Again, Completed}
use Rattle.transfer.specs.declared.Deed.{Deed}
use Rattle.transfer.specs.declared.Deed.TheVariants.{Stores, Notes, Keeps}
use Rattle.transfer.specs.declared.State.TheVariants.{Idle}
use Rattle.uf2_checks.specs.declared.Lengths.{Lengths}
use Rattle.arrival.specs.Arrive.{Held, World, Outcome, buffer_of, lengths_of, stands_at, done_to, receive_of}
use Rattle.arrival.specs.Lists.{receive_all, answers_of}
use Rattle.arrival_claims.specs.Kept.{soft}
use Rattle.demand.specs.Demand.{File, answer_number, ValidFile, Foreign, Sent, nothing, own, other, seen_of, is_whole, unfinished, reply_to, with_arrival, replies_to, Counts, Ends, size_of, Plain, ListCounts, OtherKindsStay, ListAnswers, ListEnds, PlainAnswers, is_completed, CompletedExactly, SameSet, SameSetSameEnd, EitherFirst, SameCount, SameSetSameCount, EitherFirstSameCount}
use Rattle.arrival.proofs.Pages.{apply}
use Rattle.arrival.proofs.Count.{Blocks, count, head_by, deed_by, Any, Invariant, After, untouched, begun, verdict, Stepped, nothing_seen, some_seen, still_running, whole_done, seen_map, after_carried, invariant_of, after, after_is}
use Rattle.arrival_claims.proofs.Cells.{cell, cell_none, get_d_buffer}
use Rattle.arrival_claims.proofs.Effect.{kind_in, Valid, layout, sectors_of, Unkept, effect, effect_buffer, lengths_effect, grows}
use Rattle.arrival.proofs.Paged.{paged_other}
use Rattle.arrival.proofs.Facts.{wiped_buffer}
use Rattle.demand.proofs.Contents.{byte_in, As, touched_in, sectors_in, contents_of_lem}
use Rattle.demand.proofs.Lists.{Reached, reached_next, reached_after}
use Rattle.demand.proofs.Runs.{mixed_append, mixed_split, seen_nothing, seen_append, seen_own, seen_other, along_any, own_step, other_step, run_after}
use Rattle.demand.proofs.Files.{blocks_of, board, valid, opens, foreign_is, steady}

-- ---- transfer and seen map, with regions or without

pub counts_of : (F : Blocks) (w : World) (Inv : Set → Held → Type 0) (S : Set) (v : World) → After F w Inv S v → 1 ≤ count F → Counts w F.file S v
counts_of F w Inv S v a n =
    record {
      untouched = nothing_seen F w Inv S v a;
      going = still_running F w Inv S v a;
      whole = whole_done F w Inv S v a n;
      seen_map = seen_map F w Inv S v a;
    }

-- the buffers of other kinds are as lent: this holds whatever stands
abbrev Others : Blocks → Held → Set → Held → Type 0
Others F x S y = (u : Kind) → u ≢ kind_in F → buffer_of u y ≡ buffer_of u x

done_other : (u k : Kind) (d : Deed) (at : ℕ) (p : List ℕ) (x : Held) → u ≢ k → buffer_of u (done_to d k at p x) ≡ buffer_of u x
done_other u k Stores at p x n = paged_other u k at p x n
done_other u k Notes at p x n = refl
done_other u k Keeps at p x n = refl

keeps_others : (F : Blocks) (x : Held) → count F ≤ 131072 → Invariant F x (Others F x) Any
keeps_others F x few =
    record {
      few = few;
      begins = λ u n. wiped_buffer true x u;
      goes_on = λ S k y h z i m u n. unfold apply in done_other u (kind_in F) (deed_by F y.flash k) _ _ y n ∙ i u n;
    }

-- ---- the buffers, without regions

abbrev Same : Blocks → Held → Set → Held → Type 0
Same F x S y = y ≡ effect F x S

module _ (F : Blocks) (w : World) (S : Set) (v : World) (a : After F w (Same F w.held) S v) where
  there : As F w.held S v.held
  there u j h = go a
    where
      go : After F w (Same F w.held) S v → byte_in u v.held j ≡ cell (count F) (layout u F) (byte_in u w.held) S j
      go (untouched e p) =
          ap (λ (x : World). byte_in u x.held j) p
          ∙ sym (ap (λ (R : Set). cell (count F) (layout u F) (byte_in u w.held) R j) e ∙ cell_none (count F) (layout u F) (byte_in u w.held) j)
      go (begun x s i p) =
          ap (λ (x : World). byte_in u x.held j) p
          ∙ ap (λ (x : Held). byte_in u x j) i
          ∙ ap (λ (b : List ℕ). get_or b j 0) (effect_buffer u F w.held S)
          ∙ get_d_buffer (count F) (layout u F) (buffer_of u w.held) S j h

  same_lengths : lengths_of v.held ≡ lengths_of w.held
  same_lengths = go a
    where
      go : After F w (Same F w.held) S v → lengths_of v.held ≡ lengths_of w.held
      go (untouched e p) = ap (λ (x : World). lengths_of x.held) p
      go (begun x s i p) = ap (λ (x : World). lengths_of x.held) p ∙ ap lengths_of i ∙ lengths_effect F w.held S

  sectors_are : 1 ≤ size (count F) S → v.held.sectors ≡ map_of 1024 (touched_in F S)
  sectors_are s =
      let r = some_seen F w (Same F w.held) S v a s in
      let e : (effect F w.held S).sectors ≡ map_of 1024 (sectors_of F S) = unfold effect in refl in
      ap (λ (u : World). u.held.sectors) r.2 ∙ ap (λ (x : Held). x.sectors) r.1 ∙ e ∙ ap (map_of 1024) (fun_ext (sectors_in F S))

-- ---- Completed exactly where the set becomes whole

deed_other : (d : Deed) → is_completed (deed_answer d) ≡ false
deed_other Stores = refl
deed_other Notes = refl
deed_other Keeps = refl

completes : (F : Blocks) (S : Set) (k : ℕ) (e : Deed) → k < count F
    → is_completed (verdict F S k e) ≡ not (eqb (size (count F) S) (count F)) && eqb (size (count F) (add k S)) (count F)
unfolding verdict raised
completes F S k d h =
    split (ltb m n)
    (λ q.
    let lt : m < n = ltb-true m n q in
    split (S k)
    (λ y. rw (add_idle k S y, q, y, ne_eqb m n (omega arith)))
    (λ z.
    let e : size n (add k S) ≡ m + 1 = omega (arith, size_add n S k h z) in
    rw (q, z, e, ne_eqb m n (omega arith))
    (split (ltb (m + 1) n)
    (λ r. rw (r, deed_other d, ne_eqb (m + 1) n (omega (arith, ltb-true (m + 1) n r))))
    (λ r. rw (r, eq-eqb (m + 1) n (omega (arith, ltb-false (m + 1) n r)))))))
    (λ q.
    let full : S k ≡ true = size_full n S k (ltb-false m n q) h in
    rw (add_idle k S full, q) (sym (not-and_self (eqb m n))))
  where
    n : ℕ
    n = count F

    m : ℕ
    m = size (count F) S

-- ---- a valid file from Idle

module _ (s : Settings) (w : World) (F : File) (idle : w.transfer ≡ Idle) (ok : ValidFile s w F) where
  abbrev P : Blocks
  P = blocks_of s w F

  sound : Valid P w.held
  sound = valid s w F idle ok

  at_start : Reached s w w
  at_start = record { board = board s w F idle ok; lengths = refl }

  K : Invariant P w.held (Others P w.held) Any
  K = keeps_others P w.held sound.few

  -- what is left after a list, by the blocks seen
  pub after_any : {l : List (List ℕ)} → Sent s w F l → After P w (Others P w.held) (seen_of F l) (receive_all s w l)
  after_any {l} sent =
      run_after s w P (Foreign s w F) (steady s w F idle ok) (Others P w.held) Any K false (opens s w F idle ok) sent none w at_start (untouched refl refl)
      (along_any s l w)

  pub counts : {l : List (List ℕ)} → Sent s w F l → Counts w F (seen_of F l) (receive_all s w l)
  counts {l} sent = counts_of P w (Others P w.held) (seen_of F l) (receive_all s w l) (after_any sent) ok.some

  pub others : {l : List (List ℕ)} → Sent s w F l → (u : Kind) → u ≢ F.kind → buffer_of u (receive_all s w l).held ≡ buffer_of u w.held
  others {l} sent u n = go (after_any sent)
    where
      go : After P w (Others P w.held) (seen_of F l) (receive_all s w l) → buffer_of u (receive_all s w l).held ≡ buffer_of u w.held
      go (untouched e p) = ap (λ (x : World). buffer_of u x.held) p
      go (begun x z i p) = ap (λ (x : World). buffer_of u x.held) p ∙ i u n

  -- the set decides both
  pub same_count : {l m : List (List ℕ)} → Sent s w F l → Sent s w F m → seen_of F l ≡ seen_of F m → SameCount (receive_all s w l) (receive_all s w m)
  same_count {l} {m} p q e =
      split (eqb (size F.total (seen_of F l)) 0)
      (λ y.
      let z : size F.total (seen_of F l) ≡ 0 = eqb-true _ _ y in
      let f : receive_all s w l ≡ receive_all s w m =
      (counts p).untouched z ∙ sym ((counts q).untouched (sym (ap (size F.total) e) ∙ z)) in
      record { transfer = ap (λ (v : World). v.transfer) f; seen = ap (λ (v : World). v.seen) f })
      (λ n.
      let ne : size F.total (seen_of F l) ≢ 0 = eqb-false (size F.total (seen_of F l)) 0 n in
      let g = some_seen P w (Others P w.held) (seen_of F l) (receive_all s w l) (after_any p) (omega arith) in
      let h = some_seen P w (Others P w.held) (seen_of F m) (receive_all s w m) (after_any q) (omega (arith, ap (size F.total) e)) in
      record {
        transfer = ap (λ (v : World). v.transfer) g.2 ∙ ap (λ (S : Set). counted (head_by P) (size F.total S)) e ∙ sym (ap (λ (v : World). v.transfer) h.2);
        seen = ap (λ (v : World). v.seen) g.2 ∙ ap (map_of 16384) e ∙ sym (ap (λ (v : World). v.seen) h.2);
      })

  -- ---- the answers

  -- S, with the arrival a, as the claims say it
  grow_own : (S : Set) (k : ℕ) → k < F.total → add k S ≡ with_arrival s w S (F.block k)
  unfolding with_arrival
  grow_own S k h = rw (lt-leb (answer_number s w (F.block k)) 11 (omega (arith, ok.passes k h)), ok.numbers k h)

  grow_other : (S : Set) (a : List ℕ) → Foreign s w F a → with_arrival s w S a ≡ S
  unfolding with_arrival
  grow_other S a f = rw (le-leb (answer_number s w a) 11 f.most)

  reply_other : (S : Set) (a : List ℕ) → Foreign s w F a → reply_to s w F S a ≡ (receive_of s w a).answer
  unfolding reply_to
  reply_other S a f = rw (le-leb (answer_number s w a) 11 f.most)

  own_told : (k : ℕ) → k < F.total → (S : Set) (v : World) → Reached s w v → After P w (Others P w.held) S v
      → Stepped P w (Others P w.held) false S k v.held.flash (receive_of s v (F.block k))
  own_told k h S v m a = own_step s w P (Foreign s w F) (steady s w F idle ok) (Others P w.held) Any K false (opens s w F idle ok) k h S v m a tt

  -- as t tells the answers: t leaves all below 14 and 15, and of a new block that does not complete tells what the claims say
  module _ (t : Answer → Answer) (low : (x : Answer) → number_of x ≤ 13 → t x ≡ x) (last : t Completed ≡ Completed)
      (deeds : (f : List ℕ) (k : ℕ) → k < F.total → length f ≡ length w.held.flash → t (deed_answer (deed_by P f k)) ≡ unfinished (F.block k)) where
    reply-own : (f : List ℕ) → length f ≡ length w.held.flash → (S : Set) (k : ℕ) → k < F.total
        → t (verdict P S k (deed_by P f k)) ≡ reply_to s w F S (F.block k)
    unfolding verdict raised reply_to
    reply-own f n S k h =
        rw (lt-leb (answer_number s w (F.block k)) 11 (omega (arith, ok.passes k h)), ok.numbers k h)
        (split (ltb (size F.total S) F.total)
        (λ y.
        rw (y, ne_eqb (size F.total S) F.total (omega (arith, ltb-true (size F.total S) F.total y)))
        (split (S k)
        (λ u. rw u (low Again (omega arith)))
        (λ u. rw u (split (ltb (size F.total S + 1) F.total) (λ r. rw r (deeds f k h n)) (λ r. rw r last)))))
        (λ z.
        rw (z, eq-eqb (size F.total S) F.total (omega (arith, ltb-false (size F.total S) F.total z, size_le F.total S))) (low Finished (omega arith))))

    told-after : {l : List (List ℕ)} → Sent s w F l → (S : Set) (v : World) → Reached s w v → After P w (Others P w.held) S v
        → map t (answers_of s v l) ≡ replies_to s w F S l
    unfolding answers_of replies_to
    told-after nothing S v m a = refl
    told-after (own {l = l} k h r) S v m a =
        let p = own_told k h S v m a in
        let n : length v.held.flash ≡ length w.held.flash = ap (λ (n : Lengths). n.flash) m.lengths in
        let x : t (receive_of s v (F.block k)).answer ≡ reply_to s w F S (F.block k) = ap t p.told ∙ reply-own v.held.flash n S k h in
        let y : map t (answers_of s (receive_of s v (F.block k)).world l) ≡ replies_to s w F (with_arrival s w S (F.block k)) l =
        told-after r (add k S) (receive_of s v (F.block k)).world (reached_next s w v (F.block k) m) p.next
        ∙ ap (λ (T : Set). replies_to s w F T l) (grow_own S k h) in
        λ i. x i ∷ y i
    told-after (other {l = l} a f r) S v m u =
        let e = foreign_is s w F idle ok v m (after_carried P w (Others P w.held) S v u) a f in
        let x : t (receive_of s v a).answer ≡ reply_to s w F S a =
        ap (λ (o : Outcome). t o.answer) e ∙ low (receive_of s w a).answer (omega (arith, f.most)) ∙ sym (reply_other S a f) in
        let y : map t (answers_of s (receive_of s v a).world l) ≡ replies_to s w F (with_arrival s w S a) l =
        told-after r S (receive_of s v a).world (reached_next s w v a m)
        (other_step s w P (Foreign s w F) (steady s w F idle ok) (Others P w.held) Any K false (opens s w F idle ok) a f S v m u)
        ∙ ap (λ (T : Set). replies_to s w F T l) (sym (grow_other S a f)) in
        λ i. x i ∷ y i

    pub told : {l : List (List ℕ)} → Sent s w F l → map t (answers_of s w l) ≡ replies_to s w F none l
    told sent = told-after sent none w at_start (untouched refl refl)

  -- ---- Completed

  abbrev Exactly : List (List ℕ) → List ℕ → Type 0
  Exactly l a =
      is_completed (receive_of s (receive_all s w l) a).answer ≡ not (is_whole F (seen_of F l)) && is_whole F (seen_of F (l ++ (a ∷ [])))

  -- the worlds after the list
  reached_list : (l : List (List ℕ)) → Reached s w (receive_all s w l)
  reached_list l = reached_after s w l w at_start

  exactly_own : {l : List (List ℕ)} → Sent s w F l → (k : ℕ) → k < F.total → Exactly l (F.block k)
  exactly_own {l} sent k h =
      let S = seen_of F l in
      let t = own_told k h S (receive_all s w l) (reached_list l) (after_any sent) in
      ap is_completed t.told
      ∙ completes P S k (deed_by P (receive_all s w l).held.flash k) h
      ∙ sym (ap (λ (R : Set). not (is_whole F S) && is_whole F R) more)
    where
      more : seen_of F (l ++ (F.block k ∷ [])) ≡ add k (seen_of F l)
      more =
          fun_ext
          (λ j.
          seen_append F l (F.block k ∷ []) j
          ∙ ap (λ (R : Set). seen_of F l j || R j) (seen_own s w P (Foreign s w F) (steady s w F idle ok) k [] h)
          ∙ ap (λ (b : Bool). seen_of F l j || (eqb j k || b)) (seen_nothing F j)
          ∙ ap (λ (b : Bool). seen_of F l j || b) (or_comm (eqb j k) false)
          ∙ or_comm (seen_of F l j) (eqb j k))

  exactly_other : {l : List (List ℕ)} → Sent s w F l → (a : List ℕ) → Foreign s w F a → Exactly l a
  exactly_other {l} sent a f =
      ap (λ (o : Outcome). is_completed o.answer) (foreign_is s w F idle ok (receive_all s w l) (reached_list l) (after_carried P w (Others P w.held) (seen_of F l) (receive_all s w l) (after_any sent)) a f)
      ∙ ne_eqb (answer_number s w a) 15 (λ e. omega (arith, f.most))
      ∙ sym (not-and_self (is_whole F (seen_of F l)))
      ∙ sym (ap (λ (R : Set). not (is_whole F (seen_of F l)) && is_whole F R) same)
    where
      same : seen_of F (l ++ (a ∷ [])) ≡ seen_of F l
      same =
          fun_ext
          (λ j.
          seen_append F l (a ∷ []) j
          ∙ ap (λ (R : Set). seen_of F l j || R j) (seen_other s w P (Foreign s w F) (steady s w F idle ok) a [] f)
          ∙ ap (λ (b : Bool). seen_of F l j || b) (seen_nothing F j)
          ∙ or_comm (seen_of F l j) false)

  pub exactly : (l : List (List ℕ)) (a : List ℕ) → Sent s w F (l ++ (a ∷ [])) → Exactly l a
  exactly l a sent = let q = mixed_split F (Foreign s w F) l (a ∷ []) sent in last l q.0 refl q.1
    where
      last : (l : List (List ℕ)) {a : List ℕ} → Sent s w F l → {m : List (List ℕ)} → m ≡ a ∷ [] → Sent s w F m → Exactly l a
      last l p e nothing = absurd (omega (arith, ap length e))
      last l {a} p e (own k h r) = let x : F.block k ≡ a = cc in subst (Exactly l) x (exactly_own p k h)
      last l {a} p e (other b f r) = let x : b ≡ a = cc in subst (Exactly l) x (exactly_other p b f)

  -- ---- without regions

  -- a block with no region that counts does not stand in the flash
  place_out : (f : List ℕ) (k : ℕ) (p : Option Place) → has_flag (F.block k) 0x4000 && good_region (size_of p) (field_at (F.block k) 12) (region_of (F.block k)) ≡ false
      → stands_at f p (F.block k) ≡ false
  unfolding stands_at
  place_out f k None e = refl
  place_out f k (Some p) e = rw e

  pub unkept : Plain s w F → Unkept P w.held
  unkept plain f k h y n =
      let p = place_of s (length w.held.flash) F.family in
      let g = plain k h in
      rw (n, ok.families k h)
      (split (same_kind F.kind Flash) (λ a. rw a (place_out f k p (rw (a, y) at g))) (λ a. rw a))

  module _ (plain : Plain s w F) where
    L : Invariant P w.held (Same P w.held) Any
    L = invariant_of P w.held (effect P w.held) (grows P w.held sound (unkept plain))

    pub after_list : {l : List (List ℕ)} → Sent s w F l → After P w (Same P w.held) (seen_of F l) (receive_all s w l)
    after_list {l} sent =
        run_after s w P (Foreign s w F) (steady s w F idle ok) (Same P w.held) Any L false (opens s w F idle ok) sent none w at_start (untouched refl refl)
        (along_any s l w)

    pub ends : {l : List (List ℕ)} → Sent s w F l → Ends s w F (seen_of F l) (receive_all s w l)
    ends {l} sent =
        let S = seen_of F l in
        let v = receive_all s w l in
        let a = after_list sent in
        record {
          counts = counts sent;
          sector_map = sectors_are P w S v a;
          contents = contents_of_lem s w F sound S v (there P w S v a) (same_lengths P w S v a);
        }

    -- one world by the set
    ends_at : {l : List (List ℕ)} → Sent s w F l → receive_all s w l ≡ after P (effect P w.held) w (seen_of F l)
    ends_at {l} sent = after_is P (effect P w.held) w (seen_of F l) (receive_all s w l) (after_list sent)

    pub same_set : {l m : List (List ℕ)} → Sent s w F l → Sent s w F m → seen_of F l ≡ seen_of F m → receive_all s w l ≡ receive_all s w m
    same_set p q e = ends_at p ∙ ap (after P (effect P w.held) w) e ∙ sym (ends_at q)

    deed-plain : (f : List ℕ) (k : ℕ) → k < F.total → length f ≡ length w.held.flash → deed_answer (deed_by P f k) ≡ unfinished (F.block k)
    deed-plain f k h n =
        split (has_flag (F.block k) 0x1)
        (λ y. rw y)
        (λ z. rw (unkept plain f k h (ap not z) n, z))

-- ---- the claims

soft_low : (x : Answer) → number_of x ≤ 13 → soft x ≡ x
soft_low x h = rw (ne_eqb (number_of x) 17 (λ e. omega arith))

-- what a data block is told that does not complete, kept or stored
soft_deed : (F : Blocks) (f : List ℕ) (k : ℕ) → soft (deed_answer (deed_by F f k)) ≡ unfinished (F.file.block k)
soft_deed F f k =
    split (has_flag (F.file.block k) 0x1)
    (λ y. rw y)
    (λ z. split (same_kind (kind_in F) Flash && F.stands f k) (λ y. rw (y, z)) (λ n. rw (n, z)))

pub list_counts : ListCounts
unfolding ListCounts
list_counts s w F idle ok l sent = counts s w F idle ok sent

pub other_kinds_stay : OtherKindsStay
unfolding OtherKindsStay
other_kinds_stay s w F idle ok l sent = others s w F idle ok sent

pub list_answers : ListAnswers
unfolding ListAnswers
list_answers s w F idle ok l sent = told s w F idle ok soft soft_low refl (λ f k h n. soft_deed (blocks_of s w F) f k) sent

pub list_ends : ListEnds
unfolding ListEnds
list_ends s w F idle ok l sent plain = ends s w F idle ok plain sent

pub plain_answers : PlainAnswers
unfolding PlainAnswers
plain_answers s w F idle ok l sent plain =
    sym (map-id (answers_of s w l)) ∙ told s w F idle ok (λ x. x) (λ x h. refl) refl (deed-plain s w F idle ok plain) sent

pub completed_exactly : CompletedExactly
unfolding CompletedExactly
completed_exactly s w F idle ok l a sent = exactly s w F idle ok l a sent

-- sets that are the same below the total are the same
same_seen : (F : File) (l m : List (List ℕ)) → SameSet F l m → seen_of F l ≡ seen_of F m
same_seen F l m e = fun_ext (λ k. below k (ltb k F.total) refl)
  where
    below : (k : ℕ) (b : Bool) → ltb k F.total ≡ b → seen_of F l k ≡ seen_of F m k
    below k true y = e k (ltb-true k F.total y)
    below k false z = rw z

either_seen : (F : File) (l m : List (List ℕ)) → seen_of F (l ++ m) ≡ seen_of F (m ++ l)
either_seen F l m = fun_ext (λ k. seen_append F l m k ∙ or_comm (seen_of F l k) (seen_of F m k) ∙ sym (seen_append F m l k))

pub same_set_same_end : SameSetSameEnd
unfolding SameSetSameEnd
same_set_same_end s w F idle ok l p plain m q e = same_set s w F idle ok plain p q (same_seen F l m e)

pub either_first : EitherFirst
unfolding EitherFirst
either_first s w F idle ok l p plain m q = same_set s w F idle ok plain (mixed_append p q) (mixed_append q p) (either_seen F l m)

pub same_set_same_count : SameSetSameCount
unfolding SameSetSameCount
same_set_same_count s w F idle ok l p m q e = same_count s w F idle ok p q (same_seen F l m e)

pub either_first_same_count : EitherFirstSameCount
unfolding EitherFirstSameCount
either_first_same_count s w F idle ok l p m q = same_count s w F idle ok (mixed_append p q) (mixed_append q p) (either_seen F l m)
