-- The claims of specs/Stopped.antt hold. Assumes nothing.
use Prim.Native.Nat.{ℕ, ◌+◌, ◌/◌, ◌%◌, ◌≤◌, ◌<◌}
use mathlib.Core.Path.{◌≡◌, refl, sym, ap, subst, ◌∙◌}
use mathlib.Core.Logic.{◌≢◌, ◌⊎◌, inl, inr, ⊎_elim}
use mathlib.Core.Bool.{Bool, true, false, not, cond, ◌&&◌}
use mathlib.Core.List.{List}
use native.Mathlib.Omega.{arith}
use lib.Dec.{eqb, ltb}
use lib.ListN.{length, get_or, get_or-eq_default}
use borrow.Author.Tests.{eqb-true, ltb-true, ltb-false, not-true}
use Rattle.std.specs.Prelude.{Ok, Err}
use Rattle.laws.specs.Sets.{Set, none, size, any}
use Rattle.laws.proofs.Tests.{split, clash, is_false, and_left, and_right, both}
use Rattle.laws.proofs.Laws.{any_found}
use Rattle.memory.specs.Bitmap.{map_of}
use Rattle.memory.specs.Flash.{flash_length, payload_of, spans}
use Rattle.uf2_block.specs.Block.{field_at, has_flag, fields_of, header_of}
use Rattle.partitions.specs.Settings.{good_settings}
use Rattle.partitions.specs.declared.Settings.{Settings}
use Rattle.transfer.specs.Transfer.{same_kind, same_head, number_of, counted, accepted, step_of}
use Rattle.transfer.specs.declared.Kind.{Kind}
use Rattle.transfer.specs.declared.Kind.TheVariants.{Flash, MainRam, XipRam}
use Rattle.transfer.specs.declared.Head.{Head}
use Rattle.transfer.specs.declared.Run.{Run}
use Rattle.transfer.specs.declared.State.{State}
use Rattle.transfer.specs.declared.State.TheVariants.{Idle, Running}
use Rattle.uf2_checks.specs.Screen.{note_kind, screen_of, Screening}
use Rattle.uf2_checks.specs.declared.Lengths.{Lengths}
use Rattle.arrival.specs.Arrive.{Held, World, Outcome, buffer_of, lengths_of, ram_length, done, receive_of}
use Rattle.arrival.specs.Lists.{receive_all}
use Rattle.demand.specs.Demand.{File, answer_number, is_data, ValidFile, is_found, Foreign, Mixed, Sent, seen_of, changed_by, head_in, Plain}
use Rattle.demand.specs.Stopped.{Stopped, ForeignToBoth, EndsAlike, StoppedThenGood, idled, StoppedIsIdle, StoppedOthersStay}
use Rattle.arrival.proofs.Heads.{kind_same, head_same}
use Rattle.arrival.proofs.Pages.{arrive}
use Rattle.arrival.proofs.Count.{Blocks, count, placed_of, Any, Invariant, Opens, After, untouched, reached, some_seen, invariant_of, Carried}
use Rattle.arrival_claims.proofs.Cells.{touched, cell, cell_owned, get_d_buffer}
use Rattle.arrival.proofs.Paged.{length_in, length_in_lem, Fits}
use Rattle.arrival_claims.proofs.Effect.{kind_in, Valid, layout, sectors_of, apart_of, Unkept, effect, effect_buffer, length_effect, grows}
use Rattle.demand.proofs.Contents.{byte_in, sectors_in, held_in_lem}
use Rattle.arrival_claims.proofs.Screening.{lens, Board, screen_turn, note_counted}
use Rattle.arrival_claims.proofs.DecisionFacts.{step_late}
use Rattle.demand.proofs.Lists.{board_same, Reached, receive_refused, receive_passed}
use Rattle.demand.proofs.Runs.{Steady, mixed_map, along_any, run_after}
use Rattle.demand.proofs.Files.{earned, blocks_of, board, block_size, comment_flash, screen_block, valid, screen_foreign, foreign_apart, steady}
use Rattle.demand.proofs.Demand.{unkept, after_list, ends}

module _ (s : Settings) (v w : World) (F : File) (Z : Stopped F v w) (ok : ValidFile s w F) where
  abbrev P : Blocks
  P = blocks_of s w F

  abbrev Others : List ℕ → Type 0
  Others = ForeignToBoth s v w F

  at_idle : Board s w
  at_idle = board s w F Z.idle ok

  -- rows 1 to 3 are passed at the stopped start too
  stopped_board : Board s v
  stopped_board = board_same s v w (record { buffers = Z.lengths; seen = Z.seen_length; sectors = Z.sectors_length }) Z.sound at_idle

  same_length : (u : Kind) → length (buffer_of u v.held) ≡ length (buffer_of u w.held)
  same_length u = length_in_lem u v.held ∙ ap (λ (n : Lengths). length_in n u) Z.lengths ∙ sym (length_in_lem u w.held)

  stopped_valid : Valid P v.held
  stopped_valid =
      let q = valid s w F Z.idle ok in
      record {
        some = q.some;
        few = q.few;
        whole = ap (λ (n : ℕ). n % 4096) (same_length Flash) ∙ q.whole;
        most = rw (same_length Flash) q.most;
        sectors = Z.sectors_length ∙ q.sectors;
        fits = λ k h y. subst (λ (n : ℕ). Fits (kind_in P) n (P.at k) (payload_of (F.block k))) (sym (same_length (kind_in P))) (q.fits k h y);
        apart = q.apart;
      }

  -- "a change of kind discards like a change of family": each of its blocks, coming first, discards the stopped transfer
  stopped_opens : Opens P v true
  stopped_opens =
      record {
        sized = stopped_board.seen;
        opens = λ m e. unfold step_of in rw (Z.running, is_false (same_head Z.run.head (head_in F)) (λ y. Z.differs (head_same Z.run.head (head_in F) y)));
      }

  -- ---- what is screened from there on

  -- while the stopped transfer runs a comment of another family or total is flash's, as at the Idle start
  apart_note : (a : List ℕ) → eqb Z.run.head.family (field_at a 28) && eqb Z.run.head.total (field_at a 24) ≡ false
      → note_kind (lens w) v.transfer (fields_of a) ≡ note_kind (lens w) w.transfer (fields_of a)
  unfolding note_kind fields_of
  apart_note a z = rw (Z.running, Z.idle, z)

  -- a comment of the file is one: "A file that differs in kind alone holds no comments"
  own_note : (k : ℕ) → k < F.total → has_flag (F.block k) 0x1 ≡ true
      → eqb Z.run.head.family (field_at (F.block k) 28) && eqb Z.run.head.total (field_at (F.block k) 24) ≡ false
  own_note k h y =
      let p = eqb Z.run.head.family (field_at (F.block k) 28) in
      let q = eqb Z.run.head.total (field_at (F.block k) 24) in
      is_false (p && q)
      (λ e.
      let f : Z.run.head.family ≡ F.family = eqb-true _ _ (and_left p q e) ∙ ok.families k h in
      let t : Z.run.head.total ≡ F.total = eqb-true _ _ (and_right p q e) ∙ ok.totals k h in
      clash (has_flag (F.block k) 0x1) y (not-true (has_flag (F.block k) 0x1) (Z.quiet f t k h)))

  -- once the file runs, all is screened as at the Idle start
  file_turn : (u : World) → Reached s v u → (c : ℕ) → u.transfer ≡ counted (head_in F) c → (a : List ℕ)
      → (is_found (header_of a) ≡ true → has_flag a 0x1 ≡ true → (F.kind ≡ Flash) ⊎ (eqb F.family (field_at a 28) && eqb F.total (field_at a 24) ≡ false))
      → screen_of s (lens u) u.transfer a ≡ screen_of s (lens w) w.transfer a
  file_turn u m c e a o =
      ap (λ (n : Lengths). screen_of s n u.transfer a) (m.lengths ∙ Z.lengths)
      ∙ screen_turn s (lens w) u.transfer w.transfer a
      (λ f y.
      ap (λ (t : State). note_kind (lens w) t (fields_of a)) e
      ∙ note_counted (lens w) (head_in F) c a (o f y)
      ∙ sym (ap (λ (t : State). note_kind (lens w) t (fields_of a)) Z.idle ∙ unfold note_kind in refl))

  -- a block of the file passes all through the list
  own_screened : (u : World) → Reached s v u → Carried P v u.transfer → (k : ℕ) → k < F.total
      → screen_of s (lens u) u.transfer (F.block k) ≡ Ok (placed_of P k)
  own_screened u m c k h =
      ⊎_elim
      (λ (e : u.transfer ≡ v.transfer).
      ap (λ (n : Lengths). screen_of s n u.transfer (F.block k)) (m.lengths ∙ Z.lengths)
      ∙ screen_turn s (lens w) u.transfer w.transfer (F.block k)
      (λ f y. ap (λ (t : State). note_kind (lens w) t (fields_of (F.block k))) e ∙ apart_note (F.block k) (own_note k h y)))
      (λ e. file_turn u m e.0 e.1 (F.block k) (λ f y. inl (comment_flash s w F Z.idle ok k h y)))
      c
      ∙ screen_block s w F Z.idle ok k h

  -- ---- a foreign arrival changes nothing, at either start and after it

  refused_there : (a : List ℕ) → ForeignToBoth s v w F a → (x : Screening) → screen_of s (lens v) v.transfer a ≡ x
      → (y : _) × (screen_of s (lens v) v.transfer a ≡ Err y)
  refused_there a f (Err x) e = (x, e)
  refused_there a f (Ok g) e =
      let l = (earned s v a f.least).1 in
      let p : 12 ≤ answer_number s v a = rw (receive_passed s v a stopped_board l g e) (unfold arrive in step_late v (payload_of a) g _ v.transfer _) in
      absurd (omega (arith, p, f.most))

  other_stays : (u : World) → Reached s v u → Carried P v u.transfer → (a : List ℕ) → Others a → (receive_of s u a).world ≡ u
  other_stays u m c a f =
      ⊎_elim
      (λ (e : u.transfer ≡ v.transfer).
      let r = refused_there a f (screen_of s (lens v) v.transfer a) refl in
      let q : screen_of s (lens u) u.transfer a ≡ Err r.0 = (λ i. screen_of s (m.lengths i) (e i) a) ∙ r.1 in
      ap (λ (o : Outcome). o.world) (receive_refused s u a m.board (earned s v a f.least).1 r.0 q))
      (λ e.
      let r = screen_foreign s w F Z.idle ok a f.foreign in
      ap (λ (o : Outcome). o.world)
      (receive_refused s u a m.board r.1 (receive_of s w a).answer
      (file_turn u m e.0 e.1 a (foreign_apart s w F Z.idle ok a f.foreign) ∙ r.0)))
      c

  stopped_steady : Steady s v P Others
  stopped_steady =
      let q = steady s w F Z.idle ok in
      record {
        ours = λ u m c k h. receive_passed s u (F.block k) m.board (block_size s w F Z.idle ok k h) (placed_of P k) (own_screened u m c k h);
        foreign = other_stays;
        different = q.different;
        apart = λ j h f. q.apart j h f.foreign;
      }

  -- ---- both ends, by the set of blocks seen

  module _ (plain : Plain s w F) (l : List (List ℕ)) (mixed : Mixed F Others l) (some : 1 ≤ size F.total (seen_of F l)) where
    abbrev S : Set
    S = seen_of F l

    stopped-unkept : Unkept P v.held
    stopped-unkept f k h y n = unkept s w F Z.idle ok plain f k h y (n ∙ same_length Flash)

    stopped-end : receive_all s v l ≡ reached P S (effect P v.held S)
    stopped-end =
        let K = invariant_of P v.held (effect P v.held) (grows P v.held stopped_valid stopped-unkept) in
        let Inv : Set → Held → Type 0 = λ S x. x ≡ effect P v.held S in
        let a = run_after s v P Others stopped_steady Inv Any K true stopped_opens mixed none v (record { board = stopped_board; lengths = refl }) (untouched refl refl) (along_any s l v) in
        let r = some_seen P v Inv S (receive_all s v l) a some in
        r.2 ∙ ap (reached P S) r.1

    sent : Sent s w F l
    sent = mixed_map (λ a f. f.foreign) mixed

    idle-end : receive_all s w l ≡ reached P S (effect P w.held S)
    idle-end =
        let r = some_seen P w (λ S x. x ≡ effect P w.held S) S (receive_all s w l) (after_list s w F Z.idle ok plain sent) some in
        r.2 ∙ ap (reached P S) r.1

    -- a byte that is changed is the same over any two contents
    abbrev cellOver : Kind → Held → ℕ → ℕ
    cellOver u x j = cell (count P) (layout u P) (byte_in u x) S j

    touched-alike : (u : Kind) (j : ℕ) → touched (count P) (layout u P) S (j / 4096) ≡ true → cellOver u v.held j ≡ cellOver u w.held j
    unfolding cell
    touched-alike u j t = rw t

    held-alike : (u : Kind) (j : ℕ) → any F.total (λ k. S k && (layout u P).owns k j) ≡ true → cellOver u v.held j ≡ cellOver u w.held j
    held-alike u j y =
        let r = any_found (λ k. S k && (layout u P).owns k j) F.total y in
        let t = and_left (S r.0) ((layout u P).owns r.0 j) r.2 in
        let o = and_right (S r.0) ((layout u P).owns r.0 j) r.2 in
        let A = apart_of u P w.held (valid s w F Z.idle ok) in
        cell_owned (count P) (layout u P) (byte_in u v.held) S j A r.0 r.1 t o
        ∙ sym (cell_owned (count P) (layout u P) (byte_in u w.held) S j A r.0 r.1 t o)

    changed-alike : (u : Kind) (j : ℕ) → changed_by s w F S u j ≡ true → cellOver u v.held j ≡ cellOver u w.held j
    changed-alike Flash j y = touched-alike Flash j (sectors_in P S (j / 4096) ∙ y)
    changed-alike MainRam j y = held-alike MainRam j (held_in_lem P S MainRam j ∙ y)
    changed-alike XipRam j y = held-alike XipRam j (held_in_lem P S XipRam j ∙ y)

    byte_is : (x : Held) (u : Kind) (j : ℕ) → j < length (buffer_of u x) → byte_in u (effect P x S) j ≡ cellOver u x j
    byte_is x u j h = ap (λ (b : List ℕ). get_or b j 0) (effect_buffer u P x S) ∙ get_d_buffer (count P) (layout u P) (buffer_of u x) S j h

    bytes-alike : (u : Kind) (j : ℕ) → changed_by s w F S u j ≡ true → byte_in u (effect P v.held S) j ≡ byte_in u (effect P w.held S) j
    bytes-alike u j y =
        split (ltb j (length (buffer_of u w.held)))
        (λ t.
        let h : j < length (buffer_of u w.held) = ltb-true _ _ t in
        byte_is v.held u j (rw (same_length u) h) ∙ changed-alike u j y ∙ sym (byte_is w.held u j h))
        (λ z.
        let past : length (buffer_of u w.held) ≤ j = ltb-false j (length (buffer_of u w.held)) z in
        get_or-eq_default (buffer_of u (effect P v.held S)) 0 (rw (length_effect u P v.held S ∙ same_length u) past)
        ∙ sym (get_or-eq_default (buffer_of u (effect P w.held S)) 0 (rw (length_effect u P w.held S) past)))

    sectors-alike : (effect P v.held S).sectors ≡ (effect P w.held S).sectors
    unfolding effect
    sectors-alike = refl

    alike : EndsAlike s w F l (receive_all s v l) (receive_all s w l)
    alike =
        record {
          transfer = ap (λ (x : World). x.transfer) stopped-end ∙ sym (ap (λ (x : World). x.transfer) idle-end);
          seen = ap (λ (x : World). x.seen) stopped-end ∙ sym (ap (λ (x : World). x.seen) idle-end);
          sectors =
              ap (λ (x : World). x.held.sectors) stopped-end ∙ sectors-alike ∙ sym (ap (λ (x : World). x.held.sectors) idle-end);
          bytes = λ u j y.
              ap (λ (x : World). byte_in u x.held j) stopped-end ∙ bytes-alike u j y ∙ sym (ap (λ (x : World). byte_in u x.held j) idle-end);
        }

-- ---- the claims

pub stopped_then_good : StoppedThenGood
unfolding StoppedThenGood
stopped_then_good s v w F Z ok plain l mixed some = alike s v w F Z ok plain l mixed some

pub stopped_is_idle : StoppedIsIdle
unfolding StoppedIsIdle
stopped_is_idle s v F Z ok plain l mixed some =
    stopped-end s v (idled v) F Z ok plain l mixed some ∙ sym (idle-end s v (idled v) F Z ok plain l mixed some)

pub stopped_others_stay : StoppedOthersStay
unfolding StoppedOthersStay
stopped_others_stay s v F Z ok plain l mixed some u j z =
    ap (λ (x : World). byte_in u x.held j)
    (stopped-end s v (idled v) F Z ok plain l mixed some ∙ sym (idle-end s v (idled v) F Z ok plain l mixed some))
    ∙ (ends s (idled v) F refl ok plain (mixed_map (λ a f. f.foreign) mixed)).contents.others u j z
