-- A valid file is blocks for `Count` and `Effect`, and its blocks and foreign arrivals are screened alike all through a list.
-- Assumes nothing.
use Prim.Native.Nat.{ℕ, ◌+◌, ◌-◌, ◌%◌, ◌≤◌, ◌<◌}
use mathlib.Core.Path.{◌≡◌, refl, sym, ap, subst, ◌∙◌}
use mathlib.Core.Logic.{◌≢◌, ◌⊎◌, inl, inr, ⊎_elim}
use mathlib.Core.Bool.{true, false, not, ◌&&◌}
use mathlib.Core.List.{List}
use native.Mathlib.Omega.{arith}
use lib.Dec.{eqb}
use lib.ListN.{length}
use borrow.Author.Tests.{not-true}
use Rattle.std.specs.Prelude.{Some, Ok, Err}
use Rattle.laws.proofs.Tests.{split, clash}
use Rattle.uf2_block.specs.Block.{field_at, has_flag, fields_of, header_of}
use Rattle.memory.specs.Flash.{payload_of, spans}
use Rattle.memory.proofs.flash.Laws.{length_right}
use Rattle.partitions.specs.declared.Settings.{Settings}
use Rattle.placement.specs.Place.{place_of, place_from}
use Rattle.placement.proofs.Theorems.{place_inside}
use Rattle.transfer.specs.Transfer.{same_kind, head_with, number_of, accepted, step_of}
use Rattle.transfer.specs.declared.Kind.{Kind}
use Rattle.transfer.specs.declared.Kind.TheVariants.{Flash}
use Rattle.transfer.specs.declared.State.{State}
use Rattle.transfer.specs.declared.State.TheVariants.{Idle}
use Rattle.uf2_checks.specs.Screen.{note_kind, rooms_of, room_in, screen_of, Screening}
use Rattle.uf2_checks.specs.declared.Lengths.{Lengths}
use Rattle.uf2_checks.specs.declared.Body.TheVariants.{Page}
use Rattle.uf2_checks.specs.declared.PlacedBlock.{PlacedBlock}
use Rattle.arrival.specs.Arrive.{World, Outcome, buffer_of, standing, deed_of, unchanged, done, receive_of}
use Rattle.arrival.specs.Windows.{window_start, window_end, kind_of}
use Rattle.demand.specs.Demand.{File, answer_number, is_data, address_of, ValidFile, is_found, Foreign, origin_of, storage_of, head_in}
use Rattle.arrival.proofs.Heads.{kind_same}
use Rattle.arrival.proofs.Windows.{window_one, lies_true}
use Rattle.arrival.proofs.Pages.{arrive}
use Rattle.arrival.proofs.Count.{Blocks, body_of, placed_of, Opens, Carried}
use Rattle.arrival.proofs.Paged.{Fits}
use Rattle.arrival_claims.proofs.Effect.{Valid, spans_true, spans_is}
use Rattle.arrival_claims.proofs.Screening.{flash_of, lens, Board, Passing, Good, screen_good, screen_turn, note_counted, room_origin, passing_few, passing_fits}
use Rattle.arrival_claims.proofs.DecisionFacts.{Rows, stopped, through, rows, raised_number}
use Rattle.demand.proofs.Lists.{receive_refused, receive_passed, Reached}
use Rattle.demand.proofs.Runs.{Steady}

-- ---- an arrival that earns 4 or more has passed rows 1 to 3

pub earned : (s : Settings) (w : World) (a : List ℕ) → 4 ≤ answer_number s w a → Board s w × (length a ≡ 512)
earned s w a h = go (rows s w a)
  where
    go : Rows s w a → Board s w × (length a ≡ 512)
    go (stopped x n e) =
        let f : (receive_of s w a).answer ≡ x = unfold receive_of done in ap (λ d. (done w (payload_of a) d).answer) e in
        absurd (omega (arith, ap number_of f))
    go (through B l) = (B, l)

-- ---- a valid file

abbrev pub blocks_of : Settings → World → File → Blocks
blocks_of s w F = record { file = F; at = λ k. storage_of s w F k; stands = λ f k. standing s f (F.block k) }

-- the place of its family in the flash
pub record Located (s : Settings) (w : World) (F : File) : Type 0 where
  pub start : ℕ
  pub size : ℕ
  pub place : place_of s (flash_of w) F.family ≡ Some (place_from start size)
  pub first : start % 4096 ≡ 0
  pub within : start + size ≤ flash_of w

module _ (s : Settings) (w : World) (F : File) (idle : w.transfer ≡ Idle) (ok : ValidFile s w F) where
  pub board : Board s w
  board = (earned s w (F.block 0) (omega (arith, ok.passes 0 ok.some))).0

  -- the answer to an arrival at the start, by what it is screened to
  abbrev Earned : List ℕ → Screening → Type 0
  Earned a (Err x) = (receive_of s w a).answer ≡ x
  Earned a (Ok g) = 14 ≤ answer_number s w a

  first : (a : List ℕ) → length a ≡ 512 → (x : Screening) → screen_of s (lens w) w.transfer a ≡ x → Earned a x
  first a l (Err x) e = ap (λ (o : Outcome). o.answer) (receive_refused s w a board l x e)
  first a l (Ok g) e = rw (receive_passed s w a board l g e) (unfold arrive step_of done accepted in rw idle (raised_number (deed_of (standing s w.held.flash a) g) g.head 1))

  -- a block of the file passes
  passed : (k : ℕ) → k < F.total → (g : PlacedBlock) × (screen_of s (lens w) w.transfer (F.block k) ≡ Ok g) × Passing s w (F.block k) g
  passed k h = go (screen_of s (lens w) w.transfer a) refl (screen_good s w a)
    where
      a : List ℕ
      a = F.block k

      l : length a ≡ 512
      l = (earned s w a (omega (arith, ok.passes k h))).1

      go : (x : Screening) → screen_of s (lens w) w.transfer a ≡ x → Good s w a x
          → (g : PlacedBlock) × (screen_of s (lens w) w.transfer a ≡ Ok g) × Passing s w a g
      go (Err x) e n = absurd (omega (arith, n, ok.passes k h, ap number_of (first a l (Err x) e)))
      go (Ok g) e n = (g, e, n)

  pub block_size : (k : ℕ) → k < F.total → length (F.block k) ≡ 512
  block_size k h = (earned s w (F.block k) (omega (arith, ok.passes k h))).1

  -- of a data block: its flag, its address in the window of the file's kind
  data_clear : (k : ℕ) → is_data F k ≡ true → has_flag (F.block k) 0x1 ≡ false
  data_clear k y = not-true (has_flag (F.block k) 0x1) y

  in_window : (k : ℕ) → k < F.total → is_data F k ≡ true → (window_start F.kind ≤ address_of F k) × (address_of F k < window_end F.kind)
  in_window k h y = lies_true F.kind (address_of F k) (ok.kinds k h y)

  -- a file with a comment is one of flash
  pub comment_flash : (k : ℕ) → k < F.total → has_flag (F.block k) 0x1 ≡ true → F.kind ≡ Flash
  comment_flash k h y =
      split (same_kind F.kind Flash)
      (kind_same F.kind Flash)
      (λ z. clash (has_flag (F.block k) 0x1) y (data_clear k (ok.quiet (λ e. clash (same_kind F.kind Flash) (ap (λ (u : Kind). same_kind u Flash) e) z) k h)))

  -- the kind that a block has at the start is the file's
  kind_is : (k : ℕ) (h : k < F.total) → kind_of w (F.block k) ≡ F.kind
  kind_is k h =
      split (has_flag (F.block k) 0x1)
      (λ y. unfold kind_of in rw (y, idle) (sym (comment_flash k h y)))
      (λ z.
      let p = (passed k h).2.page z in
      let i = in_window k h (ap not z) in
      window_one (kind_of w (F.block k)) F.kind (address_of F k) p.low p.high i.0 i.1)

  storage_is : (k : ℕ) (h : k < F.total)
      → (passed k h).2.start + (address_of F k - window_start (kind_of w (F.block k))) ≡ storage_of s w F k
  storage_is k h =
      let p = (passed k h).2 in
      let u = kind_of w (F.block k) in
      ap (λ (x : ℕ). x + (address_of F k - window_start u)) (room_origin s w board (field_at (F.block k) 28) u p.start p.size p.place)
      ∙ (λ i. origin_of s w (kind_is k h i) (ok.families k h i) + (address_of F k - window_start (kind_is k h i)))

  body_is : (k : ℕ) (h : k < F.total) → (passed k h).0.body ≡ body_of (blocks_of s w F) k
  body_is k h =
      (passed k h).2.body
      ∙ split (has_flag (F.block k) 0x1) (λ y. rw y) (λ z. rw z (ap Page (storage_is k h)))

  placed_is : (k : ℕ) (h : k < F.total) → (passed k h).0 ≡ placed_of (blocks_of s w F) k
  placed_is k h =
      let p = (passed k h).2 in
      let e : (passed k h).0.head ≡ head_in F = p.head ∙ (λ i. head_with (kind_is k h i) (ok.families k h i) (ok.totals k h i)) in
      let n : (passed k h).0.number ≡ k = p.number ∙ ok.numbers k h in
      let b : (passed k h).0.body ≡ body_of (blocks_of s w F) k = body_is k h in
      λ i. record { head = e i; number = n i; body = b i }

  -- a file of flash has one
  pub located : F.kind ≡ Flash → Located s w F
  located flat =
      let p = (passed 0 ok.some).2 in
      let k : kind_of w (F.block 0) ≡ Flash = kind_is 0 ok.some ∙ flat in
      let e : place_of s (flash_of w) F.family ≡ Some (place_from p.start p.size) =
      sym (λ i. room_in (rooms_of s (flash_of w) (ok.families 0 ok.some i)) (k i)) ∙ p.place in
      let i = place_inside s (flash_of w) F.family board.flash board.good p.start p.size e in
      record { start = p.start; size = p.size; place = e; first = i.0; within = i.2 }

  pub screen_block : (k : ℕ) → k < F.total → screen_of s (lens w) w.transfer (F.block k) ≡ Ok (placed_of (blocks_of s w F) k)
  screen_block k h = (passed k h).1 ∙ ap Ok (placed_is k h)

  pub valid : Valid (blocks_of s w F) w.held
  valid =
      let r = length_right (flash_of w) board.flash in
      record {
        some = ok.some;
        few = omega (arith, few, ok.totals 0 ok.some);
        whole = r.whole;
        most = r.most;
        sectors = board.sectors;
        fits = fits;
        apart = apart;
      }
    where
      few : field_at (F.block 0) 24 ≤ 131072
      few = passing_few s w (F.block 0) (passed 0 ok.some).0 (passed 0 ok.some).2 board

      fits : (k : ℕ) → k < F.total → is_data F k ≡ true
          → Fits F.kind (length (buffer_of F.kind w.held)) (storage_of s w F k) (payload_of (F.block k))
      fits k h y =
          subst (λ (u : Kind). Fits u (length (buffer_of u w.held)) (storage_of s w F k) (payload_of (F.block k))) (kind_is k h)
          (subst (λ (x : ℕ). Fits (kind_of w (F.block k)) (length (buffer_of (kind_of w (F.block k)) w.held)) x (payload_of (F.block k))) (storage_is k h)
          (passing_fits s w (F.block k) (passed k h).0 (passed k h).2 board (data_clear k y) (block_size k h)))

      -- one kind and family has one origin, so that disjoint ranges are stored apart
      apart : (i k j : ℕ) → i < F.total → k < F.total → is_data F i ≡ true → is_data F k ≡ true
          → spans (storage_of s w F i) j ≡ true → spans (storage_of s w F k) j ≡ true → i ≡ k
      apart i k j hi hk yi yk p q =
          let x = j + window_start F.kind - origin_of s w F.kind F.family in
          ok.disjoint i k x hi hk yi yk (back i hi yi p) (back k hk yk q)
        where
          back : (k : ℕ) → k < F.total → is_data F k ≡ true → spans (storage_of s w F k) j ≡ true
              → spans (address_of F k) (j + window_start F.kind - origin_of s w F.kind F.family) ≡ true
          back k h y e =
              let r = spans_true (storage_of s w F k) j e in
              let l = (in_window k h y).0 in
              spans_is (address_of F k) (j + window_start F.kind - origin_of s w F.kind F.family) (omega (arith, r, l)) (omega (arith, r, l))

  pub opens : Opens (blocks_of s w F) w false
  opens = record { sized = board.seen; opens = λ m e. unfold step_of in rw idle }

  -- ---- a foreign arrival

  pub screen_foreign : (a : List ℕ) → Foreign s w F a → (screen_of s (lens w) w.transfer a ≡ Err (receive_of s w a).answer) × (length a ≡ 512)
  screen_foreign a f = (go (screen_of s (lens w) w.transfer a) refl, l)
    where
      l : length a ≡ 512
      l = (earned s w a f.least).1

      go : (x : Screening) → screen_of s (lens w) w.transfer a ≡ x → screen_of s (lens w) w.transfer a ≡ Err (receive_of s w a).answer
      go (Err x) e = e ∙ ap Err (sym (first a l (Err x) e))
      go (Ok g) e = absurd (omega (arith, f.most, first a l (Ok g) e))

  -- ---- what is screened stays so all through a list

  -- a comment that is flash's at the start stays so, where the file is flash's or the comment is of another family or total
  turn : (v : World) → Reached s w v → Carried (blocks_of s w F) w v.transfer → (a : List ℕ)
      → (is_found (header_of a) ≡ true → has_flag a 0x1 ≡ true → (F.kind ≡ Flash) ⊎ (eqb F.family (field_at a 28) && eqb F.total (field_at a 24) ≡ false))
      → screen_of s (lens v) v.transfer a ≡ screen_of s (lens w) w.transfer a
  turn v m c a o =
      ap (λ (n : Lengths). screen_of s n v.transfer a) m.lengths
      ∙ screen_turn s (lens w) v.transfer w.transfer a
      (λ f y.
      ⊎_elim
      (λ (e : v.transfer ≡ w.transfer). ap (λ (t : State). note_kind (lens w) t (fields_of a)) e)
      (λ e.
      ap (λ (t : State). note_kind (lens w) t (fields_of a)) e.1
      ∙ note_counted (lens w) (head_in F) e.0 a (o f y)
      ∙ sym (ap (λ (t : State). note_kind (lens w) t (fields_of a)) idle ∙ unfold note_kind in refl))
      c)

  -- "no foreign arrival is a comment of its family and total"
  pub foreign_apart : (a : List ℕ) → Foreign s w F a → is_found (header_of a) ≡ true → has_flag a 0x1 ≡ true
      → (F.kind ≡ Flash) ⊎ (eqb F.family (field_at a 28) && eqb F.total (field_at a 24) ≡ false)
  foreign_apart a f d y =
      split (same_kind F.kind Flash)
      (λ e. inl (kind_same F.kind Flash e))
      (λ z.
      let n : F.kind ≢ Flash = λ e. clash (same_kind F.kind Flash) (ap (λ (u : Kind). same_kind u Flash) e) z in
      inr (rw (d, y) at (f.quiet n)))

  -- so a foreign arrival is answered all through the list as at its start
  pub foreign_is : (v : World) → Reached s w v → Carried (blocks_of s w F) w v.transfer → (a : List ℕ) → Foreign s w F a
      → receive_of s v a ≡ unchanged v (receive_of s w a).answer
  foreign_is v m c a f =
      receive_refused s v a m.board (screen_foreign a f).1 (receive_of s w a).answer (turn v m c a (foreign_apart a f) ∙ (screen_foreign a f).0)

  pub steady : Steady s w (blocks_of s w F) (Foreign s w F)
  steady =
      record {
        ours = λ v m c k h.
            receive_passed s v (F.block k) m.board (block_size k h) (placed_of (blocks_of s w F) k)
            (turn v m c (F.block k) (λ f y. inl (comment_flash k h y)) ∙ screen_block k h);
        foreign = λ v m c a f. ap (λ (o : Outcome). o.world) (foreign_is v m c a f);
        different = λ j k hj hk e. sym (ok.numbers j hj) ∙ ap (λ (x : List ℕ). field_at x 20) e ∙ ok.numbers k hk;
        apart = λ j h f. omega (arith, f.most, ok.passes j h);
      }
