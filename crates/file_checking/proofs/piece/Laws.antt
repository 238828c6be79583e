-- What the maps say of a piece is what the definition says, and they hold it after. Assumes nothing.
use Prim.Native.Nat.{ℕ, suc, ◌+◌, ◌-◌, ◌/◌, ◌%◌, ◌<◌, ◌≤◌}
use mathlib.Core.Path.{◌≡◌, refl, sym, ap, subst, ◌∙◌, fun_ext}
use mathlib.Core.Logic.{◌⊎◌, inl, inr}
use mathlib.Core.Bool.{Bool, true, false, ◌&&◌, ◌||◌, or_comm}
use mathlib.Core.List.{List}
use native.Mathlib.Omega.{arith}
use lib.Dec.{eqb, ltb}
use lib.ListN.{length, set, length-set}
use borrow.Author.Tests.{eqb-true, ltb-true, lt-ltb, not-true}
use Rattle.std.specs.Prelude.{Ok}
use Rattle.laws.specs.Sets.{Set, any, add}
use Rattle.laws.proofs.Tests.{split, clash, is_false, eqb_same, and_left, and_right, both}
use Rattle.laws.proofs.Laws.{any_hit, any_none, any_found}
use Rattle.memory.specs.Bitmap.{marked_in, with_mark, map_of}
use Rattle.memory.proofs.bitmap.Laws.{length_mark}
use Rattle.memory.proofs.bitmap.MapLaws.{marked_map, mark_map}
use Rattle.memory.specs.Cells.{touches_in, Kept}
use Rattle.memory.proofs.cells.Laws.{touched, touches_near, entered as cell-entered}
use Rattle.uf2_block.specs.Block.{has_flag}
use Rattle.memory.specs.Flash.{payload_of}
use Rattle.memory.proofs.flash.Laws.{length_right}
use Rattle.partitions.specs.declared.Settings.{Settings}
use Rattle.transfer.specs.Transfer.{same_kind, head_with}
use Rattle.transfer.specs.declared.Kind.{Kind}
use Rattle.transfer.specs.declared.Kind.TheVariants.{Flash, MainRam, XipRam}
use Rattle.transfer.specs.declared.Head.{Head}
use Rattle.transfer.specs.declared.State.TheVariants.{Idle}
use Rattle.uf2_checks.specs.Screen.{base_of, extent_of, rooms_of, room_in, screen_of}
use Rattle.uf2_checks.specs.declared.Lengths.{Lengths}
use Rattle.uf2_checks.specs.declared.Body.{Body}
use Rattle.uf2_checks.specs.declared.Body.TheVariants.{Page, Note}
use Rattle.uf2_checks.specs.declared.PlacedBlock.{PlacedBlock}
use Rattle.arrival.specs.Arrive.{World, buffer_of, ram_length}
use Rattle.arrival.specs.File.{start_of}
use Rattle.arrival.specs.Windows.{window_start, kind_of}
use Rattle.arrival.proofs.Heads.{kind_same}
use Rattle.arrival.proofs.Windows.{start_is}
use Rattle.arrival.proofs.Paged.{Fits}
use Rattle.arrival_claims.proofs.Screening.{Board, Passing, Good, screen_good, passing_few, passing_body, passing_note, passing_fits}
use Rattle.file_check.specs.Check.{piece_at, pieces_in, field_in, is_page, kind_alone, total_in, family_in, kind_in, numbers_below, same_number, near, overlaps, beside_of, is_valid}
use Rattle.file_check.specs.Valid.{Start}
use Rattle.file_check.proofs.Sound.{Beside, Fine, kind_alone_lem, below_more, piece_size, beside, eqb_swap}
use Rattle.file_checking.specs.Pieces.Parts.{Maps, file_head, touching, entered, beside_by, start_in, starts_below, Holds}

same_bool : (x y : Bool) → (x ≡ true → y ≡ true) → (y ≡ true → x ≡ true) → x ≡ y
same_bool true y p q = sym (p refl)
same_bool false true p q = q refl
same_bool false false p q = refl

-- a payload at `at` lies in the maps: its cell is one of the 131,072, and one of the 2,080 with an offset or at its cell's start
record Inside (s : Settings) (w : World) (k : Kind) (at : ℕ) : Type 0 where
  most : at + 256 ≤ 33554432
  cell : (at / 256 < 2080) ⊎ (at % 256 ≡ 0)

ram_most : (k : Kind) (x : ℕ) → ram_length k x ≡ true → x ≤ extent_of k
ram_most k x e =
    split (eqb x 0)
    (λ y. let z : x ≡ 0 = eqb-true _ _ y in omega arith)
    (λ n. let z : x ≡ extent_of k = eqb-true _ _ (rw n at e) in omega arith)

fits_inside : (s : Settings) (w : World) → Board s w → (k : Kind) (at : ℕ) (p : List ℕ) → Fits k (length (buffer_of k w.held)) at p → Inside s w k at
fits_inside s w B Flash at p x =
    let m = (length_right (length w.held.flash) B.flash).most in
    record { most = omega (arith, x.within, m); cell = inr (x.aligned refl) }
fits_inside s w B MainRam at p x =
    let m = ram_most MainRam (length w.held.main) B.main in
    record { most = omega (arith, x.within, m); cell = inl (omega (arith, x.within, m)) }
fits_inside s w B XipRam at p x =
    let m = ram_most XipRam (length w.held.xip) B.xip in
    record { most = omega (arith, x.within, m); cell = inl (omega (arith, x.within, m)) }

module _ (s : Settings) (n : Lengths) (f : List ℕ) (w : World) (st : Start n w) (B : Board s w) where
  -- a piece that passes
  module _ (i : ℕ) (p : PlacedBlock) (e : screen_of s n Idle (piece_at f i) ≡ Ok p) where
    passing : Passing s w (piece_at f i) p
    passing = subst (Good s w (piece_at f i)) ((λ j. screen_of s (st.lengths j) (st.idle j) (piece_at f i)) ∙ e) (screen_good s w (piece_at f i))

    head_is : p.head ≡ head_with (kind_alone n (piece_at f i)) (field_in f i 28) (field_in f i 24)
    head_is = passing.head ∙ ap (λ (k : Kind). head_with k (field_in f i 28) (field_in f i 24)) (kind_alone_lem s n w st (piece_at f i))

    number-few : field_in f i 20 < 131072
    number-few = omega (arith, passing.below, passing_few s w (piece_at f i) p passing B)

    -- of the file's family and kind, and data: where it is stored
    module _ (fam : field_in f i 28 ≡ family_in f) (knd : kind_alone n (piece_at f i) ≡ kind_in n f) (z : has_flag (piece_at f i) 0x1 ≡ false) where
      kind_is : kind_of w (piece_at f i) ≡ kind_in n f
      kind_is = kind_alone_lem s n w st (piece_at f i) ∙ knd

      low : base_of (kind_in n f) ≤ field_in f i 12
      low = let l = (passing.page z).low in let b = start_is (kind_in n f) in subst (λ (k : Kind). base_of k ≤ field_in f i 12) kind_is (omega (arith, l, start_is (kind_of w (piece_at f i))))

      start-at : passing.start ≡ start_of (room_in (rooms_of s n.flash (family_in f)) (kind_in n f))
      start-at =
          sym (ap start_of passing.place)
          ∙ (λ t. start_of (room_in (rooms_of s (st.lengths t).flash (fam t)) (kind_is t)))

      body_at : p.body ≡ Page (start_in s n f i)
      body_at =
          passing_body s w (piece_at f i) p passing B z
          ∙ (λ t. Page (start-at t + (field_in f i 12 - window_start (kind_is t))))
          ∙ ap (λ (b : ℕ). Page (start_of (room_in (rooms_of s n.flash (family_in f)) (kind_in n f)) + (field_in f i 12 - b))) (sym (start_is (kind_in n f)))

  -- the pieces before piece i are fine, and the maps hold them; piece i passes, and is of the file's family and kind
  module _ (i : ℕ) (m : Maps) (held : Holds s n f i m) (h : i < pieces_in f) (fines : (j : ℕ) → j < i → Fine s n f j)
      (p : PlacedBlock) (e : screen_of s n Idle (piece_at f i) ≡ Ok p) where
    marked-is : marked_in m.numbers p.number ≡ any i (same_number f i)
    marked-is =
        (λ t. marked_in (held.numbers t) ((passing i p e).number t))
        ∙ marked_map 16384 (numbers_below f i) (field_in f i 20) (omega (arith, number-few i p e))

    module _ (fam : field_in f i 28 ≡ family_in f) (knd : kind_alone n (piece_at f i) ≡ kind_in n f) where
      -- of an earlier page
      module _ (j : ℕ) (l : j < i) (y : is_page f j ≡ true) where
        low-at : base_of (kind_in n f) ≤ field_in f j 12
        low-at = let x = fines j l in low j x.placed x.passes x.beside.family x.beside.kind (not-true _ y)

      page-touches : (z : has_flag (piece_at f i) 0x1 ≡ false) → touches_in m.cells m.offsets (start_in s n f i) ≡ any i (overlaps f i)
      page-touches z =
          same_bool _ _ yes back
        where
          yi : is_page f i ≡ true
          yi = rw z

          li : base_of (kind_in n f) ≤ field_in f i 12
          li = low i p e fam knd z

          yes : touches_in m.cells m.offsets (start_in s n f i) ≡ true → any i (overlaps f i) ≡ true
          yes q =
              let t = touched (starts_below s n f i) m.cells m.offsets held.kept (start_in s n f i) q in
              let r = any_found (λ j. is_page f j && eqb (start_in s n f j) t.0) i t.1 in
              let j = r.0 in
              let yj : is_page f j ≡ true = and_left _ _ r.2 in
              let at : start_in s n f j ≡ t.0 = eqb-true _ _ (and_right (is_page f j) _ r.2) in
              let lj = low-at j r.1 yj in
              let c = t.2 in
              any_hit (overlaps f i) i j r.1
              (both (both yi yj)
              (both (lt-ltb (field_in f j 12) (field_in f i 12 + 256) (omega (arith, at, c, li, lj))) (lt-ltb (field_in f i 12) (field_in f j 12 + 256) (omega (arith, at, c, li, lj)))))

          back : any i (overlaps f i) ≡ true → touches_in m.cells m.offsets (start_in s n f i) ≡ true
          back q =
              let r = any_found (overlaps f i) i q in
              let j = r.0 in
              let a = field_in f j 12 in
              let b = field_in f i 12 in
              let yj : is_page f j ≡ true = and_right (is_page f i) (is_page f j) (and_left (is_page f i && is_page f j) (near a b) r.2) in
              let c = and_right (is_page f i && is_page f j) (near a b) r.2 in
              let u : a < b + 256 = ltb-true _ _ (and_left (ltb a (b + 256)) (ltb b (a + 256)) c) in
              let v : b < a + 256 = ltb-true _ _ (and_right (ltb a (b + 256)) (ltb b (a + 256)) c) in
              let lj = low-at j r.1 yj in
              touches_near (starts_below s n f i) m.cells m.offsets held.kept (start_in s n f i) (start_in s n f j)
              (any_hit (λ k. is_page f k && eqb (start_in s n f k) (start_in s n f j)) i j r.1 (both yj (eqb_same (start_in s n f j))))
              (omega (arith, li, lj), omega (arith, li, lj))

      touching-is : touching p.body m ≡ any i (overlaps f i)
      touching-is =
          split (has_flag (piece_at f i) 0x1)
          (λ y.
          ap (λ (b : Body). touching b m) (passing_note s w (piece_at f i) p (passing i p e) B y)
          ∙ sym (any_none (overlaps f i) i (λ j l. rw y)))
          (λ z. ap (λ (b : Body). touching b m) (body_at i p e fam knd z) ∙ page-touches z)

    -- what the maps say is what the definition says
    pub beside_is : beside_by (file_head n f) p f i m ≡ beside_of n f i
    unfolding beside_by beside_of
    beside_is =
        rw (ap (λ (x : Head). x.family) (head_is i p e), ap (λ (x : Head). x.total) (head_is i p e), ap (λ (x : Head). x.kind) (head_is i p e), marked-is)
        (split (eqb (field_in f i 28) (family_in f))
        (λ y1. rw y1
        (split (eqb (field_in f i 24) (total_in f))
        (λ y2. rw y2
        (split (same_kind (kind_alone n (piece_at f i)) (kind_in n f))
        (λ y3. rw (y3, touching-is (eqb-true _ _ y1) (kind_same _ _ y3)))
        (λ z3. rw z3)))
        (λ z2. rw z2)))
        (λ z1. rw z1))

    -- and where nothing is wrong they hold it after
    module _ (b : Beside n f i) where
      numbers-next : with_mark m.numbers p.number ≡ map_of 16384 (numbers_below f (suc i))
      numbers-next =
          (λ t. with_mark (held.numbers t) ((passing i p e).number t))
          ∙ mark_map 16384 (numbers_below f i) (field_in f i 20) (omega (arith, number-few i p e))
          ∙ ap (map_of 16384) (fun_ext (λ k. sym (below_more f i k)))

      note-next : has_flag (piece_at f i) 0x1 ≡ true → Holds s n f (suc i) (entered Note p.number m)
      note-next y =
          record {
            numbers = numbers-next;
            kept = subst (λ (A : Set). Kept A m.cells m.offsets) same held.kept;
            cells_length = held.cells_length;
            offsets_length = held.offsets_length;
          }
        where
          or-false : (a : Bool) → a ≡ a || false
          or-false true = refl
          or-false false = refl

          same : starts_below s n f i ≡ starts_below s n f (suc i)
          same = fun_ext (λ x. unfold any in rw y (or-false (starts_below s n f i x)))

      page-next : has_flag (piece_at f i) 0x1 ≡ false → Holds s n f (suc i) (entered (Page (start_in s n f i)) p.number m)
      page-next z =
          record {
            numbers = numbers-next;
            kept = subst (λ (A : Set). Kept A (with_mark m.cells (at / 256)) (set m.offsets (at / 256) (at % 256))) same
                (cell-entered (starts_below s n f i) m.cells m.offsets held.kept at free (omega (arith, bound, held.cells_length)) fits);
            cells_length = length_mark m.cells (at / 256) ∙ held.cells_length;
            offsets_length = length-set m.offsets (at / 256) _ ∙ held.offsets_length;
          }
        where
          at : ℕ
          at = start_in s n f i

          same : add (start_in s n f i) (starts_below s n f i) ≡ starts_below s n f (suc i)
          same =
              fun_ext
              (λ x.
              unfold any in
              rw z
              (or_comm (eqb x (start_in s n f i)) (starts_below s n f i x) ∙ ap (λ (c : Bool). starts_below s n f i x || c) (eqb_swap x (start_in s n f i))))

          free : marked_in m.cells (start_in s n f i / 256) ≡ false
          free = is_false (marked_in m.cells (start_in s n f i / 256)) (λ (q : marked_in m.cells (start_in s n f i / 256) ≡ true). clash (touches_in m.cells m.offsets (start_in s n f i)) (unfold touches_in in rw q) (page-touches b.family b.kind z ∙ b.apart))

          stored : (passing i p e).start + (field_in f i 12 - window_start (kind_of w (piece_at f i))) ≡ start_in s n f i
          stored =
              (λ t. start-at i p e b.family b.kind z t + (field_in f i 12 - window_start (kind_is i p e b.family b.kind z t)))
              ∙ ap (λ (c : ℕ). start_of (room_in (rooms_of s n.flash (family_in f)) (kind_in n f)) + (field_in f i 12 - c)) (sym (start_is (kind_in n f)))

          inside : Inside s w (kind_of w (piece_at f i)) (start_in s n f i)
          inside =
              subst (Inside s w (kind_of w (piece_at f i))) stored
              (fits_inside s w B (kind_of w (piece_at f i)) _ (payload_of (piece_at f i)) (passing_fits s w (piece_at f i) p (passing i p e) B z (piece_size f i h)))

          bound : start_in s n f i + 256 ≤ 33554432
          bound = inside.most

          fits : (start_in s n f i / 256 < length m.offsets) ⊎ (start_in s n f i % 256 ≡ 0)
          fits = subst (λ (l : ℕ). (start_in s n f i / 256 < l) ⊎ (start_in s n f i % 256 ≡ 0)) (sym held.offsets_length) inside.cell

      next : Holds s n f (suc i) (entered p.body p.number m)
      next =
          split (has_flag (piece_at f i) 0x1)
          (λ y. subst (λ (c : Body). Holds s n f (suc i) (entered c p.number m)) (sym (passing_note s w (piece_at f i) p (passing i p e) B y)) (note-next y))
          (λ z. subst (λ (c : Body). Holds s n f (suc i) (entered c p.number m)) (sym (body_at i p e b.family b.kind z)) (page-next z))

    pub holds_next : is_valid (beside_of n f i) ≡ true → Holds s n f (suc i) (entered p.body p.number m)
    holds_next ok = next (beside n f i ok)
