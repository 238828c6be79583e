-- Blocks with regions: each sector is as without them, or a whole region around it has its final bytes and keeps them. Nothing here knows of
-- digests. Assumes nothing.
use Prim.Native.Nat.{ℕ, ◌+◌, ◌-◌, ◌*◌, ◌/◌, ◌%◌, ◌<◌, ◌≤◌}
use mathlib.Core.Path.{◌≡◌, refl, sym, ap, subst, ◌∙◌}
use mathlib.Core.Logic.{◌≢◌}
use mathlib.Core.Bool.{Bool, true, false, not, cond, ◌||◌, ◌&&◌}
use mathlib.Core.List.{List}
use native.Mathlib.Omega.{arith}
use lib.Dec.{eqb, ltb, leb}
use lib.ListN.{length, get_or}
use borrow.Author.Tests.{eqb-false, ne_eqb, le-leb, lt-ltb, leb-true, ltb-true}
use Rattle.laws.specs.Sets.{Set, none, add, size}
use Rattle.laws.proofs.Tests.{split, clash, is_false, and_left, and_right, both}
use Rattle.laws.proofs.Laws.{any_cong, pick_cong, size_full}
use Rattle.memory.specs.Bitmap.{map_of}
use Rattle.memory.proofs.bitmap.MapLaws.{map_none}
use Rattle.memory.specs.Flash.{spans}
use Rattle.transfer.specs.Transfer.{same_kind}
use Rattle.transfer.specs.declared.Kind.{Kind}
use Rattle.transfer.specs.declared.Kind.TheVariants.{Flash}
use Rattle.uf2_checks.specs.declared.Lengths.{Lengths}
use Rattle.arrival.specs.Arrive.{Held, buffer_of, lengths_of, cleared_if, wiped_if, paged_at}
use Rattle.demand.specs.Demand.{is_data}
use Rattle.arrival_claims.proofs.Cells.{touched, touched_add, touched_none, cell, cell_none, cell_step}
use Rattle.arrival.proofs.Pages.{apply}
use Rattle.arrival.proofs.Count.{Blocks, count, applied, wipe}
use Rattle.arrival.proofs.Paged.{Fits, lengths_paged, paged_other, get_d_paged, paged_map}
use Rattle.arrival_claims.proofs.Effect.{spans_true, payload_in, kind_in, Valid, layout, sectors_of, owned_touches, apart_of}
use Rattle.arrival.proofs.Facts.{wiped_buffer}

-- ---- what is asked of the blocks

-- all of them
abbrev pub every : Set
every k = true

-- byte j of the flash once the blocks of S have come, without regions
abbrev pub byte_of : Blocks → List ℕ → Set → ℕ → ℕ
byte_of F lent S j = cell (count F) (layout Flash F) (λ j. get_or lent j 0) S j

-- the final byte j of a sector that the file touches: a payload's, or 0xFF
abbrev pub final : Blocks → ℕ → ℕ
final F j = cell (count F) (layout Flash F) (λ j. 255) every j

-- a flash has them from lo on
abbrev pub Finished : Blocks → List ℕ → ℕ → ℕ → Type 0
Finished F f lo len = (j : ℕ) → lo ≤ j → j < lo + len → get_or f j 0 ≡ final F j

-- the region of block i: whole sectors in a flash of n bytes, around the block
pub record Guard (F : Blocks) (n i lo len : ℕ) : Type 0 where
  pub data_block : is_data F.file i ≡ true
  pub first : lo % 4096 ≡ 0
  pub full : len % 4096 ≡ 0
  pub within : lo + len ≤ n
  pub before : lo ≤ F.at i
  pub behind : F.at i + 256 ≤ lo + len

-- the blocks that name one, where the flash that block k meets is as `Met` says
pub record Guards (F : Blocks) (start : Held) (Met : List ℕ → ℕ → Type 0) : Type 0 where
  pub flat : kind_in F ≡ Flash
  pub guarded : ℕ → Bool
  pub lo : ℕ → ℕ
  pub len : ℕ → ℕ
  pub facts : (i : ℕ) → i < count F → guarded i ≡ true → Guard F (length start.flash) i (lo i) (len i)
  -- every data block in a region carries that same region
  pub same : (i k : ℕ) → i < count F → k < count F → guarded i ≡ true → is_data F.file k ≡ true → lo i ≤ F.at k → F.at k < lo i + len i
      → (guarded k ≡ true) × (lo k ≡ lo i) × (len k ≡ len i)
  -- every sector of it has one
  pub each : (i q : ℕ) → i < count F → guarded i ≡ true → lo i ≤ q * 4096 → q * 4096 < lo i + len i → touched (count F) (layout Flash F) every q ≡ true
  -- what stands in a flash that is met has the final bytes of its region, and what has them stands
  pub stood : (f : List ℕ) (k : ℕ) → k < count F → is_data F.file k ≡ true → length f ≡ length start.flash → F.stands f k ≡ true → Met f k
      → (guarded k ≡ true) × Finished F f (lo k) (len k)
  pub keeps : (f : List ℕ) (k : ℕ) → k < count F → guarded k ≡ true → length f ≡ length start.flash → Finished F f (lo k) (len k)
      → F.stands f k ≡ true

-- ---- the invariant

-- of sector q, T being the sectors marked
pub data Sector (F : Blocks) (start : Held) (Met : List ℕ → ℕ → Type 0) (G : Guards F start Met) (x : Held) (T S : Set) (q : ℕ) : Type 0 where
  settled : (i : ℕ) → i < count F → G.guarded i ≡ true → G.lo i ≤ q * 4096 → q * 4096 < G.lo i + G.len i
      → Finished F x.flash (G.lo i) (G.len i) → Sector F start Met G x T S q
  ordinary : ((j : ℕ) → j < length start.flash → j / 4096 ≡ q → get_or x.flash j 0 ≡ byte_of F start.flash S j) → T q ≡ sectors_of F S q
      → Sector F start Met G x T S q

pub record Inv (F : Blocks) (start : Held) (Met : List ℕ → ℕ → Type 0) (G : Guards F start Met) (S : Set) (x : Held) : Type 0 where
  pub marks : Set
  pub lengths : lengths_of x ≡ lengths_of start
  pub sectors : x.sectors ≡ map_of 1024 marks
  pub others : (u : Kind) → u ≢ Flash → buffer_of u x ≡ buffer_of u start
  pub state : (q : ℕ) → Sector F start Met G x marks S q

module _ (F : Blocks) (start : Held) (Met : List ℕ → ℕ → Type 0) (G : Guards F start Met) (ok : Valid F start) where
  pub begins : Inv F start Met G none (wipe start)
  begins =
      record {
        marks = none;
        lengths = unfold wiped_if in refl;
        sectors = unfold wiped_if cleared_if in rw ok.sectors (map_none 1024);
        others = λ u n. wiped_buffer true start u;
        state = λ q.
            ordinary (λ j l e. same j ∙ sym (cell_none (count F) (layout Flash F) (λ j. get_or start.flash j 0) j))
            (sym (touched_none (count F) (layout Flash F) q));
      }
    where
      same : (j : ℕ) → get_or (wipe start).flash j 0 ≡ get_or start.flash j 0
      same j = unfold wiped_if in refl

  here : same_kind Flash (kind_in F) ≡ true
  here = ap (same_kind Flash) G.flat

  there : same_kind (kind_in F) Flash ≡ true
  there = ap (λ (u : Kind). same_kind u Flash) G.flat

  module _ (S : Set) (k : ℕ) (h : k < count F) where
    abbrev at : ℕ
    at = F.at k

    abbrev lies : ℕ → Bool
    lies q = (layout Flash F).touches k q

    -- in a sector that block k does not touch, nothing changes that is said of S
    away-byte : (j : ℕ) → lies (j / 4096) ≡ false → byte_of F start.flash (add k S) j ≡ byte_of F start.flash S j
    away-byte j l =
        cell_step (count F) (layout Flash F) (apart_of Flash F start ok) (λ j. get_or start.flash j 0) S k j h ∙ rw (clear, l)
      where
        clear : (layout Flash F).owns k j ≡ false
        clear = is_false ((layout Flash F).owns k j) (λ o. clash (lies (j / 4096)) (owned_touches Flash F start ok refl k j h o) l)

    away-sector : (q : ℕ) → lies q ≡ false → sectors_of F (add k S) q ≡ sectors_of F S q
    away-sector q l = touched_add (count F) (layout Flash F) S k q h ∙ rw l

    away : (x : Held) (T : Set) (q : ℕ) → lies q ≡ false → Sector F start Met G x T S q → Sector F start Met G x T (add k S) q
    away x T q l (settled i hi g a b f) = settled i hi g a b f
    away x T q l (ordinary f t) = ordinary (λ j b e. f j b e ∙ sym (away-byte j (ap lies e ∙ l))) (t ∙ sym (away-sector q l))

    module _ (x : Held) (I : Inv F start Met G S x) where
      same-buffers : ((q : ℕ) → Sector F start Met G x I.marks (add k S) q) → Inv F start Met G (add k S) x
      same-buffers f = record { marks = I.marks; lengths = I.lengths; sectors = I.sectors; others = I.others; state = f }

      same_length : length x.flash ≡ length start.flash
      same_length = ap (λ (n : Lengths). n.flash) I.lengths

      -- a comment
      noted : is_data F.file k ≡ false → Inv F start Met G (add k S) x
      noted z = same-buffers (λ q. away x I.marks q (rw (here, z)) (I.state q))

      module _ (y : is_data F.file k ≡ true) where
        lies_is : (q : ℕ) → lies q ≡ eqb q (at / 4096)
        lies_is q = rw (here, y)

        owns-is : (j : ℕ) → (layout Flash F).owns k j ≡ spans at j
        owns-is j = rw (here, y)

        -- a block that is kept
        kept : G.guarded k ≡ true → Finished F x.flash (G.lo k) (G.len k) → Inv F start Met G (add k S) x
        kept g f =
            same-buffers
            (λ q.
            let c = leb (G.lo k) (q * 4096) in
            let d = ltb (q * 4096) (G.lo k + G.len k) in
            split (c && d)
            (λ e. settled k h g (leb-true _ _ (and_left c d e)) (ltb-true _ _ (and_right c d e)) f)
            (λ e. away x I.marks q (lies_is q ∙ ne_eqb q (at / 4096) (out q e)) (I.state q)))
          where
            out : (q : ℕ) → leb (G.lo k) (q * 4096) && ltb (q * 4096) (G.lo k + G.len k) ≡ false → q ≢ at / 4096
            out q e v =
                let r = G.facts k h g in
                let m : q * 4096 ≤ at = omega arith in
                let m' : at < q * 4096 + 4096 = omega arith in
                clash (leb (G.lo k) (q * 4096) && ltb (q * 4096) (G.lo k + G.len k))
                (both (le-leb (G.lo k) (q * 4096) (omega (arith, r.first, r.before))) (lt-ltb (q * 4096) (G.lo k + G.len k) (omega (arith, r.behind)))) e

        -- a block that is stored
        module _ (free : F.stands x.flash k ≡ false) where
          abbrev stored : Held
          stored = paged_at Flash at (payload_in F k) x

          fits : Fits Flash (length x.flash) at (payload_in F k)
          fits =
              subst (λ (n : ℕ). Fits Flash n at (payload_in F k)) (sym same_length)
              (subst (λ (u : Kind). Fits u (length (buffer_of u start)) at (payload_in F k)) G.flat (ok.fits k h y))

          whole : length x.flash % 4096 ≡ 0
          whole = rw same_length ok.whole

          most : length x.flash ≤ 33554432
          most = rw same_length ok.most

          byte : (j : ℕ) → get_or stored.flash j 0
              ≡ cond (spans at j) (get_or (payload_in F k) (j - at) 0) (cond (eqb (j / 4096) (at / 4096) && not (I.marks (j / 4096))) 255 (get_or x.flash j 0))
          byte j = get_d_paged at (payload_in F k) x I.marks I.sectors whole most Flash Flash I.marks (λ e. refl) fits j

          -- other sectors keep their bytes
          byte-away : (j : ℕ) → j / 4096 ≢ at / 4096 → get_or stored.flash j 0 ≡ get_or x.flash j 0
          byte-away j d = byte j ∙ rw (off, ne_eqb (j / 4096) (at / 4096) d)
            where
              off : spans at j ≡ false
              off = is_false (spans at j) (λ c. let q = spans_true at j c in d (omega (arith, q, fits.aligned refl)))

          -- it is not in a region that has its final bytes
          not_in : (i : ℕ) → i < count F → G.guarded i ≡ true → Finished F x.flash (G.lo i) (G.len i) → G.lo i ≤ at / 4096 * 4096
              → at / 4096 * 4096 < G.lo i + G.len i → ⊥
          not_in i hi g f a b =
              let r = G.facts i hi g in
              let c = G.same i k hi h g y (omega (arith, a)) (omega (arith, r.first, r.full, b)) in
              clash (F.stands x.flash k)
              (G.keeps x.flash k h c.0 same_length (λ j u v. f j (omega (arith, u, c.1)) (omega (arith, v, c.1, c.2)))) free

          stores-state : (q : ℕ) → Sector F start Met G x I.marks S q → Sector F start Met G stored (λ q. eqb q (at / 4096) || I.marks q) (add k S) q
          stores-state q (settled i hi g a b f) =
              let r = G.facts i hi g in
              settled i hi g a b
              (λ j u v. byte-away j (λ d. not_in i hi g f (omega (arith, r.first)) (omega (arith, r.first, r.full))) ∙ f j u v)
          stores-state q (ordinary f t) =
              split (eqb q (at / 4096))
              (λ c.
              ordinary
              (λ j l e.
              let w : I.marks (j / 4096) ≡ sectors_of F S (j / 4096) = ap I.marks e ∙ t ∙ ap (sectors_of F S) (sym e) in
              byte j
              ∙ rw (w, f j l e)
              (sym
              (cell_step (count F) (layout Flash F) (apart_of Flash F start ok) (λ j. get_or start.flash j 0) S k j h
              ∙ rw (owns-is j, lies_is (j / 4096)))))
              (rw c (sym (touched_add (count F) (layout Flash F) S k q h ∙ rw (lies_is q, c)))))
              (λ c.
              let d : q ≢ at / 4096 = eqb-false q (at / 4096) c in
              let l : lies q ≡ false = lies_is q ∙ c in
              ordinary (λ j b e. byte-away j (λ v. d (sym e ∙ v)) ∙ f j b e ∙ sym (away-byte j (ap lies e ∙ l)))
              (rw c (t ∙ sym (away-sector q l))))

          stores : Inv F start Met G (add k S) stored
          stores =
              record {
                marks = λ q. eqb q (at / 4096) || I.marks q;
                lengths = lengths_paged Flash at (payload_in F k) x ∙ I.lengths;
                sectors = paged_map at (payload_in F k) x I.marks I.sectors whole most Flash fits;
                others = λ u n. paged_other u Flash at (payload_in F k) x n ∙ I.others u n;
                state = λ q. stores-state q (I.state q);
              }

      -- ---- what block k does

      applied-note : is_data F.file k ≡ false → applied F k x ≡ x
      unfolding apply
      applied-note z = rw z

      applied-kept : is_data F.file k ≡ true → F.stands x.flash k ≡ true → applied F k x ≡ x
      unfolding apply
      applied-kept y c = rw (there, c, y)

      applied-page : is_data F.file k ≡ true → F.stands x.flash k ≡ false → applied F k x ≡ paged_at Flash at (payload_in F k) x
      unfolding apply
      applied-page y c = rw (there, c, y) (ap (λ (u : Kind). paged_at u at (payload_in F k) x) G.flat)

      pub goes_on : Met x.flash k → Inv F start Met G (add k S) (applied F k x)
      goes_on m =
          split (is_data F.file k)
          (λ y.
          split (F.stands x.flash k)
          (λ c.
          let g = G.stood x.flash k h y same_length c m in
          subst (Inv F start Met G (add k S)) (sym (applied-kept y c)) (kept y g.0 g.1))
          (λ c. subst (Inv F start Met G (add k S)) (sym (applied-page y c)) (stores y c)))
          (λ z. subst (Inv F start Met G (add k S)) (sym (applied-note z)) (noted z))

  -- ---- at completion

  -- a set that is whole
  cell_whole : (lent : ℕ → ℕ) (S : Set) → count F ≤ size (count F) S → (j : ℕ) → cell (count F) (layout Flash F) lent S j ≡ cell (count F) (layout Flash F) lent every j
  unfolding cell
  cell_whole lent S full j =
      pick_cong (count F) (λ k. S k && (layout Flash F).owns k j) (λ k. true && (layout Flash F).owns k j) (λ k. (layout Flash F).value k j) _
      (λ k h. rw (size_full (count F) S k full h))
      ∙ rw (any_cong (count F) (λ k. S k && (layout Flash F).touches k (j / 4096)) (λ k. true && (layout Flash F).touches k (j / 4096)) (λ k h. rw (size_full (count F) S k full h)))

  -- what was lent does not show in a touched sector
  cell_lent : (lent : ℕ → ℕ) (j : ℕ) → touched (count F) (layout Flash F) every (j / 4096) ≡ true → final F j ≡ cell (count F) (layout Flash F) lent every j
  unfolding cell
  cell_lent lent j t = rw t

  -- flash is as without regions
  pub whole_flash : (S : Set) (x : Held) → Inv F start Met G S x → count F ≤ size (count F) S → (j : ℕ) → j < length start.flash
      → get_or x.flash j 0 ≡ byte_of F start.flash S j
  whole_flash S x I full j l = go (I.state (j / 4096))
    where
      go : Sector F start Met G x I.marks S (j / 4096) → get_or x.flash j 0 ≡ byte_of F start.flash S j
      go (ordinary f t) = f j l refl
      go (settled i hi g a b f) =
          let r = G.facts i hi g in
          f j (omega (arith, a)) (omega (arith, b, r.first, r.full))
          ∙ cell_lent (λ j. get_or start.flash j 0) j (G.each i (j / 4096) hi g a b)
          ∙ sym (cell_whole (λ j. get_or start.flash j 0) S full j)
