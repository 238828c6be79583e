-- A file that is made with a region for each sector is a valid one with regions, and its blocks stand over a finished flash. Assumes nothing.
use Prim.Native.Nat.{ℕ, ◌+◌, ◌-◌, ◌*◌, ◌/◌, ◌%◌, ◌<◌, ◌≤◌, ◌^◌}
use mathlib.Core.Path.{◌≡◌, refl, sym, ap, ◌∙◌, subst}
use mathlib.Core.Bool.{Bool, true, false, ◌&&◌, and-false}
use mathlib.Core.List.{List, [], ◌∷◌, map}
use mathlib.Core.Logic.{◌⊎◌, inl, inr}
use native.Mathlib.Omega.{arith}
use lib.Dec.{eqb, ltb, leb}
use lib.ListN.{length, get_or, take, drop, length-drop}
use lib.Seq.{get_or-take, get_or-drop}
use borrow.Author.Tests.{leb-true, leb-false, ltb-true, le-leb, lt-leb, lt-ltb, le-ltb, eq-eqb}
use Rattle.std.specs.Prelude.{Option, Some}
use Rattle.laws.specs.Sets.{any}
use Rattle.laws.proofs.Laws.{any_hit, any_none}
use Rattle.laws.proofs.Tests.{split, and_left, and_right, both}
use Rattle.memory.specs.Flash.{payload_of, spans}
use Rattle.uf2_block.specs.Block.{field_at, has_flag}
use Rattle.uf2_block.specs.Region.{region_of}
use Rattle.md5_digest.specs.Md5.{md5_of}
use Rattle.md5_digest.specs.declared.Digest.{Digest}
use Rattle.uf2_block.proofs.regions.Laws.{Counting, good_yes}
use Rattle.partitions.specs.declared.Settings.{Settings}
use Rattle.placement.specs.Place.{place_of, Inside, place_from}
use Rattle.placement.specs.declared.Place.{Place}
use Rattle.placement.proofs.Theorems.{place_inside}
use Rattle.transfer.specs.Transfer.{good_state, number_of, count_of}
use Rattle.transfer.specs.declared.Kind.{Kind}
use Rattle.transfer.specs.declared.Kind.TheVariants.{Flash, MainRam, XipRam}
use Rattle.transfer.specs.declared.State.TheVariants.{Idle}
use Rattle.uf2_block.specs.Regions.{good_region}
use Rattle.arrival.specs.Arrive.{World, Outcome, buffer_of, lengths_of, unchanged, receive_of}
use Rattle.arrival.specs.Lists.{receive_all, answers_of}
use Rattle.arrival.specs.Windows.{kind_of, data_kind}
use Rattle.arrival.specs.Standing.{Standing, digest_in}
use Rattle.demand.specs.Demand.{File, ValidFile, is_data, address_of, answer_number, start_of, origin_of, storage_of, holds, lies_in, size_of, is_guarded}
use Rattle.demand.specs.Regions.{region_start, region_length, region_in, in_region, Final, Regions, RegionsEnd}
use Rattle.demand.proofs.Regions.{regions_end}
use Rattle.arrival_claims.specs.Bounds.{RefusalsChangeNothing}
use Rattle.arrival_claims.specs.Comments.{Unstored}
use Rattle.arrival_claims.specs.Kept.{StandingKept}
use Rattle.arrival_claims.proofs.Bounds.{refusals_change_nothing}
use Rattle.arrival_claims.proofs.Kept.{standing_kept}
use Rattle.arrival_claims.proofs.Screening.{Board}
use Rattle.arrival_claims.proofs.DecisionFacts.{right_true}
use Rattle.file_claims.specs.Delivery.{Deliverable}
use Rattle.uf2_make.proofs.checks.Checks.{Right, made_right}
use Rattle.uf2_make_regions.specs.File.{make_of}
use Rattle.uf2_make_regions.specs.Claims.{FinalSector, Reads}
use Rattle.uf2_make_regions.proofs.ReadBack.{blocks_read_back}
use Rattle.file_claims.specs.RegiondeliveryDelivery.{made_file, IsMade, MadeFileIsValid, EveryRegionCounts, MadeRegions, Delivered, FinishedSectorStands, Finished, AgainKept, NoneWritten, AllBelow, AgainChangesNothing}
use Rattle.file_claims.proofs.RegiondeliveryMade.{made_passes}

spans_true : (at j : ℕ) → spans at j ≡ true → (at ≤ j) × (j < at + 256)
spans_true at j e = (leb-true at j (and_left (leb at j) (ltb j (at + 256)) e), ltb-true j (at + 256) (and_right (leb at j) (ltb j (at + 256)) e))

spans_before : (at j : ℕ) → j < at → spans at j ≡ false
spans_before at j h = rw (lt-leb at j h)

spans_after : (at j : ℕ) → at + 256 ≤ j → spans at j ≡ false
spans_after at j h = rw (le-ltb j (at + 256) h) (and-false (leb at j))

module _ (s : Settings) (w : World) (image out : List ℕ) (family start at bytes : ℕ) (made : IsMade image family start out)
    (D : Deliverable s w image family start at bytes) where
  abbrev n : ℕ
  n = length image / 256

  abbrev F : File
  F = made_file image family start out

  right : Right (length image) start (length out) n
  right = made_right (length image) start (length out) n (unfold make_of in made)

  reads : (k : ℕ) → k < n → Reads image family start n k (F.block k)
  reads k h = blocks_read_back image out family start n D.narrow made k h

  -- rows 1 to 3
  board : Board s w
  board =
      let r = right_true 512 (lengths_of w.held) (length w.seen) (length w.held.sectors) D.lengths in
      record {
        flash = r.flash;
        seen = r.seen;
        sectors = r.sectors;
        main = r.main;
        xip = r.xip;
        good = D.good;
        state = rw D.idle (unfold good_state in refl);
      }

  -- the place begins and ends with a sector
  inside : Inside (length w.held.flash) at bytes
  inside = place_inside s (length w.held.flash) family board.flash D.good at bytes D.placed

  page_data : (k : ℕ) → k < n → is_data F k ≡ true
  page_data k h = rw (reads k h).flags

  names : (k : ℕ) → k < n → has_flag (F.block k) 0x4000 ≡ true
  names k h = rw (reads k h).flags

  passes : (k : ℕ) → k < n → 12 ≤ answer_number s w (F.block k)
  passes k h =
      let r = reads k h in
      let low = right.low in
      let top = right.window in
      let whole = right.whole in
      let room = D.fits in
      let a = r.address_back in
      let family-is : place_of s (length w.held.flash) (field_at (F.block k) 28) ≡ Some (place_from at bytes) = ap (place_of s (length w.held.flash)) r.family_back ∙ D.placed in
      made_passes s w (F.block k) at bytes board r.long family-is
      (record {
        magic = r.magic;
        flags = r.flags;
        payload = r.size_back;
        low = omega (arith, a, low);
        high = omega (arith, a, top, h);
        aligned = omega (arith, a, right.aligned);
        ends = omega (arith, a, low, room, whole, h);
        below = omega (arith, r.number_back, r.total_back, h);
        room = omega (arith, r.total_back, low, room, whole);
      })

  valid : ValidFile s w F
  valid =
      record {
        some = right.some;
        numbers = λ k h. (reads k h).number_back;
        families = λ k h. (reads k h).family_back;
        totals = λ k h. (reads k h).total_back;
        disjoint = λ i k j hi hk yi yk p q.
            let u = spans_true (address_of F i) j p in
            let v = spans_true (address_of F k) j q in
            omega (arith, u, v, (reads i hi).address_back, (reads k hk).address_back);
        kinds = λ k h y.
            let a = (reads k h).address_back in
            both (le-leb 0x10000000 (address_of F k) (omega (arith, a, right.low))) (lt-ltb (address_of F k) 0x12000000 (omega (arith, a, right.window, h)));
        quiet = λ z. absurd (z refl);
        passes = passes;
      }

  -- ---- the region of block k

  -- by its fields: within the place, since the place ends with a sector
  within : (k : ℕ) → k < n → field_at (F.block k) 484 - 0x10000000 + 4096 ≤ bytes
  within k h =
      let r = reads k h in
      omega (arith, r.address_back, r.sector, r.window, r.before, r.behind, inside.1, D.fits, right.whole, right.low, h)

  counting : (k : ℕ) → k < n → Counting bytes (address_of F k) (region_of (F.block k))
  unfolding region_of
  counting k h =
      let r = reads k h in
      let l = r.one_sector in
      record {
        starts = r.sector;
        ends = omega (arith, l);
        some = λ e. omega (arith, l, e);
        window = r.window;
        within = omega (arith, l, within k h);
        before = r.before;
        behind = omega (arith, l, r.behind);
      }

  guarded : (k : ℕ) → k < n → is_guarded s w F k ≡ true
  guarded k h =
      both (both (both refl (page_data k h)) (names k h))
      (ap (λ (p : Option Place). good_region (size_of p) (address_of F k) (region_of (F.block k))) D.placed
      ∙ good_yes bytes (address_of F k) (region_of (F.block k)) (counting k h))

  storage_is : (k : ℕ) → k < n → storage_of s w F k ≡ at + (start - 0x10000000) + 256 * k
  storage_is k h =
      let o : origin_of s w Flash family ≡ at = ap start_of D.placed in
      omega (arith, o, (reads k h).address_back, right.low)

  region_is : (k : ℕ) → region_start s w F k ≡ at + (field_at (F.block k) 484 - 0x10000000)
  region_is k = ap (λ (p : Option Place). start_of p + (field_at (F.block k) 484 - 0x10000000)) D.placed

  -- byte j of the flash lies in the region of block i
  in_bounds : (i j : ℕ) → i < n → in_region s w F i j ≡ true
      → (at + (field_at (F.block i) 484 - 0x10000000) ≤ j) × (j < at + (field_at (F.block i) 484 - 0x10000000) + 4096)
  in_bounds i j h e =
      let lo = region_start s w F i in
      let len = region_length F i in
      let a : lo ≤ j = leb-true lo j (and_left (leb lo j) (ltb j (lo + len)) e) in
      let b : j < lo + len = ltb-true j (lo + len) (and_right (leb lo j) (ltb j (lo + len)) e) in
      let l = (reads i h).one_sector in
      (omega (arith, region_is i, a), omega (arith, region_is i, b, l))

  -- ---- "It asks that every data block in a region carry that same region,"

  same_start : (i k : ℕ) → i < n → k < n → in_region s w F i (storage_of s w F k) ≡ true → field_at (F.block k) 484 ≡ field_at (F.block i) 484
  same_start i k hi hk e =
      let b = in_bounds i (storage_of s w F k) hi e in
      let p = reads i hi in
      let q = reads k hk in
      omega (arith, b, storage_is k hk, right.low, p.sector, p.window, q.sector, q.window, q.address_back, q.before, q.behind)

  -- "that every sector of it have one,": block i itself
  sector_is : (i q : ℕ) → i < n → in_region s w F i (q * 4096) ≡ true → q ≡ storage_of s w F i / 4096
  sector_is i q h e =
      let b = in_bounds i (q * 4096) h e in
      let p = reads i h in
      omega (arith, b, storage_is i h, right.low, p.sector, p.window, p.address_back, p.before, p.behind, inside.0)

  -- ---- "that the digest be of the final bytes,"

  payload_at : (k : ℕ) → k < n → (i : ℕ) → i < 256 → get_or (payload_of (F.block k)) i 0 ≡ get_or image (256 * k + i) 0
  unfolding payload_of
  payload_at k h i l =
      ap (λ (p : List ℕ). get_or p i 0) (reads k h).page_back ∙ get_or-take 256 (drop (256 * k) image) i 0 l ∙ get_or-drop (256 * k) image i 0

  module _ (i : ℕ) (h : i < n) (c : List ℕ) (f : Final s w F i c) where
    abbrev base : ℕ
    base = field_at (F.block i) 484

    -- byte j of the region is on page k
    on-page : (j : ℕ) → j < 4096 → start ≤ base + j → base + j < start + length image → get_or c j 0 ≡ get_or image (base + j - start) 0
    on-page j l lo hi =
        let o = base + j - start in
        let k = o / 256 in
        let p = reads i h in
        let hk : k < n = omega (arith, right.whole) in
        let u = o % 256 in
        let hu : u < 256 = omega arith in
        let st = storage_is k hk in
        let rg = region_is i in
        let there : in_region s w F i (storage_of s w F k) ≡ true =
        both (le-leb (region_start s w F i) (storage_of s w F k) (omega (arith, st, rg, p.sector, p.window, right.low, right.aligned, lo)))
        (lt-ltb (storage_of s w F k) (region_start s w F i + region_length F i) (omega (arith, st, rg, p.one_sector, p.window, right.low, lo))) in
        let here : storage_of s w F k - region_start s w F i + u ≡ j = omega (arith, st, rg, p.sector, p.window, right.low, right.aligned, lo) in
        let back : 256 * k + u ≡ o = omega arith in
        ap (λ (x : ℕ). get_or c x 0) (sym here)
        ∙ f.payloads k hk (page_data k hk) there u hu
        ∙ payload_at k hk u hu
        ∙ ap (λ (x : ℕ). get_or image x 0) back

    none-holds : (j : ℕ) → ((k : ℕ) → k < n → spans (storage_of s w F k) (region_start s w F i + j) ≡ false)
        → any n (λ k. holds s w F k (region_start s w F i + j)) ≡ false
    none-holds j g = any_none (λ k. holds s w F k (region_start s w F i + j)) n (λ k hk. rw (g k hk) (and-false (is_data F k)))

    sector-final : FinalSector image start base c
    sector-final =
        let p = reads i h in
        let rg = region_is i in
        let len : region_length F i ≡ 4096 = p.one_sector in
        record {
          long = f.whole ∙ len;
          pages = on-page;
          before = λ j l e.
              f.erased j (omega (arith, len))
              (none-holds j (λ k hk. spans_before (storage_of s w F k) (region_start s w F i + j) (omega (arith, storage_is k hk, rg, p.window, right.low, e))));
          after = λ j l e.
              f.erased j (omega (arith, len))
              (none-holds j (λ k hk. spans_after (storage_of s w F k) (region_start s w F i + j) (omega (arith, storage_is k hk, rg, p.window, right.low, right.whole, e, hk))));
        }

    digest-right : md5_of c ≡ digest_in (F.block i)
    digest-right = sym ((reads i h).words c sector-final)

  regions : Regions s w F
  regions =
      record {
        same = λ i k hi hk g y e. (names k hk, same_start i k hi hk e, (reads k hk).one_sector ∙ sym (reads i hi).one_sector);
        every = λ i q h g e.
            any_hit (λ k. lies_in s w F k q) n i h (both (page_data i h) (eq-eqb q (storage_of s w F i / 4096) (sector_is i q h e)));
        right = λ i h g c f. digest-right i h c f;
      }

  -- ---- over a flash that has a sector's final bytes

  module _ (v : World) (lens : lengths_of v.held ≡ lengths_of w.held) where
    flash-long : length v.held.flash ≡ length w.held.flash
    flash-long = ap (λ x. x.flash) lens

    -- its address lies in no RAM window
    flash-kind : (k : ℕ) → k < n → kind_of v (F.block k) ≡ Flash
    unfolding kind_of
    flash-kind k h =
        let r = reads k h in
        let a = field_at (F.block k) 12 in
        let x : a < 0x12000000 = omega (arith, r.address_back, right.window, h) in
        let comment : has_flag (F.block k) 0x1 ≡ false = rw r.flags refl in
        rw (comment, lt-leb 0x20000000 a (omega arith), lt-leb 0x13ffc000 a (omega arith), and-false _, and-false _)

    stands : (k : ℕ) → k < n → Final s w F k (region_in s w F k v.held.flash) → Standing s v (F.block k)
    stands k h f =
        let r = reads k h in
        let l = r.one_sector in
        record {
          data_block = rw r.flags refl;
          flash = flash-kind k h;
          flag = names k h;
          start = at;
          size = bytes;
          place = ap (λ (m : ℕ). place_of s m (field_at (F.block k) 28)) flash-long ∙ ap (place_of s (length w.held.flash)) r.family_back ∙ D.placed;
          first = r.sector;
          whole = omega (arith, l);
          some = λ e. omega (arith, l, e);
          window = r.window;
          within = omega (arith, l, within k h);
          before = r.before;
          behind = omega (arith, l, r.behind);
          digest =
              ap (λ (x : ℕ). md5_of (take (field_at (F.block k) 488) (drop x v.held.flash))) (sym (region_is k))
              ∙ digest-right k h (region_in s w F k v.held.flash) f;
        }

  -- ---- the file sent again

  again_kept : (v : World) → Finished s w F v → (k : ℕ) → k < n → 14 ≤ number_of (receive_of s v (F.block k)).answer
      → Unstored 17 v (F.block k) (receive_of s v (F.block k))
  again_kept v f k h l = unfold StandingKept in standing_kept s v (F.block k) (stands v f.lengths k h (f.final k h)) l

  -- the same buffers, and so it is finished again
  finished_same : (v u : World) → Finished s w F v → ((x : Kind) → buffer_of x u.held ≡ buffer_of x v.held) → Finished s w F u
  finished_same v u f e =
      record {
        lengths = (λ i. record { flash = length (e Flash i); main = length (e MainRam i); xip = length (e XipRam i) }) ∙ f.lengths;
        final = λ k h. subst (λ (m : List ℕ). Final s w F k (region_in s w F k m)) (sym (e Flash)) (f.final k h);
      }

  record Step (v : World) (a : List ℕ) : Type 0 where
    buffers : (x : Kind) → buffer_of x (receive_of s v a).world.held ≡ buffer_of x v.held
    answer : (number_of (receive_of s v a).answer ≤ 13) ⊎ ((number_of (receive_of s v a).answer ≡ 15) ⊎ (number_of (receive_of s v a).answer ≡ 17))

  refusal : (v : World) (a : List ℕ) → number_of (receive_of s v a).answer ≤ 13 → receive_of s v a ≡ unchanged v (receive_of s v a).answer
  refusal = unfold RefusalsChangeNothing in refusals_change_nothing s

  step : (v : World) → Finished s w F v → (k : ℕ) → k < n → Step v (F.block k)
  step v f k h =
      let a = F.block k in
      split (leb (number_of (receive_of s v a).answer) 13)
      (λ y.
      let l = leb-true (number_of (receive_of s v a).answer) 13 y in
      record {
        buffers = λ x. ap (λ (o : Outcome). buffer_of x o.world.held) (refusal v a l);
        answer = inl l;
      })
      (λ z.
      let g = leb-false (number_of (receive_of s v a).answer) 13 z in
      let u = again_kept v f k h (omega arith) in
      record {
        buffers = u.buffers;
        answer = inr
            (split (ltb (count_of (receive_of s v a).world.transfer) (field_at a 24))
            (λ y. inr (u.answer ∙ rw y))
            (λ y. inl (u.answer ∙ rw y)));
      })

  again : (l : List ℕ) (v : World) → Finished s w F v → AllBelow n l
      → ((x : Kind) → buffer_of x (receive_all s v (map F.block l)).held ≡ buffer_of x v.held) × NoneWritten (answers_of s v (map F.block l))
  unfolding receive_all answers_of AllBelow NoneWritten
  again [] v f h = (λ x. refl, tt)
  again (k ∷ l) v f h =
      let p = step v f k h.0 in
      let r = again l (receive_of s v (F.block k)).world (finished_same v (receive_of s v (F.block k)).world f p.buffers) h.1 in
      (λ x. r.0 x ∙ p.buffers x, (p.answer, r.1))

-- ---- the claims

pub made_file_is_valid : MadeFileIsValid
unfolding MadeFileIsValid
made_file_is_valid s w image out family start at bytes made D = valid s w image out family start at bytes made D

pub every_region_counts : EveryRegionCounts
unfolding EveryRegionCounts
every_region_counts s w image out family start at bytes made D = guarded s w image out family start at bytes made D

pub made_regions : MadeRegions
unfolding MadeRegions
made_regions s w image out family start at bytes made D = regions s w image out family start at bytes made D

pub delivered : Delivered
unfolding Delivered RegionsEnd
delivered s w image out family start at bytes made D =
    regions_end s w (made_file image family start out) D.idle (valid s w image out family start at bytes made D) (regions s w image out family start at bytes made D)

pub finished_sector_stands : FinishedSectorStands
unfolding FinishedSectorStands
finished_sector_stands s w image out family start at bytes made D = stands s w image out family start at bytes made D

pub again_is_kept : AgainKept
unfolding AgainKept
again_is_kept s w image out family start at bytes made D = again_kept s w image out family start at bytes made D

pub again_changes_nothing : AgainChangesNothing
unfolding AgainChangesNothing
again_changes_nothing s w image out family start at bytes made D v f l h = again s w image out family start at bytes made D l v f h
