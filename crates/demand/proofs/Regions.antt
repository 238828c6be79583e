-- The claims of specs/Regions.antt hold. Assumes nothing.
use Prim.Native.Nat.{ℕ, ◌+◌, ◌-◌, ◌*◌, ◌/◌, ◌%◌, ◌≤◌, ◌<◌}
use mathlib.Core.Path.{◌≡◌, refl, sym, ap, subst, ◌∙◌, fun_ext}
use mathlib.Core.Logic.{◌≢◌}
use mathlib.Core.Bool.{Bool, true, false, cond, ◌&&◌, and-false}
use mathlib.Core.List.{List}
use native.Mathlib.Omega.{arith}
use lib.Dec.{leb, ltb}
use lib.ListN.{length, get_or, take, drop, length-drop}
use lib.Seq.{get_or-take, get_or-drop, length-take-le, ext_get_or}
use borrow.Author.Tests.{le-leb, lt-ltb, leb-true, ltb-true}
use Rattle.std.specs.Prelude.{Option, Some}
use Rattle.laws.specs.Sets.{Set, none, size, any}
use Rattle.laws.proofs.Tests.{split, and_left, and_right, both}
use Rattle.laws.proofs.Laws.{any_none, any_all, any_found, any_cong, size_full}
use Rattle.uf2_block.specs.Block.{field_at, has_flag}
use Rattle.uf2_block.specs.Region.{region_of}
use Rattle.md5_digest.specs.Md5.{md5_of}
use Rattle.md5_digest.specs.declared.Digest.{Digest}
use Rattle.uf2_block.specs.Regions.{good_region, same_digest, part_of, stands_in}
use Rattle.uf2_block.proofs.regions.Laws.{Counting, good_yes, good_true, stands_there, stands_true, digest_true, digest_yes}
use Rattle.partitions.specs.declared.Settings.{Settings}
use Rattle.placement.specs.Place.{place_of, place_from}
use Rattle.placement.specs.declared.Place.{Place}
use Rattle.memory.specs.Flash.{payload_of, spans}
use Rattle.transfer.specs.Transfer.{same_kind}
use Rattle.transfer.specs.declared.Kind.{Kind}
use Rattle.transfer.specs.declared.Kind.TheVariants.{Flash, MainRam, XipRam}
use Rattle.transfer.specs.declared.State.TheVariants.{Idle}
use Rattle.arrival.specs.Arrive.{Held, World, lengths_of, stands_at, standing}
use Rattle.arrival.specs.Windows.{window_start}
use Rattle.arrival.specs.Lists.{receive_all, AtEach}
use Rattle.arrival.specs.Standing.{digest_in}
use Rattle.demand.specs.Demand.{File, is_data, address_of, ValidFile, Foreign, Sent, seen_of, start_of, origin_of, storage_of, holds, lies_in, Contents, size_of, is_guarded, Plain}
use Rattle.demand.specs.Regions.{region_start, region_length, region_in, in_region, Final, Regions, NoOther, Complete, RegionsEnd, WholeSame, WholeAlike}
use Rattle.arrival.proofs.Heads.{kind_same}
use Rattle.arrival.proofs.Windows.{lies_true}
use Rattle.arrival_claims.proofs.Cells.{touched, cell, cell_owned, cell_free}
use Rattle.arrival.proofs.Count.{Blocks, count, After, untouched, some_seen}
use Rattle.arrival_claims.proofs.Effect.{spans_true, spans_is, Valid, layout, apart_of}
use Rattle.arrival_claims.proofs.Screening.{flash_of}
use Rattle.demand.proofs.Contents.{byte_in, As, contents_of_lem}
use Rattle.demand.proofs.Files.{Located, blocks_of, board, valid, located, opens, steady}
use Rattle.demand.proofs.Guards.{every, final, Finished, Guard, Guards, Inv, begins, goes_on, whole_flash}
use Rattle.demand.proofs.DemandsRuns.{run_met}
use Rattle.demand.proofs.Demand.{ends, same_set, same_count, others}

-- a part of a list, by its elements
part_at : (f : List ℕ) (lo len i : ℕ) → i < len → get_or (take len (drop lo f)) i 0 ≡ get_or f (lo + i) 0
part_at f lo len i h = get_or-take len (drop lo f) i 0 h ∙ get_or-drop lo f i 0

part_length : (f : List ℕ) (lo len : ℕ) → lo + len ≤ length f → length (take len (drop lo f)) ≡ len
part_length f lo len h = length-take-le len (drop lo f) (omega (arith, length-drop lo f))

-- ---- a file of flash with regions

module _ (s : Settings) (w : World) (F : File) (idle : w.transfer ≡ Idle) (ok : ValidFile s w F) (flat : F.kind ≡ Flash) where
  abbrev P : Blocks
  P = blocks_of s w F

  sound : Valid P w.held
  sound = valid s w F idle ok

  L : Located s w F
  L = located s w F idle ok flat

  here : same_kind Flash F.kind ≡ true
  here = ap (same_kind Flash) flat

  there : same_kind F.kind Flash ≡ true
  there = ap (λ (u : Kind). same_kind u Flash) flat

  origin_is : origin_of s w Flash F.family ≡ L.start
  origin_is = ap start_of L.place

  storage_is : (k : ℕ) → storage_of s w F k ≡ L.start + (address_of F k - 0x10000000)
  storage_is k =
      (λ i. origin_of s w (flat i) F.family + (address_of F k - window_start (flat i))) ∙ ap (λ (x : ℕ). x + (address_of F k - 0x10000000)) origin_is

  region_is : (i : ℕ) → region_start s w F i ≡ L.start + (field_at (F.block i) 484 - 0x10000000)
  region_is i = ap (λ (x : ℕ). x + (field_at (F.block i) 484 - 0x10000000)) origin_is

  -- the address of a data block, and its storage address
  low : (k : ℕ) → k < F.total → is_data F k ≡ true → 0x10000000 ≤ address_of F k
  low k h y = (lies_true Flash (address_of F k) (subst (λ (u : Kind). Rattle.arrival.specs.Windows.lies u (address_of F k) ≡ true) flat (ok.kinds k h y))).0

  aligned : (k : ℕ) → k < F.total → is_data F k ≡ true → storage_of s w F k % 256 ≡ 0
  aligned k h y = (sound.fits k h y).aligned flat

  -- ---- a block that names a region which counts

  record Named (i : ℕ) : Type 0 where
    data_block : is_data F i ≡ true
    flag : has_flag (F.block i) 0x4000 ≡ true
    counting : Counting L.size (address_of F i) (region_of (F.block i))

  named : (i : ℕ) → is_guarded s w F i ≡ true → Named i
  named i g =
      let a = same_kind F.kind Flash in
      let b = is_data F i in
      let c = has_flag (F.block i) 0x4000 in
      let d = good_region (size_of (place_of s (flash_of w) F.family)) (address_of F i) (region_of (F.block i)) in
      let e = and_left (a && b && c) d g in
      record {
        data_block = and_right a b (and_left (a && b) c e);
        flag = and_right (a && b) c e;
        counting =
            good_true L.size (address_of F i) (region_of (F.block i))
            (ap (λ (p : Option Place). good_region (size_of p) (address_of F i) (region_of (F.block i))) (sym L.place) ∙ and_right (a && b && c) d g);
      }

  guarded_is : (i : ℕ) → is_data F i ≡ true → has_flag (F.block i) 0x4000 ≡ true → Counting L.size (address_of F i) (region_of (F.block i))
      → is_guarded s w F i ≡ true
  guarded_is i y f c =
      both (both (both there y) f)
      (ap (λ (p : Option Place). good_region (size_of p) (address_of F i) (region_of (F.block i))) L.place
      ∙ good_yes L.size (address_of F i) (region_of (F.block i)) c)

  facts : (i : ℕ) → i < F.total → is_guarded s w F i ≡ true → Guard P (flash_of w) i (region_start s w F i) (region_length F i)
  unfolding region_of
  facts i h g =
      let n = named i g in
      let c = n.counting in
      record {
        data_block = n.data_block;
        first = omega (arith, region_is i, L.first, c.starts, c.window);
        full = c.ends;
        within = omega (arith, region_is i, L.within, c.within);
        before = omega (arith, region_is i, storage_is i, c.before);
        behind = omega (arith, region_is i, storage_is i, c.before, c.behind, c.window);
      }

  in_region_lem : (i j : ℕ) → region_start s w F i ≤ j → j < region_start s w F i + region_length F i → in_region s w F i j ≡ true
  in_region_lem i j a b = both (le-leb (region_start s w F i) j a) (lt-ltb j (region_start s w F i + region_length F i) b)

  -- ---- the final bytes

  final_owned : (k : ℕ) → k < F.total → is_data F k ≡ true → (i : ℕ) → i < 256 → final P (storage_of s w F k + i) ≡ get_or (payload_of (F.block k)) i 0
  final_owned k h y i l =
      cell_owned F.total (layout Flash P) (λ j. 255) every (storage_of s w F k + i) (apart_of Flash P w.held sound) k h refl
      (rw (here, y) (spans_is (storage_of s w F k) (storage_of s w F k + i) (omega arith) (omega arith)))
      ∙ ap (λ (x : ℕ). get_or (payload_of (F.block k)) x 0) (omega arith)

  final_free : (j : ℕ) → any F.total (λ k. holds s w F k j) ≡ false → final P j ≡ 255
  final_free j z =
      cell_free F.total (layout Flash P) (λ j. 255) every j (λ k h e. rw here (any_all (λ k. holds s w F k j) F.total z k h))
      ∙ either (touched F.total (layout Flash P) every (j / 4096))
    where
      either : (b : Bool) → ◌≡◌ {A = ℕ} (cond b 255 255) 255
      either true = refl
      either false = refl

  -- a flash of that length whose region has the final bytes
  final_of_lem : (i : ℕ) (h : i < F.total) (g : is_guarded s w F i ≡ true) (f : List ℕ) → length f ≡ flash_of w
      → Finished P f (region_start s w F i) (region_length F i) → Final s w F i (region_in s w F i f)
  final_of_lem i h g f n e =
      let r = facts i h g in
      let lo = region_start s w F i in
      let len = region_length F i in
      record {
        whole = part_length f lo len (omega (arith, r.within));
        payloads = λ k hk y q j l.
            let at = storage_of s w F k in
            let a : lo ≤ at = leb-true lo at (and_left (leb lo at) (ltb at (lo + len)) q) in
            let b : at < lo + len = ltb-true at (lo + len) (and_right (leb lo at) (ltb at (lo + len)) q) in
            let c : at + 256 ≤ lo + len = omega (arith, r.first, r.full, aligned k hk y) in
            part_at f lo len (at - lo + j) (omega arith)
            ∙ ap (λ (x : ℕ). get_or f x 0) (omega arith)
            ∙ e (at + j) (omega arith) (omega arith)
            ∙ final_owned k hk y j l;
        erased = λ j l z. part_at f lo len j l ∙ e (lo + j) (omega arith) (omega arith) ∙ final_free (lo + j) z;
      }

  -- and the other way round
  finished : (i : ℕ) (h : i < F.total) (g : is_guarded s w F i ≡ true) (f : List ℕ) → length f ≡ flash_of w
      → Final s w F i (region_in s w F i f) → Finished P f (region_start s w F i) (region_length F i)
  finished i h g f n e j a b =
      split (any F.total (λ k. holds s w F k j))
      (λ t. by-block (any_found (λ k. holds s w F k j) F.total t))
      (λ z.
      let x : ℕ = j - lo in
      let v : lo + x ≡ j = omega arith in
      ap (λ (x : ℕ). get_or f x 0) (sym v) ∙ sym (part_at f lo len x (omega arith))
      ∙ e.erased x (omega arith) (ap (λ (x : ℕ). any F.total (λ k. holds s w F k x)) v ∙ z)
      ∙ sym (final_free j z))
    where
      lo : ℕ
      lo = region_start s w F i

      len : ℕ
      len = region_length F i

      by-block : (k : ℕ) × (k < F.total) × (holds s w F k j ≡ true) → get_or f j 0 ≡ final P j
      by-block q =
          let k = q.0 in
          let y = and_left (is_data F k) (spans (storage_of s w F k) j) q.2 in
          let at = storage_of s w F k in
          let p = spans_true at j (and_right (is_data F k) (spans at j) q.2) in
          let r = facts i h g in
          let c : lo ≤ at = omega (arith, p, r.first, aligned k q.1 y) in
          let x : ℕ = j - at in
          let l : x < 256 = omega (arith, p) in
          let d : at < lo + len = omega (arith, p) in
          let v : lo + (at - lo + x) ≡ j = omega (arith, p) in
          let u : at + x ≡ j = omega (arith, p) in
          ap (λ (x : ℕ). get_or f x 0) (sym v) ∙ sym (part_at f lo len (at - lo + x) (omega arith))
          ∙ e.payloads k q.1 y (in_region_lem i at c d) x l
          ∙ sym (final_owned k q.1 y x l) ∙ ap (final P) u

  -- ---- what stands

  -- the flash that block i meets
  abbrev Met : List ℕ → ℕ → Type 0
  Met f i = is_guarded s w F i ≡ true → md5_of (region_in s w F i f) ≡ digest_in (F.block i) → Final s w F i (region_in s w F i f)

  part_is : (k : ℕ) (f : List ℕ) → part_of f L.start (region_of (F.block k)) ≡ region_in s w F k f
  unfolding region_of
  part_is k f = ap (λ (x : ℕ). take (field_at (F.block k) 488) (drop (x + (field_at (F.block k) 484 - 0x10000000)) f)) (sym origin_is)

  place_at : (f : List ℕ) (k : ℕ) → k < F.total → length f ≡ flash_of w → place_of s (length f) (field_at (F.block k) 28) ≡ Some (place_from L.start L.size)
  place_at f k h n = (λ i. place_of s (n i) (ok.families k h i)) ∙ L.place

  stood : (f : List ℕ) (k : ℕ) → k < F.total → is_data F k ≡ true → length f ≡ flash_of w → standing s f (F.block k) ≡ true → Met f k
      → (is_guarded s w F k ≡ true) × Finished P f (region_start s w F k) (region_length F k)
  unfolding stands_at region_of
  stood f k h y n e m =
      let b = has_flag (F.block k) 0x4000 in
      let t = good_region L.size (address_of F k) (region_of (F.block k)) in
      let u = stands_in f L.start (region_of (F.block k)) in
      let r : b && t && u ≡ true = ap (λ (p : Option Place). stands_at f p (F.block k)) (sym (place_at f k h n)) ∙ e in
      let q = and_left (b && t) u r in
      let c = good_true L.size (address_of F k) (region_of (F.block k)) (and_right b t q) in
      let g : is_guarded s w F k ≡ true = guarded_is k y (and_left b t q) c in
      let d : md5_of (region_in s w F k f) ≡ digest_in (F.block k) =
      ap md5_of (sym (part_is k f))
      ∙ digest_true (md5_of (part_of f L.start (region_of (F.block k)))) (region_of (F.block k)) (stands_true f L.start (region_of (F.block k)) (and_right (b && t) u r)) in
      (g, finished k h g f n (m g d))

  module _ (R : Regions s w F) where
    same : (i k : ℕ) → i < F.total → k < F.total → is_guarded s w F i ≡ true → is_data F k ≡ true → region_start s w F i ≤ storage_of s w F k
        → storage_of s w F k < region_start s w F i + region_length F i
        → (is_guarded s w F k ≡ true) × (region_start s w F k ≡ region_start s w F i) × (region_length F k ≡ region_length F i)
    unfolding region_of
    same i k hi hk g y a b =
        let q = R.same i k hi hk g y (in_region_lem i (storage_of s w F k) a b) in
        let c = (named i g).counting in
        let r = facts i hi g in
        let z = low k hk y in
        let e : field_at (F.block k) 484 ≡ field_at (F.block i) 484 = q.1 in
        let n : field_at (F.block k) 488 ≡ field_at (F.block i) 488 = q.2 in
        let x : storage_of s w F k + 256 ≤ region_start s w F i + region_length F i = omega (arith, r.first, r.full, aligned k hk y) in (
          guarded_is k y q.0
              (record {
                starts = rw e c.starts;
                ends = rw n c.ends;
                some = rw n c.some;
                window = rw e c.window;
                within = rw (e, n) c.within;
                before = omega (arith, e, a, region_is i, storage_is k, z, c.window);
                behind = omega (arith, e, n, x, region_is i, storage_is k, z, c.window);
              }),
          ap (λ (x : ℕ). origin_of s w Flash F.family + (x - 0x10000000)) e,
          n,
        )

    each : (i q : ℕ) → i < F.total → is_guarded s w F i ≡ true → region_start s w F i ≤ q * 4096 → q * 4096 < region_start s w F i + region_length F i
        → touched F.total (layout Flash P) every q ≡ true
    each i q h g a b =
        any_cong F.total (λ k. true && (layout Flash P).touches k q) (λ k. lies_in s w F k q) (λ k l. rw here)
        ∙ R.every i q h g (in_region_lem i (q * 4096) a b)

    keeps : (f : List ℕ) (k : ℕ) → k < F.total → is_guarded s w F k ≡ true → length f ≡ flash_of w
        → Finished P f (region_start s w F k) (region_length F k) → standing s f (F.block k) ≡ true
    unfolding stands_at region_of
    keeps f k h g n e =
        let m = named k g in
        let c = m.counting in
        let d : md5_of (part_of f L.start (region_of (F.block k))) ≡ digest_in (F.block k) =
        ap md5_of (part_is k f) ∙ R.right k h g (region_in s w F k f) (final_of_lem k h g f n e) in
        let t : stands_in f L.start (region_of (F.block k)) ≡ true =
        sym (stands_there f L.start (region_of (F.block k)) c.window (omega (arith, c.within, L.within)))
        ∙ ap (λ (x : Digest). same_digest x (region_of (F.block k))) d
        ∙ digest_yes (region_of (F.block k)) in
        rw (place_at f k h n) (both (both m.flag (good_yes L.size (address_of F k) (region_of (F.block k)) c)) t)

    guards : Guards P w.held Met
    guards =
        record {
          flat = flat;
          guarded = is_guarded s w F;
          lo = region_start s w F;
          len = region_length F;
          facts = facts;
          same = same;
          each = each;
          stood = stood;
          keeps = keeps;
        }

    after-regions : {l : List (List ℕ)} → Sent s w F l → AtEach (NoOther s w F) s w l
        → After P w (Inv P w.held Met guards) (seen_of F l) (receive_all s w l)
    after-regions sent met =
        run_met s w P (Foreign s w F) (steady s w F idle ok) sound.few false (opens s w F idle ok) (Inv P w.held Met guards) Met
        (begins P w.held Met guards sound) (λ S k x h I m. goes_on P w.held Met guards sound S k h x I m)
        (NoOther s w F) (λ k v h q late g e. q k h refl (omega (arith, late)) g e)
        sent none w (record { board = board s w F idle ok; lengths = refl }) (untouched refl refl) met

    -- at completion
    module _ {l : List (List ℕ)} (C : Complete s w F l) where
      abbrev S : Set
      S = seen_of F l

      abbrev v : World
      v = receive_all s w l

      inv : (x : Held) × Inv P w.held Met guards S x × (v.held ≡ x)
      inv =
          let r = some_seen P w (Inv P w.held Met guards) S v (after-regions C.sent C.met) (omega (arith, C.whole, ok.some)) in
          (r.0, r.1, ap (λ (u : World). u.held) r.2)

      pub flash_is : (j : ℕ) → j < flash_of w → get_or v.held.flash j 0 ≡ cell F.total (layout Flash P) (byte_in Flash w.held) S j
      flash_is j h =
          ap (λ (x : Held). get_or x.flash j 0) inv.2 ∙ whole_flash P w.held Met guards sound S inv.0 inv.1 (omega (arith, C.whole)) j h

      pub lengths_are : lengths_of v.held ≡ lengths_of w.held
      lengths_are = ap lengths_of inv.2 ∙ inv.1.lengths

      -- a buffer of another kind has no block
      other-is : (u : Kind) → same_kind u Flash ≡ false → u ≢ Flash → (j : ℕ) → byte_in u v.held j ≡ cell F.total (layout u P) (byte_in u w.held) S j
      other-is u z n j =
          let no : same_kind u F.kind ≡ false = ap (same_kind u) flat ∙ z in
          ap (λ (x : Held). byte_in u x j) inv.2 ∙ ap (λ (b : List ℕ). get_or b j 0) (inv.1.others u n)
          ∙ sym
          (cell_free F.total (layout u P) (byte_in u w.held) S j (λ k h e. rw no)
          ∙ rw (any_none (λ k. S k && (layout u P).touches k (j / 4096)) F.total (λ k h. rw no (and-false (S k)))))

      as-cells : As P w.held S v.held
      as-cells Flash j h = flash_is j h
      as-cells MainRam j h = other-is MainRam refl (λ e. let z : ◌≡◌ {A = ℕ} 0 1 = cc in omega arith) j
      as-cells XipRam j h = other-is XipRam refl (λ e. let z : ◌≡◌ {A = ℕ} 0 1 = cc in omega arith) j

      pub contents_at : Contents s w F S v
      contents_at = contents_of_lem s w F sound S v as-cells lengths_are

-- ---- the claims

-- a file of RAM has no region
ram_plain : (s : Settings) (w : World) (F : File) → same_kind F.kind Flash ≡ false → Plain s w F
ram_plain s w F z k h = rw z

pub regions_end : RegionsEnd
unfolding RegionsEnd
regions_end s w F idle ok R l C =
    split (same_kind F.kind Flash)
    (λ y. contents_at s w F idle ok (kind_same F.kind Flash y) R C)
    (λ z. (ends s w F idle ok (ram_plain s w F z) C.sent).contents)

pub whole_alike : WholeAlike
unfolding WholeAlike
whole_alike s w F idle ok R l m C D =
    split (same_kind F.kind Flash)
    (λ y. flash (kind_same F.kind Flash y))
    (λ z.
    let e : receive_all s w l ≡ receive_all s w m = same_set s w F idle ok (ram_plain s w F z) C.sent D.sent same in
    record {
      count = same_count s w F idle ok C.sent D.sent same;
      flash = ap (λ (v : World). v.held.flash) e;
      main = ap (λ (v : World). v.held.main) e;
      xip = ap (λ (v : World). v.held.xip) e;
    })
  where
    -- both sets are the whole file
    same : seen_of F l ≡ seen_of F m
    same = fun_ext (λ k. below k (ltb k F.total) refl)
      where
        below : (k : ℕ) (b : Bool) → ltb k F.total ≡ b → seen_of F l k ≡ seen_of F m k
        below k true y =
            let h = ltb-true k F.total y in
            size_full F.total (seen_of F l) k (omega (arith, C.whole)) h ∙ sym (size_full F.total (seen_of F m) k (omega (arith, D.whole)) h)
        below k false z = rw z

    flash : F.kind ≡ Flash → WholeSame (receive_all s w l) (receive_all s w m)
    flash flat =
        let a = lengths_are s w F idle ok flat R C in
        let b = lengths_are s w F idle ok flat R D in
        let n : length (receive_all s w l).held.flash ≡ flash_of w = ap (λ n. n.flash) a in
        let k : length (receive_all s w m).held.flash ≡ flash_of w = ap (λ n. n.flash) b in
        record {
          count = same_count s w F idle ok C.sent D.sent same;
          flash =
              ext_get_or 0 (receive_all s w l).held.flash (receive_all s w m).held.flash (n ∙ sym k)
              (λ j h.
              let l' : j < flash_of w = omega (arith, n) in
              flash_is s w F idle ok flat R C j l'
              ∙ ap (λ (S : Set). cell F.total (layout Flash (blocks_of s w F)) (byte_in Flash w.held) S j) same
              ∙ sym (flash_is s w F idle ok flat R D j l'));
          main = others s w F idle ok C.sent MainRam main ∙ sym (others s w F idle ok D.sent MainRam main);
          xip = others s w F idle ok C.sent XipRam xip ∙ sym (others s w F idle ok D.sent XipRam xip);
        }
      where
        main : MainRam ≢ F.kind
        main e = let z : ◌≡◌ {A = ℕ} 0 1 = cc in omega arith

        xip : XipRam ≢ F.kind
        xip e = let z : ◌≡◌ {A = ℕ} 0 1 = cc in omega arith
