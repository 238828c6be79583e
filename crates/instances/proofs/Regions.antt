-- The hypotheses of demand 3 for files with regions are met by those of specs/Regions.antt, and the theorem speaks of them. No digest is computed.
-- Assumes nothing.
use Prim.Native.Nat.{ℕ, zero, suc, ◌+◌, ◌-◌, ◌*◌, ◌/◌, ◌%◌, ◌≤◌, ◌<◌, ◌^◌}
use mathlib.Core.Path.{◌≡◌, refl, sym, ap, subst, ◌∙◌}
use mathlib.Core.Bool.{Bool, true, false, not, ◌||◌}
use mathlib.Core.List.{List, [], ◌∷◌}
use native.Mathlib.Omega.{arith}
use lib.Dec.{eqb, ltb, leb}
use lib.ListN.{length, get_or, take, drop, replicate, length-replicate, get_or-replicate}
use lib.Seq.{ext_get_or}
use borrow.Author.Tests.{leb-true, ltb-true, le-leb, lt-ltb, eqb-true, eq-eqb}
use Rattle.std.specs.Prelude.{Some}
use Rattle.laws.proofs.Tests.{split, eqb_same, and_left, and_right, both}
use Rattle.laws.proofs.Laws.{any_found, any_hit}
use Rattle.memory.specs.Many.{many}
use Rattle.laws.specs.Bytes.{low_first, number_in}
use Rattle.laws.specs.Sets.{any, size}
use Rattle.memory.specs.Flash.{flash_length, payload_of, spans}
use Rattle.uf2_block.specs.Block.{field_at, fields_of, flagged_of, header_of}
use Rattle.uf2_block.specs.Region.{region_of}
use Rattle.md5_digest.specs.Md5.{md5_of, digest_bytes}
use Rattle.md5_digest.proofs.Laws.{digest_words}
use Rattle.uf2_block.specs.Regions.{good_region}
use Rattle.partitions.specs.Settings.{family_arm_s, good_settings}
use Rattle.placement.specs.Place.{place_of, place_from}
use Rattle.transfer.specs.Transfer.{number_of, good_state, counted, raised, accepted, step_of}
use Rattle.transfer.specs.declared.Kind.TheVariants.{Flash}
use Rattle.transfer.specs.declared.Answer.{Answer}
use Rattle.transfer.specs.declared.State.TheVariants.{Idle}
use Rattle.uf2_checks.specs.Screen.{window_of, note_kind, placed, strayed, noted, data_found, note_found, found, screen_in, screen_of}
use Rattle.arrival.specs.Arrive.{World, right_lengths, stands_at, after_screening, decide, done, receive_of}
use Rattle.arrival.specs.Windows.{kind_of}
use Rattle.arrival.specs.Facts.{flagged}
use Rattle.arrival.specs.Lists.{receive_all, AtEach}
use Rattle.arrival_claims.specs.Kept.{soft, StandingKept, Flag0x4000Decides14Or17}
use Rattle.arrival.specs.Standing.{digest_in, Standing}
use Rattle.demand.specs.Demand.{File, ValidFile, answer_number, address_of, is_data, nothing, own, same_bytes, among, seen_of, how_many, start_of, origin_of, storage_of, holds, lies_in, is_guarded, Contents}
use Rattle.demand.specs.Regions.{region_start, region_length, region_in, in_region, Final, Regions, NoOther, RegionsEnd}
use Rattle.arrival_claims.proofs.Kept.{standing_kept, flag_0x4000_decides_14_or_17}
use Rattle.demand.proofs.Regions.{regions_end}
use Rattle.examples.specs.Boards.{plain, lent_to}
use Rattle.instances.specs.Regions.{final_bytes, naming_block, naming_file, erased_start, MetWhereItStands, MetWhereItIsWritten}

-- ---- what a block says

-- a word read from its four bytes
word_back : (x : ℕ) → x < 2 ^ 32 → x % 256 + 256 * (x / 256 % 256 + 256 * (x / 256 / 256 % 256 + 256 * (x / 256 / 256 / 256 % 256 + 256 * 0))) ≡ x
word_back x h = omega arith

-- of the block k of n
record Saying (k n : ℕ) : Type 0 where
  flags : field_at (naming_block 0x6000 k n) 8 ≡ 0x6000
  address : field_at (naming_block 0x6000 k n) 12 ≡ 0x10000000 + k * 256
  number : field_at (naming_block 0x6000 k n) 20 ≡ k
  total : field_at (naming_block 0x6000 k n) 24 ≡ n
  family : field_at (naming_block 0x6000 k n) 28 ≡ family_arm_s
  start : field_at (naming_block 0x6000 k n) 484 ≡ 0x10000000
  len : field_at (naming_block 0x6000 k n) 488 ≡ 4096
  digest : digest_in (naming_block 0x6000 k n) ≡ md5_of final_bytes
  payload : payload_of (naming_block 0x6000 k n) ≡ replicate 256 255
  marked : flagged 0x40 (naming_block 0x2000 k n) ≡ naming_block 0x6000 k n

saying_01 : Saying 0 1
unfolding low_first number_in field_at digest_bytes payload_of
saying_01 =
    let w = digest_words final_bytes in
    let x = md5_of final_bytes in
    let a = word_back x.a w.a in
    let b = word_back x.b w.b in
    let c = word_back x.c w.c in
    let d = word_back x.d w.d in
    record {
      flags = refl;
      address = refl;
      number = refl;
      total = refl;
      family = refl;
      start = refl;
      len = refl;
      digest = λ i. record { a = a i; b = b i; c = c i; d = d i };
      payload = refl;
      marked = refl;
    }

saying_02 : Saying 0 2
unfolding low_first number_in field_at digest_bytes payload_of
saying_02 =
    let w = digest_words final_bytes in
    let x = md5_of final_bytes in
    let a = word_back x.a w.a in
    let b = word_back x.b w.b in
    let c = word_back x.c w.c in
    let d = word_back x.d w.d in
    record {
      flags = refl;
      address = refl;
      number = refl;
      total = refl;
      family = refl;
      start = refl;
      len = refl;
      digest = λ i. record { a = a i; b = b i; c = c i; d = d i };
      payload = refl;
      marked = refl;
    }

saying_12 : Saying 1 2
unfolding low_first number_in field_at digest_bytes payload_of
saying_12 =
    let w = digest_words final_bytes in
    let x = md5_of final_bytes in
    let a = word_back x.a w.a in
    let b = word_back x.b w.b in
    let c = word_back x.c w.c in
    let d = word_back x.d w.d in
    record {
      flags = refl;
      address = refl;
      number = refl;
      total = refl;
      family = refl;
      start = refl;
      len = refl;
      digest = λ i. record { a = a i; b = b i; c = c i; d = d i };
      payload = refl;
      marked = refl;
    }

sayings : (n k : ℕ) → 1 ≤ n → n ≤ 2 → k < n → Saying k n
sayings zero k l m h = absurd (omega arith)
sayings (suc zero) zero l m h = saying_01
sayings (suc zero) (suc k) l m h = absurd (omega arith)
sayings (suc (suc zero)) zero l m h = saying_02
sayings (suc (suc zero)) (suc zero) l m h = saying_12
sayings (suc (suc zero)) (suc (suc k)) l m h = absurd (omega arith)
sayings (suc (suc (suc n))) k l m h = absurd (omega arith)

final_length : length final_bytes ≡ 4096
final_length = length-replicate {A = ℕ} 4096 255

-- ---- the file, in a flash of 65,536 bytes without a table

module _ (w : World) (place : place_of plain (length w.held.flash) family_arm_s ≡ Some (place_from 0 65536)) (n : ℕ) (some : 1 ≤ n) (few : n ≤ 2) where
  abbrev F : File
  F = naming_file n

  says : (k : ℕ) → k < n → Saying k n
  says k h = sayings n k some few h

  is_data_lem : (k : ℕ) → k < n → is_data F k ≡ true
  is_data_lem k h = ap (λ (x : ℕ). not (eqb (x / 0x1 % 2) 1)) (says k h).flags

  origin : origin_of plain w Flash family_arm_s ≡ 0
  origin = ap start_of place

  storage : (k : ℕ) → k < n → storage_of plain w F k ≡ k * 256
  storage k h = omega (arith, origin, (says k h).address)

  start_is : (k : ℕ) → k < n → region_start plain w F k ≡ 0
  start_is k h = omega (arith, origin, (says k h).start)

  length_is : (k : ℕ) → k < n → region_length F k ≡ 4096
  length_is k h = (says k h).len

  guarded : (k : ℕ) → k < n → is_guarded plain w F k ≡ true
  unfolding good_region region_of
  guarded k h =
      let q = says k h in
      both (both (is_data_lem k h) (ap (λ (x : ℕ). eqb (x / 0x4000 % 2) 1) q.flags))
      (rw (place, q.start, q.len, q.address) (both (le-leb 0x10000000 (0x10000000 + k * 256) (omega arith)) (le-leb (0x10000000 + k * 256 + 256) 0x10001000 (omega arith))))

  -- every final byte is 0xFF
  final_is : (i : ℕ) → i < n → (c : List ℕ) → Final plain w F i c → c ≡ final_bytes
  final_is i h c f =
      ext_get_or 0 c final_bytes (f.whole ∙ length_is i h ∙ sym final_length)
      (λ j l. byte j (omega (arith, f.whole, length_is i h)) ∙ sym (get_or-replicate 4096 j 255 0 (omega (arith, f.whole, length_is i h))))
    where
      byte : (j : ℕ) → j < 4096 → get_or c j 0 ≡ 255
      byte j l =
          split (any n (λ k. holds plain w F k (region_start plain w F i + j)))
          (λ t. held (any_found (λ k. holds plain w F k (region_start plain w F i + j)) n t))
          (λ z. f.erased j (omega (arith, length_is i h)) z)
        where
          held : (k : ℕ) × (k < n) × (holds plain w F k (region_start plain w F i + j) ≡ true) → get_or c j 0 ≡ 255
          held q =
              let k = q.0 in
              let at = storage_of plain w F k in
              let lo = region_start plain w F i in
              let sp = and_right (is_data F k) (spans at (lo + j)) q.2 in
              let a = leb-true at (lo + j) (and_left (leb at (lo + j)) (ltb (lo + j) (at + 256)) sp) in
              let b = ltb-true (lo + j) (at + 256) (and_right (leb at (lo + j)) (ltb (lo + j) (at + 256)) sp) in
              let e = start_is i h in
              let x : ℕ = j - at in
              let inside : in_region plain w F i at ≡ true =
              both (le-leb lo at (omega arith)) (lt-ltb at (lo + region_length F i) (omega (arith, length_is i h))) in
              ap (λ (x : ℕ). get_or c x 0) (omega arith)
              ∙ f.payloads k q.1 (is_data_lem k q.1) inside x (omega arith)
              ∙ ap (λ (p : List ℕ). get_or p x 0) (says k q.1).payload
              ∙ get_or-replicate 256 x 255 0 (omega arith)

  -- and such bytes are final
  is_final : (i : ℕ) → i < n → Final plain w F i final_bytes
  is_final i h =
      record {
        whole = final_length ∙ sym (length_is i h);
        payloads = λ k hk y q j l.
            get_or-replicate 4096 (storage_of plain w F k - region_start plain w F i + j) 255 0 (omega (arith, storage k hk, few))
            ∙ sym (ap (λ (p : List ℕ). get_or p j 0) (says k hk).payload ∙ get_or-replicate 256 j 255 0 l);
        erased = λ j l z. get_or-replicate 4096 j 255 0 (omega (arith, length_is i h));
      }

  regions : Regions plain w F
  regions =
      record {
        same = λ i k hi hk g y q. (
          ap (λ (x : ℕ). eqb (x / 0x4000 % 2) 1) (says k hk).flags,
          (says k hk).start ∙ sym (says i hi).start,
          (says k hk).len ∙ sym (says i hi).len,
        );
        every = λ i q h g r.
            let lo = region_start plain w F i in
            let l = ltb-true (q * 4096) (lo + region_length F i) (and_right (leb lo (q * 4096)) (ltb (q * 4096) (lo + region_length F i)) r) in
            let z : q ≡ 0 = omega (arith, start_is i h, length_is i h) in
            any_hit (λ k. lies_in plain w F k q) n 0 some
            (both (is_data_lem 0 some) (eq-eqb q (storage_of plain w F 0 / 4096) (omega (arith, storage 0 some))));
        right = λ i h g c f. ap md5_of (final_is i h c f) ∙ sym (says i h).digest;
      }

  part : (f : List ℕ) (i : ℕ) → i < n → region_in plain w F i f ≡ take 4096 f
  part f i h = rw (start_is i h, length_is i h)

  -- a flash whose region is final, and one of another digest
  final_there : (v : World) (a : List ℕ) → take 4096 v.held.flash ≡ final_bytes → NoOther plain w F v a
  final_there v a e i h b t g d = subst (Final plain w F i) (sym (part v.held.flash i h ∙ e)) (is_final i h)

  other_there : (v : World) (a : List ℕ) → (md5_of (take 4096 v.held.flash) ≡ md5_of final_bytes → ⊥) → NoOther plain w F v a
  other_there v a differs i h b t g d = absurd (differs (ap md5_of (sym (part v.held.flash i h)) ∙ d ∙ (says i h).digest))

  -- the answers at the start, but for what stands
  soft_late : (x : Answer) → 14 ≤ number_of (soft x) → 14 ≤ number_of x
  soft_late x h = split (eqb (number_of x) 17) (λ y. omega (arith, eqb-true (number_of x) 17 y)) (λ z. rw z at h)

  late : (k : ℕ) → k < n → 14 ≤ number_of (soft (receive_of plain w (naming_block 0x2000 k n)).answer) → 14 ≤ answer_number plain w (F.block k)
  unfolding Flag0x4000Decides14Or17
  late k h m =
      let f : soft (receive_of plain w (F.block k)).answer ≡ soft (receive_of plain w (naming_block 0x2000 k n)).answer =
      ap (λ (a : List ℕ). soft (receive_of plain w a).answer) (sym (says k h).marked)
      ∙ (flag_0x4000_decides_14_or_17 plain w (naming_block 0x2000 k n)).answer in
      soft_late (receive_of plain w (F.block k)).answer (rw f m)

  valid : ((k : ℕ) → k < n → 14 ≤ number_of (soft (receive_of plain w (naming_block 0x2000 k n)).answer)) → ValidFile plain w F
  valid m =
      record {
        some = some;
        numbers = λ k h. (says k h).number;
        families = λ k h. (says k h).family;
        totals = λ k h. (says k h).total;
        disjoint = λ i k j hi hk yi yk p q.
            let u = spans_true (address_of F i) j p in
            let v = spans_true (address_of F k) j q in
            omega (arith, u, v, (says i hi).address, (says k hk).address);
        kinds = λ k h y. both (le-leb 0x10000000 (address_of F k) (omega (arith, (says k h).address))) (lt-ltb (address_of F k) 0x12000000 (omega (arith, (says k h).address)));
        quiet = λ n. absurd (n refl);
        passes = λ k h. omega (arith, late k h (m k h));
      }
    where
      spans_true : (at j : ℕ) → spans at j ≡ true → (at ≤ j) × (j < at + 256)
      spans_true at j e = (leb-true at j (and_left (leb at j) (ltb j (at + 256)) e), ltb-true j (at + 256) (and_right (leb at j) (ltb j (at + 256)) e))

-- ---- two blocks that stand already, and one that is written

same_refl : (a : List ℕ) → same_bytes a a ≡ true
unfolding same_bytes
same_refl [] = refl
same_refl (x ∷ a) = rw (eqb_same x, same_refl a)

or_second : (a b : Bool) → b ≡ true → a || b ≡ true
or_second true b e = refl
or_second false b e = e

place_is : (f : ℕ) → place_of plain (length (replicate 65536 f)) family_arm_s ≡ Some (place_from 0 65536)
unfolding place_of
place_is f = ap (λ (n : ℕ). place_of plain n family_arm_s) (length-replicate 65536 f)

-- at page k, without the flag
told : (14 ≤ number_of (soft (receive_of plain erased_start (naming_block 0x2000 0 2)).answer))
    × (14 ≤ number_of (soft (receive_of plain erased_start (naming_block 0x2000 1 2)).answer))
    × (14 ≤ number_of (soft (receive_of plain (lent_to Idle) (naming_block 0x2000 0 1)).answer))
unfolding many any flash_length payload_of low_first number_in field_at fields_of flagged_of header_of good_settings place_of good_state counted raised accepted step_of window_of note_kind placed strayed noted data_found note_found found screen_in screen_of right_lengths stands_at after_screening decide done receive_of digest_bytes
told = (omega arith, omega arith, omega arith)

told_2 : (k : ℕ) → k < 2 → 14 ≤ number_of (soft (receive_of plain erased_start (naming_block 0x2000 k 2)).answer)
told_2 zero h = told.0
told_2 (suc zero) h = told.1
told_2 (suc (suc k)) h = absurd (omega arith)

told_1 : (k : ℕ) → k < 1 → 14 ≤ number_of (soft (receive_of plain (lent_to Idle) (naming_block 0x2000 k 1)).answer)
told_1 zero h = told.2
told_1 (suc k) h = absurd (omega arith)

-- block 1 stands at the start
stands : Standing plain erased_start (naming_block 0x6000 1 2)
stands =
    let q = saying_12 in
    let a = naming_block 0x6000 1 2 in
    record {
      data_block = ap (λ (x : ℕ). eqb (x / 0x1 % 2) 1) q.flags;
      flash = unfold kind_of in rw q.flags;
      flag = ap (λ (x : ℕ). eqb (x / 0x4000 % 2) 1) q.flags;
      start = 0;
      size = 65536;
      place = ap (place_of plain (length erased_start.held.flash)) q.family ∙ place_is 255;
      first = ap (λ (x : ℕ). x % 4096) q.start;
      whole = ap (λ (x : ℕ). x % 4096) q.len;
      some = λ e. omega (arith, q.len);
      window = omega (arith, q.start);
      within = omega (arith, q.start, q.len);
      before = omega (arith, q.start, q.address);
      behind = omega (arith, q.start, q.len, q.address);
      digest = ap md5_of (region q.start q.len) ∙ sym q.digest;
    }
  where
    region : {x y : ℕ} → x ≡ 0x10000000 → y ≡ 4096 → take y (drop (0 + (x - 0x10000000)) (replicate 65536 255)) ≡ final_bytes
    region e f = rw (e, f)

pub met_where_it_stands : MetWhereItStands
unfolding MetWhereItStands
met_where_it_stands =
    record {
      valid = valid erased_start (place_is 255) 2 (omega arith) (omega arith) told_2;
      guarded = guarded erased_start (place_is 255) 2 (omega arith) (omega arith) 0 (omega arith);
      regions = regions erased_start (place_is 255) 2 (omega arith) (omega arith);
      complete =
          record {
            sent = own 1 (omega arith) (own 0 (omega arith) nothing);
            met = unfold AtEach in (final_there erased_start (place_is 255) 2 (omega arith) (omega arith) erased_start (naming_block 0x6000 1 2) refl, (final_there erased_start (place_is 255) 2 (omega arith) (omega arith) next (naming_block 0x6000 0 2) (ap (take 4096) same), tt));
            whole = whole;
          };
    }
  where
    next : World
    next = (receive_of plain erased_start (naming_block 0x6000 1 2)).world

    -- the first of them is kept, so that the second finds the same flash
    same : next.held.flash ≡ replicate 65536 255
    same =
        unfold StandingKept in (standing_kept plain erased_start (naming_block 0x6000 1 2) stands
        (late erased_start (place_is 255) 2 (omega arith) (omega arith) 1 (omega arith) told.1)).buffers Flash

    whole : how_many (naming_file 2) (seen_of (naming_file 2) (naming_block 0x6000 1 2 ∷ naming_block 0x6000 0 2 ∷ [])) ≡ 2
    whole =
        unfold size among in rw (
          or_second (same_bytes (naming_block 0x6000 0 2) (naming_block 0x6000 1 2)) (same_bytes (naming_block 0x6000 0 2) (naming_block 0x6000 0 2) || false) (rw (same_refl (naming_block 0x6000 0 2))),
          same_refl (naming_block 0x6000 1 2),
        )

pub met_where_it_is_written : MetWhereItIsWritten
unfolding MetWhereItIsWritten
met_where_it_is_written differs =
    record {
      valid = valid (lent_to Idle) (place_is 7) 1 (omega arith) (omega arith) told_1;
      guarded = guarded (lent_to Idle) (place_is 7) 1 (omega arith) (omega arith) 0 (omega arith);
      regions = regions (lent_to Idle) (place_is 7) 1 (omega arith) (omega arith);
      complete =
          record {
            sent = own 0 (omega arith) nothing;
            met = unfold AtEach in (other_there (lent_to Idle) (place_is 7) 1 (omega arith) (omega arith) (lent_to Idle) (naming_block 0x6000 0 1) differs, tt);
            whole = unfold size among in rw (same_refl (naming_block 0x6000 0 1));
          };
    }

-- so the theorem gives what the flash has at completion
pub kept_contents : Contents plain erased_start (naming_file 2) (seen_of (naming_file 2) (naming_block 0x6000 1 2 ∷ naming_block 0x6000 0 2 ∷ []))
    (receive_all plain erased_start (naming_block 0x6000 1 2 ∷ naming_block 0x6000 0 2 ∷ []))
unfolding MetWhereItStands RegionsEnd
kept_contents =
    let m = met_where_it_stands in
    regions_end plain erased_start (naming_file 2) refl m.valid m.regions (naming_block 0x6000 1 2 ∷ naming_block 0x6000 0 2 ∷ []) m.complete
