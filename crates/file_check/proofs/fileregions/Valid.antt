-- A file whose regions are right is what L9 asks of a file. Assumes nothing.
use Prim.Native.Nat.{ℕ, ◌+◌, ◌-◌, ◌*◌, ◌/◌, ◌%◌, ◌<◌, ◌≤◌}
use Rattle.std.specs.Prelude.{Ok, Err}
use mathlib.Core.Path.{◌≡◌, refl, sym, ap, subst, ◌∙◌}
use mathlib.Core.Bool.{Bool, true, false, ◌&&◌}
use mathlib.Core.List.{List}
use native.Mathlib.Omega.{arith}
use lib.Dec.{eqb, ltb, leb}
use lib.ListN.{length, get_or}
use lib.Seq.{ext_get_or}
use borrow.Author.Tests.{eq-eqb, leb-true, ltb-true, lt-ltb, le-leb}
use Rattle.std.specs.Prelude.{Option}
use Rattle.laws.specs.Sets.{any}
use Rattle.laws.proofs.Tests.{split, clash, is_false, and_left, and_right, both}
use Rattle.laws.proofs.Laws.{any_hit, any_all, any_found}
use Rattle.memory.specs.Flash.{payload_of, spans}
use Rattle.memory.proofs.flash.Laws.{length_payload}
use Rattle.uf2_block.specs.Block.{field_at, has_flag}
use Rattle.uf2_block.specs.Region.{region_of}
use Rattle.uf2_block.specs.declared.Region.{Region}
use Rattle.md5_digest.specs.Md5.{md5_of}
use Rattle.uf2_block.specs.Regions.{good_region}
use Rattle.uf2_block.proofs.regions.Laws.{good_true}
use Rattle.partitions.specs.declared.Settings.{Settings}
use Rattle.placement.specs.Place.{place_of}
use Rattle.placement.specs.declared.Place.{Place}
use Rattle.transfer.specs.Transfer.{same_kind}
use Rattle.transfer.specs.declared.Kind.{Kind}
use Rattle.transfer.specs.declared.Kind.TheVariants.{Flash}
use Rattle.transfer.specs.declared.State.TheVariants.{Idle}
use Rattle.uf2_checks.specs.declared.Lengths.{Lengths}
use Rattle.arrival.specs.Arrive.{World, lengths_of}
use Rattle.arrival.specs.Windows.{window_start, lies}
use Rattle.arrival.specs.Lists.{receive_all}
use Rattle.arrival.specs.Standing.{digest_in}
use Rattle.arrival.proofs.Heads.{kind_same}
use Rattle.arrival.proofs.Windows.{lies_true}
use Rattle.arrival_claims.proofs.Screening.{flash_of}
use Rattle.arrival_claims.proofs.Effect.{spans_true, spans_is}
use Rattle.demand.specs.Demand.{File, is_data, address_of, ValidFile, start_of, origin_of, storage_of, holds, lies_in, size_of, is_guarded, seen_of, Contents}
use Rattle.demand.proofs.Files.{Located, located, valid as valid-blocks}
use Rattle.demand.specs.Regions.{region_start, region_length, in_region, Final, Regions, Complete, RegionsEnd}
use Rattle.demand.proofs.Regions.{regions_end}
use Rattle.file_check.specs.declared.FileFault.TheVariants.{BadBuffers, BadSettings, Ragged, Empty, Refused, OtherFamily, OtherTotal, OtherKind, SameNumber, Overlap, Missing, Guarded}
use Rattle.file_check.specs.Check.{Checked, piece_at, pieces_in, field_in, is_page, total_in, family_in, kind_in, is_sound, guards_in}
use Rattle.file_check.specs.Valid.{Start, file_of, answer_to}
use Rattle.file_check.proofs.Sound.{Sound, sound, valid, pieces, at, at_of, found_at, number_below, piece_size}
use Rattle.file_check.proofs.Theorems.{empty, empty_start, size_all}
use Rattle.file_check.specs.declared.fileregions.RegionsChecked.TheVariants.{Named}
use Rattle.file_check.specs.Regions.{inside_of, final_of, names_regions}
use Rattle.file_check.specs.Told.{InRegion, sector_of, RightRegion, Told, RegionsAnswersAreTrue}
use Rattle.file_check.specs.FileregionsValid.{answer_on, RightIsRight, RightArrives}
use Rattle.file_check.proofs.fileregions.Told.{inside_true, inside_yes, length_is, regions_answers_are_true}
use Rattle.file_check.proofs.fileregions.Final.{spot, length_final, final_free, final_owned}

guarded_sound : (x : Checked) → names_regions x ≡ true → is_sound x ≡ true
guarded_sound (Err (Guarded i)) e = refl
guarded_sound (Ok u) e = refl
guarded_sound (Err BadBuffers) e = e
guarded_sound (Err BadSettings) e = e
guarded_sound (Err Ragged) e = e
guarded_sound (Err Empty) e = e
guarded_sound (Err (Refused i x)) e = e
guarded_sound (Err (OtherFamily i)) e = e
guarded_sound (Err (OtherTotal i)) e = e
guarded_sound (Err (OtherKind i)) e = e
guarded_sound (Err (SameNumber i j)) e = e
guarded_sound (Err (Overlap i j)) e = e
guarded_sound (Err (Missing k)) e = e

module _ (s : Settings) (n : Lengths) (f : List ℕ) (ok : Sound s n f) (w : World) (st : Start n w) where
  abbrev F : File
  F = file_of n f

  whole : ValidFile s w F
  whole = valid s n f ok w st

  here : (k : ℕ) → k < total_in f → at s n f ok k < pieces_in f
  here k h = (found_at s n f ok w st k h).0

  module _ (flat : kind_in n f ≡ Flash) where
    L : Located s w F
    L = located s w F st.idle whole flat

    storage_is : (k : ℕ) → storage_of s w F k ≡ L.start + (field_in f (at s n f ok k) 12 - 0x10000000)
    storage_is k =
        (λ i. origin_of s w (flat i) (family_in f) + (address_of F k - window_start (flat i)))
        ∙ ap (λ (x : ℕ). x + (address_of F k - 0x10000000)) (ap start_of L.place)

    region_is : (i : ℕ) → region_start s w F i ≡ L.start + (field_in f (at s n f ok i) 484 - 0x10000000)
    region_is i = ap (λ (x : ℕ). x + (field_at (F.block i) 484 - 0x10000000)) (ap start_of L.place)

    low : (k : ℕ) → k < total_in f → is_page f (at s n f ok k) ≡ true → 0x10000000 ≤ field_in f (at s n f ok k) 12
    low k h y = (lies_true Flash (address_of F k) (subst (λ (u : Kind). lies u (address_of F k) ≡ true) flat (whole.kinds k h y))).0

    aligned : (k : ℕ) → k < total_in f → is_page f (at s n f ok k) ≡ true → storage_of s w F k % 256 ≡ 0
    aligned k h y = ((valid-blocks s w F st.idle whole).fits k h y).aligned flat

    module _ (i : ℕ) (hi : i < total_in f) (gd : is_guarded s w F i ≡ true) (R : RightRegion f (at s n f ok i)) where
      abbrev a : List ℕ
      a = piece_at f (at s n f ok i)

      abbrev g : Region
      g = region_of a

      -- the conditions of the region, by fields
      record Facts : Type 0 where
        starts : field_at a 484 % 4096 ≡ 0
        ends : field_at a 488 % 4096 ≡ 0
        window : 0x10000000 ≤ field_at a 484

      facts : Facts
      unfolding region_of
      facts =
          let x = same_kind (kind_in n f) Flash && is_data F i && has_flag a 0x4000 in
          let c = good_true L.size (field_at a 12) (region_of a)
          (ap (λ (p : Option Place). good_region (size_of p) (field_at a 12) (region_of a)) (sym L.place) ∙ and_right x (good_region (size_of (place_of s (flash_of w) (family_in f))) (field_at a 12) (region_of a)) gd) in
          record { starts = c.starts; ends = c.ends; window = c.window }

      -- in the region by its storage address, and by its address
      in-of : (k : ℕ) → k < total_in f → is_page f (at s n f ok k) ≡ true → in_region s w F i (storage_of s w F k) ≡ true → InRegion f (at s n f ok i) (at s n f ok k)
      in-of k h y e =
          let lo = region_start s w F i in
          let x = storage_of s w F k in
          let p : lo ≤ x = leb-true _ _ (and_left (leb lo x) (ltb x (lo + region_length F i)) e) in
          let q : x < lo + region_length F i = ltb-true _ _ (and_right (leb lo x) (ltb x (lo + region_length F i)) e) in
          let u = low k h y in
          let v = facts.window in
          record {
            page = y;
            from = omega (arith, p, region_is i, storage_is k, u, v);
            to = omega (arith, q, region_is i, storage_is k, u, v);
          }

      same : (k : ℕ) → k < total_in f → is_data F k ≡ true → in_region s w F i (storage_of s w F k) ≡ true
          → (has_flag (F.block k) 0x4000 ≡ true) × (field_at (F.block k) 484 ≡ field_at (F.block i) 484) × (field_at (F.block k) 488 ≡ field_at (F.block i) 488)
      same k h y e =
          let c = R.same (at s n f ok k) (here k h) (in-of k h y e) in
          (c.flag, c.start, c.len)

      -- a piece in sector d of the region is a block in sector q of the flash
      reach : (q d k : ℕ) → k < pieces_in f → InRegion f (at s n f ok i) k → sector_of f (at s n f ok i) k ≡ d → region_start s w F i % 4096 ≡ 0
          → q ≡ d + region_start s w F i / 4096 → any (total_in f) (λ k. lies_in s w F k q) ≡ true
      reach q d k h r e m x =
          let num = field_in f k 20 in
          let back : at s n f ok num ≡ k = at_of s n f ok k h in
          let z : field_in f (at s n f ok num) 12 ≡ field_in f k 12 = ap (λ (x : ℕ). field_in f x 12) back in
          let v : storage_of s w F num / 4096 ≡ q = omega (arith, storage_is num, z, region_is i, facts.window, r.from, e, m, x) in
          any_hit (λ k. lies_in s w F k q) (total_in f) num (number_below s n f ok w st k h)
          (both {a = is_page f (at s n f ok num)} {b = eqb q (storage_of s w F num / 4096)} (ap (is_page f) back ∙ r.page) (eq-eqb q (storage_of s w F num / 4096) (sym v)))

      every : (q : ℕ) → in_region s w F i (q * 4096) ≡ true → any (total_in f) (λ k. lies_in s w F k q) ≡ true
      every q e =
          let lo = region_start s w F i in
          let len = region_length F i in
          let p : lo ≤ q * 4096 = leb-true _ _ (and_left (leb lo (q * 4096)) (ltb (q * 4096) (lo + len)) e) in
          let r : q * 4096 < lo + len = ltb-true _ _ (and_right (leb lo (q * 4096)) (ltb (q * 4096) (lo + len)) e) in
          let fa = facts in
          let d : ℕ = q - lo / 4096 in
          let m : lo % 4096 ≡ 0 = omega (arith, region_is i, L.first, fa.starts, fa.window) in
          let b : d < field_at a 488 / 4096 = omega (arith, p, r, m, fa.ends) in
          let t = R.every d b in
          reach q d t.0 t.1 t.2 t.3 m (omega (arith, p, m))

      -- ---- the final bytes

      span : (k : ℕ) → k < total_in f → is_page f (at s n f ok k) ≡ true → in_region s w F i (storage_of s w F k) ≡ true
          → (inside_of g (piece_at f (at s n f ok k)) ≡ true) × (spot f g (at s n f ok k) ≡ storage_of s w F k - region_start s w F i) × (storage_of s w F k + 256 ≤ region_start s w F i + region_length F i)
      unfolding region_of
      span k h y e =
          let r = in-of k h y e in
          let fa = facts in (
            inside_yes f (at s n f ok i) (at s n f ok k) r,
            omega (arith, region_is i, storage_is k, low k h y, fa.window, r.from),
            omega (arith, region_is i, storage_is k, low k h y, fa.window, fa.starts, fa.ends, L.first, r.from, r.to, aligned k h y),
          )

      -- the block of a piece in the region, and where it stands
      stands : (m : ℕ) → m < pieces_in f → inside_of g (piece_at f m) ≡ true
          → (is_page f m ≡ true) × (field_at a 484 ≤ field_in f m 12) × (storage_of s w F (field_in f m 20) ≡ region_start s w F i + spot f g m)
      unfolding region_of
      stands m h y =
          let r = inside_true f (at s n f ok i) m y in
          let num = field_in f m 20 in
          let z : field_in f (at s n f ok num) 12 ≡ field_in f m 12 = ap (λ (x : ℕ). field_in f x 12) (at_of s n f ok m h) in
          (r.page, r.from, omega (arith, storage_is num, z, region_is i, facts.window, r.from))

      -- two pieces in the region that hold one byte are one
      one : (m k j : ℕ) → m < pieces_in f → k < pieces_in f → inside_of g (piece_at f m) ≡ true → inside_of g (piece_at f k) ≡ true → spans (spot f g m) j ≡ true → spans (spot f g k) j ≡ true → m ≡ k
      unfolding region_of
      one m k j hm hk ym yk pm pk =
          let sm = stands m hm ym in
          let sk = stands k hk yk in
          let bm = at_of s n f ok m hm in
          let bk = at_of s n f ok k hk in
          let x : ℕ = field_at a 484 + j in
          let um = spans_true (spot f g m) j pm in
          let uk = spans_true (spot f g k) j pk in
          let zm : field_in f (at s n f ok (field_in f m 20)) 12 ≡ field_in f m 12 = ap (λ (x : ℕ). field_in f x 12) bm in
          let zk : field_in f (at s n f ok (field_in f k 20)) 12 ≡ field_in f k 12 = ap (λ (x : ℕ). field_in f x 12) bk in
          let e = whole.disjoint (field_in f m 20) (field_in f k 20) x (number_below s n f ok w st m hm) (number_below s n f ok w st k hk)
          (ap (is_page f) bm ∙ sm.0) (ap (is_page f) bk ∙ sk.0)
          (spans_is _ x (omega (arith, zm, um, sm.1)) (omega (arith, zm, um, sm.1)))
          (spans_is _ x (omega (arith, zk, uk, sk.1)) (omega (arith, zk, uk, sk.1))) in
          sym bm ∙ ap (at s n f ok) e ∙ bk

      final_is : (c : List ℕ) → Final s w F i c → c ≡ final_of f g
      final_is c C = ext_get_or 0 c (final_of f g) (C.whole ∙ sym (length_final f g ∙ length_is f (at s n f ok i))) byte
        where
          lo : ℕ
          lo = region_start s w F i

          -- no piece holds a byte that no block holds
          free : (j : ℕ) → any (total_in f) (λ k. holds s w F k (lo + j)) ≡ false → (k : ℕ) → k < pieces_in f → inside_of g (piece_at f k) ≡ true → spans (spot f g k) j ≡ false
          free j z k h y =
              is_false _
              (λ p.
              let t = stands k h y in
              let num = field_in f k 20 in
              let u = spans_true (spot f g k) j p in
              clash (holds s w F num (lo + j))
              (both {a = is_page f (at s n f ok num)} {b = spans (storage_of s w F num) (lo + j)} (ap (is_page f) (at_of s n f ok k h) ∙ t.0)
              (spans_is (storage_of s w F num) (lo + j) (omega (arith, u, t.2)) (omega (arith, u, t.2))))
              (any_all (λ k. holds s w F k (lo + j)) (total_in f) z num (number_below s n f ok w st k h)))

          -- a byte that block k holds
          owned : (j : ℕ) → j < region_length F i → (k : ℕ) → k < total_in f → holds s w F k (lo + j) ≡ true → get_or c j 0 ≡ get_or (final_of f g) j 0
          owned j m k h e =
              let y = and_left (is_page f (at s n f ok k)) (spans (storage_of s w F k) (lo + j)) e in
              let x = storage_of s w F k in
              let u = spans_true x (lo + j) (and_right (is_page f (at s n f ok k)) (spans x (lo + j)) e) in
              let fa = facts in
              let v : lo % 4096 ≡ 0 = omega (arith, region_is i, L.first, fa.starts, fa.window) in
              let al = aligned k h y in
              let p : lo ≤ x = omega (arith, u, v, al) in
              let q : x < lo + region_length F i = omega (arith, u, m) in
              let b = both {a = leb lo x} {b = ltb x (lo + region_length F i)} (le-leb lo x p) (lt-ltb x (lo + region_length F i) q) in
              let r = span k h y b in
              let d : ℕ = lo + j - x in
              let dj : x - lo + d ≡ j = omega (arith, u, p) in
              let ds : j - spot f g (at s n f ok k) ≡ d = omega (arith, r.1, u, p) in
              let near : spans (spot f g (at s n f ok k)) j ≡ true = spans_is _ j (omega (arith, r.1, u, p)) (omega (arith, r.1, u, p)) in
              ap (λ (x : ℕ). get_or c x 0) (sym dj)
              ∙ C.payloads k h y b d (omega (arith, u))
              ∙ ap (λ (x : ℕ). get_or (payload_of (piece_at f (at s n f ok k))) x 0) (sym ds)
              ∙ sym
              (final_owned f g (at s n f ok k) j (here k h) r.0 near (length_payload (piece_at f (at s n f ok k)) (omega (arith, piece_size f (at s n f ok k) (here k h))))
              (omega (arith, r.1, r.2, p, length_is f (at s n f ok i)))
              (λ o ho ne yo. is_false _ (λ po. ne (one o (at s n f ok k) j ho (here k h) yo r.0 po near))))

          byte : (j : ℕ) → j < length c → get_or c j 0 ≡ get_or (final_of f g) j 0
          byte j l =
              let m : j < region_length F i = omega (arith, l, C.whole) in
              split (any (total_in f) (λ k. holds s w F k (lo + j)))
              (λ y. let q = any_found (λ k. holds s w F k (lo + j)) (total_in f) y in owned j m q.0 q.1 q.2)
              (λ z. C.erased j m z ∙ sym (final_free f g j (omega (arith, m, length_is f (at s n f ok i))) (free j z)))

      right : (c : List ℕ) → Final s w F i c → md5_of c ≡ digest_in a
      right c C = ap md5_of (final_is c C) ∙ R.digest

-- ---- the claims

module _ (s : Settings) (n : Lengths) (f : List ℕ) (e : answer_on s n f ≡ Named (Ok tt)) where
  told : Told s n 16384 16384 2080 n.flash f (Named (Ok tt))
  told =
      let k : Told s n 16384 16384 2080 n.flash f (answer_on s n f) = unfold RegionsAnswersAreTrue in regions_answers_are_true s n 16384 16384 2080 n.flash f in
      subst (Told s n 16384 16384 2080 n.flash f) e k

  ok : Sound s n f
  ok = sound s n f (guarded_sound (answer_to s n f) told.0)

  regions : (w : World) → Start n w → Regions s w (file_of n f)
  regions w st =
      record {
        same = λ i k hi hk gd y r. same s n f ok w st (flat i gd) i hi gd (right-at i hi gd) k hk y r;
        every = λ i q hi gd r. every s n f ok w st (flat i gd) i hi gd (right-at i hi gd) q r;
        right = λ i hi gd c C. right s n f ok w st (flat i gd) i hi gd (right-at i hi gd) c C;
      }
    where
      kind_at : (i : ℕ) → is_guarded s w (file_of n f) i ≡ true → same_kind (kind_in n f) Flash ≡ true
      kind_at i gd =
          let x = piece_at f (at s n f ok i) in
          let u = same_kind (kind_in n f) Flash in
          let v = is_data (file_of n f) i in
          let t = has_flag x 0x4000 in
          and_left u v (and_left (u && v) t (and_left (u && v && t) (good_region (size_of (place_of s (flash_of w) (family_in f))) (field_at x 12) (region_of x)) gd))

      flat : (i : ℕ) → is_guarded s w (file_of n f) i ≡ true → kind_in n f ≡ Flash
      flat i gd = kind_same _ _ (kind_at i gd)

      right-at : (i : ℕ) → i < total_in f → is_guarded s w (file_of n f) i ≡ true → RightRegion f (at s n f ok i)
      right-at i hi gd =
          let x = piece_at f (at s n f ok i) in
          let place = (L s n f ok w st (flat i gd)).place in
          let len : length w.held.flash ≡ n.flash = ap (λ (x : Lengths). x.flash) st.lengths in
          let b : Bool = same_kind (kind_in n f) Flash && is_data (file_of n f) i && has_flag x 0x4000 in
          told.1 (at s n f ok i) (here s n f ok w st i hi)
          (ap (λ (m : ℕ). b && guards_in (place_of s m (family_in f)) x) (sym len)
          ∙ (λ t. b && guards_in (place t) x)
          ∙ sym (λ t. b && good_region (size_of (place t)) (field_at x 12) (region_of x))
          ∙ gd)

pub right_is_right : RightIsRight
unfolding RightIsRight
right_is_right s n f e =
    (record { pieces = pieces s n f (ok s n f e) (empty n) (empty_start n); valid = λ w st. valid s n f (ok s n f e) w st }, λ w st. regions s n f e w st)

ends_of : (s : Settings) (w : World) (F : File) → w.transfer ≡ Idle → ValidFile s w F → Regions s w F → (l : List (List ℕ)) → Complete s w F l
    → Contents s w F (seen_of F l) (receive_all s w l)
ends_of s w F idle ok R l C = unfold RegionsEnd in regions_end s w F idle ok R l C

pub right_arrives : RightArrives
unfolding RightArrives
right_arrives s w f l idle seen sectors e sent each met =
    let n = lengths_of w.held in
    let st : Start n w = record { idle = idle; lengths = refl; seen = seen; sectors = sectors } in
    let o = ok s n f e in
    let all : (k : ℕ) → k < total_in f → seen_of (file_of n f) l k ≡ true = λ k h. both (lt-ltb k (total_in f) h) (each (at s n f o k) (found_at s n f o w st k h).0) in
    let C : Complete s w (file_of n f) l = record { sent = sent; met = met; whole = size_all (total_in f) (seen_of (file_of n f) l) all } in
    ends_of s w (file_of n f) idle (valid s n f o w st) (regions s n f e w st) l C
