-- A file that is made is a valid one, and delivered in any order it stands in flash: demand 3 says so. Assumes nothing.
use Prim.Native.Nat.{ℕ, zero, suc, ◌+◌, ◌-◌, ◌*◌, ◌/◌, ◌%◌, ◌<◌, ◌≤◌, ◌^◌}
use mathlib.Core.Path.{◌≡◌, refl, sym, ap, ◌∙◌}
use mathlib.Core.Bool.{Bool, true, false, cond, ◌&&◌, ◌||◌}
use mathlib.Core.List.{List, [], ◌∷◌, ◌++◌, map}
use native.Mathlib.Omega.{arith}
use lib.Dec.{eqb, ltb, leb}
use lib.ListN.{length, get_or, take, drop, length-drop}
use lib.Seq.{get_or-take, get_or-drop, ext_get_or, length-take-le, take-take, take_at}
use borrow.Author.Tests.{leb-true, ltb-true, le-leb, lt-ltb, eqb-true}
use Rattle.std.specs.Prelude.{Some}
use Rattle.laws.specs.Sets.{Set, size, one}
use Rattle.laws.proofs.Tests.{split, and_left, and_right, both, eqb_same}
use Rattle.memory.specs.Many.{many}
use Rattle.memory.specs.Flash.{payload_of, spans}
use Rattle.uf2_block.specs.Block.{field_at, has_flag}
use Rattle.partitions.specs.declared.Settings.{Settings}
use Rattle.placement.specs.Place.{place_of, place_from}
use Rattle.transfer.specs.Transfer.{good_state}
use Rattle.transfer.specs.declared.Kind.TheVariants.{Flash}
use Rattle.transfer.specs.declared.State.TheVariants.{Idle}
use Rattle.arrival.specs.Arrive.{World, lengths_of}
use Rattle.arrival.specs.Windows.{lies}
use Rattle.arrival.specs.Lists.{receive_all}
use Rattle.demand.specs.Demand.{File, ValidFile, Foreign, Sent, Mixed, nothing, own, is_data, address_of, answer_number, same_bytes, among, seen_of, start_of, origin_of, storage_of, Plain, Ends, ListEnds}
use Rattle.arrival_claims.proofs.Screening.{Board}
use Rattle.arrival_claims.proofs.DecisionFacts.{right_true}
use Rattle.demand.proofs.Demand.{list_ends}
use Rattle.uf2_make.specs.Uf2file.{page_of, make_of}
use Rattle.uf2_make.specs.Claims.{Reads}
use Rattle.uf2_make.proofs.checks.Checks.{Right, made_right}
use Rattle.uf2_make.proofs.ReadBack.{blocks_read_back}
use Rattle.file_claims.specs.Delivery.{made_file, IsMade, Deliverable, MadeFileIsValid, Arrived, Delivered, has_number, InAnyOrder}
use Rattle.file_claims.proofs.Made.{made_passes}

-- a set that holds every number below n
size_all : (n : ℕ) (S : Set) → ((k : ℕ) → k < n → S k ≡ true) → size n S ≡ n
unfolding size
size_all zero S h = refl
size_all (suc n) S h = rw (h n (omega arith)) (omega (arith, size_all n S (λ k l. h k (omega arith))))

spans_true : (at j : ℕ) → spans at j ≡ true → (at ≤ j) × (j < at + 256)
spans_true at j e = (leb-true at j (and_left (leb at j) (ltb j (at + 256)) e), ltb-true j (at + 256) (and_right (leb at j) (ltb j (at + 256)) e))

module _ (s : Settings) (w : World) (image out : List ℕ) (family start at bytes : ℕ) (made : IsMade image family start out)
    (D : Deliverable s w image family start at bytes) where
  abbrev n : ℕ
  n = length image / 256

  abbrev F : File
  F = made_file image family start out

  right : Right (length image) start (length out) n
  right = made_right (length image) start (length out) n (unfold make_of in made)

  reads : (k : ℕ) → k < n → Reads (F.block k) (start + 256 * k) k n family (page_of image k)
  reads k h = blocks_read_back image out family start n D.narrow made k h

  -- rows 1 to 3
  board : Board s w
  board =
      let r = right_true 512 (lengths_of w.held) (length w.seen) (length w.held.sectors) D.lengths in
      record {
        flash = r.flash;
        seen = r.seen;
        sectors = r.sectors;
        main = r.main;
        xip = r.xip;
        good = D.good;
        state = rw D.idle (unfold good_state in refl);
      }

  page_data : (k : ℕ) → k < n → is_data F k ≡ true
  page_data k h = rw (reads k h).flags

  passes : (k : ℕ) → k < n → 12 ≤ answer_number s w (F.block k)
  passes k h =
      let r = reads k h in
      let low = right.low in
      let top = right.window in
      let whole = right.whole in
      let room = D.fits in
      let a = r.address_back in
      let family-is : place_of s (length w.held.flash) (field_at (F.block k) 28) ≡ Some (place_from at bytes) = ap (place_of s (length w.held.flash)) r.family_back ∙ D.placed in
      made_passes s w (F.block k) at bytes board r.long family-is
      (record {
        magic = r.magic;
        flags = r.flags;
        payload = r.size_back;
        low = omega (arith, a, low);
        high = omega (arith, a, top, h);
        aligned = omega (arith, a, right.aligned);
        ends = omega (arith, a, low, room, whole, h);
        below = omega (arith, r.number_back, r.total_back, h);
        room = omega (arith, r.total_back, low, room, whole);
      })

  valid : ValidFile s w F
  valid =
      record {
        some = right.some;
        numbers = λ k h. (reads k h).number_back;
        families = λ k h. (reads k h).family_back;
        totals = λ k h. (reads k h).total_back;
        disjoint = λ i k j hi hk yi yk p q.
            let u = spans_true (address_of F i) j p in
            let v = spans_true (address_of F k) j q in
            omega (arith, u, v, (reads i hi).address_back, (reads k hk).address_back);
        kinds = λ k h y.
            let a = (reads k h).address_back in
            both (le-leb 0x10000000 (address_of F k) (omega (arith, a, right.low))) (lt-ltb (address_of F k) 0x12000000 (omega (arith, a, right.window, h)));
        quiet = λ z. absurd (z refl);
        passes = passes;
      }

  -- no block names a region: flag 0x2000 alone is set
  plain : Plain s w F
  plain k h = rw (reads k h).flags

  -- ---- by demand 3

  payload : (k : ℕ) → k < n → payload_of (F.block k) ≡ page_of image k
  unfolding payload_of
  payload k h =
      sym (take-take 256 476 (drop 32 (F.block k)) (omega arith))
      ∙ ap (take 256) (reads k h).page_back
      ∙ take_at (page_of image k) (many 220 0) 256 (page-length k h)
    where
      page-length : (k : ℕ) → k < n → length (page_of image k) ≡ 256
      page-length k h = length-take-le 256 (drop (256 * k) image) (omega (arith, length-drop (256 * k) image, right.whole, h))

  stands_at : (k : ℕ) → k < n → storage_of s w F k ≡ at + (start - 0x10000000) + 256 * k
  stands_at k h =
      let o : origin_of s w Flash family ≡ at = ap start_of D.placed in
      omega (arith, o, (reads k h).address_back, right.low)

  module _ (l : List (List ℕ)) (sent : Sent s w F l) (all : (k : ℕ) → k < n → seen_of F l k ≡ true) where
    ends : Ends s w F (seen_of F l) (receive_all s w l)
    ends = unfold ListEnds in list_ends s w F D.idle valid l sent plain

    abbrev flash : List ℕ
    flash = (receive_all s w l).held.flash

    -- byte j of the image, on page j / 256
    byte : (j : ℕ) → j < length image → get_or flash (at + (start - 0x10000000) + j) 0 ≡ get_or image j 0
    byte j h =
        let k = j / 256 in
        let i = j % 256 in
        let j-is : j ≡ 256 * k + i = omega arith in
        let hk : k < n = omega (arith, right.whole) in
        let hi : i < 256 = omega arith in
        let here : at + (start - 0x10000000) + j ≡ storage_of s w F k + i = omega (arith, stands_at k hk, j-is) in
        ap (λ x. get_or flash x 0) here
        ∙ ends.contents.payloads k hk (all k hk) (page_data k hk) i hi
        ∙ ap (λ p. get_or p i 0) (payload k hk)
        ∙ get_or-take 256 (drop (256 * k) image) i 0 hi
        ∙ get_or-drop (256 * k) image i 0
        ∙ ap (λ x. get_or image x 0) (sym j-is)

    -- the last page lies in the flash, and so does the image
    inside : at + (start - 0x10000000) + length image ≤ length flash
    inside =
        let k = n - 1 in
        let some = right.some in
        let hk : k < n = omega arith in
        let e : length flash ≡ length w.held.flash = ap (λ x. x.flash) ends.contents.lengths in
        omega (arith, e, stands_at k hk, ends.contents.inside k hk (page_data k hk), right.whole)

    arrived : Arrived (receive_all s w l) image at start F
    arrived =
        record {
          complete = ends.counts.whole (size_all n (seen_of F l) all);
          stored =
              let p = at + (start - 0x10000000) in
              let long : length (take (length image) (drop p flash)) ≡ length image = length-take-le (length image) (drop p flash) (omega (arith, length-drop p flash, inside)) in
              ext_get_or 0 (take (length image) (drop p flash)) image long
              (λ j h.
              let hj : j < length image = omega (arith, long, h) in
              get_or-take (length image) (drop p flash) j 0 hj ∙ get_or-drop p flash j 0 ∙ byte j hj);
        }

pub made_file_is_valid : MadeFileIsValid
unfolding MadeFileIsValid
made_file_is_valid s w image out family start at bytes made D = valid s w image out family start at bytes made D

pub delivered : Delivered
unfolding Delivered
delivered s w image out family start at bytes made D l sent all = arrived s w image out family start at bytes made D l sent all

-- ---- by numbers

same_self : (a : List ℕ) → same_bytes a a ≡ true
unfolding same_bytes
same_self [] = refl
same_self (x ∷ a) = both (eqb_same x) (same_self a)

sent_by : (s : Settings) (w : World) (F : File) (js : List ℕ) → ((k : ℕ) → has_number k js ≡ true → k < F.total) → Sent s w F (map F.block js)
unfolding has_number
sent_by s w F [] h = nothing
sent_by s w F (j ∷ js) h = own j (h j (rw (eqb_same j))) (sent_by s w F js (λ k e. h k (rw e (or-true (eqb k j)))))
  where
    or-true : (a : Bool) → a || true ≡ true
    or-true true = refl
    or-true false = refl

among_by : (F : File) (js : List ℕ) (k : ℕ) → has_number k js ≡ true → among (F.block k) (map F.block js) ≡ true
unfolding has_number among
among_by F [] k e = e
among_by F (j ∷ js) k e =
    split (eqb k j)
    (λ y. rw (eqb-true k j y, same_self (F.block j)))
    (λ z. let f : has_number k js ≡ true = rw z at e in rw (among_by F js k f) (or-true (same_bytes (F.block k) (F.block j))))
  where
    or-true : (a : Bool) → a || true ≡ true
    or-true true = refl
    or-true false = refl

pub in_any_order : InAnyOrder
unfolding InAnyOrder
in_any_order s w image out family start at bytes made D js below all =
    let G = made_file image family start out in
    arrived s w image out family start at bytes made D (map G.block js) (sent_by s w G js below)
    (λ k h. both (lt-ltb k G.total h) (among_by G js k (all k h)))
