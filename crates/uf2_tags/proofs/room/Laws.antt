-- Each case of what a call answers at a place, from the facts that lead to it, and what a tag says of its block. Assumes nothing.
use mathlib.Core.Path.{◌≡◌, refl, sym, ap, ◌∙◌}
use mathlib.Core.Bool.{Bool, true, false, not, ◌&&◌}
use mathlib.Core.List.{List}
use Prim.Native.Nat.{ℕ, ◌+◌, ◌*◌, ◌/◌, ◌%◌, ◌<◌, ◌≤◌}
use native.Mathlib.Omega.{arith}
use lib.ListN.{length, get_or}
use lib.Dec.{ltb, leb, eqb}
use borrow.Author.Tests.{lt-ltb, le-ltb, le-leb, eq-eqb, ne_eqb, eqb-true, eqb-false, ltb-false, leb-false}
use Rattle.laws.proofs.Tests.{or_left, or_right, split}
use Rattle.laws.specs.Bytes.{number_in}
use Rattle.uf2_block.specs.Block.{field_at, has_flag, is_block}
use Rattle.uf2_block.proofs.Laws.{field_in_lem}
use Rattle.uf2_tags.specs.declared.one_tag.Tag.{Tag}
use Rattle.std.specs.Prelude.{Ok, Some, None, Err}
use Rattle.uf2_tags.specs.declared.one_tag.TagError.TheVariants.{BadLength, BadPlace, NotBlock, BadPayload, ShortTag, TypedEnd, PastRoom, NoRoom}
use Rattle.uf2_tags.specs.Tag.{tag_of, sized}
use Rattle.uf2_tags.proofs.one_tag.Laws.{past, tag_same}
use Rattle.uf2_tags.specs.Room.{first_place, kind_at, room_end, bad_payload, bad_place, stands_at, tag_at}

pub not_true : (a : Bool) → not a ≡ true → a ≡ false
not_true true e = sym e
not_true false e = refl

pub not_false : (a : Bool) → not a ≡ false → a ≡ true
not_false true e = refl
not_false false e = sym e

-- ---- the parts of a call

number_three : (b : List ℕ) (at : ℕ) → number_in 3 b at ≡ get_or b at 0 + 256 * get_or b (at + 1) 0 + 65536 * get_or b (at + 2) 0
unfolding number_in
number_three b at =
    let two : at + 1 + 1 ≡ at + 2 = omega arith in
    rw two (omega arith)

-- by the weight of each byte
kind_three : (b : List ℕ) (at : ℕ) → kind_at b at ≡ get_or b (at + 1) 0 + 256 * get_or b (at + 2) 0 + 65536 * get_or b (at + 3) 0
unfolding kind_at
kind_three b at =
    let two : get_or b (at + 1 + 1) 0 ≡ get_or b (at + 2) 0 = ap (λ (i : ℕ). get_or b i 0) (omega arith) in
    let three : get_or b (at + 1 + 2) 0 ≡ get_or b (at + 3) 0 = ap (λ (i : ℕ). get_or b i 0) (omega arith) in
    omega (arith, number_three b (at + 1), two, three)

-- the four bytes of a tag's head as one field, as the code reads them
module _ (b : List ℕ) (at : ℕ) (h : at + 4 ≤ length b) (low : get_or b at 0 < 256) where
  pub head_size : field_at b at % 256 ≡ get_or b at 0
  head_size = omega (arith, field_in_lem b at h)

  pub head_kind : field_at b at / 256 ≡ kind_at b at
  head_kind = omega (arith, field_in_lem b at h, kind_three b at)

module _ (b : List ℕ) where
  pub room_md5 : has_flag b 0x4000 ≡ true → 484 ≡ room_end b
  unfolding room_end
  room_md5 h = rw h

  pub room_whole : has_flag b 0x4000 ≡ false → 508 ≡ room_end b
  unfolding room_end
  room_whole h = rw h

-- the room ends at 484 or at 508
pub record RoomEnd (b : List ℕ) : Type 0 where
  pub low : 484 ≤ room_end b
  pub high : room_end b ≤ 508
  pub even : room_end b % 4 ≡ 0

pub room_end_lem : (b : List ℕ) → RoomEnd b
unfolding room_end
room_end_lem b =
    split (has_flag b 0x4000)
    (λ y. record { low = rw y (omega arith); high = rw y (omega arith); even = rw y refl })
    (λ n. record { low = rw n (omega arith); high = rw n (omega arith); even = rw n refl })

-- ---- a call, by the check that decides

-- what a test answered, of the numbers that it was handed
pub payload_test : {n m : ℕ} {r v : Bool} → n ≡ m → r ≡ bad_payload n → r ≡ v → bad_payload m ≡ v
payload_test e h w = sym (h ∙ ap bad_payload e) ∙ w

pub place_test_lem : (at : ℕ) {n m : ℕ} {r v : Bool} → n ≡ m → r ≡ bad_place n at → r ≡ v → bad_place m at ≡ v
place_test_lem at e h w = sym (h ∙ ap (λ (k : ℕ). bad_place k at) e) ∙ w

module _ (b : List ℕ) (at : ℕ) where
  pub at_length : (length b ≡ 512 → ⊥) → Err BadLength ≡ tag_at b at
  unfolding tag_at
  at_length h = rw (ne_eqb (length b) 512 h) refl

  module _ (p : length b ≡ 512) where
    pub at_other : is_block b ≡ false → Err NotBlock ≡ tag_at b at
    unfolding tag_at
    at_other h = rw (eq-eqb (length b) 512 p, h) refl

    module _ (q : is_block b ≡ true) where
      pub at_clear : (field_at b 8 / 0x8000 % 2 ≡ 1 → ⊥) → Ok None ≡ tag_at b at
      unfolding tag_at
      at_clear h = rw (eq-eqb (length b) 512 p, q, ne_eqb (field_at b 8 / 0x8000 % 2) 1 h) refl

      module _ (f : field_at b 8 / 0x8000 % 2 ≡ 1) where
        pub at_payload : bad_payload (field_at b 16) ≡ true → Err BadPayload ≡ tag_at b at
        unfolding tag_at
        at_payload h = rw (eq-eqb (length b) 512 p, q, eq-eqb (field_at b 8 / 0x8000 % 2) 1 f, h) refl

        pub at_stands : bad_payload (field_at b 16) ≡ false → stands_at b at ≡ tag_at b at
        unfolding tag_at
        at_stands h = rw (eq-eqb (length b) 512 p, q, eq-eqb (field_at b 8 / 0x8000 % 2) 1 f, h) refl

-- by the check of the place that decides
module _ (b : List ℕ) (at : ℕ) where
  pub stands_place : bad_place (first_place b) at ≡ true → Err BadPlace ≡ stands_at b at
  stands_place h = rw h refl

  module _ (s : bad_place (first_place b) at ≡ false) where
    pub stands_none : room_end b < at + 4 → Err NoRoom ≡ stands_at b at
    stands_none h = rw (s, lt-ltb (room_end b) (at + 4) h) refl

    pub stands_tag : at + 4 ≤ room_end b → sized (get_or b at 0) (kind_at b at) at (room_end b) ≡ stands_at b at
    stands_tag h = rw (s, le-ltb (room_end b) (at + 4) h) refl

-- ---- what a tag says of its block

-- a block that may have tags
pub record Carries (b : List ℕ) : Type 0 where
  pub whole : length b ≡ 512
  pub magic : is_block b ≡ true
  pub flag : field_at b 8 / 0x8000 % 2 ≡ 1
  pub small : field_at b 16 ≤ 476
  pub even : field_at b 16 % 4 ≡ 0

-- a tag stands at a place
pub record TagHere (b : List ℕ) (at : ℕ) (t : Tag) : Type 0 where
  pub carries : Carries b
  pub after : first_place b ≤ at
  pub even : at % 4 ≡ 0
  pub room : at + 4 ≤ room_end b
  pub size : 4 ≤ get_or b at 0
  pub fits : at + get_or b at 0 ≤ room_end b
  pub tag : tag_of (get_or b at 0) (kind_at b at) at ≡ t

pub tag_here : (b : List ℕ) (at : ℕ) (t : Tag) → tag_at b at ≡ Ok (Some t) → TagHere b at t
unfolding tag_at sized bad_payload bad_place
tag_here b at t e =
    let size = get_or b at 0 in
    let kind = kind_at b at in
    let p1 = past (not (eqb (length b) 512)) (Err BadLength) _ t refl e in
    let p2 = past (not (is_block b)) (Err NotBlock) _ t refl p1.1 in
    let p3 = past (not (has_flag b 0x8000)) (Ok None) _ t refl p2.1 in
    let p4 = past (bad_payload (field_at b 16)) (Err BadPayload) _ t refl p3.1 in
    let p5 = past (bad_place (first_place b) at) (Err BadPlace) _ t refl p4.1 in
    let p6 = past (ltb (room_end b) (at + 4)) (Err NoRoom) _ t refl p5.1 in
    let q1 = past (eqb size 0 && eqb kind 0) (Ok None) _ t refl p6.1 in
    let q2 = past (leb 1 size && leb size 3) (Err ShortTag) _ t refl q1.1 in
    let q3 = past (eqb size 0) (Err TypedEnd) _ t refl q2.1 in
    let q4 = past (ltb (room_end b) (at + size)) (Err PastRoom) _ t refl q3.1 in
    record {
      carries =
          record {
            whole = eqb-true (length b) 512 (not_false _ p1.0);
            magic = not_false _ p2.0;
            flag = eqb-true (field_at b 8 / 0x8000 % 2) 1 (not_false _ p3.0);
            small = ltb-false 476 (field_at b 16) (or_left (ltb 476 (field_at b 16)) (not (eqb (field_at b 16 % 4) 0)) p4.0);
            even = eqb-true (field_at b 16 % 4) 0 (not_false _ (or_right (ltb 476 (field_at b 16)) (not (eqb (field_at b 16 % 4) 0)) p4.0));
          };
      after = ltb-false at (first_place b) (or_left (ltb at (first_place b)) (not (eqb (at % 4) 0)) p5.0);
      even = eqb-true (at % 4) 0 (not_false _ (or_right (ltb at (first_place b)) (not (eqb (at % 4) 0)) p5.0));
      room = ltb-false (room_end b) (at + 4) p6.0;
      size = some size (eqb-false size 0 q3.0) q2.0;
      fits = ltb-false (room_end b) (at + size) q4.0;
      tag = tag_same _ t q4.1;
    }
  where
    some : (n : ℕ) → (n ≡ 0 → ⊥) → leb 1 n && leb n 3 ≡ false → 4 ≤ n
    some n h e = omega (arith, leb-false n 3 (rw (le-leb 1 n (omega arith)) at e))
