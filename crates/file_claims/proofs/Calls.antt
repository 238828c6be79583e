-- The claims of specs/Calls.antt. Assumes nothing.
use mathlib.Core.Path.{◌≡◌, refl, sym, ap, ◌∙◌}
use mathlib.Core.Bool.{Bool, true, false, cond, not, ◌&&◌}
use mathlib.Core.Logic.{inl, inr}
use mathlib.Core.List.{List}
use Prim.Native.Nat.{ℕ, zero, suc, ◌+◌, ◌-◌, ◌*◌, ◌/◌, ◌%◌, ◌<◌, ◌≤◌}
use native.Mathlib.Omega.{arith}
use lib.ListN.{length, get_or, drop, length-drop}
use lib.Seq.{length-take-le, get_or-take, get_or-drop}
use lib.Dec.{ltb, leb, eqb}
use denote.Ref.{Bor}
use borrow.Author.Tests.{eqb-true, eqb-false}
use Rattle.std.specs.Prelude.{Err}
use Rattle.laws.proofs.Tests.{split, or_right}
use Rattle.uf2_block.specs.Block.{field_at, has_flag, flagged_of, is_block, header_of}
use Rattle.uf2_block.specs.declared.HeaderError.TheVariants.{NotBlock as no_Header}
use Rattle.uf2_block.proofs.Laws.{header_is_block, flagged_other}
use Rattle.uf2_tags.specs.declared.one_tag.Tag.{Tag}
use Rattle.std.specs.Prelude.{Ok, None, Err}
use Rattle.uf2_tags.specs.declared.one_tag.TagError.TheVariants.{BadLength, BadPlace, NotBlock, BadPayload, ShortTag, TypedEnd, PastRoom, NoRoom}
use Rattle.uf2_tags.specs.Tag.{Answer, tag_of, contents_of, sized, answer_number, is_tag}
use Rattle.uf2_tags.proofs.one_tag.Laws.{the_tag}
use Rattle.uf2_tags.specs.Room.{first_place, kind_at, room_end, bad_payload, bad_place, tag_at}
use Rattle.uf2_tags.proofs.room.Laws.{tag_here, room_end_lem, at_other, not_false}
use Rattle.uf2_tags.specs.Reader.{next_place, started}
use Rattle.uf2_tags.specs.Search.{stops, seek, find_of}
use Rattle.uf2_tags.proofs.Search.{stays, moves, going_on}
use Rattle.file_claims.specs.Calls.{answer_of, after, Repeats, TagLies, Never3, EndsBy, FourIsRow4, Other, Stopping, FindFirst}
use Rattle.file_claims.proofs.Places.{place_in, reader, after_place, place_stays, place_far, tag_room, place_fine}

-- the answer after n calls, by the place
answer_in : (n : ℕ) (b : Bor (List ℕ)) (at : ℕ) → answer_of (after n (reader b at)) ≡ tag_at b.now (place_in n b.now at)
answer_in n b at = ap answer_of (after_place n b at)

pub repeats : Repeats
repeats r n e =
    let same : after n r ≡ r = after_place n r.block r.at ∙ ap (reader r.block) (place_stays n r.block.now r.at e) in
    (same, ap answer_of same)

pub ends_by : EndsBy
unfolding first_place
ends_by b n h =
    let at = place_in n b.now (first_place b.now) in
    split (is_tag (tag_at b.now at))
    (λ y. absurd (omega (arith, place_far n b.now (first_place b.now) y, tag_room b.now at y)))
    (λ f. ap is_tag (answer_in n b (first_place b.now)) ∙ f)

-- ---- where a tag lies

pub tag_lies : TagLies
unfolding first_place kind_at tag_of contents_of room_end
tag_lies r t e =
    let b = r.block.now in
    let at = r.at in
    let h = tag_here b at t e in
    let size = get_or b at 0 in
    let k : kind_at b at ≡ t.kind = ap (λ (x : Tag). x.kind) h.tag in
    let s : at + 4 ≡ t.start = ap (λ (x : Tag). x.start) h.tag in
    let l : size - 4 ≡ t.len = ap (λ (x : Tag). x.len) h.tag in
    let n : at + (size + 3) / 4 * 4 ≡ t.next = ap (λ (x : Tag). x.next) h.tag in
    let m : length (drop t.start b) ≡ length b - t.start = length-drop t.start b in
    record {
      from = h.after;
      step = h.even;
      size = omega (arith, l, h.size);
      kind = sym k;
      start = sym s;
      bytes = (length-take-le t.len (drop t.start b) (omega (arith, m, s, l, h.size, h.fits, (room_end_lem b).high, h.carries.whole)), inside b at t s);
      room = omega (arith, s, l, h.size, h.fits, (room_end_lem b).high);
      short = λ y. omega (arith, s, l, h.size, h.fits, md5-end b y);
      next = (omega (arith, s, l, n, h.size), omega (arith, s, l, n, h.size), omega (arith, n, h.even));
    }
  where
    md5-end : (b : List ℕ) → has_flag b 0x4000 ≡ true → room_end b ≡ 484
    md5-end b y = rw y

    inside : (b : List ℕ) (at : ℕ) (t : Tag) → at + 4 ≡ t.start → (j : ℕ) → j < t.len → get_or (contents_of b t) j 0 ≡ get_or b (at + 4 + j) 0
    inside b at t s j h = get_or-take t.len (drop t.start b) j 0 h ∙ (get_or-drop t.start b j 0 ∙ ap (λ (i : ℕ). get_or b (i + j) 0) (sym s))

-- ---- 3 and 4

-- a check that did not give an answer's number
past : (c : Bool) (a x : Answer) (n : ℕ) → (answer_number a ≡ n → ⊥) → answer_number (cond c a x) ≡ n → (c ≡ false) × (answer_number x ≡ n)
past true a x n h e = absurd (h e)
past false a x n h e = (refl, e)

-- at a tag, in the room, no answer has a number from 1 to 59
sized_number : (size kind at end n : ℕ) → 0 < n → n < 60 → answer_number (sized size kind at end) ≡ n → ⊥
unfolding sized
sized_number size kind at end n low high e =
    let p1 = past (eqb size 0 && eqb kind 0) (Ok None) _ n (λ x. omega arith) e in
    let p2 = past (leb 1 size && leb size 3) (Err ShortTag) _ n (λ x. omega arith) p1.1 in
    let p3 = past (eqb size 0) (Err TypedEnd) _ n (λ x. omega arith) p2.1 in
    let p4 = past (ltb end (at + size)) (Err PastRoom) _ n (λ x. omega arith) p3.1 in
    let zero_is : 0 ≡ n = p4.1 in
    omega arith

-- a place that a fresh reader may come to
record Fine (b : List ℕ) (at : ℕ) : Type 0 where
  from : first_place b ≤ at
  step : at % 4 ≡ first_place b % 4

fine_next : (b : List ℕ) (at : ℕ) → Fine b at → Fine b (next_place at (tag_at b at))
unfolding first_place
fine_next b at f =
    split (is_tag (tag_at b at))
    (λ y.
    let t = the_tag (tag_at b at) y in
    let h = tag_here b at t.tag t.same in
    let m = moves b at y in
    record { from = omega (arith, f.from, m.up); step = omega (arith, m.even, h.carries.even) })
    (λ n. rw (stays at (tag_at b at) n) f)

fine_in : (n : ℕ) (b : List ℕ) (at : ℕ) → Fine b at → Fine b (place_in n b at)
unfolding place_in
fine_in zero b at f = f
fine_in (suc n) b at f = fine_in n b (next_place at (tag_at b at)) (fine_next b at f)

fine_no_3 : (b : List ℕ) (at : ℕ) → Fine b at → answer_number (tag_at b at) ≡ 3 → ⊥
unfolding tag_at bad_payload first_place
fine_no_3 b at f e =
    let size = field_at b 16 in
    let p1 = past (not (eqb (length b) 512)) (Err BadLength) _ 3 (λ x. omega arith) e in
    let p2 = past (not (is_block b)) (Err NotBlock) _ 3 (λ x. omega arith) p1.1 in
    let p3 = past (not (has_flag b 0x8000)) (Ok None) _ 3 (λ x. omega arith) p2.1 in
    let p4 = past (bad_payload size) (Err BadPayload) _ 3 (λ x. omega arith) p3.1 in
    let even : size % 4 ≡ 0 = eqb-true (size % 4) 0 (not_false _ (or_right (ltb 476 size) (not (eqb (size % 4) 0)) p4.0)) in
    let here : bad_place (first_place b) at ≡ false = place_fine (first_place b) at f.from (omega (arith, f.step)) in
    let rest : answer_number (cond (ltb (room_end b) (at + 4)) (Err NoRoom) (sized (get_or b at 0) (kind_at b at) at (room_end b))) ≡ 3 = rw here at p4.1 in
    let p6 = past (ltb (room_end b) (at + 4)) (Err NoRoom) _ 3 (λ x. omega arith) rest in
    sized_number (get_or b at 0) (kind_at b at) at (room_end b) 3 (omega arith) (omega arith) p6.1

pub never_3 : Never3
never_3 b n e =
    let from = first_place b.now in
    fine_no_3 b.now (place_in n b.now from) (fine_in n b.now from (record { from = omega arith; step = refl })) (ap answer_number (sym (answer_in n b from) ∙ e))

block_no_4 : (b : List ℕ) (at : ℕ) → is_block b ≡ true → answer_number (tag_at b at) ≡ 4 → ⊥
unfolding tag_at
block_no_4 b at y e =
    let p1 = past (not (eqb (length b) 512)) (Err BadLength) _ 4 (λ x. omega arith) e in
    let p2 : answer_number (cond (not (has_flag b 0x8000)) (Ok None) (cond (bad_payload (field_at b 16)) (Err BadPayload) (cond (bad_place (first_place b) at) (Err BadPlace) (cond (ltb (room_end b) (at + 4)) (Err NoRoom) (sized (get_or b at 0) (kind_at b at) at (room_end b)))))) ≡ 4 = rw y at p1.1 in
    let p3 = past (not (has_flag b 0x8000)) (Ok None) _ 4 (λ x. omega arith) p2 in
    let p4 = past (bad_payload (field_at b 16)) (Err BadPayload) _ 4 (λ x. omega arith) p3.1 in
    let p5 = past (bad_place (first_place b) at) (Err BadPlace) _ 4 (λ x. omega arith) p4.1 in
    let p6 = past (ltb (room_end b) (at + 4)) (Err NoRoom) _ 4 (λ x. omega arith) p5.1 in
    sized_number (get_or b at 0) (kind_at b at) at (room_end b) 4 (omega arith) (omega arith) p6.1

pub four_is_row_4 : FourIsRow4
four_is_row_4 b at h = (told, tells)
  where
    by-block : {v : Bool} → is_block b ≡ v → header_of b ≡ cond v (flagged_of b) (Err no_Header)
    by-block e = header_is_block b ∙ ap (λ (x : Bool). cond x (flagged_of b) (Err no_Header)) e

    told : tag_at b at ≡ Err NotBlock → header_of b ≡ Err no_Header
    told e = split (is_block b) (λ y. absurd (block_no_4 b at y (ap answer_number e))) (λ n. by-block n)

    tells : header_of b ≡ Err no_Header → tag_at b at ≡ Err NotBlock
    tells e = split (is_block b) (λ y. absurd (flagged_other b (sym (by-block y) ∙ e))) (λ n. sym (at_other b at h n))

-- ---- the search

-- the search from a place on: the first call at which it stops
record FirstFrom (b : List ℕ) (kind at : ℕ) (a : Answer) : Type 0 where
  calls : ℕ
  same : a ≡ tag_at b (place_in calls b at)
  stop : stops kind (tag_at b (place_in calls b at)) ≡ true
  others : (j : ℕ) → j < calls → stops kind (tag_at b (place_in j b at)) ≡ false

module _ (b : List ℕ) (kind : ℕ) where
  here : (at : ℕ) (a : Answer) → a ≡ tag_at b at → stops kind (tag_at b at) ≡ true → FirstFrom b kind at a
  unfolding place_in
  here at a e y = record { calls = 0; same = e; stop = y; others = λ j h. absurd (omega arith) }

  later : (at : ℕ) (a : Answer) → stops kind (tag_at b at) ≡ false → FirstFrom b kind (next_place at (tag_at b at)) a → FirstFrom b kind at a
  unfolding place_in
  later at a n f = record { calls = suc f.calls; same = f.same; stop = f.stop; others = before }
    where
      before : (j : ℕ) → j < suc f.calls → stops kind (tag_at b (place_in j b at)) ≡ false
      before zero h = n
      before (suc j) h = f.others j (omega arith)

  seek_first : (n at : ℕ) → 508 ≤ at + 4 * n → FirstFrom b kind at (seek n b kind at)
  unfolding seek
  seek_first zero at h =
      split (stops kind (tag_at b at))
      (λ y. here at (tag_at b at) refl y)
      (λ n. absurd (omega (arith, tag_room b at (going_on kind (tag_at b at) n))))
  seek_first (suc n) at h =
      let next = next_place at (tag_at b at) in
      split (stops kind (tag_at b at))
      (λ y. here at _ (ap (λ (x : Bool). cond x (tag_at b at) (seek n b kind next)) y) y)
      (λ f.
      let m = moves b at (going_on kind (tag_at b at) f) in
      let goes : cond (stops kind (tag_at b at)) (tag_at b at) (seek n b kind next) ≡ seek n b kind next = ap (λ (x : Bool). cond x (tag_at b at) (seek n b kind next)) f in
      rw goes (later at (seek n b kind next) f (seek_first n next (omega (arith, m.up)))))

stopped : (kind : ℕ) (a : Answer) → stops kind a ≡ true → Stopping kind a
stopped kind a y =
    split (is_tag a)
    (λ t.
    let x = the_tag a t in
    inr (x.tag, x.same, eqb-true x.tag.kind kind (ap (stops kind) (sym x.same) ∙ y)))
    (λ n. inl n)

pub find_first : FindFirst
unfolding find_of first_place
find_first b kind =
    let from = first_place b.now in
    let f = seek_first b.now kind 119 from (omega arith) in
    record {
      calls = f.calls;
      same = f.same ∙ sym (answer_in f.calls b from);
      stopping = stopped kind _ (ap (stops kind) f.same ∙ f.stop);
      others = λ j h. other j (f.others j h);
    }
  where
    other : (j : ℕ) → stops kind (tag_at b.now (place_in j b.now (first_place b.now))) ≡ false → Other kind (answer_of (after j (started b)))
    other j n =
        let a = tag_at b.now (place_in j b.now (first_place b.now)) in
        let x = the_tag a (going_on kind a n) in
        record {
          tag = x.tag;
          same = answer_in j b (first_place b.now) ∙ x.same;
          kinds = eqb-false x.tag.kind kind (ap (stops kind) (sym x.same) ∙ n);
        }
