-- Tags laid out as specs/Laid.antt says are read back. Assumes nothing.
use mathlib.Core.Path.{◌≡◌, refl, sym, ap, ◌∙◌, subst}
use mathlib.Core.List.{List, [], ◌∷◌, ◌++◌, append_assoc}
use Prim.Native.Nat.{ℕ, ◌+◌, ◌-◌, ◌/◌, ◌%◌, ◌<◌, ◌≤◌}
use native.Mathlib.Omega.{arith}
use lib.ListN.{length, get_or, take, drop, length-append}
use lib.Seq.{get_or-append_seam, drop-append_seam, take-append_seam}
use denote.Ref.{Bor}
use borrow.Author.Tests.{eqb-true}
use Rattle.laws.specs.Bytes.{low_first, number_in}
use Rattle.laws.proofs.BytesLaws.{number_back, length_low}
use Rattle.laws.proofs.Tests.{split}
use Rattle.uf2_block.specs.Block.{field_at, has_flag}
use Rattle.uf2_tags.specs.declared.one_tag.Tag.{Tag}
use Rattle.std.specs.Prelude.{Ok, Some, None}
use Rattle.uf2_tags.specs.Tag.{tag_of, contents_of, sized}
use Rattle.uf2_tags.proofs.one_tag.Laws.{sized_end, sized_tag}
use Rattle.uf2_tags.specs.Room.{first_place, kind_at, room_end, tag_at}
use Rattle.uf2_tags.proofs.room.Laws.{Carries, at_stands, stands_tag}
use Rattle.uf2_tags.specs.Reader.{next_place}
use Rattle.file_claims.specs.Laid.{Item, Proper, AllProper, item_bytes, laid, Reads, TagsReadBack}
use Rattle.file_claims.proofs.Places.{reader, payload_fine, place_fine}

-- ---- the parts of a tag that stands in a list

module _ (pre rest : List ℕ) (i : Item) where
  abbrev size : ℕ
  size = 4 + length i.bytes

  abbrev whole : List ℕ
  whole = pre ++ (item_bytes i ++ rest)

  length_item : length (item_bytes i) ≡ 4 + (length i.bytes + length i.fill)
  unfolding item_bytes
  length_item =
      let a = length-append (low_first 3 i.kind) (i.bytes ++ i.fill) in
      let c = length-append i.bytes i.fill in
      omega (arith, a, c, length_low 3 i.kind)

  size_in : get_or whole (length pre) 0 ≡ size
  unfolding item_bytes
  size_in = get_or-append_seam pre size ((low_first 3 i.kind ++ (i.bytes ++ i.fill)) ++ rest) 0

  kind_in_lem : i.kind < 16777216 → kind_at whole (length pre) ≡ i.kind
  unfolding item_bytes kind_at
  kind_in_lem h =
      let low = low_first 3 i.kind in
      let tail = (i.bytes ++ i.fill) ++ rest in
      let parts : whole ≡ (pre ++ (size ∷ [])) ++ (low ++ tail) = ap (λ (x : List ℕ). pre ++ (size ∷ x)) (append_assoc low (i.bytes ++ i.fill) rest) ∙ sym (append_assoc pre (size ∷ []) (low ++ tail)) in
      let place : length pre + 1 ≡ length (pre ++ (size ∷ [])) = sym (length-append pre (size ∷ [])) in
      rw (parts, place) (number_back 3 i.kind (pre ++ (size ∷ [])) tail h)

  contents_in : take (length i.bytes) (drop (length pre + 4) whole) ≡ i.bytes
  unfolding item_bytes
  contents_in =
      let low = low_first 3 i.kind in
      let tail = i.fill ++ rest in
      let parts : whole ≡ (pre ++ (size ∷ low)) ++ (i.bytes ++ tail) =
      ap (λ (x : List ℕ). pre ++ (size ∷ x)) (append_assoc low (i.bytes ++ i.fill) rest ∙ ap (λ (y : List ℕ). low ++ y) (append_assoc i.bytes i.fill rest)) ∙ sym (append_assoc pre (size ∷ low) (i.bytes ++ tail)) in
      let place : length pre + 4 ≡ length (pre ++ (size ∷ low)) = omega (arith, length-append pre (size ∷ low), length_low 3 i.kind) in
      rw (parts, place, drop-append_seam (pre ++ (size ∷ low)) (i.bytes ++ tail)) (take-append_seam i.bytes tail)

-- ---- one call

-- a place of a block at which a tag may stand
record Spot (b : List ℕ) (at : ℕ) : Type 0 where
  carries : Carries b
  from : first_place b ≤ at
  even : at % 4 ≡ 0

call : (b : List ℕ) (at : ℕ) → Spot b at → at + 4 ≤ room_end b → tag_at b at ≡ sized (get_or b at 0) (kind_at b at) at (room_end b)
call b at s h =
    let c = s.carries in
    sym (stands_tag b at (place_fine (first_place b) at s.from s.even) h ∙ at_stands b at c.whole c.magic c.flag (payload_fine (field_at b 16) c.small c.even))

module _ (b : List ℕ) (pre rest : List ℕ) (i : Item) (e : b ≡ pre ++ (item_bytes i ++ rest)) (p : Proper i) (s : Spot b (length pre)) (h : length pre + length (item_bytes i) ≤ room_end b) where
  abbrev tag : Tag
  tag = tag_of (4 + length i.bytes) i.kind (length pre)

  tag_answer : tag_at b (length pre) ≡ Ok (Some tag)
  tag_answer =
      let l = length_item pre rest i in
      let z : get_or b (length pre) 0 ≡ 4 + length i.bytes = ap (λ (x : List ℕ). get_or x (length pre) 0) e ∙ size_in pre rest i in
      let k : kind_at b (length pre) ≡ i.kind = ap (λ (x : List ℕ). kind_at x (length pre)) e ∙ kind_in_lem pre rest i p.kind_fits in
      call b (length pre) s (omega (arith, l)) ∙ (rw (z, k) (sym (sized_tag (4 + length i.bytes) i.kind (length pre) (room_end b) (λ x. omega arith) (omega arith) (omega (arith, l)))))

  tag_contents : contents_of b tag ≡ i.bytes
  unfolding contents_of tag_of
  tag_contents =
      let n : 4 + length i.bytes - 4 ≡ length i.bytes = omega arith in
      rw n (ap (λ (x : List ℕ). take (length i.bytes) (drop (length pre + 4) x)) e ∙ contents_in pre rest i)

  tag_next : next_place (length pre) (tag_at b (length pre)) ≡ length (pre ++ item_bytes i)
  unfolding tag_of
  tag_next =
      let n : tag.next ≡ length (pre ++ item_bytes i) = omega (arith, length-append pre (item_bytes i), length_item pre rest i, p.step, p.least) in
      ap (next_place (length pre)) tag_answer ∙ n

  next_spot : Spot b (length (pre ++ item_bytes i))
  next_spot =
      record {
        carries = s.carries;
        from = omega (arith, s.from, length-append pre (item_bytes i));
        even = omega (arith, s.even, length-append pre (item_bytes i), length_item pre rest i, p.step);
      }

-- four zeros
end_answer : (b : List ℕ) (pre rest : List ℕ) → b ≡ pre ++ (0 ∷ 0 ∷ 0 ∷ 0 ∷ rest) → Spot b (length pre) → length pre + 4 ≤ room_end b → tag_at b (length pre) ≡ Ok None
unfolding kind_at low_first
end_answer b pre rest e s h =
    let z : get_or b (length pre) 0 ≡ 0 = ap (λ (x : List ℕ). get_or x (length pre) 0) e ∙ get_or-append_seam pre 0 (0 ∷ 0 ∷ 0 ∷ rest) 0 in
    let k : kind_at b (length pre) ≡ 0 =
    ap (λ (x : List ℕ). kind_at x (length pre)) (e ∙ sym (append_assoc pre (0 ∷ []) (0 ∷ 0 ∷ 0 ∷ rest)))
    ∙ (ap (number_in 3 ((pre ++ (0 ∷ [])) ++ (0 ∷ 0 ∷ 0 ∷ rest))) (sym (length-append pre (0 ∷ []))) ∙ number_back 3 0 (pre ++ (0 ∷ [])) rest (omega arith)) in
    call b (length pre) s h ∙ sym (sized_end (get_or b (length pre) 0) (kind_at b (length pre)) (length pre) (room_end b) z k)

reads_from : (b : Bor (List ℕ)) (pre rest : List ℕ) (is : List Item) → AllProper is → b.now ≡ pre ++ (laid is ++ rest) → Spot b.now (length pre) → length pre + length (laid is) ≤ room_end b.now
    → Reads (reader b (length pre)) is
unfolding AllProper laid Reads tag_of
reads_from b pre rest [] all e s h = end_answer b.now pre rest e s h
reads_from b pre rest (i ∷ is) all e s h =
    let l = length-append (item_bytes i) (laid is) in
    let q : b.now ≡ pre ++ (item_bytes i ++ (laid is ++ rest)) = e ∙ ap (λ (x : List ℕ). pre ++ x) (append_assoc (item_bytes i) (laid is) rest) in
    let r : b.now ≡ (pre ++ item_bytes i) ++ (laid is ++ rest) = q ∙ sym (append_assoc pre (item_bytes i) (laid is ++ rest)) in
    let fits : length pre + length (item_bytes i) ≤ room_end b.now = omega (arith, l) in
    let tail = laid is ++ rest in
    let more = reads_from b (pre ++ item_bytes i) rest is all.1 r (next_spot b.now pre tail i q all.0 s fits) (omega (arith, l, length-append pre (item_bytes i))) in (
      record {
        tag = tag b.now pre tail i q all.0 s fits;
        answer = tag_answer b.now pre tail i q all.0 s fits;
        kind = refl;
        contents = tag_contents b.now pre tail i q all.0 s fits;
      },
      subst (λ (k : ℕ). Reads (reader b k) is) (sym (tag_next b.now pre tail i q all.0 s fits)) more,
    )

pub tags_read_back : TagsReadBack
unfolding first_place room_end
tags_read_back b is all h =
    let room : length h.front + length (laid is) ≤ room_end b.now =
    split (has_flag b.now 0x4000) (λ y. rw y (h.short y)) (λ n. rw n h.room) in
    let spot : Spot b.now (length h.front) =
    record {
      carries =
          record {
            whole = h.whole;
            magic = h.magic;
            flag = eqb-true (field_at b.now 8 / 0x8000 % 2) 1 h.flag;
            small = omega (arith, h.place, h.room);
            even = h.payload;
          };
      from = omega (arith, h.place);
      even = omega (arith, h.place, h.payload);
    } in
    subst (λ (k : ℕ). Reads (reader b k) is) h.place (reads_from b h.front h.rest is all h.parts spot room)
