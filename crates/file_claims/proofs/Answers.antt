-- What a call answers at a place, row by row. Assumes nothing.
use Prim.Native.Nat.{ℕ, ◌+◌, ◌-◌, ◌*◌, ◌/◌, ◌%◌, ◌<◌, ◌≤◌}
use mathlib.Core.Path.{◌≡◌, refl, sym, ap, ◌∙◌}
use mathlib.Core.Logic.{◌≢◌, ◌⊎◌, ⊎_elim}
use mathlib.Core.Bool.{Bool, true, false, not, ◌&&◌, ◌||◌, or-true}
use mathlib.Core.List.{List}
use native.Mathlib.Omega.{arith}
use lib.Dec.{eqb, ltb}
use lib.ListN.{length, get_or}
use borrow.Author.Tests.{eq-eqb, ne_eqb, eqb-true, lt-ltb, le-ltb}
use Rattle.laws.specs.Bytes.{number_in}
use Rattle.laws.proofs.Tests.{split, is_false, and_left, and_right}
use Rattle.uf2_block.specs.Block.{field_at, is_block, has_flag}
use Rattle.std.specs.Prelude.{Ok, Some}
use Rattle.uf2_tags.specs.Tag.{Answer, tag_of, sized}
use Rattle.uf2_tags.proofs.one_tag.Laws.{sized_end, sized_typed, sized_small, sized_past, sized_tag}
use Rattle.uf2_tags.specs.Room.{first_place, kind_at, room_end, bad_payload, bad_place, stands_at, tag_at}
use Rattle.uf2_tags.proofs.room.Laws.{at_length, at_other, at_clear, at_payload, at_stands, stands_place, stands_none, stands_tag}
use Rattle.file_claims.specs.Answers as words
use Rattle.file_claims.specs.Answers.{Magic, Place, type_at, row_1, row_4, flag_clear, row_61, row_3, row_65, end, row_62, row_63, row_64, tag, TagsAnswer, TagNumbers}

-- ---- a block

is_block_lem : (b : List ℕ) → Magic b → is_block b ≡ true
unfolding is_block
is_block_lem b m = rw (eq-eqb _ _ m.0, eq-eqb _ _ m.1, eq-eqb _ _ m.2)

no_block : (b : List ℕ) → (Magic b → ⊥) → is_block b ≡ false
unfolding is_block
no_block b h =
    is_false _
    (λ y.
    let l = and_left (eqb (field_at b 0) 0x0A324655 && eqb (field_at b 4) 0x9E5D5157) (eqb (field_at b 508) 0x0AB16F30) y in
    h
    (eqb-true _ _ (and_left (eqb (field_at b 0) 0x0A324655) (eqb (field_at b 4) 0x9E5D5157) l), eqb-true _ _ (and_right (eqb (field_at b 0) 0x0A324655) (eqb (field_at b 4) 0x9E5D5157) l), eqb-true _ _ (and_right (eqb (field_at b 0) 0x0A324655 && eqb (field_at b 4) 0x9E5D5157) (eqb (field_at b 508) 0x0AB16F30) y)))

payload_bad : (n : ℕ) → (476 < n) ⊎ (n % 4 ≢ 0) → bad_payload n ≡ true
unfolding bad_payload
payload_bad n h = ⊎_elim (λ (l : 476 < n). rw (lt-ltb 476 n l)) (λ (l : n % 4 ≢ 0). rw (ne_eqb (n % 4) 0 l) (or-true (ltb 476 n))) h

payload_right : (n : ℕ) → n ≤ 476 → n % 4 ≡ 0 → bad_payload n ≡ false
unfolding bad_payload
payload_right n l e = rw (le-ltb 476 n l, eq-eqb (n % 4) 0 e)

place_bad : (from at : ℕ) → (at < from) ⊎ (at % 4 ≢ 0) → bad_place from at ≡ true
unfolding bad_place
place_bad from at h = ⊎_elim (λ (l : at < from). rw (lt-ltb at from l)) (λ (l : at % 4 ≢ 0). rw (ne_eqb (at % 4) 0 l) (or-true (ltb at from))) h

place_right : (from at : ℕ) → from ≤ at → at % 4 ≡ 0 → bad_place from at ≡ false
unfolding bad_place
place_right from at l e = rw (le-ltb at from l, eq-eqb (at % 4) 0 e)

-- ---- a place

carried : (b : List ℕ) (at : ℕ) → words.Carries b → stands_at b at ≡ tag_at b at
carried b at c = at_stands b at c.whole (is_block_lem b c.magic) c.flag (payload_right (field_at b 16) c.small c.even)

module _ (b : List ℕ) (at e : ℕ) (p : Place b at e) where
  fine : bad_place (first_place b) at ≡ false
  unfolding first_place
  fine = place_right (32 + field_at b 16) at p.from p.step

  end_is : room_end b ≡ e
  unfolding room_end
  end_is =
      split (has_flag b 0x4000)
      (λ y. rw y (sym (p.short (eqb-true _ _ y))))
      (λ n. rw n (sym (p.long (borrow.Author.Tests.eqb-false _ _ n))))

  type_is : kind_at b at ≡ type_at b at
  unfolding kind_at number_in
  type_is =
      let x : at + 1 + 1 ≡ at + 2 = omega arith in
      let y : at + 1 + 1 + 1 ≡ at + 3 = omega arith in
      rw (y, x) (omega arith)

  here : at + 4 ≤ e → sized (get_or b at 0) (type_at b at) at e ≡ tag_at b at
  here h =
      ap (λ (k : ℕ). sized (get_or b at 0) k at e) (sym type_is)
      ∙ ap (λ (k : ℕ). sized (get_or b at 0) (kind_at b at) at k) (sym end_is)
      ∙ stands_tag b at fine (rw end_is h)
      ∙ carried b at p.carries

pub tags_answer : TagsAnswer
unfolding TagsAnswer tag_of
tags_answer b at x (row_1 h) = sym (at_length b at h)
tags_answer b at x (row_4 l h) = sym (at_other b at l (no_block b h))
tags_answer b at x (flag_clear l m h) = sym (at_clear b at l (is_block_lem b m) h)
tags_answer b at x (row_61 l m f h) = sym (at_payload b at l (is_block_lem b m) f (payload_bad (field_at b 16) h))
tags_answer b at x (row_3 c h) = sym (stands_place b at (unfold first_place in place_bad (32 + field_at b 16) at h) ∙ carried b at c)
tags_answer b at x (row_65 {e} p h) = sym (stands_none b at (fine b at e p) (rw (end_is b at e p) h) ∙ carried b at p.carries)
tags_answer b at x (end {e} p l s t) = sym (sized_end (get_or b at 0) (type_at b at) at e s t ∙ here b at e p l)
tags_answer b at x (row_62 {e} p l s t) = sym (sized_small (get_or b at 0) (type_at b at) at e (λ z. omega arith) (omega arith) ∙ here b at e p l)
tags_answer b at x (row_63 {e} p l s t) = sym (sized_typed (get_or b at 0) (type_at b at) at e s t ∙ here b at e p l)
tags_answer b at x (row_64 {e} p l s t) = sym (sized_past (get_or b at 0) (type_at b at) at e (λ z. omega arith) s t ∙ here b at e p l)
tags_answer b at x (tag {e} p l s t) = sym (sized_tag (get_or b at 0) (type_at b at) at e (λ z. omega arith) s t ∙ here b at e p l)

pub tag_numbers : TagNumbers
unfolding TagNumbers
tag_numbers = refl
