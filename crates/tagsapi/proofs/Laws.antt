-- The calls about tags by cases; a tag fits its 16 bytes, and is read back from them. Assumes nothing.
use Prim.Native.Nat.{ℕ, ◌+◌, ◌*◌, ◌/◌, ◌<◌, ◌^◌}
use mathlib.Core.Path.{◌≡◌, refl, sym, ap, ◌∙◌}
use mathlib.Core.Logic.{◌≢◌}
use mathlib.Core.Bool.{false}
use mathlib.Core.List.{List, [], ◌++◌}
use native.Mathlib.Omega.{arith}
use lib.ListN.{length, get_or}
use borrow.Author.Tests.{eq-eqb, ne_eqb}
use Rattle.laws.specs.Bytes.{low_first}
use Rattle.laws.proofs.OverLaws.{over_whole}
use Rattle.uf2_block.specs.Block.{field_at}
use Rattle.uf2_block.specs.Write.{le32, put_at}
use Rattle.uf2_block.proofs.WriteLaws.{put_over, put_after, field_le32}
use Rattle.uf2_tags.specs.declared.one_tag.Tag.{Tag}
use Rattle.std.specs.Prelude.{Ok, Some}
use Rattle.uf2_tags.specs.Tag.{Answer, tag_of, answer_number, is_tag}
use Rattle.uf2_tags.proofs.one_tag.Laws.{on_other}
use Rattle.uf2_tags.specs.Room.{tag_at}
use Rattle.uf2_tags.proofs.room.Laws.{tag_here, room_end_lem}
use Rattle.uf2_tags.specs.Search.{find_of}
use Rattle.uf2_tags.proofs.Search.{find_at}
use Rattle.tagsapi.specs.Calls.{TagCall, tag_call, tag_bytes, tag_call_of, Low, tag_at_call, tag_find_call}

-- ---- a tag is low

pub tag_low : (b : List ℕ) (at : ℕ) → Low (tag_at b at)
unfolding tag_of
tag_low b at t e =
    let h = tag_here b at t e in
    let s : at + 4 ≡ t.start = ap (λ (x : Tag). x.start) h.tag in
    let n : at + (get_or b at 0 + 3) / 4 * 4 ≡ t.next = ap (λ (x : Tag). x.next) h.tag in
    let r = (room_end_lem b).high in
    (omega (arith, s, h.room), omega (arith, n, h.fits))

pub find_low : (b : List ℕ) (kind : ℕ) → Low (find_of b kind)
find_low b kind t e = let f = find_at b kind in tag_low b f.0 t (sym f.1 ∙ e)

-- ---- it is written

pub tag_put : (b : List ℕ) (kind start len next : ℕ) → length b ≡ 16 → put_at (put_at (put_at (put_at b 0 kind) 4 start) 8 len) 12 next ≡ tag_bytes kind start len next
unfolding low_first
tag_put b kind start len next e =
    rw (
      put_over b 0 kind (omega arith),
      put_after b (le32 kind) 4 start refl (omega arith),
      put_after b (le32 kind ++ le32 start) 8 len refl (omega arith),
      put_after b (le32 kind ++ le32 start ++ le32 len) 12 next refl (omega arith),
    )
    (over_whole b (tag_bytes kind start len next) (sym e))

-- ---- it is read back

pub tag_back : (kind start len next : ℕ) → kind < 2 ^ 32 → start < 2 ^ 32 → len < 2 ^ 32 → next < 2 ^ 32
    → let b = tag_bytes kind start len next in (field_at b 0 ≡ kind) × (field_at b 4 ≡ start) × (field_at b 8 ≡ len) × (field_at b 12 ≡ next)
unfolding low_first
tag_back kind start len next p q r s = (
  field_le32 [] kind (le32 start ++ le32 len ++ le32 next) p,
  field_le32 (le32 kind) start (le32 len ++ le32 next) q,
  field_le32 (le32 kind ++ le32 start) len (le32 next) r,
  field_le32 (le32 kind ++ le32 start ++ le32 len) next [] s,
)

-- ---- a call, by cases

pub other_told_lem : (l : List ℕ) (a : Answer) {n : ℕ} → is_tag a ≡ false → n ≡ answer_number a → tag_call n l ≡ tag_call_of l a
other_told_lem l a h e = rw (e, on_other l (λ (t : Tag). tag_bytes t.kind t.start t.len t.next) a h)

pub tag_told : (l b : List ℕ) (a : Answer) (t : Tag) {n : ℕ} → b ≡ tag_bytes t.kind t.start t.len t.next → a ≡ Ok (Some t) → n ≡ answer_number a → tag_call n b ≡ tag_call_of l a
tag_told l b a t q e h = rw (h, q, e)

module _ (b : List ℕ) (n : ℕ) (l : List ℕ) where
  pub tag_short : length l ≢ 16 → tag_call 1 l ≡ tag_at_call b n l
  unfolding tag_at_call
  tag_short h = simp (ne_eqb (length l) 16 h)

  pub find_short : length l ≢ 16 → tag_call 1 l ≡ tag_find_call b n l
  unfolding tag_find_call
  find_short h = simp (ne_eqb (length l) 16 h)

  pub tag_call_lem : {a : Answer} {o : TagCall} → length l ≡ 16 → a ≡ tag_at b n → o ≡ tag_call_of l a → o ≡ tag_at_call b n l
  unfolding tag_at_call
  tag_call_lem h e f = simp (eq-eqb (length l) 16 h) (f ∙ ap (tag_call_of l) e)

  pub find_call : {a : Answer} {o : TagCall} → length l ≡ 16 → a ≡ find_of b n → o ≡ tag_call_of l a → o ≡ tag_find_call b n l
  unfolding tag_find_call
  find_call h e f = simp (eq-eqb (length l) 16 h) (f ∙ ap (tag_call_of l) e)
