-- The place of a reader after a number of calls. Assumes nothing.
use mathlib.Core.Path.{◌≡◌, refl, sym, ap, ◌∙◌}
use mathlib.Core.Bool.{true, false}
use mathlib.Core.List.{List}
use Prim.Native.Nat.{ℕ, zero, suc, ◌+◌, ◌*◌, ◌%◌, ◌≤◌}
use native.Mathlib.Omega.{arith}
use denote.Ref.{Bor}
use Rattle.laws.proofs.Tests.{split, clash}
use Rattle.uf2_tags.specs.declared.Tags.{Tags}
use borrow.Author.Tests.{le-ltb, eq-eqb}
use Rattle.uf2_tags.specs.Tag.{is_tag}
use Rattle.uf2_tags.specs.Room.{bad_payload, bad_place, tag_at}
use Rattle.uf2_tags.proofs.room.Laws.{room_end_lem}
use Rattle.uf2_tags.specs.Reader.{next_place}
use Rattle.uf2_tags.proofs.Search.{stays, moves}
use Rattle.file_claims.specs.Calls.{after}

-- the place after n calls from a place
unfoldable pub place_in : ℕ → List ℕ → ℕ → ℕ
place_in zero b at = at
place_in (suc n) b at = place_in n b (next_place at (tag_at b at))

abbrev pub reader : Bor (List ℕ) → ℕ → Tags
reader b at = record { block = b; at = at }

pub after_place : (n : ℕ) (b : Bor (List ℕ)) (at : ℕ) → after n (reader b at) ≡ reader b (place_in n b.now at)
unfolding after place_in
after_place zero b at = refl
after_place (suc n) b at = after_place n b (next_place at (tag_at b.now at))

pub place_stays : (n : ℕ) (b : List ℕ) (at : ℕ) → is_tag (tag_at b at) ≡ false → place_in n b at ≡ at
unfolding place_in
place_stays zero b at e = refl
place_stays (suc n) b at e = rw (stays at (tag_at b at) e) (place_stays n b at e)

-- where call n answers a tag, each call before it moved the place by 4 or more
pub place_far : (n : ℕ) (b : List ℕ) (at : ℕ) → is_tag (tag_at b (place_in n b at)) ≡ true → at + 4 * n ≤ place_in n b at
unfolding place_in
place_far zero b at y = omega arith
place_far (suc n) b at y =
    split (is_tag (tag_at b at))
    (λ t. omega (arith, (moves b at t).up, place_far n b (next_place at (tag_at b at)) y))
    (λ f.
    let same : place_in n b (next_place at (tag_at b at)) ≡ at = ap (place_in n b) (stays at (tag_at b at) f) ∙ place_stays n b at f in
    clash (is_tag (tag_at b at)) (ap (λ (k : ℕ). is_tag (tag_at b k)) (sym same) ∙ y) f)

-- a tag has four bytes of room
pub tag_room : (b : List ℕ) (at : ℕ) → is_tag (tag_at b at) ≡ true → at + 4 ≤ 508
tag_room b at y = omega (arith, (moves b at y).up, (moves b at y).within, (room_end_lem b).high)

-- ---- the tests that a good block and a good place pass

pub payload_fine : (size : ℕ) → size ≤ 476 → size % 4 ≡ 0 → bad_payload size ≡ false
unfolding bad_payload
payload_fine size p q = rw (le-ltb 476 size p, eq-eqb (size % 4) 0 q) refl

pub place_fine : (from at : ℕ) → from ≤ at → at % 4 ≡ 0 → bad_place from at ≡ false
unfolding bad_place
place_fine from at p q = rw (le-ltb at from p, eq-eqb (at % 4) 0 q) refl
