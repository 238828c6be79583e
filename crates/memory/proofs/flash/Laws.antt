-- The laws of `flash_length`, `erase_at` and `store_at`: what stands at each byte afterwards, inside and outside; lengths are kept.
-- Assumes nothing.
use mathlib.Core.Path.{◌≡◌, refl, sym, ap, ◌∙◌}
use mathlib.Core.Bool.{true, false, ◌&&◌, cond, and-false}
use mathlib.Core.Logic.{◌≢◌}
use mathlib.Core.List.{List, [], ◌∷◌, ◌++◌}
use Prim.Native.Nat.{ℕ, zero, suc, ◌+◌, ◌-◌, ◌*◌, ◌/◌, ◌%◌, ◌<◌, ◌≤◌}
use native.Mathlib.Omega.{arith}
use native.Mathlib.Nat.{le_of_suc-le-suc, not-suc-le-zero}
use lib.ListN.{length, get_or, take, drop, set, length-take, length-drop}
use lib.Seq.{get_or-take, get_or-drop}
use lib.Dec.{eqb, ltb, leb}
use borrow.Rule.Slice.PartMut.{put_mid}
use borrow.Author.Tests.{lt-ltb, le-ltb, le-leb, eq-eqb, ltb-true, ltb-false, leb-true, leb-false, eqb-true, eqb-false}
use Rattle.laws.specs.Over.{over}
use Rattle.laws.proofs.OverLaws.{length_over, over_inside, over_before, over_after, put_over, part_over}
use Rattle.laws.proofs.Tests.{split, and_left, and_right, is_false}
use Rattle.memory.specs.Many.{many}
use Rattle.memory.proofs.fill.Laws.{length_many, get_d_many}
use Rattle.memory.specs.Flash.{flash_length, erase_at, payload_of, spans, room_at, store_at}

-- ---- the length

-- what a right length is
pub record Whole (n : ℕ) : Type 0 where
  pub whole : n % 4096 ≡ 0
  pub least : 4096 ≤ n
  pub most : n ≤ 33554432

pub length_right : (n : ℕ) → flash_length n ≡ true → Whole n
unfolding flash_length
length_right n h =
    let l = and_left (eqb (n % 4096) 0 && leb 4096 n) (leb n 33554432) h in
    record {
      whole = eqb-true _ _ (and_left (eqb (n % 4096) 0) (leb 4096 n) l);
      least = leb-true _ _ (and_right (eqb (n % 4096) 0) (leb 4096 n) l);
      most = leb-true _ _ (and_right (eqb (n % 4096) 0 && leb 4096 n) (leb n 33554432) h);
    }

pub right_length : (n : ℕ) → Whole n → flash_length n ≡ true
unfolding flash_length
right_length n w = rw (eq-eqb (n % 4096) 0 w.whole, le-leb 4096 n w.least, le-leb n 33554432 w.most)

-- ---- a sector erased

module _ (f : List ℕ) (k : ℕ) where
  pub erase_in : k < length f / 4096 → erase_at f k ≡ over f (k * 4096) (many 4096 255)
  unfolding erase_at
  erase_in h = rw (lt-ltb k (length f / 4096) h) refl

  pub erase_past : length f / 4096 ≤ k → erase_at f k ≡ f
  unfolding erase_at
  erase_past h = rw (le-ltb k (length f / 4096) h) refl

  room : k < length f / 4096 → k * 4096 + length (many 4096 255) ≤ length f
  room h = rw (length_many 4096 255) (omega arith)

  pub length_erase : length (erase_at f k) ≡ length f
  length_erase =
      split (ltb k (length f / 4096))
      (λ y.
      let h = ltb-true _ _ y in
      rw (erase_in h) (length_over f (k * 4096) (many 4096 255) (room h)))
      (λ z. rw (erase_past (ltb-false _ _ z)) refl)

  inside : k < length f / 4096 → (j : ℕ) → j / 4096 ≡ k → get_or (erase_at f k) j 0 ≡ 255
  inside h j e =
      rw (erase_in h)
      (over_inside f (k * 4096) (many 4096 255) (room h) j (omega arith) (rw (length_many 4096 255) (omega arith))
      ∙ get_d_many 4096 255 (j - k * 4096) (omega arith))

  outside : k < length f / 4096 → (j : ℕ) → j / 4096 ≢ k → get_or (erase_at f k) j 0 ≡ get_or f j 0
  outside h j n =
      rw (erase_in h)
      (split (ltb j (k * 4096))
      (λ y. over_before f (k * 4096) (many 4096 255) (room h) j (ltb-true _ _ y))
      (λ z.
      let b : k * 4096 ≤ j = ltb-false _ _ z in
      over_after f (k * 4096) (many 4096 255) (room h) j (rw (length_many 4096 255) (omega arith))))

  -- each byte afterwards
  pub get_d_erase : (j : ℕ) → get_or (erase_at f k) j 0 ≡ cond (eqb (j / 4096) k && ltb k (length f / 4096)) 255 (get_or f j 0)
  get_d_erase j =
      split (ltb k (length f / 4096))
      (λ y.
      split (eqb (j / 4096) k)
      (λ e. rw (y, e) (inside (ltb-true _ _ y) j (eqb-true _ _ e)))
      (λ e. rw (y, e) (outside (ltb-true _ _ y) j (eqb-false _ _ e))))
      (λ z. rw (z, and-false (eqb (j / 4096) k), erase_past (ltb-false _ _ z)) refl)

-- ---- a payload stored

pub length_payload : (a : List ℕ) → 288 ≤ length a → length (payload_of a) ≡ 256
unfolding payload_of
length_payload a h = simp (length-take, length-drop) (omega arith)

short_payload : (a : List ℕ) → length a < 288 → length (payload_of a) < 256
unfolding payload_of
short_payload a h = simp (length-take, length-drop) (omega arith)

-- byte i of the payload is byte 32 + i of the arrival
drop_set : (n : ℕ) (l : List ℕ) (j v : ℕ) → j < n → drop n (set l j v) ≡ drop n l
drop_set zero l j v h = absurd (not-suc-le-zero h)
drop_set (suc n) [] j v h = refl
drop_set (suc n) (x ∷ l) zero v h = refl
drop_set (suc n) (x ∷ l) (suc j) v h = drop_set n l j v (le_of_suc-le-suc h)

-- a byte of the header is none of the payload
pub payload_set : (a : List ℕ) (j v : ℕ) → j < 32 → payload_of (set a j v) ≡ payload_of a
unfolding payload_of
payload_set a j v h = ap (take 256) (drop_set 32 a j v h)

pub get_d_payload : (a : List ℕ) (i : ℕ) → i < 256 → get_or (payload_of a) i 0 ≡ get_or a (32 + i) 0
unfolding payload_of
get_d_payload a i l = get_or-take 256 (drop 32 a) i 0 l ∙ get_or-drop 32 a i 0

module _ (f : List ℕ) (at : ℕ) (p : List ℕ) where
  pub room_yes : length p ≡ 256 → at + 256 ≤ length f → room_at f at p ≡ true
  room_yes n l = rw (eq-eqb (length p) 256 n, le-leb (at + 256) (length f) l)

  room_true : room_at f at p ≡ true → (length p ≡ 256) × (at + 256 ≤ length f)
  room_true h = (
    eqb-true _ _ (and_left (eqb (length p) 256) (leb (at + 256) (length f)) h),
    leb-true _ _ (and_right (eqb (length p) 256) (leb (at + 256) (length f)) h),
  )

  store_in : room_at f at p ≡ true → store_at f at p ≡ over f at p
  unfolding store_at
  store_in h = rw h refl

  store_no : room_at f at p ≡ false → store_at f at p ≡ f
  unfolding store_at
  store_no h = rw h refl

  -- a payload of another length, or past the end, changes nothing
  pub store_past : ((length p ≡ 256) × (at + 256 ≤ length f) → ⊥) → store_at f at p ≡ f
  store_past n = store_no (is_false (room_at f at p) (λ h. n (room_true h)))

  pub length_store : length (store_at f at p) ≡ length f
  length_store =
      split (room_at f at p)
      (λ y. let r = room_true y in rw (store_in y) (length_over f at p (omega (arith, r))))
      (λ z. rw (store_no z) refl)

  -- each byte afterwards
  pub get_d_store : (j : ℕ) → get_or (store_at f at p) j 0 ≡ cond (room_at f at p && spans at j) (get_or p (j - at) 0) (get_or f j 0)
  get_d_store j = split (room_at f at p) (λ y. rw y (fitted y)) (λ z. rw z (ap (λ (l : List ℕ). get_or l j 0) (store_no z)))
    where
      fitted : room_at f at p ≡ true → get_or (store_at f at p) j 0 ≡ cond (spans at j) (get_or p (j - at) 0) (get_or f j 0)
      fitted y =
          let r = room_true y in
          let fits : at + length p ≤ length f = omega (arith, r) in
          let n : length p ≡ 256 = r.0 in
          rw (store_in y)
          (split (leb at j)
          (λ u.
          split (ltb j (at + 256))
          (λ v. rw (u, v) (over_inside f at p fits j (leb-true _ _ u) (rw n (ltb-true _ _ v))))
          (λ v. rw (u, v) (over_after f at p fits j (rw n (ltb-false _ _ v)))))
          (λ u. rw u (over_before f at p fits j (leb-false _ _ u))))

-- ---- in the shape of the code's returns

-- a part of n bytes that was filled with v
pub filled : (a n v : ℕ) (xs ys : List ℕ) → a + n ≤ length xs → ys ≡ many (length (take (a + n - a) (drop a xs))) v → put_mid a (a + n - a) xs ys ≡ over xs a (many n v)
filled a n v xs ys l e =
    let h : length (take (a + n - a) (drop a xs)) ≡ n = simp (length-take, length-drop) (omega arith) in
    let y : ys ≡ many n v = e ∙ rw h refl in
    put_over a n xs ys (rw y (length_many n v)) ∙ rw y refl

pub store_short : (f : List ℕ) (at : ℕ) (a : List ℕ) → length a < 288 → f ≡ store_at f at (payload_of a)
store_short f at a h = sym (store_past f at (payload_of a) (λ r. omega (arith, r, short_payload a h)))

pub store_out : (f : List ℕ) (at : ℕ) (a : List ℕ) → length f < at + 256 → f ≡ store_at f at (payload_of a)
store_out f at a h = sym (store_past f at (payload_of a) (λ r. omega (arith, r)))

-- a part of 256 bytes into which the payload was copied
pub stored : (at : ℕ) (f a ys : List ℕ) → 288 ≤ length a → at + 256 ≤ length f
    → ys ≡ payload_of a
    → put_mid at (at + 256 - at) f ys ≡ store_at f at (payload_of a)
unfolding payload_of
stored at f a ys h l e =
    let n : length (payload_of a) ≡ 256 = length_payload a h in
    part_over at 256 f (payload_of a) ys n l e ∙ sym (store_in f at (payload_of a) (room_yes f at (payload_of a) n l))
