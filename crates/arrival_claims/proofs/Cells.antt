-- What a set of blocks leaves in a buffer, byte by byte, and what one block more changes. Nothing here knows of pages, transfers or maps.
-- Assumes nothing.
use mathlib.Core.Path.{◌≡◌, refl, sym, ap, ◌∙◌}
use mathlib.Core.Bool.{Bool, true, false, not, cond, ◌||◌, ◌&&◌, and-false}
use mathlib.Core.List.{List}
use Prim.Native.Nat.{ℕ, ◌<◌, ◌/◌}
use lib.Dec.{eqb}
use lib.ListN.{length, get_or}
use borrow.Author.Tests.{eqb-true}
use Rattle.laws.specs.Sets.{Set, none, add, any}
use Rattle.laws.specs.Tab.{tab}
use Rattle.laws.proofs.Tests.{split, clash, eqb_same, and_left, and_right}
use Rattle.laws.proofs.Laws.{pick, any_add, any_none, any_hit, pick_none, pick_hit, pick_cong}
use Rattle.laws.proofs.TabLaws.{length_tab, get_d_tab, is_tab}

-- Of block k: whether it holds byte j, whether it touches sector q, and its value for byte j
pub record Layout : Type 0 where
  pub owns : ℕ → ℕ → Bool
  pub touches : ℕ → ℕ → Bool
  pub value : ℕ → ℕ → ℕ

pub record Apart (n : ℕ) (L : Layout) : Type 0 where
  pub alone : (i k j : ℕ) → i < n → k < n → L.owns i j ≡ true → L.owns k j ≡ true → i ≡ k
  -- a block that holds a byte touches its sector, if any block does
  pub inside : (i k j : ℕ) → i < n → k < n → L.owns i j ≡ true → L.touches k (j / 4096) ≡ true → L.touches i (j / 4096) ≡ true

-- a block of S touches sector q
abbrev pub touched : ℕ → Layout → Set → ℕ → Bool
touched n L S q = any n (λ k. S k && L.touches k q)

-- byte j once the blocks of S have come
unfoldable pub cell : ℕ → Layout → (ℕ → ℕ) → Set → ℕ → ℕ
cell n L lent S j = pick n (λ k. S k && L.owns k j) (λ k. L.value k j) (cond (touched n L S (j / 4096)) 255 (lent j))

pub touched_add : (n : ℕ) (L : Layout) (S : Set) (k q : ℕ) → k < n → touched n L (add k S) q ≡ L.touches k q || touched n L S q
touched_add n L S k q h = any_add n (λ i. L.touches i q) S k h

-- a default of 0xFF, for a sector that is touched now or was before
settle : (a b : Bool) (p : ℕ → ℕ) (d : ℕ) → (a ≡ true → b ≡ false → p 255 ≡ 255)
    → p (cond (a || b) 255 d) ≡ cond (a && not b) 255 (p (cond b 255 d))
settle true true p d f = refl
settle true false p d f = f refl refl
settle false b p d f = refl

module _ (n : ℕ) (L : Layout) (A : Apart n L) (lent : ℕ → ℕ) (S : Set) (k j : ℕ) (h : k < n) where
  step_owned : L.owns k j ≡ true → cell n L lent (add k S) j ≡ L.value k j
  unfolding cell
  step_owned o =
      pick_hit (λ i. add k S i && L.owns i j) (λ i. L.value i j) _ n k h
      (rw (eqb_same k) o)
      (λ i l e. A.alone i k j l h (and_right (add k S i) (L.owns i j) e) o)

  step_other : L.owns k j ≡ false
      → cell n L lent (add k S) j ≡ cond (L.touches k (j / 4096) && not (touched n L S (j / 4096))) 255 (cell n L lent S j)
  unfolding cell
  step_other o =
      pick_cong n (λ i. add k S i && L.owns i j) (λ i. S i && L.owns i j) (λ i. L.value i j) _ same
      ∙ rw (any_add n (λ i. L.touches i (j / 4096)) S k h)
      (settle (L.touches k (j / 4096)) (touched n L S (j / 4096))
      (λ d. pick n (λ i. S i && L.owns i j) (λ i. L.value i j) d) (lent j)
      (λ t u. pick_none (λ i. S i && L.owns i j) (λ i. L.value i j) 255 n (λ i l. split (S i && L.owns i j) (λ e. hidden t u i l e) (λ e. e))))
    where
      same : (i : ℕ) → i < n → add k S i && L.owns i j ≡ S i && L.owns i j
      same i l =
          split (eqb i k)
          (λ e.
          let z : L.owns i j ≡ false = ap (λ (x : ℕ). L.owns x j) (eqb-true i k e) ∙ o in
          rw (z, and-false (add k S i), and-false (S i)))
          (λ e. rw e)

      -- where block k touches the sector of byte j, a block of S that holds the byte has touched it
      hidden : L.touches k (j / 4096) ≡ true → touched n L S (j / 4096) ≡ false → (i : ℕ) → i < n → S i && L.owns i j ≡ true → S i && L.owns i j ≡ false
      hidden t u i l e =
          let w : L.touches i (j / 4096) ≡ true = A.inside i k j l h (and_right (S i) (L.owns i j) e) t in
          clash (touched n L S (j / 4096))
          (any_hit (λ i. S i && L.touches i (j / 4096)) n i l (rw (and_left (S i) (L.owns i j) e) w)) u

  -- one block more
  pub cell_step : cell n L lent (add k S) j
      ≡ cond (L.owns k j) (L.value k j) (cond (L.touches k (j / 4096) && not (touched n L S (j / 4096))) 255 (cell n L lent S j))
  cell_step = split (L.owns k j) (λ o. rw o (step_owned o)) (λ o. rw o (step_other o))

-- ---- no block

pub touched_none : (n : ℕ) (L : Layout) (q : ℕ) → touched n L none q ≡ false
touched_none n L q = any_none (λ k. false) n (λ j h. refl)

pub cell_none : (n : ℕ) (L : Layout) (lent : ℕ → ℕ) (j : ℕ) → cell n L lent none j ≡ lent j
unfolding cell
cell_none n L lent j = rw (touched_none n L (j / 4096)) (pick_none (λ k. false) (λ k. L.value k j) (lent j) n (λ j h. refl))

-- ---- reading a byte

module _ (n : ℕ) (L : Layout) (lent : ℕ → ℕ) (S : Set) (j : ℕ) where
  pub cell_owned : Apart n L → (k : ℕ) → k < n → S k ≡ true → L.owns k j ≡ true → cell n L lent S j ≡ L.value k j
  unfolding cell
  cell_owned A k h y o =
      pick_hit (λ i. S i && L.owns i j) (λ i. L.value i j) _ n k h (rw y o)
      (λ i l e. A.alone i k j l h (and_right (S i) (L.owns i j) e) o)

  pub cell_free : ((k : ℕ) → k < n → S k ≡ true → L.owns k j ≡ false) → cell n L lent S j ≡ cond (touched n L S (j / 4096)) 255 (lent j)
  unfolding cell
  cell_free free =
      pick_none (λ i. S i && L.owns i j) (λ i. L.value i j) _ n
      (λ i l. split (S i) (λ y. rw y (free i l y)) (λ z. rw z))

-- ---- a buffer by its cells

unfoldable pub buffer : ℕ → Layout → List ℕ → Set → List ℕ
buffer n L lent S = tab (length lent) (cell n L (λ j. get_or lent j 0) S)

pub length_buffer : (n : ℕ) (L : Layout) (lent : List ℕ) (S : Set) → length (buffer n L lent S) ≡ length lent
unfolding buffer
length_buffer n L lent S = length_tab (length lent) _

pub get_d_buffer : (n : ℕ) (L : Layout) (lent : List ℕ) (S : Set) (j : ℕ) → j < length lent
    → get_or (buffer n L lent S) j 0 ≡ cell n L (λ j. get_or lent j 0) S j
unfolding buffer
get_d_buffer n L lent S j h = get_d_tab (length lent) _ j h

pub buffer_none : (n : ℕ) (L : Layout) (lent : List ℕ) → lent ≡ buffer n L lent none
unfolding buffer
buffer_none n L lent = is_tab lent (length lent) _ refl (λ j h. sym (cell_none n L (λ j. get_or lent j 0) j))

-- what block k leaves of a buffer f, where T are the sectors touched before
abbrev pub Leaves : Layout → ℕ → Set → List ℕ → List ℕ → Type 0
Leaves L k T f g =
    (length g ≡ length f)
    × ((j : ℕ) → get_or g j 0 ≡ cond (L.owns k j) (L.value k j) (cond (L.touches k (j / 4096) && not (T (j / 4096))) 255 (get_or f j 0)))

pub buffer_add : (n : ℕ) (L : Layout) → Apart n L → (lent : List ℕ) (S : Set) (k : ℕ) → k < n → (g : List ℕ)
    → Leaves L k (touched n L S) (buffer n L lent S) g → g ≡ buffer n L lent (add k S)
unfolding buffer
buffer_add n L A lent S k h g law =
    is_tab g (length lent) _ (law.0 ∙ length_buffer n L lent S)
    (λ j l.
    law.1 j
    ∙ rw (get_d_tab (length lent) (cell n L (λ j. get_or lent j 0) S) j l) (sym (cell_step n L A (λ j. get_or lent j 0) S k j h)))
