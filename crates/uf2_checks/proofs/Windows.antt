-- What the window of an address and a good address say. Nobody else unfolds `window_of`. Assumes nothing.
use Prim.Native.Nat.{ℕ, ◌+◌, ◌-◌, ◌%◌, ◌<◌, ◌≤◌}
use mathlib.Core.Path.{◌≡◌, refl}
use mathlib.Core.Bool.{Bool, true, false, not, ◌&&◌, ◌||◌}
use native.Mathlib.Omega.{arith}
use lib.Dec.{ltb, leb, eqb}
use borrow.Author.Tests.{leb-true, ltb-true, ltb-false, lt-ltb, le-leb, eqb-true, not-false}
use Rattle.std.specs.Prelude.{Some, None}
use Rattle.laws.proofs.Tests.{split, clash, and_left, and_right, or_left, or_right, both}
use Rattle.uf2_block.specs.declared.Block.{Block}
use Rattle.transfer.specs.declared.Kind.{Kind}
use Rattle.transfer.specs.declared.Kind.TheVariants.{Flash, MainRam, XipRam}
use Rattle.uf2_checks.specs.Screen.{base_of, extent_of, is_lent, in_window, window_of, bad_address, Window}
use Rattle.uf2_checks.specs.declared.Lengths.{Lengths}

-- ---- windows

pub record InWindow (n : Lengths) (k : Kind) (x : ℕ) : Type 0 where
  pub lent : is_lent n k ≡ true
  pub low : base_of k ≤ x
  pub high : x < base_of k + extent_of k

pub in_window_lem : (n : Lengths) (k : Kind) (x : ℕ) → in_window n k x ≡ true → InWindow n k x
in_window_lem n k x e =
    let p = and_left (is_lent n k && leb (base_of k) x) (ltb x (base_of k + extent_of k)) e in
    record {
      lent = and_left (is_lent n k) (leb (base_of k) x) p;
      low = leb-true _ _ (and_right (is_lent n k) (leb (base_of k) x) p);
      high = ltb-true _ _ (and_right (is_lent n k && leb (base_of k) x) (ltb x (base_of k + extent_of k)) e);
    }

abbrev pub WindowFacts : Lengths → ℕ → Window → Type 0
WindowFacts n x None = (k : Kind) → in_window n k x ≡ false
WindowFacts n x (Some k) = InWindow n k x

pub window_facts : (n : Lengths) (x : ℕ) → WindowFacts n x (window_of n x)
unfolding window_of
window_facts n x =
    split (in_window n Flash x) (λ y. rw y (in_window_lem n Flash x y))
    (λ f. rw f (split (in_window n MainRam x) (λ y. rw y (in_window_lem n MainRam x y))
    (λ m. rw m (split (in_window n XipRam x) (λ y. rw y (in_window_lem n XipRam x y))
    (λ p. rw p (none f m p))))))
  where
    none : in_window n Flash x ≡ false → in_window n MainRam x ≡ false → in_window n XipRam x ≡ false → (k : Kind) → in_window n k x ≡ false
    none f m p Flash = f
    none f m p MainRam = m
    none f m p XipRam = p

-- ---- row 11

pub record InRoom (k : Kind) (size : ℕ) (b : Block) : Type 0 where
  pub whole : k ≡ Flash → b.address % 256 ≡ 0
  pub inside : b.address - base_of k + 256 ≤ size

pub in_room : (k : Kind) (size : ℕ) (b : Block) → bad_address k size b ≡ false → InRoom k size b
in_room Flash size b h =
    let w = ltb b.address (base_of Flash) in
    let m = not (eqb (b.address % 256) 0) in
    let i = ltb size (b.address - base_of Flash + 256) in
    record {
      whole = λ e. eqb-true _ _ (not-false _ (or_right w m (or_left (w || m) i h)));
      inside = ltb-false _ _ (or_right (w || m) i h);
    }
in_room MainRam size b h =
    record { whole = λ e. let z : ◌≡◌ {A = ℕ} 0 1 = cc in omega arith; inside = ltb-false _ _ h }
in_room XipRam size b h =
    record { whole = λ e. let z : ◌≡◌ {A = ℕ} 0 1 = cc in omega arith; inside = ltb-false _ _ h }

-- in no window, row 11 fails beside any place of flash, so that it is no other answer that 11 goes before
pub outside_bad : (n : Lengths) (size : ℕ) (b : Block) → window_of n b.address ≡ None → size ≤ 0x2000000 → bad_address Flash size b ≡ true
outside_bad n size b e h =
    let f = out (window_of n b.address) e (window_facts n b.address) in
    split (ltb b.address (base_of Flash))
    (λ y. rw y)
    (λ z.
    let low : base_of Flash ≤ b.address = ltb-false _ _ z in
    split (ltb b.address (base_of Flash + extent_of Flash))
    (λ y. clash (in_window n Flash b.address) (both (le-leb (base_of Flash) b.address low) y) f)
    (λ q.
    let high : base_of Flash + extent_of Flash ≤ b.address = ltb-false _ _ q in
    let o : ltb size (b.address - base_of Flash + 256) ≡ true = lt-ltb size (b.address - base_of Flash + 256) (omega (arith, low, high)) in
    rw (z, o) (last (not (eqb (b.address % 256) 0)))))
  where
    out : (u : Window) → u ≡ None → WindowFacts n b.address u → in_window n Flash b.address ≡ false
    out None e f = f Flash
    out (Some k) e f = let z : ◌≡◌ {A = ℕ} 0 1 = cc in absurd (omega arith)

    last : (m : Bool) → m || true ≡ true
    last true = refl
    last false = refl
