-- The kinds of specs/Windows.antt are those that the screening gives. Assumes nothing.
use Prim.Native.Nat.{ℕ, ◌+◌, ◌<◌, ◌≤◌}
use mathlib.Core.Path.{◌≡◌, refl, sym, ◌∙◌}
use mathlib.Core.Bool.{Bool, true, false, cond, and-false, and_assoc, ◌&&◌}
use mathlib.Core.List.{List}
use native.Mathlib.Omega.{arith}
use lib.Dec.{eqb, ltb, leb}
use borrow.Author.Tests.{le-leb, lt-leb, lt-ltb, leb-true, ltb-true}
use Rattle.std.specs.Prelude.{Some, None}
use Rattle.laws.proofs.Tests.{and_left, and_right}
use Rattle.uf2_block.specs.Block.{field_at, fields_of}
use Rattle.transfer.specs.declared.Kind.{Kind}
use Rattle.transfer.specs.declared.Kind.TheVariants.{Flash, MainRam, XipRam}
use Rattle.transfer.specs.declared.State.{State}
use Rattle.transfer.specs.declared.State.TheVariants.{Idle, Running, Done}
use Rattle.uf2_checks.specs.Screen.{base_of, extent_of, is_lent, in_window, note_kind, window_kind, Window}
use Rattle.uf2_checks.proofs.Windows.{InWindow, WindowFacts}
use Rattle.arrival.specs.Arrive.{World, lengths_of}
use Rattle.arrival.specs.Windows.{window_start, window_end, lies, has_buffer, data_kind, comment_kind}

pub start_is : (k : Kind) → base_of k ≡ window_start k
start_is Flash = refl
start_is MainRam = refl
start_is XipRam = refl

pub end_is : (k : Kind) → base_of k + extent_of k ≡ window_end k
end_is Flash = refl
end_is MainRam = refl
end_is XipRam = refl

-- no address lies in two windows
pub window_one : (k u : Kind) (x : ℕ) → window_start k ≤ x → x < window_end k → window_start u ≤ x → x < window_end u → k ≡ u
window_one Flash Flash x a b c d = refl
window_one MainRam MainRam x a b c d = refl
window_one XipRam XipRam x a b c d = refl
window_one Flash MainRam x a b c d = absurd (omega arith)
window_one Flash XipRam x a b c d = absurd (omega arith)
window_one MainRam Flash x a b c d = absurd (omega arith)
window_one MainRam XipRam x a b c d = absurd (omega arith)
window_one XipRam Flash x a b c d = absurd (omega arith)
window_one XipRam MainRam x a b c d = absurd (omega arith)

pub lies_true : (k : Kind) (x : ℕ) → lies k x ≡ true → (window_start k ≤ x) × (x < window_end k)
lies_true k x e = (
  leb-true (window_start k) x (and_left (leb (window_start k) x) (ltb x (window_end k)) e),
  ltb-true x (window_end k) (and_right (leb (window_start k) x) (ltb x (window_end k)) e),
)

module _ (w : World) where
  -- an address in the window of a kind
  module _ (x : ℕ) where
    pub lies_is : (k : Kind) → window_start k ≤ x → x < window_end k → lies k x ≡ true
    lies_is k p q = rw (le-leb (window_start k) x p, lt-ltb x (window_end k) q)

    pub data_kind_lem : (k : Kind) → InWindow (lengths_of w.held) k x → data_kind w x ≡ k
    data_kind_lem Flash f =
        rw (
          lt-leb 0x20000000 x (omega (arith, f.high)),
          and-false (has_buffer w MainRam),
          lt-leb 0x13ffc000 x (omega (arith, f.high)),
          and-false (has_buffer w XipRam),
        )
    data_kind_lem MainRam f = rw (f.lent, le-leb 0x20000000 x f.low, lt-ltb x 0x20082000 f.high)
    data_kind_lem XipRam f =
        rw (
          lt-leb 0x20000000 x (omega (arith, f.high)),
          and-false (has_buffer w MainRam),
          f.lent,
          le-leb 0x13ffc000 x f.low,
          lt-ltb x 0x14000000 f.high,
        )

    -- an address in none
    pub data_outside : ((k : Kind) → in_window (lengths_of w.held) k x ≡ false) → data_kind w x ≡ Flash
    data_outside f =
        rw (
          sym (and_assoc (has_buffer w MainRam) (leb 0x20000000 x) (ltb x 0x20082000)) ∙ f MainRam,
          sym (and_assoc (has_buffer w XipRam) (leb 0x13ffc000 x) (ltb x 0x14000000)) ∙ f XipRam,
        )

    abbrev Kinded : Window → Type 0
    Kinded u = data_kind w x ≡ window_kind u

    pub data_window : (u : Window) → WindowFacts (lengths_of w.held) x u → Kinded u
    data_window None f = data_outside f
    data_window (Some k) f = data_kind_lem k f

  -- a comment's kind; flash's buffer is not asked for
  module _ (a : List ℕ) where
    run-kind : (k : Kind) (b : Bool) → cond (b && is_lent (lengths_of w.held) k) k Flash ≡ cond (b && has_buffer w k) k Flash
    run-kind Flash b = either (b && true) ∙ sym (either (b && has_buffer w Flash))
      where
        either : (c : Bool) → cond c Flash Flash ≡ Flash
        either true = refl
        either false = refl
    run-kind MainRam b = refl
    run-kind XipRam b = refl

    pub comment_kind_lem : (t : State) → note_kind (lengths_of w.held) t (fields_of a) ≡ comment_kind w t a
    unfolding note_kind fields_of
    comment_kind_lem Idle = refl
    comment_kind_lem (Running r) = run-kind r.head.kind (eqb r.head.family (field_at a 28) && eqb r.head.total (field_at a 24))
    comment_kind_lem (Done g) = refl
