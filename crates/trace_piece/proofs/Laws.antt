-- A piece by cases, as the code comes to them. Assumes nothing.
use Prim.Native.Nat.{ℕ}
use mathlib.Core.Path.{◌≡◌}
use mathlib.Core.Bool.{false, true≢false}
use mathlib.Core.List.{List}
use lib.Dec.{eqb}
use lib.ListN.{length}
use borrow.Author.Tests.{eqb-true}
use Rattle.laws.proofs.Tests.{split}
use Rattle.trace_piece.specs.Piece.{is_bad}

pub good_length : (p : List ℕ) → is_bad p ≡ false → length p ≡ 513
unfolding is_bad
good_length p h = split (eqb (length p) 513) (λ y. eqb-true (length p) 513 y) (λ z. absurd (true≢false (rw z at h)))
