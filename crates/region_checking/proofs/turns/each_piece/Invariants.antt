use Prim.Native.Nat.{ℕ, ◌<◌, ◌/◌}
use mathlib.Core.Path.{◌≡◌}
use mathlib.Core.List.{List}
use lib.ListN.{length}
use Rattle.std.specs.Fork.{ChangesAt}
use Rattle.file_check.specs.Regions.{in_turn}
use Rattle.region_checking.proofs.turns.each_piece.Given as goal

abbrev pub invariant-loop-k : goal.invariant-loop-k
invariant-loop-k g l =
    (S : ℕ → List ℕ → List ℕ) → ((k : ℕ) (m r : List ℕ) → k < length l.file / 512 → ChangesAt g.F.Fn l.step k m r → r ≡ S k m) → l.bytes ≡ in_turn S l.initial.bytes l.k
