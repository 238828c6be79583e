use mathlib.Core.Path.{◌≡◌}
use mathlib.Core.Bool.{false}
use Rattle.laws.specs.Sets.{any}
use Rattle.file_check.specs.Check.{is_faulty}
use Rattle.file_checking.specs.Pieces.Parts.{maps, Holds}
use Rattle.file_checking.specs.Parts.{Knows}
use Rattle.file_checking.proofs.each_piece.Given as goal

abbrev pub invariant-loop-i : goal.invariant-loop-i
invariant-loop-i l =
    (any l.i (is_faulty l.settings l.lens l.file) ≡ false) × Holds l.settings l.lens l.file l.i (maps l.numbers l.cells l.offsets) × Knows l.settings l.lens.flash l.kept
