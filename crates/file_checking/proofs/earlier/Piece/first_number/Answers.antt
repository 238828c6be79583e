use mathlib.Core.Path.{◌≡◌, ◌∙◌}
use mathlib.Core.Bool.{true, false}
use borrow.Author.Rules.{rules}
use borrow.Author.Tests.{tests}
use Rattle.std.proofs.lemmas.Iterator.{first_from_Range}
use Rattle.file_check.specs.Check.{same_number}
use Rattle.file_check.proofs.First.{finds_least}
use Rattle.file_checking.proofs.earlier.Piece.first_number.Goals as goal

pub returns : goal.returns
returns c =
    let P = same_number c.args.self.file.now c.args.self.i in
    c.unwrap_or.ensures
    ∙ finds_least _ P _
    (first_from_Range _ _ _ c.find.result (λ j. P j ≡ true) (λ j. P j ≡ false) c.find.ensures.ran (λ j q k. search (rules, tests)) (λ j q k. search (rules, tests)))
