use mathlib.Core.Path.{◌≡◌}
use mathlib.Core.Bool.{true, false}
use borrow.Author.Rules.{rules}
use borrow.Author.Tests.{tests}
use Rattle.std.proofs.lemmas.Iterator.{first_from_Range}
use Rattle.file_check.proofs.First.{finds_first}
use Rattle.file_checking.specs.Regions.Guarding.{guards_at}
use Rattle.file_checking.proofs.regions.first_guarding.Goals as goal

pub returns : goal.returns
returns c =
    let P = guards_at c.args.place c.args.file.now in
    finds_first _ P _
    (first_from_Range _ _ _ c.find.result (λ i. P i ≡ true) (λ i. P i ≡ false) c.find.ensures.ran (λ i q k. search (rules, tests)) (λ i q k. search (rules, tests)))
