use mathlib.Core.Path.{sym, ◌∙◌}
use Rattle.file_checking.proofs.Files.{opened}
use Rattle.file_checking.proofs.judge.Goals as goal

pub every_piece-requires-clause-opened : goal.every_piece-requires-clause-opened
every_piece-requires-clause-opened c =
    opened _ _ _ _ _ _ c.requires (sym c.right_maps.ensures ∙ c.if-not-right_maps.false) (sym c.good.ensures ∙ c.if-not-good.false)
