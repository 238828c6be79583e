use mathlib.Core.Path.{◌∙◌}
use Rattle.laws.proofs.Numbered.{answer_is}
use Rattle.storeapi.proofs.Laws.{written}
use Rattle.storeapi.proofs.uf2_store_write.Goals as goal

pub returns : goal.returns
returns c =
    let a = c.args in
    written a.settings.now a.flash_len a.store.now c.read_settings-s.ensures (answer_is c.write-written.ensures) (c.from.ensures ∙ c.number.ensures)
