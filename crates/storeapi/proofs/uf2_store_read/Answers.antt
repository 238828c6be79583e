use native.Mathlib.Omega.{arith}
use Rattle.laws.proofs.Numbered.{answer_is}
use Rattle.storeapi.proofs.Laws.{read_other, read_told}
use Rattle.storeapi.proofs.uf2_store_read.Goals as goal

pub returns-then-settings-ne-SETTINGS : goal.returns-then-settings-ne-SETTINGS
returns-then-settings-ne-SETTINGS c = read_other _ _ _ (λ e. omega (arith, e))

pub returns : goal.returns
returns c =
    let a = c.args in
    read_told a.store.now a.flash_len a.settings.now (omega arith) (answer_is c.read.ensures) c.tell.ensures
