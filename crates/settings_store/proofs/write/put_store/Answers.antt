use mathlib.Core.Path.{refl, ◌∙◌}
use Rattle.settings_store.proofs.write.Rows.{head_put}
use Rattle.settings_store.proofs.head_bits.Laws.{head_is}
use Rattle.settings_store.proofs.write.put_store.Goals as goal

pub returns : goal.returns
returns c =
    let start = c in
    let a = start.args in
    c.write_rows.ensures
    ∙ head_put a.s a.out.now _ start.requires.1 (head_is a.s c.head_of-x.ensures c.any_no_restart.ensures) c.to_be_bytes.ensures c.copy_from_slice.ensures.after refl
