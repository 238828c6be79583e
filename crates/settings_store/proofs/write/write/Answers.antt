use mathlib.Core.Path.{ap}
use native.Mathlib.Omega.{arith}
use Rattle.partitions.proofs.Laws.{good_count}
use Rattle.laws.specs.Numbered.{numbered}
use Rattle.settings_store.specs.Written.{write_number}
use Rattle.settings_store.proofs.write.Cases.{is_off, is_on_lem, write_1, write_2, write_41, write_good}
use Rattle.settings_store.proofs.write.write.Goals as goal

pub returns-then-not-right_length : goal.returns-then-not-right_length
returns-then-not-right_length c = ap (numbered write_number) (write_1 _ _ _ (is_off _ c.right_length.ensures c.if-not-right_length.true-raw))

pub returns-then-not-good : goal.returns-then-not-good
returns-then-not-good c = ap (numbered write_number) (write_2 _ _ _ (is_on_lem _ c.right_length.ensures c.if-not-right_length.false-raw) (is_off _ c.good.ensures c.if-not-good.true-raw))

pub returns-then-out-n : goal.returns-then-out-n
returns-then-out-n c = ap (numbered write_number) (write_41 _ _ _ (is_on_lem _ c.right_length.ensures c.if-not-right_length.false-raw) (is_on_lem _ c.good.ensures c.if-not-good.false-raw) (omega arith))

pub put_store-requires : goal.put_store-requires
put_store-requires c =
    let a = c.args in
    let few = good_count a.settings a.flash_len (is_on_lem _ c.good.ensures c.if-not-good.false-raw) in
    (few, omega arith)

pub returns : goal.returns
returns c = ap (numbered write_number) (write_good _ _ _ (is_on_lem _ c.right_length.ensures c.if-not-right_length.false-raw) (is_on_lem _ c.good.ensures c.if-not-good.false-raw) (omega arith) c.put_store.ensures)
