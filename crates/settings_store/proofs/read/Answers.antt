use mathlib.Core.Path.{ap}
use native.Mathlib.Omega.{arith}
use Rattle.laws.specs.Numbered.{numbered}
use Rattle.settings_store.specs.Store.{read_number}
use Rattle.settings_store.proofs.Cases.{read_1, read_short, read_on}
use Rattle.settings_store.proofs.write.Cases.{is_off, is_on_lem}
use Rattle.settings_store.proofs.read.Goals as goal

pub returns-then-not-right_length : goal.returns-then-not-right_length
returns-then-not-right_length c = ap (numbered read_number) (read_1 _ _ (is_off _ c.right_length.ensures c.if-not-right_length.true-raw))

pub returns-then-bytes-lt-HEAD : goal.returns-then-bytes-lt-HEAD
returns-then-bytes-lt-HEAD c = ap (numbered read_number) (read_short _ _ (is_on_lem _ c.right_length.ensures c.if-not-right_length.false-raw) (omega arith))

pub returns : goal.returns
returns c = ap (numbered read_number) (read_on _ _ (is_on_lem _ c.right_length.ensures c.if-not-right_length.false-raw) (omega arith) _ c.head_in.ensures c.read_head.ensures)
