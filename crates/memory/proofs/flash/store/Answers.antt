use native.Mathlib.Omega.{arith}
use Rattle.memory.proofs.flash.Laws.{store_short, store_out, stored}
use Rattle.memory.specs.Flash.{payload_of}
use Rattle.memory.proofs.flash.store.Goals as goal

pub returns-then-arrival-lt-TO : goal.returns-then-arrival-lt-TO
returns-then-arrival-lt-TO c = store_short _ _ _ c.if-arrival-lt-TO.true

pub returns-then-at-gt-LAST : goal.returns-then-at-gt-LAST
returns-then-at-gt-LAST c = store_out _ _ _ (omega arith)

pub returns-then-flash-e : goal.returns-then-flash-e
returns-then-flash-e c = store_out _ _ _ (omega arith)

pub returns : goal.returns
unfolding payload_of
returns c = stored _ _ c.args.arrival.now _ (omega arith) (omega arith) c.copy_from_slice.ensures.after
