use native.Mathlib.Omega.{arith}
use Rattle.uf2_block.proofs.regions.Laws.{stands_low, stands_past, stands_part}
use Rattle.uf2_block.proofs.regions.stands.Goals as goal

pub returns-then-address-lt-WINDOW : goal.returns-then-address-lt-WINDOW
returns-then-address-lt-WINDOW c = stands_low _ _ _ (omega arith)

pub returns-then-flash-len : goal.returns-then-flash-len
returns-then-flash-len c = stands_past _ _ _ (omega arith) (omega arith)

pub returns-then-last-offset : goal.returns-then-last-offset
returns-then-last-offset c = stands_past _ _ _ (omega arith) (omega arith)

pub returns-then-last-offset-2 : goal.returns-then-last-offset-2
returns-then-last-offset-2 c = stands_past _ _ _ (omega arith) (omega arith)

pub returns : goal.returns
returns c = stands_part _ _ _ (omega arith) (omega arith) c.hash-found.ensures c.same_digest.ensures
