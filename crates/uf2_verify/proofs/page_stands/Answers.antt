use native.Mathlib.Omega.{arith}
use Rattle.uf2_verify.proofs.Laws.{stands_short, stands_out, stands_there}
use Rattle.uf2_verify.proofs.page_stands.Goals as goal

pub returns-then-arrival-lt-TO : goal.returns-then-arrival-lt-TO
returns-then-arrival-lt-TO c = stands_short _ _ _ c.if-arrival-lt-TO.true

pub returns-then-at-gt-LAST : goal.returns-then-at-gt-LAST
returns-then-at-gt-LAST c = stands_out _ _ _ (omega arith)

pub returns-then-buffer-e : goal.returns-then-buffer-e
returns-then-buffer-e c = stands_out _ _ _ (omega arith)

pub returns : goal.returns
returns c = stands_there _ _ _ (omega arith) (omega arith) c.same_page.ensures
