use native.Mathlib.Omega.{arith}
use Rattle.uf2_block.proofs.regions.Laws.{good_no, good_last}
use Rattle.uf2_block.proofs.covering.good.Goals as goal

pub returns-then-start-ne0 : goal.returns-then-start-ne0
returns-then-start-ne0 c = good_no _ _ _ (λ h. omega arith)

pub returns-then-len-ne0 : goal.returns-then-len-ne0
returns-then-len-ne0 c = good_no _ _ _ (λ h. omega arith)

pub returns-then-len-eq0 : goal.returns-then-len-eq0
returns-then-len-eq0 c = good_no _ _ _ (λ h. omega arith)

pub returns-then-start-lt-WINDOW : goal.returns-then-start-lt-WINDOW
returns-then-start-lt-WINDOW c = good_no _ _ _ (λ h. omega arith)

pub returns-then-size-past : goal.returns-then-size-past
returns-then-size-past c = good_no _ _ _ (λ h. omega arith)

pub returns-then-at-start : goal.returns-then-at-start
returns-then-at-start c = good_no _ _ _ (λ h. omega arith)

pub returns : goal.returns
returns c = good_last _ _ _ (λ h. omega arith)
