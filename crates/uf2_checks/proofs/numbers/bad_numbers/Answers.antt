use native.Mathlib.Omega.{arith}
use Rattle.uf2_checks.proofs.Laws.{numbers_wrong, numbers_last}
use Rattle.uf2_checks.proofs.numbers.bad_numbers.Goals as goal

pub returns-then-b-eq0 : goal.returns-then-b-eq0
returns-then-b-eq0 c = let a = c.args in numbers_wrong a.size a.b (λ h. omega arith)

pub returns-then-size-b : goal.returns-then-size-b
returns-then-size-b c = let a = c.args in numbers_wrong a.size a.b (λ h. omega arith)

pub returns : goal.returns
returns c = let a = c.args in numbers_last a.size a.b (omega arith) (omega arith)
