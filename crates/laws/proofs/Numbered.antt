-- What an equation of answers beside their numbers tells. Assumes nothing.
use mathlib.Core.Path.{◌≡◌, ap}

-- the answers are equal
pub answer_is : {A B : Type 0} {x y : A × B} → x ≡ y → x.0 ≡ y.0
answer_is e = ap (λ p. p.0) e
