-- A search for the first number that passes a test. Assumes nothing.
use Rattle.std.specs.Prelude.{ℕ, cond, Option, Some, None}
use Rattle.laws.specs.Sets.{Set, any, least}

-- the least number below n that passes the test, where one does
unfoldable pub first_below : ℕ → Set → Option ℕ
first_below n P = cond (any n P) (Some (least n P)) None
