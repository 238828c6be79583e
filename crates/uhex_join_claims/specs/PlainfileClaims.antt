-- What is claimed of a plain file's refusals (02, "One file from two"). Proved in proofs/Claims.antt. Assumes nothing.
use Rattle.std.specs.Prelude.{ℕ, ◌≡◌, List}
use Rattle.uhex_grammar.specs.declared.Answer.{Answer}
use Rattle.ihex_file.specs.File.{bad, verdict_of}
use Rattle.uhex_join_claims.specs.Refusals.{BadText}

-- "at the first bad line 31, 36, 20 to 26 (type, length, no 01 at the end) or 29; then 30": a text has one refusal at most, one line and one answer
unfoldable pub TextRefusedOnce : Type 0
TextRefusedOnce = (text : List ℕ) (j k : ℕ) (x y : Answer) → BadText text j x → BadText text k y → (j ≡ k) × (x ≡ y)

-- and that one is told
unfoldable pub RefusalIsTold : Type 0
RefusalIsTold = (text : List ℕ) (k : ℕ) (x : Answer) → BadText text k x → verdict_of text ≡ bad k x

-- and no other
unfoldable pub ToldIsRefusal : Type 0
ToldIsRefusal = (text : List ℕ) (k : ℕ) (x : Answer) → verdict_of text ≡ bad k x → BadText text k x
