-- The claims of specs/Claims.antt hold. Assumes nothing.
use mathlib.Core.Path.{sym, ◌∙◌}
use Rattle.uhex_join_claims.specs.PlainfileClaims.{TextRefusedOnce, RefusalIsTold, ToldIsRefusal}
use Rattle.uhex_join_claims.proofs.BadLines.{bad_is}
use Rattle.uhex_join_claims.proofs.PlainFiles.{bad_text, text_told}

pub refusal_is_told : RefusalIsTold
unfolding RefusalIsTold
refusal_is_told text k x b = text_told text k x b

pub told_is_refusal : ToldIsRefusal
unfolding ToldIsRefusal
told_is_refusal text k x e = bad_text text k x e

pub text_refused_once : TextRefusedOnce
unfolding TextRefusedOnce
text_refused_once text j k x y b c = bad_is j k x y (sym (text_told text j x b) ∙ text_told text k y c)
