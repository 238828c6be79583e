use mathlib.Core.Path.{◌∙◌}
use native.Mathlib.Omega.{arith}
use Rattle.uf2_block.proofs.digest_bytes.Laws.{digest_put}
use Rattle.toolsapi.proofs.Laws.{digest_other, digest_told}
use Rattle.toolsapi.proofs.uf2_md5.Goals as goal

pub returns-then-digest-ne-DIGEST : goal.returns-then-digest-ne-DIGEST
returns-then-digest-ne-DIGEST c = digest_other _ _ (λ e. omega (arith, e))

pub returns : goal.returns
returns c = digest_told _ _ (omega arith) (c.put_digest.ensures ∙ digest_put _ _ (omega arith)) c.hash.ensures
