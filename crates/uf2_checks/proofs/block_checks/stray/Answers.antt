use mathlib.Core.Path.{sym}
use native.Mathlib.Omega.{arith}
use Rattle.uf2_checks.proofs.Laws.{strayed_payload, strayed_address}
use Rattle.uf2_checks.proofs.block_checks.stray.Goals as goal

pub returns-then-b-ne-PAYLOAD : goal.returns-then-b-ne-PAYLOAD
returns-then-b-ne-PAYLOAD c = sym (strayed_payload _ (omega arith))

pub returns : goal.returns
returns c = sym (strayed_address _ (omega arith))
