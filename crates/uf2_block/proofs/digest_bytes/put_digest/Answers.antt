use mathlib.Core.Path.{refl}
use Rattle.uf2_block.proofs.digest_bytes.put_digest.Goals as goal

pub returns : goal.returns
returns c =
    let third = c in
    let second = third in
    let first = second in
    rw (c.put-4.ensures, third.put-3.ensures, second.put-2.ensures, first.put.ensures) refl
