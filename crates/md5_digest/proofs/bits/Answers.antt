use Rattle.std.proofs.Common.{◌≡◌, ◌*◌, ap, ◌∙◌, arith}
use Rattle.laws.specs.Bytes.{low_first}
use Rattle.laws.proofs.BytesLaws.{write_eight}
use Rattle.md5_digest.proofs.bits.Goals as goal

pub returns : goal.returns
returns c =
    let n = c.args.n in
    let e : n * 8 ≡ 8 * n = omega arith in
    c.to_le_bytes.ensures ∙ write_eight (n * 8) ∙ ap (low_first 8) e
