use Rattle.ihex_write.proofs.Digits.{bytes_none, bytes_put}
use Rattle.std.proofs.Common.{arith}
use Rattle.ihex_write.proofs.put_bytes.Goals as goal

pub loop-i-init : goal.loop-i-init
loop-i-init c = bytes_none c.args.out.now c.args.at c.args.bytes.now (omega arith)

pub loop-i-preserved : goal.loop-i-preserved
loop-i-preserved c =
    let a = c.args in
    let w = c.loop-i in
    bytes_put a.out.now a.bytes.now a.at w.i c.requires c.loop-i-test.true w.invariant c.put_byte.ensures
