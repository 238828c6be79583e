use Rattle.std.proofs.Common.{◌≡◌, ℕ, ◌%◌, List, take, ap, ◌∙◌, take_all}
use Rattle.ihex_record.specs.Record.{total}
use Rattle.ihex_record.proofs.Sums.{total_none, total_next}
use Rattle.ihex_record.proofs.sum.Goals as goal

pub loop-i-init : goal.loop-i-init
loop-i-init c = total_none c.args.bytes.now

pub loop-i-preserved : goal.loop-i-preserved
loop-i-preserved c =
    let e : c.loop-i.s ≡ total (take c.loop-i.i c.args.bytes.now) % 256 = c.loop-i.invariant in
    rw e (total_next c.args.bytes.now c.loop-i.i c.loop-i-test.true)

pub returns : goal.returns
returns c = c.loop-i.invariant ∙ ap (λ (l : List ℕ). total l % 256) (take_all _ _ c.loop-i-test.false)
