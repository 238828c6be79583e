use Prim.Native.Nat.{◌+◌, ◌-◌, ◌*◌, ◌<◌, ◌≤◌, min}
use mathlib.Core.Path.{◌≡◌, refl, ◌∙◌}
use native.Mathlib.Omega.{arith}
use lib.ListN.{length}
use borrow.Author.Rules.{rules}
use Rattle.trace_replay.proofs.Laws.{from_fresh, run_stops, run_goes_on, run_ends, tally_none, tally_more, whole_next, tally_stops, tally_ends}
use Rattle.trace_replay.proofs.run.Goals as goal

pub loop-k-init : goal.loop-k-init
loop-k-init c = (search rules, tally_none _ _, refl)

pub returns-in-Err : goal.returns-in-Err
returns-in-Err c =
    let i = c.loop-k.k in
    let t = c.args.trace.now in
    let more : 513 * i < length t = omega arith in
    let to : 513 * i + c.min.result ≡ 513 * i + min 513 (length t - 513 * i) = omega (arith, c.min.ensures) in
    from_fresh _ _ _ _ (tally_stops _ _ _ c.loop-k.invariant.1 _ c.stop_of.ensures (run_stops _ _ _ _ _ _ more to c.in-Err.ensures c.stop_of.ensures ∙ c.loop-k.invariant.2)) c.new-t.ensures

pub loop-k-preserved : goal.loop-k-preserved
loop-k-preserved c =
    let i = c.loop-k.k in
    let t = c.args.trace.now in
    let more : 513 * i < length t = omega arith in
    let to : 513 * i + c.min.result ≡ 513 * i + min 513 (length t - 513 * i) = omega (arith, c.min.ensures) in
    let whole : 513 * i + c.min.result ≡ 513 * (i + 1) = whole_next _ _ _ _ _ to c.in-Ok.ensures in
    (omega (arith, c.min.ensures), tally_more _ _ _ c.loop-k.invariant.1 c.count.ensures, run_goes_on _ _ _ _ _ _ more to c.in-Ok.ensures whole ∙ c.loop-k.invariant.2)

pub returns : goal.returns
returns c =
    let end_is : length c.args.trace.now ≡ 513 * c.loop-k.k = omega (arith, c.div_ceil-k-end.ensures) in
    let past : length c.args.trace.now ≤ 513 * c.loop-k.k = omega arith in
    from_fresh _ _ _ _ (tally_ends _ _ _ c.loop-k.invariant.1 end_is (run_ends _ _ _ _ _ _ past ∙ c.loop-k.invariant.2)) c.new-t.ensures
