use Prim.Native.Nat.{◌≤◌, ◌/◌}
use mathlib.Core.Path.{refl, sym, ap, ◌∙◌}
use native.Mathlib.Omega.{arith}
use lib.ListN.{length, length-set}
use Rattle.std.proofs.Math.Nat.{min-le_left, min-le_right}
use Rattle.uf2_known.specs.declared.judged.Judgement.{Judgement}
use Rattle.uf2_batch.proofs.Laws.{knows_of, stays_judged, stays_on, arrival_size, fewest, end_starts, end_more, end_ran}
use Rattle.uf2_batch.proofs.take_all.Goals as goal

pub loop-i-init : goal.loop-i-init
loop-i-init c =
    let judged = c.judge_lent-first.ensures in
    (refl, stays_judged _ _ _ judged.value, knows_of _ _ (ap (λ (j : Judgement). j.kept) judged.value) judged.low, end_starts _ _ _ _ (c.min-n.ensures ∙ fewest _ _))

pub take_next-turn-requires : goal.take_next-turn-requires
take_next-turn-requires c =
    let at = c.loop-i in
    let most : c.min-n.result ≤ length c.args.arrivals.now / 512 = rw c.min-n.ensures (min-le_left _ _) in
    record {
      judges = at.invariant.1.judged;
      knows = at.invariant.2;
      whole = arrival_size _ _ c.args.arrivals.now c.loop-i-test.true most;
    }

pub bounds-results-i : goal.bounds-results-i
bounds-results-i c =
    let at = c.loop-i in
    let most : c.min-n.result ≤ length c.args.results.now = rw c.min-n.ensures (min-le_right _ _) in
    omega (arith, at.invariant.0, c.loop-i-test.true, most)

pub loop-i-preserved : goal.loop-i-preserved
loop-i-preserved c =
    let at = c.loop-i in
    let took = c.take_next-turn.ensures in
    (simp length-set at.invariant.0, stays_on _ _ _ _ at.invariant.1 (c.flash-1.given, c.seen-1.given, c.sectors-1.given, c.main-1.given, c.xip-1.given), rw (sym c.flash-1.given) at took.knows, end_more _ _ _ _ _ _ _ _ c.take_next-turn.result c.loop-i-test.true took.xip_value ∙ at.invariant.3)

pub returns : goal.returns
returns c = let at = c.loop-i in end_ran _ _ _ _ _ _ _ _ (omega arith) at.invariant.3
