use Rattle.ihex_data.proofs.Stepped.{is_taken, with_given, taken_few, taken_within, step_refused, step_passed, step_data}
use Rattle.std.proofs.lemmas.Result.{err_from_is_err_and}
use lib.Seq.{length-take-le}
use lib.ListN.{length-take}
use native.Mathlib.Omega.{arith}
use mathlib.Core.Path.{sym}
use Rattle.laws.proofs.Numbered.{answer_is}
use Rattle.ihex_data.proofs.put_line.Goals as goal

pub returns-in_err-taken : goal.returns-in_err-taken
returns-in_err-taken c =
    let a = c.args in
    let t = is_taken a.state.plain a.line.now c.read-read.ensures.value c.word-word.ensures (answer_is c.line.ensures) c.in_err-taken.was in
    let e = err_from_is_err_and c.from_residual.result c.from_residual.ensures.1 in
    let both = step_refused a.out.now a.place.kind a.place.at a.state a.line.now _ t in
    record { value = rw (e.1, e.2) both.0; lines = both.1 }

pub returns-in_default : goal.returns-in_default
returns-in_default c =
    let a = c.args in
    let t = is_taken a.state.plain a.line.now c.read-read.ensures.value c.word-word.ensures (answer_is c.line.ensures) c.in_ok-taken.was in
    let both = step_passed a.out.now a.place.kind a.place.at a.state a.line.now _ (with_given _ t c.in_default.is) in
    record { value = both.0; lines = both.1 }

pub slice_bounds-data-end : goal.slice_bounds-data-end
slice_bounds-data-end c =
    let a = c.args in
    let x = c.read-read.ensures.value in
    let t = is_taken a.state.plain a.line.now x c.word-word.ensures (answer_is c.line.ensures) c.in_ok-taken.was in
    taken_within a.state.plain a.line.now x (with_given _ t c.in-Some.is)

pub slice_bounds-put_data-end : goal.slice_bounds-put_data-end
slice_bounds-put_data-end c =
    let a = c.args in
    let x = c.read-read.ensures.value in
    let t = is_taken a.state.plain a.line.now x c.word-word.ensures (answer_is c.line.ensures) c.in_ok-taken.was in
    sym (length-take-le _ c.read-read.result.«data» (taken_within a.state.plain a.line.now x (with_given _ t c.in-Some.is)))

pub put_data-tally-requires : goal.put_data-tally-requires
put_data-tally-requires c =
    let a = c.args in
    let t = is_taken a.state.plain a.line.now c.read-read.ensures.value c.word-word.ensures (answer_is c.line.ensures) c.in_ok-taken.was in
    let few = taken_few a.state.plain a.line.now (with_given _ t c.in-Some.is) in
    (omega arith, omega (arith, few, length-take c.in-Some.given.len c.read-read.result.«data»))

pub returns : goal.returns
returns c =
    let a = c.args in
    let x = c.read-read.ensures.value in
    let kept = c.put_data-tally.ensures in
    let t = is_taken a.state.plain a.line.now x c.word-word.ensures (answer_is c.line.ensures) c.in_ok-taken.was in
    let both = step_data a.out.now a.place.kind a.place.at a.state a.line.now _ _ _ (with_given _ t c.in-Some.is) (rw (← x) kept.value) (rw (← x) kept.lines) in
    record { value = both.0; lines = both.1 }
