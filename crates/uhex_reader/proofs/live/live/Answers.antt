use mathlib.Core.Path.{sym, ap, ◌∙◌}
use native.Mathlib.Omega.{arith}
use Rattle.ihex_record.specs.declared.Line.{Line}
use Rattle.ihex_record.proofs.Good.{good_len}
use Rattle.uhex_reader.specs.Live.{parsed_line}
use Rattle.uhex_reader.proofs.live.Laws.{live_too_long, live_refused, live_by}
use Rattle.uhex_reader.proofs.replies.Laws.{line_fails, bounded_fits}
use Rattle.uhex_reader.proofs.live.live.Goals as goal

pub returns-then-offset-gt-FILE : goal.returns-then-offset-gt-FILE
returns-then-offset-gt-FILE c = live_too_long _ _ _ _ (omega arith) (line_fails _ _ _ _ c.failing.ensures)

pub returns-then-offset-line : goal.returns-then-offset-line
returns-then-offset-line c = live_too_long _ _ _ _ (omega arith) (line_fails _ _ _ _ c.failing-then-offset-line.ensures)

pub returns-in-Ok : goal.returns-in-Ok
unfolding parsed_line
returns-in-Ok c =
    let read = c.read-read.ensures.value in
    let told = c.in-Ok.is in
    let len = good_len _ _ (ap (λ (x : Line). x.parsed) (sym read) ∙ told) in
    live_by _ _ _ _ _ _ (omega arith) read told (c.apply.ensures ∙ bounded_fits _ _ _ _ _ len)

pub returns-in-Err : goal.returns-in-Err
returns-in-Err c =
    live_refused _ _ _ _ _ _ _ (omega arith) c.read-read.ensures.value c.in-Err.is c.from.ensures (line_fails _ _ _ _ c.failing-in-Err.ensures)
