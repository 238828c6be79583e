use mathlib.Core.Path.{refl}
use Rattle.laws.proofs.Numbered.{answer_is}
use Rattle.traceapi.proofs.FiguresLaws.{figures_added, figures_refused}
use Rattle.traceapi.proofs.figures.uf2_figures.Goals as goal

pub returns-in-Ok : goal.returns-in-Ok
returns-in-Ok c =
    figures_added _ _ _ _ _ c.read_report-was.ensures c.read_settings-s.ensures (answer_is c.in-Ok.ensures) c.write_report.ensures c.put_stop.ensures c.result.ensures

pub returns-in-Err : goal.returns-in-Err
returns-in-Err c =
    figures_refused _ _ _ _ _ c.read_report-was.ensures c.read_settings-s.ensures (answer_is c.in-Err.ensures) refl refl c.result-in-Err.ensures
