use mathlib.Core.Path.{sym, ap}
use lib.ListN.{length}
use Rattle.std.proofs.lemmas.Result.{err_from_is_err_and}
use Rattle.laws.specs.Numbered.{numbered}
use Rattle.laws.proofs.Numbered.{answer_is}
use Rattle.uf2_make.specs.Uf2file.{call_number}
use Rattle.uf2_make.proofs.checks.Checks.{made_right}
use Rattle.uf2_make.proofs.Files.{make_refused, make_made}
use Rattle.uf2_make.proofs.make.Goals as goal

pub returns-in_err-total : goal.returns-in_err-total
returns-in_err-total c =
    let p = err_from_is_err_and c.from_residual.result c.from_residual.ensures.1 in
    rw (p.1, p.2) (ap (numbered call_number) (make_refused _ _ _ _ (answer_is c.in_err-total.ensures)))

pub write_blocks-requires : goal.write_blocks-requires
write_blocks-requires c =
    let a = c.args in
    let r = made_right (length a.image.now) a.start (length a.output.now) _ (sym (answer_is c.in_ok-total.ensures)) in
    record { image_len = r.whole; window = r.window; room = r.space }

pub returns : goal.returns
returns c = ap (numbered call_number) (make_made _ _ _ _ _ (answer_is c.in_ok-total.ensures) c.write_blocks.ensures)
