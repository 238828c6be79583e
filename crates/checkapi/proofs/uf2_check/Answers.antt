use Rattle.checkapi.proofs.Laws.{check_call_lem}
use Rattle.checkapi.proofs.uf2_check.Goals as goal

pub returns : goal.returns
returns c =
    let e = c.check-found.ensures in
    record {
      told_after = check_call_lem c.args.settings.now _ _ _ _ _ _ c.read_settings-s.ensures e.value c.tell.ensures;
      left = e.left;
    }
