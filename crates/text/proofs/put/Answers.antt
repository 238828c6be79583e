use mathlib.Core.Path.{ap, ◌∙◌}
use lib.ListN.{length}
use Rattle.laws.specs.Over.{over}
use native.Mathlib.Omega.{arith}
use Rattle.laws.proofs.OverLaws.{put_over}
use Rattle.text.proofs.Laws.{no_room, has_room}
use Rattle.text.proofs.put.Goals as goal

pub returns-then-out-at : goal.returns-then-out-at
returns-then-out-at c =
    let both = no_room c.args.out.now c.args.at c.args.part.now (omega arith) in
    record { value = both.0; out_after = both.1 }

pub returns-then-out-at-2 : goal.returns-then-out-at-2
returns-then-out-at-2 c =
    let both = no_room c.args.out.now c.args.at c.args.part.now (omega arith) in
    record { value = both.0; out_after = both.1 }

pub returns : goal.returns
returns c =
    let a = c.args in
    let e = c.copy_from_slice.ensures.after in
    let f = has_room a.out.now a.at a.part.now (omega arith) in
    record {
      value = f.0;
      out_after = put_over a.at (length a.part.now) a.out.now _ (ap length e) ∙ ap (over a.out.now a.at) e ∙ f.1;
    }
