use Rattle.ihex_data.proofs.Tallied.{put_changed, put_unchanged}
use Rattle.ihex_write.proofs.Lines.{put_record_line}
use native.Mathlib.Omega.{arith}
use Prim.Native.Nat.{◌+◌}
use mathlib.Core.Path.{◌∙◌}
use Rattle.ihex_data.proofs.put_piece.Goals as goal

pub returns-then-changes : goal.returns-then-changes
returns-then-changes c =
    let a = c.args in
    record {
      value = c.with_piece-next.ensures;
      lines = put_changed a.out.now a.place.kind (a.place.at + a.tally.len) a.tally a.upper a.lower a.bytes.now c.changes.ensures c.if-changes.true c.put_word.ensures (c.put_record.ensures ∙ put_record_line _ _ _ _ _ (omega arith));
    }

pub returns : goal.returns
returns c =
    let a = c.args in
    record {
      value = c.with_piece-next.ensures;
      lines = put_unchanged a.out.now a.place.kind (a.place.at + a.tally.len) a.tally a.upper a.lower a.bytes.now c.changes.ensures c.if-changes.false (c.put_record-2.ensures ∙ put_record_line _ _ _ _ _ (omega arith));
    }
