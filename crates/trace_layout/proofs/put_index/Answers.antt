use mathlib.Core.Path.{◌∙◌}
use Rattle.trace_layout.proofs.Laws.{index_other, index_put}
use Rattle.trace_layout.proofs.put_index.Goals as goal

pub returns-then-index-eq-INDEX : goal.returns-then-index-eq-INDEX
returns-then-index-eq-INDEX c =
    c.copy_from_slice.ensures.after ∙ c.to_le_bytes.ensures ∙ index_put _ _ c.if-index-eq-INDEX.true

pub returns-else-index-eq-INDEX : goal.returns-else-index-eq-INDEX
returns-else-index-eq-INDEX c = index_other _ _ c.if-index-eq-INDEX.false
