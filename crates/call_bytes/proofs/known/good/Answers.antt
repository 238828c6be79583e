use mathlib.Core.Path.{sym, ◌∙◌}
use Rattle.call_bytes.proofs.known.Laws.{good_without, enabled_arm, enabled_riscv}
use Rattle.call_bytes.proofs.known.good.Goals as goal

pub returns-then-byte-eq0 : goal.returns-then-byte-eq0
returns-then-byte-eq0 c =
    let none = c.requires in
    c.on.ensures ∙ sym (good_without _ none _ ∙ enabled_arm _ none (sym c.byte.ensures ∙ c.if-byte-eq0.true))

pub returns-else-byte-eq0 : goal.returns-else-byte-eq0
returns-else-byte-eq0 c =
    let none = c.requires in
    c.on-else-byte-eq0.ensures ∙ sym (good_without _ none _ ∙ enabled_riscv _ none (λ e. c.if-byte-eq0.false (c.byte.ensures ∙ e)))
