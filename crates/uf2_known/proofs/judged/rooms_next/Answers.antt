use borrow.Author.Tests.{eq-eqb, ne_eqb}
use Rattle.uf2_known.proofs.judged.rooms_next.Goals as goal

pub returns-then-before-family : goal.returns-then-before-family
returns-then-before-family c = record { value = simp (eq-eqb _ _ c.if-before-family.true); low = λ low. low }

pub returns : goal.returns
returns c = record {
  value = simp (ne_eqb _ _ c.if-before-family.false, c.rooms_for.ensures.value);
  low = λ low. c.rooms_for.ensures.low;
}
