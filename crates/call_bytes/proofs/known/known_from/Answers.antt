use mathlib.Core.Path.{ap, ◌∙◌}
use Rattle.uf2_known.specs.Verdict.{known_of}
use Rattle.call_bytes.proofs.known.known_from.Goals as goal

pub returns-else-count-eq0 : goal.returns-else-count-eq0
returns-else-count-eq0 c =
    let x = c.args in
    record {
      value = c.known_of.ensures.value ∙ ap (λ s. known_of s x.lens x.m x.k x.arrival.now) c.read_settings-settings.ensures;
      low = c.known_of.ensures.low;
    }
