use mathlib.Core.Path.{ap, ◌∙◌}
use Rattle.transfer.specs.declared.Transfer.{Transfer}
use Rattle.settings_layout.specs.Layout.{with_transfer}
use Rattle.capi.proofs.uf2_new.Goals as goal

pub returns : goal.returns
returns c = c.write_transfer.ensures ∙ ap (λ (t : Transfer). with_transfer c.args.transfer.now t.state) c.new.ensures
