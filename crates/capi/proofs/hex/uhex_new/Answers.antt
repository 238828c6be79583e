use mathlib.Core.Path.{ap, ◌∙◌}
use Rattle.uhex_layout.specs.Readers.{reader_written}
use Rattle.capi.proofs.hex.uhex_new.Goals as goal

pub returns : goal.returns
returns c = c.write_reader.ensures ∙ ap (reader_written c.args.reader.now) c.fresh.ensures
