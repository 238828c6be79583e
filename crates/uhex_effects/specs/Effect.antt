-- What a good record does (01, "Universal Hex, a line at a time", rows 26 to 30). Assumes nothing.
use Rattle.std.specs.Prelude.{ℕ, List, Result}
use Rattle.ihex_record.specs.Record.{word_of}
use Rattle.ihex_record.specs.declared.Record.{Record}
use Rattle.uhex_grammar.specs.Grammar.{role_of}
use Rattle.uhex_grammar.specs.declared.Answer.{Answer}
use Rattle.uhex_effects.specs.declared.Reader.{Reader}
use Rattle.uhex_effects.specs.declared.Effect.{Effect}
use Rattle.uhex_effects.specs.Reader.{effect_of}

-- what it does, by its fields and its data
abbrev pub record_effect : Reader → Record → List ℕ → Result Effect Answer
record_effect r rec d = effect_of r (role_of r.state rec.kind rec.len) rec.address rec.len (word_of d)
