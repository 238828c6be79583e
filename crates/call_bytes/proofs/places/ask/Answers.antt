use Rattle.laws.proofs.Numbered.{answer_is}
use Rattle.call_bytes.proofs.places.Places.{ask_low}
use Rattle.call_bytes.proofs.places.Laws.{ask_short, ask_told}
use borrow.Author.Rules.{rules}
use Rattle.call_bytes.proofs.places.ask.Goals as goal

pub returns-then-place-ne-PLACE : goal.returns-then-place-ne-PLACE
returns-then-place-ne-PLACE c = ask_short _ _ _ _ c.if-place-ne-PLACE.true

pub tell-requires : goal.tell-requires
tell-requires c = record { place_len = search rules; low = ask_low _ _ _ (answer_is c.ask.ensures) }

pub returns : goal.returns
returns c = ask_told _ _ _ _ c.if-place-ne-PLACE.false c.read_settings-s.ensures (answer_is c.ask.ensures) c.tell.ensures
