-- A good record of a line: the next reader, the answer, and the image as it is left (01, "Universal Hex, a line at a time"). Assumes nothing.
use Rattle.std.specs.Prelude.{ℕ, ◌+◌, ◌*◌, Bool, cond, List, leb, ltb, length, take, Result, Ok, Err}
use Rattle.laws.specs.Over.{over}
use Rattle.ihex_record.specs.declared.Record.{Record}
use Rattle.uhex_grammar.specs.declared.Answer.{Answer}
use Rattle.uhex_grammar.specs.declared.Answer.TheVariants as answer
use Rattle.uhex_grammar.specs.declared.ReaderState.TheVariants.{Failed}
use Rattle.uhex_effects.specs.declared.Reader.{Reader}
use Rattle.uhex_effects.specs.declared.Effect.{Effect}
use Rattle.uhex_effects.specs.declared.Effect.TheVariants.{Passes, Stores, Ends}
use Rattle.uhex_effects.specs.Reader.{with_state, moved_to}
use Rattle.uhex_reader.specs.declared.replies.Reply.{Reply}
pub use Rattle.uhex_effects.specs.Effect.{record_effect}

-- the next reader and the answer, as the code hands them back
abbrev pub reply : Reader → Answer → Reply
reply r a = record { reader = r; answer = a }

-- what a line leaves, with its answer
pub record LineOutcome : Type 0 where
  pub reader : Reader
  pub answer : Answer
  pub image : List ℕ

-- all of it as one value
abbrev pub line_outcome : Reader → Answer → List ℕ → LineOutcome
line_outcome r a img = record { reader = r; answer = a; image = img }

-- "20 to 30 and 36 make the reader failed and store nothing"
abbrev pub failed_by : Answer → Reader → Reader
failed_by a r = with_state r (Failed (record { answer = a }))

-- a line with one of these answers
abbrev pub failing : Reader → Answer → List ℕ → LineOutcome
failing r a img = line_outcome (failed_by a r) a img

-- ---- a good record, its fields and its data

-- "the latest 04's two bytes, high first, times 65,536, plus the record's address field"
abbrev pub address_of : Reader → Record → ℕ
address_of r rec = 65536 * r.upper + rec.address

-- row 32: "own data of at least one byte, not wholly in the image; not stored, reading goes on"
abbrev pub outside : Reader → Record → List ℕ → Bool
outside r rec img = ltb (length img) (address_of r rec + rec.len)

-- the image with the first n of some bytes from an address on, where they are wholly in it
abbrev pub stored_at : ℕ → ℕ → List ℕ → List ℕ → List ℕ
stored_at at n b img = cond (ltb (length img) (at + n)) img (over img at (take n b))

-- own data, of a line that ends at offset e
unfoldable pub storing : Reader → Record → List ℕ → ℕ → List ℕ → LineOutcome
storing r rec d e img =
    cond (outside r rec img) (line_outcome (moved_to r e) answer.Outside img)
    (line_outcome (moved_to r e) answer.Stored (over img (address_of r rec) (take rec.len d)))

-- "Only 32 to 35 move the offset, by the line as handed, ending included": to e
unfoldable pub effect_outcome : Reader → Record → List ℕ → ℕ → List ℕ → Result Effect Answer → LineOutcome
effect_outcome r rec d e img (Err a) = failing r a img
effect_outcome r rec d e img (Ok (Passes q)) = line_outcome (moved_to q e) answer.Passed img
effect_outcome r rec d e img (Ok (Stores q)) = storing q rec d e img
effect_outcome r rec d e img (Ok (Ends q)) = line_outcome (moved_to q e) answer.Ended img

-- rows 26 to 30 and 32 to 35
unfoldable pub record_outcome : Reader → Record → List ℕ → ℕ → List ℕ → LineOutcome
record_outcome r rec d e img = effect_outcome r rec d e img (record_effect r rec d)

-- the same of any record that is handed in: no line has one of more than 32 bytes
abbrev pub bounded_outcome : Reader → Record → List ℕ → ℕ → List ℕ → LineOutcome
bounded_outcome r rec d e img = cond (leb rec.len 32) (record_outcome r rec d e img) (failing r answer.TooLong img)
