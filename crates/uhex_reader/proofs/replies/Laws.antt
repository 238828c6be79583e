-- Laws of a good record of a line, one for each way that the code leaves. Assumes nothing.
use Prim.Native.Nat.{ℕ, ◌+◌, ◌≤◌, ◌<◌}
use mathlib.Core.Path.{◌≡◌, ap, ◌∙◌}
use mathlib.Core.Bool.{cond}
use mathlib.Core.List.{List}
use lib.ListN.{length, take}
use lib.Dec.{ltb}
use Rattle.std.specs.Prelude.{Result}
use borrow.Author.Tests.{le-ltb, lt-leb, le-leb}
use Rattle.laws.specs.Over.{over}
use Rattle.laws.proofs.Tests.{split}
use Rattle.ihex_record.specs.declared.Record.{Record}
use Rattle.uhex_grammar.specs.declared.Answer.{Answer}
use Rattle.uhex_grammar.specs.declared.Answer.TheVariants.{Outside, Stored, TooLong}
use Rattle.uhex_effects.specs.declared.Reader.{Reader}
use Rattle.uhex_effects.specs.declared.Effect.{Effect}
use Rattle.uhex_effects.specs.Reader.{moved_to}
use Rattle.uhex_reader.specs.declared.replies.Reply.{Reply}
use Rattle.uhex_reader.specs.Outcome.{LineOutcome, line_outcome, reply, failed_by, failing, address_of, outside, stored_at, storing, effect_outcome, record_effect, record_outcome, bounded_outcome}

-- ---- own data

-- of bytes from an address on, the answer and the image
module _ (at n : ℕ) (b img : List ℕ) where
  pub at_inside : (new : List ℕ) → at + n ≤ length img → new ≡ over img at (take n b) → (Stored ≡ cond (ltb (length img) (at + n)) Outside Stored) × (new ≡ stored_at at n b img)
  at_inside new h e = (rw (le-ltb (length img) (at + n) h), rw (le-ltb (length img) (at + n) h) e)

-- both, as the code stores a record's data
pub stored_by : (r : Reader) (rec : Record) (d : List ℕ) (e : ℕ) (img new : List ℕ) (a : Answer) (x : Reply)
    → a ≡ cond (outside r rec img) Outside Stored → new ≡ stored_at (address_of r rec) rec.len d img → x ≡ reply (moved_to r e) a
    → line_outcome x.reader x.answer new ≡ storing r rec d e img
unfolding storing
stored_by r rec d e img new a x h k f =
    ap (λ (y : Reply). line_outcome y.reader y.answer new) f
    ∙ ap (λ (b : Answer). line_outcome (moved_to r e) b new) h
    ∙ ap (line_outcome (moved_to r e) (cond (outside r rec img) Outside Stored)) k
    ∙ split (outside r rec img) (λ y. rw y) (λ y. rw y)

-- ---- a good record, by its effect

pub applied_by : (r : Reader) (rec : Record) (d : List ℕ) (e : ℕ) (img : List ℕ) (s : Result Effect Answer) (o : LineOutcome) → s ≡ record_effect r rec d → o ≡ effect_outcome r rec d e img s
    → o ≡ record_outcome r rec d e img
unfolding record_outcome
applied_by r rec d e img s o f g = g ∙ ap (effect_outcome r rec d e img) f

-- ---- a line that fails

pub line_fails : (r : Reader) (img : List ℕ) (a : Answer) (x : Reply) → x ≡ reply (failed_by a r) a → line_outcome x.reader x.answer img ≡ failing r a img
line_fails r img a x h = ap (λ (y : Reply). line_outcome y.reader y.answer img) h

-- ---- a record that is handed in

module _ (r : Reader) (rec : Record) (d : List ℕ) (e : ℕ) (img : List ℕ) where
  pub bounded_over : 32 < rec.len → bounded_outcome r rec d e img ≡ failing r TooLong img
  bounded_over l = simp (lt-leb _ _ l)

  pub bounded_fits : rec.len ≤ 32 → bounded_outcome r rec d e img ≡ record_outcome r rec d e img
  bounded_fits l = simp (le-leb _ _ l)
