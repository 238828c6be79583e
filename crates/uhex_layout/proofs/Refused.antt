-- Bytes that are no reader are a bad one, and so is a failure that no reader remembers. Assumes nothing.
use Prim.Native.Nat.{ℕ, ◌<◌}
use mathlib.Core.Path.{◌≡◌, refl, ap, ◌∙◌}
use mathlib.Core.Logic.{◌≢◌}
use mathlib.Core.Bool.{true, false, not, ◌||◌, or-true}
use mathlib.Core.List.{List}
use native.Mathlib.Omega.{arith}
use lib.Dec.{ltb}
use lib.ListN.{length}
use borrow.Author.Tests.{eq-eqb, ne_eqb, lt-leb}
use Rattle.settings_layout.specs.Layout.{byte_at}
use Rattle.uhex_grammar.specs.Boards.{is_v1, is_v2}
use Rattle.uhex_effects.specs.declared.Reader.{Reader}
use Rattle.uhex_effects.specs.Reader.{bad_failure, bad_reader}
use Rattle.uhex_layout.specs.Readers.{half_at, reader_state_from, fields_from, no_reader, reader_from}
use Rattle.uhex_layout.proofs.Answers.{kept_number, kept_from}
use Rattle.uhex_layout.proofs.Read.{read_good}

none_bad : bad_reader no_reader ≡ true
unfolding bad_reader bad_failure
none_bad = refl

pub length_bad : (b : List ℕ) → length b ≢ 16 → bad_reader (reader_from b) ≡ true
unfolding reader_from
length_bad b h = rw (ne_eqb (length b) 16 h) none_bad

by_failure : (r : Reader) → bad_failure r.state ≡ true → bad_reader r ≡ true
unfolding bad_reader
by_failure r h = rw h (or-true (not (is_v1 r.own || is_v2 r.own) || ltb 4194304 r.offset))

failed_bad : (n half : ℕ) → kept_number n half ≡ false → bad_failure (reader_state_from 5 n half) ≡ true
unfolding reader_state_from bad_failure
failed_bad n half f = ap not (kept_from n half ∙ f)

module _ (b : List ℕ) (e : length b ≡ 16) where
  pub state_bad : 5 < byte_at b 8 → bad_reader (reader_from b) ≡ true
  unfolding reader_from
  state_bad h = rw (eq-eqb (length b) 16 e, lt-leb (byte_at b 8) 5 h) none_bad

  pub failure_bad : byte_at b 8 ≡ 5 → kept_number (byte_at b 9) (half_at b 10) ≡ false → bad_reader (reader_from b) ≡ true
  unfolding fields_from
  failure_bad k f =
      rw (read_good b e (omega arith))
      (by_failure (fields_from b) (rw k (failed_bad (byte_at b 9) (half_at b 10) f)))
