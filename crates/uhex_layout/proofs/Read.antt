-- A reader that is read, field by field. Assumes nothing.
use Prim.Native.Nat.{ℕ, ◌≤◌}
use mathlib.Core.Path.{◌≡◌}
use mathlib.Core.List.{List}
use lib.ListN.{length}
use borrow.Author.Tests.{eq-eqb, le-leb}
use Rattle.uf2_block.specs.Block.{field_at}
use Rattle.settings_layout.specs.Layout.{byte_at}
use Rattle.uhex_grammar.specs.declared.Boards.{Boards}
use Rattle.uhex_grammar.specs.declared.ReaderState.{ReaderState}
use Rattle.uhex_effects.specs.declared.Reader.{Reader}
use Rattle.uhex_layout.specs.Readers.{half_at, state_at, boards_from, fields_from, reader_from}

abbrev reader_of : ℕ → ℕ → ReaderState → ℕ → Boards → Boards → Reader
reader_of own offset s upper sections_seen data_seen =
    record { own = own; offset = offset; state = s; upper = upper; sections_seen = sections_seen; data_seen = data_seen }

pub same_reader : {r : Reader} {own offset upper : ℕ} {s : ReaderState} {sections_seen data_seen : Boards} → own ≡ r.own → offset ≡ r.offset → s ≡ r.state → upper ≡ r.upper → sections_seen ≡ r.sections_seen → data_seen ≡ r.data_seen → reader_of own offset s upper sections_seen data_seen ≡ r
same_reader a b c d e f = rw (a, b, c, d, e, f)

-- 16 bytes that stand at most at 5
module _ (b : List ℕ) (l : length b ≡ 16) (k : byte_at b 8 ≤ 5) where
  pub read_good : reader_from b ≡ fields_from b
  unfolding reader_from
  read_good = rw (eq-eqb (length b) 16 l, le-leb (byte_at b 8) 5 k)

-- the fields one by one, as the code reads them
pub read_fields : (b : List ℕ) {own offset upper : ℕ} {s : ReaderState} {v w : Boards} → own ≡ half_at b 0 → offset ≡ field_at b 4 → s ≡ state_at b → upper ≡ half_at b 2
    → v ≡ boards_from (byte_at b 12) (byte_at b 13) → w ≡ boards_from (byte_at b 14) (byte_at b 15) → reader_of own offset s upper v w ≡ fields_from b
unfolding fields_from
read_fields b ho hf hs hu hv hw = same_reader ho hf hs hu hv hw
