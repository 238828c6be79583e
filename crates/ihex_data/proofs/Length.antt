-- How many characters the lines of the data have: as many as are counted, for every type, and an even number. Assumes nothing.
use mathlib.Core.Path.{◌≡◌, refl, sym, ◌∙◌}
use mathlib.Core.Bool.{Bool, true, false, cond}
use mathlib.Core.List.{List, [], ◌∷◌, flatten}
use Prim.Native.Nat.{ℕ, ◌%◌}
use native.Mathlib.Omega.{arith}
use lib.ListN.{length}
use Rattle.laws.specs.Stores.{Store}
use Rattle.ihex_record.specs.Types.{data_type}
use Rattle.ihex_data.specs.declared.cuts.Tally.{Tally}
use Rattle.ihex_data.specs.Lines.{upper_of, data_lines, data_length}
use Rattle.ihex_data.specs.Tally.{fresh_tally, changes, tally_piece, tally_all}
use Rattle.ihex_data.proofs.Tallied.{length_pieces, fresh_lines}

length_kept : (kind : ℕ) (ss : List Store) → length (flatten (data_lines kind ss)) ≡ (tally_all fresh_tally ss).len
length_kept kind ss = rw (← fresh_lines kind ss) (omega (arith, length_pieces kind fresh_tally ss))

pub kept_length : (ss : List Store) → (tally_all fresh_tally ss).len ≡ data_length ss
unfolding data_length
kept_length ss = sym (length_kept data_type ss)

pub length_data_lines : (kind : ℕ) (ss : List Store) → length (flatten (data_lines kind ss)) ≡ data_length ss
length_data_lines kind ss = length_kept kind ss ∙ kept_length ss

-- every line has an even number of characters
either_even : (b : Bool) → cond b 16 0 % 2 ≡ 0
either_even true = refl
either_even false = refl

tally_even : (t : Tally) (ss : List Store) → t.len % 2 ≡ 0 → (tally_all t ss).len % 2 ≡ 0
unfolding tally_all tally_piece
tally_even t [] e = e
tally_even t (s ∷ ss) e =
    tally_even (tally_piece t (upper_of s) (length s.bytes)) ss (omega (arith, either_even (changes t (upper_of s))))

pub length_even : (ss : List Store) → data_length ss % 2 ≡ 0
length_even ss = rw (← kept_length ss) (tally_even fresh_tally ss refl)
