-- A board's section as it is written, and how long it is. Assumes nothing.
use mathlib.Core.Path.{◌≡◌, refl, sym, ap, ◌∙◌}
use mathlib.Core.List.{List, flatten}
use Prim.Native.Nat.{ℕ}
use lib.ListN.{length}
use Rattle.laws.specs.Stores.{Store}
use Rattle.uhex_grammar.specs.Grammar.{data_kind}
use Rattle.ihex_data.specs.Lines.{first_upper, data_length}
use Rattle.uhex_join.specs.Section.{start_with, section_with}
use Rattle.uhex_join.proofs.sections.Sectioned as sections
use Rattle.uhex_join.specs.Text.{start_lines, section_lines, section_size}

module _ (board : ℕ) (ss : List Store) where
  with_board_lem : section_with board (data_kind board) (first_upper ss) ss ≡ section_lines board ss
  unfolding section_with start_with section_lines start_lines
  with_board_lem = refl

  pub as_written : {kind u : ℕ} → kind ≡ data_kind board → u ≡ first_upper ss → section_with board kind u ss ≡ section_lines board ss
  as_written k f = rw (k, f) with_board_lem

  pub length_section : length (flatten (section_lines board ss)) ≡ section_size (data_length ss)
  length_section =
      ap (λ (ls : List (List ℕ)). length (flatten ls)) (sym with_board_lem) ∙ sections.length_section board (data_kind board) (first_upper ss) ss
