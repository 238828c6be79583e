-- A section: how long it is, and its lines one after the other. Assumes nothing.
use mathlib.Core.Path.{◌≡◌, refl, sym, ap, ◌∙◌}
use mathlib.Core.List.{List, ◌++◌, flatten}
use Prim.Native.Nat.{ℕ, ◌+◌, ◌%◌}
use native.Mathlib.Omega.{arith}
use lib.ListN.{length, length-append}
use Rattle.laws.specs.Stores.{Store}
use Rattle.ihex_record.specs.Types.{block_start}
use Rattle.ihex_record.specs.Write.{record_line}
use Rattle.ihex_write.specs.Put.{put_line, put_lines}
use Rattle.ihex_write.proofs.Line.{length_line}
use Rattle.ihex_write.proofs.Lines.{put_append, length_flatten}
use Rattle.ihex_data.specs.declared.Body.{Body}
use Rattle.ihex_data.specs.Pieces.{pieces_of}
use Rattle.ihex_data.specs.Lines.{word_bytes, upper_line, data_lines, data_length}
use Rattle.ihex_data.specs.Scan.{body_of}
use Rattle.ihex_data.proofs.Tallied.{length_upper}
use Rattle.ihex_data.proofs.Length.{length_data_lines, length_even}
use Rattle.ihex_write.specs.Fill.{missing, fill_lines}
use Rattle.ihex_write.proofs.filling.Filled.{length_fill}
use Rattle.uhex_join.specs.Section.{start_with, section_with, section_size}

pub body_length : (r : Body) (s : List ℕ) → r ≡ body_of s → r.len ≡ data_length (pieces_of s)
unfolding body_of
body_length r s e = ap (λ (x : Body). x.len) e

module _ (board kind u : ℕ) (ss : List Store) where
  abbrev name_line : List ℕ
  name_line = record_line block_start 0 (word_bytes board)

  length_name : length name_line ≡ 16
  length_name = length_line block_start 0 (word_bytes board)

  length_start : length (flatten (start_with board kind u ss)) ≡ 32 + data_length ss
  unfolding start_with flatten
  length_start =
      let body = flatten (data_lines kind ss) in
      omega (arith, length-append (upper_line u) (name_line ++ body), length-append name_line body, length_upper u, length_name, length_data_lines kind ss)

  pub length_section : length (flatten (section_with board kind u ss)) ≡ section_size (data_length ss)
  unfolding section_with
  length_section =
      let n = 32 + data_length ss in
      let even : missing n % 2 ≡ 0 = omega (arith, length_even ss) in
      length_flatten (start_with board kind u ss) (fill_lines (missing (length (flatten (start_with board kind u ss)))))
      ∙ rw length_start (omega (arith, length_fill (missing n) even))

  put_start : (out : List ℕ) (at : ℕ) {one two three : List ℕ} → one ≡ put_line out at (upper_line u) → two ≡ put_line one (at + 16) name_line
      → three ≡ put_lines two (at + 32) (data_lines kind ss) → three ≡ put_lines out at (start_with board kind u ss)
  unfolding start_with put_lines
  put_start out at e f g =
      let a : at + 16 ≡ at + length (upper_line u) = omega (arith, length_upper u) in
      let b : at + 32 ≡ at + length (upper_line u) + length name_line = omega (arith, length_upper u, length_name) in
      g ∙ rw (f, e, a, b) refl

  pub section_put : (out : List ℕ) (at : ℕ) {len m : ℕ} {one two three four : List ℕ} → len ≡ data_length ss → one ≡ put_line out at (upper_line u)
      → two ≡ put_line one (at + 16) name_line → three ≡ put_lines two (at + 32) (data_lines kind ss)
      → four ≡ put_lines three (at + (32 + len)) (fill_lines (missing (32 + len))) → m ≡ section_size len
      → (m ≡ section_size (data_length ss)) × (four ≡ put_lines out at (section_with board kind u ss))
  unfolding section_with
  section_put out at r a b c d e =
      let start = put_start out at a b c in (
        rw (e, r) refl,
        d
            ∙ rw (r, start, ← length_start)
            (sym (put_append out at (start_with board kind u ss) (fill_lines (missing (length (flatten (start_with board kind u ss))))))),
      )
