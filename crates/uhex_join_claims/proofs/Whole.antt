-- The lines that are written are a file, and what a reader of each board makes of it. Assumes nothing.
use Prim.Native.Nat.{ℕ, ◌+◌, ◌≤◌}
use mathlib.Core.Path.{◌≡◌, refl, sym, ap, ◌∙◌}
use mathlib.Core.Logic.{◌⊎◌, ⊎_elim}
use mathlib.Core.Bool.{cond}
use mathlib.Core.List.{List, [], ◌∷◌, ◌++◌, append_assoc, append-nil}
use native.Mathlib.Omega.{arith}
use lib.Dec.{eqb}
use lib.ListN.{length}
use Rattle.laws.specs.Stores.{Store}
use Rattle.uhex_claims.specs.Items.{Item, size_of, item}
use Rattle.uhex_claims.specs.Whole.{Section, section_items, Sections, no_section, all_items, how_many, any_gives, File}
use Rattle.uhex_claims.specs.Whole as whole
use Rattle.uhex_claims.specs.State.{between, begin, state_after, stores_for}
use Rattle.uhex_claims.proofs.Runs.{data_all}
use Rattle.uhex_join.specs.Text.{file_lines, file_text}
use Rattle.uhex_join_claims.specs.PlainFile.{within}
use Rattle.uhex_join_claims.proofs.Written.{Written, nothing, more, written_append, written_size}
use Rattle.uhex_join_claims.proofs.Pieces.{Piece, Pieces, next_piece}
use Rattle.uhex_join_claims.proofs.Sections.{stores_append, section, section_written, section_size_lem, is_section, section_stores, section_gives}

module _ (a b : List Store) where
  abbrev pub sections : List Section
  sections = section 0x9900 a ∷ section 0x9903 b ∷ []

  abbrev pub file_items : List Item
  file_items = all_items sections ++ (item 0x01 0 [] ∷ [])

module _ {a b : List Store} (ps : Pieces a) (qs : Pieces b) where
  abbrev s1 : List Item
  s1 = section_items (section 0x9900 a)

  abbrev s2 : List Item
  s2 = section_items (section 0x9903 b)

  all_are : all_items (sections a b) ≡ s1 ++ s2
  unfolding all_items
  all_are = ap (λ (z : List Item). s1 ++ z) (append-nil s2)

  pub file_written : Written (file_lines a b) (file_items a b)
  unfolding file_lines
  file_written =
      rw (all_are, append_assoc s1 s2 (item 0x01 0 [] ∷ []))
      (written_append (section_written 0x9900 (omega arith) ps)
      (written_append (section_written 0x9903 (omega arith) qs)
      (more (record { kind = omega arith; address = omega arith; short = omega arith; bytes = λ i n. absurd (omega arith) }) nothing)))

  in_order : Sections 0 (sections a b)
  in_order =
      whole.section {at = 0} refl (is_section 0x9900 (omega arith) ps)
      (whole.section {at = 0 + size_of s1} (omega (arith, section_size_lem 0x9900 (omega arith) ps)) (is_section 0x9903 (omega arith) qs) no_section)

  after_first : (state_after begin s1).place ≡ between
  unfolding all_items
  after_first =
      let first : Sections 0 (section 0x9900 a ∷ []) = whole.section {at = 0} refl (is_section 0x9900 (omega arith) ps) no_section in
      ap (λ (z : List Item). (state_after begin z).place) (sym (append-nil s1)) ∙ (data_all 0x9900 first begin refl).0

  -- the own board's pieces, those of V1 or those of V2
  pub file_stores : (own n : ℕ) → (own ≡ 0x9900) ⊎ (own ≡ 0x9903)
      → stores_for own n begin (all_items (sections a b)) ≡ within n (cond (eqb own 0x9900) a b)
  file_stores own n board =
      let t = state_after begin s1 in
      ap (stores_for own n begin) all_are
      ∙ stores_append own n begin s1 s2
      ∙ ap (λ (z : List Store). z ++ stores_for own n t s2) (section_stores 0x9900 (omega arith) ps own n begin refl)
      ∙ ap (λ (z : List Store). cond (eqb 0x9900 own) (within n a) [] ++ z) (section_stores 0x9903 (omega arith) qs own n t after_first)
      ∙ ⊎_elim (λ (f : own ≡ 0x9900). rw f (append-nil (within n a))) (λ (f : own ≡ 0x9903). rw f) board

-- of two boards with a piece each
module _ {s t : Store} {ss ts : List Store} (p : Piece s) (ps : Pieces ss) (q : Piece t) (qs : Pieces ts) where
  abbrev a : List Store
  a = s ∷ ss

  abbrev b : List Store
  b = t ∷ ts

  pub is_file : length (file_text a b) ≤ 4194304 → (f : File (file_items a b)) × (f.sections ≡ sections a b) × (f.ending ≡ item 0x01 0 [])
  unfolding how_many any_gives file_text
  is_file h = (
    record {
      sections = sections a b;
      ending = item 0x01 0 [];
      whole = refl;
      ordered = in_order (next_piece p ps) (next_piece q qs);
      ends = refl;
      empty = refl;
      once_v1 = omega arith;
      once_v2 = omega arith;
      data_v1 = rw (section_gives 0x9900 s ss p);
      data_v2 = rw (section_gives 0x9903 t ts q);
      short = omega (arith, written_size (file_written (next_piece p ps) (next_piece q qs)));
    },
    refl,
    refl,
  )
