-- An entry's 22 bytes as six larger fields, as the code has them: what stands before the families, the families, and the last six bits.
-- Assumes nothing.
use Rattle.std.specs.Prelude.{ℕ, ◌+◌, ◌*◌, ◌/◌, ◌%◌, ◌≡◌, cond, List, [], ◌∷◌, eqb, length, get_or, Option, Some, None}
use Rattle.laws.specs.Packing.{packed, octets, bytes_of, fields_of, Fit}
use Rattle.store_entry.specs.declared.chunk_bits.Chunks.{Chunks}

abbrev pub chunk_widths : List ℕ
chunk_widths = 42 ∷ 32 ∷ 32 ∷ 32 ∷ 32 ∷ 6 ∷ []

unfoldable pub chunk_bytes : ℕ → ℕ → ℕ → ℕ → ℕ → ℕ → List ℕ
chunk_bytes h u v w x tail = bytes_of chunk_widths 22 (h ∷ u ∷ v ∷ w ∷ x ∷ tail ∷ [])

unfoldable pub chunks_of : List ℕ → Chunks
chunks_of bs =
    record {
      h = get_or (fields_of chunk_widths 22 bs) 0 0;
      u = get_or (fields_of chunk_widths 22 bs) 1 0;
      v = get_or (fields_of chunk_widths 22 bs) 2 0;
      w = get_or (fields_of chunk_widths 22 bs) 3 0;
      x = get_or (fields_of chunk_widths 22 bs) 4 0;
      tail = get_or (fields_of chunk_widths 22 bs) 5 0;
    }

-- of 22 bytes; of another length, none
unfoldable pub entry_chunks : List ℕ → Option Chunks
entry_chunks b = cond (eqb (length b) 22) (Some (chunks_of b)) None

-- of 22 bytes; of another length, zeros
unfoldable pub chunks_in : List ℕ → Chunks
chunks_in b = cond (eqb (length b) 22) (chunks_of b) (record { h = 0; u = 0; v = 0; w = 0; x = 0; tail = 0 })

-- n bytes, joined to a number
pub record Joined (n : ℕ) (bs : List ℕ) (x : ℕ) : Type 0 where
  pub fit : Fit (octets n) bs
  pub number : packed (octets n) bs ≡ x

-- 40, 32, 32, 32, 32 and 8 bits as 42, 32, 32, 32, 32 and 6
abbrev pub regrouped : ℕ → ℕ → ℕ → ℕ → ℕ → ℕ → Chunks
regrouped a b c d e f =
    record {
      h = a * 4 + b / 1073741824;
      u = b % 1073741824 * 4 + c / 1073741824;
      v = c % 1073741824 * 4 + d / 1073741824;
      w = d % 1073741824 * 4 + e / 1073741824;
      x = e % 1073741824 * 4 + f / 64;
      tail = f % 64;
    }
