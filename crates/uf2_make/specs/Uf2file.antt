-- A UF2 file that is made of an image (02, L1). Assumes nothing.
use Rattle.std.specs.Prelude.{ℕ, ◌+◌, ◌*◌, ◌/◌, List, length, take, drop, Result, Ok, Err}
use Rattle.laws.specs.Over.{over}
use Rattle.laws.specs.Rows.{rows}
use Rattle.uf2_make.specs.Uf2block.{block_bytes}
use Rattle.uf2_make.specs.declared.checks.MakeError.{MakeError}
use Rattle.uf2_make.specs.Uf2check.{check_of, make_number}

-- ---- the file

-- "an image of whole 256-byte pages": page k
abbrev pub page_of : List ℕ → ℕ → List ℕ
page_of image k = take 256 (drop (256 * k) image)

-- block k, of as many as there are pages
unfoldable pub block_at : List ℕ → ℕ → ℕ → ℕ → List ℕ
block_at image family start k = block_bytes (start + 256 * k) k (length image / 256) family (page_of image k)

-- "write the UF2 blocks in number order"
unfoldable pub file_bytes : List ℕ → ℕ → ℕ → List ℕ
file_bytes image family start = rows (block_at image family start) (length image / 256)

-- ---- a call

-- what is answered, and what the output holds
pub record MakeCall : Type 0 where
  pub answer : Result ℕ MakeError
  pub output : List ℕ

-- both as one value, which the contract names
abbrev pub make_call : Result ℕ MakeError → List ℕ → MakeCall
make_call x l = record { answer = x; output = l }

-- the number of its answer
abbrev pub call_number : MakeCall → ℕ
call_number c = make_number c.answer

-- "A refusal writes nothing; output past the last block stays."
abbrev pub output_of : Result ℕ MakeError → List ℕ → List ℕ → List ℕ
output_of (Err e) file out = out
output_of (Ok n) file out = over out 0 file

unfoldable pub make_of : List ℕ → ℕ → ℕ → List ℕ → MakeCall
make_of image family start out =
    make_call (check_of (length image) start (length out))
    (output_of (check_of (length image) start (length out)) (file_bytes image family start) out)
