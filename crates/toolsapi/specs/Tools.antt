-- What each call for tools answers and leaves. Assumes nothing.
use Rattle.std.specs.Prelude.{ℕ, cond, List, eqb, length}
use Rattle.md5_digest.specs.Md5.{md5_of, digest_bytes}
use Rattle.uf2_make.specs.Uf2check.{make_number}
use Rattle.uf2_make.specs.Uf2file.{MakeCall, make_of}
use Rattle.uf2_make_regions.specs.File as regions

-- ---- a file made

-- what is returned, and what the output holds
pub record MakeResult : Type 0 where
  pub result : ℕ
  pub output : List ℕ

-- both as one value, which the contract names
abbrev pub make_result : ℕ → List ℕ → MakeResult
make_result n l = record { result = n; output = l }

abbrev pub result_of : MakeCall → MakeResult
result_of c = make_result (make_number c.answer) c.output

-- the refusal's number, and 0 for a file that is made
unfoldable pub make_bytes : List ℕ → ℕ → ℕ → List ℕ → MakeResult
make_bytes image family start out = result_of (make_of image family start out)

-- the same of a file with a region for each sector
unfoldable pub make_regions_bytes : List ℕ → ℕ → ℕ → List ℕ → MakeResult
make_regions_bytes image family start out = result_of (regions.make_of image family start out)

-- ---- a digest

-- the digest of l in 16 bytes; of another length they stay
unfoldable pub digest_over : List ℕ → List ℕ → List ℕ
digest_over out l = cond (eqb (length out) 16) (digest_bytes (md5_of l)) out
