-- The laws of the calls. Assumes nothing.
use Prim.Native.Nat.{ℕ}
use mathlib.Core.Path.{◌≡◌, ap, ◌∙◌}
use mathlib.Core.Logic.{◌≢◌}
use mathlib.Core.List.{List}
use lib.ListN.{length}
use borrow.Author.Tests.{eq-eqb, ne_eqb}
use Rattle.laws.specs.Numbered.{numbered}
use Rattle.laws.proofs.Numbered.{answer_is}
use Rattle.md5_digest.specs.declared.Digest.{Digest}
use Rattle.md5_digest.specs.Md5.{md5_of, digest_bytes}
use Rattle.std.specs.Prelude.{Result}
use Rattle.uf2_make.specs.declared.checks.MakeError.{MakeError}
use Rattle.uf2_make.specs.Uf2check.{make_number}
use Rattle.uf2_make.specs.Uf2file.{make_call, call_number, make_of}
use Rattle.uf2_make_regions.specs.File as regions
use Rattle.uhex_join.specs.Join.{Joined, join_call, join_number, join_of}
use Rattle.toolsapi.specs.Join.{joined_result, join_return, join_return_of, join_bytes}
use Rattle.toolsapi.specs.Tools.{make_result, result_of, make_bytes, make_regions_bytes, digest_over}

pub make_told : (image : List ℕ) (family start : ℕ) (out : List ℕ) {n : ℕ} {x : Result ℕ MakeError} {b : List ℕ}
    → numbered call_number (make_call x b) ≡ numbered call_number (make_of image family start out) → n ≡ make_number x → make_result n b ≡ make_bytes image family start out
unfolding make_bytes
make_told image family start out {n} {x} {b} e h = ap (λ (k : ℕ). make_result k b) h ∙ ap result_of (answer_is e)

pub regions_told : (image : List ℕ) (family start : ℕ) (out : List ℕ) {n : ℕ} {x : Result ℕ MakeError} {b : List ℕ}
    → numbered call_number (make_call x b) ≡ numbered call_number (regions.make_of image family start out) → n ≡ make_number x
    → make_result n b ≡ make_regions_bytes image family start out
unfolding make_regions_bytes
regions_told image family start out {n} {x} {b} e h = ap (λ (k : ℕ). make_result k b) h ∙ ap result_of (answer_is e)

module _ (out l : List ℕ) where
  pub digest_other : length out ≢ 16 → out ≡ digest_over out l
  unfolding digest_over
  digest_other h = rw (ne_eqb (length out) 16 h)

  pub digest_told : length out ≡ 16 → {b : List ℕ} {x : Digest} → b ≡ digest_bytes x → x ≡ md5_of l → b ≡ digest_over out l
  unfolding digest_over
  digest_told h {b} {x} e k = e ∙ ap digest_bytes k ∙ rw (eq-eqb (length out) 16 h)

-- ---- one file from two

pub joined_told : (a b out : List ℕ) {n : ℕ} {x : Joined} {o : List ℕ} → numbered join_number (join_call x o) ≡ numbered join_number (join_of a b out)
    → n ≡ joined_result x → join_return n o ≡ join_bytes a b out
unfolding join_bytes
joined_told a b out {n} {x} {o} e h = ap (λ (k : ℕ). join_return k o) h ∙ ap join_return_of (answer_is e)
