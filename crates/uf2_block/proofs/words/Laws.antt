-- The laws of a field that is read, at any offset. Assumes nothing.
use mathlib.Core.Path.{◌≡◌, refl, ◌∙◌}
use mathlib.Core.List.{List}
use Prim.Native.Nat.{ℕ, ◌+◌, ◌*◌, ◌<◌, ◌≤◌}
use lib.ListN.{length, get_or}
use borrow.Author.Tests.{le-leb, lt-leb}
use Rattle.laws.specs.Bytes.{number_in}
use Rattle.laws.proofs.BytesLaws.{number_four}
use Rattle.uf2_block.specs.Field.{field_at}

pub field_number : (a : List ℕ) (at : ℕ) → at + 4 ≤ length a → field_at a at ≡ number_in 4 a at
unfolding field_at
field_number a at h = rw (le-leb (at + 4) (length a) h) refl

-- by the weight of each byte, as the code has it
pub field_in_lem : (a : List ℕ) (at : ℕ) → at + 4 ≤ length a
    → field_at a at ≡ get_or a at 0 + 256 * get_or a (at + 1) 0 + 65536 * get_or a (at + 2) 0 + 16777216 * get_or a (at + 3) 0
field_in_lem a at h = field_number a at h ∙ number_four a at

pub field_past : (a : List ℕ) (at : ℕ) → length a < at + 4 → field_at a at ≡ 0
unfolding field_at
field_past a at h = rw (lt-leb (at + 4) (length a) h) refl
