-- The refusals of a file, in order. Assumes nothing.
use Prim.Native.Nat.{ℕ, ◌+◌, ◌*◌, ◌/◌, ◌%◌, ◌<◌, ◌≤◌}
use mathlib.Core.Path.{◌≡◌, refl, sym, ap, ◌∙◌}
use mathlib.Core.Logic.{◌≢◌, ◌⊎◌, ⊎_elim}
use mathlib.Core.Bool.{Bool, true, false, not, ◌||◌, or-true}
use mathlib.Core.List.{List}
use lib.Dec.{eqb, ltb, leb}
use lib.ListN.{length}
use borrow.Author.Tests.{eq-eqb, ne_eqb, lt-ltb, le-ltb, le-leb, lt-leb}
use Rattle.uf2_make.specs.Uf2check.{bad_image, bad_start, check_of, make_number}
use Rattle.uf2_make.proofs.checks.Checks.{image_bad, start_bad, past, short, passes}
use Rattle.uf2_make.specs.Uf2file.{make_of}
use Rattle.file_claims.specs.Refusals.{Whole, Started, Refusal, row_50, row_51, row_52, row_53, MakeRefuses, ElseMade}

bad_image_lem : (n : ℕ) → (n ≡ 0) ⊎ (n % 256 ≢ 0) → bad_image n ≡ true
bad_image_lem n h = ⊎_elim (λ (e : n ≡ 0). rw (eq-eqb n 0 e)) (λ (e : n % 256 ≢ 0). rw (ne_eqb (n % 256) 0 e) (or-true (eqb n 0))) h

right_image : (n : ℕ) → Whole n → bad_image n ≡ false
right_image n w = rw (ne_eqb n 0 w.0, eq-eqb (n % 256) 0 w.1)

bad_start_lem : (x : ℕ) → (x < 0x10000000) ⊎ ((0x12000000 ≤ x) ⊎ (x % 256 ≢ 0)) → bad_start x ≡ true
bad_start_lem x h =
    ⊎_elim
    (λ (e : x < 0x10000000). rw (lt-ltb x 0x10000000 e))
    (λ (g : (0x12000000 ≤ x) ⊎ (x % 256 ≢ 0)).
    ⊎_elim
    (λ (e : 0x12000000 ≤ x). simp (le-leb 0x12000000 x e, or-true))
    (λ (e : x % 256 ≢ 0). simp (ne_eqb (x % 256) 0 e, or-true))
    g)
    h

right_start : (x : ℕ) → Started x → bad_start x ≡ false
right_start x w = rw (le-ltb x 0x10000000 w.0, lt-leb 0x12000000 x w.1, eq-eqb (x % 256) 0 w.2)

pub make_refuses : MakeRefuses
unfolding MakeRefuses make_of
make_refuses image out family start k (row_50 h) = ap make_number (sym (image_bad (length image) start (length out) (bad_image_lem (length image) h)))
make_refuses image out family start k (row_51 w h) =
    ap make_number (sym (start_bad (length image) start (length out) (right_image (length image) w) (bad_start_lem start h)))
make_refuses image out family start k (row_52 w v h) =
    ap make_number (sym (past (length image) start (length out) (right_image (length image) w) (right_start start v) h))
make_refuses image out family start k (row_53 w v u h) =
    ap make_number (sym (short (length image) start (length out) (right_image (length image) w) (right_start start v) u h))

pub else_made : ElseMade
unfolding ElseMade make_of
else_made image out family start w v u h =
    sym (passes (length image) start (length out) (right_image (length image) w) (right_start start v) u h refl)
