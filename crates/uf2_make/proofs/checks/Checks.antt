-- Each refusal, by the test that decides, and what holds of a file that is made. Assumes nothing.
use mathlib.Core.Path.{◌≡◌, refl, sym, ap}
use mathlib.Core.Logic.{◌≢◌}
use mathlib.Core.Bool.{Bool, true, false, not, cond, ◌||◌, true≢false}
use Prim.Native.Nat.{ℕ, ◌+◌, ◌*◌, ◌/◌, ◌%◌, ◌<◌, ◌≤◌}
use native.Mathlib.Omega.{arith}
use lib.Dec.{eqb, ltb, leb}
use borrow.Author.Tests.{lt-ltb, le-ltb, eqb-true, eqb-false, ltb-false, leb-false}
use Rattle.laws.proofs.Tests.{or_left, or_right}
use Rattle.std.specs.Prelude.{Result, Ok, Err}
use Rattle.uf2_make.specs.declared.checks.MakeError.{MakeError}
use Rattle.uf2_make.specs.declared.checks.MakeError.TheVariants.{BadImage, BadStart, PastWindow, ShortOutput}
use Rattle.uf2_make.specs.Uf2check.{bad_image, bad_start, check_of}

-- a start that is not refused is below the window's end
pub start_low : (start : ℕ) → bad_start start ≡ false → start < 0x12000000
start_low start e =
    leb-false 0x12000000 start
    (or_left (leb 0x12000000 start) (not (eqb (start % 256) 0)) (or_right (ltb start 0x10000000) (leb 0x12000000 start || not (eqb (start % 256) 0)) e))

module _ (n start room : ℕ) where
  pub image_bad : bad_image n ≡ true → Err BadImage ≡ check_of n start room
  unfolding check_of
  image_bad h = rw h

  module _ (p : bad_image n ≡ false) where
    pub start_bad : bad_start start ≡ true → Err BadStart ≡ check_of n start room
    unfolding check_of
    start_bad h = rw (p, h)

    module _ (q : bad_start start ≡ false) where
      pub past : 0x12000000 < start + n → Err PastWindow ≡ check_of n start room
      unfolding check_of
      past h = rw (p, q, lt-ltb 0x12000000 (start + n) h)

      module _ (u : start + n ≤ 0x12000000) where
        pub short : room < 512 * (n / 256) → Err ShortOutput ≡ check_of n start room
        unfolding check_of
        short h = rw (p, q, le-ltb 0x12000000 (start + n) u, lt-ltb room (512 * (n / 256)) h)

        pub passes : 512 * (n / 256) ≤ room → {m : ℕ} → m ≡ n / 256 → Ok m ≡ check_of n start room
        unfolding check_of
        passes h {m} e = rw (p, q, le-ltb 0x12000000 (start + n) u, le-ltb room (512 * (n / 256)) h, e)

-- what holds where m blocks are made
pub record Right (n start room m : ℕ) : Type 0 where
  pub some : 1 ≤ m
  pub whole : n ≡ 256 * m
  pub low : 0x10000000 ≤ start
  pub aligned : start % 256 ≡ 0
  pub window : start + 256 * m ≤ 0x12000000
  pub space : 512 * m ≤ room

-- no test but the last branch makes a file
made_tests : (a b c d : Bool) (k m : ℕ) → cond a (Err BadImage) (cond b (Err BadStart) (cond c (Err PastWindow) (cond d (Err ShortOutput) (Ok k)))) ≡ Ok m
    → (a ≡ false) × (b ≡ false) × (c ≡ false) × (d ≡ false) × (k ≡ m)
made_tests true b c d k m e = cc
made_tests false true c d k m e = cc
made_tests false false true d k m e = cc
made_tests false false false true k m e = cc
made_tests false false false false k m e = (refl, refl, refl, refl, cc)

not_false : (b : Bool) → not b ≡ false → b ≡ true
not_false true e = refl
not_false false e = absurd (true≢false e)

pub made_right : (n start room m : ℕ) → check_of n start room ≡ Ok m → Right n start room m
unfolding check_of
made_right n start room m e =
    let f = made_tests (eqb n 0 || not (eqb (n % 256) 0)) (ltb start 0x10000000 || (leb 0x12000000 start || not (eqb (start % 256) 0))) (ltb 0x12000000 (start + n)) (ltb room (512 * (n / 256))) (n / 256) m e in
    let w : n % 256 ≡ 0 = eqb-true (n % 256) 0 (not_false (eqb (n % 256) 0) (or_right (eqb n 0) (not (eqb (n % 256) 0)) f.0)) in
    let u : start + n ≤ 0x12000000 = ltb-false 0x12000000 (start + n) f.2 in
    let r : 512 * (n / 256) ≤ room = ltb-false room (512 * (n / 256)) f.3 in
    let k : n / 256 ≡ m = f.4 in
    let z : n ≢ 0 = eqb-false n 0 (or_left (eqb n 0) (not (eqb (n % 256) 0)) f.0) in
    let l : 0x10000000 ≤ start = ltb-false start 0x10000000 (or_left (ltb start 0x10000000) (leb 0x12000000 start || not (eqb (start % 256) 0)) f.1) in
    let o = or_right (ltb start 0x10000000) (leb 0x12000000 start || not (eqb (start % 256) 0)) f.1 in
    let a : start % 256 ≡ 0 = eqb-true (start % 256) 0 (not_false (eqb (start % 256) 0) (or_right (leb 0x12000000 start) (not (eqb (start % 256) 0)) o)) in
    record { some = omega (arith, z); whole = omega arith; low = l; aligned = a; window = omega arith; space = omega arith }
