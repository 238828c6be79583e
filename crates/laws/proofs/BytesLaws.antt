-- The laws of a number as bytes: that it is read back, over the width, and two and four bytes written out. Assumes nothing.
use mathlib.Core.Path.{◌≡◌, refl, ap}
use mathlib.Core.List.{List, [], ◌∷◌, ◌++◌, append_assoc}
use Prim.Native.Nat.{ℕ, zero, suc, ◌+◌, ◌*◌, ◌/◌, ◌%◌, ◌<◌, ◌^◌}
use Rattle.std.specs.Int.{w32, w64, from_le_bytes, to_le_bytes}
use native.Mathlib.Nat.{pow-suc, div-div-eq-div-mul}
use native.Mathlib.Omega.{arith}
use lib.ListN.{length, get_or, length-append}
use lib.Seq.{get_or-append_seam}
use Rattle.laws.specs.Bytes.{low_first, number_in}

-- ---- any width

pub length_low : (n x : ℕ) → length (low_first n x) ≡ n
unfolding low_first
length_low zero x = refl
length_low (suc n) x = ap suc (length_low n (x / 256))

-- the bytes of a number, wherever they stand, are read as it
pub number_back : (n x : ℕ) (p s : List ℕ) → x < 256 ^ n → number_in n (p ++ (low_first n x ++ s)) (length p) ≡ x
unfolding low_first number_in
number_back zero x p s h = omega arith
number_back (suc n) x p s h =
    let q : List ℕ = p ++ (x % 256 ∷ []) in
    let r : List ℕ = low_first n (x / 256) ++ s in
    let one : get_or (p ++ (x % 256 ∷ r)) (length p) 0 ≡ x % 256 = get_or-append_seam p (x % 256) r 0 in
    let less : x / 256 < 256 ^ n = omega (arith, pow-suc 256 n) in
    let next : number_in n (p ++ (x % 256 ∷ r)) (length p + 1) ≡ x / 256 =
    rw (← append_assoc p (x % 256 ∷ []) r, ← length-append p (x % 256 ∷ [])) (number_back n (x / 256) q s less) in
    rw (one, next) (omega arith)

-- ---- two and four bytes, each by its weight, as code has them

pub number_two : (b : List ℕ) (at : ℕ) → number_in 2 b at ≡ get_or b at 0 + 256 * get_or b (at + 1) 0
unfolding number_in
number_two b at = omega arith

pub number_four : (b : List ℕ) (at : ℕ) → number_in 4 b at ≡ get_or b at 0 + 256 * get_or b (at + 1) 0 + 65536 * get_or b (at + 2) 0 + 16777216 * get_or b (at + 3) 0
unfolding number_in
number_four b at =
    let two : at + 1 + 1 ≡ at + 2 = omega arith in
    let three : at + 2 + 1 ≡ at + 3 = omega arith in
    rw (two, three) (omega arith)

pub low_two : (x : ℕ) → low_first 2 x ≡ x % 256 ∷ x / 256 % 256 ∷ []
unfolding low_first
low_two x = refl

pub low_four : (x : ℕ) → low_first 4 x ≡ x % 256 ∷ x / 256 % 256 ∷ x / 65536 % 256 ∷ x / 16777216 % 256 ∷ []
unfolding low_first
low_four x =
    let two : x / 256 / 256 ≡ x / 65536 = div-div-eq-div-mul x 256 256 in
    let three : x / 65536 / 256 ≡ x / 16777216 = div-div-eq-div-mul x 65536 256 in
    rw (two, three)

-- ---- as the methods of `std` read and write them

pub read_four : (b : List ℕ) (at : ℕ) → from_le_bytes w32 (get_or b at 0 ∷ get_or b (at + 1) 0 ∷ get_or b (at + 2) 0 ∷ get_or b (at + 3) 0 ∷ []) ≡ number_in 4 b at
read_four b at = omega (arith, number_four b at)

pub write_four : (x : ℕ) → to_le_bytes w32 x ≡ low_first 4 x
write_four x = rw low_four

-- the lowest 64 bits of a number of any size
pub write_eight : (x : ℕ) → to_le_bytes w64 (x % 2 ^ 64) ≡ low_first 8 x
unfolding low_first
write_eight x =
    let e0 : x % 2 ^ 64 % 256 ≡ x % 256 = omega arith in
    let e1 : x % 2 ^ 64 / 256 ^ 1 % 256 ≡ x / 256 % 256 = omega arith in
    let e2 : x % 2 ^ 64 / 256 ^ 2 % 256 ≡ x / 256 / 256 % 256 = omega arith in
    let e3 : x % 2 ^ 64 / 256 ^ 3 % 256 ≡ x / 256 / 256 / 256 % 256 = omega arith in
    let e4 : x % 2 ^ 64 / 256 ^ 4 % 256 ≡ x / 256 / 256 / 256 / 256 % 256 = omega arith in
    let e5 : x % 2 ^ 64 / 256 ^ 5 % 256 ≡ x / 256 / 256 / 256 / 256 / 256 % 256 = omega arith in
    let e6 : x % 2 ^ 64 / 256 ^ 6 % 256 ≡ x / 256 / 256 / 256 / 256 / 256 / 256 % 256 = omega arith in
    let e7 : x % 2 ^ 64 / 256 ^ 7 % 256 ≡ x / 256 / 256 / 256 / 256 / 256 / 256 / 256 % 256 = omega arith in
    λ i. e0 i ∷ e1 i ∷ e2 i ∷ e3 i ∷ e4 i ∷ e5 i ∷ e6 i ∷ e7 i ∷ []
