-- The MD5 message digest of a list of bytes, in the order and words of RFC 1321. "X + Y" is `add`, the sum of words modulo 2 ^ 32; a byte
-- sequence is words "with the low-order (least significant) byte given first". Assumes nothing.
use Rattle.std.specs.Prelude.{ℕ, zero, suc, ◌+◌, ◌-◌, ◌*◌, ◌/◌, ◌%◌, ◌^◌, cond, List, ◌∷◌, ◌++◌, length, take, drop, replicate, bit_and, bit_or, bit_xor, nat_lt, slice_index}
use Rattle.laws.specs.Bytes.{low_first, number_in}
unfoldable pub use Rattle.md5_digest.specs.Schedule.{sines, shifts}
use Rattle.md5_digest.specs.declared.Digest.{Digest}

-- ---- 2. terminology: "a word is a 32-bit quantity"

-- "addition of words (i.e., modulo-2^32 addition)"
abbrev pub add : ℕ → ℕ → ℕ
add x y = (x + y) % 2 ^ 32

-- "not(X)": "the bit-wise complement of X"
abbrev pub complement : ℕ → ℕ
complement x = 4294967295 - x

-- "X <<< s": "the 32-bit value obtained by circularly shifting (rotating) X left by s bit positions"
unfoldable pub rotate_left : ℕ → ℕ → ℕ
rotate_left x s = bit_or (x * 2 ^ s % 2 ^ 32) (x / 2 ^ (32 - s))

-- ---- 3.1 and 3.2: padding bits and length, after a message of n bytes

-- "a single "1" bit is appended to the message, and then "0" bits are appended", z bytes of zeros here, then "a 64-bit representation of" the
-- length in bits, "the low-order 64 bits"
unfoldable pub pad_with : ℕ → ℕ → List ℕ
pad_with z n = 128 ∷ (replicate z 0 ++ low_first 8 (8 * n))

-- "so that its length (in bits) is congruent to 448, modulo 512": 56 of 64 bytes, "always performed"
abbrev pub pad_of : ℕ → List ℕ
pad_of n = pad_with ((119 - n % 64) % 64) n

-- ---- 3.3: the buffer (A,B,C,D), "low-order bytes first": "word A: 01 23 45 67", ..

abbrev pub start : Digest
start = record { a = 0x67452301; b = 0xefcdab89; c = 0x98badcfe; d = 0x10325476 }

-- ---- 3.4: the message in 16-word blocks

-- "F(X,Y,Z) = XY v not(X) Z", "G(X,Y,Z) = XZ v Y not(Z)", "H(X,Y,Z) = X xor Y xor Z", "I(X,Y,Z) = Y xor (X v not(Z))"
abbrev pub f_of : ℕ → ℕ → ℕ → ℕ
f_of x y z = bit_or (bit_and x y) (bit_and (complement x) z)

abbrev pub g_of : ℕ → ℕ → ℕ → ℕ
g_of x y z = bit_or (bit_and x z) (bit_and y (complement z))

abbrev pub h_of : ℕ → ℕ → ℕ → ℕ
h_of x y z = bit_xor (bit_xor x y) z

abbrev pub i_of : ℕ → ℕ → ℕ → ℕ
i_of x y z = bit_xor y (bit_or x (complement z))

-- "a = b + ((a + F(b,c,d) + X[k] + T[i]) <<< s)", with f for the function's value. The RFC writes [ABCD ..], [DABC ..], [CDAB ..], [BCDA ..]
-- in turn; so after each operation what was a, b, c, d is called b, c, d, a here.
unfoldable pub operation_of : List ℕ → ℕ → ℕ → ℕ → Digest → Digest
operation_of m i f k s =
    record {
      a = s.d;
      b = add s.b (rotate_left (add (add (add s.a f) (slice_index sines i)) (number_in 4 m (4 * k))) (slice_index shifts i));
      c = s.b;
      d = s.c;
    }

-- operation i of the four rounds of 16: F with k = 0, 1, 2, ..; G with k = 1, 6, 11, ..; H with k = 5, 8, 11, ..; I with k = 0, 7, 14, ..
unfoldable pub step_of : List ℕ → ℕ → Digest → Digest
step_of m i s =
    cond (nat_lt i 16) (operation_of m i (f_of s.b s.c s.d) i s)
    (cond (nat_lt i 32) (operation_of m i (g_of s.b s.c s.d) ((5 * i + 1) % 16) s)
    (cond (nat_lt i 48) (operation_of m i (h_of s.b s.c s.d) ((3 * i + 5) % 16) s)
    (operation_of m i (i_of s.b s.c s.d) (7 * i % 16) s)))

-- the first n operations
unfoldable pub steps_of : List ℕ → Digest → ℕ → Digest
steps_of m s zero = s
steps_of m s (suc n) = step_of m n (steps_of m s n)

-- "increment each of the four registers by the value it had before this block was started"
unfoldable pub plus : Digest → Digest → Digest
plus s t =
    record {
      a = add s.a t.a;
      b = add s.b t.b;
      c = add s.c t.c;
      d = add s.d t.d;
    }

-- one block of 64 bytes
unfoldable pub block_of : List ℕ → Digest → Digest
block_of m s = plus s (steps_of m s 64)

-- the first n blocks of a message of whole blocks
unfoldable pub blocks_of : List ℕ → Digest → ℕ → Digest
blocks_of l s zero = s
blocks_of l s (suc n) = block_of (take 64 (drop (64 * n) l)) (blocks_of l s n)

-- the digest of a message: "A, B, C, D" after all blocks of the padded message
unfoldable pub md5_of : List ℕ → Digest
md5_of l = blocks_of (l ++ pad_of (length l)) start ((length l + 72) / 64)

-- ---- 3.5: output. "We begin with the low-order byte of A, and end with the high-order byte of D."

unfoldable pub digest_bytes : Digest → List ℕ
digest_bytes s = low_first 4 s.a ++ (low_first 4 s.b ++ (low_first 4 s.c ++ low_first 4 s.d))
