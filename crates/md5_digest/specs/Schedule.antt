-- The tables of RFC 1321, and where a message's length stands. Assumes nothing.
use Rattle.std.specs.Prelude.{ℕ, ◌+◌, ◌-◌, ◌%◌, List, [], ◌∷◌}

-- ---- 3.4: the tables of the operations

-- "a 64-element table T[1 ... 64] constructed from the sine function": T[i] is "the integer part of 4294967296 times abs(sin(i)), where i is
-- in radians". Counted from 0 here.
unfoldable pub sines : List ℕ
sines =
    3614090360 ∷ 3905402710 ∷ 606105819 ∷ 3250441966 ∷ 4118548399 ∷ 1200080426 ∷ 2821735955 ∷ 4249261313 ∷
    1770035416 ∷ 2336552879 ∷ 4294925233 ∷ 2304563134 ∷ 1804603682 ∷ 4254626195 ∷ 2792965006 ∷ 1236535329 ∷
    4129170786 ∷ 3225465664 ∷ 643717713 ∷ 3921069994 ∷ 3593408605 ∷ 38016083 ∷ 3634488961 ∷ 3889429448 ∷
    568446438 ∷ 3275163606 ∷ 4107603335 ∷ 1163531501 ∷ 2850285829 ∷ 4243563512 ∷ 1735328473 ∷ 2368359562 ∷
    4294588738 ∷ 2272392833 ∷ 1839030562 ∷ 4259657740 ∷ 2763975236 ∷ 1272893353 ∷ 4139469664 ∷ 3200236656 ∷
    681279174 ∷ 3936430074 ∷ 3572445317 ∷ 76029189 ∷ 3654602809 ∷ 3873151461 ∷ 530742520 ∷ 3299628645 ∷
    4096336452 ∷ 1126891415 ∷ 2878612391 ∷ 4237533241 ∷ 1700485571 ∷ 2399980690 ∷ 4293915773 ∷ 2240044497 ∷
    1873313359 ∷ 4264355552 ∷ 2734768916 ∷ 1309151649 ∷ 4149444226 ∷ 3174756917 ∷ 718787259 ∷ 3951481745 ∷ []

-- s of each operation "[abcd k s i]"
unfoldable pub shifts : List ℕ
shifts =
    7 ∷ 12 ∷ 17 ∷ 22 ∷ 7 ∷ 12 ∷ 17 ∷ 22 ∷ 7 ∷ 12 ∷ 17 ∷ 22 ∷ 7 ∷ 12 ∷ 17 ∷ 22 ∷
    5 ∷ 9 ∷ 14 ∷ 20 ∷ 5 ∷ 9 ∷ 14 ∷ 20 ∷ 5 ∷ 9 ∷ 14 ∷ 20 ∷ 5 ∷ 9 ∷ 14 ∷ 20 ∷
    4 ∷ 11 ∷ 16 ∷ 23 ∷ 4 ∷ 11 ∷ 16 ∷ 23 ∷ 4 ∷ 11 ∷ 16 ∷ 23 ∷ 4 ∷ 11 ∷ 16 ∷ 23 ∷
    6 ∷ 10 ∷ 15 ∷ 21 ∷ 6 ∷ 10 ∷ 15 ∷ 21 ∷ 6 ∷ 10 ∷ 15 ∷ 21 ∷ 6 ∷ 10 ∷ 15 ∷ 21 ∷ []

-- ---- 3.1 and 3.2: where the length stands after the whole blocks of a message of n bytes

-- the last part, "a single "1" bit" with its byte, and zeros "so that its length (in bits) is congruent to 448, modulo 512"
abbrev pub length_at : ℕ → ℕ
length_at n = n % 64 + 1 + (119 - n % 64) % 64
