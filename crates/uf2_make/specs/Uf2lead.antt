-- The fields of a block before its data, written over bytes (02, L1). In a block of 512 bytes, with flag 0x2000, they are `lead_bytes` of uf2block. Assumes nothing.
use Rattle.std.specs.Prelude.{ℕ, List}
use Rattle.uf2_block.specs.Write.{put_at}

-- two magic numbers, flags, address
unfoldable pub first_over : List ℕ → ℕ → ℕ → List ℕ
first_over b flags address = put_at (put_at (put_at (put_at b 0 0x0A324655) 4 0x9E5D5157) 8 flags) 12 address

-- payload size, number, total, family
unfoldable pub last_over : List ℕ → ℕ → ℕ → ℕ → List ℕ
last_over b number total family = put_at (put_at (put_at (put_at b 16 256) 20 number) 24 total) 28 family
