-- A sector of the flash once the file is whole (02, L9: "that the digest be of the final bytes"). Assumes nothing.
use Rattle.std.specs.Prelude.{ℕ, ◌-◌, ◌*◌, ◌/◌, List, take, drop}
use Rattle.memory.specs.Many.{many}
use Rattle.laws.specs.Over.{over}

-- the address where the sector of an address begins. A place begins with a sector, so a sector of addresses is a sector of the flash.
abbrev pub sector_start : ℕ → ℕ
sector_start address = address / 4096 * 4096

-- what the sector at `base` holds at the end, of an image that begins at `start`: the image's bytes, and "0xFF in the rest of each touched sector" (01).
-- A difference that would be below 0 is 0.
unfoldable pub sector_of : List ℕ → ℕ → ℕ → List ℕ
sector_of image start base =
    over (many 4096 255) (start - base) (take (4096 - (start - base)) (drop (base - start) image))
