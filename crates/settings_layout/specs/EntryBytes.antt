-- One entry of the settings' table as bytes, 34 of them. Every number below is a byte, or a field of four (`field_at`). Assumes nothing.
use Rattle.std.specs.Prelude.{ℕ, Bool, not, cond, List, [], ◌∷◌, ◌++◌, eqb, length, get_or}
use Rattle.uf2_block.specs.Block.{field_at}
use Rattle.uf2_block.specs.Write.{le32}
-- a flag that is on is 1
pub use Rattle.laws.specs.Packing.{bit as flag_byte}
use Rattle.partitions.specs.declared.Link.{Link}
use Rattle.partitions.specs.declared.Link.TheVariants.{Unlinked, OwnedBy, BOf}
use Rattle.partitions.specs.declared.Entry.{Entry}
use Rattle.partitions.specs.Settings.{link_target}
-- the tag of a link
pub use Rattle.partitions.specs.Settings.{link_kind as link_tag}

-- the byte at an index, and 0 past the end
abbrev pub byte_at : List ℕ → ℕ → ℕ
byte_at b i = get_or b i 0

-- a flag is on if its byte is not 0
abbrev pub is_on : ℕ → Bool
is_on x = not (eqb x 0)

-- ---- read

-- a tag and an index: 0 none, 1 owned by, 2 B of; any other tag is owned by 255, which makes a used entry bad (`link_tag` of layout)
unfoldable pub link_from : ℕ → ℕ → Link
link_from tag index =
    cond (eqb tag 0) Unlinked
    (cond (eqb tag 1) (OwnedBy index)
    (cond (eqb tag 2) (BOf index) (OwnedBy 255)))

-- "0 to 4 user families": four fields from 8 on
abbrev pub users_from : List ℕ → List ℕ
users_from e = field_at e 8 ∷ field_at e 12 ∷ field_at e 16 ∷ field_at e 20 ∷ []

-- 0 first sector, 4 sectors, 8 four user families, 24 data, 25 arm-s, 26 riscv, 27 arm-ns, 28 number of user families, 29 not bootable
-- for Arm, 30 for RISC-V, 31 link tag, 32 link index, 33 don't restart
unfoldable pub entry_from : List ℕ → Entry
entry_from e =
    record {
      first = field_at e 0;
      sectors = field_at e 4;
      users = users_from e;
      «data» = is_on (byte_at e 24);
      arm_s = is_on (byte_at e 25);
      riscv = is_on (byte_at e 26);
      arm_ns = is_on (byte_at e 27);
      user_count = byte_at e 28;
      not_bootable_arm = is_on (byte_at e 29);
      not_bootable_riscv = is_on (byte_at e 30);
      link = link_from (byte_at e 31) (byte_at e 32);
      no_restart = is_on (byte_at e 33);
    }

-- ---- written

-- an entry's numbers: first sector, sectors and user families
abbrev pub numbers_of : ℕ → ℕ → List ℕ → List ℕ
numbers_of f s us =
    le32 f ++ le32 s ++ le32 (get_or us 0 0) ++ le32 (get_or us 1 0) ++ le32 (get_or us 2 0) ++ le32 (get_or us 3 0)

unfoldable pub number_bytes : Entry → List ℕ
number_bytes e = numbers_of e.first e.sectors e.users

-- and the bytes after them, by the offsets of `entry_from`; the index of an entry that is not linked is 0
unfoldable pub flag_bytes : Entry → List ℕ
flag_bytes e =
    flag_byte e.«data» ∷ flag_byte e.arm_s ∷ flag_byte e.riscv ∷ flag_byte e.arm_ns ∷ e.user_count
    ∷ flag_byte e.not_bootable_arm ∷ flag_byte e.not_bootable_riscv ∷ link_tag e.link ∷ link_target e.link
    ∷ flag_byte e.no_restart ∷ []

-- an entry written over bytes, where there are 34
unfoldable pub with_entry : List ℕ → Entry → List ℕ
with_entry b e = cond (eqb (length b) 34) (number_bytes e ++ flag_bytes e) b
