-- Arrivals, settings and lent buffers of real sizes to compute with. Assumes nothing.
use Rattle.std.specs.Prelude.{ℕ, Bool, true, false, List, [], ◌∷◌, ◌++◌, replicate}
use Rattle.laws.specs.Bytes.{low_first}
use Rattle.partitions.specs.Settings.{family_arm_s, arm_only}
use Rattle.partitions.specs.declared.Settings.{Settings}
use Rattle.partitions.specs.declared.Entry.{Entry}
use Rattle.partitions.specs.declared.Arch.TheVariants.{Arm}
use Rattle.partitions.specs.declared.Link.{Link}
use Rattle.partitions.specs.declared.Link.TheVariants.{Unlinked, BOf}
use Rattle.transfer.specs.Transfer.{head_with}
use Rattle.transfer.specs.declared.Kind.{Kind}
use Rattle.transfer.specs.declared.Kind.TheVariants.{Flash}
use Rattle.transfer.specs.declared.Head.{Head}
use Rattle.transfer.specs.declared.State.{State}
use Rattle.arrival.specs.Arrive.{World}

-- a block of a family, "little-endian 32-bit fields": flags, address, payload size, number, total, and the byte that fills its payload
abbrev pub block_of : ℕ → ℕ → ℕ → ℕ → ℕ → ℕ → ℕ → List ℕ
block_of family flags address size number total fill =
    low_first 4 0x0A324655
    ++ low_first 4 0x9E5D5157
    ++ low_first 4 flags
    ++ low_first 4 address
    ++ low_first 4 size
    ++ low_first 4 number
    ++ low_first 4 total
    ++ low_first 4 family
    ++ replicate 256 fill
    ++ replicate 220 0
    ++ low_first 4 0x0AB16F30

-- of arm-s
abbrev pub block_with : ℕ → ℕ → ℕ → ℕ → ℕ → ℕ → List ℕ
block_with flags address size number total fill = block_of family_arm_s flags address size number total fill

-- a data block of 256 bytes: address, number, total, and the byte that fills its payload
abbrev pub arrival_of : ℕ → ℕ → ℕ → ℕ → List ℕ
arrival_of address number total fill = block_with 0x2000 address 256 number total fill

-- a comment, with an address in no window and no payload size that row 9 lets through: number, total
abbrev pub comment_of : ℕ → ℕ → List ℕ
comment_of number total = block_with 0x2001 0xFFFFFF01 477 number total 8

-- an entry: its first sector, how many, whether it accepts arm-s, its user families and how many of them are used, whether it is not bootable
-- for Arm, and its link
abbrev pub entry_with : ℕ → ℕ → Bool → ℕ → List ℕ → Bool → Link → Entry
entry_with from sectors arm n users shut link =
    record {
      first = from;
      sectors = sectors;
      «data» = false;
      arm_s = arm;
      riscv = false;
      arm_ns = false;
      user_count = n;
      users = users;
      not_bootable_arm = shut;
      not_bootable_riscv = false;
      link = link;
      no_restart = false;
    }

-- an unowned entry that accepts arm-s: its first sector, how many, and whether it is not bootable for Arm
abbrev pub entry_of : ℕ → ℕ → Bool → Entry
entry_of from sectors shut = entry_with from sectors true 0 (replicate 4 0) shut Unlinked

-- Arm alone, with a table of which so many entries are used
abbrev pub arm_with : ℕ → List Entry → Settings
arm_with n table =
    record {
      arm = true;
      riscv = false;
      current = Arm;
      auto_switch = false;
      absolute = true;
      count = n;
      table = table;
    }

-- no table, as the program has it
abbrev pub plain : Settings
plain = arm_only true

-- one partition, two sectors from sector 4
abbrev pub partitioned : Settings
partitioned = arm_with 1 (entry_of 4 2 false ∷ replicate 15 (entry_of 0 0 false))

-- entries 0 and 1, of which 0 is not bootable for Arm; so many are used
abbrev pub two_entries : ℕ → Settings
two_entries n = arm_with n (entry_of 0 2 true ∷ entry_of 2 2 false ∷ replicate 14 (entry_of 0 0 false))

-- an entry and its B, which has the user family 0x11 and, not used, 0x22; so many of the two are used
abbrev pub with_user : ℕ → Settings
with_user n = arm_with n (entry_of 0 2 false ∷ entry_with 2 2 false 1 (0x11 ∷ 0x22 ∷ replicate 2 0) false (BOf 0) ∷ replicate 14 (entry_of 0 0 false))

-- the head of a transfer of arm-s of a kind, and of flash
abbrev pub head_to : Kind → ℕ → Head
head_to k total = head_with k family_arm_s total

abbrev pub arm_head : ℕ → Head
arm_head total = head_to Flash total

-- a flash of 65,536 bytes, all of one value, maps of any content, no main RAM, and an XIP RAM of so many bytes, all 5
abbrev pub lent_filled : ℕ → ℕ → State → World
lent_filled fill xip t =
    record {
      transfer = t;
      seen = replicate 16384 9;
      held = record { flash = replicate 65536 fill; sectors = replicate 1024 9; main = []; xip = replicate xip 5 };
    }

-- all 7
abbrev pub lent_with : ℕ → State → World
lent_with xip t = lent_filled 7 xip t

-- a board without RAM, as the program has it
abbrev pub lent_to : State → World
lent_to t = lent_with 0 t

-- a board with XIP RAM (02, L8)
abbrev pub lent_ram : State → World
lent_ram t = lent_with 16384 t
