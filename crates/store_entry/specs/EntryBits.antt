-- One entry of the packed store (02, L5). Assumes nothing.
use Rattle.std.specs.Prelude.{ℕ, ◌+◌, ◌%◌, Bool, true, ◌&&◌, ◌||◌, cond, not, List, [], ◌∷◌, length, get_or, ltb, leb, eqb}
use Rattle.partitions.specs.declared.Entry.{Entry}
use Rattle.partitions.specs.declared.Link.{Link}
use Rattle.partitions.specs.declared.Link.TheVariants.{Unlinked, OwnedBy, BOf}
use Rattle.partitions.specs.Settings.{blank_entry}
-- "link kind 2 (none, owned, B), index 4"; "unlinked indexes are zero"
pub use Rattle.partitions.specs.Settings.{link_kind as kind_of, link_target as index_of}
use Rattle.laws.specs.Packing.{bytes_of, fields_of, bit, on}

-- ---- written

-- user family k; "unused slots .. are zero"
unfoldable pub slot : Entry → ℕ → ℕ
slot e k = cond (ltb k e.user_count) (get_or e.users k 0) 0

-- "first sector 13, sectors 14, link kind 2, index 4, accepts data, arm-s, riscv, arm-ns, not-bootable Arm and RISC-V, user count 3, four families
-- of 32, six zeros. Version 2 makes the first of those six "don't restart""
abbrev pub entry_widths : List ℕ
entry_widths = 13 ∷ 14 ∷ 2 ∷ 4 ∷ 1 ∷ 1 ∷ 1 ∷ 1 ∷ 1 ∷ 1 ∷ 3 ∷ 32 ∷ 32 ∷ 32 ∷ 32 ∷ 1 ∷ 5 ∷ []

-- an entry's fields; a number that is too large for its field is kept to the field's width
unfoldable pub entry_fields : Entry → List ℕ
entry_fields e =
    e.first % 8192 ∷ e.sectors % 16384 ∷ kind_of e.link ∷ index_of e.link % 16
    ∷ bit e.«data» ∷ bit e.arm_s ∷ bit e.riscv ∷ bit e.arm_ns
    ∷ bit e.not_bootable_arm ∷ bit e.not_bootable_riscv ∷ e.user_count % 8
    ∷ slot e 0 ∷ slot e 1 ∷ slot e 2 ∷ slot e 3 ∷ bit e.no_restart ∷ 0 ∷ []

-- "Each entry has 176 bits"
unfoldable pub packed_entry : Entry → List ℕ
packed_entry e = bytes_of entry_widths 22 (entry_fields e)

-- ---- read

unfoldable pub link_of : ℕ → ℕ → Link
link_of kind k = cond (eqb kind 1) (OwnedBy k) (cond (eqb kind 2) (BOf k) Unlinked)

-- the entry of such fields
unfoldable pub entry_from : List ℕ → Entry
entry_from f =
    record {
      first = get_or f 0 0;
      sectors = get_or f 1 0;
      users = get_or f 11 0 ∷ get_or f 12 0 ∷ get_or f 13 0 ∷ get_or f 14 0 ∷ [];
      «data» = on (get_or f 4 0);
      arm_s = on (get_or f 5 0);
      riscv = on (get_or f 6 0);
      arm_ns = on (get_or f 7 0);
      user_count = get_or f 10 0;
      not_bootable_arm = on (get_or f 8 0);
      not_bootable_riscv = on (get_or f 9 0);
      link = link_of (get_or f 2 0) (get_or f 3 0);
      no_restart = on (get_or f 15 0);
    }

-- a slot that is not used holds a family
abbrev pub slot_stray : List ℕ → ℕ → Bool
slot_stray f k = leb (get_or f 10 0) k && not (eqb (get_or f (11 + k) 0) 0)

-- "stray bits, kind 3, user count over 4": an index without a link, a family in an unused slot, in version 1 any of the last six bits, in
-- version 2 any of the last five
unfoldable pub stray_from : ℕ → List ℕ → Bool
stray_from version f =
    eqb (get_or f 2 0) 3
    || eqb (get_or f 2 0) 0 && not (eqb (get_or f 3 0) 0)
    || ltb 4 (get_or f 10 0)
    || slot_stray f 0
    || slot_stray f 1
    || slot_stray f 2
    || slot_stray f 3
    || eqb version 1 && not (eqb (get_or f 15 0) 0)
    || not (eqb (get_or f 16 0) 0)

-- of 22 bytes; of another length a blank entry, and stray
unfoldable pub entry_in : List ℕ → Entry
entry_in b = cond (eqb (length b) 22) (entry_from (fields_of entry_widths 22 b)) blank_entry

unfoldable pub stray_in : ℕ → List ℕ → Bool
stray_in version b = cond (eqb (length b) 22) (stray_from version (fields_of entry_widths 22 b)) true

-- ---- compared

-- an entry with its unused slots zero: what is read of an entry that was written
unfoldable pub neat_entry : Entry → Entry
neat_entry e =
    record {
      first = e.first;
      sectors = e.sectors;
      users = slot e 0 ∷ slot e 1 ∷ slot e 2 ∷ slot e 3 ∷ [];
      «data» = e.«data»;
      arm_s = e.arm_s;
      riscv = e.riscv;
      arm_ns = e.arm_ns;
      user_count = e.user_count;
      not_bootable_arm = e.not_bootable_arm;
      not_bootable_riscv = e.not_bootable_riscv;
      link = e.link;
      no_restart = e.no_restart;
    }
