-- An entry that is written: its 34 bytes, and that it is read back from them. Assumes nothing.
use Prim.Native.Nat.{ℕ, ◌<◌, ◌^◌}
use mathlib.Core.Path.{◌≡◌, refl, sym, ap, ◌∙◌}
use mathlib.Core.Bool.{Bool, true, false}
use mathlib.Core.List.{List, [], ◌∷◌, ◌++◌}
use lib.ListN.{length, get_or}
use borrow.Author.Tests.{eq-eqb}
use Rattle.laws.specs.Bytes.{low_first}
use Rattle.uf2_block.specs.Block.{field_at}
use Rattle.uf2_block.specs.Write.{le32}
use Rattle.uf2_block.proofs.WriteLaws.{field_le32}
use Rattle.partitions.specs.declared.Link.{Link}
use Rattle.partitions.specs.declared.Link.TheVariants.{Unlinked, OwnedBy, BOf}
use Rattle.partitions.specs.declared.Entry.{Entry}
use Rattle.partitions.specs.Settings.{link_target}
use Rattle.settings_layout.specs.EntryBytes.{is_on, link_from, entry_from, flag_byte, link_tag, number_bytes, flag_bytes, with_entry}

-- ---- written

pub length_numbers : (e : Entry) → length (number_bytes e) ≡ 24
unfolding number_bytes low_first
length_numbers e = refl

pub length_flags : (e : Entry) → length (flag_bytes e) ≡ 10
unfolding flag_bytes
length_flags e = refl

pub entry_whole : (b : List ℕ) (e : Entry) → length b ≡ 34 → with_entry b e ≡ number_bytes e ++ flag_bytes e
unfolding with_entry
entry_whole b e h = rw (eq-eqb (length b) 34 h)

-- ---- read back

pub flag_back : (b : Bool) → is_on (flag_byte b) ≡ b
flag_back true = refl
flag_back false = refl

link_back : (l : Link) → link_from (link_tag l) (link_target l) ≡ l
unfolding link_from
link_back Unlinked = refl
link_back (OwnedBy k) = refl
link_back (BOf k) = refl

-- an entry has four user families, and its numbers are below 2 ^ 32, as in code they are
pub record Typed (e : Entry) : Type 0 where
  pub first : e.first < 2 ^ 32
  pub sectors : e.sectors < 2 ^ 32
  pub four : e.users ≡ get_or e.users 0 0 ∷ get_or e.users 1 0 ∷ get_or e.users 2 0 ∷ get_or e.users 3 0 ∷ []
  pub user : (i : ℕ) → get_or e.users i 0 < 2 ^ 32

with_users : Entry → List ℕ → Entry
with_users e us =
    record {
      first = e.first;
      sectors = e.sectors;
      users = us;
      «data» = e.«data»;
      arm_s = e.arm_s;
      riscv = e.riscv;
      arm_ns = e.arm_ns;
      user_count = e.user_count;
      not_bootable_arm = e.not_bootable_arm;
      not_bootable_riscv = e.not_bootable_riscv;
      link = e.link;
      no_restart = e.no_restart;
    }

-- the entry that is read from the bytes written for an entry is that entry
pub entry_back : (e : Entry) → Typed e → entry_from (number_bytes e ++ flag_bytes e) ≡ e
unfolding entry_from number_bytes flag_bytes low_first with_users
entry_back e h =
    let a = e.first in
    let b = e.sectors in
    let u = get_or e.users 0 0 in
    let v = get_or e.users 1 0 in
    let w = get_or e.users 2 0 in
    let x = get_or e.users 3 0 in
    let t = flag_bytes e in
    let all = number_bytes e ++ t in
    let at0 : field_at all 0 ≡ a = field_le32 [] a (le32 b ++ le32 u ++ le32 v ++ le32 w ++ le32 x ++ t) h.first in
    let at4 : field_at all 4 ≡ b = field_le32 (le32 a) b (le32 u ++ le32 v ++ le32 w ++ le32 x ++ t) h.sectors in
    let at8 : field_at all 8 ≡ u = field_le32 (le32 a ++ le32 b) u (le32 v ++ le32 w ++ le32 x ++ t) (h.user 0) in
    let at12 : field_at all 12 ≡ v = field_le32 (le32 a ++ le32 b ++ le32 u) v (le32 w ++ le32 x ++ t) (h.user 1) in
    let at16 : field_at all 16 ≡ w = field_le32 (le32 a ++ le32 b ++ le32 u ++ le32 v) w (le32 x ++ t) (h.user 2) in
    let at20 : field_at all 20 ≡ x = field_le32 (le32 a ++ le32 b ++ le32 u ++ le32 v ++ le32 w) x t (h.user 3) in
    let read : entry_from all ≡ with_users e (u ∷ v ∷ w ∷ x ∷ []) =
    rw (
      at0,
      at4,
      at8,
      at12,
      at16,
      at20,
      flag_back e.«data»,
      flag_back e.arm_s,
      flag_back e.riscv,
      flag_back e.arm_ns,
      flag_back e.not_bootable_arm,
      flag_back e.not_bootable_riscv,
      link_back e.link,
      flag_back e.no_restart,
    ) in
    read ∙ ap (with_users e) (sym h.four)
