-- The packed store by absolute bits. Assumes nothing.
use mathlib.Core.Path.{◌≡◌, refl, sym, ap, ◌∙◌}
use mathlib.Core.Bool.{Bool, true, false}
use mathlib.Core.List.{List, [], ◌∷◌}
use Prim.Native.Nat.{ℕ, zero, suc, ◌+◌, ◌*◌, ◌^◌, ◌<◌, ◌≤◌}
use native.Mathlib.Nat.{mod-eq_of_lt}
use native.Mathlib.Omega.{arith}
use lib.ListN.{length, get_or, take, drop}
use lib.Pow.{pow-add}
use lib.Seq.{length-take-le}
use Rattle.laws.proofs.Laws.{any_hit, any_none}
use Rattle.partitions.specs.declared.Arch.{Arch}
use Rattle.partitions.specs.declared.Arch.TheVariants.{Arm, RiscV}
use Rattle.partitions.specs.declared.Link.{Link}
use Rattle.partitions.specs.declared.Link.TheVariants.{Unlinked, OwnedBy, BOf}
use Rattle.partitions.specs.declared.Entry.{Entry}
use Rattle.partitions.specs.declared.Settings.{Settings}
use Rattle.partitions.specs.Settings.{entry_at}
use Rattle.partitions.proofs.Laws.{good_count}
use Rattle.laws.specs.Packing.{total, packed, unpacked, octets, fields_of, bit}
use Rattle.store_entry.specs.EntryBits.{kind_of, index_of, slot, entry_widths, entry_fields}
use Rattle.store_entry.proofs.OneEntry.{Fits}
use Rattle.settings_store.specs.Store.{arch_bit, head_fields, head_in, head_widths, no_restart_at, row_at, store_of, version_of}
use Rattle.settings_store.proofs.write.Rows.{length_row}
use Rattle.settings_claims.specs.Claims.{Narrow}
use Rattle.settings_claims.specs.Bits.{value_of, flag, arch_number, link_kind, link_index, EntryLaid, Laid, StoreIsLaid}
use Rattle.settings_claims.proofs.Written.{good_fields, store_length, head_back, part_back, row_fields}

-- ---- bytes as one number

power : (n : ℕ) → 256 ^ n ≡ 2 ^ total (octets n)
unfolding total octets
power zero = refl
power (suc n) = rw (pow-add 2 8 (total (octets n)), ← power n) (omega arith)

value_packed : (l : List ℕ) → value_of l ≡ packed (octets (length l)) l
unfolding value_of packed octets
value_packed [] = refl
value_packed (c ∷ l) = rw (power (length l), value_packed l)

-- the fields of n bytes are those of their number
pub value_fields : (ws : List ℕ) (n : ℕ) (l : List ℕ) → length l ≡ n → fields_of ws n l ≡ unpacked ws (value_of l)
unfolding fields_of
value_fields ws n l e = ap (unpacked ws) (ap (λ (m : ℕ). packed (octets m) l) (sym e) ∙ sym (value_packed l))

-- ---- words

pub flag_is : (b : Bool) → bit b ≡ flag b
flag_is true = refl
flag_is false = refl

pub arch_is : (a : Arch) → arch_bit a ≡ arch_number a
arch_is Arm = refl
arch_is RiscV = refl

pub kind_is : (l : Link) → kind_of l ≡ link_kind l
kind_is Unlinked = refl
kind_is (OwnedBy k) = refl
kind_is (BOf k) = refl

pub index_is : (l : Link) → index_of l ≡ link_index l
index_is Unlinked = refl
index_is (OwnedBy k) = refl
index_is (BOf k) = refl

module _ (s : Settings) (few : s.count ≤ 16) (fits : (k : ℕ) → k < s.count → Fits (entry_at s.table k)) (narrow : Narrow s) where
  module _ (k : ℕ) (l : k < s.count) where
    abbrev e : Entry
    e = entry_at s.table k

    fields : unpacked entry_widths (value_of (take 22 (drop (2 + 22 * k) (store_of s)))) ≡ entry_fields e
    fields =
        let p = part_back s few fits narrow k l in
        ap (λ (x : List ℕ). unpacked entry_widths (value_of x)) p
        ∙ sym (value_fields entry_widths 22 (row_at s.table k) (length_row s.table k)) ∙ row_fields s few fits narrow k l

    at : (i : ℕ) → get_or (unpacked entry_widths (value_of (take 22 (drop (2 + 22 * k) (store_of s))))) i 0 ≡ get_or (entry_fields e) i 0
    at i = ap (λ (x : List ℕ). get_or x i 0) fields

    entry-laid : EntryLaid e (store_of s) k
    unfolding unpacked total entry_fields slot
    entry-laid =
        let f = fits k l in
        record {
          first = at 0 ∙ mod-eq_of_lt f.first;
          sectors = at 1 ∙ mod-eq_of_lt f.sectors;
          kind = at 2 ∙ kind_is e.link;
          index = at 3 ∙ mod-eq_of_lt f.index ∙ index_is e.link;
          accepts_data = at 4 ∙ flag_is e.«data»;
          accepts_arm_s = at 5 ∙ flag_is e.arm_s;
          accepts_riscv = at 6 ∙ flag_is e.riscv;
          accepts_arm_ns = at 7 ∙ flag_is e.arm_ns;
          shut_arm = at 8 ∙ flag_is e.not_bootable_arm;
          shut_riscv = at 9 ∙ flag_is e.not_bootable_riscv;
          users = at 10 ∙ mod-eq_of_lt (omega (arith, f.users));
          families = λ i. at 11 i ∷ at 12 i ∷ at 13 i ∷ at 14 i ∷ [];
          no_restart = at 15 ∙ flag_is e.no_restart;
          zeros = at 16;
        }

  head_fields_lem : unpacked head_widths (value_of (take 2 (store_of s))) ≡ head_fields s
  unfolding head_in
  head_fields_lem =
      sym (value_fields head_widths 2 (take 2 (store_of s)) (length-take-le 2 (store_of s) (omega (arith, store_length s few fits narrow)))) ∙ head_back s few fits narrow

  head_at : (i : ℕ) → get_or (unpacked head_widths (value_of (take 2 (store_of s)))) i 0 ≡ get_or (head_fields s) i 0
  head_at i = ap (λ (x : List ℕ). get_or x i 0) head_fields_lem

  laid : Laid s (store_of s)
  unfolding unpacked total head_fields version_of no_restart_at
  laid =
      record {
        long = store_length s few fits narrow;
        version_2 = λ k l h. head_at 0 ∙ rw (any_hit (no_restart_at s.table) s.count k l h);
        version_1 = λ h. head_at 0 ∙ rw (any_none (no_restart_at s.table) s.count h);
        count = head_at 1;
        auto_switch = head_at 2 ∙ flag_is s.auto_switch;
        absolute = head_at 3 ∙ flag_is s.absolute;
        arm = head_at 4 ∙ flag_is s.arm;
        riscv = head_at 5 ∙ flag_is s.riscv;
        current = head_at 6 ∙ arch_is s.current;
        zeros = head_at 7;
        entries = λ k l. entry-laid k l;
      }

pub store_is_laid : StoreIsLaid
unfolding StoreIsLaid
store_is_laid s len right good narrow = laid s (good_count s len good) (good_fields s len right good) narrow
