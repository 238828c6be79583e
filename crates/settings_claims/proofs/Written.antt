-- A store that is written and read gives the settings back in their canonical form. Assumes nothing.
use mathlib.Core.Path.{◌≡◌, refl, sym, ap, ◌∙◌}
use mathlib.Core.Bool.{true, false, cond, not, ◌&&◌, ◌||◌}
use mathlib.Core.List.{List, ◌++◌}
use Rattle.std.specs.Prelude.{Ok, Err}
use Prim.Native.Nat.{ℕ, ◌+◌, ◌*◌, ◌%◌, ◌<◌, ◌≤◌}
use native.Mathlib.Omega.{arith}
use lib.Dec.{leb, eqb}
use lib.ListN.{length, take, drop, length-append}
use lib.Seq.{take_at, drop_at, drop-drop}
use borrow.Author.Tests.{le-ltb, eq-eqb, eqb-false, leb-true, leb-false, ltb-false}
use Rattle.laws.specs.Sets.{any}
use Rattle.laws.specs.Rows.{rows}
use Rattle.laws.proofs.Tests.{split, or_left, or_right, and_right}
use Rattle.laws.proofs.Laws.{any_none, any_all, any_cong}
use Rattle.laws.proofs.RowsLaws.{length_rows, part_rows}
use Rattle.memory.specs.Flash.{flash_length}
use Rattle.partitions.specs.declared.Arch.{Arch}
use Rattle.partitions.specs.declared.Arch.TheVariants.{Arm, RiscV}
use Rattle.partitions.specs.declared.Link.{Link}
use Rattle.partitions.specs.declared.Link.TheVariants.{Unlinked, OwnedBy, BOf}
use Rattle.partitions.specs.declared.Entry.{Entry}
use Rattle.partitions.specs.declared.Settings.{Settings}
use Rattle.partitions.specs.Settings.{link_is_none, link_target, entry_at, no_sectors, runs_past, shares_sector, links_up, links_to_b, many_users, reserved_user, bad_entry, good_settings}
use Rattle.partitions.specs.Table.{table_of}
use Rattle.partitions.proofs.Laws.{good_count, good_entry, good_fits, good_off}
use Rattle.partitions.proofs.Tables.{table_at, table_cong}
use Rattle.laws.specs.Packing.{total, unpacked, octets, bytes_of, fields_of, Fit, none, one, on}
use Rattle.laws.proofs.Widths.{fields_bytes, bit_lt, on_bit}
use Rattle.store_entry.specs.EntryBits.{index_of, entry_widths, entry_fields, packed_entry, entry_in, stray_in, neat_entry}
use Rattle.store_entry.proofs.ReadBack.{even}
use Rattle.store_entry.proofs.OneEntry.{entry_back as fields_back}
use Rattle.store_entry.proofs.OneEntry.{Fits, entry_fit, entry_neat}
use Rattle.settings_store.specs.declared.write.StoreError.TheVariants.{BadSettings}
use Rattle.settings_store.specs.Store.{arch_bit, arch_from, entry_of, head_fields, head_in, head_widths, no_settings, part_in, read_head, read_number, read_of, no_restart_at, row_at, settings_in, store_of, stray_at, strays_in, version_of}
use Rattle.settings_store.proofs.write.Rows.{length_row}
use Rattle.settings_claims.specs.Claims.{Narrow, neat, neat_at, WrittenReadsBack, RefusalsHaveNone, NoSettingsAreBad}
use Rattle.settings_claims.proofs.Compared.{Few, good_neat}

-- ---- the entries of good settings fit

index_low : (l : Link) (k : ℕ) → k < 16 → not (link_is_none l) && leb k (link_target l) ≡ false → index_of l < 16
index_low Unlinked k h e = omega arith
index_low (OwnedBy j) k h e = let g = leb-false k j e in omega arith
index_low (BOf j) k h e = let g = leb-false k j e in omega arith

flash_limit : (len : ℕ) → flash_length len ≡ true → len ≤ 33554432
unfolding flash_length
flash_limit len e = leb-true len 33554432 (and_right (eqb (len % 4096) 0 && leb 4096 len) (leb len 33554432) e)

module _ (s : Settings) (len : ℕ) (right : flash_length len ≡ true) (good : good_settings s len ≡ true) where
  pub good_fields : (k : ℕ) → k < s.count → Fits (entry_at s.table k)
  unfolding bad_entry
  good_fields k l =
      let t = s.table in
      let e = entry_at t k in
      let few = good_count s len good in
      let room = good_fits s len good k l in
      let limit = flash_limit len right in
      let h7 = good_entry s len good k l in
      let h6 = or_left (no_sectors e || runs_past len e || shares_sector t s.count k || links_up t k || links_to_b t k || many_users e) (reserved_user e) h7 in
      let h5 = or_left (no_sectors e || runs_past len e || shares_sector t s.count k || links_up t k || links_to_b t k) (many_users e) h6 in
      let h4 = or_left (no_sectors e || runs_past len e || shares_sector t s.count k || links_up t k) (links_to_b t k) h5 in
      let h3 = or_left (no_sectors e || runs_past len e || shares_sector t s.count k) (links_up t k) h4 in
      let h2 = or_left (no_sectors e || runs_past len e) (shares_sector t s.count k) h3 in
      let some = eqb-false e.sectors 0 (or_left (no_sectors e) (runs_past len e) h2) in
      let users = ltb-false 4 e.user_count (or_right (no_sectors e || runs_past len e || shares_sector t s.count k || links_up t k || links_to_b t k) (many_users e) h6) in
      let up = or_right (no_sectors e || runs_past len e || shares_sector t s.count k) (links_up t k) h4 in
      record { first = omega arith; sectors = omega arith; index = index_low e.link k (omega arith) up; users = users }

pub good_few : (s : Settings) (len : ℕ) → flash_length len ≡ true → good_settings s len ≡ true → Few s
good_few s len right good = record { entries = good_count s len good; users = λ k l. (good_fields s len right good k l).users }

-- ---- the version

module _ (s : Settings) where
  version_known : eqb (version_of s) 1 || eqb (version_of s) 2 ≡ true
  unfolding version_of
  version_known = split (any s.count (no_restart_at s.table)) (λ e. rw e) (λ e. rw e)

  version_low : version_of s < 16
  unfolding version_of
  version_low = split (any s.count (no_restart_at s.table)) (λ e. rw e (omega arith)) (λ e. rw e (omega arith))

  -- in version 1 no used entry has "don't restart"
  pub version_old : version_of s ≡ 1 → any s.count (no_restart_at s.table) ≡ false
  unfolding version_of
  version_old v = split (any s.count (no_restart_at s.table)) (λ e. let z : ◌≡◌ {A = ℕ} 2 1 = rw e at v in absurd (omega arith)) (λ e. e)

  -- version 2 is not needless
  version_needed : eqb (version_of s) 2 && not (any s.count (no_restart_at s.table)) ≡ false
  unfolding version_of
  version_needed = split (any s.count (no_restart_at s.table)) (λ e. rw e) (λ e. rw e)

-- ---- the bytes, part by part

pub head_even : total head_widths ≡ total (octets 2)
unfolding total octets
head_even = refl

arch_back : (a : Arch) → arch_from (on (arch_bit a)) ≡ a
arch_back Arm = refl
arch_back RiscV = refl

arch_lt : (a : Arch) → arch_bit a < 2
arch_lt Arm = omega arith
arch_lt RiscV = omega arith

module _ (s : Settings) (few : s.count ≤ 16) (fits : (k : ℕ) → k < s.count → Fits (entry_at s.table k)) (narrow : Narrow s) where
  abbrev head : List ℕ
  head = bytes_of head_widths 2 (head_fields s)

  abbrev tail : List ℕ
  tail = rows (row_at s.table) s.count

  pub head_fit : Fit head_widths (head_fields s)
  unfolding head_fields
  head_fit =
      one {w = 4} {v = version_of s} (version_low s) (one {w = 5} {v = s.count} (omega arith) (one {w = 1} (bit_lt s.auto_switch) (one {w = 1} (bit_lt s.absolute) (one {w = 1} (bit_lt s.arm) (one {w = 1} (bit_lt s.riscv) (one {w = 1} (arch_lt s.current) (one {w = 2} {v = 0} (omega arith) none)))))))

  pub head_length : length head ≡ 2
  unfolding bytes_of unpacked octets
  head_length = refl

  tail_length : length tail ≡ 22 * s.count
  tail_length = length_rows 22 s.count (row_at s.table) (λ j l. length_row s.table j) s.count (omega arith)

  pub store_length : length (store_of s) ≡ 2 + 22 * s.count
  unfolding store_of
  store_length = omega (arith, length-append head tail, head_length, tail_length)

  pub head_back : head_in (store_of s) ≡ head_fields s
  unfolding head_in store_of
  head_back = rw (take_at head tail 2 head_length) (fields_bytes head_widths 2 head_even head_fit)

  pub part_back : (k : ℕ) → k < s.count → part_in (store_of s) k ≡ row_at s.table k
  unfolding store_of
  part_back k l =
      ap (take 22) (sym (drop-drop (22 * k) 2 (head ++ tail)) ∙ ap (drop (22 * k)) (drop_at head tail 2 head_length))
      ∙ part_rows 22 s.count (row_at s.table) (λ j m. length_row s.table j) s.count k (omega arith) l

  pub row_fields : (k : ℕ) → k < s.count → fields_of entry_widths 22 (row_at s.table k) ≡ entry_fields (entry_at s.table k)
  unfolding row_at packed_entry
  row_fields k l = fields_bytes entry_widths 22 even (entry_fit (entry_at s.table k) (λ i. narrow k i l))

  entry_back : (k : ℕ) → k < s.count → entry_of (store_of s) k ≡ neat_at s.table k
  unfolding entry_of entry_in neat_at
  entry_back k l =
      rw (part_back k l, eq-eqb (length (row_at s.table k)) 22 (length_row s.table k), row_fields k l) (fields_back (entry_at s.table k) (fits k l))

  old_entry : version_of s ≡ 1 → (k : ℕ) → k < s.count → (entry_at s.table k).no_restart ≡ false
  unfolding no_restart_at
  old_entry v k l = any_all (no_restart_at s.table) s.count (version_old s v) k l

  stray_back : (k : ℕ) → k < s.count → stray_at (store_of s) (version_of s) k ≡ false
  unfolding stray_at stray_in
  stray_back k l =
      rw (part_back k l, eq-eqb (length (row_at s.table k)) 22 (length_row s.table k), row_fields k l)
      (entry_neat (version_of s) (entry_at s.table k) (fits k l).users (λ v. old_entry v k l))

  no_restart_back : (k : ℕ) → k < s.count → no_restart_at (table_of (entry_of (store_of s)) s.count) k ≡ no_restart_at s.table k
  unfolding no_restart_at neat_at neat_entry
  no_restart_back k l = ap (λ (e : Entry). e.no_restart) (table_at (entry_of (store_of s)) s.count k few l ∙ entry_back k l)

  settings_back : settings_in (head_fields s) (store_of s) ≡ neat s
  unfolding settings_in head_fields neat
  settings_back =
      rw (
        on_bit s.arm,
        on_bit s.riscv,
        on_bit s.auto_switch,
        on_bit s.absolute,
        arch_back s.current,
        table_cong (entry_of (store_of s)) (neat_at s.table) s.count entry_back,
      )

  none_stray : strays_in (head_fields s) (store_of s) ≡ false
  unfolding strays_in head_fields
  none_stray =
      rw (
        any_none (stray_at (store_of s) (version_of s)) s.count stray_back,
        any_cong s.count (no_restart_at (table_of (entry_of (store_of s)) s.count)) (no_restart_at s.table) no_restart_back,
      )
      (version_needed s)

  -- nothing is refused before the settings are
  read_to_the_end : (len : ℕ) → flash_length len ≡ true → read_of (store_of s) len ≡ cond (not (good_settings (neat s) len)) (Err BadSettings) (Ok (neat s))
  unfolding read_of read_head head_fields
  read_to_the_end len p =
      let short = le-ltb (length (store_of s)) 2 (omega (arith, store_length)) in
      rw (p, short, head_back)
      (rw (version_known s, le-ltb 16 s.count few, eq-eqb (length (store_of s)) (2 + 22 * s.count) store_length, none_stray) (rw settings_back refl))

  read_back : (len : ℕ) → flash_length len ≡ true → good_settings (neat s) len ≡ true → read_of (store_of s) len ≡ Ok (neat s)
  read_back len p q = read_to_the_end len p ∙ rw q

  pub read_bad : (len : ℕ) → flash_length len ≡ true → good_settings (neat s) len ≡ false → read_of (store_of s) len ≡ Err BadSettings
  read_bad len p q = read_to_the_end len p ∙ rw q

pub written_reads_back : WrittenReadsBack
written_reads_back s len right good narrow =
    read_back s (good_count s len good) (good_fields s len right good) narrow len right (good_neat s len (good_few s len right good) ∙ good)

pub refusals_have_none : RefusalsHaveNone
refusals_have_none b len s n e = n (ap read_number e)

pub no_settings_are_bad : NoSettingsAreBad
no_settings_are_bad len = good_off no_settings len refl
