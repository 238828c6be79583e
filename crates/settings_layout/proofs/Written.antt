-- Settings that are written: their bytes, piece by piece, and that the settings are read back from them. Assumes nothing.
use Prim.Native.Nat.{ℕ, ◌+◌, ◌-◌, ◌*◌, ◌<◌, ◌≤◌}
use mathlib.Core.Path.{◌≡◌, refl, sym, ap, ◌∙◌}
use mathlib.Core.Logic.{◌≢◌}
use mathlib.Core.List.{List, ◌++◌}
use native.Mathlib.Nat.{mul_comm}
use native.Mathlib.Omega.{arith}
use lib.ListN.{length, take, drop, length-append, length-drop}
use lib.Seq.{drop_at, drop-drop, length-take-le}
use borrow.Author.Tests.{eq-eqb, ne_eqb, le-leb}
use borrow.Rule.Slice.PartMut.{put_mid}
use Rattle.laws.specs.Over.{over}
use Rattle.laws.specs.Rows.{rows}
use Rattle.laws.proofs.OverLaws.{length_over, over_next, over_whole, put_over, part_over}
use Rattle.laws.proofs.RowsLaws.{rows_none, length_rows, part_rows, rows_over}
use Rattle.partitions.specs.declared.Arch.{Arch}
use Rattle.partitions.specs.declared.Arch.TheVariants.{Arm, RiscV}
use Rattle.partitions.specs.declared.Entry.{Entry}
use Rattle.partitions.specs.declared.Settings.{Settings}
use Rattle.partitions.specs.Settings.{entry_at}
use Rattle.partitions.specs.Table.{table_of}
use Rattle.partitions.proofs.Tables.{table_cong}
use Rattle.settings_layout.specs.EntryBytes.{with_entry}
use Rattle.settings_layout.proofs.entries.Entries.{length_numbers, length_flags, entry_whole, flag_back, Typed, entry_back}
use Rattle.settings_layout.specs.Layout.{entry_from, arch_from, entry_bytes, entry_in, count_from, used_of, settings_of, settings_from, arch_byte, number_bytes, flag_bytes, row_bytes, switch_bytes, settings_bytes, with_settings}

length_row : (t : List Entry) (k : ℕ) → length (row_bytes t k) ≡ 34
unfolding row_bytes
length_row t k =
    let e = entry_at t k in
    omega (arith, length-append (number_bytes e) (flag_bytes e), length_numbers e, length_flags e)

-- the part of the bytes that the loop lends
part_long : (b : List ℕ) (k : ℕ) → length b ≡ 544 → k < 16 → length (take (34 * k + 34 - 34 * k) (drop (34 * k) b)) ≡ 34
part_long b k e l =
    let size : 34 * k + 34 - 34 * k ≡ 34 = omega arith in
    rw size (length-take-le 34 (drop (34 * k) b) (omega (arith, length-drop (34 * k) b)))

pub row_is : (t : List Entry) (b : List ℕ) (k : ℕ) {ys : List ℕ} → length b ≡ 544 → k < 16
    → ys ≡ with_entry (take (34 * k + 34 - 34 * k) (drop (34 * k) b)) (entry_at t k) → ys ≡ row_bytes t k
unfolding row_bytes
row_is t b k e l hy = hy ∙ entry_whole _ (entry_at t k) (part_long b k e l)

-- ---- the table

module _ (t : List Entry) where
  abbrev f : ℕ → List ℕ
  f = row_bytes t

  wide : (k : ℕ) → k < 16 → length (f k) ≡ 34
  wide k l = length_row t k

  pub rows_first : (out : List ℕ) → out ≡ over out 0 (rows f 0)
  unfolding over
  rows_first out = rw (rows_none f)

  -- one entry more, which a callee left in the part that it was lent
  pub rows_next : (out₀ out ys : List ℕ) (k : ℕ) → length out₀ ≡ 544 → k < 16 → out ≡ over out₀ 0 (rows f k) → ys ≡ f k
      → put_mid (34 * k) (34 * k + 34 - 34 * k) out ys ≡ over out₀ 0 (rows f (k + 1))
  rows_next out₀ out ys k e l s y =
      let long : length ys ≡ 34 = ap length y ∙ length_row t k in
      put_over (34 * k) 34 out ys long ∙ rw (y, s) (rows_over 34 16 f wide out₀ k l (omega arith))

  pub rows_long : (out₀ out : List ℕ) (k : ℕ) → length out₀ ≡ 544 → k ≤ 16 → out ≡ over out₀ 0 (rows f k) → length out ≡ length out₀
  rows_long out₀ out k e l s =
      let fits : 0 + length (rows f k) ≤ length out₀ = omega (arith, length_rows 34 16 f wide k l) in
      ap length s ∙ length_over out₀ 0 (rows f k) fits

  pub length_table : length (rows f 16) ≡ 544
  length_table = length_rows 34 16 f wide 16 (omega arith)

  pub rows_whole : (out₀ out : List ℕ) (k : ℕ) → length out₀ ≡ 544 → k ≡ 16 → out ≡ over out₀ 0 (rows f k) → out ≡ rows f 16
  rows_whole out₀ out k e h s = s ∙ rw h (over_whole out₀ (rows f 16) (length_table ∙ sym e))

-- ---- the settings

pub length_switches : (s : Settings) → length (switch_bytes s) ≡ 6
unfolding switch_bytes
length_switches s = refl

pub settings_other : (b : List ℕ) (s : Settings) → length b ≢ 550 → b ≡ with_settings b s
unfolding with_settings
settings_other b s h = rw (ne_eqb (length b) 550 h)

pub settings_put : (b : List ℕ) (s : Settings) {c h ys zs : List ℕ} → length b ≡ 550
    → h ≡ switch_bytes s → ys ≡ h → c ≡ put_mid 0 (0 + 6 - 0) b ys
    → zs ≡ rows (row_bytes s.table) 16 → put_mid 6 (6 + 544 - 6) c zs ≡ with_settings b s
unfolding with_settings settings_bytes
settings_put b s {c} {h} {ys} {zs} hb hh hy hc hz =
    let r = rows (row_bytes s.table) 16 in
    let w = switch_bytes s in
    let lw = length_switches s in
    let lr = length_table s.table in
    let lh : length h ≡ 6 = ap length hh ∙ lw in
    let lz : length zs ≡ 544 = ap length hz ∙ lr in
    let first : c ≡ over b 0 w = hc ∙ part_over 0 6 b h ys lh (omega arith) hy ∙ ap (over b 0) hh in
    let at : 0 + length w ≡ 6 = omega (arith, lw) in
    put_over 6 544 c zs lz
    ∙ rw (first, hz) (over_next b 0 w 6 r at (omega (arith, lr)))
    ∙ over_whole b (w ++ r) (omega (arith, length-append w r, lw, lr))
    ∙ rw (eq-eqb (length b) 550 hb)

-- ---- read back

arch_back : (a : Arch) → arch_from (arch_byte a) ≡ a
arch_back Arm = refl
arch_back RiscV = refl

module _ (s : Settings) where
  abbrev table : List ℕ
  table = rows (row_bytes s.table) 16

  length_settings : length (settings_bytes s) ≡ 550
  unfolding settings_bytes
  length_settings = omega (arith, length-append (switch_bytes s) table, length_switches s, length_table s.table)

  part_back : (k : ℕ) → k < 16 → entry_bytes (settings_bytes s) k ≡ row_bytes s.table k
  unfolding settings_bytes
  part_back k l =
      ap (λ (i : ℕ). take 34 (drop (6 + i) (switch_bytes s ++ table))) (mul_comm k 34)
      ∙ ap (take 34) (sym (drop-drop (34 * k) 6 (switch_bytes s ++ table)) ∙ ap (drop (34 * k)) (drop_at (switch_bytes s) table 6 (length_switches s)))
      ∙ part_rows 34 16 (row_bytes s.table) (wide s.table) 16 k (omega arith) l

  module _ (few : s.count ≤ 16) (typed : (k : ℕ) → k < s.count → Typed (entry_at s.table k)) where
    entry-same : (k : ℕ) → k < s.count → entry_in (settings_bytes s) k ≡ entry_at s.table k
    unfolding entry_in row_bytes
    entry-same k l = ap entry_from (part_back k (omega arith)) ∙ entry_back (entry_at s.table k) (typed k l)

    count-back : count_from (settings_bytes s) ≡ s.count
    unfolding settings_bytes switch_bytes
    count-back = rw (eq-eqb (length (settings_bytes s)) 550 length_settings)

    used-back : used_of (count_from (settings_bytes s)) ≡ s.count
    used-back = rw (count-back, le-leb s.count 16 few)

    switches-back : (t : List Entry) → settings_of (settings_bytes s) t
        ≡ record {
          table = t;
          arm = s.arm;
          riscv = s.riscv;
          current = s.current;
          auto_switch = s.auto_switch;
          absolute = s.absolute;
          count = s.count;
        }
    unfolding settings_of settings_bytes switch_bytes
    switches-back t =
        rw (
          count-back,
          flag_back s.arm,
          flag_back s.riscv,
          arch_back s.current,
          flag_back s.auto_switch,
          flag_back s.absolute,
        )

    -- settings whose unused entries are blank
    pub settings_back : s.table ≡ table_of (entry_at s.table) s.count → settings_from (settings_bytes s) ≡ s
    unfolding settings_from
    settings_back blank =
        let read : table_of (entry_in (settings_bytes s)) (used_of (count_from (settings_bytes s))) ≡ s.table =
        ap (table_of (entry_in (settings_bytes s))) used-back ∙ table_cong (entry_in (settings_bytes s)) (entry_at s.table) s.count entry-same ∙ sym blank in
        ap (settings_of (settings_bytes s)) read ∙ switches-back s.table
