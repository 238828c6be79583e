-- An entry written and read is the entry; fields read and written are the fields, where none is stray. Assumes nothing.
use mathlib.Core.Path.{◌≡◌, refl, sym}
use mathlib.Core.Bool.{Bool, true, false, cond, not, ◌&&◌, ◌||◌}
use mathlib.Core.List.{List}
use Prim.Native.Nat.{ℕ, ◌%◌, ◌^◌, ◌<◌, ◌≤◌}
use native.Mathlib.Nat.{mod-eq_of_lt}
use native.Mathlib.Decide.{dec_lt, ℕ_discrete}
use native.Mathlib.Omega.{arith}
use lib.ListN.{get_or}
use lib.Dec.{ltb, leb, eqb}
use borrow.Author.Tests.{lt-ltb, le-ltb, le-leb, lt-leb, eq-eqb, ne_eqb, eqb-true, eqb-false}
use Rattle.laws.specs.Packing.{octets, fields_of, Fit, none, one}
use Rattle.laws.specs.Packing.{bit}
use Rattle.store_entry.specs.EntryBits.{kind_of, index_of, link_of, slot, entry_widths, entry_fields, packed_entry, entry_from, stray_from, neat_entry}
use Rattle.partitions.specs.declared.Entry.{Entry}
use Rattle.partitions.specs.declared.Link.{Link}
use Rattle.partitions.specs.declared.Link.TheVariants.{Unlinked, OwnedBy, BOf}
use Rattle.laws.proofs.Widths.{fields_bytes, bytes_fields, fields_fit, bit_lt, on_bit, bit_on}
use Rattle.laws.proofs.Tests.{or_left, or_right}
use Rattle.store_entry.proofs.Entries.{kind_lt}
use Rattle.store_entry.proofs.ReadBack.{even}

link_back : (l : Link) → link_of (kind_of l) (index_of l) ≡ l
unfolding link_of
link_back Unlinked = refl
link_back (OwnedBy k) = refl
link_back (BOf k) = refl

-- the numbers of an entry fit their fields
pub record Fits (e : Entry) : Type 0 where
  pub first : e.first < 8192
  pub sectors : e.sectors < 16384
  pub index : index_of e.link < 16
  pub users : e.user_count ≤ 4

pub entry_back : (e : Entry) → Fits e → entry_from (entry_fields e) ≡ neat_entry e
unfolding entry_from entry_fields neat_entry
entry_back e p =
    let first : e.first % 8192 ≡ e.first = mod-eq_of_lt p.first in
    let sectors : e.sectors % 16384 ≡ e.sectors = mod-eq_of_lt p.sectors in
    let index : index_of e.link % 16 ≡ index_of e.link = mod-eq_of_lt p.index in
    let users : e.user_count % 8 ≡ e.user_count = mod-eq_of_lt (omega (arith, p.users)) in
    rw (
      first,
      sectors,
      index,
      users,
      on_bit e.«data»,
      on_bit e.arm_s,
      on_bit e.riscv,
      on_bit e.arm_ns,
      on_bit e.not_bootable_arm,
      on_bit e.not_bootable_riscv,
      link_back e.link,
      on_bit e.no_restart,
    )

-- ---- back

pub not_true : (a : Bool) → not a ≡ true → a ≡ false
not_true true e = sym e
not_true false e = refl

pub not_false : (a : Bool) → not a ≡ false → a ≡ true
not_false true e = refl
not_false false e = sym e

pub nine : (a b c d e f g h i : Bool) → a || b || c || d || e || f || g || h || i ≡ false → (a ≡ false) × (b ≡ false) × (c ≡ false) × (d ≡ false) × (e ≡ false) × (f ≡ false) × (g ≡ false) × (h ≡ false) × (i ≡ false)
nine a b c d e f g h i s9 =
    let s8 = or_left (a || b || c || d || e || f || g || h) i s9 in
    let s7 = or_left (a || b || c || d || e || f || g) h s8 in
    let s6 = or_left (a || b || c || d || e || f) g s7 in
    let s5 = or_left (a || b || c || d || e) f s6 in
    let s4 = or_left (a || b || c || d) e s5 in
    let s3 = or_left (a || b || c) d s4 in
    let s2 = or_left (a || b) c s3 in
    (or_left a b s2, or_right a b s2, or_right (a || b) c s3, or_right (a || b || c) d s4, or_right (a || b || c || d) e s5, or_right (a || b || c || d || e) f s6, or_right (a || b || c || d || e || f) g s7, or_right (a || b || c || d || e || f || g) h s8, or_right (a || b || c || d || e || f || g || h) i s9)

link_forth : (k i : ℕ) → k < 4 → eqb k 3 ≡ false → eqb k 0 && not (eqb i 0) ≡ false → (kind_of (link_of k i) ≡ k) × (index_of (link_of k i) ≡ i)
unfolding link_of
link_forth k i h p q = by_one (ℕ_discrete k 1)
  where
    by_zero : k ≡ 0 → i ≡ 0
    by_zero z = eqb-true i 0 (not_false (eqb i 0) (rw (eq-eqb k 0 z) at q))

    by_two : (k ≡ 1 → ⊥) → Dec (k ≡ 2) → (kind_of (link_of k i) ≡ k) × (index_of (link_of k i) ≡ i)
    by_two n (yes e) = rw (ne_eqb k 1 n, eq-eqb k 2 e) (sym e, refl)
    by_two n (no m) =
        let z : k ≡ 0 = omega (arith, eqb-false k 3 p) in
        rw (ne_eqb k 1 n, ne_eqb k 2 m) (sym z, sym (by_zero z))

    by_one : Dec (k ≡ 1) → (kind_of (link_of k i) ≡ k) × (index_of (link_of k i) ≡ i)
    by_one (yes e) = rw (eq-eqb k 1 e) (sym e, refl)
    by_one (no n) = by_two n (ℕ_discrete k 2)

slot_forth : (n k x : ℕ) → leb n k && not (eqb x 0) ≡ false → cond (ltb k n) x 0 ≡ x
slot_forth n k x q = by-case (dec_lt k n)
  where
    by-case : Dec (k < n) → cond (ltb k n) x 0 ≡ x
    by-case (yes h) = rw (lt-ltb k n h) refl
    by-case (no h) = rw (le-ltb k n (omega arith)) (sym (eqb-true x 0 (not_false (eqb x 0) (rw (le-leb n k (omega arith)) at q))))

-- fields with nothing stray are those of the entry that is read from them
pub fields_forth : (version : ℕ) (f : List ℕ) → Fit entry_widths f → stray_from version f ≡ false → entry_fields (entry_from f) ≡ f
unfolding stray_from entry_fields entry_from slot
fields_forth version f
    (one {v = a} ha (one {v = b} hb (one {v = k} hk (one {v = i} hi (one {v = d} hd (one {v = e} he (one {v = g} hg (one {v = h} hh (one {v = m} hm (one {v = n} hn (one {v = u} hu (one {v = x} hx (one {v = y} hy (one {v = z} hz (one {v = w} hw (one {v = r} hr (one {v = t} ht none)))))))))))))))))
    s =
    let o = nine (eqb k 3) (eqb k 0 && not (eqb i 0)) (ltb 4 u) (leb u 0 && not (eqb x 0)) (leb u 1 && not (eqb y 0)) (leb u 2 && not (eqb z 0)) (leb u 3 && not (eqb w 0)) (eqb version 1 && not (eqb r 0)) (not (eqb t 0)) s in
    let zero-tail = eqb-true t 0 (not_false (eqb t 0) o.8) in
    let l = link_forth k i hk o.0 o.1 in
    let first : a % 8192 ≡ a = mod-eq_of_lt ha in
    let sectors : b % 16384 ≡ b = mod-eq_of_lt hb in
    let index : i % 16 ≡ i = mod-eq_of_lt hi in
    let users : u % 8 ≡ u = mod-eq_of_lt hu in
    rw (
      l.0,
      l.1,
      first,
      sectors,
      index,
      users,
      bit_on d hd,
      bit_on e he,
      bit_on g hg,
      bit_on h hh,
      bit_on m hm,
      bit_on n hn,
      slot_forth u 0 x o.3,
      slot_forth u 1 y o.4,
      slot_forth u 2 z o.5,
      slot_forth u 3 w o.6,
      bit_on r hr,
      zero-tail,
    )

-- ---- in bytes

-- the slots are numbers of 32 bits, as in code they always are
abbrev pub Narrow : Entry → Type 0
Narrow e = (k : ℕ) → slot e k < 2 ^ 32

pub entry_fit : (e : Entry) → Narrow e → Fit entry_widths (entry_fields e)
unfolding entry_fields
entry_fit e s =
    one {w = 13} {v = e.first % 8192} (omega arith) (one {w = 14} {v = e.sectors % 16384} (omega arith) (one {w = 2} {v = kind_of e.link} (omega (arith, kind_lt e.link)) (one {w = 4} {v = index_of e.link % 16} (omega arith)
    (one {w = 1} (bit_lt e.«data») (one {w = 1} (bit_lt e.arm_s) (one {w = 1} (bit_lt e.riscv) (one {w = 1} (bit_lt e.arm_ns) (one {w = 1} (bit_lt e.not_bootable_arm) (one {w = 1} (bit_lt e.not_bootable_riscv)
    (one {w = 3} {v = e.user_count % 8} (omega arith) (one {w = 32} (s 0) (one {w = 32} (s 1) (one {w = 32} (s 2) (one {w = 32} (s 3) (one {w = 1} (bit_lt e.no_restart) (one {w = 5} {v = 0} (omega arith) none))))))))))))))))

-- an entry that is written and read is the entry, its unused slots zero
pub entry_read : (e : Entry) → Fits e → Narrow e → entry_from (fields_of entry_widths 22 (packed_entry e)) ≡ neat_entry e
unfolding packed_entry
entry_read e p s = rw (fields_bytes entry_widths 22 even (entry_fit e s)) (entry_back e p)

-- bytes that are read with nothing stray are the bytes of the entry read: it has no other
pub entry_only : (version : ℕ) (bs : List ℕ) → Fit (octets 22) bs → stray_from version (fields_of entry_widths 22 bs) ≡ false
    → packed_entry (entry_from (fields_of entry_widths 22 bs)) ≡ bs
unfolding packed_entry
entry_only version bs f s = rw (fields_forth version (fields_of entry_widths 22 bs) (fields_fit entry_widths 22 even f) s) (bytes_fields entry_widths 22 even f)

-- ---- an entry's own fields are not stray

pub entry_neat : (version : ℕ) (e : Entry) → e.user_count ≤ 4 → (version ≡ 1 → e.no_restart ≡ false) → stray_from version (entry_fields e) ≡ false
unfolding stray_from entry_fields slot
entry_neat version e p q =
    let users : e.user_count % 8 ≡ e.user_count = mod-eq_of_lt (omega arith) in
    rw (users, le-ltb 4 e.user_count p, no-three e.link, no_index e.link, free 0, free 1, free 2, free 3, old (ℕ_discrete version 1)) refl
  where
    no-three : (l : Link) → eqb (kind_of l) 3 ≡ false
    no-three Unlinked = refl
    no-three (OwnedBy k) = refl
    no-three (BOf k) = refl

    no_index : (l : Link) → eqb (kind_of l) 0 && not (eqb (index_of l % 16) 0) ≡ false
    no_index Unlinked = refl
    no_index (OwnedBy k) = refl
    no_index (BOf k) = refl

    free : (k : ℕ) → leb e.user_count k && not (eqb (cond (ltb k e.user_count) (get_or e.users k 0) 0) 0) ≡ false
    free k = by-case (dec_lt k e.user_count)
      where
        by-case : Dec (k < e.user_count) → leb e.user_count k && not (eqb (cond (ltb k e.user_count) (get_or e.users k 0) 0) 0) ≡ false
        by-case (yes h) = rw (lt-leb e.user_count k h) refl
        by-case (no h) = rw (le-leb e.user_count k (omega arith), le-ltb k e.user_count (omega arith)) refl

    old : Dec (version ≡ 1) → eqb version 1 && not (eqb (bit e.no_restart) 0) ≡ false
    old (yes h) = rw (eq-eqb version 1 h, q h) refl
    old (no h) = rw (ne_eqb version 1 h) refl

-- in version 1 nothing that is read has the flag
pub old_unmarked : (f : List ℕ) → Fit entry_widths f → stray_from 1 f ≡ false → (entry_from f).no_restart ≡ false
unfolding stray_from entry_from
old_unmarked f
    (one {v = a} ha (one {v = b} hb (one {v = k} hk (one {v = i} hi (one {v = d} hd (one {v = e} he (one {v = g} hg (one {v = h} hh (one {v = m} hm (one {v = n} hn (one {v = u} hu (one {v = x} hx (one {v = y} hy (one {v = z} hz (one {v = w} hw (one {v = r} hr (one {v = t} ht none)))))))))))))))))
    s =
    let o = nine (eqb k 3) (eqb k 0 && not (eqb i 0)) (ltb 4 u) (leb u 0 && not (eqb x 0)) (leb u 1 && not (eqb y 0)) (leb u 2 && not (eqb z 0)) (leb u 3 && not (eqb w 0)) (not (eqb r 0)) (not (eqb t 0)) s in
    rw (eqb-true r 0 (not_false (eqb r 0) o.7)) refl
