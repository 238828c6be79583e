-- Bytes that are read as settings are what is written for these settings; good settings have one encoding. Assumes nothing.
use mathlib.Core.Path.{◌≡◌, refl, sym, ap, ◌∙◌, subst}
use mathlib.Core.Bool.{Bool, true, false, cond, not, ◌&&◌, ◌||◌, true≢false}
use mathlib.Core.List.{List, [], ◌∷◌, ◌++◌}
use Rattle.std.specs.Prelude.{Result, Ok, Err}
use Prim.Native.Nat.{ℕ, zero, suc, ◌+◌, ◌*◌, ◌<◌, ◌≤◌, ◌^◌}
use native.Mathlib.Decide.{ℕ_discrete}
use native.Mathlib.Omega.{arith}
use lib.Dec.{ltb, eqb}
use lib.ListN.{length, get_or, take, drop, length-take, length-drop, take-append-drop}
use lib.Seq.{get_or-take, get_or-drop, drop-drop}
use borrow.Author.Tests.{eq-eqb, ne_eqb, eqb-true, ltb-false}
use Rattle.laws.specs.Sets.{any}
use Rattle.laws.specs.Rows.{rows}
use Rattle.laws.proofs.Tests.{split, or_left, or_right}
use Rattle.laws.proofs.Laws.{any_all, any_none}
use Rattle.memory.specs.Flash.{flash_length}
use Rattle.partitions.specs.declared.Entry.{Entry}
use Rattle.partitions.specs.declared.Settings.{Settings}
use Rattle.partitions.specs.Settings.{entry_at, good_settings}
use Rattle.partitions.specs.Table.{table_of}
use Rattle.partitions.proofs.Laws.{good_count}
use Rattle.partitions.proofs.Tables.{table_at}
use Rattle.laws.specs.Packing.{octets, bytes_of, fields_of, Fit, none, one, on}
use Rattle.laws.proofs.Widths.{bytes_fields, fields_fit, bit_on}
use Rattle.store_entry.specs.EntryBits.{slot, entry_widths, packed_entry, entry_from, stray_from, entry_in, stray_in}
use Rattle.store_entry.proofs.ReadBack.{even}
use Rattle.store_entry.proofs.OneEntry.{entry_only, old_unmarked}
use Rattle.store_entry.proofs.Parts.{part_fit}
use Rattle.settings_store.specs.declared.write.StoreError.{StoreError}
use Rattle.settings_store.specs.declared.write.StoreError.TheVariants.{BadBuffers, BadSettings, BadVersion, BadLength, BadBits}
use Rattle.settings_store.specs.Store.{no_restart_at, version_of, head_widths, arch_bit, head_fields, row_at, store_of, head_in, part_in, entry_of, arch_from, settings_in, stray_at, strays_in, read_head, read_of}
use Rattle.settings_claims.specs.Claims.{Narrow, Bytes, neat, ReadIsTheEncoding, OneEncoding, NoOtherBytes}
use Rattle.settings_claims.proofs.Parts.{rows_parts}
use Rattle.settings_claims.proofs.Compared.{compared_store, neat_compared}
use Rattle.settings_claims.proofs.Written.{head_even, good_few, written_reads_back}

-- ---- the checks, where settings are read

picked : (a b c d e : Bool) (x s : Settings)
    → cond a (Err BadVersion) (cond b (Err BadBits) (cond c (Err BadLength) (cond d (Err BadBits) (cond e (Err BadSettings) (Ok x))))) ≡ Ok s
    → (a ≡ false) × (b ≡ false) × (c ≡ false) × (d ≡ false) × (e ≡ false) × (x ≡ s)
picked true b c d e x s p = cc
picked false true c d e x s p = cc
picked false false true d e x s p = cc
picked false false false true e x s p = cc
picked false false false false true x s p = cc
picked false false false false false x s p = (refl, refl, refl, refl, refl, cc)

picked_first : (a b : Bool) (x : Result Settings StoreError) (s : Settings) → cond a (Err BadBuffers) (cond b (Err BadLength) x) ≡ Ok s → (a ≡ false) × (b ≡ false) × (x ≡ Ok s)
picked_first true b x s p = cc
picked_first false true x s p = cc
picked_first false false x s p = (refl, refl, p)

not_false : (b : Bool) → not b ≡ false → b ≡ true
not_false true e = refl
not_false false e = absurd (true≢false e)

-- ---- the bytes

low_all : (l : List ℕ) → ((i : ℕ) → i < length l → get_or l i 0 < 256) → (i : ℕ) → get_or l i 0 < 256
low_all [] h i = omega arith
low_all (x ∷ l) h zero = h 0 (omega arith)
low_all (x ∷ l) h (suc i) = low_all l (λ j m. h (suc j) (omega arith)) i

-- a part of bytes is bytes
pub low_part : (n a : ℕ) (b : List ℕ) → ((i : ℕ) → get_or b i 0 < 256) → (i : ℕ) → get_or (take n (drop a b)) i 0 < 256
low_part n a b h =
    low_all (take n (drop a b))
    (λ i m.
    let l : i < n = omega (arith, length-take n (drop a b)) in
    rw (get_or-take n (drop a b) i 0 l, get_or-drop a b i 0) (h (a + i)))

-- what is read of a part of 22 bytes
pub entry_whole : (b : List ℕ) (k : ℕ) → length (part_in b k) ≡ 22 → entry_of b k ≡ entry_from (fields_of entry_widths 22 (part_in b k))
unfolding entry_of entry_in
entry_whole b k e = rw (eq-eqb (length (part_in b k)) 22 e)

pub stray_whole : (b : List ℕ) (v k : ℕ) → length (part_in b k) ≡ 22 → stray_at b v k ≡ stray_from v (fields_of entry_widths 22 (part_in b k))
unfolding stray_at stray_in
stray_whole b v k e = rw (eq-eqb (length (part_in b k)) 22 e)

row_of : (t : List Entry) (k : ℕ) {e : Entry} → entry_at t k ≡ e → row_at t k ≡ packed_entry e
unfolding row_at
row_of t k h = ap packed_entry h

pub no_restart_of : (t : List Entry) (k : ℕ) {e : Entry} → entry_at t k ≡ e → no_restart_at t k ≡ e.no_restart
unfolding no_restart_at
no_restart_of t k h = ap (λ (x : Entry). x.no_restart) h

-- the slots of fields that fit
fields_narrow : (f : List ℕ) → Fit entry_widths f → (i : ℕ) → slot (entry_from f) i < 2 ^ 32
unfolding entry_from slot
fields_narrow f
    (one ha (one hb (one hk (one hi (one hd (one he (one hg (one hh (one hm (one hn (one {v = u} hu (one {v = x} hx (one {v = y} hy (one {v = z} hz (one {v = w} hw (one hr (one ht none)))))))))))))))))
    i =
    split (ltb i u)
    (λ t. rw t (at i))
    (λ t. rw t (omega arith))
  where
    at : (j : ℕ) → get_or (x ∷ y ∷ z ∷ w ∷ []) j 0 < 2 ^ 32
    at zero = hx
    at (suc zero) = hy
    at (suc (suc zero)) = hz
    at (suc (suc (suc zero))) = hw
    at (suc (suc (suc (suc j)))) = omega arith

-- n entries after the head, none of which is stray in version v
module _ (b : List ℕ) (low : Bytes b) (n v : ℕ) (few : n ≤ 16) (whole : length b ≡ 2 + 22 * n) (clean : (k : ℕ) → k < n → stray_at b v k ≡ false) where
  abbrev table : List Entry
  table = table_of (entry_of b) n

  part_length : (k : ℕ) → k < n → length (part_in b k) ≡ 22
  part_length k l = simp (length-take, length-drop) (omega arith)

  part_fields : (k : ℕ) → k < n → Fit (octets 22) (part_in b k)
  part_fields k l = part_fit 22 (part_in b k) (part_length k l) (low_part 22 (2 + 22 * k) b low)

  entry_fields_lem : (k : ℕ) → k < n → Fit entry_widths (fields_of entry_widths 22 (part_in b k))
  entry_fields_lem k l = fields_fit entry_widths 22 even (part_fields k l)

  unstray : (k : ℕ) → k < n → stray_from v (fields_of entry_widths 22 (part_in b k)) ≡ false
  unstray k l = sym (stray_whole b v k (part_length k l)) ∙ clean k l

  entry_is : (k : ℕ) → k < n → entry_at table k ≡ entry_from (fields_of entry_widths 22 (part_in b k))
  entry_is k l = table_at (entry_of b) n k few l ∙ entry_whole b k (part_length k l)

  row_only : (k : ℕ) → k < n → row_at table k ≡ part_in b k
  row_only k l = row_of table k (entry_is k l) ∙ entry_only v (part_in b k) (part_fields k l) (unstray k l)

  pub rows_only : rows (row_at table) n ≡ drop 2 b
  rows_only =
      rows_parts 22 (row_at table) n (drop 2 b) (length-drop 2 b ∙ omega arith)
      (λ k l. ap (take 22) (drop-drop (22 * k) 2 b) ∙ sym (row_only k l))

  pub table_narrow : (k i : ℕ) → k < n → slot (entry_at table k) i < 2 ^ 32
  table_narrow k i l = rw (entry_is k l) (fields_narrow (fields_of entry_widths 22 (part_in b k)) (entry_fields_lem k l) i)

  -- in version 1 no entry has "don't restart"
  pub old_table : v ≡ 1 → any n (no_restart_at table) ≡ false
  old_table e =
      any_none (no_restart_at table) n
      (λ k l.
      no_restart_of table k (entry_is k l)
      ∙ old_unmarked (fields_of entry_widths 22 (part_in b k)) (entry_fields_lem k l) (subst (λ (x : ℕ). stray_from x (fields_of entry_widths 22 (part_in b k)) ≡ false) e (unstray k l)))

-- ---- the head

current_on : (c : ℕ) → c < 2 → arch_bit (arch_from (on c)) ≡ c
current_on c h = by-case (ℕ_discrete c 1)
  where
    by-case : Dec (c ≡ 1) → arch_bit (arch_from (on c)) ≡ c
    by-case (yes e) = rw (eq-eqb c 1 e) (sym e)
    by-case (no e) = rw (ne_eqb c 1 e) (omega arith)

head_only : (b h : List ℕ) → Fit head_widths h → version_of (settings_in h b) ≡ get_or h 0 0 → get_or h 7 0 ≡ 0 → head_fields (settings_in h b) ≡ h
unfolding head_fields settings_in
head_only b h (one {v = v} hv (one {v = n} hn (one {v = a} ha (one {v = s} hs (one {v = m} hm (one {v = r} hr (one {v = c} hc (one {v = z} hz none)))))))) ev ez =
    rw (ev, bit_on a ha, bit_on s hs, bit_on m hm, bit_on r hr, current_on c hc, ez) refl

head_fields_lem : (b : List ℕ) → Fit (octets 2) (take 2 b) → Fit head_widths (head_in b)
unfolding head_in
head_fields_lem b f = fields_fit head_widths 2 head_even f

pub head_whole : (b : List ℕ) → Fit (octets 2) (take 2 b) → bytes_of head_widths 2 (head_in b) ≡ take 2 b
unfolding head_in
head_whole b f = bytes_fields head_widths 2 head_even f

-- ---- the store

-- a version that is 1 or 2, of which 1 has no entry with "don't restart" and 2 some
version_of_lem : (v : ℕ) (x : Bool) → not (eqb v 1 || eqb v 2) ≡ false → eqb v 2 && not x ≡ false → (v ≡ 1 → x ≡ false) → cond x 2 1 ≡ v
version_of_lem v x known needed old = by-case (ℕ_discrete v 1)
  where
    by-case : Dec (v ≡ 1) → cond x 2 1 ≡ v
    by-case (yes e) = rw (old e) (sym e)
    by-case (no e) =
        let two : eqb v 2 ≡ true = not_false (eqb v 2) (rw (ne_eqb v 1 e) at known) in
        let some : x ≡ true = not_false x (rw two at needed) in
        rw some (sym (eqb-true v 2 two))

version_in_lem : (h b : List ℕ) {v : ℕ} → cond (any (get_or h 1 0) (no_restart_at (table_of (entry_of b) (get_or h 1 0)))) 2 1 ≡ v → version_of (settings_in h b) ≡ v
unfolding version_of settings_in
version_in_lem h b e = e

narrow_in : (h b : List ℕ) → ((k i : ℕ) → k < get_or h 1 0 → slot (entry_at (table_of (entry_of b) (get_or h 1 0)) k) i < 2 ^ 32) → Narrow (settings_in h b)
unfolding settings_in
narrow_in h b n = n

pub store_parts : (s : Settings) {p q : List ℕ} → bytes_of head_widths 2 (head_fields s) ≡ p → rows (row_at s.table) s.count ≡ q → store_of s ≡ p ++ q
unfolding store_of
store_parts s e f = rw (e, f)

-- the rows of the settings that are read
rows_in_lem : (b : List ℕ) {q : List ℕ} → rows (row_at (table_of (entry_of b) (get_or (head_in b) 1 0))) (get_or (head_in b) 1 0) ≡ q
    → rows (row_at (settings_in (head_in b) b).table) (settings_in (head_in b) b).count ≡ q
unfolding settings_in
rows_in_lem b e = e

module _ (b : List ℕ) (low : Bytes b) (known : not (eqb (get_or (head_in b) 0 0) 1 || eqb (get_or (head_in b) 0 0) 2) ≡ false)
    (few : get_or (head_in b) 1 0 ≤ 16) (whole : length b ≡ 2 + 22 * get_or (head_in b) 1 0) (none_stray : strays_in (head_in b) b ≡ false) where
  abbrev h : List ℕ
  h = head_in b

  abbrev stray : Bool
  stray = any (get_or h 1 0) (stray_at b (get_or h 0 0))

  abbrev needless : Bool
  needless = eqb (get_or h 0 0) 2 && not (any (get_or h 1 0) (no_restart_at (table_of (entry_of b) (get_or h 1 0))))

  parts : (not (eqb (get_or h 7 0) 0) || stray ≡ false) × (needless ≡ false)
  unfolding strays_in
  parts = (or_left (not (eqb (get_or h 7 0) 0) || stray) needless none_stray, or_right (not (eqb (get_or h 7 0) 0) || stray) needless none_stray)

  zeros : get_or h 7 0 ≡ 0
  zeros = eqb-true (get_or h 7 0) 0 (not_false (eqb (get_or h 7 0) 0) (or_left (not (eqb (get_or h 7 0) 0)) stray parts.0))

  unstrayed : (k : ℕ) → k < get_or h 1 0 → stray_at b (get_or h 0 0) k ≡ false
  unstrayed k l = any_all (stray_at b (get_or h 0 0)) (get_or h 1 0) (or_right (not (eqb (get_or h 7 0) 0)) stray parts.0) k l

  version : version_of (settings_in h b) ≡ get_or h 0 0
  version =
      version_in_lem h b
      (version_of_lem (get_or h 0 0) (any (get_or h 1 0) (no_restart_at (table_of (entry_of b) (get_or h 1 0)))) known parts.1 (old_table b low (get_or h 1 0) (get_or h 0 0) few whole unstrayed))

  head_fit : Fit (octets 2) (take 2 b)
  head_fit = part_fit 2 (take 2 b) (simp length-take (omega arith)) (low_part 2 0 b low)

  head_bytes : bytes_of head_widths 2 (head_fields (settings_in h b)) ≡ take 2 b
  head_bytes = ap (bytes_of head_widths 2) (head_only b h (head_fields_lem b head_fit) version zeros) ∙ head_whole b head_fit

  pub store_only : store_of (settings_in h b) ≡ b
  store_only = store_parts (settings_in h b) head_bytes (rows_in_lem b (rows_only b low (get_or h 1 0) (get_or h 0 0) few whole unstrayed)) ∙ take-append-drop 2 b

  pub store_narrow : Narrow (settings_in h b)
  store_narrow = narrow_in h b (table_narrow b low (get_or h 1 0) (get_or h 0 0) few whole unstrayed)

-- ---- the claims

-- what is known where settings are read
pub record Found (b : List ℕ) (len : ℕ) (s : Settings) : Type 0 where
  pub right : flash_length len ≡ true
  pub good : good_settings s len ≡ true
  pub encoded : store_of s ≡ b
  pub narrow : Narrow s

pub read_found : (b : List ℕ) (len : ℕ) (s : Settings) → Bytes b → read_of b len ≡ Ok s → Found b len s
unfolding read_of read_head
read_found b len s low e =
    let h = head_in b in
    let p = picked_first (not (flash_length len)) (ltb (length b) 2) (read_head h b len) s e in
    let q =
    picked (not (eqb (get_or h 0 0) 1 || eqb (get_or h 0 0) 2)) (ltb 16 (get_or h 1 0)) (not (eqb (length b) (2 + 22 * get_or h 1 0))) (strays_in h b)
    (not (good_settings (settings_in h b) len)) (settings_in h b) s p.2 in
    let few = ltb-false 16 (get_or h 1 0) q.1 in
    let whole = eqb-true (length b) (2 + 22 * get_or h 1 0) (not_false (eqb (length b) (2 + 22 * get_or h 1 0)) q.2) in
    record {
      right = not_false (flash_length len) p.0;
      good = ap (λ (x : Settings). good_settings x len) (sym q.5) ∙ not_false (good_settings (settings_in h b) len) q.4;
      encoded = ap store_of (sym q.5) ∙ store_only b low q.0 few whole q.3;
      narrow = subst Narrow q.5 (store_narrow b low q.0 few whole q.3);
    }

pub read_is_the_encoding : ReadIsTheEncoding
read_is_the_encoding b len s low e =
    let f = read_found b len s low e in
    let back : read_of b len ≡ Ok (neat s) = ap (λ (x : List ℕ). read_of x len) (sym f.encoded) ∙ written_reads_back s len f.right f.good f.narrow in
    (f.encoded, cc (sym back ∙ e), f.good)

pub one_encoding : OneEncoding
one_encoding s t len right gs gt ns nt = (
  λ e.
      let same : neat s ≡ neat t = cc (sym (written_reads_back s len right gs ns) ∙ ap (λ (b : List ℕ). read_of b len) e ∙ written_reads_back t len right gt nt) in
      neat_compared s t (good_few s len right gs) (good_count t len gt) same,
  λ h. compared_store s t h,
)

pub no_other_bytes : NoOtherBytes
no_other_bytes b len s t low e h = sym (read_found b len t low e).encoded ∙ compared_store t s h
