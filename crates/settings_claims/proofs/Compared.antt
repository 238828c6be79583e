-- Settings that compare equal: their encoding, and their canonical form. Assumes nothing.
use Prim.Native.Nat.{ℕ, zero, suc, ◌<◌, ◌≤◌}
use mathlib.Core.Path.{◌≡◌, refl, sym, ap, ◌∙◌}
use native.Mathlib.Omega.{arith}
use lib.Dec.{ltb}
use lib.ListN.{get_or}
use borrow.Author.Tests.{ltb-true}
use Rattle.laws.proofs.Tests.{split}
use Rattle.laws.proofs.Laws.{any_cong}
use Rattle.laws.proofs.RowsLaws.{rows_cong}
use Rattle.partitions.specs.declared.Entry.{Entry}
use Rattle.partitions.specs.declared.Settings.{Settings}
use Rattle.partitions.specs.Settings.{entry_at, good_settings}
use Rattle.partitions.specs.Alike.{AlikeEntry, Alike, Compared}
use Rattle.partitions.proofs.Alike.{alike_good}
use Rattle.partitions.proofs.Tables.{table_at}
use Rattle.store_entry.specs.EntryBits.{slot, entry_fields, packed_entry, neat_entry}
use Rattle.store_entry.proofs.Entries.{slot_used}
use Rattle.settings_store.specs.Store.{no_restart_at, version_of, head_fields, row_at, store_of}
use Rattle.settings_claims.specs.Claims.{neat_at, neat}

-- ---- the same encoding

module _ {d e : Entry} (h : AlikeEntry d e) where
  slot_same : (i : ℕ) → slot d i ≡ slot e i
  unfolding slot
  slot_same i =
      split (ltb i d.user_count)
      (λ t. rw (← h.user_count, t, h.users i (ltb-true i d.user_count t)))
      (λ t. rw (← h.user_count, t))

  packed_same : d.no_restart ≡ e.no_restart → packed_entry d ≡ packed_entry e
  unfolding packed_entry entry_fields
  packed_same r =
      rw (
        slot_same 0,
        slot_same 1,
        slot_same 2,
        slot_same 3,
        h.first,
        h.sectors,
        h.link,
        h.accepts_data,
        h.accepts_arm_s,
        h.accepts_riscv,
        h.accepts_arm_ns,
        h.not_bootable_arm,
        h.not_bootable_riscv,
        h.user_count,
        r,
      )

module _ (s t : Settings) (h : Compared s t) where
  row_same : (k : ℕ) → k < s.count → row_at s.table k ≡ row_at t.table k
  unfolding row_at
  row_same k l = packed_same (h.alike.entries k l) (h.no_restart k l)

  no_restart_same : (k : ℕ) → k < s.count → no_restart_at s.table k ≡ no_restart_at t.table k
  unfolding no_restart_at
  no_restart_same k l = h.no_restart k l

  pub compared_store : store_of s ≡ store_of t
  unfolding store_of head_fields version_of
  compared_store =
      let g = h.alike in
      rw (
        any_cong s.count (no_restart_at s.table) (no_restart_at t.table) no_restart_same,
        rows_cong (row_at s.table) (row_at t.table) s.count row_same,
        g.count,
        g.auto_switch,
        g.absolute,
        g.arm,
        g.riscv,
        g.current,
      )

-- ---- the canonical form

-- the slots of an entry in it
slot_at : (e : Entry) (i : ℕ) → i < 4 → get_or (neat_entry e).users i 0 ≡ slot e i
unfolding neat_entry
slot_at e zero l = refl
slot_at e (suc zero) l = refl
slot_at e (suc (suc zero)) l = refl
slot_at e (suc (suc (suc zero))) l = refl
slot_at e (suc (suc (suc (suc i)))) l = absurd (omega arith)

-- a table that fits, and user families that do
pub record Few (s : Settings) : Type 0 where
  pub entries : s.count ≤ 16
  pub users : (k : ℕ) → k < s.count → (entry_at s.table k).user_count ≤ 4

neat_entry_lem : (s : Settings) → s.count ≤ 16 → (k : ℕ) → k < s.count → entry_at (neat s).table k ≡ neat_entry (entry_at s.table k)
unfolding neat neat_at
neat_entry_lem s few k l = table_at (neat_at s.table) s.count k few l

same_alike : (d e : Entry) → neat_entry d ≡ neat_entry e → d.user_count ≤ 4 → AlikeEntry d e
unfolding neat_entry
same_alike d e q few =
    let n : d.user_count ≡ e.user_count = ap (λ (x : Entry). x.user_count) q in
    record {
      first = ap (λ (x : Entry). x.first) q;
      sectors = ap (λ (x : Entry). x.sectors) q;
      link = ap (λ (x : Entry). x.link) q;
      accepts_data = ap (λ (x : Entry). x.«data») q;
      accepts_arm_s = ap (λ (x : Entry). x.arm_s) q;
      accepts_riscv = ap (λ (x : Entry). x.riscv) q;
      accepts_arm_ns = ap (λ (x : Entry). x.arm_ns) q;
      not_bootable_arm = ap (λ (x : Entry). x.not_bootable_arm) q;
      not_bootable_riscv = ap (λ (x : Entry). x.not_bootable_riscv) q;
      user_count = n;
      users = λ i l. (let m : i < 4 = omega arith in slot_used d i l ∙ sym (slot_at d i m) ∙ ap (λ (x : Entry). get_or x.users i 0) q ∙ slot_at e i m ∙ sym (slot_used e i (omega arith)));
    }

same_no_restart : (d e : Entry) → neat_entry d ≡ neat_entry e → d.no_restart ≡ e.no_restart
unfolding neat_entry
same_no_restart d e q = ap (λ (x : Entry). x.no_restart) q

-- settings of one canonical form compare equal
module _ (s t : Settings) (few : Few s) (small : t.count ≤ 16) (q : neat s ≡ neat t) where
  same_count : s.count ≡ t.count
  unfolding neat
  same_count = ap (λ (x : Settings). x.count) q

  same_entry : (k : ℕ) → k < s.count → neat_entry (entry_at s.table k) ≡ neat_entry (entry_at t.table k)
  same_entry k l =
      let n = same_count in
      sym (neat_entry_lem s few.entries k l) ∙ ap (λ (x : Settings). entry_at x.table k) q ∙ neat_entry_lem t small k (omega arith)

  pub neat_compared : Compared s t
  unfolding neat
  neat_compared =
      record {
        alike = record {
          arm = ap (λ (x : Settings). x.arm) q;
          riscv = ap (λ (x : Settings). x.riscv) q;
          current = ap (λ (x : Settings). x.current) q;
          auto_switch = ap (λ (x : Settings). x.auto_switch) q;
          absolute = ap (λ (x : Settings). x.absolute) q;
          count = same_count;
          entries = λ k l. same_alike (entry_at s.table k) (entry_at t.table k) (same_entry k l) (few.users k l);
        };
        no_restart = λ k l. same_no_restart (entry_at s.table k) (entry_at t.table k) (same_entry k l);
      }

-- ---- the canonical form is as good

neat_alike : (e : Entry) → e.user_count ≤ 4 → AlikeEntry (neat_entry e) e
unfolding neat_entry
neat_alike e few =
    record {
      first = refl;
      sectors = refl;
      link = refl;
      accepts_data = refl;
      accepts_arm_s = refl;
      accepts_riscv = refl;
      accepts_arm_ns = refl;
      not_bootable_arm = refl;
      not_bootable_riscv = refl;
      user_count = refl;
      users = λ i l. slot_at e i (omega arith) ∙ sym (slot_used e i l);
    }

alike_neat : (s : Settings) → Few s → Alike (neat s) s
unfolding neat
alike_neat s few =
    record {
      arm = refl;
      riscv = refl;
      current = refl;
      auto_switch = refl;
      absolute = refl;
      count = refl;
      entries = λ k l. rw (neat_entry_lem s few.entries k l) (neat_alike (entry_at s.table k) (few.users k l));
    }

pub good_neat : (s : Settings) (len : ℕ) → Few s → good_settings (neat s) len ≡ good_settings s len
good_neat s len few = alike_good (neat s) s len (alike_neat s few)
