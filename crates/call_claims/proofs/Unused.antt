-- The claims of specs/Unused.antt hold. Assumes nothing.
use Prim.Native.Nat.{ℕ, zero, suc, ◌+◌, ◌*◌, ◌/◌, ◌≤◌, ◌<◌}
use mathlib.Core.Path.{◌≡◌, refl, sym, ap, ◌∙◌}
use mathlib.Core.List.{List, [], ◌∷◌}
use native.Mathlib.Nat.{suc-add, zero-add}
use native.Mathlib.Omega.{arith}
use lib.ListN.{length, take, drop}
use lib.Seq.{take-nil, take-take, get_or-take}
use Rattle.partitions.specs.declared.Entry.{Entry}
use Rattle.partitions.specs.declared.Settings.{Settings}
use Rattle.partitions.specs.Settings.{entry_at}
use Rattle.partitions.specs.Table.{table_of}
use Rattle.partitions.specs.Alike.{AlikeEntry, Alike}
use Rattle.partitions.proofs.Tables.{table_cong}
use Rattle.arrival.specs.Arrive.{World}
use Rattle.arrival_claims.specs.Alike.{AlikeSettingsAnswerAlike}
use Rattle.arrival_claims.proofs.Alike.{decided_alike, alike_settings_answer_alike, alike_left, alike_answers, alike_discards}
use Rattle.flash_plan.specs.Plan.{accepting_by, accepting_of}
use Rattle.uf2_receiver.specs.Receiver.{world}
use Rattle.uf2_batch.specs.Batch.{arrivals_of, fewer, batch_of}
use Rattle.settings_layout.specs.Layout.{byte_at, entry_from, entry_in, count_from, used_of, settings_of, settings_from, transfer_from}
use Rattle.call_bytes.specs.PlacesCalls.{ask_bytes}
use Rattle.call_bytes.specs.Calls.{look_bytes, take_bytes, accept_bytes, take_batch}
use Rattle.call_claims.specs.Unused.{used_bytes, UnusedChangeNothing, AlikeChangeNoCall, UnusedChangeNoCall}

-- ---- parts of the bytes that agree

drop_take : {A : Type 0} (j m : ℕ) (l : List A) → take m (drop j l) ≡ drop j (take (j + m) l)
drop_take zero m l = rw (zero-add m)
drop_take (suc j) m [] = rw (suc-add j m) (take-nil m)
drop_take (suc j) m (x ∷ l) = rw (suc-add j m) (drop_take j m l)

module _ (b c : List ℕ) (n : ℕ) (e : take n b ≡ take n c) where
  same_byte : (i : ℕ) → i < n → byte_at b i ≡ byte_at c i
  same_byte i l = sym (get_or-take n b i 0 l) ∙ ap (λ (x : List ℕ). byte_at x i) e ∙ get_or-take n c i 0 l

  same_front : (k : ℕ) → k ≤ n → take k b ≡ take k c
  same_front k l = sym (take-take k n b l) ∙ ap (take k) e ∙ take-take k n c l

  same_part : (j m : ℕ) → j + m ≤ n → take m (drop j b) ≡ take m (drop j c)
  same_part j m l = drop_take j m b ∙ ap (drop j) (same_front (j + m) l) ∙ sym (drop_take j m c)

-- ---- the table

-- u entries are used
module _ (b c : List ℕ) (n u : ℕ) (fits : 6 + 34 * u ≤ n) (e : take n b ≡ take n c) where
  same_entry : (k : ℕ) → k < u → entry_in b k ≡ entry_in c k
  unfolding entry_in
  same_entry k l = ap entry_from (same_part b c n e (6 + k * 34) 34 (omega arith))

  same_table : table_of (entry_in b) u ≡ table_of (entry_in c) u
  same_table = table_cong (entry_in b) (entry_in c) u same_entry

-- ---- the settings

pub unused_change_nothing : UnusedChangeNothing
unfolding UnusedChangeNothing settings_from settings_of
unused_change_nothing b c h =
    let byte : (i : ℕ) → i < 6 → byte_at b i ≡ byte_at c i = λ i l. same_byte b c (used_bytes b) h.front i (omega arith) in
    let count : count_from b ≡ count_from c = rw (h.size, byte 5 (omega arith)) in
    let table : table_of (entry_in b) (used_of (count_from b)) ≡ table_of (entry_in c) (used_of (count_from c)) =
    same_table b c (used_bytes b) (used_of (count_from b)) (omega arith) h.front ∙ ap (λ (n : ℕ). table_of (entry_in c) (used_of n)) count in
    cc (byte 0 (omega arith), byte 1 (omega arith), byte 2 (omega arith), byte 3 (omega arith), byte 4 (omega arith))

-- ---- the calls

alike_itself : (s : Settings) → Alike s s
alike_itself s =
    let entry : (e : Entry) → AlikeEntry e e =
    λ e.
    record {
      first = refl;
      sectors = refl;
      link = refl;
      accepts_data = refl;
      accepts_arm_s = refl;
      accepts_riscv = refl;
      accepts_arm_ns = refl;
      not_bootable_arm = refl;
      not_bootable_riscv = refl;
      user_count = refl;
      users = λ i l. refl;
    } in
    record { arm = refl; riscv = refl; current = refl; auto_switch = refl; absolute = refl; count = refl; entries = λ k l. entry (entry_at s.table k) }

batch_alike : (s t : Settings) → Alike s t → (w : World) (a r : List ℕ) → batch_of s w a r ≡ batch_of t w a r
unfolding batch_of
batch_alike s t h w a r =
    let l = arrivals_of (fewer (length a / 512) (length r)) a in
    rw (alike_left s t h l w, alike_answers s t h l w, alike_discards s t h l w)

accept_alike : (s t : Settings) → Alike s t → (w : World) (a : List ℕ) → accepting_of s w a ≡ accepting_of t w a
unfolding accepting_of
accept_alike s t h w a = ap (accepting_by w a) (decided_alike s t h w a)

pub alike_change_no_call : AlikeChangeNoCall
unfolding AlikeChangeNoCall AlikeSettingsAnswerAlike ask_bytes look_bytes take_bytes accept_bytes take_batch
alike_change_no_call b c e =
    let same = alike_settings_answer_alike (settings_from b) (settings_from c) e in
    record {
      ask = λ len f l. rw (same.place len f);
      look = λ t a h. rw (same.look (world (transfer_from t) h) a);
      take = λ t a h. rw (same.take (world (transfer_from t) h) a);
      accept = λ t a p h. rw (accept_alike (settings_from b) (settings_from c) e (world (transfer_from t) h) a);
      take_all = λ t a r h. rw (batch_alike (settings_from b) (settings_from c) e (world (transfer_from t) h) a r);
    }

pub unused_change_no_call : UnusedChangeNoCall
unfolding UnusedChangeNoCall UnusedChangeNothing AlikeChangeNoCall
unused_change_no_call b c h =
    let e = unused_change_nothing b c h in
    alike_change_no_call b c (rw e (alike_itself (settings_from c)))
