-- The claims of specs/Claims.antt hold. Assumes nothing.
use Prim.Native.Nat.{ℕ, zero, suc, ◌+◌, ◌*◌, ◌<◌, ◌≤◌, ◌^◌}
use mathlib.Core.Path.{◌≡◌, refl, sym, ap, ◌∙◌}
use mathlib.Core.List.{List, [], ◌∷◌}
use native.Mathlib.Omega.{arith}
use lib.ListN.{length, get_or}
use borrow.Author.Tests.{eq-eqb}
use Rattle.laws.specs.Over.{over}
use Rattle.laws.proofs.OverLaws.{over_whole}
use Rattle.partitions.specs.declared.Entry.{Entry}
use Rattle.partitions.specs.declared.Settings.{Settings}
use Rattle.partitions.specs.Settings.{entry_at}
use Rattle.partitions.specs.Table.{table_of}
use Rattle.partitions.proofs.Laws.{good_count}
use Rattle.partitions.proofs.Tables.{table_at, table_cong}
use Rattle.settings_layout.specs.Layout.{settings_from, settings_bytes, with_settings}
use Rattle.settings_layout.proofs.entries.Entries.{Typed}
use Rattle.settings_layout.proofs.Written.{settings_back}
use Rattle.store_entry.specs.EntryBits.{slot, neat_entry}
use Rattle.store_entry.proofs.OneEntry.{Fits}
use Rattle.std.specs.Prelude.{Ok}
use Rattle.settings_store.specs.Store.{store_of, write_call, write_of}
use Rattle.settings_store.proofs.write.Cases.{write_good}
use Rattle.settings_claims.specs.Claims.{neat_at, neat}
use Rattle.settings_claims.proofs.Written.{good_fields, store_length}
use Rattle.settings_claims.proofs.Encoding.{Found, read_found, read_is_the_encoding}
use Rattle.storeapi.specs.Calls.{store_call, kept_settings, told_of, store_read_call, written_call, store_write_call}
use Rattle.storeapi.specs.Claims.{Reads, SettingsAreRead, ReadAndWritten}
use Rattle.storeapi.proofs.Laws.{read_whole}

-- ---- settings that are read fit their bytes

-- an entry in its canonical form
module _ (e : Entry) (q : e ≡ neat_entry e) (narrow : (i : ℕ) → slot e i < 2 ^ 32) where
  abbrev slots : List ℕ
  slots = slot e 0 ∷ slot e 1 ∷ slot e 2 ∷ slot e 3 ∷ []

  users_four : e.users ≡ slots
  unfolding neat_entry
  users_four = ap (λ (x : Entry). x.users) q

  user_same : (i : ℕ) → get_or e.users i 0 ≡ get_or slots i 0
  user_same i = ap (λ (l : List ℕ). get_or l i 0) users_four

  slots_low : (i : ℕ) → get_or slots i 0 < 2 ^ 32
  slots_low zero = narrow 0
  slots_low (suc zero) = narrow 1
  slots_low (suc (suc zero)) = narrow 2
  slots_low (suc (suc (suc zero))) = narrow 3
  slots_low (suc (suc (suc (suc i)))) = omega arith

  users_all : get_or e.users 0 0 ∷ get_or e.users 1 0 ∷ get_or e.users 2 0 ∷ get_or e.users 3 0 ∷ [] ≡ slots
  users_all = rw (user_same 0, user_same 1, user_same 2, user_same 3)

  neat_typed : Fits e → Typed e
  neat_typed fits =
      record {
        first = omega (arith, fits.first);
        sectors = omega (arith, fits.sectors);
        four = users_four ∙ sym users_all;
        user = λ i. rw (user_same i) (slots_low i);
      }

module _ (b : List ℕ) (len : ℕ) (s : Settings) (h : Reads b len s) where
  known : Found b len s
  known = read_found b len s h.bytes h.reading

  canonical : neat s ≡ s
  canonical = (read_is_the_encoding b len s h.bytes h.reading).1

  few : s.count ≤ 16
  few = good_count s len known.good

  entry_neat : (k : ℕ) → k < s.count → entry_at s.table k ≡ neat_entry (entry_at s.table k)
  unfolding neat neat_at
  entry_neat k l = ap (λ (x : Settings). entry_at x.table k) (sym canonical) ∙ table_at (neat_at s.table) s.count k few l

  blank : s.table ≡ table_of (entry_at s.table) s.count
  unfolding neat neat_at
  blank =
      ap (λ (x : Settings). x.table) (sym canonical)
      ∙ table_cong (neat_at s.table) (entry_at s.table) s.count (λ k l. sym (entry_neat k l))

  typed : (k : ℕ) → k < s.count → Typed (entry_at s.table k)
  typed k l =
      neat_typed (entry_at s.table k) (entry_neat k l) (λ i. known.narrow k i l) (good_fields s len known.right known.good k l)

  back : settings_from (settings_bytes s) ≡ s
  back = settings_back s few typed blank

  told : (l : List ℕ) → length l ≡ 550 → store_read_call b len l ≡ store_call 0 (settings_bytes s)
  unfolding told_of kept_settings with_settings
  told l e = read_whole b len l e ∙ rw (h.reading, eq-eqb (length l) 550 e)

  length_store : length b ≡ 2 + 22 * s.count
  length_store = ap length (sym known.encoded) ∙ store_length s few (good_fields s len known.right known.good) known.narrow

  again : (out : List ℕ) → length out ≡ length b → write_of s len out ≡ write_call (Ok tt) b
  again out e =
      let n = length_store in
      let store : over out 0 (store_of s) ≡ b = ap (over out 0) known.encoded ∙ over_whole out b (sym e) in
      sym (write_good s len out known.right known.good (omega arith) (sym store))

pub settings_are_read : SettingsAreRead
settings_are_read b len s l h e = rw (told b len s h l e) (refl, back b len s h)

pub read_and_written : ReadAndWritten
unfolding store_write_call
read_and_written b len s l out h e r =
    rw (told b len s h l e, back b len s h) (ap written_call (again b len s h out r))
