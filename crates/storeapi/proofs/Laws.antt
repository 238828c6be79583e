-- The calls about stores by cases. Assumes nothing.
use Prim.Native.Nat.{ℕ}
use mathlib.Core.Path.{◌≡◌, sym, ap, ◌∙◌}
use mathlib.Core.Logic.{◌≢◌}
use mathlib.Core.List.{List}
use lib.ListN.{length}
use borrow.Author.Tests.{eq-eqb, ne_eqb}
use Rattle.partitions.specs.declared.Settings.{Settings}
use Rattle.settings_layout.specs.Layout.{settings_from}
use Rattle.std.specs.Prelude.{Result}
use Rattle.settings_store.specs.declared.write.StoreError.{StoreError}
use Rattle.settings_store.specs.Store.{read_of, write_call, answer_number, write_of}
use Rattle.storeapi.specs.Calls.{StoreCall, store_call, told_of, store_read_call, written_call, store_write_call}

module _ (b : List ℕ) (len : ℕ) (l : List ℕ) where
  pub read_other : length l ≢ 550 → store_call 1 l ≡ store_read_call b len l
  unfolding store_read_call
  read_other h = rw (ne_eqb (length l) 550 h)

  pub read_whole : length l ≡ 550 → store_read_call b len l ≡ told_of l (read_of b len)
  unfolding store_read_call
  read_whole h = rw (eq-eqb (length l) 550 h)

  pub read_told : length l ≡ 550 → {r : Result Settings StoreError} {x : StoreCall} → r ≡ read_of b len → x ≡ told_of l r → x ≡ store_read_call b len l
  read_told h {r} q k = k ∙ ap (told_of l) q ∙ sym (read_whole h)

pub written : (b : List ℕ) (len : ℕ) (out : List ℕ) {s : Settings} {a : Result (Unit {0}) StoreError} {n : ℕ} {l : List ℕ} → s ≡ settings_from b
    → write_call a l ≡ write_of s len out → n ≡ answer_number a → store_call n l ≡ store_write_call b len out
unfolding store_write_call
written b len out {s} {a} {n} {l} hs hw hn =
    ap (λ (m : ℕ). store_call m l) hn ∙ ap written_call (hw ∙ ap (λ (x : Settings). write_of x len out) hs)
