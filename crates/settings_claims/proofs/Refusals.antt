-- A store that is refused, by its bytes and bits. Assumes nothing.
use Prim.Native.Nat.{ℕ, ◌+◌, ◌*◌}
use mathlib.Core.Path.{◌≡◌, refl, sym, ap, ◌∙◌}
use mathlib.Core.Logic.{⊎_elim}
use mathlib.Core.Bool.{false, not, ◌||◌, or-true}
use mathlib.Core.List.{List}
use lib.Dec.{eqb}
use lib.ListN.{get_or}
use borrow.Author.Tests.{eq-eqb, ne_eqb}
use Rattle.settings_store.proofs.Cases.{head_two, read_1, read_short, read_on, read_40, read_many, read_41, read_42}
use Rattle.settings_store.specs.Store.{entry_of, read_of, read_number}
use Rattle.partitions.specs.Table.{table_of}
use Rattle.settings_claims.specs.Refusals.{version_in, count_in, Headed, row_1, row_41, row_40, row_42, row_41_length, ReadRefuses, row_42_stray, row_2, ReadRefusesLate, StoreNumbers}
use Rattle.settings_claims.proofs.Compared.{good_neat}
use Rattle.settings_claims.proofs.Written.{read_bad}
use Rattle.settings_claims.proofs.Strays.{stray_tested}
use Rattle.settings_claims.proofs.LaidOut.{laid_store, laid_fits, laid_narrow}

-- the head's two bytes as one number
abbrev head : List ℕ → ℕ
head b = get_or b 0 0 * 256 + get_or b 1 0

known_is : (b : List ℕ) (len : ℕ) → Headed b len → not (eqb (version_in b) 1 || eqb (version_in b) 2) ≡ false
known_is b len h =
    ⊎_elim (λ e. rw (eq-eqb (version_in b) 1 e)) (λ e. rw (eq-eqb (version_in b) 2 e, or-true (eqb (version_in b) 1))) h.known

pub read_refuses : ReadRefuses
unfolding ReadRefuses
read_refuses b len n (row_1 h) = ap read_number (sym (read_1 b len h))
read_refuses b len n (row_41 p h) = ap read_number (sym (read_short b len p h))
read_refuses b len n (row_40 p q h k) =
    ap read_number (sym (read_on b len p q (head b) (head_two b q) (read_40 b len (head b) (rw (ne_eqb (version_in b) 1 h, ne_eqb (version_in b) 2 k)))))
read_refuses b len n (row_42 h m) =
    ap read_number (sym (read_on b len h.right h.some (head b) (head_two b h.some) (read_many b len (head b) (known_is b len h) m)))
read_refuses b len n (row_41_length h f w) =
    ap read_number (sym (read_on b len h.right h.some (head b) (head_two b h.some) (read_41 b len (head b) (known_is b len h) f w)))

pub read_refuses_late : ReadRefusesLate
unfolding ReadRefusesLate
read_refuses_late b len n (row_42_stray w x) =
    let h = w.headed in
    ap read_number
    (sym
    (read_on b len h.right h.some (head b) (head_two b h.some)
    (read_42 b len (head b) (known_is b len h) w.few w.long {table = table_of (entry_of b) (count_in b)} refl refl refl (stray_tested b len w x))))
read_refuses_late b len n (row_2 s right low few users laid bad) =
    let bad-neat = good_neat s len (record { entries = few; users = users }) ∙ bad in
    ap (λ (x : List ℕ). read_number (read_of x len)) (sym (laid_store s b low few users laid))
    ∙ ap read_number (read_bad s few (laid_fits s b low few users laid) (laid_narrow s b low few users laid) len right bad-neat)

pub store_numbers : StoreNumbers
unfolding StoreNumbers
store_numbers = refl
