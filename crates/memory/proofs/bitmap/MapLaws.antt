-- The map of a set: which items it marks, and that a mark makes it the map of the set with that item. Assumes nothing.
use mathlib.Core.Path.{◌≡◌, refl, sym, ap, ◌∙◌, fun_ext}
use mathlib.Core.Logic.{◌≢◌}
use mathlib.Core.Bool.{Bool, true, false}
use Prim.Native.Nat.{ℕ, zero, suc, ◌+◌, ◌-◌, ◌*◌, ◌^◌, ◌<◌, ◌≤◌, ◌/◌, ◌%◌}
use native.Mathlib.Omega.{arith}
use lib.Dec.{eqb}
use lib.ListN.{length, get_or, length-set}
use lib.Seq.{get_or-set_same, get_or-set_other}
use borrow.Author.Tests.{eqb-true, eqb-false, eq-eqb, ne_eqb}
use Rattle.memory.specs.Many.{many}
use Rattle.memory.proofs.fill.Laws.{length_many, get_d_many}
use Rattle.laws.specs.Sets.{Set, none, add, one, size}
use Rattle.laws.specs.Tab.{tab}
use Rattle.laws.proofs.Tests.{split}
use Rattle.laws.proofs.Laws.{add_idle, one_le, size_cong}
use Rattle.laws.proofs.TabLaws.{length_tab, get_d_tab, is_tab}
use Rattle.memory.specs.Bitmap.{bit, with_bit, marked_in, with_mark, unmarked, marks, pack, octet, map_of}

-- ---- a byte of eight tests

-- what holds of 0 to 7 holds below 8
eight : (P : ℕ → Type 0) → P 0 → P 1 → P 2 → P 3 → P 4 → P 5 → P 6 → P 7 → (i : ℕ) → i < 8 → P i
eight P a b c d e f g h zero l = a
eight P a b c d e f g h (suc zero) l = b
eight P a b c d e f g h (suc (suc zero)) l = c
eight P a b c d e f g h (suc (suc (suc zero))) l = d
eight P a b c d e f g h (suc (suc (suc (suc zero)))) l = e
eight P a b c d e f g h (suc (suc (suc (suc (suc zero))))) l = f
eight P a b c d e f g h (suc (suc (suc (suc (suc (suc zero)))))) l = g
eight P a b c d e f g h (suc (suc (suc (suc (suc (suc (suc zero))))))) l = h
eight P a b c d e f g h (suc (suc (suc (suc (suc (suc (suc (suc i)))))))) l = absurd (omega arith)

eqb_one : (b : Bool) → eqb (one b) 1 ≡ b
eqb_one true = refl
eqb_one false = refl

module _ (c : Set) where
  -- each of the eight counts at most one
  Ones : Type 0
  Ones = (one (c 0) ≤ 1) × (one (c 1) ≤ 1) × (one (c 2) ≤ 1) × (one (c 3) ≤ 1) × (one (c 4) ≤ 1) × (one (c 5) ≤ 1) × (one (c 6) ≤ 1) × (one (c 7) ≤ 1)

  ones : Ones
  unfolding Ones
  ones = (one_le (c 0), one_le (c 1), one_le (c 2), one_le (c 3), one_le (c 4), one_le (c 5), one_le (c 6), one_le (c 7))

  bit_pack : (i : ℕ) → i < 8 → bit (pack c) i ≡ c i
  unfolding bit pack Ones
  bit_pack =
      let o = ones in
      eight (λ i. bit (pack c) i ≡ c i)
      (at 0 (omega arith)) (at 1 (omega arith)) (at 2 (omega arith)) (at 3 (omega arith))
      (at 4 (omega arith)) (at 5 (omega arith)) (at 6 (omega arith)) (at 7 (omega arith))
    where
      at : (i : ℕ) → pack c / 2 ^ (7 - i) % 2 ≡ one (c i) → bit (pack c) i ≡ c i
      at i e = rw e (eqb_one (c i))

  new_bit : (i : ℕ) → i < 8 → c i ≡ false → pack c + 2 ^ (7 - i) ≡ pack (add i c)
  unfolding pack
  new_bit =
      eight (λ i. c i ≡ false → pack c + 2 ^ (7 - i) ≡ pack (add i c))
      (λ e. rw e (omega arith)) (λ e. rw e (omega arith)) (λ e. rw e (omega arith)) (λ e. rw e (omega arith))
      (λ e. rw e (omega arith)) (λ e. rw e (omega arith)) (λ e. rw e (omega arith)) (λ e. rw e (omega arith))

  with_pack : (i : ℕ) → i < 8 → with_bit (pack c) i ≡ pack (add i c)
  unfolding with_bit
  with_pack i l = rw (bit_pack i l) (split (c i) (λ e. rw e (ap pack (sym (add_idle i c e)))) (λ e. rw e (new_bit i l e)))

pack_cong : (c d : Set) → ((i : ℕ) → i < 8 → c i ≡ d i) → pack c ≡ pack d
unfolding pack
pack_cong c d h =
    rw (h 0 (omega arith), h 1 (omega arith), h 2 (omega arith), h 3 (omega arith), h 4 (omega arith), h 5 (omega arith), h 6 (omega arith), h 7 (omega arith))

-- ---- the map

pub length_map : (n : ℕ) (S : Set) → length (map_of n S) ≡ n
unfolding map_of
length_map n S = length_tab n (octet S)

pub map_none : (n : ℕ) → unmarked n ≡ map_of n none
unfolding unmarked map_of octet pack
map_none n = is_tab (many n 0) n (octet none) (length_many n 0) (λ j h. get_d_many n 0 j h)

pub marked_map : (n : ℕ) (S : Set) (k : ℕ) → k < n * 8 → marked_in (map_of n S) k ≡ S k
unfolding marked_in map_of octet
marked_map n S k h =
    rw (get_d_tab n (octet S) (k / 8) (omega arith))
    (bit_pack (λ i. S (k / 8 * 8 + i)) (k % 8) (omega arith) ∙ ap S (omega arith))

pub marks_map : (n : ℕ) (S : Set) → marks (map_of n S) ≡ size (n * 8) S
unfolding marks
marks_map n S = rw (length_map n S) (size_cong (n * 8) (marked_in (map_of n S)) S (marked_map n S))

octet_here : (S : Set) (j i : ℕ) → octet (add (j * 8 + i) S) j ≡ pack (add i (λ t. S (j * 8 + t)))
unfolding octet
octet_here S j i = ap pack (fun_ext (λ t. rw (shift t)))
  where
    shift : (t : ℕ) → eqb (j * 8 + t) (j * 8 + i) ≡ eqb t i
    shift t =
        split (eqb t i)
        (λ e. eq-eqb (j * 8 + t) (j * 8 + i) (ap (λ (x : ℕ). j * 8 + x) (eqb-true t i e)) ∙ sym e)
        (λ e. let d : t ≢ i = eqb-false t i e in ne_eqb (j * 8 + t) (j * 8 + i) (omega arith) ∙ sym e)

octet_other : (S : Set) (j k : ℕ) → j ≢ k / 8 → octet (add k S) j ≡ octet S j
unfolding octet
octet_other S j k d =
    pack_cong (λ i. add k S (j * 8 + i)) (λ i. S (j * 8 + i)) (λ i l. rw (ne_eqb (j * 8 + i) k (omega arith)))

pub mark_map : (n : ℕ) (S : Set) (k : ℕ) → k < n * 8 → with_mark (map_of n S) k ≡ map_of n (add k S)
unfolding with_mark map_of octet
mark_map n S k h =
    is_tab (with_mark (map_of n S) k) n (octet (add k S))
    (length-set (tab n (octet S)) (k / 8) _ ∙ length_tab n (octet S))
    (λ j l. split (eqb j (k / 8)) (λ e. here j l (eqb-true j (k / 8) e)) (λ e. other j l (eqb-false j (k / 8) e)))
  where
    here : (j : ℕ) → j < n → j ≡ k / 8 → get_or (with_mark (map_of n S) k) j 0 ≡ octet (add k S) j
    here j l e =
        let l' : k / 8 < n = omega arith in
        let len : k / 8 < length (tab n (octet S)) = omega (arith, length_tab n (octet S)) in
        rw e
        (get_or-set_same (map_of n S) (k / 8) _ 0 len
        ∙ ap (λ (x : ℕ). with_bit x (k % 8)) (get_d_tab n (octet S) (k / 8) l')
        ∙ with_pack (λ i. S (k / 8 * 8 + i)) (k % 8) (omega arith)
        ∙ sym (octet_here S (k / 8) (k % 8))
        ∙ ap (λ (x : ℕ). octet (add x S) (k / 8)) (omega arith))

    other : (j : ℕ) → j < n → j ≢ k / 8 → get_or (with_mark (map_of n S) k) j 0 ≡ octet (add k S) j
    other j l d =
        get_or-set_other (map_of n S) (k / 8) j _ 0 d ∙ get_d_tab n (octet S) j l ∙ sym (octet_other S j k d)
