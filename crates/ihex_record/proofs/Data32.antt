-- The 32 bytes that hold a record's data. Assumes nothing.
use Rattle.std.proofs.Common.{◌≡◌, ℕ, ◌+◌, ◌-◌, ◌<◌, ◌≤◌, ltb, List, ◌++◌, length, get_or, take, drop, replicate, sym, ◌∙◌, arith, length-append, length-drop, length-take, length-take-le, get_or-drop, get_or-take, get_or-append-add, ext_get_or, ltb-false, ltb-true}
use lib.ListN.{get_or-replicate, get_or-append, get_or-eq_default}
use Rattle.laws.proofs.Tests.{split}
use Rattle.laws.proofs.TabLaws.{length_tab, get_d_tab, is_tab}
use Rattle.ihex_record.specs.Record.{len_of, data_of, data32}

pub length_data32 : (d : List ℕ) → length (data32 d) ≡ 32
unfolding data32
length_data32 d = length_tab 32 (λ i. get_or d i 0)

pub get_d_data32 : (d : List ℕ) (j : ℕ) → j < 32 → get_or (data32 d) j 0 ≡ get_or d j 0
unfolding data32
get_d_data32 d j h = get_d_tab 32 (λ i. get_or d i 0) j h

-- the used part of the 32 bytes
pub data32_take : (d : List ℕ) → length d ≤ 32 → take (length d) (data32 d) ≡ d
data32_take d h =
    let n : length (take (length d) (data32 d)) ≡ length d = length-take-le (length d) (data32 d) (omega (arith, length_data32 d)) in
    ext_get_or 0 (take (length d) (data32 d)) d n
    (λ j l. let k : j < length d = omega arith in get_or-take (length d) (data32 d) j 0 k ∙ get_d_data32 d j (omega arith))

-- bytes, and zeros up to 32
data32_append : (d z : List ℕ) → length d + length z ≡ 32 → ((i : ℕ) → i < length z → get_or z i 0 ≡ 0) → d ++ z ≡ data32 d
unfolding data32
data32_append d z e h =
    is_tab (d ++ z) 32 (λ i. get_or d i 0) (simp length-append e)
    (λ j l.
    split (ltb j (length d))
    (λ y. get_or-append d z 0 j (ltb-true j (length d) y))
    (λ y.
    let n : length d ≤ j = ltb-false j (length d) y in
    let f : length d + (j - length d) ≡ j = omega arith in
    let g : get_or (d ++ z) j 0 ≡ get_or z (j - length d) 0 = rw f at (get_or-append-add d z (j - length d) 0) in
    g ∙ h (j - length d) (omega arith) ∙ sym (get_or-eq_default d 0 n)))

-- bytes over the first of 32 zeros
data32_copied : (d : List ℕ) → length d ≤ 32 → d ++ drop (length d) (replicate 32 0) ≡ data32 d
data32_copied d h =
    let z : List ℕ = drop (length d) (replicate 32 0) in
    let n : length z ≡ 32 - length d = length-drop (length d) (replicate 32 0) in
    data32_append d z (omega arith)
    (λ i l. get_or-drop (length d) (replicate 32 0) i 0 ∙ get_or-replicate 32 (length d + i) 0 0 (omega arith))

-- the data of a record's bytes, as the code copies it to the first of 32 zeros
pub data32_data : (b : List ℕ) (used : ℕ) {d : List ℕ} → used ≡ len_of b → used ≤ 32 → used + 5 ≤ length b
    → d ≡ take (used + 4 - 4) (drop 4 b) → d ++ drop used (replicate 32 0) ≡ data32 (data_of b)
data32_data b used {d} e h n q =
    let f : used + 4 - 4 ≡ len_of b = omega arith in
    let s : d ≡ data_of b = rw f at q in
    let m : length (data_of b) ≡ used = simp (length-take, length-drop) (omega arith) in
    let g : length (data_of b) ≤ 32 = omega arith in
    rw s (rw m at (data32_copied (data_of b) g))
