-- One step more, one block more, and what stands after a message. Assumes nothing.
use Rattle.std.proofs.Common.{◌≡◌, ℕ, zero, suc, ◌+◌, ◌-◌, ◌*◌, ◌/◌, ◌%◌, ◌^◌, ◌<◌, ◌≤◌, Bool, T, ltb, List, [], ◌∷◌, ◌++◌, length, get_or, take, drop, set, replicate, sym, refl, ap, ◌∙◌, append_assoc, add-zero, add-suc, mod-lt, suc-add, zero-add, add-one, arith, ltb→lt, length-append, length-drop, length-take-le, take_all, take-take, drop-drop, take_at, drop_at, le-ltb, lt-ltb}
use lib.ListN.{length-replicate, replicate-append-replicate}
use lib.Seq.{take-nil, drop-nil, drop-append-le, take-append-le, set_at}
use Rattle.std.specs.Int as std
use Rattle.std.specs.Int.{w32}
use Rattle.md5_digest.proofs.Table.{at, both, both_left, both_right}
use Rattle.md5_digest.specs.declared.Digest.{Digest}
use Rattle.md5_digest.specs.Md5.{add, rotate_left, f_of, g_of, h_of, i_of, sines, shifts, operation_of, step_of, steps_of, plus, block_of, blocks_of, pad_with, pad_of, md5_of, start}
use Rattle.laws.specs.Bytes.{low_first, number_in}
use Rattle.laws.proofs.BytesLaws.{length_low}

-- each turn is of 1 to 31 bits, by a test over the table
right : ℕ → ℕ → Bool
right k x = both (ltb 0 x) (ltb x 32)

split : (x : ℕ) → T (both (ltb 0 x) (ltb x 32)) → (0 < x) × (x < 32)
split x h = (ltb→lt 0 x (both_left (ltb 0 x) (ltb x 32) h), ltb→lt x 32 (both_right (ltb 0 x) (ltb x 32) h))

pub shift_bounds : (ns : List ℕ) (i : ℕ) → ns ≡ shifts → i < 64 → (0 < get_or ns i 0) × (get_or ns i 0 < 32)
unfolding shifts right
shift_bounds ns i e h = rw e (split (get_or shifts i 0) (at right shifts tt i h))

-- three words added to a fourth, in two orders
add_last : (a f k w : ℕ) → add (add (add a w) k) f ≡ add (add (add a f) k) w
add_last a f k w = omega arith

pub turned : (m ks ns : List ℕ) (i f p : ℕ) (s : Digest) {w q : ℕ} → ks ≡ sines → ns ≡ shifts → w ≡ number_in 4 m (4 * p)
    → q ≡ rotate_left (add (add (add s.a w) (get_or ks i 0)) f) (get_or ns i 0)
    → ◌≡◌ {A = Digest} (record { a = s.d; b = add s.b q; c = s.b; d = s.c }) (operation_of m i f p s)
unfolding operation_of
turned m ks ns i f p s {w} hk hn hw hq = rw (hq, add_last s.a f (get_or ks i 0) w, hw, hk, hn) refl

pub added : (m : List ℕ) (s t : Digest) → t ≡ steps_of m s 64
    → ◌≡◌ {A = Digest} (record { a = add s.a t.a; b = add s.b t.b; c = add s.c t.c; d = add s.d t.d }) (block_of m s)
unfolding block_of plus
added m s t h = rw h refl

-- the operation of each round, with f for its function's value
module _ (m : List ℕ) (i : ℕ) (s : Digest) {u : Digest} {f : ℕ} where
  pub step_f : i < 16 → f ≡ f_of s.b s.c s.d → u ≡ operation_of m i f i s → u ≡ step_of m i s
  unfolding step_of
  step_f h e o = o ∙ rw (e, lt-ltb i 16 h) refl

  pub step_g : 16 ≤ i → i < 32 → f ≡ g_of s.b s.c s.d → u ≡ operation_of m i f ((5 * i + 1) % 16) s → u ≡ step_of m i s
  unfolding step_of
  step_g l h e o = o ∙ rw (e, le-ltb i 16 l, lt-ltb i 32 h) refl

  pub step_h : 32 ≤ i → i < 48 → f ≡ h_of s.b s.c s.d → u ≡ operation_of m i f ((3 * i + 5) % 16) s → u ≡ step_of m i s
  unfolding step_of
  step_h l h e o = o ∙ rw (e, le-ltb i 16 (omega arith), le-ltb i 32 l, lt-ltb i 48 h) refl

  pub step_i : 48 ≤ i → f ≡ i_of s.b s.c s.d → u ≡ operation_of m i f (7 * i % 16) s → u ≡ step_of m i s
  unfolding step_of
  step_i l e o = o ∙ rw (e, le-ltb i 16 (omega arith), le-ltb i 32 (omega arith), le-ltb i 48 l) refl

pub steps_none : (m : List ℕ) (s : Digest) → s ≡ steps_of m s 0
unfolding steps_of
steps_none m s = refl

-- one operation more
pub steps_next : (m : List ℕ) (s t u : Digest) (i : ℕ) → t ≡ steps_of m s i → u ≡ step_of m i t → u ≡ steps_of m s (i + 1)
unfolding steps_of
steps_next m s t u i e o = o ∙ rw (add-one i, e) refl

pub blocks_none : (l : List ℕ) (s : Digest) → s ≡ blocks_of l s 0
unfolding blocks_of
blocks_none l s = refl

pub blocks_more : (l : List ℕ) (s : Digest) (k : ℕ) → block_of (take 64 (drop (64 * k) l)) (blocks_of l s k) ≡ blocks_of l s (k + 1)
unfolding blocks_of
blocks_more l s k = rw (add-one k) refl

part : (n m : ℕ) (l : List ℕ) → take m (drop n l) ≡ drop n (take (n + m) l)
part zero m l = rw (zero-add m) refl
part (suc n) m [] = rw (take-nil m, take-nil (suc n + m), drop-nil (suc n)) refl
part (suc n) m (x ∷ l) = rw (suc-add n m) (part n m l)

-- the first k blocks are those of any message that begins alike, and the later ones those of what is left
pub blocks_alike : (l r : List ℕ) (s : Digest) (k : ℕ) → take (64 * k) l ≡ take (64 * k) r → blocks_of l s k ≡ blocks_of r s k
unfolding blocks_of
blocks_alike l r s zero e = refl
blocks_alike l r s (suc k) e =
    let f : take (64 * k) l ≡ take (64 * k) r =
    sym (take-take (64 * k) (64 * suc k) l (omega arith)) ∙ ap (take (64 * k)) e ∙ take-take (64 * k) (64 * suc k) r (omega arith) in
    let j : 64 * k + 64 ≡ 64 * suc k = omega arith in
    let g : take 64 (drop (64 * k) l) ≡ take 64 (drop (64 * k) r) =
    part (64 * k) 64 l ∙ ap (drop (64 * k)) (ap (λ (j : ℕ). take j l) j ∙ e ∙ ap (λ (j : ℕ). take j r) (sym j)) ∙ sym (part (64 * k) 64 r) in
    rw (g, blocks_alike l r s k f) refl

pub blocks_add : (l : List ℕ) (s : Digest) (q k : ℕ) → blocks_of l s (q + k) ≡ blocks_of (drop (64 * q) l) (blocks_of l s q) k
unfolding blocks_of
blocks_add l s q zero = ap (blocks_of l s) (add-zero q)
blocks_add l s q (suc k) =
    let j : 64 * (q + k) ≡ 64 * q + 64 * k = omega arith in
    rw (add-suc q k, drop-drop (64 * k) (64 * q) l, j, blocks_add l s q k) refl

pub blocks_next : (l : List ℕ) (s t u : Digest) (k : ℕ) → t ≡ blocks_of l s k → u ≡ block_of (take (64 * k + 64 - 64 * k) (drop (64 * k) l)) t → u ≡ blocks_of l s (k + 1)
blocks_next l s t u k p q =
    let e : 64 * k + 64 - 64 * k ≡ 64 = omega arith in
    q ∙ rw (e, p) (blocks_more l s k)

-- a block's end: the rest of a message, a bit, zeros, the length from e on
module _ (rest t : List ℕ) (n e c : ℕ) (hr : length rest ≡ n % 64) (he : n % 64 < e) (hl : e ≤ 120) (hc : c ≡ length rest)
    (y : List ℕ) (hy : y ≡ rest) (ht : t ≡ y ++ drop (length rest) (replicate 128 0)) where
  zeros : drop {A = ℕ} (length rest) (replicate 128 0) ≡ replicate (128 - length rest) 0
  zeros =
      let h : length rest + (128 - length rest) ≡ 128 = omega arith in
      ap (λ (k : ℕ). drop {A = ℕ} (length rest) (replicate k 0)) (sym h)
      ∙ ap (drop {A = ℕ} (length rest)) (sym (replicate-append-replicate {A = ℕ} (length rest) (128 - length rest) 0))
      ∙ drop_at {A = ℕ} (replicate (length rest) 0) (replicate (128 - length rest) 0) (length rest) (length-replicate {A = ℕ} (length rest) 0)

  front : List ℕ
  front = rest ++ (128 ∷ replicate (e - 1 - n % 64) 0)

  written : set t c 128 ≡ front ++ replicate (128 - e) 0
  unfolding front
  written =
      let h : 128 - length rest ≡ suc (e - 1 - n % 64 + (128 - e)) = omega arith in
      rw (ht, hy, hc, zeros, h, set_at rest 0 (replicate (e - 1 - n % 64 + (128 - e)) 0) 128 (length rest) refl, ← replicate-append-replicate {A = ℕ} (e - 1 - n % 64) (128 - e) 0, append_assoc) refl

  front_long : length front ≡ e
  unfolding front
  front_long = simp (length-append, length-replicate) (omega arith)

  pub long : length (set t c 128) ≡ 128
  long = rw written (simp (length-append, length-replicate, front_long) (omega arith))

  pub whole : (b : List ℕ) → b ≡ low_first 8 (8 * n) → length (take e (set t c 128) ++ (b ++ drop (e + 8 - e) (drop e (set t c 128)))) ≡ 128
  whole b hb =
      let h : length b ≡ 8 = rw hb (length_low 8 (8 * n)) in
      simp (length-append, length-take-le e (set t c 128) (omega (arith, long)), length-drop) (omega (arith, long))

  tail : front ++ low_first 8 (8 * n) ≡ rest ++ pad_with (e - 1 - n % 64) n
  unfolding front pad_with
  tail = append_assoc rest _ _

  pub head : (b : List ℕ) → b ≡ low_first 8 (8 * n) → take (e + 8) (take e (set t c 128) ++ (b ++ drop (e + 8 - e) (drop e (set t c 128)))) ≡ rest ++ pad_with (e - 1 - n % 64) n
  unfolding pad_with
  head b hb =
      let k : length b ≡ 8 = rw hb (length_low 8 (8 * n)) in
      let h : length (front ++ b) ≡ e + 8 = length-append front b ∙ omega (arith, front_long) in
      let x : take e (set t c 128) ≡ front = ap (take e) written ∙ take_at front (replicate (128 - e) 0) e front_long in
      rw (x, ← append_assoc, take_at (front ++ b) (drop (e + 8 - e) (drop e (set t c 128))) (e + 8) h) (ap (λ (y : List ℕ). front ++ y) hb ∙ tail)

-- blocks of a message of which only the first j bytes are known
pub blocks_of_head : (l r : List ℕ) (s : Digest) (j : ℕ) → take j l ≡ r → blocks_of l s (j / 64) ≡ blocks_of r s (j / 64)
blocks_of_head l r s j e =
    blocks_alike l r s (j / 64) (sym (take-take (64 * (j / 64)) j l (omega arith)) ∙ ap (take (64 * (j / 64))) e)

-- a message's whole blocks, and then what is left with its end
pub joined : (l : List ℕ) (s t : Digest) (n : ℕ) → n ≡ length l → t ≡ blocks_of l start (n / 64)
    → s ≡ blocks_of (take (n - 64 * (n / 64)) (drop (64 * (n / 64)) l) ++ pad_of n) t ((n % 64 + 72) / 64) → s ≡ md5_of l
unfolding md5_of
joined l s t n hn ht hs =
    let q = n / 64 in
    let k = (n % 64 + 72) / 64 in
    let all : (length l + 72) / 64 ≡ q + k = omega arith in
    let h : 64 * q ≤ length l = omega arith in
    let left : take (n - 64 * q) (drop (64 * q) l) ≡ drop (64 * q) l = take_all (n - 64 * q) (drop (64 * q) l) (simp length-drop (omega arith)) in
    let same : blocks_of l start q ≡ blocks_of (l ++ pad_of n) start q = blocks_alike l (l ++ pad_of n) start q (sym (take-append-le (64 * q) l (pad_of n) h)) in
    hs
    ∙ ap (λ (x : List ℕ). blocks_of (x ++ pad_of n) t k) left
    ∙ ap (λ (x : List ℕ). blocks_of x t k) (sym (drop-append-le (64 * q) l (pad_of n) h))
    ∙ ap (λ (x : Digest). blocks_of (drop (64 * q) (l ++ pad_of n)) x k) (ht ∙ same)
    ∙ sym (blocks_add (l ++ pad_of n) start q k)
    ∙ ap (λ (x : ℕ). blocks_of (l ++ pad_of n) start x) (sym all)
    ∙ ap (λ (x : ℕ). blocks_of (l ++ pad_of x) start ((length l + 72) / 64)) hn

-- the two places of the length
pub ended : (l : List ℕ) (s t : Digest) (n e : ℕ) → (119 - n % 64) % 64 ≡ e - 1 - n % 64 → (n % 64 + 72) / 64 ≡ (e + 8) / 64
    → s ≡ blocks_of (l ++ pad_with (e - 1 - n % 64) n) t ((e + 8) / 64) → s ≡ blocks_of (l ++ pad_of n) t ((n % 64 + 72) / 64)
ended l s t n e p q h = rw (p, q) h

-- a rotation, as the method of `std` has it
pub rotate_is : (x n : ℕ) → 0 < n → n < 32 → std.rotate_left w32 x n ≡ rotate_left x n
unfolding rotate_left
rotate_is x n p q =
    let e : n % 32 ≡ n = omega arith in
    let f : (32 - n) % 32 ≡ 32 - n = omega arith in
    rw (e, f)

-- ---- the words of a digest have 32 bits

pub record Words (x : Digest) : Type 0 where
  pub a : x.a < 2 ^ 32
  pub b : x.b < 2 ^ 32
  pub c : x.c < 2 ^ 32
  pub d : x.d < 2 ^ 32

blocks_words : (l : List ℕ) (s : Digest) (n : ℕ) → 0 < n → Words (blocks_of l s n)
unfolding blocks_of block_of plus
blocks_words l s zero h = absurd (omega arith)
blocks_words l s (suc n) h =
    let t = blocks_of l s n in
    let m = take 64 (drop (64 * n) l) in
    let u = steps_of m t 64 in
    let p : (x : ℕ) → x % 2 ^ 32 < 2 ^ 32 = λ x. mod-lt x (omega arith) in
    record { a = p (t.a + u.a); b = p (t.b + u.b); c = p (t.c + u.c); d = p (t.d + u.d) }

pub digest_words : (l : List ℕ) → Words (md5_of l)
unfolding md5_of
digest_words l = blocks_words (l ++ pad_of (length l)) start ((length l + 72) / 64) (omega arith)
