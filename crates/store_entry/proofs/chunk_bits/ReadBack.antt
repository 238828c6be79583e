-- Reading 22 bytes as six large fields. Assumes nothing.
use mathlib.Core.Path.{◌≡◌, refl, sym, ap, ◌∙◌}
use mathlib.Core.Logic.{◌≢◌}
use mathlib.Core.List.{List, [], ◌∷◌}
use Rattle.std.specs.Prelude.{Some, None}
use Prim.Native.Nat.{ℕ, zero, suc, ◌+◌, ◌*◌, ◌/◌, ◌%◌, ◌^◌, ◌<◌}
use native.Mathlib.Nat.{mod-eq_of_lt}
use native.Mathlib.Omega.{arith}
use lib.ListN.{length, get_or}
use borrow.Author.Tests.{eq-eqb, ne_eqb}
use Rattle.laws.specs.Packing.{total, octets, Fit, none, one}
use Rattle.laws.proofs.Widths.{fields_are, packed_lt}
use Rattle.laws.proofs.Groups.{Coarse, done, group, solo, pair, coarse_packed}
use Rattle.store_entry.specs.declared.chunk_bits.Chunks.{Chunks}
use Rattle.store_entry.specs.Chunks.{Joined, chunk_widths, chunk_bytes, chunks_of, entry_chunks, chunks_in, regrouped}
use Rattle.store_entry.proofs.chunk_bits.Groups.{fine, grouped, computes}

-- ---- bytes one by one

-- the elements of a list from k on, n of them
unfoldable pub row : ℕ → ℕ → List ℕ → List ℕ
row zero k b = []
row (suc n) k b = get_or b k 0 ∷ row n (suc k) b

row_tail : (n k x : ℕ) (b : List ℕ) → row n (suc k) (x ∷ b) ≡ row n k b
unfolding row
row_tail zero k x b = refl
row_tail (suc n) k x b = rw (row_tail n (suc k) x b)

row_whole : (b : List ℕ) → row (length b) 0 b ≡ b
unfolding row
row_whole [] = refl
row_whole (x ∷ b) = rw (row_tail (length b) 0 x b, row_whole b)

pub row_all : (n : ℕ) (b : List ℕ) → length b ≡ n → row n 0 b ≡ b
row_all n b e = ap (λ (m : ℕ). row m 0 b) (sym e) ∙ row_whole b

-- ---- six fields

abbrev pub list : Chunks → List ℕ
list c = c.h ∷ c.u ∷ c.v ∷ c.w ∷ c.x ∷ c.tail ∷ []

module _ (a b c d e f : ℕ) (pa : a < 2 ^ 40) (pb : b < 2 ^ 32) (pc : c < 2 ^ 32) (pd : d < 2 ^ 32) (pe : e < 2 ^ 32) (pf : f < 256) where
  abbrev parts : List ℕ
  parts = a ∷ b / 1073741824 ∷ b % 1073741824 ∷ c / 1073741824 ∷ c % 1073741824 ∷ d / 1073741824 ∷ d % 1073741824 ∷ e / 1073741824 ∷ e % 1073741824 ∷ f / 64 ∷ f % 64 ∷ []

  as_groups : Coarse fine parts grouped (a ∷ b ∷ c ∷ d ∷ e ∷ f ∷ [])
  as_groups =
      solo 40 a pa
      (pair 2 30 (b / 1073741824) (b % 1073741824) b (omega arith) (omega arith) (omega arith)
      (pair 2 30 (c / 1073741824) (c % 1073741824) c (omega arith) (omega arith) (omega arith)
      (pair 2 30 (d / 1073741824) (d % 1073741824) d (omega arith) (omega arith) (omega arith)
      (pair 2 30 (e / 1073741824) (e % 1073741824) e (omega arith) (omega arith) (omega arith)
      (pair 2 6 (f / 64) (f % 64) f (omega arith) (omega arith) (omega arith) done)))))

  as_chunks : Coarse fine parts chunk_widths (list (regrouped a b c d e f))
  as_chunks =
      pair 40 2 a (b / 1073741824) (a * 4 + b / 1073741824) pa (omega arith) refl
      (pair 30 2 (b % 1073741824) (c / 1073741824) (b % 1073741824 * 4 + c / 1073741824) (omega arith) (omega arith) refl
      (pair 30 2 (c % 1073741824) (d / 1073741824) (c % 1073741824 * 4 + d / 1073741824) (omega arith) (omega arith) refl
      (pair 30 2 (d % 1073741824) (e / 1073741824) (d % 1073741824 * 4 + e / 1073741824) (omega arith) (omega arith) refl
      (pair 30 2 (e % 1073741824) (f / 64) (e % 1073741824 * 4 + f / 64) (omega arith) (omega arith) refl
      (solo 6 (f % 64) (omega arith) done)))))

  chunks_fit : Fit chunk_widths (list (regrouped a b c d e f))
  chunks_fit = one {w = 42} {v = a * 4 + b / 1073741824} (omega arith) (one {w = 32} {v = b % 1073741824 * 4 + c / 1073741824} (omega arith) (one {w = 32} {v = c % 1073741824 * 4 + d / 1073741824} (omega arith) (one {w = 32} {v = d % 1073741824 * 4 + e / 1073741824} (omega arith) (one {w = 32} {v = e % 1073741824 * 4 + f / 64} (omega arith) (one {w = 6} {v = f % 64} (omega arith) none)))))

  pub read_chunks : (p0 p1 p2 p3 p4 p5 p6 p7 p8 p9 p10 p11 p12 p13 p14 p15 p16 p17 p18 p19 p20 : ℕ) → Joined 5 (p0 ∷ p1 ∷ p2 ∷ p3 ∷ p4 ∷ []) a → Joined 4 (p5 ∷ p6 ∷ p7 ∷ p8 ∷ []) b → Joined 4 (p9 ∷ p10 ∷ p11 ∷ p12 ∷ []) c → Joined 4 (p13 ∷ p14 ∷ p15 ∷ p16 ∷ []) d → Joined 4 (p17 ∷ p18 ∷ p19 ∷ p20 ∷ []) e
      → regrouped a b c d e f ≡ chunks_of (p0 ∷ p1 ∷ p2 ∷ p3 ∷ p4 ∷ p5 ∷ p6 ∷ p7 ∷ p8 ∷ p9 ∷ p10 ∷ p11 ∷ p12 ∷ p13 ∷ p14 ∷ p15 ∷ p16 ∷ p17 ∷ p18 ∷ p19 ∷ p20 ∷ f ∷ [])
  unfolding chunks_of octets total
  read_chunks p0 p1 p2 p3 p4 p5 p6 p7 p8 p9 p10 p11 p12 p13 p14 p15 p16 p17 p18 p19 p20 ja jb jc jd je =
      let bytes : Coarse (octets 22) (p0 ∷ p1 ∷ p2 ∷ p3 ∷ p4 ∷ p5 ∷ p6 ∷ p7 ∷ p8 ∷ p9 ∷ p10 ∷ p11 ∷ p12 ∷ p13 ∷ p14 ∷ p15 ∷ p16 ∷ p17 ∷ p18 ∷ p19 ∷ p20 ∷ f ∷ []) grouped (a ∷ b ∷ c ∷ d ∷ e ∷ f ∷ []) = group ja.fit refl ja.number (group jb.fit refl jb.number (group jc.fit refl jc.number (group jd.fit refl jd.number (group je.fit refl je.number (solo 8 f pf done))))) in
      rw (← fields_are chunk_widths 22 computes (p0 ∷ p1 ∷ p2 ∷ p3 ∷ p4 ∷ p5 ∷ p6 ∷ p7 ∷ p8 ∷ p9 ∷ p10 ∷ p11 ∷ p12 ∷ p13 ∷ p14 ∷ p15 ∷ p16 ∷ p17 ∷ p18 ∷ p19 ∷ p20 ∷ f ∷ []) chunks_fit (sym (coarse_packed as_chunks) ∙ (coarse_packed as_groups ∙ sym (coarse_packed bytes)))) refl

pub joined_4 : {bs : List ℕ} {x : ℕ} → Joined 4 bs x → x < 2 ^ 32
unfolding total octets
joined_4 j = rw (← j.number) (packed_lt j.fit)

pub joined_5 : {bs : List ℕ} {x : ℕ} → Joined 5 bs x → x < 2 ^ 40
unfolding total octets
joined_5 j = rw (← j.number) (packed_lt j.fit)

-- ---- every byte string, and every number

pub entry_whole : (b : List ℕ) → length b ≡ 22 → entry_chunks b ≡ Some (chunks_of b)
unfolding entry_chunks
entry_whole b e = rw (eq-eqb (length b) 22 e) refl

pub entry_none : (b : List ℕ) → length b ≢ 22 → None ≡ entry_chunks b
unfolding entry_chunks
entry_none b n = rw (ne_eqb (length b) 22 n) refl

pub read_whole : (b : List ℕ) → length b ≡ 22 → chunks_in b ≡ chunks_of b
unfolding chunks_in
read_whole b e = rw (eq-eqb (length b) 22 e) refl

pub read_other : (b : List ℕ) → length b ≢ 22 → record { h = 0; u = 0; v = 0; w = 0; x = 0; tail = 0 } ≡ chunks_in b
unfolding chunks_in
read_other b n = rw (ne_eqb (length b) 22 n) refl

-- numbers that fit their fields are kept whole
pub kept_whole : (h u v w x t : ℕ) → h < 4398046511104 → t < 64 → chunk_bytes (h % 4398046511104) u v w x (t % 64) ≡ chunk_bytes h u v w x t
kept_whole h u v w x t p q = rw (mod-eq_of_lt p, mod-eq_of_lt q) refl
