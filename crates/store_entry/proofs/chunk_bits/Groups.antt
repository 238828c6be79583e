-- The 22 bytes of an entry, from six large fields. Assumes nothing.
use mathlib.Core.Path.{◌≡◌, refl, sym, ◌∙◌}
use mathlib.Core.List.{List, [], ◌∷◌, ◌++◌}
use Prim.Native.Nat.{ℕ, ◌+◌, ◌*◌, ◌/◌, ◌%◌, ◌^◌, ◌<◌}
use native.Mathlib.Nat.{div-one}
use native.Mathlib.Omega.{arith}
use Rattle.laws.specs.Packing.{total, unpacked, octets}
use Rattle.store_entry.specs.Chunks.{chunk_widths, chunk_bytes}
use Rattle.laws.proofs.Widths.{bytes_are}
use Rattle.laws.proofs.Groups.{Coarse, done, solo, pair, octs, coarse_fit, coarse_packed}

-- the fields that both the six large fields and the six groups of bytes are made of
abbrev pub fine : List ℕ
fine = 40 ∷ 2 ∷ 30 ∷ 2 ∷ 30 ∷ 2 ∷ 30 ∷ 2 ∷ 30 ∷ 2 ∷ 6 ∷ []

abbrev pub grouped : List ℕ
grouped = 40 ∷ 32 ∷ 32 ∷ 32 ∷ 32 ∷ 8 ∷ []

abbrev mid : ℕ → ℕ → ℕ
mid y z = y % 4 * 1073741824 + z / 4

abbrev spread : ℕ → ℕ → ℕ → ℕ → ℕ → ℕ → List ℕ
spread a b c d e f = unpacked (octets 5) a ++ (unpacked (octets 4) b ++ (unpacked (octets 4) c ++ (unpacked (octets 4) d ++ (unpacked (octets 4) e ++ (f ∷ [])))))

spelt : (a b c d e f : ℕ) → a / 4294967296 % 256 ∷ a / 16777216 % 256 ∷ a / 65536 % 256 ∷ a / 256 % 256 ∷ a % 256 ∷ b / 16777216 % 256 ∷ b / 65536 % 256 ∷ b / 256 % 256 ∷ b % 256 ∷ c / 16777216 % 256 ∷ c / 65536 % 256 ∷ c / 256 % 256 ∷ c % 256 ∷ d / 16777216 % 256 ∷ d / 65536 % 256 ∷ d / 256 % 256 ∷ d % 256 ∷ e / 16777216 % 256 ∷ e / 65536 % 256 ∷ e / 256 % 256 ∷ e % 256 ∷ f ∷ [] ≡ spread a b c d e f
unfolding unpacked total octets
spelt a b c d e f = rw (div-one a, div-one b, div-one c, div-one d, div-one e) refl

as_bytes : (a b c d e f : ℕ) → a < 2 ^ 40 → b < 2 ^ 32 → c < 2 ^ 32 → d < 2 ^ 32 → e < 2 ^ 32 → f < 256 → Coarse (octets 22) (spread a b c d e f) grouped (a ∷ b ∷ c ∷ d ∷ e ∷ f ∷ [])
unfolding total octets
as_bytes a b c d e f pa pb pc pd pe pf = octs 5 a pa (octs 4 b pb (octs 4 c pc (octs 4 d pd (octs 4 e pe (solo 8 f pf done)))))

pub computes : total chunk_widths ≡ total (octets 22)
unfolding total octets
computes = refl

module _ (h u v w x tail : ℕ) (ph : h < 2 ^ 42) (pu : u < 2 ^ 32) (pv : v < 2 ^ 32) (pw : w < 2 ^ 32) (px : x < 2 ^ 32) (pt : tail < 64) where
  abbrev parts : List ℕ
  parts = h / 4 ∷ h % 4 ∷ u / 4 ∷ u % 4 ∷ v / 4 ∷ v % 4 ∷ w / 4 ∷ w % 4 ∷ x / 4 ∷ x % 4 ∷ tail ∷ []

  as_fields : Coarse fine parts chunk_widths (h ∷ u ∷ v ∷ w ∷ x ∷ tail ∷ [])
  as_fields =
      pair 40 2 (h / 4) (h % 4) h (omega arith) (omega arith) (omega arith)
      (pair 30 2 (u / 4) (u % 4) u (omega arith) (omega arith) (omega arith)
      (pair 30 2 (v / 4) (v % 4) v (omega arith) (omega arith) (omega arith)
      (pair 30 2 (w / 4) (w % 4) w (omega arith) (omega arith) (omega arith)
      (pair 30 2 (x / 4) (x % 4) x (omega arith) (omega arith) (omega arith)
      (solo 6 tail pt done)))))

  as_groups : Coarse fine parts grouped (h / 4 ∷ mid h u ∷ mid u v ∷ mid v w ∷ mid w x ∷ (x % 4 * 64 + tail) ∷ [])
  as_groups =
      solo 40 (h / 4) (omega arith)
      (pair 2 30 (h % 4) (u / 4) (mid h u) (omega arith) (omega arith) refl
      (pair 2 30 (u % 4) (v / 4) (mid u v) (omega arith) (omega arith) refl
      (pair 2 30 (v % 4) (w / 4) (mid v w) (omega arith) (omega arith) refl
      (pair 2 30 (w % 4) (x / 4) (mid w x) (omega arith) (omega arith) refl
      (pair 2 6 (x % 4) tail (x % 4 * 64 + tail) (omega arith) pt refl done)))))

  all_bytes : Coarse (octets 22) (spread (h / 4) (mid h u) (mid u v) (mid v w) (mid w x) (x % 4 * 64 + tail)) grouped (h / 4 ∷ mid h u ∷ mid u v ∷ mid v w ∷ mid w x ∷ (x % 4 * 64 + tail) ∷ [])
  all_bytes = as_bytes (h / 4) (mid h u) (mid u v) (mid v w) (mid w x) (x % 4 * 64 + tail) (omega arith) (omega arith) (omega arith) (omega arith) (omega arith) (omega arith)

  chunked : spread (h / 4) (mid h u) (mid u v) (mid v w) (mid w x) (x % 4 * 64 + tail) ≡ chunk_bytes h u v w x tail
  unfolding chunk_bytes
  chunked =
      bytes_are chunk_widths 22 computes (h ∷ u ∷ v ∷ w ∷ x ∷ tail ∷ []) (coarse_fit all_bytes)
      (coarse_packed all_bytes ∙ (sym (coarse_packed as_groups) ∙ coarse_packed as_fields))

  pub chunks : (a b c d e f : ℕ) → a ≡ h / 4 → b ≡ mid h u → c ≡ mid u v → d ≡ mid v w → e ≡ mid w x → f ≡ x % 4 * 64 + tail
      → a / 4294967296 % 256 ∷ a / 16777216 % 256 ∷ a / 65536 % 256 ∷ a / 256 % 256 ∷ a % 256 ∷ b / 16777216 % 256 ∷ b / 65536 % 256 ∷ b / 256 % 256 ∷ b % 256 ∷ c / 16777216 % 256 ∷ c / 65536 % 256 ∷ c / 256 % 256 ∷ c % 256 ∷ d / 16777216 % 256 ∷ d / 65536 % 256 ∷ d / 256 % 256 ∷ d % 256 ∷ e / 16777216 % 256 ∷ e / 65536 % 256 ∷ e / 256 % 256 ∷ e % 256 ∷ f ∷ [] ≡ chunk_bytes h u v w x tail
  chunks a b c d e f qa qb qc qd qe qf = spelt a b c d e f ∙ (rw (qa, qb, qc, qd, qe, qf) chunked)
