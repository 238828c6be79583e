-- An entry's fields: their bounds, and their bytes. Assumes nothing.
use mathlib.Core.Path.{◌≡◌, refl, sym, ap}
use mathlib.Core.List.{[], ◌∷◌}
use Prim.Native.Nat.{ℕ, ◌+◌, ◌*◌, ◌%◌, ◌^◌, ◌<◌, ◌≤◌}
use native.Mathlib.Omega.{arith}
use lib.ListN.{get_or}
use borrow.Author.Tests.{lt-ltb, le-ltb, eq-eqb, ne_eqb}
use Rattle.laws.specs.Packing.{total, packed, unpacked, octets, bytes_of, none, one}
use Rattle.laws.specs.Packing.{bit}
use Rattle.laws.proofs.Widths.{bit_lt}
use Rattle.store_entry.specs.EntryBits.{kind_of, index_of, link_of, slot, entry_widths, entry_fields, packed_entry}
use Rattle.store_entry.specs.Chunks.{chunk_widths, chunk_bytes}
use Rattle.partitions.specs.declared.Entry.{Entry}
use Rattle.partitions.specs.declared.Link.{Link}
use Rattle.partitions.specs.declared.Link.TheVariants.{Unlinked, OwnedBy, BOf}
use Rattle.laws.proofs.Groups.{Coarse, done, group, solo, pair, coarse_packed}

pub kind_lt : (l : Link) → kind_of l < 3
kind_lt Unlinked = omega arith
kind_lt (OwnedBy k) = omega arith
kind_lt (BOf k) = omega arith

module _ (kind k : ℕ) where
  pub link_owned : kind ≡ 1 → OwnedBy k ≡ link_of kind k
  unfolding link_of
  link_owned h = rw (eq-eqb kind 1 h) refl

  pub link_b : (kind ≡ 1 → ⊥) → kind ≡ 2 → BOf k ≡ link_of kind k
  unfolding link_of
  link_b n h = rw (ne_eqb kind 1 n, eq-eqb kind 2 h) refl

  pub link_none : (kind ≡ 1 → ⊥) → (kind ≡ 2 → ⊥) → Unlinked ≡ link_of kind k
  unfolding link_of
  link_none n m = rw (ne_eqb kind 1 n, ne_eqb kind 2 m) refl

module _ (e : Entry) (k : ℕ) where
  pub slot_used : k < e.user_count → get_or e.users k 0 ≡ slot e k
  unfolding slot
  slot_used h = rw (lt-ltb k e.user_count h) refl

  pub slot_free : e.user_count ≤ k → 0 ≡ slot e k
  unfolding slot
  slot_free h = rw (le-ltb k e.user_count h) refl

pub coarse : (f s k i a b c d m n u x y z w r h t : ℕ)
    → f < 2 ^ 13 → s < 2 ^ 14 → k < 2 ^ 2 → i < 2 ^ 4 → a < 2 → b < 2 → c < 2 → d < 2 → m < 2 → n < 2 → u < 2 ^ 3
    → x < 2 ^ 32 → y < 2 ^ 32 → z < 2 ^ 32 → w < 2 ^ 32 → r < 2
    → h ≡ (f * 1048576 + s * 64 + k * 16 + i) * 512 + (a * 256 + b * 128 + c * 64 + d * 32 + m * 16 + n * 8 + u)
    → t ≡ r * 32
    → Coarse entry_widths (f ∷ s ∷ k ∷ i ∷ a ∷ b ∷ c ∷ d ∷ m ∷ n ∷ u ∷ x ∷ y ∷ z ∷ w ∷ r ∷ 0 ∷ []) chunk_widths (h ∷ x ∷ y ∷ z ∷ w ∷ t ∷ [])
unfolding total packed
coarse f s k i a b c d m n u x y z w r h t pf ps pk pi pa pb pc pd pm pn pu px py pz pw pr eh et =
    group
    {ws = 13 ∷ 14 ∷ 2 ∷ 4 ∷ 1 ∷ 1 ∷ 1 ∷ 1 ∷ 1 ∷ 1 ∷ 3 ∷ []}
    {vs = f ∷ s ∷ k ∷ i ∷ a ∷ b ∷ c ∷ d ∷ m ∷ n ∷ u ∷ []}
    {t = 42}
    {n = h}
    (one pf (one ps (one pk (one pi (one pa (one pb (one pc (one pd (one pm (one pn (one pu none)))))))))))
    refl
    (omega arith)
    (solo 32 x px (solo 32 y py (solo 32 z pz (solo 32 w pw (pair 1 5 r 0 t pr (omega arith) (omega arith) done)))))

-- the six large fields of an entry have its bytes
pub entry_joined : (e : Entry) (l m k i a b c d f g t x y z w : ℕ)
    → (l ≡ e.first % 8192 * 1048576 + e.sectors % 16384 * 64 + k * 16 + i) → (m ≡ a * 256 + b * 128 + c * 64 + d * 32 + f * 16 + g * 8 + e.user_count % 8)
    → k ≡ kind_of e.link → i ≡ index_of e.link % 16 → a ≡ bit e.«data» → b ≡ bit e.arm_s → c ≡ bit e.riscv → d ≡ bit e.arm_ns
    → f ≡ bit e.not_bootable_arm → g ≡ bit e.not_bootable_riscv
    → x ≡ slot e 0 → y ≡ slot e 1 → z ≡ slot e 2 → w ≡ slot e 3 → t ≡ bit e.no_restart * 32
    → x < 2 ^ 32 → y < 2 ^ 32 → z < 2 ^ 32 → w < 2 ^ 32
    → chunk_bytes (l * 512 + m) x y z w t ≡ packed_entry e
unfolding chunk_bytes packed_entry bytes_of entry_fields
entry_joined e l m k i a b c d f g t x y z w el em ek ei ea eb ec ed ef eg ex ey ez ew et px py pz pw =
    rw (← ex, ← ey, ← ez, ← ew, ← ek, ← ei, ← ea, ← eb, ← ec, ← ed, ← ef, ← eg)
    (ap (unpacked (octets 22))
    (sym
    (coarse_packed
    (coarse (e.first % 8192) (e.sectors % 16384) k i a b c d f g (e.user_count % 8) x y z w (bit e.no_restart) (l * 512 + m) t
    (omega arith) (omega arith) (omega (arith, kind_lt e.link)) (omega arith)
    (omega (arith, bit_lt e.«data»)) (omega (arith, bit_lt e.arm_s)) (omega (arith, bit_lt e.riscv)) (omega (arith, bit_lt e.arm_ns))
    (omega (arith, bit_lt e.not_bootable_arm)) (omega (arith, bit_lt e.not_bootable_riscv))
    (omega arith) px py pz pw (omega (arith, bit_lt e.no_restart)) (rw (el, em) refl) et))))
