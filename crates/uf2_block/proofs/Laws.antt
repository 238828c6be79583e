-- The laws of a block's fields, and each case of its header. Assumes nothing.
use mathlib.Core.Path.{◌≡◌, refl, ap, ◌∙◌}
use mathlib.Core.Bool.{Bool, true, false, not, cond, ◌&&◌}
use mathlib.Core.Logic.{◌⊎◌, inl, inr, ⊎_elim}
use mathlib.Core.List.{List}
use Prim.Native.Nat.{ℕ, ◌+◌, ◌*◌, ◌/◌, ◌%◌, ◌<◌, ◌≤◌}
use native.Mathlib.Nat.{add-mul-div_left, add-mul-mod_self_left, zero-mod}
use native.Mathlib.Omega.{arith}
use lib.Dec.{leb, eqb}
use lib.ListN.{length, get_or, set, length-set}
use lib.Seq.{get_or-set_same, get_or-set_other}
use borrow.Author.Tests.{leb-true, leb-false, eq-eqb, ne_eqb}
use Rattle.std.specs.Prelude.{Ok, Err}
use Rattle.laws.proofs.Tests.{split}
use Rattle.laws.proofs.BytesLaws.{number_four}
use Rattle.uf2_block.specs.declared.Block.{Block}
use Rattle.uf2_block.specs.declared.HeaderError.TheVariants.{NotBlock, Container, NoFamily}
use Rattle.uf2_block.specs.Block.{field_at, fields_of, has_flag, flagged_of, is_block, header_of, header_number, Header}
use Rattle.uf2_block.specs.Region.{region_of}
-- one field, at any offset
pub use Rattle.uf2_block.proofs.words.Laws.{field_number, field_in_lem, field_past}

-- ---- the header, by the test that decides

-- n is the flags
module _ (a : List ℕ) {n : ℕ} (e : n ≡ field_at a 8) where
  pub flagged_container : n / 0x1000 % 2 ≡ 1 → Err Container ≡ flagged_of a
  unfolding flagged_of
  flagged_container h = rw (← e, eq-eqb (n / 0x1000 % 2) 1 h)

  module _ (p : n / 0x1000 % 2 ≡ 1 → ⊥) where
    pub flagged_bare : (n / 0x2000 % 2 ≡ 1 → ⊥) → Err NoFamily ≡ flagged_of a
    unfolding flagged_of
    flagged_bare h = rw (← e, ne_eqb (n / 0x1000 % 2) 1 p, ne_eqb (n / 0x2000 % 2) 1 h)

    pub flagged_found : n / 0x2000 % 2 ≡ 1 → {b : Block} → b ≡ fields_of a → Ok b ≡ flagged_of a
    unfolding flagged_of
    flagged_found h f = rw (← e, ne_eqb (n / 0x1000 % 2) 1 p, eq-eqb (n / 0x2000 % 2) 1 h, f)

module _ (a : List ℕ) where
  pub header_first : (field_at a 0 ≡ 0x0A324655 → ⊥) → header_of a ≡ Err NotBlock
  unfolding header_of
  header_first n = rw (ne_eqb (field_at a 0) 0x0A324655 n) refl

  module _ (p : field_at a 0 ≡ 0x0A324655) where
    pub header_second : (field_at a 4 ≡ 0x9E5D5157 → ⊥) → header_of a ≡ Err NotBlock
    unfolding header_of
    header_second n = rw (eq-eqb (field_at a 0) 0x0A324655 p, ne_eqb (field_at a 4) 0x9E5D5157 n) refl

    module _ (q : field_at a 4 ≡ 0x9E5D5157) where
      pub header_last : (field_at a 508 ≡ 0x0AB16F30 → ⊥) → header_of a ≡ Err NotBlock
      unfolding header_of
      header_last n = rw (eq-eqb (field_at a 0) 0x0A324655 p, eq-eqb (field_at a 4) 0x9E5D5157 q, ne_eqb (field_at a 508) 0x0AB16F30 n) refl

      pub header_flagged : field_at a 508 ≡ 0x0AB16F30 → header_of a ≡ flagged_of a
      unfolding header_of
      header_flagged r = rw (eq-eqb (field_at a 0) 0x0A324655 p, eq-eqb (field_at a 4) 0x9E5D5157 q, eq-eqb (field_at a 508) 0x0AB16F30 r) refl

-- ---- row 4 alone

-- the three tests in a row, over the header that follows them
tests : (p q r : Bool) (h : Header) → cond (not p) (Err NotBlock) (cond (not q) (Err NotBlock) (cond (not r) (Err NotBlock) h)) ≡ cond (p && q && r) h (Err NotBlock)
tests true true true h = refl
tests true true false h = refl
tests true false r h = refl
tests false q r h = refl

pub header_is_block : (a : List ℕ) → header_of a ≡ cond (is_block a) (flagged_of a) (Err NotBlock)
unfolding header_of is_block
header_is_block a = tests (eqb (field_at a 0) 0x0A324655) (eqb (field_at a 4) 0x9E5D5157) (eqb (field_at a 508) 0x0AB16F30) (flagged_of a)

flags_other : (p r : Bool) (f : Block) → header_number (cond p (Err Container) (cond (not r) (Err NoFamily) (Ok f))) ≡ 4 → ⊥
flags_other true r f e = omega arith
flags_other false true f e = omega arith
flags_other false false f e = omega arith

-- the flags give no answer 4
pub flagged_other : (a : List ℕ) → flagged_of a ≡ Err NotBlock → ⊥
unfolding flagged_of
flagged_other a e = flags_other (has_flag a 0x1000) (has_flag a 0x2000) (fields_of a) (ap header_number e)

-- ---- "Flags 0x4000 and 0x8000 don't change an answer"

-- a field in which byte j does not lie
pub field_set : (a : List ℕ) (j v at : ℕ) → (at + 4 ≤ j) ⊎ (j < at) → field_at (set a j v) at ≡ field_at a at
unfolding field_at
field_set a j v at o =
    rw (
      length-set a j v,
      number_four (set a j v) at,
      number_four a at,
      get_or-set_other a j at v 0 (λ e. apart 0 (omega arith) (omega (arith, e))),
      get_or-set_other a j (at + 1) v 0 (λ e. apart 1 (omega arith) e),
      get_or-set_other a j (at + 2) v 0 (λ e. apart 2 (omega arith) e),
      get_or-set_other a j (at + 3) v 0 (λ e. apart 3 (omega arith) e),
    )
  where
    apart : (i : ℕ) → i < 4 → at + i ≡ j → ⊥
    apart i l e = ⊎_elim (λ h. omega arith) (λ h. omega arith) o

-- b has the fields of a but for the flags, which are x more, a multiple of 0x4000
record Marked (x : ℕ) (a b : List ℕ) : Type 0 where
  which : x % 0x4000 ≡ 0
  flags : field_at b 8 ≡ field_at a 8 + x
  others : (at : ℕ) → (at + 4 ≤ 9) ⊎ (9 < at) → field_at b at ≡ field_at a at

-- the flag of weight f does not see twice f, or a multiple of that
flag_kept : (n f z x : ℕ) → 0 < f → x ≡ f * (2 * z) → (n + x) / f % 2 ≡ n / f % 2
flag_kept n f z x pos e = rw (e, add-mul-div_left n (2 * z) pos) (add-mul-mod_self_left (n / f) 2 z)

header_marked : (x : ℕ) (a b : List ℕ) → Marked x a b → header_of b ≡ header_of a
unfolding header_of flagged_of fields_of
header_marked x a b m =
    let y : ℕ = x / 0x4000 in
    let w : x ≡ y * 0x4000 = omega (arith, m.which) in
    let e1 : (field_at a 8 + x) / 0x1000 % 2 ≡ field_at a 8 / 0x1000 % 2 = flag_kept (field_at a 8) 0x1000 (2 * y) x (omega arith) (omega arith) in
    let e2 : (field_at a 8 + x) / 0x1 % 2 ≡ field_at a 8 / 0x1 % 2 = flag_kept (field_at a 8) 0x1 (8192 * y) x (omega arith) (omega arith) in
    let e3 : (field_at a 8 + x) / 0x2000 % 2 ≡ field_at a 8 / 0x2000 % 2 = flag_kept (field_at a 8) 0x2000 y x (omega arith) (omega arith) in
    rw (
      m.flags,
      e1,
      e2,
      e3,
      m.others 0 (inl (omega arith)),
      m.others 4 (inl (omega arith)),
      m.others 508 (inr (omega arith)),
      m.others 12 (inr (omega arith)),
      m.others 16 (inr (omega arith)),
      m.others 20 (inr (omega arith)),
      m.others 24 (inr (omega arith)),
      m.others 28 (inr (omega arith)),
    )

-- x more in the second byte of the flags: 256 * x more in all, where they are there
pub flags_more : (a : List ℕ) (x : ℕ) → field_at (set a 9 (get_or a 9 0 + x)) 8 ≡ field_at a 8 + cond (leb 12 (length a)) (256 * x) 0
flags_more a x =
    let v = get_or a 9 0 + x in
    let b = set a 9 v in
    let n = length-set a 9 v in
    split (leb 12 (length a))
    (λ y.
    let l = leb-true 12 (length a) y in
    let same : get_or b 9 0 ≡ v = get_or-set_same a 9 v 0 (omega arith) in
    let low : get_or b 8 0 ≡ get_or a 8 0 = get_or-set_other a 9 8 v 0 (λ e. omega (arith, e)) in
    let high : get_or b 10 0 ≡ get_or a 10 0 = get_or-set_other a 9 10 v 0 (λ e. omega (arith, e)) in
    let top : get_or b 11 0 ≡ get_or a 11 0 = get_or-set_other a 9 11 v 0 (λ e. omega (arith, e)) in
    rw y (omega (arith, field_in_lem a 8 (omega arith), field_in_lem b 8 (omega arith), same, low, high, top)))
    (λ z.
    let l = leb-false 12 (length a) z in
    rw z (omega (arith, field_past a 8 (omega arith), field_past b 8 (omega arith))))

part_multiple : (b : Bool) (x m : ℕ) → 256 * x % m ≡ 0 → cond b (256 * x) 0 % m ≡ 0
part_multiple true x m h = h
part_multiple false x m h = zero-mod m

-- a multiple of 0x40 more there
pub header_flags : (a : List ℕ) (x : ℕ) → x % 0x40 ≡ 0 → header_of (set a 9 (get_or a 9 0 + x)) ≡ header_of a
header_flags a x h =
    header_marked (cond (leb 12 (length a)) (256 * x) 0) a (set a 9 (get_or a 9 0 + x))
    (record {
      which = part_multiple (leb 12 (length a)) x 0x4000 (omega arith);
      flags = flags_more a x;
      others = field_set a 9 (get_or a 9 0 + x);
    })

-- ---- the region of flag 0x4000

-- a byte before it
pub region_set : (a : List ℕ) (j v : ℕ) → j < 484 → region_of (set a j v) ≡ region_of a
unfolding region_of
region_set a j v h =
    rw (
      field_set a j v 484 (inr (omega arith)),
      field_set a j v 488 (inr (omega arith)),
      field_set a j v 492 (inr (omega arith)),
      field_set a j v 496 (inr (omega arith)),
      field_set a j v 500 (inr (omega arith)),
      field_set a j v 504 (inr (omega arith)),
    )

-- a multiple of 0x40 more there, beside flag 0x1
pub flag_comment : (a : List ℕ) (x : ℕ) → x % 0x40 ≡ 0 → has_flag (set a 9 (get_or a 9 0 + x)) 0x1 ≡ has_flag a 0x1
flag_comment a x h =
    let y : ℕ = cond (leb 12 (length a)) (256 * x) 0 in
    let m : y % 0x4000 ≡ 0 = part_multiple (leb 12 (length a)) x 0x4000 (omega arith) in
    rw (flags_more a x, flag_kept (field_at a 8) 0x1 (y / 2) y (omega arith) (omega arith))

-- a multiple of 0x80 more there, beside flag 0x4000
pub flag_beside : (a : List ℕ) (x : ℕ) → x % 0x80 ≡ 0 → has_flag (set a 9 (get_or a 9 0 + x)) 0x4000 ≡ has_flag a 0x4000
flag_beside a x h =
    let y : ℕ = cond (leb 12 (length a)) (256 * x) 0 in
    let m : y % 0x8000 ≡ 0 = part_multiple (leb 12 (length a)) x 0x8000 (omega arith) in
    rw (flags_more a x, flag_kept (field_at a 8) 0x4000 (y / 0x8000) y (omega arith) (omega arith))
