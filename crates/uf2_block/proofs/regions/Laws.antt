-- A region that counts and one that the flash has, as facts. Assumes nothing.
use mathlib.Core.Path.{◌≡◌, refl, sym, ap, ◌∙◌}
use mathlib.Core.Bool.{Bool, true, false, not, ◌&&◌}
use mathlib.Core.List.{List}
use mathlib.Core.Logic.{◌≢◌}
use Prim.Native.Nat.{ℕ, ◌+◌, ◌-◌, ◌%◌, ◌<◌, ◌≤◌}
use native.Mathlib.Omega.{arith}
use lib.Dec.{eqb, leb}
use lib.ListN.{length, take, drop}
use borrow.Author.Tests.{le-leb, lt-leb, leb-true, leb-false, eq-eqb, ne_eqb, eqb-true, eqb-false, not-true}
use Rattle.laws.proofs.Tests.{split, eqb_same, and_left, and_right}
use Rattle.uf2_block.specs.declared.Region.{Region}
use Rattle.md5_digest.specs.declared.Digest.{Digest}
use Rattle.md5_digest.specs.Md5.{md5_of}
use Rattle.uf2_block.specs.Regions.{good_region, same_digest, from_of, part_of, stands_in}

-- ---- a region that counts

-- the conditions in their order
pub record Counting (size address : ℕ) (g : Region) : Type 0 where
  pub starts : g.start % 4096 ≡ 0
  pub ends : g.len % 4096 ≡ 0
  pub some : g.len ≢ 0
  pub window : 0x10000000 ≤ g.start
  pub within : g.start - 0x10000000 + g.len ≤ size
  pub before : g.start ≤ address
  pub behind : address + 256 ≤ g.start + g.len

module _ (size address : ℕ) (g : Region) where
  pub good_yes : Counting size address g → good_region size address g ≡ true
  unfolding good_region
  good_yes h =
      rw (
        eq-eqb (g.start % 4096) 0 h.starts,
        eq-eqb (g.len % 4096) 0 h.ends,
        ne_eqb g.len 0 h.some,
        le-leb 0x10000000 g.start h.window,
        le-leb (g.start - 0x10000000 + g.len) size h.within,
        le-leb g.start address h.before,
        le-leb (address + 256) (g.start + g.len) h.behind,
      )

  pub good_true : good_region size address g ≡ true → Counting size address g
  unfolding good_region
  good_true e =
      let c1 = eqb (g.start % 4096) 0 in
      let c2 = eqb (g.len % 4096) 0 in
      let c3 = not (eqb g.len 0) in
      let c4 = leb 0x10000000 g.start in
      let c5 = leb (g.start - 0x10000000 + g.len) size in
      let c6 = leb g.start address in
      let c7 = leb (address + 256) (g.start + g.len) in
      let e6 = and_left (c1 && c2 && c3 && c4 && c5 && c6) c7 e in
      let e5 = and_left (c1 && c2 && c3 && c4 && c5) c6 e6 in
      let e4 = and_left (c1 && c2 && c3 && c4) c5 e5 in
      let e3 = and_left (c1 && c2 && c3) c4 e4 in
      let e2 = and_left (c1 && c2) c3 e3 in
      record {
        starts = eqb-true _ _ (and_left c1 c2 e2);
        ends = eqb-true _ _ (and_right c1 c2 e2);
        some = eqb-false _ _ (not-true _ (and_right (c1 && c2) c3 e3));
        window = leb-true _ _ (and_right (c1 && c2 && c3) c4 e4);
        within = leb-true _ _ (and_right (c1 && c2 && c3 && c4) c5 e5);
        before = leb-true _ _ (and_right (c1 && c2 && c3 && c4 && c5) c6 e6);
        behind = leb-true _ _ (and_right (c1 && c2 && c3 && c4 && c5 && c6) c7 e);
      }

  pub good_no : (Counting size address g → ⊥) → false ≡ good_region size address g
  good_no n = split (good_region size address g) (λ y. absurd (n (good_true y))) sym

  -- the last condition decides where the others are met
  pub good_last : (address + 256 ≤ g.start + g.len → Counting size address g) → leb (address + 256) (g.start + g.len) ≡ good_region size address g
  good_last f =
      split (leb (address + 256) (g.start + g.len))
      (λ y. y ∙ sym (good_yes (f (leb-true _ _ y))))
      (λ z. let l = leb-false (address + 256) (g.start + g.len) z in z ∙ good_no (λ h. omega arith))

-- ---- a region that the flash has

module _ (flash : List ℕ) (start : ℕ) (g : Region) where
  pub stands_low : g.start < 0x10000000 → false ≡ stands_in flash start g
  unfolding stands_in
  stands_low h = rw (lt-leb 0x10000000 g.start h)

  module _ (w : 0x10000000 ≤ g.start) where
    pub stands_past : length flash < from_of start g + g.len → false ≡ stands_in flash start g
    unfolding stands_in
    stands_past h = rw (le-leb 0x10000000 g.start w, lt-leb (from_of start g + g.len) (length flash) h)

    pub stands_there : from_of start g + g.len ≤ length flash → same_digest (md5_of (part_of flash start g)) g ≡ stands_in flash start g
    unfolding stands_in
    stands_there h = rw (le-leb 0x10000000 g.start w, le-leb (from_of start g + g.len) (length flash) h)

    -- as the code has it
    pub stands_part : from_of start g + g.len ≤ length flash → {x : Digest} {r : Bool}
        → x ≡ md5_of (take (from_of start g + g.len - from_of start g) (drop (from_of start g) flash)) → r ≡ same_digest x g → r ≡ stands_in flash start g
    stands_part h d s =
        let n : from_of start g + g.len - from_of start g ≡ g.len = omega arith in
        s ∙ ap (λ (x : Digest). same_digest x g) (d ∙ rw n) ∙ stands_there h

module _ (flash : List ℕ) (start : ℕ) (g : Region) where
  -- the conditions of a region that the flash has
  pub stands_true : stands_in flash start g ≡ true → same_digest (md5_of (part_of flash start g)) g ≡ true
  unfolding stands_in
  stands_true e =
      and_right (leb 0x10000000 g.start && leb (from_of start g + g.len) (length flash)) (same_digest (md5_of (part_of flash start g)) g) e

-- the four words compared, as a derived `==` has them
pub digest_same : (x : Digest) (g : Region) → eqb x.a g.a && (eqb x.b g.b && (eqb x.c g.c && eqb x.d g.d)) ≡ same_digest x g
unfolding same_digest
digest_same x g =
    let a = eqb x.a g.a in
    let b = eqb x.b g.b in
    let c = eqb x.c g.c in
    let d = eqb x.d g.d in
    ap (λ (y : Bool). a && y) (assoc b c d) ∙ assoc a (b && c) d ∙ ap (λ (y : Bool). y && d) (assoc a b c)
  where
    assoc : (a b c : Bool) → a && (b && c) ≡ a && b && c
    assoc true b c = refl
    assoc false b c = refl

-- the digest that a region names
abbrev pub named_by : Region → Digest
named_by g = record { a = g.a; b = g.b; c = g.c; d = g.d }

pub digest_true : (x : Digest) (g : Region) → same_digest x g ≡ true → x ≡ named_by g
unfolding same_digest
digest_true x g e =
    let c1 = eqb x.a g.a in
    let c2 = eqb x.b g.b in
    let c3 = eqb x.c g.c in
    let c4 = eqb x.d g.d in
    let e3 = and_left (c1 && c2 && c3) c4 e in
    let e2 = and_left (c1 && c2) c3 e3 in
    let p = eqb-true x.a g.a (and_left c1 c2 e2) in
    let q = eqb-true x.b g.b (and_right c1 c2 e2) in
    let r = eqb-true x.c g.c (and_right (c1 && c2) c3 e3) in
    let s = eqb-true x.d g.d (and_right (c1 && c2 && c3) c4 e) in
    λ i. record { a = p i; b = q i; c = r i; d = s i }

pub digest_yes : (g : Region) → same_digest (named_by g) g ≡ true
unfolding same_digest
digest_yes g = rw (eqb_same g.a, eqb_same g.b, eqb_same g.c, eqb_same g.d)
