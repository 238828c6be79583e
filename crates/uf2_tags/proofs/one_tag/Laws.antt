-- Each case of what a size and a type say, and answers that are no tag. Assumes nothing.
use mathlib.Core.Path.{◌≡◌, refl, ap}
use mathlib.Core.Bool.{Bool, true, false, cond}
use Prim.Native.Nat.{ℕ, ◌+◌, ◌<◌, ◌≤◌}
use native.Mathlib.Omega.{arith}
use borrow.Author.Tests.{lt-ltb, le-ltb, le-leb, lt-leb, eq-eqb, ne_eqb}
use Rattle.laws.proofs.Tests.{clash}
use Rattle.uf2_tags.specs.declared.one_tag.Tag.{Tag}
use Rattle.std.specs.Prelude.{Ok, Some, None, Err}
use Rattle.uf2_tags.specs.declared.one_tag.TagError.TheVariants.{BadLength, BadPlace, NotBlock, BadPayload, ShortTag, TypedEnd, PastRoom, NoRoom}
use Rattle.uf2_tags.specs.Tag.{Answer, tag_of, sized, is_tag, on_tag}

-- ---- a size and a type

module _ (size kind at end : ℕ) where
  pub sized_end : size ≡ 0 → kind ≡ 0 → Ok None ≡ sized size kind at end
  unfolding sized
  sized_end p q = rw (eq-eqb size 0 p, eq-eqb kind 0 q) refl

  pub sized_typed : size ≡ 0 → (kind ≡ 0 → ⊥) → Err TypedEnd ≡ sized size kind at end
  unfolding sized
  sized_typed p q = rw (eq-eqb size 0 p, ne_eqb kind 0 q, lt-leb 1 size (omega arith)) refl

  module _ (p : size ≡ 0 → ⊥) where
    pub sized_small : size < 4 → Err ShortTag ≡ sized size kind at end
    unfolding sized
    sized_small h = rw (ne_eqb size 0 p, le-leb 1 size (omega arith), le-leb size 3 (omega arith)) refl

    module _ (q : 4 ≤ size) where
      pub sized_past : end < at + size → Err PastRoom ≡ sized size kind at end
      unfolding sized
      sized_past h = rw (ne_eqb size 0 p, le-leb 1 size (omega arith), lt-leb size 3 (omega arith), lt-ltb end (at + size) h) refl

      pub sized_tag : at + size ≤ end → Ok (Some (tag_of size kind at)) ≡ sized size kind at end
      unfolding sized
      sized_tag h = rw (ne_eqb size 0 p, le-leb 1 size (omega arith), lt-leb size 3 (omega arith), le-ltb end (at + size) h) refl

pub sized_same : {size s kind k : ℕ} (at end : ℕ) → size ≡ s → kind ≡ k → sized size kind at end ≡ sized s k at end
sized_same at end e f = rw (e, f)

-- ---- a tag that is answered

-- a check that did not decide
pub past : (c : Bool) (a x : Answer) (t : Tag) → is_tag a ≡ false → cond c a x ≡ Ok (Some t) → (c ≡ false) × (x ≡ Ok (Some t))
past true a x t n e = clash (is_tag a) (ap is_tag e) n
past false a x t n e = (refl, e)

pub tag_same : (s t : Tag) → ◌≡◌ {A = Answer} (Ok (Some s)) (Ok (Some t)) → s ≡ t
tag_same s t e = cc

-- ---- answers that are no tag

-- as a `let .. else` tells it
pub not_tag : (a : Answer) → ((t : Tag) → a ≡ Ok (Some t) → ⊥) → is_tag a ≡ false
not_tag (Ok (Some t)) h = absurd (h t refl)
not_tag (Ok None) h = refl
not_tag (Err e) h = refl

pub on_other : {A : Type 0} (d : A) (f : Tag → A) (a : Answer) → is_tag a ≡ false → on_tag d f a ≡ d
on_other d f (Ok (Some t)) n = clash true refl n
on_other d f (Ok None) n = refl
on_other d f (Err e) n = refl

-- the tag that an answer is
pub record IsTag (a : Answer) : Type 0 where
  pub tag : Tag
  pub same : a ≡ Ok (Some tag)

pub the_tag : (a : Answer) → is_tag a ≡ true → IsTag a
the_tag (Ok (Some t)) y = record { tag = t; same = refl }
the_tag (Ok None) y = clash false y refl
the_tag (Err e) y = clash false y refl
