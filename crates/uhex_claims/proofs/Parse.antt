-- Records that go on from before a section, and leave off between sections, are sections. Assumes nothing.
use Prim.Native.Nat.{ℕ, ◌+◌, ◌%◌, ◌≤◌}
use mathlib.Core.Path.{◌≡◌, refl, sym, ap, subst, ◌∙◌}
use mathlib.Core.Logic.{◌≢◌}
use mathlib.Core.Bool.{Bool, true, false, cond, ◌&&◌, ◌||◌, or-false}
use mathlib.Core.List.{List, [], ◌∷◌, ◌++◌, append_assoc}
use native.Mathlib.Omega.{arith}
use lib.Dec.{eqb}
use lib.ListN.{length}
use borrow.Author.Tests.{eqb-true, ne_eqb}
use Rattle.laws.proofs.Tests.{split}
use Rattle.uhex_claims.specs.Items.{Item, size_of, word_of}
use Rattle.uhex_claims.specs.Whole.{Tail, tail_ends, tail_0_c, tail_0_e, Body, body_ends, body_04, body_data, body_0_e, body_0_c, Section, Sections, no_section, section, all_items, how_many}
use Rattle.uhex_claims.specs.State.{Place, between, opened, body, padded, place_after, State, after, state_after}
use Rattle.uhex_claims.proofs.OneRecord.{second, Goes, opening, naming, upper, given, other, padding, closing, tail_other, tail_padding, tail_closing, data_not, a_name}
use Rattle.uhex_claims.proofs.Runs.{Runs, stop, step, Once, is_v, same_sections, size_append}

-- ---- what is left, by the place where it begins

record BetweenRest (s : State) (xs : List Item) : Type 0 where
  pub sections : List Section
  pub whole : xs ≡ all_items sections
  pub ordered : Sections s.size sections
  pub once : Once s sections

record OpenedRest (s : State) (xs : List Item) : Type 0 where
  pub naming : Item
  pub inner : List Item
  pub closing : Item
  pub sections : List Section
  pub whole : xs ≡ naming ∷ (inner ++ (closing ∷ all_items sections))
  pub names : naming.kind ≡ 10
  pub board : 2 ≤ length naming.bytes
  pub new : second s (word_of naming) ≡ false
  pub inside : Body (word_of naming) inner
  pub closes : closing.kind ≡ 11
  pub ordered : Sections (s.size + (naming.size + (size_of inner + closing.size))) sections
  pub once : (c : ℕ) → is_v c ≡ true → cond (s.section_seen c || eqb (word_of naming) c) 1 0 + how_many c sections ≤ 1

record InnerRest (P : List Item → Type 0) (s : State) (xs : List Item) : Type 0 where
  pub inner : List Item
  pub closing : Item
  pub sections : List Section
  pub whole : xs ≡ inner ++ (closing ∷ all_items sections)
  pub inside : P inner
  pub closes : closing.kind ≡ 11
  pub ordered : Sections (s.size + (size_of inner + closing.size)) sections
  pub once : Once s sections

Rest : Place → State → List Item → Type 0
Rest between s xs = BetweenRest s xs
Rest opened s xs = OpenedRest s xs
Rest (body b) s xs = InnerRest (Body b) s xs
Rest (padded b) s xs = InnerRest Tail s xs

once_same : (s : State) (x : Item) (ss : List Section) → x.kind ≢ 10 → Once (after s x) ss → Once s ss
unfolding Once
once_same s x ss n o c v = rw (same_sections s x n c) at (o c v)

-- ---- one record before what is left

more : (P Q : List Item → Type 0) (s : State) (x : Item) (xs : List Item) → x.kind ≢ 10 → ((ys : List Item) → P ys → Q (x ∷ ys)) → InnerRest P (after s x) xs
    → InnerRest Q s (x ∷ xs)
unfolding size_of
more P Q s x xs n f r =
    record {
      inner = x ∷ r.inner;
      closing = r.closing;
      sections = r.sections;
      whole = ap (λ (y : List Item). x ∷ y) r.whole;
      inside = f r.inner r.inside;
      closes = r.closes;
      ordered = subst (λ (k : ℕ). Sections k r.sections) (omega arith) r.ordered;
      once = once_same s x r.sections n r.once;
    }

closes_it : (P : List Item → Type 0) (s : State) (x : Item) (xs : List Item) → P [] → x.kind ≡ 11 → BetweenRest (after s x) xs → InnerRest P s (x ∷ xs)
unfolding size_of
closes_it P s x xs p k r =
    record {
      inner = [];
      closing = x;
      sections = r.sections;
      whole = ap (λ (y : List Item). x ∷ y) r.whole;
      inside = p;
      closes = k;
      ordered = subst (λ (k : ℕ). Sections k r.sections) (omega arith) r.ordered;
      once = once_same s x r.sections (λ f. omega arith) r.once;
    }

names_it : (s : State) (x : Item) (xs : List Item) → x.kind ≡ 10 → 2 ≤ length x.bytes → second s (word_of x) ≡ false → InnerRest (Body (word_of x)) (after s x) xs
    → OpenedRest s (x ∷ xs)
unfolding Once
names_it s x xs k n f r =
    record {
      naming = x;
      inner = r.inner;
      closing = r.closing;
      sections = r.sections;
      whole = ap (λ (y : List Item). x ∷ y) r.whole;
      names = k;
      board = n;
      new = f;
      inside = r.inside;
      closes = r.closes;
      ordered = subst (λ (k : ℕ). Sections k r.sections) (omega arith) r.ordered;
      once = λ c v. rw (a_name x k c) at (r.once c v);
    }

counted : (s : State) (w c k : ℕ) → is_v c ≡ true → second s w ≡ false → cond (s.section_seen c || eqb w c) 1 0 + k ≤ 1
    → cond (s.section_seen c) 1 0 + (cond (eqb w c) 1 0 + k) ≤ 1
counted s w c k v f h =
    split (eqb w c)
    (λ y.
    let g : is_v c && s.section_seen c ≡ false = subst (λ (b : ℕ). second s b ≡ false) (eqb-true w c y) f in
    let n : s.section_seen c ≡ false = rw v at g in
    let j : 1 + k ≤ 1 = rw (n, y) at h in
    rw (n, y) (omega arith))
    (λ z. let j : cond (s.section_seen c) 1 0 + k ≤ 1 = rw (z, or-false (s.section_seen c)) at h in rw z (omega arith))

opens_it : (s : State) (x : Item) (xs : List Item) → x.kind ≡ 4 → length x.bytes ≡ 2 → s.size % 512 ≡ 0 → OpenedRest (after s x) xs → BetweenRest s (x ∷ xs)
unfolding all_items Once how_many size_of
opens_it s x xs k n a r =
    let sec : Section = record { opening = x; naming = r.naming; body = r.inner; closing = r.closing } in
    let w = word_of r.naming in
    let sum : size_of (r.inner ++ (r.closing ∷ [])) ≡ size_of r.inner + (r.closing.size + 0) = size_append r.inner (r.closing ∷ []) in
    let same : (c : ℕ) → (after s x).section_seen c ≡ s.section_seen c = same_sections s x (λ f. omega arith) in
    record {
      sections = sec ∷ r.sections;
      whole =
          ap (λ (y : List Item). x ∷ y) r.whole
          ∙ ap (λ (y : List Item). x ∷ r.naming ∷ y) (sym (append_assoc r.inner (r.closing ∷ []) (all_items r.sections)));
      ordered =
          section {s = sec} a
          (record { opens = k; upper = n; names = r.names; board = r.board; body = r.inside; closes = r.closes })
          (subst (λ (k : ℕ). Sections k r.sections) (omega arith) r.ordered);
      once = λ c v.
          counted s w c (how_many c r.sections) v (ap (λ (y : Bool). is_v w && y) (sym (same w)) ∙ r.new)
          (subst (λ (y : Bool). cond (y || eqb w c) 1 0 + how_many c r.sections ≤ 1) (same c) (r.once c v));
    }

-- ---- all of it

-- what is left after a record, at the place to which it leads
led : (s : State) (x : Item) (xs : List Item) (p q : Place) → place_after p x ≡ q → Rest (place_after p x) (after s x) xs → Rest q (after s x) xs
led s x xs p q e r = subst (λ (y : Place). Rest y (after s x) xs) e r

goes_rest : {s : State} {x : Item} {p : Place} (xs : List Item) → Goes s x p → Rest (place_after p x) (after s x) xs → Rest p s (x ∷ xs)
unfolding Rest place_after
goes_rest {s} {x} xs (opening k n a) r = opens_it s x xs k n a r
goes_rest {s} {x} xs (naming k n f) r = names_it s x xs k n f r
goes_rest {s} {x} xs (upper {b} k n) r =
    more (Body b) (Body b) s x xs (λ f. omega arith) (λ ys t. body_04 k n t) (led s x xs (body b) (body b) (rw k) r)
goes_rest {s} {x} xs (given {b} k m) r =
    let n : (v : ℕ) → v ≢ 0 → v ≢ 13 → x.kind ≢ v = λ v z w. data_not x.kind b v z w k in
    more (Body b) (Body b) s x xs (n 10 (λ f. omega arith) (λ f. omega arith)) (λ ys t. body_data k m t)
    (led s x xs (body b) (body b)
    (rw (ne_eqb x.kind 11 (n 11 (λ f. omega arith) (λ f. omega arith)), ne_eqb x.kind 12 (n 12 (λ f. omega arith) (λ f. omega arith)))) r)
goes_rest {s} {x} xs (other {b} k) r =
    more (Body b) (Body b) s x xs (λ f. omega arith) (λ ys t. body_0_e k t) (led s x xs (body b) (body b) (rw k) r)
goes_rest {s} {x} xs (padding {b} k) r =
    more Tail (Body b) s x xs (λ f. omega arith) (λ ys t. body_0_c k t) (led s x xs (body b) (padded b) (rw k) r)
goes_rest {s} {x} xs (closing {b} k) r = closes_it (Body b) s x xs body_ends k (led s x xs (body b) between (rw k) r)
goes_rest {s} {x} xs (tail_other {b} k) r =
    more Tail Tail s x xs (λ f. omega arith) (λ ys t. tail_0_e k t) (led s x xs (padded b) (padded b) (rw k) r)
goes_rest {s} {x} xs (tail_padding {b} k) r =
    more Tail Tail s x xs (λ f. omega arith) (λ ys t. tail_0_c k t) (led s x xs (padded b) (padded b) (rw k) r)
goes_rest {s} {x} xs (tail_closing {b} k) r = closes_it Tail s x xs tail_ends k (led s x xs (padded b) between (rw k) r)

at_most : (b : Bool) → cond b 1 0 + 0 ≤ 1
at_most true = omega arith
at_most false = omega arith

none_left : (s : State) → BetweenRest s []
unfolding all_items Once how_many
none_left s = record { sections = []; whole = refl; ordered = no_section; once = λ c v. at_most (s.section_seen c) }

rest : {s : State} {xs : List Item} → Runs s xs → (state_after s xs).place ≡ between → Rest s.place s xs
unfolding state_after Rest
rest (stop {s}) f = subst (λ (p : Place). Rest p s []) (sym f) (none_left s)
rest (step s x {xs} p e g m r) f =
    subst (λ (q : Place). Rest q s (x ∷ xs)) (sym e) (goes_rest xs g (subst (λ (q : Place). Rest (place_after q x) (after s x) xs) e (rest r f)))

pub parsed : {s : State} {xs : List Item} → Runs s xs → s.place ≡ between → (state_after s xs).place ≡ between
    → (ss : List Section) × (xs ≡ all_items ss) × Sections s.size ss × Once s ss
unfolding Rest
parsed {s} {xs} r e f =
    let b : BetweenRest s xs = subst (λ (p : Place). Rest p s xs) e (rest r f) in
    (b.sections, b.whole, b.ordered, b.once)
