-- Records that go on one after the other; a file's sections are such records, and such records that leave off between sections are
-- sections. Assumes nothing.
use Prim.Native.Nat.{ℕ, ◌+◌, ◌%◌, ◌≤◌}
use mathlib.Core.Path.{◌≡◌, refl, sym, ap, ◌∙◌}
use mathlib.Core.Logic.{◌⊎◌, ◌≢◌, inl, inr, ⊎_elim}
use mathlib.Core.Bool.{Bool, true, false, cond, ◌&&◌, ◌||◌, and-false, or-false, or_assoc}
use mathlib.Core.List.{List, [], ◌∷◌, ◌++◌}
use native.Mathlib.Omega.{arith}
use lib.Dec.{leb, eqb}
use lib.ListN.{length}
use borrow.Author.Tests.{ne_eqb}
use Rattle.laws.proofs.Tests.{split, is_false, eqb_same, and_left, and_right}
use Rattle.uhex_claims.specs.Items.{Item, size_of}
use Rattle.uhex_claims.specs.Whole.{data_type_of, Tail, tail_ends, tail_0_c, tail_0_e, Body, body_ends, body_04, body_data, body_0_e, body_0_c, Section, section_items, board_of, IsSection, Sections, no_section, section, all_items, how_many, any_data, any_gives}
use Rattle.uhex_claims.specs.State.{Place, between, opened, body, padded, place_after, gives_for, State, after, state_after}
use Rattle.uhex_claims.proofs.OneRecord.{second, Goes, opening, naming, upper, given, other, padding, closing, tail_other, tail_padding, tail_closing, not_data, data_not, no_name, a_name, no_gift}

pub data Runs : State → List Item → Type 0 where
  stop : {s : State} → Runs s []
  step : (s : State) (x : Item) {xs : List Item} (p : Place) → s.place ≡ p → Goes s x p → s.size + x.size ≤ 4194304 → Runs (after s x) xs
      → Runs s (x ∷ xs)

pub after_append : (s : State) (xs ys : List Item) → state_after s (xs ++ ys) ≡ state_after (state_after s xs) ys
unfolding state_after
after_append s [] ys = refl
after_append s (x ∷ xs) ys = after_append (after s x) xs ys

runs_append : {s : State} {xs : List Item} (ys : List Item) → Runs s xs → Runs (state_after s xs) ys → Runs s (xs ++ ys)
unfolding state_after
runs_append ys stop h = h
runs_append ys (step s x p e g m r) h = step s x p e g m (runs_append ys r h)

pub size_append : (xs ys : List Item) → size_of (xs ++ ys) ≡ size_of xs + size_of ys
unfolding size_of
size_append [] ys = omega arith
size_append (x ∷ xs) ys = omega (arith, size_append xs ys)

pub size_after : (s : State) (xs : List Item) → (state_after s xs).size ≡ s.size + size_of xs
unfolding state_after size_of
size_after s [] = omega arith
size_after s (x ∷ xs) = omega (arith, size_after (after s x) xs)

-- ---- what a section's records leave

-- the boards that were named stay, and board b gave what the records have
record BodyEffect (s : State) (b : ℕ) (xs : List Item) : Type 0 where
  pub section_seen : (c : ℕ) → (state_after s xs).section_seen c ≡ s.section_seen c
  pub data_seen : (c : ℕ) → (state_after s xs).data_seen c ≡ s.data_seen c || eqb b c && any_data c xs

pub same_sections : (s : State) (x : Item) → x.kind ≢ 10 → (c : ℕ) → (after s x).section_seen c ≡ s.section_seen c
same_sections s x n c = rw (no_name x n c) (or-false (s.section_seen c))

no_data : (c : ℕ) {xs : List Item} → Tail xs → any_data c xs ≡ false
unfolding any_data
no_data c tail_ends = refl
no_data c (tail_0_c {x} k t) = rw (not_data x.kind c (λ f. omega arith) (λ f. omega arith), no_data c t)
no_data c (tail_0_e {x} k t) = rw (not_data x.kind c (λ f. omega arith) (λ f. omega arith), no_data c t)

dist : (g e d a : Bool) → (g || e && d) || e && a ≡ g || e && (d || a)
dist true e d a = refl
dist false true d a = refl
dist false false d a = refl

-- one record more
kept_more : (s : State) (b : ℕ) (x : Item) (xs : List Item) → x.kind ≢ 10
    → ((c : ℕ) → gives_for s.place x c ≡ eqb b c && (eqb x.kind (data_type_of c) && leb 1 (length x.bytes))) → BodyEffect (after s x) b xs
    → BodyEffect s b (x ∷ xs)
unfolding state_after any_data
kept_more s b x xs n h k =
    record {
      section_seen = λ c. k.section_seen c ∙ same_sections s x n c;
      data_seen = λ c. k.data_seen c
          ∙ ap (λ (y : Bool). (s.data_seen c || y) || eqb b c && any_data c xs) (h c)
          ∙ dist (s.data_seen c) (eqb b c) (eqb x.kind (data_type_of c) && leb 1 (length x.bytes)) (any_data c xs);
    }

kept_none : (s : State) (b : ℕ) → BodyEffect s b []
unfolding state_after any_data
kept_none s b = record { section_seen = λ c. refl; data_seen = λ c. rw (and-false (eqb b c)) (sym (or-false (s.data_seen c))) }

quiet : (s : State) (b : ℕ) (x : Item) → x.kind ≢ 0 → x.kind ≢ 13 → (c : ℕ)
    → gives_for s.place x c ≡ eqb b c && (eqb x.kind (data_type_of c) && leb 1 (length x.bytes))
quiet s b x z t c = rw (no_gift x z t s.place c, not_data x.kind c z t) (sym (and-false (eqb b c)))

tail_kept : (b : ℕ) {xs : List Item} → Tail xs → (s : State) → s.place ≡ padded b → ((state_after s xs).place ≡ padded b) × BodyEffect s b xs
unfolding state_after place_after
tail_kept b tail_ends s e = (e, kept_none s b)
tail_kept b (tail_0_c {x} {xs} k t) s e =
    let r = tail_kept b t (after s x) (rw (e, k)) in
    (r.0, kept_more s b x xs (λ f. omega arith) (quiet s b x (λ f. omega arith) (λ f. omega arith)) r.1)
tail_kept b (tail_0_e {x} {xs} k t) s e =
    let r = tail_kept b t (after s x) (rw (e, k)) in
    (r.0, kept_more s b x xs (λ f. omega arith) (quiet s b x (λ f. omega arith) (λ f. omega arith)) r.1)

-- in a section, before its 0B
In : ℕ → Place → Type 0
In b p = (p ≡ body b) ⊎ (p ≡ padded b)

pub stays_body : (s : State) (b : ℕ) (x : Item) → s.place ≡ body b → x.kind ≢ 11 → x.kind ≢ 12 → (after s x).place ≡ body b
unfolding place_after
stays_body s b x e n m = rw (e, ne_eqb x.kind 11 n, ne_eqb x.kind 12 m)

in_body : (s : State) (b : ℕ) (x : Item) → s.place ≡ body b → (c : ℕ)
    → gives_for s.place x c ≡ eqb b c && (eqb x.kind (data_type_of c) && leb 1 (length x.bytes))
unfolding gives_for
in_body s b x e c = rw e

body_kept : (b : ℕ) {xs : List Item} → Body b xs → (s : State) → s.place ≡ body b → In b (state_after s xs).place × BodyEffect s b xs
unfolding In state_after place_after
body_kept b body_ends s e = (inl e, kept_none s b)
body_kept b (body_04 {x} {xs} k n t) s e =
    let r = body_kept b t (after s x) (stays_body s b x e (λ f. omega arith) (λ f. omega arith)) in
    (r.0, kept_more s b x xs (λ f. omega arith) (in_body s b x e) r.1)
body_kept b (body_data {x} {xs} k m t) s e =
    let n : (v : ℕ) → v ≢ 0 → v ≢ 13 → x.kind ≢ v = λ v z w. data_not x.kind b v z w k in
    let r = body_kept b t (after s x) (stays_body s b x e (n 11 (λ f. omega arith) (λ f. omega arith)) (n 12 (λ f. omega arith) (λ f. omega arith))) in
    (r.0, kept_more s b x xs (n 10 (λ f. omega arith) (λ f. omega arith)) (in_body s b x e) r.1)
body_kept b (body_0_e {x} {xs} k t) s e =
    let r = body_kept b t (after s x) (stays_body s b x e (λ f. omega arith) (λ f. omega arith)) in
    (r.0, kept_more s b x xs (λ f. omega arith) (in_body s b x e) r.1)
body_kept b (body_0_c {x} {xs} k t) s e =
    let r = tail_kept b t (after s x) (rw (e, k)) in
    (inr r.0, kept_more s b x xs (λ f. omega arith) (in_body s b x e) r.1)

closed : (s : State) (b : ℕ) (x : Item) → In b s.place → x.kind ≡ 11 → (after s x).place ≡ between
unfolding In place_after
closed s b x i k = ⊎_elim (λ (e : s.place ≡ body b). rw (e, k)) (λ (e : s.place ≡ padded b). rw (e, k)) i

same_data : (s : State) (x : Item) → x.kind ≢ 0 → x.kind ≢ 13 → (c : ℕ) → (after s x).data_seen c ≡ s.data_seen c
same_data s x z t c = rw (no_gift x z t s.place c) (or-false (s.data_seen c))

-- a section leaves off between sections, its board named
record SectionEffect (s : State) (sec : Section) : Type 0 where
  pub place : (state_after s (section_items sec)).place ≡ between
  pub section_seen : (c : ℕ) → (state_after s (section_items sec)).section_seen c ≡ s.section_seen c || eqb (board_of sec) c
  pub data_seen : (c : ℕ) → (state_after s (section_items sec)).data_seen c ≡ s.data_seen c || eqb (board_of sec) c && any_data c sec.body

module _ (s : State) (sec : Section) (e : s.place ≡ between) (i : IsSection sec) where
  abbrev pub s1 : State
  s1 = after s sec.opening

  abbrev pub s2 : State
  s2 = after s1 sec.naming

  abbrev s3 : State
  s3 = state_after s2 sec.body

  pub at_opened : s1.place ≡ opened
  unfolding place_after
  at_opened = rw e

  pub at_body : s2.place ≡ body (board_of sec)
  unfolding place_after
  at_body = rw e

  kept : In (board_of sec) s3.place × BodyEffect s2 (board_of sec) sec.body
  kept = body_kept (board_of sec) i.body s2 at_body

  whole : state_after s (section_items sec) ≡ after s3 sec.closing
  unfolding state_after
  whole = after_append s2 sec.body (sec.closing ∷ [])

  left : SectionEffect s sec
  left =
      let o : sec.opening.kind ≡ 4 = i.opens in
      let n : sec.naming.kind ≡ 10 = i.names in
      let z : sec.closing.kind ≡ 11 = i.closes in
      record {
        place = rw whole (closed s3 (board_of sec) sec.closing kept.0 z);
        section_seen = λ c.
            ap (λ (t : State). t.section_seen c) whole
            ∙ same_sections s3 sec.closing (λ f. omega arith) c
            ∙ kept.1.section_seen c
            ∙ ap (λ (y : Bool). s1.section_seen c || y) (a_name sec.naming n c)
            ∙ ap (λ (y : Bool). y || eqb (board_of sec) c) (same_sections s sec.opening (λ f. omega arith) c);
        data_seen = λ c.
            ap (λ (t : State). t.data_seen c) whole
            ∙ same_data s3 sec.closing (λ f. omega arith) (λ f. omega arith) c
            ∙ kept.1.data_seen c
            ∙ ap (λ (y : Bool). y || eqb (board_of sec) c && any_data c sec.body)
            (same_data s1 sec.naming (λ f. omega arith) (λ f. omega arith) c ∙ same_data s sec.opening (λ f. omega arith) (λ f. omega arith) c);
      }

-- and so do sections
pub data_all : (c : ℕ) {at : ℕ} {ss : List Section} → Sections at ss → (s : State) → s.place ≡ between
    → ((state_after s (all_items ss)).place ≡ between) × ((state_after s (all_items ss)).data_seen c ≡ s.data_seen c || any_gives c ss)
unfolding state_after all_items any_gives
data_all c no_section s e = (e, sym (or-false (s.data_seen c)))
data_all c (section {s = sec} {ss = ss} a i t) s e =
    let l = left s sec e i in
    let r = data_all c t (state_after s (section_items sec)) l.place in
    let w = after_append s (section_items sec) (all_items ss) in (
      ap (λ (q : State). q.place) w ∙ r.0,
      ap (λ (q : State). q.data_seen c) w
          ∙ r.1
          ∙ ap (λ (y : Bool). y || any_gives c ss) (l.data_seen c)
          ∙ or_assoc (s.data_seen c) (eqb (board_of sec) c && any_data c sec.body) (any_gives c ss),
    )

-- ---- a file's sections go on

tail_runs : (b : ℕ) {xs : List Item} → Tail xs → (s : State) → s.place ≡ padded b → s.size + size_of xs ≤ 4194304 → Runs s xs
unfolding size_of place_after
tail_runs b tail_ends s e m = stop
tail_runs b (tail_0_c {x} {xs} k t) s e m =
    step s x (padded b) e (tail_padding k) (omega arith) (tail_runs b t (after s x) (rw (e, k)) (omega arith))
tail_runs b (tail_0_e {x} {xs} k t) s e m =
    step s x (padded b) e (tail_other k) (omega arith) (tail_runs b t (after s x) (rw (e, k)) (omega arith))

body_runs : (b : ℕ) {xs : List Item} → Body b xs → (s : State) → s.place ≡ body b → s.size + size_of xs ≤ 4194304 → Runs s xs
unfolding size_of place_after
body_runs b body_ends s e m = stop
body_runs b (body_04 {x} k n t) s e m =
    step s x (body b) e (upper k n) (omega arith)
    (body_runs b t (after s x) (stays_body s b x e (λ f. omega arith) (λ f. omega arith)) (omega arith))
body_runs b (body_data {x} k d t) s e m =
    let n : (v : ℕ) → v ≢ 0 → v ≢ 13 → x.kind ≢ v = λ v z w. data_not x.kind b v z w k in
    step s x (body b) e (given k d) (omega arith)
    (body_runs b t (after s x) (stays_body s b x e (n 11 (λ f. omega arith) (λ f. omega arith)) (n 12 (λ f. omega arith) (λ f. omega arith))) (omega arith))
body_runs b (body_0_e {x} k t) s e m =
    step s x (body b) e (other k) (omega arith)
    (body_runs b t (after s x) (stays_body s b x e (λ f. omega arith) (λ f. omega arith)) (omega arith))
body_runs b (body_0_c {x} k t) s e m =
    step s x (body b) e (padding k) (omega arith) (tail_runs b t (after s x) (rw (e, k)) (omega arith))

closing_goes : (s : State) (b : ℕ) (x : Item) → In b s.place → x.kind ≡ 11 → s.size + x.size ≤ 4194304 → Runs s (x ∷ [])
unfolding In
closing_goes s b x i k m =
    ⊎_elim (λ e. step s x (body b) e (closing k) m stop) (λ e. step s x (padded b) e (tail_closing k) m stop) i

section_runs : (s : State) (sec : Section) → s.place ≡ between → IsSection sec → s.size % 512 ≡ 0 → second s (board_of sec) ≡ false
    → s.size + size_of (section_items sec) ≤ 4194304 → Runs s (section_items sec)
unfolding size_of
section_runs s sec e i a f m =
    let t2 = s2 s sec e i in
    let sum : size_of (sec.body ++ (sec.closing ∷ [])) ≡ size_of sec.body + (sec.closing.size + 0) = size_append sec.body (sec.closing ∷ []) in
    let o : sec.opening.kind ≡ 4 = i.opens in
    let g : second (s1 s sec e i) (board_of sec) ≡ false =
    ap (λ (y : Bool). (eqb (board_of sec) 0x9900 || eqb (board_of sec) 0x9903) && y) (same_sections s sec.opening (λ f. omega arith) (board_of sec)) ∙ f in
    step s sec.opening between e (opening i.opens i.upper a) (omega arith)
    (step (s1 s sec e i) sec.naming opened (at_opened s sec e i) (naming i.names i.board g) (omega arith)
    (runs_append (sec.closing ∷ []) (body_runs (board_of sec) i.body t2 (at_body s sec e i) (omega arith))
    (closing_goes (state_after t2 sec.body) (board_of sec) sec.closing (kept s sec e i).0 i.closes
    (omega (arith, size_after t2 sec.body)))))

-- no second section of V1 or V2, with those that were named before
abbrev pub is_v : ℕ → Bool
is_v b = eqb b 0x9900 || eqb b 0x9903

unfoldable pub Once : State → List Section → Type 0
Once s ss = (c : ℕ) → is_v c ≡ true → cond (s.section_seen c) 1 0 + how_many c ss ≤ 1

-- so the first of them is none
once_first : (s : State) (sec : Section) (ss : List Section) → Once s (sec ∷ ss) → second s (board_of sec) ≡ false
unfolding Once how_many
once_first s sec ss o =
    is_false (second s (board_of sec))
    (λ y.
    let b = board_of sec in
    let v : is_v b ≡ true = and_left (is_v b) (s.section_seen b) y in
    let n : s.section_seen b ≡ true = and_right (is_v b) (s.section_seen b) y in
    let h : 1 + (cond (eqb b b) 1 0 + how_many b ss) ≤ 1 = rw n at (o b v) in
    let k : 1 + (1 + how_many b ss) ≤ 1 = rw (eqb_same b) at h in
    omega arith)

once_next : (s t : State) (sec : Section) (ss : List Section) → ((c : ℕ) → t.section_seen c ≡ s.section_seen c || eqb (board_of sec) c) → Once s (sec ∷ ss) → Once t ss
unfolding Once how_many
once_next s t sec ss n o c v =
    rw (n c)
    (split (eqb (board_of sec) c)
    (λ y. let h : cond (s.section_seen c) 1 0 + (1 + how_many c ss) ≤ 1 = rw y at (o c v) in rw y (either (s.section_seen c) (how_many c ss) h))
    (λ z.
    let h : cond (s.section_seen c) 1 0 + (0 + how_many c ss) ≤ 1 = rw z at (o c v) in
    rw (z, or-false (s.section_seen c)) (omega arith)))
  where
    either : (a : Bool) (k : ℕ) → cond a 1 0 + (1 + k) ≤ 1 → cond (a || true) 1 0 + k ≤ 1
    either true k h = omega arith
    either false k h = omega arith

pub sections_run : {at : ℕ} {ss : List Section} → Sections at ss → (s : State) → at ≡ s.size → s.place ≡ between → Once s ss
    → s.size + size_of (all_items ss) ≤ 4194304 → Runs s (all_items ss)
unfolding all_items
sections_run no_section s z e o m = stop
sections_run (section {s = sec} {ss = ss} a i t) s z e o m =
    let l = left s sec e i in
    let sum = size_append (section_items sec) (all_items ss) in
    let n = state_after s (section_items sec) in
    let g = size_after s (section_items sec) in
    runs_append (all_items ss)
    (section_runs s sec e i (ap (λ (k : ℕ). k % 512) (sym z) ∙ a) (once_first s sec ss o) (omega arith))
    (sections_run t n (ap (λ (k : ℕ). k + size_of (section_items sec)) z ∙ sym g) l.place (once_next s n sec ss l.section_seen o) (omega arith))
