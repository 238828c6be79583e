-- The form of its sections and the pieces of the plain files leave one output. Assumes nothing.
use Prim.Native.Nat.{ℕ, ◌+◌, ◌*◌, ◌/◌, ◌%◌, ◌≤◌, ◌<◌}
use mathlib.Core.Path.{◌≡◌, refl, sym, ap, subst, ◌∙◌}
use mathlib.Core.Logic.{◌≢◌}
use mathlib.Core.Bool.{cond}
use mathlib.Core.List.{List, [], ◌∷◌, ◌++◌, map}
use native.Mathlib.Omega.{arith}
use lib.Dec.{eqb, ltb}
use lib.ListN.{length, replicate, length-replicate}
use borrow.Author.Tests.{ne_eqb, ltb-true, ltb-false}
use Rattle.laws.proofs.Tests.{split, eqb_same}
use Rattle.laws.specs.Stores.{Store}
use Rattle.uhex_claims.specs.Items.{Item, size_of, word_of, item, line_for}
use Rattle.uhex_claims.specs.Whole.{data_type_of, Section, section_items, all_items}
use Rattle.uhex_claims.proofs.OneRecord.{not_data, data_not}
use Rattle.uhex_claims.proofs.Runs.{size_append}
use Rattle.uhex_claims.proofs.WholefileClaims.{says_one}
use Rattle.ihex_data.specs.Lines.{first_upper}
use Rattle.uhex_join_claims.specs.PlainFile.{at, data_from, WithData, Cuts, none, one, PlainPieces}
use Rattle.uhex_join_claims.specs.Form.{word, filler, UppersAsNeeded, no_more, same, changed, Form}
use Rattle.uhex_join_claims.specs.Claims.{linear_data, SectionOf, TwoSections, OutputIsOne}
use Rattle.uhex_join_claims.proofs.Sections.{body_items, pad_item, pads_size, pads_linear, word_back}
use Rattle.uhex_join_claims.proofs.Cuts.{cuts_one}

-- ---- the pieces of a plain file

pieces_one : (text : List ℕ) (ps qs : List Store) → PlainPieces text ps → PlainPieces text qs → ps ≡ qs
pieces_one text ps qs p q =
    cuts_one p.cut (subst (λ (xs : List Item). Cuts (data_from 0 xs) qs) (says_one q.file.says p.file.says) q.cut)

-- ---- the records of a section

module _ (b : ℕ) where
  abbrev kind : ℕ
  kind = data_type_of b

  not_04 : kind ≢ 4
  not_04 = data_not kind b 4 (λ f. omega arith) (λ f. omega arith) refl

  -- a data record's piece
  data_linear : (u a : ℕ) (d : List ℕ) (xs : List Item) → linear_data kind u (item kind a d ∷ xs) ≡ at (65536 * u + a) d ∷ linear_data kind u xs
  unfolding linear_data
  data_linear u a d xs = rw (eqb_same kind, ne_eqb kind 4 not_04)

  upper_linear : (u v : ℕ) (xs : List Item) → linear_data kind u (word 0x04 v ∷ xs) ≡ linear_data kind v xs
  unfolding linear_data
  upper_linear u v xs = rw (not_data 4 b (λ f. omega arith) (λ f. omega arith)) (ap (λ (k : ℕ). linear_data kind k xs) (word_back 0x04 v))

  module _ (u a : ℕ) (d : List ℕ) (ps : List Store) (low : a < 65536) where
    upper_is : (65536 * u + a) / 65536 ≡ u
    upper_is = omega arith

    lower-is : (65536 * u + a) % 65536 ≡ a
    lower-is = omega arith

    body_same : body_items kind u (at (65536 * u + a) d ∷ ps) ≡ item kind a d ∷ body_items kind u ps
    unfolding body_items
    body_same = rw (upper_is, lower-is, eqb_same u)

    body-changed : (t : ℕ) → u ≢ t → body_items kind t (at (65536 * u + a) d ∷ ps) ≡ word 0x04 u ∷ item kind a d ∷ body_items kind u ps
    unfolding body_items
    body-changed t n = rw (upper_is, lower-is, ne_eqb t u (λ e. n (sym e)))

  -- records are given by their pieces
  uppers_are : {u : ℕ} {xs : List Item} → UppersAsNeeded kind u xs → xs ≡ body_items kind u (linear_data kind u xs)
  uppers_are no_more = unfold linear_data body_items in refl
  uppers_are (same {u} {a} {d} {xs} h r) =
      ap (λ (z : List Item). item kind a d ∷ z) (uppers_are r)
      ∙ sym (ap (body_items kind u) (data_linear u a d xs) ∙ body_same u a d (linear_data kind u xs) h)
  uppers_are (changed {u} {v} {a} {d} {xs} n h r) =
      ap (λ (z : List Item). word 0x04 v ∷ item kind a d ∷ z) (uppers_are r)
      ∙ sym (ap (body_items kind u) (upper_linear u v (item kind a d ∷ xs) ∙ data_linear v a d xs) ∙ body-changed v a d (linear_data kind v xs) h u n)

  -- the filling gives no piece
  linear_filled : (k u : ℕ) (xs : List Item) → linear_data kind u (xs ++ replicate k pad_item) ≡ linear_data kind u xs
  unfolding linear_data
  linear_filled k u [] = pads_linear b k u
  linear_filled k u (x ∷ xs) =
      ap (λ (z : List Store). cond (eqb x.kind kind) (at (65536 * u + x.address) x.bytes ∷ []) [] ++ z)
      (linear_filled k (cond (eqb x.kind 4) (word_of x) u) xs)

  -- ---- a section, by its pieces and its filling

  abbrev shape : List Store → ℕ → ℕ → Section
  shape ps f r =
      record {
        opening = word 0x04 (first_upper ps);
        naming = word 0x0A b;
        body = body_items kind (first_upper ps) ps ++ replicate f pad_item;
        closing = filler 0x0B r;
      }

  abbrev pieces_in : Section → List Store
  pieces_in s = linear_data kind (word_of s.opening) s.body

  module _ (s : Section) (f : Form b s) where
    abbrev records : List Item
    records = item kind f.address f.bytes ∷ f.records

    in_pieces : pieces_in s ≡ linear_data kind f.upper records
    in_pieces =
        ap (λ (x : Item). linear_data kind (word_of x) s.body) f.opening
        ∙ ap (λ (k : ℕ). linear_data kind k s.body) (word_back 0x04 f.upper)
        ∙ ap (linear_data kind f.upper) f.body
        ∙ linear_filled f.fillers f.upper records

    first_is : first_upper (pieces_in s) ≡ f.upper
    first_is = ap first_upper (in_pieces ∙ data_linear f.upper f.address f.bytes f.records) ∙ upper_is f.upper f.address f.bytes [] f.low

    records-are : records ≡ body_items kind (first_upper (pieces_in s)) (pieces_in s)
    records-are =
        uppers_are (same f.low f.uppers)
        ∙ ap (body_items kind f.upper) (sym in_pieces)
        ∙ ap (λ (k : ℕ). body_items kind k (pieces_in s)) (sym first_is)

    section-is : s ≡ shape (pieces_in s) f.fillers f.rest
    section-is =
        ap (λ (x : Item). record { opening = x; naming = s.naming; body = s.body; closing = s.closing }) (f.opening ∙ ap (word 0x04) (sym first_is))
        ∙ ap (λ (x : Item). record { opening = word 0x04 (first_upper (pieces_in s)); naming = x; body = s.body; closing = s.closing }) f.naming
        ∙ ap (λ (x : List Item). record { opening = word 0x04 (first_upper (pieces_in s)); naming = word 0x0A b; body = x; closing = s.closing })
        (f.body ∙ ap (λ (z : List Item). z ++ replicate f.fillers pad_item) records-are)
        ∙ ap (λ (x : Item). record {
          opening = word 0x04 (first_upper (pieces_in s));
          naming = word 0x0A b;
          body = body_items kind (first_upper (pieces_in s)) (pieces_in s) ++ replicate f.fillers pad_item;
          closing = x;
        }) f.closing

  -- how long it is
  abbrev start_size : List Store → ℕ
  start_size ps = 32 + size_of (body_items kind (first_upper ps) ps)

  shape_size : (ps : List Store) (f r : ℕ) → size_of (section_items (shape ps f r)) ≡ start_size ps + (64 * f + (12 + 2 * r))
  unfolding size_of
  shape_size ps f r =
      let xs = body_items kind (first_upper ps) ps in
      let k = replicate f pad_item in
      let c = filler 0x0B r in
      let e : size_of ((xs ++ k) ++ (c ∷ [])) ≡ size_of (xs ++ k) + (c.size + 0) = size_append (xs ++ k) (c ∷ []) in
      let n : length c.bytes ≡ r = length-replicate r 255 in
      omega (arith, size_append xs k, pads_size f)

-- ---- one filling fits

not_less : (n x y : ℕ) → (n + x) % 512 ≡ 0 → (n + y) % 512 ≡ 0 → y < 512 → x < y → ⊥
not_less n x y e f h l =
    let p = (n + x) / 512 in
    let q = (n + y) / 512 in
    let a : n + x ≡ 512 * p = omega arith in
    let c : n + y ≡ 512 * q = omega arith in
    let d : p < q = omega arith in
    let g : q < p + 1 = omega arith in
    omega arith

same_rest : (n x y : ℕ) → (n + x) % 512 ≡ 0 → (n + y) % 512 ≡ 0 → x < 512 → y < 512 → x ≡ y
same_rest n x y e f h k =
    split (ltb x y)
    (λ t. absurd (not_less n x y e f k (ltb-true x y t)))
    (λ t. split (ltb y x) (λ u. absurd (not_less n y x f e h (ltb-true y x u))) (λ u. omega (arith, ltb-false x y t, ltb-false y x u)))

-- f 0C and an 0B of r bytes, after n characters
record Fill (n f r : ℕ) : Type 0 where
  pub whole : (n + (64 * f + (12 + 2 * r))) % 512 ≡ 0
  pub least : 64 * f + 2 * r < 512
  pub after_last : 2 * r ≤ 64
  pub before_last : 1 ≤ f → 64 < 64 + 2 * r

not_fewer : (n f r g q : ℕ) → Fill n f r → Fill n g q → f < g → ⊥
not_fewer n f r g q x y l =
    let t : 64 * f + 2 * r ≡ 64 * g + 2 * q =
    same_rest (n + 12) (64 * f + 2 * r) (64 * g + 2 * q) (ap (λ (k : ℕ). k % 512) (omega arith) ∙ x.whole) (ap (λ (k : ℕ). k % 512) (omega arith) ∙ y.whole) x.least y.least in
    omega (arith, x.after_last, y.before_last (omega arith))

fill_one : (n f r g q : ℕ) → Fill n f r → Fill n g q → (f ≡ g) × (r ≡ q)
fill_one n f r g q x y =
    let t : 64 * f + 2 * r ≡ 64 * g + 2 * q =
    same_rest (n + 12) (64 * f + 2 * r) (64 * g + 2 * q) (ap (λ (k : ℕ). k % 512) (omega arith) ∙ x.whole) (ap (λ (k : ℕ). k % 512) (omega arith) ∙ y.whole) x.least y.least in
    let e : f ≡ g =
    split (ltb f g)
    (λ u. absurd (not_fewer n f r g q x y (ltb-true f g u)))
    (λ u. split (ltb g f) (λ v. absurd (not_fewer n g q f r y x (ltb-true g f v))) (λ v. omega (arith, ltb-false f g u, ltb-false g f v))) in
    (e, omega arith)

-- a section in its form has a piece, so its plain file has data
pub section_data : (b : ℕ) (text : List ℕ) (s : Section) → SectionOf b text s → WithData text
section_data b text s x =
    let f = x.form in
    let e = ap length (in_pieces b s f ∙ data_linear b f.upper f.address f.bytes f.records) in
    record { items = x.pieces.items; file = x.pieces.file; some = some-cut x.pieces.cut (omega arith) }
  where
    some-cut : {ss ps : List Store} → Cuts ss ps → 1 ≤ length ps → 1 ≤ length ss
    some-cut none h = absurd (omega arith)
    some-cut (one c cs) h = omega arith

-- ---- one section, one file

section_fill : (b : ℕ) (text : List ℕ) (s : Section) (x : SectionOf b text s) → Fill (start_size b (pieces_in b s)) x.form.fillers x.form.rest
section_fill b text s x =
    let f = x.form in
    let e = ap (λ (z : Section). size_of (section_items z)) (section-is b s f) ∙ shape_size b (pieces_in b s) f.fillers f.rest in
    record {
      whole = omega (arith, e, x.aligned);
      least = f.least;
      after_last = omega (arith, f.after_last);
      before_last = f.before_last;
    }

pub section_one : (b : ℕ) (text : List ℕ) (s t : Section) → SectionOf b text s → SectionOf b text t → s ≡ t
section_one b text s t x y =
    let e : pieces_in b s ≡ pieces_in b t = pieces_one text (pieces_in b s) (pieces_in b t) x.pieces y.pieces in
    let w = fill_one (start_size b (pieces_in b t)) x.form.fillers x.form.rest y.form.fillers y.form.rest
    (subst (λ (ps : List Store). Fill (start_size b ps) x.form.fillers x.form.rest) e (section_fill b text s x))
    (section_fill b text t y) in
    section-is b s x.form
    ∙ ap (λ (ps : List Store). shape b ps x.form.fillers x.form.rest) e
    ∙ ap (λ (k : ℕ). shape b (pieces_in b t) k x.form.rest) w.0
    ∙ ap (λ (k : ℕ). shape b (pieces_in b t) y.form.fillers k) w.1
    ∙ sym (section-is b t y.form)

pub lines_are : (a b : List ℕ) (ls : List (List ℕ)) (x : TwoSections a b ls) → ls ≡ map line_for (all_items (x.v1 ∷ x.v2 ∷ []) ++ (item 0x01 0 [] ∷ []))
lines_are a b ls x =
    x.lines
    ∙ ap (map line_for)
    (x.file.whole
    ∙ ap (λ (z : List Section). all_items z ++ (x.file.ending ∷ [])) x.two
    ∙ ap (λ (z : Item). all_items (x.v1 ∷ x.v2 ∷ []) ++ (z ∷ [])) x.ending)

pub output_is_one : OutputIsOne
unfolding OutputIsOne
output_is_one a b ls ms x y =
    lines_are a b ls x
    ∙ ap (λ (s : Section). map line_for (all_items (s ∷ x.v2 ∷ []) ++ (item 0x01 0 [] ∷ []))) (section_one 0x9900 a x.v1 y.v1 x.of_v1 y.of_v1)
    ∙ ap (λ (s : Section). map line_for (all_items (y.v1 ∷ s ∷ []) ++ (item 0x01 0 [] ∷ []))) (section_one 0x9903 b x.v2 y.v2 x.of_v2 y.of_v2)
    ∙ sym (lines_are a b ms y)
