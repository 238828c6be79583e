-- The sections that are written: their records, that they are sections, how long they are, and what a reader stores of them. Assumes nothing.
use Prim.Native.Nat.{ℕ, zero, suc, ◌+◌, ◌*◌, ◌-◌, ◌/◌, ◌%◌, ◌≤◌, ◌<◌}
use mathlib.Core.Path.{◌≡◌, refl, sym, ap, subst, ◌∙◌}
use mathlib.Core.Logic.{◌≢◌}
use mathlib.Core.Bool.{true, cond, ◌&&◌, ◌||◌}
use mathlib.Core.List.{List, [], ◌∷◌, ◌++◌, append_assoc, append-nil, flatten}
use native.Mathlib.Omega.{arith}
use lib.Dec.{eqb, leb}
use lib.ListN.{length, replicate, length-replicate, get_or-replicate}
use borrow.Author.Tests.{eqb-true, eqb-false, eq-eqb, ne_eqb, le-leb}
use Rattle.laws.proofs.Tests.{split, eqb_same}
use Rattle.laws.specs.Stores.{Store}
use Rattle.ihex_record.specs.Write.{Bytes, record_line}
use Rattle.uhex_grammar.specs.Grammar.{data_kind}
use Rattle.uhex_claims.specs.Items.{Item, size_of, word_of, item}
use Rattle.uhex_claims.specs.Whole.{data_type_of, Tail, tail_ends, tail_0_c, Body, body_ends, body_04, body_data, body_0_c, Section, section_items, board_of, IsSection, any_data}
use Rattle.uhex_claims.specs.State.{between, body, place_after, State, after, state_after, address_of, stores_with, stores_for}
use Rattle.uhex_claims.proofs.OneRecord.{not_data, data_not, data_kind_lem, no_gift, a_gift}
use Rattle.uhex_claims.proofs.Runs.{size_append, stays_body}
use Rattle.ihex_data.specs.Lines.{word_bytes, upper_of, body_lines, first_upper}
use Rattle.ihex_write.specs.Fill.{missing, pads, pad_line, fill_lines}
use Rattle.uhex_join.specs.Text.{start_lines, section_lines}
use Rattle.uhex_join_claims.specs.Form.{word, UppersAsNeeded, no_more, same, changed, Form}
use Rattle.uhex_join_claims.specs.PlainFile.{at, within}
use Rattle.uhex_join_claims.specs.Claims.{linear_data}
use Rattle.uhex_join_claims.proofs.Pieces.{Piece, Pieces, no_piece, next_piece}
use Rattle.uhex_join_claims.proofs.Written.{Fits, Written, nothing, more, written_append, written_size, written_even}

-- ---- records of two bytes

word_written : (kind w : ℕ) → kind < 256 → w < 65536 → {ls : List (List ℕ)} {xs : List Item} → Written ls xs
    → Written (record_line kind 0 (word_bytes w) ∷ ls) (word kind w ∷ xs)
word_written kind w k h {ls} {xs} r =
    let high : w / 256 % 256 ≡ w / 256 = omega arith in
    let f : Fits kind 0 (word_bytes w) = record { kind = k; address = omega arith; short = omega arith; bytes = two } in
    subst (λ (v : ℕ). Written (record_line kind 0 (word_bytes w) ∷ ls) (item kind 0 (v ∷ w % 256 ∷ []) ∷ xs)) high (more f r)
  where
    two : Bytes (word_bytes w)
    two zero n = omega arith
    two (suc zero) n = omega arith
    two (suc (suc i)) n = absurd (omega arith)

pub word_back : (kind w : ℕ) → word_of (word kind w) ≡ w
word_back kind w = omega arith

-- ---- data

-- an 04 where the upper half changes
abbrev items_if : ℕ → ℕ → List Item → List Item
items_if u v xs = cond (eqb u v) xs (word 0x04 v ∷ xs)

abbrev data_item : ℕ → Store → Item
data_item kind s = item kind (s.address % 65536) s.bytes

unfoldable pub body_items : ℕ → ℕ → List Store → List Item
body_items kind u [] = []
body_items kind u (s ∷ ss) = items_if u (upper_of s) (data_item kind s ∷ body_items kind (upper_of s) ss)

body_written : (kind : ℕ) → kind < 256 → (u : ℕ) {ss : List Store} → Pieces ss → Written (body_lines kind u ss) (body_items kind u ss)
unfolding body_lines body_items
body_written kind k u no_piece = nothing
body_written kind k u (next_piece {s} p ps) =
    let v = upper_of s in
    let f : Fits kind (s.address % 65536) s.bytes = record { kind = k; address = omega arith; short = p.few; bytes = p.bytes } in
    let rest = more f (body_written kind k v ps) in
    split (eqb u v) (λ y. rw y rest) (λ n. rw n (word_written 0x04 v (omega arith) p.wide rest))

body_is : (b u : ℕ) (ys : List Item) → Body b ys → {ss : List Store} → Pieces ss → Body b (body_items (data_kind b) u ss ++ ys)
unfolding body_items
body_is b u ys t no_piece = t
body_is b u ys t (next_piece {s} {ss} p ps) =
    let v = upper_of s in
    let rest : Body b (data_item (data_kind b) s ∷ body_items (data_kind b) v ss ++ ys) = body_data (data_kind_lem b) p.inside (body_is b v ys t ps) in
    split (eqb u v) (λ y. rw y rest) (λ n. rw n (body_04 refl refl rest))

body_gives : (b u : ℕ) (ys : List Item) (s : Store) (ss : List Store) → Piece s → any_data b (body_items (data_kind b) u (s ∷ ss) ++ ys) ≡ true
unfolding body_items any_data
body_gives b u ys s ss p =
    let v = upper_of s in
    let rest : eqb (data_kind b) (data_type_of b) && leb 1 (length s.bytes) || any_data b (body_items (data_kind b) v ss ++ ys) ≡ true =
    rw (data_kind_lem b, eqb_same (data_type_of b), le-leb 1 (length s.bytes) p.some) in
    split (eqb u v) (λ y. rw y rest) (λ n. rw (n, not_data 4 b (λ f. omega arith) (λ f. omega arith)) rest)

-- ---- what a reader of the own board stores, in an image of n bytes

module _ (own n : ℕ) where
  pub stores_append : (s : State) (xs ys : List Item) → stores_for own n s (xs ++ ys) ≡ stores_for own n s xs ++ stores_for own n (state_after s xs) ys
  unfolding stores_for state_after
  stores_append s [] ys = refl
  stores_append s (x ∷ xs) ys =
      ap (λ (z : List Store). stores_with own n s x ++ z) (stores_append (after s x) xs ys)
      ∙ sym (append_assoc (stores_with own n s x) (stores_for own n (after s x) xs) (stores_for own n (state_after (after s x) xs) ys))

  -- of a record that is no data: nothing
  no_store : (s : State) (x : Item) → x.kind ≢ 0 → x.kind ≢ 13 → stores_with own n s x ≡ []
  unfolding stores_with
  no_store s x z t = rw (no_gift x z t s.place own)

  module _ (b : ℕ) where
    abbrev ownOnly : List Store → List Store
    ownOnly ss = cond (eqb b own) (within n ss) []

    -- a data record in the board's section, after an 04 that holds its upper half
    one_store : (s : State) (t : Store) → Piece t → s.place ≡ body b → s.upper ≡ upper_of t
        → stores_with own n s (data_item (data_kind b) t) ≡ cond (eqb b own) (cond (leb (t.address + length t.bytes) n) (t ∷ []) []) []
    unfolding stores_with
    one_store s t p e f =
        let x = data_item (data_kind b) t in
        let a : address_of s x ≡ t.address = omega arith in
        rw (e, a_gift x b (data_kind_lem b) p.some own, a)
        (split (eqb b own) (λ y. rw y) (λ z. rw z))

    own-more : (t : Store) (ts : List Store) → cond (eqb b own) (cond (leb (t.address + length t.bytes) n) (t ∷ []) []) [] ++ ownOnly ts ≡ ownOnly (t ∷ ts)
    unfolding within
    own-more t ts = split (eqb b own) (λ y. rw y) (λ z. rw z)

    body-stores : (u : ℕ) {ss : List Store} → Pieces ss → (s : State) → s.place ≡ body b → s.upper ≡ u
        → stores_for own n s (body_items (data_kind b) u ss) ≡ ownOnly ss
    unfolding body_items stores_for
    body-stores u no_piece s e f = unfold within in split (eqb b own) (λ y. rw y) (λ z. rw z)
    body-stores u (next_piece {s = t} {ss = ts} p ps) s e f =
        let v = upper_of t in
        let x = data_item (data_kind b) t in
        let not : (k : ℕ) → k ≢ 0 → k ≢ 13 → x.kind ≢ k = λ k z w. data_not x.kind b k z w (data_kind_lem b) in
        let rest : (q : State) → q.place ≡ body b → q.upper ≡ v → stores_with own n q x ++ stores_for own n (after q x) (body_items (data_kind b) v ts) ≡ ownOnly (t ∷ ts) =
        λ q g h.
        ap (λ (z : List Store). z ++ stores_for own n (after q x) (body_items (data_kind b) v ts)) (one_store q t p g h)
        ∙ ap (λ (z : List Store). cond (eqb b own) (cond (leb (t.address + length t.bytes) n) (t ∷ []) []) [] ++ z)
        (body-stores v ps (after q x) (stays_body q b x g (not 11 (λ f. omega arith) (λ f. omega arith)) (not 12 (λ f. omega arith) (λ f. omega arith)))
        (rw (ne_eqb x.kind 4 (not 4 (λ f. omega arith) (λ f. omega arith))) h))
        ∙ own-more t ts in
        let w = word 0x04 v in
        split (eqb u v)
        (λ y. rw y (rest s e (f ∙ eqb-true u v y)))
        (λ m.
        rw (m, no_store s w (λ f. omega arith) (λ f. omega arith))
        (rest (after s w) (stays_body s b w e (λ f. omega arith) (λ f. omega arith)) (word_back 0x04 v)))

-- ---- the data at linear addresses, stored or not

linear_data_lem : (b u : ℕ) (ys : List Item) → ((v : ℕ) → linear_data (data_type_of b) v ys ≡ []) → (ss : List Store) → linear_data (data_type_of b) u (body_items (data_kind b) u ss ++ ys) ≡ ss
unfolding body_items linear_data
linear_data_lem b u ys h [] = h u
linear_data_lem b u ys h (t ∷ ts) =
    let v = upper_of t in
    let k = data_type_of b in
    let x = data_item (data_kind b) t in
    let a : 65536 * v + x.address ≡ t.address = omega arith in
    let not : x.kind ≢ 4 = data_not x.kind b 4 (λ f. omega arith) (λ f. omega arith) (data_kind_lem b) in
    let rest : cond (eqb x.kind k) (at (65536 * v + x.address) t.bytes ∷ []) []
    ++ linear_data k (cond (eqb x.kind 4) (word_of x) v) (body_items (data_kind b) v ts ++ ys) ≡ t ∷ ts =
    rw (ne_eqb x.kind 4 not, eq-eqb x.kind k (data_kind_lem b), a) (ap (λ (z : List Store). t ∷ z) (linear_data_lem b v ys h ts)) in
    split (eqb u v)
    (λ y. rw (y, eqb-true u v y) rest)
    (λ n. rw (n, not_data 4 b (λ f. omega arith) (λ f. omega arith), word_back 0x04 v) rest)

-- ---- the filling

abbrev pub pad_item : Item
pad_item = item 0x0C 0 (replicate 26 255)

abbrev pub close_item : ℕ → Item
close_item m = item 0x0B 0 (replicate (m / 2) 255)

filled_fits : (kind k : ℕ) → kind < 256 → k ≤ 32 → Fits kind 0 (replicate k 255)
filled_fits kind k h m =
    record {
      kind = h;
      address = omega arith;
      short = omega (arith, length-replicate {A = ℕ} k 255);
      bytes = λ i l. omega (arith, get_or-replicate {A = ℕ} k i 255 0 (omega (arith, length-replicate {A = ℕ} k 255)));
    }

pads_written : (k : ℕ) {ls : List (List ℕ)} {xs : List Item} → Written ls xs
    → Written (replicate k pad_line ++ ls) (replicate k pad_item ++ xs)
pads_written zero w = w
pads_written (suc k) w = more (filled_fits 0x0C 26 (omega arith) (omega arith)) (pads_written k w)

fill_written : (m : ℕ) → m < 512 → Written (fill_lines m) (replicate (pads m) pad_item ++ (close_item (m - 64 * pads m) ∷ []))
unfolding fill_lines
fill_written m h = pads_written (pads m) (more (filled_fits 0x0B ((m - 64 * pads m) / 2) (omega arith) (omega arith)) nothing)

pads_tail : (k : ℕ) → Tail (replicate k pad_item)
pads_tail zero = tail_ends
pads_tail (suc k) = tail_0_c refl (pads_tail k)

pads_body : (b k : ℕ) → Body b (replicate k pad_item)
pads_body b zero = body_ends
pads_body b (suc k) = body_0_c refl (pads_tail k)

pub pads_size : (k : ℕ) → size_of (replicate k pad_item) ≡ 64 * k
unfolding size_of
pads_size zero = refl
pads_size (suc k) = omega (arith, pads_size k)

pads_stores : (own n k : ℕ) (s : State) → stores_for own n s (replicate k pad_item) ≡ []
unfolding stores_for
pads_stores own n zero s = refl
pads_stores own n (suc k) s = rw (no_store own n s pad_item (λ f. omega arith) (λ f. omega arith)) (pads_stores own n k (after s pad_item))

pub pads_linear : (b k v : ℕ) → linear_data (data_type_of b) v (replicate k pad_item) ≡ []
unfolding linear_data
pads_linear b zero v = refl
pads_linear b (suc k) v = rw (not_data 12 b (λ f. omega arith) (λ f. omega arith)) (pads_linear b k v)

-- n characters, the 0C and the 0B are a multiple of 512
filled_up : (n : ℕ) → n % 2 ≡ 0 → let m = missing n in (n + (64 * pads m + (12 + 2 * ((m - 64 * pads m) / 2)))) % 512 ≡ 0
filled_up n e =
    let m = missing n in
    let f : m < 512 = omega arith in
    let g : m % 2 ≡ 0 = omega arith in
    let h : (n + 12 + m) % 512 ≡ 0 = omega arith in
    let i : 64 * pads m + 2 * ((m - 64 * pads m) / 2) ≡ m = omega arith in
    omega arith

-- ---- a section

module _ (b : ℕ) (ss : List Store) where
  abbrev u : ℕ
  u = first_upper ss

  abbrev m : ℕ
  m = missing (length (flatten (start_lines b ss)))

  abbrev start_items : List Item
  start_items = word 0x04 u ∷ word 0x0A b ∷ body_items (data_kind b) u ss

  abbrev pad_items : List Item
  pad_items = replicate (pads m) pad_item

  abbrev last_item : Item
  last_item = close_item (m - 64 * pads m)

  abbrev pub section : Section
  section =
      record { opening = word 0x04 u; naming = word 0x0A b; body = body_items (data_kind b) u ss ++ pad_items; closing = last_item }

  pub board_is : board_of section ≡ b
  board_is = word_back 0x0A b

  -- the records, in order
  items_are : section_items section ≡ start_items ++ (pad_items ++ (last_item ∷ []))
  items_are =
      ap (λ (z : List Item). word 0x04 u ∷ word 0x0A b ∷ z) (append_assoc (body_items (data_kind b) u ss) pad_items (last_item ∷ []))

  pub section_linear : linear_data (data_type_of b) (word_of section.opening) section.body ≡ ss
  section_linear = rw (word_back 0x04 u) (linear_data_lem b u pad_items (pads_linear b (pads m)) ss)

  data_small : data_kind b < 256
  unfolding data_kind
  data_small = split (eqb b 0x9900) (λ y. rw y (omega arith)) (λ z. rw z (omega arith))

first_upper_lem : {ss : List Store} → Pieces ss → first_upper ss < 65536
first_upper_lem no_piece = omega arith
first_upper_lem (next_piece p ps) = p.wide

module _ (b : ℕ) (hb : b < 65536) {ss : List Store} (ps : Pieces ss) where
  start_written : Written (start_lines b ss) (start_items b ss)
  unfolding start_lines
  start_written =
      word_written 0x04 (u b ss) (omega arith) (first_upper_lem ps)
      (word_written 0x0A b (omega arith) hb (body_written (data_kind b) (data_small b ss) (u b ss) ps))

  pub section_written : Written (section_lines b ss) (section_items (section b ss))
  unfolding section_lines
  section_written = rw (items_are b ss) (written_append start_written (fill_written (m b ss) (omega arith)))

  pub section_size_lem : size_of (section_items (section b ss)) % 512 ≡ 0
  unfolding size_of
  section_size_lem =
      let n = length (flatten (start_lines b ss)) in
      let s = start_items b ss in
      let k = pad_items b ss in
      let c = last_item b ss in
      let e : size_of s ≡ n = sym (written_size start_written) in
      let l : length c.bytes ≡ (m b ss - 64 * pads (m b ss)) / 2 = length-replicate ((m b ss - 64 * pads (m b ss)) / 2) 255 in
      let f : size_of (section_items (section b ss)) ≡ size_of s + (size_of k + (c.size + 0)) =
      ap size_of (items_are b ss) ∙ size_append s (k ++ (c ∷ [])) ∙ ap (λ (z : ℕ). size_of s + z) (size_append k (c ∷ [])) in
      let g : n % 2 ≡ 0 = sym (ap (λ (z : ℕ). z % 2) e) ∙ written_even start_written in
      omega (arith, filled_up n g, pads_size (pads (m b ss)))

  pub is_section : IsSection (section b ss)
  is_section =
      record {
        opens = refl;
        upper = refl;
        names = refl;
        board = omega arith;
        body = rw (board_is b ss) (body_is b (u b ss) (pad_items b ss) (pads_body b (pads (m b ss))) ps);
        closes = refl;
      }

  pub section_stores : (own n : ℕ) (s : State) → s.place ≡ between → stores_for own n s (section_items (section b ss)) ≡ cond (eqb b own) (within n ss) []
  unfolding stores_for
  section_stores own n s e =
      let x = word 0x04 (u b ss) in
      let y = word 0x0A b in
      let s1 = after s x in
      let s2 = after s1 y in
      let bs = body_items (data_kind b) (u b ss) ss in
      let s3 = state_after s2 bs in
      let k = pad_items b ss in
      let c = last_item b ss in
      let in_body : s2.place ≡ body b = unfold place_after in rw e (ap body (board_is b ss)) in
      ap (stores_for own n s) (items_are b ss)
      ∙ rw (no_store own n s x (λ f. omega arith) (λ f. omega arith), no_store own n s1 y (λ f. omega arith) (λ f. omega arith))
      (stores_append own n s2 bs (k ++ (c ∷ []))
      ∙ ap (λ (z : List Store). z ++ stores_for own n s3 (k ++ (c ∷ []))) (body-stores own n b (u b ss) ps s2 in_body (word_back 0x04 (u b ss)))
      ∙ ap (λ (z : List Store). cond (eqb b own) (within n ss) [] ++ z)
      (stores_append own n s3 k (c ∷ [])
      ∙ rw (pads_stores own n (pads (m b ss)) s3, no_store own n (state_after s3 k) c (λ f. omega arith) (λ f. omega arith)))
      ∙ append-nil (cond (eqb b own) (within n ss) []))

pub section_gives : (b : ℕ) (s : Store) (ss : List Store) → Piece s → any_data b (section b (s ∷ ss)).body ≡ true
section_gives b s ss p = body_gives b (upper_of s) (pad_items b (s ∷ ss)) s ss p

-- ---- the form of a section

body_uppers : (b u : ℕ) (ss : List Store) → UppersAsNeeded (data_type_of b) u (body_items (data_kind b) u ss)
unfolding body_items
body_uppers b u [] = no_more
body_uppers b u (s ∷ ss) =
    let v = upper_of s in
    let xs = body_items (data_kind b) v ss in
    let x = data_item (data_type_of b) s in
    let rest = body_uppers b v ss in
    split (eqb u v)
    (λ y. rw y (subst (λ (k : ℕ). UppersAsNeeded (data_type_of b) u (data_item k s ∷ xs)) (sym (data_kind_lem b)) (same (omega arith) (subst (λ (w : ℕ). UppersAsNeeded (data_type_of b) w xs) (sym (eqb-true u v y)) rest))))
    (λ n. rw n (subst (λ (k : ℕ). UppersAsNeeded (data_type_of b) u (word 0x04 v ∷ data_item k s ∷ xs)) (sym (data_kind_lem b)) (changed (λ e. eqb-false u v n (sym e)) (omega arith) rest)))

some_form : (b : ℕ) → b < 65536 → (s : Store) (ss : List Store) → Piece s → Pieces ss → Form b (section b (s ∷ ss))
unfolding body_items
some_form b hb s ss p ps =
    let v = upper_of s in
    let k = m b (s ∷ ss) in
    let w = start_written b hb (next_piece p ps) in
    let n = length (flatten (start_lines b (s ∷ ss))) in
    let e : n % 2 ≡ 0 = ap (λ (z : ℕ). z % 2) (written_size w) ∙ written_even w in
    record {
      upper = v;
      address = s.address % 65536;
      bytes = s.bytes;
      records = body_items (data_kind b) v ss;
      opening = refl;
      low = omega arith;
      uppers = body_uppers b v ss;
      naming = refl;
      fillers = pads k;
      rest = (k - 64 * pads k) / 2;
      body = rw (eqb_same v, data_kind_lem b);
      closing = refl;
      least = omega arith;
      after_last = omega arith;
      before_last = λ h. omega arith;
    }

pub section_form : (b : ℕ) → b < 65536 → {ss : List Store} → Pieces ss → 1 ≤ length ss → Form b (section b ss)
section_form b hb no_piece h = absurd (omega arith)
section_form b hb (next_piece {s} {ss} p ps) h = some_form b hb s ss p ps
