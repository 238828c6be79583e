-- The data of a plain file, cut: the pieces are what one record each holds, and cutting changes no byte. Assumes nothing.
use Prim.Native.Nat.{ℕ, ◌+◌, ◌-◌, ◌≤◌, ◌<◌}
use mathlib.Core.Path.{◌≡◌, refl, sym, ap, subst, ◌∙◌}
use mathlib.Core.Bool.{false, cond}
use mathlib.Core.List.{List, [], ◌∷◌, ◌++◌}
use native.Mathlib.Omega.{arith}
use lib.Dec.{eqb, leb, ltb}
use lib.ListN.{length, get_or, take, drop, length-append, length-take, length-drop, take-append-drop, get_or-append}
use lib.Seq.{length-take-le, get_or-take, get_or-drop, get_or-append-add, take-append_seam, drop-append_seam}
use borrow.Author.Tests.{leb-true, leb-false, ltb-true, ltb-false, le-leb, lt-leb, le-ltb, lt-ltb}
use Rattle.laws.proofs.Tests.{split}
use Rattle.laws.specs.Stores.{Store, covers, byte_of, latest}
use Rattle.laws.proofs.StoresLaws.{latest_append}
use Rattle.ihex_record.specs.Record.{text_of, bytes_of, read_of}
use Rattle.ihex_record.specs.Write.{Bytes}
use Rattle.ihex_record.specs.declared.Record.{Record}
use Rattle.std.specs.Prelude.{Ok}
use Rattle.ihex_record.proofs.Good.{says, good_len, good_data, bytes_small}
use Rattle.uhex_claims.specs.Items.{Item, item_of, Says, line, word_of}
use Rattle.uhex_claims.specs.Items
use Rattle.uhex_claims.proofs.OneRecord.{len_item}
use Rattle.ihex_data.specs.Pieces.{room_of, split_of, split_all}
use Rattle.uhex_join_claims.specs.PlainFile.{Records, ending_01, data_00, segment_02, start_03, linear_04, start_05, at, base_after, data_from, Cut, uncut, crossing, Cuts, none, one}
use Rattle.uhex_join_claims.proofs.Pieces.{Piece, Pieces, no_piece, next_piece}

-- ---- bytes

bytes_take : (n : ℕ) (d : List ℕ) → Bytes d → Bytes (take n d)
bytes_take n d f i l = rw (get_or-take n d i 0 (omega (arith, length-take n d))) (f i (omega (arith, length-take n d)))

bytes_drop : (n : ℕ) (d : List ℕ) → Bytes d → Bytes (drop n d)
bytes_drop n d f i l = rw (get_or-drop n d i 0) (f (n + i) (omega (arith, length-drop n d)))

-- what a good line's record holds are bytes
item_bytes_lem : (l : List ℕ) (rec : Record) → (read_of l).parsed ≡ Ok rec → Bytes (item_of l rec).bytes
unfolding read_of
item_bytes_lem l rec e =
    let b = bytes_of (drop 1 (text_of l)) in
    let small : Bytes b = bytes_small (drop 1 (text_of l)) (says (text_of l) rec e).digits in
    rw (good_data l rec e) (bytes_take (get_or b 0 0) (drop 4 b) (bytes_drop 4 b small))

-- and its first two are a number of 16 bits
word_small : (x : Item) → length x.bytes ≡ 2 → Bytes x.bytes → word_of x < 65536
word_small x n f = omega (arith, f 0 (omega arith), f 1 (omega arith))

-- ---- the data of a plain file

pub record Data (s : Store) : Type 0 where
  pub some : 1 ≤ length s.bytes
  pub few : length s.bytes ≤ 32
  pub inside : s.address + length s.bytes ≤ 4294967296
  pub bytes : Bytes s.bytes

pub data AllData : List Store → Type 0 where
  no_data : AllData []
  more : {s : Store} {ss : List Store} → Data s → AllData ss → AllData (s ∷ ss)

-- what address fields count from: an 04's two bytes times 65,536 at most
module _ (base : ℕ) (low : base ≤ 4294901760) where
  -- a record that gives nothing
  drops : (x : Item) (xs : List Item) → eqb x.kind 0 ≡ false → AllData (data_from (base_after base x) xs) → AllData (data_from base (x ∷ xs))
  unfolding data_from
  drops x xs e r = rw e r

  gives : (x : Item) (xs : List Item) → x.kind ≡ 0 → x.address + length x.bytes ≤ 65536 → length x.bytes ≤ 32 → Bytes x.bytes
      → AllData (data_from base xs) → AllData (data_from base (x ∷ xs))
  unfolding data_from
  gives x xs k m n b r =
      let f : Data (at (base + x.address) x.bytes) → AllData (at (base + x.address) x.bytes ∷ data_from base xs) = λ d. more d r in
      rw k
      (split (leb 1 (length x.bytes))
      (λ y. rw y (f (record { some = leb-true 1 (length x.bytes) y; few = n; inside = omega arith; bytes = b })))
      (λ z. rw z r))

pub data_all : {ls : List (List ℕ)} {xs : List Item} → Says ls xs → Records xs → (base : ℕ) → base ≤ 4294901760 → AllData (data_from base xs)
data_all Items.none r base m = elim r [ ]
data_all (line {l} {ls} {xs} rec p t) (ending_01 k n) base m = drops base m (item_of l rec) [] (rw k) (unfold data_from in no_data)
data_all (line {l} {ls} {xs} rec p t) (data_00 k n r) base m =
    gives base m (item_of l rec) xs k n (omega (arith, len_item l rec p, good_len l rec p)) (item_bytes_lem l rec p) (data_all t r base m)
data_all (line {l} {ls} {xs} rec p t) (segment_02 k n r) base m =
    let x = item_of l rec in
    drops base m x xs (rw k) (data_all t r (base_after base x) (rw k (omega (arith, word_small x n (item_bytes_lem l rec p)))))
data_all (line {l} {ls} {xs} rec p t) (start_03 k n r) base m =
    let x = item_of l rec in
    drops base m x xs (rw k) (data_all t r (base_after base x) (rw k m))
data_all (line {l} {ls} {xs} rec p t) (linear_04 k n r) base m =
    let x = item_of l rec in
    drops base m x xs (rw k) (data_all t r (base_after base x) (rw k (omega (arith, word_small x n (item_bytes_lem l rec p)))))
data_all (line {l} {ls} {xs} rec p t) (start_05 k n r) base m =
    let x = item_of l rec in
    drops base m x xs (rw k) (data_all t r (base_after base x) (rw k m))

-- ---- its pieces

module _ (s : Store) (f : Data s) where
  abbrev a : ℕ
  a = s.address

  abbrev d : List ℕ
  d = s.bytes

  abbrev r : ℕ
  r = room_of a

  -- cut at the next multiple of 65,536
  module _ (h : r < length d) where
    first-length : length (take r d) ≡ r
    first-length = length-take-le r d (omega arith)

    two-cut : Cut a d (at a (take r d) ∷ at (a + r) (drop r d) ∷ [])
    two-cut =
        let n = length-drop r d in
        let rest : Cut (a + length (take r d)) (drop r d) (at (a + length (take r d)) (drop r d) ∷ []) =
        uncut {a = a + length (take r d)} {d = drop r d} (omega (arith, first-length, f.few)) in
        let c : Cut a (take r d ++ drop r d) (at a (take r d) ∷ at (a + length (take r d)) (drop r d) ∷ []) =
        crossing {a = a} {d = take r d} {rest = drop r d} (omega (arith, first-length)) (omega arith) rest in
        subst (λ (k : ℕ). Cut a d (at a (take r d) ∷ at (a + k) (drop r d) ∷ [])) first-length
        (subst (λ (z : List ℕ). Cut a z (at a (take r d) ∷ at (a + length (take r d)) (drop r d) ∷ [])) (take-append-drop r d) c)

    two-pieces : Pieces (at a (take r d) ∷ at (a + r) (drop r d) ∷ [])
    two-pieces =
        let n = length-drop r d in
        let m = first-length in
        let p : Piece (at a (take r d)) =
        record {
          some = omega arith;
          few = omega (arith, f.few);
          inside = omega arith;
          wide = omega (arith, f.inside, f.some);
          bytes = bytes_take r d f.bytes;
        } in
        let q : Piece (at (a + r) (drop r d)) =
        record {
          some = omega arith;
          few = omega (arith, f.few);
          inside = omega (arith, f.few);
          wide = omega (arith, f.inside, f.some);
          bytes = bytes_drop r d f.bytes;
        } in
        next_piece p (next_piece q no_piece)

  split_one : Cut a d (split_of s) × Pieces (split_of s)
  unfolding split_of
  split_one =
      split (ltb r (length d))
      (λ y. rw y (two-cut (ltb-true r (length d) y), two-pieces (ltb-true r (length d) y)))
      (λ z.
      let h : length d ≤ r = ltb-false r (length d) z in
      let c : Cut a d (at a d ∷ []) = uncut {a = a} {d = d} (omega arith) in
      let p : Piece s = record { some = f.some; few = f.few; inside = omega arith; wide = omega (arith, f.inside, f.some); bytes = f.bytes } in
      rw z (c, next_piece p no_piece))

pieces_append : {ss ts : List Store} → Pieces ss → Pieces ts → Pieces (ss ++ ts)
pieces_append no_piece q = q
pieces_append (next_piece p ps) q = next_piece p (pieces_append ps q)

pub split_all_lem : {ss : List Store} → AllData ss → Cuts ss (split_all ss) × Pieces (split_all ss)
unfolding split_all
split_all_lem no_data = (none, no_piece)
split_all_lem (more {s} f r) =
    let x = split_one s f in
    let y = split_all_lem r in
    (one x.0 y.0, pieces_append x.1 y.1)

-- where there is data there is a piece
pub split_some : (s : Store) (ss : List Store) → 1 ≤ length (split_all (s ∷ ss))
unfolding split_all split_of
split_some s ss = split (ltb (room_of s.address) (length s.bytes)) (λ y. rw y (omega arith)) (λ z. rw z (omega arith))

-- ---- cutting changes no byte

cut_byte : {b : ℕ} {e : List ℕ} {ps : List Store} → Cut b e ps → (j v : ℕ) → latest j ps v ≡ cond (covers (at b e) j) (byte_of (at b e) j) v
unfolding latest
cut_byte (uncut h) j v = refl
cut_byte (crossing {a} {d} {rest} {ps} h n c) j v =
    cut_byte c j (cond (covers (at a d) j) (byte_of (at a d) j) v)
    ∙ split (leb a j)
    (λ y.
    let f : a ≤ j = leb-true a j y in
    let m : length (d ++ rest) ≡ length d + length rest = length-append d rest in
    split (ltb j (a + length d))
    (λ t.
    let g : j < a + length d = ltb-true j (a + length d) t in
    rw (y, t, lt-leb (a + length d) j g, lt-ltb j (a + length (d ++ rest)) (omega arith)) (sym (get_or-append d rest 0 (j - a) (omega arith))))
    (λ t.
    let g : a + length d ≤ j = ltb-false j (a + length d) t in
    let i : length d + (j - (a + length d)) ≡ j - a = omega arith in
    let k : get_or (d ++ rest) (j - a) 0 ≡ get_or rest (j - (a + length d)) 0 = rw i at (get_or-append-add d rest (j - (a + length d)) 0) in
    split (ltb j (a + length d + length rest))
    (λ w. rw (y, t, w, le-leb (a + length d) j g, lt-ltb j (a + length (d ++ rest)) (omega (arith, ltb-true j (a + length d + length rest) w))) (sym k))
    (λ w. rw (y, t, w, le-leb (a + length d) j g, le-ltb j (a + length (d ++ rest)) (omega (arith, ltb-false j (a + length d + length rest) w))))))
    (λ z. rw (z, lt-leb (a + length d) j (omega (arith, leb-false a j z))))

pub cuts_byte : {ss ps : List Store} → Cuts ss ps → (j v : ℕ) → latest j ps v ≡ latest j ss v
unfolding latest
cuts_byte none j v = refl
cuts_byte (one {s} {ss} {ps} {qs} c cs) j v =
    latest_append j ps qs v ∙ ap (latest j qs) (cut_byte c j v) ∙ cuts_byte cs j (cond (covers s j) (byte_of s j) v)

-- ---- there is one way to cut

-- two parts of one list, the first parts as long as each other
same_parts : (d x e y : List ℕ) → length d ≡ length e → d ++ x ≡ e ++ y → (d ≡ e) × (x ≡ y)
same_parts d x e y n h = (
  sym (take-append_seam d x) ∙ ap (λ (k : ℕ). take k (d ++ x)) n ∙ ap (take (length e)) h ∙ take-append_seam e y,
  sym (drop-append_seam d x) ∙ ap (λ (k : ℕ). drop k (d ++ x)) n ∙ ap (drop (length e)) h ∙ drop-append_seam e y,
)

cut_one : {b : ℕ} {e f : List ℕ} {ps qs : List Store} → Cut b e ps → e ≡ f → Cut b f qs → ps ≡ qs
cut_one {b} (uncut h) z (uncut k) = ap (λ (d : List ℕ). at b d ∷ []) z
cut_one (uncut h) z (crossing {d = d} {rest = rest} k n c) = absurd (omega (arith, ap length z, length-append d rest))
cut_one (crossing {d = d} {rest = rest} k n c) z (uncut h) = absurd (omega (arith, ap length z, length-append d rest))
cut_one {b} (crossing {d = d} {rest = x} {ps = ps} k n c) z (crossing {d = e} {rest = y} {ps = qs} l m g) =
    let w = same_parts d x e y (omega arith) z in
    let v : Cut (b + length e) x ps = subst (λ (t : List ℕ). Cut (b + length t) x ps) w.0 c in
    ap (λ (t : List ℕ). at b t ∷ ps) w.0 ∙ ap (λ (t : List Store). at b e ∷ t) (cut_one v w.1 g)

pub cuts_one : {ss ps qs : List Store} → Cuts ss ps → Cuts ss qs → ps ≡ qs
cuts_one none none = refl
cuts_one (one {ps = p} {qs = ps} c cs) (one {ps = q} {qs = qs} d ds) =
    ap (λ (t : List Store). t ++ ps) (cut_one c refl d) ∙ ap (λ (t : List Store). q ++ t) (cuts_one cs ds)
