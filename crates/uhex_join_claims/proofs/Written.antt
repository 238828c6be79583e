-- Lines of records that are written: what they say, how long they are, and that the text of them is cut into them. Assumes nothing.
use Prim.Native.Nat.{ℕ, zero, suc, ◌+◌, ◌*◌, ◌%◌, ◌≤◌, ◌<◌}
use mathlib.Core.Path.{◌≡◌, refl, ap, subst, ◌∙◌}
use mathlib.Core.List.{List, [], ◌∷◌, ◌++◌, append_assoc, flatten, map}
use native.Mathlib.Omega.{arith}
use lib.ListN.{length, get_or, length-append}
use borrow.Author.Tests.{ne_eqb}
use Rattle.ihex_record.specs.Record.{data32, read_of}
use Rattle.ihex_record.specs.Write.{field_bytes, checksum, record_text, record_line, lf, Bytes}
use Rattle.ihex_record.specs.declared.Record.{Record}
use Rattle.ihex_record.specs.declared.Line.{Line}
use Rattle.std.specs.Prelude.{Ok}
use Rattle.ihex_record.proofs.Data32.{data32_take}
use Rattle.ihex_record.proofs.Written.{length_text, text_high, length_record, reads_back}
use Rattle.ihex_file.specs.Lines.{glue, lines_of}
use Rattle.uhex_claims.specs.Items.{Item, item_of, Says, none, line, size_of, item, line_for}

-- ---- a text is cut into its lines

-- no character is an LF: digits, letters and the colon
abbrev High : List ℕ → Type 0
High t = (i : ℕ) → i < length t → 48 ≤ get_or t i 0

lines_line : (t rest : List ℕ) → High t → lines_of (t ++ (10 ∷ rest)) ≡ (t ++ (10 ∷ [])) ∷ lines_of rest
unfolding lines_of
lines_line [] rest h = refl
lines_line (c ∷ t) rest h =
    let low : 48 ≤ c = h 0 (omega arith) in
    rw (ne_eqb c 10 (λ e. omega arith)) (ap (glue c) (lines_line t rest (λ i n. h (suc i) (omega arith))))

record_high : (kind address : ℕ) (d : List ℕ) → High (record_text kind address d)
unfolding record_text
record_high kind address d zero n = omega arith
record_high kind address d (suc i) n =
    let w = field_bytes kind address d ++ (checksum (field_bytes kind address d) ∷ []) in
    text_high w i (omega (arith, length_text w))

-- ---- a record

-- what may be written as a record
pub record Fits (k a : ℕ) (d : List ℕ) : Type 0 where
  pub kind : k < 256
  pub address : a < 65536
  pub short : length d ≤ 32
  pub bytes : Bytes d

module _ (k a : ℕ) (d : List ℕ) (f : Fits k a d) where
  abbrev rec : Record
  rec = record { kind = k; address = a; len = length d }

  back : read_of (record_line k a d) ≡ record { parsed = Ok rec; «data» = data32 d }
  unfolding record_line
  back = reads_back k a d (10 ∷ []) f.kind f.address f.short f.bytes lf

  line_length : length (record_line k a d) ≡ 12 + 2 * length d
  unfolding record_line
  line_length =
      length-append (record_text k a d) (10 ∷ []) ∙ omega (arith, length_record k a d f.kind f.address f.short f.bytes)

  item_is : item_of (record_line k a d) rec ≡ item k a d
  item_is = rw (back, line_length) (ap (λ (b : List ℕ). record { kind = k; address = a; bytes = b; size = 12 + 2 * length d }) (data32_take d f.short))

-- ---- lines of records

-- each line is a record's, and these are the records
pub data Written : List (List ℕ) → List Item → Type 0 where
  nothing : Written [] []
  more : {k a : ℕ} {d : List ℕ} {ls : List (List ℕ)} {xs : List Item} → Fits k a d → Written ls xs → Written (record_line k a d ∷ ls) (item k a d ∷ xs)

pub written_append : {ls ms : List (List ℕ)} {xs ys : List Item} → Written ls xs → Written ms ys → Written (ls ++ ms) (xs ++ ys)
written_append nothing w = w
written_append (more f v) w = more f (written_append v w)

pub written_says : {ls : List (List ℕ)} {xs : List Item} → Written ls xs → Says ls xs
written_says nothing = none
written_says (more {k} {a} {d} {ls} {xs} f w) =
    subst (λ (x : Item). Says (record_line k a d ∷ ls) (x ∷ xs)) (item_is k a d f)
    (line (rec k a d f) (ap (λ (x : Line). x.parsed) (back k a d f)) (written_says w))

pub written_size : {ls : List (List ℕ)} {xs : List Item} → Written ls xs → length (flatten ls) ≡ size_of xs
unfolding flatten size_of
written_size nothing = refl
written_size (more {k} {a} {d} {ls} f w) =
    length-append (record_line k a d) (flatten ls) ∙ omega (arith, line_length k a d f, written_size w)

pub written_lines : {ls : List (List ℕ)} {xs : List Item} → Written ls xs → lines_of (flatten ls) ≡ ls
unfolding flatten lines_of record_line
written_lines nothing = refl
written_lines (more {k} {a} {d} {ls} f w) =
    let t = record_text k a d in
    ap lines_of (append_assoc t (10 ∷ []) (flatten ls))
    ∙ lines_line t (flatten ls) (record_high k a d)
    ∙ ap (λ (m : List (List ℕ)). (t ++ (10 ∷ [])) ∷ m) (written_lines w)

-- a record's line has an even number of characters
pub written_even : {ls : List (List ℕ)} {xs : List Item} → Written ls xs → size_of xs % 2 ≡ 0
unfolding size_of
written_even nothing = refl
written_even (more f w) = omega (arith, written_even w)

-- each line is its record's
pub written_map : {ls : List (List ℕ)} {xs : List Item} → Written ls xs → ls ≡ map line_for xs
unfolding record_line
written_map nothing = refl
written_map (more {k} {a} {d} f w) = ap (λ (m : List (List ℕ)). (record_text k a d ++ (10 ∷ [])) ∷ m) (written_map w)
