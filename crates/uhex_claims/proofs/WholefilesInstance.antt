-- The file of specs/Instance.antt is one. Assumes nothing.
use Prim.Native.Nat.{ℕ, ◌+◌, ◌*◌, ◌≤◌}
use mathlib.Core.Path.{◌≡◌, refl, subst}
use mathlib.Core.Bool.{Bool, true, false}
use mathlib.Core.List.{List, [], ◌∷◌, map}
use native.Mathlib.Omega.{arith}
use Rattle.laws.proofs.Tests.{clash}
use Rattle.laws.specs.Over.{over}
use Rattle.laws.specs.Tab.{from, tab}
use Rattle.ihex_record.specs.Record.{text_len, text_of, digit_of, data32, total, line_of_bytes, line_of_text, read_of, ParseResult, on_record, all_by, bytes_by}
use Rattle.ihex_record.specs.Write.{bytes_text, record_text}
use Rattle.std.specs.Prelude.{Ok, Err}
use Rattle.uhex_claims.specs.Items.{Item, item_of, Says, none, line, size_of, item, line_for}
use Rattle.uhex_claims.specs.Whole.{data_type_of, tail_ends, tail_0_c, body_ends, body_data, body_0_e, body_0_c, Body, IsSection, Sections, no_section, section, all_items, how_many, any_data, any_gives, File}
use Rattle.uhex_claims.specs.State.{place_after, gives_for, names_for, answer_for, answers_for, image_with, image_for}
use Rattle.uhex_claims.specs.WholefilesInstance.{padding, section_of, body_v1, body_other, body_v2, sections, items, ItemsAreFile, ItemsRead}

-- what lines say, where each says a record
unfoldable items_of : List (List ℕ) → List Item
items_of [] = []
items_of (l ∷ ls) = on_record [] (λ rec. item_of l rec ∷ items_of ls) (read_of l).parsed

unfoldable all_good : List (List ℕ) → Bool
all_good [] = true
all_good (l ∷ ls) = on_record false (λ rec. all_good ls) (read_of l).parsed

said : (ls : List (List ℕ)) → all_good ls ≡ true → Says ls (items_of ls)
unfolding all_good items_of
said [] g = none
said (l ∷ ls) g = first (read_of l).parsed refl g (said ls)
  where
    first : (p : ParseResult) → (read_of l).parsed ≡ p → on_record false (λ rec. all_good ls) p ≡ true → (all_good ls ≡ true → Says ls (items_of ls))
        → Says (l ∷ ls) (on_record [] (λ rec. item_of l rec ∷ items_of ls) p)
    first (Ok rec) e g s = line rec e (s g)
    first (Err x) e g s = clash false g refl

says_items : Says (map line_for items) items
unfolding items all_items all_good items_of from tab text_len text_of all_by bytes_by data32 total line_of_bytes line_of_text read_of digit_of bytes_text record_text
says_items = subst (λ (xs : List Item). Says (map line_for items) xs) same (said (map line_for items) refl)
  where
    same : items_of (map line_for items) ≡ items
    same = refl

padded_body : (b n : ℕ) → Body b (padding n)
padded_body b n = body_0_c refl (tail_0_c refl (tail_0_c refl (tail_0_c refl (tail_0_c refl (tail_0_c refl tail_ends)))))

a_section : (nn : ℕ) (xs : List Item) → Body (256 * 0x99 + nn) xs → IsSection (section_of nn xs)
a_section nn xs b = record { opens = refl; upper = refl; names = refl; board = omega arith; body = b; closes = refl }

-- two data bytes before some records
two_bytes : (b kind address v w : ℕ) (xs : List Item) → kind ≡ data_type_of b → address + 2 ≤ 65536 → Body b xs
    → Body b (item kind address (v ∷ w ∷ []) ∷ xs)
two_bytes b kind address v w xs k m t = body_data k m t

body_v1_lem : Body 0x9900 body_v1
unfolding data_type_of
body_v1_lem = two_bytes 0x9900 0x00 2 0xAA 0xBB _ refl (omega arith) (body_0_e refl (padded_body 0x9900 21))

body_other_lem : Body 0x9904 body_other
unfolding data_type_of
body_other_lem = two_bytes 0x9904 0x0D 4 0xCC 0xDD _ refl (omega arith) (padded_body 0x9904 28)

body_v2_lem : Body 0x9903 body_v2
unfolding data_type_of
body_v2_lem = two_bytes 0x9903 0x0D 1 0x11 0x22 _ refl (omega arith) (padded_body 0x9903 28)

in_order_lem : Sections 0 sections
unfolding size_of
in_order_lem =
    section refl (a_section 0x00 body_v1 body_v1_lem)
    (section refl (a_section 0x04 body_other body_other_lem)
    (section refl (a_section 0x03 body_v2 body_v2_lem) (section refl (a_section _ [] body_ends) no_section)))

is_file : File items
unfolding items all_items size_of how_many any_data any_gives data_type_of
is_file =
    record {
      sections = sections;
      ending = item 0x01 0 [];
      whole = refl;
      ordered = in_order_lem;
      ends = refl;
      empty = refl;
      once_v1 = omega arith;
      once_v2 = omega arith;
      data_v1 = refl;
      data_v2 = refl;
      short = omega arith;
    }

pub items_are_file : ItemsAreFile
unfolding ItemsAreFile
items_are_file = (says_items, is_file)

pub items_read : ItemsRead
unfolding ItemsRead all_items data_type_of place_after gives_for names_for answer_for answers_for image_with image_for over
items_read = (record { answers = refl; left = refl }, record { answers = refl; left = refl })
