use mathlib.Core.Path.{◌≡◌, refl, sym}
use mathlib.Core.Bool.{Bool, true, false}
use mathlib.Core.List.{List, [], ◌∷◌}
use Prim.Native.Nat.{ℕ}
use lib.ListN.{get_or}
use mir.Syntax.{w16, w32}
use Rattle.std.specs.Int.{to_le_bytes, from_bool}
use Rattle.laws.proofs.BytesLaws.{low_two, low_four}
use Rattle.uf2_block.specs.Write.{le32}
use Rattle.uhex_effects.specs.declared.Reader.{Reader}
use Rattle.uhex_layout.specs.declared.StateCode.{StateCode}
use Rattle.uhex_layout.specs.Readers.{le16, state_code_of, flag_of, state_code_bytes, reader_bytes}
use Rattle.uhex_layout.proofs.reader_bytes.Goals as goal

two : (x : ℕ) → to_le_bytes w16 x ≡ le16 x
two x = sym (low_two x)

four : (x : ℕ) → to_le_bytes w32 x ≡ le32 x
four x = sym (low_four x)

flag : (b : Bool) → from_bool b ≡ flag_of b
flag true = refl
flag false = refl

-- the bytes, by the parts that the code makes
parts : (r : Reader) {own upper offset half : List ℕ} {code : StateCode} {a b c d : ℕ} → own ≡ to_le_bytes w16 r.own → upper ≡ to_le_bytes w16 r.upper
    → offset ≡ to_le_bytes w32 r.offset → code ≡ state_code_of r.state → half ≡ to_le_bytes w16 code.half
    → a ≡ from_bool r.sections_seen.v1 → b ≡ from_bool r.sections_seen.v2 → c ≡ from_bool r.data_seen.v1 → d ≡ from_bool r.data_seen.v2
    → get_or own 0 0 ∷ get_or own 1 0 ∷ get_or upper 0 0 ∷ get_or upper 1 0 ∷ get_or offset 0 0 ∷ get_or offset 1 0 ∷ get_or offset 2 0 ∷ get_or offset 3 0
    ∷ code.kind ∷ code.failure ∷ get_or half 0 0 ∷ get_or half 1 0 ∷ a ∷ b ∷ c ∷ d ∷ [] ≡ reader_bytes r
unfolding reader_bytes state_code_bytes
parts r e f g k h i j l m = rw (e, f, g, h, k, i, j, l, m, low_two r.own, low_two r.upper, low_four r.offset, low_two (state_code_of r.state).half, flag r.sections_seen.v1, flag r.sections_seen.v2, flag r.data_seen.v1, flag r.data_seen.v2)

pub returns : goal.returns
returns c =
    parts c.args.reader c.to_le_bytes-own.ensures c.to_le_bytes-upper.ensures c.to_le_bytes-offset.ensures c.state_code-code.ensures c.to_le_bytes-half.ensures c.from.ensures c.from-2.ensures c.from-3.ensures c.from-4.ensures
