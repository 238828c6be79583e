-- One piece of a file, as the code asks: by the maps of the pieces before it. Assumes nothing.
use Rattle.std.specs.Prelude.{ℕ, ◌+◌, ◌-◌, ◌/◌, ◌%◌, ◌≡◌, Bool, false, cond, not, ◌&&◌, List, eqb, length, set, Ok, Err}
use Rattle.laws.specs.Sets.{Set, any, least}
use Rattle.memory.specs.Bitmap.{marked_in, with_mark, map_of}
use Rattle.memory.specs.Cells.{touches_in, Kept}
use Rattle.partitions.specs.declared.Settings.{Settings}
use Rattle.transfer.specs.Transfer.{same_kind, head_with}
use Rattle.transfer.specs.declared.Head.{Head}
use Rattle.uf2_checks.specs.Screen.{base_of, rooms_of, room_in, Screening}
use Rattle.uf2_checks.specs.declared.Lengths.{Lengths}
use Rattle.uf2_checks.specs.declared.Body.{Body}
use Rattle.uf2_checks.specs.declared.Body.TheVariants.{Page, Note}
use Rattle.uf2_checks.specs.declared.PlacedBlock.{PlacedBlock}
use Rattle.arrival.specs.File.{start_of}
use Rattle.file_check.specs.declared.FileFault.TheVariants.{Refused, OtherFamily, OtherTotal, OtherKind, SameNumber, Overlap}
use Rattle.file_check.specs.Check.{Checked, field_in, is_page, total_in, family_in, kind_in, numbers_below, same_number, overlaps, is_valid}

-- the lent maps: the numbers that came, and where payloads start
pub record Maps : Type 0 where
  pub numbers : List ℕ
  pub cells : List ℕ
  pub offsets : List ℕ

abbrev pub maps : List ℕ → List ℕ → List ℕ → Maps
maps a b c = record { numbers = a; cells = b; offsets = c }

-- what the first piece says
abbrev pub file_head : Lengths → List ℕ → Head
file_head n f = head_with (kind_in n f) (family_in f) (total_in f)

-- a payload has a byte in common with one that the maps hold
abbrev pub touching_in : Body → List ℕ → List ℕ → Bool
touching_in (Page at) c d = touches_in c d at
touching_in Note c d = false

abbrev pub touching : Body → Maps → Bool
touching b m = touching_in b m.cells m.offsets

-- the maps with a block
abbrev pub cells_with : Body → List ℕ → List ℕ
cells_with (Page at) c = with_mark c (at / 256)
cells_with Note c = c

abbrev pub offsets_with : Body → List ℕ → List ℕ
offsets_with (Page at) d = set d (at / 256) (at % 256)
offsets_with Note d = d

abbrev pub entered : Body → ℕ → Maps → Maps
entered b k m = maps (with_mark m.numbers k) (cells_with b m.cells) (offsets_with b m.offsets)

-- what is wrong with a block that passes, by the maps
unfoldable pub beside_by : Head → PlacedBlock → List ℕ → ℕ → Maps → Checked
beside_by h p f i m =
    cond (not (eqb p.head.family h.family)) (Err (OtherFamily i))
    (cond (not (eqb p.head.total h.total)) (Err (OtherTotal i))
    (cond (not (same_kind p.head.kind h.kind)) (Err (OtherKind i))
    (cond (marked_in m.numbers p.number) (Err (SameNumber i (least i (same_number f i))))
    (cond (touching p.body m) (Err (Overlap i (least i (overlaps f i))))
    (Ok tt)))))

-- the maps after it: with the block where nothing is wrong
unfoldable pub maps_by : Head → PlacedBlock → List ℕ → ℕ → Maps → Maps
maps_by h p f i m = cond (is_valid (beside_by h p f i m)) (entered p.body p.number m) m

-- by what it is screened to, and the maps then
abbrev pub screened_by : Head → List ℕ → ℕ → Maps → Screening → Checked
screened_by h f i m (Err x) = Err (Refused i x)
screened_by h f i m (Ok p) = beside_by h p f i m

abbrev pub maps_then : Head → List ℕ → ℕ → Maps → Screening → Maps
maps_then h f i m (Err x) = m
maps_then h f i m (Ok p) = maps_by h p f i m

-- ---- what the maps hold after the pieces below i

-- where piece j is stored
abbrev pub start_in : Settings → Lengths → List ℕ → ℕ → ℕ
start_in s n f j = start_of (room_in (rooms_of s n.flash (family_in f)) (kind_in n f)) + (field_in f j 12 - base_of (kind_in n f))

-- where their payloads start
abbrev pub starts_below : Settings → Lengths → List ℕ → ℕ → Set
starts_below s n f i x = any i (λ j. is_page f j && eqb (start_in s n f j) x)

pub record Holds (s : Settings) (n : Lengths) (f : List ℕ) (i : ℕ) (m : Maps) : Type 0 where
  pub numbers : m.numbers ≡ map_of 16384 (numbers_below f i)
  pub kept : Kept (starts_below s n f i) m.cells m.offsets
  pub cells_length : length m.cells ≡ 16384
  pub offsets_length : length m.offsets ≡ 2080
