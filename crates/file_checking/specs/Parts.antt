-- The check of a file, cut as the code does it. Assumes nothing.
use Rattle.std.specs.Prelude.{ℕ, ◌≤◌, ◌≡◌, Bool, true, cond, List, length, Option, Ok, Err}
use Rattle.laws.specs.Sets.{any, least}
use Rattle.memory.specs.Bitmap.{unmarked, map_of}
use Rattle.partitions.specs.Settings.{good_settings}
use Rattle.partitions.specs.declared.Settings.{Settings}
use Rattle.placement.specs.Place.{StartsLow}
use Rattle.placement.specs.declared.Place.{Place}
use Rattle.transfer.specs.Transfer.{same_kind}
use Rattle.transfer.specs.declared.Kind.{Kind}
use Rattle.transfer.specs.declared.Kind.TheVariants.{Flash}
use Rattle.uf2_known.specs.Judged.{rooms_at}
use Rattle.uf2_known.specs.declared.judged.FamilyRooms.{FamilyRooms}
use Rattle.uf2_checks.specs.Screen.{window_of, window_kind}
use Rattle.uf2_checks.specs.declared.Lengths.{Lengths}
use Rattle.arrival.specs.Arrive.{right_lengths}
use Rattle.file_check.specs.declared.FileFault.TheVariants.{Guarded}
use Rattle.file_check.specs.Check.{Checked, pieces_in, total_in, numbers_below, fault_at, is_faulty}
use Rattle.file_checking.specs.Pieces.Parts.{Maps, Holds}
use Rattle.file_checking.specs.Regions.Guarding.{guards_at}

-- what is wrong with the first piece with which something is
unfoldable pub first_of : Settings → Lengths → List ℕ → Checked
first_of s n f = cond (any (pieces_in f) (is_faulty s n f)) (fault_at s n f (least (pieces_in f) (is_faulty s n f))) (Ok tt)

-- a board that rows 1 and 2 let through, and cleared maps
pub record Opened (s : Settings) (n : Lengths) (f : List ℕ) (m : Maps) : Type 0 where
  pub right : right_lengths 512 n 16384 1024 ≡ true
  pub good : good_settings s n.flash ≡ true
  pub held : Holds s n f 0 m

-- what is kept of a family is what the settings say of it with a flash of len bytes
pub record Knows (s : Settings) (len : ℕ) (b : FamilyRooms) : Type 0 where
  pub said : b ≡ rooms_at s len b.family
  pub low : StartsLow b.rooms.flash

-- the kind of data at an address, and of a comment
abbrev pub kind_if : Bool → Lengths → ℕ → Kind
kind_if p n x = cond p (window_kind (window_of n x)) Flash

-- of a file of kind k whose family has place p: the first piece that names a region that counts
unfoldable pub guarded_by : Option Place → Kind → List ℕ → Checked
guarded_by p k f =
    cond (same_kind k Flash)
    (cond (any (pieces_in f) (guards_at p f)) (Err (Guarded (least (pieces_in f) (guards_at p f)))) (Ok tt))
    (Ok tt)

-- after every piece, each of which was sound: the map of the numbers is theirs, and the total is one that the map has room for
pub record Counted (f m : List ℕ) : Type 0 where
  pub few : total_in f ≤ 131072
  pub numbers : m ≡ map_of 16384 (numbers_below f (pieces_in f))

-- maps without a mark, of whatever lengths
pub record Cleared (m : Maps) : Type 0 where
  pub numbers : m.numbers ≡ unmarked (length m.numbers)
  pub cells : m.cells ≡ unmarked (length m.cells)
  pub offsets : m.offsets ≡ unmarked (length m.offsets)
