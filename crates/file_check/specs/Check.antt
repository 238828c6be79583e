-- A file checked before it is sent: the first thing that keeps its pieces from being the blocks of a valid file (demand 3). Assumes nothing.
use Rattle.std.specs.Prelude.{ℕ, ◌+◌, ◌*◌, ◌/◌, ◌%◌, Bool, true, false, cond, not, ◌&&◌, List, eqb, ltb, length, take, drop, Option, Some, None, Ok, Err, Result, ⊤}
use Rattle.laws.specs.Sets.{Set, any, least}
use Rattle.uf2_block.specs.Block.{field_at, has_flag}
use Rattle.uf2_block.specs.Region.{region_of}
use Rattle.uf2_block.specs.Regions.{good_region}
use Rattle.partitions.specs.Settings.{good_settings}
use Rattle.partitions.specs.declared.Settings.{Settings}
use Rattle.placement.specs.Place.{place_of}
use Rattle.placement.specs.declared.Place.{Place}
use Rattle.transfer.specs.Transfer.{number_of, same_kind}
use Rattle.transfer.specs.declared.Kind.{Kind}
use Rattle.transfer.specs.declared.Kind.TheVariants.{Flash}
use Rattle.transfer.specs.declared.State.TheVariants.{Idle}
use Rattle.uf2_checks.specs.Screen.{window_of, window_kind, screen_of, Screening}
use Rattle.uf2_checks.specs.declared.Lengths.{Lengths}
use Rattle.arrival.specs.Arrive.{right_lengths}
use Rattle.file_check.specs.declared.FileFault.{FileFault}
use Rattle.file_check.specs.declared.FileFault.TheVariants.{BadBuffers, BadSettings, Ragged, Empty, Refused, OtherFamily, OtherTotal, OtherKind, SameNumber, Overlap, Missing, Guarded}

-- what a file comes to: nothing is wrong, or the first thing that is
abbrev pub Checked : Type 0
Checked = Result ⊤ FileFault

-- ---- the pieces of a file

-- piece i: 512 bytes
unfoldable pub piece_at : List ℕ → ℕ → List ℕ
piece_at f i = take 512 (drop (i * 512) f)

-- how many whole ones there are
abbrev pub pieces_in : List ℕ → ℕ
pieces_in f = length f / 512

-- field `at` of piece i
abbrev pub field_in : List ℕ → ℕ → ℕ → ℕ
field_in f i at = field_at (piece_at f i) at

-- piece i is data
abbrev pub is_page : List ℕ → ℕ → Bool
is_page f i = not (has_flag (piece_at f i) 0x1)

-- the kind that an arrival has where no transfer runs: a comment's is flash
abbrev pub kind_alone : Lengths → List ℕ → Kind
kind_alone n a = cond (has_flag a 0x1) Flash (window_kind (window_of n (field_at a 12)))

-- the first piece says what the file is
abbrev pub total_in : List ℕ → ℕ
total_in f = field_in f 0 24

abbrev pub family_in : List ℕ → ℕ
family_in f = field_in f 0 28

abbrev pub kind_in : Lengths → List ℕ → Kind
kind_in n f = kind_alone n (piece_at f 0)

-- the numbers of the pieces below i
abbrev pub numbers_below : List ℕ → ℕ → Set
numbers_below f i k = any i (λ j. eqb (field_in f j 20) k)

-- ---- two pieces

-- piece j has the number of piece i
abbrev pub same_number : List ℕ → ℕ → Set
same_number f i j = eqb (field_in f j 20) (field_in f i 20)

-- two ranges of 256 bytes have one in common
abbrev pub near : ℕ → ℕ → Bool
near a b = ltb a (b + 256) && ltb b (a + 256)

-- both are data, and piece j has a byte address of piece i
abbrev pub overlaps : List ℕ → ℕ → Set
overlaps f i j = is_page f i && is_page f j && near (field_in f j 12) (field_in f i 12)

-- ---- one piece, after those before it

-- what is wrong with a piece that passes rows 4 to 11: beside the first piece, then beside the pieces before it; `Ok` is nothing
unfoldable pub beside_of : Lengths → List ℕ → ℕ → Checked
beside_of n f i =
    cond (not (eqb (field_in f i 28) (family_in f))) (Err (OtherFamily i))
    (cond (not (eqb (field_in f i 24) (total_in f))) (Err (OtherTotal i))
    (cond (not (same_kind (kind_alone n (piece_at f i)) (kind_in n f))) (Err (OtherKind i))
    (cond (any i (same_number f i)) (Err (SameNumber i (least i (same_number f i))))
    (cond (any i (overlaps f i)) (Err (Overlap i (least i (overlaps f i))))
    (Ok tt)))))

-- by what it is screened to
abbrev pub screened_to : Lengths → List ℕ → ℕ → Screening → Checked
screened_to n f i (Err x) = Err (Refused i x)
screened_to n f i (Ok p) = beside_of n f i

-- what is wrong with piece i
unfoldable pub fault_at : Settings → Lengths → List ℕ → ℕ → Checked
fault_at s n f i = screened_to n f i (screen_of s n Idle (piece_at f i))

abbrev pub is_valid : Checked → Bool
is_valid (Ok u) = true
is_valid (Err x) = false

-- the pieces are those of a valid file, with regions or without
abbrev pub is_sound : Checked → Bool
is_sound (Ok u) = true
is_sound (Err (Guarded i)) = true
is_sound (Err BadBuffers) = false
is_sound (Err BadSettings) = false
is_sound (Err Ragged) = false
is_sound (Err Empty) = false
is_sound (Err (Refused i x)) = false
is_sound (Err (OtherFamily i)) = false
is_sound (Err (OtherTotal i)) = false
is_sound (Err (OtherKind i)) = false
is_sound (Err (SameNumber i j)) = false
is_sound (Err (Overlap i j)) = false
is_sound (Err (Missing k)) = false

-- something is wrong with it
abbrev pub is_faulty : Settings → Lengths → List ℕ → Set
is_faulty s n f i = not (is_valid (fault_at s n f i))

-- ---- all of them

-- no piece has the number k
abbrev pub is_missing : List ℕ → Set
is_missing f k = not (numbers_below f (pieces_in f) k)

-- the region that an arrival names counts in a place (02, L9)
abbrev pub guards_in : Option Place → List ℕ → Bool
guards_in None a = false
guards_in (Some p) a = good_region p.len (field_at a 12) (region_of a)

-- piece i names a region that counts
abbrev pub is_guarding : Settings → Lengths → List ℕ → Set
is_guarding s n f i =
    same_kind (kind_in n f) Flash
    && is_page f i
    && has_flag (piece_at f i) 0x4000
    && guards_in (place_of s n.flash (family_in f)) (piece_at f i)

-- every piece is sound: whether every number is there, and whether a region is named
unfoldable pub whole_of : Settings → Lengths → List ℕ → Checked
whole_of s n f =
    cond (not (eqb (pieces_in f) (total_in f))) (Err (Missing (least (total_in f) (is_missing f))))
    (cond (any (pieces_in f) (is_guarding s n f)) (Err (Guarded (least (pieces_in f) (is_guarding s n f))))
    (Ok tt))

-- the first piece with which something is wrong decides
unfoldable pub pieces_of : Settings → Lengths → List ℕ → Checked
pieces_of s n f =
    cond (any (pieces_in f) (is_faulty s n f))
    (fault_at s n f (least (pieces_in f) (is_faulty s n f)))
    (whole_of s n f)

-- the lengths of a board's buffers are right, and those of the lent maps: of numbers, of cells and of offsets
unfoldable pub right_maps : Lengths → ℕ → ℕ → ℕ → Bool
right_maps n a b c = right_lengths 512 n a 1024 && eqb b 16384 && eqb c 2080

-- a file f for a board with buffers of lengths n, with maps of a, b and c bytes lent
unfoldable pub check_of : Settings → Lengths → ℕ → ℕ → ℕ → List ℕ → Checked
check_of s n a b c f =
    cond (not (right_maps n a b c)) (Err BadBuffers)
    (cond (not (good_settings s n.flash)) (Err BadSettings)
    (cond (not (eqb (length f % 512) 0)) (Err Ragged)
    (cond (eqb (length f) 0) (Err Empty)
    (pieces_of s n f))))

-- the numbers: 01's answers where there is one, and 80 to 88; a valid file has 0
abbrev pub fault_number : FileFault → ℕ
fault_number BadBuffers = 1
fault_number BadSettings = 2
fault_number Ragged = 80
fault_number Empty = 81
fault_number (Refused i x) = number_of x
fault_number (OtherFamily i) = 82
fault_number (OtherTotal i) = 83
fault_number (OtherKind i) = 84
fault_number (SameNumber i j) = 85
fault_number (Overlap i j) = 86
fault_number (Missing k) = 87
fault_number (Guarded i) = 88

abbrev pub checked_number : Checked → ℕ
checked_number (Ok u) = 0
checked_number (Err x) = fault_number x
