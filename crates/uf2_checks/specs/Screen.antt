-- Rows 4 to 11 of 01's checks, in their order, with comments as 02 (L3) has them, and flash and the two windows of RAM (02, L8).
-- Assumes nothing.
use Rattle.std.specs.Prelude.{ℕ, ◌+◌, ◌-◌, ◌*◌, ◌%◌, ◌≡◌, Bool, true, ◌&&◌, ◌||◌, not, cond, List, ltb, leb, eqb, Option, Some, None, Result, Ok, Err}
use Rattle.uf2_block.specs.Block.{field_at, header_of, Header}
use Rattle.uf2_block.specs.declared.Block.{Block}
use Rattle.uf2_block.specs.declared.HeaderError.TheVariants as header
use Rattle.partitions.specs.declared.Settings.{Settings}
use Rattle.placement.specs.Place.{whole_if, place_of, ram_family}
use Rattle.placement.specs.declared.Place.{Place}
use Rattle.transfer.specs.Transfer.{head_with, number_of}
use Rattle.transfer.specs.declared.Head.{Head}
use Rattle.transfer.specs.declared.Kind.{Kind}
use Rattle.transfer.specs.declared.Kind.TheVariants.{Flash, MainRam, XipRam}
use Rattle.transfer.specs.declared.State.{State}
use Rattle.transfer.specs.declared.State.TheVariants.{Idle, Running, Done}
use Rattle.transfer.specs.declared.Answer.{Answer}
use Rattle.transfer.specs.declared.Answer.TheVariants.{NotBlock, Container, NoFamily, NoPlace, BadPayload, BadNumbers, BadAddress}
use Rattle.uf2_checks.specs.declared.Lengths.{Lengths}
use Rattle.uf2_checks.specs.declared.Rooms.{Rooms}
use Rattle.uf2_checks.specs.declared.Body.{Body}
use Rattle.uf2_checks.specs.declared.Body.TheVariants.{Page, Note}
use Rattle.uf2_checks.specs.declared.PlacedBlock.{PlacedBlock}

-- the window that an address lies in, by its kind
abbrev pub Window : Type 0
Window = Option Kind

-- what rows 4 to 11 make of an arrival: a block that passes, or a refusal
abbrev pub Screening : Type 0
Screening = Result PlacedBlock Answer

-- ---- the windows

-- where each begins: 01's address window, "0x20000000 to 0x20082000" and "0x13ffc000 to 0x14000000"
abbrev pub base_of : Kind → ℕ
base_of Flash = 0x10000000
base_of MainRam = 0x20000000
base_of XipRam = 0x13ffc000

-- its bytes: 01's up to 0x12000000, "(532,480 bytes)" and "(16,384)"
abbrev pub extent_of : Kind → ℕ
extent_of Flash = 0x2000000
extent_of MainRam = 532480
extent_of XipRam = 16384

-- a RAM window has "its own lent buffer .. or empty where the board lacks it and the window isn't one"; flash's is always one
abbrev pub is_lent : Lengths → Kind → Bool
is_lent n Flash = true
is_lent n MainRam = not (eqb n.main 0)
is_lent n XipRam = not (eqb n.xip 0)

-- the address lies in the window of the kind
abbrev pub in_window : Lengths → Kind → ℕ → Bool
in_window n k address = is_lent n k && leb (base_of k) address && ltb address (base_of k + extent_of k)

-- the window that holds the address
unfoldable pub window_of : Lengths → ℕ → Window
window_of n address =
    cond (in_window n Flash address) (Some Flash)
    (cond (in_window n MainRam address) (Some MainRam)
    (cond (in_window n XipRam address) (Some XipRam) None))

-- ---- the kind of a block

-- "A comment with the running transfer's family and total takes its kind, unless that kind's buffer is empty"
abbrev pub own_kind : Lengths → Head → ℕ → ℕ → Kind
own_kind n h f total = cond (eqb h.family f && eqb h.total total && is_lent n h.kind) h.kind Flash

-- "any other is flash."
unfoldable pub note_kind : Lengths → State → Block → Kind
note_kind n Idle b = Flash
note_kind n (Running r) b = own_kind n r.head b.family b.total
note_kind n (Done g) b = Flash

-- ---- row 8

-- what the settings say of a family: its place in a flash of len bytes, and whether it may go to RAM
abbrev pub rooms_of : Settings → ℕ → ℕ → Rooms
rooms_of s len f = record { flash = place_of s len f; ram = ram_family s f }

-- the place of a block of each kind; in RAM the whole window, counted from its start
abbrev pub room_in : Rooms → Kind → Option Place
room_in r Flash = r.flash
room_in r MainRam = whole_if r.ram (extent_of MainRam)
room_in r XipRam = whole_if r.ram (extent_of XipRam)

-- ---- rows 10 and 11

-- row 10: "total 0, total x 256 over the place, or number >= total"; "in RAM check 10 uses the window"
abbrev pub bad_numbers : ℕ → Block → Bool
bad_numbers size b = eqb b.total 0 || ltb size (b.total * 256) || leb b.total b.number

-- row 11: "below the window, no multiple of 256, or address - 0x10000000 + 256 over the place"; in RAM it "is only address + 256 past the
-- window's end"
abbrev pub bad_address : Kind → ℕ → Block → Bool
bad_address Flash size b =
    ltb b.address (base_of Flash) || not (eqb (b.address % 256) 0) || ltb size (b.address - base_of Flash + 256)
bad_address MainRam size b = ltb size (b.address - base_of MainRam + 256)
bad_address XipRam size b = ltb size (b.address - base_of XipRam + 256)

-- ---- a block beside its place

-- a block that passes, with its kind and what it holds
abbrev pub placed_at : Kind → Body → Block → PlacedBlock
placed_at k body b = record { head = head_with k b.family b.total; number = b.number; body = body }

-- rows 9 to 11, of a data block in the window of its kind; "Storage address = place start + block address - 0x10000000", and in RAM
-- "counted from the window's start"
unfoldable pub placed : Kind → ℕ → ℕ → Block → Screening
placed k start size b =
    cond (not (eqb b.size 256)) (Err BadPayload)
    (cond (bad_numbers size b) (Err BadNumbers)
    (cond (bad_address k size b) (Err BadAddress)
    (Ok (placed_at k (Page (start + (b.address - base_of k))) b))))

-- rows 9 to 11, of a data block in no window: "11 comes before 10", and its address is bad
unfoldable pub strayed : Block → Screening
strayed b = cond (not (eqb b.size 256)) (Err BadPayload) (Err BadAddress)

-- rows 9 to 11, of a data block by its window
abbrev pub fitted : Window → ℕ → ℕ → Block → Screening
fitted None start size b = strayed b
fitted (Some k) start size b = placed k start size b

-- row 10, of a comment: it "skips 9 and 11" (02, L3), so that its payload size and its address are not read
unfoldable pub noted : Kind → ℕ → Block → Screening
noted k size b = cond (bad_numbers size b) (Err BadNumbers) (Ok (placed_at k Note b))

-- "For an address in no window check 8 is flash's"
abbrev pub window_kind : Window → Kind
window_kind None = Flash
window_kind (Some k) = k

-- rows 8 to 11, of a data block by its window and the place of its kind
unfoldable pub data_found : Window → Option Place → Block → Screening
data_found u None b = Err NoPlace
data_found u (Some p) b = fitted u p.start p.len b

-- rows 8 to 11, of a comment by its kind and the place of that
unfoldable pub note_found : Kind → Option Place → Block → Screening
note_found k None b = Err NoPlace
note_found k (Some p) b = noted k p.len b

-- rows 8 to 11, of a block, with what the settings say of its family: "A comment block now meets checks 7, 8, 10, 12 and 13" (02, L3)
unfoldable pub found : Rooms → Lengths → State → Block → Screening
found r n t b =
    cond b.comment
    (note_found (note_kind n t b) (room_in r (note_kind n t b)) b)
    (data_found (window_of n b.address) (room_in r (window_kind (window_of n b.address))) b)

-- ---- an arrival

-- rows 4 to 7: "Read the header first; if that yields no block, no other field counts"; `next` is what rows 8 to 11 make of a block
abbrev pub after_header : Header → (Block → Screening) → Screening
after_header (Err header.NotBlock) next = Err NotBlock
after_header (Err header.Container) next = Err Container
after_header (Err header.NoFamily) next = Err NoFamily
after_header (Ok b) next = next b

-- x is the answer to a header, whatever comes after it
abbrev pub HeaderAnswer : Header → Answer → Type 0
HeaderAnswer h x = (next : Block → Screening) → Err x ≡ after_header h next

-- rows 4 to 11, for lent buffers of lengths n, a transfer t, and what the settings say of the arrival's family
unfoldable pub screen_in : Rooms → Lengths → State → List ℕ → Screening
screen_in r n t a = after_header (header_of a) (found r n t)

-- rows 4 to 11
unfoldable pub screen_of : Settings → Lengths → State → List ℕ → Screening
screen_of s n t a = screen_in (rooms_of s n.flash (field_at a 28)) n t a

-- ---- where the rooms are handed in, and may be any

-- a place that begins at 2 ^ 44 or above is none: no entry can name it, and below it every storage address fits 64 bits
abbrev pub low_place : Option Place → Option Place
low_place None = None
low_place (Some p) = cond (leb 0x100000000000 p.start) None (Some p)

-- of rooms
abbrev pub low_rooms : Rooms → Rooms
low_rooms r = record { flash = low_place r.flash; ram = r.ram }

-- rows 4 to 11, where r is handed in as what the settings say of the arrival's family
unfoldable pub screen_at : Rooms → Lengths → State → List ℕ → Screening
screen_at r n t a = screen_in (low_rooms r) n t a

-- the number of a refusal; a block that passes is none, and has 0
abbrev pub screening_number : Screening → ℕ
screening_number (Err x) = number_of x
screening_number (Ok p) = 0
