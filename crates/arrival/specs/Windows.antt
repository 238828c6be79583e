-- Windows and kinds (02, L8), as the claims have them: by what arrived, the transfer and which buffers are lent. Assumes nothing.
use Rattle.std.specs.Prelude.{ℕ, Bool, ◌&&◌, not, cond, List, eqb, ltb, leb, length}
use Rattle.uf2_block.specs.Block.{field_at, has_flag}
use Rattle.transfer.specs.Transfer.{head_with}
use Rattle.transfer.specs.declared.Kind.{Kind}
use Rattle.transfer.specs.declared.Kind.TheVariants.{Flash, MainRam, XipRam}
use Rattle.transfer.specs.declared.Head.{Head}
use Rattle.transfer.specs.declared.State.{State}
use Rattle.transfer.specs.declared.State.TheVariants.{Idle, Running, Done}
use Rattle.arrival.specs.Arrive.{World, buffer_of}

-- "0x10000000 up to, not including, 0x12000000", "0x20000000 to 0x20082000", "0x13ffc000 to 0x14000000"
abbrev pub window_start : Kind → ℕ
window_start Flash = 0x10000000
window_start MainRam = 0x20000000
window_start XipRam = 0x13ffc000

abbrev pub window_end : Kind → ℕ
window_end Flash = 0x12000000
window_end MainRam = 0x20082000
window_end XipRam = 0x14000000

-- the byte address lies between a window's start and end
abbrev pub lies : Kind → ℕ → Bool
lies k address = leb (window_start k) address && ltb address (window_end k)

-- the buffer of the kind is not empty
abbrev pub has_buffer : World → Kind → Bool
has_buffer w k = not (eqb (length (buffer_of k w.held)) 0)

-- the kind of a data block, by its address: RAM where the board has it, else flash
abbrev pub data_kind : World → ℕ → Kind
data_kind w address =
    cond (has_buffer w MainRam && lies MainRam address) MainRam
    (cond (has_buffer w XipRam && lies XipRam address) XipRam Flash)

-- "A comment with the running transfer's family and total takes its kind, unless that kind's buffer is empty; any other is flash."
abbrev pub comment_kind : World → State → List ℕ → Kind
comment_kind w Idle a = Flash
comment_kind w (Running r) a =
    cond (eqb r.head.family (field_at a 28) && eqb r.head.total (field_at a 24) && has_buffer w r.head.kind) r.head.kind Flash
comment_kind w (Done g) a = Flash

-- the kind of an arrival where it comes
unfoldable pub kind_of : World → List ℕ → Kind
kind_of w a = cond (has_flag a 0x1) (comment_kind w w.transfer a) (data_kind w (field_at a 12))

-- its kind, "28 family" and "24 total"
abbrev pub head_of : World → List ℕ → Head
head_of w a = head_with (kind_of w a) (field_at a 28) (field_at a 24)
