-- The rows as they stood before RAM windows (02, L8), and what of them changed for a board without RAM: one answer. Proved in proofs/Before.antt.
-- Assumes nothing.
use Rattle.std.specs.Prelude.{ℕ, ◌+◌, ◌-◌, ◌*◌, ◌%◌, ◌≡◌, Bool, ◌&&◌, ◌||◌, not, cond, List, ltb, leb, eqb, length, Option, Some, None, Ok, Err}
use Rattle.memory.specs.Flash.{flash_length, payload_of}
use Rattle.uf2_block.specs.Block.{field_at, has_flag, header_of}
use Rattle.uf2_block.specs.declared.Block.{Block}
use Rattle.partitions.specs.Settings.{good_settings}
use Rattle.partitions.specs.declared.Settings.{Settings}
use Rattle.placement.specs.Place.{place_of}
use Rattle.placement.specs.declared.Place.{Place}
use Rattle.transfer.specs.Transfer.{head_with, good_state}
use Rattle.transfer.specs.declared.Kind.TheVariants.{Flash}
use Rattle.transfer.specs.declared.State.{State}
use Rattle.transfer.specs.declared.State.TheVariants.{Idle, Running, Done}
use Rattle.transfer.specs.declared.Answer.TheVariants.{BadBuffers, BadSettings, BadState, NoPlace, BadPayload, BadNumbers, BadAddress}
use Rattle.uf2_checks.specs.Screen.{after_header, Screening}
use Rattle.uf2_checks.specs.declared.Body.{Body}
use Rattle.uf2_checks.specs.declared.Body.TheVariants.{Page, Note}
use Rattle.arrival.specs.Arrive.{World, Outcome, outcome_number, Decision, stays, standing, after_screening, unchanged, done, receive_of}
use Rattle.arrival.specs.Windows.{lies}

-- row 10: "total 0, total x 256 over the place, or number >= total"
abbrev pub numbers_before : ℕ → Block → Bool
numbers_before size b = eqb b.total 0 || ltb size (b.total * 256) || leb b.total b.number

-- row 11: "below the window, no multiple of 256, or address - 0x10000000 + 256 over the place"
abbrev pub address_before : ℕ → Block → Bool
address_before size b = ltb b.address 0x10000000 || not (eqb (b.address % 256) 0) || ltb size (b.address - 0x10000000 + 256)

-- a block that passes; every transfer is flash's
abbrev pub passed_before : Body → Block → Screening
passed_before body b = Ok (record { head = head_with Flash b.family b.total; number = b.number; body = body })

-- rows 9 to 11 of data, and 10 of a comment
unfoldable pub placed_before : ℕ → ℕ → Block → Screening
placed_before start size b =
    cond (not (eqb b.size 256)) (Err BadPayload)
    (cond (numbers_before size b) (Err BadNumbers)
    (cond (address_before size b) (Err BadAddress)
    (passed_before (Page (start + (b.address - 0x10000000))) b)))

unfoldable pub noted_before : ℕ → Block → Screening
noted_before size b = cond (numbers_before size b) (Err BadNumbers) (passed_before Note b)

-- rows 8 to 11
unfoldable pub found_before : Option Place → Block → Screening
found_before None b = Err NoPlace
found_before (Some p) b = cond b.comment (noted_before p.len b) (placed_before p.start p.len b)

-- rows 4 to 11
unfoldable pub screen_before : Settings → ℕ → List ℕ → Screening
screen_before s len a = after_header (header_of a) (found_before (place_of s len (field_at a 28)))

-- every row; what stands in the flash is kept as it is now (02, L9)
unfoldable pub decide_before : Settings → ℕ → ℕ → State → List ℕ → Bool → List ℕ → Decision
decide_before s f k t seen kept a =
    cond (not (eqb (length a) 512 && flash_length f && eqb (length seen) 16384 && eqb k 1024)) (stays BadBuffers)
    (cond (not (good_settings s f)) (stays BadSettings)
    (cond (not (good_state t)) (stays BadState)
    (after_screening t seen kept (screen_before s f a))))

-- one arrival
unfoldable pub receive_before : Settings → World → List ℕ → Outcome
receive_before s w a =
    done w (payload_of a)
    (decide_before s (length w.held.flash) (length w.held.sectors) w.transfer w.seen (standing s w.held.flash a) a)

-- ---- the claims

-- a running transfer is flash's, as every one is that a board without RAM was handed back
abbrev pub InFlash : State → Type 0
InFlash Idle = Unit {0}
InFlash (Running r) = r.head.kind ≡ Flash
InFlash (Done g) = Unit {0}

-- a data block with an address in no window, answered 10 before
abbrev pub strays : Settings → World → List ℕ → Bool
strays s w a = not (has_flag a 0x1) && not (lies Flash (field_at a 12)) && eqb (outcome_number (receive_before s w a)) 10

-- "For an address in no window .. 11 comes before 10": such a block is now answered 11. Else a board without RAM notices nothing.
unfoldable pub WithoutRam : Type 0
WithoutRam =
    (s : Settings) (w : World) (a : List ℕ) → length w.held.main ≡ 0 → length w.held.xip ≡ 0 → InFlash w.transfer
    → receive_of s w a ≡ cond (strays s w a) (unchanged w BadAddress) (receive_before s w a)

-- and so of each arrival of a list
unfoldable pub StaysInFlash : Type 0
StaysInFlash =
    (s : Settings) (w : World) (a : List ℕ) → length w.held.main ≡ 0 → length w.held.xip ≡ 0 → InFlash w.transfer
    → InFlash (receive_of s w a).world.transfer
