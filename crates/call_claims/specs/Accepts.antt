-- Calls of `uf2_accept`, whose flash a driver writes by the 12 bytes of the plan: what they leave is what calls of `uf2_take` leave. Proved in
-- proofs/Accepts.antt. Assumes nothing.
use Rattle.std.specs.Prelude.{ℕ, ◌≡◌, cond, List, [], ◌∷◌, eqb, length, take, drop}
use Rattle.laws.specs.Over.{over}
use Rattle.memory.specs.Many.{many}
use Rattle.uf2_block.specs.Block.{field_at}
use Rattle.arrival.specs.Arrive.{Lent}
use Rattle.demand.specs.Demand.{File, ValidFile, Sent, seen_of, how_many, Ends, Plain}
use Rattle.demand.specs.Cut.{Cut}
use Rattle.settings_layout.specs.Layout.{settings_from}
use Rattle.call_bytes.specs.Calls.{ArrivalCall, arrival_call, PlannedCall, accept_bytes}
use Rattle.call_claims.specs.CallLists.{CallerState, call, left_by, call_all, returns_of, world_of, AllBytes, EveryCalls}

-- ---- the driver, who has the plan's bytes, the arrival and the flash

-- what it reads of the bytes: three numbers of 32 bits, the lowest byte first
abbrev pub deed_in : List ℕ → ℕ
deed_in p = field_at p 0

abbrev pub sector_in : List ℕ → ℕ
sector_in p = field_at p 4

abbrev pub page_in : List ℕ → ℕ
page_in p = field_at p 8

-- a page programmed: the 256 bytes of the arrival from its byte 32 on, at this address
abbrev pub programs : ℕ → List ℕ → List ℕ → List ℕ
programs page a f = over f page (take 256 (drop 32 a))

-- a sector erased: the 4,096 bytes from its start on become 0xFF
abbrev pub fills : ℕ → List ℕ → List ℕ
fills sector f = over f sector (many 4096 255)

-- by the deed's number: 1 programs, 2 erases and then programs, and 0 does nothing. Nothing is asked of sector and page: those of a call lie in
-- the flash
abbrev pub drives : ℕ → ℕ → ℕ → List ℕ → List ℕ → List ℕ
drives deed sector page a f = cond (eqb deed 1) (programs page a f) (cond (eqb deed 2) (programs page a (fills sector f)) f)

-- the flash that the driver leaves
abbrev pub driven_by : List ℕ → List ℕ → List ℕ → List ℕ
driven_by p a f = drives (deed_in p) (sector_in p) (page_in p) a f

-- ---- one call

-- the call for an arrival, with bytes of settings and the bytes lent for the plan
abbrev pub accept : List ℕ → CallerState → List ℕ → List ℕ → PlannedCall
accept s h p a = accept_bytes s h.transfer a h.lent p

-- the same buffers, with this flash
abbrev pub with_flash : List ℕ → Lent → Lent
with_flash f h = record { flash = f; seen = h.seen; sectors = h.sectors; main = h.main; xip = h.xip }

-- what was returned, and what the buffers hold once the driver has carried the plan out
abbrev pub carried_out : List ℕ → PlannedCall → ArrivalCall
carried_out a r =
    let k = r.arrival in
    arrival_call k.result k.transfer (with_flash (driven_by r.plan a k.lent.flash) k.lent)

-- whatever the settings, the transfer, the buffers and the arrival: the call leaves the flash as it was lent, and with its plan carried out it
-- returns and leaves what the take does, byte for byte
unfoldable pub AcceptIsTake : Type 0
AcceptIsTake =
    (s : List ℕ) (h : CallerState) (p a : List ℕ) → length p ≡ 12
    → ((accept s h p a).arrival.lent.flash ≡ h.lent.flash) × (carried_out a (accept s h p a) ≡ call s h a)

-- ---- one call after the other

-- what a call for each arrival leaves, where each plan is carried out before the next call, which is handed what then stands; the plans are written
-- to the same bytes
unfoldable pub accept_all : List ℕ → CallerState → List ℕ → List (List ℕ) → CallerState
accept_all s h p [] = h
accept_all s h p (a ∷ l) = accept_all s (left_by (carried_out a (accept s h p a))) (accept s h p a).plan l

-- what each of them returns
unfoldable pub accept_returns : List ℕ → CallerState → List ℕ → List (List ℕ) → List ℕ
accept_returns s h p [] = []
accept_returns s h p (a ∷ l) = (accept s h p a).arrival.result ∷ accept_returns s (left_by (carried_out a (accept s h p a))) (accept s h p a).plan l

-- accepted and carried out, one after the other, is what takes leave, with the same results: so what is claimed of calls of `uf2_take` holds of them
unfoldable pub AcceptsAreTakes : Type 0
AcceptsAreTakes =
    (s : List ℕ) (h : CallerState) (p : List ℕ) (l : List (List ℕ)) → length p ≡ 12
    → (accept_all s h p l ≡ call_all s h l) × (accept_returns s h p l ≡ returns_of s h l)

-- as demand 3, without regions: "what was lent at the start and the set of file blocks seen decide flash, maps and transfer"
unfoldable pub AcceptsEnd : Type 0
AcceptsEnd =
    EveryCalls
    (λ s h F l.
    Plain (settings_from s) (world_of h) F → (p : List ℕ) → length p ≡ 12
    → Ends (settings_from s) (world_of h) F (seen_of F l) (world_of (accept_all s h p l)))

-- power lost in any call or plan, then the file again, whole, each plan carried out: byte for byte as if power had never been lost
unfoldable pub AcceptsCut : Type 0
AcceptsCut =
    (s : List ℕ) (h k : CallerState) (F : File) → Cut (settings_from s) F (world_of h) (world_of k) → ValidFile (settings_from s) (world_of k) F
    → Plain (settings_from s) (world_of k) F → (l : List (List ℕ)) → Sent (settings_from s) (world_of k) F l → AllBytes l
    → how_many F (seen_of F l) ≡ F.total → (p : List ℕ) → length p ≡ 12 → accept_all s h p l ≡ accept_all s k p l
