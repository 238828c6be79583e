-- What is told of a valid file's blocks, by bytes and fields, whatever happened to the memory before. Proved in proofs/Verify.antt. Assumes nothing.
use Rattle.std.specs.Prelude.{ℕ, ◌+◌, ◌-◌, ◌≤◌, ◌<◌, ◌≡◌, ◌≢◌, ◌⊎◌, true, List, length, get_or}
use Rattle.uf2_block.specs.Block.{field_at}
use Rattle.partitions.specs.declared.Settings.{Settings}
use Rattle.transfer.specs.declared.State.TheVariants.{Idle}
use Rattle.arrival.specs.Arrive.{Held, World, buffer_of, lengths_of, forecast_number, look_of}
use Rattle.arrival.specs.Lists.{receive_all}
use Rattle.arrival.specs.Windows.{window_start}
use Rattle.uf2_verify.specs.Stands.{stand_number, stand_of}
use Rattle.demand.specs.Demand.{File, is_data, origin_of, ValidFile, seen_of, Plain, EveryList}

-- what is told of an arrival, with the memory h
abbrev pub told_of : Settings → Held → List ℕ → ℕ
told_of s h a = stand_number (stand_of s h a)

-- byte i of block k's payload: the payload is its bytes 32 to 287
abbrev pub payload_byte : File → ℕ → ℕ → ℕ
payload_byte F k i = get_or (F.block k) (32 + i) 0

-- the byte of the memory where it belongs: field 12 of the block is its address, counted from the window's start
abbrev pub memory_byte : Settings → World → Held → File → ℕ → ℕ → ℕ
memory_byte s w h F k i =
    get_or (buffer_of F.kind h) (origin_of s w F.kind F.family + (field_at (F.block k) 12 - window_start F.kind) + i) 0

-- every byte of block k's payload is where it belongs
abbrev pub InMemory : Settings → World → Held → File → ℕ → Type 0
InMemory s w h F k = (i : ℕ) → i < 256 → memory_byte s w h F k i ≡ payload_byte F k i

-- a file that is valid for the board w; h is the memory when it is asked, of the same lengths and with any bytes
abbrev pub EveryMemory : (Settings → World → Held → File → Type 0) → Type 0
EveryMemory P =
    (s : Settings) (w : World) (F : File) → w.transfer ≡ Idle → ValidFile s w F
    → (h : Held) → lengths_of h ≡ lengths_of w.held → P s w h F

-- 95 for every block: every payload of the file is in its memory
unfoldable pub AllStand : Type 0
AllStand =
    EveryMemory
    (λ s w h F.
    ((k : ℕ) → k < F.total → told_of s h (F.block k) ≡ 95)
    → (k : ℕ) → k < F.total → is_data F k ≡ true → InMemory s w h F k)

-- 96: the block is data, and a byte of its payload is not there
unfoldable pub DiffersByAByte : Type 0
DiffersByAByte =
    EveryMemory
    (λ s w h F.
    (k : ℕ) → k < F.total → told_of s h (F.block k) ≡ 96
    → (is_data F k ≡ true) × ((i : ℕ) × (i < 256) × (memory_byte s w h F k i ≢ payload_byte F k i)))

-- of a valid file nothing else is told
unfoldable pub EitherIsTold : Type 0
EitherIsTold =
    EveryMemory (λ s w h F. (k : ℕ) → k < F.total → (told_of s h (F.block k) ≡ 95) ⊎ (told_of s h (F.block k) ≡ 96))

-- and 95 wherever every byte is there
unfoldable pub InMemoryIsTold : Type 0
InMemoryIsTold =
    EveryMemory (λ s w h F. (k : ℕ) → k < F.total → (is_data F k ≡ true → InMemory s w h F k) → told_of s h (F.block k) ≡ 95)

-- so a block that came stands, until something else writes
unfoldable pub ReceivedStands : Type 0
ReceivedStands =
    EveryList
    (λ s w F l. Plain s w F → (k : ℕ) → k < F.total → seen_of F l k ≡ true → told_of s (receive_all s w l).held (F.block k) ≡ 95)

-- of any arrival: the refusals are those of a look with a fresh transfer and maps of the right lengths, and what a look lets pass is told 95 or 96
unfoldable pub RefusalsOfALook : Type 0
RefusalsOfALook =
    (s : Settings) (w : World) (a : List ℕ) → w.transfer ≡ Idle → length w.seen ≡ 16384 → length w.held.sectors ≡ 1024
    → (forecast_number (look_of s w a) ≤ 11 → told_of s w.held a ≡ forecast_number (look_of s w a))
    × (12 ≤ forecast_number (look_of s w a) → (told_of s w.held a ≡ 95) ⊎ (told_of s w.held a ≡ 96))
