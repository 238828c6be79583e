-- What a call is lent, as the meaning has it. Assumes nothing.
use Rattle.std.specs.Prelude.{ℕ, List}
use Rattle.transfer.specs.declared.Transfer.{Transfer}
use Rattle.arrival.specs.Arrive.{Held, Lent, World}

-- ---- the lent buffers as one value

-- flash, sector map, main RAM and XIP RAM
abbrev pub held : List ℕ → List ℕ → List ℕ → List ℕ → Held
held f k u x = record { flash = f; sectors = k; main = u; xip = x }

-- flash, seen map, sector map, main RAM and XIP RAM
abbrev pub lent : List ℕ → List ℕ → List ℕ → List ℕ → List ℕ → Lent
lent f m k u x = record { flash = f; seen = m; sectors = k; main = u; xip = x }

-- the bytes of a lent slice: a contract names them at a call's entry or at its exit
abbrev pub Slice : Type 0
Slice = List ℕ

-- the buffers as they are lent
abbrev pub lent_at : Slice → Slice → Slice → Slice → Slice → Lent
lent_at f m k u x = lent f m k u x

-- the buffers as they are left
abbrev pub left_at : Slice → Slice → Slice → Slice → Slice → Lent
left_at f m k u x = lent f m k u x

-- ---- what goes in and comes out

-- a transfer and the lent buffers
abbrev pub world : Transfer → Lent → World
world t h = record { transfer = t.state; seen = h.seen; held = held h.flash h.sectors h.main h.xip }
