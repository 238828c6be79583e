pub mod Cells
pub mod Effect
pub mod Screening
pub mod DecisionFacts
pub mod Bounds
pub mod Ram
pub mod RamRows
pub mod Comments
pub mod Kept
pub mod Tally
pub mod Before
pub mod Alike
-- What a plan performed comes to, and what it touches.
pub mod Claims
-- What a driver may rely on.
pub mod Driver
pub mod Stored
