use Rattle.std.proofs.Common.{◌≡◌, ℕ, ◌<◌, false}
use Rattle.partitions.specs.Settings.{reserved_at}
use Rattle.why_settings.proofs.first_reserved.Given as goal

abbrev pub invariant-loop-k : goal.invariant-loop-k
invariant-loop-k l = (j : ℕ) → j < l.k → reserved_at l.e j ≡ false
