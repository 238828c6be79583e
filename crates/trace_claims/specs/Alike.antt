-- "The new field changes no answer" (02, L5): nor does it change a replay or a report, and no more does an entry or a slot that is not used.
-- Proved in proofs/Alike.antt. Assumes nothing.
use Rattle.std.specs.Prelude.{◌≡◌, List, ℕ}
use Rattle.partitions.specs.declared.Settings.{Settings}
use Rattle.partitions.specs.Alike.{Alike}
use Rattle.arrival.specs.Arrive.{Lent}
use Rattle.trace_counts.specs.declared.Report.{Report}
use Rattle.trace_replay.specs.Replay.{replay_of}
use Rattle.trace_report.specs.Report.{add_of}

-- settings that are alike but for these replay every trace alike: the same stop, and the same left behind
unfoldable pub AlikeSettingsReplayAlike : Type 0
AlikeSettingsReplayAlike = (s t : Settings) → Alike s t → (h : Lent) (trace : List ℕ) → replay_of s h trace ≡ replay_of t h trace

-- and they add it to every report alike
unfoldable pub AlikeSettingsReportAlike : Type 0
AlikeSettingsReportAlike =
    (s t : Settings) → Alike s t → (r : Report) (h : Lent) (trace : List ℕ) → add_of r s h trace ≡ add_of r t h trace
