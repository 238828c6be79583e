-- The claims of specs/Alike.antt hold. Assumes nothing.
use mathlib.Core.Path.{◌≡◌, refl, ap}
use mathlib.Core.List.{List, [], ◌∷◌}
use Prim.Native.Nat.{ℕ, ◌+◌}
use Rattle.partitions.specs.declared.Settings.{Settings}
use Rattle.partitions.specs.Alike.{Alike}
use Rattle.arrival.specs.Arrive.{Lent, World}
use Rattle.arrival_claims.specs.Alike.{AlikeSettingsAnswerAlike}
use Rattle.arrival_claims.proofs.Alike.{alike_settings_answer_alike, alike_answers, alike_discards}
use Rattle.trace_piece.specs.Piece.{arrival_in}
use Rattle.trace_replay.specs.Trace.{piece_of}
use Rattle.trace_counts.specs.declared.Report.{Report}
use Rattle.trace_replay.specs.Replay.{begun, went_on, pieces_of, replay_from, replay_of}
use Rattle.trace_report.specs.Report.{replayed_in, added_to, add_of}
use Rattle.trace_claims.specs.Alike.{AlikeSettingsReplayAlike, AlikeSettingsReportAlike}

module _ (s t : Settings) (h : Alike s t) where
  piece_alike : (w : World) (p : List ℕ) → piece_of s w p ≡ piece_of t w p
  unfolding piece_of AlikeSettingsAnswerAlike
  piece_alike w p = rw ((alike_settings_answer_alike s t h).take w (arrival_in p))

  from_alike : (l : List (List ℕ)) (i : ℕ) (w : World) → replay_from s i w l ≡ replay_from t i w l
  unfolding replay_from
  from_alike [] i w = refl
  from_alike (p ∷ l) i w =
      rw (piece_alike w p) (ap (went_on i (piece_of t w p)) (from_alike l (i + 1) (piece_of t w p).world))

pub alike_settings_replay_alike : AlikeSettingsReplayAlike
unfolding AlikeSettingsReplayAlike replay_of
alike_settings_replay_alike s t h lent trace = from_alike s t h (pieces_of trace) 0 (begun lent)

added_alike : (s t : Settings) → Alike s t → (r : Report) (h : Lent) (trace : List ℕ) → added_to r s h trace ≡ added_to r t h trace
unfolding added_to AlikeSettingsReplayAlike
added_alike s t e r h trace =
    let l = replayed_in t h trace in
    rw (alike_settings_replay_alike s t e h trace, alike_answers s t e l (begun h), alike_discards s t e l (begun h))

pub alike_settings_report_alike : AlikeSettingsReportAlike
unfolding AlikeSettingsReportAlike AlikeSettingsReplayAlike add_of
alike_settings_report_alike s t e r h trace = rw (alike_settings_replay_alike s t e h trace, added_alike s t e r h trace)
