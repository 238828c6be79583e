-- "Discarded" is told as the look tells it: of a block that is accepted, where a transfer of another head runs. Assumes nothing.
use mathlib.Core.Path.{◌≡◌, refl, sym, ap, subst, ◌∙◌}
use mathlib.Core.Bool.{Bool, true, false, cond, not}
use mathlib.Core.List.{List}
use Prim.Native.Nat.{ℕ, ◌+◌, ◌≤◌}
use native.Mathlib.Omega.{arith}
use lib.Dec.{ltb, leb}
use lib.ListN.{length}
use borrow.Author.Tests.{lt-leb}
use Rattle.std.specs.Prelude.{Ok, Err}
use Rattle.laws.proofs.Tests.{split}
use Rattle.memory.specs.Bitmap.{marked_in}
use Rattle.uf2_block.specs.Block.{field_at, has_flag, fields_of}
use Rattle.partitions.specs.Settings.{good_settings}
use Rattle.partitions.specs.declared.Settings.{Settings}
use Rattle.transfer.specs.Transfer.{number_of, head_with, same_head, good_state, deed_answer, raised, accepted, step_of}
use Rattle.transfer.specs.declared.Kind.{Kind}
use Rattle.transfer.specs.declared.Head.{Head}
use Rattle.transfer.specs.declared.Deed.{Deed}
use Rattle.transfer.specs.declared.Deed.TheVariants.{Stores, Notes, Keeps}
use Rattle.transfer.specs.declared.State.{State}
use Rattle.transfer.specs.declared.State.TheVariants.{Idle, Running, Done}
use Rattle.transfer.specs.declared.Answer.{Answer}
use Rattle.transfer.specs.declared.Answer.TheVariants as answer
use Rattle.uf2_checks.specs.Screen.{window_of, window_kind, note_kind, screen_of, Screening}
use Rattle.uf2_checks.specs.declared.PlacedBlock.{PlacedBlock}
use Rattle.arrival.specs.Windows as windows
use Rattle.arrival.specs.Arrive.{World, Forecast, stays, lengths_of, right_lengths, standing, deed_of, stepped, after_screening, decide, forecast_of, look_of}
use Rattle.arrival_claims.proofs.Screening.{Good, screen_good, comment_is, kind_window, kind_note}
use Rattle.why_causes.specs.Causes.{answer_of}
use Rattle.why_causes.specs.declared.Cause.{Cause}
use Rattle.why_causes.specs.declared.Cause.TheVariants.{BadBuffers, BadSettings, BadState, NotBlock, Container, NoFamily, NoPlace, BadPayload, BadNumbers, BadAddress, Finished, Again, Written, Completed, Noted, Kept}
use Rattle.why_checks.specs.Block.{kind_of, runs_other}
use Rattle.why.specs.Why.{head_in, discards_of, reason_of, why_of}
use Rattle.why_claims.specs.Claims.{DiscardIsTheReceivers}
use Rattle.why_claims.proofs.Agree.{answers_agree}

-- from 14 on a block is accepted
abbrev discards_at : State → Head → Answer → Bool
discards_at t g x = cond (leb 14 (number_of x)) (runs_other t g) false

-- a reason's is that of its answer
by_answer : (t : State) (g : Head) (c : Cause) → discards_of t g c ≡ discards_at t g (answer_of c)
by_answer t g (BadBuffers x) = refl
by_answer t g (BadSettings x) = refl
by_answer t g (BadState x) = refl
by_answer t g (NotBlock x) = refl
by_answer t g Container = refl
by_answer t g NoFamily = refl
by_answer t g (NoPlace x) = refl
by_answer t g BadPayload = refl
by_answer t g (BadNumbers x) = refl
by_answer t g (BadAddress x) = refl
by_answer t g Finished = refl
by_answer t g Again = refl
by_answer t g (Written x) = refl
by_answer t g Completed = refl
by_answer t g Noted = refl
by_answer t g Kept = refl

-- ---- and so is the look's

abbrev Told : State → Head → Forecast → Type 0
Told t g f = f.discarded ≡ discards_at t g f.answer

nothing : (b : Bool) → false ≡ cond b false false
nothing true = refl
nothing false = refl

raised_high : (d : Deed) (g : Head) (c : ℕ) → leb 14 (number_of (raised d g c)) ≡ true
unfolding raised
raised_high d g c = by-case (ltb c g.total) d
  where
    by-case : (b : Bool) (d : Deed) → leb 14 (number_of (cond b (deed_answer d) answer.Completed)) ≡ true
    by-case true Stores = refl
    by-case true Notes = refl
    by-case true Keeps = refl
    by-case false d = refl

step_told : (t : State) (p : PlacedBlock) (d : Deed) (m : Bool) → Told t p.head (forecast_of (stepped p d (step_of t p.head m d)))
unfolding step_of accepted
step_told Idle p d m = nothing (leb 14 (number_of (raised d p.head 1)))
step_told (Running r) p d m =
    split (same_head r.head p.head)
    (λ y. rw y (split m (λ h. rw h refl) (λ h. rw h (nothing (leb 14 (number_of (raised d p.head (r.count + 1))))))))
    (λ z. rw (z, raised_high d p.head 1) refl)
step_told (Done g) p d m = refl

low : (x : Answer) → number_of x ≤ 11 → leb 14 (number_of x) ≡ false
low x h = lt-leb 14 (number_of x) (omega (arith, h))

module _ (s : Settings) (w : World) (a : List ℕ) where
  abbrev kind_if : Bool → Kind
  kind_if c = cond c (note_kind (lengths_of w.held) w.transfer (fields_of a)) (window_kind (window_of (lengths_of w.held) (fields_of a).address))

  -- the kind of the claims about arrivals is that of the checks
  pub kinds : kind_of (lengths_of w.held) w.transfer (fields_of a) ≡ windows.kind_of w a
  unfolding kind_of
  kinds =
      split (has_flag a 0x1) (λ y. ap kind_if (comment_is a ∙ y) ∙ sym (kind_note s w a y)) (λ z. ap kind_if (comment_is a ∙ z) ∙ sym (kind_window s w a z))

  screened : (kept : Bool) (x : Screening) → Good s w a x → Told w.transfer (head_in w a) (forecast_of (after_screening w.transfer w.seen kept x))
  unfolding after_screening
  screened kept (Err x) h = rw (low x h.1) refl
  screened kept (Ok p) h =
      subst (λ (g : Head). Told w.transfer g (forecast_of (stepped p (deed_of kept p) (step_of w.transfer p.head (marked_in w.seen p.number) (deed_of kept p)))))
      (h.head ∙ ap (λ (k : Kind). head_with k (field_at a 28) (field_at a 24)) (sym kinds))
      (step_told w.transfer p (deed_of kept p) (marked_in w.seen p.number))

  look_told : Told w.transfer (head_in w a) (look_of s w a)
  unfolding look_of decide
  look_told =
      by_rows (right_lengths (length a) (lengths_of w.held) (length w.seen) (length w.held.sectors)) (good_settings s (length w.held.flash)) (good_state w.transfer)
    where
      by_rows : (r g q : Bool) → Told w.transfer (head_in w a)
          (forecast_of
          (cond (not r) (stays answer.BadBuffers)
          (cond (not g) (stays answer.BadSettings)
          (cond (not q) (stays answer.BadState)
          (after_screening w.transfer w.seen (standing s w.held.flash a) (screen_of s (lengths_of w.held) w.transfer a))))))
      by_rows false g q = refl
      by_rows true false q = refl
      by_rows true true false = refl
      by_rows true true true = screened (standing s w.held.flash a) (screen_of s (lengths_of w.held) w.transfer a) (screen_good s w a)

pub discard_is_the_receivers : DiscardIsTheReceivers
unfolding DiscardIsTheReceivers why_of
discard_is_the_receivers s w a =
    by_answer w.transfer (head_in w a) (reason_of s w a).cause
    ∙ (ap (discards_at w.transfer (head_in w a)) (answers_agree s w a) ∙ sym (look_told s w a))
