-- The claims of specs/Facts.antt hold. Assumes nothing.
use Prim.Native.Nat.{ℕ, ◌+◌, ◌-◌, ◌%◌}
use mathlib.Core.Path.{◌≡◌, refl, ap, ◌∙◌}
use mathlib.Core.Logic.{◌≢◌, inr}
use mathlib.Core.Bool.{Bool, true, false}
use mathlib.Core.List.{List}
use native.Mathlib.Omega.{arith}
use lib.ListN.{length, get_or, length-set}
use Rattle.std.specs.Prelude.{Option, Some, None}
use Rattle.memory.proofs.bitmap.Laws.{length_mark, length_unmarked}
use Rattle.uf2_block.specs.Block.{field_at}
use Rattle.uf2_block.proofs.Laws.{field_set, header_flags, region_set, flag_comment, flag_beside}
use Rattle.memory.specs.Flash.{payload_of}
use Rattle.memory.proofs.flash.Laws.{payload_set}
use Rattle.partitions.specs.declared.Settings.{Settings}
use Rattle.placement.specs.Place.{place_of}
use Rattle.placement.specs.declared.Place.{Place}
use Rattle.transfer.specs.declared.Kind.{Kind}
use Rattle.transfer.specs.declared.Kind.TheVariants.{Flash, MainRam, XipRam}
use Rattle.transfer.specs.declared.State.{State}
use Rattle.transfer.specs.declared.State.TheVariants.{Idle, Running, Done}
use Rattle.transfer.specs.declared.Deed.{Deed}
use Rattle.transfer.specs.declared.Deed.TheVariants.{Stores, Notes, Keeps}
use Rattle.uf2_checks.specs.Screen.{screen_in, screen_of}
use Rattle.uf2_checks.specs.declared.Lengths.{Lengths}
use Rattle.arrival.specs.Arrive.{Held, World, Decision, stays, accepts, buffer_of, lengths_of, stands_at, standing, decide, decided, cleared_if, wiped_if, at_of, done_to, accept_of, done, receive_of, forecast, forecast_of, look_of}
use Rattle.arrival.specs.Windows.{comment_kind, kind_of}
use Rattle.arrival.specs.Facts.{AnswersReadNoMap, LengthsKept, ArrivalsKeepLengths, flagged, Flag0x8000Ignored, LookTells}
use Rattle.arrival.proofs.Paged.{lengths_paged, sectors_paged}

-- ---- no byte of RAM, no sector map

told : (v w : World) (p : List ℕ) (d : Decision) → ((done v p d).answer ≡ (done w p d).answer) × ((done v p d).discarded ≡ (done w p d).discarded)
unfolding done
told v w p (stays x) = (refl, refl)
told v w p (accepts g d k) = (refl, refl)

pub answers_read_no_map : AnswersReadNoMap
unfolding AnswersReadNoMap receive_of
answers_read_no_map s v w a e f =
    let same : decided s v a ≡ decided s w a =
    λ i. decide s (e.lengths i) (e.sectors_length i) (e.transfer i) (e.seen i) (standing s (f i) a) a in
    let t = told v w (payload_of a) (decided s w a) in (
      ap (λ (d : Decision). (done v (payload_of a) d).answer) same ∙ t.0,
      ap (λ (d : Decision). (done v (payload_of a) d).discarded) same ∙ t.1,
    )

-- ---- what stores nothing

pub done_none : (d : Deed) (k : Kind) (at : ℕ) (p : List ℕ) (x : Held) → d ≢ Stores → done_to d k at p x ≡ x
done_none Stores k at p x n = absurd (n refl)
done_none Notes k at p x n = refl
done_none Keeps k at p x n = refl

-- ---- lengths

pub length_cleared : (b : Bool) (m : List ℕ) → length (cleared_if b m) ≡ length m
unfolding cleared_if
length_cleared true m = length_unmarked (length m)
length_cleared false m = refl

pub wiped_buffer : (b : Bool) (h : Held) (k : Kind) → buffer_of k (wiped_if b h) ≡ buffer_of k h
unfolding wiped_if
wiped_buffer b h Flash = refl
wiped_buffer b h MainRam = refl
wiped_buffer b h XipRam = refl

pub wiped_sectors : (b : Bool) (h : Held) → (wiped_if b h).sectors ≡ cleared_if b h.sectors
unfolding wiped_if
wiped_sectors b h = refl

length_done : (d : Deed) (k : Kind) (at : ℕ) (p : List ℕ) (x : Held)
    → (lengths_of (done_to d k at p x) ≡ lengths_of x) × (length (done_to d k at p x).sectors ≡ length x.sectors)
length_done Stores k at p x = (lengths_paged k at p x, sectors_paged k at p x)
length_done Notes k at p x = (refl, refl)
length_done Keeps k at p x = (refl, refl)

kept_lengths : (w : World) (p : List ℕ) (d : Decision) → LengthsKept (done w p d).world w
unfolding done accept_of
kept_lengths w p (stays x) = record { buffers = refl; seen = refl; sectors = refl }
kept_lengths w p (accepts g d k) =
    let n = length_done d g.head.kind (at_of g.body) p (wiped_if k.clears w.held) in
    record {
      buffers = n.0 ∙ unfold wiped_if in refl;
      seen = length_mark (cleared_if k.clears w.seen) g.number ∙ length_cleared k.clears w.seen;
      sectors = n.1 ∙ ap length (wiped_sectors k.clears w.held) ∙ length_cleared k.clears w.held.sectors;
    }

pub arrivals_keep_lengths : ArrivalsKeepLengths
unfolding ArrivalsKeepLengths receive_of
arrivals_keep_lengths s w a = kept_lengths w (payload_of a) (decided s w a)

-- ---- flags 0x4000 and 0x8000

-- the rows do not ask for them
pub decide_flags : (s : Settings) (n : Lengths) (k : ℕ) (t : State) (seen : List ℕ) (b : Bool) (a : List ℕ) (x : ℕ) → x % 0x40 ≡ 0
    → decide s n k t seen b (flagged x a) ≡ decide s n k t seen b a
unfolding decide screen_of screen_in
decide_flags s n k t seen b a x m =
    rw (
      length-set a 9 (get_or a 9 0 + x),
      header_flags a x m,
      field_set a 9 (get_or a 9 0 + x) 28 (inr (omega arith)),
    )

pub kind_flags : (w : World) (a : List ℕ) (x : ℕ) → x % 0x40 ≡ 0 → kind_of w (flagged x a) ≡ kind_of w a
unfolding kind_of
kind_flags w a x m =
    let v : ℕ = get_or a 9 0 + x in
    rw (flag_comment a x m, field_set a 9 v 12 (inr (omega arith)), comment w.transfer)
  where
    comment : (t : State) → comment_kind w t (flagged x a) ≡ comment_kind w t a
    comment Idle = refl
    comment (Running r) = rw (field_set a 9 (get_or a 9 0 + x) 28 (inr (omega arith)), field_set a 9 (get_or a 9 0 + x) 24 (inr (omega arith)))
    comment (Done g) = refl

-- nor does flag 0x8000 tell what stands
stands_flag : (f : List ℕ) (p : Option Place) (a : List ℕ) (x : ℕ) → x % 0x80 ≡ 0 → stands_at f p (flagged x a) ≡ stands_at f p a
unfolding stands_at
stands_flag f None a x m = refl
stands_flag f (Some p) a x m =
    rw (flag_beside a x m, field_set a 9 (get_or a 9 0 + x) 12 (inr (omega arith)), region_set a 9 (get_or a 9 0 + x) (omega arith))

standing_flag : (s : Settings) (f : List ℕ) (a : List ℕ) (x : ℕ) → x % 0x80 ≡ 0 → standing s f (flagged x a) ≡ standing s f a
standing_flag s f a x m =
    rw (field_set a 9 (get_or a 9 0 + x) 28 (inr (omega arith))) (stands_flag f (place_of s (length f) (field_at a 28)) a x m)

flags_ignored : (s : Settings) (w : World) (a : List ℕ) (x : ℕ) → x % 0x80 ≡ 0 → receive_of s w (flagged x a) ≡ receive_of s w a
unfolding receive_of
flags_ignored s w a x m =
    rw (
      payload_set a 9 (get_or a 9 0 + x) (omega arith),
      standing_flag s w.held.flash a x m,
      decide_flags s (lengths_of w.held) (length w.held.sectors) w.transfer w.seen (standing s w.held.flash a) a x (omega arith),
    )

pub flag_0x8000_ignored : Flag0x8000Ignored
unfolding Flag0x8000Ignored
flag_0x8000_ignored s w a = flags_ignored s w a _ (omega arith)

-- ---- a look

told_of_lem : (w : World) (p : List ℕ) (d : Decision) → forecast_of d ≡ forecast (done w p d).answer (done w p d).discarded
unfolding done
told_of_lem w p (stays x) = refl
told_of_lem w p (accepts g d k) = refl

pub look_tells : LookTells
unfolding LookTells look_of receive_of
look_tells s w a = told_of_lem w (payload_of a) (decided s w a)
