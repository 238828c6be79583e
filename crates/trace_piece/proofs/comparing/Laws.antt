-- A piece by cases, as the code comes to them. Assumes nothing.
use Prim.Native.Nat.{ℕ, ◌-◌}
use mathlib.Core.Path.{◌≡◌, refl, sym, ap, ◌∙◌}
use mathlib.Core.Bool.{Bool, true, false, true≢false}
use mathlib.Core.List.{List}
use Rattle.std.specs.Prelude.{Result, Ok, Err}
use native.Mathlib.Omega.{arith}
use lib.ListN.{length, take, drop, length-drop}
use lib.Seq.{take_all}
use Rattle.laws.proofs.Tests.{split, clash}
use Rattle.partitions.specs.declared.Settings.{Settings}
use Rattle.transfer.specs.declared.Transfer.{Transfer}
use Rattle.arrival.specs.Arrive.{Lent, World, Outcome, receive_of, look_of, Forecast}
use Rattle.arrival.specs.Facts.{LookTells}
use Rattle.arrival.proofs.Facts.{look_tells}
use Rattle.uf2_receiver.specs.declared.looking.Preview.{Preview}
use Rattle.uf2_commit.specs.declared.receipts.Receipt.{Receipt}
use Rattle.uf2_receiver.specs.Looking.{previewed}
use Rattle.uf2_receiver.specs.Receiver.{world, outcome}
use Rattle.trace_piece.specs.declared.PieceError.{PieceError}
use Rattle.trace_piece.specs.declared.PieceError.TheVariants.{Bad, Differs}
use Rattle.trace_piece.specs.Piece.{recorded, arrival_in, is_bad, agrees, compared_of, is_replayed}
use Rattle.trace_piece.proofs.Laws.{good_length}
use Rattle.trace_piece.specs.Compared.{PieceOutcome, piece_outcome, piece_of}

module _ (s : Settings) (w : World) (p : List ℕ) where
  abbrev ours : Outcome
  ours = receive_of s w (arrival_in p)

  abbrev agreed : Bool
  agreed = agrees (recorded p) ours.answer ours.discarded

  bad_is : is_bad p ≡ true → piece_of s w p ≡ piece_outcome (Err Bad) w
  unfolding piece_of
  bad_is b = rw b

  differs_is : is_bad p ≡ false → agreed ≡ false → piece_of s w p ≡ piece_outcome (Err Differs) w
  unfolding piece_of
  differs_is g a = rw (g, a)

  replayed_is : is_bad p ≡ false → agreed ≡ true → piece_of s w p ≡ piece_outcome (Ok tt) ours.world
  unfolding piece_of
  replayed_is g a = rw (g, a)

  -- ---- by what comes of it

  -- nothing changes
  pub piece_left : is_replayed (piece_of s w p).answer ≡ false → piece_outcome (piece_of s w p).answer w ≡ piece_of s w p
  piece_left z =
      split (is_bad p)
      (λ b. let e = bad_is b in rw e refl)
      (λ g. split agreed
      (λ a. let e = replayed_is g a in clash true refl (sym (ap (λ (o : PieceOutcome). is_replayed o.answer) e) ∙ z))
      (λ a. let e = differs_is g a in rw e refl))

  -- it is received, and has a record's length
  pub record Taken : Type 0 where
    pub long : length p ≡ 513
    pub is : piece_outcome (piece_of s w p).answer ours.world ≡ piece_of s w p

  pub piece_taken : is_replayed (piece_of s w p).answer ≡ true → Taken
  piece_taken y =
      split (is_bad p)
      (λ b. clash false (sym (ap (λ (o : PieceOutcome). is_replayed o.answer) (bad_is b)) ∙ y) refl)
      (λ g. split agreed
      (λ a. let e = replayed_is g a in record { long = good_length p g; is = rw e refl })
      (λ a. clash false (sym (ap (λ (o : PieceOutcome). is_replayed o.answer) (differs_is g a)) ∙ y) refl))

-- ---- as the code comes to it

module _ (s : Settings) (w : World) (p : List ℕ) where
  -- the arrival as the code lends it
  abbrev arrival : List ℕ
  arrival = take (length p - 1) (drop 1 p)

  arrival_is : arrival ≡ arrival_in p
  arrival_is = take_all (length p - 1) (drop 1 p) (rw (length-drop 1 p) (omega arith))

  pub judge_bad : is_bad p ≡ true → Err Bad ≡ (piece_of s w p).answer
  judge_bad b = sym (ap (λ (o : PieceOutcome). o.answer) (bad_is s w p b))

  pub judge_compared : is_bad p ≡ false → {x : Preview} → previewed x ≡ look_of s w arrival → compared_of (recorded p) x.answer x.discarded ≡ (piece_of s w p).answer
  unfolding LookTells
  judge_compared g {x} e =
      let same : agrees (recorded p) x.answer x.discarded ≡ agreed s w p = ap (λ (o : Forecast). agrees (recorded p) o.answer o.discarded) (e ∙ ap (look_of s w) arrival_is ∙ look_tells s w (arrival_in p)) in
      split (agreed s w p)
      (λ a. rw (same ∙ a) (sym (ap (λ (o : PieceOutcome). o.answer) (replayed_is s w p g a))))
      (λ a. rw (same ∙ a) (sym (ap (λ (o : PieceOutcome). o.answer) (differs_is s w p g a))))

  -- what judge told, and what was taken
  module _ {x : Result (Unit {0}) PieceError} (e : x ≡ (piece_of s w p).answer) where
    pub told_left : is_replayed x ≡ false → piece_outcome x w ≡ piece_of s w p
    told_left z = ap (λ (x : Result (Unit {0}) PieceError). piece_outcome x w) e ∙ piece_left s w p (ap is_replayed (sym e) ∙ z)

    pub told_long : is_replayed x ≡ true → length p ≡ 513
    told_long y = (piece_taken s w p (ap is_replayed (sym e) ∙ y)).long

    pub told_taken : is_replayed x ≡ true → {r : Receipt} {k : Lent} → outcome r k ≡ receive_of s w arrival → piece_outcome x (world r.transfer k) ≡ piece_of s w p
    told_taken y {r} {k} q =
        ap (λ (o : Outcome). piece_outcome x o.world) (q ∙ ap (receive_of s w) arrival_is)
        ∙ ap (λ (x : Result (Unit {0}) PieceError). piece_outcome x (ours s w p).world) e
        ∙ (piece_taken s w p (ap is_replayed (sym e) ∙ y)).is
