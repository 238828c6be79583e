-- One arrival by what it comes to, in the shape of the code's returns. Assumes nothing.
use mathlib.Core.Path.{◌≡◌, sym, ap, ◌∙◌}
use mathlib.Core.List.{List}
use Prim.Native.Nat.{ℕ}
use Rattle.memory.specs.Flash.{payload_of}
use Rattle.transfer.specs.declared.Transfer.{Transfer}
use Rattle.transfer.specs.declared.Deed.{Deed}
use Rattle.transfer.specs.declared.Accepted.{Accepted}
use Rattle.transfer.specs.declared.Answer.{Answer}
use Rattle.uf2_checks.specs.declared.PlacedBlock.{PlacedBlock}
use Rattle.arrival.specs.Arrive.{Lent, World, Outcome, Decision, stays, accepts, done, accept_of}
use Rattle.uf2_known.specs.Verdict.{known_decision}
use Rattle.uf2_known.specs.declared.Known.{Known}
use Rattle.flash_plan.specs.declared.Plan.{Plan}
use Rattle.flash_plan.specs.Plan.{decision_plan, performed, with_flash, outcome_with, Accepting, accepting_by, performed_on}
use Rattle.flash_plan.proofs.Laws.{performs_by}
use Rattle.uf2_commit.specs.Entering.{beside, Entering, entering_of}
use Rattle.uf2_commit.proofs.Laws.{entered}
use Rattle.uf2_commit.specs.Receipts.{unplanned, receipt_of, enter_return}
use Rattle.uf2_commit.specs.declared.receipts.Receipt.{Receipt}
use Rattle.uf2_commit.specs.declared.receipts.PlanReceipt.{PlanReceipt}
use Rattle.uf2_receiver.specs.Receiver.{lent, world, outcome, accepting, receive_known, accept_known}

module _ (known : Known) (t : Transfer) (a : List ℕ) (h : Lent) where
  module _ {d : Decision} (k : d ≡ known_decision known (world t h) a) where
    -- what is accepted
    pub accept_stays : {o : PlanReceipt} {x : Answer} → d ≡ stays x → o ≡ unplanned t x → accepting o h ≡ accept_known known (world t h) a
    unfolding accept_known accepting_by done
    accept_stays e y = ap (λ (o : PlanReceipt). accepting o h) y ∙ ap (accepting_by (world t h) a) (sym e ∙ k)

    pub accept_accepts : {p : PlacedBlock} {e : Deed} {y : Accepted} → d ≡ accepts p e y → {o : PlanReceipt} {m s u x : List ℕ} → enter_return o m (beside s u x) ≡ (receipt_of y, entering_of p e y (payload_of a) h.seen (beside h.sectors h.main h.xip)) → accepting o (lent h.flash m s u x) ≡ accept_known known (world t h) a
    unfolding accept_known accepting_by done
    accept_accepts {p} {e} {y} q {o} {m} {s} {u} {x} g =
        let z = entered p e y (payload_of a) (world t h) (ap (λ (b : Receipt × Entering). b.1) g) in
        ap (λ (b : Receipt × Entering). record { outcome = outcome b.0 (lent h.flash m s u x); plan = o.plan }) g
        ∙ ap (λ (v : World). record { outcome = record { world = v; answer = y.answer; discarded = y.discarded }; plan = o.plan }) z.1
        ∙ ap (λ (b : Plan). record { outcome = record { world = with_flash h.flash (accept_of (world t h) (payload_of a) p e y); answer = y.answer; discarded = y.discarded }; plan = b }) z.0
        ∙ ap (accepting_by (world t h) a) (sym q ∙ k)

  -- what is accepted and performed is taken
  pub performed_taken : {o : Receipt} {r : Plan} {m s u x f : List ℕ} → record { outcome = outcome o (lent h.flash m s u x); plan = r } ≡ accept_known known (world t h) a → f ≡ performed r (payload_of a) h.flash → outcome o (lent f m s u x) ≡ receive_known known (world t h) a
  unfolding accept_known receive_known
  performed_taken {o} {r} {m} {s} {u} {x} e p =
      ap (λ (f : List ℕ). outcome o (lent f m s u x)) p
      ∙ ap (performed_on (world t h) a) e
      ∙ performs_by (world t h) a (known_decision known (world t h) a)
