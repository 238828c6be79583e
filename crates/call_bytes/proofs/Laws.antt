-- Calls by cases. Assumes nothing.
use Prim.Native.Nat.{ℕ}
use mathlib.Core.Path.{◌≡◌, ap, ◌∙◌}
use mathlib.Core.Logic.{◌≢◌}
use mathlib.Core.Bool.{Bool}
use mathlib.Core.List.{List}
use lib.ListN.{length}
use borrow.Author.Tests.{eq-eqb, ne_eqb}
use Rattle.partitions.specs.declared.Settings.{Settings}
use Rattle.transfer.specs.declared.Transfer.{Transfer}
use Rattle.transfer.specs.Transfer.{number_of}
use Rattle.arrival.specs.Arrive.{Lent, receive_of, look_of}
use Rattle.flash_plan.specs.Plan.{accepting_of}
use Rattle.uf2_commit.specs.declared.receipts.Receipt.{Receipt}
use Rattle.uf2_receiver.specs.declared.looking.Preview.{Preview}
use Rattle.uf2_commit.specs.declared.receipts.PlanReceipt.{PlanReceipt}
use Rattle.uf2_receiver.specs.Looking.{previewed}
use Rattle.uf2_receiver.specs.Receiver.{world, outcome, accepting}
use Rattle.settings_layout.specs.Layout.{settings_from, transfer_from}
use Rattle.uf2_batch.specs.declared.Batch.{Batch}
use Rattle.transfer_layout.specs.Results.{result_of, is_acceptance}
use Rattle.uf2_batch.specs.Batch.{batch_left, batch_of}
use Rattle.call_bytes.specs.Calls.{arrival_call, look_result, look_bytes, kept_transfer, arrival_call_of, take_bytes, plan_bytes, planned_call, planned_call_of, accept_bytes, batch_call, batch_call_end, take_batch}

module _ (s t a : List ℕ) (h : Lent) where
  pub look_ran : {z : Settings} {u : Transfer} {r : Preview} {y : ℕ} → z ≡ settings_from s → u ≡ transfer_from t → previewed r ≡ look_of z (world u h) a → y ≡ result_of (number_of r.answer) r.discarded → y ≡ look_bytes s t a h
  unfolding look_bytes
  look_ran {u = u} hz hu ho hy =
      hy
      ∙ ap look_result
      (ho
      ∙ ap (λ (z : Settings). look_of z (world u h) a) hz
      ∙ ap (λ (u : Transfer). look_of (settings_from s) (world u h) a) hu)

  pub take_ran : {z : Settings} {u : Transfer} {r : Receipt} {g : Lent} {v : List ℕ} {y : ℕ} {b : Bool} → z ≡ settings_from s → u ≡ transfer_from t → outcome r g ≡ receive_of z (world u h) a → b ≡ is_acceptance (number_of r.answer) → v ≡ kept_transfer t b r.transfer.state → y ≡ result_of (number_of r.answer) r.discarded → arrival_call y v g ≡ take_bytes s t a h
  unfolding take_bytes
  take_ran {u = u} hz hu ho hb hv hy =
      let p =
      ho
      ∙ ap (λ (z : Settings). receive_of z (world u h) a) hz
      ∙ ap (λ (u : Transfer). receive_of (settings_from s) (world u h) a) hu in
      rw (hy, hv, hb) (ap (arrival_call_of t) p)

  pub batch_ran : (r : List ℕ) {z : Settings} {u : Transfer} {b : Batch} {g : Lent} {v r₁ : List ℕ} → z ≡ settings_from s → u ≡ transfer_from t → batch_left b r₁ g ≡ batch_of z (world u h) a r → v ≡ kept_transfer t b.accepted b.transfer.state → batch_call b.number v r₁ g ≡ take_batch s t a r h
  unfolding take_batch
  batch_ran r {u = u} hz hu ho hv =
      let p =
      ho
      ∙ ap (λ (z : Settings). batch_of z (world u h) a r) hz
      ∙ ap (λ (u : Transfer). batch_of (settings_from s) (world u h) a r) hu in
      rw hv (ap (batch_call_end t) p)

  module _ (p : List ℕ) where
    pub accept_short : length p ≢ 12 → planned_call 1 t h p ≡ accept_bytes s t a h p
    unfolding accept_bytes
    accept_short n = simp (ne_eqb (length p) 12 n)

    pub accept_ran : {z : Settings} {u : Transfer} {r : PlanReceipt} {g : Lent} {v q : List ℕ} {y : ℕ} {b : Bool} → length p ≡ 12 → z ≡ settings_from s → u ≡ transfer_from t → accepting r g ≡ accepting_of z (world u h) a → b ≡ is_acceptance (number_of r.receipt.answer) → v ≡ kept_transfer t b r.receipt.transfer.state → y ≡ result_of (number_of r.receipt.answer) r.receipt.discarded → q ≡ plan_bytes r.plan → planned_call y v g q ≡ accept_bytes s t a h p
    unfolding accept_bytes
    accept_ran {u = u} l hz hu ho hb hv hy hq =
        let e =
        ho
        ∙ ap (λ (z : Settings). accepting_of z (world u h) a) hz
        ∙ ap (λ (u : Transfer). accepting_of (settings_from s) (world u h) a) hu in
        simp (eq-eqb (length p) 12 l) (rw (hy, hv, hb, hq) (ap (planned_call_of t) e))
