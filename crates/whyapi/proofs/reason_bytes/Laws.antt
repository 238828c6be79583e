-- The calls by what their parts ensure. Assumes nothing.
use mathlib.Core.Path.{◌≡◌, refl, sym, ap, ◌∙◌}
use mathlib.Core.Bool.{Bool, cond}
use mathlib.Core.Logic.{◌≢◌}
use mathlib.Core.List.{List, [], ◌∷◌}
use Prim.Native.Nat.{ℕ, ◌-◌}
use native.Mathlib.Omega.{arith}
use lib.ListN.{length}
use borrow.Author.Tests.{eq-eqb, ne_eqb}
use borrow.Rule.Slice.PartMut.{put_mid}
use Rattle.laws.specs.Over.{over}
use Rattle.laws.proofs.OverLaws.{length_over, over_next, part_over}
use Rattle.transfer.specs.Transfer.{number_of}
use Rattle.transfer.specs.declared.Answer.{Answer}
use Rattle.transfer_layout.specs.Results.{result_of}
use Rattle.why_settings.specs.declared.Fault.{Fault}
use Rattle.why_settings.specs.declared.Fault.TheVariants.{ArchOff, CountOver, NoSectors, PastFlash, Shares, LinksUp, LinksToB, ManyUsers, ReservedUser}
use Rattle.why_causes.specs.Causes.{answer_of}
use Rattle.why_causes.specs.declared.Cause.{Cause}
use Rattle.why_causes.specs.declared.Cause.TheVariants.{BadBuffers, BadSettings, BadState, NotBlock, Container, NoFamily, NoPlace, BadPayload, BadNumbers, BadAddress, Finished, Again, Written, Completed, Noted, Kept}
use Rattle.why.specs.Placed.{placed_number}
use Rattle.why.specs.declared.Why.{Why}
use Rattle.why.specs.declared.WhyPlace.{WhyPlace}
use Rattle.whyapi.specs.declared.told.ReasonFields.{ReasonFields}
use Rattle.whyapi.specs.WhyBytes.{fault_other, on_fault, told_of, byte_told, numbers_over, marks_over, told_over, call_return, why_call, place_told, place_shown, place_call}

-- ---- causes that are no fault of the settings

-- by the case, as a `let .. else` tells it
pub no_fault : (f : Fault → ℕ) (c : Cause) → ((x : Fault) → c ≡ BadSettings x → ⊥) → on_fault f c ≡ 0
no_fault f (BadBuffers x) h = refl
no_fault f (BadSettings x) h = absurd (h x refl)
no_fault f (BadState x) h = refl
no_fault f (NotBlock x) h = refl
no_fault f Container h = refl
no_fault f NoFamily h = refl
no_fault f (NoPlace x) h = refl
no_fault f BadPayload h = refl
no_fault f (BadNumbers x) h = refl
no_fault f (BadAddress x) h = refl
no_fault f Finished h = refl
no_fault f Again h = refl
no_fault f (Written x) h = refl
no_fault f Completed h = refl
no_fault f Noted h = refl
no_fault f Kept h = refl

pub no_other : (x : Fault) → ((k j : ℕ) → x ≡ Shares k j → ⊥) → fault_other x ≡ 0
no_other ArchOff h = refl
no_other CountOver h = refl
no_other (NoSectors k) h = refl
no_other (PastFlash k) h = refl
no_other (Shares k j) h = absurd (h k j refl)
no_other (LinksUp k) h = refl
no_other (LinksToB k) h = refl
no_other (ManyUsers k) h = refl
no_other (ReservedUser k) h = refl

-- ---- 38 bytes

module _ (l : List ℕ) (x : ReasonFields) where
  pub told_other : length l ≢ 38 → l ≡ told_over l x
  unfolding told_over
  told_other n = rw (ne_eqb (length l) 38 n)

  pub told_put : length l ≡ 38 → {m o : List ℕ} → m ≡ numbers_over l x.number x.got x.against → o ≡ marks_over m x.entry x.other x.marks
      → o ≡ told_over l x
  unfolding told_over
  told_put e {m} p q =
      q
      ∙ (ap (λ (k : List ℕ). marks_over k x.entry x.other x.marks) p
      ∙ ap (λ (b : Bool). cond b (marks_over (numbers_over l x.number x.got x.against) x.entry x.other x.marks) l) (sym (eq-eqb (length l) 38 e)))

-- the two entries, then the marks
pub marks_put : (l : List ℕ) (entry other : ℕ) (m : List ℕ) → length l ≡ 38 → length m ≡ 16 → {x y z : List ℕ}
    → x ≡ entry ∷ other ∷ [] → z ≡ put_mid 20 (22 - 20) l x
    → y ≡ m → put_mid 22 (38 - 22) z y ≡ marks_over l entry other m
marks_put l entry other m e n {x} {y} {z} p q r =
    let two = entry ∷ other ∷ [] in
    let pair : z ≡ over l 20 two = q ∙ part_over 20 2 l two x refl (omega arith) p in
    let long : length z ≡ 38 = ap length pair ∙ (length_over l 20 two (omega arith) ∙ e) in
    part_over 22 16 z m y n (omega (arith, long)) r ∙ (ap (λ (k : List ℕ). over k 22 m) pair ∙ over_next l 20 two 22 m refl (omega (arith, n)))

-- ---- an arrival

module _ (sb tb l : List ℕ) where
  pub why_told : (y : Why) {x v : ReasonFields} {n r : ℕ} {z : Answer} {o : List ℕ} → x ≡ told_of y → z ≡ answer_of y.reason.cause
      → n ≡ number_of z → v ≡ byte_told n sb tb x → o ≡ told_over l v → r ≡ result_of n y.discarded → call_return r o ≡ why_call sb tb y l
  unfolding why_call
  why_told y {x} {v} {n} {r} {z} {o} a b e c d f =
      let same : n ≡ number_of (answer_of y.reason.cause) = e ∙ ap number_of b in
      ap (call_return r) (d ∙ ap (told_over l) (c ∙ ap (byte_told n sb tb) a))
      ∙ (ap (λ (k : ℕ). call_return k (told_over l (byte_told n sb tb (told_of y)))) f
      ∙ ap (λ (k : ℕ). call_return (result_of k y.discarded) (told_over l (byte_told k sb tb (told_of y)))) same)

-- ---- a place

module _ (sb l : List ℕ) where
  pub place_told_lem : (y : WhyPlace) {n : ℕ} {x v : ReasonFields} {o : List ℕ} → n ≡ placed_number y.placed → x ≡ place_told y.placed y.entries
      → v ≡ place_shown n sb x → o ≡ told_over l v → call_return n o ≡ place_call sb y l
  unfolding place_call
  place_told_lem y {n} a b c d =
      ap (call_return n) (d ∙ ap (told_over l) (c ∙ ap (place_shown n sb) b))
      ∙ ap (λ (k : ℕ). call_return k (told_over l (place_shown k sb (place_told y.placed y.entries)))) a
