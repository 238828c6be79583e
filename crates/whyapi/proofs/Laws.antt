-- The calls by what their parts ensure. Assumes nothing.
use mathlib.Core.Path.{◌≡◌, ap, ◌∙◌}
use mathlib.Core.List.{List}
use Prim.Native.Nat.{ℕ}
use Rattle.partitions.specs.declared.Settings.{Settings}
use Rattle.transfer.specs.declared.Transfer.{Transfer}
use Rattle.settings_layout.specs.Layout.{settings_from, transfer_from}
use Rattle.arrival.specs.Arrive.{Lent}
use Rattle.arrival.specs.Lending.{world}
use Rattle.why.specs.Why.{why_of}
use Rattle.why.specs.Placed.{why_place_of}
use Rattle.why.specs.declared.Why.{Why}
use Rattle.why.specs.declared.WhyPlace.{WhyPlace}
use Rattle.whyapi.specs.WhyCall.{Call, why_call, place_call}

module _ (sb tb a : List ℕ) (h : Lent) {s : Settings} (p : s ≡ settings_from sb) {t : Transfer} (q : t ≡ transfer_from tb) where
  pub why_is : {y : Why} → y ≡ why_of s (world t h) a → y ≡ why_of (settings_from sb) (world (transfer_from tb) h) a
  why_is e = e ∙ (ap (λ (s : Settings). why_of s (world t h) a) p ∙ ap (λ (t : Transfer). why_of (settings_from sb) (world t h) a) q)

  pub why_call_lem : (l : List ℕ) {y : Why} → y ≡ why_of s (world t h) a → {c : Call} → c ≡ why_call sb tb y l
      → c ≡ why_call sb tb (why_of (settings_from sb) (world (transfer_from tb) h) a) l
  why_call_lem l e c = c ∙ ap (λ (y : Why). why_call sb tb y l) (why_is e)

-- ---- a place

module _ (sb : List ℕ) (len g : ℕ) (l : List ℕ) {s : Settings} (p : s ≡ settings_from sb) {y : WhyPlace} (e : y ≡ why_place_of s len g) where
  pub place_call_lem : {c : Call} → c ≡ place_call sb y l → c ≡ place_call sb (why_place_of (settings_from sb) len g) l
  place_call_lem h = h ∙ ap (λ (z : WhyPlace). place_call sb z l) (e ∙ ap (λ (s : Settings). why_place_of s len g) p)
