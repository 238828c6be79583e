-- Kinds and heads: two that are the same. Assumes nothing.
use mathlib.Core.Path.{◌≡◌, refl}
use mathlib.Core.Logic.{◌≢◌}
use mathlib.Core.Bool.{true, false, ◌&&◌}
use lib.Dec.{eqb}
use borrow.Author.Tests.{eqb-true}
use Rattle.laws.proofs.Tests.{clash, is_false, eqb_same, and_left, and_right}
use Rattle.transfer.specs.Transfer.{kind_number, same_kind, same_head}
use Rattle.transfer.specs.declared.Kind.{Kind}
use Rattle.transfer.specs.declared.Kind.TheVariants.{Flash, MainRam, XipRam}
use Rattle.transfer.specs.declared.Head.{Head}

pub same_kind_lem : (k : Kind) → same_kind k k ≡ true
same_kind_lem k = eqb_same (kind_number k)

pub kind_same : (k u : Kind) → same_kind k u ≡ true → k ≡ u
kind_same Flash Flash e = refl
kind_same Flash MainRam e = clash false e refl
kind_same Flash XipRam e = clash false e refl
kind_same MainRam Flash e = clash false e refl
kind_same MainRam MainRam e = refl
kind_same MainRam XipRam e = clash false e refl
kind_same XipRam Flash e = clash false e refl
kind_same XipRam MainRam e = clash false e refl
kind_same XipRam XipRam e = refl

pub kind_other : (k u : Kind) → k ≢ u → same_kind k u ≡ false
kind_other k u n = is_false (same_kind k u) (λ e. n (kind_same k u e))

pub same_head_lem : (h : Head) → same_head h h ≡ true
unfolding same_head
same_head_lem h = rw (eqb_same h.family, eqb_same h.total, same_kind_lem h.kind)

pub head_same : (g h : Head) → same_head g h ≡ true → g ≡ h
unfolding same_head
head_same g h e =
    let p = and_left (eqb g.family h.family && eqb g.total h.total) (same_kind g.kind h.kind) e in
    let f : g.family ≡ h.family = eqb-true _ _ (and_left (eqb g.family h.family) (eqb g.total h.total) p) in
    let t : g.total ≡ h.total = eqb-true _ _ (and_right (eqb g.family h.family) (eqb g.total h.total) p) in
    let k : g.kind ≡ h.kind =
    kind_same g.kind h.kind (and_right (eqb g.family h.family && eqb g.total h.total) (same_kind g.kind h.kind) e) in
    λ i. record { family = f i; total = t i; kind = k i }
