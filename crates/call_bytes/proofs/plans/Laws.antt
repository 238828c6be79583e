-- A plan's numbers fit 32 bits; their low 32 bits are told, and are written one after the other. Assumes nothing.
use Prim.Native.Nat.{ℕ, ◌+◌, ◌*◌, ◌/◌, ◌%◌}
use mathlib.Core.Path.{◌≡◌, refl, sym, ap, subst, ◌∙◌}
use mathlib.Core.Logic.{◌≢◌}
use mathlib.Core.List.{List, ◌++◌}
use native.Mathlib.Omega.{arith}
use lib.ListN.{length}
use borrow.Author.Tests.{eq-eqb, ne_eqb}
use Rattle.laws.specs.Bytes.{low_first}
use Rattle.laws.proofs.OverLaws.{over_whole}
use Rattle.uf2_block.specs.Write.{le32, put_at}
use Rattle.uf2_block.proofs.WriteLaws.{put_over, put_after}
use Rattle.partitions.specs.declared.Settings.{Settings}
use Rattle.arrival.specs.Arrive.{World}
use Rattle.flash_plan.specs.declared.Plan.{Plan}
use Rattle.flash_plan.specs.declared.Plan.TheVariants.{Nothing, Program, EraseProgram}
use Rattle.flash_plan.specs.Plan.{plan_number, Accepting, accepting_of}
use Rattle.arrival_claims.specs.Performed.{PlanLies}
use Rattle.arrival_claims.proofs.Claims.{plans_lie}
use Rattle.call_bytes.specs.Calls.{plan_words, plan_bytes}
use Rattle.call_bytes.specs.Parts.{Low, with_plan}

lies_low : (s : Settings) (w : World) (a : List ℕ) (x : Plan) → PlanLies s w a x → Low x
lies_low s w a Nothing p = tt
lies_low s w a (Program at) p = omega (arith, p.to, p.within, p.flash)
lies_low s w a (EraseProgram q at) p =
    (omega (arith, p.0.to, p.0.within, p.0.flash, p.1), omega (arith, p.0.to, p.0.within, p.0.flash))

pub plan_low : (s : Settings) (w : World) (a : List ℕ) {x : Accepting} → x ≡ accepting_of s w a → Low x.plan
plan_low s w a e = subst Low (sym (ap (λ (x : Accepting). x.plan) e)) (lies_low s w a (accepting_of s w a).plan (plans_lie s w a))

pub plan_put : (b : List ℕ) (d q p : ℕ) → length b ≡ 12 → put_at (put_at (put_at b 0 d) 4 q) 8 p ≡ plan_words d q p
unfolding low_first
plan_put b d q p e =
    rw (put_over b 0 d (omega arith), put_after b (le32 d) 4 q refl (omega arith), put_after b (le32 d ++ le32 q) 8 p refl (omega arith))
    (over_whole b (plan_words d q p) (sym e))

pub plan_whole : (b : List ℕ) (x : Plan) → length b ≡ 12 → with_plan b x ≡ plan_bytes x
plan_whole b x e = simp (eq-eqb (length b) 12 e)

pub plan_other : (b : List ℕ) (x : Plan) → length b ≢ 12 → with_plan b x ≡ b
plan_other b x d = simp (ne_eqb (length b) 12 d)

-- ---- the low 32 bits of a number are its four bytes

low_of : (x k : ℕ) → le32 (x + 4294967296 * k) ≡ le32 x
unfolding low_first
low_of x k =
    let a : (x + 4294967296 * k) % 256 ≡ x % 256 = omega arith in
    let a1 : (x + 4294967296 * k) / 256 ≡ x / 256 + 16777216 * k = omega arith in
    let b : (x / 256 + 16777216 * k) % 256 ≡ x / 256 % 256 = omega arith in
    let b1 : (x / 256 + 16777216 * k) / 256 ≡ x / 256 / 256 + 65536 * k = omega arith in
    let c : (x / 256 / 256 + 65536 * k) % 256 ≡ x / 256 / 256 % 256 = omega arith in
    let c1 : (x / 256 / 256 + 65536 * k) / 256 ≡ x / 256 / 256 / 256 + 256 * k = omega arith in
    let d : (x / 256 / 256 / 256 + 256 * k) % 256 ≡ x / 256 / 256 / 256 % 256 = omega arith in
    rw (a, a1, b, b1, c, c1, d) refl

low_bytes : (x : ℕ) → le32 (x % 4294967296) ≡ le32 x
low_bytes x =
    let e : x % 4294967296 + 4294967296 * (x / 4294967296) ≡ x = omega arith in
    sym (low_of (x % 4294967296) (x / 4294967296)) ∙ ap le32 e

-- d is the number that was asked for
pub words_program : (at : ℕ) {d q p : ℕ} → d ≡ plan_number (Program at) → q ≡ at / 4096 * 4096 % 4294967296 → p ≡ at % 4294967296 → plan_words d q p ≡ plan_bytes (Program at)
words_program at hd hq hp = rw (hd, hq, hp, low_bytes (at / 4096 * 4096), low_bytes at) refl

pub words_erase : (s at : ℕ) {d q p : ℕ} → d ≡ plan_number (EraseProgram s at) → q ≡ s % 1048576 * 4096 % 4294967296 → p ≡ at % 4294967296 → plan_words d q p ≡ plan_bytes (EraseProgram s at)
words_erase s at hd hq hp =
    let z : s % 1048576 * 4096 % 4294967296 ≡ s * 4096 % 4294967296 = omega arith in
    rw (hd, hq, z, hp, low_bytes (s * 4096), low_bytes at) refl
