-- What is asked of a plan that is told. Assumes nothing.
use Rattle.std.specs.Prelude.{ℕ, ◌*◌, ◌<◌, ◌^◌, cond, List, eqb, length}
use Rattle.flash_plan.specs.declared.Plan.{Plan}
use Rattle.flash_plan.specs.declared.Plan.TheVariants.{Nothing, Program, EraseProgram}
use Rattle.call_bytes.specs.Calls.{plan_bytes}

-- its numbers fit 32 bits, as those of every plan do (proofs/Laws.antt)
abbrev pub Low : Plan → Type 0
Low Nothing = Unit {0}
Low (Program at) = at < 2 ^ 32
Low (EraseProgram q at) = (q * 4096 < 2 ^ 32) × (at < 2 ^ 32)

-- a plan written to bytes: where there are 12, the whole of them
abbrev pub with_plan : List ℕ → Plan → List ℕ
with_plan p x = cond (eqb (length p) 12) (plan_bytes x) p
