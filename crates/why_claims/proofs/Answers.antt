-- The answer of a row, or of what comes after it: rows 1, 3 and 9 to 11 beside the receiver's tests. Assumes nothing.
use Rattle.std.specs.Prelude.{Result, Ok, Err}
use mathlib.Core.Path.{◌≡◌, refl, sym, ap, ◌∙◌}
use mathlib.Core.Bool.{Bool, true, false, cond, not, ◌&&◌, ◌||◌}
use mathlib.Core.List.{List, [], ◌∷◌}
use Prim.Native.Nat.{ℕ, ◌+◌, ◌-◌, ◌*◌, ◌%◌, ◌≤◌}
use native.Mathlib.Omega.{arith}
use lib.Dec.{ltb, leb, eqb}
use borrow.Author.Tests.{leb-true, leb-false, ltb-true, ltb-false, le-leb, lt-leb, le-ltb, lt-ltb}
use Rattle.std.specs.Prelude.{Some, None}
use Rattle.laws.proofs.Tests.{split, clash}
use Rattle.memory.specs.Flash.{flash_length}
use Rattle.uf2_block.specs.declared.Block.{Block}
use Rattle.transfer.specs.Transfer.{good_state}
use Rattle.transfer.specs.declared.Kind.{Kind}
use Rattle.transfer.specs.declared.Kind.TheVariants.{Flash, MainRam, XipRam}
use Rattle.transfer.specs.declared.State.{State}
use Rattle.transfer.specs.declared.State.TheVariants.{Idle, Running, Done}
use Rattle.transfer.specs.declared.Answer.{Answer}
use Rattle.transfer.specs.declared.Answer.TheVariants as answer
use Rattle.uf2_checks.specs.Screen.{base_of, extent_of, in_window, window_of, bad_numbers, bad_address, Window}
use Rattle.uf2_checks.specs.declared.Lengths.{Lengths}
use Rattle.uf2_checks.proofs.Windows.{WindowFacts, window_facts}
use Rattle.arrival.specs.Arrive.{ram_length, right_lengths}
use Rattle.why_causes.specs.Causes.{answer_of}
use Rattle.why_causes.specs.Checks.{by_numbers, row_of, or_next, running_row, done_row, state_row}
use Rattle.why_causes.specs.Lengths.{flash_row, buffer_row, lengths_row}
use Rattle.why_causes.specs.Numbers.{payload_row, numbers_row, address_row, stray_row, window_row}
use Rattle.why_causes.specs.declared.Reason.{Reason}
use Rattle.why_checks.specs.Block.{address_in}

-- the answer of a row that decides, or else y
abbrev pub told : Result (Unit {0}) Reason → Answer → Answer
told (Ok u) y = y
told (Err x) y = answer_of x.cause

pub told_next : (p q : Result (Unit {0}) Reason) (y : Answer) → told (or_next p q) y ≡ told p (told q y)
told_next (Ok u) q y = refl
told_next (Err x) q y = refl

-- a check of the list holds
abbrev pub any_holds : (Reason → Bool) → List Reason → Bool
any_holds test [] = false
any_holds test (c ∷ l) = test c || any_holds test l

-- every check of the list has this answer
abbrev pub AllAnswer : Answer → List Reason → Type 0
AllAnswer x [] = Unit {0}
AllAnswer x (c ∷ l) = (answer_of c.cause ≡ x) × AllAnswer x l

-- a row with one answer
pub row_answer : (test : Reason → Bool) (x : Answer) (l : List Reason) → AllAnswer x l → (y : Answer) → told (row_of test l) y ≡ cond (any_holds test l) x y
unfolding row_of
row_answer test x [] h y = refl
row_answer test x (c ∷ l) h y = by-case (test c) (row_of test l) (row_answer test x l h.1 y)
  where
    by-case : (b : Bool) (r : Result (Unit {0}) Reason) → told r y ≡ cond (any_holds test l) x y → told (cond b (Err c) r) y ≡ cond (b || any_holds test l) x y
    by-case true r k = h.0
    by-case false r k = k

-- where the test of such a row is b
pub row_is : (test : Reason → Bool) (x : Answer) (l : List Reason) → AllAnswer x l → (y : Answer) {b : Bool} → any_holds test l ≡ b → told (row_of test l) y ≡ cond b x y
row_is test x l h y e = row_answer test x l h y ∙ ap (λ (b : Bool). cond b x y) e

-- ---- tests and their opposites

pub not_leb : (a b : ℕ) → ltb a b ≡ not (leb b a)
not_leb a b = split (leb b a) (λ h. le-ltb a b (leb-true b a h) ∙ sym (ap not h)) (λ h. lt-ltb a b (leb-false b a h) ∙ sym (ap not h))

pub not_ltb : (a b : ℕ) → leb a b ≡ not (ltb b a)
not_ltb a b = split (ltb b a) (λ h. lt-leb a b (ltb-true b a h) ∙ sym (ap not h)) (λ h. le-leb a b (ltb-false b a h) ∙ sym (ap not h))

pub neither : (a b : Bool) → not a && not b ≡ not (a || b)
neither true b = refl
neither false b = refl

or_three : (a b c : Bool) → a || (b || (c || false)) ≡ a || b || c
or_three true b c = refl
or_three false true c = refl
or_three false false true = refl
or_three false false false = refl

or_two : (a b : Bool) → a || (b || false) ≡ a || b
or_two true b = refl
or_two false true = refl
or_two false false = refl

pub or_end : (a : Bool) → a || false ≡ a
or_end true = refl
or_end false = refl

two : (a b : Bool) {x y : Bool} → x ≡ not a → y ≡ not b → x || (y || false) ≡ not (a && b)
two a b p q = rw (p, q) (by-case a b)
  where
    by-case : (a b : Bool) → not a || (not b || false) ≡ not (a && b)
    by-case false b = refl
    by-case true false = refl
    by-case true true = refl

three : (a b c : Bool) {x y z : Bool} → x ≡ not a → y ≡ not b → z ≡ not c → x || (y || (z || false)) ≡ not (a && b && c)
three a b c p q r = rw (p, q, r) (by-case a b c)
  where
    by-case : (a b c : Bool) → not a || (not b || (not c || false)) ≡ not (a && b && c)
    by-case false b c = refl
    by-case true false c = refl
    by-case true true false = refl
    by-case true true true = refl

eight : (a f g h m k u v : Bool) {x y z w : Bool} → x ≡ not g → y ≡ not h → z ≡ not u → w ≡ not v
    → not a || (not f || (x || (y || (not m || (not k || (z || (w || false)))))))
    ≡ not (a && (f && g && h) && m && k && u && v)
eight a f g h m k u v p q r t = rw (p, q, r, t) (by-case a f g h m k u v)
  where
    by-case : (a f g h m k u v : Bool) → not a || (not f || (not g || (not h || (not m || (not k || (not u || (not v || false)))))))
        ≡ not (a && (f && g && h) && m && k && u && v)
    by-case false f g h m k u v = refl
    by-case true false g h m k u v = refl
    by-case true true false h m k u v = refl
    by-case true true true false m k u v = refl
    by-case true true true true false k u v = refl
    by-case true true true true true false u v = refl
    by-case true true true true true true false v = refl
    by-case true true true true true true true false = refl
    by-case true true true true true true true true = refl

-- ---- row 1

pub lengths_answer : (a : ℕ) (n : Lengths) (m k : ℕ) (y : Answer)
    → told (row_of by_numbers (lengths_row a n m k)) y ≡ cond (not (right_lengths a n m k)) answer.BadBuffers y
unfolding lengths_row flash_row buffer_row right_lengths flash_length
lengths_answer a n m k y =
    row_is by_numbers answer.BadBuffers (lengths_row a n m k) (refl, (refl, (refl, (refl, (refl, (refl, (refl, (refl, tt)))))))) y
    (eight (eqb a 512) (eqb (n.flash % 4096) 0) (leb 4096 n.flash) (leb n.flash 33554432) (eqb m 16384) (eqb k 1024)
    (ram_length MainRam n.main) (ram_length XipRam n.xip) (not_leb n.flash 4096) (not_leb 33554432 n.flash)
    (neither (eqb n.main 0) (eqb n.main 532480)) (neither (eqb n.xip 0) (eqb n.xip 16384)))

pub flash_answer : (len : ℕ) (y : Answer) → told (row_of by_numbers (flash_row len)) y ≡ cond (not (flash_length len)) answer.BadBuffers y
unfolding flash_row flash_length
flash_answer len y =
    row_is by_numbers answer.BadBuffers (flash_row len) (refl, (refl, (refl, tt))) y
    (three (eqb (len % 4096) 0) (leb 4096 len) (leb len 33554432) refl (not_leb len 4096) (not_leb 33554432 len))

-- ---- row 3

pub state_answer : (t : State) (y : Answer) → told (row_of by_numbers (state_row t)) y ≡ cond (not (good_state t)) answer.BadState y
unfolding state_row running_row done_row good_state row_of
state_answer Idle y = refl
state_answer (Running r) y =
    row_is by_numbers answer.BadState (running_row r) (refl, (refl, (refl, tt))) y
    (three (leb 1 r.count) (ltb r.count r.head.total) (leb r.head.total 131072)
    (not_leb r.count 1) (not_ltb r.head.total r.count) (not_leb 131072 r.head.total))
state_answer (Done g) y =
    row_is by_numbers answer.BadState (done_row g) (refl, (refl, tt)) y
    (two (leb 1 g.total) (leb g.total 131072) (not_leb g.total 1) (not_leb 131072 g.total))

-- ---- rows 9 to 11

pub payload_answer : (size : ℕ) (y : Answer) → told (row_of by_numbers (payload_row size)) y ≡ cond (not (eqb size 256)) answer.BadPayload y
unfolding payload_row
payload_answer size y = row_is by_numbers answer.BadPayload (payload_row size) (refl, tt) y (or_end (not (eqb size 256)))

pub numbers_answer : (size : ℕ) (b : Block) (y : Answer)
    → told (row_of by_numbers (numbers_row b.total b.number size)) y ≡ cond (bad_numbers size b) answer.BadNumbers y
unfolding numbers_row
numbers_answer size b y =
    row_is by_numbers answer.BadNumbers (numbers_row b.total b.number size) (refl, (refl, (refl, tt))) y
    (or_three (eqb b.total 0) (ltb size (b.total * 256)) (leb b.total b.number))

pub address_answer : (size : ℕ) (b : Block) (y : Answer)
    → told (row_of by_numbers (address_row b.address size)) y ≡ cond (bad_address Flash size b) answer.BadAddress y
unfolding address_row
address_answer size b y =
    row_is by_numbers answer.BadAddress (address_row b.address size) (refl, (refl, (refl, tt))) y
    (or_three (ltb b.address (base_of Flash)) (not (eqb (b.address % 256) 0)) (ltb size (b.address - base_of Flash + 256)))

-- an address in no window is in none
pub in_none : (n : Lengths) (x : ℕ) → window_of n x ≡ None → (k : Kind) → in_window n k x ≡ false
in_none n x e = out (window_of n x) e (window_facts n x)
  where
    out : (u : Window) → u ≡ None → WindowFacts n x u → (k : Kind) → in_window n k x ≡ false
    out None e f = f
    out (Some k) e f = let z : ◌≡◌ {A = ℕ} 0 1 = cc in absurd (omega arith)

-- it is below the window of flash, or past it
outside_strays : (n : Lengths) (x : ℕ) → window_of n x ≡ None → ltb x 0x10000000 || leb 0x12000000 x ≡ true
outside_strays n x e =
    split (ltb x 0x10000000) (λ y. rw y)
    (λ z.
    split (leb 0x12000000 x) (λ y. rw (z, y))
    (λ h.
    let low : leb 0x10000000 x ≡ true = le-leb 0x10000000 x (ltb-false x 0x10000000 z) in
    let high : ltb x 0x12000000 ≡ true = lt-ltb x 0x12000000 (leb-false 0x12000000 x h) in
    clash (in_window n Flash x) (rw (low, high)) (in_none n x e Flash)))

-- of an address in no window row 11 always decides
pub stray_answer : (n : Lengths) (b : Block) → window_of n b.address ≡ None → (y : Answer) → told (row_of by_numbers (stray_row b.address)) y ≡ answer.BadAddress
unfolding stray_row
stray_answer n b e y =
    row_is by_numbers answer.BadAddress (stray_row b.address) (refl, (refl, tt)) y (or_two (ltb b.address 0x10000000) (leb 0x12000000 b.address))
    ∙ ap (λ (c : Bool). cond c answer.BadAddress y) (outside_strays n b.address e)

-- past the window's end, counted from 0 or from the window's start
past_end : (x base extent : ℕ) → base ≤ x → ltb (base + extent) (x + 256) ≡ ltb extent (x - base + 256)
past_end x base extent l =
    split (ltb extent (x - base + 256))
    (λ h. let m = ltb-true extent (x - base + 256) h in lt-ltb (base + extent) (x + 256) (omega (arith, m)) ∙ sym h)
    (λ h. let m = ltb-false extent (x - base + 256) h in le-ltb (base + extent) (x + 256) (omega (arith, m)) ∙ sym h)

-- beside its window, whose bytes are the room
pub window_answer : (k : Kind) (size : ℕ) (b : Block) → base_of k ≤ b.address → (k ≡ Flash → ⊥) → size ≡ extent_of k → (y : Answer)
    → told (row_of by_numbers (address_in k b.address size)) y ≡ cond (bad_address k size b) answer.BadAddress y
unfolding address_in window_row
window_answer Flash size b l n e y = absurd (n refl)
window_answer MainRam size b l n e y =
    row_is by_numbers answer.BadAddress (window_row b.address (base_of MainRam + extent_of MainRam)) (refl, tt) y
    (or_end _ ∙ (past_end b.address (base_of MainRam) (extent_of MainRam) l ∙ ap (λ (z : ℕ). ltb z (b.address - base_of MainRam + 256)) (sym e)))
window_answer XipRam size b l n e y =
    row_is by_numbers answer.BadAddress (window_row b.address (base_of XipRam + extent_of XipRam)) (refl, tt) y
    (or_end _ ∙ (past_end b.address (base_of XipRam) (extent_of XipRam) l ∙ ap (λ (z : ℕ). ltb z (b.address - base_of XipRam + 256)) (sym e)))
