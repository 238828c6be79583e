-- A data block beside its place, and the window of its address. Assumes nothing.
use Prim.Native.Nat.{ℕ, ◌+◌, ◌-◌, ◌%◌, ◌<◌, ◌≤◌}
use mathlib.Core.Path.{◌≡◌, refl, sym, ap, ◌∙◌}
use mathlib.Core.Bool.{true, false}
use mathlib.Core.Logic.{◌≢◌}
use native.Mathlib.Omega.{arith}
use borrow.Author.Tests.{le-ltb, eq-eqb, ne_eqb}
use Rattle.std.specs.Prelude.{Some, None, Ok, Err}
use Rattle.laws.proofs.Tests.{split}
use Rattle.uf2_block.specs.declared.Block.{Block}
use Rattle.transfer.specs.Transfer.{head_with}
use Rattle.transfer.specs.declared.Head.{Head}
use Rattle.transfer.specs.declared.Kind.{Kind}
use Rattle.transfer.specs.declared.Kind.TheVariants.{Flash, MainRam, XipRam}
use Rattle.transfer.specs.declared.Answer.TheVariants.{BadPayload, BadNumbers, BadAddress}
use Rattle.uf2_checks.specs.Screen.{base_of, window_of, bad_numbers, bad_address, placed, Window}
use Rattle.uf2_checks.specs.declared.Lengths.{Lengths}
use Rattle.uf2_checks.specs.declared.Body.TheVariants.{Page}
use Rattle.uf2_checks.proofs.Windows.{WindowFacts, window_facts, InRoom, in_room}
use Rattle.uf2_checks.specs.Parts.{alignment_of, addressed, Above}

-- ---- row 11, of an address that is not below its window

pub some_alignment : (k : Kind) → 1 ≤ alignment_of k
some_alignment Flash = omega arith
some_alignment MainRam = omega arith
some_alignment XipRam = omega arith

module _ (size : ℕ) (b : Block) where
  aligned : (k : Kind) → InRoom k size b → b.address % alignment_of k ≡ 0
  aligned Flash r = r.whole refl
  aligned MainRam r = omega arith
  aligned XipRam r = omega arith

  address_right : (k : Kind) → base_of k ≤ b.address → b.address % alignment_of k ≡ 0 → b.address - base_of k + 256 ≤ size → bad_address k size b ≡ false
  address_right Flash l w i =
      rw (
        le-ltb b.address 0x10000000 l,
        eq-eqb (b.address % 256) 0 w,
        le-ltb size (b.address - 0x10000000 + 256) i,
      )
  address_right MainRam l w i = le-ltb size (b.address - 0x20000000 + 256) i
  address_right XipRam l w i = le-ltb size (b.address - 0x13ffc000 + 256) i

module _ (k : Kind) (start size : ℕ) (b : Block) where
  address_true : bad_address k size b ≡ true → addressed k start size b ≡ Err BadAddress
  unfolding addressed
  address_true h = rw h

  address_wrong : (InRoom k size b → ⊥) → addressed k start size b ≡ Err BadAddress
  address_wrong a = split (bad_address k size b) address_true (λ h. absurd (a (in_room k size b h)))

  pub address_ragged : {step : ℕ} → step ≡ alignment_of k → b.address % step ≢ 0 → addressed k start size b ≡ Err BadAddress
  address_ragged e w = address_wrong (λ r. w (ap (λ (m : ℕ). b.address % m) e ∙ aligned size b k r))

  module _ {from : ℕ} (f : from ≡ base_of k) (l : base_of k ≤ b.address) where
    pub address_past : {past : ℕ} → size < past - from → past ≡ b.address + 256 → addressed k start size b ≡ Err BadAddress
    address_past h q = address_wrong (λ r. omega (arith, h, q, f, l, r.inside))

    pub address_passed : {step : ℕ} → step ≡ alignment_of k → b.address % step ≡ 0 → {past : ℕ} → past - from ≤ size → past ≡ b.address + 256
        → {g : Head} → g ≡ head_with k b.family b.total
        → Ok (record { head = g; number = b.number; body = Page (start + (b.address - from)) }) ≡ addressed k start size b
    unfolding addressed
    address_passed e w i q h =
        let whole = sym (ap (λ (m : ℕ). b.address % m) e) ∙ w in
        rw (address_right size b k l whole (omega (arith, f, l, i, q)), h, f)

-- ---- a data block in a window

module _ (k : Kind) (start size : ℕ) (b : Block) where
  pub placed_payload : b.size ≢ 256 → placed k start size b ≡ Err BadPayload
  unfolding placed
  placed_payload n = rw (ne_eqb b.size 256 n)

  module _ (p : b.size ≡ 256) where
    pub placed_numbers : bad_numbers size b ≡ true → placed k start size b ≡ Err BadNumbers
    unfolding placed
    placed_numbers h = rw (eq-eqb b.size 256 p, h)

    pub placed_address : bad_numbers size b ≡ false → placed k start size b ≡ addressed k start size b
    unfolding placed addressed
    placed_address h = rw (eq-eqb b.size 256 p, h)

-- ---- the window of an address

above : (n : Lengths) (x : ℕ) (u : Window) → WindowFacts n x u → Above u x
above n x None f = tt
above n x (Some k) f = f.low

pub window_above : (n : Lengths) (x : ℕ) {u : Window} → u ≡ window_of n x → Above u x
window_above n x e = rw e (above n x (window_of n x) (window_facts n x))
