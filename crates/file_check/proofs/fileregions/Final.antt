-- The final bytes of a region, one by one: the payload of the piece that holds a byte, and 0xFF where none does. Assumes nothing.
use Prim.Native.Nat.{ℕ, zero, suc, ◌+◌, ◌-◌, ◌<◌, ◌≤◌}
use mathlib.Core.Path.{◌≡◌, refl, sym, ap, ◌∙◌}
use mathlib.Core.Logic.{◌≢◌}
use mathlib.Core.Bool.{Bool, true, false, ◌&&◌}
use mathlib.Core.List.{List}
use native.Mathlib.Omega.{arith}
use lib.Dec.{eqb}
use lib.ListN.{length, get_or}
use borrow.Author.Tests.{eqb-true, eqb-false}
use Rattle.laws.proofs.Tests.{split}
use Rattle.memory.specs.Many.{many}
use Rattle.memory.proofs.fill.Laws.{length_many, get_d_many}
use Rattle.memory.specs.Flash.{payload_of, spans, room_at}
use Rattle.memory.proofs.flash.Laws.{room_yes, length_store, get_d_store}
use Rattle.uf2_block.specs.declared.Region.{Region}
use Rattle.file_check.specs.Check.{piece_at, pieces_in, field_in}
use Rattle.file_check.specs.Regions.{inside_of, laid_on, laying, in_turn, final_of}

and_no : (b : Bool) → b && false ≡ false
and_no true = refl
and_no false = refl

module _ (f : List ℕ) (g : Region) where
  abbrev laid : ℕ → List ℕ
  laid n = in_turn (laying f g) (many g.len 255) n

  -- where piece k is put
  abbrev pub spot : ℕ → ℕ
  spot k = field_in f k 12 - g.start

  length_laid : (n : ℕ) → length (laid n) ≡ g.len
  unfolding in_turn laid_on
  length_laid zero = length_many g.len 255
  length_laid (suc n) =
      split (inside_of g (piece_at f n))
      (λ y. rw y (length_store (laid n) (spot n) (payload_of (piece_at f n)) ∙ length_laid n))
      (λ z. rw z (length_laid n))

  -- a piece that does not hold byte j leaves it
  laid_past : (n j : ℕ) → (inside_of g (piece_at f n) ≡ true → spans (spot n) j ≡ false) → get_or (laid (suc n)) j 0 ≡ get_or (laid n) j 0
  unfolding in_turn laid_on
  laid_past n j h =
      split (inside_of g (piece_at f n))
      (λ y.
      let r = room_at (laid n) (spot n) (payload_of (piece_at f n)) in
      let z : r && spans (spot n) j ≡ false = ap (λ (b : Bool). r && b) (h y) ∙ and_no r in
      rw y (get_d_store (laid n) (spot n) (payload_of (piece_at f n)) j ∙ rw z))
      (λ z. rw z)

  laid_free : (n j : ℕ) → j < g.len → ((k : ℕ) → k < n → inside_of g (piece_at f k) ≡ true → spans (spot k) j ≡ false) → get_or (laid n) j 0 ≡ 255
  laid_free zero j l h = unfold in_turn in get_d_many g.len 255 j l
  laid_free (suc n) j l h = laid_past n j (h n (omega arith)) ∙ laid_free n j l (λ k q. h k (omega arith))

  -- the piece that is put last
  put : (k j : ℕ) → inside_of g (piece_at f k) ≡ true → spans (spot k) j ≡ true → length (payload_of (piece_at f k)) ≡ 256 → spot k + 256 ≤ g.len
      → get_or (laid (suc k)) j 0 ≡ get_or (payload_of (piece_at f k)) (j - spot k) 0
  unfolding in_turn laid_on
  put k j y p size room =
      let r = room_yes (laid k) (spot k) (payload_of (piece_at f k)) size (omega (arith, room, length_laid k)) in
      rw y (get_d_store (laid k) (spot k) (payload_of (piece_at f k)) j ∙ rw (r, p))

  laid_owned : (n k j : ℕ) → k < n → inside_of g (piece_at f k) ≡ true → spans (spot k) j ≡ true → length (payload_of (piece_at f k)) ≡ 256 → spot k + 256 ≤ g.len
      → ((m : ℕ) → m < n → m ≢ k → inside_of g (piece_at f m) ≡ true → spans (spot m) j ≡ false) → get_or (laid n) j 0 ≡ get_or (payload_of (piece_at f k)) (j - spot k) 0
  laid_owned zero k j l y p size room h = absurd (omega arith)
  laid_owned (suc n) k j l y p size room h =
      split (eqb k n)
      (λ e. here n k (eqb-true k n e) j y p size room)
      (λ z.
      let d : k ≢ n = eqb-false k n z in
      laid_past n j (h n (omega arith) (λ e. d (sym e))) ∙ laid_owned n k j (omega arith) y p size room (λ m q. h m (omega arith)))
    where
      here : (n k : ℕ) → k ≡ n → (j : ℕ) → inside_of g (piece_at f k) ≡ true → spans (spot k) j ≡ true → length (payload_of (piece_at f k)) ≡ 256 → spot k + 256 ≤ g.len
          → get_or (laid (suc n)) j 0 ≡ get_or (payload_of (piece_at f k)) (j - spot k) 0
      here n k e j y p size room =
          ap (λ (x : ℕ). get_or (laid (suc x)) j 0) (sym e) ∙ put k j y p size room

  pub length_final : length (final_of f g) ≡ g.len
  unfolding final_of
  length_final = length_laid (pieces_in f)

  pub final_free : (j : ℕ) → j < g.len → ((k : ℕ) → k < pieces_in f → inside_of g (piece_at f k) ≡ true → spans (spot k) j ≡ false) → get_or (final_of f g) j 0 ≡ 255
  unfolding final_of
  final_free j l h = laid_free (pieces_in f) j l h

  pub final_owned : (k j : ℕ) → k < pieces_in f → inside_of g (piece_at f k) ≡ true → spans (spot k) j ≡ true → length (payload_of (piece_at f k)) ≡ 256 → spot k + 256 ≤ g.len
      → ((m : ℕ) → m < pieces_in f → m ≢ k → inside_of g (piece_at f m) ≡ true → spans (spot m) j ≡ false) → get_or (final_of f g) j 0 ≡ get_or (payload_of (piece_at f k)) (j - spot k) 0
  unfolding final_of
  final_owned k j l y p size room h = laid_owned (pieces_in f) k j l y p size room h
