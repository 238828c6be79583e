-- The laws of the loop over the pieces. Assumes nothing.
use Prim.Native.Nat.{ℕ, suc, ◌+◌, ◌<◌}
use Rattle.std.specs.Prelude.{Ok}
use mathlib.Core.Path.{◌≡◌, refl, sym, ap, subst, ◌∙◌}
use mathlib.Core.Bool.{true, false, not}
use mathlib.Core.List.{List}
use native.Mathlib.Numerals.{add-one}
use lib.Dec.{eqb}
use borrow.Author.Tests.{eqb-true, not-false}
use Rattle.std.specs.Prelude.{Ok, Err}
use Rattle.laws.specs.Sets.{any}
use Rattle.laws.proofs.Tests.{split, clash}
use Rattle.laws.proofs.Laws.{any_hit, any_all, least_is}
use Rattle.uf2_block.specs.Block.{field_at}
use Rattle.partitions.specs.declared.Settings.{Settings}
use Rattle.placement.specs.Place.{StartsLow}
use Rattle.transfer.specs.declared.Head.{Head}
use Rattle.transfer.specs.declared.State.TheVariants.{Idle}
use Rattle.uf2_checks.specs.Screen.{rooms_of, screen_in, screen_of, screen_at, Screening}
use Rattle.uf2_checks.proofs.Laws.{low_kept}
use Rattle.uf2_checks.specs.declared.Lengths.{Lengths}
use Rattle.uf2_checks.specs.declared.Rooms.{Rooms}
use Rattle.uf2_checks.specs.declared.PlacedBlock.{PlacedBlock}
use Rattle.uf2_known.specs.Judged.{rooms_at, rooms_next}
use Rattle.uf2_known.specs.declared.judged.FamilyRooms.{FamilyRooms}
use Rattle.file_check.specs.Check.{Checked, piece_at, pieces_in, field_in, screened_to, fault_at, is_valid, is_faulty}
use Rattle.file_check.proofs.Sound.{Fine, fine, board_of_lem}
use Rattle.file_check.proofs.Theorems.{empty, empty_start}
use Rattle.file_checking.specs.Pieces.Parts.{Maps, file_head, entered, beside_by, maps_by, screened_by, maps_then, Holds}
use Rattle.file_checking.proofs.piece.Laws.{beside_is, holds_next}
use Rattle.file_checking.specs.Parts.{first_of, Opened, Knows}

-- ---- what the settings say of a family

pub next_kept : (s : Settings) (len f : ℕ) {b k : FamilyRooms} → Knows s len b → k ≡ rooms_next b s len f → k ≡ rooms_at s len f
next_kept s len f {b = b} q e =
    e ∙ split (eqb b.family f)
    (λ y. rw y (q.said ∙ ap (rooms_at s len) (eqb-true _ _ y)))
    (λ z. rw z)

pub knows_next : (s : Settings) (len f : ℕ) {b k : FamilyRooms} → Knows s len b → k ≡ rooms_next b s len f → (StartsLow b.rooms.flash → StartsLow k.rooms.flash) → Knows s len k
knows_next s len f q e l = record { said = next_kept s len f q e ∙ ap (λ (x : FamilyRooms). rooms_at s len x.family) (sym (next_kept s len f q e)); low = l q.low }

pub knows_first : (s : Settings) (len f : ℕ) {r : Rooms} → r ≡ rooms_of s len f → StartsLow r.flash → Knows s len (record { family = f; rooms = r })
knows_first s len f e l = record { said = λ i. record { family = f; rooms = e i }; low = l }

screen_known : (s : Settings) (n : Lengths) (a : List ℕ) {r : Rooms} → r ≡ rooms_of s n.flash (field_at a 28) → StartsLow r.flash → screen_at r n Idle a ≡ screen_of s n Idle a
unfolding screen_at screen_of
screen_known s n a {r} e l = (λ i. screen_in (record { flash = low_kept r.flash l i; ram = r.ram }) n Idle a) ∙ ap (λ (x : Rooms). screen_in x n Idle a) e

-- ---- one piece

maps_valid : (h : Head) (p : PlacedBlock) (f : List ℕ) (i : ℕ) (m : Maps) → is_valid (beside_by h p f i m) ≡ true → maps_by h p f i m ≡ entered p.body p.number m
unfolding maps_by
maps_valid h p f i m q = rw q

module _ (s : Settings) (n : Lengths) (f : List ℕ) {m₀ : Maps} (op : Opened s n f m₀) (i : ℕ) (m : Maps) (h : i < pieces_in f)
    (clean : any i (is_faulty s n f) ≡ false) (held : Holds s n f i m) (k : FamilyRooms) (kept : k ≡ rooms_at s n.flash (field_in f i 28)) (low : StartsLow k.rooms.flash)
    {head : Head} (hd : head ≡ file_head n f) where
  fines : (j : ℕ) → j < i → Fine s n f j
  fines j l = fine s n f j (not-false _ (any_all (is_faulty s n f) i clean j l))

  said : screen_at k.rooms n Idle (piece_at f i) ≡ screen_of s n Idle (piece_at f i)
  said = screen_known s n (piece_at f i) (ap (λ (x : FamilyRooms). x.rooms) kept) low

  by_screening : (x : Screening) → screen_of s n Idle (piece_at f i) ≡ x → screened_by (file_head n f) f i m x ≡ screened_to n f i x
  by_screening (Err x) e = refl
  by_screening (Ok p) e =
      beside_is s n f (empty n) (empty_start n) (board_of_lem s n (empty n) (empty_start n) op.right op.good) i m held h fines p e

  pub found_is : {found : Checked} → found ≡ screened_by head f i m (screen_at k.rooms n Idle (piece_at f i)) → found ≡ fault_at s n f i
  unfolding fault_at
  found_is e = e ∙ (λ t. screened_by (hd t) f i m (said t)) ∙ by_screening (screen_of s n Idle (piece_at f i)) refl

  after : (x : Screening) → screen_of s n Idle (piece_at f i) ≡ x → is_valid (screened_to n f i x) ≡ true → Holds s n f (suc i) (maps_then (file_head n f) f i m x)
  after (Err x) e v = clash false v refl
  after (Ok p) e v =
      let B = board_of_lem s n (empty n) (empty_start n) op.right op.good in
      let q : is_valid (beside_by (file_head n f) p f i m) ≡ true = ap is_valid (beside_is s n f (empty n) (empty_start n) B i m held h fines p e) ∙ v in
      subst (Holds s n f (suc i)) (sym (maps_valid (file_head n f) p f i m q)) (holds_next s n f (empty n) (empty_start n) B i m held h fines p e v)

  pub holds_after : {found : Checked} → found ≡ screened_by head f i m (screen_at k.rooms n Idle (piece_at f i)) → is_valid found ≡ true
      → (m' : Maps) → m' ≡ maps_then head f i m (screen_at k.rooms n Idle (piece_at f i)) → Holds s n f (i + 1) m'
  unfolding fault_at
  holds_after e v m' q =
      let w : is_valid (screened_to n f i (screen_of s n Idle (piece_at f i))) ≡ true = ap is_valid (sym (found_is e)) ∙ v in
      rw add-one
      (subst (Holds s n f (suc i)) (sym (q ∙ (λ t. maps_then (hd t) f i m (said t)))) (after (screen_of s n Idle (piece_at f i)) refl w))

-- ---- the end

pub first_told : (s : Settings) (n : Lengths) (f : List ℕ) (i : ℕ) → i < pieces_in f → any i (is_faulty s n f) ≡ false → {found : Checked} → found ≡ fault_at s n f i
    → is_valid found ≡ false → found ≡ first_of s n f
unfolding first_of
first_told s n f i h clean e z =
    let y : is_faulty s n f i ≡ true = ap (λ (x : Checked). not (is_valid x)) (sym e) ∙ ap not z in
    rw (any_hit (is_faulty s n f) (pieces_in f) i h y, least_is (is_faulty s n f) (pieces_in f) i h clean y) e

pub none_told : (s : Settings) (n : Lengths) (f : List ℕ) → any (pieces_in f) (is_faulty s n f) ≡ false → Ok tt ≡ first_of s n f
unfolding first_of
none_told s n f e = rw e
