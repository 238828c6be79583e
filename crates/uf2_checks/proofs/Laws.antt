-- The screening by cases: the header, the place, and a block beside its place. Assumes nothing.
use mathlib.Core.Path.{◌≡◌, refl, sym, ap, ◌∙◌}
use mathlib.Core.Bool.{Bool, true, false, ◌&&◌, ◌||◌, cond}
use mathlib.Core.List.{List}
use mathlib.Core.Logic.{◌≢◌}
use Prim.Native.Nat.{ℕ, ◌+◌, ◌*◌, ◌<◌, ◌≤◌}
use native.Mathlib.Omega.{arith}
use lib.Dec.{ltb, leb, eqb}
use borrow.Author.Tests.{le-leb, le-ltb, lt-leb, eq-eqb, ne_eqb, ltb-false, leb-false, eqb-false}
use Rattle.std.specs.Prelude.{Option, Some, None, Ok, Err}
use Rattle.laws.proofs.Tests.{split, or_left, or_right}
use Rattle.uf2_block.specs.Block.{header_of, header_number, Header}
use Rattle.uf2_block.specs.declared.Block.{Block}
use Rattle.uf2_block.specs.declared.HeaderError.TheVariants as header
use Rattle.placement.specs.Place.{StartsLow}
use Rattle.placement.specs.declared.Place.{Place}
use Rattle.transfer.specs.Transfer.{head_with}
use Rattle.transfer.specs.declared.Head.{Head}
use Rattle.transfer.specs.declared.Kind.{Kind}
use Rattle.transfer.specs.declared.Kind.TheVariants.{Flash, MainRam, XipRam}
use Rattle.transfer.specs.declared.State.{State}
use Rattle.transfer.specs.declared.State.TheVariants.{Idle, Done}
use Rattle.transfer.specs.declared.Answer.TheVariants.{BadPayload, BadNumbers, BadAddress}
use Rattle.uf2_checks.specs.Screen.{base_of, extent_of, is_lent, in_window, window_of, own_kind, note_kind, room_in, bad_numbers, strayed, noted, window_kind, data_found, note_found, found, after_header, low_place, low_rooms, screen_in, screen_at, screening_number, Screening, Window}
use Rattle.uf2_checks.specs.declared.Lengths.{Lengths}
use Rattle.uf2_checks.specs.declared.Rooms.{Rooms}
use Rattle.uf2_checks.specs.declared.Body.TheVariants.{Note}

-- ---- the window of an address, as the code asks it

-- no sum of the code passes 64 bits
pub window_low : (k : Kind) → base_of k + extent_of k ≤ 0x100000000
window_low Flash = omega arith
window_low MainRam = omega arith
window_low XipRam = omega arith

module _ (n : Lengths) (x : ℕ) where
  pub window_flash : in_window n Flash x ≡ true → window_of n x ≡ Some Flash
  unfolding window_of
  window_flash f = rw f

  module _ (f : in_window n Flash x ≡ false) where
    pub window_main : in_window n MainRam x ≡ true → window_of n x ≡ Some MainRam
    unfolding window_of
    window_main m = rw (f, m)

    module _ (m : in_window n MainRam x ≡ false) where
      pub window_xip : in_window n XipRam x ≡ true → window_of n x ≡ Some XipRam
      unfolding window_of
      window_xip q = rw (f, m, q)

      pub window_none : in_window n XipRam x ≡ false → window_of n x ≡ None
      unfolding window_of
      window_none q = rw (f, m, q)

-- ---- what row 10 leaves

pub record Numbers (size : ℕ) (b : Block) : Type 0 where
  pub some : b.total ≢ 0
  pub room : b.total * 256 ≤ size
  pub below : b.number < b.total

module _ (size : ℕ) (b : Block) where
  pub numbers_right : Numbers size b → bad_numbers size b ≡ false
  numbers_right n =
      rw (ne_eqb b.total 0 n.some, le-ltb size (b.total * 256) n.room, lt-leb b.total b.number n.below)

  pub numbers_false : bad_numbers size b ≡ false → Numbers size b
  numbers_false h =
      let l = or_left (eqb b.total 0 || ltb size (b.total * 256)) (leb b.total b.number) h in
      record {
        some = eqb-false _ _ (or_left (eqb b.total 0) (ltb size (b.total * 256)) l);
        room = ltb-false _ _ (or_right (eqb b.total 0) (ltb size (b.total * 256)) l);
        below = leb-false _ _ (or_right (eqb b.total 0 || ltb size (b.total * 256)) (leb b.total b.number) h);
      }

  -- row 10 by cases, as the code asks it
  pub numbers_wrong : (Numbers size b → ⊥) → true ≡ bad_numbers size b
  numbers_wrong n = split (bad_numbers size b) sym (λ h. absurd (n (numbers_false h)))

  pub numbers_last : b.total ≢ 0 → b.total * 256 ≤ size → leb b.total b.number ≡ bad_numbers size b
  numbers_last n m = rw (ne_eqb b.total 0 n, le-ltb size (b.total * 256) m)

-- ---- a data block in no window

module _ (b : Block) where
  pub strayed_payload : b.size ≢ 256 → strayed b ≡ Err BadPayload
  unfolding strayed
  strayed_payload n = rw (ne_eqb b.size 256 n)

  pub strayed_address : b.size ≡ 256 → strayed b ≡ Err BadAddress
  unfolding strayed
  strayed_address p = rw (eq-eqb b.size 256 p)

-- ---- a comment beside its place

module _ (k : Kind) (size : ℕ) (b : Block) where
  pub noted_numbers : bad_numbers size b ≡ true → noted k size b ≡ Err BadNumbers
  unfolding noted
  noted_numbers h = rw h

  pub noted_passed : bad_numbers size b ≡ false → {g : Head} → g ≡ head_with k b.family b.total
      → Ok (record { head = g; number = b.number; body = Note }) ≡ noted k size b
  unfolding noted
  noted_passed h e = rw (h, e)

-- ---- the kind of a comment while a transfer runs

module _ (n : Lengths) (h : Head) (f total : ℕ) {lent : Bool} (e : lent ≡ is_lent n h.kind) where
  abbrev Own : Bool
  Own = eqb h.family f && eqb h.total total

  pub own_taken : Own && lent ≡ true → own_kind n h f total ≡ h.kind
  own_taken q = ap (λ (c : Bool). cond c h.kind Flash) (ap (λ (x : Bool). Own && x) (sym e) ∙ q)

  pub own_other : Own && lent ≡ false → own_kind n h f total ≡ Flash
  own_other q = ap (λ (c : Bool). cond c h.kind Flash) (ap (λ (x : Bool). Own && x) (sym e) ∙ q)

-- "any other is flash": one to a transfer that is Idle or Done
pub note_idle : (n : Lengths) (b : Block) → note_kind n Idle b ≡ Flash
unfolding note_kind
note_idle n b = refl

pub note_done : (n : Lengths) (g : Head) (b : Block) → note_kind n (Done g) b ≡ Flash
unfolding note_kind
note_done n g b = refl

-- ---- a block

module _ (r : Rooms) (n : Lengths) (t : State) (b : Block) where
  abbrev note_at : Kind → Screening
  note_at k = note_found k (room_in r k) b

  abbrev data_at : Window → Screening
  data_at u = data_found u (room_in r (window_kind u)) b

  pub found_comment : b.comment ≡ true → found r n t b ≡ note_at (note_kind n t b)
  unfolding found
  found_comment h = ap (λ (c : Bool). cond c (note_at (note_kind n t b)) (data_at (window_of n b.address))) h

  pub found_data : b.comment ≡ false → found r n t b ≡ data_at (window_of n b.address)
  unfolding found
  found_data h = ap (λ (c : Bool). cond c (note_at (note_kind n t b)) (data_at (window_of n b.address))) h

  -- as the code goes, call by call
  pub check_comment : b.comment ≡ true → {k : Kind} → k ≡ note_kind n t b → {p : Option Place} → p ≡ room_in r k → {x : Screening} → x ≡ note_found k p b → x ≡ found r n t b
  check_comment h {k} e q y = y ∙ ap (λ (p : Option Place). note_found k p b) q ∙ ap note_at e ∙ sym (found_comment h)

  pub check_window : b.comment ≡ false → {u : Window} → u ≡ window_of n b.address → {k : Kind} → k ≡ window_kind u → {p : Option Place} → p ≡ room_in r k
      → {x : Screening} → x ≡ data_found u p b → x ≡ found r n t b
  check_window h {u} e q i y =
      y ∙ ap (λ (p : Option Place). data_found u p b) (i ∙ ap (room_in r) q) ∙ ap data_at e ∙ sym (found_data h)

-- ---- a place that is handed in

pub low_past : (p : Place) → 0x100000000000 ≤ p.start → low_place (Some p) ≡ None
low_past p h = rw (le-leb 0x100000000000 p.start h)

pub low_kept : (p : Option Place) → StartsLow p → low_place p ≡ p
low_kept None h = refl
low_kept (Some p) h = rw (lt-leb 0x100000000000 p.start h)

-- ---- an arrival

-- a header that is none but a refusal, by its tag
pub refusal_header : (h : Header) → ((b : Block) → h ≢ Ok b) → header_number h ≢ 0
refusal_header (Err header.NotBlock) n = λ e. omega arith
refusal_header (Err header.Container) n = λ e. omega arith
refusal_header (Err header.NoFamily) n = λ e. omega arith
refusal_header (Ok b) n = absurd (n b refl)

module _ (r : Rooms) (n : Lengths) (t : State) (a : List ℕ) where
  pub screen_header : {h : Header} → h ≡ header_of a → {x : Screening} → x ≡ after_header h (found (low_rooms r) n t) → x ≡ screen_at r n t a
  unfolding screen_at screen_in
  screen_header e q = rw (sym e) q

  pub screen_found : (b : Block) → header_of a ≡ Ok b → screen_at r n t a ≡ found (low_rooms r) n t b
  unfolding screen_at screen_in
  screen_found b e = rw e

-- ---- the numbers of the header's refusals are the answers'

pub refusal_number : (h : Header) (next : Block → Screening) → header_number h ≢ 0 → screening_number (after_header h next) ≡ header_number h
refusal_number (Err header.NotBlock) next n = refl
refusal_number (Err header.Container) next n = refl
refusal_number (Err header.NoFamily) next n = refl
refusal_number (Ok b) next n = absurd (n refl)
