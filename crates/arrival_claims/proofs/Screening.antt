-- What a screened arrival has: a refusal is one of 4 to 11, and a block that passes has its kind, its numbers, and its page if it is data, in the
-- place of its kind. Assumes nothing.
use Prim.Native.Nat.{ℕ, ◌+◌, ◌-◌, ◌*◌, ◌%◌, ◌<◌, ◌≤◌}
use mathlib.Core.Path.{◌≡◌, refl, sym, ap, subst, ◌∙◌}
use mathlib.Core.Logic.{◌⊎◌, ⊎_elim}
use mathlib.Core.Bool.{Bool, true, false, not, cond, ◌&&◌, ◌||◌}
use mathlib.Core.List.{List}
use native.Mathlib.Omega.{arith}
use lib.Dec.{eqb, ltb}
use lib.ListN.{length}
use borrow.Author.Tests.{eqb-true, not-true}
use Rattle.std.specs.Prelude.{Option, Some, None, Ok, Err}
use Rattle.laws.proofs.Tests.{split, clash, and_right}
use Rattle.uf2_block.specs.Block.{field_at, has_flag, fields_of, flagged_of, header_of, Header}
use Rattle.uf2_block.specs.declared.Block.{Block}
use Rattle.uf2_block.specs.declared.HeaderError.TheVariants as header
use Rattle.memory.specs.Flash.{flash_length, payload_of}
use Rattle.memory.proofs.flash.Laws.{length_right, length_payload}
use Rattle.partitions.specs.declared.Settings.{Settings}
use Rattle.partitions.specs.Settings.{good_settings}
use Rattle.placement.proofs.Laws.{start_is as same_start, len_is}
use Rattle.placement.specs.Place.{whole_if, ram_family, place_from}
use Rattle.placement.specs.declared.Place.{Place}
use Rattle.placement.proofs.Theorems.{place_inside}
use Rattle.transfer.specs.Transfer.{number_of, same_kind, head_with, good_state, counted}
use Rattle.transfer.specs.declared.Kind.{Kind}
use Rattle.transfer.specs.declared.Kind.TheVariants.{Flash, MainRam, XipRam}
use Rattle.transfer.specs.declared.Head.{Head}
use Rattle.transfer.specs.declared.State.{State}
use Rattle.transfer.specs.declared.State.TheVariants.{Idle, Running, Done}
use Rattle.uf2_checks.specs.Screen.{extent_of, is_lent, window_of, note_kind, rooms_of, room_in, bad_numbers, bad_address, placed, strayed, noted, window_kind, data_found, note_found, found, after_header, screen_in, screen_of, Screening, Window}
use Rattle.uf2_checks.proofs.Laws.{numbers_false, found_comment, found_data}
use Rattle.uf2_checks.proofs.Windows.{InWindow, WindowFacts, window_facts, in_room}
use Rattle.transfer.specs.declared.Deed.TheVariants.{Stores, Notes, Keeps}
use Rattle.uf2_checks.specs.declared.Lengths.{Lengths}
use Rattle.uf2_checks.specs.declared.Rooms.{Rooms}
use Rattle.uf2_checks.specs.declared.Body.TheVariants.{Page, Note}
use Rattle.uf2_checks.specs.declared.PlacedBlock.{PlacedBlock}
use Rattle.arrival.specs.Arrive.{World, buffer_of, lengths_of, ram_length, deed_of}
use Rattle.arrival.specs.Windows.{window_start, window_end, kind_of}
use Rattle.arrival.specs.File.{is_found, start_of, origin_of}
use Rattle.arrival.proofs.Windows.{start_is, end_is, data_kind_lem, data_window, comment_kind_lem}
use Rattle.arrival.proofs.Paged.{Fits}

-- ---- a header that yields a block yields the arrival's fields

abbrev pub Fielded : List ℕ → Header → Type 0
Fielded a (Err header.NotBlock) = Unit {0}
Fielded a (Err header.Container) = Unit {0}
Fielded a (Err header.NoFamily) = Unit {0}
Fielded a (Ok b) = b ≡ fields_of a

pub fielded : (a : List ℕ) → Fielded a (header_of a)
unfolding header_of flagged_of
fielded a =
    split (not (eqb (field_at a 0) 0x0A324655)) (λ y. rw y tt)
    (λ z. rw z (split (not (eqb (field_at a 4) 0x9E5D5157)) (λ y. rw y tt)
    (λ z. rw z (split (not (eqb (field_at a 508) 0x0AB16F30)) (λ y. rw y tt)
    (λ z. rw z (split (has_flag a 0x1000) (λ y. rw y tt)
    (λ z. rw z (split (not (has_flag a 0x2000)) (λ y. rw y tt) (λ z. rw z refl)))))))))

pub comment_is : (a : List ℕ) → (fields_of a).comment ≡ has_flag a 0x1
unfolding fields_of
comment_is a = refl

-- ---- what rows 1 to 3 leave

abbrev pub flash_of : World → ℕ
flash_of w = length w.held.flash

abbrev pub lens : World → Lengths
lens w = lengths_of w.held

-- settings, buffers and transfer that pass rows 1 to 3
pub record Board (s : Settings) (w : World) : Type 0 where
  pub flash : flash_length (flash_of w) ≡ true
  pub seen : length w.seen ≡ 16384
  pub sectors : length w.held.sectors ≡ 1024
  pub main : ram_length MainRam (length w.held.main) ≡ true
  pub xip : ram_length XipRam (length w.held.xip) ≡ true
  pub good : good_settings s (flash_of w) ≡ true
  pub state : good_state w.transfer ≡ true

-- a RAM buffer that is lent has its window's length
ram_whole : (k : Kind) (n : ℕ) → ram_length k n ≡ true → not (eqb n 0) ≡ true → n ≡ extent_of k
ram_whole k n e l = eqb-true n (extent_of k) (second (eqb n 0) (eqb n (extent_of k)) e (not-true (eqb n 0) l))
  where
    second : (a b : Bool) → a || b ≡ true → a ≡ false → b ≡ true
    second true b e z = clash true refl z
    second false b e z = e

-- ---- rows 8 to 11 of the arrival's fields

-- what the settings say of the arrival's family
abbrev pub rooms_for : Settings → World → List ℕ → Rooms
rooms_for s w a = rooms_of s (flash_of w) (field_at a 28)

-- the address of a data block of kind k that passes, in a place of `size` bytes
pub record Paging (a : List ℕ) (k : Kind) (size : ℕ) : Type 0 where
  pub low : window_start k ≤ field_at a 12
  pub high : field_at a 12 < window_end k
  pub aligned : k ≡ Flash → field_at a 12 % 256 ≡ 0
  pub ends : field_at a 12 - window_start k + 256 ≤ size

-- g is what an arrival a of kind k comes to that passes rows 4 to 11
pub record PassingAs (s : Settings) (w : World) (a : List ℕ) (g : PlacedBlock) (k : Kind) : Type 0 where
  pub start : ℕ
  pub size : ℕ
  pub place : room_in (rooms_for s w a) k ≡ Some (place_from start size)
  pub lent : is_lent (lens w) k ≡ true
  pub head : g.head ≡ head_with k (field_at a 28) (field_at a 24)
  pub number : g.number ≡ field_at a 20
  pub body : g.body ≡ cond (has_flag a 0x1) Note (Page (start + (field_at a 12 - window_start k)))
  pub page : has_flag a 0x1 ≡ false → Paging a k size
  pub below : field_at a 20 < field_at a 24
  pub room : field_at a 24 * 256 ≤ size

-- of the kind that it has where it comes
abbrev pub Passing : Settings → World → List ℕ → PlacedBlock → Type 0
Passing s w a g = PassingAs s w a g (kind_of w a)

abbrev pub Good : Settings → World → List ℕ → Screening → Type 0
Good s w a (Err x) = (4 ≤ number_of x) × (number_of x ≤ 11)
Good s w a (Ok g) = Passing s w a g

note_lent : (n : Lengths) (t : State) (b : Block) → is_lent n (note_kind n t b) ≡ true
unfolding note_kind
note_lent n Idle b = refl
note_lent n (Running r) b =
    split (eqb r.head.family b.family && eqb r.head.total b.total && is_lent n r.head.kind)
    (λ y. rw y (and_right (eqb r.head.family b.family && eqb r.head.total b.total) (is_lent n r.head.kind) y))
    (λ z. rw z)
note_lent n (Done g) b = refl

module _ (s : Settings) (w : World) (a : List ℕ) where
  good_cond : (b : Bool) (x y : Screening) → Good s w a x → (b ≡ false → Good s w a y) → Good s w a (cond b x y)
  good_cond true x y p q = p
  good_cond false x y p q = q refl

  -- of a data block
  module _ (z : has_flag a 0x1 ≡ false) where
    pub kind_window : kind_of w a ≡ window_kind (window_of (lens w) (fields_of a).address)
    unfolding kind_of fields_of
    kind_window = rw z (data_window w (field_at a 12) (window_of (lens w) (field_at a 12)) (window_facts (lens w) (field_at a 12)))

    kind-data : (k : Kind) → InWindow (lens w) k (field_at a 12) → kind_of w a ≡ k
    unfolding kind_of
    kind-data k f = rw z (data_kind_lem w (field_at a 12) k f)

    placed-good : (k : Kind) (start size : ℕ) → InWindow (lens w) k (field_at a 12) → room_in (rooms_for s w a) k ≡ Some (place_from start size)
        → Good s w a (placed k start size (fields_of a))
    unfolding placed fields_of
    placed-good k start size f e =
        good_cond (not (eqb (field_at a 16) 256)) _ _ (omega arith, omega arith)
        (λ e9.
        good_cond (bad_numbers size (fields_of a)) _ _ (omega arith, omega arith)
        (λ e10.
        good_cond (bad_address k size (fields_of a)) _ _ (omega arith, omega arith)
        (λ e11.
        let n = numbers_false size (fields_of a) e10 in
        let x = in_room k size (fields_of a) e11 in
        let i = start_is k in
        rw (kind-data k f)
        (record {
          start = start;
          size = size;
          place = e;
          lent = f.lent;
          head = refl;
          number = refl;
          body = rw (z, i);
          page = λ q. record { low = omega (arith, i, f.low); high = omega (arith, end_is k, f.high); aligned = x.whole; ends = omega (arith, i, x.inside) };
          below = n.below;
          room = n.room;
        }))))

    strayed-good : Good s w a (strayed (fields_of a))
    unfolding strayed
    strayed-good = good_cond (not (eqb (fields_of a).size 256)) (Err _) (Err _) (omega arith, omega arith) (λ e. (omega arith, omega arith))

    data-good : (u : Window) → WindowFacts (lens w) (field_at a 12) u → (p : Option Place) → room_in (rooms_for s w a) (window_kind u) ≡ p
        → Good s w a (data_found u p (fields_of a))
    unfolding data_found
    data-good u f None e = (omega arith, omega arith)
    data-good None f (Some p) e = strayed-good
    data-good (Some k) f (Some p) e = placed-good k p.start p.len f e

  -- of a comment
  module _ (y : has_flag a 0x1 ≡ true) where
    pub kind_note : kind_of w a ≡ note_kind (lens w) w.transfer (fields_of a)
    unfolding kind_of
    kind_note = rw y (sym (comment_kind_lem w a w.transfer))

    note-good : (k : Kind) → kind_of w a ≡ k → is_lent (lens w) k ≡ true → (p : Option Place) → room_in (rooms_for s w a) k ≡ p → Good s w a (note_found k p (fields_of a))
    unfolding note_found noted fields_of
    note-good k q l None e = (omega arith, omega arith)
    note-good k q l (Some p) e =
        good_cond (bad_numbers p.len (fields_of a)) _ _ (omega arith, omega arith)
        (λ e10.
        let n = numbers_false p.len (fields_of a) e10 in
        rw q
        (record {
          start = p.start;
          size = p.len;
          place = e;
          lent = l;
          head = refl;
          number = refl;
          body = rw y;
          page = λ z. clash (has_flag a 0x1) y z;
          below = n.below;
          room = n.room;
        }))

  found_good : Good s w a (found (rooms_for s w a) (lens w) w.transfer (fields_of a))
  found_good =
      split (has_flag a 0x1)
      (λ y.
      let k = note_kind (lens w) w.transfer (fields_of a) in
      subst (Good s w a) (sym (found_comment (rooms_for s w a) (lens w) w.transfer (fields_of a) (comment_is a ∙ y)))
      (note-good y k (kind_note y) (note_lent (lens w) w.transfer (fields_of a)) (room_in (rooms_for s w a) k) refl))
      (λ z.
      let u = window_of (lens w) (fields_of a).address in
      subst (Good s w a) (sym (found_data (rooms_for s w a) (lens w) w.transfer (fields_of a) (comment_is a ∙ z)))
      (data-good z u facts (room_in (rooms_for s w a) (window_kind u)) refl))
    where
      facts : WindowFacts (lens w) (field_at a 12) (window_of (lens w) (fields_of a).address)
      facts = unfold fields_of in window_facts (lens w) (field_at a 12)

  header_good : (h : Header) → Fielded a h → Good s w a (after_header h (found (rooms_for s w a) (lens w) w.transfer))
  header_good (Err header.NotBlock) f = (omega arith, omega arith)
  header_good (Err header.Container) f = (omega arith, omega arith)
  header_good (Err header.NoFamily) f = (omega arith, omega arith)
  header_good (Ok b) f =
      subst (λ (b : Block). Good s w a (found (rooms_for s w a) (lens w) w.transfer b)) (sym f) found_good

  pub screen_good : Good s w a (screen_of s (lens w) w.transfer a)
  unfolding screen_of screen_in
  screen_good = header_good (header_of a) (fielded a)

-- ---- the transfer is asked for the kind of a comment alone

-- as the claims say it: the header yields a block
pub header_turn : (r : Rooms) (n : Lengths) (t u : State) (a : List ℕ) (h : Header) → Fielded a h
    → (is_found h ≡ true → has_flag a 0x1 ≡ true → note_kind n t (fields_of a) ≡ note_kind n u (fields_of a))
    → after_header h (found r n t) ≡ after_header h (found r n u)
header_turn r n t u a (Err header.NotBlock) f e = refl
header_turn r n t u a (Err header.Container) f e = refl
header_turn r n t u a (Err header.NoFamily) f e = refl
header_turn r n t u a (Ok b) f e =
    subst (λ (b : Block). found r n t b ≡ found r n u b) (sym f)
    (split (has_flag a 0x1)
    (λ y.
    found_comment r n t (fields_of a) (comment_is a ∙ y)
    ∙ ap (λ (k : Kind). note_found k (room_in r k) (fields_of a)) (e refl y)
    ∙ sym (found_comment r n u (fields_of a) (comment_is a ∙ y)))
    (λ z. found_data r n t (fields_of a) (comment_is a ∙ z) ∙ sym (found_data r n u (fields_of a) (comment_is a ∙ z))))

pub screen_turn : (s : Settings) (n : Lengths) (t u : State) (a : List ℕ)
    → (is_found (header_of a) ≡ true → has_flag a 0x1 ≡ true → note_kind n t (fields_of a) ≡ note_kind n u (fields_of a))
    → screen_of s n t a ≡ screen_of s n u a
unfolding screen_of screen_in
screen_turn s n t u a e = header_turn (rooms_of s n.flash (field_at a 28)) n t u a (header_of a) (fielded a) e

-- a comment stays one of flash while a transfer of head g goes on, where that is flash's or has another family or total
pub note_counted : (n : Lengths) (g : Head) (c : ℕ) (a : List ℕ) → (g.kind ≡ Flash) ⊎ (eqb g.family (field_at a 28) && eqb g.total (field_at a 24) ≡ false)
    → note_kind n (counted g c) (fields_of a) ≡ Flash
unfolding counted note_kind fields_of
note_counted n g c a o =
    split (ltb c g.total)
    (λ y.
    rw y
    (⊎_elim
    (λ (e : g.kind ≡ Flash).
    ap (λ (k : Kind). cond (eqb g.family (field_at a 28) && eqb g.total (field_at a 24) && is_lent n k) k Flash) e
    ∙ either (eqb g.family (field_at a 28) && eqb g.total (field_at a 24) && true))
    (λ e. rw e) o))
    (λ z. rw z)
  where
    either : (b : Bool) → cond b Flash Flash ≡ Flash
    either true = refl
    either false = refl

-- ---- the place of a kind, with rows 1 to 3 passed

-- so many bytes from `start` on of the buffer of kind k
pub record Room (w : World) (k : Kind) (start size : ℕ) : Type 0 where
  pub whole : k ≡ Flash → (start % 4096 ≡ 0) × (size % 4096 ≡ 0)
  pub within : start + size ≤ length (buffer_of k w.held)
  pub most : size ≤ 33554432
  pub ends : window_start k + size ≤ window_end k

pub whole_is : (b : Bool) (n start size : ℕ) → whole_if b n ≡ Some (place_from start size) → (start ≡ 0) × (size ≡ n)
whole_is true n start size e = (sym (same_start e), sym (len_is e))
whole_is false n start size e = let z : ◌≡◌ {A = ℕ} 0 1 = cc in absurd (omega arith)

module _ (s : Settings) (w : World) (B : Board s w) (f : ℕ) where
  pub room_of : (k : Kind) (start size : ℕ) → room_in (rooms_of s (flash_of w) f) k ≡ Some (place_from start size) → is_lent (lens w) k ≡ true → Room w k start size
  room_of Flash start size e l =
      let i = place_inside s (flash_of w) f B.flash B.good start size e in
      let m = (length_right (flash_of w) B.flash).most in
      record { whole = λ q. (i.0, i.1); within = i.2; most = omega (arith, i.2, m); ends = omega (arith, i.2, m) }
  room_of MainRam start size e l =
      let i = whole_is (ram_family s f) 532480 start size e in
      record {
        whole = λ q. let z : ◌≡◌ {A = ℕ} 0 1 = cc in absurd (omega arith);
        within = omega (arith, i, ram_whole MainRam (length w.held.main) B.main l);
        most = omega (arith, i);
        ends = omega (arith, i);
      }
  room_of XipRam start size e l =
      let i = whole_is (ram_family s f) 16384 start size e in
      record {
        whole = λ q. let z : ◌≡◌ {A = ℕ} 0 1 = cc in absurd (omega arith);
        within = omega (arith, i, ram_whole XipRam (length w.held.xip) B.xip l);
        most = omega (arith, i);
        ends = omega (arith, i);
      }

  -- it starts where the claims say
  pub room_origin : (k : Kind) (start size : ℕ) → room_in (rooms_of s (flash_of w) f) k ≡ Some (place_from start size) → start ≡ origin_of s w k f
  room_origin Flash start size e = sym (ap start_of e)
  room_origin MainRam start size e = (whole_is (ram_family s f) 532480 start size e).0
  room_origin XipRam start size e = (whole_is (ram_family s f) 16384 start size e).0

-- ---- with rows 1 to 3 passed

module _ (s : Settings) (w : World) (a : List ℕ) (g : PlacedBlock) (p : Passing s w a g) (B : Board s w) where
  pub passing_room : Room w (kind_of w a) p.start p.size
  passing_room = room_of s w B (field_at a 28) (kind_of w a) p.start p.size p.place p.lent

  -- its total has room in the seen map
  pub passing_few : field_at a 24 ≤ 131072
  passing_few = omega (arith, passing_room.most, p.room)

  -- of a data block
  module _ (z : has_flag a 0x1 ≡ false) where
    -- its storage address
    abbrev pub pageAt : ℕ
    pageAt = p.start + (field_at a 12 - window_start (kind_of w a))

    pub passing_body : g.body ≡ Page pageAt
    passing_body = p.body ∙ rw z

    pub passing_fits : length a ≡ 512 → Fits (kind_of w a) (length (buffer_of (kind_of w a) w.held)) pageAt (payload_of a)
    passing_fits l =
        let i = passing_room in
        let y = p.page z in
        record {
          aligned = λ e. multiple (kind_of w a) e (i.whole e).0 (y.aligned e) y.low;
          within = omega (arith, i.within, y.ends);
          full = length_payload a (omega arith);
        }
      where
        multiple : (k : Kind) → k ≡ Flash → p.start % 4096 ≡ 0 → field_at a 12 % 256 ≡ 0 → window_start k ≤ field_at a 12
            → (p.start + (field_at a 12 - window_start k)) % 256 ≡ 0
        multiple Flash e x y l = omega (arith, x, y, l)
        multiple MainRam e x y l = let z : ◌≡◌ {A = ℕ} 0 1 = cc in absurd (omega arith)
        multiple XipRam e x y l = let z : ◌≡◌ {A = ℕ} 0 1 = cc in absurd (omega arith)

  -- a comment holds no page
  pub passing_note : has_flag a 0x1 ≡ true → g.body ≡ Note
  passing_note y = p.body ∙ rw y

-- what it does once it is accepted, where what it would store stands or not
pub passing_deed : (s : Settings) (w : World) (a : List ℕ) (g : PlacedBlock) → Passing s w a g → (b : Bool)
    → deed_of b g ≡ cond (has_flag a 0x1) Notes (cond (same_kind (kind_of w a) Flash && b) Keeps Stores)
passing_deed s w a g p b =
    let e : g.head.kind ≡ kind_of w a = ap (λ (h : Head). h.kind) p.head in
    split (has_flag a 0x1)
    (λ y. let n : g.body ≡ Note = p.body ∙ rw y in rw (n, y))
    (λ z. let n : g.body ≡ Page (p.start + (field_at a 12 - window_start (kind_of w a))) = p.body ∙ rw z in rw (n, z, e))
