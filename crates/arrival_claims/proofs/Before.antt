-- The claims of specs/Before.antt hold. Assumes nothing.
use Prim.Native.Nat.{ℕ, ◌≤◌}
use mathlib.Core.Path.{◌≡◌, refl, sym, ap, subst, ◌∙◌}
use mathlib.Core.Bool.{Bool, true, false, not, cond, ◌&&◌, and-false, and-true}
use mathlib.Core.List.{List}
use native.Mathlib.Omega.{arith}
use lib.Dec.{eqb, ltb}
use lib.ListN.{length}
use borrow.Author.Tests.{ne_eqb}
use Rattle.std.specs.Prelude.{Option, Some, None, Ok, Err}
use Rattle.laws.proofs.Tests.{split, clash}
use Rattle.memory.specs.Bitmap.{marked_in}
use Rattle.uf2_block.specs.Block.{field_at, has_flag, fields_of, header_of, Header}
use Rattle.uf2_block.specs.declared.Block.{Block}
use Rattle.uf2_block.specs.declared.HeaderError.TheVariants as header
use Rattle.memory.specs.Flash.{flash_length, payload_of}
use Rattle.partitions.specs.Settings.{good_settings}
use Rattle.partitions.specs.declared.Settings.{Settings}
use Rattle.placement.specs.Place.{place_of}
use Rattle.placement.specs.declared.Place.{Place}
use Rattle.transfer.specs.Transfer.{number_of, good_state, counted, step_of}
use Rattle.transfer.specs.declared.Kind.{Kind}
use Rattle.transfer.specs.declared.Kind.TheVariants.{Flash, MainRam, XipRam}
use Rattle.transfer.specs.declared.Head.{Head}
use Rattle.transfer.specs.declared.State.{State}
use Rattle.transfer.specs.declared.State.TheVariants.{Idle, Running, Done}
use Rattle.transfer.specs.declared.Answer.{Answer}
use Rattle.transfer.specs.declared.Answer.TheVariants.{BadBuffers, BadSettings, BadState, BadAddress}
use Rattle.uf2_checks.specs.Screen.{is_lent, window_of, note_kind, rooms_of, room_in, bad_numbers, bad_address, placed, strayed, noted, window_kind, data_found, note_found, found, after_header, screen_in, screen_of, screening_number, Screening, Window}
use Rattle.uf2_checks.proofs.Laws.{found_comment, found_data}
use Rattle.uf2_checks.proofs.Windows.{InWindow, WindowFacts, window_facts, outside_bad}
use Rattle.uf2_checks.specs.declared.Lengths.{Lengths}
use Rattle.uf2_checks.specs.declared.Rooms.{Rooms}
use Rattle.arrival.specs.Arrive.{World, Decision, stays, outcome_number, right_lengths, standing, deed_of, stepped, after_screening, decide, decided, accept_of, unchanged, done, receive_of}
use Rattle.arrival.specs.Windows.{lies, kind_of}
use Rattle.arrival_claims.specs.Before.{placed_before, noted_before, found_before, screen_before, decide_before, receive_before, InFlash, strays, WithoutRam, StaysInFlash}
use Rattle.arrival.proofs.Windows.{lies_is}
use Rattle.arrival_claims.proofs.Screening.{Fielded, fielded, flash_of, lens, Board, room_of}
use Rattle.arrival_claims.proofs.DecisionFacts.{right_true, step_late, DecisionFacts, refused, took, decision_facts, raised_count, took_state}

-- ---- rows 4 to 11

-- what changed, of a screening x of a data block or not, in a window or not
abbrev turned : Bool → Bool → Screening → Screening
turned comment inside x = cond (not comment && not inside && eqb (screening_number x) 10) (Err BadAddress) x

turned_comment : (i : Bool) (x : Screening) → turned true i x ≡ x
turned_comment i x = refl

turned_inside : (c : Bool) (x : Screening) → turned c true x ≡ x
turned_inside true x = refl
turned_inside false x = refl

-- no RAM is lent
module _ (n : Lengths) (m : n.main ≡ 0) (p : n.xip ≡ 0) where
  only_flash : (k : Kind) → is_lent n k ≡ true → k ≡ Flash
  only_flash Flash l = refl
  only_flash MainRam l = clash (is_lent n MainRam) l (ap (λ (x : ℕ). not (eqb x 0)) m)
  only_flash XipRam l = clash (is_lent n XipRam) l (ap (λ (x : ℕ). not (eqb x 0)) p)

  note_flash : (t : State) (b : Block) → InFlash t → note_kind n t b ≡ Flash
  unfolding note_kind
  note_flash Idle b f = refl
  note_flash (Running r) b f =
      let c = eqb r.head.family b.family && eqb r.head.total b.total in
      ap (λ (k : Kind). cond (c && is_lent n k) k Flash) f ∙ either (c && true)
    where
      either : (b : Bool) → cond b Flash Flash ≡ Flash
      either true = refl
      either false = refl
  note_flash (Done g) b f = refl

-- a comment
note_before : (q : Option Place) (b : Block) → b.comment ≡ true → note_found Flash q b ≡ found_before q b
unfolding note_found found_before noted noted_before
note_before None b y = refl
note_before (Some p) b y = ap (λ (c : Bool). cond c (noted_before p.len b) (placed_before p.start p.len b)) (sym y)

-- data in the window
data_before : (q : Option Place) (b : Block) → b.comment ≡ false → data_found (Some Flash) q b ≡ found_before q b
unfolding data_found found_before placed placed_before
data_before None b z = refl
data_before (Some p) b z = ap (λ (c : Bool). cond c (noted_before p.len b) (placed_before p.start p.len b)) (sym z)

-- data in no window, beside a place of at most 32 MiB
abbrev Small : Option Place → Type 0
Small None = Unit {0}
Small (Some p) = p.len ≤ 0x2000000

stray_placed : (start size : ℕ) (b : Block) → bad_address Flash size b ≡ true → strayed b ≡ turned false false (placed_before start size b)
unfolding strayed placed_before
stray_placed start size b e =
    split (not (eqb b.size 256))
    (λ y. rw y)
    (λ z. rw z (split (bad_numbers size b) (λ y. rw y) (λ f. rw (f, e))))

stray_before : (n : Lengths) (q : Option Place) (b : Block) → Small q → window_of n b.address ≡ None → b.comment ≡ false
    → data_found None q b ≡ turned false false (found_before q b)
unfolding data_found found_before
stray_before n None b l e z = refl
stray_before n (Some p) b l e z =
    stray_placed p.start p.len b (outside_bad n p.len b e l)
    ∙ ap (λ (c : Bool). turned false false (cond c (noted_before p.len b) (placed_before p.start p.len b))) (sym z)

module _ (s : Settings) (w : World) (a : List ℕ) (m : length w.held.main ≡ 0) (p : length w.held.xip ≡ 0) (f : InFlash w.transfer) (B : Board s w) where
  abbrev here : Option Place
  here = place_of s (flash_of w) (field_at a 28)

  small : (q : Option Place) → here ≡ q → Small q
  small None e = tt
  small (Some p) e = omega (arith, (room_of s w B (field_at a 28) Flash p.start p.len e refl).most)

  abbrev rooms : Rooms
  rooms = rooms_of s (flash_of w) (field_at a 28)

  by_window : (u : Window) → window_of (lens w) (fields_of a).address ≡ u → WindowFacts (lens w) (fields_of a).address u → (fields_of a).comment ≡ false
      → data_found u (room_in rooms (window_kind u)) (fields_of a) ≡ turned false (lies Flash (fields_of a).address) (found_before here (fields_of a))
  by_window None e g z =
      stray_before (lens w) here (fields_of a) (small here refl) e z
      ∙ ap (λ (i : Bool). turned false i (found_before here (fields_of a))) (sym (g Flash))
  by_window (Some k) e g z =
      let k-is : k ≡ Flash = only_flash (lens w) m p k g.lent in
      let i : lies Flash (fields_of a).address ≡ true = inside k k-is g in
      ap (λ (v : Kind). data_found (Some v) (room_in rooms v) (fields_of a)) k-is
      ∙ data_before here (fields_of a) z
      ∙ sym (ap (λ (b : Bool). turned false b (found_before here (fields_of a))) i ∙ turned_inside false (found_before here (fields_of a)))
    where
      inside : (k : Kind) → k ≡ Flash → InWindow (lens w) k (fields_of a).address → lies Flash (fields_of a).address ≡ true
      inside Flash e g = lies_is w (fields_of a).address Flash g.low g.high
      inside MainRam e g = let z : ◌≡◌ {A = ℕ} 0 1 = cc in absurd (omega arith)
      inside XipRam e g = let z : ◌≡◌ {A = ℕ} 0 1 = cc in absurd (omega arith)

  found_before_lem : found rooms (lens w) w.transfer (fields_of a) ≡ turned (fields_of a).comment (lies Flash (fields_of a).address) (found_before here (fields_of a))
  found_before_lem =
      split (fields_of a).comment
      (λ y.
      found_comment rooms (lens w) w.transfer (fields_of a) y
      ∙ ap (λ (k : Kind). note_found k (room_in rooms k) (fields_of a)) (note_flash (lens w) m p w.transfer (fields_of a) f)
      ∙ note_before here (fields_of a) y
      ∙ sym (ap (λ (c : Bool). turned c (lies Flash (fields_of a).address) (found_before here (fields_of a))) y))
      (λ z.
      found_data rooms (lens w) w.transfer (fields_of a) z
      ∙ by_window (window_of (lens w) (fields_of a).address) refl (window_facts (lens w) (fields_of a).address) z
      ∙ sym (ap (λ (c : Bool). turned c (lies Flash (fields_of a).address) (found_before here (fields_of a))) z))

  header_before : (h : Header) → Fielded a h
      → after_header h (found rooms (lens w) w.transfer) ≡ turned (has_flag a 0x1) (lies Flash (field_at a 12)) (after_header h (found_before here))
  header_before (Err header.NotBlock) g = rw (and-false (not (has_flag a 0x1) && not (lies Flash (field_at a 12))))
  header_before (Err header.Container) g = rw (and-false (not (has_flag a 0x1) && not (lies Flash (field_at a 12))))
  header_before (Err header.NoFamily) g = rw (and-false (not (has_flag a 0x1) && not (lies Flash (field_at a 12))))
  header_before (Ok b) g =
      subst (λ (b : Block). found rooms (lens w) w.transfer b ≡ turned (has_flag a 0x1) (lies Flash (field_at a 12)) (found_before here b)) (sym g)
      (found_before_lem ∙ unfold fields_of in refl)

  screen_before_lem : screen_of s (lens w) w.transfer a ≡ turned (has_flag a 0x1) (lies Flash (field_at a 12)) (screen_before s (flash_of w) a)
  unfolding screen_of screen_in screen_before
  screen_before_lem = header_before (header_of a) (fielded a)

-- ---- every row

ten : (w : World) (p : List ℕ) (t : State) (seen : List ℕ) (c : Bool) (x : Screening)
    → eqb (outcome_number (done w p (after_screening t seen c x))) 10 ≡ eqb (screening_number x) 10
unfolding after_screening
ten w p t seen c (Err x) = unfold done in refl
ten w p t seen c (Ok g) =
    let d = deed_of c g in
    let b = marked_in seen g.number in
    let o = outcome_number (done w p (stepped g d (step_of t g.head b d))) in
    ne_eqb o 10 (λ e. omega (arith, step_late w p g d t b))

turn_out : (w : World) (p : List ℕ) (t : State) (seen : List ℕ) (c b : Bool) (x : Screening)
    → done w p (after_screening t seen c (cond b (Err BadAddress) x)) ≡ cond b (unchanged w BadAddress) (done w p (after_screening t seen c x))
turn_out w p t seen c true x = unfold after_screening done in refl
turn_out w p t seen c false x = refl

module _ (s : Settings) (w : World) (a : List ℕ) (m : length w.held.main ≡ 0) (p : length w.held.xip ≡ 0) (f : InFlash w.transfer) where
  abbrev stood : Bool
  stood = standing s w.held.flash a

  abbrev before : Decision
  before = decide_before s (flash_of w) (length w.held.sectors) w.transfer w.seen stood a

  abbrev right_before : Bool
  right_before = eqb (length a) 512 && flash_length (flash_of w) && eqb (length w.seen) 16384 && eqb (length w.held.sectors) 1024

  right_same : right_lengths (length a) (lens w) (length w.seen) (length w.held.sectors) ≡ right_before
  unfolding right_lengths
  right_same = rw (m, p, and-true right_before, and-true right_before)

  -- rows 1 to 3
  stop : (x : Answer) → number_of x ≤ 3 → decided s w a ≡ stays x → before ≡ stays x
      → receive_of s w a ≡ cond (strays s w a) (unchanged w BadAddress) (receive_before s w a)
  unfolding receive_of receive_before done
  stop x n d e = rw (d, e, ne_eqb (number_of x) 10 (λ q. omega arith), and-false (not (has_flag a 0x1) && not (lies Flash (field_at a 12))))

  -- rows 4 on
  go_on : Board s w → decided s w a ≡ after_screening w.transfer w.seen stood (screen_of s (lens w) w.transfer a)
      → before ≡ after_screening w.transfer w.seen stood (screen_before s (flash_of w) a)
      → receive_of s w a ≡ cond (strays s w a) (unchanged w BadAddress) (receive_before s w a)
  unfolding receive_of receive_before
  go_on B d e =
      let y = screen_before s (flash_of w) a in
      let c = not (has_flag a 0x1) && not (lies Flash (field_at a 12)) in
      ap (done w (payload_of a)) (d ∙ ap (after_screening w.transfer w.seen stood) (screen_before_lem s w a m p f B))
      ∙ turn_out w (payload_of a) w.transfer w.seen stood (c && eqb (screening_number y) 10) y
      ∙ rw (e, ten w (payload_of a) w.transfer w.seen stood y)

  pub as_before : receive_of s w a ≡ cond (strays s w a) (unchanged w BadAddress) (receive_before s w a)
  as_before =
      split right_before
      (λ y.
      split (good_settings s (flash_of w))
      (λ g.
      split (good_state w.transfer)
      (λ t.
      let r = right_true (length a) (lens w) (length w.seen) (length w.held.sectors) (right_same ∙ y) in
      let B : Board s w =
      record {
        flash = r.flash;
        seen = r.seen;
        sectors = r.sectors;
        main = r.main;
        xip = r.xip;
        good = g;
        state = t;
      } in
      go_on B (unfold decide in rw (right_same ∙ y, g, t)) (unfold decide_before in rw (y, g, t)))
      (λ t. stop BadState (omega arith) (unfold decide in rw (right_same ∙ y, g, t)) (unfold decide_before in rw (y, g, t))))
      (λ g. stop BadSettings (omega arith) (unfold decide in rw (right_same ∙ y, g)) (unfold decide_before in rw (y, g))))
      (λ z. stop BadBuffers (omega arith) (unfold decide in rw (right_same ∙ z)) (unfold decide_before in rw z))

pub without_ram : WithoutRam
unfolding WithoutRam
without_ram s w a m p f = as_before s w a m p f

-- ---- the transfer that comes back

counted_flash : (g : Head) (c : ℕ) → g.kind ≡ Flash → InFlash (counted g c)
unfolding counted
counted_flash g c e = split (ltb c g.total) (λ y. rw y e) (λ z. rw z tt)

in_flash : (s : Settings) (w : World) (a : List ℕ) {d : Decision} → DecisionFacts s w a d → length w.held.main ≡ 0 → length w.held.xip ≡ 0
    → InFlash w.transfer → InFlash (done w (payload_of a) d).world.transfer
unfolding done accept_of
in_flash s w a (refused x h) m p f = f
in_flash s w a (took g k B l q t) m p f =
    let e : g.head.kind ≡ Flash = ap (λ (h : Head). h.kind) q.head ∙ only_flash (lens w) m p (kind_of w a) q.lent in
    rw (took_state t) (counted_flash g.head (raised_count t) e)

pub stays_in_flash : StaysInFlash
unfolding StaysInFlash receive_of
stays_in_flash s w a m p f = in_flash s w a (decision_facts s w a) m p f
