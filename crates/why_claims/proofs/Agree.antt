-- Rows 2, 4 to 8 and all of them beside the receiver's. Assumes nothing.
use Rattle.std.specs.Prelude.{Option, None, Some, Result, Ok, Err}
use mathlib.Core.Path.{◌≡◌, refl, sym, ap, ◌∙◌}
use mathlib.Core.Bool.{Bool, true, false, cond, not, ◌&&◌}
use mathlib.Core.List.{List, ◌++◌}
use Prim.Native.Nat.{ℕ, ◌+◌, ◌-◌, ◌≤◌}
use native.Mathlib.Omega.{arith}
use lib.Dec.{eqb}
use lib.ListN.{length}
use Rattle.std.specs.Prelude.{Option, Some, None, Ok, Err}
use Rattle.laws.proofs.Tests.{is_false}
use Rattle.memory.specs.Bitmap.{marked_in}
use Rattle.uf2_block.specs.Block.{field_at, has_flag, fields_of, flagged_of, header_of}
use Rattle.uf2_block.specs.declared.Block.{Block}
use Rattle.uf2_block.specs.declared.HeaderError.TheVariants as header
use Rattle.partitions.specs.Settings.{good_settings}
use Rattle.partitions.specs.declared.Settings.{Settings}
use Rattle.placement.specs.Place.{whole_if, place_of, ram_family, place_from}
use Rattle.placement.specs.declared.Place.{Place}
use Rattle.transfer.specs.Transfer.{same_kind, head_with, good_state}
use Rattle.transfer.specs.declared.Kind.{Kind}
use Rattle.transfer.specs.declared.Kind.TheVariants.{Flash, MainRam, XipRam}
use Rattle.transfer.specs.declared.State.{State}
use Rattle.transfer.specs.declared.Answer.{Answer}
use Rattle.transfer.specs.declared.Answer.TheVariants as answer
use Rattle.uf2_checks.specs.Screen.{base_of, extent_of, window_of, window_kind, note_kind, rooms_of, room_in, bad_numbers, bad_address, placed_at, placed, strayed, noted, data_found, note_found, found, after_header, screen_in, screen_of, Screening, Window}
use Rattle.uf2_checks.specs.declared.Lengths.{Lengths}
use Rattle.uf2_checks.specs.declared.Body.TheVariants.{Page, Note}
use Rattle.uf2_checks.proofs.Windows.{WindowFacts, window_facts}
use Rattle.arrival.specs.Arrive.{World, stays, lengths_of, right_lengths, stands_at, standing, after_screening, decide, forecast_of, look_of}
use Rattle.why_settings.specs.Faults.{first_fault}
use Rattle.why_settings.proofs.Theorems.{sound_is_good}
use Rattle.why_place.specs.Placing.{flash_access, ram_access}
use Rattle.why_place.proofs.Theorems.{granted_is_placed, granted_is_for_ram}
use Rattle.why_causes.specs.Causes.{answer_of, reason_with}
use Rattle.why_causes.specs.Checks.{by_numbers, row_of, or_next, or_last, state_row, magic_row, flags_row, header_row}
use Rattle.why_causes.specs.Lengths.{lengths_row}
use Rattle.why_causes.specs.Numbers.{payload_row, numbers_row, stray_row}
use Rattle.why_causes.specs.declared.Magic.TheVariants.{First, Second, Last}
use Rattle.why_causes.specs.declared.Cause.TheVariants.{NotBlock, Container, NoFamily}
use Rattle.why_causes.specs.declared.Reason.{Reason}
use Rattle.why_causes.proofs.Rows.{rows_next}
use Rattle.why_checks.specs.Block.{start_at, size_at, room_of, address_in, page_row, kind_of, body_row, raised_of}
use Rattle.why_checks.specs.Parts.{fate_part, written_part}
use Rattle.why.specs.Why.{block_kind, head_in, place_in, last_of, reason_of}
use Rattle.why.specs.Parts.{finding_row, access_row, access_in, board_part, early_part, block_part}
use Rattle.why.proofs.Rows.{reason_parts}
use Rattle.why_claims.proofs.Answers.{told, told_next, lengths_answer, state_answer, payload_answer, numbers_answer, address_answer, stray_answer, window_answer}
use Rattle.why_claims.proofs.Steps.{settled, settled_refused, note_late, page_late}
use Rattle.why_settings.specs.declared.Fault.{Fault}
use Rattle.why_place.specs.declared.Denial.{Denial}

-- ---- row 2

pub finding_answer : (s : Settings) (len : ℕ) (y : Answer)
    → told (finding_row s len (first_fault s len)) y ≡ cond (not (good_settings s len)) answer.BadSettings y
finding_answer s len y = by-case (first_fault s len) refl
  where
    by-case : (x : Option Fault) → first_fault s len ≡ x → told (finding_row s len x) y ≡ cond (not (good_settings s len)) answer.BadSettings y
    by-case None e = sym (ap (λ (b : Bool). cond (not b) answer.BadSettings y) ((sound_is_good s len).0 e))
    by-case (Some x) e =
        sym
        (ap (λ (b : Bool). cond (not b) answer.BadSettings y)
        (is_false (good_settings s len) (λ g. let f : first_fault s len ≡ None = (sound_is_good s len).1 g in let z : ◌≡◌ {A = ℕ} 0 1 = cc in omega arith)))

-- ---- rows 4 to 7

module _ (t : State) (seen : List ℕ) (kept : Bool) (next : Block → Screening) where
  by_header : (m1 m2 m3 c f : Bool) (b : Block) (x1 x2 x3 flags : ℕ)
      → told
      (or_next
      (cond (not m1) (Err (reason_with (NotBlock First) x1 0x0A324655))
      (cond (not m2) (Err (reason_with (NotBlock Second) x2 0x9E5D5157))
      (cond (not m3) (Err (reason_with (NotBlock Last) x3 0x0AB16F30)) (Ok tt))))
      (cond c (Err (reason_with Container flags 0x1000)) (cond (not f) (Err (reason_with NoFamily flags 0x2000)) (Ok tt))))
      (settled t seen kept (next b))
      ≡ settled t seen kept
      (after_header
      (cond (not m1) (Err header.NotBlock)
      (cond (not m2) (Err header.NotBlock)
      (cond (not m3) (Err header.NotBlock)
      (cond c (Err header.Container) (cond (not f) (Err header.NoFamily) (Ok b))))))
      next)
  unfolding after_screening
  by_header false m2 m3 c f b x1 x2 x3 flags = refl
  by_header true false m3 c f b x1 x2 x3 flags = refl
  by_header true true false c f b x1 x2 x3 flags = refl
  by_header true true true true f b x1 x2 x3 flags = refl
  by_header true true true false false b x1 x2 x3 flags = refl
  by_header true true true false true b x1 x2 x3 flags = refl

  pub header_answer : (a : List ℕ) → told (row_of by_numbers (header_row a)) (settled t seen kept (next (fields_of a))) ≡ settled t seen kept (after_header (header_of a) next)
  unfolding row_of header_row magic_row flags_row header_of flagged_of
  header_answer a =
      ap (λ (r : Result (Unit {0}) Reason). told r (settled t seen kept (next (fields_of a)))) (rows_next by_numbers (magic_row (field_at a 0) (field_at a 4) (field_at a 508)) (flags_row (field_at a 8)))
      ∙ by_header (eqb (field_at a 0) 0x0A324655) (eqb (field_at a 4) 0x9E5D5157) (eqb (field_at a 508) 0x0AB16F30) (has_flag a 0x1000) (has_flag a 0x2000)
      (fields_of a) (field_at a 0) (field_at a 4) (field_at a 508) (field_at a 8)

-- ---- row 8

-- a family that is shut out has no place, and one that is not has some
module _ (s : Settings) (len f : ℕ) (y : Answer) where
  pub flash_denied : place_of s len f ≡ None → told (access_row f (flash_access s f)) y ≡ answer.NoPlace
  flash_denied e = by-case (flash_access s f) refl
    where
      by-case : (x : Result (Unit {0}) Denial) → flash_access s f ≡ x → told (access_row f x) y ≡ answer.NoPlace
      by-case (Ok u) h = absurd ((granted_is_placed s len f).0 h e)
      by-case (Err x) h = refl

  pub flash_open : {start size : ℕ} → place_of s len f ≡ Some (place_from start size) → told (access_row f (flash_access s f)) y ≡ y
  flash_open {start} {size} e =
      ap (λ (x : Result (Unit {0}) Denial). told (access_row f x) y)
      ((granted_is_placed s len f).1 (λ h. let q : None ≡ Some (place_from start size) = sym h ∙ e in let z : ◌≡◌ {A = ℕ} 0 1 = cc in omega arith))

module _ (s : Settings) (f : ℕ) (y : Answer) where
  pub ram_answer : told (access_row f (ram_access s f)) y ≡ cond (ram_family s f) y answer.NoPlace
  ram_answer = by-case (ram_access s f) refl
    where
      by-case : (x : Result (Unit {0}) Denial) → ram_access s f ≡ x → told (access_row f x) y ≡ cond (ram_family s f) y answer.NoPlace
      by-case (Ok u) h = sym (ap (λ (b : Bool). cond b y answer.NoPlace) ((granted_is_for_ram s f).0 h))
      by-case (Err x) h =
          sym
          (ap (λ (b : Bool). cond b y answer.NoPlace)
          (is_false (ram_family s f) (λ g. let q : ram_access s f ≡ Ok tt = (granted_is_for_ram s f).1 g in let z : ◌≡◌ {A = ℕ} 0 1 = cc in omega arith)))

-- ---- rows 8 to 11

module _ (s : Settings) (n : Lengths) (t : State) (seen flash a : List ℕ) (kept : Bool) (b : Block) where
  settled_if : (c : Bool) (x : Answer) (q : Screening) → cond c x (settled t seen kept q) ≡ settled t seen kept (cond c (Err x) q)
  settled_if true x q = sym (settled_refused t seen kept x)
  settled_if false x q = refl

  -- two and three rows that compare numbers
  told_two : (l m : List Reason) (y : Answer) → told (row_of by_numbers (l ++ m)) y ≡ told (row_of by_numbers l) (told (row_of by_numbers m) y)
  told_two l m y = ap (λ (r : Result (Unit {0}) Reason). told r y) (rows_next by_numbers l m) ∙ told_next (row_of by_numbers l) (row_of by_numbers m) y

  told_three : (l m o : List Reason) (y : Answer)
      → told (row_of by_numbers (l ++ (m ++ o))) y ≡ told (row_of by_numbers l) (told (row_of by_numbers m) (told (row_of by_numbers o) y))
  told_three l m o y = told_two l (m ++ o) y ∙ ap (told (row_of by_numbers l)) (told_two m o y)

  -- a comment
  module _ (y : Answer) where
    numbers-told : (k : Kind) (size : ℕ) → y ≡ settled t seen kept (Ok (placed_at k Note b))
        → told (row_of by_numbers (numbers_row b.total b.number size)) y ≡ settled t seen kept (noted k size b)
    unfolding noted
    numbers-told k size e =
        numbers_answer size b y
        ∙ (ap (cond (bad_numbers size b) answer.BadNumbers) e ∙ settled_if (bad_numbers size b) answer.BadNumbers (Ok (placed_at k Note b)))

    note_flash : (p : Option Place) → place_of s n.flash b.family ≡ p → y ≡ settled t seen kept (Ok (placed_at Flash Note b))
        → told (access_row b.family (flash_access s b.family)) (told (row_of by_numbers (numbers_row b.total b.number (size_at p))) y)
        ≡ settled t seen kept (note_found Flash p b)
    unfolding note_found
    note_flash None e h = flash_denied s n.flash b.family _ e ∙ sym (settled_refused t seen kept answer.NoPlace)
    note_flash (Some p) e h = flash_open s n.flash b.family _ e ∙ numbers-told Flash p.len h

    note-ram : (k : Kind) (r : Bool) (size : ℕ) → y ≡ settled t seen kept (Ok (placed_at k Note b))
        → cond r (told (row_of by_numbers (numbers_row b.total b.number size)) y) answer.NoPlace ≡ settled t seen kept (note_found k (whole_if r size) b)
    unfolding note_found
    note-ram k true size h = numbers-told k size h
    note-ram k false size h = sym (settled_refused t seen kept answer.NoPlace)

    pub note_answer : (k : Kind) → y ≡ settled t seen kept (Ok (placed_at k Note b))
        → told (access_row b.family (access_in s k b.family))
        (told (row_of by_numbers (numbers_row b.total b.number (room_of (place_of s n.flash b.family) k))) y)
        ≡ settled t seen kept (note_found k (room_in (rooms_of s n.flash b.family) k) b)
    note_answer Flash h = note_flash (place_of s n.flash b.family) refl h
    note_answer MainRam h = ram_answer s b.family _ ∙ note-ram MainRam (ram_family s b.family) (extent_of MainRam) h
    note_answer XipRam h = ram_answer s b.family _ ∙ note-ram XipRam (ram_family s b.family) (extent_of XipRam) h

  -- a data block
  module _ (y : Answer) where
    inside-told : (k : Kind) (start size : ℕ) → y ≡ settled t seen kept (Ok (placed_at k (Page (start + (b.address - base_of k))) b))
        → told (row_of by_numbers (address_in k b.address size)) y ≡ cond (bad_address k size b) answer.BadAddress y
        → told (row_of by_numbers (page_row (Some k) size b)) y ≡ settled t seen kept (placed k start size b)
    unfolding page_row placed
    inside-told k start size e h =
        told_three (payload_row b.size) (numbers_row b.total b.number size) (address_in k b.address size) y
        ∙ (payload_answer b.size _
        ∙ (ap (cond (not (eqb b.size 256)) answer.BadPayload)
        (numbers_answer size b _
        ∙ (ap (cond (bad_numbers size b) answer.BadNumbers)
        (h
        ∙ (ap (cond (bad_address k size b) answer.BadAddress) e ∙ settled_if (bad_address k size b) answer.BadAddress _))
        ∙ settled_if (bad_numbers size b) answer.BadNumbers _))
        ∙ settled_if (not (eqb b.size 256)) answer.BadPayload _))

    outside_told : (size : ℕ) → window_of n b.address ≡ None → told (row_of by_numbers (page_row None size b)) y ≡ settled t seen kept (strayed b)
    unfolding page_row strayed
    outside_told size h =
        told_three (payload_row b.size) (stray_row b.address) (numbers_row b.total b.number size) y
        ∙ (payload_answer b.size _
        ∙ (ap (cond (not (eqb b.size 256)) answer.BadPayload)
        (stray_answer n b h _ ∙ sym (settled_refused t seen kept answer.BadAddress))
        ∙ settled_if (not (eqb b.size 256)) answer.BadPayload _))

-- ---- a data block by its window

flash_address : (size : ℕ) (b : Block) (y : Answer) → told (row_of by_numbers (address_in Flash b.address size)) y ≡ cond (bad_address Flash size b) answer.BadAddress y
unfolding address_in
flash_address size b y = address_answer size b y

module _ (s : Settings) (n : Lengths) (t : State) (seen flash a : List ℕ) (b : Block) where
  -- what comes after row 11, of a data block of this kind
  abbrev after : Kind → ℕ → ℕ → Answer
  after k start size =
      told (fate_part t (head_with k b.family b.total) b.number (marked_in seen b.number) false)
      (told (written_part flash start size k a (raised_of t (head_with k b.family b.total)) b.total) answer.Kept)

  page_outside : (p : Option Place) → place_of s n.flash b.family ≡ p → window_of n b.address ≡ None → (kept : Bool) (y : Answer)
      → told (access_row b.family (flash_access s b.family)) (told (row_of by_numbers (page_row None (size_at p) b)) y) ≡ settled t seen kept (data_found None p b)
  unfolding data_found
  page_outside None e u kept y = flash_denied s n.flash b.family _ e ∙ sym (settled_refused t seen kept answer.NoPlace)
  page_outside (Some p) e u kept y =
      flash_open s n.flash b.family _ e
      ∙ outside_told s n t seen flash a kept b y p.len u

  page_flash : (p : Option Place) → place_of s n.flash b.family ≡ p
      → told (access_row b.family (flash_access s b.family)) (told (row_of by_numbers (page_row (Some Flash) (size_at p) b)) (after Flash (start_at p) (size_at p)))
      ≡ settled t seen (stands_at flash p a) (data_found (Some Flash) p b)
  unfolding data_found
  page_flash None e = flash_denied s n.flash b.family _ e ∙ sym (settled_refused t seen (stands_at flash None a) answer.NoPlace)
  page_flash (Some p) e =
      flash_open s n.flash b.family _ e
      ∙ inside-told s n t seen flash a (stands_at flash (Some (place_from p.start p.len)) a) b (after Flash p.start p.len) Flash p.start p.len
      (page_late t seen flash a b Flash p.start p.len (p.start + (b.address - base_of Flash)) (stands_at flash (Some (place_from p.start p.len)) a) refl)
      (flash_address p.len b (after Flash p.start p.len))

  -- in RAM nothing is kept, wherever the family's place in the flash is
  ram_kept : (k : Kind) → same_kind k Flash ≡ false → (p q : Bool) → same_kind k Flash && p ≡ same_kind k Flash && q
  ram_kept k e p q = rw e

  page_ram : (k : Kind) → (k ≡ Flash → ⊥) → same_kind k Flash ≡ false → base_of k ≤ b.address → (f kept : Bool) (start size : ℕ)
      → cond f (told (row_of by_numbers (page_row (Some k) (extent_of k) b)) (after k start size)) answer.NoPlace
      ≡ settled t seen kept (data_found (Some k) (whole_if f (extent_of k)) b)
  unfolding data_found
  page_ram k i j l true kept start size =
      inside-told s n t seen flash a kept b (after k start size) k 0 (extent_of k)
      (page_late t seen flash a b k start size (0 + (b.address - base_of k)) kept (ram_kept k j (stands_at flash (Some (place_from start size)) a) kept))
      (window_answer k (extent_of k) b l i refl (after k start size))
  page_ram k i j l false kept start size = sym (settled_refused t seen kept answer.NoPlace)

  low_of : (u : Window) (k : Kind) → u ≡ Some k → WindowFacts n b.address u → base_of k ≤ b.address
  low_of u k e h = (rw e at h).low

  pub page_answer : (u : Window) → window_of n b.address ≡ u
      → told (access_row b.family (access_in s (window_kind u) b.family))
      (told (row_of by_numbers (page_row u (room_of (place_of s n.flash b.family) (window_kind u)) b))
      (after (window_kind u) (start_at (place_of s n.flash b.family)) (size_at (place_of s n.flash b.family))))
      ≡ settled t seen (stands_at flash (place_of s n.flash b.family) a) (data_found u (room_in (rooms_of s n.flash b.family) (window_kind u)) b)
  page_answer None e = page_outside (place_of s n.flash b.family) refl e (stands_at flash (place_of s n.flash b.family) a) _
  page_answer (Some Flash) e = page_flash (place_of s n.flash b.family) refl
  page_answer (Some MainRam) e =
      ram_answer s b.family _
      ∙ page_ram MainRam (λ q. let z : ◌≡◌ {A = ℕ} 0 1 = cc in omega arith) refl (low_of (window_of n b.address) MainRam e (window_facts n b.address))
      (ram_family s b.family) (stands_at flash (place_of s n.flash b.family) a) (start_at (place_of s n.flash b.family)) (size_at (place_of s n.flash b.family))
  page_answer (Some XipRam) e =
      ram_answer s b.family _
      ∙ page_ram XipRam (λ q. let z : ◌≡◌ {A = ℕ} 0 1 = cc in omega arith) refl (low_of (window_of n b.address) XipRam e (window_facts n b.address))
      (ram_family s b.family) (stands_at flash (place_of s n.flash b.family) a) (start_at (place_of s n.flash b.family)) (size_at (place_of s n.flash b.family))

  -- rows 8 to 17, of a block that is a comment or not
  abbrev kind_if : Bool → Kind
  kind_if c = cond c (note_kind n t b) (window_kind (window_of n b.address))

  pub block_answer : (c : Bool)
      → told (access_row b.family (access_in s (kind_if c) b.family))
      (told
      (row_of by_numbers
      (cond c (numbers_row b.total b.number (room_of (place_of s n.flash b.family) (kind_if c)))
      (page_row (window_of n b.address) (room_of (place_of s n.flash b.family) (kind_if c)) b)))
      (told (fate_part t (head_with (kind_if c) b.family b.total) b.number (marked_in seen b.number) c)
      (told
      (written_part flash (start_at (place_of s n.flash b.family)) (size_at (place_of s n.flash b.family)) (kind_if c) a
      (raised_of t (head_with (kind_if c) b.family b.total)) b.total)
      answer.Kept)))
      ≡ settled t seen (stands_at flash (place_of s n.flash b.family) a)
      (cond c (note_found (note_kind n t b) (room_in (rooms_of s n.flash b.family) (note_kind n t b)) b)
      (data_found (window_of n b.address) (room_in (rooms_of s n.flash b.family) (window_kind (window_of n b.address))) b))
  block_answer true =
      note_answer s n t seen flash a (stands_at flash (place_of s n.flash b.family) a) b _ (note_kind n t b)
      (note_late t seen flash a b (note_kind n t b) (start_at (place_of s n.flash b.family)) (size_at (place_of s n.flash b.family))
      (stands_at flash (place_of s n.flash b.family) a))
  block_answer false = page_answer (window_of n b.address) refl

-- ---- every row

-- seven rows in the groups of the code
all_told : (last : Reason) (p q r u v x y : Result (Unit {0}) Reason)
    → answer_of (or_last last (or_next (or_next (or_next p (or_next q r)) u) (or_next v (or_next x y)))).cause
    ≡ told p (told q (told r (told u (told v (told x (told y (answer_of last.cause)))))))
all_told last (Err z) q r u v x y = refl
all_told last (Ok o) (Err z) r u v x y = refl
all_told last (Ok o1) (Ok o2) (Err z) u v x y = refl
all_told last (Ok o1) (Ok o2) (Ok o3) (Err z) v x y = refl
all_told last (Ok o1) (Ok o2) (Ok o3) (Ok o4) (Err z) x y = refl
all_told last (Ok o1) (Ok o2) (Ok o3) (Ok o4) (Ok o5) (Err z) y = refl
all_told last (Ok o1) (Ok o2) (Ok o3) (Ok o4) (Ok o5) (Ok o6) (Err z) = refl
all_told last (Ok o1) (Ok o2) (Ok o3) (Ok o4) (Ok o5) (Ok o6) (Ok o7) = refl

module _ (s : Settings) (w : World) (a : List ℕ) where
  abbrev lens : Lengths
  lens = lengths_of w.held

  -- rows 8 to 17
  abbrev rest : Answer
  rest =
      told (block_part s (place_in s w a) (block_kind w a) (lengths_of w.held) (fields_of a))
      (told (fate_part w.transfer (head_in w a) (field_at a 20) (marked_in w.seen (field_at a 20)) (has_flag a 0x1))
      (told
      (written_part w.held.flash (start_at (place_in s w a)) (size_at (place_in s w a)) (block_kind w a) a (raised_of w.transfer (head_in w a)) (field_at a 24))
      answer.Kept))

  rest_answer : rest
      ≡ settled w.transfer w.seen (standing s w.held.flash a) (found (rooms_of s (length w.held.flash) (field_at a 28)) (lengths_of w.held) w.transfer (fields_of a))
  unfolding block_part body_row kind_of found fields_of
  rest_answer =
      told_next (access_row (field_at a 28) (access_in s (block_kind w a) (field_at a 28))) _ _
      ∙ block_answer s (lengths_of w.held) w.transfer w.seen w.held.flash a (fields_of a) (has_flag a 0x1)

  -- rows 1 to 3, where every later row agrees once they pass
  by_rows : (x : Answer) (d : Screening) (r g q : Bool)
      → x ≡ settled w.transfer w.seen (standing s w.held.flash a) d
      → cond (not r) answer.BadBuffers (cond (not g) answer.BadSettings (cond (not q) answer.BadState x))
      ≡ (forecast_of
      (cond (not r) (stays answer.BadBuffers)
      (cond (not g) (stays answer.BadSettings)
      (cond (not q) (stays answer.BadState) (after_screening w.transfer w.seen (standing s w.held.flash a) d))))
      ).answer
  by_rows x d false g q h = refl
  by_rows x d true false q h = refl
  by_rows x d true true false h = refl
  by_rows x d true true true h = h

  -- the answer by rows
  rows_answer : answer_of (reason_of s w a).cause
      ≡ told (row_of by_numbers (lengths_row (length a) (lengths_of w.held) (length w.seen) (length w.held.sectors)))
      (told (finding_row s (length w.held.flash) (first_fault s (length w.held.flash)))
      (told (row_of by_numbers (state_row w.transfer)) (told (row_of by_numbers (header_row a)) rest)))
  unfolding early_part board_part
  rows_answer =
      ap (λ (r : Reason). answer_of r.cause) (reason_parts s w a)
      ∙ all_told (last_of w a) (row_of by_numbers (lengths_row (length a) (lengths_of w.held) (length w.seen) (length w.held.sectors)))
      (finding_row s (length w.held.flash) (first_fault s (length w.held.flash))) (row_of by_numbers (state_row w.transfer)) (row_of by_numbers (header_row a))
      (block_part s (place_in s w a) (block_kind w a) (lengths_of w.held) (fields_of a))
      (fate_part w.transfer (head_in w a) (field_at a 20) (marked_in w.seen (field_at a 20)) (has_flag a 0x1))
      (written_part w.held.flash (start_at (place_in s w a)) (size_at (place_in s w a)) (block_kind w a) a (raised_of w.transfer (head_in w a)) (field_at a 24))

  pub answers_agree : answer_of (reason_of s w a).cause ≡ (look_of s w a).answer
  unfolding look_of decide screen_of screen_in
  answers_agree =
      rows_answer
      ∙ (lengths_answer _ _ _ _ _
      ∙ (ap (cond (not (right_lengths (length a) (lengths_of w.held) (length w.seen) (length w.held.sectors))) answer.BadBuffers)
      (finding_answer s (length w.held.flash) _
      ∙ ap (cond (not (good_settings s (length w.held.flash))) answer.BadSettings) (state_answer w.transfer _))
      ∙ by_rows _ _ (right_lengths (length a) (lengths_of w.held) (length w.seen) (length w.held.sectors)) (good_settings s (length w.held.flash)) (good_state w.transfer)
      (ap (told (row_of by_numbers (header_row a))) rest_answer
      ∙ header_answer w.transfer w.seen (standing s w.held.flash a)
      (found (rooms_of s (length w.held.flash) (field_at a 28)) (lengths_of w.held) w.transfer) a)))
