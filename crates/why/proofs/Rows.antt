-- The one list of checks, row by row, as the code asks them. Assumes nothing.
use Rattle.std.specs.Prelude.{Option, Some, Result, Ok, Err}
use mathlib.Core.Path.{◌≡◌, refl, sym, ap, ◌∙◌}
use mathlib.Core.Bool.{Bool, true, false, cond, true≢false}
use mathlib.Core.List.{List, [], ◌∷◌, ◌++◌}
use Prim.Native.Nat.{ℕ}
use lib.ListN.{length}
use Rattle.std.specs.Prelude.{Some, None}
use Rattle.memory.specs.Bitmap.{marked_in}
use Rattle.uf2_block.specs.Block.{field_at, has_flag, fields_of}
use Rattle.uf2_block.specs.declared.Block.{Block}
use Rattle.partitions.specs.declared.Settings.{Settings}
use Rattle.transfer.specs.declared.Kind.{Kind}
use Rattle.transfer.specs.declared.Kind.TheVariants.{Flash, MainRam, XipRam}
use Rattle.transfer.specs.declared.State.{State}
use Rattle.transfer.specs.declared.State.TheVariants.{Idle, Running, Done}
use Rattle.uf2_checks.specs.Screen.{window_of, Window}
use Rattle.uf2_checks.specs.declared.Lengths.{Lengths}
use Rattle.arrival.specs.Arrive.{World, lengths_of}
use Rattle.why_settings.specs.Faults.{fault_in, faults_of, first_in, first_fault}
use Rattle.why_settings.specs.declared.Fault.{Fault}
use Rattle.why_place.specs.Placing.{denies, first_denial, flash_denials, ram_denials, flash_access, ram_access}
use Rattle.why_place.specs.declared.Denial.{Denial}
use Rattle.why_causes.specs.Checks.{by_numbers, row_of, or_next, or_last, running_row, done_row, state_row, magic_row, flags_row, header_row}
use Rattle.why_causes.specs.Lengths.{flash_row, buffer_row, lengths_row}
use Rattle.why_causes.specs.Numbers.{payload_row, numbers_row, address_row, stray_row, window_row}
use Rattle.why_causes.specs.declared.Reason.{Reason}
use Rattle.why_causes.proofs.Rows.{rows_next}
use Rattle.why_checks.specs.Block.{start_at, size_at, address_in, page_row, body_row, raised_of, fate_row, written_row}
use Rattle.why_checks.specs.Parts.{fate_part, region_part, written_part}
use Rattle.why.specs.Checklist.{fault_reason, fault_row, settings_row, denial_reason, denial_row, place_row, block_row, block_kind, head_in, place_in, board_rows, checks_of, last_of, holds_in, reason_of}
use Rattle.why.specs.Parts.{finding_row, access_row, access_in, board_part, early_part, block_part}

-- rows in groups, and one after the other
pub or_three : (p q r : Result (Unit {0}) Reason) → or_next (or_next p q) r ≡ or_next p (or_next q r)
or_three (Ok u) q r = refl
or_three (Err x) q r = refl

-- ---- rows 2 and 8, whatever the test of the other rows

module _ (test : Reason → Bool) (s : Settings) where
  pub fault_rows : (len : ℕ) → ((x : Fault) → test (fault_reason s len x) ≡ fault_in s len x) → (l : List Fault)
      → row_of test (fault_row s len l) ≡ finding_row s len (first_in s len l)
  unfolding row_of fault_row first_in
  fault_rows len h [] = refl
  fault_rows len h (x ∷ l) = by-case (test (fault_reason s len x)) (fault_in s len x) (h x) (row_of test (fault_row s len l)) (first_in s len l) (fault_rows len h l)
    where
      by-case : (b d : Bool) → b ≡ d → (p : Result (Unit {0}) Reason) (q : Option Fault) → p ≡ finding_row s len q → cond b (Err (fault_reason s len x)) p ≡ finding_row s len (cond d (Some x) q)
      by-case true true e p q k = refl
      by-case true false e p q k = absurd (true≢false e)
      by-case false true e p q k = absurd (true≢false (sym e))
      by-case false false e p q k = k

  pub denial_rows : (f : ℕ) → ((x : Denial) → test (denial_reason f x) ≡ denies s f x) → (l : List Denial) → row_of test (denial_row f l) ≡ access_row f (first_denial s f l)
  unfolding row_of denial_row first_denial
  denial_rows f h [] = refl
  denial_rows f h (x ∷ l) = by-case (test (denial_reason f x)) (denies s f x) (h x) (row_of test (denial_row f l)) (first_denial s f l) (denial_rows f h l)
    where
      by-case : (b d : Bool) → b ≡ d → (p : Result (Unit {0}) Reason) (q : Result (Unit {0}) Denial) → p ≡ access_row f q → cond b (Err (denial_reason f x)) p ≡ access_row f (cond d (Err x) q)
      by-case true true e p q k = refl
      by-case true false e p q k = absurd (true≢false e)
      by-case false true e p q k = absurd (true≢false (sym e))
      by-case false false e p q k = k

  pub settings_rows : (len : ℕ) → ((x : Fault) → test (fault_reason s len x) ≡ fault_in s len x) → row_of test (settings_row s len) ≡ finding_row s len (first_fault s len)
  unfolding settings_row first_fault
  settings_rows len h = fault_rows len h (faults_of s)

-- ---- the rows of an arrival

module _ (s : Settings) (w : World) (a : List ℕ) where
  lengths_rows : (n : Lengths) (x m k : ℕ) → row_of (holds_in s w a) (lengths_row x n m k) ≡ row_of by_numbers (lengths_row x n m k)
  unfolding row_of lengths_row flash_row buffer_row
  lengths_rows n x m k = refl

  state_rows : (t : State) → row_of (holds_in s w a) (state_row t) ≡ row_of by_numbers (state_row t)
  unfolding row_of state_row running_row done_row
  state_rows Idle = refl
  state_rows (Running r) = refl
  state_rows (Done g) = refl

  header_rows : row_of (holds_in s w a) (header_row a) ≡ row_of by_numbers (header_row a)
  unfolding row_of header_row magic_row flags_row
  header_rows = refl

  place_rows : (k : Kind) → row_of (holds_in s w a) (place_row k (field_at a 28)) ≡ access_row (field_at a 28) (access_in s k (field_at a 28))
  unfolding place_row flash_access ram_access
  place_rows Flash = denial_rows (holds_in s w a) s (field_at a 28) (λ x. refl) flash_denials
  place_rows MainRam = denial_rows (holds_in s w a) s (field_at a 28) (λ x. refl) ram_denials
  place_rows XipRam = denial_rows (holds_in s w a) s (field_at a 28) (λ x. refl) ram_denials

  page_rows : (u : Window) (size : ℕ) (b : Block) → row_of (holds_in s w a) (page_row u size b) ≡ row_of by_numbers (page_row u size b)
  unfolding row_of page_row payload_row numbers_row address_in address_row stray_row window_row
  page_rows None size b = refl
  page_rows (Some Flash) size b = refl
  page_rows (Some MainRam) size b = refl
  page_rows (Some XipRam) size b = refl

  numbers_rows : (t k size : ℕ) → row_of (holds_in s w a) (numbers_row t k size) ≡ row_of by_numbers (numbers_row t k size)
  unfolding row_of numbers_row
  numbers_rows t k size = refl

  body_rows : (size : ℕ) (n : Lengths) (b : Block) → row_of (holds_in s w a) (body_row size n b) ≡ row_of by_numbers (body_row size n b)
  unfolding body_row
  body_rows size n b = by-case b.comment
    where
      by-case : (c : Bool) → row_of (holds_in s w a) (cond c (numbers_row b.total b.number size) (page_row (window_of n b.address) size b))
          ≡ row_of by_numbers (cond c (numbers_row b.total b.number size) (page_row (window_of n b.address) size b))
      by-case true = numbers_rows b.total b.number size
      by-case false = page_rows (window_of n b.address) size b

  fate_rows : row_of (holds_in s w a) (fate_row w.transfer (head_in w a) (field_at a 20))
      ≡ fate_part w.transfer (head_in w a) (field_at a 20) (marked_in w.seen (field_at a 20)) (has_flag a 0x1)
  unfolding row_of fate_row fate_part
  fate_rows = refl

  written_rows : (n total : ℕ) → row_of (holds_in s w a) (written_row n total)
      ≡ written_part w.held.flash (start_at (place_in s w a)) (size_at (place_in s w a)) (block_kind w a) a n total
  unfolding row_of written_row written_part region_part
  written_rows n total = refl

  -- rows one after the other
  next : (l m : List Reason) {p q : Result (Unit {0}) Reason} → row_of (holds_in s w a) l ≡ p → row_of (holds_in s w a) m ≡ q → row_of (holds_in s w a) (l ++ m) ≡ or_next p q
  next l m {p} e k = rows_next (holds_in s w a) l m ∙ (ap (λ (r : Result (Unit {0}) Reason). or_next r (row_of (holds_in s w a) m)) e ∙ ap (or_next p) k)

  board_rows_lem : row_of (holds_in s w a) (board_rows s w.transfer (length a) (lengths_of w.held) (length w.seen) (length w.held.sectors))
      ≡ board_part s w.transfer (length a) (lengths_of w.held) (length w.seen) (length w.held.sectors)
  unfolding board_rows board_part
  board_rows_lem =
      next (lengths_row (length a) (lengths_of w.held) (length w.seen) (length w.held.sectors)) _ (lengths_rows _ _ _ _)
      (next (settings_row s (length w.held.flash)) _ (settings_rows (holds_in s w a) s (length w.held.flash) (λ x. refl)) (state_rows w.transfer))

  block_rows : row_of (holds_in s w a) (block_row (place_in s w a) (block_kind w a) (lengths_of w.held) (fields_of a))
      ≡ block_part s (place_in s w a) (block_kind w a) (lengths_of w.held) (fields_of a)
  unfolding block_row block_part fields_of
  block_rows = next (place_row (block_kind w a) (field_at a 28)) _ (place_rows (block_kind w a)) (body_rows _ _ _)

  -- the reason by the parts of the code
  pub reason_parts : reason_of s w a
      ≡ or_last (last_of w a)
      (or_next (early_part s w.transfer a (lengths_of w.held) (length w.seen) (length w.held.sectors))
      (or_next (block_part s (place_in s w a) (block_kind w a) (lengths_of w.held) (fields_of a))
      (or_next (fate_part w.transfer (head_in w a) (field_at a 20) (marked_in w.seen (field_at a 20)) (has_flag a 0x1))
      (written_part w.held.flash (start_at (place_in s w a)) (size_at (place_in s w a)) (block_kind w a) a (raised_of w.transfer (head_in w a)) (field_at a 24)))))
  unfolding reason_of checks_of early_part
  reason_parts =
      ap (or_last (last_of w a))
      (next (board_rows s w.transfer (length a) (lengths_of w.held) (length w.seen) (length w.held.sectors)) _ board_rows_lem
      (next (header_row a) _ header_rows
      (next (block_row (place_in s w a) (block_kind w a) (lengths_of w.held) (fields_of a)) _ block_rows
      (next (fate_row w.transfer (head_in w a) (field_at a 20)) _ fate_rows (written_rows _ _))))
      ∙ sym
      (or_three (board_part s w.transfer (length a) (lengths_of w.held) (length w.seen) (length w.held.sectors)) (row_of by_numbers (header_row a))
      (or_next (block_part s (place_in s w a) (block_kind w a) (lengths_of w.held) (fields_of a))
      (or_next (fate_part w.transfer (head_in w a) (field_at a 20) (marked_in w.seen (field_at a 20)) (has_flag a 0x1))
      (written_part w.held.flash (start_at (place_in s w a)) (size_at (place_in s w a)) (block_kind w a) a (raised_of w.transfer (head_in w a)) (field_at a 24))))))
