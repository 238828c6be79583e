-- The hypotheses of demand 3 are met by the files of specs/Instance.antt, and the theorem speaks of them. Assumes nothing.
use Prim.Native.Nat.{ℕ, zero, suc, ◌+◌, ◌*◌, ◌≤◌, ◌<◌}
use mathlib.Core.Path.{◌≡◌, refl, sym, ap, ◌∙◌}
use mathlib.Core.Logic.{◌≢◌}
use mathlib.Core.Bool.{Bool, true, false, not, cond}
use mathlib.Core.List.{List, [], ◌∷◌}
use native.Mathlib.Omega.{arith}
use lib.Dec.{eqb, ltb, leb}
use lib.ListN.{length, get_or, length-replicate, get_or-replicate}
use borrow.Author.Tests.{leb-true, ltb-true}
use Rattle.laws.proofs.Tests.{clash, and_left, and_right}
use Rattle.laws.proofs.Laws.{size_full}
use Rattle.memory.specs.Many.{many}
use Rattle.laws.specs.Bytes.{low_first, number_in}
use Rattle.laws.specs.Sets.{none, any, size}
use Rattle.memory.specs.Bitmap.{map_of}
use Rattle.memory.specs.Flash.{flash_length, payload_of, spans}
use Rattle.uf2_block.specs.Block.{field_at, fields_of, flagged_of, header_of}
use Rattle.partitions.specs.Settings.{family_arm_s, good_settings}
use Rattle.placement.specs.Place.{place_of, ram_family}
use Rattle.transfer.specs.Transfer.{good_state, counted, raised, accepted, step_of}
use Rattle.transfer.specs.declared.Kind.TheVariants.{Flash, MainRam, XipRam}
use Rattle.transfer.specs.declared.Head.{Head}
use Rattle.transfer.specs.declared.State.TheVariants.{Idle, Done}
use Rattle.uf2_checks.specs.Screen.{window_of, note_kind, placed, strayed, noted, data_found, note_found, found, screen_in, screen_of}
use Rattle.arrival.specs.Arrive.{World, right_lengths, stands_at, after_screening, decide, done, receive_of, outcome_number, standing}
use Rattle.arrival.specs.Lists.{receive_all}
use Rattle.arrival.specs.Windows.{lies}
use Rattle.demand.specs.Demand.{File, ValidFile, Foreign, is_comment_of, address_of, nothing, own, other, answer_number, is_data, same_bytes, among, seen_of, how_many, storage_of, held_by, touched_by, changed_by, SameSet, Plain, is_guarded, Ends, ListEnds}
use Rattle.demand.specs.Stopped.{ForeignToBoth, EndsAlike, StoppedThenGood}
use Rattle.demand.proofs.Demand.{list_ends}
use Rattle.demand.proofs.Stopped.{stopped_then_good}
use Rattle.examples.specs.Boards.{arrival_of, comment_of, plain, head_to, arm_head}
use Rattle.examples.specs.Tables.{block_of_three}
use Rattle.instances.specs.Instance.{Met, file, start, arrivals, in_order, HypothesesAreMet, annotated, annotated_arrivals, annotated_in_order, MetWithAComment, remarks, MetByCommentsAlone, ram_block, ram_file, ram_start, ram_arrivals, ram_in_order, MetInRam, main_file, main_start, MetInMainRam, stopped, MetByAStoppedTransfer}

-- what holds of 0, 1 and 2 holds below 3
three : (P : ℕ → Type 0) → P 0 → P 1 → P 2 → (k : ℕ) → k < 3 → P k
three P a b c zero h = a
three P a b c (suc zero) h = b
three P a b c (suc (suc zero)) h = c
three P a b c (suc (suc (suc k))) h = absurd (omega arith)

spans_true : (at j : ℕ) → spans at j ≡ true → (at ≤ j) × (j < at + 256)
spans_true at j e = (leb-true at j (and_left (leb at j) (ltb j (at + 256)) e), ltb-true j (at + 256) (and_right (leb at j) (ltb j (at + 256)) e))

-- a foreign arrival of a file in flash, and of one in RAM, by its answer
foreign_by : (w : World) (F : File) (a : List ℕ) (x : ℕ) → answer_number plain w a ≡ x → 4 ≤ x → x ≤ 11 → (F.kind ≢ Flash → is_comment_of F a ≡ false) → Foreign plain w F a
foreign_by w F a x e l m q = record { least = omega (arith, e); most = omega (arith, e); quiet = q }

address : (k : ℕ) → k < 3 → field_at (block_of_three k) 12 ≡ 0x10000000 + k * 256
unfolding low_first number_in field_at
address = three (λ k. field_at (block_of_three k) 12 ≡ 0x10000000 + k * 256) refl refl refl

-- the answers at the start
earned : (k : ℕ) → k < 3 → answer_number plain start (block_of_three k) ≡ 14
unfolding many any flash_length payload_of low_first number_in field_at fields_of flagged_of header_of good_settings place_of good_state counted raised accepted step_of window_of note_kind placed strayed noted data_found note_found found screen_in screen_of right_lengths stands_at after_screening decide done receive_of
earned = three (λ k. answer_number plain start (block_of_three k) ≡ 14) refl refl refl

beyond : answer_number plain start (arrival_of 0x10010000 0 3 1) ≡ 11
unfolding many any flash_length payload_of low_first number_in field_at fields_of flagged_of header_of good_settings place_of good_state counted raised accepted step_of window_of note_kind placed strayed noted data_found note_found found screen_in screen_of right_lengths stands_at after_screening decide done receive_of
beyond = refl

valid : ValidFile plain start file
valid =
    record {
      some = omega arith;
      numbers = unfold low_first number_in field_at in three (λ k. field_at (block_of_three k) 20 ≡ k) refl refl refl;
      families = unfold low_first number_in field_at in three (λ k. field_at (block_of_three k) 28 ≡ family_arm_s) refl refl refl;
      totals = unfold low_first number_in field_at in three (λ k. field_at (block_of_three k) 24 ≡ 3) refl refl refl;
      disjoint = λ i k j hi hk yi yk p q.
          let u = spans_true (address_of file i) j p in
          let v = spans_true (address_of file k) j q in
          omega (arith, u, v, address i hi, address k hk);
      kinds = unfold low_first number_in field_at in three (λ k. is_data file k ≡ true → lies Flash (address_of file k) ≡ true) (λ y. refl) (λ y. refl) (λ y. refl);
      quiet = λ n. absurd (n refl);
      passes = λ k h. omega (arith, earned k h);
    }

-- a block with flag 0x2000 alone names no region
unguarded : Plain plain start file
unfolding low_first number_in field_at
unguarded = three (λ k. is_guarded plain start file k ≡ false) refl refl refl

-- two lists in which a file is whole have the same set
both_whole : (F : File) (l m : List (List ℕ)) → how_many F (seen_of F l) ≡ F.total → how_many F (seen_of F m) ≡ F.total → SameSet F l m
both_whole F l m e f k h =
    size_full F.total (seen_of F l) k (omega (arith, e)) h ∙ sym (size_full F.total (seen_of F m) k (omega (arith, f)) h)

whole : how_many file (seen_of file arrivals) ≡ 3
whole = unfold low_first size among same_bytes in refl

pub hypotheses_are_met : HypothesesAreMet
unfolding HypothesesAreMet
hypotheses_are_met =
    record {
      idle = refl;
      valid = valid;
      unguarded = unguarded;
      sent = own 2 (omega arith) (own 0 (omega arith) (own 2 (omega arith) (other (arrival_of 0x10010000 0 3 1) (foreign_by start file (arrival_of 0x10010000 0 3 1) 11 beyond (omega arith) (omega arith) (λ n. absurd (n refl))) (own 1 (omega arith) (own 0 (omega arith) nothing)))));
      sent_too = own 0 (omega arith) (own 1 (omega arith) (own 2 (omega arith) nothing));
      same = both_whole file arrivals in_order whole (unfold low_first size among same_bytes in refl);
    }

-- a byte of the flash
within : (j : ℕ) → j < 65536 → j < length start.held.flash
within j h = rw (length-replicate {A = ℕ} 65536 7) h

-- so the theorem gives its end: a byte of block 1's payload, one of 0xFF beside the payloads, one of another sector as lent
pub ends_done : ((receive_all plain start arrivals).transfer ≡ Done (arm_head 3))
    × (get_or (receive_all plain start arrivals).held.flash 300 0 ≡ 1)
    × (get_or (receive_all plain start arrivals).held.flash 1000 0 ≡ 255)
    × (get_or (receive_all plain start arrivals).held.flash 5000 0 ≡ 7)
ends_done =
    let m : Met start file arrivals in_order = unfold HypothesesAreMet in hypotheses_are_met in
    let e : Ends plain start file (seen_of file arrivals) (receive_all plain start arrivals) =
    unfold ListEnds in list_ends plain start file m.idle m.valid arrivals m.sent m.unguarded in (
      e.counts.whole whole,
      sym (ap (λ (j : ℕ). get_or (receive_all plain start arrivals).held.flash j 0) stored) ∙ e.contents.payloads 1 (omega arith) seen page 44 (omega arith) ∙ payload,
      e.contents.erased 1000 (within 1000 (omega arith)) touched unheld,
      e.contents.others Flash 5000 unchanged ∙ lent,
    )
  where
    stored : storage_of plain start file 1 + 44 ≡ 300
    stored = unfold low_first number_in field_at place_of in refl

    seen : seen_of file arrivals 1 ≡ true
    seen = size_full 3 (seen_of file arrivals) 1 (omega (arith, whole)) (omega arith)

    page : is_data file 1 ≡ true
    page = unfold low_first number_in field_at in refl

    payload : get_or (payload_of (block_of_three 1)) 44 0 ≡ 1
    payload = unfold low_first payload_of in refl

    touched : touched_by plain start file (seen_of file arrivals) 0 ≡ true
    touched = unfold low_first number_in field_at place_of any among same_bytes in refl

    unheld : held_by plain start file (seen_of file arrivals) Flash 1000 ≡ false
    unheld = unfold low_first number_in field_at place_of any among same_bytes in refl

    unchanged : changed_by plain start file (seen_of file arrivals) Flash 5000 ≡ false
    unchanged = unfold low_first number_in field_at place_of any among same_bytes in refl

    lent : get_or start.held.flash 5000 0 ≡ 7
    lent = get_or-replicate 65536 5000 7 0 (omega arith)

-- ---- with a comment

annotated_number : (k : ℕ) → k < 3 → answer_number plain start (annotated.block k) ≡ cond (eqb k 1) 16 14
unfolding many any flash_length payload_of low_first number_in field_at fields_of flagged_of header_of good_settings place_of good_state counted raised accepted step_of window_of note_kind placed strayed noted data_found note_found found screen_in screen_of right_lengths stands_at after_screening decide done receive_of
annotated_number = three (λ k. answer_number plain start (annotated.block k) ≡ cond (eqb k 1) 16 14) refl refl refl

-- a comment has no address that counts
annotated_data : (k : ℕ) → k < 3 → is_data annotated k ≡ not (eqb k 1)
unfolding low_first number_in field_at
annotated_data = three (λ k. is_data annotated k ≡ not (eqb k 1)) refl refl refl

annotated_address : (k : ℕ) → k < 3 → is_data annotated k ≡ true → field_at (annotated.block k) 12 ≡ 0x10000000 + k * 256
unfolding low_first number_in field_at
annotated_address =
    three (λ k. is_data annotated k ≡ true → field_at (annotated.block k) 12 ≡ 0x10000000 + k * 256)
    (λ y. refl) (λ y. clash false y refl) (λ y. refl)

beyond_total : answer_number plain start (comment_of 3 3) ≡ 10
unfolding many any flash_length payload_of low_first number_in field_at fields_of flagged_of header_of good_settings place_of good_state counted raised accepted step_of window_of note_kind placed strayed noted data_found note_found found screen_in screen_of right_lengths stands_at after_screening decide done receive_of
beyond_total = refl

annotated_valid : ValidFile plain start annotated
annotated_valid =
    record {
      some = omega arith;
      numbers = unfold low_first number_in field_at in three (λ k. field_at (annotated.block k) 20 ≡ k) refl refl refl;
      families = unfold low_first number_in field_at in three (λ k. field_at (annotated.block k) 28 ≡ family_arm_s) refl refl refl;
      totals = unfold low_first number_in field_at in three (λ k. field_at (annotated.block k) 24 ≡ 3) refl refl refl;
      disjoint = λ i k j hi hk yi yk p q.
          let u = spans_true (address_of annotated i) j p in
          let v = spans_true (address_of annotated k) j q in
          omega (arith, u, v, annotated_address i hi yi, annotated_address k hk yk);
      kinds =
          unfold low_first number_in field_at in three (λ k. is_data annotated k ≡ true → lies Flash (address_of annotated k) ≡ true)
          (λ y. refl) (λ y. clash false y refl) (λ y. refl);
      quiet = λ n. absurd (n refl);
      passes = λ k h. rw (annotated_number k h) (least (eqb k 1));
    }
  where
    least : (b : Bool) → 12 ≤ cond b 16 14
    least true = omega arith
    least false = omega arith

annotated_unguarded : Plain plain start annotated
unfolding low_first number_in field_at
annotated_unguarded = three (λ k. is_guarded plain start annotated k ≡ false) refl refl refl

annotated_whole : how_many annotated (seen_of annotated annotated_arrivals) ≡ 3
annotated_whole = unfold low_first size among same_bytes in refl

pub met_with_a_comment : MetWithAComment
unfolding MetWithAComment
met_with_a_comment =
    record {
      idle = refl;
      valid = annotated_valid;
      unguarded = annotated_unguarded;
      sent = own 2 (omega arith) (own 1 (omega arith) (other (arrival_of 0x10010000 0 3 1) (foreign_by start annotated (arrival_of 0x10010000 0 3 1) 11 beyond (omega arith) (omega arith) (λ n. absurd (n refl)))
          (other (comment_of 3 3) (foreign_by start annotated (comment_of 3 3) 10 beyond_total (omega arith) (omega arith) (λ n. absurd (n refl))) (own 1 (omega arith) (own 0 (omega arith) nothing)))));
      sent_too = own 0 (omega arith) (own 1 (omega arith) (own 2 (omega arith) nothing));
      same = both_whole annotated annotated_arrivals annotated_in_order annotated_whole (unfold low_first size among same_bytes in refl);
    }

-- so its file finishes, and a byte where block 1's page would be is 0xFF
pub annotated_done : ((receive_all plain start annotated_arrivals).transfer ≡ Done (arm_head 3))
    × (get_or (receive_all plain start annotated_arrivals).held.flash 300 0 ≡ 255)
annotated_done =
    let m : Met start annotated annotated_arrivals annotated_in_order = unfold MetWithAComment in met_with_a_comment in
    let e : Ends plain start annotated (seen_of annotated annotated_arrivals) (receive_all plain start annotated_arrivals) =
    unfold ListEnds in list_ends plain start annotated m.idle m.valid annotated_arrivals m.sent m.unguarded in
    (e.counts.whole annotated_whole, e.contents.erased 300 (within 300 (omega arith)) touched unheld)
  where
    touched : touched_by plain start annotated (seen_of annotated annotated_arrivals) 0 ≡ true
    touched = unfold low_first number_in field_at place_of any among same_bytes in refl

    unheld : held_by plain start annotated (seen_of annotated annotated_arrivals) Flash 300 ≡ false
    unheld = unfold low_first number_in field_at place_of any among same_bytes in refl

-- ---- comments alone

two : (P : ℕ → Type 0) → P 0 → P 1 → (k : ℕ) → k < 2 → P k
two P a b zero h = a
two P a b (suc zero) h = b
two P a b (suc (suc k)) h = absurd (omega arith)

remarks_number : (k : ℕ) → k < 2 → answer_number plain start (comment_of k 2) ≡ 16
unfolding many any flash_length payload_of low_first number_in field_at fields_of flagged_of header_of good_settings place_of good_state counted raised accepted step_of window_of note_kind placed strayed noted data_found note_found found screen_in screen_of right_lengths stands_at after_screening decide done receive_of
remarks_number = two (λ k. answer_number plain start (comment_of k 2) ≡ 16) refl refl

remarks_valid : ValidFile plain start remarks
remarks_valid =
    record {
      some = omega arith;
      numbers = unfold low_first number_in field_at in two (λ k. field_at (comment_of k 2) 20 ≡ k) refl refl;
      families = unfold low_first number_in field_at in two (λ k. field_at (comment_of k 2) 28 ≡ family_arm_s) refl refl;
      totals = unfold low_first number_in field_at in two (λ k. field_at (comment_of k 2) 24 ≡ 2) refl refl;
      disjoint = λ i k j hi hk yi. clash (is_data remarks i) yi (notes i hi);
      kinds = λ k h y. clash (is_data remarks k) y (notes k h);
      quiet = λ n. absurd (n refl);
      passes = λ k h. omega (arith, remarks_number k h);
    }
  where
    notes : (k : ℕ) → k < 2 → is_data remarks k ≡ false
    notes = unfold low_first number_in field_at in two (λ k. is_data remarks k ≡ false) refl refl

pub met_by_comments_alone : MetByCommentsAlone
unfolding MetByCommentsAlone
met_by_comments_alone =
    record {
      idle = refl;
      valid = remarks_valid;
      unguarded = unfold low_first number_in field_at in two (λ k. is_guarded plain start remarks k ≡ false) refl refl;
      sent = own 1 (omega arith) (own 0 (omega arith) nothing);
      sent_too = own 0 (omega arith) (own 1 (omega arith) nothing);
      same = both_whole remarks (comment_of 1 2 ∷ comment_of 0 2 ∷ []) (comment_of 0 2 ∷ comment_of 1 2 ∷ []) (unfold low_first size among same_bytes in refl) (unfold low_first size among same_bytes in refl);
    }

-- ---- a file in RAM

ram_number : (k : ℕ) → k < 3 → answer_number plain ram_start (ram_block k) ≡ 14
unfolding ram_family many any flash_length payload_of low_first number_in field_at fields_of flagged_of header_of good_settings place_of good_state counted raised accepted step_of window_of note_kind placed strayed noted data_found note_found found screen_in screen_of right_lengths stands_at after_screening decide done receive_of
ram_number = three (λ k. answer_number plain ram_start (ram_block k) ≡ 14) refl refl refl

ram_address : (k : ℕ) → k < 3 → address_of ram_file k ≡ 0x13ffc001 + k * 300
unfolding low_first number_in field_at
ram_address = three (λ k. address_of ram_file k ≡ 0x13ffc001 + k * 300) refl refl refl

ram_valid : ValidFile plain ram_start ram_file
ram_valid =
    record {
      some = omega arith;
      numbers = unfold low_first number_in field_at in three (λ k. field_at (ram_block k) 20 ≡ k) refl refl refl;
      families = unfold low_first number_in field_at in three (λ k. field_at (ram_block k) 28 ≡ family_arm_s) refl refl refl;
      totals = unfold low_first number_in field_at in three (λ k. field_at (ram_block k) 24 ≡ 3) refl refl refl;
      disjoint = λ i k j hi hk yi yk p q.
          let u = spans_true (address_of ram_file i) j p in
          let v = spans_true (address_of ram_file k) j q in
          omega (arith, u, v, ram_address i hi, ram_address k hk);
      kinds = unfold low_first number_in field_at in three (λ k. is_data ram_file k ≡ true → lies XipRam (address_of ram_file k) ≡ true) (λ y. refl) (λ y. refl) (λ y. refl);
      quiet = unfold low_first number_in field_at in λ n. three (λ k. is_data ram_file k ≡ true) refl refl refl;
      passes = λ k h. omega (arith, ram_number k h);
    }

-- the answers to the foreign arrivals, of which none is a comment of the file's total
ram_beyond : (answer_number plain ram_start (arrival_of 0x13ffff01 0 3 1) ≡ 11) × (answer_number plain ram_start (arrival_of 0x10010000 0 3 1) ≡ 11) × (answer_number plain ram_start (comment_of 0 257) ≡ 10)
unfolding ram_family many any flash_length payload_of low_first number_in field_at fields_of flagged_of header_of good_settings place_of good_state counted raised accepted step_of window_of note_kind placed strayed noted data_found note_found found screen_in screen_of right_lengths stands_at after_screening decide done receive_of
ram_beyond = (refl, refl, refl)

no_comment : (is_comment_of ram_file (arrival_of 0x13ffff01 0 3 1) ≡ false) × (is_comment_of ram_file (arrival_of 0x10010000 0 3 1) ≡ false) × (is_comment_of ram_file (comment_of 0 257) ≡ false)
unfolding low_first number_in field_at fields_of flagged_of header_of
no_comment = (refl, refl, refl)

ram_whole : how_many ram_file (seen_of ram_file ram_arrivals) ≡ 3
ram_whole = unfold low_first size among same_bytes in refl

pub met_in_ram : MetInRam
unfolding MetInRam
met_in_ram =
    record {
      idle = refl;
      valid = ram_valid;
      unguarded = λ k h. refl;
      sent = own 2 (omega arith) (own 0 (omega arith)
          (other (arrival_of 0x13ffff01 0 3 1) (foreign_by ram_start ram_file (arrival_of 0x13ffff01 0 3 1) 11 ram_beyond.0 (omega arith) (omega arith) (λ n. no_comment.0))
          (other (arrival_of 0x10010000 0 3 1) (foreign_by ram_start ram_file (arrival_of 0x10010000 0 3 1) 11 ram_beyond.1 (omega arith) (omega arith) (λ n. no_comment.1))
          (other (comment_of 0 257) (foreign_by ram_start ram_file (comment_of 0 257) 10 ram_beyond.2 (omega arith) (omega arith) (λ n. no_comment.2))
          (own 2 (omega arith) (own 1 (omega arith) nothing))))));
      sent_too = own 0 (omega arith) (own 1 (omega arith) (own 2 (omega arith) nothing));
      same = both_whole ram_file ram_arrivals ram_in_order ram_whole (unfold low_first size among same_bytes in refl);
    }

-- so the theorem gives its end: the transfer carries the kind, and no sector is marked
pub ram_done : ((receive_all plain ram_start ram_arrivals).transfer ≡ Done (head_to XipRam 3)) × ((receive_all plain ram_start ram_arrivals).held.sectors ≡ map_of 1024 none)
ram_done =
    let m : Met ram_start ram_file ram_arrivals ram_in_order = unfold MetInRam in met_in_ram in
    let e : Ends plain ram_start ram_file (seen_of ram_file ram_arrivals) (receive_all plain ram_start ram_arrivals) =
    unfold ListEnds in list_ends plain ram_start ram_file m.idle m.valid ram_arrivals m.sent m.unguarded in
    (e.counts.whole ram_whole, e.sector_map (omega (arith, ram_whole)))

-- what holds of 0 holds below 1
one : (P : ℕ → Type 0) → P 0 → (k : ℕ) → k < 1 → P k
one P a zero h = a
one P a (suc k) h = absurd (omega arith)

-- the answer by the length of main RAM alone: its 532,480 bytes are not computed
main_answer : (n : ℕ) → n ≡ 532480 → outcome_number (done main_start (payload_of (main_file.block 0)) (decide plain (record { flash = length main_start.held.flash; main = n; xip = 0 }) (length main_start.held.sectors) Idle main_start.seen (standing plain main_start.held.flash (main_file.block 0)) (main_file.block 0))) ≡ 15
unfolding ram_family many any flash_length payload_of low_first number_in field_at fields_of flagged_of header_of good_settings place_of good_state counted raised accepted step_of window_of note_kind placed strayed noted data_found note_found found screen_in screen_of right_lengths stands_at after_screening decide done
main_answer n e = rw e refl

main_number : (k : ℕ) → k < 1 → answer_number plain main_start (main_file.block k) ≡ 15
unfolding receive_of
main_number = one (λ k. answer_number plain main_start (main_file.block k) ≡ 15) (main_answer (length main_start.held.main) (length-replicate {A = ℕ} 532480 5))

main_valid : ValidFile plain main_start main_file
main_valid =
    record {
      some = omega arith;
      numbers = unfold low_first number_in field_at in one (λ k. field_at (main_file.block k) 20 ≡ k) refl;
      families = unfold low_first number_in field_at in one (λ k. field_at (main_file.block k) 28 ≡ family_arm_s) refl;
      totals = unfold low_first number_in field_at in one (λ k. field_at (main_file.block k) 24 ≡ 1) refl;
      disjoint = λ i k j hi hk yi yk p q. omega arith;
      kinds = unfold low_first number_in field_at in one (λ k. is_data main_file k ≡ true → lies MainRam (address_of main_file k) ≡ true) (λ y. refl);
      quiet = unfold low_first number_in field_at in λ n. one (λ k. is_data main_file k ≡ true) refl;
      passes = λ k h. omega (arith, main_number k h);
    }

main_whole : (how_many main_file (seen_of main_file (main_file.block 0 ∷ main_file.block 0 ∷ [])) ≡ 1) × (how_many main_file (seen_of main_file (main_file.block 0 ∷ [])) ≡ 1)
main_whole = unfold low_first size among same_bytes in (refl, refl)

pub met_in_main_ram : MetInMainRam
unfolding MetInMainRam
met_in_main_ram =
    record {
      idle = refl;
      valid = main_valid;
      unguarded = λ k h. refl;
      sent = own 0 (omega arith) (own 0 (omega arith) nothing);
      sent_too = own 0 (omega arith) nothing;
      same = both_whole main_file (main_file.block 0 ∷ main_file.block 0 ∷ []) (main_file.block 0 ∷ []) main_whole.0 main_whole.1;
    }

-- ---- a stopped update

stopped_beyond : answer_number plain stopped (arrival_of 0x10010000 0 3 1) ≡ 11
unfolding many any flash_length payload_of low_first number_in field_at fields_of flagged_of header_of good_settings place_of good_state counted raised accepted step_of window_of note_kind placed strayed noted data_found note_found found screen_in screen_of right_lengths stands_at after_screening decide done receive_of
stopped_beyond = refl

pub met_by_a_stopped_transfer : MetByAStoppedTransfer
unfolding MetByAStoppedTransfer
met_by_a_stopped_transfer =
    record {
      before =
          record {
            run = record { head = arm_head 5; count = 2 };
            running = refl;
            sound = unfold good_state in refl;
            differs = λ e. absurd (omega (arith, ap (λ (h : Head). h.total) e));
            quiet = λ f t. absurd (omega (arith, t));
            idle = refl;
            lengths = refl;
            seen_length = length-replicate {A = ℕ} 16384 255 ∙ sym (length-replicate {A = ℕ} 16384 9);
            sectors_length = length-replicate {A = ℕ} 1024 255 ∙ sym (length-replicate {A = ℕ} 1024 9);
          };
      valid = valid;
      unguarded = unguarded;
      sent = own 2 (omega arith) (own 0 (omega arith) (own 2 (omega arith) (other (arrival_of 0x10010000 0 3 1) both-starts (own 1 (omega arith) (own 0 (omega arith) nothing)))));
      some = omega (arith, whole);
    }
  where
    both-starts : ForeignToBoth plain stopped start file (arrival_of 0x10010000 0 3 1)
    both-starts =
        record {
          foreign = foreign_by start file (arrival_of 0x10010000 0 3 1) 11 beyond (omega arith) (omega arith) (λ n. absurd (n refl));
          least = omega (arith, stopped_beyond);
          most = omega (arith, stopped_beyond);
        }

-- so the theorem gives its end: as from Idle
pub stopped_done : EndsAlike plain start file arrivals (receive_all plain stopped arrivals) (receive_all plain start arrivals)
unfolding MetByAStoppedTransfer StoppedThenGood
stopped_done =
    let m = met_by_a_stopped_transfer in
    stopped_then_good plain stopped start file m.before m.valid m.unguarded arrivals m.sent m.some
