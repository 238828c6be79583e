-- The claim of specs/Alike.antt holds. Assumes nothing.
use Rattle.std.specs.Prelude.{Option, None, Some, Result, Ok, Err}
use Prim.Native.Nat.{ℕ, zero, suc, ◌<◌}
use mathlib.Core.Path.{◌≡◌, refl, sym, ap, ◌∙◌}
use mathlib.Core.Bool.{Bool, false, cond, not, ◌&&◌}
use mathlib.Core.List.{List, [], ◌∷◌, ◌++◌}
use native.Mathlib.Omega.{arith}
use native.Mathlib.Nat.{le_refl, le_step}
use lib.Dec.{ltb, eqb}
use lib.ListN.{get_or, length}
use borrow.Author.Tests.{ltb-true}
use Rattle.std.specs.Prelude.{Option}
use Rattle.laws.specs.Sets.{Set, one, least}
use Rattle.laws.specs.Tab.{tab}
use Rattle.laws.proofs.Laws.{any_cong}
use Rattle.laws.proofs.TabLaws.{length_tab, get_d_tab, is_tab}
use Rattle.laws.proofs.Tests.{split}
use Rattle.partitions.specs.declared.Entry as settings
use Rattle.partitions.specs.declared.Settings.{Settings}
use Rattle.partitions.specs.Settings.{family_rp2040, entry_at, enabled, is_reserved, reserved_at, count_over, links_up, link_target}
use Rattle.partitions.specs.Alike.{AlikeEntry, Alike}
use Rattle.partitions.proofs.Alike.{slot_alike, reserved_alike, accepts_alike, enabled_alike, overlap_alike, up_alike, to_b}
use Rattle.uf2_block.specs.declared.Block.{Block}
use Rattle.uf2_block.specs.Block.{field_at, fields_of}
use Rattle.uf2_checks.specs.declared.Lengths.{Lengths}
use Rattle.placement.specs.declared.Place.{Place}
use Rattle.transfer.specs.declared.State.{State}
use Rattle.placement.specs.Place.{used_count, pass_query_of}
use Rattle.placement.proofs.Alike.{takes_alike, query_alike, looked, alike_places}
use Rattle.why_settings.specs.Faults.{fault_in, each, sharing, condition_at, condition_for, used_of, faults_of, first_in, first_fault, slot_at, first_reserved, end_of, told, tested_of, finding_number}
use Rattle.why_settings.specs.declared.Fault.{Fault}
use Rattle.why_settings.specs.declared.Fault.TheVariants.{ArchOff, CountOver, NoSectors, PastFlash, Shares, LinksUp, LinksToB, ManyUsers, ReservedUser}
use Rattle.why_settings.proofs.Laws.{each_all}
use Rattle.why_causes.specs.Checks.{or_next}
use Rattle.why_causes.specs.declared.Cause.{Cause}
use Rattle.why_causes.specs.declared.Cause.TheVariants.{BadBuffers, BadSettings, BadState, NotBlock, Container, NoFamily, NoPlace, BadPayload, BadNumbers, BadAddress, Finished, Again, Written, Completed, Noted, Kept}
use Rattle.why_place.specs.Placing.{denies, takes_at, first_denial, flash_denials, ram_denials, flash_access, ram_access, mark_of, marks_of, taken_in, pass_has, pass_of, entry_in, table_spot, granted_spot}
use Rattle.why_place.specs.declared.Denial.{Denial}
use Rattle.why_place.specs.declared.Denial.TheVariants.{AbsoluteOff, Rp2040, ArmOff, RiscvOff, NotWithoutTable, NoEntry, NotForRam}
use Rattle.transfer.specs.declared.Kind.{Kind}
use Rattle.transfer.specs.declared.Kind.TheVariants.{Flash, MainRam, XipRam}
use Rattle.arrival.specs.Arrive.{World, lengths_of}
use Rattle.why.specs.Checklist.{fault_reason, block_kind, place_in, reason_of}
use Rattle.why.specs.Parts.{finding_row, access_in, board_part, early_part, block_part, place_part}
use Rattle.why.proofs.Rows.{reason_parts}
use Rattle.why_place.specs.declared.Origin.{Origin}
use Rattle.why_place.specs.declared.Origin.TheVariants.{Whole, Entry}
use Rattle.why.specs.Why.{denial_marks, entries_of, why_of}
use Rattle.why.specs.Placed.{placed_of, placed_marks, why_place_of}
use Rattle.why.proofs.Laws.{place_parts}
use Rattle.why_claims.specs.Alike.{AlikeSettingsExplainAlike}
use Rattle.why_causes.specs.declared.Reason.{Reason}

-- ---- row 2

-- the first reserved family of an entry
module _ {d e : settings.Entry} (h : AlikeEntry d e) where
  family_alike : (i x : ℕ) → cond (reserved_at d i) (get_or d.users i 0) x ≡ cond (reserved_at e i) (get_or e.users i 0) x
  family_alike i x =
      split (ltb i d.user_count)
      (λ y. rw (← slot_alike h is_reserved i, h.users i (ltb-true i d.user_count y)))
      (λ z. rw (← slot_alike h is_reserved i, z))

  reserved_family : first_reserved d ≡ first_reserved e
  unfolding first_reserved
  reserved_family =
      family_alike 0 _
      ∙ ap (cond (reserved_at e 0) (get_or e.users 0 0))
      (family_alike 1 _
      ∙ ap (cond (reserved_at e 1) (get_or e.users 1 0))
      (family_alike 2 _
      ∙ ap (cond (reserved_at e 2) (get_or e.users 2 0))
      (family_alike 3 0)))

rows_join : (s : Settings) (len : ℕ) (l m : List Fault)
    → finding_row s len (first_in s len (l ++ m)) ≡ or_next (finding_row s len (first_in s len l)) (finding_row s len (first_in s len m))
unfolding first_in
rows_join s len [] m = refl
rows_join s len (x ∷ l) m = split (fault_in s len x) (λ y. rw y) (λ z. rw z (rows_join s len l m))

module _ (s t : Settings) (h : Alike s t) (len : ℕ) where
  -- row 2 of some of the faults
  abbrev of_first : List Fault → Result (Unit {0}) Reason
  of_first l = finding_row s len (first_in s len l)

  abbrev of_second : List Fault → Result (Unit {0}) Reason
  of_second l = finding_row t len (first_in t len l)

  abbrev Same : List Fault → Type 0
  Same l = of_first l ≡ of_second l

  -- a fault before others
  before : (x : Fault) (l : List Fault) → fault_in s len x ≡ fault_in t len x → tested_of s len x ≡ tested_of t len x → Same l → Same (x ∷ l)
  unfolding first_in
  before x l e q r =
      split (fault_in t len x)
      (λ y. rw (e, y, q))
      (λ z. rw (e, z) r)

  none : Same []
  unfolding first_in
  none = refl

  single : (x : Fault) → fault_in s len x ≡ fault_in t len x → tested_of s len x ≡ tested_of t len x → Same (x ∷ [])
  single x e q = before x [] e q none

  -- faults before others, which need to be the same only where none of these is found
  after : (l m : List Fault) → Same l → (first_in s len l ≡ None → Same m) → Same (l ++ m)
  after l m e f = rows_join s len l m ∙ (by-case (first_in s len l) refl ∙ sym (rows_join t len l m))
    where
      by-case : (x : Option Fault) → first_in s len l ≡ x → or_next (of_first l) (of_first m) ≡ or_next (of_second l) (of_second m)
      by-case None q =
          let p : of_second l ≡ Ok tt = sym e ∙ ap (finding_row s len) q in
          rw (q, p) (f q)
      by-case (Some x) q =
          let p : of_second l ≡ Err (fault_reason s len x) = sym e ∙ ap (finding_row s len) q in
          rw (q, p)

  each_same : (g : ℕ → List Fault) (n : ℕ) → ((k : ℕ) → k < n → Same (g k)) → Same (each g n)
  unfolding each
  each_same g zero f = none
  each_same g (suc n) f = after (each g n) (g n) (each_same g n (λ k l. f k (le_step l))) (λ e. f n (le_refl (suc n)))

  -- the used entries
  at : (k : ℕ) → k < used_of s → AlikeEntry (entry_at s.table k) (entry_at t.table k)
  at k l =
      split (count_over s)
      (λ y. let i : k < 16 = rw y at l in h.entries k (omega (arith, ltb-true 16 s.count y)))
      (λ z. h.entries k (rw z at l))

  slot : (p : settings.Entry → ℕ) (k : ℕ) → p (entry_at s.table k) ≡ p (entry_at t.table k) → p (slot_at s.table k) ≡ p (slot_at t.table k)
  slot p k e = split (ltb k 16) (λ y. rw y e) (λ z. rw z)

  rule_0 : Same (condition_for (used_of s) 0)
  unfolding condition_for condition_at
  rule_0 =
      each_same (condition_at (used_of s) 0) (used_of s)
      (λ k l. single (NoSectors k) (rw (at k l).sectors) (ap (λ (x : ℕ). told x 0) (slot (λ (e : settings.Entry). e.sectors) k (at k l).sectors)))

  rule_1 : Same (condition_for (used_of s) 1)
  unfolding condition_for condition_at
  rule_1 =
      each_same (condition_at (used_of s) 1) (used_of s)
      (λ k l.
      single (PastFlash k) (rw ((at k l).first, (at k l).sectors)) (ap (λ (x : ℕ). told x len) (slot end_of k (rw ((at k l).first, (at k l).sectors)))))

  rule_2 : Same (condition_for (used_of s) 2)
  unfolding condition_for condition_at sharing
  rule_2 =
      each_same (condition_at (used_of s) 2) (used_of s)
      (λ k l.
      each_same (λ j. Shares k j ∷ []) (used_of s)
      (λ j m. single (Shares k j) (ap (λ (x : Bool). not (eqb j k) && x) (overlap_alike s.table t.table (used_of s) at k j l m)) refl))

  link_alike : (k : ℕ) → k < used_of s → link_target (slot_at s.table k).link ≡ link_target (slot_at t.table k).link
  link_alike k l = slot (λ (e : settings.Entry). link_target e.link) k (ap link_target (at k l).link)

  rule_3 : Same (condition_for (used_of s) 3)
  unfolding condition_for condition_at
  rule_3 =
      each_same (condition_at (used_of s) 3) (used_of s)
      (λ k l. single (LinksUp k) (up_alike s.table t.table (used_of s) at k l) (ap (λ (x : ℕ). told x k) (link_alike k l)))

  -- no link goes up where none of the first four conditions is found
  no_up : first_in s len (each (condition_for (used_of s)) 4) ≡ None → (k : ℕ) → k < used_of s → links_up s.table k ≡ false
  unfolding condition_for condition_at first_in
  no_up e k l =
      let u : first_in s len (condition_for (used_of s) 3) ≡ None = each_all s len (condition_for (used_of s)) 4 e 3 (omega arith) in
      let v : first_in s len (condition_at (used_of s) 3 k) ≡ None = each_all s len (condition_at (used_of s) 3) (used_of s) u k l in
      split (links_up s.table k)
      (λ y.
      let z : Some (LinksUp k) ≡ None = rw y at v in
      let c : ◌≡◌ {A = ℕ} 206 0 = ap finding_number z in
      absurd (omega arith))
      (λ z. z)

  rule_4 : first_in s len (each (condition_for (used_of s)) 4) ≡ None → Same (condition_for (used_of s) 4)
  unfolding condition_for condition_at
  rule_4 e =
      each_same (condition_at (used_of s) 4) (used_of s)
      (λ k l. single (LinksToB k) (to_b s.table t.table (used_of s) at k l (no_up e k l)) (ap (λ (x : ℕ). told x k) (link_alike k l)))

  rule_5 : Same (condition_for (used_of s) 5)
  unfolding condition_for condition_at
  rule_5 =
      each_same (condition_at (used_of s) 5) (used_of s)
      (λ k l. single (ManyUsers k) (rw (at k l).user_count) (ap (λ (x : ℕ). told x 4) (slot (λ (e : settings.Entry). e.user_count) k (at k l).user_count)))

  rule_6 : Same (condition_for (used_of s) 6)
  unfolding condition_for condition_at
  rule_6 =
      each_same (condition_at (used_of s) 6) (used_of s)
      (λ k l. single (ReservedUser k) (reserved_alike (at k l)) (ap (λ (x : ℕ). told x family_rp2040) (slot first_reserved k (reserved_family (at k l)))))

  rules : Same (each (condition_for (used_of s)) 7)
  unfolding each
  rules =
      let f = condition_for (used_of s) in
      let a1 : Same (each f 1) = after (each f 0) (f 0) none (λ e. rule_0) in
      let a2 : Same (each f 2) = after (each f 1) (f 1) a1 (λ e. rule_1) in
      let a3 : Same (each f 3) = after (each f 2) (f 2) a2 (λ e. rule_2) in
      let a4 : Same (each f 4) = after (each f 3) (f 3) a3 (λ e. rule_3) in
      let a5 : Same (each f 5) = after (each f 4) (f 4) a4 rule_4 in
      let a6 : Same (each f 6) = after (each f 5) (f 5) a5 (λ e. rule_5) in
      after (each f 6) (f 6) a6 (λ e. rule_6)

  faults_alike : finding_row s len (first_fault s len) ≡ finding_row t len (first_fault t len)
  unfolding first_fault faults_of
  faults_alike =
      let on : enabled s s.current ≡ enabled t t.current = enabled_alike s t h s.current ∙ ap (enabled t) h.current in
      let l = each (condition_for (used_of s)) 7 in
      before ArchOff (CountOver ∷ l) (ap not on) (ap (λ (b : Bool). told (one b) 0) on)
      (before CountOver l (rw h.count) (rw h.count) rules)
      ∙ ap (λ (n : ℕ). finding_row t len (first_in t len (ArchOff ∷ CountOver ∷ each (condition_for n) 7))) (rw h.count)

-- ---- row 8

least_cong : (n : ℕ) (P Q : Set) → ((j : ℕ) → j < n → P j ≡ Q j) → least n P ≡ least n Q
unfolding least
least_cong zero P Q h = refl
least_cong (suc n) P Q h =
    rw (any_cong n P Q (λ j l. h j (le_step l)), least_cong n P Q (λ j l. h j (le_step l)), h n (le_refl (suc n)))

module _ (s t : Settings) (h : Alike s t) (f : ℕ) where
  takes_at_lem : (k : ℕ) → k < used_count s.count → takes_at s.table f k ≡ takes_at t.table f k
  unfolding takes_at
  takes_at_lem k l = rw ((looked s t h k l).link, accepts_alike (looked s t h k l) f)

  denies_alike : (x : Denial) → denies s f x ≡ denies t f x
  denies_alike AbsoluteOff = rw h.absolute
  denies_alike Rp2040 = refl
  denies_alike ArmOff = rw (h.count, h.arm)
  denies_alike RiscvOff = rw (h.count, h.riscv)
  denies_alike NotWithoutTable = rw h.count
  denies_alike NoEntry = rw (any_cong (used_count s.count) (takes_at s.table f) (takes_at t.table f) takes_at_lem, h.count)
  denies_alike NotForRam = rw (alike_places s t 0 f h).1

  first_alike : (l : List Denial) → first_denial s f l ≡ first_denial t f l
  unfolding first_denial
  first_alike [] = refl
  first_alike (x ∷ l) = rw (denies_alike x, first_alike l)

  access_alike : (k : Kind) → access_in s k f ≡ access_in t k f
  unfolding flash_access ram_access
  access_alike Flash = first_alike flash_denials
  access_alike MainRam = first_alike ram_denials
  access_alike XipRam = first_alike ram_denials

  -- the marks of the entries
  mark_alike : (k : ℕ) → mark_of s f k ≡ mark_of t f k
  unfolding mark_of
  mark_alike k =
      split (ltb k (used_count s.count))
      (λ y.
      let e = looked s t h k (ltb-true k (used_count s.count) y) in
      rw (← h.count, y, e.link, accepts_alike e f))
      (λ z. rw (← h.count, z))

  marks_alike : marks_of s f ≡ marks_of t f
  unfolding marks_of
  marks_alike =
      is_tab (tab 16 (mark_of s f)) 16 (mark_of t f) (length_tab 16 (mark_of s f))
      (λ j l. get_d_tab 16 (mark_of s f) j l ∙ mark_alike j)

  denial_marks_lem : (x : Denial) → denial_marks s f x ≡ denial_marks t f x
  denial_marks_lem AbsoluteOff = refl
  denial_marks_lem Rp2040 = refl
  denial_marks_lem ArmOff = refl
  denial_marks_lem RiscvOff = refl
  denial_marks_lem NotWithoutTable = refl
  denial_marks_lem NoEntry = marks_alike
  denial_marks_lem NotForRam = refl

  entries_alike : (c : Cause) → entries_of s f c ≡ entries_of t f c
  entries_alike (BadBuffers x) = refl
  entries_alike (BadSettings x) = refl
  entries_alike (BadState x) = refl
  entries_alike (NotBlock x) = refl
  entries_alike Container = refl
  entries_alike NoFamily = refl
  entries_alike (NoPlace x) = denial_marks_lem x
  entries_alike BadPayload = refl
  entries_alike (BadNumbers x) = refl
  entries_alike (BadAddress x) = refl
  entries_alike Finished = refl
  entries_alike Again = refl
  entries_alike (Written x) = refl
  entries_alike Completed = refl
  entries_alike Noted = refl
  entries_alike Kept = refl

  -- the pass and the entry that a place comes from
  taken_alike : (p k : ℕ) → k < used_count s.count → taken_in s f p k ≡ taken_in t f p k
  unfolding taken_in
  taken_alike p k l = takes_alike (looked s t h k l) (pass_query_of s f) p ∙ rw (query_alike s t h f)

  has_alike : (p : ℕ) → pass_has s f p ≡ pass_has t f p
  unfolding pass_has
  has_alike p = rw (any_cong (used_count s.count) (taken_in s f p) (taken_in t f p) (taken_alike p), h.count)

  pass_alike : pass_of s f ≡ pass_of t f
  unfolding pass_of
  pass_alike = least_cong 4 (pass_has s f) (pass_has t f) (λ p l. has_alike p)

  entry_alike : (p : ℕ) → entry_in s f p ≡ entry_in t f p
  unfolding entry_in
  entry_alike p = rw (least_cong (used_count s.count) (taken_in s f p) (taken_in t f p) (taken_alike p), h.count)

  spot_alike : granted_spot s f ≡ granted_spot t f
  unfolding granted_spot table_spot
  spot_alike = rw (pass_alike, entry_alike (pass_of t f), h.count)

-- ---- an arrival, and a place asked for alone

module _ (s t : Settings) (h : Alike s t) where
  early_alike : (x : State) (a : List ℕ) (n : Lengths) (m k : ℕ) → early_part s x a n m k ≡ early_part t x a n m k
  unfolding early_part board_part
  early_alike x a n m k = rw (faults_alike s t h n.flash)

  block_alike : (p : Option Place) (k : Kind) (n : Lengths) (b : Block) → block_part s p k n b ≡ block_part t p k n b
  unfolding block_part
  block_alike p k n b = rw (access_alike s t h b.family k)

  reason_alike : (w : World) (a : List ℕ) → reason_of s w a ≡ reason_of t w a
  reason_alike w a =
      let n = lengths_of w.held in
      reason_parts s w a
      ∙ (rw (
        early_alike w.transfer a n (length w.seen) (length w.held.sectors),
        (alike_places s t (length w.held.flash) (field_at a 28) h).0,
        block_alike (place_in t w a) (block_kind w a) n (fields_of a),
      )
      (sym (reason_parts t w a)))

  why_alike : (w : World) (a : List ℕ) → why_of s w a ≡ why_of t w a
  unfolding why_of
  why_alike w a = rw (reason_alike w a, entries_alike s t h (field_at a 28) (reason_of t w a).cause)

  placed_alike : (len f : ℕ) → placed_of s len f ≡ placed_of t len f
  unfolding placed_of place_part
  placed_alike len f =
      rw (place_parts s len f, place_parts t len f, faults_alike s t h len, access_alike s t h f Flash, spot_alike s t h f)

  marked_alike : (f : ℕ) (x : Result Origin Reason) → placed_marks s f x ≡ placed_marks t f x
  marked_alike f (Err x) = entries_alike s t h f x.cause
  marked_alike f (Ok (Whole r)) = refl
  marked_alike f (Ok (Entry p k)) = refl

pub alike_settings_explain_alike : AlikeSettingsExplainAlike
unfolding AlikeSettingsExplainAlike why_place_of
alike_settings_explain_alike s t h =
    record {
      why = why_alike s t h;
      place = λ len f. rw (placed_alike s t h len f, marked_alike s t h f (placed_of t len f));
    }
