-- The check of a whole file, by its parts: what the first piece says, every piece, every number, regions, and the conditions before them. Assumes
-- nothing.
use Prim.Native.Nat.{ℕ, ◌<◌}
use Rattle.std.specs.Prelude.{Ok, Err}
use mathlib.Core.Path.{◌≡◌, refl, sym, ap, subst, ◌∙◌, fun_ext}
use mathlib.Core.Logic.{◌≢◌}
use mathlib.Core.Bool.{Bool, true, false, cond, not, ◌&&◌}
use mathlib.Core.List.{List}
use native.Mathlib.Omega.{arith}
use lib.Dec.{eqb}
use lib.ListN.{length}
use borrow.Author.Tests.{eqb-true, eq-eqb, ne_eqb, not-true, not-false}
use Rattle.std.specs.Prelude.{Option}
use Rattle.laws.specs.Sets.{Set, none, any, least}
use Rattle.laws.proofs.Tests.{split, clash, and_left, and_right}
use Rattle.laws.proofs.Laws.{any_none, any_all, any_cong, least_below}
use Rattle.memory.specs.Bitmap.{marked_in, unmarked, map_of}
use Rattle.memory.proofs.bitmap.MapLaws.{map_none, marked_map}
use Rattle.memory.specs.Cells.{Kept}
use Rattle.memory.proofs.cells.Laws.{kept_none}
use Rattle.memory.proofs.bitmap.Laws.{length_unmarked}
use Rattle.uf2_block.specs.Block.{field_at, has_flag}
use Rattle.partitions.specs.Settings.{good_settings}
use Rattle.partitions.specs.declared.Settings.{Settings}
use Rattle.placement.specs.Place.{place_of}
use Rattle.transfer.specs.Transfer.{same_kind, head_with}
use Rattle.transfer.specs.declared.Kind.{Kind}
use Rattle.transfer.specs.declared.Kind.TheVariants.{Flash}
use Rattle.transfer.specs.declared.Head.{Head}
use Rattle.uf2_checks.specs.Screen.{rooms_of, Window}
use Rattle.uf2_checks.specs.declared.Lengths.{Lengths}
use Rattle.uf2_checks.specs.declared.Rooms.{Rooms}
use Rattle.arrival.specs.Arrive.{right_lengths}
use Rattle.arrival_claims.proofs.Screening.{passing_few}
use Rattle.arrival_claims.proofs.DecisionFacts.{right_true}
use Rattle.trace_counts.specs.Counts as counts
use Rattle.file_check.specs.declared.FileFault.TheVariants.{Missing, Guarded}
use Rattle.file_check.specs.Check.{Checked, piece_at, pieces_in, field_in, is_page, total_in, family_in, kind_in, numbers_below, fault_at, is_valid, is_faulty, is_missing, is_guarding, whole_of, pieces_of, right_maps, check_of}
use Rattle.file_check.proofs.First.{least_cong}
use Rattle.file_check.proofs.Sound.{fine, board_of_lem, passing_of}
use Rattle.file_check.proofs.Theorems.{empty, empty_start}
use Rattle.file_checking.specs.Pieces.Parts.{Maps, maps, file_head, starts_below, Holds}
use Rattle.file_checking.specs.Regions.Guarding.{guards_alone, guards_at}
use Rattle.file_checking.specs.Parts.{first_of, Opened, kind_if, guarded_by, Counted, Cleared}

-- ---- what the first piece says

kind_if_lem : (n : Lengths) (f : List ℕ) → kind_if (is_page f 0) n (field_in f 0 12) ≡ kind_in n f
kind_if_lem n f = split (has_flag (piece_at f 0) 0x1) (λ y. rw y) (λ z. rw z)

pub head_is : (n : Lengths) (f : List ℕ) {a : List ℕ} {p : Bool} {x fam tot : ℕ} {k : Kind} {h : Head} → a ≡ piece_at f 0 → p ≡ not (has_flag a 0x1) → x ≡ field_at a 12 → fam ≡ field_at a 28
    → tot ≡ field_at a 24 → k ≡ kind_if p n x → h ≡ head_with k fam tot → h ≡ file_head n f
head_is n f z p x g t k e =
    let p' : _ ≡ is_page f 0 = p ∙ ap (λ (a : List ℕ). not (has_flag a 0x1)) z in
    let x' : _ ≡ field_in f 0 12 = x ∙ ap (λ (a : List ℕ). field_at a 12) z in
    let g' : _ ≡ family_in f = g ∙ ap (λ (a : List ℕ). field_at a 28) z in
    let t' : _ ≡ total_in f = t ∙ ap (λ (a : List ℕ). field_at a 24) z in
    e ∙ (λ i. head_with (k i) (g' i) (t' i)) ∙ ap (λ (u : Kind). head_with u (family_in f) (total_in f)) ((λ i. kind_if (p' i) n (x' i)) ∙ kind_if_lem n f)

-- ---- regions

guarded_is : (s : Settings) (n : Lengths) (f : List ℕ)
    → guarded_by (place_of s n.flash (family_in f)) (kind_in n f) f ≡ cond (any (pieces_in f) (is_guarding s n f)) (Err (Guarded (least (pieces_in f) (is_guarding s n f)))) (Ok tt)
unfolding guarded_by guards_alone
guarded_is s n f =
    split (same_kind (kind_in n f) Flash)
    (λ y.
    let same : (j : ℕ) → j < pieces_in f → guards_at (place_of s n.flash (family_in f)) f j ≡ is_guarding s n f j = λ j l. rw y in
    let a = any_cong (pieces_in f) (guards_at (place_of s n.flash (family_in f)) f) (is_guarding s n f) same in
    let b = least_cong (pieces_in f) (guards_at (place_of s n.flash (family_in f)) f) (is_guarding s n f) same in
    (λ t. cond (y t) (cond (a t) (Err (Guarded (b t))) (Ok tt)) (Ok tt)))
    (λ z.
    let e : any (pieces_in f) (is_guarding s n f) ≡ false = any_none (is_guarding s n f) (pieces_in f) (λ j l. rw z) in
    (λ t. cond (z t) (cond (any (pieces_in f) (guards_at (place_of s n.flash (family_in f)) f)) (Err (Guarded (least (pieces_in f) (guards_at (place_of s n.flash (family_in f)) f)))) (Ok tt)) (Ok tt))
    ∙ sym (λ t. cond (e t) (Err (Guarded (least (pieces_in f) (is_guarding s n f)))) (Ok tt)))

-- ---- all of them

module _ (s : Settings) (n : Lengths) (f m : List ℕ) (ct : Counted f m) {h : Head} (hd : h ≡ file_head n f) where
  missing_same : (k : ℕ) → k < total_in f → counts.is_missing m k ≡ is_missing f k
  missing_same k l = ap not ((λ t. marked_in (ct.numbers t) k) ∙ marked_map 16384 (numbers_below f (pieces_in f)) k (omega (arith, ct.few)))

  pub number_missing : pieces_in f ≢ h.total → {k : ℕ} → k ≡ least h.total (counts.is_missing m) → Err (Missing k) ≡ whole_of s n f
  unfolding whole_of
  number_missing d {k} e =
      let t : h.total ≡ total_in f = ap (λ (x : Head). x.total) hd in
      let z : eqb (pieces_in f) (total_in f) ≡ false = ne_eqb _ _ (λ q. d (q ∙ sym t)) in
      rw z (ap (λ (x : ℕ). Err (Missing x)) (e ∙ ap (λ (x : ℕ). least x (counts.is_missing m)) t ∙ least_cong (total_in f) (counts.is_missing m) (is_missing f) missing_same))

  pub numbers_whole : pieces_in f ≡ h.total → {r : Rooms} → r ≡ rooms_of s n.flash h.family → {x : Checked} → x ≡ guarded_by r.flash h.kind f → x ≡ whole_of s n f
  unfolding whole_of
  numbers_whole q {r} g e =
      let t : h.total ≡ total_in f = ap (λ (x : Head). x.total) hd in
      let y : eqb (pieces_in f) (total_in f) ≡ true = eq-eqb _ _ (q ∙ t) in
      e ∙ ap (λ (x : Rooms). guarded_by x.flash h.kind f) g ∙ ap (λ (x : Head). guarded_by (place_of s n.flash x.family) x.kind f) hd ∙ guarded_is s n f ∙ sym (rw y)

-- ---- every piece

module _ (s : Settings) (n : Lengths) (f : List ℕ) where
  -- a fault at the first faulty piece is none that says Valid
  none_faulty : {x : Checked} → x ≡ first_of s n f → is_valid x ≡ true → any (pieces_in f) (is_faulty s n f) ≡ false
  unfolding first_of
  none_faulty e v =
      split (any (pieces_in f) (is_faulty s n f))
      (λ y.
      let r = least_below (is_faulty s n f) (pieces_in f) y in
      let q : first_of s n f ≡ fault_at s n f (least (pieces_in f) (is_faulty s n f)) = rw y in
      clash _ (sym (ap is_valid (e ∙ q)) ∙ v) (not-true _ r.1))
      (λ z. z)

  pub fault_first : {x : Checked} → x ≡ first_of s n f → is_valid x ≡ false → x ≡ pieces_of s n f
  unfolding first_of pieces_of
  fault_first e v =
      split (any (pieces_in f) (is_faulty s n f))
      (λ y. rw y (e ∙ rw y))
      (λ z. let q : first_of s n f ≡ Ok tt = rw z in clash (is_valid (Ok tt)) refl (sym (ap is_valid (e ∙ q)) ∙ v))

  pub no_fault : {x : Checked} → x ≡ first_of s n f → is_valid x ≡ true → {r : Checked} → r ≡ whole_of s n f → r ≡ pieces_of s n f
  unfolding pieces_of
  no_fault e v q = q ∙ sym (rw (none_faulty e v))

  pub counted : {m₀ : Maps} → Opened s n f m₀ → 0 < pieces_in f → {x : Checked} → x ≡ first_of s n f → is_valid x ≡ true → (m : Maps) → Holds s n f (pieces_in f) m → Counted f m.numbers
  counted op some e v m held =
      let x = fine s n f 0 (not-false _ (any_all (is_faulty s n f) (pieces_in f) (none_faulty e v) 0 some)) in
      let B = board_of_lem s n (empty n) (empty_start n) op.right op.good in
      record { few = passing_few s (empty n) (piece_at f 0) x.placed (passing_of s n f (empty n) (empty_start n) 0 x.placed x.passes) B; numbers = held.numbers }

-- ---- cleared maps

holds_none : (s : Settings) (n : Lengths) (f : List ℕ) → Holds s n f 0 (maps (unmarked 16384) (unmarked 16384) (unmarked 2080))
unfolding unmarked any
holds_none s n f =
    record {
      numbers = map_none 16384 ∙ ap (map_of 16384) (fun_ext (λ k. refl));
      kept = subst (λ (A : Set). Kept A (unmarked 16384) (unmarked 2080)) (fun_ext {f = none} {g = starts_below s n f 0} (λ k. refl)) (kept_none 16384 2080);
      cells_length = length_unmarked 16384;
      offsets_length = length_unmarked 2080;
    }

module _ (s : Settings) (n : Lengths) (f : List ℕ) (a b c : List ℕ) (cl : Cleared (maps a b c)) (right : right_maps n (length a) (length b) (length c) ≡ true) where
  lengths : (right_lengths 512 n (length a) 1024 ≡ true) × (length b ≡ 16384) × (length c ≡ 2080)
  unfolding right_maps
  lengths =
      let l = and_left _ _ right in
      (and_left _ _ l, eqb-true _ _ (and_right (right_lengths 512 n (length a) 1024) _ l), eqb-true _ _ (and_right (right_lengths 512 n (length a) 1024 && eqb (length b) 16384) _ right))

  pub opened : good_settings s n.flash ≡ true → Opened s n f (maps a b c)
  opened good =
      let l = lengths in
      let e : length a ≡ 16384 = (right_true 512 n (length a) 1024 l.0).seen in
      record {
        right = ap (λ (x : ℕ). right_lengths 512 n x 1024) (sym e) ∙ l.0;
        good = good;
        held = subst (Holds s n f 0) (sym (λ t. maps ((cl.numbers ∙ ap unmarked e) t) ((cl.cells ∙ ap unmarked l.1) t) ((cl.offsets ∙ ap unmarked l.2) t))) (holds_none s n f);
      }

-- the maps are cleared, and keep their lengths
pub same_lengths : (s : Settings) (n : Lengths) (f : List ℕ) {a b c a' b' c' : ℕ} → a ≡ a' → b ≡ b' → c ≡ c' → {x : Checked} → x ≡ check_of s n a b c f → x ≡ check_of s n a' b' c' f
same_lengths s n f p q r e = e ∙ (λ t. check_of s n (p t) (q t) (r t) f)
