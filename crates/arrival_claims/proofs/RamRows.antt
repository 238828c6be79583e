-- The claims of specs/Ram.antt on rows 8 and 11 hold. Assumes nothing.
use Prim.Native.Nat.{ℕ, zero, suc, ◌+◌, ◌-◌, ◌≤◌, ◌<◌}
use mathlib.Core.Path.{◌≡◌, refl, sym, ap, subst, ◌∙◌}
use mathlib.Core.Logic.{◌≢◌}
use mathlib.Core.Bool.{Bool, true, false, not, cond, ◌&&◌, ◌||◌, or-true}
use mathlib.Core.List.{List}
use native.Mathlib.Omega.{arith}
use lib.Dec.{eqb, ltb, leb}
use lib.ListN.{get_or}
use borrow.Author.Tests.{leb-true, le-leb, ltb-true, lt-ltb, eqb-true, eq-eqb}
use Rattle.std.specs.Prelude.{Option, Some, None, Ok, Err}
use Rattle.laws.specs.Sets.{Set, any}
use Rattle.laws.proofs.Laws.{any_hit}
use Rattle.laws.proofs.Tests.{split, clash, both, and_left, and_right}
use Rattle.memory.specs.Bitmap.{marked_in}
use Rattle.uf2_block.specs.Block.{field_at, has_flag, fields_of, header_of, Header}
use Rattle.uf2_block.specs.declared.Block.{Block}
use Rattle.uf2_block.specs.declared.HeaderError.TheVariants as header
use Rattle.memory.specs.Flash.{payload_of}
use Rattle.partitions.specs.Settings.{family_data, family_arm_ns, user_is, has_user, entry_at}
use Rattle.partitions.specs.declared.Settings.{Settings}
use Rattle.partitions.proofs.Laws.{good_count}
use Rattle.placement.specs.Place.{used_count, whole_if, user_of, ram_family, place_from}
use Rattle.placement.specs.declared.Place.{Place}
use Rattle.transfer.specs.Transfer.{number_of}
use Rattle.transfer.specs.declared.Kind.{Kind}
use Rattle.transfer.specs.declared.Kind.TheVariants.{Flash, MainRam, XipRam}
use Rattle.transfer.specs.declared.Answer.{Answer}
use Rattle.transfer.specs.declared.Answer.TheVariants.{NoPlace}
use Rattle.uf2_checks.specs.Screen.{window_of, note_kind, room_in, bad_numbers, bad_address, placed, strayed, noted, window_kind, data_found, note_found, found, after_header, screen_in, screen_of, screening_number, Screening, Window}
use Rattle.uf2_checks.proofs.Laws.{found_comment, found_data}
use Rattle.uf2_checks.proofs.Windows.{WindowFacts, window_facts}
use Rattle.uf2_checks.specs.declared.Lengths.{Lengths}
use Rattle.uf2_checks.specs.declared.Rooms.{Rooms}
use Rattle.arrival.specs.Arrive.{World, Decision, standing, deed_of, after_screening, decided, done, receive_of}
use Rattle.arrival.specs.Windows.{window_start, window_end, kind_of}
use Rattle.arrival_claims.specs.Ram.{RamFamily, named, user, RamFamilies, RamAddresses}
use Rattle.arrival.proofs.Windows.{start_is}
use Rattle.arrival_claims.proofs.Screening.{Fielded, fielded, comment_is, kind_note, kind_window, flash_of, lens, Board, rooms_for, whole_is}
use Rattle.arrival_claims.proofs.DecisionFacts.{board_decides, Rows, stopped, through, rows, step_late}

-- ---- the families

some : (n : ℕ) (P : Set) → any n P ≡ true → (k : ℕ) × (k < n) × (P k ≡ true)
unfolding any
some zero P e = clash false e refl
some (suc n) P e =
    split (P n)
    (λ y. (n, omega arith, y))
    (λ z. let r = some n P (rest (any n P) (P n) e z) in (r.0, omega (arith, r.1), r.2))
  where
    rest : (a b : Bool) → a || b ≡ true → b ≡ false → a ≡ true
    rest true b e z = refl
    rest false b e z = clash b e z

used_is : (n : ℕ) → n ≤ 16 → used_count n ≡ n
used_is n h = rw (le-leb n 16 h)

module _ (s : Settings) (f : ℕ) (few : s.count ≤ 16) where
  ram_yes : ram_family s f ≡ true → RamFamily s f
  unfolding ram_family has_user
  ram_yes e =
      split (leb family_data f && leb f family_arm_ns)
      (λ y. named (leb-true family_data f (and_left (leb family_data f) (leb f family_arm_ns) y)) (leb-true f family_arm_ns (and_right (leb family_data f) (leb f family_arm_ns) y)))
      (λ z.
      let q : any (used_count s.count) (user_of s.table f) ≡ true = rw z at e in
      let k = some (used_count s.count) (user_of s.table f) q in
      let i = some 4 (user_is (entry_at s.table k.0) f) k.2 in
      let n = (entry_at s.table k.0).user_count in
      let u = get_or (entry_at s.table k.0).users i.0 0 in
      user k.0 i.0 (omega (arith, k.1, used_is s.count few)) i.1
      (ltb-true i.0 n (and_left (ltb i.0 n) (eqb u f) i.2))
      (eqb-true u f (and_right (ltb i.0 n) (eqb u f) i.2)))

  ram_is : RamFamily s f → ram_family s f ≡ true
  unfolding ram_family has_user
  ram_is (named l h) = rw (le-leb family_data f l, le-leb f family_arm_ns h)
  ram_is (user k i h l m e) =
      let n = (entry_at s.table k).user_count in
      let u = get_or (entry_at s.table k).users i 0 in
      let x : any 4 (user_is (entry_at s.table k) f) ≡ true =
      any_hit (user_is (entry_at s.table k) f) 4 i l (both (lt-ltb i n m) (eq-eqb u f e)) in
      let y : any (used_count s.count) (user_of s.table f) ≡ true =
      any_hit (user_of s.table f) (used_count s.count) k (omega (arith, used_is s.count few)) x in
      rw y (or-true (leb family_data f && leb f family_arm_ns))

-- ---- row 8

-- a window of RAM is whole for them, and none for others
ram_room : (r : Rooms) (k : Kind) → k ≢ Flash → (n : ℕ) × (room_in r k ≡ whole_if r.ram n)
ram_room r Flash n = absurd (n refl)
ram_room r MainRam n = (532480, refl)
ram_room r XipRam n = (16384, refl)

-- x is not a refusal by 8
abbrev Placed8 : Screening → Type 0
Placed8 x = screening_number x ≢ 8

eight_cond : (b : Bool) (x y : Screening) → Placed8 x → Placed8 y → Placed8 (cond b x y)
eight_cond true x y p q = p
eight_cond false x y p q = q

noted_8 : (k : Kind) (size : ℕ) (b : Block) → Placed8 (noted k size b)
unfolding noted
noted_8 k size b = eight_cond (bad_numbers size b) (Err _) (Ok _) (λ e. omega arith) (λ e. omega arith)

placed_8 : (k : Kind) (start size : ℕ) (b : Block) → Placed8 (placed k start size b)
unfolding placed
placed_8 k start size b =
    eight_cond (not (eqb b.size 256)) (Err _) _ (λ e. omega arith)
    (eight_cond (bad_numbers size b) (Err _) _ (λ e. omega arith)
    (eight_cond (bad_address k size b) (Err _) (Ok _) (λ e. omega arith) (λ e. omega arith)))

strayed_8 : (b : Block) → Placed8 (strayed b)
unfolding strayed
strayed_8 b = eight_cond (not (eqb b.size 256)) (Err _) (Err _) (λ e. omega arith) (λ e. omega arith)

-- rows 8 to 11 by the place of the kind
abbrev ByPlace : Option Place → Screening → Type 0
ByPlace None x = x ≡ Err NoPlace
ByPlace (Some p) x = Placed8 x

note_by : (k : Kind) (p : Option Place) (b : Block) → ByPlace p (note_found k p b)
unfolding note_found
note_by k None b = refl
note_by k (Some p) b = noted_8 k p.len b

data_by : (u : Window) (p : Option Place) (b : Block) → ByPlace p (data_found u p b)
unfolding data_found
data_by u None b = refl
data_by None (Some p) b = strayed_8 b
data_by (Some k) (Some p) b = placed_8 k p.start p.len b

module _ (s : Settings) (w : World) (a : List ℕ) where
  found_by : ByPlace (room_in (rooms_for s w a) (kind_of w a)) (found (rooms_for s w a) (lens w) w.transfer (fields_of a))
  found_by =
      split (has_flag a 0x1)
      (λ y.
      let k = note_kind (lens w) w.transfer (fields_of a) in
      subst (ByPlace (room_in (rooms_for s w a) (kind_of w a))) (sym (found_comment (rooms_for s w a) (lens w) w.transfer (fields_of a) (comment_is a ∙ y)))
      (subst (λ (v : Kind). ByPlace (room_in (rooms_for s w a) v) (note_found k (room_in (rooms_for s w a) k) (fields_of a))) (sym (kind_note s w a y))
      (note_by k (room_in (rooms_for s w a) k) (fields_of a))))
      (λ z.
      let u = window_of (lens w) (fields_of a).address in
      subst (ByPlace (room_in (rooms_for s w a) (kind_of w a))) (sym (found_data (rooms_for s w a) (lens w) w.transfer (fields_of a) (comment_is a ∙ z)))
      (subst (λ (v : Kind). ByPlace (room_in (rooms_for s w a) v) (data_found u (room_in (rooms_for s w a) (window_kind u)) (fields_of a))) (sym (kind_window s w a z))
      (data_by u (room_in (rooms_for s w a) (window_kind u)) (fields_of a))))

  -- of a family that may not go to RAM nothing passes row 8, and of one that may nothing is refused there
  pub record Row8 (x : Screening) : Type 0 where
    pub others : ram_family s (field_at a 28) ≡ false → (y : Answer) × (x ≡ Err y) × (number_of y ≤ 8)
    pub those : ram_family s (field_at a 28) ≡ true → Placed8 x

  row_8 : kind_of w a ≢ Flash → (h : Header) → Fielded a h → Row8 (after_header h (found (rooms_for s w a) (lens w) w.transfer))
  row_8 n (Err header.NotBlock) f = record { others = λ z. (_, refl, omega arith); those = λ y e. omega arith }
  row_8 n (Err header.Container) f = record { others = λ z. (_, refl, omega arith); those = λ y e. omega arith }
  row_8 n (Err header.NoFamily) f = record { others = λ z. (_, refl, omega arith); those = λ y e. omega arith }
  row_8 n (Ok b) f =
      let x = found (rooms_for s w a) (lens w) w.transfer (fields_of a) in
      let q = ram_room (rooms_for s w a) (kind_of w a) n in
      let e : ByPlace (whole_if (ram_family s (field_at a 28)) q.0) x = subst (λ (p : Option Place). ByPlace p x) q.1 found_by in
      subst (λ (b : Block). Row8 (found (rooms_for s w a) (lens w) w.transfer b)) (sym f)
      (record {
        others = λ z. (NoPlace, subst (λ (c : Bool). ByPlace (whole_if c q.0) x) z e, omega arith);
        those = λ y. subst (λ (c : Bool). ByPlace (whole_if c q.0) x) y e;
      })

  screen_8 : kind_of w a ≢ Flash → Row8 (screen_of s (lens w) w.transfer a)
  unfolding screen_of screen_in
  screen_8 n = row_8 n (header_of a) (fielded a)

  -- the answer to an arrival that has passed rows 1 to 3
  answered : (b : Bool) (x : Screening) → Placed8 x → number_of (done w (payload_of a) (after_screening w.transfer w.seen b x)).answer ≢ 8
  unfolding after_screening
  answered b (Err x) n = unfold done in n
  answered b (Ok g) n = λ e. omega (arith, step_late w (payload_of a) g (deed_of b g) w.transfer (marked_in w.seen g.number))

-- what the claim says of a decision
abbrev Says : Settings → World → List ℕ → Decision → Type 0
Says s w a d =
    (9 ≤ number_of (done w (payload_of a) d).answer → RamFamily s (field_at a 28))
    × (RamFamily s (field_at a 28) → number_of (done w (payload_of a) d).answer ≢ 8)

over : (w : World) (p : List ℕ) (b : Bool) (x : Screening) (y : Answer) → x ≡ Err y → number_of y ≤ 8
    → 9 ≤ number_of (done w p (after_screening w.transfer w.seen b x)).answer → ⊥
unfolding after_screening done
over w p b x y e h l = let q : 9 ≤ number_of y = rw e at l in omega arith

screened : (s : Settings) (w : World) (a : List ℕ) → Board s w → (b : Bool) (x : Screening) → Row8 s w a x
    → Says s w a (after_screening w.transfer w.seen b x)
screened s w a B b x r =
    let few = good_count s (flash_of w) B.good in (
      λ l. split (ram_family s (field_at a 28)) (ram_yes s (field_at a 28) few)
          (λ z. let y = r.others z in absurd (over w (payload_of a) b x y.0 y.1 y.2 l)),
      λ m. answered s w a b x (r.those (ram_is s (field_at a 28) few m)),
    )

pub ram_families : RamFamilies
unfolding RamFamilies receive_of
ram_families s w a n = go (rows s w a)
  where
    go : Rows s w a → Says s w a (decided s w a)
    go (stopped x h e) = subst (Says s w a) (sym e) (unfold done in (λ l. absurd (omega arith), λ m q. omega arith))
    go (through B l) =
        subst (Says s w a) (sym (board_decides s w a B l)) (screened s w a B (standing s w.held.flash a) (screen_of s (lens w) w.transfer a) (screen_8 s w a n))

-- ---- row 11

past_placed : (k : Kind) (start size : ℕ) (b : Block) → screening_number (placed k start size b) ≡ 11 → bad_address k size b ≡ true
unfolding placed
past_placed k start size b e =
    split (bad_address k size b)
    (λ y. y)
    (λ z.
    split (not (eqb b.size 256))
    (λ y. let q : 9 ≡ 11 = rw y at e in absurd (omega arith))
    (λ n.
    split (bad_numbers size b)
    (λ y. let q : 10 ≡ 11 = rw (n, y) at e in absurd (omega arith))
    (λ m. let q : 0 ≡ 11 = rw (n, m, z) at e in absurd (omega arith))))

ram_past : (k : Kind) (size : ℕ) (b : Block) → k ≢ Flash → bad_address k size b ≡ true → size < b.address - window_start k + 256
ram_past Flash size b n e = absurd (n refl)
ram_past MainRam size b n e = ltb-true _ _ e
ram_past XipRam size b n e = ltb-true _ _ e

ram_end : (k : Kind) → k ≢ Flash → (r : Rooms) (start size : ℕ) → room_in r k ≡ Some (place_from start size) → window_start k + size ≡ window_end k
ram_end Flash n r start size e = absurd (n refl)
ram_end MainRam n r start size e = omega (arith, whole_is r.ram 532480 start size e)
ram_end XipRam n r start size e = omega (arith, whole_is r.ram 16384 start size e)

past_data : (n : Lengths) (x : ℕ) (r : Rooms) (b : Block) → b.address ≡ x → (u : Window) → WindowFacts n x u → window_kind u ≢ Flash
    → (p : Option Place) → room_in r (window_kind u) ≡ p → screening_number (data_found u p b) ≡ 11 → window_end (window_kind u) < x + 256
unfolding data_found
past_data n x r b a None f k p e q = absurd (k refl)
past_data n x r b a (Some k) f m None e q = absurd (omega arith)
past_data n x r b a (Some k) f m (Some p) e q =
    omega (arith, ram_past k p.len b m (past_placed k p.start p.len b q), ram_end k m r p.start p.len e, f.low, start_is k)

module _ (s : Settings) (w : World) (a : List ℕ) (n : kind_of w a ≢ Flash) (z : has_flag a 0x1 ≡ false) where
  abbrev Past : Type 0
  Past = window_end (kind_of w a) < field_at a 12 + 256

  past_found : screening_number (found (rooms_for s w a) (lens w) w.transfer (fields_of a)) ≡ 11 → Past
  past_found e =
      let u = window_of (lens w) (fields_of a).address in
      let k : kind_of w a ≡ window_kind u = kind_window s w a z in
      let q : screening_number (data_found u (room_in (rooms_for s w a) (window_kind u)) (fields_of a)) ≡ 11 =
      ap screening_number (sym (found_data (rooms_for s w a) (lens w) w.transfer (fields_of a) (comment_is a ∙ z))) ∙ e in
      subst (λ (v : Kind). window_end v < field_at a 12 + 256) (sym k)
      (past_data (lens w) (field_at a 12) (rooms_for s w a) (fields_of a) (unfold fields_of in refl) u facts (λ y. n (k ∙ y)) (room_in (rooms_for s w a) (window_kind u)) refl q)
    where
      facts : WindowFacts (lens w) (field_at a 12) (window_of (lens w) (fields_of a).address)
      facts = unfold fields_of in window_facts (lens w) (field_at a 12)

  past_header : (h : Header) → Fielded a h → screening_number (after_header h (found (rooms_for s w a) (lens w) w.transfer)) ≡ 11 → Past
  past_header (Err header.NotBlock) f e = absurd (omega arith)
  past_header (Err header.Container) f e = absurd (omega arith)
  past_header (Err header.NoFamily) f e = absurd (omega arith)
  past_header (Ok b) f e =
      past_found (subst (λ (b : Block). screening_number (found (rooms_for s w a) (lens w) w.transfer b) ≡ 11) f e)

  past_screen : screening_number (screen_of s (lens w) w.transfer a) ≡ 11 → Past
  unfolding screen_of screen_in
  past_screen e = past_header (header_of a) (fielded a) e

  past_answer : (b : Bool) (x : Screening) → number_of (done w (payload_of a) (after_screening w.transfer w.seen b x)).answer ≡ 11 → screening_number x ≡ 11
  unfolding after_screening
  past_answer b (Err x) e = unfold done in e
  past_answer b (Ok g) e =
      absurd (omega (arith, step_late w (payload_of a) g (deed_of b g) w.transfer (marked_in w.seen g.number)))

  pub past_end : number_of (receive_of s w a).answer ≡ 11 → Past
  unfolding receive_of
  past_end e = go (rows s w a)
    where
      go : Rows s w a → Past
      go (stopped x h d) =
          let q : number_of x ≡ 11 = unfold done in ap (λ (d : Decision). number_of (done w (payload_of a) d).answer) (sym d) ∙ e in
          absurd (omega arith)
      go (through B l) =
          past_screen (past_answer (standing s w.held.flash a) (screen_of s (lens w) w.transfer a)
          (ap (λ (d : Decision). number_of (done w (payload_of a) d).answer) (sym (board_decides s w a B l)) ∙ e))

pub ram_addresses : RamAddresses
unfolding RamAddresses
ram_addresses s w a n z e = omega (arith, past_end s w a n z e)
