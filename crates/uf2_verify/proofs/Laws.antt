-- What stands, in the shape of the code's returns. Assumes nothing.
use Prim.Native.Nat.{ℕ, ◌+◌, ◌-◌, ◌<◌, ◌≤◌}
use mathlib.Core.Path.{◌≡◌, refl, sym, ap, ◌∙◌}
use mathlib.Core.Bool.{Bool, true, false, not, ◌&&◌, ◌||◌, and-false}
use mathlib.Core.List.{List}
use native.Mathlib.Numerals.{add-one}
use native.Mathlib.Omega.{arith}
use lib.Dec.{eqb, leb}
use lib.ListN.{length, get_or, take, drop, length-take, length-drop}
use borrow.Author.Tests.{le-leb, lt-leb, eq-eqb, ne_eqb}
use Rattle.std.specs.Prelude.{Result, Ok, Err}
use Rattle.laws.specs.Sets.{any}
use Rattle.laws.proofs.Laws.{any_zero}
use Rattle.memory.specs.Flash.{payload_of}
use Rattle.memory.proofs.flash.Laws.{length_payload}
use Rattle.uf2_block.specs.Block.{field_at}
use Rattle.partitions.specs.declared.Settings.{Settings}
use Rattle.placement.specs.Place.{StartsLow}
use Rattle.transfer.specs.Transfer.{fresh}
use Rattle.transfer.specs.declared.Transfer.{Transfer}
use Rattle.transfer.specs.declared.Answer.{Answer}
use Rattle.transfer.specs.declared.Answer.TheVariants.{BadBuffers, BadSettings}
use Rattle.transfer.specs.declared.State.TheVariants.{Idle}
use Rattle.uf2_checks.specs.Screen.{screen_in, screen_of, screen_at, Screening}
use Rattle.uf2_checks.specs.declared.Lengths.{Lengths}
use Rattle.uf2_checks.specs.declared.Rooms.{Rooms}
use Rattle.uf2_checks.specs.declared.PlacedBlock.{PlacedBlock}
use Rattle.uf2_checks.proofs.Laws.{low_kept}
use Rattle.arrival.specs.Arrive.{Held, lengths_of}
use Rattle.uf2_known.specs.Verdict.{known_of}
use Rattle.uf2_known.specs.declared.Known.{Known}
use Rattle.uf2_verify.specs.declared.Stand.{Stand}
use Rattle.uf2_verify.specs.Stands.{differ_at, same_page, page_stands, body_stands, told_by, after_rows, stand_of, known_stand}

-- ---- two pages, byte for byte

module _ (a b : List ℕ) where
  pub none_yet : true ≡ not (any 0 (differ_at a b))
  none_yet = ap not (sym (any_zero (differ_at a b)))

  both_not : (x y : Bool) → not x && y ≡ not (x || not y)
  both_not true y = refl
  both_not false true = refl
  both_not false false = refl

  pub one_more : (i : ℕ) {s : Bool} → s ≡ not (any i (differ_at a b)) → s && eqb (get_or a i 0) (get_or b i 0) ≡ not (any (i + 1) (differ_at a b))
  unfolding any
  one_more i e =
      rw add-one
      (ap (λ (s : Bool). s && eqb (get_or a i 0) (get_or b i 0)) e ∙ both_not (any i (differ_at a b)) (eqb (get_or a i 0) (get_or b i 0)))

  pub all_read : (i : ℕ) → i ≡ 256 → {s : Bool} → s ≡ not (any i (differ_at a b)) → s ≡ same_page a b
  unfolding same_page
  all_read i n e = e ∙ ap (λ (m : ℕ). not (any m (differ_at a b))) n

-- ---- a page at an address

module _ (b : List ℕ) (at : ℕ) (a : List ℕ) where
  pub stands_short : length a < 288 → false ≡ page_stands b at (payload_of a)
  unfolding page_stands payload_of
  stands_short h = rw (ne_eqb (length (take 256 (drop 32 a))) 256 (λ e. omega (arith, short, e)))
    where
      short : length (take 256 (drop 32 a)) < 256
      short = simp (length-take, length-drop) (omega arith)

  pub stands_out : length b < at + 256 → false ≡ page_stands b at (payload_of a)
  unfolding page_stands
  stands_out h = rw (lt-leb (at + 256) (length b) h, and-false (eqb (length (payload_of a)) 256))

  -- the parts as the code lends them
  pub stands_there : 288 ≤ length a → at + 256 ≤ length b → {r : Bool} → r ≡ same_page (take (at + 256 - at) (drop at b)) (take 256 (drop 32 a)) → r ≡ page_stands b at (payload_of a)
  unfolding page_stands payload_of
  stands_there l h e =
      let n : at + 256 - at ≡ 256 = omega arith in
      rw (eq-eqb (length (take 256 (drop 32 a))) 256 (unfold payload_of in length_payload a l), le-leb (at + 256) (length b) h)
      (e ∙ ap (λ (m : ℕ). same_page (take m (drop at b)) (take 256 (drop 32 a))) n)

-- ---- every row

-- the screening beside a fresh transfer
pub fresh_screen : (r : Rooms) (n : Lengths) (a : List ℕ) {t : Transfer} {c : Screening} → c ≡ screen_at r n t.state a → t ≡ fresh → c ≡ screen_at r n Idle a
fresh_screen r n a e q = e ∙ ap (λ (t : Transfer). screen_at r n t.state a) q

module _ (known : Known) (h : Held) (a : List ℕ) where
  pub told_lengths : known.right ≡ false → Err BadBuffers ≡ known_stand known h a
  unfolding known_stand
  told_lengths l = rw l

  module _ (l : known.right ≡ true) where
    pub told_settings : known.good ≡ false → Err BadSettings ≡ known_stand known h a
    unfolding known_stand
    told_settings g = rw (l, g)

    module _ (g : known.good ≡ true) {c : Screening} (e : c ≡ screen_at known.rooms (lengths_of h) Idle a) where
      after : {x : Result Stand Answer} → x ≡ after_rows h (payload_of a) c → x ≡ known_stand known h a
      unfolding known_stand
      after y = rw (l, g) (y ∙ ap (after_rows h (payload_of a)) e)

      pub told_refused : {x : Answer} → c ≡ Err x → Err x ≡ known_stand known h a
      told_refused q = after (unfold after_rows in rw q)

      pub told_passed : {p : PlacedBlock} → c ≡ Ok p → {x : Result Stand Answer}
          → x ≡ told_by (body_stands h p.head.kind p.body (payload_of a)) → x ≡ known_stand known h a
      told_passed q y = after (unfold after_rows in rw q y)

-- with what the settings and the lengths truly say handed in, it is as the meaning has it
pub stand_is : (s : Settings) (h : Held) (a : List ℕ) {k : Known} → k ≡ known_of s (lengths_of h) 16384 1024 a → StartsLow k.rooms.flash → known_stand k h a ≡ stand_of s h a
unfolding known_stand stand_of screen_at screen_of
stand_is s h a {k} e low =
    let r = ap (λ (k : Known). k.right) e in
    let g = ap (λ (k : Known). k.good) e in
    let p = low_kept k.rooms.flash low in
    let q = ap (λ (k : Known). k.rooms) e in
    rw (r, g, p, q)
