-- Demand 3 over an invariant of the buffers and the sector map: transfer and seen map are told by the set of seen blocks alone, the answers by it
-- and by what stands in the flash. Nothing here knows of pages. Assumes nothing.
use Prim.Native.Nat.{ℕ, ◌+◌, ◌<◌, ◌≤◌}
use mathlib.Core.Path.{◌≡◌, refl, sym, ap, subst, ◌∙◌}
use mathlib.Core.Logic.{◌⊎◌, inl, inr}
use mathlib.Core.Bool.{Bool, true, false, cond, ◌&&◌}
use mathlib.Core.List.{List}
use native.Mathlib.Omega.{arith}
use lib.Dec.{eqb, ltb}
use lib.ListN.{length}
use borrow.Author.Tests.{lt-ltb, ltb-true, ne_eqb}
use Rattle.std.specs.Prelude.{Ok}
use Rattle.laws.specs.Sets.{Set, none, add, size}
use Rattle.laws.proofs.Tests.{split, eqb_same}
use Rattle.laws.proofs.Laws.{add_idle, size_none, size_lt, size_add, size_some}
use Rattle.memory.specs.Bitmap.{marked_in, with_mark, map_of}
use Rattle.memory.proofs.bitmap.MapLaws.{map_none, marked_map, mark_map}
use Rattle.memory.specs.Flash.{payload_of}
use Rattle.transfer.specs.Transfer.{same_kind, running, counted, raised, accepted, step_of}
use Rattle.transfer.specs.declared.Kind.TheVariants.{Flash}
use Rattle.transfer.specs.declared.Head.{Head}
use Rattle.transfer.specs.declared.State.{State}
use Rattle.transfer.specs.declared.State.TheVariants.{Done}
use Rattle.transfer.specs.declared.Answer.{Answer}
use Rattle.transfer.specs.declared.Answer.TheVariants.{Finished, Again}
use Rattle.transfer.specs.declared.Deed.{Deed}
use Rattle.uf2_checks.specs.declared.Body.{Body}
use Rattle.uf2_checks.specs.declared.Body.TheVariants.{Page, Note}
use Rattle.uf2_checks.specs.declared.PlacedBlock.{PlacedBlock}
use Rattle.arrival.specs.Arrive.{Held, World, Outcome, accepts, body_deed, deed_of, stepped, cleared_if, wiped_if, at_of, done_to, accept_of, done}
use Rattle.arrival.specs.File.{File, is_data, head_in}
use Rattle.arrival.proofs.Heads.{same_head_lem}
use Rattle.arrival.proofs.Pages.{arrive, apply, took_held}

-- ---- the blocks of a file, and what they hold

-- a file, the storage address of each of its data blocks, and whether in a flash what it would store stands already
pub record Blocks : Type 0 where
  pub file : File
  pub at : ℕ → ℕ
  pub stands : List ℕ → ℕ → Bool

abbrev pub count : Blocks → ℕ
count F = F.file.total

abbrev pub head_by : Blocks → Head
head_by F = head_in F.file

abbrev pub bytes_of : Blocks → ℕ → List ℕ
bytes_of F k = F.file.block k

abbrev pub body_of : Blocks → ℕ → Body
body_of F k = cond (is_data F.file k) (Page (F.at k)) Note

abbrev pub placed_of : Blocks → ℕ → PlacedBlock
placed_of F k = record { head = head_by F; number = k; body = body_of F k }

-- what block k does with a flash
abbrev pub deed_by : Blocks → List ℕ → ℕ → Deed
deed_by F f k = deed_of (F.stands f k) (placed_of F k)

-- what block k comes to
abbrev pub coming : Blocks → World → ℕ → Outcome
coming F v k = arrive v (F.stands v.held.flash k) (placed_of F k) (bytes_of F k)

-- what block k does to the buffers and the sector map
abbrev pub applied : Blocks → ℕ → Held → Held
applied F k x = apply (F.stands x.flash k) (placed_of F k) (bytes_of F k) x

-- by the kind of its file: only a page of flash is kept
pub applied_is : (F : Blocks) (k : ℕ) (x : Held)
    → applied F k x
    ≡ done_to (body_deed (same_kind F.file.kind Flash && F.stands x.flash k) (body_of F k)) F.file.kind (at_of (body_of F k)) (payload_of (bytes_of F k)) x
unfolding apply
applied_is F k x = refl

abbrev pub wipe : Held → Held
wipe x = wiped_if true x

-- ---- what the set S of seen blocks leaves

abbrev pub reached : Blocks → Set → Held → World
reached F S x = record { transfer = counted (head_by F) (size (count F) S); seen = map_of 16384 S; held = x }

-- an invariant of the buffers and the sector map that clearing begins and each new block keeps, where the flashes met are as `Met` says
pub record Invariant (F : Blocks) (start : Held) (Inv : Set → Held → Type 0) (Met : List ℕ → Type 0) : Type 1 where
  pub few : count F ≤ 131072
  pub begins : Inv none (wipe start)
  pub goes_on : (S : Set) (k : ℕ) (x : Held) → k < count F → S k ≡ false → Inv S x → Met x.flash → Inv (add k S) (applied F k x)

-- nothing is asked of them
abbrev pub Any : List ℕ → Type 0
Any f = Unit {0}

-- each block of the file, coming first, opens a transfer (and discards one, or not)
pub record Opens (F : Blocks) (w : World) (d : Bool) : Type 0 where
  pub sized : length w.seen ≡ 16384
  pub opens : (marked : Bool) (e : Deed) → step_of w.transfer (head_by F) marked e ≡ Ok (accepted e true d (head_by F) 1)

-- the world v, once the blocks of S have come to w
pub data After (F : Blocks) (w : World) (Inv : Set → Held → Type 0) (S : Set) (v : World) : Type 0 where
  untouched : S ≡ none → v ≡ w → After F w Inv S v
  begun : (x : Held) → 1 ≤ size (count F) S → Inv S x → v ≡ reached F S x → After F w Inv S v

-- the answer to block k once the blocks of S have come, where it does e if it is new
unfoldable pub verdict : Blocks → Set → ℕ → Deed → Answer
verdict F S k e =
    cond (ltb (size (count F) S) (count F)) (cond (S k) Again (raised e (head_by F) (size (count F) S + 1))) Finished

-- what block k does to such a world, of flash f
pub record Stepped (F : Blocks) (w : World) (Inv : Set → Held → Type 0) (d : Bool) (S : Set) (k : ℕ) (f : List ℕ) (o : Outcome) : Type 0 where
  pub next : After F w Inv (add k S) o.world
  pub told : o.answer ≡ verdict F S k (deed_by F f k)

outcome_is : (o p : Outcome) → o.world.transfer ≡ p.world.transfer → o.world.seen ≡ p.world.seen → o.world.held ≡ p.world.held
    → o.answer ≡ p.answer → o.discarded ≡ p.discarded → o ≡ p
outcome_is o p a b c e f = λ i. record { world = record { transfer = a i; seen = b i; held = c i }; answer = e i; discarded = f i }

module _ (F : Blocks) (w : World) (Inv : Set → Held → Type 0) (Met : List ℕ → Type 0) (K : Invariant F w.held Inv Met) (d : Bool) (o : Opens F w d)
    (k : ℕ) (h : k < count F) where
  some_now : (S : Set) → 1 ≤ size (count F) (add k S)
  some_now S = size_some (count F) (add k S) k h (rw (eqb_same k))

  -- what is left where block k is new, over the seen map of S and the buffers x
  abbrev taken : Set → Held → Bool → Outcome
  taken S x discards =
      record { world = reached F (add k S) (applied F k x); answer = verdict F S k (deed_by F x.flash k); discarded = discards }

  -- a new block is accepted
  took : (v : World) (S : Set) (x : Held) (clears discards : Bool) → S k ≡ false → cleared_if clears v.seen ≡ map_of 16384 S
      → wiped_if clears v.held ≡ x
      → (let e = deed_by F v.held.flash k in
      done v (payload_of (bytes_of F k)) (accepts (placed_of F k) e (accepted e clears discards (head_by F) (size (count F) S + 1))))
      ≡ taken S x discards
  unfolding done accept_of accepted
  took v S x clears discards new p q =
      let same : v.held.flash ≡ x.flash = sym (wiped_flash clears v.held) ∙ ap (λ (x : Held). x.flash) q in
      outcome_is _ _ (ap (counted (head_by F)) (omega (arith, size_add (count F) S k h new)))
      (ap (λ (m : List ℕ). with_mark m k) p ∙ mark_map 16384 S k (omega (arith, K.few)))
      (took_held v (bytes_of F k) (F.stands v.held.flash k) (placed_of F k) (accepted (deed_by F v.held.flash k) clears discards (head_by F) (size (count F) S + 1))
      ∙ (λ i. apply (F.stands (same i) k) (placed_of F k) (bytes_of F k) (q i)))
      (ap (λ (f : List ℕ). raised (deed_by F f k) (head_by F) (size (count F) S + 1)) same ∙ told)
      refl
    where
      wiped_flash : (b : Bool) (x : Held) → (wiped_if b x).flash ≡ x.flash
      wiped_flash b x = unfold wiped_if in refl

      told : raised (deed_by F x.flash k) (head_by F) (size (count F) S + 1) ≡ verdict F S k (deed_by F x.flash k)
      told = unfold verdict in rw (lt-ltb (size (count F) S) (count F) (size_lt (count F) S k h new), new)

  first : coming F w k ≡ taken none (wipe w.held) d
  unfolding arrive
  first =
      let e = deed_by F w.held.flash k in
      ap (λ st. done w (payload_of (bytes_of F k)) (stepped (placed_of F k) e st)) (o.opens (marked_in w.seen k) e)
      ∙ ap (λ (c : ℕ). done w (payload_of (bytes_of F k)) (accepts (placed_of F k) e (accepted e true d (head_by F) c))) one_more
      ∙ took w none (wipe w.held) true d refl cleared refl
    where
      one_more : 1 ≡ size (count F) none + 1
      one_more = omega (arith, size_none (count F))

      cleared : cleared_if true w.seen ≡ map_of 16384 none
      cleared = unfold cleared_if in rw o.sized (map_none 16384)

  -- a repeat changes nothing
  later : (S : Set) (x : Held) → S k ≡ true
      → coming F (reached F S x) k ≡ record { world = reached F S x; answer = verdict F S k (deed_by F x.flash k); discarded = false }
  unfolding arrive step_of counted done verdict
  later S x y =
      let m : marked_in (map_of 16384 S) k ≡ S k = marked_map 16384 S k (omega (arith, K.few)) in
      split (ltb (size (count F) S) (count F)) (λ q. rw (q, same_head_lem (head_by F), m, y)) (λ q. rw q)

  -- a new block is accepted
  newly : (S : Set) (x : Held) → S k ≡ false → coming F (reached F S x) k ≡ taken S x false
  unfolding arrive step_of
  newly S x z =
      let m : marked_in (map_of 16384 S) k ≡ S k = marked_map 16384 S k (omega (arith, K.few)) in
      let q : ltb (size (count F) S) (count F) ≡ true = lt-ltb (size (count F) S) (count F) (size_lt (count F) S k h z) in
      let r : counted (head_by F) (size (count F) S) ≡ running (head_by F) (size (count F) S) = going S q in
      rw (r, same_head_lem (head_by F), m, z)
      (took (record { transfer = running (head_by F) (size (count F) S); seen = map_of 16384 S; held = x }) S x false false z (kept (map_of 16384 S)) (held x))
    where
      going : (S : Set) → ltb (size (count F) S) (count F) ≡ true → counted (head_by F) (size (count F) S) ≡ running (head_by F) (size (count F) S)
      going S q = unfold counted in rw q

      kept : (m : List ℕ) → cleared_if false m ≡ m
      kept m = unfold cleared_if in refl

      held : (x : Held) → wiped_if false x ≡ x
      held x = unfold wiped_if cleared_if in refl

  -- over the flash f that it finds
  pub block_step : (S : Set) (v : World) → After F w Inv S v → Met v.held.flash → Stepped F w Inv d S k v.held.flash (coming F v k)
  block_step S v (untouched e p) m =
      let f : coming F v k ≡ taken none (wipe w.held) d = ap (λ (u : World). coming F u k) p ∙ first in
      let same : (wipe w.held).flash ≡ v.held.flash = wiped w.held ∙ sym (ap (λ (u : World). u.held.flash) p) in
      rw e
      (record {
        next =
            begun (applied F k (wipe w.held)) (some_now none)
            (K.goes_on none k (wipe w.held) h refl K.begins (subst Met (sym same) m))
            (ap (λ (u : Outcome). u.world) f);
        told = ap (λ (u : Outcome). u.answer) f ∙ ap (λ (f : List ℕ). verdict F none k (deed_by F f k)) same;
      })
    where
      wiped : (x : Held) → (wipe x).flash ≡ x.flash
      wiped x = unfold wiped_if in refl
  block_step S v (begun x s i p) m =
      let same : x.flash ≡ v.held.flash = sym (ap (λ (u : World). u.held.flash) p) in
      split (S k)
      (λ y.
      let f : coming F v k ≡ record { world = reached F S x; answer = verdict F S k (deed_by F x.flash k); discarded = false } =
      ap (λ (u : World). coming F u k) p ∙ later S x y in
      record {
        next = rw (add_idle k S y) (begun x s i (ap (λ (u : Outcome). u.world) f));
        told = ap (λ (u : Outcome). u.answer) f ∙ ap (λ (f : List ℕ). verdict F S k (deed_by F f k)) same;
      })
      (λ z.
      let f : coming F v k ≡ taken S x false = ap (λ (u : World). coming F u k) p ∙ newly S x z in
      record {
        next = begun (applied F k x) (some_now S) (K.goes_on S k x h z i (subst Met (sym same) m)) (ap (λ (u : Outcome). u.world) f);
        told = ap (λ (u : Outcome). u.answer) f ∙ ap (λ (f : List ℕ). verdict F S k (deed_by F f k)) same;
      })

-- ---- what `After` says of the transfer and the seen map

module _ (F : Blocks) (w : World) (Inv : Set → Held → Type 0) (S : Set) (v : World) (a : After F w Inv S v) where
  pub nothing_seen : size (count F) S ≡ 0 → v ≡ w
  nothing_seen z = go a
    where
      go : After F w Inv S v → v ≡ w
      go (untouched e p) = p
      go (begun x s i p) = absurd (omega arith)

  pub some_seen : 1 ≤ size (count F) S → (x : Held) × Inv S x × (v ≡ reached F S x)
  some_seen s = go a
    where
      go : After F w Inv S v → (x : Held) × Inv S x × (v ≡ reached F S x)
      go (untouched e p) = absurd (omega (arith, ap (size (count F)) e, size_none (count F)))
      go (begun x q i p) = (x, i, p)

  pub still_running : 1 ≤ size (count F) S → size (count F) S < count F → v.transfer ≡ running (head_by F) (size (count F) S)
  unfolding counted
  still_running s h = ap (λ (u : World). u.transfer) (some_seen s).2 ∙ rw (lt-ltb (size (count F) S) (count F) h)

  pub whole_done : 1 ≤ count F → size (count F) S ≡ count F → v.transfer ≡ Done (head_by F)
  unfolding counted
  whole_done n e =
      split (ltb (size (count F) S) (count F))
      (λ q. absurd (omega (arith, ltb-true (size (count F) S) (count F) q)))
      (λ q. ap (λ (u : World). u.transfer) (some_seen (omega arith)).2 ∙ rw q)

  pub seen_map : 1 ≤ size (count F) S → v.seen ≡ map_of 16384 S
  seen_map s = ap (λ (u : World). u.seen) (some_seen s).2

-- a transfer that is w's, or one of the file
abbrev pub Carried : Blocks → World → State → Type 0
Carried F w t = (t ≡ w.transfer) ⊎ ((c : ℕ) × (t ≡ counted (head_by F) c))

pub after_carried : (F : Blocks) (w : World) (Inv : Set → Held → Type 0) (S : Set) (v : World) → After F w Inv S v → Carried F w v.transfer
after_carried F w Inv S v (untouched e p) = inl (ap (λ (u : World). u.transfer) p)
after_carried F w Inv S v (begun x s i p) = inr (size (count F) S, ap (λ (u : World). u.transfer) p)

-- ---- where flash and sector map are told by the set alone

-- an effect that starts from cleared maps and grows by each new block
pub record Grows (F : Blocks) (start : Held) (effect : Set → Held) : Type 0 where
  pub few : count F ≤ 131072
  pub none_yet : wipe start ≡ effect none
  pub one_more : (S : Set) (k : ℕ) → k < count F → applied F k (effect S) ≡ effect (add k S)

pub invariant_of : (F : Blocks) (start : Held) (effect : Set → Held) → Grows F start effect → Invariant F start (λ S x. x ≡ effect S) Any
invariant_of F start effect G =
    record { few = G.few; begins = G.none_yet; goes_on = λ S k x h z e m. ap (applied F k) e ∙ G.one_more S k h }

unfoldable pub after : Blocks → (Set → Held) → World → Set → World
after F effect w S = cond (eqb (size (count F) S) 0) w (reached F S (effect S))

pub after_is : (F : Blocks) (effect : Set → Held) (w : World) (S : Set) (v : World) → After F w (λ S x. x ≡ effect S) S v → v ≡ after F effect w S
unfolding after
after_is F effect w S v (untouched e p) = p ∙ sym (rw (e, size_none (count F)))
after_is F effect w S v (begun x s i p) = p ∙ rw (ne_eqb (size (count F) S) 0 (omega arith)) (ap (reached F S) i)
