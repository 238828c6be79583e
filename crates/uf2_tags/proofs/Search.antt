-- The search for a type over the tags. Assumes nothing.
use mathlib.Core.Path.{◌≡◌, refl, sym, ap, ◌∙◌}
use mathlib.Core.Bool.{Bool, true, false, cond}
use mathlib.Core.List.{List}
use Prim.Native.Nat.{ℕ, zero, suc, ◌+◌, ◌-◌, ◌*◌, ◌/◌, ◌%◌, ◌<◌, ◌≤◌}
use native.Mathlib.Omega.{arith}
use lib.ListN.{get_or}
use lib.Dec.{eqb}
use Rattle.laws.proofs.Tests.{clash, split}
use Rattle.uf2_tags.specs.declared.one_tag.Tag.{Tag}
use Rattle.std.specs.Prelude.{Ok, Some}
use Rattle.uf2_tags.specs.Tag.{Answer, tag_of, is_tag}
use Rattle.uf2_tags.proofs.one_tag.Laws.{on_other, the_tag}
use Rattle.uf2_tags.specs.Room.{first_place, room_end, tag_at}
use Rattle.uf2_tags.proofs.room.Laws.{tag_here, room_end_lem}
use Rattle.uf2_tags.specs.declared.Move.{Move}
use Rattle.uf2_tags.specs.Reader.{next_place, step_at}
use Rattle.uf2_tags.specs.Search.{stops, seek, find_of}

-- what is no tag leaves the place
pub stays : (at : ℕ) (a : Answer) → is_tag a ≡ false → next_place at a ≡ at
stays at a n = on_other _ (λ (t : Tag). t.next) a n ∙ omega arith

-- what is no tag ends a search
pub stops_other : (kind : ℕ) (a : Answer) → is_tag a ≡ false → stops kind a ≡ true
stops_other kind a n = on_other true (λ (t : Tag). eqb t.kind kind) a n

-- so that an answer at which no search stops is a tag
pub going_on : (kind : ℕ) (a : Answer) → stops kind a ≡ false → is_tag a ≡ true
going_on kind a e = split (is_tag a) (λ y. y) (λ n. clash (stops kind a) (stops_other kind a n) e)

-- what a tag moves the place by
pub record Moves (b : List ℕ) (at next : ℕ) : Type 0 where
  pub up : at + 4 ≤ next
  pub within : next ≤ room_end b
  pub even : next % 4 ≡ 0

tag_moves : (b : List ℕ) (at : ℕ) (t : Tag) → tag_at b at ≡ Ok (Some t) → Moves b at t.next
unfolding tag_of
tag_moves b at t e =
    let h = tag_here b at t e in
    let n : at + (get_or b at 0 + 3) / 4 * 4 ≡ t.next = ap (λ (x : Tag). x.next) h.tag in
    record {
      up = omega (arith, n, h.size);
      within = omega (arith, n, h.fits, h.even, (room_end_lem b).even);
      even = omega (arith, n, h.even);
    }

pub moves : (b : List ℕ) (at : ℕ) → is_tag (tag_at b at) ≡ true → Moves b at (next_place at (tag_at b at))
moves b at y =
    let t = the_tag (tag_at b at) y in
    rw t.same (tag_moves b at t.tag t.same)

-- ---- the search

-- the search from a place on finds what the whole search finds, and enough calls are left
pub record Going (b : List ℕ) (kind at : ℕ) : Type 0 where
  pub calls : ℕ
  pub same : seek calls b kind at ≡ find_of b kind
  pub enough : 508 ≤ at + 4 * calls

pub go_first : (b : List ℕ) (kind : ℕ) → Going b kind (first_place b)
unfolding find_of first_place
go_first b kind = record { calls = 119; same = refl; enough = omega arith }

module _ (b : List ℕ) (kind at : ℕ) (g : Going b kind at) where
  pub go_stop : stops kind (tag_at b at) ≡ true → tag_at b at ≡ find_of b kind
  unfolding seek
  go_stop y = by-calls g.calls g.same
    where
      by-calls : (c : ℕ) → seek c b kind at ≡ find_of b kind → tag_at b at ≡ find_of b kind
      by-calls zero same = same
      by-calls (suc c) same = rw y at same

  pub go_on : stops kind (tag_at b at) ≡ false → Going b kind (next_place at (tag_at b at))
  unfolding seek
  go_on n = by-calls g.calls g.same g.enough
    where
      m : Moves b at (next_place at (tag_at b at))
      m = moves b at (going_on kind (tag_at b at) n)

      by-calls : (c : ℕ) → seek c b kind at ≡ find_of b kind → 508 ≤ at + 4 * c → Going b kind (next_place at (tag_at b at))
      by-calls zero same enough = absurd (omega (arith, m.up, m.within, (room_end_lem b).high))
      by-calls (suc c) same enough = record { calls = c; same = rw n at same; enough = omega (arith, m.up) }

  -- the same of the step that the code takes
  module _ (m : Move) (e : m ≡ step_at b at) where
    answered : {v : Bool} → stops kind m.answer ≡ v → stops kind (tag_at b at) ≡ v
    answered h = ap (λ (x : Move). stops kind x.answer) (sym e) ∙ h

    pub step_stop : stops kind m.answer ≡ true → m.answer ≡ find_of b kind
    step_stop y = ap (λ (x : Move). x.answer) e ∙ go_stop (answered y)

    pub step_on : stops kind m.answer ≡ false → Going b kind m.next
    step_on n = rw (ap (λ (x : Move). x.next) e) (go_on (answered n))

    pub step_less : stops kind m.answer ≡ false → 512 - m.next < 512 - at
    step_less n =
        let t = moves b at (going_on kind (tag_at b at) (answered n)) in
        let next : m.next ≡ next_place at (tag_at b at) = ap (λ (x : Move). x.next) e in
        omega (arith, next, t.up, t.within, (room_end_lem b).high)

-- what a search finds stands at a place
pub find_at : (b : List ℕ) (kind : ℕ) → (at : ℕ) × (find_of b kind ≡ tag_at b at)
unfolding find_of seek
find_at b kind = from 119 (first_place b)
  where
    from : (n at : ℕ) → (k : ℕ) × (seek n b kind at ≡ tag_at b k)
    from zero at = (at, refl)
    from (suc n) at =
        let next = next_place at (tag_at b at) in
        split (stops kind (tag_at b at))
        (λ y. (at, ap (λ (x : Bool). cond x (tag_at b at) (seek n b kind next)) y))
        (λ f.
        let r = from n next in
        (r.0, ap (λ (x : Bool). cond x (tag_at b at) (seek n b kind next)) f ∙ r.1))
