-- With what the settings and the lengths truly say handed in, an arrival is judged as the meaning has it. Assumes nothing.
use mathlib.Core.Path.{◌≡◌, ap, ◌∙◌}
use mathlib.Core.List.{List}
use Prim.Native.Nat.{ℕ}
use lib.ListN.{length}
use Rattle.std.specs.Prelude.{Option}
use Rattle.uf2_block.specs.Block.{field_at}
use Rattle.partitions.specs.declared.Settings.{Settings}
use Rattle.placement.specs.Place.{StartsLow, place_of}
use Rattle.placement.specs.declared.Place.{Place}
use Rattle.transfer.specs.declared.State.{State}
use Rattle.uf2_checks.specs.Screen.{rooms_of, screen_in, screen_of, screen_at}
use Rattle.uf2_checks.specs.declared.Lengths.{Lengths}
use Rattle.uf2_checks.specs.declared.Rooms.{Rooms}
use Rattle.uf2_checks.proofs.Laws.{low_kept}
use Rattle.arrival.specs.Arrive.{World, lengths_of, decide, decided}
use Rattle.uf2_known.specs.declared.Known.{Known}
use Rattle.uf2_known.specs.Verdict.{known_of, known_decision}

-- the screening beside the rooms of the arrival's family is the screening
screen_known : (s : Settings) (n : Lengths) (t : State) (a : List ℕ) {r : Rooms} → r ≡ rooms_of s n.flash (field_at a 28) → StartsLow r.flash → screen_at r n t a ≡ screen_of s n t a
unfolding screen_at screen_of
screen_known s n t a {r} e l =
    ap (λ (p : Option Place). screen_in (record { flash = p; ram = r.ram }) n t a) (low_kept r.flash l)
    ∙ ap (λ (q : Rooms). screen_in q n t a) e

-- k is what the settings and the lengths say of the arrival a, for the buffers that w has
abbrev pub Knows : Settings → World → List ℕ → Known → Type 0
Knows s w a k =
    (k ≡ known_of s (lengths_of w.held) (length w.seen) (length w.held.sectors) a) × StartsLow k.rooms.flash

module _ (s : Settings) (w : World) (a : List ℕ) {k : Known} (e : Knows s w a k) where
  pub decision_is : known_decision k w a ≡ decided s w a
  unfolding known_decision decide
  decision_is =
      let n = lengths_of w.held in
      let r = ap (λ (k : Known). k.right) e.0 in
      let g = ap (λ (k : Known). k.good) e.0 in
      let q = screen_known s n w.transfer a (ap (λ (k : Known). k.rooms) e.0) e.1 in
      let p : k.rooms.flash ≡ place_of s n.flash (field_at a 28) = ap (λ (k : Known). k.rooms.flash) e.0 in
      rw (q, r, g, p)
