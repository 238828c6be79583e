-- What the settings say is said of the next arrival's family. Assumes nothing.
use Prim.Native.Nat.{ℕ}
use mathlib.Core.Path.{◌≡◌, ap, sym}
use lib.Dec.{eqb}
use borrow.Author.Tests.{eqb-true}
use Rattle.std.specs.Prelude.{Option}
use Rattle.laws.proofs.Tests.{split}
use Rattle.partitions.specs.declared.Settings.{Settings}
use Rattle.placement.specs.declared.Place.{Place}
use Rattle.uf2_checks.specs.declared.Rooms.{Rooms}
use Rattle.uf2_known.specs.declared.judged.FamilyRooms.{FamilyRooms}
use Rattle.uf2_known.specs.Judged.{rooms_at, rooms_next}

pub next_is : (s : Settings) (len g f : ℕ) → rooms_next (rooms_at s len g) s len f ≡ rooms_at s len f
next_is s len g f =
    split (eqb g f)
    (λ y. rw y (ap (rooms_at s len) (eqb-true g f y)))
    (λ z. rw z)

-- the rooms of the next, made anew from their fields
pub next_made : (b : FamilyRooms) (s : Settings) (len f : ℕ) {p : Option Place} {x : Rooms} → p ≡ x.flash → x ≡ (rooms_next b s len f).rooms
    → record { family = f; rooms = record { flash = p; ram = x.ram } } ≡ rooms_next b s len f
next_made b s len f {p} {x} e m =
    split (eqb b.family f)
    (λ y. rw (e, m, y, sym (eqb-true b.family f y)))
    (λ z. rw (e, m, z))
