-- What the call returns, in the shape of its code. Assumes nothing.
use Prim.Native.Nat.{ℕ}
use mathlib.Core.Path.{◌≡◌, ap, ◌∙◌}
use mathlib.Core.List.{List}
use Rattle.placement.specs.Place.{StartsLow}
use Rattle.arrival.specs.Arrive.{Held, lengths_of}
use Rattle.uf2_known.specs.Verdict.{known_of}
use Rattle.uf2_known.specs.declared.Known.{Known}
use Rattle.settings_layout.specs.Layout.{settings_from}
use Rattle.uf2_verify.specs.Stands.{stand_number, known_stand}
use Rattle.uf2_verify.proofs.Laws.{stand_is}
use Rattle.standapi.specs.Stands.{stands_bytes}

-- call by call
pub stood : (s a : List ℕ) (h : Held) {k : Known} → k ≡ known_of (settings_from s) (lengths_of h) 16384 1024 a → StartsLow k.rooms.flash
    → {x : _} → x ≡ known_stand k h a → {n : ℕ} → n ≡ stand_number x → n ≡ stands_bytes s a h
unfolding stands_bytes
stood s a h e low q n = n ∙ ap stand_number (q ∙ stand_is (settings_from s) h a e low)
