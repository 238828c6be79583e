use mathlib.Core.Path.{◌∙◌, subst}
use native.Mathlib.Omega.{arith}
use Rattle.call_bytes.specs.PlacesCalls.{Low}
use Rattle.call_bytes.proofs.places.Laws.{refused_told, found_told}
use Rattle.call_bytes.proofs.places.Places.{place_put}
use Rattle.call_bytes.proofs.places.tell.Goals as goal

pub returns-in_default : goal.returns-in_default
returns-in_default c = refused_told _ c.args.asked c.in_default.not-Ok c.number-n.ensures

pub overflow_cast-found : goal.overflow_cast-found
overflow_cast-found c =
    let low = subst Low c.in-Ok.is c.requires.low in
    omega arith

pub overflow_cast-found-2 : goal.overflow_cast-found-2
overflow_cast-found-2 c =
    let low = subst Low c.in-Ok.is c.requires.low in
    omega arith

pub returns : goal.returns
returns c =
    found_told c.args.place.now _ _ c.in-Ok.is c.number-n.ensures
    (c.put-2.ensures ∙ rw c.put.ensures (place_put c.args.place.now _ _ c.requires.place_len))
