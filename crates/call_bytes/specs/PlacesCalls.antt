-- What the call for a place answers and leaves. Assumes nothing.
use Rattle.std.specs.Prelude.{ℕ, ◌<◌, ◌^◌, cond, List, ◌++◌, eqb, length, Ok, Err}
use Rattle.placement.specs.Place.{ask_of, place_answer_number, PlaceAnswer}
use Rattle.placement.specs.declared.PlaceError.TheVariants.{BadBuffers, BadSettings, NoPlace}
use Rattle.uf2_block.specs.Write.{le32}
use Rattle.settings_layout.specs.Layout.{settings_from}

-- ---- a place asked for alone

-- what is returned, and what the 8 bytes of `place` hold
pub record PlaceCall : Type 0 where
  pub result : ℕ
  pub place : List ℕ

-- both as one value, which the contract names
abbrev pub place_call : ℕ → List ℕ → PlaceCall
place_call n l = record { result = n; place = l }

-- start and length of a place, written over `place`; a refusal leaves it (proofs/Places.antt: the two are read back from it)
abbrev pub place_bytes : List ℕ → PlaceAnswer → List ℕ
place_bytes l (Err BadBuffers) = l
place_bytes l (Err BadSettings) = l
place_bytes l (Err NoPlace) = l
place_bytes l (Ok p) = le32 p.start ++ le32 p.len

-- the refusal's number, and 0 for a place that is found
abbrev pub place_call_of : List ℕ → PlaceAnswer → PlaceCall
place_call_of l x = place_call (place_answer_number x) (place_bytes l x)

-- start and length fit 32 bits, as those of every place that is found do (proofs/Places.antt)
abbrev pub Low : PlaceAnswer → Type 0
Low (Err BadBuffers) = Unit
Low (Err BadSettings) = Unit
Low (Err NoPlace) = Unit
Low (Ok p) = (p.start < 2 ^ 32) × (p.len < 2 ^ 32)

-- 1 too where `place` has not 8 bytes
unfoldable pub ask_bytes : List ℕ → ℕ → ℕ → List ℕ → PlaceCall
ask_bytes s len f l = cond (eqb (length l) 8) (place_call_of l (ask_of (settings_from s) len f)) (place_call 1 l)
