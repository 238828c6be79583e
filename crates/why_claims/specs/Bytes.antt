-- What is claimed of reasons for C (02, L6): "the answer is the receiver's", as include/uf2_why.h says it of what each call returns. Of the very
-- definitions that the calls' contracts name. Assumes nothing.
use Rattle.std.specs.Prelude.{ℕ, ◌+◌, ◌*◌, ◌<◌, ◌≡◌, List, length, get_or, replicate}
use Rattle.arrival.specs.Arrive.{Lent}
use Rattle.arrival.specs.Lending.{Slice}
use Rattle.call_bytes.specs.Calls.{look_call_of}
use Rattle.call_bytes.specs.PlacesCalls.{ask_bytes}
use Rattle.whyapi.specs.Told.{told_with, settings_told}
use Rattle.whyapi.specs.declared.told.ReasonFields.{ReasonFields}
use Rattle.whyapi.specs.WhyCall.{why_call_of, place_call_of}

-- `uf2_why`: "What uf2_look returns", whatever the reason's bytes l
unfoldable pub WhyReturnsTheLook : Type 0
WhyReturnsTheLook =
    (s t a : Slice) (h : Lent) (l : List ℕ) → (why_call_of s t a h l).result ≡ look_call_of s t a h

-- `uf2_why_place`: "What uf2_ask returns of a family in a flash of flash_len bytes", where it is lent the 8 bytes of a place
unfoldable pub WhyPlaceReturnsTheAsk : Type 0
WhyPlaceReturnsTheAsk =
    (s : List ℕ) (len f : ℕ) (l place : List ℕ) → length place ≡ 8 → (place_call_of s len f l).result ≡ (ask_bytes s len f place).result

-- A link byte of entry k, at 6 + 34 k + 31, that is no kind of link
abbrev pub NoLink : List ℕ → ℕ → Type 0
NoLink b k = 2 < get_or b (37 + 34 * k) 0

-- it is told, as 211, where its condition stands "first in its row as written": for the entry whose link would else be told by 206, and nowhere else
unfoldable pub LinkKindTold : Type 0
LinkKindTold =
    (b : List ℕ) (x : ReasonFields) → length b ≡ 550
    → (x.number ≡ 206 → x.entry < 16 → NoLink b x.entry
    → settings_told b x ≡ told_with 211 (get_or b (37 + 34 * x.entry) 0) 2 x.entry 0 (replicate 16 0))
    × ((x.number ≡ 206 → x.entry < 16 → NoLink b x.entry → ⊥) → settings_told b x ≡ x)
