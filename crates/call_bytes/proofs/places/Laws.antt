-- Calls by cases. Assumes nothing.
use Prim.Native.Nat.{ℕ}
use mathlib.Core.Path.{◌≡◌, refl, ap, ◌∙◌}
use mathlib.Core.Logic.{◌≢◌}
use mathlib.Core.List.{List, ◌++◌}
use lib.ListN.{length}
use borrow.Author.Tests.{eq-eqb, ne_eqb}
use Rattle.std.specs.Prelude.{Ok, Err}
use Rattle.partitions.specs.declared.Settings.{Settings}
use Rattle.transfer.specs.declared.Answer.TheVariants.{BadBuffers, BadSettings, NoPlace}
use Rattle.transfer.specs.Transfer.{number_of}
use Rattle.placement.specs.declared.Place.{Place}
use Rattle.placement.specs.declared.PlaceError.TheVariants as asked
use Rattle.placement.specs.Place.{ask_of, place_answer_number, PlaceAnswer}
use Rattle.uf2_block.specs.Write.{le32}
use Rattle.settings_layout.specs.Layout.{settings_from}
use Rattle.call_bytes.specs.PlacesCalls.{PlaceCall, place_call, place_call_of, ask_bytes}

-- ---- a place asked for alone

-- the answer is none but a refusal
pub refused_told : (l : List ℕ) (x : PlaceAnswer) {n : ℕ} → ((p : Place) → x ≢ Ok p) → n ≡ place_answer_number x → place_call n l ≡ place_call_of l x
refused_told l (Err asked.BadBuffers) h e = ap (λ (n : ℕ). place_call n l) e
refused_told l (Err asked.BadSettings) h e = ap (λ (n : ℕ). place_call n l) e
refused_told l (Err asked.NoPlace) h e = ap (λ (n : ℕ). place_call n l) e
refused_told l (Ok p) h e = absurd (h p refl)

pub found_told : (l b : List ℕ) (x : PlaceAnswer) {n : ℕ} {p : Place} → x ≡ Ok p → n ≡ place_answer_number x → b ≡ le32 p.start ++ le32 p.len → place_call n b ≡ place_call_of l x
found_told l b x q e h = rw (e, h, q)

-- its refusals are answers to an arrival too, with the same numbers
pub asked_numbers : (place_answer_number (Err asked.BadBuffers) ≡ number_of BadBuffers) × (place_answer_number (Err asked.BadSettings) ≡ number_of BadSettings) × (place_answer_number (Err asked.NoPlace) ≡ number_of NoPlace)
asked_numbers = (refl, refl, refl)

module _ (s : List ℕ) (len f : ℕ) (l : List ℕ) where
  pub ask_short : length l ≢ 8 → place_call 1 l ≡ ask_bytes s len f l
  unfolding ask_bytes
  ask_short h = simp (ne_eqb (length l) 8 h)

  pub ask_told : {z : Settings} {x : PlaceAnswer} {o : PlaceCall} → length l ≡ 8 → z ≡ settings_from s → x ≡ ask_of z len f → o ≡ place_call_of l x → o ≡ ask_bytes s len f l
  unfolding ask_bytes
  ask_told n hz hx ho = simp (eq-eqb (length l) 8 n) (ho ∙ ap (place_call_of l) (hx ∙ ap (λ (z : Settings). ask_of z len f) hz))
