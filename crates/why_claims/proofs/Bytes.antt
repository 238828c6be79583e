-- What the calls for C return is what the receiver's return. Assumes nothing.
use Prim.Native.Nat.{ℕ, ◌+◌, ◌*◌, ◌<◌}
use mathlib.Core.Path.{◌≡◌, ap, ◌∙◌}
use mathlib.Core.Bool.{Bool, true, ◌&&◌}
use mathlib.Core.List.{List}
use native.Mathlib.Omega.{arith}
use lib.Dec.{ltb, eqb}
use lib.ListN.{length, get_or, drop, replicate}
use lib.Seq.{get_or-take, get_or-drop}
use borrow.Author.Tests.{eq-eqb, eqb-true, lt-ltb, ltb-true}
use Rattle.laws.proofs.Tests.{split, and_left, and_right}
use Rattle.transfer.specs.Transfer.{number_of}
use Rattle.transfer.specs.declared.Answer.{Answer}
use Rattle.settings_layout.specs.Layout.{settings_from, transfer_from}
use Rattle.transfer_layout.specs.Results.{result_of}
use Rattle.whyapi.specs.Told.{told_with, link_byte, link_over, link_told, settings_told}
use Rattle.whyapi.specs.declared.told.ReasonFields.{ReasonFields}
use Rattle.call_bytes.specs.Calls.{look_bytes}
use Rattle.call_bytes.specs.PlacesCalls.{ask_bytes}
use Rattle.whyapi.specs.WhyCall.{why_call, place_call}
use Rattle.arrival.specs.Lending.{world}
use Rattle.why.specs.Why.{why_of}
use Rattle.why_claims.specs.Claims.{AnswerIsTheReceivers, DiscardIsTheReceivers, PlaceAnswerIsTheReceivers}
use Rattle.why_claims.specs.Bytes.{WhyReturnsTheLook, WhyPlaceReturnsTheAsk, NoLink, LinkKindTold}
use Rattle.why_claims.proofs.Theorems.{answer_is_the_receivers}
use Rattle.why_claims.proofs.Discards.{discard_is_the_receivers}
use Rattle.why_claims.proofs.Places.{place_answer_is_the_receivers}

pub why_returns_the_look : WhyReturnsTheLook
unfolding WhyReturnsTheLook AnswerIsTheReceivers DiscardIsTheReceivers why_call look_bytes
why_returns_the_look s t a h l =
    let c = settings_from s in
    let w = world (transfer_from t) h in
    let d = (why_of c w a).discarded in
    ap (λ (y : Answer). result_of (number_of y) d) (answer_is_the_receivers c w a)
    ∙ ap (result_of _) (discard_is_the_receivers c w a)

pub why_place_returns_the_ask : WhyPlaceReturnsTheAsk
unfolding WhyPlaceReturnsTheAsk PlaceAnswerIsTheReceivers place_call ask_bytes
why_place_returns_the_ask s len f l place e = rw (eq-eqb _ _ e) (place_answer_is_the_receivers (settings_from s) len f)

-- ---- a link byte that is no kind of link

link_place : (b : List ℕ) (k : ℕ) → link_byte b k ≡ get_or b (37 + 34 * k) 0
unfolding link_byte
link_place b k =
    get_or-take 34 (drop (6 + k * 34) b) 31 0 (omega arith) ∙ get_or-drop (6 + k * 34) b 31 0
    ∙ ap (λ (i : ℕ). get_or b i 0) (let e : 6 + k * 34 + 31 ≡ 37 + 34 * k = omega arith in e)

module _ (b : List ℕ) (x : ReasonFields) (e : length b ≡ 550) where
  abbrev at : ℕ
  at = get_or b (37 + 34 * x.entry) 0

  abbrev first : Bool
  first = eqb x.number 206 && ltb x.entry 16

  abbrev over : Bool
  over = ltb 2 (link_byte b x.entry)

  link : link_byte b x.entry ≡ at
  link = link_place b x.entry

  link_told_lem : x.number ≡ 206 → x.entry < 16 → NoLink b x.entry → settings_told b x ≡ told_with 211 at 2 x.entry 0 (replicate 16 0)
  unfolding settings_told link_told link_over
  link_told_lem n l o = rw (eq-eqb (length b) 550 e, eq-eqb x.number 206 n, lt-ltb x.entry 16 l, link, lt-ltb 2 at o)

  link_silent : (x.number ≡ 206 → x.entry < 16 → NoLink b x.entry → ⊥) → settings_told b x ≡ x
  unfolding settings_told link_told link_over
  link_silent n =
      split (first && over)
      (λ y.
      let p = and_left first over y in
      let o : ltb 2 at ≡ true = rw link at (and_right first over y) in
      absurd (n (eqb-true _ _ (and_left (eqb x.number 206) (ltb x.entry 16) p)) (ltb-true _ _ (and_right (eqb x.number 206) (ltb x.entry 16) p)) (ltb-true _ _ o)))
      (λ z. rw (eq-eqb (length b) 550 e, z))

pub link_kind_told : LinkKindTold
unfolding LinkKindTold
link_kind_told b x e = (link_told_lem b x e, link_silent b x e)
