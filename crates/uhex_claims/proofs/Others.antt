-- A section of another board stores nothing, and each of its records passes. Assumes nothing.
use Prim.Native.Nat.{ℕ}
use mathlib.Core.Path.{◌≡◌, refl, ap}
use mathlib.Core.Logic.{◌≢◌}
use mathlib.Core.Bool.{false}
use mathlib.Core.List.{List, [], ◌∷◌, ◌++◌}
use native.Mathlib.Omega.{arith}
use lib.ListN.{length, replicate}
use borrow.Author.Tests.{ne_eqb}
use Rattle.uhex_grammar.specs.declared.Answer.{Answer}
use Rattle.uhex_grammar.specs.declared.Answer.TheVariants.{Passed}
use Rattle.uhex_claims.specs.Items.{Item}
use Rattle.uhex_claims.specs.Whole.{Tail, tail_ends, tail_0_c, tail_0_e, Body, body_ends, body_04, body_data, body_0_e, body_0_c, Section, section_items, board_of, IsSection}
use Rattle.uhex_claims.specs.State.{between, body, padded, place_after, gives_for, State, after, state_after, answer_for, answers_for, image_with, image_for}
use Rattle.uhex_claims.specs.WholefileClaims.{OtherSectionsPass}
use Rattle.uhex_claims.proofs.OneRecord.{data_not, no_gift, no_gift_at}
use Rattle.uhex_claims.proofs.Runs.{stays_body, at_body}

-- none of the records is own data
data Quiet (own : ℕ) : State → List Item → Type 0 where
  rest : {s : State} → Quiet own s []
  more : (s : State) (x : Item) {xs : List Item} → gives_for s.place x own ≡ false → Quiet own (after s x) xs → Quiet own s (x ∷ xs)

module _ (own : ℕ) where
  quiet_image : {s : State} {xs : List Item} → Quiet own s xs → (img : List ℕ) → image_for own s xs img ≡ img
  unfolding image_for image_with
  quiet_image rest img = refl
  quiet_image (more s x g q) img = rw g (quiet_image q img)

  quiet_answers : {s : State} {xs : List Item} → Quiet own s xs → (n : ℕ) → answers_for own n s xs ≡ replicate (length xs) Passed
  unfolding answers_for answer_for
  quiet_answers rest n = refl
  quiet_answers (more s x g q) n = rw g (ap (λ (z : List Answer). Passed ∷ z) (quiet_answers q n))

  quiet_append : {s : State} {xs : List Item} (ys : List Item) → Quiet own s xs → Quiet own (state_after s xs) ys → Quiet own s (xs ++ ys)
  unfolding state_after
  quiet_append ys rest h = h
  quiet_append ys (more s x g q) h = more s x g (quiet_append ys q h)

  quiet_tail : (b : ℕ) {xs : List Item} → Tail xs → (s : State) → s.place ≡ padded b → Quiet own s xs
  unfolding place_after
  quiet_tail b tail_ends s e = rest
  quiet_tail b (tail_0_c {x} k t) s e = more s x (rw e (no_gift_at x (padded b) (λ c. refl) own)) (quiet_tail b t (after s x) (rw (e, k)))
  quiet_tail b (tail_0_e {x} k t) s e = more s x (rw e (no_gift_at x (padded b) (λ c. refl) own)) (quiet_tail b t (after s x) (rw (e, k)))

  module _ (b : ℕ) (other : b ≢ own) where
    no_own : (s : State) (x : Item) → s.place ≡ body b → gives_for s.place x own ≡ false
    unfolding gives_for
    no_own s x e = rw (e, ne_eqb b own other)

    quiet-body : {xs : List Item} → Body b xs → (s : State) → s.place ≡ body b → Quiet own s xs
    unfolding place_after
    quiet-body body_ends s e = rest
    quiet-body (body_04 {x} k n t) s e =
        more s x (no_own s x e) (quiet-body t (after s x) (stays_body s b x e (λ f. omega arith) (λ f. omega arith)))
    quiet-body (body_data {x} k m t) s e =
        let n : (v : ℕ) → v ≢ 0 → v ≢ 13 → x.kind ≢ v = λ v z w. data_not x.kind b v z w k in
        more s x (no_own s x e)
        (quiet-body t (after s x) (stays_body s b x e (n 11 (λ f. omega arith) (λ f. omega arith)) (n 12 (λ f. omega arith) (λ f. omega arith))))
    quiet-body (body_0_e {x} k t) s e =
        more s x (no_own s x e) (quiet-body t (after s x) (stays_body s b x e (λ f. omega arith) (λ f. omega arith)))
    quiet-body (body_0_c {x} k t) s e = more s x (no_own s x e) (quiet_tail b t (after s x) (rw (e, k)))

  quiet_section : (s : State) (sec : Section) → s.place ≡ between → IsSection sec → board_of sec ≢ own → Quiet own s (section_items sec)
  quiet_section s sec e i n =
      let o : sec.opening.kind ≡ 4 = i.opens in
      let a : sec.naming.kind ≡ 10 = i.names in
      let c : sec.closing.kind ≡ 11 = i.closes in
      let s1 = after s sec.opening in
      let s2 = after s1 sec.naming in
      let s3 = state_after s2 sec.body in
      more s sec.opening (no_gift sec.opening (λ f. omega arith) (λ f. omega arith) s.place own)
      (more s1 sec.naming (no_gift sec.naming (λ f. omega arith) (λ f. omega arith) s1.place own)
      (quiet_append (sec.closing ∷ []) (quiet-body (board_of sec) n i.body s2 (at_body s sec e i))
      (more s3 sec.closing (no_gift sec.closing (λ f. omega arith) (λ f. omega arith) s3.place own) rest)))

pub other_sections_pass : OtherSectionsPass
unfolding OtherSectionsPass
other_sections_pass own s sec e i n =
    let q = quiet_section own s sec e i n in (λ img. quiet_image own q img, λ k. quiet_answers own q k)
