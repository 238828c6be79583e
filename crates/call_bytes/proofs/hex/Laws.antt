-- The calls for Universal Hex by cases. Assumes nothing.
use Prim.Native.Nat.{ℕ, ◌+◌, ◌*◌}
use mathlib.Core.Path.{◌≡◌, refl, sym, ap, ◌∙◌}
use mathlib.Core.Bool.{Bool, true, false, ◌&&◌, or-true}
use mathlib.Core.List.{List}
use lib.Dec.{leb}
use lib.ListN.{length}
use Rattle.laws.proofs.Tests.{split, clash}
use Rattle.uhex_grammar.proofs.Laws.{kept_failure}
use Rattle.uhex_grammar.specs.Answers.{number_of, position_of}
use Rattle.uhex_grammar.specs.declared.Failure.{Failure}
use Rattle.uhex_grammar.specs.declared.ReaderState.{ReaderState}
use Rattle.uhex_grammar.specs.declared.ReaderState.TheVariants.{Between, Opened, Inside, Padded, Ended, Failed}
use Rattle.uhex_reader.specs.declared.replies.Reply.{Reply}
use Rattle.uhex_effects.specs.declared.Reader.{Reader}
use Rattle.uhex_reader.specs.Reader.{bad_reader}
use Rattle.uhex_reader.specs.Line.{LineOutcome, line_outcome, bad_image, halt_line, line_of}
use Rattle.uhex_claims.proofs.LineCase.{LineCase, bad, past, again, failed, out, stored, passed, ended}
use Rattle.uhex_claims.proofs.LineCase as every
use Rattle.uhex_layout.specs.Readers.{reader_from}
use Rattle.uhex_layout.proofs.Written.{Small, written_back}
use Rattle.uhex_layout.specs.Kept.{has_failed, changes, kept_reader}
use Rattle.call_bytes.specs.HexCalls.{line_return, line_return_of, line_call_of}

module _ (t l img : List ℕ) where
  pub line_case_lem : {r : Reader} {x : Reply} {g v : List ℕ} {f b : Bool} {n k y : ℕ} → r ≡ reader_from t → line_outcome x.reader x.answer g ≡ line_of r l img → f ≡ has_failed r.state → b ≡ changes f x.answer → v ≡ kept_reader t b x.reader → n ≡ number_of x.answer → k ≡ position_of x.answer → y ≡ n + 256 * k → line_return y v g ≡ line_call_of t l img
  unfolding line_call_of
  line_case_lem {r} hr ho hf hb hv hn hk hy =
      rw (hy, hn, hk, hv, hb, hf) (ap (line_return_of t r) ho ∙ ap (λ (q : Reader). line_return_of t q (line_of q l img)) hr)

-- ---- the reader stays as it was where its bytes are left

module _ (r : Reader) (l img : List ℕ) where
  -- by an answer to a reader that had not failed
  same_by : {o : LineOutcome} → LineCase r l img o → changes false o.answer ≡ false → o.reader ≡ r
  same_by (bad a h w) e = refl
  same_by (past h) e = refl
  same_by (again f h k) e = refl
  same_by (failed a h) e =
      clash (changes false a) (rw (kept_failure a h) (or-true (leb 32 (number_of a) && leb (number_of a) 35))) e
  same_by (out rec q p o m) e = clash true refl e
  same_by (stored rec q d o m) e = clash true refl e
  same_by (passed rec q p o m) e = clash true refl e
  same_by (ended rec p o b m) e = clash true refl e

  -- by any answer to a failed one
  failed_same : (f : Failure) → r.state ≡ Failed f → (line_of r l img).reader ≡ r
  unfolding line_of halt_line
  failed_same f q =
      split (bad_image (length img)) (λ y. rw y) (λ z. split (bad_reader r) (λ y. rw (z, y)) (λ n. rw (z, n, q)))

  same_at : (s : ReaderState) → r.state ≡ s → changes (has_failed s) (line_of r l img).answer ≡ false → (line_of r l img).reader ≡ r
  same_at Between q e = same_by (every.line_case r l img) e
  same_at Opened q e = same_by (every.line_case r l img) e
  same_at (Inside b) q e = same_by (every.line_case r l img) e
  same_at (Padded b) q e = same_by (every.line_case r l img) e
  same_at Ended q e = same_by (every.line_case r l img) e
  same_at (Failed f) q e = failed_same f q

  pub line_same : changes (has_failed r.state) (line_of r l img).answer ≡ false → (line_of r l img).reader ≡ r
  line_same e = same_at r.state refl e

-- ---- the reader that comes back

-- the bytes are read as the next reader, written or left: lines handed one after the other are read as by one reader
pub line_next : (t l img : List ℕ) → length t ≡ 16 → Small (line_of (reader_from t) l img).reader
    → reader_from (line_call_of t l img).reader ≡ (line_of (reader_from t) l img).reader
unfolding line_call_of
line_next t l img e s =
    let r = reader_from t in
    let o = line_of r l img in
    split (changes (has_failed r.state) o.answer)
    (λ y. rw y (written_back t o.reader e s))
    (λ n. rw n (sym (line_same r l img n)))
