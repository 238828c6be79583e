-- The file of two sections, and the call. Assumes nothing.
use mathlib.Core.Path.{◌≡◌, refl, sym, ap, ◌∙◌}
use mathlib.Core.Bool.{true, false, ◌||◌}
use mathlib.Core.List.{List, [], ◌∷◌, ◌++◌, flatten}
use Prim.Native.Nat.{ℕ, ◌+◌, ◌≤◌}
use native.Mathlib.Omega.{arith}
use Rattle.std.specs.Prelude.{Result, Ok, Err}
use lib.Dec.{ltb}
use lib.ListN.{length, length-append}
use borrow.Author.Tests.{ltb-false}
use Rattle.laws.specs.Numbered.{numbered}
use Rattle.laws.specs.Over.{over}
use Rattle.laws.proofs.Tests.{or_left, or_right}
use Rattle.laws.specs.Stores.{Store}
use Rattle.ihex_record.specs.Types.{end_of_file, data_type, custom_data}
use Rattle.ihex_record.specs.Write.{record_line}
use Rattle.uhex_grammar.specs.Grammar.{data_kind}
use Rattle.uhex_grammar.specs.declared.Answer.TheVariants.{FileTooLong}
use Rattle.ihex_write.specs.Put.{put_line, put_lines}
use Rattle.ihex_write.proofs.Line.{length_line}
use Rattle.ihex_write.proofs.Lines.{put_one, put_append, put_fits, length_flatten}
use Rattle.ihex_file.specs.File.{Verdict, verdict_of}
use Rattle.ihex_data.specs.declared.Body.{Body}
use Rattle.ihex_data.specs.Pieces.{pieces_of}
use Rattle.ihex_data.specs.Lines.{first_upper, data_length}
use Rattle.ihex_data.specs.Scan.{body_of}
use Rattle.uhex_join.specs.Section.{section_with}
use Rattle.uhex_join.specs.declared.answers.Refusal.{Refusal}
use Rattle.uhex_join.specs.Text.{section_lines, section_size, file_lines, file_text}
use Rattle.uhex_join.specs.Join.{Joined, JoinCall, join_call, join_number, refusal, refused_by, on_verdict, second_of, written_of, Fits, join_of}
use Rattle.uhex_join.proofs.Sectioned.{as_written, length_section}

-- ---- the file

abbrev last_line : List ℕ
last_line = record_line end_of_file 0 []

module _ (a b : List Store) where
  pub length_file : length (file_text a b) ≡ length (flatten (section_lines 0x9900 a)) + (length (flatten (section_lines 0x9903 b)) + 12)
  unfolding file_text file_lines flatten
  length_file =
      let first = section_lines 0x9900 a in
      let second = section_lines 0x9903 b in
      let last = last_line ∷ [] in
      omega (
        arith,
        length_flatten first (second ++ last),
        length_flatten second last,
        length-append last_line [],
        length_line end_of_file 0 [],
      )

  pub file_length : {k l m n : ℕ} → k ≡ data_length a → l ≡ data_length b → m ≡ section_size k → n ≡ section_size l → m + (n + 12) ≡ length (file_text a b)
  file_length e f p q =
      let x : section_size (data_length a) ≡ length (flatten (section_lines 0x9900 a)) = sym (length_section 0x9900 a) in
      let y : section_size (data_length b) ≡ length (flatten (section_lines 0x9903 b)) = sym (length_section 0x9903 b) in
      rw (p, e, x, q, f, y) (sym length_file)

  file_lines_lem : (out : List ℕ) {one two three : List ℕ} {mid last : ℕ} → Fits (file_text a b) out
      → one ≡ put_lines out 0 (section_lines 0x9900 a) → mid ≡ 0 + length (flatten (section_lines 0x9900 a))
      → two ≡ put_lines one mid (section_lines 0x9903 b) → last ≡ mid + length (flatten (section_lines 0x9903 b))
      → three ≡ put_line two last last_line → three ≡ over out 0 (file_text a b)
  unfolding file_text file_lines
  file_lines_lem out f e m g n h =
      let first = section_lines 0x9900 a in
      let second = section_lines 0x9903 b in
      let all : 0 + length (flatten (file_lines a b)) ≤ length out = omega (arith, f.room) in
      h
      ∙ rw (n, g, m, e) (sym (put_one (put_lines (put_lines out 0 first) (0 + length (flatten first)) second) (0 + length (flatten first) + length (flatten second)) last_line))
      ∙ sym (put_append (put_lines out 0 first) (0 + length (flatten first)) second (last_line ∷ []))
      ∙ sym (put_append out 0 first (second ++ (last_line ∷ [])))
      ∙ put_fits out 0 (file_lines a b) all

  -- the length of both sections
  pub sections_short : (out : List ℕ) {m n : ℕ} → Fits (file_text a b) out → m ≡ section_size (data_length a) → n ≡ section_size (data_length b) → m + n ≤ 4194304
  sections_short out f p q =
      omega (arith, f.short, length_file, length_section 0x9900 a, length_section 0x9903 b)

  pub file_put : (out : List ℕ) {one two three : List ℕ} {u v m n : ℕ} → Fits (file_text a b) out → u ≡ first_upper a → v ≡ first_upper b
      → one ≡ put_lines out 0 (section_with 0x9900 data_type u a) → m ≡ section_size (data_length a)
      → two ≡ put_lines one m (section_with 0x9903 custom_data v b) → n ≡ section_size (data_length b) → three ≡ put_line two (m + n) last_line
      → three ≡ over out 0 (file_text a b)
  unfolding data_kind
  file_put out {one} {m = m} f p q e k g l h =
      file_lines_lem out f (e ∙ ap (put_lines out 0) (as_written 0x9900 a refl p)) (omega (arith, length_section 0x9900 a))
      (g ∙ ap (put_lines one m) (as_written 0x9903 b refl q)) (omega (arith, length_section 0x9903 b)) h

-- ---- what a file comes to

module _ (r : Body) (s : List ℕ) (e : r ≡ body_of s) where
  pub body_verdict : r.verdict ≡ verdict_of s
  unfolding body_of
  body_verdict = ap (λ (x : Body). x.verdict) e

  pub body_first : r.first ≡ first_upper (pieces_of s)
  unfolding body_of
  body_first = ap (λ (x : Body). x.first) e

-- ---- whether it fits

module _ (text out : List ℕ) (n : ℕ) (e : n ≡ length text) where
  pub too_long : (ltb 4194304 n || ltb (length out) n) ≡ true → join_call (Err (refusal 0 0 FileTooLong)) out ≡ written_of text out
  unfolding written_of
  too_long h = rw (← e, h) refl

  pub written : {o : List ℕ} → (ltb 4194304 n || ltb (length out) n) ≡ false → o ≡ over out 0 text → join_call (Ok n) o ≡ written_of text out
  unfolding written_of
  written h f = rw (← e, h) (ap (join_call (Ok n)) f)

  pub fits_by : (ltb 4194304 n || ltb (length out) n) ≡ false → Fits text out
  fits_by h =
      record {
        short = rw (← e) (ltb-false 4194304 n (or_left (ltb 4194304 n) (ltb (length out) n) h));
        room = rw (← e) (ltb-false (length out) n (or_right (ltb 4194304 n) (ltb (length out) n) h));
      }

-- ---- the call

-- a board's file that is refused, and one that is fine
verdict_bad : (board : ℕ) (v : Verdict) (out : List ℕ) (rest : JoinCall) (r : Refusal) → refused_by board v ≡ Err r
    → on_verdict board v out rest ≡ join_call (Err r) out
verdict_bad board (Ok u) out rest r e = absurd (let z : ◌≡◌ {A = ℕ} 0 1 = cc in omega arith)
verdict_bad board (Err b) out rest r e =
    let s : refusal board b.line b.answer ≡ r = cc in
    ap (λ (x : Refusal). join_call (Err x) out) s

verdict_fine : (board : ℕ) (v : Verdict) (out : List ℕ) (rest : JoinCall) (u : Unit {0}) → refused_by board v ≡ Ok u → on_verdict board v out rest ≡ rest
verdict_fine board (Ok w) out rest u e = refl
verdict_fine board (Err b) out rest u e = absurd (let z : ◌≡◌ {A = ℕ} 0 1 = cc in omega arith)

module _ (a b out : List ℕ) where
  abbrev Joins : Joined → List ℕ → Type 0
  Joins r o = numbered join_number (join_call r o) ≡ numbered join_number (join_of a b out)

  module _ {v : Verdict} {x : Result (Unit {0}) Refusal} (e : v ≡ verdict_of a) (f : x ≡ refused_by 0x9900 v) where
    pub first_bad : {r : Refusal} → x ≡ Err r → Joins (Err r) out
    unfolding join_of
    first_bad {r} h =
        ap (numbered join_number) (sym (verdict_bad 0x9900 (verdict_of a) out (second_of a b out) r (rw (← e) (sym f ∙ h))))

    pub first_fine : {u : Unit {0}} → x ≡ Ok u → join_of a b out ≡ second_of a b out
    unfolding join_of
    first_fine {u} h = verdict_fine 0x9900 (verdict_of a) out (second_of a b out) u (rw (← e) (sym f ∙ h))

  module _ (one : join_of a b out ≡ second_of a b out) {v : Verdict} {x : Result (Unit {0}) Refusal} (e : v ≡ verdict_of b) (f : x ≡ refused_by 0x9903 v) where
    abbrev last : JoinCall
    last = written_of (file_text (pieces_of a) (pieces_of b)) out

    pub second_bad : {r : Refusal} → x ≡ Err r → Joins (Err r) out
    second_bad {r} h =
        ap (numbered join_number) (sym (one ∙ verdict_bad 0x9903 (verdict_of b) out last r (rw (← e) (sym f ∙ h))))

    pub second_fine : {u : Unit {0}} {r : Joined} {o : List ℕ} → x ≡ Ok u → join_call r o ≡ last → Joins r o
    second_fine {u} h w =
        ap (numbered join_number) (w ∙ sym (one ∙ verdict_fine 0x9903 (verdict_of b) out last u (rw (← e) (sym f ∙ h))))
