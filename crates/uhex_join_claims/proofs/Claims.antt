-- The claims of specs/Claims.antt hold. Assumes nothing.
use Prim.Native.Nat.{ℕ, ◌+◌, ◌≤◌, ◌<◌}
use mathlib.Core.Path.{◌≡◌, refl, sym, ap, subst, ◌∙◌}
use mathlib.Core.Bool.{cond, ◌||◌}
use mathlib.Core.List.{List, [], ◌∷◌, ◌++◌, map, flatten}
use native.Mathlib.Omega.{arith}
use Rattle.std.specs.Prelude.{Ok, Err}
use lib.Dec.{eqb, ltb}
use lib.ListN.{length, get_or, take, drop}
use lib.Seq.{take-append_seam, drop-append_seam}
use borrow.Author.Tests.{ltb-false, le-ltb}
use Rattle.laws.specs.Over.{over}
use Rattle.laws.proofs.OverLaws.{length_over}
use Rattle.laws.proofs.Tests.{split, or_left, or_right}
use Rattle.laws.specs.Stores.{Store, latest}
use Rattle.uhex_grammar.specs.declared.Answer.{Answer}
use Rattle.uhex_grammar.specs.declared.Answer.TheVariants.{FileTooLong}
use Rattle.ihex_file.specs.Lines.{lines_of}
use Rattle.uhex_claims.specs.Lines.{fresh_session, stores_of}
use Rattle.uhex_claims.specs.Claims.{ImageIsLatest, ImageLengthKept}
use Rattle.uhex_claims.proofs.Claims.{image_is_latest, image_length_kept}
use Rattle.uhex_claims.specs.Items.{Item, Says, item, line_for}
use Rattle.uhex_claims.specs.Whole.{Section, all_items, File}
use Rattle.uhex_claims.specs.State.{State, begin, after, answers_for}
use Rattle.uhex_claims.specs.WholefileClaims as wholefile
use Rattle.uhex_claims.specs.WholefileClaims.{FileEnd, FileEnds, Acceptance}
use Rattle.uhex_claims.proofs.WholefileClaims.{file_ends}
use Rattle.uhex_claims.proofs.OneRecord.{answer_most, answer_least}
use Rattle.ihex_file.specs.File.{Verdict, bad, fine, verdict_of}
use Rattle.uhex_join.specs.declared.answers.Refusal.{Refusal}
use Rattle.ihex_data.specs.Pieces.{pieces_of}
use Rattle.uhex_join.specs.Text.{file_lines, file_text}
use Rattle.uhex_join.specs.Join.{Joined, JoinCall, join_call, refusal, on_verdict, written_of, join_of}
use Rattle.uhex_join_claims.specs.Refusals.{BadText}
use Rattle.uhex_join_claims.specs.PlainFile.{WithData, PlainPieces, within}
use Rattle.uhex_join_claims.specs.PlainfileClaims.{TextRefusedOnce}
use Rattle.uhex_join_claims.proofs.PlainfileClaims.{text_refused_once}
use Rattle.uhex_join_claims.specs.Claims.{JoinedReadsBack, SectionOf, JoinedIsFile, CutsChangeNoByte, CutsAreOne, JoinedArePlain, RefusalCase, of_v1, of_v2, of_both, FittingIsWritten, RefusedByBoard, RefusalIsOne, RefusalWritesNothing, PastOutputStays}
use Rattle.uhex_join_claims.proofs.Written.{written_says, written_lines, written_map}
use Rattle.uhex_join_claims.proofs.Pieces.{Pieces, no_piece, next_piece}
use Rattle.uhex_join_claims.proofs.Sections.{section, board_is, section_linear, section_size_lem, section_form}
use Rattle.uhex_join_claims.proofs.Whole.{sections, file_items, file_written, file_stores, is_file}
use Rattle.uhex_join_claims.proofs.One.{section_data, section_one, lines_are}
use Rattle.uhex_join_claims.proofs.PlainFiles.{said_length, PartedText, parted, fine_data, data_fine, bad_text}
use Rattle.uhex_join_claims.proofs.Cuts.{cuts_byte, cuts_one}

-- ---- an output

pub record OutputFacts (a b out : List ℕ) (n : ℕ) : Type 0 where
  pub fine_a : verdict_of a ≡ fine
  pub fine_b : verdict_of b ≡ fine
  pub size : n ≡ length (file_text (pieces_of a) (pieces_of b))
  pub most : n ≤ 4194304
  pub fits : n ≤ length out
  pub room : (join_of a b out).room ≡ over out 0 (file_text (pieces_of a) (pieces_of b))

not_written : {A : Type 0} (r : Refusal) (n : ℕ) → Err r ≡ Ok n → A
not_written r n e = absurd (let z : ◌≡◌ {A = ℕ} 0 1 = cc in omega arith)

written_is : (t out : List ℕ) (n : ℕ) → (written_of t out).answer ≡ Ok n → (n ≡ length t) × (length t ≤ 4194304) × (length t ≤ length out) × ((written_of t out).room ≡ over out 0 t)
unfolding written_of
written_is t out n e =
    let p = ltb 4194304 (length t) in
    let q = ltb (length out) (length t) in
    split (p || q)
    (λ y. not_written _ n (rw y at e))
    (λ z.
    let f : Ok (length t) ≡ Ok n = rw z at e in
    let g : n ≡ length t = cc in
    rw z (g, ltb-false 4194304 (length t) (or_left p q z), ltb-false (length out) (length t) (or_right p q z), refl))

too_long : (t out : List ℕ) (r : Refusal) → (written_of t out).answer ≡ Err r → r ≡ refusal 0 0 FileTooLong
unfolding written_of
too_long t out r e =
    split (ltb 4194304 (length t) || ltb (length out) (length t))
    (λ y. let f : Err (refusal 0 0 FileTooLong) ≡ Err r = rw y at e in cc)
    (λ z. not_written r (length t) (sym (rw z at e)))

written_there : (t out : List ℕ) → length t ≤ 4194304 → length t ≤ length out → written_of t out ≡ join_call (Ok (length t)) (over out 0 t)
unfolding written_of
written_there t out m f = rw (le-ltb 4194304 (length t) m, le-ltb (length out) (length t) f)

pub output : (a b out : List ℕ) (n : ℕ) → (join_of a b out).answer ≡ Ok n → OutputFacts a b out n
unfolding join_of
output a b out n e = by-verdicts (verdict_of a) (verdict_of b) refl refl e
  where
    by-verdicts : (v w : Verdict) → verdict_of a ≡ v → verdict_of b ≡ w
        → (on_verdict 0x9900 v out (on_verdict 0x9903 w out (written_of (file_text (pieces_of a) (pieces_of b)) out))).answer ≡ Ok n → OutputFacts a b out n
    by-verdicts (Err v) w f g e = not_written _ n e
    by-verdicts (Ok u) (Err w) f g e = not_written _ n e
    by-verdicts (Ok u) (Ok v) f g e =
        let w = written_is (file_text (pieces_of a) (pieces_of b)) out n e in
        record { fine_a = f; fine_b = g; size = w.0; most = omega (arith, w.0, w.1); fits = omega (arith, w.0, w.2); room = rw (f, g) w.3 }

-- the text that stands in the room, and its lines
module _ (a b out : List ℕ) (n : ℕ) (o : OutputFacts a b out n) where
  abbrev pub text : List ℕ
  text = file_text (pieces_of a) (pieces_of b)

  abbrev pub ls : List (List ℕ)
  ls = lines_of (take n (join_of a b out).room)

  text_there : take n (join_of a b out).room ≡ text
  unfolding over
  text_there = rw (o.size, o.room) (take-append_seam text (drop (0 + length text) out))

  pub part_a : PartedText a
  part_a = parted a o.fine_a

  pub part_b : PartedText b
  part_b = parted b o.fine_b

  pub lines_there : ls ≡ file_lines (pieces_of a) (pieces_of b)
  unfolding file_text
  lines_there = ap lines_of text_there ∙ written_lines (file_written part_a.pieces part_b.pieces)

  pub says_there : Says ls (file_items (pieces_of a) (pieces_of b))
  says_there = rw lines_there (written_says (file_written part_a.pieces part_b.pieces))

  file_there : (f : File (file_items (pieces_of a) (pieces_of b))) × (f.sections ≡ sections (pieces_of a) (pieces_of b)) × (f.ending ≡ item 0x01 0 [])
  file_there = by_pieces part_a.pieces part_b.pieces part_a.some part_b.some (omega (arith, o.size, o.most))
    where
      by_pieces : {p q : List Store} → Pieces p → Pieces q → 1 ≤ length p → 1 ≤ length q → length (file_text p q) ≤ 4194304
          → (f : File (file_items p q)) × (f.sections ≡ sections p q) × (f.ending ≡ item 0x01 0 [])
      by_pieces no_piece w h k m = absurd (omega arith)
      by_pieces (next_piece f fs) no_piece h k m = absurd (omega arith)
      by_pieces (next_piece f fs) (next_piece g gs) h k m = is_file f fs g gs m

accepted : (own n : ℕ) (s : State) (xs : List Item) → Acceptance (answers_for own n s xs)
unfolding answers_for
accepted own n s [] = wholefile.none
accepted own n s (x ∷ xs) = wholefile.next (answer_least own n s x) (answer_most own n s x) (accepted own n (after s x) xs)

own_pieces : (own : ℕ) (a b : List ℕ) → PlainPieces a (pieces_of a) → PlainPieces b (pieces_of b)
    → PlainPieces (cond (eqb own 0x9900) a b) (cond (eqb own 0x9900) (pieces_of a) (pieces_of b))
own_pieces own a b p q = split (eqb own 0x9900) (λ y. rw y p) (λ n. rw n q)

pub joined_reads_back : JoinedReadsBack
unfolding JoinedReadsBack FileEnds ImageIsLatest ImageLengthKept
joined_reads_back a b out n e own img g =
    let o = output a b out n e in
    let m = ls a b out n o in
    let xs = all_items (sections (pieces_of a) (pieces_of b)) in
    let ps = cond (eqb own 0x9900) (pieces_of a) (pieces_of b) in
    let w = file_there a b out n o in
    let f : FileEnd own img m xs =
    subst (λ (z : List Section). FileEnd own img m (all_items z)) w.1
    (file_ends own img m (file_items (pieces_of a) (pieces_of b)) g (says_there a b out n o) w.0) in
    let s : stores_of (fresh_session own img) m ≡ within (length img) ps =
    f.stores ∙ file_stores (part_a a b out n o).pieces (part_b a b out n o).pieces own (length img) g.board in (
      ps,
      own_pieces own a b (part_a a b out n o).plain (part_b a b out n o).plain,
      record {
        before = answers_for own (length img) begin xs;
        accepted = accepted own (length img) begin xs;
        answers = f.answers;
        stores = s;
        image = λ j.
            image_is_latest (fresh_session own img) m j ∙ ap (λ (z : List Store). latest j z (get_or img j 0)) s;
        kept = image_length_kept (fresh_session own img) m;
      },
    )

section_of_lem : (board : ℕ) → board < 65536 → (s : List ℕ) → PartedText s → SectionOf board s (section board (pieces_of s))
section_of_lem board h s p =
    record {
      named = board_is board (pieces_of s);
      form = section_form board h p.pieces p.some;
      aligned = omega (arith, section_size_lem board h p.pieces);
      pieces = rw (section_linear board (pieces_of s)) p.plain;
    }

pub joined_is_file : JoinedIsFile
unfolding JoinedIsFile
joined_is_file a b out n e =
    let o = output a b out n e in
    let w = file_there a b out n o in
    let p = part_a a b out n o in
    let q = part_b a b out n o in
    record {
      items = file_items (pieces_of a) (pieces_of b);
      lines = lines_there a b out n o ∙ written_map (file_written p.pieces q.pieces);
      says = says_there a b out n o;
      file = w.0;
      v1 = section 0x9900 (pieces_of a);
      v2 = section 0x9903 (pieces_of b);
      two = w.1;
      ending = w.2;
      of_v1 = section_of_lem 0x9900 (omega arith) a p;
      of_v2 = section_of_lem 0x9903 (omega arith) b q;
    }

pub cuts_change_no_byte : CutsChangeNoByte
unfolding CutsChangeNoByte
cuts_change_no_byte ss ps c j d = cuts_byte c j d

pub cuts_are_one : CutsAreOne
unfolding CutsAreOne
cuts_are_one ss ps qs c d = cuts_one c d

pub past_output_stays : PastOutputStays
unfolding PastOutputStays over
past_output_stays a b out n e =
    let o = output a b out n e in
    let t = file_text (pieces_of a) (pieces_of b) in
    let z : 0 + length t ≡ length t = omega arith in (
      o.fits,
      o.most,
      ap length o.room ∙ length_over out 0 t (omega (arith, o.size, o.fits)),
      rw (o.size, o.room) (drop-append_seam t (drop (0 + length t) out) ∙ ap (λ (k : ℕ). drop k out) z),
    )

pub refusal_writes_nothing : RefusalWritesNothing
unfolding RefusalWritesNothing join_of written_of
refusal_writes_nothing a b out r e = by-verdicts (verdict_of a) (verdict_of b) e
  where
    by-verdicts : (v w : Verdict) → (on_verdict 0x9900 v out (on_verdict 0x9903 w out (written_of (file_text (pieces_of a) (pieces_of b)) out))).answer ≡ Err r
        → (on_verdict 0x9900 v out (on_verdict 0x9903 w out (written_of (file_text (pieces_of a) (pieces_of b)) out))).room ≡ out
    by-verdicts (Err v) w e = refl
    by-verdicts (Ok u) (Err w) e = refl
    by-verdicts (Ok u) (Ok v) e =
        let t = file_text (pieces_of a) (pieces_of b) in
        split (ltb 4194304 (length t) || ltb (length out) (length t))
        (λ y. rw y)
        (λ z. not_written r (length t) (sym (rw z at e)))

-- ---- which files are joined

pub joined_are_plain : JoinedArePlain
unfolding JoinedArePlain
joined_are_plain a b out n e = let o = output a b out n e in (fine_data a o.fine_a, fine_data b o.fine_b)

pub fitting_is_written : FittingIsWritten
unfolding FittingIsWritten join_of file_text
fitting_is_written a b out ls x h =
    let fa = data_fine a (section_data 0x9900 a x.v1 x.of_v1) in
    let fb = data_fine b (section_data 0x9903 b x.v2 x.of_v2) in
    let p = parted a fa in
    let q = parted b fb in
    let t = file_text (pieces_of a) (pieces_of b) in
    let v1 = section_one 0x9900 a x.v1 (section 0x9900 (pieces_of a)) x.of_v1 (section_of_lem 0x9900 (omega arith) a p) in
    let v2 = section_one 0x9903 b x.v2 (section 0x9903 (pieces_of b)) x.of_v2 (section_of_lem 0x9903 (omega arith) b q) in
    let e : ls ≡ file_lines (pieces_of a) (pieces_of b) =
    lines_are a b ls x
    ∙ ap (λ (s : Section). map line_for (all_items (s ∷ x.v2 ∷ []) ++ (item 0x01 0 [] ∷ []))) v1
    ∙ ap (λ (s : Section). map line_for (all_items (section 0x9900 (pieces_of a) ∷ s ∷ []) ++ (item 0x01 0 [] ∷ []))) v2
    ∙ sym (written_map (file_written p.pieces q.pieces)) in
    let n : length (flatten ls) ≡ length t = ap (λ (z : List (List ℕ)). length (flatten z)) e in
    let m : length t ≤ 4194304 = omega (arith, said_length x.says, x.file.short) in
    rw (fa, fb) (ap (λ (z : JoinCall). z.answer) (written_there t out m (omega arith)) ∙ ap Ok (sym n))

not_fine : {A : Type 0} (s : List ℕ) (k : ℕ) (x : Answer) → verdict_of s ≡ bad k x → WithData s → A
not_fine s k x e w = absurd (let f = data_fine s w in let z : ◌≡◌ {A = ℕ} 0 1 = cc in omega arith)

is_refused_lem : (x y : Refusal) → ◌≡◌ {A = Joined} (Err x) (Err y) → x ≡ y
is_refused_lem x y e = cc

pub refused_by_board : RefusedByBoard
unfolding RefusedByBoard join_of
refused_by_board a b out r e = by-verdicts (verdict_of a) (verdict_of b) refl refl e
  where
    t : List ℕ
    t = file_text (pieces_of a) (pieces_of b)

    by-verdicts : (v w : Verdict) → verdict_of a ≡ v → verdict_of b ≡ w
        → (on_verdict 0x9900 v out (on_verdict 0x9903 w out (written_of (file_text (pieces_of a) (pieces_of b)) out))).answer ≡ Err r → RefusalCase a b r
    by-verdicts (Err v) w f g e =
        let k = v.line in
        let x = v.answer in
        let h = is_refused_lem (refusal 0x9900 k x) r e in
        of_v1 (sym (ap (λ (z : Refusal). z.board) h)) (subst (λ (z : Refusal). BadText a z.line z.answer) h (bad_text a k x f)) (not_fine a k x f)
    by-verdicts (Ok u) (Err w) f g e =
        let k = w.line in
        let x = w.answer in
        let h = is_refused_lem (refusal 0x9903 k x) r e in
        of_v2 (sym (ap (λ (z : Refusal). z.board) h)) (fine_data a f) (subst (λ (z : Refusal). BadText b z.line z.answer) h (bad_text b k x g)) (not_fine b k x g)
    by-verdicts (Ok u) (Ok v) f g e =
        let w = too_long t out r e in
        of_both (ap (λ (z : Refusal). z.board) w) (ap (λ (z : Refusal). z.line) w) (ap (λ (z : Refusal). z.answer) w) (fine_data a f) (fine_data b g)

refusal_one : (q r : Refusal) (b : ℕ) → q.board ≡ b → r.board ≡ b → (q.line ≡ r.line) × (q.answer ≡ r.answer) → q ≡ r
refusal_one q r b e f w =
    ap (λ (k : ℕ). refusal k q.line q.answer) (e ∙ sym f)
    ∙ ap (λ (k : ℕ). refusal r.board k q.answer) w.0
    ∙ ap (λ (x : Answer). refusal r.board r.line x) w.1

pub refusal_is_one : RefusalIsOne
unfolding RefusalIsOne TextRefusedOnce
refusal_is_one a b q r (of_v1 e s n) (of_v1 f t m) = refusal_one q r 0x9900 e f (text_refused_once a q.line r.line q.answer r.answer s t)
refusal_is_one a b q r (of_v1 e s n) (of_v2 f w t m) = absurd (n w)
refusal_is_one a b q r (of_v1 e s n) (of_both f l x w v) = absurd (n w)
refusal_is_one a b q r (of_v2 e w s n) (of_v1 f t m) = absurd (m w)
refusal_is_one a b q r (of_v2 e w s n) (of_v2 f v t m) = refusal_one q r 0x9903 e f (text_refused_once b q.line r.line q.answer r.answer s t)
refusal_is_one a b q r (of_v2 e w s n) (of_both f l x u v) = absurd (n v)
refusal_is_one a b q r (of_both e k y w v) (of_v1 f t m) = absurd (m w)
refusal_is_one a b q r (of_both e k y w v) (of_v2 f u t m) = absurd (m v)
refusal_is_one a b q r (of_both e k y w v) (of_both f l x s t) = refusal_one q r 0 e f (k ∙ sym l, y ∙ sym x)
