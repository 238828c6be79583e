-- A line of a plain file, one law for each way that the code leaves. Assumes nothing.
use mathlib.Core.Path.{◌≡◌, refl, sym, ap, ◌∙◌}
use mathlib.Core.List.{List, [], ◌++◌, append-nil}
use Prim.Native.Nat.{ℕ, ◌+◌, ◌/◌, ◌≤◌}
use native.Mathlib.Omega.{arith}
use Rattle.std.specs.Prelude.{Option, Some, None, Result, Ok, Err}
use lib.Dec.{ltb}
use lib.ListN.{length, take, drop, get_or, length-take, length-drop}
use Rattle.laws.proofs.Tests.{split}
use Rattle.laws.specs.Stores.{Store}
use Rattle.ihex_record.specs.Record.{word_from, read_of}
use Rattle.ihex_record.specs.declared.Line.{Line}
use Rattle.ihex_record.proofs.Good.{length_data}
use Rattle.uhex_grammar.specs.declared.Answer.{Answer}
use Rattle.ihex_write.specs.Put.{put_lines}
use Rattle.ihex_write.proofs.Lines.{put_none}
use Rattle.ihex_file.specs.declared.Plain.{Plain}
use Rattle.ihex_file.specs.declared.Taken.{Taken}
use Rattle.ihex_file.specs.declared.Data.{Data}
use Rattle.ihex_file.specs.Line.{Reading, passed, gives, line_taken, taken_of}
use Rattle.ihex_file.specs.File.{given_of, gives_of}
use Rattle.ihex_file.proofs.Moves.{data_near}
use Rattle.ihex_data.specs.declared.cuts.Tally.{Tally}
use Rattle.ihex_data.specs.declared.Scan.{Scan}
use Rattle.ihex_data.specs.Pieces.{piece, room_of, split_of, split_all}
use Rattle.ihex_data.specs.Tally.{tally_piece, tally_all, pieces_lines}
use Rattle.ihex_data.specs.Lines.{upper_of}
use Rattle.ihex_data.proofs.Tallied.{piece_most}
use Rattle.ihex_data.specs.Scan.{scan, line_pieces, step_of}

pub is_taken : (p : Plain) (l : List ℕ) {x : Line} {w : ℕ} {t u : Reading} → x ≡ read_of l → w ≡ word_from (get_or x.«data» 0 0) (get_or x.«data» 1 0)
    → t ≡ line_taken p (length l) x.parsed w → t ≡ u → taken_of p l ≡ u
unfolding taken_of
is_taken p l {x} {w} {t} {u} e f g h =
    ap (λ (y : Line). line_taken p (length l) y.parsed (word_from (get_or y.«data» 0 0) (get_or y.«data» 1 0))) (sym e)
    ∙ ap (line_taken p (length l) x.parsed) (sym f)
    ∙ sym g
    ∙ h

-- a line that is taken, by its data
pub with_given : (t : Taken) {g : Option Data} {r : Reading} → r ≡ Ok t → t.given ≡ g → r ≡ Ok (record { plain = t.plain; given = g })
with_given t e f = e ∙ ap (λ (h : Option Data). Ok (record { plain = t.plain; given = h })) f

-- a data record has at most 32 bytes
pub taken_few : (p : Plain) (l : List ℕ) {q : Plain} {a n : ℕ} → taken_of p l ≡ gives q a n → n ≤ 32
taken_few p l {q} {a} {n} e = (data_near p l q a n e).few

-- which what was read has
pub taken_within : (p : Plain) (l : List ℕ) {x : Line} {q : Plain} {a n : ℕ} → x ≡ read_of l → taken_of p l ≡ gives q a n → n ≤ length x.«data»
taken_within p l e t = rw e (omega (arith, length_data l, taken_few p l t))

module _ (out : List ℕ) (kind at : ℕ) (s : Scan) (l : List ℕ) where
  abbrev Steps : Result Scan Answer → List ℕ → Type 0
  Steps r o = (r ≡ step_of s l) × (o ≡ put_lines out (at + s.tally.len) (pieces_lines kind s.tally (line_pieces s.plain l)))

  pub step_refused : (a : Answer) → taken_of s.plain l ≡ Err a → Steps (Err a) out
  unfolding step_of line_pieces split_all pieces_lines
  step_refused a e = (rw e refl, rw e (sym (put_none out (at + s.tally.len))))

  pub step_passed : (q : Plain) → taken_of s.plain l ≡ passed q → Steps (Ok (scan q s.tally)) out
  unfolding step_of line_pieces split_all pieces_lines tally_all
  step_passed q e = (rw e refl, rw e (sym (put_none out (at + s.tally.len))))

  pub step_data : (q : Plain) (a n : ℕ) {v : Tally} {o : List ℕ} → taken_of s.plain l ≡ gives q a n → let ss = split_of (piece a (take n (read_of l).«data»)) in
      v ≡ tally_all s.tally ss → o ≡ put_lines out (at + s.tally.len) (pieces_lines kind s.tally ss) → Steps (Ok (scan q v)) o
  unfolding step_of line_pieces split_all
  step_data q a n e f g =
      let ss = split_of (piece a (take n (read_of l).«data»)) in
      let same : ss ++ [] ≡ ss = append-nil ss in (
        rw (f, e, same) refl,
        g ∙ rw (e, same) refl,
      )

-- how much the lines of a line's pieces have
split_most : (t : Tally) (s : Store) → length s.bytes ≤ 32 → (tally_all t (split_of s)).len ≤ t.len + 184
unfolding split_of tally_all
split_most t s h =
    let r = room_of s.address in
    let d = s.bytes in
    let v = tally_piece t (upper_of s) (length (take r d)) in
    let one = piece_most t (upper_of s) (length (take r d)) (omega (arith, length-take r d)) in
    let two = piece_most v ((s.address + r) / 65536) (length (drop r d)) (omega (arith, length-drop r d)) in
    split (ltb r (length d))
    (λ y. rw y (omega arith))
    (λ n. rw n (omega (arith, piece_most t (upper_of s) (length d) h)))

pieces_most : (p : Plain) (l : List ℕ) (t : Tally) (x : Reading) → taken_of p l ≡ x → (tally_all t (split_all (gives_of l x))).len ≤ t.len + 184
unfolding split_all tally_all
pieces_most p l t (Err a) e = omega arith
pieces_most p l t (Ok x) e = by_given x.given refl
  where
    by_given : (g : Option Data) → x.given ≡ g → (tally_all t (split_all (given_of l g))).len ≤ t.len + 184
    by_given None f = omega arith
    by_given (Some d) f =
        let s = piece d.address (take d.len (read_of l).«data») in
        let few : d.len ≤ 32 = taken_few p l (with_given x e f) in
        rw (append-nil (split_of s)) (split_most t s (omega (arith, length-take d.len (read_of l).«data», few)))

pub line_most : (p : Plain) (l : List ℕ) (t : Tally) → (tally_all t (line_pieces p l)).len ≤ t.len + 184
unfolding line_pieces
line_most p l t = pieces_most p l t (taken_of p l) refl
