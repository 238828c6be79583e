-- A plain file line by line: what holds before each line, and at the end of the file. Assumes nothing.
use mathlib.Core.Path.{◌≡◌, refl, sym, ap, ◌∙◌}
use mathlib.Core.Bool.{true, false}
use mathlib.Core.List.{List, [], ◌∷◌, ◌++◌}
use Prim.Native.Nat.{ℕ, suc, min, ◌+◌, ◌-◌, ◌*◌, ◌≤◌, ◌<◌}
use native.Mathlib.Numerals.{add-one}
use native.Mathlib.Omega.{arith}
use Rattle.std.specs.Prelude.{Result, Ok, Err, is_some as has}
use lib.Dec.{ltb}
use lib.ListN.{length, take, drop, length-take, length-drop, drop_of_length-le}
use borrow.Author.Tests.{ltb-true, ltb-false}
use Rattle.laws.proofs.Tests.{split, clash}
use Rattle.laws.specs.Stores.{Store}
use Rattle.ihex_file.specs.Lines.{lines_of, end_of}
use Rattle.ihex_file.proofs.lines.Ends.{end_some, end_most, lines_at}
use Rattle.uhex_grammar.specs.declared.Answer.{Answer}
use Rattle.ihex_write.specs.Put.{put_lines}
use Rattle.ihex_write.proofs.Lines.{put_none, put_past}
use Rattle.ihex_file.specs.declared.Plain.{Plain}
use Rattle.ihex_file.specs.Line.{Reading, fresh_plain, taken_of}
use Rattle.ihex_file.specs.File.{Verdict, bad, goes_on, next_of, bad_of, gives_of, records_from, records_of, lines_verdict, is_some, verdict_of, close_of}
use Rattle.ihex_file.proofs.Moves.{taken_moves}
use Rattle.ihex_data.specs.declared.cuts.Tally.{Tally}
use Rattle.ihex_data.specs.declared.Scan.{Scan}
use Rattle.ihex_data.specs.declared.Body.{Body}
use Rattle.ihex_data.specs.Pieces.{split_all, pieces_of}
use Rattle.ihex_data.specs.Tally.{fresh_tally, first_of, tally_all, pieces_lines}
use Rattle.ihex_data.specs.Scan.{scan, line_pieces, step_of, body_of, Walk}
use Rattle.ihex_data.proofs.Tallied.{tally_append, put_more, split_append, fresh_some, fresh_first, fresh_lines, split_some}
use Rattle.ihex_data.proofs.Length.{kept_length}
use Rattle.ihex_data.proofs.Stepped.{line_most}

-- ---- a line

-- the reading goes on
pub record Goes (w : Scan) (l : List ℕ) (v : Scan) : Type 0 where
  pub on : goes_on (taken_of w.plain l) ≡ true
  pub next : v ≡ scan (next_of w.plain (taken_of w.plain l)) (tally_all w.tally (line_pieces w.plain l))

step_on : (w : Scan) (l : List ℕ) (v : Scan) → step_of w l ≡ Ok v → Goes w l v
unfolding step_of
step_on w l v e =
    split (goes_on (taken_of w.plain l))
    (λ y. record { on = y; next = let f = rw y at e in cc })
    (λ n. let f = rw n at e in let z : ◌≡◌ {A = ℕ} 0 1 = cc in absurd (omega arith))

-- or it stops
pub record Stops (w : Scan) (l : List ℕ) (a : Answer) : Type 0 where
  pub off : goes_on (taken_of w.plain l) ≡ false
  pub bad : a ≡ bad_of (taken_of w.plain l)

step_stop : (w : Scan) (l : List ℕ) (a : Answer) → step_of w l ≡ Err a → Stops w l a
unfolding step_of
step_stop w l a e =
    split (goes_on (taken_of w.plain l))
    (λ y. let f = rw y at e in let z : ◌≡◌ {A = ℕ} 0 1 = cc in absurd (omega arith))
    (λ n. record { off = n; bad = let f = rw n at e in cc })

-- ---- the lines that are left

-- the pieces of lines, from a reading on
abbrev left : Plain → List (List ℕ) → List Store
left p ls = split_all (records_from p ls)

left_on : (p : Plain) (l : List ℕ) (ls : List (List ℕ)) → goes_on (taken_of p l) ≡ true → left p (l ∷ ls) ≡ line_pieces p l ++ left (next_of p (taken_of p l)) ls
unfolding records_from line_pieces
left_on p l ls e = rw e (split_append (gives_of l (taken_of p l)) (records_from (next_of p (taken_of p l)) ls))

left_off : (p : Plain) (l : List ℕ) (ls : List (List ℕ)) → goes_on (taken_of p l) ≡ false → left p (l ∷ ls) ≡ []
unfolding records_from split_all
left_off p l ls e = rw e refl

verdict_on : (p : Plain) (k : ℕ) (l : List ℕ) (ls : List (List ℕ)) → goes_on (taken_of p l) ≡ true
    → lines_verdict p k (l ∷ ls) ≡ lines_verdict (next_of p (taken_of p l)) (suc k) ls
unfolding lines_verdict
verdict_on p k l ls e = rw e refl

verdict_off : (p : Plain) (k : ℕ) (l : List ℕ) (ls : List (List ℕ)) → goes_on (taken_of p l) ≡ false → lines_verdict p k (l ∷ ls) ≡ bad k (bad_of (taken_of p l))
unfolding lines_verdict
verdict_off p k l ls e = rw e refl

none_left : (p : Plain) → left p [] ≡ []
unfolding records_from split_all
none_left p = refl

no_line : (l : List ℕ) → l ≡ [] → lines_of l ≡ []
unfolding lines_of
no_line l e = rw e refl

no_pieces : (p : Plain) (l : List ℕ) (x : Reading) → taken_of p l ≡ x → goes_on x ≡ false → line_pieces p l ≡ []
unfolding line_pieces split_all
no_pieces p l (Err a) e n = rw e refl
no_pieces p l (Ok t) e n = clash true refl n

-- where no piece is left, all are kept and written
no_more : (t : Tally) {ss : List Store} {r : Tally} → tally_all t ss ≡ r → ss ≡ [] → t ≡ r
unfolding tally_all
no_more t e n = rw n at e

no_lines : (o : List ℕ) (at kind : ℕ) (t : Tally) {ss : List Store} {r : List ℕ} → ss ≡ [] → put_lines o at (pieces_lines kind t ss) ≡ r → o ≡ r
unfolding pieces_lines
no_lines o at kind t n e = sym (put_none o at) ∙ rw n at e

-- ---- a whole file, by what was kept of it

abbrev body : Verdict → Tally → Body
body v t = record { verdict = v; first = first_of t.uppers 0; len = t.len }

walked : (out : List ℕ) (at kind : ℕ) (s : List ℕ) (v : Verdict) (t : Tally) {o : List ℕ} → v ≡ verdict_of s → t ≡ tally_all fresh_tally (pieces_of s) → t.len ≤ 1000000000
    → o ≡ put_lines out at (pieces_lines kind fresh_tally (pieces_of s)) → Walk out at kind s (body v t) o
unfolding body_of
walked out at kind s v t e f h g =
    record {
      body = rw (e, f, fresh_first (pieces_of s), kept_length (pieces_of s)) refl;
      most = h;
      lines = g ∙ ap (put_lines out at) (fresh_lines kind (pieces_of s));
    }

-- ---- before a line

-- at index i of the text, after k lines: the whole is what is left
pub record Going (out : List ℕ) (at kind : ℕ) (s : List ℕ) (o : List ℕ) (w : Scan) (k i : ℕ) : Type 0 where
  pub within : i ≤ length s
  pub same : length o ≡ length out
  pub offset : w.plain.offset ≤ 4194304
  pub few : k ≤ w.plain.offset
  pub most : w.tally.len ≤ 184 * w.plain.offset
  pub verdict : lines_verdict w.plain k (lines_of (drop i s)) ≡ lines_verdict fresh_plain 0 (lines_of s)
  pub count : k + length (lines_of (drop i s)) ≡ length (lines_of s)
  pub tally : tally_all w.tally (left w.plain (lines_of (drop i s))) ≡ tally_all fresh_tally (pieces_of s)
  pub lines : put_lines o (at + w.tally.len) (pieces_lines kind w.tally (left w.plain (lines_of (drop i s)))) ≡ put_lines out at (pieces_lines kind fresh_tally (pieces_of s))

pub going_first : (out : List ℕ) (at kind : ℕ) (s : List ℕ) → Going out at kind s out (scan fresh_plain fresh_tally) 0 0
unfolding pieces_of records_of
going_first out at kind s =
    record {
      within = omega arith;
      same = refl;
      offset = omega arith;
      few = omega arith;
      most = omega arith;
      verdict = refl;
      count = omega arith;
      tally = refl;
      lines = ap (λ (n : ℕ). put_lines out n (pieces_lines kind fresh_tally (pieces_of s))) (omega arith);
    }

module _ (out : List ℕ) (at kind : ℕ) (s : List ℕ) {o : List ℕ} {w : Scan} {k i : ℕ} (g : Going out at kind s o w k i) where
  -- what the code has of a line
  abbrev line : ℕ → List ℕ
  line e = take (e - i) (drop i s)

  abbrev put : ℕ → List ℕ
  put e = put_lines o (at + w.tally.len) (pieces_lines kind w.tally (line_pieces w.plain (line e)))

  module _ {e : ℕ} (inside : i < length s) (ends : e ≡ end_of s i) where
    cut : lines_of (drop i s) ≡ line e ∷ lines_of (drop e s)
    cut = rw ends (lines_at s i inside)

    longer : i < e
    longer = rw ends (end_some s i inside)

    within_text : e ≤ length s
    within_text = rw ends (end_most s i)

    length_line : length (line e) ≡ e - i
    length_line = omega (arith, length-take (e - i) (drop i s), length-drop i s, longer, within_text)

    pub going_next : {v : Scan} {q : List ℕ} {step : Result Scan Answer} → step ≡ step_of w (line e) → step ≡ Ok v → q ≡ put e → length q ≡ length o
        → Going out at kind s q v (k + 1) e
    going_next {v} {q} {step} a b p n =
        let l = line e in
        let h = step_on w l v (sym a ∙ b) in
        let next = next_of w.plain (taken_of w.plain l) in
        let m = taken_moves w.plain l h.on in
        let ls = lines_of (drop e s) in
        let rest = left_on w.plain l ls h.on in
        rw h.next
        record {
          within = within_text;
          same = n ∙ g.same;
          offset = omega (arith, m.offset, m.within);
          few = omega (arith, m.offset, length_line, longer, g.few);
          most = omega (arith, m.offset, length_line, longer, g.most, line_most w.plain l w.tally);
          verdict = rw add-one (sym (verdict_on w.plain k l ls h.on) ∙ ap (lines_verdict w.plain k) (sym cut) ∙ g.verdict);
          count = omega (arith, ap length cut, g.count);
          tally = sym (tally_append w.tally (line_pieces w.plain l) (left next ls)) ∙ rw (← rest, ← cut) g.tally;
          lines = rw (p, put_more o kind at w.tally (line_pieces w.plain l) (left next ls), ← rest, ← cut) g.lines;
        }

    -- a line that is refused gives no piece, and what is left gives none
    off-pieces : (l : List ℕ) → goes_on (taken_of w.plain l) ≡ false → line_pieces w.plain l ≡ []
    off-pieces l h = no_pieces w.plain l (taken_of w.plain l) refl h

    pub going_stop : {a : Answer} {q : List ℕ} {step : Result Scan Answer} → step ≡ step_of w (line e) → step ≡ Err a → q ≡ put e
        → Walk out at kind s (body (bad k a) w.tally) q
    unfolding verdict_of
    going_stop {a} {q} {step} x y p =
        let l = line e in
        let h = step_stop w l a (sym x ∙ y) in
        let ls = lines_of (drop e s) in
        let rest = left_off w.plain l ls h.off in
        let first : lines_verdict fresh_plain 0 (lines_of s) ≡ bad k a =
        sym g.verdict ∙ ap (lines_verdict w.plain k) cut ∙ verdict_off w.plain k l ls h.off ∙ ap (bad k) (sym h.bad) in
        walked out at kind s (bad k a) w.tally (rw first refl)
        (no_more w.tally g.tally (ap (left w.plain) cut ∙ rest))
        (omega (arith, g.most, g.offset))
        (p ∙ sym (no_lines o (at + w.tally.len) kind w.tally (off-pieces l h.off) refl) ∙ no_lines o (at + w.tally.len) kind w.tally (ap (left w.plain) cut ∙ rest) g.lines)

  -- ---- at the end of the text

  pub going_last : {v : Verdict} → length s ≤ i → v ≡ close_of w.plain k (has w.tally.uppers) → Walk out at kind s (body v w.tally) o
  unfolding verdict_of close_of pieces_of
  going_last {v} past e =
      let none : lines_of (drop i s) ≡ [] = no_line (drop i s) (drop_of_length-le s past) in
      let empty : left w.plain (lines_of (drop i s)) ≡ [] = rw none (none_left w.plain) in
      let t : w.tally ≡ tally_all fresh_tally (pieces_of s) = no_more w.tally g.tally empty in
      let some : has w.tally.uppers ≡ is_some (records_of s) = rw t (fresh_some (pieces_of s) ∙ split_some (records_of s)) in
      let n : k ≡ length (lines_of s) = omega (arith, ap length none, g.count) in
      walked out at kind s v w.tally (e ∙ rw (← g.verdict, none, some, ← n) refl) t (omega (arith, g.most, g.offset))
      (no_lines o (at + w.tally.len) kind w.tally empty g.lines)

-- ---- a place past the end of the room is as good as the end

pub least_lines : (out : List ℕ) (at : ℕ) (ls : List (List ℕ)) {from : ℕ} {o : List ℕ} → from ≡ min at (length out) → o ≡ put_lines out from ls → o ≡ put_lines out at ls
least_lines out at ls {from} e f =
    f
    ∙ split (ltb (length out) at)
    (λ y.
    let past : length out < at = ltb-true (length out) at y in
    let last : from ≡ length out = omega (arith, e) in
    rw last (put_past out (length out) ls (omega arith) ∙ sym (put_past out at ls (omega arith))))
    (λ n.
    let within : at ≤ length out = ltb-false (length out) at n in
    let same : from ≡ at = omega (arith, e) in
    rw same refl)
