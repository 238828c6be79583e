-- What a line that is taken leaves: the offset, by its length, and data of at most 32 bytes near the base. Assumes nothing.
use Prim.Native.Nat.{ℕ, ◌+◌, ◌≤◌}
use mathlib.Core.Path.{◌≡◌, refl}
use mathlib.Core.Bool.{Bool, true, false, cond}
use mathlib.Core.List.{List}
use native.Mathlib.Omega.{arith}
use lib.Dec.{eqb, ltb}
use lib.ListN.{length}
use Rattle.std.specs.Prelude.{Option, Some, None, Ok, Err}
use borrow.Author.Tests.{ltb-false}
use Rattle.laws.proofs.Tests.{clash}
use Rattle.ihex_record.specs.Types.{data_type}
use Rattle.ihex_record.specs.Record.{ParseResult, word_of, on_record, read_of}
use Rattle.ihex_record.specs.declared.Record.{Record}
use Rattle.std.specs.Prelude.{Ok, Err}
use Rattle.ihex_record.proofs.Good.{good_len}
use Rattle.uhex_grammar.specs.Answers.{refusal_of}
use Rattle.ihex_file.specs.declared.Plain.{Plain}
use Rattle.ihex_file.specs.declared.Data.{Data}
use Rattle.ihex_file.specs.declared.Taken.{Taken}
use Rattle.uhex_grammar.specs.declared.Answer.{Answer}
use Rattle.ihex_file.specs.Line.{Reading, gives, is_end, is_segment, is_linear, is_start, plain, moved_by, data_taken, record_taken, fields_taken, line_taken, taken_of}
use Rattle.ihex_file.specs.File.{goes_on, next_of}

-- the reading after a line of n bytes
pub record Moved (p : Plain) (n : ℕ) (q : Plain) : Type 0 where
  pub offset : q.offset ≡ p.offset + n
  pub within : p.offset + n ≤ 4194304

-- data of n bytes at a
pub record Near (p : Plain) (a n : ℕ) : Type 0 where
  pub few : n ≤ 32
  pub near : a + n ≤ p.base + 65536

-- of a line that is taken, and of its data
abbrev Close : Plain → Option Data → Type 0
Close p None = Unit {0}
Close p (Some d) = Near p d.address d.len

data Sound (p : Plain) (n : ℕ) : Reading → Type 0 where
  refused : {a : Answer} → Sound p n (Err a)
  taken : {t : Taken} → Moved p n t.plain → Close p t.given → Sound p n (Ok t)

either : {p : Plain} {n : ℕ} (b : Bool) {x y : Reading} → (b ≡ true → Sound p n x) → (b ≡ false → Sound p n y) → Sound p n (cond b x y)
either true f g = f refl
either false f g = g refl

module _ (p : Plain) (n : ℕ) (fits : p.offset + n ≤ 4194304) where
  moved : (base : ℕ) (b : Bool) → Moved p n (plain (p.offset + n) base b)
  moved base b = record { offset = refl; within = fits }

  sound_data : (address len : ℕ) → len ≤ 32 → Sound p n (data_taken (moved_by p n) address len)
  unfolding data_taken
  sound_data address len few =
      either (ltb 65536 (address + len)) (λ y. refused)
      (λ z.
      either (eqb len 0) (λ y. taken (moved _ _) tt)
      (λ w. taken (moved _ _) (record { few = few; near = omega (arith, ltb-false 65536 (address + len) z) })))

  sound_record : (word kind address len : ℕ) → len ≤ 32 → Sound p n (record_taken (moved_by p n) kind address len word)
  unfolding record_taken
  sound_record word kind address len few =
      either (eqb kind data_type) (λ y. sound_data address len few)
      (λ a.
      either (is_end kind len) (λ y. taken (moved _ _) tt)
      (λ b.
      either (is_segment kind len) (λ y. taken (moved _ _) tt)
      (λ c.
      either (is_linear kind len) (λ y. taken (moved _ _) tt)
      (λ d. either (is_start kind len) (λ y. taken (moved _ _) tt) (λ e. refused)))))

sound_parsed : (p : Plain) (n w : ℕ) (x : ParseResult) → p.offset + n ≤ 4194304 → ((rec : Record) → x ≡ Ok rec → rec.len ≤ 32)
    → Sound p n (on_record (Err (refusal_of x)) (fields_taken (moved_by p n) w) x)
sound_parsed p n w (Ok rec) h f = sound_record p n h w rec.kind rec.address rec.len (f rec refl)
sound_parsed p n w (Err e) h f = refused

sound : (p : Plain) (l : List ℕ) → Sound p (length l) (taken_of p l)
unfolding taken_of line_taken
sound p l =
    let x = (read_of l).parsed in
    let w = word_of (read_of l).«data» in
    either p.ended (λ y. refused)
    (λ z.
    either (ltb 4194304 (p.offset + length l)) (λ y. refused)
    (λ k. sound_parsed p (length l) w x (ltb-false 4194304 (p.offset + length l) k) (λ rec e. good_len l rec e)))

moved_by_lem : {p : Plain} {n : ℕ} {t : Reading} → Sound p n t → goes_on t ≡ true → Moved p n (next_of p t)
moved_by_lem refused e = clash false e refl
moved_by_lem (taken m k) e = m

near_by : {p : Plain} {n : ℕ} {t : Taken} → Sound p n (Ok t) → Close p t.given
near_by (taken m k) = k

pub taken_moves : (p : Plain) (l : List ℕ) → goes_on (taken_of p l) ≡ true → Moved p (length l) (next_of p (taken_of p l))
taken_moves p l e = moved_by_lem (sound p l) e

pub data_near : (p : Plain) (l : List ℕ) (q : Plain) (a n : ℕ) → taken_of p l ≡ gives q a n → Near p a n
data_near p l q a n e = near_by (rw e at (sound p l))
