-- The length of a line's text, by how the line ends. Assumes nothing.
use Rattle.std.proofs.Common.{◌≡◌, ℕ, ◌-◌, ◌<◌, true, false, ltb, List, length, get_or, arith, lt-ltb, eq-eqb, ne_eqb}
use mathlib.Core.Bool.{and-false}
use Rattle.laws.proofs.Tests.{both}
use Rattle.ihex_record.specs.Record.{ends_in, text_len}

ends : (c : ℕ) (l : List ℕ) (n : ℕ) → 0 < n → get_or l (n - 1) 0 ≡ c → ends_in c l n ≡ true
ends c l n h e = both (lt-ltb 0 n h) (eq-eqb (get_or l (n - 1) 0) c e)

ends_other : (c : ℕ) (l : List ℕ) (n : ℕ) → (get_or l (n - 1) 0 ≡ c → ⊥) → ends_in c l n ≡ false
ends_other c l n h = rw (ne_eqb (get_or l (n - 1) 0) c h) (and-false (ltb 0 n))

module _ (l : List ℕ) where
  before : length l - 1 - 1 ≡ length l - 2
  before = omega arith

  pub text_empty : length l ≡ 0 → 0 ≡ text_len l
  unfolding text_len
  text_empty e = rw e

  pub text_whole : (get_or l (length l - 1) 0 ≡ 10 → ⊥) → length l ≡ text_len l
  unfolding text_len
  text_whole h = rw (ends_other 10 l (length l) h)

  module _ (last : get_or l (length l - 1) 0 ≡ 10) where
    pub text_alone : length l ≡ 1 → 0 ≡ text_len l
    unfolding text_len
    text_alone e = rw (ends 10 l (length l) (omega arith) last, e)

    pub text_lf : 0 < length l → (get_or l (length l - 2) 0 ≡ 13 → ⊥) → length l - 1 ≡ text_len l
    unfolding text_len
    text_lf p h = rw (ends 10 l (length l) p last, ends_other 13 l (length l - 1) (rw before h))

    pub text_crlf : 1 < length l → get_or l (length l - 2) 0 ≡ 13 → length l - 2 ≡ text_len l
    unfolding text_len
    text_crlf p e = rw (ends 10 l (length l) (omega arith) last, ends 13 l (length l - 1) (omega arith) (rw before e))
