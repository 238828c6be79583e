-- Bytes that are no settings have another length, as layout has it, or a link of no kind. Assumes nothing.
use mathlib.Core.Path.{◌≡◌, sym, ap, ◌∙◌}
use mathlib.Core.Bool.{Bool, true, false, cond}
use mathlib.Core.Logic.{◌≢◌}
use mathlib.Core.List.{List}
use Prim.Native.Nat.{ℕ, ◌+◌, ◌*◌, ◌-◌, ◌<◌, ◌≤◌}
use native.Mathlib.Omega.{arith}
use lib.ListN.{length, replicate, take, drop}
use borrow.Author.Tests.{eq-eqb, ne_eqb, lt-ltb, le-ltb}
use Rattle.settings_layout.specs.Layout.{byte_at, count_from}
use Rattle.whyapi.specs.declared.told.ReasonFields.{ReasonFields}
use Rattle.whyapi.specs.Told.{told_with, bare, link_byte, link_over, link_told, settings_told}

-- 550 is layout's length of settings: bytes of any other are those whose count is 255
pub no_settings_lem : (b : List ℕ) → length b ≢ 550 → count_from b ≡ 255
no_settings_lem b n = rw (ne_eqb (length b) 550 n)

-- ---- a link of no kind

-- the part of the bytes that is read
pub link_part : (b : List ℕ) (k : ℕ) {x : ℕ} → x ≡ byte_at (take (6 + k * 34 + 34 - (6 + k * 34)) (drop (6 + k * 34) b)) 31 → x ≡ link_byte b k
unfolding link_byte
link_part b k q =
    let size : 6 + k * 34 + 34 - (6 + k * 34) ≡ 34 = omega arith in
    rw size at q

-- what is told of a reason x
module _ (b : List ℕ) (x : ReasonFields) where
  abbrev picked : Bool → ReasonFields
  picked q = cond q (told_with 211 (link_byte b x.entry) 2 x.entry 0 (replicate 16 0)) x

  pub link_other : x.number ≢ 206 → x ≡ link_told b x
  unfolding link_told
  link_other n = rw (ne_eqb x.number 206 n)

  module _ (e : x.number ≡ 206) where
    pub link_far : 16 ≤ x.entry → x ≡ link_told b x
    unfolding link_told
    link_far l = rw (eq-eqb x.number 206 e, le-ltb x.entry 16 l)

    module _ (l : x.entry < 16) {y : ℕ} (r : y ≡ link_byte b x.entry) where
      both : (c : Bool) → link_over b x.entry ≡ c → picked c ≡ link_told b x
      unfolding link_told
      both c h = rw (eq-eqb x.number 206 e, lt-ltb x.entry 16 l, h)

      pub link_tells : {t : ReasonFields} → 2 < y → t ≡ told_with 211 y 2 x.entry 0 (replicate 16 0) → t ≡ link_told b x
      unfolding link_over
      link_tells o t =
          t
          ∙ (ap (λ (z : ℕ). told_with 211 z 2 x.entry 0 (replicate 16 0)) r
          ∙ both true (lt-ltb 2 (link_byte b x.entry) (rw r at o)))

      pub link_silent : y ≤ 2 → x ≡ link_told b x
      unfolding link_over
      link_silent o = both false (le-ltb 2 (link_byte b x.entry) (rw r at o))

-- of bytes of another length, and of those of the right one
pub short_told : (b : List ℕ) (x : ReasonFields) → length b ≢ 550 → {t : ReasonFields} → t ≡ bare 210 (length b) 550 → t ≡ settings_told b x
unfolding settings_told
short_told b x n t = t ∙ ap (λ (w : Bool). cond w (link_told b x) (bare 210 (length b) 550)) (sym (ne_eqb (length b) 550 n))

pub whole_told : (b : List ℕ) (x : ReasonFields) → length b ≡ 550 → {t : ReasonFields} → t ≡ link_told b x → t ≡ settings_told b x
unfolding settings_told
whole_told b x e t = t ∙ ap (λ (w : Bool). cond w (link_told b x) (bare 210 (length b) 550)) (sym (eq-eqb (length b) 550 e))
