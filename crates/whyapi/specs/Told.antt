-- What is told of a reason, and of bytes that are no settings: they are named as that, and no number is told that nobody handed in. Assumes nothing.
use Rattle.std.specs.Prelude.{ℕ, Bool, cond, ◌&&◌, List, ltb, eqb, length, replicate}
use Rattle.settings_layout.specs.Layout.{byte_at, entry_bytes}
use Rattle.whyapi.specs.declared.told.ReasonFields.{ReasonFields}

abbrev pub told_with : ℕ → ℕ → ℕ → ℕ → ℕ → List ℕ → ReasonFields
told_with number g a entry other marks = record { number = number; got = g; against = a; entry = entry; other = other; marks = marks }

-- without an entry and marks
abbrev pub bare : ℕ → ℕ → ℕ → ReasonFields
bare number g a = told_with number g a 0 0 (replicate 16 0)

-- the link kind's byte of entry k, at layout's offset
unfoldable pub link_byte : List ℕ → ℕ → ℕ
link_byte b k = byte_at (entry_bytes b k) 31

-- it is no kind (layout's `link_from`)
unfoldable pub link_over : List ℕ → ℕ → Bool
link_over b k = ltb 2 (link_byte b k)

-- 211 where 206 would be told: the link kind's byte of that entry, and 2 (layout's `link_from` makes such a link one to a higher entry, 206's condition)
unfoldable pub link_told : List ℕ → ReasonFields → ReasonFields
link_told b x =
    cond (eqb x.number 206 && ltb x.entry 16 && link_over b x.entry) (told_with 211 (link_byte b x.entry) 2 x.entry 0 (replicate 16 0)) x

-- 210: a wrong length, and the right one; such bytes are bad settings (layout's `count_from`)
unfoldable pub settings_told : List ℕ → ReasonFields → ReasonFields
settings_told b x = cond (eqb (length b) 550) (link_told b x) (bare 210 (length b) 550)
