-- What the call for a file answers and writes, by what it is lent. Assumes nothing.
use Rattle.std.specs.Prelude.{ℕ, List}
use Rattle.uf2_checks.specs.declared.Lengths.{Lengths}
use Rattle.settings_layout.specs.Layout.{settings_from}
use Rattle.file_check.specs.Check.{check_of}
-- what is returned and written of a file
pub use Rattle.checkapi.specs.CheckBytes.{Call, call_return}
unfoldable pub use Rattle.checkapi.specs.CheckBytes.{check_call}

-- the lengths of flash, main RAM and XIP RAM
abbrev pub lengths_with : ℕ → ℕ → ℕ → Lengths
lengths_with a b c = record { flash = a; main = b; xip = c }

-- of settings as bytes, lengths, the lengths of the three maps, a file, and the bytes for what is told as they were lent
abbrev pub check_call_of : List ℕ → Lengths → ℕ → ℕ → ℕ → List ℕ → List ℕ → Call
check_call_of s n a b c f l = check_call (check_of (settings_from s) n a b c f) l
