-- Settings as bytes: those of entries past the count change nothing, and "don't restart" and slots that are not used change no call for an
-- arrival or a place (02, L5).
-- Proved in proofs/Unused.antt. Assumes nothing.
use Rattle.std.specs.Prelude.{ℕ, ◌+◌, ◌*◌, ◌≡◌, List, length, take}
use Rattle.partitions.specs.Alike.{Alike}
use Rattle.arrival.specs.Arrive.{Lent}
use Rattle.settings_layout.specs.Layout.{count_from, used_of, settings_from}
use Rattle.call_bytes.specs.PlacesCalls.{ask_bytes}
use Rattle.call_bytes.specs.Calls.{look_bytes, take_bytes, accept_bytes, take_batch}

-- how many bytes of settings are read: the first 6, and 34 for each used entry
abbrev pub used_bytes : List ℕ → ℕ
used_bytes b = 6 + 34 * used_of (count_from b)

-- two strings of one length that agree in the bytes that are read
pub record SameUsed (b c : List ℕ) : Type 0 where
  pub size : length b ≡ length c
  pub front : take (used_bytes b) b ≡ take (used_bytes b) c

-- they are the same settings
unfoldable pub UnusedChangeNothing : Type 0
UnusedChangeNothing = (b c : List ℕ) → SameUsed b c → settings_from b ≡ settings_from c

-- every call for an arrival or a place answers and leaves the same with the one as with the other
pub record SameCalls (b c : List ℕ) : Type 0 where
  pub ask : (len f : ℕ) (l : List ℕ) → ask_bytes b len f l ≡ ask_bytes c len f l
  pub look : (t a : List ℕ) (h : Lent) → look_bytes b t a h ≡ look_bytes c t a h
  pub take : (t a : List ℕ) (h : Lent) → take_bytes b t a h ≡ take_bytes c t a h
  pub accept : (t a p : List ℕ) (h : Lent) → accept_bytes b t a h p ≡ accept_bytes c t a h p
  pub take_all : (t a r : List ℕ) (h : Lent) → take_batch b t a r h ≡ take_batch c t a r h

-- settings that are read as alike but for "don't restart", entries that are not used and slots that are not used
unfoldable pub AlikeChangeNoCall : Type 0
AlikeChangeNoCall = (b c : List ℕ) → Alike (settings_from b) (settings_from c) → SameCalls b c

-- so bytes of entries past the count change no such call
unfoldable pub UnusedChangeNoCall : Type 0
UnusedChangeNoCall = (b c : List ℕ) → SameUsed b c → SameCalls b c
