-- Calls of `uhex_line`, one after the other: the reader travels between them as bytes. Proved in proofs/HexTurns.antt. Assumes nothing.
use Rattle.std.specs.Prelude.{ℕ, ◌≡◌, List, [], ◌∷◌, map}
use Rattle.ihex_record.specs.Write.{Bytes}
use Rattle.uhex_claims.specs.Lines.{Session, read_all, line_answers}
use Rattle.uhex_layout.specs.Readers.{reader_from}
use Rattle.call_bytes.specs.HexCalls.{LineReturn, line_result, line_call_of}

-- what the caller holds between two calls
pub record LentSession : Type 0 where
  pub reader : List ℕ
  pub image : List ℕ

-- the call for a line
abbrev pub call_line : LentSession → List ℕ → LineReturn
call_line h l = line_call_of h.reader l h.image

-- what a call leaves
abbrev pub left_by_line : LineReturn → LentSession
left_by_line r = record { reader = r.reader; image = r.image }

-- what a call for each line leaves, where each is handed what the last one left
unfoldable pub call_lines : LentSession → List (List ℕ) → LentSession
call_lines h [] = h
call_lines h (l ∷ ls) = call_lines (left_by_line (call_line h l)) ls

-- what each of them returns
unfoldable pub line_returns : LentSession → List (List ℕ) → List ℕ
line_returns h [] = []
line_returns h (l ∷ ls) = (call_line h l).result ∷ line_returns (left_by_line (call_line h l)) ls

-- the reader that the bytes are, and the image
abbrev pub session_of : LentSession → Session
session_of h = record { reader = reader_from h.reader; image = h.image }

-- from any bytes of a reader, whatever the lines and the image, the calls leave what `read_all` leaves, and return its answers, with the position of a bad digit
unfoldable pub CallsAreLines : Type 0
CallsAreLines =
    (h : LentSession) (ls : List (List ℕ)) → Bytes h.reader
    → (session_of (call_lines h ls) ≡ read_all (session_of h) ls) × (line_returns h ls ≡ map line_result (line_answers (session_of h) ls))
