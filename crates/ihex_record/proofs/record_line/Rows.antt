-- What a line is read as has the number of its row. Assumes nothing.
use Rattle.std.proofs.Common.{◌≡◌, ℕ, ltb, List, length, take, drop, ap, ◌∙◌}
use Rattle.laws.proofs.Tests.{split}
use Rattle.ihex_record.specs.declared.Line.{Line}
use Rattle.ihex_record.specs.Record.{all_digits, bytes_of, len_of, no_colon, bad_shape, bad_length, bad_sum, line_of_bytes, line_of_text, text_len, text_of, read_of, parsed_number, bytes_row, text_row, row_of}

abbrev number : Line → ℕ
number x = parsed_number x.parsed

bytes_row_lem : (n : ℕ) (b : List ℕ) → number (line_of_bytes n b) ≡ bytes_row n b
unfolding line_of_bytes bytes_row
bytes_row_lem n b =
    split (ltb 32 (len_of b)) (λ y. rw y)
    (λ a. split (bad_length n b) (λ y. rw (a, y)) (λ e. split (bad_sum b) (λ y. rw (a, e, y)) (λ z. rw (a, e, z))))

text_row_lem : (t : List ℕ) → number (line_of_text t) ≡ text_row t
unfolding line_of_text text_row
text_row_lem t =
    split (no_colon t) (λ y. rw y)
    (λ a.
    split (bad_shape (length t)) (λ y. rw (a, y))
    (λ e.
    split (all_digits (drop 1 t)) (λ y. rw (a, e, y) (bytes_row_lem (length t) (bytes_of (drop 1 t)))) (λ z. rw (a, e, z))))

-- the line that the code reads, and its number
pub read_numbered : (l : List ℕ) (n : ℕ) (x : Line) → n ≡ text_len l → x ≡ line_of_text (take n l)
    → (x ≡ read_of l) × (parsed_number x.parsed ≡ row_of l)
unfolding read_of row_of text_of
read_numbered l n x e q =
    let w : x ≡ line_of_text (take (text_len l) l) = q ∙ ap (λ (k : ℕ). line_of_text (take k l)) e in
    (w, ap number w ∙ text_row_lem (take (text_len l) l))
