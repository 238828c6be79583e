-- One line of a plain Intel Hex file (02, L11): "Read plain Intel Hex (types 00 to 05)". Assumes nothing.
use Rattle.std.specs.Prelude.{ℕ, ◌+◌, ◌*◌, Bool, true, false, cond, ◌&&◌, ◌||◌, List, eqb, ltb, length, Some, None, Result, Ok, Err}
use Rattle.ihex_record.specs.Types.{data_type, end_of_file, extended_linear}
use Rattle.ihex_record.specs.Record.{ParseResult, word_of, on_record, read_of}
use Rattle.ihex_record.specs.declared.Record.{Record}
use Rattle.uhex_grammar.specs.Answers.{number_of, refusal_of}
use Rattle.uhex_grammar.specs.declared.Answer.{Answer}
use Rattle.uhex_grammar.specs.declared.Answer.TheVariants.{OutOfPlace, Crosses, AfterEnd, FileTooLong}
use Rattle.ihex_file.specs.declared.Plain.{Plain}
use Rattle.ihex_file.specs.declared.Taken.{Taken}

-- ---- the types that only plain Intel Hex has, and how many data bytes each record has: "02 carries 2 bytes, 03 and 05 four"; 01: "04
-- carries 2 bytes, 01 none"

-- 01, end of file
abbrev pub is_end : ℕ → ℕ → Bool
is_end kind len = eqb kind end_of_file && eqb len 0

-- 02, extended segment address
abbrev pub is_segment : ℕ → ℕ → Bool
is_segment kind len = eqb kind 2 && eqb len 2

-- 04, extended linear address
abbrev pub is_linear : ℕ → ℕ → Bool
is_linear kind len = eqb kind extended_linear && eqb len 2

-- 03 and 05, start segment address and start linear address
abbrev pub is_start : ℕ → ℕ → Bool
is_start kind len = (eqb kind 3 || eqb kind 5) && eqb len 4

-- ---- where the reading stands

-- all of it
abbrev pub plain : ℕ → ℕ → Bool → Plain
plain offset base ended = record { offset = offset; base = base; ended = ended }

-- before the first line
abbrev pub fresh_plain : Plain
fresh_plain = plain 0 0 false

-- past a line of n bytes
abbrev pub moved_by : Plain → ℕ → Plain
moved_by p n = plain (p.offset + n) p.base p.ended

-- "the latest 02 or 04 ruling"
abbrev pub with_base : Plain → ℕ → Plain
with_base p base = plain p.offset base p.ended

-- past the 01
abbrev pub with_end : Plain → Plain
with_end p = plain p.offset p.base true

-- ---- a record

-- what a line comes to: refused, by its answer, or taken
abbrev pub Reading : Type 0
Reading = Result Taken Answer

-- with no data byte
abbrev pub passed : Plain → Reading
passed q = Ok (record { plain = q; given = None })

-- with n bytes of data at a linear address
abbrev pub gives : Plain → ℕ → ℕ → Reading
gives q a n = Ok (record { plain = q; given = Some (record { address = a; len = n }) })

-- a 00, by its address field and its length: row 29, "address field + length over 65,536"; an empty one gives nothing; other data is at the
-- latest 02's or 04's address, plus the address field
unfoldable pub data_taken : Plain → ℕ → ℕ → Reading
data_taken p address len =
    cond (ltb 65536 (address + len)) (Err Crosses) (cond (eqb len 0) (passed p) (gives p (p.base + address) len))

-- a record, by its type, address field and length, and its first two data bytes as a number, high first: an 02's times 16, an 04's times
-- 65,536; "start records dropped"; row 26 for "type, length"
unfoldable pub record_taken : Plain → ℕ → ℕ → ℕ → ℕ → Reading
record_taken p kind address len word =
    cond (eqb kind data_type) (data_taken p address len)
    (cond (is_end kind len) (passed (with_end p))
    (cond (is_segment kind len) (passed (with_base p (16 * word)))
    (cond (is_linear kind len) (passed (with_base p (65536 * word)))
    (cond (is_start kind len) (passed p) (Err OutOfPlace)))))

-- the same, of a record that a line says
abbrev pub fields_taken : Plain → ℕ → Record → Reading
fields_taken p word rec = record_taken p rec.kind rec.address rec.len word

-- ---- a line: "at the first bad line 31, 36, 20 to 26 .. or 29"

-- 01's number of a refusal; a line that is taken has none, and 0 stands for it
abbrev pub taken_number : Reading → ℕ
taken_number (Err a) = number_of a
taken_number (Ok t) = 0

-- of n bytes, by what its text says
unfoldable pub line_taken : Plain → ℕ → ParseResult → ℕ → Reading
line_taken p n parsed word =
    cond p.ended (Err AfterEnd)
    (cond (ltb 4194304 (p.offset + n)) (Err FileTooLong)
    (on_record (Err (refusal_of parsed)) (fields_taken (moved_by p n) word) parsed))

-- as it is handed, its ending included
unfoldable pub taken_of : Plain → List ℕ → Reading
taken_of p l = line_taken p (length l) (read_of l).parsed (word_of (read_of l).«data»)
