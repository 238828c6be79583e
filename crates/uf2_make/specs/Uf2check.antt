-- An image that a UF2 file is to be made of (02, L1): "Refusals, in order". Assumes nothing.
use Rattle.std.specs.Prelude.{ℕ, ◌+◌, ◌*◌, ◌/◌, ◌%◌, Bool, not, cond, ◌||◌, eqb, ltb, leb, Result, Ok, Err}
use Rattle.uf2_make.specs.declared.checks.MakeError.{MakeError}
use Rattle.uf2_make.specs.declared.checks.MakeError.TheVariants.{BadImage, BadStart, PastWindow, ShortOutput}

-- "50 image empty or ragged", of its length
abbrev pub bad_image : ℕ → Bool
bad_image n = eqb n 0 || not (eqb (n % 256) 0)

-- "51 start outside the window or no multiple of 256". The window is 01's, 0x10000000 up to, not including, 0x12000000.
abbrev pub bad_start : ℕ → Bool
bad_start start = ltb start 0x10000000 || (leb 0x12000000 start || not (eqb (start % 256) 0))

-- then "52 image runs past the window, 53 output under 512 bytes a page": of an image's length, a start and an output's length
unfoldable pub check_of : ℕ → ℕ → ℕ → Result ℕ MakeError
check_of n start room =
    cond (bad_image n) (Err BadImage) (cond (bad_start start) (Err BadStart)
    (cond (ltb 0x12000000 (start + n)) (Err PastWindow)
    (cond (ltb room (512 * (n / 256))) (Err ShortOutput)
    (Ok (n / 256)))))

-- the numbers of the refusals; a file that is made is none, and has 0
abbrev pub error_number : MakeError → ℕ
error_number BadImage = 50
error_number BadStart = 51
error_number PastWindow = 52
error_number ShortOutput = 53

abbrev pub make_number : Result ℕ MakeError → ℕ
make_number (Err e) = error_number e
make_number (Ok n) = 0
