-- Examples of the windows of RAM (02, L8), in a table, and the one statement over it. Proved in proofs/Windows.antt. Assumes nothing.
use Rattle.std.specs.Prelude.{ℕ, ◌≡◌, List, [], ◌∷◌, map, Ok, Err}
use Rattle.partitions.specs.Settings.{family_rp2040, family_absolute, family_data, family_arm_s, family_arm_ns}
use Rattle.partitions.specs.declared.Settings.{Settings}
use Rattle.transfer.specs.Transfer.{head_with}
use Rattle.transfer.specs.declared.Kind.{Kind}
use Rattle.transfer.specs.declared.Kind.TheVariants.{Flash, MainRam, XipRam}
use Rattle.transfer.specs.declared.Answer.TheVariants.{NoPlace, BadPayload, BadNumbers, BadAddress}
use Rattle.transfer.specs.declared.State.TheVariants.{Idle}
use Rattle.uf2_checks.specs.Screen.{Screening}
use Rattle.uf2_checks.specs.declared.Lengths.{Lengths}
use Rattle.uf2_checks.specs.declared.Body.TheVariants.{Page}
use Rattle.examples.specs.Boards.{block_of, block_with, arrival_of, plain, with_user}
use Rattle.examples.specs.Tables.{screening, screened, found, Example, case}

-- the lengths of a flash of 65,536 bytes and of both RAM buffers
abbrev buffers : ℕ → ℕ → Lengths
buffers main xip = record { flash = 65536; main = main; xip = xip }

-- an arrival to a board with both
abbrev on_both : Settings → List ℕ → Screening → Example
on_both s a x = case (screening s (buffers 532480 16384) Idle a) (screened x)

-- an arrival to a board with neither
abbrev on_neither : List ℕ → Screening → Example
on_neither a x = case (screening plain (buffers 0 0) Idle a) (screened x)

-- a block of a family that passes: kind, total, number, storage address
abbrev page_in : Kind → ℕ → ℕ → ℕ → ℕ → Screening
page_in k family total number at = Ok (record { head = head_with k family total; number = number; body = Page at })

-- a data block of arm-s: address and total
abbrev data_at : ℕ → ℕ → List ℕ
data_at address total = arrival_of address 0 total 1

-- a data block of another family, at the start of XIP RAM
abbrev of_family : ℕ → List ℕ
of_family family = block_of family 0x2000 0x13ffc000 256 0 1 1

unfoldable pub window_examples : List Example
window_examples =
    -- "0x20000000 to 0x20082000 (532,480 bytes)", "in RAM check 10 uses the window"
    on_both plain (data_at 0x20000000 2080) (page_in MainRam family_arm_s 2080 0 0)
    ∷ on_both plain (data_at 0x20000000 2081) (Err BadNumbers)
    -- "by byte address (there 11 is only address + 256 past the window's end)"
    ∷ on_both plain (data_at 0x20000001 1) (page_in MainRam family_arm_s 1 0 1)
    ∷ on_both plain (data_at 0x20081f00 1) (page_in MainRam family_arm_s 1 0 532224)
    ∷ on_both plain (data_at 0x20081f01 1) (Err BadAddress)
    ∷ on_both plain (data_at 0x20081fff 0) (Err BadNumbers)
    -- "0x13ffc000 to 0x14000000 (16,384)"
    ∷ on_both plain (data_at 0x13ffc000 64) (page_in XipRam family_arm_s 64 0 0)
    ∷ on_both plain (data_at 0x13ffc000 65) (Err BadNumbers)
    ∷ on_both plain (data_at 0x13ffff00 1) (page_in XipRam family_arm_s 1 0 16128)
    ∷ on_both plain (data_at 0x13ffff01 1) (Err BadAddress)
    -- "For an address in no window .. 11 comes before 10", but not before 9
    ∷ on_both plain (data_at 0x13ffbfff 0) (Err BadAddress)
    ∷ on_both plain (data_at 0x14000000 0) (Err BadAddress)
    ∷ on_both plain (data_at 0x1fffffff 0) (Err BadAddress)
    ∷ on_both plain (data_at 0x20082000 0) (Err BadAddress)
    ∷ on_both plain (data_at 0x12000000 0) (Err BadAddress)
    ∷ on_both plain (data_at 0x10000000 0) (Err BadNumbers)
    ∷ on_both plain (block_with 0x2000 0x20082000 255 0 0 1) (Err BadPayload)
    -- "or empty where the board lacks it and the window isn't one"
    ∷ on_neither (data_at 0x20000000 0) (Err BadAddress)
    ∷ on_neither (data_at 0x13ffc000 0) (Err BadAddress)
    ∷ on_neither (data_at 0x10000000 1) (page_in Flash family_arm_s 1 0 0)
    -- "only families ..58 to ..5b or a user family of a used entry; others 8"; in no window "check 8 is flash's"
    ∷ on_both plain (of_family family_rp2040) (Err NoPlace)
    ∷ on_both plain (of_family family_absolute) (Err NoPlace)
    ∷ on_both plain (of_family family_data) (page_in XipRam family_data 1 0 0)
    ∷ on_both plain (of_family family_arm_ns) (page_in XipRam family_arm_ns 1 0 0)
    ∷ on_both plain (of_family 0xe48bff5c) (Err NoPlace)
    ∷ on_both plain (of_family 0x11) (Err NoPlace)
    ∷ on_both (with_user 2) (of_family 0x11) (page_in XipRam 0x11 1 0 0)
    ∷ on_both (with_user 2) (of_family 0x22) (Err NoPlace)
    ∷ on_both (with_user 1) (of_family 0x11) (Err NoPlace)
    ∷ on_neither (of_family family_arm_ns) (Err NoPlace)
    ∷ []

unfoldable pub WindowExamplesHold : Type 0
WindowExamplesHold = map (λ e. found e.question) window_examples ≡ map (λ e. e.expected) window_examples
