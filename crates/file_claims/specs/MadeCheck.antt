-- A file that is made (02, L1) is found valid, for every board that it can be delivered to. Proved in proofs/MadeCheck.antt. Assumes nothing.
use Rattle.std.specs.Prelude.{ℕ, ◌*◌, ◌/◌, ◌≡◌, List, length, take, Ok}
use Rattle.partitions.specs.declared.Settings.{Settings}
use Rattle.arrival.specs.Arrive.{World, lengths_of}
use Rattle.uf2_make.specs.Uf2file.{make_of}
use Rattle.file_claims.specs.Delivery.{IsMade, Deliverable}
use Rattle.file_check.specs.Valid.{answer_to}

-- the bytes of the file: 512 for each page, from the start of the output on
abbrev pub made_bytes : List ℕ → ℕ → ℕ → List ℕ → List ℕ
made_bytes image family start out = take (length image / 256 * 512) (make_of image family start out).output

unfoldable pub MadeIsFoundValid : Type 0
MadeIsFoundValid =
    (s : Settings) (w : World) (image out : List ℕ) (family start at size : ℕ) → IsMade image family start out
    → Deliverable s w image family start at size
    → answer_to s (lengths_of w.held) (made_bytes image family start out) ≡ Ok tt
