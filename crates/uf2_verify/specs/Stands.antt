-- Whether what an arrival holds stands in the memory: the rows that refuse it, in the order of 01, and else one comparison. Assumes nothing.
use Rattle.std.specs.Prelude.{ℕ, Bool, true, not, cond, ◌&&◌, List, [], eqb, length, get_or, take, drop, Result, Ok, Err}
use Rattle.laws.specs.Sets.{any}
use Rattle.memory.specs.Flash.{payload_of, room_at}
use Rattle.partitions.specs.Settings.{good_settings}
use Rattle.partitions.specs.declared.Settings.{Settings}
use Rattle.transfer.specs.declared.Answer.{Answer}
use Rattle.transfer.specs.Transfer.{number_of}
use Rattle.transfer.specs.declared.Kind.{Kind}
use Rattle.transfer.specs.declared.State.TheVariants.{Idle}
use Rattle.transfer.specs.declared.Answer.TheVariants.{BadBuffers, BadSettings}
use Rattle.uf2_checks.specs.Screen.{screen_of, screen_at, Screening}
use Rattle.uf2_checks.specs.declared.Body.{Body}
use Rattle.uf2_checks.specs.declared.Body.TheVariants.{Page, Note}
use Rattle.arrival.specs.Arrive.{Held, buffer_of, lengths_of, right_lengths}
use Rattle.arrival.specs.Lending.{Slice, held}
use Rattle.uf2_known.specs.declared.Known.{Known}
use Rattle.uf2_verify.specs.declared.Stand.{Stand}
use Rattle.uf2_verify.specs.declared.Stand.TheVariants.{Stands, Differs}

-- the number of an answer: a refusal has that of 01
abbrev pub stand_number : Result Stand Answer → ℕ
stand_number (Err x) = number_of x
stand_number (Ok Stands) = 95
stand_number (Ok Differs) = 96

-- flash, main RAM and XIP RAM as they are lent; no map is
abbrev pub memory : List ℕ → List ℕ → List ℕ → Held
memory f u x = held f [] u x

abbrev pub memory_at : Slice → Slice → Slice → Held
memory_at f u x = memory f u x

-- byte i of the one is not that of the other
abbrev pub differ_at : List ℕ → List ℕ → ℕ → Bool
differ_at a b i = not (eqb (get_or a i 0) (get_or b i 0))

-- none of 256 bytes differs
unfoldable pub same_page : List ℕ → List ℕ → Bool
same_page a b = not (any 256 (differ_at a b))

-- the payload p stands in a buffer at `at`
unfoldable pub page_stands : List ℕ → ℕ → List ℕ → Bool
page_stands b at p = room_at b at p && same_page (take 256 (drop at b)) p

-- a page stands at its storage address in the buffer of its kind; a comment stores nothing, and stands
abbrev pub body_stands : Held → Kind → Body → List ℕ → Bool
body_stands h k (Page at) p = page_stands (buffer_of k h) at p
body_stands h k Note p = true

-- 95 or 96
abbrev pub told_by : Bool → Result Stand Answer
told_by b = cond b (Ok Stands) (Ok Differs)

-- what rows 4 to 11 make of the arrival, and then the comparison
unfoldable pub after_rows : Held → List ℕ → Screening → Result Stand Answer
after_rows h p (Err x) = Err x
after_rows h p (Ok g) = told_by (body_stands h g.head.kind g.body p)

-- row 1 without the maps, row 2, and rows 4 to 11 as a fresh transfer meets them; no transfer is handed in, so that row 3 refuses nothing
unfoldable pub stand_of : Settings → Held → List ℕ → Result Stand Answer
stand_of s h a =
    cond (not (right_lengths (length a) (lengths_of h) 16384 1024)) (Err BadBuffers)
    (cond (not (good_settings s (length h.flash))) (Err BadSettings)
    (after_rows h (payload_of a) (screen_of s (lengths_of h) Idle a)))

-- the same, where what the settings and the lengths say is handed in
unfoldable pub known_stand : Known → Held → List ℕ → Result Stand Answer
known_stand k h a =
    cond (not k.right) (Err BadBuffers)
    (cond (not k.good) (Err BadSettings)
    (after_rows h (payload_of a) (screen_at k.rooms (lengths_of h) Idle a)))
