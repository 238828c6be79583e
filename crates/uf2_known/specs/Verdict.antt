-- What an arrival comes to, where what the settings and the lengths say of it is handed in. Assumes nothing.
use Rattle.std.specs.Prelude.{ℕ, Bool, not, cond, List, length, Result, Ok, Err}
use Rattle.uf2_block.specs.Block.{field_at}
use Rattle.partitions.specs.Settings.{good_settings}
use Rattle.partitions.specs.declared.Settings.{Settings}
use Rattle.uf2_checks.specs.Screen.{rooms_of, screen_at}
use Rattle.uf2_checks.specs.declared.Lengths.{Lengths}
use Rattle.uf2_checks.specs.declared.PlacedBlock.{PlacedBlock}
use Rattle.transfer.specs.declared.Answer.{Answer}
use Rattle.transfer.specs.Transfer.{number_of, good_state, with_deed}
use Rattle.transfer.specs.declared.Accepted.{Accepted}
use Rattle.transfer.specs.declared.Answer.TheVariants.{BadBuffers, BadSettings, BadState}
use Rattle.arrival.specs.Arrive.{World, Decision, stays, accepts, lengths_of, right_lengths, stands_at, deed_of, after_screening}
use Rattle.uf2_known.specs.declared.Acceptance.{Acceptance}
use Rattle.uf2_known.specs.declared.Known.{Known}

-- what an arrival comes to, before anything is written
abbrev pub decision : Result Acceptance Answer → Decision
decision (Err x) = stays x
decision (Ok k) = accepts k.placed k.deed k.accepted

-- the number of its answer
abbrev pub decision_number : Decision → ℕ
decision_number (stays x) = number_of x
decision_number (accepts p d t) = number_of t.answer

-- a block is accepted that would do y to the transfer if it were stored; `kept`: what it would store stands in the flash
abbrev pub accepted_as : Bool → PlacedBlock → Accepted → Decision
accepted_as kept p y = accepts p (deed_of kept p) (with_deed (deed_of kept p) y)

-- what they say: row 1's word for buffers of lengths n, a seen map of m bytes and a sector map of k, row 2's word, and what row 8 asks of the settings
abbrev pub known_of : Settings → Lengths → ℕ → ℕ → List ℕ → Known
known_of s n m k a =
    record {
      right = right_lengths (length a) n m k;
      good = good_settings s n.flash;
      rooms = rooms_of s n.flash (field_at a 28);
    }

-- every row
unfoldable pub known_decision : Known → World → List ℕ → Decision
known_decision k w a =
    cond (not k.right) (stays BadBuffers)
    (cond (not k.good) (stays BadSettings)
    (cond (not (good_state w.transfer)) (stays BadState)
    (after_screening w.transfer w.seen (stands_at w.held.flash k.rooms.flash a) (screen_at k.rooms (lengths_of w.held) w.transfer a))))
