-- What is claimed of comments (02, L3: "Files with source embedded never finish."), whatever the settings, the transfer, the buffers and the
-- arrivals. Proved in proofs/Comments.antt. Assumes nothing.
use Rattle.std.specs.Prelude.{ℕ, ◌+◌, ◌≤◌, ◌<◌, ◌≡◌, ◌⊎◌, ◌≢◌, Bool, true, false, cond, ◌||◌, List, [], ◌∷◌, ltb, set}
use Rattle.memory.specs.Bitmap.{with_mark}
use Rattle.uf2_block.specs.Block.{field_at, has_flag}
use Rattle.partitions.specs.declared.Settings.{Settings}
use Rattle.transfer.specs.Transfer.{number_of, count_of}
use Rattle.transfer.specs.declared.Kind.{Kind}
use Rattle.transfer.specs.declared.Deed.{Deed}
use Rattle.transfer.specs.declared.Deed.TheVariants.{Stores, Notes, Keeps}
use Rattle.transfer.specs.declared.State.TheVariants.{Running, Done}
use Rattle.transfer.specs.declared.Accepted.{Accepted}
use Rattle.uf2_checks.specs.declared.PlacedBlock.{PlacedBlock}
use Rattle.arrival.specs.Arrive.{World, Outcome, buffer_of, accepts, decided, cleared_if, wiped_if, receive_of}
use Rattle.arrival.specs.Lists.{receive_all}
use Rattle.arrival.specs.Windows.{head_of}
use Rattle.arrival_claims.specs.Tally.{clears}

-- ---- of a decision

abbrev pub is_noted : Deed → Bool
is_noted Stores = false
is_noted Notes = true
is_noted Keeps = false

-- an accepted block is noted exactly if its flag 0x1 is set
unfoldable pub CommentsNote : Type 0
CommentsNote =
    (s : Settings) (w : World) (a : List ℕ) (p : PlacedBlock) (d : Deed) (t : Accepted) → decided s w a ≡ accepts p d t
    → is_noted d ≡ has_flag a 0x1

-- what stores nothing "sets no flash byte or sector mark", and the maps are cleared first "as 01 says"; what is kept, too (02, L9: "store nothing")
unfoldable pub NothingStored : Type 0
NothingStored =
    (s : Settings) (w : World) (a : List ℕ) (p : PlacedBlock) (d : Deed) (t : Accepted) → decided s w a ≡ accepts p d t → d ≢ Stores
    → (receive_of s w a).world.held ≡ wiped_if t.clears w.held

-- ---- of what arrives and what is left

-- "It clears both maps as 01 says, marks its number, raises the count and sets no flash byte or sector mark: new answer 16 Noted, or 15 if last.",
-- with n for 16, since L9 has the same for 17
pub record Unstored (n : ℕ) (w : World) (a : List ℕ) (o : Outcome) : Type 0 where
  pub buffers : (k : Kind) → buffer_of k o.world.held ≡ buffer_of k w.held
  pub sectors : o.world.held.sectors ≡ cleared_if (clears w.transfer (head_of w a)) w.held.sectors
  pub seen : o.world.seen ≡ with_mark (cleared_if (clears w.transfer (head_of w a)) w.seen) (field_at a 20)
  -- from 0 where the maps are cleared
  pub count : count_of o.world.transfer ≡ cond (clears w.transfer (head_of w a)) 1 (count_of w.transfer + 1)
  -- of the block's family, total and kind; "at the total the transfer is Done"
  pub running : count_of o.world.transfer < field_at a 24
      → o.world.transfer ≡ Running (record { head = head_of w a; count = count_of o.world.transfer })
  pub done : field_at a 24 ≤ count_of o.world.transfer → o.world.transfer ≡ Done (head_of w a)
  pub answer : number_of o.answer ≡ cond (ltb (count_of o.world.transfer) (field_at a 24)) n 15

-- of a comment that is accepted; one that isn't changes nothing, as every arrival answered up to 13
unfoldable pub CommentsStoreNothing : Type 0
CommentsStoreNothing =
    (s : Settings) (w : World) (a : List ℕ) → has_flag a 0x1 ≡ true → 14 ≤ number_of (receive_of s w a).answer
    → Unstored 16 w a (receive_of s w a)

-- byte i of an arrival is one of its address, its payload size or its data
abbrev pub Unread : ℕ → Type 0
Unread i = ((12 ≤ i) × (i < 20)) ⊎ ((32 ≤ i) × (i < 508))

-- "and skips 9 and 11": with another byte there, a comment does the same
unfoldable pub CommentsUnread : Type 0
CommentsUnread =
    (s : Settings) (w : World) (a : List ℕ) (i x : ℕ) → has_flag a 0x1 ≡ true → Unread i
    → receive_of s w (set a i x) ≡ receive_of s w a

-- ---- of two arrivals

-- some arrival of the list discards a transfer
unfoldable pub any_discard : Settings → World → List (List ℕ) → Bool
any_discard s w [] = false
any_discard s w (a ∷ l) = (receive_of s w a).discarded || any_discard s (receive_of s w a).world l

-- "With the same number as a data block, the first to come stands": the block a is accepted, and after a list of any arrivals that do not
-- discard its transfer, a block b of that transfer with its number is refused, whichever of the two is a comment
unfoldable pub FirstStands : Type 0
FirstStands =
    (s : Settings) (w : World) (a b : List ℕ) (l : List (List ℕ)) → 14 ≤ number_of (receive_of s w a).answer
    → any_discard s (receive_of s w a).world l ≡ false → head_of (receive_all s w (a ∷ l)) b ≡ head_of w a → field_at b 20 ≡ field_at a 20
    → number_of (receive_of s (receive_all s w (a ∷ l)) b).answer ≤ 13
