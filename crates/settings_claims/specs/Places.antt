-- A table of places (01, "Settings and the place of a family"; 001, 004): which entry a family gets, in a flash of 65,536 bytes. Entry k has the sectors 2 k
-- and 2 k + 1, so that its place is 8,192 bytes from 8,192 x k on. Computed in proofs/Places.antt. Assumes nothing.
use Rattle.std.specs.Prelude.{ℕ, suc, ◌-◌, ◌*◌, ◌≡◌, Bool, true, false, List, [], ◌∷◌, ◌++◌, map, length, replicate, Ok, Err}
use Rattle.partitions.specs.declared.Settings.{Settings}
use Rattle.partitions.specs.declared.Entry.{Entry}
use Rattle.partitions.specs.declared.Arch.{Arch}
use Rattle.partitions.specs.declared.Arch.TheVariants.{Arm, RiscV}
use Rattle.partitions.specs.declared.Link.{Link}
use Rattle.partitions.specs.declared.Link.TheVariants.{Unlinked, OwnedBy, BOf}
use Rattle.partitions.specs.Settings.{blank_entry}
use Rattle.placement.specs.declared.PlaceError.TheVariants.{BadSettings, NoPlace}
use Rattle.placement.specs.Place.{ask_of, PlaceAnswer, place_from}

-- entry k: link; accepts data, arm-s, riscv, arm-ns; user families and how many are used; not bootable for Arm, for RISC-V
abbrev pub entry_as : Link → Bool → Bool → Bool → Bool → List ℕ → ℕ → Bool → Bool → ℕ → Entry
entry_as l d a r n us c x y k =
    record {
      first = 2 * k;
      sectors = 2;
      users = us;
      «data» = d;
      arm_s = a;
      riscv = r;
      arm_ns = n;
      user_count = c;
      not_bootable_arm = x;
      not_bootable_riscv = y;
      link = l;
      no_restart = false;
    }

abbrev pub no_users : List ℕ
no_users = replicate 4 0

-- accepts nothing; arm-s and riscv, with the two marks; one user family, 0x11
abbrev pub mute : ℕ → Entry
mute k = entry_as Unlinked false false false false no_users 0 false false k

abbrev pub images : Link → Bool → Bool → ℕ → Entry
images l x y k = entry_as l false true true false no_users 0 x y k

abbrev pub user : Link → ℕ → Entry
user l k = entry_as l false false false false (0x11 ∷ 0 ∷ 0 ∷ 0 ∷ []) 1 false false k

-- four slots, of which so many are used
abbrev pub four : ℕ → ℕ → Entry
four c k = entry_as Unlinked false false false false (0x11 ∷ 0x22 ∷ 0x33 ∷ 0x44 ∷ []) c false false k

-- the entries by their place in the table
unfoldable pub numbered : ℕ → List (ℕ → Entry) → List Entry
numbered k [] = []
numbered k (e ∷ l) = e k ∷ numbered (suc k) l

-- Arm, RISC-V, current, auto switch, absolute, and the table
abbrev pub board : Bool → Bool → Arch → Bool → Bool → List (ℕ → Entry) → Settings
board a r c x y l =
    record {
      arm = a;
      riscv = r;
      current = c;
      auto_switch = x;
      absolute = y;
      count = length l;
      table = numbered 0 l ++ replicate (16 - length l) blank_entry;
    }

-- a family, and what is answered to it
pub record Case : Type 0 where
  pub settings : Settings
  pub family : ℕ
  pub expected : PlaceAnswer

-- the families of some settings in turn
unfoldable pub asked : Settings → List ℕ → List PlaceAnswer → List Case
asked s [] l = []
asked s (f ∷ fs) [] = []
asked s (f ∷ fs) (x ∷ l) = record { settings = s; family = f; expected = x } ∷ asked s fs l

abbrev pub rp2040 : ℕ
rp2040 = 0xe48bff56

abbrev pub absolute : ℕ
absolute = 0xe48bff57

abbrev pub data' : ℕ
data' = 0xe48bff58

abbrev pub arm_s : ℕ
arm_s = 0xe48bff59

abbrev pub riscv : ℕ
riscv = 0xe48bff5a

abbrev pub arm_ns : ℕ
arm_ns = 0xe48bff5b

-- entry k's place, and the whole flash
abbrev pub place : ℕ → PlaceAnswer
place k = Ok (place_from (8192 * k) 8192)

abbrev pub whole : PlaceAnswer
whole = Ok (place_from 0 65536)

-- two entries that accept arm-s and riscv: the first is shut for both architectures, the second for none
abbrev pub shut_then_open : List (ℕ → Entry)
shut_then_open = images Unlinked true true ∷ images Unlinked false false ∷ []

unfoldable pub cases : List Case
cases =
    -- no table: "data, arm-s (Arm enabled) and riscv (RISC-V enabled) get the whole flash. Others no place."
    asked (board true false Arm false true []) (rp2040 ∷ absolute ∷ data' ∷ arm_s ∷ riscv ∷ arm_ns ∷ 0x11 ∷ [])
    ((Err NoPlace) ∷ whole ∷ whole ∷ whole ∷ (Err NoPlace) ∷ (Err NoPlace) ∷ (Err NoPlace) ∷ [])
    ++ asked (board false true RiscV false false []) (rp2040 ∷ absolute ∷ data' ∷ arm_s ∷ riscv ∷ arm_ns ∷ 0x11 ∷ [])
    ((Err NoPlace) ∷ (Err NoPlace) ∷ whole ∷ (Err NoPlace) ∷ whole ∷ (Err NoPlace) ∷ (Err NoPlace) ∷ [])
    -- "the current architecture isn't enabled", of both
    ++ asked (board false true Arm false true []) (data' ∷ []) ((Err BadSettings) ∷ [])
    ++ asked (board true false RiscV false true []) (data' ∷ []) ((Err BadSettings) ∷ [])
    -- each accepts-flag alone, and each slot; with a table absolute has the whole flash and rp2040 none
    ++ asked
    (board true true Arm true true
    (entry_as Unlinked true false false false no_users 0 false false ∷ entry_as Unlinked false true false false no_users 0 false false
    ∷ entry_as Unlinked false false true false no_users 0 false false ∷ entry_as Unlinked false false false true no_users 0 false false ∷ four 4 ∷ []))
    (data' ∷ arm_s ∷ riscv ∷ arm_ns ∷ 0x11 ∷ 0x22 ∷ 0x33 ∷ 0x44 ∷ 0x55 ∷ 0 ∷ absolute ∷ rp2040 ∷ [])
    (place 0 ∷ place 1 ∷ place 2 ∷ place 3 ∷ place 4 ∷ place 4 ∷ place 4 ∷ place 4 ∷ (Err NoPlace) ∷ (Err NoPlace) ∷ whole ∷ (Err NoPlace) ∷ [])
    -- a slot that is not used
    ++ asked (board true true Arm true false (four 3 ∷ [])) (0x33 ∷ 0x44 ∷ absolute ∷ []) (place 0 ∷ (Err NoPlace) ∷ (Err NoPlace) ∷ [])
    -- "B of" is never chosen; an owned entry is, by pass 4, where no unowned one accepts
    ++ asked (board true true Arm true true (mute ∷ user (BOf 0) ∷ [])) (0x11 ∷ []) ((Err NoPlace) ∷ [])
    ++ asked (board true true Arm true true (mute ∷ user (OwnedBy 0) ∷ [])) (0x11 ∷ []) (place 1 ∷ [])
    ++ asked (board true true Arm true true (mute ∷ user (BOf 0) ∷ user (OwnedBy 0) ∷ user Unlinked ∷ [])) (0x11 ∷ []) (place 3 ∷ [])
    -- pass 1: the current architecture's image; the other's, without auto switch, goes to the first
    ++ asked (board true true Arm false true shut_then_open) (arm_s ∷ riscv ∷ []) (place 1 ∷ place 0 ∷ [])
    ++ asked (board true true RiscV false true shut_then_open) (arm_s ∷ riscv ∷ []) (place 0 ∷ place 1 ∷ [])
    -- pass 2: auto switch on, and the other architecture enabled or not
    ++ asked (board true true Arm true true shut_then_open) (arm_s ∷ riscv ∷ []) (place 1 ∷ place 1 ∷ [])
    ++ asked (board true true RiscV true true shut_then_open) (arm_s ∷ riscv ∷ []) (place 1 ∷ place 1 ∷ [])
    ++ asked (board true false Arm true true shut_then_open) (arm_s ∷ riscv ∷ []) (place 1 ∷ place 0 ∷ [])
    ++ asked (board false true RiscV true true shut_then_open) (arm_s ∷ riscv ∷ []) (place 0 ∷ place 1 ∷ [])
    -- "not marked for it": each mark is of one architecture
    ++ asked (board true true Arm true true (images Unlinked true false ∷ images Unlinked false true ∷ [])) (arm_s ∷ riscv ∷ []) (place 1 ∷ place 0 ∷ [])
    -- an owned entry is none for passes 1 to 3
    ++ asked (board true true Arm true true (mute ∷ images (OwnedBy 0) false false ∷ images Unlinked true true ∷ [])) (arm_s ∷ riscv ∷ []) (place 2 ∷ place 2 ∷ [])

-- every family gets what is expected
unfoldable pub PlacesHold : Type 0
PlacesHold = map (λ (c : Case). ask_of c.settings 65536 c.family) cases ≡ map (λ (c : Case). c.expected) cases
