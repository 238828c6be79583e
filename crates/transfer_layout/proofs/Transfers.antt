-- A transfer that is written: its 14 bytes, and that it is read back from them. Assumes nothing.
use Prim.Native.Nat.{ℕ, ◌+◌, ◌<◌, ◌≤◌, ◌^◌}
use mathlib.Core.Path.{◌≡◌, refl, sym, ◌∙◌}
use mathlib.Core.Bool.{false}
use mathlib.Core.List.{List, [], ◌∷◌, ◌++◌}
use native.Mathlib.Omega.{arith}
use lib.Dec.{ltb}
use lib.ListN.{length, set}
use borrow.Author.Tests.{eq-eqb}
use Rattle.laws.specs.Bytes.{low_first}
use Rattle.laws.specs.Over.{over}
use Rattle.laws.proofs.OverLaws.{set_over, over_whole}
use Rattle.uf2_block.specs.Block.{field_at}
use Rattle.transfer.specs.declared.Kind.{Kind}
use Rattle.transfer.specs.declared.Kind.TheVariants.{Flash, MainRam, XipRam}
use Rattle.transfer.specs.declared.Head.{Head}
use Rattle.transfer.specs.declared.State.{State}
use Rattle.transfer.specs.declared.State.TheVariants.{Idle, Running, Done}
use Rattle.uf2_block.specs.Write.{le32, put_at}
use Rattle.transfer.specs.Transfer.{kind_number, head_with}
use Rattle.transfer_layout.specs.Transfers.{kind_from, state_of, state_from, transfer_bytes, head_bytes, state_bytes, with_transfer}
use Rattle.uf2_block.proofs.WriteLaws.{set_next, put_after, field_le32}

-- ---- the bytes

pub transfer_bytes_put : (b : List ℕ) (tag f n c k : ℕ) → length b ≡ 14 → set (put_at (put_at (put_at (set b 0 tag) 1 f) 5 n) 9 c) 13 k ≡ transfer_bytes tag f n c k
unfolding low_first transfer_bytes
transfer_bytes_put b tag f n c k e =
    let s : List ℕ = tag ∷ [] in
    let t : List ℕ = tag ∷ le32 f in
    let u : List ℕ = tag ∷ (le32 f ++ le32 n) in
    let v : List ℕ = tag ∷ (le32 f ++ (le32 n ++ le32 c)) in
    let one : set b 0 tag ≡ over b 0 s = set_over b 0 tag (omega arith) in
    let two : put_at (over b 0 s) 1 f ≡ over b 0 t = put_after b s 1 f refl (omega arith) in
    let three : put_at (over b 0 t) 5 n ≡ over b 0 u = put_after b t 5 n refl (omega arith) in
    let four : put_at (over b 0 u) 9 c ≡ over b 0 v = put_after b u 9 c refl (omega arith) in
    rw (one, two, three, four) (set_next b 0 v 13 k refl (omega arith) ∙ over_whole b (v ++ (k ∷ [])) (sym e))

-- ---- read back

-- the fields are below 2 ^ 32
abbrev pub Small : State → Type 0
Small Idle = Unit
Small (Running r) = (r.head.family < 2 ^ 32) × (r.head.total < 2 ^ 32) × (r.count < 2 ^ 32)
Small (Done g) = (g.family < 2 ^ 32) × (g.total < 2 ^ 32)

back : (tag f n c k : ℕ) → f < 2 ^ 32 → n < 2 ^ 32 → c < 2 ^ 32 → state_from (transfer_bytes tag f n c k) ≡ state_of tag k (head_with (kind_from k) f n) c
unfolding state_from transfer_bytes low_first
back tag f n c k hf hn hc =
    let b : List ℕ = tag ∷ (le32 f ++ (le32 n ++ (le32 c ++ (k ∷ [])))) in
    let one : field_at b 1 ≡ f = field_le32 (tag ∷ []) f (le32 n ++ (le32 c ++ (k ∷ []))) hf in
    let two : field_at b 5 ≡ n = field_le32 (tag ∷ le32 f) n (le32 c ++ (k ∷ [])) hn in
    let three : field_at b 9 ≡ c = field_le32 (tag ∷ (le32 f ++ le32 n)) c (k ∷ []) hc in
    cc

-- a kind's number is at most 2, and read as the kind
kind_low : (k : Kind) → ltb 2 (kind_number k) ≡ false
kind_low Flash = refl
kind_low MainRam = refl
kind_low XipRam = refl

kind_back : (k : Kind) → kind_from (kind_number k) ≡ k
unfolding kind_from
kind_back Flash = refl
kind_back MainRam = refl
kind_back XipRam = refl

-- a head, with the tag of a transfer that is not Idle
head_back : (tag : ℕ) (g : Head) (c : ℕ) → g.family < 2 ^ 32 → g.total < 2 ^ 32 → c < 2 ^ 32 → state_from (head_bytes tag g c) ≡ state_of tag 0 g c
unfolding state_of
head_back tag g c hf hn hc =
    back tag g.family g.total c (kind_number g.kind) hf hn hc ∙ rw (kind_back g.kind, kind_low g.kind) refl

-- the transfer that is read from the bytes written for a transfer is that transfer
pub round_trip : (t : State) → Small t → state_from (state_bytes t) ≡ t
unfolding state_of
round_trip Idle h = back 0 0 0 0 0 (omega arith) (omega arith) (omega arith)
round_trip (Running r) h = head_back 1 r.head r.count h.0 h.1 h.2
round_trip (Done g) h = head_back 2 g g.total h.0 h.1 h.1

pub written_back : (b : List ℕ) (t : State) → length b ≡ 14 → Small t → state_from (with_transfer b t) ≡ t
unfolding with_transfer
written_back b t e h = rw (eq-eqb (length b) 14 e) (round_trip t h)
