-- The claims of specs/Cut.antt hold. Assumes nothing.
use Prim.Native.Nat.{ℕ, ◌+◌, ◌-◌, ◌/◌, ◌≤◌, ◌<◌}
use mathlib.Core.Path.{◌≡◌, refl, sym, ap, subst, ◌∙◌}
use mathlib.Core.Bool.{Bool, true, false, ◌&&◌}
use mathlib.Core.List.{List}
use native.Mathlib.Omega.{arith}
use lib.Dec.{eqb, ltb, leb}
use lib.ListN.{length, get_or}
use lib.Seq.{ext_get_or}
use borrow.Author.Tests.{leb-true, ltb-true, lt-ltb}
use Rattle.laws.specs.Sets.{Set, any}
use Rattle.laws.proofs.Tests.{split, clash, is_false, and_left, and_right, both}
use Rattle.laws.proofs.Laws.{any_found, any_hit, size_full}
use Rattle.memory.specs.Bitmap.{map_of}
use Rattle.memory.specs.Flash.{payload_of, spans}
use Rattle.partitions.specs.declared.Settings.{Settings}
use Rattle.transfer.specs.Transfer.{same_kind}
use Rattle.transfer.specs.declared.Kind.{Kind}
use Rattle.transfer.specs.declared.Kind.TheVariants.{Flash, MainRam, XipRam}
use Rattle.uf2_checks.specs.declared.Lengths.{Lengths}
use Rattle.arrival.specs.Arrive.{Held, World, buffer_of, lengths_of}
use Rattle.arrival.specs.Lists.{receive_all}
use Rattle.arrival.specs.File.{origin_of}
use Rattle.arrival.specs.Windows.{window_start}
use Rattle.arrival.proofs.Heads.{kind_same}
use Rattle.demand.specs.Demand.{File, address_of, ValidFile, Sent, is_data, seen_of, how_many, storage_of, holds, held_by, lies_in, touched_by, changed_by, Plain, Ends, ListEnds}
use Rattle.demand.proofs.Demand.{list_ends}
use Rattle.demand.proofs.Starts.{origin_there, valid_there, sent_there, plain_there}
use Rattle.demand.specs.Cut.{all_of, Cut, CutThenWhole, Standing, StandingIsReceived}

under : (x y z : Bool) → (y ≡ false → z ≡ false) → x && y ≡ false → x && z ≡ false
under true y z f h = f h
under false y z f h = refl

-- as many as all below n
as_all : (n : ℕ) (S R P : Set) → ((k : ℕ) → k < n → S k ≡ true) → any n (λ k. S k && P k) ≡ false → any n (λ k. R k && P k) ≡ false
as_all n S R P all h =
    is_false (any n (λ k. R k && P k))
    (λ t.
    let f = any_found (λ k. R k && P k) n t in
    clash (any n (λ k. S k && P k)) (any_hit (λ k. S k && P k) n f.0 f.1 (both (all f.0 f.1) (and_right (R f.0) (P f.0) f.2))) h)

module _ (s : Settings) (v w : World) (F : File) (C : Cut s F v w) where
  abbrev o : ℕ
  o = origin_of s w F.kind F.family

  same : origin_of s v F.kind F.family ≡ o
  same = origin_there s v w C.lengths (C.back ∙ sym C.before) F.kind F.family

  -- the words of demand 3 by the origin alone
  abbrev store_at : ℕ → ℕ → ℕ
  store_at x k = x + (address_of F k - window_start F.kind)

  abbrev held_at : ℕ → Set → Kind → ℕ → Bool
  held_at x S u j = same_kind u F.kind && any F.total (λ k. S k && (is_data F k && spans (store_at x k) j))

  abbrev touched_at : ℕ → Set → Set
  touched_at x S q = same_kind Flash F.kind && any F.total (λ k. S k && (is_data F k && eqb q (store_at x k / 4096)))

  touched_same : (S : Set) → touched_by s v F S ≡ touched_by s w F S
  touched_same S = ap (λ (x : ℕ). touched_at x S) same

  held_same : (S : Set) (u : Kind) (j : ℕ) → held_by s v F S u j ≡ held_by s w F S u j
  held_same S u j = ap (λ (x : ℕ). held_at x S u j) same

  changed_same : (S : Set) (u : Kind) (j : ℕ) → changed_by s v F S u j ≡ changed_by s w F S u j
  changed_same S Flash j = ap (λ (R : Set). R (j / 4096)) (touched_same S)
  changed_same S MainRam j = held_same S MainRam j
  changed_same S XipRam j = held_same S XipRam j

  store_same : (k : ℕ) → storage_of s v F k ≡ storage_of s w F k
  store_same k = ap (λ (x : ℕ). store_at x k) same

  module _ (S : Set) (a b : World) (p : Ends s v F S a) (q : Ends s w F S b) (all : (k : ℕ) → k < F.total → S k ≡ true) (whole : how_many F S ≡ F.total) (some : 1 ≤ F.total) where
    -- a byte of a seen payload
    held-byte : (u : Kind) (j : ℕ) → held_by s w F S u j ≡ true → get_or (buffer_of u a.held) j 0 ≡ get_or (buffer_of u b.held) j 0
    held-byte u j h =
        let e : u ≡ F.kind = kind_same u F.kind (and_left (same_kind u F.kind) (any F.total (λ k. S k && holds s w F k j)) h) in
        let f = any_found (λ k. S k && holds s w F k j) F.total (and_right (same_kind u F.kind) (any F.total (λ k. S k && holds s w F k j)) h) in
        let k = f.0 in
        let g = and_right (S k) (holds s w F k j) f.2 in
        let d : is_data F k ≡ true = and_left (is_data F k) (spans (storage_of s w F k) j) g in
        let r : spans (storage_of s w F k) j ≡ true = and_right (is_data F k) (spans (storage_of s w F k) j) g in
        let x : storage_of s w F k ≤ j = leb-true (storage_of s w F k) j (and_left (leb (storage_of s w F k) j) (ltb j (storage_of s w F k + 256)) r) in
        let y : j < storage_of s w F k + 256 = ltb-true j (storage_of s w F k + 256) (and_right (leb (storage_of s w F k) j) (ltb j (storage_of s w F k + 256)) r) in
        let i = j - storage_of s w F k in
        let z : storage_of s w F k + i ≡ j = omega arith in
        let here = p.contents.payloads k f.1 (all k f.1) d i (omega arith) in
        let there = q.contents.payloads k f.1 (all k f.1) d i (omega arith) in
        let here2 : get_or (buffer_of F.kind a.held) (storage_of s w F k + i) 0 ≡ get_or (payload_of (F.block k)) i 0 = subst (λ (n : ℕ). get_or (buffer_of F.kind a.held) (n + i) 0 ≡ get_or (payload_of (F.block k)) i 0) (store_same k) here in
        ap (λ (t : Kind). get_or (buffer_of t a.held) j 0) e
        ∙ ap (λ (n : ℕ). get_or (buffer_of F.kind a.held) n 0) (sym z)
        ∙ here2
        ∙ sym there
        ∙ ap (λ (n : ℕ). get_or (buffer_of F.kind b.held) n 0) z
        ∙ ap (λ (t : Kind). get_or (buffer_of t b.held) j 0) (sym e)

    -- a byte that the file does not change
    other_byte : (u : Kind) (j : ℕ) → changed_by s w F S u j ≡ false → get_or (buffer_of u a.held) j 0 ≡ get_or (buffer_of u b.held) j 0
    other_byte u j h = p.contents.others u j (changed_same S u j ∙ h) ∙ C.others u j (full u h) ∙ sym (q.contents.others u j h)
      where
        held : (u : Kind) → held_by s w F S u j ≡ false → held_by s w F (all_of F) u j ≡ false
        held u h =
            under (same_kind u F.kind) (any F.total (λ k. S k && holds s w F k j)) (any F.total (λ k. all_of F k && holds s w F k j))
            (as_all F.total S (all_of F) (λ k. holds s w F k j) all) h

        full : (u : Kind) → changed_by s w F S u j ≡ false → changed_by s w F (all_of F) u j ≡ false
        full Flash h =
            under (same_kind Flash F.kind) (any F.total (λ k. S k && lies_in s w F k (j / 4096))) (any F.total (λ k. all_of F k && lies_in s w F k (j / 4096)))
            (as_all F.total S (all_of F) (λ k. lies_in s w F k (j / 4096)) all) h
        full MainRam h = held MainRam h
        full XipRam h = held XipRam h

    flash-byte : (j : ℕ) → j < length w.held.flash → get_or a.held.flash j 0 ≡ get_or b.held.flash j 0
    flash-byte j l =
        split (touched_by s w F S (j / 4096))
        (λ t. split (held_by s w F S Flash j)
        (λ h. held-byte Flash j h)
        (λ n. p.contents.erased j (subst (λ (k : ℕ). j < k) (sym (ap (λ (m : Lengths). m.flash) C.lengths.buffers)) l) (ap (λ (R : Set). R (j / 4096)) (touched_same S) ∙ t) (held_same S Flash j ∙ n) ∙ sym (q.contents.erased j l t n)))
        (λ t. other_byte Flash j t)

    ram-byte : (u : Kind) (j : ℕ) → changed_by s w F S u j ≡ held_by s w F S u j → get_or (buffer_of u a.held) j 0 ≡ get_or (buffer_of u b.held) j 0
    ram-byte u j e = split (held_by s w F S u j) (λ h. held-byte u j h) (λ n. other_byte u j (e ∙ n))

    lengths-same : lengths_of a.held ≡ lengths_of b.held
    lengths-same = p.contents.lengths ∙ C.lengths.buffers ∙ sym q.contents.lengths

    flash_same : a.held.flash ≡ b.held.flash
    flash_same =
        let n = ap (λ (m : Lengths). m.flash) lengths-same in
        let m = ap (λ (m : Lengths). m.flash) q.contents.lengths in
        ext_get_or 0 a.held.flash b.held.flash n (λ j l. flash-byte j (omega arith))

    main-same : a.held.main ≡ b.held.main
    main-same = ext_get_or 0 a.held.main b.held.main (ap (λ (m : Lengths). m.main) lengths-same) (λ j l. ram-byte MainRam j refl)

    xip-same : a.held.xip ≡ b.held.xip
    xip-same = ext_get_or 0 a.held.xip b.held.xip (ap (λ (m : Lengths). m.xip) lengths-same) (λ j l. ram-byte XipRam j refl)

    sectors-same : a.held.sectors ≡ b.held.sectors
    sectors-same = p.sector_map (omega arith) ∙ ap (map_of 1024) (touched_same S) ∙ sym (q.sector_map (omega arith))

    held_is : a.held ≡ b.held
    held_is = λ i. record { flash = flash_same i; sectors = sectors-same i; main = main-same i; xip = xip-same i }

    transfer-is : a.transfer ≡ b.transfer
    transfer-is = p.counts.whole whole ∙ sym (q.counts.whole whole)

    seen-is : a.seen ≡ b.seen
    seen-is = p.counts.seen_map (omega arith) ∙ sym (q.counts.seen_map (omega arith))

    world_is : a ≡ b
    world_is = λ i. record { transfer = transfer-is i; seen = seen-is i; held = held_is i }

pub cut_then_whole : CutThenWhole
unfolding CutThenWhole ListEnds
cut_then_whole s v w F C ok plain l sent e =
    let idle = C.back ∙ sym C.before in
    world_is s v w F C (seen_of F l) (receive_all s v l) (receive_all s w l)
    (list_ends s v F C.back (valid_there s v w C.lengths idle F ok) l (sent_there s v w C.lengths idle F sent) (plain_there s v w C.lengths idle F plain))
    (list_ends s w F C.before ok l sent plain)
    (λ k h. size_full F.total (seen_of F l) k (omega arith) h) e ok.some

-- ---- what stands already

module _ (s : Settings) (w : World) (F : File) (S : Set) (b : World) (q : Ends s w F S b) (Z : Standing s w F S) where
  stands_held : (u : Kind) (j : ℕ) → held_by s w F S u j ≡ true → get_or (buffer_of u b.held) j 0 ≡ get_or (buffer_of u w.held) j 0
  stands_held u j h =
      let e : u ≡ F.kind = kind_same u F.kind (and_left (same_kind u F.kind) (any F.total (λ k. S k && holds s w F k j)) h) in
      let f = any_found (λ k. S k && holds s w F k j) F.total (and_right (same_kind u F.kind) (any F.total (λ k. S k && holds s w F k j)) h) in
      let k = f.0 in
      let m : S k ≡ true = and_left (S k) (holds s w F k j) f.2 in
      let g = and_right (S k) (holds s w F k j) f.2 in
      let d : is_data F k ≡ true = and_left (is_data F k) (spans (storage_of s w F k) j) g in
      let r : spans (storage_of s w F k) j ≡ true = and_right (is_data F k) (spans (storage_of s w F k) j) g in
      let x : storage_of s w F k ≤ j = leb-true (storage_of s w F k) j (and_left (leb (storage_of s w F k) j) (ltb j (storage_of s w F k + 256)) r) in
      let y : j < storage_of s w F k + 256 = ltb-true j (storage_of s w F k + 256) (and_right (leb (storage_of s w F k) j) (ltb j (storage_of s w F k + 256)) r) in
      let i = j - storage_of s w F k in
      let z : storage_of s w F k + i ≡ j = omega arith in
      ap (λ (t : Kind). get_or (buffer_of t b.held) j 0) e
      ∙ ap (λ (n : ℕ). get_or (buffer_of F.kind b.held) n 0) (sym z)
      ∙ q.contents.payloads k f.1 m d i (omega arith)
      ∙ sym (Z.pages k f.1 m d i (omega arith))
      ∙ ap (λ (n : ℕ). get_or (buffer_of F.kind w.held) n 0) z
      ∙ ap (λ (t : Kind). get_or (buffer_of t w.held) j 0) (sym e)

  stands_byte : (u : Kind) (j : ℕ) → j < length (buffer_of u w.held) → get_or (buffer_of u b.held) j 0 ≡ get_or (buffer_of u w.held) j 0
  stands_byte Flash j l =
      split (touched_by s w F S (j / 4096))
      (λ t. split (held_by s w F S Flash j)
      (λ h. stands_held Flash j h)
      (λ n. q.contents.erased j l t n ∙ sym (Z.rest j l t n)))
      (λ t. q.contents.others Flash j t)
  stands_byte MainRam j l = split (held_by s w F S MainRam j) (λ h. stands_held MainRam j h) (λ n. q.contents.others MainRam j n)
  stands_byte XipRam j l = split (held_by s w F S XipRam j) (λ h. stands_held XipRam j h) (λ n. q.contents.others XipRam j n)

  length_same : (u : Kind) → length (buffer_of u b.held) ≡ length (buffer_of u w.held)
  length_same Flash = ap (λ (m : Lengths). m.flash) q.contents.lengths
  length_same MainRam = ap (λ (m : Lengths). m.main) q.contents.lengths
  length_same XipRam = ap (λ (m : Lengths). m.xip) q.contents.lengths

  stands_same : (u : Kind) → buffer_of u b.held ≡ buffer_of u w.held
  stands_same u =
      let n = length_same u in
      ext_get_or 0 (buffer_of u b.held) (buffer_of u w.held) n (λ j l. stands_byte u j (subst (λ (k : ℕ). j < k) n l))

pub standing_is_received : StandingIsReceived
unfolding StandingIsReceived ListEnds
standing_is_received s w F idle ok plain l sent z u =
    stands_same s w F (seen_of F l) (receive_all s w l) (list_ends s w F idle ok l sent plain) z u
