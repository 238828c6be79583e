-- What a stored page leaves in the three buffers and the sector map. Assumes nothing.
use Prim.Native.Nat.{ℕ, ◌+◌, ◌-◌, ◌/◌, ◌%◌, ◌≤◌}
use mathlib.Core.Path.{◌≡◌, refl, sym, ap, ◌∙◌}
use mathlib.Core.Logic.{◌≢◌}
use mathlib.Core.Bool.{Bool, true, not, cond, ◌&&◌, ◌||◌, and-false, and-true}
use mathlib.Core.List.{List}
use native.Mathlib.Omega.{arith}
use lib.Dec.{eqb, ltb}
use lib.ListN.{length, get_or}
use borrow.Author.Tests.{eqb-true, lt-ltb}
use Rattle.laws.specs.Sets.{Set, add}
use Rattle.laws.proofs.Tests.{split}
use Rattle.memory.specs.Bitmap.{marked_in, with_mark, map_of}
use Rattle.memory.proofs.bitmap.Laws.{length_mark}
use Rattle.memory.proofs.bitmap.MapLaws.{marked_map, mark_map}
use Rattle.memory.specs.Flash.{spans}
use Rattle.memory.proofs.flash.Laws.{length_erase, get_d_erase, room_yes, length_store, get_d_store}
use Rattle.transfer.specs.Transfer.{same_kind}
use Rattle.transfer.specs.declared.Kind.{Kind}
use Rattle.transfer.specs.declared.Kind.TheVariants.{Flash, MainRam, XipRam}
use Rattle.uf2_checks.specs.declared.Lengths.{Lengths}
use Rattle.arrival.specs.Arrive.{Held, buffer_of, lengths_of, prepared_at, paged_at}

-- a page and its payload fit a buffer of n bytes of kind k, in flash at a multiple of 256
pub record Fits (k : Kind) (n : ℕ) (at : ℕ) (payload : List ℕ) : Type 0 where
  pub aligned : k ≡ Flash → at % 256 ≡ 0
  pub within : at + 256 ≤ n
  pub full : length payload ≡ 256

-- each byte after the sector was prepared
pub get_d_prepared : (q : ℕ) (x : Held) (j : ℕ)
    → get_or (prepared_at q x) j 0 ≡ cond (eqb (j / 4096) q && ltb q (length x.flash / 4096) && not (marked_in x.sectors q)) 255 (get_or x.flash j 0)
unfolding prepared_at
get_d_prepared q x j =
    split (marked_in x.sectors q)
    (λ y. rw (y, and-false (eqb (j / 4096) q && ltb q (length x.flash / 4096))))
    (λ z. rw (z, and-true (eqb (j / 4096) q && ltb q (length x.flash / 4096))) (get_d_erase x.flash q j))

pub length_prepared : (q : ℕ) (x : Held) → length (prepared_at q x) ≡ length x.flash
unfolding prepared_at
length_prepared q x = split (marked_in x.sectors q) (λ y. rw y) (λ z. rw z (length_erase x.flash q))

-- a page of another kind changes nothing of a buffer
pub paged_other : (u k : Kind) (at : ℕ) (payload : List ℕ) (x : Held) → u ≢ k → buffer_of u (paged_at k at payload x) ≡ buffer_of u x
unfolding paged_at
paged_other Flash Flash at payload x n = absurd (n refl)
paged_other MainRam Flash at payload x n = refl
paged_other XipRam Flash at payload x n = refl
paged_other Flash MainRam at payload x n = refl
paged_other MainRam MainRam at payload x n = absurd (n refl)
paged_other XipRam MainRam at payload x n = refl
paged_other Flash XipRam at payload x n = refl
paged_other MainRam XipRam at payload x n = refl
paged_other XipRam XipRam at payload x n = absurd (n refl)

-- and RAM marks no sector
pub sectors_ram : (k : Kind) (at : ℕ) (payload : List ℕ) (x : Held) → k ≢ Flash → (paged_at k at payload x).sectors ≡ x.sectors
unfolding paged_at
sectors_ram Flash at payload x n = absurd (n refl)
sectors_ram MainRam at payload x n = refl
sectors_ram XipRam at payload x n = refl

-- a page in RAM changes the 256 bytes alone
pub get_d_ram : (k : Kind) (at : ℕ) (payload : List ℕ) (x : Held) → k ≢ Flash → Fits k (length (buffer_of k x)) at payload → (j : ℕ)
    → get_or (buffer_of k (paged_at k at payload x)) j 0 ≡ cond (spans at j) (get_or payload (j - at) 0) (get_or (buffer_of k x) j 0)
unfolding paged_at
get_d_ram Flash at payload x n ok j = absurd (n refl)
get_d_ram MainRam at payload x n ok j = get_d_store x.main at payload j ∙ rw (room_yes x.main at payload ok.full ok.within)
get_d_ram XipRam at payload x n ok j = get_d_store x.xip at payload j ∙ rw (room_yes x.xip at payload ok.full ok.within)

pub lengths_paged : (k : Kind) (at : ℕ) (payload : List ℕ) (x : Held) → lengths_of (paged_at k at payload x) ≡ lengths_of x
unfolding paged_at
lengths_paged Flash at payload x =
    let e : length (paged_at Flash at payload x).flash ≡ length x.flash = length_store _ _ _ ∙ length_prepared (at / 4096) x in
    λ i. record { flash = e i; main = length x.main; xip = length x.xip }
lengths_paged MainRam at payload x =
    let e : length (paged_at MainRam at payload x).main ≡ length x.main = length_store _ _ _ in
    λ i. record { flash = length x.flash; main = e i; xip = length x.xip }
lengths_paged XipRam at payload x =
    let e : length (paged_at XipRam at payload x).xip ≡ length x.xip = length_store _ _ _ in
    λ i. record { flash = length x.flash; main = length x.main; xip = e i }

-- the length of a kind's buffer
abbrev pub length_in : Lengths → Kind → ℕ
length_in n Flash = n.flash
length_in n MainRam = n.main
length_in n XipRam = n.xip

pub length_in_lem : (u : Kind) (x : Held) → length (buffer_of u x) ≡ length_in (lengths_of x) u
length_in_lem Flash x = refl
length_in_lem MainRam x = refl
length_in_lem XipRam x = refl

pub length_paged : (u k : Kind) (at : ℕ) (payload : List ℕ) (x : Held) → length (buffer_of u (paged_at k at payload x)) ≡ length (buffer_of u x)
length_paged u k at payload x =
    length_in_lem u (paged_at k at payload x) ∙ ap (λ (n : Lengths). length_in n u) (lengths_paged k at payload x) ∙ sym (length_in_lem u x)

pub sectors_paged : (k : Kind) (at : ℕ) (payload : List ℕ) (x : Held) → length (paged_at k at payload x).sectors ≡ length x.sectors
unfolding paged_at
sectors_paged Flash at payload x = length_mark x.sectors (at / 4096)
sectors_paged MainRam at payload x = ap length (sectors_ram MainRam at payload x (λ e. let z : ◌≡◌ {A = ℕ} 0 1 = cc in omega arith))
sectors_paged XipRam at payload x = ap length (sectors_ram XipRam at payload x (λ e. let z : ◌≡◌ {A = ℕ} 0 1 = cc in omega arith))

-- a page in flash, over a sector map of T
module _ (at : ℕ) (payload : List ℕ) (x : Held) (T : Set) (marks : x.sectors ≡ map_of 1024 T)
    (whole : length x.flash % 4096 ≡ 0) (most : length x.flash ≤ 33554432) (ok : Fits Flash (length x.flash) at payload) where
  -- the sector is asked for by the byte's own sector number
  asked : (q : ℕ) → eqb q (at / 4096) && ltb (at / 4096) (length x.flash / 4096) && not (marked_in x.sectors (at / 4096)) ≡ eqb q (at / 4096) && not (T q)
  asked q =
      let i : ltb (at / 4096) (length x.flash / 4096) ≡ true = lt-ltb (at / 4096) (length x.flash / 4096) (omega (arith, ok.within, ok.aligned refl)) in
      let m : marked_in x.sectors (at / 4096) ≡ T (at / 4096) =
      ap (λ (s : List ℕ). marked_in s (at / 4096)) marks ∙ marked_map 1024 T (at / 4096) (omega (arith, ok.within)) in
      split (eqb q (at / 4096))
      (λ e. rw (e, i, m, eqb-true q (at / 4096) e))
      (λ e. rw e)

  -- each byte after the page was stored
  get_d_flash : (j : ℕ) → get_or (paged_at Flash at payload x).flash j 0
      ≡ cond (spans at j) (get_or payload (j - at) 0) (cond (eqb (j / 4096) (at / 4096) && not (T (j / 4096))) 255 (get_or x.flash j 0))
  unfolding paged_at
  get_d_flash j =
      get_d_store (prepared_at (at / 4096) x) at payload j
      ∙ rw (
        room_yes (prepared_at (at / 4096) x) at payload ok.full (omega (arith, length_prepared (at / 4096) x, ok.within)),
        get_d_prepared (at / 4096) x j,
        asked (j / 4096),
      )

  flash_map : (paged_at Flash at payload x).sectors ≡ map_of 1024 (add (at / 4096) T)
  unfolding paged_at
  flash_map = ap (λ (s : List ℕ). with_mark s (at / 4096)) marks ∙ mark_map 1024 T (at / 4096) (omega (arith, ok.within))

-- the page of kind k is of the buffer u, and holds byte j of it
abbrev pub owns_in : Kind → Kind → Bool → ℕ → ℕ → Bool
owns_in u k d at j = same_kind u k && (d && spans at j)

-- and touches sector q of it, which only flash has
abbrev pub touches_in : Kind → Kind → Bool → ℕ → ℕ → Bool
touches_in u k d at q = same_kind u k && (same_kind u Flash && (d && eqb q (at / 4096)))

-- each byte of each buffer after a page of each kind was stored; T are the sectors touched before
module _ (at : ℕ) (payload : List ℕ) (x : Held) (T : Set) (marks : x.sectors ≡ map_of 1024 T)
    (whole : length x.flash % 4096 ≡ 0) (most : length x.flash ≤ 33554432) where
  pub get_d_paged : (u k : Kind) (R : Set) → (u ≡ Flash → R ≡ T) → Fits k (length (buffer_of k x)) at payload → (j : ℕ)
      → get_or (buffer_of u (paged_at k at payload x)) j 0
      ≡ cond (owns_in u k true at j) (get_or payload (j - at) 0) (cond (touches_in u k true at (j / 4096) && not (R (j / 4096))) 255 (get_or (buffer_of u x) j 0))
  unfolding paged_at
  get_d_paged Flash Flash R e ok j = rw (e refl) (get_d_flash at payload x T marks whole most ok j)
  get_d_paged MainRam MainRam R e ok j = get_d_ram MainRam at payload x (λ e. let z : ◌≡◌ {A = ℕ} 0 1 = cc in omega arith) ok j
  get_d_paged XipRam XipRam R e ok j = get_d_ram XipRam at payload x (λ e. let z : ◌≡◌ {A = ℕ} 0 1 = cc in omega arith) ok j
  get_d_paged Flash MainRam R e ok j = refl
  get_d_paged Flash XipRam R e ok j = refl
  get_d_paged MainRam Flash R e ok j = refl
  get_d_paged MainRam XipRam R e ok j = refl
  get_d_paged XipRam Flash R e ok j = refl
  get_d_paged XipRam MainRam R e ok j = refl

  pub paged_map : (k : Kind) → Fits k (length (buffer_of k x)) at payload
      → (paged_at k at payload x).sectors ≡ map_of 1024 (λ q. touches_in Flash k true at q || T q)
  unfolding paged_at
  paged_map Flash ok = flash_map at payload x T marks whole most ok
  paged_map MainRam ok = marks
  paged_map XipRam ok = marks
