-- What a set of pages leaves in the three buffers and the sector map, and that one page more makes it grow. Assumes nothing.
use Prim.Native.Nat.{ℕ, ◌+◌, ◌-◌, ◌/◌, ◌%◌, ◌<◌, ◌≤◌}
use mathlib.Core.Path.{◌≡◌, refl, sym, ap, subst, ◌∙◌, fun_ext}
use mathlib.Core.Bool.{true, false, ◌&&◌, ◌||◌, and-false}
use mathlib.Core.List.{List}
use native.Mathlib.Omega.{arith}
use lib.Dec.{eqb, leb, ltb}
use lib.ListN.{length, get_or}
use borrow.Author.Tests.{eq-eqb, lt-ltb, le-leb, leb-true, ltb-true}
use Rattle.laws.specs.Sets.{Set, none, add}
use Rattle.laws.proofs.Tests.{split, and_left, and_right}
use Rattle.memory.specs.Bitmap.{map_of}
use Rattle.memory.proofs.bitmap.MapLaws.{map_none}
use Rattle.memory.specs.Flash.{payload_of, spans}
use Rattle.transfer.specs.Transfer.{same_kind}
use Rattle.transfer.specs.declared.Kind.{Kind}
use Rattle.transfer.specs.declared.Kind.TheVariants.{Flash, MainRam, XipRam}
use Rattle.arrival.specs.Arrive.{Held, buffer_of, lengths_of, cleared_if, wiped_if, paged_at}
use Rattle.arrival.specs.File.{is_data}
use Rattle.arrival.proofs.Heads.{kind_same}
use Rattle.arrival.proofs.Paged.{Fits, length_paged, owns_in, touches_in, get_d_paged, paged_map}
use Rattle.arrival_claims.proofs.Cells.{Layout, Apart, touched, touched_add, touched_none, Leaves, buffer, length_buffer, buffer_none, buffer_add}
use Rattle.arrival.proofs.Count.{Blocks, count, bytes_of, applied, applied_is, wipe, Grows}

-- ---- the blocks of a file

abbrev pub payload_in : Blocks → ℕ → List ℕ
payload_in F k = payload_of (bytes_of F k)

abbrev pub kind_in : Blocks → Kind
kind_in F = F.file.kind

-- none of its data blocks is refused, and no two hold one byte
pub record Valid (F : Blocks) (x : Held) : Type 0 where
  pub some : 1 ≤ count F
  pub few : count F ≤ 131072
  pub whole : length x.flash % 4096 ≡ 0
  pub most : length x.flash ≤ 33554432
  pub sectors : length x.sectors ≡ 1024
  pub fits : (k : ℕ) → k < count F → is_data F.file k ≡ true → Fits (kind_in F) (length (buffer_of (kind_in F) x)) (F.at k) (payload_in F k)
  pub apart : (i k j : ℕ) → i < count F → k < count F → is_data F.file i ≡ true → is_data F.file k ≡ true
      → spans (F.at i) j ≡ true → spans (F.at k) j ≡ true → i ≡ k

pub spans_true : (at j : ℕ) → spans at j ≡ true → (at ≤ j) × (j < at + 256)
spans_true at j e = (leb-true at j (and_left (leb at j) (ltb j (at + 256)) e), ltb-true j (at + 256) (and_right (leb at j) (ltb j (at + 256)) e))

pub spans_is : (at j : ℕ) → at ≤ j → j < at + 256 → spans at j ≡ true
spans_is at j p q = rw (le-leb at j p, lt-ltb j (at + 256) q)

-- what the blocks hold and touch of the buffer of kind u
abbrev pub layout : Kind → Blocks → Layout
layout u F =
    record {
      owns = λ k j. owns_in u (kind_in F) (is_data F.file k) (F.at k) j;
      touches = λ k q. touches_in u (kind_in F) (is_data F.file k) (F.at k) q;
      value = λ k j. get_or (payload_in F k) (j - F.at k) 0;
    }

abbrev pub sectors_of : Blocks → Set → Set
sectors_of F S = touched (count F) (layout Flash F) S

-- what a block that holds byte j of the buffer of kind u is
pub record Owning (u : Kind) (F : Blocks) (k j : ℕ) : Type 0 where
  pub kind : u ≡ kind_in F
  pub data_block : is_data F.file k ≡ true
  pub spanned : spans (F.at k) j ≡ true

pub owning : (u : Kind) (F : Blocks) (k j : ℕ) → (layout u F).owns k j ≡ true → Owning u F k j
owning u F k j o =
    let d = and_right (same_kind u (kind_in F)) (is_data F.file k && spans (F.at k) j) o in
    record {
      kind = kind_same u (kind_in F) (and_left (same_kind u (kind_in F)) (is_data F.file k && spans (F.at k) j) o);
      data_block = and_left (is_data F.file k) (spans (F.at k) j) d;
      spanned = and_right (is_data F.file k) (spans (F.at k) j) d;
    }

-- in flash a block touches the sector of each byte that it holds
pub owned_touches : (u : Kind) (F : Blocks) (x : Held) → Valid F x → same_kind u Flash ≡ true → (i j : ℕ) → i < count F
    → (layout u F).owns i j ≡ true → (layout u F).touches i (j / 4096) ≡ true
owned_touches u F x ok f i j h o =
    let p = owning u F i j o in
    let r = spans_true (F.at i) j p.spanned in
    let flash : kind_in F ≡ Flash = sym p.kind ∙ kind_same u Flash f in
    let a : F.at i % 256 ≡ 0 = (ok.fits i h p.data_block).aligned flash in
    let s = and_left (same_kind u (kind_in F)) (is_data F.file i && spans (F.at i) j) o in
    rw (s, f, p.data_block) (eq-eqb (j / 4096) (F.at i / 4096) (omega (arith, r, a)))

pub apart_of : (u : Kind) (F : Blocks) (x : Held) → Valid F x → Apart (count F) (layout u F)
apart_of u F x ok =
    record {
      alone = λ i k j hi hk o q.
          let p = owning u F i j o in
          let r = owning u F k j q in
          ok.apart i k j hi hk p.data_block r.data_block p.spanned r.spanned;
      inside = λ i k j hi hk o q.
          let t = and_right (same_kind u (kind_in F)) (same_kind u Flash && (is_data F.file k && eqb (j / 4096) (F.at k / 4096))) q in
          owned_touches u F x ok (and_left (same_kind u Flash) (is_data F.file k && eqb (j / 4096) (F.at k / 4096)) t) i j hi o;
    }

-- the buffer of kind u, once the blocks of S have come
abbrev pub filled : Kind → Blocks → Held → Set → List ℕ
filled u F x S = buffer (count F) (layout u F) (buffer_of u x) S

-- the three and the sector map
unfoldable pub effect : Blocks → Held → Set → Held
effect F x S =
    record {
      flash = filled Flash F x S;
      sectors = map_of 1024 (sectors_of F S);
      main = filled MainRam F x S;
      xip = filled XipRam F x S;
    }

pub effect_buffer : (u : Kind) (F : Blocks) (x : Held) (S : Set) → buffer_of u (effect F x S) ≡ filled u F x S
unfolding effect
effect_buffer Flash F x S = refl
effect_buffer MainRam F x S = refl
effect_buffer XipRam F x S = refl

pub length_effect : (u : Kind) (F : Blocks) (x : Held) (S : Set) → length (buffer_of u (effect F x S)) ≡ length (buffer_of u x)
length_effect u F x S = ap length (effect_buffer u F x S) ∙ length_buffer (count F) (layout u F) (buffer_of u x) S

pub lengths_effect : (F : Blocks) (x : Held) (S : Set) → lengths_of (effect F x S) ≡ lengths_of x
lengths_effect F x S =
    λ i. record { flash = length_effect Flash F x S i; main = length_effect MainRam F x S i; xip = length_effect XipRam F x S i }

held_is : (g h : Held) → ((u : Kind) → buffer_of u g ≡ buffer_of u h) → g.sectors ≡ h.sectors → g ≡ h
held_is g h p q = λ i. record { flash = p Flash i; sectors = q i; main = p MainRam i; xip = p XipRam i }

-- none of its data blocks stands in any flash of that length
abbrev pub Unkept : Blocks → Held → Type 0
Unkept F x = (f : List ℕ) (k : ℕ) → k < count F → is_data F.file k ≡ true → length f ≡ length x.flash → same_kind (kind_in F) Flash && F.stands f k ≡ false

-- one block more: a page that is stored, or a comment, which changes nothing
module _ (F : Blocks) (x : Held) (ok : Valid F x) (plain : Unkept F x) (S : Set) (k : ℕ) (h : k < count F) where
  abbrev there : Held
  there = effect F x S

  marks : there.sectors ≡ map_of 1024 (sectors_of F S)
  marks = unfold effect in refl

  whole : length there.flash % 4096 ≡ 0
  whole = rw (length_effect Flash F x S) ok.whole

  most : length there.flash ≤ 33554432
  most = rw (length_effect Flash F x S) ok.most

  -- what the block leaves of the buffers and the sector map
  pub record Left (g : Held) : Type 0 where
    pub buffers : (u : Kind) → Leaves (layout u F) k (touched (count F) (layout u F) S) (buffer_of u there) (buffer_of u g)
    pub sectors : g.sectors ≡ map_of 1024 (λ q. (layout Flash F).touches k q || sectors_of F S q)

  left_page : is_data F.file k ≡ true → Left (paged_at (kind_in F) (F.at k) (payload_in F k) there)
  left_page y =
      let fits : Fits (kind_in F) (length (buffer_of (kind_in F) there)) (F.at k) (payload_in F k) =
      subst (λ (n : ℕ). Fits (kind_in F) n (F.at k) (payload_in F k)) (sym (length_effect (kind_in F) F x S)) (ok.fits k h y) in
      record {
        buffers = λ u. (
          length_paged u (kind_in F) (F.at k) (payload_in F k) there,
          rw y
              (get_d_paged (F.at k) (payload_in F k) there (sectors_of F S) marks whole most u (kind_in F) (touched (count F) (layout u F) S)
              (λ e. ap (λ (v : Kind). touched (count F) (layout v F) S) e) fits),
        );
        sectors = rw y (paged_map (F.at k) (payload_in F k) there (sectors_of F S) marks whole most (kind_in F) fits);
      }

  left_note : is_data F.file k ≡ false → Left there
  left_note z =
      record {
        buffers = λ u. (refl, λ j. rw (z, and-false (same_kind u (kind_in F)), and-false (same_kind u Flash), and-false (same_kind u (kind_in F))));
        sectors = rw (z, and-false (same_kind Flash (kind_in F))) marks;
      }

  left : Left (applied F k there)
  left = rw (applied_is F k there) (split (is_data F.file k) (λ y. rw (plain there.flash k h y (length_effect Flash F x S), y) (left_page y)) (λ z. rw z (left_note z)))

  buffer_more : (u : Kind) → buffer_of u (applied F k there) ≡ buffer_of u (effect F x (add k S))
  buffer_more u =
      buffer_add (count F) (layout u F) (apart_of u F x ok) (buffer_of u x) S k h (buffer_of u (applied F k there))
      (subst (λ (f : List ℕ). Leaves (layout u F) k (touched (count F) (layout u F) S) f (buffer_of u (applied F k there))) (effect_buffer u F x S) (left.buffers u))
      ∙ sym (effect_buffer u F x (add k S))

  sectors_more : (applied F k there).sectors ≡ (effect F x (add k S)).sectors
  unfolding effect
  sectors_more = left.sectors ∙ ap (map_of 1024) (fun_ext (λ q. sym (touched_add (count F) (layout Flash F) S k q h)))

  pub one_more : applied F k there ≡ effect F x (add k S)
  one_more = held_is (applied F k there) (effect F x (add k S)) buffer_more sectors_more

pub none_yet : (F : Blocks) (x : Held) → length x.sectors ≡ 1024 → wipe x ≡ effect F x none
none_yet F x n = held_is (wipe x) (effect F x none) (λ u. wiped u ∙ buffer_none (count F) (layout u F) (buffer_of u x) ∙ sym (effect_buffer u F x none)) maps
  where
    wiped : (u : Kind) → buffer_of u (wipe x) ≡ buffer_of u x
    wiped Flash = unfold wiped_if in refl
    wiped MainRam = unfold wiped_if in refl
    wiped XipRam = unfold wiped_if in refl

    maps : (wipe x).sectors ≡ (effect F x none).sectors
    maps =
        unfold effect wiped_if cleared_if in rw n (map_none 1024)
        ∙ ap (map_of 1024) (fun_ext (λ q. sym (touched_none (count F) (layout Flash F) q)))

pub grows : (F : Blocks) (x : Held) → Valid F x → Unkept F x → Grows F x (effect F x)
grows F x ok plain = record { few = ok.few; none_yet = none_yet F x ok.sectors; one_more = λ S k h. one_more F x ok plain S k h }
