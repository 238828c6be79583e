-- The buffers by their cells, read in the words of specs/Demand.antt. Assumes nothing.
use Prim.Native.Nat.{ℕ, ◌+◌, ◌/◌, ◌≤◌, ◌<◌}
use mathlib.Core.Path.{◌≡◌, refl, sym, ap, ◌∙◌}
use mathlib.Core.Bool.{Bool, true, false, ◌&&◌, and-false}
use native.Mathlib.Omega.{arith}
use lib.Dec.{eqb, ltb}
use lib.ListN.{length, get_or, get_or-eq_default}
use borrow.Author.Tests.{ltb-true, ltb-false}
use Rattle.laws.specs.Sets.{Set, any}
use Rattle.laws.proofs.Tests.{split, clash, is_false, and_left, and_right, both}
use Rattle.laws.proofs.Laws.{any_none, any_hit}
use Rattle.partitions.specs.declared.Settings.{Settings}
use Rattle.memory.specs.Flash.{spans}
use Rattle.transfer.specs.Transfer.{same_kind}
use Rattle.transfer.specs.declared.Kind.{Kind}
use Rattle.transfer.specs.declared.Kind.TheVariants.{Flash, MainRam, XipRam}
use Rattle.uf2_checks.specs.declared.Lengths.{Lengths}
use Rattle.arrival.specs.Arrive.{Held, World, buffer_of, lengths_of}
use Rattle.demand.specs.Demand.{File, is_data, changed_by, Contents}
use Rattle.arrival.proofs.Count.{Blocks, count}
use Rattle.arrival_claims.proofs.Cells.{touched, cell, cell_owned, cell_free}
use Rattle.arrival.proofs.Heads.{same_kind_lem}
use Rattle.arrival.proofs.Paged.{length_in, length_in_lem}
use Rattle.arrival_claims.proofs.Effect.{payload_in, kind_in, spans_is, Valid, layout, sectors_of, owned_touches, apart_of}
use Rattle.demand.proofs.Files.{blocks_of}

any_each : (n : ℕ) (c : Bool) (S P : Set) → any n (λ k. S k && (c && P k)) ≡ c && any n (λ k. S k && P k)
any_each n true S P = refl
any_each n false S P = any_none (λ k. S k && false) n (λ k h. and-false (S k))

module _ (F : Blocks) (S : Set) where
  -- as specs/Demand.antt has them
  abbrev held_in : Kind → ℕ → Bool
  held_in u j = same_kind u (kind_in F) && any (count F) (λ k. S k && (is_data F.file k && spans (F.at k) j))

  abbrev pub touched_in : Set
  touched_in q = same_kind Flash (kind_in F) && any (count F) (λ k. S k && (is_data F.file k && eqb q (F.at k / 4096)))

  abbrev changed_in : Kind → ℕ → Bool
  changed_in Flash j = touched_in (j / 4096)
  changed_in MainRam j = held_in MainRam j
  changed_in XipRam j = held_in XipRam j

  pub sectors_in : (q : ℕ) → sectors_of F S q ≡ touched_in q
  sectors_in q = any_each (count F) (same_kind Flash (kind_in F)) S (λ k. is_data F.file k && eqb q (F.at k / 4096))

  pub held_in_lem : (u : Kind) (j : ℕ) → any (count F) (λ k. S k && (layout u F).owns k j) ≡ held_in u j
  held_in_lem u j = any_each (count F) (same_kind u (kind_in F)) S (λ k. is_data F.file k && spans (F.at k) j)

  -- a byte that no block of S holds
  free_of : (u : Kind) (j : ℕ) → held_in u j ≡ false → (k : ℕ) → k < count F → S k ≡ true → (layout u F).owns k j ≡ false
  free_of u j z k h s =
      is_false _
      (λ o.
      let d = is_data F.file k && spans (F.at k) j in
      clash (held_in u j)
      (both (and_left (same_kind u (kind_in F)) d o)
      (any_hit (λ k. S k && (is_data F.file k && spans (F.at k) j)) (count F) k h (both s (and_right (same_kind u (kind_in F)) d o)))) z)

  -- RAM has no sectors
  touched_ram : (u : Kind) → same_kind u Flash ≡ false → (q : ℕ) → touched (count F) (layout u F) S q ≡ false
  touched_ram u z q = any_none (λ k. S k && (layout u F).touches k q) (count F) (λ k h. rw (z, and-false (same_kind u (kind_in F)), and-false (S k)))

-- byte j of the buffer of kind u
abbrev pub byte_in : Kind → Held → ℕ → ℕ
byte_in u x j = get_or (buffer_of u x) j 0

-- every byte of the buffers y is the cell that S gives over the buffers x
abbrev pub As : Blocks → Held → Set → Held → Type 0
As F x S y = (u : Kind) (j : ℕ) → j < length (buffer_of u x) → byte_in u y j ≡ cell (count F) (layout u F) (byte_in u x) S j

module _ (F : Blocks) (w : World) (ok : Valid F w.held) (S : Set) (v : World) (there : As F w.held S v.held)
    (same_lengths : lengths_of v.held ≡ lengths_of w.held) where
  abbrev lent_byte : Kind → ℕ → ℕ
  lent_byte u j = byte_in u w.held j

  same_length : (u : Kind) → length (buffer_of u v.held) ≡ length (buffer_of u w.held)
  same_length u = length_in_lem u v.held ∙ ap (λ (n : Lengths). length_in n u) same_lengths ∙ sym (length_in_lem u w.held)

  payload_stands : (k : ℕ) → k < count F → S k ≡ true → is_data F.file k ≡ true → (i : ℕ) → i < 256
      → get_or (buffer_of (kind_in F) v.held) (F.at k + i) 0 ≡ get_or (payload_in F k) i 0
  payload_stands k h s y i l =
      there (kind_in F) (F.at k + i) (omega (arith, (ok.fits k h y).within))
      ∙ cell_owned (count F) (layout (kind_in F) F) (lent_byte (kind_in F)) S (F.at k + i) (apart_of (kind_in F) F w.held ok) k h s
      (rw (same_kind_lem (kind_in F), y) (spans_is (F.at k) (F.at k + i) (omega arith) (omega arith)))
      ∙ ap (λ (x : ℕ). get_or (payload_in F k) x 0) (omega arith)

  rest_erased : (j : ℕ) → j < length w.held.flash → touched_in F S (j / 4096) ≡ true → held_in F S Flash j ≡ false → get_or v.held.flash j 0 ≡ 255
  rest_erased j h t z =
      there Flash j h ∙ cell_free (count F) (layout Flash F) (lent_byte Flash) S j (free_of F S Flash j z)
      ∙ rw (sectors_in F S (j / 4096) ∙ t)

  -- a byte that no block of S holds, in no touched sector
  untouched_byte : (u : Kind) (j : ℕ) → ((k : ℕ) → k < count F → S k ≡ true → (layout u F).owns k j ≡ false)
      → touched (count F) (layout u F) S (j / 4096) ≡ false → get_or (buffer_of u v.held) j 0 ≡ get_or (buffer_of u w.held) j 0
  untouched_byte u j free t =
      split (ltb j (length (buffer_of u w.held)))
      (λ y. there u j (ltb-true _ _ y) ∙ cell_free (count F) (layout u F) (lent_byte u) S j free ∙ rw t)
      (λ z.
      let past : length (buffer_of u w.held) ≤ j = ltb-false j (length (buffer_of u w.held)) z in
      get_or-eq_default (buffer_of u v.held) 0 (rw (same_length u) past) ∙ sym (get_or-eq_default (buffer_of u w.held) 0 past))

  others_kept : (u : Kind) (j : ℕ) → changed_in F S u j ≡ false → get_or (buffer_of u v.held) j 0 ≡ get_or (buffer_of u w.held) j 0
  others_kept Flash j t = untouched_byte Flash j free (sectors_in F S (j / 4096) ∙ t)
    where
      -- a block that held the byte would have touched its sector
      free : (k : ℕ) → k < count F → S k ≡ true → (layout Flash F).owns k j ≡ false
      free k h s =
          is_false _
          (λ o.
          clash (sectors_of F S (j / 4096))
          (any_hit (λ i. S i && (layout Flash F).touches i (j / 4096)) (count F) k h (both s (owned_touches Flash F w.held ok refl k j h o)))
          (sectors_in F S (j / 4096) ∙ t))
  others_kept MainRam j z = untouched_byte MainRam j (free_of F S MainRam j z) (touched_ram F S MainRam refl (j / 4096))
  others_kept XipRam j z = untouched_byte XipRam j (free_of F S XipRam j z) (touched_ram F S XipRam refl (j / 4096))

-- ---- of a valid file

changed_is : (s : Settings) (w : World) (F : File) (S : Set) (u : Kind) (j : ℕ) → changed_in (blocks_of s w F) S u j ≡ changed_by s w F S u j
changed_is s w F S Flash j = refl
changed_is s w F S MainRam j = refl
changed_is s w F S XipRam j = refl

pub contents_of_lem : (s : Settings) (w : World) (F : File) → Valid (blocks_of s w F) w.held → (S : Set) (v : World) → As (blocks_of s w F) w.held S v.held
    → lengths_of v.held ≡ lengths_of w.held → Contents s w F S v
contents_of_lem s w F ok S v there n =
    let P = blocks_of s w F in
    record {
      payloads = payload_stands P w ok S v there n;
      inside = λ k h y. (ok.fits k h y).within;
      erased = rest_erased P w ok S v there n;
      others = λ u j z. others_kept P w ok S v there n u j (changed_is s w F S u j ∙ z);
      lengths = n;
    }
