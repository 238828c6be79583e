-- Settings that are alike are good for the same flash lengths: no check looks at what is not used, or at "don't restart". Assumes nothing.
use Prim.Native.Nat.{ℕ, ◌<◌}
use mathlib.Core.Path.{◌≡◌, ap, ◌∙◌}
use mathlib.Core.Bool.{Bool, not, ◌&&◌, ◌||◌, false, or-true}
use mathlib.Core.List.{List}
use native.Mathlib.Omega.{arith}
use lib.Dec.{ltb, eqb}
use lib.ListN.{get_or}
use borrow.Author.Tests.{ltb-true, leb-false}
use Rattle.laws.proofs.Tests.{split}
use Rattle.laws.proofs.Laws.{any_cong}
use Rattle.partitions.specs.declared.Arch.{Arch}
use Rattle.partitions.specs.declared.Arch.TheVariants.{Arm, RiscV}
use Rattle.partitions.specs.declared.Entry.{Entry}
use Rattle.partitions.specs.declared.Settings.{Settings}
use Rattle.partitions.specs.Settings.{is_unowned, link_target, user_is, has_user, accepts, is_reserved, reserved_at, reserved_user, entry_at, enabled, no_sectors, runs_past, overlap_at, shares_with, shares_sector, links_up, links_to_b, many_users, bad_entry, good_settings}
use Rattle.partitions.specs.Alike.{AlikeEntry, Alike, AlikeGood}

-- ---- one entry

module _ {d e : Entry} (h : AlikeEntry d e) where
  -- a test of the user family in a slot that is used
  pub slot_alike : (P : ℕ → Bool) (i : ℕ) → ltb i d.user_count && P (get_or d.users i 0) ≡ ltb i e.user_count && P (get_or e.users i 0)
  slot_alike P i =
      split (ltb i d.user_count)
      (λ t. rw (← h.user_count, t, h.users i (ltb-true i d.user_count t)))
      (λ t. rw (← h.user_count, t))

  pub reserved_alike : reserved_user d ≡ reserved_user e
  unfolding reserved_user
  reserved_alike = any_cong 4 (reserved_at d) (reserved_at e) (λ i l. slot_alike is_reserved i)

  pub user_alike : (f : ℕ) → has_user d f ≡ has_user e f
  unfolding has_user
  user_alike f = any_cong 4 (user_is d f) (user_is e f) (λ i l. slot_alike (λ (x : ℕ). eqb x f) i)

  pub accepts_alike : (f : ℕ) → accepts d f ≡ accepts e f
  unfolding accepts
  accepts_alike f = rw (user_alike f, h.accepts_data, h.accepts_arm_s, h.accepts_riscv, h.accepts_arm_ns)

-- ---- tables whose first n entries are alike

module _ (t u : List Entry) (n : ℕ) (at : (k : ℕ) → k < n → AlikeEntry (entry_at t k) (entry_at u k)) where
  pub overlap_alike : (k j : ℕ) → k < n → j < n → overlap_at t k j ≡ overlap_at u k j
  unfolding overlap_at
  overlap_alike k j l m = rw ((at k l).first, (at k l).sectors, (at j m).first, (at j m).sectors)

  shares_alike : (k : ℕ) → k < n → shares_sector t n k ≡ shares_sector u n k
  unfolding shares_sector
  shares_alike k l = any_cong n (shares_with t k) (shares_with u k) (λ j m. ap (λ (x : Bool). not (eqb j k) && x) (overlap_alike k j l m))

  pub up_alike : (k : ℕ) → k < n → links_up t k ≡ links_up u k
  up_alike k l = rw (at k l).link

  -- a link to a used entry; any other is refused already
  to_b_alike : (k : ℕ) → k < n → link_target (entry_at t k).link < n → links_to_b t k ≡ links_to_b u k
  to_b_alike k l m = rw (← (at k l).link, (at (link_target (entry_at t k).link) m).link)

  pub to_b : (k : ℕ) → k < n → links_up t k ≡ false → links_to_b t k ≡ links_to_b u k
  to_b k l up =
      split (is_unowned (entry_at t k))
      (λ f. rw (← (at k l).link, f))
      (λ f. to_b_alike k l (let g = leb-false k (link_target (entry_at t k).link) (rw f at up) in omega arith))

  links_alike : (x : Bool) (k : ℕ) → k < n → x || links_up t k || links_to_b t k ≡ x || links_up u k || links_to_b u k
  links_alike x k l =
      rw (← up_alike k l)
      (split (links_up t k)
      (λ up. rw (up, or-true x))
      (λ up. ap (λ (y : Bool). x || links_up t k || y) (to_b k l up)))

  bad_alike : (len k : ℕ) → k < n → bad_entry t n len k ≡ bad_entry u n len k
  unfolding bad_entry
  bad_alike len k l =
      let d = entry_at t k in
      let e = entry_at u k in
      let x = no_sectors d || runs_past len d || shares_sector t n k in
      let y = no_sectors e || runs_past len e || shares_sector u n k in
      let same : x ≡ y = rw ((at k l).first, (at k l).sectors, shares_alike k l) in
      let links : x || links_up t k || links_to_b t k ≡ y || links_up u k || links_to_b u k = links_alike x k l ∙ ap (λ (z : Bool). z || links_up u k || links_to_b u k) same in
      ap (λ (z : Bool). z || many_users d || reserved_user d) links ∙ rw ((at k l).user_count, reserved_alike (at k l))

-- ---- the settings

pub enabled_alike : (s t : Settings) → Alike s t → (a : Arch) → enabled s a ≡ enabled t a
enabled_alike s t h Arm = h.arm
enabled_alike s t h RiscV = h.riscv

pub alike_good : AlikeGood
unfolding good_settings
alike_good s t len h =
    rw (
      enabled_alike s t h s.current,
      h.current,
      any_cong s.count (bad_entry s.table s.count len) (bad_entry t.table s.count len) (bad_alike s.table t.table s.count h.entries len),
      h.count,
    )
