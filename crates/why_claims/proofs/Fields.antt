-- Marks and first matches, by the fields of the settings and of the entries. Assumes nothing.
use Prim.Native.Nat.{ℕ, suc, ◌<◌, ◌≤◌}
use mathlib.Core.Path.{◌≡◌, refl}
use mathlib.Core.Logic.{inl, inr}
use mathlib.Core.Bool.{true, false, not}
use native.Mathlib.Omega.{arith}
use lib.Dec.{leb}
use Rattle.laws.proofs.Tests.{split, clash}
use Rattle.partitions.specs.declared.Settings.{Settings}
use Rattle.partitions.specs.declared.Entry.{Entry}
use Rattle.partitions.specs.declared.Link.{Link}
use Rattle.partitions.specs.declared.Link.TheVariants.{Unlinked, OwnedBy, BOf}
use Rattle.partitions.specs.Settings.{link_is_b, accepts, entry_at}
use Rattle.placement.specs.Place.{pass_query_of, pass_takes, used_count}
use Rattle.placement.proofs.Laws.{used_least, used_whole}
use Rattle.why_place.specs.Placing.{taken_in, Marked, FirstMatch}
use Rattle.settings_claims.specs.Targeting.{First}
use Rattle.settings_claims.proofs.Targeting.{a_link, accepts_said, takes_said, said_takes}
use Rattle.why_claims.specs.Claims.{MarkTrue, b_of, does_not_accept}

-- ---- a mark

link_b : (l : Link) → not (link_is_b l) ≡ false → (j : ℕ) × (l ≡ BOf j)
link_b Unlinked h = clash true refl h
link_b (OwnedBy k) h = clash true refl h
link_b (BOf k) h = (k, refl)

pub mark_fields : (e : Entry) (f m : ℕ) → Marked e f m → MarkTrue e f m
mark_fields e f m (inl (n, b)) = let q = link_b e.link b in rw n (b_of q.0 q.1)
mark_fields e f m (inr (n, a, b)) = rw n (does_not_accept (a_link e.link a) (λ x. clash (accepts e f) (accepts_said e f x) b))

-- an entry that is used and has its place in the table
pub low_used : (n k : ℕ) → k < 16 → k < n → k < used_count n
low_used n k l h = split (leb n 16) (λ t. rw t h) (λ t. rw t l)

-- ---- the first match

pub first_fields : (s : Settings) (f : ℕ) → s.count ≤ 16 → (q k : ℕ) → FirstMatch s f q k → First s f (suc q) k
unfolding taken_in
first_fields s f most q k m =
    let w = pass_query_of s f in
    record {
      taken = said_takes s f q k m.pass (omega (arith, m.used, used_least s.count)) m.taken;
      earlier = λ p j l t.
          let u = takes_said s f p j t in
          let b : j < used_count s.count = omega (arith, t.accepting.used, used_whole s.count most) in
          clash (pass_takes w u.0 (entry_at s.table j)) u.3 (m.earlier u.0 (omega (arith, u.1)) j b);
      before = λ j l t.
          let u = takes_said s f (suc q) j t in
          let same : u.0 ≡ q = omega (arith, u.1) in
          clash (pass_takes w q (entry_at s.table j)) (rw same at u.3) (m.before j l);
    }
