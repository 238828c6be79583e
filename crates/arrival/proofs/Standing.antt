-- What counts as standing there has all that specs/Standing.antt lists. Assumes nothing.
use Prim.Native.Nat.{ℕ, ◌-◌}
use mathlib.Core.Path.{◌≡◌, refl}
use mathlib.Core.Bool.{Bool, true, false, ◌&&◌}
use mathlib.Core.List.{List}
use lib.ListN.{length}
use Rattle.std.specs.Prelude.{Option, Some, None}
use Rattle.laws.proofs.Tests.{clash, and_left, and_right}
use Rattle.uf2_block.specs.Block.{field_at, has_flag}
use Rattle.uf2_block.specs.Region.{region_of}
use Rattle.md5_digest.specs.Md5.{md5_of}
use Rattle.uf2_block.specs.Regions.{good_region, part_of, stands_in}
use Rattle.uf2_block.proofs.regions.Laws.{good_true, stands_true, digest_true}
use Rattle.partitions.specs.declared.Settings.{Settings}
use Rattle.placement.specs.Place.{place_of}
use Rattle.placement.specs.declared.Place.{Place}
use Rattle.transfer.specs.Transfer.{same_kind}
use Rattle.transfer.specs.declared.Kind.TheVariants.{Flash}
use Rattle.arrival.specs.Arrive.{World, stands_at, standing}
use Rattle.arrival.specs.Windows.{kind_of}
use Rattle.arrival.specs.Standing.{Standing}
use Rattle.arrival.proofs.Heads.{kind_same}

-- what the arrival would store in the flash stands there
abbrev pub keeps_at : Settings → World → List ℕ → Bool
keeps_at s w a = same_kind (kind_of w a) Flash && standing s w.held.flash a

module _ (s : Settings) (w : World) (a : List ℕ) where
  facts_at : (p : Option Place) → place_of s (length w.held.flash) (field_at a 28) ≡ p → has_flag a 0x1 ≡ false → kind_of w a ≡ Flash
      → stands_at w.held.flash p a ≡ true → Standing s w a
  unfolding stands_at region_of
  facts_at None e z k h = clash false h refl
  facts_at (Some p) e z k h =
      let f = has_flag a 0x4000 in
      let b = good_region p.len (field_at a 12) (region_of a) in
      let t = stands_in w.held.flash p.start (region_of a) in
      let g = and_left (f && b) t h in
      let c = good_true p.len (field_at a 12) (region_of a) (and_right f b g) in
      record {
        data_block = z;
        flash = k;
        flag = and_left f b g;
        start = p.start;
        size = p.len;
        place = e;
        first = c.starts;
        whole = c.ends;
        some = c.some;
        window = c.window;
        within = c.within;
        before = c.before;
        behind = c.behind;
        digest = digest_true (md5_of (part_of w.held.flash p.start (region_of a))) (region_of a) (stands_true w.held.flash p.start (region_of a) (and_right (f && b) t h));
      }

  pub standing_of : has_flag a 0x1 ≡ false → keeps_at s w a ≡ true → Standing s w a
  standing_of z e =
      let k = same_kind (kind_of w a) Flash in
      let p = place_of s (length w.held.flash) (field_at a 28) in
      let t = stands_at w.held.flash p a in
      facts_at p refl z (kind_same (kind_of w a) Flash (and_left k t e)) (and_right k t e)
