-- A digest's four words as bytes. Assumes nothing.
use Prim.Native.Nat.{ℕ}
use mathlib.Core.Path.{◌≡◌, refl, sym, ◌∙◌}
use mathlib.Core.List.{List, ◌++◌}
use native.Mathlib.Omega.{arith}
use lib.ListN.{length}
use Rattle.laws.specs.Bytes.{low_first}
use Rattle.laws.proofs.OverLaws.{over_whole}
use Rattle.uf2_block.specs.Write.{le32}
use Rattle.uf2_block.proofs.WriteLaws.{put_over, put_after}
use Rattle.md5_digest.specs.declared.Digest.{Digest}
use Rattle.md5_digest.specs.Md5.{digest_bytes}
use Rattle.uf2_block.specs.Digests.{with_digest}

-- four words after each other, in 16 bytes
pub digest_put : (out : List ℕ) (x : Digest) → length out ≡ 16 → with_digest out x ≡ digest_bytes x
unfolding low_first digest_bytes
digest_put out x e =
    rw (
      put_over out 0 x.a (omega arith),
      put_after out (le32 x.a) 4 x.b refl (omega arith),
      put_after out (le32 x.a ++ le32 x.b) 8 x.c refl (omega arith),
    )
    (put_after out ((le32 x.a ++ le32 x.b) ++ le32 x.c) 12 x.d refl (omega arith)
    ∙ over_whole out (((le32 x.a ++ le32 x.b) ++ le32 x.c) ++ le32 x.d) (sym e))
