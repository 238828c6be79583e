-- A digest written to bytes. Assumes nothing.
use Rattle.std.specs.Prelude.{ℕ, List}
use Rattle.uf2_block.specs.Write.{put_at}
use Rattle.md5_digest.specs.declared.Digest.{Digest}

-- its four words one after the other, each where there is room for it
abbrev pub with_digest : List ℕ → Digest → List ℕ
with_digest out x = put_at (put_at (put_at (put_at out 0 x.a) 4 x.b) 8 x.c) 12 x.d
