use mathlib.Core.Path.{◌≡◌}
use Rattle.laws.specs.Over.{over}
use Rattle.laws.specs.Rows.{rows}
use Rattle.uf2_make_regions.specs.File.{block_at}
use Rattle.uf2_make_regions.proofs.write_blocks.Given as goal

abbrev pub invariant-loop-k : goal.invariant-loop-k
invariant-loop-k l = l.output ≡ over l.initial.output 0 (rows (block_at l.image l.family l.start) l.k)
