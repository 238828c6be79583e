use native.Mathlib.Omega.{arith}
use Rattle.uf2_make.proofs.page_block.Blocks.{other_output, other_page, one_block}
use Rattle.uf2_make.proofs.page_block.write_block.Goals as goal

pub returns-then-out-ne-ARRIVAL : goal.returns-then-out-ne-ARRIVAL
returns-then-out-ne-ARRIVAL c = other_output _ _ _ _ _ _ (λ e. omega (arith, e))

pub returns-then-page-ne-PAGE : goal.returns-then-page-ne-PAGE
returns-then-page-ne-PAGE c = other_page _ _ _ _ _ _ (λ e. omega (arith, e))

pub returns : goal.returns
returns c = one_block _ _ _ _ _ _ (omega arith) (omega arith) c.put_block.ensures
