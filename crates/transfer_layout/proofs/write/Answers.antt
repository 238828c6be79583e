use mathlib.Core.Path.{◌∙◌}
use native.Mathlib.Omega.{arith}
use lib.ListN.{length-set}
use Rattle.transfer_layout.proofs.Transfers.{transfer_bytes_put}
use Rattle.transfer_layout.proofs.write.Goals as goal

pub bounds-bytes-13 : goal.bounds-bytes-13
bounds-bytes-13 c =
    let third = c in
    let second = third in
    let first = second in
    let start = first in
    let same = third.put-3.auto.bytes ∙ second.put-2.auto.bytes ∙ first.put.auto.bytes ∙ length-set start.args.bytes.now 0 _ ∙ start.requires in
    omega arith

pub shape_of-bytes : goal.shape_of-bytes
shape_of-bytes c =
    let third = c in
    let second = third in
    let first = second in
    simp length-set (third.put-3.auto.bytes ∙ second.put-2.auto.bytes ∙ first.put.auto.bytes ∙ simp length-set)

pub returns : goal.returns
returns c =
    let third = c in
    let second = third in
    let first = second in
    let start = first in
    rw (third.put-3.ensures, second.put-2.ensures, first.put.ensures) (transfer_bytes_put start.args.bytes.now _ _ _ _ _ start.requires)
