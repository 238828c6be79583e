use Rattle.partapi.proofs.parts.Laws.{write_other, write_all}
use Rattle.partapi.proofs.parts.write_part.Goals as goal

pub returns-then-bytes-ne-PART : goal.returns-then-bytes-ne-PART
returns-then-bytes-ne-PART c =
    write_other _ _ c.if-bytes-ne-PART.true

pub returns : goal.returns
returns c =
    let third = c in
    let second = third in
    let first = second in
    let written = first in
    let asked = written in
    rw (third.put-3.ensures, second.put-2.ensures, first.put.ensures) (write_all _ _ asked.if-bytes-ne-PART.false written.write_report.ensures)
