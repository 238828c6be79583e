use Rattle.checkapi.specs.CheckBytes.{numbers_over}
use Rattle.checkapi.proofs.answer_bytes.put_numbers.Goals as goal

pub returns : goal.returns
unfolding numbers_over
returns c = rw (c.put-4.ensures, c.put-3.ensures, c.put-2.ensures, c.put.ensures)
