use Rattle.uf2_make.specs.Uf2lead.{first_over, last_over}
use Rattle.uf2_make.proofs.lead.put_fields.Goals as goal

pub returns : goal.returns
unfolding first_over last_over
returns c =
    rw (
      c.put-8.ensures,
      c.put-7.ensures,
      c.put-6.ensures,
      c.put-5.ensures,
      c.put-4.ensures,
      c.put-3.ensures,
      c.put-2.ensures,
      c.put.ensures,
    )
