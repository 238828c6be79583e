use Rattle.uf2_known.proofs.Laws.{all_known}
use Rattle.call_bytes.proofs.known.Laws.{rooms_without}
use Rattle.call_bytes.proofs.known.known_without.Goals as goal

pub returns : goal.returns
returns c = record {
  value = all_known _ _ _ _ _ c.lengths_right-right.ensures c.good-good.ensures c.field-family.ensures (rooms_without _ c.requires _ _ c.place-flash.ensures.value c.may_go_to_ram-ram.ensures);
  low = c.place-flash.ensures.low;
}
