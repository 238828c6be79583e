use Rattle.call_bytes.proofs.known.Laws.{place_absolute_without, place_other_without}
use Rattle.call_bytes.proofs.known.place.Goals as goal

pub returns-then-family-eq-ABSOLUTE : goal.returns-then-family-eq-ABSOLUTE
returns-then-family-eq-ABSOLUTE c = record {
  value = place_absolute_without _ c.requires _ c.if-family-eq-ABSOLUTE.true c.on.ensures c.whole_if.ensures.value;
  low = c.whole_if.ensures.low;
}

pub returns : goal.returns
returns c = record {
  value = place_other_without _ c.requires _ c.if-family-eq-ABSOLUTE.false c.on-arm.ensures c.on-riscv.ensures c.gets_whole.ensures c.whole_if-2.ensures.value;
  low = c.whole_if-2.ensures.low;
}
