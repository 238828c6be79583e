use native.Mathlib.Omega.{arith}
use Rattle.region_checking.proofs.Laws.{asked_none, asked_marked, asked_is, region_few, noted_after_lem}
use Rattle.region_checking.proofs.asking.ask.Goals as goal

pub returns-then-not-names : goal.returns-then-not-names
returns-then-not-names c = record { value = asked_none _ _ _ c.piece-arrival.ensures c.names.ensures c.if-not-names.true-raw; left = c.requires.noted }

pub returns-then-marked : goal.returns-then-marked
returns-then-marked c = record {
  value = asked_marked _ _ _ c.piece-arrival.ensures c.names.ensures c.if-not-names.false-raw _ c.requires.noted c.requires.i_in_bounds c.marked.ensures c.if-marked.true;
  left = c.requires.noted;
}

pub ask_region-requires : goal.ask_region-requires
ask_region-requires c = let l = region_few _ c.args.file.now c.args.i c.piece-arrival.ensures c.names.ensures c.if-not-names.false-raw c.read_region-region.ensures in let r = c.requires.room in record { len_bound = omega (arith, l, r.most); held = omega (arith, l, r.image); room = r.marks }

pub returns : goal.returns
returns c = record {
  value = asked_is _ _ _ c.piece-arrival.ensures c.names.ensures c.if-not-names.false-raw c.read_region-region.ensures c.ask_region.ensures.value;
  left = noted_after_lem _ _ _ _ _ c.requires.noted c.ask_region.ensures.left;
}
