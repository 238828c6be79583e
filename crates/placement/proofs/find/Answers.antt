use mathlib.Core.Path.{sym, ap, ◌∙◌}
use mathlib.Core.Bool.{Bool}
use native.Mathlib.Omega.{arith}
use Rattle.laws.specs.Numbered.{numbered}
use Rattle.placement.specs.Place.{whole_if, place_of_choice, place_number}
use Rattle.placement.proofs.Laws.{place_absolute, place_rp2040, place_whole, place_table, used_most, chosen_is, entry_below}
use Rattle.placement.proofs.find.Goals as goal

pub returns-then-family-eq-ABSOLUTE : goal.returns-then-family-eq-ABSOLUTE
returns-then-family-eq-ABSOLUTE c = record { result_value = ap (numbered place_number) (c.whole_if.ensures.value ∙ sym (place_absolute _ _ _ c.if-family-eq-ABSOLUTE.true)); low = c.whole_if.ensures.low }

pub returns-then-family-eq-RP2040 : goal.returns-then-family-eq-RP2040
returns-then-family-eq-RP2040 c = record { result_value = ap (numbered place_number) (sym (place_rp2040 _ _ _ c.if-family-eq-RP2040.true)); low = tt }

pub returns-then-count-eq0 : goal.returns-then-count-eq0
returns-then-count-eq0 c = record {
  result_value =
      ap (numbered place_number) (c.whole_if-then-count-eq0.ensures.value
      ∙ ap (λ (b : Bool). whole_if b c.args.flash_len) c.gets_whole.ensures
      ∙ sym (place_whole _ _ _ c.if-family-eq-ABSOLUTE.false c.if-family-eq-RP2040.false c.if-count-eq0.true));
  low = c.whole_if-then-count-eq0.ensures.low;
}

pub choose-requires : goal.choose-requires
choose-requires c = omega (arith, c.used_count.ensures, used_most c.args.settings.count)

pub offset_bounds-table-k : goal.offset_bounds-table-k
offset_bounds-table-k c =
    let d = c in
    let x = d.args in
    let h = chosen_is x.settings x.family _ _ d.choose.ensures d.used_count.ensures d.query-w.ensures in
    let l = entry_below x.settings x.family (sym h ∙ c.in-Some.is) in
    omega arith

pub bounds-table-k : goal.bounds-table-k
bounds-table-k c =
    let d = c in
    let x = d.args in
    let h = chosen_is x.settings x.family _ _ d.choose.ensures d.used_count.ensures d.query-w.ensures in
    let l = entry_below x.settings x.family (sym h ∙ c.in-Some.is) in
    omega arith

pub returns-in-None : goal.returns-in-None
returns-in-None c =
    let d = c in
    let x = d.args in
    let h = chosen_is x.settings x.family _ _ d.choose.ensures d.used_count.ensures d.query-w.ensures in
    let e = ap (place_of_choice x.settings.table) (sym h ∙ c.in-None.is) in
    record { result_value = ap (numbered place_number) (sym (place_table _ _ _ d.if-family-eq-ABSOLUTE.false d.if-family-eq-RP2040.false d.if-count-eq0.false ∙ e)); low = tt }

pub returns-in-Some : goal.returns-in-Some
returns-in-Some c =
    let d = c in
    let x = d.args in
    let h = chosen_is x.settings x.family _ _ d.choose.ensures d.used_count.ensures d.query-w.ensures in
    let e = ap (place_of_choice x.settings.table) (sym h ∙ c.in-Some.is) in
    record { result_value = ap (numbered place_number) (c.bytes_of.ensures.value ∙ sym (place_table _ _ _ d.if-family-eq-ABSOLUTE.false d.if-family-eq-RP2040.false d.if-count-eq0.false ∙ e)); low = c.bytes_of.ensures.low }
