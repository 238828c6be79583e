use Rattle.std.proofs.Common.{◌+◌, get_or, sym, ◌∙◌, arith, length-take-le, get_or-take}
use Rattle.ihex_record.proofs.record_bytes.InBytes.{in_too_long, in_bad_length, in_bad_sum, in_good}
use Rattle.ihex_record.proofs.record_bytes.read_bytes.Goals as goal

pub overflow_cast-used : goal.overflow_cast-used
overflow_cast-used c = omega (arith, c.type_inv.room 0)

pub returns-then-used-gt-MAX : goal.returns-then-used-gt-MAX
returns-then-used-gt-MAX c = c.refusal.ensures ∙ in_too_long _ _ c.if-used-gt-MAX.true

pub returns-then-n-used : goal.returns-then-n-used
returns-then-n-used c = c.refusal-then-n-used.ensures ∙ in_bad_length _ _ c.if-used-gt-MAX.false c.if-n-used.true

pub slice_bounds-all-end : goal.slice_bounds-all-end
slice_bounds-all-end c = sym (length-take-le _ _ (omega arith))

pub returns-then-sum-ne0 : goal.returns-then-sum-ne0
returns-then-sum-ne0 c =
    let l = c in
    c.refusal-then-sum-ne0.ensures ∙ in_bad_sum _ _ l.if-used-gt-MAX.false l.if-n-used.false (λ q. c.if-sum-ne0.true (c.sum.ensures ∙ q))

pub good_line-requires : goal.good_line-requires
good_line-requires c =
    let l = c.args.bytes.now in
    (sym (get_or-take (get_or l 0 0 + 5) l 0 0 (omega arith)), c.if-used-gt-MAX.false, omega (arith, length-take-le (get_or l 0 0 + 5) l (omega arith)))

pub returns : goal.returns
returns c =
    let l = c in
    c.good_line.ensures ∙ in_good _ _ l.if-used-gt-MAX.false l.if-n-used.false (sym c.sum.ensures ∙ c.if-sum-ne0.false)
