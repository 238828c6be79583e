use Rattle.ihex_write.specs.Put.{put_record}
use Rattle.std.proofs.Common.{ℕ, ap, sym, ◌∙◌, arith, replicate, length-take-le}
use Rattle.std.proofs.lemmas.List.{take-replicate, length-replicate}
use Rattle.ihex_write.proofs.Lines.{put_record_line}
use Rattle.ihex_write.proofs.filling.put_filling.Goals as goal

pub slice_bounds-put_record-end : goal.slice_bounds-put_record-end
slice_bounds-put_record-end c = sym (length-take-le c.args.n (replicate 32 255) c.requires)

pub returns : goal.returns
returns c =
    let a = c.args in
    let same = take-replicate a.n 32 255 c.requires in
    c.put_record.ensures ∙ ap (put_record a.out.now a.at a.kind 0) same ∙ put_record_line a.out.now a.at a.kind 0 _ (omega (arith, length-replicate {A = ℕ} a.n 255))
