use Rattle.std.proofs.Common.{length, ◌∙◌, arith}
use Rattle.hex_digits.proofs.Digits.{decoding, rest}
use Rattle.ihex_record.proofs.Checks.{shaped}
use Rattle.ihex_record.proofs.record_line.Decoded.{is_bad_at, is_all_good, is_decoded}
use Rattle.ihex_record.proofs.record_line.read_digits.Goals as goal

pub overflow_cast-bad : goal.overflow_cast-bad
overflow_cast-bad c =
    let s = c in
    omega (arith, (shaped (length s.args.t.now) s.requires.2).most)

pub returns-then-bad-n : goal.returns-then-bad-n
returns-then-bad-n c =
    let d = c in
    let s = d in
    c.refusal.ensures ∙ is_bad_at s.args.t.now (λ q. omega arith) s.requires.1 s.requires.2 d.judge-bad.ensures.value c.if-bad-n.true

pub returns : goal.returns
returns c =
    let d = c in
    let s = d in
    let t = s.args.t.now in
    let e = is_all_good t (λ q. omega arith) s.requires.1 s.requires.2 d.judge-bad.ensures.value c.if-bad-n.false in
    c.read_bytes.ensures ∙ is_decoded t (λ q. omega arith) s.requires.1 s.requires.2 _ e d.judge-bad.auto.out (rw (rest 1 t) at (decoding _ _ d.judge-bad.ensures.bytes))
