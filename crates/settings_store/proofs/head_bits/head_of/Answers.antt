use mathlib.Core.Path.{◌≡◌, ap, ◌∙◌}
use native.Mathlib.Omega.{arith}
use Rattle.std.specs.Int.{from_bool}
use Rattle.laws.specs.Packing.{packed, total, bit}
use Rattle.laws.proofs.Widths.{bit_lt}
use Rattle.partitions.proofs.Numbers.{from_bit, from_arch, arch_low}
use Rattle.settings_store.specs.Head.{arch_bit, head_fields}
use Rattle.settings_store.proofs.head_bits.Laws.{version_by_lem}
use Rattle.settings_store.proofs.head_bits.head_of.Goals as goal

pub overflow_cast-result : goal.overflow_cast-result
overflow_cast-result c =
    let s = c.args.s in
    let r = c.args.no_restart in
    let e = ap from_bool c.eq.ensures ∙ from_arch s.current in
    omega (
      arith,
      from_bit s.auto_switch,
      from_bit s.absolute,
      from_bit s.arm,
      from_bit s.riscv,
      e,
      from_bit r,
      bit_lt s.auto_switch,
      bit_lt s.absolute,
      bit_lt s.arm,
      bit_lt s.riscv,
      arch_low s.current,
      bit_lt r,
    )

pub returns : goal.returns
unfolding head_fields packed total
returns c =
    let start = c in
    let s = start.args.s in
    let r = start.args.no_restart in
    let a : c.from-a.result ≡ bit s.auto_switch = c.from-a.ensures ∙ from_bit _ in
    let b : c.from-b.result ≡ bit s.absolute = c.from-b.ensures ∙ from_bit _ in
    let m : c.from-c.result ≡ bit s.arm = c.from-c.ensures ∙ from_bit _ in
    let d : c.from-d.result ≡ bit s.riscv = c.from-d.ensures ∙ from_bit _ in
    let e : c.from-e.result ≡ arch_bit s.current = c.from-e.ensures ∙ ap from_bool c.eq.ensures ∙ from_arch _ in
    let n : c.from-n.result ≡ s.count = c.from-n.ensures in
    let v : c.from-version.result ≡ bit r = c.from-version.ensures ∙ from_bit _ in
    rw (version_by_lem r) (omega arith)
