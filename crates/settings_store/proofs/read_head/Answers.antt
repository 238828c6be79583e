use mathlib.Core.Path.{refl, sym, ◌∙◌}
use native.Mathlib.Omega.{arith}
use Rattle.settings_store.proofs.Cases.{scanned_none, scanned_some, tested, read_40, read_many, read_41, read_42_entry, read_42, read_2, read_good}
use Rattle.settings_store.proofs.write.Cases.{is_off, is_on_lem, no_restart_few}
use Rattle.settings_store.proofs.read_head.Goals as goal

pub returns-then-not-version : goal.returns-then-not-version
returns-then-not-version c =
    let a = c.args in
    read_40 a.b.now a.flash_len a.x c.if-not-version.true-raw

pub returns-then-n-gt-ENTRIES : goal.returns-then-n-gt-ENTRIES
returns-then-n-gt-ENTRIES c =
    let a = c.args in
    read_many a.b.now a.flash_len a.x c.if-not-version.false-raw (omega arith)

pub returns-then-b-n : goal.returns-then-b-n
returns-then-b-n c =
    let a = c.args in
    read_41 a.b.now a.flash_len a.x c.if-not-version.false-raw (omega arith) (λ e. omega (arith, e))

pub returns-in_default : goal.returns-in_default
returns-in_default c =
    let a = c.args in
    read_42_entry a.b.now a.flash_len a.x c.if-not-version.false-raw (omega arith) (omega arith) refl refl refl (scanned_none _ _ c.scan.ensures c.in_default.is)

pub returns-then-x-version : goal.returns-then-x-version
returns-then-x-version c =
    let a = c.args in
    let t = scanned_some _ _ c.scan.ensures c.in-Some.is in
    read_42 a.b.now a.flash_len a.x c.if-not-version.false-raw (omega arith) (omega arith) t.1 (sym t.0) (c.no_restart_in.ensures ∙ no_restart_few _ _ (omega arith)) (tested a.x _ ∙ c.if-x-version.true)

pub returns-then-not-good : goal.returns-then-not-good
returns-then-not-good c =
    let a = c.args in
    let t = scanned_some _ _ c.scan.ensures c.in-Some.is in
    read_2 a.b.now a.flash_len a.x c.if-not-version.false-raw (omega arith) (omega arith) t.1 (sym t.0) (c.no_restart_in.ensures ∙ no_restart_few _ _ (omega arith)) (tested a.x _ ∙ c.if-x-version.false) c.settings_of-settings.ensures (is_off _ c.good.ensures c.if-not-good.true-raw)

pub returns : goal.returns
returns c =
    let a = c.args in
    let t = scanned_some _ _ c.scan.ensures c.in-Some.is in
    read_good a.b.now a.flash_len a.x c.if-not-version.false-raw (omega arith) (omega arith) t.1 (sym t.0) (c.no_restart_in.ensures ∙ no_restart_few _ _ (omega arith)) (tested a.x _ ∙ c.if-x-version.false) c.settings_of-settings.ensures (is_on_lem _ c.good.ensures c.if-not-good.false-raw)
