use mathlib.Core.Path.{sym, ◌∙◌}
use Rattle.uf2_checks.proofs.Laws.{window_flash, window_main, window_xip, window_none}
use Rattle.uf2_checks.proofs.block_kind.window_of.Goals as goal

pub returns-then-in_window : goal.returns-then-in_window
returns-then-in_window c = sym (window_flash _ _ (sym c.in_window.ensures ∙ c.if-in_window.true))

pub returns-then-in_window-2 : goal.returns-then-in_window-2
returns-then-in_window-2 c =
    let f = sym c.in_window.ensures ∙ c.if-in_window.false in
    sym (window_main _ _ f (sym c.in_window-2.ensures ∙ c.if-in_window-2.true))

pub returns-then-in_window-3 : goal.returns-then-in_window-3
returns-then-in_window-3 c =
    let d = c in
    let f = sym d.in_window.ensures ∙ d.if-in_window.false in
    let m = sym d.in_window-2.ensures ∙ d.if-in_window-2.false in
    sym (window_xip _ _ f m (sym c.in_window-3.ensures ∙ c.if-in_window-3.true))

pub returns : goal.returns
returns c =
    let d = c in
    let f = sym d.in_window.ensures ∙ d.if-in_window.false in
    let m = sym d.in_window-2.ensures ∙ d.if-in_window-2.false in
    sym (window_none _ _ f m (sym c.in_window-3.ensures ∙ c.if-in_window-3.false))
