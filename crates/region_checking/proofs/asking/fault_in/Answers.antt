use Rattle.region_checking.proofs.Laws.{stray_told, bare_is, bare_told, digest_told, right_told}
use Rattle.region_checking.proofs.asking.fault_in.Goals as goal

pub returns-in-Some : goal.returns-in-Some
returns-in-Some c = stray_told _ _ _ c.in-Some.ensures

pub returns-then-bare-sectors : goal.returns-then-bare-sectors
returns-then-bare-sectors c = bare_told _ _ _ c.first_stray.ensures c.in_default.not-Some (bare_is _ _ c.requires.room c.requires.len_bound c.clear.ensures c.mark_sectors.ensures c.first_missing-bare.ensures) c.if-bare-sectors.true

pub returns-then-digest_right : goal.returns-then-digest_right
returns-then-digest_right c = right_told _ _ _ c.first_stray.ensures c.in_default.not-Some (bare_is _ _ c.requires.room c.requires.len_bound c.clear.ensures c.mark_sectors.ensures c.first_missing-bare.ensures) c.if-bare-sectors.false c.digest_right.ensures c.if-digest_right.true

pub returns : goal.returns
returns c = digest_told _ _ _ c.first_stray.ensures c.in_default.not-Some (bare_is _ _ c.requires.room c.requires.len_bound c.clear.ensures c.mark_sectors.ensures c.first_missing-bare.ensures) c.if-bare-sectors.false c.digest_right.ensures c.if-digest_right.false
