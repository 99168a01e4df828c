use Rattle.std.proofs.Common.{ℕ, subst}
use Rattle.lrc_races_stream.specs.Heard.{HearsTo}
use Rattle.lrc_races_stream.proofs.HearingLemmas.{all_unwritten, heard_none, heard_still, to_unwritten}
use Rattle.lrc_races_stream.proofs.TellerLemmas.{cut_at, cut_unwritten, ended_so, ended_unwritten, ill_end, ill_end_unwritten, out_of_memory}
use Rattle.lrc_races_stream.proofs.teller.Teller.finish.Goals as goal

pub returns-in-Ok-write-clause-comes : goal.returns-in-Ok-write-clause-comes
returns-in-Ok-write-clause-comes g c form asked held left start u end =
    ended_so form asked held left start _ _ u _ c.in-Ok.status _ _ _ end c.clear.ensures.items c.in-Ok.ensures.ok c.deref.ensures.value
    c.in-Ok-write.ensures.ok

pub returns-in-Err-clause-comes : goal.returns-in-Err-clause-comes
returns-in-Err-clause-comes g c form asked held left start u end =
    ended_unwritten form asked held left start _ _ u _ c.in-Ok.status _ _ _ end c.clear.ensures.items c.in-Ok.ensures.ok c.deref.ensures.value
    c.in-Err.ensures.err

pub returns-in-Ok-write-2-clause-comes : goal.returns-in-Ok-write-2-clause-comes
returns-in-Ok-write-2-clause-comes g c form asked held left start u end =
    cut_at form asked held left start _ _ u _ c.in-Err-BadEvent.line c.in-Err-BadEvent.why _ _ _ _ end c.clear.ensures.items c.in-Err-BadEvent.field-0-is c.in-Err-BadEvent.ensures.bad
    c.deref-in-Err-BadEvent.ensures.value c.in-Ok-write-2.ensures.ok

pub returns-in-Err-write-clause-comes : goal.returns-in-Err-write-clause-comes
returns-in-Err-write-clause-comes g c form asked held left start u end =
    cut_unwritten form asked held left start _ _ u _ c.in-Err-BadEvent.line c.in-Err-BadEvent.why _ _ _ _ end c.clear.ensures.items c.in-Err-BadEvent.field-0-is c.in-Err-BadEvent.ensures.bad
    c.deref-in-Err-BadEvent.ensures.value c.in-Err-write.ensures.err

pub returns-in-Ok-write-3-clause-comes : goal.returns-in-Ok-write-3-clause-comes
returns-in-Ok-write-3-clause-comes g c form asked held left start u end =
    ill_end form asked held left start _ _ u _ c.in-Err-IllFormed.ill _ _ _ _ end c.clear.ensures.items c.in-Err-IllFormed.field-0-is c.in-Err-IllFormed.ensures.bad
    c.deref-in-Err-IllFormed.ensures.value c.in-Ok-write-3.ensures.ok

pub returns-in-Err-write-2-clause-comes : goal.returns-in-Err-write-2-clause-comes
returns-in-Err-write-2-clause-comes g c form asked held left start u end =
    ill_end_unwritten form asked held left start _ _ u _ c.in-Err-IllFormed.ill _ _ _ _ end c.clear.ensures.items c.in-Err-IllFormed.field-0-is c.in-Err-IllFormed.ensures.bad
    c.deref-in-Err-IllFormed.ensures.value c.in-Err-write-2.ensures.err

pub returns-in-Err-NoMemory-clause-comes : goal.returns-in-Err-NoMemory-clause-comes
returns-in-Err-NoMemory-clause-comes g c form asked held left start u end = out_of_memory form asked held left start _ _ u

pub returns-then-not-end-clause-comes : goal.returns-then-not-end-clause-comes
returns-then-not-end-clause-comes g c form asked held left start u end = out_of_memory form asked held left start _ _ u

pub returns-then-not-end_to-clause-comes : goal.returns-then-not-end_to-clause-comes
returns-then-not-end_to-clause-comes g c form asked held left start u end = out_of_memory form asked held left start _ _ u

pub returns-then-not-end_to-2-clause-comes : goal.returns-then-not-end_to-2-clause-comes
returns-then-not-end_to-2-clause-comes g c form asked held left start u end = out_of_memory form asked held left start _ _ u

-- ---- what is noted

pub returns-then-not-end-clause-hears : goal.returns-then-not-end-clause-hears
returns-then-not-end-clause-hears g c form held left start h end = heard_still h c.if-not-end.ensures.untold

pub returns-then-not-end_to-clause-hears : goal.returns-then-not-end_to-clause-hears
returns-then-not-end_to-clause-hears g c form held left start h end = heard_still h c.if-not-end_to.ensures.untold

pub returns-then-not-end_to-2-clause-hears : goal.returns-then-not-end_to-2-clause-hears
returns-then-not-end_to-2-clause-hears g c form held left start h end = heard_still h c.if-not-end_to-2.ensures.untold

pub returns-in-Ok-write-clause-hears : goal.returns-in-Ok-write-clause-hears
returns-in-Ok-write-clause-hears g c form held left start h end = c.if-not-end.ensures.heard form held left start h end

pub returns-in-Err-clause-hears : goal.returns-in-Err-clause-hears
returns-in-Err-clause-hears g c form held left start h end = all_unwritten (c.if-not-end.ensures.heard form held left start h end)

pub returns-in-Ok-write-2-clause-hears : goal.returns-in-Ok-write-2-clause-hears
returns-in-Ok-write-2-clause-hears g c form held left start h end =
    subst (λ (count : ℕ). HearsTo form held start (g.E.Write.contents c.end_to.new.err) count) c.saturating_sub.ensures
    (c.if-not-end_to.ensures.heard form held left start h end)

pub returns-in-Err-write-clause-hears : goal.returns-in-Err-write-clause-hears
returns-in-Err-write-clause-hears g c form held left start h end = to_unwritten (c.if-not-end_to.ensures.heard form held left start h end)

pub returns-in-Ok-write-3-clause-hears : goal.returns-in-Ok-write-3-clause-hears
returns-in-Ok-write-3-clause-hears g c form held left start h end = c.if-not-end_to-2.ensures.heard form held left start h end

pub returns-in-Err-write-2-clause-hears : goal.returns-in-Err-write-2-clause-hears
returns-in-Err-write-2-clause-hears g c form held left start h end = to_unwritten (c.if-not-end_to-2.ensures.heard form held left start h end)

pub returns-in-Err-NoMemory-clause-hears : goal.returns-in-Err-NoMemory-clause-hears
returns-in-Err-NoMemory-clause-hears g c form held left start h end = heard_none h
