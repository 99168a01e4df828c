use Rattle.std.proofs.Common.{List, ℕ, subst, sym, take}
use Rattle.lrc_shell_sources.specs.Known.{IsReadOff}
use Rattle.lrc_races_stream.specs.Heard.{HearsTo}
use Rattle.lrc_races_stream.proofs.HearingLemmas.{heard_none, heard_still, heard_unwritten, to_unwritten}
use Rattle.lrc_races_stream.proofs.TellerLemmas.{broken_at, broken_unwritten, gone_on, gone_unwritten, ill_at, ill_unwritten, out_of_memory}
use Rattle.lrc_races_stream.proofs.teller.Teller.take.Goals as goal

pub returns-in-Ok-write-clause-comes : goal.returns-in-Ok-write-clause-comes
returns-in-Ok-write-clause-comes g c form asked held left after start u off =
    gone_on form asked held left start _ _ u after _ _ _ _ _ _
    (subst (λ (bytes : List ℕ). IsReadOff left (take c.args.count bytes) after) (sym c.deref.ensures.value) off) c.clear.ensures.items c.in-Ok.ensures.ok
    c.deref-in-Ok.ensures.value c.in-Ok-write.ensures.ok

pub returns-in-Err-clause-comes : goal.returns-in-Err-clause-comes
returns-in-Err-clause-comes g c form asked held left after start u off =
    gone_unwritten form asked held left start _ _ u after _ _ _ _ _ _
    (subst (λ (bytes : List ℕ). IsReadOff left (take c.args.count bytes) after) (sym c.deref.ensures.value) off) c.clear.ensures.items c.in-Ok.ensures.ok
    c.deref-in-Ok.ensures.value c.in-Err.ensures.err

pub returns-in-Ok-write-2-clause-comes : goal.returns-in-Ok-write-2-clause-comes
returns-in-Ok-write-2-clause-comes g c form asked held left after start u off =
    broken_at form asked held left start _ _ u after _ c.in-Err-BadEvent.line c.in-Err-BadEvent.why _ _ _ _ _
    (subst (λ (bytes : List ℕ). IsReadOff left (take c.args.count bytes) after) (sym c.deref.ensures.value) off) c.clear.ensures.items
    c.in-Err-BadEvent.field-0-is c.in-Err-BadEvent.ensures.bad c.deref-in-Err-BadEvent.ensures.value c.in-Ok-write-2.ensures.ok

pub returns-in-Err-write-clause-comes : goal.returns-in-Err-write-clause-comes
returns-in-Err-write-clause-comes g c form asked held left after start u off =
    broken_unwritten form asked held left start _ _ u after _ c.in-Err-BadEvent.line c.in-Err-BadEvent.why _ _ _ _ _
    (subst (λ (bytes : List ℕ). IsReadOff left (take c.args.count bytes) after) (sym c.deref.ensures.value) off) c.clear.ensures.items
    c.in-Err-BadEvent.field-0-is c.in-Err-BadEvent.ensures.bad c.deref-in-Err-BadEvent.ensures.value c.in-Err-write.ensures.err

pub returns-in-Ok-write-3-clause-comes : goal.returns-in-Ok-write-3-clause-comes
returns-in-Ok-write-3-clause-comes g c form asked held left after start u off =
    ill_at form asked held left start _ _ u after _ c.in-Err-IllFormed.ill _ _ _ _ _
    (subst (λ (bytes : List ℕ). IsReadOff left (take c.args.count bytes) after) (sym c.deref.ensures.value) off) c.clear.ensures.items
    c.in-Err-IllFormed.field-0-is c.in-Err-IllFormed.ensures.bad c.deref-in-Err-IllFormed.ensures.value c.in-Ok-write-3.ensures.ok

pub returns-in-Err-write-2-clause-comes : goal.returns-in-Err-write-2-clause-comes
returns-in-Err-write-2-clause-comes g c form asked held left after start u off =
    ill_unwritten form asked held left start _ _ u after _ c.in-Err-IllFormed.ill _ _ _ _ _
    (subst (λ (bytes : List ℕ). IsReadOff left (take c.args.count bytes) after) (sym c.deref.ensures.value) off) c.clear.ensures.items
    c.in-Err-IllFormed.field-0-is c.in-Err-IllFormed.ensures.bad c.deref-in-Err-IllFormed.ensures.value c.in-Err-write-2.ensures.err

pub returns-in-Err-NoMemory-clause-comes : goal.returns-in-Err-NoMemory-clause-comes
returns-in-Err-NoMemory-clause-comes g c form asked held left after start u off = out_of_memory form asked held left start _ _ u

pub returns-then-not-take-clause-comes : goal.returns-then-not-take-clause-comes
returns-then-not-take-clause-comes g c form asked held left after start u off = out_of_memory form asked held left start _ _ u

pub returns-then-not-take_to-clause-comes : goal.returns-then-not-take_to-clause-comes
returns-then-not-take_to-clause-comes g c form asked held left after start u off = out_of_memory form asked held left start _ _ u

pub returns-then-not-take_to-2-clause-comes : goal.returns-then-not-take_to-2-clause-comes
returns-then-not-take_to-2-clause-comes g c form asked held left after start u off = out_of_memory form asked held left start _ _ u

-- ---- what is noted

pub returns-then-not-take-clause-hears : goal.returns-then-not-take-clause-hears
returns-then-not-take-clause-hears g c form held left after start h off = heard_still h c.if-not-take.ensures.untold

pub returns-then-not-take_to-clause-hears : goal.returns-then-not-take_to-clause-hears
returns-then-not-take_to-clause-hears g c form held left after start h off = heard_still h c.if-not-take_to.ensures.untold

pub returns-then-not-take_to-2-clause-hears : goal.returns-then-not-take_to-2-clause-hears
returns-then-not-take_to-2-clause-hears g c form held left after start h off = heard_still h c.if-not-take_to-2.ensures.untold

pub returns-in-Ok-write-clause-hears : goal.returns-in-Ok-write-clause-hears
returns-in-Ok-write-clause-hears g c form held left after start h off =
    c.if-not-take.ensures.heard form held left after start h
    (subst (λ (bytes : List ℕ). IsReadOff left (take c.args.count bytes) after) (sym c.deref.ensures.value) off)

pub returns-in-Err-clause-hears : goal.returns-in-Err-clause-hears
returns-in-Err-clause-hears g c form held left after start h off =
    heard_unwritten (c.if-not-take.ensures.heard form held left after start h
    (subst (λ (bytes : List ℕ). IsReadOff left (take c.args.count bytes) after) (sym c.deref.ensures.value) off))

pub returns-in-Ok-write-2-clause-hears : goal.returns-in-Ok-write-2-clause-hears
returns-in-Ok-write-2-clause-hears g c form held left after start h off =
    subst (λ (count : ℕ). HearsTo form held start (g.E.Write.contents c.take_to.new.err) count) c.saturating_sub.ensures
    (c.if-not-take_to.ensures.heard form held left after start h
    (subst (λ (bytes : List ℕ). IsReadOff left (take c.args.count bytes) after) (sym c.deref.ensures.value) off))

pub returns-in-Err-write-clause-hears : goal.returns-in-Err-write-clause-hears
returns-in-Err-write-clause-hears g c form held left after start h off =
    to_unwritten (c.if-not-take_to.ensures.heard form held left after start h
    (subst (λ (bytes : List ℕ). IsReadOff left (take c.args.count bytes) after) (sym c.deref.ensures.value) off))

pub returns-in-Ok-write-3-clause-hears : goal.returns-in-Ok-write-3-clause-hears
returns-in-Ok-write-3-clause-hears g c form held left after start h off =
    c.if-not-take_to-2.ensures.heard form held left after start h
    (subst (λ (bytes : List ℕ). IsReadOff left (take c.args.count bytes) after) (sym c.deref.ensures.value) off)

pub returns-in-Err-write-2-clause-hears : goal.returns-in-Err-write-2-clause-hears
returns-in-Err-write-2-clause-hears g c form held left after start h off =
    to_unwritten (c.if-not-take_to-2.ensures.heard form held left after start h
    (subst (λ (bytes : List ℕ). IsReadOff left (take c.args.count bytes) after) (sym c.deref.ensures.value) off))

pub returns-in-Err-NoMemory-clause-hears : goal.returns-in-Err-NoMemory-clause-hears
returns-in-Err-NoMemory-clause-hears g c form held left after start h off = heard_none h
