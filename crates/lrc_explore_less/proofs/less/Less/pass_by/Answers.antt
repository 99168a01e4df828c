use Rattle.std.proofs.Common.{◌∙◌, sym, subst, arith}
use Rattle.lrc_orders_settling.specs.declared.step.Step.TheVariants.{Alone}
use Rattle.lrc_orders_table.specs.Rows.{row_count}
use Rattle.lrc_explore_less.specs.Passing.{HasPassed, IsTaken}
use Rattle.lrc_explore_less.proofs.Steps.{known_on, on_added, passed_so, still_passing}
use Rattle.lrc_explore_less.proofs.less.Less.pass_by.Goals as goal

pub take-requires-clause-within : goal.take-requires-clause-within
take-requires-clause-within c = omega (arith, c.requires.last)

pub returns-in_default-clause-passed : goal.returns-in_default-clause-passed
returns-in_default-clause-passed c =
    let task = c.args.task.now in
    let old = c.args.self.now in
    let new = c.take.new.self in
    let e = c.in-Ok.ensures in
    still_passing task old new c.args.first c.requires.passing e.sound e.widens e.opens
    (subst (IsTaken task old new c.args.last (Alone c.args.node)) c.in_default.is e.taken).rows

pub returns-clause-passed : goal.returns-clause-passed
returns-clause-passed c =
    let task = c.args.task.now in
    let old = c.args.self.now in
    let new = c.take.new.self in
    let e = c.in-Ok.ensures in
    let last = c.args.last in
    let node = c.args.node in
    let p = c.requires.passing in
    let t = subst (IsTaken task old new last (Alone node)) c.in-Some.is e.taken in
    let full = p.sound.found.reached.full last (omega (arith, c.requires.last)) in
    subst (HasPassed task new c.args.first) (sym c.pass_of.ensures)
    (passed_so task old new c.args.first last node (c.in-Some.next, c.in-Some.added) p e.sound e.widens e.opens c.requires.last t
    (known_on task old.found.table.rows new.found.table.rows last node e.widens.found.rows full c.requires.known))

pub returns-clause-on : goal.returns-clause-on
returns-clause-on c = λ is.
    let task = c.args.task.now in
    let old = c.args.self.now in
    let new = c.take.new.self in
    let e = c.in-Ok.ensures in
    let t = subst (IsTaken task old new c.args.last (Alone c.args.node)) c.in-Some.is e.taken in
    on_added (row_count old.found.table.rows) (row_count new.found.table.rows) (c.in-Some.next, c.in-Some.added) c.args.first t.added
    (sym c.pass_of.ensures ∙ is)

-- ---- where some node computes too long

pub returns-in-Err-TooMany-clause-passed : goal.returns-in-Err-TooMany-clause-passed
returns-in-Err-TooMany-clause-passed c =
    let task = c.args.task.now in
    let old = c.args.self.now in
    let l = c.in-Err-TooMany.ensures.long c.in-Err-TooMany.field-0-is in (
      still_passing task old c.take.new.self c.args.first c.requires.passing l.sound l.widens l.opens l.rows,
      (c.args.last, l.long),
    )

pub returns-in-Err-TooMany-clause-widens : goal.returns-in-Err-TooMany-clause-widens
returns-in-Err-TooMany-clause-widens c = (c.in-Err-TooMany.ensures.long c.in-Err-TooMany.field-0-is).widens
