use Rattle.std.proofs.Common.{sym, subst}
use Rattle.std.specs.Prelude.{IfOk, MatchOption}
use Rattle.lrc_orders_settling.specs.declared.step.Step.{Step}
use Rattle.lrc_orders_settling.specs.declared.step.Step.TheVariants.{Alone, Together}
use Rattle.lrc_explore.specs.Reached.{CannotTakeAt, LeadsTo}
use Rattle.lrc_explore.specs.Traps.{ShowsTrapAt, led_traps}
use Rattle.lrc_explore.proofs.Stepping.{faults_on, found_on, key_at, long_on, taken_from, taken_on, traps_on}
use Rattle.lrc_explore.proofs.task.Found.row_after.Goals as goal

pub alone-requires-clause-table : goal.alone-requires-clause-table
alone-requires-clause-table c = c.requires.found.table c.means-means.result c.means-means.ensures

pub alone-requires-clause-from : goal.alone-requires-clause-from
alone-requires-clause-from c =
    let r = c.requires in (
      key_at c.args.task.now c.args.self.now c.args.place c.row-row.result r.found r.within c.row-row.ensures,
      taken_from c.args.task.now c.args.self.now c.args.place c.row-row.result r.found r.within c.row-row.ensures c.means-means.result c.means-means.ensures,
    )

pub returns-in-Alone-clause-found : goal.returns-in-Alone-clause-found
returns-in-Alone-clause-found c =
    let r = c.requires in
    let e = c.alone.ensures in
    found_on c.args.task.now c.means-means.result c.args.self.now c.alone.new.self c.args.place c.row-row.result (Alone c.in-Alone.node) c.means-means.ensures r.found
    r.within c.row-row.ensures c.alone.result e.table e.keeps

pub returns-in-Alone-clause-taken : goal.returns-in-Alone-clause-taken
returns-in-Alone-clause-taken c =
    let r = c.requires in
    let e = c.alone.ensures in
    let task = c.args.task.now in
    let new = c.alone.new.self in
    let place = c.args.place in
    let out = c.alone.result in
    let P : Step → Type 0 = λ s. IfOk out (λ o. MatchOption o (CannotTakeAt task new.rows place s) (λ led. LeadsTo task new.rows place s led.row)) in
    subst P (sym c.in-Alone.is)
    (taken_on task c.means-means.result c.args.self.now new place c.row-row.result (Alone c.in-Alone.node) c.means-means.ensures r.found r.within c.row-row.ensures out
    e.keeps e.taken)

pub returns-in-Alone-clause-traps : goal.returns-in-Alone-clause-traps
returns-in-Alone-clause-traps c =
    let r = c.requires in
    let e = c.alone.ensures in
    let task = c.args.task.now in
    let new = c.alone.new.self in
    let place = c.args.place in
    let out = c.alone.result in
    let P : Step → Type 0 = λ s. IfOk out (λ o. ShowsTrapAt task new.rows place s (led_traps o)) in
    subst P (sym c.in-Alone.is)
    (traps_on task c.means-means.result c.args.self.now new place c.row-row.result (Alone c.in-Alone.node) c.means-means.ensures r.found r.within c.row-row.ensures out e.keeps e.taken)

pub returns-in-Alone-clause-faults : goal.returns-in-Alone-clause-faults
returns-in-Alone-clause-faults c =
    let r = c.requires in
    let e = c.alone.ensures in
    faults_on c.args.task.now c.means-means.result c.args.self.now c.alone.new.self c.args.place c.row-row.result (Alone c.in-Alone.node) c.means-means.ensures r.found
    r.within c.row-row.ensures c.alone.result e.faults

pub together-requires-clause-table : goal.together-requires-clause-table
together-requires-clause-table c = c.requires.found.table c.means-means.result c.means-means.ensures

pub together-requires-clause-from : goal.together-requires-clause-from
together-requires-clause-from c =
    let r = c.requires in (
      key_at c.args.task.now c.args.self.now c.args.place c.row-row.result r.found r.within c.row-row.ensures,
      taken_from c.args.task.now c.args.self.now c.args.place c.row-row.result r.found r.within c.row-row.ensures c.means-means.result c.means-means.ensures,
    )

pub returns-in-Together-clause-found : goal.returns-in-Together-clause-found
returns-in-Together-clause-found c =
    let r = c.requires in
    let e = c.together.ensures in
    found_on c.args.task.now c.means-means.result c.args.self.now c.together.new.self c.args.place c.row-row.result Together c.means-means.ensures r.found
    r.within c.row-row.ensures c.together.result e.table e.keeps

pub returns-in-Together-clause-taken : goal.returns-in-Together-clause-taken
returns-in-Together-clause-taken c =
    let r = c.requires in
    let e = c.together.ensures in
    let task = c.args.task.now in
    let new = c.together.new.self in
    let place = c.args.place in
    let out = c.together.result in
    let P : Step → Type 0 = λ s. IfOk out (λ o. MatchOption o (CannotTakeAt task new.rows place s) (λ led. LeadsTo task new.rows place s led.row)) in
    subst P (sym c.in-Together.is)
    (taken_on task c.means-means.result c.args.self.now new place c.row-row.result Together c.means-means.ensures r.found r.within c.row-row.ensures out
    e.keeps e.taken)

pub returns-in-Together-clause-traps : goal.returns-in-Together-clause-traps
returns-in-Together-clause-traps c =
    let r = c.requires in
    let e = c.together.ensures in
    let task = c.args.task.now in
    let new = c.together.new.self in
    let place = c.args.place in
    let out = c.together.result in
    let P : Step → Type 0 = λ s. IfOk out (λ o. ShowsTrapAt task new.rows place s (led_traps o)) in
    subst P (sym c.in-Together.is)
    (traps_on task c.means-means.result c.args.self.now new place c.row-row.result Together c.means-means.ensures r.found r.within c.row-row.ensures out e.keeps e.taken)

pub returns-in-Together-clause-faults : goal.returns-in-Together-clause-faults
returns-in-Together-clause-faults c =
    let r = c.requires in
    let e = c.together.ensures in
    faults_on c.args.task.now c.means-means.result c.args.self.now c.together.new.self c.args.place c.row-row.result Together c.means-means.ensures r.found
    r.within c.row-row.ensures c.together.result e.faults

pub returns-in-Alone-clause-long : goal.returns-in-Alone-clause-long
returns-in-Alone-clause-long c =
    let r = c.requires in
    let e = c.alone.ensures in
    long_on c.args.task.now c.means-means.result c.args.self.now c.alone.new.self c.args.place c.row-row.result
    (Alone c.in-Alone.node) c.means-means.ensures r.found r.within c.row-row.ensures c.alone.result e.faults e.long

pub returns-in-Together-clause-long : goal.returns-in-Together-clause-long
returns-in-Together-clause-long c =
    let r = c.requires in
    let e = c.together.ensures in
    long_on c.args.task.now c.means-means.result c.args.self.now c.together.new.self c.args.place c.row-row.result
    Together c.means-means.ensures r.found r.within c.row-row.ensures c.together.result e.faults e.long
