use Rattle.std.proofs.Common.{◌≡◌, ◌∙◌, sym, subst, true, false}
use Rattle.lrc_orders.specs.Stuck.{IsAtRest}
use Rattle.lrc_orders.proofs.Searching.{copy_same}
use Rattle.lrc_orders_table.proofs.RowLaws.{row_copy}
use Rattle.lrc_explore.proofs.Ending.{end_notes, end_still}
use Rattle.lrc_explore.proofs.MeansOf.{means_are, means_of}
use Rattle.lrc_explore.proofs.Stepping.{key_at, known_at, row_at, row_of}
use Rattle.lrc_explore_less.proofs.less.Less.is_end_at.Goals as goal

pub is_still-requires : goal.is_still-requires
is_still-requires c = known_at c.args.task.now c.args.self.now.found c.args.place c.row-row.result c.requires.found c.requires.within c.row-row.ensures

pub noted-requires : goal.noted-requires
noted-requires c = c.requires.found.reached.full c.args.place c.requires.within

pub returns-in_ok-key : goal.returns-in_ok-key
returns-in_ok-key c =
    let task = c.args.task.now in
    let old = c.args.self.now.found in
    let place = c.args.place in
    let f = c.requires.found in
    let within = c.requires.within in
    let there = c.row-row.ensures in
    let row = c.row-row.result in
    let key = key_at task old place row f within there in
    let at = row_at task old place row f within there in
    let means = means_of task in
    let known = f.table means (means_are task) in
    let of = row_of task old place row f within there means (means_are task) in
    let other = c.in_ok-key.key in
    let copy = row_copy old.table.rows place key other at c.in_ok-key.ensures in
    let still = subst IsAtRest (copy_same task.flat key.state other.state copy.state) ((c.is_still.ensures means key known of).0 c.if-is_still.true) in (
      λ holds. record { key = other; there = c.in_ok-key.ensures; still = still; are = c.has_notes.ensures.0 holds },
      λ is. c.has_notes.ensures.1 (end_notes task old c.args.notes.now place other c.in_ok-key.ensures is),
    )

pub returns-else-is_still : goal.returns-else-is_still
returns-else-is_still c =
    let task = c.args.task.now in
    let old = c.args.self.now.found in
    let place = c.args.place in
    let f = c.requires.found in
    let within = c.requires.within in
    let there = c.row-row.ensures in
    let row = c.row-row.result in
    let key = key_at task old place row f within there in
    let at = row_at task old place row f within there in
    let means = means_of task in
    let known = f.table means (means_are task) in
    let of = row_of task old place row f within there means (means_are task) in (
      λ holds. let x : false ≡ true = holds in cc,
      λ is.
          let t = (c.is_still.ensures means key known of).1 (end_still task old c.args.notes.now place key at is) in
          let x : true ≡ false = sym t ∙ c.if-is_still.false in cc,
    )
