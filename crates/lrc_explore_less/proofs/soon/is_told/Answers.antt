use Rattle.lrc_explore.proofs.Stepping.{known_at}
use Rattle.lrc_explore_less.proofs.soon.is_told.Goals as goal

pub is_stuck-requires : goal.is_stuck-requires
is_stuck-requires c = known_at c.args.task.now c.args.found.now c.args.place c.row-row.result c.requires.found c.requires.within c.row-row.ensures

pub meeting-requires : goal.meeting-requires
meeting-requires c = known_at c.args.task.now c.args.found.now c.args.place c.row-row.result c.requires.found c.requires.within c.row-row.ensures
