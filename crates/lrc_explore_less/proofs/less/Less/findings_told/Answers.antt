use Rattle.lrc_explore_less.proofs.less.Less.findings_told.Goals as goal

pub stuck_told-requires-clause-halted : goal.stuck_told-requires-clause-halted
stuck_told-requires-clause-halted c = c.requires.through.halted

pub trap_told-requires-clause-trap : goal.trap_told-requires-clause-trap
trap_told-requires-clause-trap c = c.requires.through.trap_is
