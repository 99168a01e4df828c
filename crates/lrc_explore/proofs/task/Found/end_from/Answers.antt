use Rattle.lrc_explore.proofs.task.Found.end_from.Goals as goal

pub returns-in-None-clause-sought : goal.returns-in-None-clause-sought
returns-in-None-clause-sought c =
    record {
      cut = c.requires.cut;
      calm = c.in-None.ensures;
      halted = c.stuck_of_all-stuck.ensures;
      traps = c.requires.traps;
    }
