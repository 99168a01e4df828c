use Rattle.lrc_explore_less.proofs.Answering.{trap_met}
use Rattle.lrc_explore_less.proofs.less.Less.end_of_all.Goals as goal

pub returns-in-None : goal.returns-in-None
returns-in-None c =
    let less = c.args.self.now in
    let s = c.requires.sound in
    record {
      cut = c.requires.cut;
      calm = c.in-None.ensures;
      halted = c.stuck_of_all-stuck.ensures;
      traps = trap_met c.args.task.now less.found.table.rows less.trap s.trap s.trapless;
    }
