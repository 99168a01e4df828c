use Rattle.std.specs.Prelude.{map}
use Rattle.lrc_explore.proofs.ManyStates.{stuck_order_met, trap_order_met}
use Rattle.lrc_explore_text.specs.Sections.{section_text}
use Rattle.lrc_explore_text.proofs.met.met_told.Goals as goal

pub stuck_met-requires-clause-stuck : goal.stuck_met-requires-clause-stuck
stuck_met-requires-clause-stuck c =
    let g = c.requires.gave in stuck_order_met c.args.program.now c.args.nodes g.0 g.1 c.args.met.now g.2

pub trap_met-requires-clause-trap : goal.trap_met-requires-clause-trap
trap_met-requires-clause-trap c =
    let g = c.requires.gave in trap_order_met c.args.program.now c.args.nodes g.0 g.1 c.args.met.now g.2

pub returns : goal.returns
returns c = record {
  first = section_text c.in_ok-stuck.stuck;
  second = section_text c.in_ok-trap.trap;
  stuck = c.in_ok-stuck.ensures;
  trap = c.in_ok-trap.ensures;
  whole = c.in_ok-parts.ensures;
}
