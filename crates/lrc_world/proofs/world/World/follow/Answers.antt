use Rattle.std.proofs.Common.{◌≡◌, ℕ, Result, Ok, Err, Vec, rules, subst, sym}
use Rattle.std.specs.declared.alloc.Global.{Global}
use Rattle.lrc_protocol.specs.Run.{EntryRecord}
use Rattle.lrc_world.specs.declared.report.TurnFault.{TurnFault}
use Rattle.lrc_world.specs.declared.turned.Turned.{Turned}
use Rattle.lrc_world.specs.declared.world.World.{World}
use Rattle.lrc_world.specs.World.{AddsTo, NodeLogsLast}
use Rattle.lrc_world.proofs.world.World.follow.Goals as goal

-- what is added does not depend on the turns that are noted
from_noted : (old new : World) (turned : Vec Turned Global) (n : ℕ) (entry : EntryRecord) (result : Result (Unit {0}) TurnFault)
    → AddsTo (record old { turned = turned }) new n entry result → AddsTo old new n entry result
from_noted old new turned n entry (Ok done) added =
    record { keep = added.keep; nodes = added.nodes; flight = added.flight; acts = added.acts; short = added.short }
from_noted old new turned n entry (Err fault) why = why

pub returns-clause-adds : goal.returns-clause-adds
returns-clause-adds c = λ entry last.
    let same : c.from.result ≡ c.args.turn.node = search rules in
    subst (λ n. AddsTo c.args.self.now c.add_newest.new.self n entry c.add_newest.result) same
    (from_noted c.args.self.now c.add_newest.new.self c.note_turn.new.turned c.from.result entry c.add_newest.result
    (c.add_newest.ensures.adds entry (subst (λ n. NodeLogsLast c.args.self.now n entry) (sym same) last)))
