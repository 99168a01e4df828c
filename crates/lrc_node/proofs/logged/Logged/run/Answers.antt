use Rattle.std.proofs.Common.{Ok, ap, ◌∙◌, sym, refl}
use Rattle.std.specs.Prelude.{is_some}
use Rattle.lrc_protocol.specs.Run.{run}
use Rattle.lrc_node.proofs.Logging.{owed_settled, owed_worn, seen_log}
use Rattle.lrc_node.proofs.Takes.{is_turn_run}
use Rattle.lrc_node.proofs.Whole.{whole_on}
use Rattle.lrc_node.specs.Node.{wish_of}
use Rattle.lrc_node.proofs.logged.Logged.run.Goals as goal

-- ---- where no stamp is left

pub returns-in_default-clause-logs : goal.returns-in_default-clause-logs
returns-in_default-clause-logs c =
    (owed_worn c.args.self.now c.self.inside.node c.make_room.new.node c.wear_out.new.node c.self.inside.log.items c.make_room.new.log.items
    c.self.inside.stamp run 0 c.is_some.result c.wear_out.result c.self.view_is c.self.invariant
    c.in_ok-make_room.ensures.made.0 c.in_ok-make_room.ensures.made.1 c.make_room.ensures.same c.in_default.ensures.worn
    (λ node e. c.is_some.ensures ∙ ap is_some (c.wish-wish.ensures ∙ ap wish_of e) ∙ sym (is_turn_run node))
    c.wear_out.ensures).logs

-- ---- a turn that only the node's own thread sees

pub returns-in-Some-Quiet-clause-logs : goal.returns-in-Some-Quiet-clause-logs
returns-in-Some-Quiet-clause-logs c =
    (owed_settled c.args.self.now c.self.inside.node c.make_room.new.node c.run_quietly-turn.new.self c.self.inside.log.items c.make_room.new.log.items
    c.enter.new.log.items c.self.inside.stamp c.in-Some.stamp run 0 (Ok c.run_quietly-turn.result) (Ok tt) c.self.view_is c.self.invariant
    c.in_ok-make_room.ensures.made.0 c.in_ok-make_room.ensures.made.1 c.make_room.ensures.same c.in-Some.ensures.stamp c.in-Some.ensures.few
    c.run_quietly-turn.ensures (λ node e. tt) tt tt (refl, c.enter.ensures.log)).logs

pub returns-in-Some-Quiet-clause-whole : goal.returns-in-Some-Quiet-clause-whole
returns-in-Some-Quiet-clause-whole c = λ program nodes options me.
    whole_on program nodes options me c.args.self.now (seen_log c.run_quietly-turn.new.self c.enter.new.log.items) run 0 (Ok tt) (λ e. refl)
    (owed_settled c.args.self.now c.self.inside.node c.make_room.new.node c.run_quietly-turn.new.self c.self.inside.log.items c.make_room.new.log.items
    c.enter.new.log.items c.self.inside.stamp c.in-Some.stamp run 0 (Ok c.run_quietly-turn.result) (Ok tt) c.self.view_is c.self.invariant
    c.in_ok-make_room.ensures.made.0 c.in_ok-make_room.ensures.made.1 c.make_room.ensures.same c.in-Some.ensures.stamp c.in-Some.ensures.few
    c.run_quietly-turn.ensures (λ node e. tt) tt tt (refl, c.enter.ensures.log))

-- ---- any other turn

pub returns-clause-logs : goal.returns-clause-logs
returns-clause-logs c =
    (owed_settled c.args.self.now c.self.inside.node c.make_room.new.node c.run_wish-outcome.new.self c.self.inside.log.items c.make_room.new.log.items
    c.settle.new.log.items c.self.inside.stamp c.in-Some.stamp run 0 c.run_wish-outcome.result c.settle.result c.self.view_is c.self.invariant
    c.in_ok-make_room.ensures.made.0 c.in_ok-make_room.ensures.made.1 c.make_room.ensures.same c.in-Some.ensures.stamp c.in-Some.ensures.few
    c.run_wish-outcome.ensures.done c.run_wish-outcome.ensures.refused c.run_wish-outcome.ensures.kept c.run_wish-outcome.ensures.fault
    c.settle.ensures.settled).logs

pub returns-clause-notes : goal.returns-clause-notes
returns-clause-notes c =
    (owed_settled c.args.self.now c.self.inside.node c.make_room.new.node c.run_wish-outcome.new.self c.self.inside.log.items c.make_room.new.log.items
    c.settle.new.log.items c.self.inside.stamp c.in-Some.stamp run 0 c.run_wish-outcome.result c.settle.result c.self.view_is c.self.invariant
    c.in_ok-make_room.ensures.made.0 c.in_ok-make_room.ensures.made.1 c.make_room.ensures.same c.in-Some.ensures.stamp c.in-Some.ensures.few
    c.run_wish-outcome.ensures.done c.run_wish-outcome.ensures.refused c.run_wish-outcome.ensures.kept c.run_wish-outcome.ensures.fault
    c.settle.ensures.settled).notes

pub returns-clause-fails : goal.returns-clause-fails
returns-clause-fails c =
    (owed_settled c.args.self.now c.self.inside.node c.make_room.new.node c.run_wish-outcome.new.self c.self.inside.log.items c.make_room.new.log.items
    c.settle.new.log.items c.self.inside.stamp c.in-Some.stamp run 0 c.run_wish-outcome.result c.settle.result c.self.view_is c.self.invariant
    c.in_ok-make_room.ensures.made.0 c.in_ok-make_room.ensures.made.1 c.make_room.ensures.same c.in-Some.ensures.stamp c.in-Some.ensures.few
    c.run_wish-outcome.ensures.done c.run_wish-outcome.ensures.refused c.run_wish-outcome.ensures.kept c.run_wish-outcome.ensures.fault
    c.settle.ensures.settled).fails

pub returns-clause-whole : goal.returns-clause-whole
returns-clause-whole c = λ program nodes options me.
    whole_on program nodes options me c.args.self.now (seen_log c.run_wish-outcome.new.self c.settle.new.log.items) run 0 c.settle.result (λ e. refl)
    (owed_settled c.args.self.now c.self.inside.node c.make_room.new.node c.run_wish-outcome.new.self c.self.inside.log.items c.make_room.new.log.items
    c.settle.new.log.items c.self.inside.stamp c.in-Some.stamp run 0 c.run_wish-outcome.result c.settle.result c.self.view_is c.self.invariant
    c.in_ok-make_room.ensures.made.0 c.in_ok-make_room.ensures.made.1 c.make_room.ensures.same c.in-Some.ensures.stamp c.in-Some.ensures.few
    c.run_wish-outcome.ensures.done c.run_wish-outcome.ensures.refused c.run_wish-outcome.ensures.kept c.run_wish-outcome.ensures.fault
    c.settle.ensures.settled)
