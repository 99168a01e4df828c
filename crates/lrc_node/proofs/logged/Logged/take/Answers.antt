use Rattle.std.proofs.Common.{◌∙◌, subst, sym}
use Rattle.lrc_envelope.specs.Envelope.{EnvelopeRecord}
use Rattle.lrc_protocol.specs.Run.{taken}
use Rattle.lrc_node.specs.Logged.{Settles}
use Rattle.lrc_node.proofs.Logging.{Owes, owed_settled, owed_worn, seen_log}
use Rattle.lrc_node.proofs.Whole.{whole_on}
use Rattle.lrc_node.proofs.logged.Logged.take.Goals as goal

-- ---- where no stamp is left

pub returns-in_default-clause-logs : goal.returns-in_default-clause-logs
returns-in_default-clause-logs c =
    (subst (λ (m : EnvelopeRecord). Owes c.args.self.now (seen_log c.wear_out.new.node c.make_room.new.log.items) (taken m) c.args.stamp c.wear_out.result)
    (c.deref.ensures ∙ c.in_ok-boxed.ensures.boxed)
    (owed_worn c.args.self.now c.self.inside.node c.make_box.new.node c.wear_out.new.node c.self.inside.log.items c.make_room.new.log.items
    c.self.inside.stamp (taken c.deref.result.now) c.args.stamp c.awaits-awaited.result c.wear_out.result c.self.view_is c.self.invariant
    c.in_ok-make_room.ensures.made.0 (c.in_ok-boxed.ensures.made ∙ c.in_ok-make_room.ensures.made.1) c.make_room.ensures.same c.in_default.ensures.worn
    c.awaits-awaited.ensures c.wear_out.ensures)).logs

-- ---- any other turn

pub returns-clause-logs : goal.returns-clause-logs
returns-clause-logs c =
    (subst (λ (m : EnvelopeRecord). Owes c.args.self.now (seen_log c.take-outcome.new.self c.settle.new.log.items) (taken m) c.args.stamp c.settle.result)
    (c.deref-2.ensures ∙ c.in_ok-boxed.ensures.boxed)
    (owed_settled c.args.self.now c.self.inside.node c.make_box.new.node c.take-outcome.new.self c.self.inside.log.items c.make_room.new.log.items
    c.settle.new.log.items c.self.inside.stamp c.in-Some.own (taken c.deref-2.result.now) c.args.stamp c.take-outcome.result c.settle.result
    c.self.view_is c.self.invariant
    c.in_ok-make_room.ensures.made.0 (c.in_ok-boxed.ensures.made ∙ c.in_ok-make_room.ensures.made.1) c.make_room.ensures.same
    c.in-Some.ensures.stamp c.in-Some.ensures.few
    c.take-outcome.ensures.done c.take-outcome.ensures.refused c.take-outcome.ensures.kept c.take-outcome.ensures.fault
    (subst (λ (m : EnvelopeRecord). Settles c.make_room.new.log.items (taken m) c.in-Some.own c.take-outcome.result c.settle.new.log.items c.settle.result)
    (sym c.deref-2.ensures) c.settle.ensures.settled))).logs

pub returns-clause-notes : goal.returns-clause-notes
returns-clause-notes c =
    (subst (λ (m : EnvelopeRecord). Owes c.args.self.now (seen_log c.take-outcome.new.self c.settle.new.log.items) (taken m) c.args.stamp c.settle.result)
    (c.deref-2.ensures ∙ c.in_ok-boxed.ensures.boxed)
    (owed_settled c.args.self.now c.self.inside.node c.make_box.new.node c.take-outcome.new.self c.self.inside.log.items c.make_room.new.log.items
    c.settle.new.log.items c.self.inside.stamp c.in-Some.own (taken c.deref-2.result.now) c.args.stamp c.take-outcome.result c.settle.result
    c.self.view_is c.self.invariant
    c.in_ok-make_room.ensures.made.0 (c.in_ok-boxed.ensures.made ∙ c.in_ok-make_room.ensures.made.1) c.make_room.ensures.same
    c.in-Some.ensures.stamp c.in-Some.ensures.few
    c.take-outcome.ensures.done c.take-outcome.ensures.refused c.take-outcome.ensures.kept c.take-outcome.ensures.fault
    (subst (λ (m : EnvelopeRecord). Settles c.make_room.new.log.items (taken m) c.in-Some.own c.take-outcome.result c.settle.new.log.items c.settle.result)
    (sym c.deref-2.ensures) c.settle.ensures.settled))).notes

pub returns-clause-fails : goal.returns-clause-fails
returns-clause-fails c =
    (subst (λ (m : EnvelopeRecord). Owes c.args.self.now (seen_log c.take-outcome.new.self c.settle.new.log.items) (taken m) c.args.stamp c.settle.result)
    (c.deref-2.ensures ∙ c.in_ok-boxed.ensures.boxed)
    (owed_settled c.args.self.now c.self.inside.node c.make_box.new.node c.take-outcome.new.self c.self.inside.log.items c.make_room.new.log.items
    c.settle.new.log.items c.self.inside.stamp c.in-Some.own (taken c.deref-2.result.now) c.args.stamp c.take-outcome.result c.settle.result
    c.self.view_is c.self.invariant
    c.in_ok-make_room.ensures.made.0 (c.in_ok-boxed.ensures.made ∙ c.in_ok-make_room.ensures.made.1) c.make_room.ensures.same
    c.in-Some.ensures.stamp c.in-Some.ensures.few
    c.take-outcome.ensures.done c.take-outcome.ensures.refused c.take-outcome.ensures.kept c.take-outcome.ensures.fault
    (subst (λ (m : EnvelopeRecord). Settles c.make_room.new.log.items (taken m) c.in-Some.own c.take-outcome.result c.settle.new.log.items c.settle.result)
    (sym c.deref-2.ensures) c.settle.ensures.settled))).fails

pub returns-clause-whole : goal.returns-clause-whole
returns-clause-whole c = λ program nodes options me.
    whole_on program nodes options me c.args.self.now (seen_log c.take-outcome.new.self c.settle.new.log.items) (taken c.args.envelope) c.args.stamp
    c.settle.result (λ e. cc)
    (subst (λ (m : EnvelopeRecord). Owes c.args.self.now (seen_log c.take-outcome.new.self c.settle.new.log.items) (taken m) c.args.stamp c.settle.result)
    (c.deref-2.ensures ∙ c.in_ok-boxed.ensures.boxed)
    (owed_settled c.args.self.now c.self.inside.node c.make_box.new.node c.take-outcome.new.self c.self.inside.log.items c.make_room.new.log.items
    c.settle.new.log.items c.self.inside.stamp c.in-Some.own (taken c.deref-2.result.now) c.args.stamp c.take-outcome.result c.settle.result
    c.self.view_is c.self.invariant
    c.in_ok-make_room.ensures.made.0 (c.in_ok-boxed.ensures.made ∙ c.in_ok-make_room.ensures.made.1) c.make_room.ensures.same
    c.in-Some.ensures.stamp c.in-Some.ensures.few
    c.take-outcome.ensures.done c.take-outcome.ensures.refused c.take-outcome.ensures.kept c.take-outcome.ensures.fault
    (subst (λ (m : EnvelopeRecord). Settles c.make_room.new.log.items (taken m) c.in-Some.own c.take-outcome.result c.settle.new.log.items c.settle.result)
    (sym c.deref-2.ensures) c.settle.ensures.settled)))
