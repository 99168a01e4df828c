use Rattle.std.proofs.Common.{◌≡◌, ◌∙◌, sym, ap, subst}
use Rattle.std.specs.Prelude.{None, Some, IfErr, IfOk, option_map}
use Rattle.lrc_exec.specs.Ask.{ask_of}
use Rattle.lrc_protocol.specs.Node.{Node}
use Rattle.lrc_protocol.specs.Turn.{Outcome, begins, done, run_turn}
use Rattle.lrc_protocol.specs.Run.{run}
use Rattle.lrc_node_laws.proofs.Noting.{can_note_turn, traced_reached}
use Rattle.lrc_node.specs.declared.fault.NodeFault.TheVariants.{NotReady}
use Rattle.lrc_node.specs.Effects.{turn_asked, CanBegin, RefusesRun, unready}
use Rattle.lrc_control.specs.Text.{asked_in}
use Rattle.lrc_node.proofs.CanRun.{can_run}
use Rattle.lrc_node.proofs.Effects.{run_asked, run_none, begins_asked, begun_ready, can_begun}
use Rattle.lrc_node.proofs.state.NodeState.run_noting.Goals as goal

pub returns-in_default-clause-refused : goal.returns-in_default-clause-refused
returns-in_default-clause-refused c =
    let none : option_map ask_of (begins c.args.self.now) ≡ None = sym c.requires.wish ∙ c.in_default.is in
    subst (λ t. RefusesRun t NotReady) (sym (run_none c.args.self.now none)) unready

pub count-requires : goal.count-requires
count-requires c = sym c.requires.wish ∙ c.in-Some.is

pub run_begun_noting-requires : goal.run_begun_noting-requires
run_begun_noting-requires c =
    let node = c.args.self.now in
    let ask = c.in-Some.ask in
    let e : option_map ask_of (begins node) ≡ Some ask = sym c.requires.wish ∙ c.in-Some.is in
    let reached = traced_reached node c.args.trace.now c.requires.traced in
    record {
      next = ap (λ (n : Node). asked_in n.course) c.count.ensures ∙ begins_asked node ask e;
      can = subst (λ n. CanBegin n ask) (sym c.count.ensures) (can_begun node ask (can_run node reached ask e));
      note = λ turn after is.
          can_note_turn node c.args.trace.now run turn after c.requires.traced
          (run_asked node ask e ∙ ap (λ n. turn_asked n ask) (sym c.count.ensures) ∙ is);
    }

pub returns : goal.returns
returns c =
    let node = c.args.self.now in
    let ask = c.in-Some.ask in
    let e : option_map ask_of (begins node) ≡ Some ask = sym c.requires.wish ∙ c.in-Some.is in
    let same : turn_asked c.count.new.self ask ≡ run_turn node =
    sym (run_asked node ask e ∙ ap (λ n. turn_asked n ask) (sym c.count.ensures)) in
    record {
      done = subst (λ (o : Outcome). IfOk c.run_begun_noting.result (λ turn. o ≡ done turn c.run_begun_noting.new.self)) same
          c.run_begun_noting.ensures.done;
      noted = c.run_begun_noting.ensures.noted;
      kept = c.run_begun_noting.ensures.kept;
      ready = λ r. absurd (begun_ready node ask e r);
      refused = subst (λ (o : Outcome). IfErr c.run_begun_noting.result (RefusesRun o)) same c.run_begun_noting.ensures.refused;
    }
