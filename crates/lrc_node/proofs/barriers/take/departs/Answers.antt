use Rattle.std.proofs.Common.{◌<◌, ◌++◌, ◌∷◌, [], length, map, sym, ◌∙◌, ap, subst}
use Rattle.std.proofs.lemmas.List.{map-append, map-id}
use Rattle.std.proofs.lemmas.Iterator.Adapters.{YieldsList-from_vec}
use Rattle.std.proofs.lemmas.Iterator.Consumers.{YieldsList-turn, YieldsList-end}
use Rattle.lrc_barrier.specs.Barrier.{IsDeparture}
use Rattle.std.proofs.lemmas.List.Elements.{All-push}
use Rattle.std.proofs.lemmas.Result.{IfOk-from_err}
use Rattle.lrc_protocol.specs.Node.{Letter}
use Rattle.lrc_protocol.specs.Turn.{departure_of}
use Rattle.lrc_node.proofs.Kept.{none_for}
use Rattle.lrc_node.proofs.barriers.take.departs.Goals as goal

pub returns-in_err-letters-clause-letters : goal.returns-in_err-letters-clause-letters
returns-in_err-letters-clause-letters c = IfOk-from_err _ _ c.from_residual.ensures.0

pub returns-in_err-letters-clause-to : goal.returns-in_err-letters-clause-to
returns-in_err-letters-clause-to c = IfOk-from_err _ _ c.from_residual.ensures.0

pub loop-departure-init : goal.loop-departure-init
loop-departure-init c = record {
  letters = c.in_ok-letters.ensures.items;
  are_for = none_for c.args.nodes c.in_ok-letters.letters.items c.in_ok-letters.ensures.items;
}

pub loop-departure-preserved : goal.loop-departure-preserved
loop-departure-preserved c =
    let gives = c.into_iter-departure-iterator.ensures.into_iter_gives in
    let all = YieldsList-from_vec c.args.departures (gives.0 ∙ c.into_vec-departure-items.ensures)
    (gives.1 ∙ c.into_vec-departure-items.result.ok.0 ∙ ap length c.into_vec-departure-items.ensures) in
    let turn = YieldsList-turn all c.loop-departure.yielded c.loop-departure.departure-iterator
    c.loop-departure.yielded_by c.next.result c.next.new.self c.in-Some.departure c.in-Some.is c.next.ensures.steps in
    record {
      letters =
          c.in_ok-push.ensures.items
          ∙ ap (λ xs. xs ++ (departure_of c.in-Some.departure ∷ [])) c.loop-departure.invariant.letters
          ∙ sym (map-append departure_of c.loop-departure.yielded (c.in-Some.departure ∷ []));
      are_for =
          rw c.in_ok-push.ensures.items
          (All-push (λ (l : Letter). l.to < c.args.nodes) c.loop-departure.letters.items
          (departure_of c.in-Some.departure) c.loop-departure.invariant.are_for
          (subst (IsDeparture c.args.nodes) (sym turn.1) (c.requires.each (length c.loop-departure.yielded) c.in-Some.departure turn.0)).in_range);
    }

pub returns-in_err-push-clause-letters : goal.returns-in_err-push-clause-letters
returns-in_err-push-clause-letters c = IfOk-from_err _ _ c.from_residual-in_err-push.ensures.0

pub returns-in_err-push-clause-to : goal.returns-in_err-push-clause-to
returns-in_err-push-clause-to c = IfOk-from_err _ _ c.from_residual-in_err-push.ensures.0

pub returns-clause-letters : goal.returns-clause-letters
returns-clause-letters c =
    let gives = c.into_iter-departure-iterator.ensures.into_iter_gives in
    let all = YieldsList-from_vec c.args.departures (gives.0 ∙ c.into_vec-departure-items.ensures)
    (gives.1 ∙ c.into_vec-departure-items.result.ok.0 ∙ ap length c.into_vec-departure-items.ensures) in
    let end = YieldsList-end all c.loop-departure.yielded c.loop-departure.departure-iterator
    c.loop-departure.yielded_by c.next.result c.next.new.self c.in-None.is c.next.ensures.steps in
    c.loop-departure.invariant.letters ∙ ap (map departure_of) (sym (map-id c.loop-departure.yielded) ∙ end.0)

pub returns-clause-to : goal.returns-clause-to
returns-clause-to c = c.loop-departure.invariant.are_for
