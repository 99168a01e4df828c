use Rattle.std.proofs.Common.{◌≡◌, ◌∙◌, refl, sym, ap, subst, rules, map, length, ◌<◌, None, Some, Ok, IfOk}
use Rattle.std.specs.Prelude.{remove, slice_get}
use Rattle.lrc_protocol.specs.declared.event.Event.TheVariants as events
use Rattle.lrc_world.specs.Turned.{taker as taken_by}
use Rattle.lrc_world.specs.World.{IsTaken, ReceivesTo, seen_flying, seen_sent}
use Rattle.lrc_world.proofs.Noted.{notes_none, notes_same}
use Rattle.lrc_world.proofs.Played.{delivered, taken_within}
use Rattle.lrc_world.proofs.Lists.{map-remove}
use Rattle.lrc_world.proofs.world.World.deliver.Goals as goal

pub returns-in-Some-clause-plays : goal.returns-in-Some-clause-plays
returns-in-Some-clause-plays c = λ starts run shows.
    let some : c.receive.result ≡ Ok (Some c.in-Some.node) = search rules in
    let t : IsTaken c.args.self.now c.receive.new.self run c.args.place c.in-Some.node =
    subst (ReceivesTo starts c.args.self.now c.receive.new.self run c.args.place) some (c.receive.ensures.receives starts run shows) in
    let flown = ap (λ q. map seen_flying q.items) t.flight ∙ shows.flight in
    let within : c.args.place < length c.receive.new.self.flight.items =
    taken_within starts c.args.self.now c.receive.new.self run c.args.place c.in-Some.node shows t in
    delivered starts c.args.self.now c.receive.new.self _ c.follow.new.self run c.args.place c.in-Some.node
    (remove run.flight c.args.place) c.follow.result shows t
    refl refl refl
    (ap (map seen_flying) (c.forget.ensures within) ∙ map-remove seen_flying c.receive.new.self.flight.items c.args.place
    ∙ ap (λ xs. remove xs c.args.place) flown ∙ sym (map-remove seen_sent run.flight c.args.place))
    c.follow.ensures.adds

pub returns-in-Some-clause-turned : goal.returns-in-Some-clause-turned
returns-in-Some-clause-turned c = λ starts run shows.
    let some : c.receive.result ≡ Ok (Some c.in-Some.node) = search rules in
    let t : IsTaken c.args.self.now c.receive.new.self run c.args.place c.in-Some.node =
    subst (ReceivesTo starts c.args.self.now c.receive.new.self run c.args.place) some (c.receive.ensures.receives starts run shows) in
    let taker = subst (λ r. IfOk r (λ node. node ≡ taken_by run (slice_get run.flight c.args.place))) some (c.receive.ensures.taker starts run shows) in
    notes_same c.args.self.now c.follow.new.self c.receive.new.self.keep c.receive.new.self.turned.items (events.Deliver c.args.place)
    (Some c.in-Some.node) _ c.follow.result t.keep (ap (λ v. v.items) c.receive.ensures.turned) taker c.follow.ensures.turned

pub returns-in-None-clause-turned : goal.returns-in-None-clause-turned
returns-in-None-clause-turned c = λ starts run shows.
    let none : c.receive.result ≡ Ok None = search rules in
    let taker = subst (λ r. IfOk r (λ node. node ≡ taken_by run (slice_get run.flight c.args.place))) none (c.receive.ensures.taker starts run shows) in
    notes_none c.args.self.now c.receive.new.self (events.Deliver c.args.place) _ (sym taker) c.receive.ensures.turned
