use Rattle.std.proofs.Common.{◌≡◌, ◌≤◌, ◌∙◌, ap, refl, length, sym, subst, None, Some, Ok, Err, true, false, rules, ℕ, Option, Result, IsErrAnd}
use Rattle.lrc_protocol.specs.Run.{World as Run, taken}
use Rattle.lrc_world.specs.declared.report.TurnFault.{TurnFault}
use Rattle.lrc_world.specs.declared.world.World.{World}
use Rattle.lrc_world.specs.World.{Starts, ReceivesTo, turn_made}
use Rattle.lrc_world.proofs.Noted.{none_made, none_taken, taker_is, who_made}
use Rattle.lrc_world.proofs.Played.{given_at, received, taken_at}
use Rattle.lrc_world.proofs.world.World.receive.Goals as goal

refused_up : (starts : Starts) (old mid : World) (run : Run) (place to : ℕ) (fault : TurnFault) (r : Result (Option ℕ) TurnFault) → IsErrAnd r (λ f. f ≡ fault)
    → ReceivesTo starts old mid run place (received to (Err fault)) → ReceivesTo starts old mid run place r
refused_up starts old mid run place to fault (Ok x) is h = absurd is
refused_up starts old mid run place to fault (Err f) is h = subst (λ x. ReceivesTo starts old mid run place (Err x)) (sym is) h

pub returns-in_err-is_made-clause-receives : goal.returns-in_err-is_made-clause-receives
returns-in_err-is_made-clause-receives c = λ starts run shows.
    let made : turn_made c.take_at-outcome.result ≡ Err c.in_err-is_made.field-0.0 = search rules in
    let mid : World = record c.args.self.now { nodes = c.take_at-outcome.new.nodes } in
    refused_up starts c.args.self.now mid run c.args.place c.envelope.inside.to c.in_err-is_made.field-0.0 c.from_residual-in_err-is_made.result
    c.from_residual-in_err-is_made.ensures.1
    (subst (λ m. ReceivesTo starts c.args.self.now mid run c.args.place (received c.envelope.inside.to m)) made
    (taken_at starts c.args.self.now mid run c.args.place c.envelope.inside.to c.take_at-outcome.result shows
    (given_at starts c.args.self.now mid run c.args.place c.in-Some.flying.now c.in_ok-envelope.envelope c.envelope.inside.to c.take_at-outcome.result shows
    (search rules) (search rules) (search rules) (search rules) c.take_at-outcome.ensures) refl refl refl))

pub returns-then-branch-clause-receives : goal.returns-then-branch-clause-receives
returns-then-branch-clause-receives c = λ starts run shows.
    let made : turn_made c.take_at-outcome.result ≡ Ok true = search rules in
    let mid : World = record c.args.self.now { nodes = c.take_at-outcome.new.nodes } in
    subst (λ m. ReceivesTo starts c.args.self.now mid run c.args.place (received c.envelope.inside.to m)) made
    (taken_at starts c.args.self.now mid run c.args.place c.envelope.inside.to c.take_at-outcome.result shows
    (given_at starts c.args.self.now mid run c.args.place c.in-Some.flying.now c.in_ok-envelope.envelope c.envelope.inside.to c.take_at-outcome.result shows
    (search rules) (search rules) (search rules) (search rules) c.take_at-outcome.ensures) refl refl refl)

pub returns-else-branch-clause-receives : goal.returns-else-branch-clause-receives
returns-else-branch-clause-receives c = λ starts run shows.
    let made : turn_made c.take_at-outcome.result ≡ Ok false = search rules in
    let mid : World = record c.args.self.now { nodes = c.take_at-outcome.new.nodes } in
    subst (λ m. ReceivesTo starts c.args.self.now mid run c.args.place (received c.envelope.inside.to m)) made
    (taken_at starts c.args.self.now mid run c.args.place c.envelope.inside.to c.take_at-outcome.result shows
    (given_at starts c.args.self.now mid run c.args.place c.in-Some.flying.now c.in_ok-envelope.envelope c.envelope.inside.to c.take_at-outcome.result shows
    (search rules) (search rules) (search rules) (search rules) c.take_at-outcome.ensures) refl refl refl)

pub returns-in_default-clause-taker : goal.returns-in_default-clause-taker
returns-in_default-clause-taker c = λ starts run shows.
    let past : length c.args.self.now.flight.items ≤ c.args.place = search rules in
    none_taken starts c.args.self.now run c.args.place shows past

pub returns-then-branch-clause-taker : goal.returns-then-branch-clause-taker
returns-then-branch-clause-taker c = λ starts run shows.
    let made : turn_made c.take_at-outcome.result ≡ Ok true = search rules in
    let mid : World = record c.args.self.now { nodes = c.take_at-outcome.new.nodes } in
    let given = given_at starts c.args.self.now mid run c.args.place c.in-Some.flying.now c.in_ok-envelope.envelope c.envelope.inside.to
    c.take_at-outcome.result shows (search rules) (search rules) (search rules) (search rules) c.take_at-outcome.ensures in
    let sent = given.sent in
    ap Some given.receiver
    ∙ taker_is run c.args.place sent (Some sent.envelope.to) given.there
    (sym (who_made starts c.args.self.now mid run sent.envelope.to (taken sent.envelope) sent.stamp c.take_at-outcome.result shows given.turns made))

pub returns-else-branch-clause-taker : goal.returns-else-branch-clause-taker
returns-else-branch-clause-taker c = λ starts run shows.
    let made : turn_made c.take_at-outcome.result ≡ Ok false = search rules in
    let mid : World = record c.args.self.now { nodes = c.take_at-outcome.new.nodes } in
    let given = given_at starts c.args.self.now mid run c.args.place c.in-Some.flying.now c.in_ok-envelope.envelope c.envelope.inside.to
    c.take_at-outcome.result shows (search rules) (search rules) (search rules) (search rules) c.take_at-outcome.ensures in
    let sent = given.sent in
    taker_is run c.args.place sent None given.there
    (none_made starts c.args.self.now mid run sent.envelope.to (taken sent.envelope) sent.stamp c.take_at-outcome.result shows given.turns made)
