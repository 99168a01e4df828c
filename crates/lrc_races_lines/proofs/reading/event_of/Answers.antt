-- The parts between the bars.
use Rattle.std.proofs.Common.{ℕ, List, MatchOption, sym, subst}
use Rattle.lrc_races_lines.specs.declared.line.Kind.{Kind}
use Rattle.lrc_races_lines.specs.Line.{SpellsEvent}
use Rattle.lrc_races_lines.proofs.Spelled.{event-barred, unnamed_thread, no_location, no_operation, is_placed, no_operation_alone, is_unplaced}
use Rattle.lrc_races_lines.proofs.reading.event_of.Goals as goal

pub returns-then-not-is_name : goal.returns-then-not-is_name
returns-then-not-is_name c =
    unnamed_thread c.args.body.now c.in_ok-thread.thread.now c.in_ok-thread.rest.now c.in_ok-thread.ensures.0 c.in_ok-thread.ensures.1
    (λ name. let e = c.is_name.ensures.1 name in let f = c.if-not-is_name.true in let never : ⊥ = cc in never)

pub returns-then-not-is_text : goal.returns-then-not-is_text
returns-then-not-is_text c =
    no_location c.args.body.now c.in_ok-thread.thread.now c.in_ok-thread.rest.now c.in_ok-thread.ensures.0 c.in_ok-thread.ensures.1
    c.in-Some.operation.now c.in-Some.location.now c.in-Some.ensures.0 c.in-Some.ensures.1
    (λ text. let e = c.is_text.ensures.1 text in let f = c.if-not-is_text.true in let never : ⊥ = cc in never)

pub returns-in_err-thread : goal.returns-in_err-thread
returns-in_err-thread c =
    let body = c.args.body.now in
    subst (λ o. MatchOption o ((thread : List ℕ) (kind : Kind) (target location : List ℕ) → SpellsEvent thread kind target location body → ⊥)
    (λ named. SpellsEvent named.thread.now named.kind named.target.now named.location.now body)) (sym c.from_residual.ensures)
    (λ thread kind target location s. event-barred c.in_err-thread.ensures s)

pub returns-in_err-kind-in-Some : goal.returns-in_err-kind-in-Some
returns-in_err-kind-in-Some c =
    let body = c.args.body.now in
    subst (λ o. MatchOption o ((thread : List ℕ) (kind : Kind) (target location : List ℕ) → SpellsEvent thread kind target location body → ⊥)
    (λ named. SpellsEvent named.thread.now named.kind named.target.now named.location.now body)) (sym c.from_residual-in_err-kind-in-Some.ensures)
    (no_operation body c.in_ok-thread.thread.now c.in_ok-thread.rest.now c.in_ok-thread.ensures.0 c.in_ok-thread.ensures.1
    c.in-Some.operation.now c.in-Some.location.now c.in-Some.ensures.0 c.in-Some.ensures.1 c.in_err-kind-in-Some.ensures)

pub returns-in_err-kind-in-None : goal.returns-in_err-kind-in-None
returns-in_err-kind-in-None c =
    let body = c.args.body.now in
    subst (λ o. MatchOption o ((thread : List ℕ) (kind : Kind) (target location : List ℕ) → SpellsEvent thread kind target location body → ⊥)
    (λ named. SpellsEvent named.thread.now named.kind named.target.now named.location.now body)) (sym c.from_residual-in_err-kind-in-None.ensures)
    (no_operation_alone body c.in_ok-thread.thread.now c.in_ok-thread.rest.now c.in_ok-thread.ensures.0 c.in_ok-thread.ensures.1
    c.in-None.ensures c.in_err-kind-in-None.ensures)

pub returns-in_ok-kind-in-Some : goal.returns-in_ok-kind-in-Some
returns-in_ok-kind-in-Some c =
    let name = c.is_name.ensures.0 (let f = c.if-not-is_name.false in cc) in
    is_placed c.args.body.now c.in_ok-thread.thread.now c.in_ok-thread.rest.now c.in_ok-thread.ensures.0 c.in_ok-thread.ensures.1
    c.in-Some.operation.now c.in-Some.location.now c.in-Some.ensures.0 c.in-Some.ensures.1 name c.in_ok-kind-in-Some.kind
    c.in_ok-kind-in-Some.target.now c.in_ok-kind-in-Some.ensures (c.is_text.ensures.0 (let f = c.if-not-is_text.false in cc))

pub returns-in_ok-kind-in-None : goal.returns-in_ok-kind-in-None
returns-in_ok-kind-in-None c =
    let name = c.is_name.ensures.0 (let f = c.if-not-is_name.false in cc) in
    is_unplaced c.args.body.now c.in_ok-thread.thread.now c.in_ok-thread.rest.now c.in_ok-thread.ensures.0 c.in_ok-thread.ensures.1
    c.in-None.ensures name c.in_ok-kind-in-None.kind c.in_ok-kind-in-None.target.now c.in_ok-kind-in-None.ensures
