use Rattle.std.proofs.Common.{◌≡◌, ◌∙◌, ◌<◌, ◌≤◌, Some, ap, get_or, length, map, subst, sym, rules}
use Rattle.std.specs.Prelude.{IfOk, slice_get}
use Rattle.std.proofs.lemmas.Bool.{ltb-true}
use Rattle.std.proofs.lemmas.Option.{slice_get-get_or, slice_get_past}
use Rattle.lrc_log.specs.Input.{seen_input}
use Rattle.lrc_run.specs.Halts.{AreEventsOf, AreUnmatched}
use Rattle.lrc_run.specs.Unfinished.{input_of, next_taken}
use Rattle.lrc_run.proofs.Behind.{no_log, no_mailbox, one_behind}
use Rattle.lrc_run.proofs.failure.events_until.Goals as goal

pub returns-in_default-clause-events : goal.returns-in_default-clause-events
returns-in_default-clause-events c =
    let logs = c.args.logs.now in
    let wires = c.args.wires.now in
    let past : length wires ≤ c.args.node = search rules in
    subst (λ input. IfOk c.events_of.result (λ events. AreEventsOf (map (λ log. log.items) logs) c.args.node input events.items))
    (sym (no_mailbox (λ log. log.items) logs wires c.args.node (slice_get_past wires c.args.node past))) c.events_of.ensures.woven

pub returns-in_default-clause-mismatch : goal.returns-in_default-clause-mismatch
returns-in_default-clause-mismatch c = λ is.
    let logs = c.args.logs.now in
    let wires = c.args.wires.now in
    let past : length wires ≤ c.args.node = search rules in
    subst (AreUnmatched (map (λ log. log.items) logs))
    (sym (no_mailbox (λ log. log.items) logs wires c.args.node (slice_get_past wires c.args.node past))) (c.events_of.ensures.mismatch is)

pub returns-in_default-get-clause-events : goal.returns-in_default-get-clause-events
returns-in_default-get-clause-events c =
    let logs = c.args.logs.now in
    let wires = c.args.wires.now in
    let past : length logs ≤ c.args.node = search rules in
    subst (λ input. IfOk c.events_of-in_default-get.result (λ events. AreEventsOf (map (λ log. log.items) logs) c.args.node input events.items))
    (sym (no_log (λ log. log.items) logs wires c.args.node (slice_get_past logs c.args.node past))) c.events_of-in_default-get.ensures.woven

pub returns-in_default-get-clause-mismatch : goal.returns-in_default-get-clause-mismatch
returns-in_default-get-clause-mismatch c = λ is.
    let logs = c.args.logs.now in
    let wires = c.args.wires.now in
    let past : length logs ≤ c.args.node = search rules in
    subst (AreUnmatched (map (λ log. log.items) logs))
    (sym (no_log (λ log. log.items) logs wires c.args.node (slice_get_past logs c.args.node past))) (c.events_of-in_default-get.ensures.mismatch is)

pub returns-clause-events : goal.returns-clause-events
returns-clause-events c =
    let logs = c.args.logs.now in
    let wires = c.args.wires.now in
    let log = c.in-Some-get.log.now in
    let mailbox = c.in-Some.mailbox.now in
    let lookup = c.in-Some.ensures.lookup in
    let there : slice_get wires c.args.node ≡ Some mailbox =
    slice_get-get_or wires c.args.node mailbox (ltb-true c.args.node (length wires) (sym lookup.0)) ∙ ap Some (sym lookup.1) in
    let inside : c.args.node < length logs = search rules in
    let value : log ≡ get_or logs c.args.node log = search rules in
    let at : slice_get logs c.args.node ≡ Some log = slice_get-get_or logs c.args.node log inside ∙ ap Some (sym value) in
    let entries : c.as_slice.result.now ≡ log.items = search rules in
    let kept : c.history.result.now ≡ mailbox.history = search rules in
    let input : seen_input c.in_ok-input.input ≡ input_of (next_taken log.items mailbox.history) =
    c.in_ok-input.ensures ∙ ap (λ l. input_of (next_taken l c.history.result.now)) entries ∙ ap (λ h. input_of (next_taken log.items h)) kept in
    subst (λ input. IfOk c.events_with.result (λ events. AreEventsOf (map (λ log. log.items) logs) c.args.node input events.items))
    (sym (one_behind (λ log. log.items) logs wires c.args.node mailbox log there at ∙ ap Some (sym input))) c.events_with.ensures.woven

pub returns-clause-mismatch : goal.returns-clause-mismatch
returns-clause-mismatch c = λ is.
    let logs = c.args.logs.now in
    let wires = c.args.wires.now in
    let log = c.in-Some-get.log.now in
    let mailbox = c.in-Some.mailbox.now in
    let lookup = c.in-Some.ensures.lookup in
    let there : slice_get wires c.args.node ≡ Some mailbox =
    slice_get-get_or wires c.args.node mailbox (ltb-true c.args.node (length wires) (sym lookup.0)) ∙ ap Some (sym lookup.1) in
    let inside : c.args.node < length logs = search rules in
    let value : log ≡ get_or logs c.args.node log = search rules in
    let at : slice_get logs c.args.node ≡ Some log = slice_get-get_or logs c.args.node log inside ∙ ap Some (sym value) in
    let entries : c.as_slice.result.now ≡ log.items = search rules in
    let kept : c.history.result.now ≡ mailbox.history = search rules in
    let input : seen_input c.in_ok-input.input ≡ input_of (next_taken log.items mailbox.history) =
    c.in_ok-input.ensures ∙ ap (λ l. input_of (next_taken l c.history.result.now)) entries ∙ ap (λ h. input_of (next_taken log.items h)) kept in
    subst (AreUnmatched (map (λ log. log.items) logs))
    (sym (one_behind (λ log. log.items) logs wires c.args.node mailbox log there at ∙ ap Some (sym input))) (c.events_with.ensures.mismatch is)
