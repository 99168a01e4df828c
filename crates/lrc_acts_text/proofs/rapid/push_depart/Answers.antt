use Rattle.std.proofs.Common.{◌≡◌, ◌∙◌, ◌++◌, ℕ, List, ap, sym, arith, append_assoc, append-nil}
use Rattle.std.specs.List.{flat_map, range_with_len}
use Rattle.std.proofs.lemmas.List.Concat.{flat_map-append}
use Rattle.std.proofs.lemmas.Result.{IfOk-from_err}
use Rattle.lrc_acts_text.specs.Rapid.{RapidStep, lock_of_arrival, passes, step_line}
use Rattle.lrc_text.proofs.Each.{range_more}
use Rattle.lrc_acts_text.proofs.rapid.push_depart.Goals as goal

pub loop-node-preserved : goal.loop-node-preserved
loop-node-preserved c =
    let spot = c.args.spot in
    let meeting = c.args.meeting in
    let n = c.loop-node.node in
    let of : ℕ → List RapidStep = λ q. passes spot.node spot.position (lock_of_arrival meeting meeting.departed q) in
    let line : RapidStep → List ℕ = step_line spot.line in
    let front = flat_map of (range_with_len 0 n) in
    c.in_ok-push_passes.ensures
    ∙ ap (λ (m : ℕ). c.loop-node.text.items ++ flat_map line (passes spot.node spot.position m)) c.lock.ensures ∙ ap (λ l. l ++ flat_map line (of n)) c.loop-node.invariant
    ∙ append_assoc _ (flat_map line front) (flat_map line (of n))
    ∙ ap (λ l. c.args.text.now.items ++ l) (sym (ap (flat_map line) (range_more of n) ∙ flat_map-append line front (of n)))

pub loop-node-init : goal.loop-node-init
loop-node-init c = sym (append-nil c.args.text.now.items)

pub returns : goal.returns
returns c =
    let spot = c.args.spot in
    let meeting = c.args.meeting in
    let of : ℕ → List RapidStep = λ q. passes spot.node spot.position (lock_of_arrival meeting meeting.departed q) in
    let all : c.loop-node.node ≡ meeting.nodes = omega (arith, c.loop-node-test.false, c.loop-node.auto.node-end) in
    c.loop-node.invariant ∙ ap (λ n. c.args.text.now.items ++ flat_map (step_line spot.line) (flat_map of (range_with_len 0 n))) all

pub returns-in_err-push_passes : goal.returns-in_err-push_passes
returns-in_err-push_passes c = IfOk-from_err c.from_residual.result _ c.from_residual.ensures.0
