use Rattle.std.proofs.Common.{ℕ, ◌∙◌, ◌<◌, ◌≤◌, ◌++◌, ap, sym, arith, rules, append_assoc, append-nil, length, take, get_or}
use Rattle.std.proofs.lemmas.List.{take_all}
use Rattle.std.proofs.lemmas.Result.{IfOk-from_err}
use Rattle.lrc_text.specs.Front.{BeginsWith}
use Rattle.lrc_text.proofs.Fronts.{begins_still}
use Rattle.lrc_acts_text.specs.Json.{entry_text, with_commas}
use Rattle.lrc_text.proofs.Each.{each_more}
use Rattle.lrc_acts_text.proofs.json.push_entries.Goals as goal

pub loop-node-preserved : goal.loop-node-preserved
loop-node-preserved c =
    let time = c.args.time.now in
    let n = c.loop-node.node in
    let within : n < length time = omega (arith, c.loop-node-test.true, c.nodes-node-end.ensures.all) in
    c.in_ok-push_entry.ensures.ok ∙ ap (λ (m : ℕ). c.loop-node.text.items ++ entry_text n m) c.at.ensures
    ∙ ap (λ l. l ++ entry_text n (get_or time n 0)) c.loop-node.invariant
    ∙ append_assoc _ (with_commas (take n time)) (entry_text n (get_or time n 0))
    ∙ ap (λ l. c.args.text.now.items ++ l) (sym (each_more entry_text time n 0 within))

pub loop-node-init : goal.loop-node-init
loop-node-init c = sym (append-nil c.args.text.now.items)

pub at-requires : goal.at-requires
at-requires c = omega (arith, c.loop-node-test.true, c.nodes-node-end.ensures.all)

pub returns-clause-ok : goal.returns-clause-ok
returns-clause-ok c =
    let all : length c.args.time.now ≤ c.loop-node.node = omega (arith, c.loop-node-test.false, c.nodes-node-end.ensures.all) in
    c.loop-node.invariant ∙ ap (λ l. c.args.text.now.items ++ with_commas l) (take_all c.loop-node.node c.args.time.now all)

pub returns-in_err-push_entry-clause-ok : goal.returns-in_err-push_entry-clause-ok
returns-in_err-push_entry-clause-ok c = IfOk-from_err c.from_residual.result _ c.from_residual.ensures.0

pub returns-in_err-push_entry-clause-err : goal.returns-in_err-push_entry-clause-err
returns-in_err-push_entry-clause-err c =
    let begins : BeginsWith c.push_entry.new.text.items c.args.text.now.items =
    begins_still c.args.text.now.items _ c.loop-node.text.items c.push_entry.new.text.items c.loop-node.invariant c.in_err-push_entry.ensures.err in
    search rules
