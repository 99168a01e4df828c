-- Each act is the next of the plain machine, and where there is none there are no acts.
use Rattle.std.proofs.Common.{◌≡◌, ℕ, suc, ◌+◌, ◌<◌, ◌≤◌, ◌∙◌, Option, Some, None, List, [], ◌∷◌, ◌++◌, length, get_or, take, drop, refl, sym, ap, subst, arith}
use Rattle.std.specs.Prelude.{option_map, slice_index}
use Rattle.std.proofs.lemmas.List.{take_more, take_all, take-append-drop}
use Rattle.std.proofs.lemmas.List.FromFn.{length-map-range_with_len}
use Rattle.std.proofs.lemmas.Result.{IfOk-from_err}
use Rattle.std.proofs.Math.Seq.{drop-cons}
use Rattle.lrc_program.specs.declared.Program.{Program}
use Rattle.lrc_trace.specs.declared.act.Act.{Act}
use Rattle.lrc_trace.specs.declared.act.Deed.{Deed}
use Rattle.lrc_exec.specs.declared.state.Step.{Step}
use Rattle.lrc_exec.specs.Plain.{Plain, start_of, plain_start, plain_step, plain_from, plain}
use Rattle.lrc_exec.specs.States.{plain_at}
use Rattle.lrc_exec.proofs.Beginning.{begun_of}
use Rattle.lrc_exec.proofs.PlainLaws.{no_arrivals, plain_from-last, plain_from-stuck, plain_step-grows}
use Rattle.lrc_exec.proofs.PlainParts.{step-fits, thread_within}
use Rattle.lrc_exec.proofs.plain.plain_run.Invariants.{HasCome}
use Rattle.lrc_exec.proofs.plain.plain_run.Goals as goal

-- at the beginning
has_begun : (program : Program) (nodes : ℕ) (order : List ℕ) (acts : List Act) (machine : Plain) → acts ≡ [] → machine ≡ plain_start program nodes
    → HasCome (plain_start program nodes) order nodes 0 acts machine
has_begun program nodes order acts machine no_acts begun =
    record {
      acts_are = ap (λ a. Some (a, plain_start program nodes)) (sym no_acts) ∙ ap (λ m. Some (acts, m)) (sym begun);
      all_nodes = ap (λ (m : Plain). length m.threads) begun ∙ length-map-range_with_len (λ me. Some (start_of program nodes me)) 0 nodes;
      few_arrivals = λ k. subst (λ (m : Plain). slice_index m.arrivals k ≤ 0) (sym begun) (no_arrivals nodes k);
    }

-- one act on
goes_on : (start : Plain) (order : List ℕ) (nodes index : ℕ) (acts acts' : List Act) (machine after : Plain) (deed : Deed) → index < length order
    → HasCome start order nodes index acts machine → plain_step machine (get_or order index 0) ≡ Some (deed, after) → acts' ≡ acts
    ++ record { node = get_or order index 0; deed = deed } ∷ [] → HasCome start order nodes (index + 1) acts' after
goes_on start order nodes index acts acts' machine after deed inside come step acts_are =
    let grows = plain_step-grows machine (get_or order index 0) (deed, after) step in
    record {
      acts_are =
          ap (plain_from start) (take_more order index 0 inside)
          ∙ plain_from-last start machine after (take index order) acts (get_or order index 0) deed come.acts_are step
          ∙ ap (λ a. Some (a, after)) (sym acts_are);
      all_nodes = grows.threads ∙ come.all_nodes;
      few_arrivals = λ k. omega (arith, grows.arrivals k, come.few_arrivals k);
    }

stuck_step : (o : Option (Deed × Plain)) → None ≡ option_map (λ step. step.0) o → o ≡ None
stuck_step None e = refl
stuck_step (Some step) e = cc

-- where a node cannot step, there are no acts
is_stuck : (program : Program) (order : List ℕ) (nodes index : ℕ) (acts : List Act) (machine : Plain) → index < length order
    → HasCome (plain_start program nodes) order nodes index acts machine → None ≡ option_map (λ step. step.0) (plain_step machine (get_or order index 0))
    → None ≡ plain program nodes order
is_stuck program order nodes index acts machine inside come none =
    let start = plain_start program nodes in
    let node = get_or order index 0 in
    let parts : take index order ++ node ∷ drop (suc index) order ≡ order =
    ap (λ l. take index order ++ l) (sym (drop-cons order index 0 inside)) ∙ take-append-drop index order in
    sym (ap (λ l. option_map (λ run. run.0) (plain_from start l)) (sym parts)
    ∙ ap (option_map (λ run. run.0))
    (plain_from-stuck start machine (take index order) (drop (suc index) order) acts node come.acts_are (stuck_step (plain_step machine node) none)))

pub loop-node-init : goal.loop-node-init
loop-node-init c =
    let flat = c.of-place.result.0 in
    record {
      come =
          has_begun c.args.program.now c.args.nodes c.args.order.now c.new-acts.result.items (plain_at flat c.in_ok-state.state) c.new-acts.ensures.items
          (c.in_ok-state.ensures.first.begun ∙ begun_of c.in_ok-code.code c.args.nodes c.of-place.result.1 flat c.of-place.ensures.program
          ∙ ap (λ p. plain_start p c.args.nodes) c.in_ok-code.ensures);
      state = c.in_ok-state.ensures.state;
    }

pub returns-in_default : goal.returns-in_default
returns-in_default c =
    is_stuck c.args.program.now c.args.order.now c.args.nodes c.loop-node.node-index c.loop-node.acts.items
    (plain_at c.of-place.result.0 c.loop-node.state) c.loop-node-test.true c.loop-node.invariant.come
    (ap (option_map (λ (step : Step). step.deed)) (sym c.in_default.is) ∙ c.next_step.ensures.deed)

pub loop-node-preserved : goal.loop-node-preserved
loop-node-preserved c =
    let flat = c.of-place.result.0 in
    record {
      come =
          goes_on (plain_start c.args.program.now c.args.nodes) c.args.order.now c.args.nodes c.loop-node.node-index c.loop-node.acts.items c.push.new.self.items
          (plain_at flat c.loop-node.state) (plain_at flat c.take.new.self) c.in-Some.step.deed c.loop-node-test.true c.loop-node.invariant.come c.take.ensures.made
          c.in_ok-push.ensures.items;
      state = c.take.ensures.state;
    }

pub returns-in_err-code : goal.returns-in_err-code
returns-in_err-code c = IfOk-from_err c.from_residual.result _ c.from_residual.ensures.0

pub returns-in_err-state : goal.returns-in_err-state
returns-in_err-state c = IfOk-from_err c.from_residual-in_err-state.result _ c.from_residual-in_err-state.ensures.0

pub returns-in_err-push : goal.returns-in_err-push
returns-in_err-push c = IfOk-from_err c.from_residual-in_err-push.result _ c.from_residual-in_err-push.ensures.0

pub take-requires-clause-can : goal.take-requires-clause-can
take-requires-clause-can c = sym c.in-Some.ensures.deed

pub overflow_cast-node : goal.overflow_cast-node
overflow_cast-node c =
    let node = get_or c.args.order.now c.loop-node.node-index 0 in
    let machine = plain_at c.of-place.result.0 c.loop-node.state in
    let steps = step-fits machine node c.in-Some.step.deed (sym c.in-Some.ensures.deed) in
    omega (arith, thread_within machine node steps.0 steps.1, c.loop-node.invariant.come.all_nodes, c.requires.few_nodes)

pub returns : goal.returns
returns c =
    let start = plain_start c.args.program.now c.args.nodes in
    let whole : take c.loop-node.node-index c.args.order.now ≡ c.args.order.now =
    take_all c.loop-node.node-index c.args.order.now c.loop-node-test.false in
    ap (option_map (λ (run : List Act × Plain). run.0)) (sym (ap (plain_from start) (sym whole) ∙ c.loop-node.invariant.come.acts_are))
