use Rattle.std.proofs.Common.{◌≡◌, ◌∙◌, ◌⊎◌, ◌↔◌, inl, inr, ℕ, IsErrAnd, Result, Ok, Err, ap, sym}
use Rattle.std.proofs.lemmas.Result.{IfOk-from_err}
use Rattle.lrc_exec.specs.Nodes.{AreNodes}
use Rattle.lrc_setting.specs.Ranges.{AreSteps}
use Rattle.lrc_setting.specs.declared.setting.Setting.{Setting}
use Rattle.lrc_protocol.specs.Node.{OptionsRecord}
use Rattle.lrc_world.specs.declared.report.SimFault.{SimFault}
use Rattle.lrc_world.specs.declared.report.SimFault.TheVariants.{BadNodes, BadSteps, NoMemory, Worn}
use Rattle.lrc_world.specs.declared.report.TurnFault.{TurnFault}
use Rattle.lrc_world.specs.declared.report.TurnFault.TheVariants as turns
use Rattle.lrc_world.specs.Report.{IsWornFault, of_turns}
use Rattle.lrc_world.specs.Runs.{IsRunIn, WearsOutIn}
use Rattle.lrc_node.specs.Options.{options_of}
use Rattle.lrc_world.proofs.Ranges.{nodes_in_range, of_numbers, steps_in_range}
use Rattle.lrc_world.proofs.simulate.run_checked.Goals as goal

-- a fault that is handed on
handed_on : {X : Type 0} (r : Result X SimFault) (fault other : SimFault) → IsErrAnd r (λ f. f ≡ fault) → r ≡ Err other → fault ≡ other
handed_on (Ok x) fault other is e = absurd is
handed_on (Err f) fault other is e = let same : f ≡ other = cc in sym is ∙ same

is_err : {X : Type 0} (r : Result X SimFault) (fault : SimFault) → IsErrAnd r (λ f. f ≡ fault) → r ≡ Err fault
is_err (Ok x) fault is = absurd is
is_err (Err f) fault is = ap Err is

-- the fault of a number that is out of range
abbrev IsOut : ℕ → ℕ → SimFault → Type 0
IsOut nodes steps fault = ((fault ≡ BadNodes) × ¬ AreNodes nodes) ⊎ ((fault ≡ BadSteps) × AreNodes nodes × ¬ AreSteps steps)

module _ {X : Type 0} (r : Result X SimFault) (nodes steps : ℕ) (fault : SimFault) (is : IsErrAnd r (λ f. f ≡ fault)) where
  out_unworn : IsOut nodes steps fault → r ≡ Err Worn → ⊥
  out_unworn (inl out) e = let other : BadNodes ≡ Worn = sym out.0 ∙ handed_on r fault Worn is e in cc
  out_unworn (inr out) e = let other : BadSteps ≡ Worn = sym out.0 ∙ handed_on r fault Worn is e in cc

  out_nodes : IsOut nodes steps fault → (r ≡ Err BadNodes) ↔ (¬ AreNodes nodes)
  out_nodes (inl out) = (λ e. out.1, λ bad. is_err r fault is ∙ ap Err out.0)
  out_nodes (inr out) = (
    λ e. let other : BadSteps ≡ BadNodes = sym out.0 ∙ handed_on r fault BadNodes is e in cc,
    λ bad. absurd (bad out.1),
  )

  out_steps : IsOut nodes steps fault → (r ≡ Err BadSteps) ↔ (AreNodes nodes × ¬ AreSteps steps)
  out_steps (inl out) = (
    λ e. let other : BadNodes ≡ BadSteps = sym out.0 ∙ handed_on r fault BadSteps is e in cc,
    λ bad. absurd (out.1 bad.0),
  )
  out_steps (inr out) = (λ e. (out.1, out.2), λ bad. is_err r fault is ∙ ap Err out.0)

-- a fault of the turns is not one of the numbers
module _ (setting : Setting) (nodes : ℕ) (options : OptionsRecord) (counted : setting.nodes.count ≡ nodes) (told : options_of setting ≡ options) where
  turned : {X : Type 0} (r : Result X SimFault) (fault : TurnFault) → IsErrAnd r (λ f. f ≡ of_turns fault)
      → ((r ≡ Err BadNodes) ↔ (¬ AreNodes nodes)) × ((r ≡ Err BadSteps) ↔ (AreNodes nodes × ¬ AreSteps options.steps))
  turned r turns.Worn is = (
    (λ e. let other : Worn ≡ BadNodes = handed_on r Worn BadNodes is e in cc, λ bad. absurd (bad (nodes_in_range setting nodes options counted told))),
    (λ e. let other : Worn ≡ BadSteps = handed_on r Worn BadSteps is e in cc, λ bad. absurd (bad.1 (steps_in_range setting nodes options counted told))),
  )
  turned r turns.NoMemory is = (
    (λ e. let other : NoMemory ≡ BadNodes = handed_on r NoMemory BadNodes is e in cc, λ bad. absurd (bad (nodes_in_range setting nodes options counted told))),
    (λ e. let other : NoMemory ≡ BadSteps = handed_on r NoMemory BadSteps is e in cc, λ bad. absurd (bad.1 (steps_in_range setting nodes options counted told))),
  )

-- it wore out where it says so
worn_by : {X : Type 0} (r : Result X SimFault) (Wears : Type 0) (fault : TurnFault) → IsErrAnd r (λ f. f ≡ of_turns fault) → IsWornFault Wears fault
    → r ≡ Err Worn → Wears
worn_by r Wears turns.Worn is wears e = wears
worn_by r Wears turns.NoMemory is wears e = let other : NoMemory ≡ Worn = handed_on r NoMemory Worn is e in cc

pub returns-in_err-setting-clause-run : goal.returns-in_err-setting-clause-run
returns-in_err-setting-clause-run c = IfOk-from_err c.from_residual.result _ c.from_residual.ensures.0

pub returns-in_err-setting-clause-worn : goal.returns-in_err-setting-clause-worn
returns-in_err-setting-clause-worn c = λ e. absurd
    (out_unworn c.from_residual.result c.args.nodes c.args.options.now.steps c.in_err-setting.field-0.0 c.from_residual.ensures.1 c.in_err-setting.ensures e)

pub returns-in_err-setting-clause-bad_nodes : goal.returns-in_err-setting-clause-bad_nodes
returns-in_err-setting-clause-bad_nodes c =
    out_nodes c.from_residual.result c.args.nodes c.args.options.now.steps c.in_err-setting.field-0.0 c.from_residual.ensures.1 c.in_err-setting.ensures

pub returns-in_err-setting-clause-bad_steps : goal.returns-in_err-setting-clause-bad_steps
returns-in_err-setting-clause-bad_steps c =
    out_steps c.from_residual.result c.args.nodes c.args.options.now.steps c.in_err-setting.field-0.0 c.from_residual.ensures.1 c.in_err-setting.ensures

pub returns-in_err-run-clause-run : goal.returns-in_err-run-clause-run
returns-in_err-run-clause-run c = IfOk-from_err c.from_residual-in_err-run.result _ c.from_residual-in_err-run.ensures.0

pub returns-in_err-run-clause-worn : goal.returns-in_err-run-clause-worn
returns-in_err-run-clause-worn c =
    worn_by c.from_residual-in_err-run.result (WearsOutIn c.args.order c.args.program.now c.args.nodes c.args.options.now) c.in_err-run.field-0.0
    c.from_residual-in_err-run.ensures.1
    (of_numbers c.in_ok-setting.setting c.args.nodes c.args.options.now c.in_ok-setting.ensures.0 c.in_ok-setting.ensures.1
    (λ n o. IsWornFault (WearsOutIn c.args.order c.args.program.now n o) c.in_err-run.field-0.0) c.in_err-run.ensures.fault)

pub returns-in_err-run-clause-bad_nodes : goal.returns-in_err-run-clause-bad_nodes
returns-in_err-run-clause-bad_nodes c =
    (turned c.in_ok-setting.setting c.args.nodes c.args.options.now c.in_ok-setting.ensures.0 c.in_ok-setting.ensures.1
    c.from_residual-in_err-run.result c.in_err-run.field-0.0 c.from_residual-in_err-run.ensures.1).0

pub returns-in_err-run-clause-bad_steps : goal.returns-in_err-run-clause-bad_steps
returns-in_err-run-clause-bad_steps c =
    (turned c.in_ok-setting.setting c.args.nodes c.args.options.now c.in_ok-setting.ensures.0 c.in_ok-setting.ensures.1
    c.from_residual-in_err-run.result c.in_err-run.field-0.0 c.from_residual-in_err-run.ensures.1).1

pub returns-clause-run : goal.returns-clause-run
returns-clause-run c =
    of_numbers c.in_ok-setting.setting c.args.nodes c.args.options.now c.in_ok-setting.ensures.0 c.in_ok-setting.ensures.1
    (λ n o. IsRunIn c.args.order c.args.program.now n o c.args.keep c.in_ok-run.run') c.in_ok-run.ensures.run

pub returns-clause-worn : goal.returns-clause-worn
returns-clause-worn c = λ e. cc

pub returns-clause-bad_nodes : goal.returns-clause-bad_nodes
returns-clause-bad_nodes c = (
  λ e. cc,
  λ bad. absurd (bad (nodes_in_range c.in_ok-setting.setting c.args.nodes c.args.options.now c.in_ok-setting.ensures.0 c.in_ok-setting.ensures.1)),
)

pub returns-clause-bad_steps : goal.returns-clause-bad_steps
returns-clause-bad_steps c = (
  λ e. cc,
  λ bad. absurd (bad.1 (steps_in_range c.in_ok-setting.setting c.args.nodes c.args.options.now c.in_ok-setting.ensures.0 c.in_ok-setting.ensures.1)),
)
