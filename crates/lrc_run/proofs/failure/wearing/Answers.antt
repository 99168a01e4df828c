use Rattle.std.proofs.Common.{◌≡◌, ◌∙◌, ◌<◌, ◌^◌, IsErrAnd, IsTrue, List, Result, Ok, Err, ap, false, inl, inr, length, subst, sym, rules}
use Rattle.lrc_protocol.specs.declared.event.Event.{Event}
use Rattle.lrc_weave.specs.declared.fault.WeaveFault.{WeaveFault}
use Rattle.lrc_weave.specs.declared.fault.WeaveFault.TheVariants.{Mismatch}
use Rattle.lrc_node.specs.Options.{options_of}
use Rattle.lrc_run.specs.Halts.{IsPlayedOut}
use Rattle.lrc_run.proofs.Halting.{same_fault}
use Rattle.lrc_run.proofs.Sources.{untrue}
use Rattle.lrc_run.proofs.failure.wearing.Goals as goal

-- the fault that is handed on
fault_is : {T : Type 0} (r : Result T WeaveFault) (fault : WeaveFault) → IsErrAnd r (λ f. f ≡ fault) → r ≡ Err Mismatch → fault ≡ Mismatch
fault_is (Ok x) fault is e = absurd is
fault_is (Err f) fault is e = let same : f ≡ Mismatch = cc in sym is ∙ same

pub returns-then-not-branch-clause-mismatch : goal.returns-then-not-branch-clause-mismatch
returns-then-not-branch-clause-mismatch c = λ is.
    let not_so : c.in_ok-are_takes_sent.field-0 ≡ false = search rules in
    inl (λ sent. untrue (subst IsTrue not_so (c.in_ok-are_takes_sent.ensures.1 sent)))

pub returns-in_err-events-clause-mismatch : goal.returns-in_err-events-clause-mismatch
returns-in_err-events-clause-mismatch c = λ is.
    let program = c.args.program.now in
    let nodes = c.args.setting.now.nodes.count in
    let options = options_of c.args.setting.now in
    let so : IsTrue c.in_ok-are_takes_sent.field-0 = search rules in
    inr (inl (c.in_err-events.ensures.mismatch (same_fault c.from_residual-in_err-events.result c.in_err-events.field-0.0
    c.from_residual-in_err-events.ensures.1 is)
    program nodes options c.requires.turns (c.in_ok-are_takes_sent.ensures.0 so)))

pub returns-in_err-wears_out-clause-mismatch : goal.returns-in_err-wears_out-clause-mismatch
returns-in_err-wears_out-clause-mismatch c = λ is.
    let program = c.args.program.now in
    let nodes = c.args.setting.now.nodes.count in
    let options = options_of c.args.setting.now in
    let events : List Event = c.in_ok-events.events.items in
    let so : IsTrue c.in_ok-are_takes_sent.field-0 = search rules in
    let played = c.in_err-wears_out.ensures.mismatch (ap Err (fault_is c.from_residual-in_err-wears_out.result c.in_err-wears_out.field-0.0
    c.from_residual-in_err-wears_out.ensures.1 is)) in
    inr (inr (
      events,
      record {
        events_are = c.in_ok-events.ensures.events program nodes options c.requires.turns
            (c.in_ok-are_takes_sent.ensures.0 so);
        few = subst (λ (events : List Event). length events < 2 ^ 64) c.as_slice.ensures.value c.in_err-wears_out.ensures.few;
        played = subst (IsPlayedOut program nodes options) c.as_slice.ensures.value played;
      },
    ))

pub returns-clause-worn : goal.returns-clause-worn
returns-clause-worn c =
    let program = c.args.program.now in
    let nodes = c.args.setting.now.nodes.count in
    let options = options_of c.args.setting.now in
    let so : IsTrue c.in_ok-are_takes_sent.field-0 = search rules in
    record {
      events_are = c.in_ok-events.ensures.events program nodes options c.requires.turns (c.in_ok-are_takes_sent.ensures.0 so);
      few = search rules;
      wears = search rules;
    }
