use Rattle.std.proofs.Common.{◌≡◌, IfErr, IfOk, ℕ, List, ap, inl, inr, option_map, subst, sym}
use Rattle.std.specs.Borrow.{Bor}
use Rattle.lrc_program.specs.declared.Program.{Program}
use Rattle.lrc_source.specs.Sources.{SourceRecord}
use Rattle.lrc_source.specs.Telling.{ReadText}
use Rattle.lrc_text.specs.Parts.{whole_text}
use Rattle.lrc_world.specs.declared.keep.Keep.{Keep}
use Rattle.lrc_cli_answer.specs.Texts.{IsTextOf}
use Rattle.lrc_cli_answer.proofs.FaultLemmas.{fault_up}
use Rattle.lrc_cli_runs.specs.Runs.{IsRunOfWay}
use Rattle.lrc_cli_runs.specs.Shown.{IsShowFault, IsShown, keep_for}
use Rattle.lrc_cli_runs.proofs.ShowingLemmas.{printed_of, unshown_of}
use Rattle.lrc_cli_runs.proofs.RunLemmas.{run_for}
use Rattle.lrc_cli_runs.proofs.shown.answered.Goals as goal

pub returns-in_err-run-clause-err : goal.returns-in_err-run-clause-err
returns-in_err-run-clause-err c =
    let source = c.in_ok-source.source in
    let same : source.text ≡ c.args.read.now.text = ap (λ (s : SourceRecord). s.text) c.in_ok-source.ensures in
    let is : IsTextOf c.args.read.now.text.core c.program.result.now =
    subst (IsTextOf c.args.read.now.text.core) (sym c.program.ensures.program) (subst (λ (text : ReadText). IsTextOf text.core source.program) same c.program.ensures.text) in
    fault_up c.from_residual-in_err-run.result _ _ c.from_residual-in_err-run.ensures.1
    (inr (c.program.result.now, is, inl c.in_err-run.ensures.err))

pub shown-requires : goal.shown-requires
shown-requires c =
    let events : _ = option_map (λ (e : Bor (List ℕ)). e.now) c.args.events in
    record {
      ran = run_for c.args.choice.now.way c.args.shape c.in_ok-source.source.program c.args.choice.now.options events c.in_ok-run.run'
          (subst (λ (program : Program). IsRunOfWay c.args.choice.now.way program c.args.choice.now.options events (keep_for c.args.shape) c.in_ok-run.run') c.program.ensures.program
          (subst (λ (keep : Keep). IsRunOfWay c.args.choice.now.way c.program.result.now c.args.choice.now.options events keep c.in_ok-run.run')
          c.keep_for.ensures c.in_ok-run.ensures.ok));
    }

pub returns-clause-ok : goal.returns-clause-ok
returns-clause-ok c =
    let events : _ = option_map (λ (e : Bor (List ℕ)). e.now) c.args.events in
    let source = c.in_ok-source.source in
    let same : source.text ≡ c.args.read.now.text = ap (λ (s : SourceRecord). s.text) c.in_ok-source.ensures in
    let is : IsTextOf c.args.read.now.text.core source.program = subst (λ (text : ReadText). IsTextOf text.core source.program) same c.program.ensures.text in
    printed_of c.args.choice.now c.args.shape c.args.read.now.text events source.program c.in_ok-run.run' c.shown.result is
    (subst (λ (program : Program). IsRunOfWay c.args.choice.now.way program c.args.choice.now.options events (keep_for c.args.shape) c.in_ok-run.run') c.program.ensures.program
    (subst (λ (keep : Keep). IsRunOfWay c.args.choice.now.way c.program.result.now c.args.choice.now.options events keep c.in_ok-run.run')
    c.keep_for.ensures c.in_ok-run.ensures.ok))
    (subst (λ (text : ReadText). IfOk c.shown.result
    (λ printout. IsShown c.args.shape c.args.choice.now text source.program c.in_ok-run.run' (whole_text printout.parts.items))) same c.shown.ensures.text)
    c.shown.ensures.status

pub returns-clause-err : goal.returns-clause-err
returns-clause-err c =
    let events : _ = option_map (λ (e : Bor (List ℕ)). e.now) c.args.events in
    let source = c.in_ok-source.source in
    let same : source.text ≡ c.args.read.now.text = ap (λ (s : SourceRecord). s.text) c.in_ok-source.ensures in
    let is : IsTextOf c.args.read.now.text.core source.program = subst (λ (text : ReadText). IsTextOf text.core source.program) same c.program.ensures.text in
    unshown_of c.args.choice.now c.args.shape c.args.read.now.text events source.program c.in_ok-run.run' c.shown.result is
    (subst (λ (program : Program). IsRunOfWay c.args.choice.now.way program c.args.choice.now.options events (keep_for c.args.shape) c.in_ok-run.run') c.program.ensures.program
    (subst (λ (keep : Keep). IsRunOfWay c.args.choice.now.way c.program.result.now c.args.choice.now.options events keep c.in_ok-run.run')
    c.keep_for.ensures c.in_ok-run.ensures.ok))
    (subst (λ (text : ReadText). IfErr c.shown.result (IsShowFault c.args.shape c.args.choice.now text source.program c.in_ok-run.run')) same
    c.shown.ensures.err)
