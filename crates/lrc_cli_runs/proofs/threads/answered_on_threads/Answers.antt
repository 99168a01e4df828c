use Rattle.std.proofs.Common.{◌≡◌, IfErr, IfOk, None, ap, sym, subst, inl, inr}
use Rattle.lrc_program.specs.declared.Program.{Program}
use Rattle.lrc_source.specs.Sources.{SourceRecord}
use Rattle.lrc_source.specs.Telling.{ReadText}
use Rattle.lrc_text.specs.Parts.{whole_text}
use Rattle.lrc_world.specs.declared.keep.Keep.{Keep}
use Rattle.lrc_cli_args.specs.declared.choice.Way.{Way}
use Rattle.lrc_cli_args.specs.declared.choice.Way.TheVariants.{Threads}
use Rattle.lrc_cli_answer.specs.Texts.{IsTextOf}
use Rattle.lrc_cli_answer.proofs.FaultLemmas.{fault_up}
use Rattle.lrc_cli_runs.specs.Runs.{IsRunFault, IsRunOfWay}
use Rattle.lrc_cli_runs.specs.Shown.{IsShowFault, IsShown, keep_for}
use Rattle.lrc_cli_runs.proofs.RunLemmas.{run_for}
use Rattle.lrc_cli_runs.proofs.ShowingLemmas.{printed_of, unshown_of}
use Rattle.lrc_cli_runs.proofs.threads.answered_on_threads.Goals as goal

pub returns-in_err-run-clause-err : goal.returns-in_err-run-clause-err
returns-in_err-run-clause-err g c =
    let source = c.in_ok-source.source in
    let same : source.text ≡ c.args.read.now.text = ap (λ (s : SourceRecord). s.text) c.in_ok-source.ensures in
    let is : IsTextOf c.args.read.now.text.core c.program-program.result.now =
    subst (IsTextOf c.args.read.now.text.core) (sym c.program-program.ensures.program)
    (subst (λ (text : ReadText). IsTextOf text.core source.program) same c.program-program.ensures.text) in
    fault_up c.from_residual-in_err-run.result _ _ c.from_residual-in_err-run.ensures.1
    (inr (
      c.program-program.result.now,
      is,
      inl (subst (λ (way : Way). IsRunFault way c.program-program.result.now c.args.choice.now.options None c.in_err-run.field-0.0)
          (sym c.requires) c.in_err-run.ensures.err),
    ))

pub shown-printout-requires : goal.shown-printout-requires
shown-printout-requires g c =
    record {
      ran = run_for c.args.choice.now.way c.args.shape c.in_ok-source.source.program c.args.choice.now.options None c.in_ok-run.run'
          (subst (λ (way : Way). IsRunOfWay way c.in_ok-source.source.program c.args.choice.now.options None (keep_for c.args.shape) c.in_ok-run.run')
          (sym c.requires) (subst (λ (program : Program). IsRunOfWay (Threads c.args.order) program c.args.choice.now.options None (keep_for c.args.shape) c.in_ok-run.run')
          c.program-program.ensures.program
          (subst (λ (keep : Keep). IsRunOfWay (Threads c.args.order) c.program-program.result.now c.args.choice.now.options None keep c.in_ok-run.run')
          c.keep_for.ensures c.in_ok-run.ensures.run)));
    }

pub returns-clause-ok : goal.returns-clause-ok
returns-clause-ok g c =
    let source = c.in_ok-source.source in
    let same : source.text ≡ c.args.read.now.text = ap (λ (s : SourceRecord). s.text) c.in_ok-source.ensures in
    let is : IsTextOf c.args.read.now.text.core source.program = subst (λ (text : ReadText). IsTextOf text.core source.program) same c.program-program.ensures.text in
    printed_of c.args.choice.now c.args.shape c.args.read.now.text None source.program c.in_ok-run.run' c.shown-printout.result is
    (subst (λ (way : Way). IsRunOfWay way source.program c.args.choice.now.options None (keep_for c.args.shape) c.in_ok-run.run')
    (sym c.requires) (subst (λ (program : Program). IsRunOfWay (Threads c.args.order) program c.args.choice.now.options None (keep_for c.args.shape) c.in_ok-run.run')
    c.program-program.ensures.program
    (subst (λ (keep : Keep). IsRunOfWay (Threads c.args.order) c.program-program.result.now c.args.choice.now.options None keep c.in_ok-run.run')
    c.keep_for.ensures c.in_ok-run.ensures.run)))
    (subst (λ (text : ReadText). IfOk c.shown-printout.result
    (λ printout. IsShown c.args.shape c.args.choice.now text source.program c.in_ok-run.run' (whole_text printout.parts.items))) same
    c.shown-printout.ensures.text)
    c.shown-printout.ensures.status

pub returns-clause-err : goal.returns-clause-err
returns-clause-err g c =
    let source = c.in_ok-source.source in
    let same : source.text ≡ c.args.read.now.text = ap (λ (s : SourceRecord). s.text) c.in_ok-source.ensures in
    let is : IsTextOf c.args.read.now.text.core source.program = subst (λ (text : ReadText). IsTextOf text.core source.program) same c.program-program.ensures.text in
    unshown_of c.args.choice.now c.args.shape c.args.read.now.text None source.program c.in_ok-run.run' c.shown-printout.result is
    (subst (λ (way : Way). IsRunOfWay way source.program c.args.choice.now.options None (keep_for c.args.shape) c.in_ok-run.run')
    (sym c.requires) (subst (λ (program : Program). IsRunOfWay (Threads c.args.order) program c.args.choice.now.options None (keep_for c.args.shape) c.in_ok-run.run')
    c.program-program.ensures.program
    (subst (λ (keep : Keep). IsRunOfWay (Threads c.args.order) c.program-program.result.now c.args.choice.now.options None keep c.in_ok-run.run')
    c.keep_for.ensures c.in_ok-run.ensures.run)))
    (subst (λ (text : ReadText). IfErr c.shown-printout.result (IsShowFault c.args.shape c.args.choice.now text source.program c.in_ok-run.run')) same
    c.shown-printout.ensures.err)
