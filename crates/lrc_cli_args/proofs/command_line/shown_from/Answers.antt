use Rattle.std.proofs.Common.{◌∙◌, List, IsSomeAnd, codes, false, inl, inr, refl, subst, sym}
use Rattle.clap.specs.Words.{Row, found_of, rows_of, subcommand_rows_of}
use Rattle.clap.specs.declared.parser.matches.ArgMatches.TheViews.{out-ArgMatches}
use Rattle.lrc_cli_args.specs.CommandLine.{HasMisfitOfRun, HasShowMisfit, HasThreadsMisfit, IsChoice}
use Rattle.lrc_cli_args.specs.declared.choice.Choice.TheVariants.{Show}
use Rattle.lrc_cli_args.specs.declared.choice.Shape.TheVariants.{Report}
use Rattle.lrc_cli_args.proofs.FoundLemmas.{ask_left, found_at, found_by, misfit_up, name_before, run_rows, show_taken, sim_rows}
use Rattle.lrc_cli_args.proofs.command_line.shown_from.Goals as goal

pub run_choice-requires : goal.run_choice-requires
run_choice-requires c =
    let found = subcommand_rows_of c.args.matches.now in
    sim_rows found (rows_of (found_of c.in-Some.options.now)) c.in-Some.ensures.rows (show_taken found c.requires)
    (name_before (out-ArgMatches c.args.matches.now).subcommand ∙ c.in-Some.ensures.found.0 refl)

pub threads_run-requires : goal.threads_run-requires
threads_run-requires c =
    let found = subcommand_rows_of c.args.matches.now in
    run_rows found (rows_of (found_of c.in-Some-subcommand_matches.options.now)) c.in-Some-subcommand_matches.ensures.rows (show_taken found c.requires)
    (name_before (out-ArgMatches c.args.matches.now).subcommand ∙ c.in-Some-subcommand_matches.ensures.found.0 refl)

pub asked_from-requires : goal.asked_from-requires
asked_from-requires c =
    let known = name_before (out-ArgMatches c.args.matches.now).subcommand in
    ask_left (subcommand_rows_of c.args.matches.now) (λ e. c.in_default.ensures.found.1 (sym known ∙ e))
    (λ e. c.in_default-subcommand_matches.ensures.found.1 (sym known ∙ e)) c.requires

pub returns-clause-ok : goal.returns-clause-ok
returns-clause-ok c = c.asked_from.ensures.ok

pub returns-clause-err : goal.returns-clause-err
returns-clause-err c = c.asked_from.ensures.err

pub returns-in-Some-clause-ok : goal.returns-in-Some-clause-ok
returns-in-Some-clause-ok c =
    found_at (subcommand_rows_of c.args.matches.now) (codes "sim") (rows_of (found_of c.in-Some.options.now))
    (λ f. IsChoice f (Show c.in_ok-run_choice.field-0 Report)) (name_before (out-ArgMatches c.args.matches.now).subcommand ∙ c.in-Some.ensures.found.0 refl)
    c.in-Some.ensures.rows (inl (refl, c.in_ok-run_choice.ensures.ok))

pub returns-in-Some-subcommand_matches-clause-ok : goal.returns-in-Some-subcommand_matches-clause-ok
returns-in-Some-subcommand_matches-clause-ok c =
    found_at (subcommand_rows_of c.args.matches.now) (codes "run") (rows_of (found_of c.in-Some-subcommand_matches.options.now))
    (λ f. IsChoice f (Show c.in_ok-threads_run.field-0 Report))
    (name_before (out-ArgMatches c.args.matches.now).subcommand ∙ c.in-Some-subcommand_matches.ensures.found.0 refl)
    c.in-Some-subcommand_matches.ensures.rows (inr (refl, c.in_ok-threads_run.ensures.ok))

pub returns-in_err-run_choice-clause-err : goal.returns-in_err-run_choice-clause-err
returns-in_err-run_choice-clause-err c =
    let found = subcommand_rows_of c.args.matches.now in
    let misfit = c.in_err-run_choice.field-0.0 in
    let named = name_before (out-ArgMatches c.args.matches.now).subcommand ∙ c.in-Some.ensures.found.0 refl in
    misfit_up c.from_residual.result misfit (λ m. IsSomeAnd found (λ f. HasShowMisfit f m)) c.from_residual.ensures.1
    (found_by found (codes "sim") (rows_of (found_of c.in-Some.options.now)) (λ f. HasShowMisfit f misfit) named c.in-Some.ensures.rows
    (λ f name_is rows_is. inl (name_is, subst (λ (rows : List Row). HasMisfitOfRun false rows misfit) (sym rows_is) c.in_err-run_choice.ensures.err)))

pub returns-in_err-threads_run-clause-err : goal.returns-in_err-threads_run-clause-err
returns-in_err-threads_run-clause-err c =
    let found = subcommand_rows_of c.args.matches.now in
    let misfit = c.in_err-threads_run.field-0.0 in
    let named = name_before (out-ArgMatches c.args.matches.now).subcommand ∙ c.in-Some-subcommand_matches.ensures.found.0 refl in
    misfit_up c.from_residual-in_err-threads_run.result misfit (λ m. IsSomeAnd found (λ f. HasShowMisfit f m)) c.from_residual-in_err-threads_run.ensures.1
    (found_by found (codes "run") (rows_of (found_of c.in-Some-subcommand_matches.options.now)) (λ f. HasShowMisfit f misfit) named
    c.in-Some-subcommand_matches.ensures.rows
    (λ f name_is rows_is. inr (inl (name_is, subst (λ (rows : List Row). HasThreadsMisfit rows misfit) (sym rows_is) c.in_err-threads_run.ensures.err))))
