use Rattle.std.proofs.Common.{◌≡◌, ◌∙◌, rules, Option, None, Some, Result, Ok, Err, IfErr, IsSomeAnd, List, codes, inl, inr, refl, subst, sym}
use Rattle.clap.specs.Words.{Row, Text, found_of, rows_of, subcommand_rows_of}
use Rattle.clap.specs.declared.parser.matches.ArgMatches.TheViews.{out-ArgMatches}
use Rattle.lrc_cli_args.specs.CommandLine.{HasAnswerMisfit, HasRequestMisfit}
use Rattle.lrc_cli_args.specs.declared.choice.Request.{Request}
use Rattle.lrc_cli_args.specs.declared.misfit.Misfit.{Misfit}
use Rattle.lrc_cli_args.specs.Options.{HasRacesMisfit}
use Rattle.lrc_cli_args.proofs.FoundLemmas.{misfit_up, name_before, races_rows}
use Rattle.lrc_cli_args.proofs.command_line.request_from.Goals as goal

-- what does not fit in an answer does not fit
of_answer : (found : Option (Text × List Row)) (misfit : Misfit) → IsSomeAnd found (λ f. HasAnswerMisfit f misfit)
    → IsSomeAnd found (λ f. HasRequestMisfit f misfit)
of_answer None misfit has = absurd has
of_answer (Some f) misfit has = inr (inr has)

pub returns-in_err-answer_from-clause-err : goal.returns-in_err-answer_from-clause-err
returns-in_err-answer_from-clause-err c =
    let found = subcommand_rows_of c.args.matches.now in
    let misfit = c.in_err-answer_from.field-0.0 in
    misfit_up c.from_residual.result misfit (λ m. IsSomeAnd found (λ f. HasRequestMisfit f m)) c.from_residual.ensures.1
    (of_answer found misfit c.in_err-answer_from.ensures.err)

-- nor does what does not fit in a request about a trace
of_races : (found : Option (Text × List Row)) (rows : List Row) (r : Result Request Misfit) → found ≡ Some (codes "races", rows)
    → IfErr r (HasRacesMisfit rows) → IfErr r (λ misfit. IsSomeAnd found (λ f. HasRequestMisfit f misfit))
of_races found rows (Ok request) is has = tt
of_races found rows (Err misfit) is has = subst (λ o. IsSomeAnd o (λ f. HasRequestMisfit f misfit)) (sym is) (inr (inl (refl, has)))

pub returns-in-Some-subcommand_matches-clause-err : goal.returns-in-Some-subcommand_matches-clause-err
returns-in-Some-subcommand_matches-clause-err c =
    of_races (subcommand_rows_of c.args.matches.now) (rows_of (found_of c.in-Some-subcommand_matches.options.now)) c.races_request.result
    (search rules) c.races_request.ensures.err

pub races_request-requires : goal.races_request-requires
races_request-requires c =
    races_rows (subcommand_rows_of c.args.matches.now) (rows_of (found_of c.in-Some-subcommand_matches.options.now))
    c.in-Some-subcommand_matches.ensures.rows c.requires
    (name_before (out-ArgMatches c.args.matches.now).subcommand ∙ c.in-Some-subcommand_matches.ensures.found.0 refl)
