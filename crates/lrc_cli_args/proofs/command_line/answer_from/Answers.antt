use Rattle.std.proofs.Common.{◌∙◌, Option, None, Some, IsSomeAnd, List, codes, inl, inr, refl}
use Rattle.std.proofs.lemmas.Result.{IfErr-weaker}
use Rattle.clap.specs.Words.{Row, Text, found_of, rows_of, subcommand_rows_of}
use Rattle.clap.specs.declared.parser.matches.ArgMatches.TheViews.{out-ArgMatches}
use Rattle.lrc_cli_args.specs.CommandLine.{HasAnswerMisfit, HasMisfit}
use Rattle.lrc_cli_args.specs.declared.misfit.Misfit.{Misfit}
use Rattle.lrc_cli_args.proofs.FoundLemmas.{found_at, name_before}
use Rattle.lrc_cli_args.proofs.command_line.answer_from.Goals as goal

-- what does not fit in one of the other choices does not fit
of_choice : (found : Option (Text × List Row)) (misfit : Misfit) → IsSomeAnd found (λ f. HasMisfit f misfit)
    → IsSomeAnd found (λ f. HasAnswerMisfit f misfit)
of_choice None misfit has = absurd has
of_choice (Some f) misfit has = inr has

pub returns-in-Some-subcommand_matches-clause-err : goal.returns-in-Some-subcommand_matches-clause-err
returns-in-Some-subcommand_matches-clause-err c =
    let found = subcommand_rows_of c.args.matches.now in
    let rows = rows_of (found_of c.in-Some-subcommand_matches.options.now) in
    let named = name_before (out-ArgMatches c.args.matches.now).subcommand ∙ c.in-Some-subcommand_matches.ensures.found.0 refl in
    IfErr-weaker c.why_choice.result _ _
    (λ misfit has. found_at found (codes "why") rows (λ f. HasAnswerMisfit f misfit) named c.in-Some-subcommand_matches.ensures.rows (inl (refl, has)))
    c.why_choice.ensures.err

pub returns-clause-err : goal.returns-clause-err
returns-clause-err c =
    IfErr-weaker c.choice_from.result _ _ (λ misfit has. of_choice (subcommand_rows_of c.args.matches.now) misfit has) c.choice_from.ensures.err
