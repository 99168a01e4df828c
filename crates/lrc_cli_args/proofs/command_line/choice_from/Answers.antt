use Rattle.std.proofs.Common.{◌≡◌, ◌∙◌, List, Option, None, Some, IsSomeAnd, codes, inl, inr, refl, sym}
use Rattle.std.proofs.lemmas.Result.{IfErr-weaker, IfOk-weaker}
use Rattle.clap.specs.Words.{Row, Text, first_of, found_of, rows_of, subcommand_rows_of}
use Rattle.clap.specs.declared.parser.matches.ArgMatches.TheViews.{out-ArgMatches}
use Rattle.lrc_cli_args.specs.CommandLine.{HasMisfit, HasShowMisfit, IsChoice}
use Rattle.lrc_cli_args.specs.declared.misfit.Misfit.{Misfit}
use Rattle.lrc_cli_args.proofs.FoundLemmas.{found_as, found_at, name_before, check_rows, core_rows, plain_rows, judge_rows, explore_rows, show_left}
use Rattle.lrc_cli_args.proofs.command_line.choice_from.Goals as goal

-- what does not fit in a command that shows something of a run does not fit
shown : (found : Option (Text × List Row)) (misfit : Misfit) → IsSomeAnd found (λ f. HasShowMisfit f misfit)
    → IsSomeAnd found (λ f. HasMisfit f misfit)
shown None misfit has = absurd has
shown (Some f) misfit has = inr (inr (inr has))

pub text_of-requires : goal.text_of-requires
text_of-requires c =
    check_rows (subcommand_rows_of c.args.matches.now) (rows_of (found_of c.in-Some.options.now)) c.in-Some.ensures.rows c.requires
    (name_before (out-ArgMatches c.args.matches.now).subcommand ∙ c.in-Some.ensures.found.0 refl)

pub text_of-requires-in-Some-subcommand_matches : goal.text_of-requires-in-Some-subcommand_matches
text_of-requires-in-Some-subcommand_matches c =
    core_rows (subcommand_rows_of c.args.matches.now) (rows_of (found_of c.in-Some-subcommand_matches.options.now))
    c.in-Some-subcommand_matches.ensures.rows c.requires
    (name_before (out-ArgMatches c.args.matches.now).subcommand ∙ c.in-Some-subcommand_matches.ensures.found.0 refl)

pub plain_choice-requires : goal.plain_choice-requires
plain_choice-requires c =
    plain_rows (subcommand_rows_of c.args.matches.now) (rows_of (found_of c.in-Some-subcommand_matches-2.options.now))
    c.in-Some-subcommand_matches-2.ensures.rows c.requires
    (name_before (out-ArgMatches c.args.matches.now).subcommand ∙ c.in-Some-subcommand_matches-2.ensures.found.0 refl)

pub judge_choice-requires : goal.judge_choice-requires
judge_choice-requires c =
    judge_rows (subcommand_rows_of c.args.matches.now) (rows_of (found_of c.in-Some-subcommand_matches-3.options.now))
    c.in-Some-subcommand_matches-3.ensures.rows c.requires
    (name_before (out-ArgMatches c.args.matches.now).subcommand ∙ c.in-Some-subcommand_matches-3.ensures.found.0 refl)

pub explore_choice-requires : goal.explore_choice-requires
explore_choice-requires c =
    explore_rows (subcommand_rows_of c.args.matches.now) (rows_of (found_of c.in-Some-subcommand_matches-4.options.now))
    c.in-Some-subcommand_matches-4.ensures.rows c.requires
    (name_before (out-ArgMatches c.args.matches.now).subcommand ∙ c.in-Some-subcommand_matches-4.ensures.found.0 refl)

pub shown_from-requires : goal.shown_from-requires
shown_from-requires c =
    let known = name_before (out-ArgMatches c.args.matches.now).subcommand in
    show_left (subcommand_rows_of c.args.matches.now) (λ e. c.in_default.ensures.found.1 (sym known ∙ e))
    (λ e. c.in_default-subcommand_matches.ensures.found.1 (sym known ∙ e)) (λ e. c.in_default-subcommand_matches-2.ensures.found.1 (sym known ∙ e))
    (λ e. c.in_default-subcommand_matches-3.ensures.found.1 (sym known ∙ e)) (λ e. c.in_default-subcommand_matches-4.ensures.found.1 (sym known ∙ e)) c.requires

pub returns-clause-ok : goal.returns-clause-ok
returns-clause-ok c = c.shown_from.ensures.ok

pub returns-clause-err : goal.returns-clause-err
returns-clause-err c = IfErr-weaker c.shown_from.result _ _ (λ misfit has. shown (subcommand_rows_of c.args.matches.now) misfit has) c.shown_from.ensures.err

pub returns-in-Some-clause-ok : goal.returns-in-Some-clause-ok
returns-in-Some-clause-ok c =
    let rows = rows_of (found_of c.in-Some.options.now) in
    let named = name_before (out-ArgMatches c.args.matches.now).subcommand ∙ c.in-Some.ensures.found.0 refl in
    found_as (subcommand_rows_of c.args.matches.now) (codes "check") rows (λ rows. first_of (codes "FILE") rows ≡ Some _) named
    c.in-Some.ensures.rows c.text_of.ensures

pub returns-in-Some-subcommand_matches-clause-ok : goal.returns-in-Some-subcommand_matches-clause-ok
returns-in-Some-subcommand_matches-clause-ok c =
    let rows = rows_of (found_of c.in-Some-subcommand_matches.options.now) in
    let named = name_before (out-ArgMatches c.args.matches.now).subcommand ∙ c.in-Some-subcommand_matches.ensures.found.0 refl in
    found_as (subcommand_rows_of c.args.matches.now) (codes "core") rows (λ rows. first_of (codes "FILE") rows ≡ Some _) named
    c.in-Some-subcommand_matches.ensures.rows c.text_of-in-Some-subcommand_matches.ensures

pub returns-in-Some-subcommand_matches-2-clause-ok : goal.returns-in-Some-subcommand_matches-2-clause-ok
returns-in-Some-subcommand_matches-2-clause-ok c =
    let found = subcommand_rows_of c.args.matches.now in
    let rows = rows_of (found_of c.in-Some-subcommand_matches-2.options.now) in
    let named = name_before (out-ArgMatches c.args.matches.now).subcommand ∙ c.in-Some-subcommand_matches-2.ensures.found.0 refl in
    IfOk-weaker c.plain_choice.result _ _
    (λ choice is. found_at found (codes "plain") rows (λ f. IsChoice f choice) named c.in-Some-subcommand_matches-2.ensures.rows is)
    c.plain_choice.ensures.ok

pub returns-in-Some-subcommand_matches-2-clause-err : goal.returns-in-Some-subcommand_matches-2-clause-err
returns-in-Some-subcommand_matches-2-clause-err c =
    let found = subcommand_rows_of c.args.matches.now in
    let rows = rows_of (found_of c.in-Some-subcommand_matches-2.options.now) in
    let named = name_before (out-ArgMatches c.args.matches.now).subcommand ∙ c.in-Some-subcommand_matches-2.ensures.found.0 refl in
    IfErr-weaker c.plain_choice.result _ _
    (λ misfit has. found_at found (codes "plain") rows (λ f. HasMisfit f misfit) named c.in-Some-subcommand_matches-2.ensures.rows (inl (refl, has)))
    c.plain_choice.ensures.err

pub returns-in-Some-subcommand_matches-3-clause-ok : goal.returns-in-Some-subcommand_matches-3-clause-ok
returns-in-Some-subcommand_matches-3-clause-ok c =
    let found = subcommand_rows_of c.args.matches.now in
    let rows = rows_of (found_of c.in-Some-subcommand_matches-3.options.now) in
    let named = name_before (out-ArgMatches c.args.matches.now).subcommand ∙ c.in-Some-subcommand_matches-3.ensures.found.0 refl in
    IfOk-weaker c.judge_choice.result _ _
    (λ choice is. found_at found (codes "judge") rows (λ f. IsChoice f choice) named c.in-Some-subcommand_matches-3.ensures.rows is)
    c.judge_choice.ensures.ok

pub returns-in-Some-subcommand_matches-3-clause-err : goal.returns-in-Some-subcommand_matches-3-clause-err
returns-in-Some-subcommand_matches-3-clause-err c =
    let found = subcommand_rows_of c.args.matches.now in
    let rows = rows_of (found_of c.in-Some-subcommand_matches-3.options.now) in
    let named = name_before (out-ArgMatches c.args.matches.now).subcommand ∙ c.in-Some-subcommand_matches-3.ensures.found.0 refl in
    IfErr-weaker c.judge_choice.result _ _
    (λ misfit has. found_at found (codes "judge") rows (λ f. HasMisfit f misfit) named c.in-Some-subcommand_matches-3.ensures.rows (inr (inl (refl, has))))
    c.judge_choice.ensures.err

pub returns-in-Some-subcommand_matches-4-clause-ok : goal.returns-in-Some-subcommand_matches-4-clause-ok
returns-in-Some-subcommand_matches-4-clause-ok c =
    let found = subcommand_rows_of c.args.matches.now in
    let rows = rows_of (found_of c.in-Some-subcommand_matches-4.options.now) in
    let named = name_before (out-ArgMatches c.args.matches.now).subcommand ∙ c.in-Some-subcommand_matches-4.ensures.found.0 refl in
    IfOk-weaker c.explore_choice.result _ _
    (λ choice is. found_at found (codes "explore") rows (λ f. IsChoice f choice) named c.in-Some-subcommand_matches-4.ensures.rows is)
    c.explore_choice.ensures.ok

pub returns-in-Some-subcommand_matches-4-clause-err : goal.returns-in-Some-subcommand_matches-4-clause-err
returns-in-Some-subcommand_matches-4-clause-err c =
    let found = subcommand_rows_of c.args.matches.now in
    let rows = rows_of (found_of c.in-Some-subcommand_matches-4.options.now) in
    let named = name_before (out-ArgMatches c.args.matches.now).subcommand ∙ c.in-Some-subcommand_matches-4.ensures.found.0 refl in
    IfErr-weaker c.explore_choice.result _ _
    (λ misfit has. found_at found (codes "explore") rows (λ f. HasMisfit f misfit) named c.in-Some-subcommand_matches-4.ensures.rows (inr (inr (inl (refl, has)))))
    c.explore_choice.ensures.err
