use Rattle.std.proofs.Common.{◌≡◌, ◌∙◌, Option, Some, IfSome, ap, codes, inl, inr, is_some, option_map, refl, subst, sym}
use Rattle.std.proofs.lemmas.Result.{IfErr-weaker, IfOk-weaker}
use Rattle.clap.specs.Words.{found_of, rows_of, subcommand_rows_of}
use Rattle.clap.specs.declared.parser.matches.ArgMatches.TheViews.{out-ArgMatches}
use Rattle.lrc_cli_args.specs.CommandLine.{HasShowMisfit, IsChoice}
use Rattle.lrc_cli_args.specs.declared.choice.Choice.{Choice}
use Rattle.lrc_cli_args.proofs.FoundLemmas.{ask_taken, chart_rows, explain_rows, found_at, name_before, stats_left, stats_rows, step_rows, trace_rows}
use Rattle.lrc_cli_args.proofs.command_line.asked_from.Goals as goal

-- what holds of the value that there is
at_some : {T : Type 0} (o : Option T) (x : T) (P : T → Type 0) → o ≡ Some x → IfSome o P → P x
at_some o x P is h = subst (λ q. IfSome q P) is h

pub trace_choice-requires : goal.trace_choice-requires
trace_choice-requires c =
    let found = subcommand_rows_of c.args.matches.now in
    trace_rows found (rows_of (found_of c.in-Some.options.now)) c.in-Some.ensures.rows (ask_taken found c.requires)
    (name_before (out-ArgMatches c.args.matches.now).subcommand ∙ c.in-Some.ensures.found.0 refl)

pub step_choice-requires : goal.step_choice-requires
step_choice-requires c =
    let found = subcommand_rows_of c.args.matches.now in
    step_rows found (rows_of (found_of c.in-Some-subcommand_matches.options.now)) c.in-Some-subcommand_matches.ensures.rows (ask_taken found c.requires)
    (name_before (out-ArgMatches c.args.matches.now).subcommand ∙ c.in-Some-subcommand_matches.ensures.found.0 refl)

pub chart_choice-requires : goal.chart_choice-requires
chart_choice-requires c =
    let found = subcommand_rows_of c.args.matches.now in
    chart_rows found (rows_of (found_of c.in-Some-subcommand_matches-2.options.now)) c.in-Some-subcommand_matches-2.ensures.rows (ask_taken found c.requires)
    (name_before (out-ArgMatches c.args.matches.now).subcommand ∙ c.in-Some-subcommand_matches-2.ensures.found.0 refl)

pub showing_choice-requires : goal.showing_choice-requires
showing_choice-requires c =
    let found = subcommand_rows_of c.args.matches.now in
    explain_rows found (rows_of (found_of c.in-Some-subcommand_matches-3.options.now)) c.in-Some-subcommand_matches-3.ensures.rows (ask_taken found c.requires)
    (name_before (out-ArgMatches c.args.matches.now).subcommand ∙ c.in-Some-subcommand_matches-3.ensures.found.0 refl)

pub unwrap-options-requires : goal.unwrap-options-requires
unwrap-options-requires c =
    let known = name_before (out-ArgMatches c.args.matches.now).subcommand in
    c.subcommand_matches-5.ensures.found.1 (sym known ∙ stats_left (subcommand_rows_of c.args.matches.now)
    (λ e. c.in_default.ensures.found.1 (sym known ∙ e)) (λ e. c.in_default-subcommand_matches.ensures.found.1 (sym known ∙ e))
    (λ e. c.in_default-subcommand_matches-2.ensures.found.1 (sym known ∙ e))
    (λ e. c.in_default-subcommand_matches-3.ensures.found.1 (sym known ∙ e)) c.requires)

pub showing_choice-requires-2 : goal.showing_choice-requires-2
showing_choice-requires-2 c =
    let found = subcommand_rows_of c.args.matches.now in
    let held =
    at_some c.subcommand_matches-5.result c.unwrap-options.result (λ m. option_map (λ p. p.1) found ≡ Some (rows_of (found_of m.now)))
    c.unwrap-options.ensures c.subcommand_matches-5.ensures.rows in
    stats_rows found (rows_of (found_of c.unwrap-options.result.now)) held (ask_taken found c.requires)
    (name_before (out-ArgMatches c.args.matches.now).subcommand ∙ c.subcommand_matches-5.ensures.found.0 (ap is_some c.unwrap-options.ensures))

pub returns-in-Some-clause-ok : goal.returns-in-Some-clause-ok
returns-in-Some-clause-ok c =
    let found = subcommand_rows_of c.args.matches.now in
    let rows = rows_of (found_of c.in-Some.options.now) in
    let named = name_before (out-ArgMatches c.args.matches.now).subcommand ∙ c.in-Some.ensures.found.0 refl in
    IfOk-weaker c.trace_choice.result _ _
    (λ choice is. found_at found (codes "trace") rows (λ f. IsChoice f choice) named c.in-Some.ensures.rows is)
    c.trace_choice.ensures.ok

pub returns-in-Some-clause-err : goal.returns-in-Some-clause-err
returns-in-Some-clause-err c =
    let found = subcommand_rows_of c.args.matches.now in
    let rows = rows_of (found_of c.in-Some.options.now) in
    let named = name_before (out-ArgMatches c.args.matches.now).subcommand ∙ c.in-Some.ensures.found.0 refl in
    IfErr-weaker c.trace_choice.result _ _
    (λ misfit has. found_at found (codes "trace") rows (λ f. HasShowMisfit f misfit) named c.in-Some.ensures.rows
    (inr (inr (inl (refl, has)))))
    c.trace_choice.ensures.err

pub returns-in-Some-subcommand_matches-clause-ok : goal.returns-in-Some-subcommand_matches-clause-ok
returns-in-Some-subcommand_matches-clause-ok c =
    let found = subcommand_rows_of c.args.matches.now in
    let rows = rows_of (found_of c.in-Some-subcommand_matches.options.now) in
    let named = name_before (out-ArgMatches c.args.matches.now).subcommand ∙ c.in-Some-subcommand_matches.ensures.found.0 refl in
    IfOk-weaker c.step_choice.result _ _
    (λ choice is. found_at found (codes "step") rows (λ f. IsChoice f choice) named c.in-Some-subcommand_matches.ensures.rows is)
    c.step_choice.ensures.ok

pub returns-in-Some-subcommand_matches-clause-err : goal.returns-in-Some-subcommand_matches-clause-err
returns-in-Some-subcommand_matches-clause-err c =
    let found = subcommand_rows_of c.args.matches.now in
    let rows = rows_of (found_of c.in-Some-subcommand_matches.options.now) in
    let named = name_before (out-ArgMatches c.args.matches.now).subcommand ∙ c.in-Some-subcommand_matches.ensures.found.0 refl in
    IfErr-weaker c.step_choice.result _ _
    (λ misfit has. found_at found (codes "step") rows (λ f. HasShowMisfit f misfit) named c.in-Some-subcommand_matches.ensures.rows
    (inr (inr (inr (inl (refl, has))))))
    c.step_choice.ensures.err

pub returns-in-Some-subcommand_matches-2-clause-ok : goal.returns-in-Some-subcommand_matches-2-clause-ok
returns-in-Some-subcommand_matches-2-clause-ok c =
    let found = subcommand_rows_of c.args.matches.now in
    let rows = rows_of (found_of c.in-Some-subcommand_matches-2.options.now) in
    let named = name_before (out-ArgMatches c.args.matches.now).subcommand ∙ c.in-Some-subcommand_matches-2.ensures.found.0 refl in
    IfOk-weaker c.chart_choice.result _ _
    (λ choice is. found_at found (codes "chart") rows (λ f. IsChoice f choice) named c.in-Some-subcommand_matches-2.ensures.rows is)
    c.chart_choice.ensures.ok

pub returns-in-Some-subcommand_matches-2-clause-err : goal.returns-in-Some-subcommand_matches-2-clause-err
returns-in-Some-subcommand_matches-2-clause-err c =
    let found = subcommand_rows_of c.args.matches.now in
    let rows = rows_of (found_of c.in-Some-subcommand_matches-2.options.now) in
    let named = name_before (out-ArgMatches c.args.matches.now).subcommand ∙ c.in-Some-subcommand_matches-2.ensures.found.0 refl in
    IfErr-weaker c.chart_choice.result _ _
    (λ misfit has. found_at found (codes "chart") rows (λ f. HasShowMisfit f misfit) named c.in-Some-subcommand_matches-2.ensures.rows
    (inr (inr (inr (inr (inr (inr (refl, has))))))))
    c.chart_choice.ensures.err

pub returns-in-Some-subcommand_matches-3-clause-ok : goal.returns-in-Some-subcommand_matches-3-clause-ok
returns-in-Some-subcommand_matches-3-clause-ok c =
    let found = subcommand_rows_of c.args.matches.now in
    let rows = rows_of (found_of c.in-Some-subcommand_matches-3.options.now) in
    let named = name_before (out-ArgMatches c.args.matches.now).subcommand ∙ c.in-Some-subcommand_matches-3.ensures.found.0 refl in
    IfOk-weaker c.showing_choice.result _ _
    (λ choice is. found_at found (codes "explain") rows (λ f. IsChoice f choice) named c.in-Some-subcommand_matches-3.ensures.rows
    (subst (λ (x : Choice). IsChoice (codes "explain", rows) x) (sym is.1) (refl, is.2)))
    c.showing_choice.ensures.ok

pub returns-in-Some-subcommand_matches-3-clause-err : goal.returns-in-Some-subcommand_matches-3-clause-err
returns-in-Some-subcommand_matches-3-clause-err c =
    let found = subcommand_rows_of c.args.matches.now in
    let rows = rows_of (found_of c.in-Some-subcommand_matches-3.options.now) in
    let named = name_before (out-ArgMatches c.args.matches.now).subcommand ∙ c.in-Some-subcommand_matches-3.ensures.found.0 refl in
    IfErr-weaker c.showing_choice.result _ _
    (λ misfit has. found_at found (codes "explain") rows (λ f. HasShowMisfit f misfit) named c.in-Some-subcommand_matches-3.ensures.rows
    (inr (inr (inr (inr (inl (refl, has)))))))
    c.showing_choice.ensures.err

pub returns-clause-ok : goal.returns-clause-ok
returns-clause-ok c =
    let found = subcommand_rows_of c.args.matches.now in
    let rows = rows_of (found_of c.unwrap-options.result.now) in
    let named = name_before (out-ArgMatches c.args.matches.now).subcommand ∙ c.subcommand_matches-5.ensures.found.0 (ap is_some c.unwrap-options.ensures) in
    let held =
    at_some c.subcommand_matches-5.result c.unwrap-options.result (λ m. option_map (λ p. p.1) found ≡ Some (rows_of (found_of m.now)))
    c.unwrap-options.ensures c.subcommand_matches-5.ensures.rows in
    IfOk-weaker c.showing_choice-2.result _ _
    (λ choice is. found_at found (codes "stats") rows (λ f. IsChoice f choice) named held
    (subst (λ (x : Choice). IsChoice (codes "stats", rows) x) (sym is.1) (refl, is.2)))
    c.showing_choice-2.ensures.ok

pub returns-clause-err : goal.returns-clause-err
returns-clause-err c =
    let found = subcommand_rows_of c.args.matches.now in
    let rows = rows_of (found_of c.unwrap-options.result.now) in
    let named = name_before (out-ArgMatches c.args.matches.now).subcommand ∙ c.subcommand_matches-5.ensures.found.0 (ap is_some c.unwrap-options.ensures) in
    let held =
    at_some c.subcommand_matches-5.result c.unwrap-options.result (λ m. option_map (λ p. p.1) found ≡ Some (rows_of (found_of m.now)))
    c.unwrap-options.ensures c.subcommand_matches-5.ensures.rows in
    IfErr-weaker c.showing_choice-2.result _ _
    (λ misfit has. found_at found (codes "stats") rows (λ f. HasShowMisfit f misfit) named held (inr (inr (inr (inr (inr (inl (refl, has))))))))
    c.showing_choice-2.ensures.err
