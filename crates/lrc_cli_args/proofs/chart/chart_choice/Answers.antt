use Rattle.std.proofs.Common.{ap, codes, inl, inr, is_some, refl}
use Rattle.clap.specs.Words.{found_of, rows_of}
use Rattle.clap.proofs.WalkLemmas.{first_value-rows}
use Rattle.lrc_cli_args.specs.CommandLine.{HasChartMisfit}
use Rattle.lrc_cli_args.proofs.FoundLemmas.{misfit_up, read_is}
use Rattle.lrc_cli_args.proofs.chart.chart_choice.Goals as goal

pub showing_run-requires : goal.showing_run-requires
showing_run-requires c =
    let file_is = read_is c.get_str.result _ _ _ c.get_str.ensures (first_value-rows (found_of c.args.options.now) (codes "FILE")) c.in-Some-None.is-0 in
    c.requires.run (ap is_some file_is)

pub returns-in_err-showing_run-in-Some-None-clause-err : goal.returns-in_err-showing_run-in-Some-None-clause-err
returns-in_err-showing_run-in-Some-None-clause-err c =
    let file_is = read_is c.get_str.result _ _ _ c.get_str.ensures (first_value-rows (found_of c.args.options.now) (codes "FILE")) c.in-Some-None.is-0 in
    let acts_is = read_is c.get_str-2.result _ _ _ c.get_str-2.ensures (first_value-rows (found_of c.args.options.now) (codes "acts")) c.in-Some-None.is-1 in
    misfit_up c.from_residual-in_err-showing_run-in-Some-None.result c.in_err-showing_run-in-Some-None.field-0.0
    (HasChartMisfit (rows_of (found_of c.args.options.now))) c.from_residual-in_err-showing_run-in-Some-None.ensures.1
    (record { why = inr (inr (inr (inl (c.in_ok-charting.charting, c.in_ok-charting.ensures.ok, ap is_some file_is, acts_is, c.in_err-showing_run-in-Some-None.ensures.err)))) })

pub charted_acts-requires-clause-file : goal.charted_acts-requires-clause-file
charted_acts-requires-clause-file c =
    read_is c.get_str-2.result _ _ _ c.get_str-2.ensures (first_value-rows (found_of c.args.options.now) (codes "acts")) c.in-None-Some.is-1

pub returns-in_err-charted_acts-in-None-Some-clause-err : goal.returns-in_err-charted_acts-in-None-Some-clause-err
returns-in_err-charted_acts-in-None-Some-clause-err c =
    let file_is = read_is c.get_str.result _ _ _ c.get_str.ensures (first_value-rows (found_of c.args.options.now) (codes "FILE")) c.in-None-Some.is-0 in
    let acts_is = read_is c.get_str-2.result _ _ _ c.get_str-2.ensures (first_value-rows (found_of c.args.options.now) (codes "acts")) c.in-None-Some.is-1 in
    misfit_up c.from_residual-in_err-charted_acts-in-None-Some.result c.in_err-charted_acts-in-None-Some.field-0.0
    (HasChartMisfit (rows_of (found_of c.args.options.now))) c.from_residual-in_err-charted_acts-in-None-Some.ensures.1
    (record { why = inr (inr (inr (inr (c.in_ok-charting.charting, c.in_ok-charting.ensures.ok, file_is, ap is_some acts_is, c.in_err-charted_acts-in-None-Some.ensures.err)))) })

pub returns-in_ok-showing_run-in-Some-None-clause-ok : goal.returns-in_ok-showing_run-in-Some-None-clause-ok
returns-in_ok-showing_run-in-Some-None-clause-ok c =
    let acts_is = read_is c.get_str-2.result _ _ _ c.get_str-2.ensures (first_value-rows (found_of c.args.options.now) (codes "acts")) c.in-Some-None.is-1 in
    (refl, record { acts = acts_is; run_is = c.in_ok-showing_run-in-Some-None.ensures.ok; charting_is = c.in_ok-charting.ensures.ok })

pub returns-in_ok-charted_acts-in-None-Some-clause-ok : goal.returns-in_ok-charted_acts-in-None-Some-clause-ok
returns-in_ok-charted_acts-in-None-Some-clause-ok c =
    let file_is = read_is c.get_str.result _ _ _ c.get_str.ensures (first_value-rows (found_of c.args.options.now) (codes "FILE")) c.in-None-Some.is-0 in
    (refl, record { file = file_is; acts_are = c.in_ok-charted_acts-in-None-Some.ensures.ok; charting_is = c.in_ok-charting.ensures.ok })

pub returns-in-Some-Some-clause-err : goal.returns-in-Some-Some-clause-err
returns-in-Some-Some-clause-err c =
    let file_is = read_is c.get_str.result _ _ _ c.get_str.ensures (first_value-rows (found_of c.args.options.now) (codes "FILE")) c.in-Some-Some.is-0 in
    let acts_is = read_is c.get_str-2.result _ _ _ c.get_str-2.ensures (first_value-rows (found_of c.args.options.now) (codes "acts")) c.in-Some-Some.is-1 in
    record { why = inr (inl (refl, ap is_some file_is, ap is_some acts_is)) }

pub returns-in-None-None-clause-err : goal.returns-in-None-None-clause-err
returns-in-None-None-clause-err c =
    let file_is = read_is c.get_str.result _ _ _ c.get_str.ensures (first_value-rows (found_of c.args.options.now) (codes "FILE")) c.in-None-None.is-0 in
    let acts_is = read_is c.get_str-2.result _ _ _ c.get_str-2.ensures (first_value-rows (found_of c.args.options.now) (codes "acts")) c.in-None-None.is-1 in
    record { why = inr (inr (inl (refl, file_is, acts_is))) }
