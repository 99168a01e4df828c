use Rattle.std.proofs.Common.{ap, codes, inl, inr, is_some, refl}
use Rattle.clap.specs.Words.{found_of, rows_of}
use Rattle.clap.proofs.WalkLemmas.{first_value-rows}
use Rattle.lrc_cli_args.specs.CommandLine.{HasWhyMisfit}
use Rattle.lrc_cli_args.proofs.FoundLemmas.{misfit_up, read_is}
use Rattle.lrc_cli_args.proofs.why.why_choice.Goals as goal

pub run_choice-requires : goal.run_choice-requires
run_choice-requires c =
    let file_is = read_is c.get_str.result _ _ _ c.get_str.ensures (first_value-rows (found_of c.args.options.now) (codes "FILE")) c.in-Some-None.is-0 in
    c.requires.run (ap is_some file_is)

pub returns-in_err-run_choice-in-Some-None-clause-err : goal.returns-in_err-run_choice-in-Some-None-clause-err
returns-in_err-run_choice-in-Some-None-clause-err c =
    let file_is = read_is c.get_str.result _ _ _ c.get_str.ensures (first_value-rows (found_of c.args.options.now) (codes "FILE")) c.in-Some-None.is-0 in
    let acts_is = read_is c.get_str-2.result _ _ _ c.get_str-2.ensures (first_value-rows (found_of c.args.options.now) (codes "acts")) c.in-Some-None.is-1 in
    misfit_up c.from_residual-in_err-run_choice-in-Some-None.result c.in_err-run_choice-in-Some-None.field-0.0
    (HasWhyMisfit (rows_of (found_of c.args.options.now))) c.from_residual-in_err-run_choice-in-Some-None.ensures.1
    (record { why = inr (inr (inr (inl (c.in_ok-asking.asking, c.in_ok-asking.ensures.ok, ap is_some file_is, acts_is, c.in_err-run_choice-in-Some-None.ensures.err)))) })

pub foreign_acts-requires-clause-file : goal.foreign_acts-requires-clause-file
foreign_acts-requires-clause-file c =
    read_is c.get_str-2.result _ _ _ c.get_str-2.ensures (first_value-rows (found_of c.args.options.now) (codes "acts")) c.in-None-Some.is-1

pub returns-in_err-foreign_acts-in-None-Some-clause-err : goal.returns-in_err-foreign_acts-in-None-Some-clause-err
returns-in_err-foreign_acts-in-None-Some-clause-err c =
    let file_is = read_is c.get_str.result _ _ _ c.get_str.ensures (first_value-rows (found_of c.args.options.now) (codes "FILE")) c.in-None-Some.is-0 in
    let acts_is = read_is c.get_str-2.result _ _ _ c.get_str-2.ensures (first_value-rows (found_of c.args.options.now) (codes "acts")) c.in-None-Some.is-1 in
    misfit_up c.from_residual-in_err-foreign_acts-in-None-Some.result c.in_err-foreign_acts-in-None-Some.field-0.0
    (HasWhyMisfit (rows_of (found_of c.args.options.now))) c.from_residual-in_err-foreign_acts-in-None-Some.ensures.1
    (record { why = inr (inr (inr (inr (c.in_ok-asking.asking, c.in_ok-asking.ensures.ok, file_is, ap is_some acts_is, c.in_err-foreign_acts-in-None-Some.ensures.err)))) })

pub returns-in_ok-run_choice-in-Some-None-clause-ok : goal.returns-in_ok-run_choice-in-Some-None-clause-ok
returns-in_ok-run_choice-in-Some-None-clause-ok c =
    let acts_is = read_is c.get_str-2.result _ _ _ c.get_str-2.ensures (first_value-rows (found_of c.args.options.now) (codes "acts")) c.in-Some-None.is-1 in
    (refl, record { acts = acts_is; run_is = c.in_ok-run_choice-in-Some-None.ensures.ok; asking_is = c.in_ok-asking.ensures.ok })

pub returns-in_ok-foreign_acts-in-None-Some-clause-ok : goal.returns-in_ok-foreign_acts-in-None-Some-clause-ok
returns-in_ok-foreign_acts-in-None-Some-clause-ok c =
    let file_is = read_is c.get_str.result _ _ _ c.get_str.ensures (first_value-rows (found_of c.args.options.now) (codes "FILE")) c.in-None-Some.is-0 in
    (refl, record { file = file_is; acts_are = c.in_ok-foreign_acts-in-None-Some.ensures.ok; asking_is = c.in_ok-asking.ensures.ok })

pub returns-in-Some-Some-clause-err : goal.returns-in-Some-Some-clause-err
returns-in-Some-Some-clause-err c =
    let file_is = read_is c.get_str.result _ _ _ c.get_str.ensures (first_value-rows (found_of c.args.options.now) (codes "FILE")) c.in-Some-Some.is-0 in
    let acts_is = read_is c.get_str-2.result _ _ _ c.get_str-2.ensures (first_value-rows (found_of c.args.options.now) (codes "acts")) c.in-Some-Some.is-1 in
    record { why = inr (inl (refl, ap is_some file_is, ap is_some acts_is)) }

pub returns-in-None-None-clause-err : goal.returns-in-None-None-clause-err
returns-in-None-None-clause-err c =
    let file_is = read_is c.get_str.result _ _ _ c.get_str.ensures (first_value-rows (found_of c.args.options.now) (codes "FILE")) c.in-None-None.is-0 in
    let acts_is = read_is c.get_str-2.result _ _ _ c.get_str-2.ensures (first_value-rows (found_of c.args.options.now) (codes "acts")) c.in-None-None.is-1 in
    record { why = inr (inr (inl (refl, file_is, acts_is))) }
