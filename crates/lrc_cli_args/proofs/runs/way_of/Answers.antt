use Rattle.std.proofs.Common.{ap, codes, inl, inr, is_some}
use Rattle.std.proofs.lemmas.Result.{IfErr-weaker}
use Rattle.clap.specs.Words.{found_of}
use Rattle.clap.proofs.WalkLemmas.{first_value-rows}
use Rattle.lrc_cli_args.proofs.FoundLemmas.{read_is}
use Rattle.lrc_cli_args.proofs.runs.way_of.Goals as goal

pub followed_way-requires-clause-word : goal.followed_way-requires-clause-word
followed_way-requires-clause-word c =
    read_is c.get_str.result _ _ _ c.get_str.ensures (first_value-rows (found_of c.args.options.now) (codes "then")) c.in-Some.is

pub bare_way-requires-clause-bare : goal.bare_way-requires-clause-bare
bare_way-requires-clause-bare c =
    read_is c.get_str.result _ _ _ c.get_str.ensures (first_value-rows (found_of c.args.options.now) (codes "then")) c.in-None.is

pub returns-in-Some-clause-err : goal.returns-in-Some-clause-err
returns-in-Some-clause-err c =
    let word_is = read_is c.get_str.result _ _ _ c.get_str.ensures (first_value-rows (found_of c.args.options.now) (codes "then")) c.in-Some.is in
    IfErr-weaker c.followed_way.result _ _ (λ misfit has. inr (ap is_some word_is, has)) c.followed_way.ensures.err

pub returns-in-None-clause-err : goal.returns-in-None-clause-err
returns-in-None-clause-err c =
    let none = read_is c.get_str.result _ _ _ c.get_str.ensures (first_value-rows (found_of c.args.options.now) (codes "then")) c.in-None.is in
    IfErr-weaker c.bare_way.result _ _ (λ misfit has. inl (none, has)) c.bare_way.ensures.err
