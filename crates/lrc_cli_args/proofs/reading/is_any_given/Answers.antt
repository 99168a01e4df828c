use Rattle.std.proofs.Common.{rules, tests, Bor, List, ℕ}
use Rattle.std.proofs.lemmas.Iterator.{YieldsList-from_slice}
use Rattle.std.proofs.lemmas.Iterator.Search.{any_from_yields_List}
use Rattle.clap.specs.Takes.{is_given}
use Rattle.clap.specs.Words.{found_of, rows_of}
use Rattle.lrc_cli_args.proofs.reading.is_any_given.Goals as goal

pub returns : goal.returns
returns c =
    any_from_yields_List (λ (name : Bor (List ℕ)). is_given name.now (rows_of (found_of c.args.options.now))) _ _ c.any.result c.any.ensures.ran
    (YieldsList-from_slice c.args.names.now cc) (λ x b q k. search (rules, tests))
