use Rattle.std.proofs.Common.{◌≡◌, ◌∙◌, Option, Some, IsSomeAnd, ap, codes, false, option_map, refl, subst, sym}
use Rattle.clap.specs.Words.{Text, first_of, found_of, rows_of}
use Rattle.clap.proofs.WalkLemmas.{first_value-rows}
use Rattle.lrc_cli_words.specs.Commands.{is_command}
use Rattle.lrc_cli_args.proofs.command_line.help_request.Goals as goal

pub returns-in-None-clause-ok : goal.returns-in-None-clause-ok
returns-in-None-clause-ok c =
    (refl, sym (c.get_str.ensures ∙ first_value-rows (found_of c.args.options.now) (codes "COMMAND")) ∙ ap (option_map (λ s. s.now)) c.in-None.is)

pub returns-in-Some-clause-ok : goal.returns-in-Some-clause-ok
returns-in-Some-clause-ok c =
    (refl, sym (c.get_str.ensures ∙ first_value-rows (found_of c.args.options.now) (codes "COMMAND")) ∙ ap (option_map (λ s. s.now)) c.in-Some.is)

pub returns-in-Some-2-clause-err : goal.returns-in-Some-2-clause-err
returns-in-Some-2-clause-err c =
    let first_is : Some c.in-Some.name.now ≡ first_of (codes "COMMAND") (rows_of (found_of c.args.options.now)) =
    ap (option_map (λ s. s.now)) (sym c.in-Some.is) ∙ c.get_str.ensures ∙ first_value-rows (found_of c.args.options.now) (codes "COMMAND") in
    (refl, refl, subst (λ (o : Option Text). IsSomeAnd o (λ word. is_command word ≡ false)) first_is (sym c.is_command.ensures ∙ c.if-is_command.false))
