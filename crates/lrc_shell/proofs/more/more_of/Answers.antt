use Rattle.lrc_text.specs.Parts.{whole_text}
use Rattle.lrc_cli_answer.specs.declared.fault.Fault.TheVariants.{Text, Names}
use Rattle.std.specs.Prelude.{option_map}
use Rattle.lrc_shell.proofs.MoreLemmas.{lint_says_more}
use Rattle.lrc_shell.proofs.more.more_of.Goals as goal

pub returns-in-Text : goal.returns-in-Text
returns-in-Text c =
    lint_says_more (λ p. whole_text p.items) c.args.choice.now c.args.text.now c.file.result.now (option_map (λ e. e.now) c.args.events) c.args.fault
    (Text c.in-Text.field-0 c.in-Text.field-1) c.linted.result c.in-Text.is (λ out told. told) c.file.ensures c.linted.ensures

pub returns-in-Names : goal.returns-in-Names
returns-in-Names c =
    lint_says_more (λ p. whole_text p.items) c.args.choice.now c.args.text.now c.file-in-Names.result.now (option_map (λ e. e.now) c.args.events) c.args.fault
    (Names c.in-Names.field-0 c.in-Names.field-1) c.linted-in-Names.result c.in-Names.is (λ out told. told) c.file-in-Names.ensures c.linted-in-Names.ensures
