use Rattle.std.proofs.Common.{ap, ◌≡◌, ◌∙◌, codes}
use Rattle.clap.specs.Words.{app_of, new_app}
use Rattle.clap.specs.Simple.{app_of_fields}
use Rattle.lrc_cli_words.proofs.commands.chart_command.Goals as goal

pub returns-clause-app : goal.returns-clause-app
returns-clause-app c =
    let about_is : app_of c.about-command.result ≡ new_app (codes "chart") = ap app_of_fields c.about-command.ensures ∙ c.new.ensures.app in
    let one = c.taking-command.ensures.app (new_app (codes "chart")) _ c.optional_file.ensures.local c.optional_file.ensures.rule about_is in
    let two = c.taking_ways-command.ensures.app _ (c.taking_counts.ensures.app _ one) in
    let three = c.taking-command-2.ensures.app _ _ c.flag_option.ensures.local c.flag_option.ensures.rule two in
    let four = c.taking-command-3.ensures.app _ _ c.text.ensures.local c.text.ensures.rule three in
    let five = c.taking-command-4.ensures.app _ _ c.flag_option-2.ensures.local c.flag_option-2.ensures.rule four in
    let six = c.taking_part-command.ensures.app _ five in
    let seven = c.taking-command-5.ensures.app _ _ c.text-2.ensures.local c.text-2.ensures.rule six in
    c.taking.ensures.app _ _ c.flag_option-3.ensures.local c.flag_option-3.ensures.rule seven

pub returns-clause-local : goal.returns-clause-local
returns-clause-local c =
    let about_is = ap (λ f. f.has_globals) c.about-command.ensures ∙ c.new.ensures.local in
    let one = c.taking-command.ensures.local c.optional_file.ensures.local about_is in
    let two = c.taking_ways-command.ensures.local (c.taking_counts.ensures.local one) in
    let three = c.taking-command-2.ensures.local c.flag_option.ensures.local two in
    let four = c.taking-command-3.ensures.local c.text.ensures.local three in
    let five = c.taking-command-4.ensures.local c.flag_option-2.ensures.local four in
    let six = c.taking_part-command.ensures.local five in
    let seven = c.taking-command-5.ensures.local c.text-2.ensures.local six in
    c.taking.ensures.local c.flag_option-3.ensures.local seven
