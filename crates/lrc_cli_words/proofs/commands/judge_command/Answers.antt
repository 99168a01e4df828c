use Rattle.std.proofs.Common.{ap, ◌≡◌, ◌∙◌, codes}
use Rattle.clap.specs.Words.{app_of, new_app}
use Rattle.clap.specs.Simple.{app_of_fields}
use Rattle.lrc_cli_words.proofs.commands.judge_command.Goals as goal

pub returns-clause-app : goal.returns-clause-app
returns-clause-app c =
    let about_is : app_of c.about-command.result ≡ new_app (codes "judge") = ap app_of_fields c.about-command.ensures ∙ c.new.ensures.app in
    let one = c.taking-command.ensures.app (new_app (codes "judge")) _ c.file.ensures.local c.file.ensures.rule about_is in
    let two = c.taking-command-2.ensures.app _ _ c.bare_number.ensures.local c.bare_number.ensures.rule one in
    let three = c.taking-command-3.ensures.app _ _ c.flag_option.ensures.local c.flag_option.ensures.rule two in
    let four = c.taking-command-4.ensures.app _ _ c.flag_option-2.ensures.local c.flag_option-2.ensures.rule three in
    let five = c.taking-command-5.ensures.app _ _ c.text.ensures.local c.text.ensures.rule four in
    let six = c.taking-command-6.ensures.app _ _ c.page.ensures.local c.page.ensures.rule five in
    c.taking.ensures.app _ _ c.collect.ensures.local c.collect.ensures.rule six

pub returns-clause-local : goal.returns-clause-local
returns-clause-local c =
    let about_is = ap (λ f. f.has_globals) c.about-command.ensures ∙ c.new.ensures.local in
    let one = c.taking-command.ensures.local c.file.ensures.local about_is in
    let two = c.taking-command-2.ensures.local c.bare_number.ensures.local one in
    let three = c.taking-command-3.ensures.local c.flag_option.ensures.local two in
    let four = c.taking-command-4.ensures.local c.flag_option-2.ensures.local three in
    let five = c.taking-command-5.ensures.local c.text.ensures.local four in
    let six = c.taking-command-6.ensures.local c.page.ensures.local five in
    c.taking.ensures.local c.collect.ensures.local six
