use Rattle.std.proofs.Common.{ap, ◌≡◌, ◌∙◌, codes}
use Rattle.clap.specs.Words.{app_of, new_app}
use Rattle.clap.specs.Simple.{app_of_fields}
use Rattle.lrc_cli_words.proofs.commands.explore_command.Goals as goal

pub returns-clause-app : goal.returns-clause-app
returns-clause-app c =
    let about_is : app_of c.about-command.result ≡ new_app (codes "explore") = ap app_of_fields c.about-command.ensures ∙ c.new.ensures.app in
    let one = c.taking-command.ensures.app (new_app (codes "explore")) _ c.file.ensures.local c.file.ensures.rule about_is in
    let two = c.taking-command-2.ensures.app _ _ c.nodes.ensures.local c.nodes.ensures.rule one in
    let three = c.taking-command-3.ensures.app _ _ c.number_option.ensures.local c.number_option.ensures.rule two in
    let four = c.taking-command-4.ensures.app _ _ c.memory.ensures.local c.memory.ensures.rule three in
    let five = c.taking-command-5.ensures.app _ _ c.flag_option.ensures.local c.flag_option.ensures.rule four in
    let six = c.taking-command-6.ensures.app _ _ c.bare_number.ensures.local c.bare_number.ensures.rule five in
    let seven = c.taking-command-7.ensures.app _ _ c.bare_number-2.ensures.local c.bare_number-2.ensures.rule six in
    let eight = c.taking-command-8.ensures.app _ _ c.flag_option-2.ensures.local c.flag_option-2.ensures.rule seven in
    let nine = c.taking-command-9.ensures.app _ _ c.flag_option-3.ensures.local c.flag_option-3.ensures.rule eight in
    let ten = c.taking-command-10.ensures.app _ _ c.text.ensures.local c.text.ensures.rule nine in
    let eleven = c.taking-command-11.ensures.app _ _ c.text-2.ensures.local c.text-2.ensures.rule ten in
    let twelve = c.taking-command-12.ensures.app _ _ c.page.ensures.local c.page.ensures.rule eleven in
    c.taking.ensures.app _ _ c.collect.ensures.local c.collect.ensures.rule twelve

pub returns-clause-local : goal.returns-clause-local
returns-clause-local c =
    let about_is = ap (λ f. f.has_globals) c.about-command.ensures ∙ c.new.ensures.local in
    let one = c.taking-command.ensures.local c.file.ensures.local about_is in
    let two = c.taking-command-2.ensures.local c.nodes.ensures.local one in
    let three = c.taking-command-3.ensures.local c.number_option.ensures.local two in
    let four = c.taking-command-4.ensures.local c.memory.ensures.local three in
    let five = c.taking-command-5.ensures.local c.flag_option.ensures.local four in
    let six = c.taking-command-6.ensures.local c.bare_number.ensures.local five in
    let seven = c.taking-command-7.ensures.local c.bare_number-2.ensures.local six in
    let eight = c.taking-command-8.ensures.local c.flag_option-2.ensures.local seven in
    let nine = c.taking-command-9.ensures.local c.flag_option-3.ensures.local eight in
    let ten = c.taking-command-10.ensures.local c.text.ensures.local nine in
    let eleven = c.taking-command-11.ensures.local c.text-2.ensures.local ten in
    let twelve = c.taking-command-12.ensures.local c.page.ensures.local eleven in
    c.taking.ensures.local c.collect.ensures.local twelve
