use Rattle.std.proofs.Common.{ap, ◌≡◌, ◌∙◌, codes}
use Rattle.clap.specs.Words.{app_of, new_app}
use Rattle.clap.specs.Simple.{app_of_fields}
use Rattle.lrc_cli_words.proofs.commands.races_command.Goals as goal

pub returns-clause-app : goal.returns-clause-app
returns-clause-app c =
    let about_is : app_of c.after_help-command.result ≡ new_app (codes "races") = ap app_of_fields c.after_help-command.ensures ∙ ap app_of_fields c.about.ensures ∙ c.new.ensures.app in
    let one = c.taking-command.ensures.app (new_app (codes "races")) _ c.file.ensures.local c.file.ensures.rule about_is in
    let two = c.taking-command-2.ensures.app _ _ c.trace_form.ensures.local c.trace_form.ensures.rule one in
    let three = c.taking-command-3.ensures.app _ _ c.flag_option.ensures.local c.flag_option.ensures.rule two in
    let four = c.taking-command-4.ensures.app _ _ c.flag_option-2.ensures.local c.flag_option-2.ensures.rule three in
    let five = c.taking-command-5.ensures.app _ _ c.flag_option-3.ensures.local c.flag_option-3.ensures.rule four in
    let six = c.taking-command-6.ensures.app _ _ c.flag_option-4.ensures.local c.flag_option-4.ensures.rule five in
    let seven = c.taking-command-7.ensures.app _ _ c.flag_option-5.ensures.local c.flag_option-5.ensures.rule six in
    let eight = c.taking-command-8.ensures.app _ _ c.text.ensures.local c.text.ensures.rule seven in
    let nine = c.taking-command-9.ensures.app _ _ c.line_pair.ensures.local c.line_pair.ensures.rule eight in
    c.taking.ensures.app _ _ c.line_pair-2.ensures.local c.line_pair-2.ensures.rule nine

pub returns-clause-local : goal.returns-clause-local
returns-clause-local c =
    let about_is = ap (λ f. f.has_globals) c.after_help-command.ensures ∙ ap (λ f. f.has_globals) c.about.ensures ∙ c.new.ensures.local in
    let one = c.taking-command.ensures.local c.file.ensures.local about_is in
    let two = c.taking-command-2.ensures.local c.trace_form.ensures.local one in
    let three = c.taking-command-3.ensures.local c.flag_option.ensures.local two in
    let four = c.taking-command-4.ensures.local c.flag_option-2.ensures.local three in
    let five = c.taking-command-5.ensures.local c.flag_option-3.ensures.local four in
    let six = c.taking-command-6.ensures.local c.flag_option-4.ensures.local five in
    let seven = c.taking-command-7.ensures.local c.flag_option-5.ensures.local six in
    let eight = c.taking-command-8.ensures.local c.text.ensures.local seven in
    let nine = c.taking-command-9.ensures.local c.line_pair.ensures.local eight in
    c.taking.ensures.local c.line_pair-2.ensures.local nine
