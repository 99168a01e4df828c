use Rattle.std.proofs.Common.{ap, ◌∙◌, true}
use Rattle.std.proofs.lemmas.Result.{IfOk-weaker}
use Rattle.clap.specs.Words.{App}
use Rattle.clap.specs.Simple.{app_of_fields}
use Rattle.lrc_cli_words.proofs.commands.bare_command_line.Goals as goal

pub returns : goal.returns
returns c =
    let about_is = ap app_of_fields c.about.ensures ∙ c.new.ensures.app in
    let after_is = ap app_of_fields c.after_help.ensures ∙ about_is in
    let version_is = ap app_of_fields c.version.ensures ∙ ap (λ (a : App). record a { top = record a.top { has_version = true } }) after_is in
    let bare_is = ap app_of_fields c.no_binary_name.ensures ∙ ap (λ (a : App). record a { top = record a.top { no_binary_name = true } }) version_is in
    let asked_is = ap app_of_fields c.subcommand_required.ensures ∙ ap (λ (a : App). record a { top = record a.top { subcommand_required = true } }) bare_is in
    let helped_is = ap app_of_fields c.disable_help_subcommand.ensures
    ∙ ap (λ (a : App). record a { top = record a.top { disable_help_subcommand = true } }) asked_is in
    IfOk-weaker c.bin_name.result _ _ (λ r h. ap app_of_fields h.0 ∙ helped_is) c.bin_name.ensures
