use Rattle.std.proofs.Common.{◌≡◌, ◌∙◌, List, Result, Ok, Err, IfErr, IsErrAnd, refl, true, sym, ap, map, subst, inl, inr}
use Rattle.clap.specs.Words.{App, HasKind, Text, app_of, fault_of, is_simple, is_simple_and_free, kind_of, subcommand_of}
use Rattle.clap.specs.declared.error.Error.{Error}
use Rattle.clap.specs.declared.error.kind.ErrorKind.{ErrorKind}
use Rattle.clap.specs.declared.error.kind.ErrorKind.TheVariants.{OutOfMemory}
use Rattle.clap.proofs.OnLiterals.{clap_on_literals}
use Rattle.lrc_cli_args.specs.declared.choice.ChooseFault.{ChooseFault}
use Rattle.lrc_cli_args.specs.CommandLine.{IsFoundFault, choose_fault, fault_from}
use Rattle.lrc_cli_words.specs.Commands.{treadmarks}
use Rattle.lrc_cli_args.proofs.command_line.matches_of.Goals as goal

simple : is_simple treadmarks ≡ true
unfolding treadmarks clap_on_literals
simple = refl

free : is_simple_and_free treadmarks ≡ true
unfolding treadmarks clap_on_literals
free = refl

refused : (words : List Text) (error : Error) → HasKind (fault_of treadmarks words) error → IsFoundFault words (fault_from error)
refused words error has = go (kind_of error) refl
  where
    go : (kind : ErrorKind) → kind_of error ≡ kind → IsFoundFault words (choose_fault kind error)
    go OutOfMemory is = tt
    go _ is = elim has [ inl memory ↦ absurd cc | inr among ↦ among ]

refused_up : {T : Type 0} (r : Result T ChooseFault) (words : List Text) (fault : ChooseFault) → IsErrAnd r (λ f. f ≡ fault) → IsFoundFault words fault
    → IfErr r (λ f. IsFoundFault words f)
refused_up (Ok x) words fault is h = tt
refused_up (Err f) words fault is h = subst (IsFoundFault words) (sym is) h

pub returns-clause-free : goal.returns-clause-free
returns-clause-free g c =
    let words = map g.S.AsStr.text c.args.words.now in
    let app_is : app_of c.in_ok-command.command ≡ treadmarks = c.in_ok-command.ensures in
    ap (λ (a : App). fault_of a words) (sym app_is) ∙ c.in_ok-try_get_matches_from.ensures.kinds (ap is_simple_and_free app_is ∙ free)

pub returns-clause-rows : goal.returns-clause-rows
returns-clause-rows g c =
    let words = map g.S.AsStr.text c.args.words.now in
    let app_is : app_of c.in_ok-command.command ≡ treadmarks = c.in_ok-command.ensures in
    (c.in_ok-try_get_matches_from.ensures.matches (ap is_simple app_is ∙ simple)).1 ∙ ap (λ (a : App). subcommand_of a words) app_is

pub returns-in_err-try_get_matches_from-clause-err : goal.returns-in_err-try_get_matches_from-clause-err
returns-in_err-try_get_matches_from-clause-err g c =
    let words = map g.S.AsStr.text c.args.words.now in
    let app_is : app_of c.in_ok-command.command ≡ treadmarks = c.in_ok-command.ensures in
    let has = c.in_err-try_get_matches_from.ensures.kinds (ap is_simple_and_free app_is ∙ free) in
    refused_up _ words _ c.from_residual-in_err-try_get_matches_from.ensures.1
    (refused words _ (subst (λ (a : App). HasKind (fault_of a words) c.in_err-try_get_matches_from.field-0.0) app_is has))
