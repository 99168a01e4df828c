-- What says more of a fault of a text.
use Rattle.std.proofs.Common.{◌≡◌, ℕ, List, Option, Result, Ok, Err, IfOk, subst, sym}
use Rattle.lrc_cli.specs.Answer.{IsLinted}
use Rattle.lrc_cli_answer.specs.declared.fault.Fault.{Fault}
use Rattle.lrc_cli_args.specs.Files.{file_of}
use Rattle.lrc_cli_args.specs.declared.choice.Choice.{Choice}
use Rattle.lrc_shell.specs.More.{IsMoreOf}

-- what `lint` says of the text of the choice's own file, where that says more of this fault
pub lint_says_more : {T E : Type 0} (lines : T → List ℕ) (choice : Choice) (text file : List ℕ) (events : Option (List ℕ)) (fault this : Fault)
    (said : Result T E) → fault ≡ this
    → ((out : List ℕ) → ((status : ℕ) × IsLinted (file_of choice) text out status) → IsMoreOf choice text events this out)
    → file ≡ file_of choice → IfOk said (λ parts. (status : ℕ) × IsLinted file text (lines parts) status)
    → IfOk said (λ parts. IsMoreOf choice text events fault (lines parts))
lint_says_more lines choice text file events fault this (Ok parts) is more own told =
    subst (λ f. IsMoreOf choice text events f (lines parts)) (sym is)
    (more (lines parts) (subst (λ f. (status : ℕ) × IsLinted f text (lines parts) status) own told))
lint_says_more lines choice text file events fault this (Err e) is more own told = tt
