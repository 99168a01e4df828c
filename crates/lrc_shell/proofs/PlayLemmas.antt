-- What comes of words and of the files that they name.
use Rattle.std.proofs.Common.{◌≡◌, ◌⊎◌, inl, inr, Bool, ℕ, List, [], ◌∷◌, Option, codes, refl, subst, sym}
use Rattle.clap.specs.Words.{Text}
use Rattle.lrc_cli_args.specs.CommandLine.{words_meant}
use Rattle.lrc_cli_args.specs.declared.choice.ChooseFault.{ChooseFault}
use Rattle.lrc_cli_args.specs.declared.choice.ChooseFault.TheVariants.{BadNumber, NoMemory, Usage}
use Rattle.lrc_cli_args.specs.declared.choice.Choice.{Choice}
use Rattle.lrc_cli.proofs.AnswerLemmas.{memory_ran_out}
use Rattle.lrc_cli.specs.Answer.{IsFault}
use Rattle.lrc_cli_answer.specs.declared.fault.Fault.{Fault}
use Rattle.lrc_cli_answer.specs.declared.fault.Fault.TheVariants as faults
use Rattle.lrc_more_words.specs.Lines.{number_lines}
use Rattle.lrc_more_words.specs.Number.{misfit}
use Rattle.lrc_shell_more.specs.More.{IsToldMore}
use Rattle.lrc_shell.specs.Plays.{IsRefusal}

-- no words, and the words that they stand for, have no number out of its range
pub no_number : number_lines (words_meant []) ≡ number_lines []
unfolding misfit
no_number = refl

-- what is said of words that are no choice is said of what they mean
pub refused_meant : (terminal : Bool) (fault : ChooseFault) (words : List Text) (err err' : Option (List ℕ)) (status : ℕ)
    → IsRefusal terminal fault words err err' status → IsRefusal terminal fault (words_meant words) err err' status
refused_meant terminal (Usage error) words err err' status h = h
refused_meant terminal BadNumber [] err err' status h =
    subst (λ (range : List ℕ). IsToldMore terminal (codes "treadmarks: number out of range\n") (λ lines. lines ≡ range) err err' × (status ≡ 2))
    (sym no_number) h
refused_meant terminal BadNumber (word ∷ words) err err' status h = h
refused_meant terminal NoMemory words err err' status h = h

-- the fault that is told is a fault of the choice: the first one, or that memory ran out
pub told_fault : (choice : Choice) (text : List ℕ) (events : Option (List ℕ)) (fault told : Fault) → IsFault choice text events fault
    → (told ≡ fault) ⊎ (told ≡ faults.NoMemory) → IsFault choice text events told
told_fault choice text events fault told is (inl same) = subst (IsFault choice text events) (sym same) is
told_fault choice text events fault told is (inr none) = subst (IsFault choice text events) (sym none) (memory_ran_out choice text events)
