-- How a text is read.
use Rattle.std.proofs.Common.{◌≡◌, ◌⊎◌, ℕ, IfErr, IfOk, List, None, Option, Result, inr, subst}
use Rattle.std.proofs.lemmas.Result.{IfErr-weaker, IfOk-weaker}
use Rattle.lrc_program.specs.declared.Program.{Program}
use Rattle.lrc_text.specs.Parts.{whole_text}
use Rattle.lrc_cli_answer.specs.Texts.{IsTextFault, IsTextOf}
use Rattle.lrc_cli_args.specs.declared.choice.Choice.TheVariants.{Explore}
use Rattle.lrc_cli_args.specs.declared.choice.Exploring.{Exploring}
use Rattle.lrc_cli_answer.specs.declared.fault.Fault.{Fault}
use Rattle.lrc_named.specs.Named.{IsNamedFault, IsReadAsNamed}
use Rattle.lrc_named.specs.declared.fault.NamedFault.{NamedFault}
use Rattle.lrc_named.specs.declared.fault.NamedFault.TheVariants.{Text, Names, NoMemory}
use Rattle.lrc_setting.specs.declared.setting.Nodes.{Nodes}
use Rattle.lrc_source.specs.Telling.{ReadText}
use Rattle.lrc_cli.specs.Answer.{IsAnswered, IsExploration, IsExplorationMet, IsSearchFault, Meets, Prints}
use Rattle.lrc_cli.specs.declared.answer.Answered.{Answered}
use Rattle.lrc_cli.specs.declared.answer.Answered.TheVariants.{Printed, Judged, Met}
use Rattle.lrc_cli.specs.Reading.{HoldsAsRead, IsFaultAsRead, IsReadAs, IsUnread, exploring_for, fault_of_named}

-- the fault of a named program, as it is told
pub unread_named : (text : List ℕ) (fault : NamedFault) → IsReadAsNamed text → IsNamedFault text fault → IsUnread text (fault_of_named fault)
unread_named text (Text line kind) named h = (named, h)
unread_named text (Names line kind) named h = (named, h)
unread_named text NoMemory named h = tt

-- what holds of the text that the code has of the core
pub holds_as_read : (text : List ℕ) (nodes : Option Nodes) (read : ReadText) (seen : List ℕ) (Holds : Option Nodes → List ℕ → Type 0)
    → IsReadAs text nodes read → seen ≡ read.core → Holds nodes seen → HoldsAsRead text (λ asked told. Holds asked told.core)
holds_as_read text nodes read seen Holds is_read is h = record { nodes = nodes; read = read; is_read = is_read; holds = subst (Holds nodes) is h }

-- a fault of that text
pub faulty_as_read : (text : List ℕ) (nodes : Option Nodes) (read : ReadText) (seen : List ℕ) (fault : Fault) (Has : Option Nodes → List ℕ → Type 0)
    → IsReadAs text nodes read → seen ≡ read.core → Has nodes seen → IsFaultAsRead text fault (λ asked told. Has asked told.core)
faulty_as_read text nodes read seen fault Has is_read is h = inr (holds_as_read text nodes read seen Has is_read is h)

-- ---- what is said of the orders of a program, by how its text is read

module _ (exploring own : Exploring) (text : List ℕ) (nodes : Option Nodes) (read seen : ReadText) (r : Result Answered Fault) (is_read : IsReadAs text nodes read)
    (so : own ≡ exploring_for exploring nodes) (same : seen ≡ read) where
  -- what is answered of the text that is read is answered of the text
  answered_as_read : (answered : Answered)
      → (program : Program) × IsTextOf seen.core program × IsAnswered (IsExploration own seen program) (IsExplorationMet own seen program) answered
      → IsAnswered (Prints (Explore exploring) text None) (Meets (Explore exploring) text) answered
  answered_as_read (Printed printout) says = record {
    nodes = nodes;
    read = read;
    is_read = is_read;
    holds =
        subst (λ (e : Exploring). (program : Program) × IsTextOf read.core program × IsExploration e read program (whole_text printout.parts.items) printout.status) so
        (subst (λ (t : ReadText). (program : Program) × IsTextOf t.core program × IsExploration own t program (whole_text printout.parts.items) printout.status)
        same says);
  }
  answered_as_read (Judged judgement) says = absurd says.2
  answered_as_read (Met parts fault) says = record {
    nodes = nodes;
    read = read;
    is_read = is_read;
    holds =
        subst (λ (e : Exploring). (program : Program) × IsTextOf read.core program × IsExplorationMet e read program (whole_text parts.items) fault) so
        (subst (λ (t : ReadText). (program : Program) × IsTextOf t.core program × IsExplorationMet own t program (whole_text parts.items) fault) same says);
  }

  pub explored_for : IfOk r (λ answered. (program : Program) × IsTextOf seen.core program
      × IsAnswered (IsExploration own seen program) (IsExplorationMet own seen program) answered)
      → IfOk r (IsAnswered (Prints (Explore exploring) text None) (Meets (Explore exploring) text))
  explored_for = IfOk-weaker r _ _ answered_as_read

  pub unexplored_for : IfErr r (λ fault. IsTextFault seen.core fault ⊎ ((program : Program) × IsTextOf seen.core program × IsSearchFault own program fault))
      → IfErr r (λ fault. IsFaultAsRead text fault (λ asked told. IsTextFault told.core fault
      ⊎ ((program : Program) × IsTextOf told.core program × IsSearchFault (exploring_for exploring asked) program fault)))
  unexplored_for = IfErr-weaker r _ _ (λ fault is. inr (record {
    nodes = nodes;
    read = read;
    is_read = is_read;
    holds =
        subst (λ (e : Exploring). IsTextFault read.core fault ⊎ ((program : Program) × IsTextOf read.core program × IsSearchFault e program fault)) so
        (subst (λ (t : ReadText). IsTextFault t.core fault ⊎ ((program : Program) × IsTextOf t.core program × IsSearchFault own program fault)) same is);
  }))
