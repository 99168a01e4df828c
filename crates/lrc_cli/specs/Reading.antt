-- How the text of a program is read: a text of the core as it stands, and a named program as its core, which the named program tells.
use Rattle.std.specs.Prelude.{◌≡◌, ◌⊎◌, ℕ, Bool, true, false, List, Option, None, option_map, unwrap_or}
use Rattle.lrc_cli_answer.specs.declared.fault.Fault.{Fault}
use Rattle.lrc_cli_answer.specs.declared.fault.Fault.TheVariants as faults
use Rattle.lrc_cli_args.specs.declared.choice.Exploring.{Exploring}
use Rattle.lrc_cli_args.specs.declared.choice.RunChoice.{RunChoice}
use Rattle.lrc_named_core.specs.Tree.{Trap}
use Rattle.lrc_named_held.specs.Held.{Held}
use Rattle.lrc_named.specs.Named.{IsCoreTextOn, IsNamedFault, IsReadAsNamed}
use Rattle.lrc_named.specs.declared.fault.NamedFault.{NamedFault}
use Rattle.lrc_named.specs.declared.fault.NamedFault.TheVariants.{Text, Names, NoMemory}
use Rattle.lrc_setting.specs.declared.setting.Nodes.{Nodes}
use Rattle.lrc_source.specs.Telling.{ReadText, as_translated, as_written}

-- the named program with this text has this core, asks for so many nodes, and tells the core by its own text, lines and traps, and by what
-- names hold
abbrev pub IsCoreTold : (text : List ℕ) → Option Nodes → ReadText → Type 0
IsCoreTold text nodes read = (lines : List ℕ) × (traps : List Trap) × (held : List (List Held))
    × IsCoreTextOn text (option_map (λ (n : Nodes). n.count) nodes) read.core lines traps held
    × (read ≡ as_translated read.core text lines traps held)

-- the text is read as this one of the core, and asks for so many nodes
abbrev pub IsReadAs : (text : List ℕ) → Option Nodes → ReadText → Type 0
IsReadAs text nodes read =
    (¬ IsReadAsNamed text × (nodes ≡ None) × (read ≡ as_written text)) ⊎ (IsReadAsNamed text × IsCoreTold text nodes read)

-- what holds of the text as it is read
pub record HoldsAsRead (text : List ℕ) (Holds : Option Nodes → ReadText → Type 0) : Type 0 where
  pub nodes : Option Nodes
  pub read : ReadText
  pub is_read : IsReadAs text nodes read
  pub holds : Holds nodes read

-- the fault of a named program, as it is told
abbrev pub fault_of_named : NamedFault → Fault
fault_of_named (Text line kind) = faults.Text line kind
fault_of_named (Names line kind) = faults.Names line kind
fault_of_named NoMemory = faults.NoMemory

-- why the text cannot be read: it is a named program with a fault. Memory may run out at any time.
abbrev pub IsUnread : List ℕ → Fault → Type 0
IsUnread text (faults.Text line kind) = IsReadAsNamed text × IsNamedFault text (Text line kind)
IsUnread text (faults.Names line kind) = IsReadAsNamed text × IsNamedFault text (Names line kind)
IsUnread text faults.NoMemory = Unit {0}
IsUnread text _ = ⊥

-- the fault of a text that is read: it cannot be read, or what it is read as has this fault
abbrev pub IsFaultAsRead : List ℕ → Fault → (Option Nodes → ReadText → Type 0) → Type 0
IsFaultAsRead text fault Has = IsUnread text fault ⊎ HoldsAsRead text Has

-- how many nodes run: as many as the words say; else as many as the text asks for; else as many as by default
abbrev pub nodes_for : (given : Bool) → Nodes → (asked : Option Nodes) → Nodes
nodes_for true nodes asked = nodes
nodes_for false nodes asked = unwrap_or asked nodes

-- a search through orders with the nodes that a text asks for
abbrev pub exploring_for : Exploring → (asked : Option Nodes) → Exploring
exploring_for exploring asked = record exploring { nodes = nodes_for exploring.nodes_given exploring.nodes asked }

-- a run with the nodes that a text asks for: unless the words say how many, and by default
abbrev pub run_for : RunChoice → (asked : Option Nodes) → RunChoice
run_for run asked = record run {
  options = record run.options {
    nodes = nodes_for run.options.nodes_given run.options.nodes asked;
    default_nodes = unwrap_or asked run.options.default_nodes;
  };
}
