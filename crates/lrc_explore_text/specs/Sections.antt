-- Texts of a line and of an order that shows what it says.
use Rattle.std.specs.Prelude.{◌≡◌, ℕ, List, ◌++◌}
use Rattle.lrc_program.specs.declared.Program.{Program}
use Rattle.lrc_explain_waits.specs.Traps.{Wording}
use Rattle.lrc_explore_text.specs.declared.orders.Section.{Section}
use Rattle.lrc_explore_text.specs.Orders.{TellsFindings}

-- the text of a section
abbrev pub section_text : Section → List ℕ
section_text section = section.head.items ++ section.acts.items ++ section.ends.items

-- behind a first line stands what is found besides races, and this is the status after it
pub record TellsBehind (wording : Wording) (program : Program) (nodes : ℕ) (lines head out : List ℕ) (status : ℕ) : Type 0 where
  pub text : List ℕ
  pub is : out ≡ head ++ text
  pub tells : TellsFindings wording program nodes lines text status
