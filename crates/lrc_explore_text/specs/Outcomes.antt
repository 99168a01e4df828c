-- Every outcome of a program, as it is printed.
use Rattle.std.specs.Prelude.{◌≡◌, ◌↔◌, ◌-◌, ◌==◌, ℕ, List, [], ◌∷◌, ◌++◌, codes, decimal, if◌then◌else◌, length, map, take}
use Rattle.std.specs.Cmp.Lexicographic.{slice_cmp}
use Rattle.std.specs.List.{IsDistinct, concat, flat_map}
use Rattle.std.specs.Ordering.{nat_cmp}
use Rattle.std.specs.List.Sorted.{IsPermutation, IsSorted}
use Rattle.lrc_program.specs.declared.Program.{Program}
use Rattle.lrc_trace.specs.declared.act.Act.{Act}
use Rattle.lrc_world.specs.Ends.{ends_of}
use Rattle.lrc_report.specs.ReportText.{report_text}
use Rattle.lrc_orders.specs.declared.outcomes.Outcome.{Outcome}
use Rattle.lrc_orders.specs.contracts.outcomes.OutcomePartialEq.TheImpl.{eq-value}
use Rattle.lrc_orders.specs.Outcome.{HasOutcome, IsOutcome}

-- a byte, or ` / ` in place of a line feed
abbrev pub spaced : ℕ → List ℕ
spaced byte = if byte == 10 then codes " / " else byte ∷ []

-- the lines of a text on one line: of its line feeds each but the last becomes ` / `
abbrev pub on_one_line : List ℕ → List ℕ
on_one_line text = flat_map spaced (take (length text - 1) text) ++ codes "\n"

-- the line of an outcome: what a report says of the nodes, on one line
abbrev pub outcome_line : (nodes : ℕ) → (notes : List Act) → List ℕ
outcome_line nodes notes = on_one_line (report_text notes (ends_of nodes notes))

-- what is said where there are no outcomes: no run ends
abbrev pub none_ends : (count : ℕ) → List ℕ
none_ends count = if count == 0 then codes "no run ends\n" else []

-- the lines of these outcomes, ascending as texts
pub record AreLinesOf (nodes : ℕ) (outcomes : List Outcome) (lines : List (List ℕ)) : Type 0 where
  pub same : IsPermutation (map (λ outcome. outcome_line nodes outcome.notes.items) outcomes) lines
  pub ascending : IsSorted (slice_cmp nat_cmp) lines

-- the text has these lines behind the line that counts them
pub record ListsOutcomes (nodes : ℕ) (outcomes : List Outcome) (out : List ℕ) : Type 0 where
  pub lines : List (List ℕ)
  pub are : AreLinesOf nodes outcomes lines
  pub whole : out ≡ codes "outcomes " ++ decimal (length outcomes) ++ codes " in every order\n" ++ none_ends (length outcomes) ++ concat lines

-- these are exactly the outcomes of the program, each once
pub record AreOutcomesOf (program : Program) (nodes : ℕ) (outcomes : List Outcome) : Type 0 where
  pub exact : (notes : List Act) → HasOutcome outcomes notes ↔ IsOutcome program nodes notes
  pub once : IsDistinct eq-value.it outcomes

-- the text has their lines
pub record TellsOutcomes (program : Program) (nodes : ℕ) (out : List ℕ) : Type 0 where
  pub outcomes : List Outcome
  pub are : AreOutcomesOf program nodes outcomes
  pub listed : ListsOutcomes nodes outcomes out
