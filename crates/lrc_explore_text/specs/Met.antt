-- What a search met that was cut short, as it is printed.
use Rattle.std.specs.Prelude.{◌≡◌, ℕ, Bool, true, false, List, [], ◌++◌, Option, Some, None, option_map}
use Rattle.lrc_program.specs.declared.Program.{Program}
use Rattle.lrc_explain_waits.specs.Traps.{Wording}
use Rattle.lrc_text.specs.Parts.{whole_text}
use Rattle.lrc_orders.specs.declared.search.Findings.{Findings}
use Rattle.lrc_explore.specs.Met.{GaveUp}
use Rattle.lrc_explore_text.specs.declared.explored.Told.{Told}
use Rattle.lrc_explore_text.specs.declared.explored.Told.TheVariants.{All, Many}
use Rattle.lrc_explore_text.specs.Orders.{SaysStuck, SaysTrap}

-- what is printed of an order that gets stuck, if one is told, and of one in which a node traps
abbrev pub SaysStuckMet : Wording → Program → (nodes : ℕ) → (lines : List ℕ) → Option (List ℕ) → (out : List ℕ) → Type 0
SaysStuckMet wording program nodes lines None out = out ≡ []
SaysStuckMet wording program nodes lines (Some order) out = SaysStuck wording program nodes lines true out

abbrev pub SaysTrapMet : Wording → Program → (nodes : ℕ) → (lines : List ℕ) → Option (List ℕ) → (out : List ℕ) → Type 0
SaysTrapMet wording program nodes lines None out = out ≡ []
SaysTrapMet wording program nodes lines (Some order) out = SaysTrap wording program nodes lines true out

-- the text says of both what there is of it
pub record SaysMet (wording : Wording) (program : Program) (nodes : ℕ) (lines : List ℕ) (met : Findings) (out : List ℕ) : Type 0 where
  pub first : List ℕ
  pub second : List ℕ
  pub stuck : SaysStuckMet wording program nodes lines (option_map (λ order. order.items) met.stuck) first
  pub trap : SaysTrapMet wording program nodes lines (option_map (λ order. order.items) met.trap) second
  pub whole : out ≡ first ++ second

-- so it is of what a search met that gave up
pub record TellsMet (wording : Wording) (program : Program) (nodes : ℕ) (lines : List ℕ) (most : ℕ) (races : Bool) (out : List ℕ) : Type 0 where
  pub met : Findings
  pub gave : GaveUp program nodes most races met
  pub says : SaysMet wording program nodes lines met out

-- all is told, which is so of a text and a status; or what was met, which is so of a text
abbrev pub IsTold : (List ℕ → ℕ → Type 0) → (List ℕ → Type 0) → Told → Type 0
IsTold whole met (All printout) = whole (whole_text printout.parts.items) printout.status
IsTold whole met (Many parts) = met (whole_text parts.items)
