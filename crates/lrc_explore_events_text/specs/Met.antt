-- Events along an order that a search met that was cut short.
use Rattle.std.specs.Prelude.{ℕ, Bool, List, None, option_map}
use Rattle.lrc_program.specs.declared.Program.{Program}
use Rattle.lrc_orders.specs.declared.search.Findings.{Findings}
use Rattle.lrc_explore.specs.Met.{GaveUp}
use Rattle.lrc_explore_events_text.specs.declared.told.Line.{Line}
use Rattle.lrc_explore_events_text.specs.declared.told.Showing.{Showing}
use Rattle.lrc_explore_events_text.specs.declared.told.Showing.TheVariants.{All, Many}
use Rattle.lrc_explore_events_text.specs.Shows.{ShowsOrder, chosen}

-- the text shows events along the order of the line that is asked for, of those that such a search tells
pub record ShowsMet (program : Program) (nodes most : ℕ) (races : Bool) (line : Line) (out : List ℕ) : Type 0 where
  pub met : Findings
  pub gave : GaveUp program nodes most races met
  pub shows : ShowsOrder program nodes (chosen line (option_map (λ order. order.items) met.stuck) (option_map (λ order. order.items) met.trap) None) out

-- all is shown, which is so of a text and a status; or what was met, which is so of a text
abbrev pub IsShowing : (List ℕ → ℕ → Type 0) → (List ℕ → Type 0) → Showing → Type 0
IsShowing whole met (All shown) = whole shown.text.items shown.status
IsShowing whole met (Many text) = met text.items
