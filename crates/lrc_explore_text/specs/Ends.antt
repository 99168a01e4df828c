-- Whether every order of a program can end, as it is printed.
use Rattle.std.specs.Prelude.{◌≡◌, ℕ, Bool, true, false, List, [], ◌++◌, codes, if◌then◌else◌}
use Rattle.lrc_program.specs.declared.Program.{Program}
use Rattle.lrc_explain_waits.specs.Traps.{Wording}
use Rattle.lrc_consistency_laws.specs.Racing.{HasNoRace}
use Rattle.lrc_orders_ends.specs.Ends.{CannotEnd, EveryOrderCanEnd}
use Rattle.lrc_explore_text.specs.Orders.{TellsFindings, TellsOrders, ends_text, order_text}

-- What is printed of ends, and whether an order is told:
pub data SaysEnds (wording : Wording) (program : Program) (nodes : ℕ) (lines : List ℕ) : (told : Bool) → (out : List ℕ) → Type 0 where
  -- every order can end;
  all_end : EveryOrderCanEnd program nodes → SaysEnds wording program nodes lines false (codes "every order can end\n")
  -- or this one no longer can
  some_cannot : {order : List ℕ} → (lost : CannotEnd program nodes order)
      → SaysEnds wording program nodes lines true
      (codes "some order can no longer end:\n" ++ order_text program nodes lines lost.acts ++ ends_text wording program nodes lines lost.acts)

-- the status where an order that can no longer end is told or not, behind what is found besides
abbrev pub ends_status : (besides : ℕ) → (lost : Bool) → ℕ
ends_status besides lost = if lost then 4 else besides

-- What is printed of stuck orders and of traps, then of ends, and the status after it
pub data TellsEndFindings (wording : Wording) (program : Program) (nodes : ℕ) (lines : List ℕ) : (out : List ℕ) → (status : ℕ) → Type 0 where
  tells_ends : {lost : Bool} {out last : List ℕ} {status : ℕ} → TellsFindings wording program nodes lines out status
      → SaysEnds wording program nodes lines lost last
      → TellsEndFindings wording program nodes lines (out ++ last) (ends_status status lost)

-- the first line, where races are looked for and none is found
abbrev pub first_line : (races : Bool) → List ℕ
first_line true = codes "race free in every order\n"
first_line false = []

-- What is printed of a program, where races are looked for or not, and the status after it:
pub data TellsEnds (wording : Wording) (program : Program) (nodes : ℕ) (lines : List ℕ) (races : Bool) : (out : List ℕ) → (status : ℕ) → Type 0 where
  -- no order races, if that is looked for, and what is found besides;
  through : {out : List ℕ} {status : ℕ} → (races ≡ true → HasNoRace program nodes) → TellsEndFindings wording program nodes lines out status
      → TellsEnds wording program nodes lines races (first_line races ++ out) status
  -- or one races, of which the same is told as where it is not asked for ends
  raced : {out : List ℕ} → races ≡ true → TellsOrders wording program nodes lines out 3 → TellsEnds wording program nodes lines races out 3
