-- What is shown of a line.
use Rattle.std.proofs.Common.{◌≡◌, ℕ, Bool, List, true, Result, Ok, Err, IfOk, sym, subst}
use Rattle.std.specs.declared.alloc.AllocError.{AllocError}
use Rattle.lrc_program.specs.declared.Program.{Program}
use Rattle.lrc_consistency_laws.specs.Racing.{HasNoRace}
use Rattle.lrc_orders.specs.Verdict.{EndsInRace}
use Rattle.lrc_explore_events_text.specs.declared.told.Line.{Line}
use Rattle.lrc_explore_events_text.specs.declared.told.Shown.{Shown}
use Rattle.lrc_explore_events_text.specs.Shows.{ShowsFound, ShowsLine, ShowsRace, free, racy}

module _ (program : Program) (nodes : ℕ) (races ends : Bool) (line : Line) where
  -- what was found besides races, where none was found or looked for
  pub of_free : (races ≡ true → HasNoRace program nodes) → (r : Result Shown AllocError)
      → IfOk r (λ s. ShowsFound program nodes ends line s.text.items s.status) → IfOk r (λ s. ShowsLine program nodes races ends line s.text.items s.status)
  of_free none (Err fault) shows = tt
  of_free none (Ok s) shows = free none shows

  -- or a race
  pub of_raced : (order : List ℕ) → races ≡ true → EndsInRace program nodes order → (r : Result Shown AllocError)
      → IfOk r (λ s. ShowsRace program nodes line s.text.items) → IfOk r (λ s. s.status ≡ 3)
      → IfOk r (λ s. ShowsLine program nodes races ends line s.text.items s.status)
  of_raced order is raced (Err fault) shows status = tt
  of_raced order is raced (Ok s) shows status = subst (ShowsLine program nodes races ends line s.text.items) (sym status) (racy order is raced shows)
