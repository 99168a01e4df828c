-- The variables that race, by what is known of the trace.
use Rattle.std.specs.Prelude.{◌≡◌, Some}
use Rattle.lrc_races_trace.specs.declared.event.Event.{Event}
use Rattle.lrc_races_trace.specs.Trace.{Accesses}
use Rattle.lrc_races_claims.specs.Firsts.{line_of}
use Rattle.lrc_races_claims.specs.declared.judging.Facts.{Facts}
use Rattle.lrc_races_missed.specs.declared.variables.Racing.{Racing}

-- the event is an access of the variable on the line, which is that of the first one that is marked
pub record GivesRacing (facts : Facts) (is : Event) (racing : Racing) : Type 0 where
  pub accesses : Accesses is racing.variable
  pub on : is.line ≡ racing.line
  pub first : line_of facts.firsts.marked racing.variable ≡ Some racing.line
