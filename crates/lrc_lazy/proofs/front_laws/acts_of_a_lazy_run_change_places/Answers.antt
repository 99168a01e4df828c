use Rattle.lrc_lazy.proofs.Changing.{run_changed, over_both}
use Rattle.lrc_lazy.proofs.Deeds.{notes_moved}
use Rattle.lrc_lazy.proofs.front_laws.acts_of_a_lazy_run_change_places.Goals as goal

pub returns-clause-run : goal.returns-clause-run
returns-clause-run c = run_changed

pub returns-clause-over : goal.returns-clause-over
returns-clause-over c = over_both

pub returns-clause-notes : goal.returns-clause-notes
returns-clause-notes c = λ nodes front first second rest m. notes_moved front first second rest m.apart nodes
