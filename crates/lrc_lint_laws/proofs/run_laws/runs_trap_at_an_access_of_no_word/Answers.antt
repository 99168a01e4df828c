use Rattle.lrc_lint_laws.specs.Traps.{trap_of_access}
use Rattle.lrc_lint_laws.proofs.Traps.{no_word_traps}
use Rattle.lrc_lint_laws.proofs.Runs.{traps_in_runs_behind}
use Rattle.lrc_lint_laws.proofs.run_laws.runs_trap_at_an_access_of_no_word.Goals as goal

pub returns : goal.returns
returns c = λ program tokens at word has. traps_in_runs_behind program tokens at trap_of_access (no_word_traps program tokens at word has)
