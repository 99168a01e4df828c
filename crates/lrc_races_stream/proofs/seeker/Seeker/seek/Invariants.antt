use Rattle.std.proofs.Common.{ℕ}
use Rattle.lrc_races_text.specs.declared.asked.Sought.{Sought}
use Rattle.lrc_races_text.specs.declared.form.Form.{Form}
use Rattle.lrc_shell_sources.specs.Known.{Held}
use Rattle.lrc_races_stream.specs.Reach.{IsSeeking}
use Rattle.lrc_races_stream.proofs.seeker.Seeker.seek.Given as goal

abbrev pub invariant-loop-turn : goal.invariant-loop-turn
invariant-loop-turn g l = (sought : Sought) (form : Form) (last : ℕ) (held : Held)
    → IsSeeking (g.K.Keep.has_kept sought) form last held (g.B.Blocks.left l.initial.trace) l.initial.self.front
    → IsSeeking (g.K.Keep.has_kept sought) form last held (g.B.Blocks.left l.trace) l.self.front
