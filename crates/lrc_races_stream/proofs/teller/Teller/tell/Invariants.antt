use Rattle.std.proofs.Common.{List, Option, ℕ}
use Rattle.lrc_races_text.specs.declared.asked.Asked.{Asked}
use Rattle.lrc_races_text.specs.declared.form.Form.{Form}
use Rattle.lrc_shell_sources.specs.Known.{Held}
use Rattle.lrc_races_stream.specs.Comes.{IsUnderWay}
use Rattle.lrc_races_stream.specs.Heard.{IsHearing}
use Rattle.lrc_races_stream.proofs.teller.Teller.tell.Given as goal

abbrev pub invariant-loop-turn : goal.invariant-loop-turn
invariant-loop-turn g l = record {
  comes : (form : Form) (asked : Asked) (held : Held) (start : Option (List ℕ))
      → IsUnderWay form asked held (g.B.Blocks.left l.initial.trace) start (g.W.Write.contents l.initial.out) l.initial.self.session
      → IsUnderWay form asked held (g.B.Blocks.left l.trace) start (g.W.Write.contents l.out) l.self.session;
  hears : (form : Form) (held : Held) (start : Option (List ℕ))
      → IsHearing form held (g.B.Blocks.left l.initial.trace) start (g.E.Write.contents l.initial.err) l.initial.self.hearing
      → IsHearing form held (g.B.Blocks.left l.trace) start (g.E.Write.contents l.err) l.self.hearing;
}
