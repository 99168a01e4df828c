-- More is told, or nothing is.
use Rattle.std.proofs.Common.{List, ℕ, ◌∙◌, refl, subst}
use Rattle.lrc_shell_sources.specs.Lines.{IsTold}
use Rattle.lrc_races_notes.specs.Noter.{more_notes}
use Rattle.lrc_races_stream.proofs.hearing.Hearing.tell.Goals as goal

pub returns-in-Ok : goal.returns-in-Ok
returns-in-Ok g c = (
  more_notes c.args.self.now.told c.args.noter,
  c.if-not-is_more.ensures,
  subst (λ (text : List ℕ). IsTold (g.E.Write.contents c.args.err.now) (g.E.Write.contents c.tell_line.new.err) text)
      (c.deref.ensures.value ∙ c.in-Ok.ensures) c.tell_line.ensures,
  refl,
)
