-- What is said is what was found.
use Rattle.std.proofs.Common.{List, ℕ, ◌⊎◌, ◌≡◌, subst, sym}
use Rattle.std.specs.Io.KnownBytes.{Appends}
use Rattle.lrc_report.specs.Output.{AppendsFront}
use Rattle.lrc_races_stream.specs.declared.answer.Answer.{Answer}
use Rattle.lrc_races_stream.specs.Answer.{IsAnswerTold}
use Rattle.lrc_races_stream.proofs.TellerLemmas.{nothing_said}
use Rattle.lrc_races_stream.proofs.answer.conclude.Goals as goal

pub returns-in-Answered : goal.returns-in-Answered
returns-in-Answered g c =
    let out = g.W.Write.contents c.args.out.now in
    let out' = g.W.Write.contents c.print.new.out in
    let err = g.E.Write.contents c.args.err.now in
    let printed = subst (λ (text : List ℕ). (Appends out out' text × (c.print.result ≡ c.in-Answered.status))
    ⊎ (AppendsFront out out' text × (c.print.result ≡ 1))) c.deref.ensures.value c.print.ensures in
    subst (λ (answer : Answer). IsAnswerTold answer out out' err err c.print.result) (sym c.in-Answered.is)
    (printed, nothing_said err)

pub returns-in-Stopped : goal.returns-in-Stopped
returns-in-Stopped g c =
    let out = g.W.Write.contents c.args.out.now in
    subst (λ (answer : Answer). IsAnswerTold answer out out (g.E.Write.contents c.args.err.now) (g.E.Write.contents c.refuse_stop.new.err)
    c.refuse_stop.result) (sym c.in-Stopped.is) (c.refuse_stop.ensures, nothing_said out)
