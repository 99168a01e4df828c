-- The line on the event says what was found.
use Rattle.std.proofs.Common.{List, ℕ, subst, sym}
use Rattle.lrc_races_stream.specs.Answer.{IsStopTold}
use Rattle.lrc_races_stream.specs.Lines.{IsToldOrLacks, ill_line}
use Rattle.lrc_races_stream.specs.declared.answer.Stop.{Stop}
use Rattle.lrc_races_stream.proofs.answer.refuse_stop.Goals as goal

pub returns-in-IllFormed : goal.returns-in-IllFormed
returns-in-IllFormed g c =
    let before = g.E.Write.contents c.args.err.now in
    let after = g.E.Write.contents c.refuse_ill.new.err in
    let told = subst (λ (why : List ℕ). IsToldOrLacks before after (ill_line c.in-IllFormed.ill.line why)) c.deref.ensures.value
    c.refuse_ill.ensures.told in
    subst (λ (stop : Stop). IsStopTold stop before after c.refuse_ill.result) (sym c.in-IllFormed.is) (told, c.refuse_ill.ensures.status)
