-- The line on a line of the trace says what was found.
use Rattle.std.proofs.Common.{List, ℕ, subst, sym}
use Rattle.lrc_races_stream.specs.Lines.{IsToldOrLacks, bad_line, ill_line}
use Rattle.lrc_races_stream.specs.declared.outcome.Outcome.{Outcome}
use Rattle.lrc_races_stream.specs.Plays.{IsConcluded}
use Rattle.lrc_races_stream.proofs.play.conclude.Goals as goal

pub returns-in-BadEvent : goal.returns-in-BadEvent
returns-in-BadEvent g c =
    let before = g.E.Write.contents c.args.err.now in
    let after = g.E.Write.contents c.refuse_line.new.err in
    let told = subst (λ (why : List ℕ). IsToldOrLacks before after (bad_line c.in-BadEvent.line why))
    c.deref.ensures.value c.refuse_line.ensures.told in
    subst (λ (outcome : Outcome). IsConcluded outcome before after c.refuse_line.result) (sym c.in-BadEvent.is)
    (told, c.refuse_line.ensures.status)

pub returns-in-IllFormed : goal.returns-in-IllFormed
returns-in-IllFormed g c =
    let before = g.E.Write.contents c.args.err.now in
    let after = g.E.Write.contents c.refuse_ill.new.err in
    let told = subst (λ (why : List ℕ). IsToldOrLacks before after (ill_line c.in-IllFormed.ill.line why))
    c.deref-in-IllFormed.ensures.value c.refuse_ill.ensures.told in
    subst (λ (outcome : Outcome). IsConcluded outcome before after c.refuse_ill.result) (sym c.in-IllFormed.is)
    (told, c.refuse_ill.ensures.status)
