-- An access that is marked gives its variable a line, where it has none.
use Rattle.std.proofs.Common.{◌∙◌, inl, inr, ap}
use Rattle.std.specs.Prelude.{Some}
use Rattle.lrc_races_claims.proofs.Noting.{marked_noted, marked_passed, unmarked_passed}
use Rattle.lrc_races_claims.proofs.firsts.note_marked.Goals as goal

pub returns-then-not-mark : goal.returns-then-not-mark
returns-then-not-mark c = λ events marks n here is old.
    unmarked_passed events marks n c.args.event here c.args.mark is c.if-not-mark.true c.args.lines.now old

pub returns-in_ok-note-in-Read : goal.returns-in_ok-note-in-Read
returns-in_ok-note-in-Read c = λ events marks n here is old.
    marked_noted events marks n c.args.event here (is ∙ ap Some c.if-not-mark.false) c.in-Read.variable c.in-Read.is
    c.args.lines.now c.note.new.self c.in_ok-note-in-Read.ensures old

pub returns-in_default : goal.returns-in_default
returns-in_default c = λ events marks n here is old.
    marked_passed events marks n c.args.event here (λ v accesses. elim accesses [
      | inl reads ↦ c.in_default.not-Read v reads
      | inr writes ↦ c.in_default.not-Write v writes
    ]) c.args.lines.now old
