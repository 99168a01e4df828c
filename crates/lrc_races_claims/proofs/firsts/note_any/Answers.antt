-- An access gives its variable a line, where it has none.
use Rattle.std.proofs.Common.{inl, inr}
use Rattle.lrc_races_claims.proofs.Noting.{any_noted, any_passed}
use Rattle.lrc_races_claims.proofs.firsts.note_any.Goals as goal

pub returns-in_ok-note-in-Read : goal.returns-in_ok-note-in-Read
returns-in_ok-note-in-Read c = λ events marks n here old.
    any_noted events marks n c.args.event here c.in-Read.variable c.in-Read.is c.args.lines.now c.note.new.self c.in_ok-note-in-Read.ensures old

pub returns-in_default : goal.returns-in_default
returns-in_default c = λ events marks n here old.
    any_passed events marks n c.args.event here (λ v accesses. elim accesses [
      | inl reads ↦ c.in_default.not-Read v reads
      | inr writes ↦ c.in_default.not-Write v writes
    ]) c.args.lines.now old
