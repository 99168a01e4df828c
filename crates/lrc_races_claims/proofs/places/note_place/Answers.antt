-- The place of an access is named, and another event changes nothing.
use Rattle.std.proofs.Common.{inl, inr}
use Rattle.lrc_races_lines.specs.Table.{names_of}
use Rattle.lrc_races_text.specs.Tables.{naming_of}
use Rattle.lrc_races_claims.proofs.Placements.{place_noted, place_passed}
use Rattle.lrc_races_claims.proofs.places.note_place.Goals as goal

pub returns-in_ok-number-in-Read : goal.returns-in_ok-number-in-Read
returns-in_ok-number-in-Read c = λ events n here old.
    place_noted (naming_of c.args.names.now) events n c.args.event here c.in-Read._variable c.in-Read.is (names_of c.args.table.now) (names_of c.number.new.self)
    c.in_ok-number-in-Read.field-0 c.place_name.result.now c.place_name.ensures c.in_ok-number-in-Read.ensures.numbered old

pub returns-in_default : goal.returns-in_default
returns-in_default c = λ events n here old.
    place_passed (naming_of c.args.names.now) events n c.args.event here (λ v accesses. elim accesses [
      | inl reads ↦ c.in_default.not-Read v reads
      | inr writes ↦ c.in_default.not-Write v writes
    ]) (names_of c.args.table.now) old
