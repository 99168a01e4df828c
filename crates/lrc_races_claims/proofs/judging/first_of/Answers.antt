-- What is kept of the variable says which is the first.
use Rattle.std.proofs.Common.{refl, sym, subst}
use Rattle.std.specs.Prelude.{MatchOption}
use Rattle.lrc_races_claims.specs.Known.{IsOnlyNumber, IsUnknown}
use Rattle.lrc_races_claims.proofs.Judged.{none_known, none_of, some_of, none_races, first_races, known_number}
use Rattle.lrc_races_claims.proofs.judging.first_of.Goals as goal

pub returns-in-None : goal.returns-in-None
returns-in-None c = λ sought naming events name are known.
    none_known sought naming events name c.args.facts.now are naming.variables refl
    (subst (λ o. MatchOption o (IsUnknown naming.variables name) (IsOnlyNumber naming.variables name)) c.in-None.is known)

pub returns-in-Some-line : goal.returns-in-Some-line
returns-in-Some-line c = λ sought naming events name are known.
    first_races sought naming events name c.args.facts.now are naming.variables refl c.in-Some.number
    (known_number naming.variables name c.args.number c.in-Some.number c.in-Some.is known) c.in-Some-line.line (sym c.in-Some-line.ensures)

pub returns-in-Some-line-2 : goal.returns-in-Some-line-2
returns-in-Some-line-2 c = λ sought naming events name are known.
    let only = known_number naming.variables name c.args.number c.in-Some.number c.in-Some.is known in (
      some_of sought naming events name c.args.facts.now are naming.variables refl c.in-Some.number only c.in-Some-line-2._first (sym c.in-Some-line-2.ensures),
      none_races sought naming events name c.args.facts.now are naming.variables refl c.in-Some.number only (sym c.in-None-line.ensures),
    )

pub returns-in-None-line-2 : goal.returns-in-None-line-2
returns-in-None-line-2 c = λ sought naming events name are known.
    none_of sought naming events name c.args.facts.now are naming.variables refl c.in-Some.number
    (known_number naming.variables name c.args.number c.in-Some.number c.in-Some.is known) (sym c.in-None-line-2.ensures)
