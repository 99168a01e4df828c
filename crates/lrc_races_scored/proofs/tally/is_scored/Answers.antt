-- A report without claims counts as one of events.
use Rattle.std.proofs.Common.{◌≡◌, ◌∙◌, length, ap, rules}
use Rattle.std.specs.Prelude.{nat_lt}
use Rattle.lrc_races_scored.proofs.SortLemmas.{scored_none, scored_some}
use Rattle.lrc_races_scored.proofs.tally.is_scored.Goals as goal

pub returns-then-is_empty : goal.returns-then-is_empty
returns-then-is_empty c =
    let none : length c.args.claims.now ≡ 0 = search rules in
    c.eq.ensures ∙ scored_none c.args.sort c.args.claims.now none

pub returns : goal.returns
returns c =
    ap (nat_lt 0) c.count.ensures ∙ scored_some c.args.sort c.args.claims.now (λ none. let some = c.if-is_empty.false in search rules)
