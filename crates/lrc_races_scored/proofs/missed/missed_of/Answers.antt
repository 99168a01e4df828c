-- By the keys of the claims.
use Rattle.std.proofs.Common.{[], List, ℕ, subst, sym}
use Rattle.lrc_races_missed.specs.Keys.{AreKeys}
use Rattle.lrc_races_scored.proofs.missed.missed_of.Goals as goal

pub fill-requires-clause-judge : goal.fill-requires-clause-judge
fill-requires-clause-judge c =
    let some = c.requires.judge in
    record {
      sought = some.sought;
      naming = some.naming;
      last = some.last;
      is = c.in_ok-keys.ensures.stays c.args.events.now some.sought some.naming some.last some.is;
    }

pub returns-clause-missed : goal.returns-clause-missed
returns-clause-missed c = λ naming last numbered is.
    c.in_ok-fill.ensures.missed naming last numbered (c.in_ok-keys.ensures.stays c.args.events.now c.args.sought naming last is)
    (subst (λ (variables : List (List ℕ)). AreKeys variables [] c.args.claims.now c.in_ok-keys.keys.keys) (sym is.variables) c.in_ok-keys.ensures.keys)

pub returns-clause-stays : goal.returns-clause-stays
returns-clause-stays c = λ sought naming last is.
    c.in_ok-fill.ensures.stays sought naming last (c.in_ok-keys.ensures.stays c.args.events.now sought naming last is)
