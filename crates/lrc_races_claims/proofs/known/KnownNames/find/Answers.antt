-- A number below those of the names that were looked for is one of the trace's.
use Rattle.std.proofs.Common.{arith}
use Rattle.lrc_races_claims.proofs.Finding.{kept, found, unfound}
use Rattle.lrc_races_claims.proofs.known.KnownNames.find.Goals as goal

pub returns-then-number-self-clause-found : goal.returns-then-number-self-clause-found
returns-then-number-self-clause-found c =
    found c.args.self.now.known c.in_ok-number.ensures.numbered c.args.self.now.within c.in_ok-number.ensures.distinct c.if-number-self.true

pub returns-then-number-self-clause-kept : goal.returns-then-number-self-clause-kept
returns-then-number-self-clause-kept c = kept c.args.self.now.known c.args.self.now.within c.in_ok-number.ensures.numbered

pub returns-clause-found : goal.returns-clause-found
returns-clause-found c =
    unfound c.args.self.now.known c.in_ok-number.ensures.numbered c.args.self.now.within c.in_ok-number.ensures.distinct (omega arith)

pub returns-clause-kept : goal.returns-clause-kept
returns-clause-kept c = kept c.args.self.now.known c.args.self.now.within c.in_ok-number.ensures.numbered
