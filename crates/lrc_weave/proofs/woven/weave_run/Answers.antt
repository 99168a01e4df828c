use Rattle.std.proofs.Common.{map, rules}
use Rattle.lrc_weave.proofs.Looping.{alike_of, matched_if, unmatched_by}
use Rattle.lrc_weave.proofs.woven.weave_run.Goals as goal

pub returns-then-not-are_all_own-clause-mismatch : goal.returns-then-not-are_all_own-clause-mismatch
returns-then-not-are_all_own-clause-mismatch c = λ is matched.
    unmatched_by (map (λ log. log.items) c.args.logs.now) c.args.wires.now c.are_all_own.result c.are_all_own.ensures (search rules) matched

pub returns-clause-matched : goal.returns-clause-matched
returns-clause-matched c =
    matched_if (map (λ log. log.items) c.args.logs.now) c.args.wires.now c.woven_run.result (c.are_all_own.ensures.0 (search rules))
    c.woven_run.ensures.alike

pub returns-clause-mismatch : goal.returns-clause-mismatch
returns-clause-mismatch c = λ is matched.
    c.woven_run.ensures.mismatch is (alike_of (map (λ log. log.items) c.args.logs.now) c.args.wires.now matched)
