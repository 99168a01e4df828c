-- The 33rd different name, or 32 at most.
use Rattle.std.proofs.Common.{◌≤◌, ap, arith, map}
use Rattle.lrc_named_tree.specs.View.{named_of}
use Rattle.lrc_named_constants.specs.Well.{bytes_of}
use Rattle.lrc_named_statement_faults.specs.Statements.{different}
use Rattle.lrc_named_statement_faults.proofs.Different.{all_taken, none_too_many, over_first, seen_on}
use Rattle.lrc_named_statement_faults.proofs.privates.one_too_many.Goals as goal

pub returns-then-is_over : goal.returns-then-is_over
returns-then-is_over c =
    over_first c.args.names.now c.loop-name.name-index _ c.loop-name.seen.items c.deref.result.now c.deref-in-loop-name.result.now
    c.is_one_of-known.result c.is_over.result c.count_of.result c.at_token.result c.loop-name-test.true c.deref.ensures.value c.deref-in-loop-name.ensures.value
    c.is_one_of-known.ensures c.count_of.ensures c.is_over.ensures c.if-is_over.true c.at_token.ensures c.loop-name.invariant.same c.loop-name.invariant.many

pub loop-name-preserved : goal.loop-name-preserved
loop-name-preserved c =
    seen_on c.args.names.now c.loop-name.name-index _ c.loop-name.seen.items c.deref.result.now c.deref-in-loop-name.result.now c.push_unless.new.names.items
    c.is_one_of-known.result c.is_over.result c.count_of.result c.loop-name-test.true c.deref.ensures.value c.deref-in-loop-name.ensures.value
    c.is_one_of-known.ensures c.count_of.ensures c.is_over.ensures c.if-is_over.false c.in_ok-push_unless.ensures
    c.loop-name.invariant.same c.loop-name.invariant.many c.loop-name.invariant.few

pub returns : goal.returns
returns c =
    let xs = c.args.names.now in
    let all = all_taken xs c.loop-name.name-index c.loop-name-test.false in
    let count = ap (λ l. different (bytes_of (map named_of l))) all in
    let many = c.loop-name.invariant.many in
    let most = c.loop-name.invariant.few in
    let few : different (bytes_of (map named_of xs)) ≤ 32 = omega (arith, many, most, count) in
    none_too_many (map named_of xs) few
