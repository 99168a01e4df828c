-- One step more.
use Rattle.std.proofs.Common.{◌≡◌, ◌+◌, ◌-◌, length, arith}
use Rattle.lrc_races_text.specs.Tables.{naming_of}
use Rattle.lrc_races_why.proofs.Answering.{chain-within, chain-long, follows_none, follows_more, follows_all}
use Rattle.lrc_races_why.proofs.answer.push_steps.Goals as goal

pub push_link-requires-clause-first : goal.push_link-requires-clause-first
push_link-requires-clause-first c =
    let (i, j, chain) = c.requires in
    (chain-within chain (c.loop-place.place - 1) c.loop-place.place (omega arith) c.loop-place-test.true).0

pub push_link-requires-clause-second : goal.push_link-requires-clause-second
push_link-requires-clause-second c =
    let (i, j, chain) = c.requires in
    (chain-within chain (c.loop-place.place - 1) c.loop-place.place (omega arith) c.loop-place-test.true).1

pub loop-place-init : goal.loop-place-init
loop-place-init c = follows_none c.args.form (naming_of c.args.names.now) c.args.events.now c.args.lines.now c.args.chain.now c.args.text.now.items

pub loop-place-preserved : goal.loop-place-preserved
loop-place-preserved c =
    let (i, j, chain) = c.requires in
    let p = (chain-within chain (c.loop-place.place - 1) c.loop-place.place (omega arith) c.loop-place-test.true).2 in
    follows_more c.args.form (naming_of c.args.names.now) c.args.events.now c.args.lines.now c.args.chain.now (c.loop-place.place - 1) c.loop-place.place
    (omega arith) c.loop-place-test.true _ _ _ (c.in_ok-push_link.ensures p) c.loop-place.invariant

pub returns : goal.returns
returns c =
    let (i, j, chain) = c.requires in
    let long = chain-long chain in
    let done : c.loop-place.place - 1 + 1 ≡ length c.args.chain.now = omega arith in
    follows_all c.args.form (naming_of c.args.names.now) c.args.events.now c.args.lines.now c.args.chain.now (c.loop-place.place - 1) done _ _ c.loop-place.invariant
