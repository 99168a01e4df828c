-- The first of the links that holds.
use Rattle.lrc_races_why.specs.Links as by
use Rattle.lrc_races_why.proofs.Linking.{stands, joined, locked, barred, forked, is_true, is_false}
use Rattle.lrc_races_why.proofs.link.link_of.Goals as goal

pub returns-then-earlier-later : goal.returns-then-earlier-later
returns-then-earlier-later c = λ events i j p at there. by.thread c.if-earlier-later.true

pub returns-then-forks : goal.returns-then-forks
returns-then-forks c = λ events i j p at there. by.fork c.if-earlier-later.false (is_true c.forks.result _ c.forks.ensures c.if-forks.true)

pub returns-in-Join : goal.returns-in-Join
returns-in-Join c = λ events i j p at there.
    joined c.args.earlier c.args.later c.if-earlier-later.false c.in-Join.thread c.in-Join.is
    (is_false c.forks.result _ c.forks.ensures c.if-forks.false) (stands events i j c.args.earlier c.args.later at there p)

pub returns-in-Some : goal.returns-in-Some
returns-in-Some c = λ events i j p at there.
    locked c.args.earlier c.args.later c.if-earlier-later.false c.in_default.not-Join c.in-Some.lock c.in-Some.ensures
    (stands events i j c.args.earlier c.args.later at there p)

pub returns-in-Some-arrived : goal.returns-in-Some-arrived
returns-in-Some-arrived c = λ events i j p at there.
    barred c.args.earlier c.args.later c.if-earlier-later.false c.in_default.not-Join c.in-Some-arrived.barrier c.in-Some-arrived.ensures
    (stands events i j c.args.earlier c.args.later at there p)

pub returns : goal.returns
returns c = λ events i j p at there.
    forked c.args.earlier c.args.later c.if-earlier-later.false c.in_default.not-Join c.in_default-given.ensures c.in_default-arrived.ensures
    (stands events i j c.args.earlier c.args.later at there p)
