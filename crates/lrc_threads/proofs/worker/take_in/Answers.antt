use Rattle.std.proofs.Common.{◌≡◌, Ok, Err, true, false, sym, subst, rules}
use Rattle.std.specs.Prelude.{is_err}
use Rattle.lrc_wire.specs.Reading.{envelope_of}
use Rattle.lrc_protocol.specs.Run as log
use Rattle.lrc_threads.specs.declared.stop.Stop.TheVariants.{NoMemory}
use Rattle.lrc_threads.specs.Worker.{IsRefused, made_of, message}
use Rattle.lrc_threads.proofs.Traced.{same_trace, traces_any, traces_input}
use Rattle.lrc_threads.proofs.Turned.{turned, unturned, sent_take, failed, dropped, unread, waited}
use Rattle.lrc_threads.proofs.worker.take_in.Goals as goal

pub returns-in_default-clause-goes : goal.returns-in_default-clause-goes
returns-in_default-clause-goes g c = λ l is s took.
    let says_none : is_err (envelope_of c.args.parcel.now.bytes) ≡ true = search rules in
    dropped g.M.Mail.puts g.M.Mail.takes s c.args.mail.now l c.args.node.now.logged c.args.parcel.now took
    (unread l c.args.parcel.now.stamp (envelope_of c.args.parcel.now.bytes) says_none) is

pub returns-in_err-envelope-clause-goes : goal.returns-in_err-envelope-clause-goes
returns-in_err-envelope-clause-goes g c = λ l is s took.
    waited g.M.Mail.puts g.M.Mail.takes s c.args.mail.now l c.args.node.now.logged c.in_err-envelope.field-0.0 c.from_residual.result
    c.from_residual.ensures.1 (λ worn. let none : c.in_err-envelope.field-0.0 ≡ NoMemory = search rules in cc) is

pub returns-then-branch-clause-goes : goal.returns-then-branch-clause-goes
returns-then-branch-clause-goes g c = λ l is s took.
    let made : made_of c.take.result ≡ Ok true = search rules in
    let said : envelope_of c.args.parcel.now.bytes ≡ Ok c.in-Some.envelope = search rules in
    let i = turned l (log.taken c.in-Some.envelope) c.args.parcel.now.stamp c.args.node.now.logged c.take.new.self.logged c.take.result
    c.take.ensures.logs is made in
    sent_take g.M.Mail.puts g.M.Mail.takes s c.args.mail.now c.send_last.new.mail l c.take.new.self.logged c.send_last.result c.args.parcel.now
    c.in-Some.envelope took said i (c.send_last.ensures.sent i.entry i.last)

pub returns-in_err-is_made-clause-goes : goal.returns-in_err-is_made-clause-goes
returns-in_err-is_made-clause-goes g c = λ l is s took.
    let made : made_of c.take.result ≡ Err c.in_err-is_made.field-0.0 = search rules in
    let said : envelope_of c.args.parcel.now.bytes ≡ Ok c.in-Some.envelope = search rules in
    failed g.M.Mail.puts g.M.Mail.takes s c.args.mail.now l (log.taken c.in-Some.envelope) c.args.parcel.now.stamp c.args.node.now.logged
    c.take.new.self.logged c.take.result c.in_err-is_made.field-0.0 c.from_residual-in_err-is_made.result c.take.ensures.logs c.take.ensures.kept is made
    c.from_residual-in_err-is_made.ensures.1 (message took said)

pub returns-else-branch-clause-goes : goal.returns-else-branch-clause-goes
returns-else-branch-clause-goes g c = λ l is s took.
    let made : made_of c.take.result ≡ Ok false = search rules in
    let said : envelope_of c.args.parcel.now.bytes ≡ Ok c.in-Some.envelope = search rules in
    let u = unturned l (log.taken c.in-Some.envelope) c.args.parcel.now.stamp c.args.node.now.logged c.take.new.self.logged c.take.result
    c.take.ensures.logs is made in
    dropped g.M.Mail.puts g.M.Mail.takes s c.args.mail.now l c.take.new.self.logged c.args.parcel.now took
    (subst (IsRefused l c.args.parcel.now.stamp) (sym said) u.0) u.1

pub returns-in_default-clause-traced : goal.returns-in_default-clause-traced
returns-in_default-clause-traced g c = same_trace c.args.node.now

pub returns-then-branch-clause-traced : goal.returns-then-branch-clause-traced
returns-then-branch-clause-traced g c =
    let made : made_of c.take.result ≡ Ok true = search rules in
    traces_any c.args.node.now c.take.new.self c.send_last.result
    (traces_input c.args.node.now c.take.new.self (log.taken c.in-Some.envelope) c.args.parcel.now.stamp c.take.result true c.take.ensures.logs
    c.take.ensures.notes made)

pub returns-else-branch-clause-traced : goal.returns-else-branch-clause-traced
returns-else-branch-clause-traced g c =
    let made : made_of c.take.result ≡ Ok false = search rules in
    traces_input c.args.node.now c.take.new.self (log.taken c.in-Some.envelope) c.args.parcel.now.stamp c.take.result false c.take.ensures.logs
    c.take.ensures.notes made
