use Rattle.std.proofs.Common.{◌≡◌, Err, rules}
use Rattle.lrc_threads.proofs.Traced.{same_trace, traces_any, traces_handed}
use Rattle.lrc_threads.proofs.Turned.{waited, unmoved, handed_on}
use Rattle.lrc_threads.proofs.worker.receive.Goals as goal

pub returns-in_err-parcel-clause-goes : goal.returns-in_err-parcel-clause-goes
returns-in_err-parcel-clause-goes g c = λ l is.
    waited g.M.Mail.puts g.M.Mail.takes c.args.mail.now c.next_parcel.new.mail l c.args.node.now.logged c.in_err-parcel.field-0.0 c.from_residual.result
    c.from_residual.ensures.1 c.in_err-parcel.ensures.unworn is

pub returns-in_default-clause-goes : goal.returns-in_default-clause-goes
returns-in_default-clause-goes g c = λ l is.
    let same : c.next_parcel.new.mail ≡ c.args.mail.now = search rules in
    unmoved g.M.Mail.puts g.M.Mail.takes c.args.mail.now c.next_parcel.new.mail l c.args.node.now.logged same is

pub returns-in_err-take_in-clause-goes : goal.returns-in_err-take_in-clause-goes
returns-in_err-take_in-clause-goes g c = λ l is.
    let took : g.M.Mail.takes c.args.mail.now c.in-Some.parcel c.next_parcel.new.mail = search rules in
    let refused : c.take_in.result ≡ Err c.in_err-take_in.field-0.0 = search rules in
    handed_on g.M.Mail.puts g.M.Mail.takes c.args.mail.now c.take_in.new.mail l c.take_in.new.node.logged c.in_err-take_in.field-0.0 c.take_in.result
    c.from_residual-in_err-take_in.result refused c.from_residual-in_err-take_in.ensures.1 (c.take_in.ensures.goes l is c.args.mail.now took)

pub returns-in_err-parcel-clause-traced : goal.returns-in_err-parcel-clause-traced
returns-in_err-parcel-clause-traced g c = traces_any c.args.node.now c.args.node.now c.from_residual.result (same_trace c.args.node.now)

pub returns-in_default-clause-traced : goal.returns-in_default-clause-traced
returns-in_default-clause-traced g c = same_trace c.args.node.now

pub returns-in_err-take_in-clause-traced : goal.returns-in_err-take_in-clause-traced
returns-in_err-take_in-clause-traced g c =
    let refused : c.take_in.result ≡ Err c.in_err-take_in.field-0.0 = search rules in
    traces_handed c.args.node.now c.take_in.new.node c.in_err-take_in.field-0.0 c.take_in.result c.from_residual-in_err-take_in.result refused
    c.from_residual-in_err-take_in.ensures.1 c.take_in.ensures.traced
