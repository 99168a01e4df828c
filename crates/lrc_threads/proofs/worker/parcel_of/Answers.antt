use Rattle.std.proofs.Common.{◌≡◌, ◌∙◌, ap, rules}
use Rattle.lrc_wire.specs.declared.version.Version.TheVariants.{Two}
use Rattle.lrc_wire.specs.Reading.{envelope_of}
use Rattle.lrc_wire.proofs.Envelopes.{envelope_again}
use Rattle.lrc_threads.specs.Worker.{Shown}
use Rattle.lrc_threads.proofs.worker.parcel_of.Goals as goal

pub returns-in-Ok-clause-shown : goal.returns-in-Ok-clause-shown
returns-in-Ok-clause-shown c =
    let same : c.envelope.inside.to ≡ c.args.envelope.now.to = search rules in
    ap (λ to. let s : Shown = (to, (c.args.stamp, envelope_of c.in-Ok.bytes)) in s) same
    ∙ ap (λ said. let s : Shown = (c.args.envelope.now.to, (c.args.stamp, said)) in s)
    (envelope_again Two c.in-Ok.bytes c.args.envelope.now c.in-Ok.ensures.written)
