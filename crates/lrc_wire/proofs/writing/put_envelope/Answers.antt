use Rattle.std.proofs.Common.{refl, arith}
use Rattle.lrc_wire.specs.declared.version.Version.TheVariants.{Two}
use Rattle.lrc_wire.proofs.Envelopes.{spells}
use Rattle.lrc_wire.proofs.writing.put_envelope.Goals as goal

pub returns : goal.returns
returns c =
    let exact = rw (← c.envelope.view_is) at c.requires.exact in
    let head = rw (← c.envelope.view_is) at c.in_ok-put_header.ensures.written in
    let bits = rw (← c.envelope.view_is) at c.in_ok-put_header.ensures.number_bits in
    rw (← c.envelope.view_is) (spells Two _ _ (record {
      fits = record { ends = c.envelope.invariant; number = bits; message = c.in_ok-put_body.ensures.fits };
      short = omega (arith, exact, c.requires.short);
      spelled = rw (c.in_ok-put_body.ensures.written, head, c.requires.empty) refl;
    }))
