use Rattle.std.proofs.Common.{◌≡◌, ◌≤◌, ◌∙◌, ℕ, List, Ok, Err, cond, eqb, length, refl}
use Rattle.std.proofs.lemmas.Bool.{le-ltb}
use Rattle.std.proofs.lemmas.Result.{err_from_is_err_and}
use Rattle.lrc_wire.specs.declared.fault.WireFault.TheVariants.{Long}
use Rattle.lrc_wire.specs.declared.kind.MessageKind.{MessageKind}
use Rattle.lrc_wire.specs.declared.version.Version.{Version}
use Rattle.lrc_wire.specs.Reading.{◌>>=◌, body_at, whole_body_of}
use Rattle.lrc_wire.proofs.reading.whole_body.Goals as goal

-- a body of as many bytes as it is to have
as_body : (version : Version) (kind : MessageKind) (len : ℕ) (bytes : List ℕ) → len ≤ length bytes → length bytes ≤ len
    → whole_body_of version kind len bytes ≡ (body_at version kind bytes >>= λ message. cond (eqb (length message.1) 0) (Ok message.0) (Err Long))
unfolding whole_body_of
as_body version kind len bytes long short = rw (le-ltb (length bytes) len long, le-ltb len (length bytes) short) refl

pub returns-in_err-message : goal.returns-in_err-message
returns-in_err-message c =
    let p = err_from_is_err_and c.from_residual.result c.from_residual.ensures.1 in
    rw (p.1, p.2) (λ other. as_body c.args.version c.args.kind c.args.len c.args.bytes.now c.if-bytes-len.false c.if-bytes-len-2.false
    ∙ rw (c.in_err-message.ensures other) refl)
