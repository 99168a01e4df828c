use Rattle.std.proofs.Common.{rules}
use Rattle.std.proofs.lemmas.Bool.Decides.{Decides-eqb}
use Rattle.std.proofs.lemmas.Slice.Eq.{slice_eq-Decides}
use Rattle.lrc_run.proofs.Sources.{not_too_long, written_same}
use Rattle.lrc_run.proofs.sent.is_same.Goals as goal

pub returns-in-Ok : goal.returns-in-Ok
returns-in-Ok c =
    written_same c.args.sent.now c.args.envelope.now c.deref.result.now c.args.bytes.now c.eq.result
    (slice_eq-Decides Decides-eqb c.deref.result.now c.args.bytes.now c.eq.result c.eq.ensures)
    (search rules) c.requires

pub returns-in-Err-TooLong : goal.returns-in-Err-TooLong
returns-in-Err-TooLong c =
    not_too_long c.args.sent.now c.args.envelope.now c.args.bytes.now (c.encode.ensures.too_long.0 (search rules)) c.requires
