use Rattle.std.proofs.Common.{rules, arith}
use Rattle.std.proofs.lemmas.Bool.Decides.{Decides-eqb}
use Rattle.std.proofs.lemmas.Slice.Eq.{slice_eq-Decides}
use Rattle.lrc_weave.proofs.Spellings.{none_long, one_writing, written_so}
use Rattle.lrc_weave.proofs.spelled.Speller.is_written.Goals as goal

pub returns-in-Ok : goal.returns-in-Ok
returns-in-Ok c =
    let decides = slice_eq-Decides Decides-eqb c.args.bytes.now c.as_slice.result.now c.eq.result c.eq.ensures in (
      λ yes. written_so c.args.bytes.now c.as_slice.result.now c.args.envelope.now (decides.0 yes) (search rules),
      λ is. decides.1 (one_writing c.args.bytes.now c.as_slice.result.now c.args.envelope.now is (search rules)),
    )

pub returns-in-Err-TooLong : goal.returns-in-Err-TooLong
returns-in-Err-TooLong c = (
  λ never. cc,
  λ is. absurd (none_long c.args.bytes.now c.args.envelope.now (λ i. omega (arith, c.type_inv.bytes i)) (c.write.ensures.too_long.0 (search rules)) is),
)
