use Rattle.std.proofs.Common.{[], map, subst, arith}
use Rattle.lrc_lint_fault.proofs.Telling.{none_case}
use Rattle.lrc_named_tokens.specs.View.{located_of}
use Rattle.lrc_named_parse.specs.Faults.{AreFaultless}
use Rattle.lrc_named_parse.proofs.Reading.{few_lexemes}
use Rattle.lrc_named_may.proofs.FirstFaults.{no_first_fault}
use Rattle.lrc_named_lint.proofs.text_fault.lint_text_fault.Goals as goal

pub first_fault-requires : goal.first_fault-requires
first_fault-requires c =
    rw c.deref.ensures.value
    (few_lexemes c.in_ok-all.all.items (record { text = c.args.text.now; fits = c.if-text-gt-MOST_BYTES.false; lexed = c.in_ok-all.ensures }))

pub returns : goal.returns
returns c =
    let t = none_case _ c.in_ok-fault.field-0 c.in-None.is c.in_ok-fault.ensures in
    no_first_fault c.args.text.now (map located_of c.in_ok-all.all.items) t.0 c.if-text-gt-MOST_BYTES.false c.in_ok-all.ensures
    (subst (λ xs. AreFaultless [] (map located_of xs) t.0) c.deref.ensures.value t.1)
