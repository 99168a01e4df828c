-- The code has grown from nothing by the whole text.
use Rattle.std.proofs.Common.{subst}
use Rattle.lrc_exec.specs.Flat.{IsPut}
use Rattle.lrc_exec.proofs.Flat.{grown_code}
use Rattle.lrc_exec.proofs.code.Code.new.Goals as goal

pub invariant_of-result : goal.invariant_of-result
invariant_of-result c =
    let old = c.new-instructions.result.items in
    let new = c.put_block.new.code.items in
    let start = c.in_ok-start.start in
    let put = subst (λ l. IsPut old new l 0 start) c.deref.ensures.value c.in_ok-start.ensures in
    grown_code old new c.args.program.now.statements.items start c.new-instructions.ensures.items c.args.program.now.few_names put
