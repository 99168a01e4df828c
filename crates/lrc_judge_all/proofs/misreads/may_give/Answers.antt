use Rattle.std.proofs.Common.{◌≡◌, ◌∙◌, Bor, None, Option, Some, subst, sym}
use Rattle.std.specs.Option.{option_copied}
use Rattle.std.proofs.lemmas.Bool.{eq-eqb, eqb-true}
use Rattle.lrc_judge_all.specs.Known.{IsKept, IsKeptOf}
use Rattle.lrc_judge_all.specs.declared.kept.Kept.{Kept}
use Rattle.lrc_judge_all.proofs.MayGive.{may_any, may_latest, may_none}
use Rattle.lrc_judge_all.proofs.misreads.may_give.Goals as goal

pub returns-in-None : goal.returns-in-None
returns-in-None c = λ run position word (known, exact, is).
    let none : IsKept run known word None = subst (λ (o : Option (Bor Kept)). IsKept run known word (option_copied o)) c.in-None.is is in
    let may = may_none run position word known exact none c.args.value in
    (λ t. may.1 (eqb-true c.args.value 0 t), λ m. eq-eqb c.args.value 0 (may.0 m))

pub returns-then-kept : goal.returns-then-kept
returns-then-kept c = λ run position word (known, exact, is).
    let e : c.args.kept ≡ Some c.in-Some.kept = cc in
    let kept : IsKeptOf run known word c.in-Some.kept.now = subst (λ (o : Option (Bor Kept)). IsKept run known word (option_copied o)) e is in
    let may = may_latest run position word known exact c.in-Some.kept.now kept c.if-kept.true c.args.value in
    (λ t. may.1 (eqb-true c.args.value _ t), λ m. eq-eqb c.args.value _ (may.0 m))

pub returns-else-kept : goal.returns-else-kept
returns-else-kept c = λ run position word (known, exact, is).
    let e : c.args.kept ≡ Some c.in-Some.kept = cc in
    let kept : IsKeptOf run known word c.in-Some.kept.now = subst (λ (o : Option (Bor Kept)). IsKept run known word (option_copied o)) e is in
    let may = may_any run position word known exact c.in-Some.kept.now kept c.if-kept.false c.args.value in
    (λ t. may.1 (sym c.contains.ensures ∙ t), λ m. c.contains.ensures ∙ may.0 m)
