use Rattle.std.proofs.Common.{◌≡◌, ◌∙◌, ◌<◌, ◌++◌, ◌∷◌, [], ℕ, List, None, Some, Vec, get_or, arith, length, map, subst, sym}
use Rattle.std.specs.Prelude.{All, slice_get, slice_index}
use Rattle.std.specs.declared.alloc.Global.{Global}
use Rattle.std.proofs.lemmas.List.{take_all}
use Rattle.std.proofs.lemmas.Option.{same_Some, slice_get-get_or}
use Rattle.lrc_why.specs.Spread.{OfEach}
use Rattle.lrc_why.proofs.Lists.{each-push}
use Rattle.lrc_why_text.specs.declared.asked.Asked.{Asked}
use Rattle.lrc_why_run.specs.Answers.{TellsAt}
use Rattle.lrc_why_run.proofs.run.told_each.Goals as goal

abbrev nothing : Asked
nothing = record { act = 0; and = None }

pub loop-one-preserved : goal.loop-one-preserved
loop-one-preserved c =
    let asked = c.args.asked.now in
    let at = c.loop-one.one-index in
    let here : Asked = get_or asked at nothing in
    let Telling : ℕ → Vec ℕ Global → Type 0 = λ place part. (one : Asked) → slice_get asked place ≡ Some one
    → TellsAt c.args.source.now.text c.args.source.now.names c.args.shown c.args.source.now.program c.args.nodes c.args.page
    (slice_index c.args.statements.now one.act) one part.items in
    each-push Telling c.loop-one.parts.items _ _ at c.loop-one.invariant
    (λ one stands.
    let same : here ≡ one = same_Some here one (sym (slice_get-get_or asked at nothing c.loop-one-test.true) ∙ stands) in
    subst (λ (a : Asked). TellsAt c.args.source.now.text c.args.source.now.names c.args.shown c.args.source.now.program c.args.nodes c.args.page
    (slice_index c.args.statements.now a.act) a c.in_ok-part.part.items)
    same c.in_ok-part.ensures)
    c.in_ok-push.ensures.items

pub returns : goal.returns
returns c =
    let asked = c.args.asked.now in
    let Telling : ℕ → Vec ℕ Global → Type 0 = λ place part. (one : Asked) → slice_get asked place ≡ Some one
    → TellsAt c.args.source.now.text c.args.source.now.names c.args.shown c.args.source.now.program c.args.nodes c.args.page
    (slice_index c.args.statements.now one.act) one part.items in
    let end : c.loop-one.one-index ≡ length asked = omega arith in
    subst (λ (n : ℕ). OfEach n Telling c.loop-one.parts.items) end c.loop-one.invariant
