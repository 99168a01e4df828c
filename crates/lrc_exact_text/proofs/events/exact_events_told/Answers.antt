use Rattle.std.proofs.Common.{ℕ, List, subst}
use Rattle.std.specs.Prelude.{◌≡◌, IfErr, IfOk, Option, Vec, option_map}
use Rattle.std.specs.declared.alloc.Global.{Global}
use Rattle.lrc_exact.specs.Rule.{Shape}
use Rattle.lrc_exact_search.specs.Searching.{MeetsMore}
use Rattle.lrc_protocol.specs.Node.{OptionsRecord}
use Rattle.lrc_orders.specs.declared.search.ExploreFault.TheVariants.{TooMany}
use Rattle.lrc_exact_text.specs.Events.{TellsExactEventsOfNumber}
use Rattle.lrc_exact_text.specs.Layout.{shape_in}
use Rattle.lrc_exact_text.specs.Listed.{FitExactRuns}
use Rattle.lrc_exact_text.proofs.events.exact_events_told.Goals as goal

pub returns-clause-told : goal.returns-clause-told
returns-clause-told c =
    let program = c.args.program.now in
    let result = c.told_in.result in
    let number = c.args.number in
    let items : Option (Vec ℕ Global) → Option (List ℕ) = λ o. option_map (λ (text : Vec ℕ Global). text.items) o in
    subst (λ (o : OptionsRecord). IfOk result (λ told. TellsExactEventsOfNumber program (shape_in c.args.setting.now) o number (items told)))
    c.options_of-options.ensures
    (subst (λ (s : Shape). IfOk result (λ told. TellsExactEventsOfNumber program s c.options_of-options.result number (items told)))
    c.layout_in-layout.ensures c.told_in.ensures.told)

pub returns-clause-fits : goal.returns-clause-fits
returns-clause-fits c =
    subst (λ (s : Shape). IfOk c.told_in.result (λ parts. FitExactRuns c.args.program.now s c.args.most)) c.layout_in-layout.ensures c.told_in.ensures.fits

pub returns-clause-too_many : goal.returns-clause-too_many
returns-clause-too_many c =
    subst (λ (s : Shape). IfErr c.told_in.result (λ fault. fault ≡ TooMany → MeetsMore c.args.program.now s c.args.most)) c.layout_in-layout.ensures
    c.told_in.ensures.too_many
