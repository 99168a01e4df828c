use Rattle.std.proofs.Common.{◌≡◌, ◌∙◌, get_or, sym, subst, ap}
use Rattle.std.specs.Prelude.{slice_get}
use Rattle.std.proofs.lemmas.Option.{get_or_from_slice_get}
use Rattle.lrc_orders_memory.specs.declared.sharing.Shared.{Shared}
use Rattle.lrc_orders_memory.specs.Parts.{IsMemory}
use Rattle.lrc_orders_memory.proofs.sharing.AllShared.written.Goals as goal

pub returns-clause-there : goal.returns-clause-there
returns-clause-there c words before at =
    let slice = c.as_slice.result.now in
    let read : Shared = c.index-as_slice-number.result in
    let same : at.shared ≡ get_or slice c.args.number read =
    sym (get_or_from_slice_get slice c.args.number at.shared read (ap (λ l. slice_get l c.args.number) c.as_slice.ensures.keys ∙ at.there)) in
    c.in_ok-number.ensures.there _ (c.in_ok-memory.ensures.is words (subst (λ (x : Shared). IsMemory c.args.self.now.parts x.memory words) same at.memory))
