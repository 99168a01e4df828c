use Rattle.std.proofs.Common.{◌∙◌, sym, ap, eqb, arith}
use Rattle.lrc_store.specs.Chains.{ChainsRecord, last_at}
use Rattle.lrc_store.proofs.Chained.{last_at-beyond}
use Rattle.lrc_store.proofs.chains.Chains.first.Goals as goal

pub returns-else-from-len : goal.returns-else-from-len
returns-else-from-len c =
    sym (ap (λ (r : ChainsRecord). last_at (λ other. eqb other c.args.key) r.keys) (sym c.self.view_is)
    ∙ last_at-beyond c.self.inside.newest.items c.self.inside.entries.items c.args.key c.self.invariant
    (omega (arith, c.if-from-len.false, c.from.ensures, c.len.ensures, c.self.inside.newest.ok.0)))
