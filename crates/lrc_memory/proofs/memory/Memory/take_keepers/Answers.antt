use Rattle.std.proofs.Common.{◌≡◌, ◌∙◌, refl, ap, sym, subst, arith}
use Rattle.lrc_memory.specs.Notes.{keepers_of}
use Rattle.lrc_memory.specs.View.{IsKept, node_seen}
use Rattle.lrc_memory.proofs.Inside.{kept}
use Rattle.lrc_memory.proofs.Discards.{same-seen}
use Rattle.lrc_memory.proofs.Noting.{long-keepers, noting, only-keepers}
use Rattle.lrc_memory.proofs.Renewed.{kept-renewed, seen-renewed}
use Rattle.lrc_memory.proofs.memory.Memory.take_keepers.Goals as goal
use Rattle.lrc_memory.proofs.memory.Memory.take_keepers.Goals.{After-take_keepers}

pub take_keepers-requires : goal.take_keepers-requires
take_keepers-requires c = omega (arith, c.self.invariant.keepers, long-keepers c.self.inside.notes.items, c.size-few.ensures.few)

-- only the keepers are others
taken : (c : After-take_keepers)
    → noting (kept c.self.inside) c.take_keepers.new.notes.items ≡ record (kept c.self.inside) { keepers = keepers_of c.take_keepers.new.notes.items }
taken c =
    only-keepers (kept c.self.inside) c.self.inside.notes.items c.take_keepers.new.notes.items c.take_keepers.ensures.since c.take_keepers.ensures.named

pub invariant_of-self : goal.invariant_of-self
invariant_of-self c =
    subst IsKept (sym (taken (goal.at.invariant_of-self c).After-take_keepers))
    (kept-renewed (kept c.self.inside) (keepers_of c.take_keepers.new.notes.items) c.self.invariant c.take_keepers.ensures.keepers)

pub returns-clause-taken : goal.returns-clause-taken
returns-clause-taken c =
    ap node_seen (taken (goal.at.returns-clause-taken c).After-take_keepers)
    ∙ seen-renewed (kept c.self.inside) (keepers_of c.take_keepers.new.notes.items) _ c.self.view_is c.take_keepers.ensures.keepers

pub returns-clause-same : goal.returns-clause-same
returns-clause-same c =
    same-seen (kept c.self.inside) (noting (kept c.self.inside) c.take_keepers.new.notes.items) _ c.self.view_is refl refl refl refl
