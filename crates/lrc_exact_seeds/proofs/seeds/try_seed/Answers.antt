use Rattle.std.proofs.Common.{List, subst}
use Rattle.std.specs.Prelude.{Option, Vec, option_map}
use Rattle.std.specs.declared.alloc.Global.{Global}
use Rattle.lrc_trace.specs.declared.act.Act.{Act}
use Rattle.lrc_node.specs.Options.{options_of}
use Rattle.lrc_exact_seeds.specs.Seeds.{AreMarked, IsAllOfSeed}
use Rattle.lrc_exact_seeds.proofs.Marking.{marked_more, unmarked_more}
use Rattle.lrc_exact_seeds.proofs.seeds.try_seed.Goals as goal

pub mark-requires : goal.mark-requires
mark-requires c = c.requires.count

pub returns-in-Some : goal.returns-in-Some
returns-in-Some c =
    let program = c.args.program.now in
    let count = c.args.setting.now.nodes.count in
    let options = options_of c.args.setting.now in
    let outcomes = c.args.outcomes.now in
    let old = c.args.seeds.now.items in
    let new = c.mark.new.seeds.items in
    let items : Option (Vec Act Global) → Option (List Act) = λ o. option_map (λ (a : Vec Act Global). a.items) o in
    let all = subst (λ s. IsAllOfSeed program count options s (items c.in_ok-notes.notes)) c.from-seed.ensures c.in_ok-notes.ensures in
    let found = subst (λ o. IsAllOfSeed program count options c.args.seed (items o)) c.in-Some.is all in
    let marked = subst (λ notes. AreMarked outcomes notes c.args.seed old new) c.deref.ensures.value
    (subst (λ s. AreMarked outcomes c.deref.result.now s old new) c.from-seed.ensures c.mark.ensures) in
    marked_more program count options c.args.seed outcomes c.in-Some.notes.items old new found c.requires marked

pub returns-in-None : goal.returns-in-None
returns-in-None c =
    let program = c.args.program.now in
    let count = c.args.setting.now.nodes.count in
    let options = options_of c.args.setting.now in
    let items : Option (Vec Act Global) → Option (List Act) = λ o. option_map (λ (a : Vec Act Global). a.items) o in
    let all = subst (λ s. IsAllOfSeed program count options s (items c.in_ok-notes.notes)) c.from-seed.ensures c.in_ok-notes.ensures in
    unmarked_more program count options c.args.seed c.args.outcomes.now c.args.seeds.now.items
    (subst (λ o. IsAllOfSeed program count options c.args.seed (items o)) c.in-None.is all) c.requires
