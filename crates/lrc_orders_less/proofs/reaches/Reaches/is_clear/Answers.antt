use Rattle.std.proofs.lemmas.Bool.{not-true}
use Rattle.std.proofs.lemmas.Option.{slice_get_within}
use Rattle.lrc_orders_less.proofs.Pairs.{clear_found}
use Rattle.lrc_orders_less.proofs.reaches.Reaches.is_clear.Goals as goal

pub index-requires : goal.index-requires
index-requires c = slice_get_within c.args.self.now.texts.entries c.args.place (c.args.text, c.requires.there.0) c.requires.there.1

pub returns-in-Some : goal.returns-in-Some
returns-in-Some c = λ e threads stands are.
    clear_found c.args.flat.now threads c.args.self.now.texts.entries c.args.place c.args.text c.args.spot.now c.index.result.now _ c.deref.result.now
    c.args.deed are c.requires.there c.index.ensures c.in-Some.is c.deref.ensures.value stands (c.may_conflict.ensures (not-true c.may_conflict.result e))
