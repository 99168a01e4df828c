use Rattle.std.proofs.lemmas.Option.{slice_get_within}
use Rattle.lrc_orders_less.proofs.reaches.thread_of.Goals as goal

pub index-requires : goal.index-requires
index-requires c = slice_get_within c.args.table.now.rows.threads.keys c.args.number c.requires.0 c.requires.1
