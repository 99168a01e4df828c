use Rattle.std.proofs.Common.{arith}
use Rattle.lrc_store.proofs.links.Links.renew.Goals as goal

pub link_nodes-requires-clause-few : goal.link_nodes-requires-clause-few
link_nodes-requires-clause-few c = omega (arith, c.requires.noted, c.link_pages.ensures.few)
