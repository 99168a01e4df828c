use Rattle.lrc_store.specs.Lists.{nodes_of, pages_noted}
use Rattle.lrc_store.proofs.Followed.{follows}
use Rattle.lrc_store.proofs.laws.links_run_through_the_lists.Goals as goal

pub returns-clause-nodes : goal.returns-clause-nodes
returns-clause-nodes c = λ store node. follows (nodes_of store) node

pub returns-clause-pages : goal.returns-clause-pages
returns-clause-pages c = λ store page. follows (pages_noted store) page
