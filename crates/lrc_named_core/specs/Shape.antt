-- The code's expressions as the definitions see them, by how they are built.
use Rattle.lrc_named_core.specs.declared.tree.Private as code_private
use Rattle.lrc_named_core.specs.declared.tree.Private.TheVariants.{Named, Own}
use Rattle.lrc_named_core.specs.declared.tree.Tree as code_tree
use Rattle.lrc_named_core.specs.declared.tree.Tree.{Number, Private, Me, Nodes, Binary'}
use Rattle.lrc_named_core.specs.Tree as tree
use Rattle.lrc_named_core.specs.Tree.{named, own}

abbrev pub private_of : code_private.Private → tree.Private
private_of (Named bytes) = named bytes.now
private_of (Own number first last) = own number first last

abbrev pub tree_of : code_tree.Tree → tree.Expression
tree_of (Number n) = tree.number n
tree_of (Private name) = tree.private (private_of name)
tree_of Me = tree.me
tree_of Nodes = tree.nodes
tree_of (Binary' p left operator q right) = tree.binary (tree_of left) operator (tree_of right)
