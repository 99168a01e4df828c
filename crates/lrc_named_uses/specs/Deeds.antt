-- What the statements of a block do, as a loop around them asks for it, in the order of the text.
use Rattle.std.specs.Prelude.{List, [], ◌∷◌, ◌++◌}
use Rattle.lrc_named_tree.specs.View.{named_of}
use Rattle.lrc_named_tree.specs.Tree.{Named, Expressions, none, more, Place, Statement, Block, Arms, empty, next, no_arm, arm}
use Rattle.lrc_named_tree.specs.Tree.{assign, acquire, release, with_do, barrier, print, assert, if_else, while_do, for_do}
use Rattle.lrc_named_uses.specs.declared.deeds.Deed as code
use Rattle.lrc_named_uses.specs.declared.deeds.Deed.TheVariants.{Learns, Sets}

-- a statement by which a node learns of writes of others, or one that sets a name, without an index or behind `for`
pub data Deed : Type 0 where
  learns : Deed
  sets : Named → Deed

abbrev pub deed_seen : code.Deed → Deed
deed_seen Learns = learns
deed_seen (Sets name) = sets (named_of name)

abbrev pub sets_bare : Named → Expressions → List Deed
sets_bare named none = sets named ∷ []
sets_bare named (more e others) = []

abbrev pub sets_place : Place → List Deed
sets_place p = sets_bare p.name p.indices

-- of a statement and those of its blocks, of the statements of a block, and of each `else if`
abbrev mutual
  pub deeds_of : Statement → List Deed
  deeds_of (assign p update e) = sets_place p
  deeds_of (acquire at p) = learns ∷ []
  deeds_of (release at p) = []
  deeds_of (with_do at p inside close) = learns ∷ deeds_in inside
  deeds_of (barrier at) = learns ∷ []
  deeds_of (print at values) = []
  deeds_of (assert at e) = []
  deeds_of (if_else at e then others otherwise) = deeds_in then ++ (deeds_of_arms others ++ deeds_in otherwise)
  deeds_of (while_do at e inside) = deeds_in inside
  deeds_of (for_do at named first end inside) = sets named ∷ deeds_in inside

  pub deeds_in : Block → List Deed
  deeds_in empty = []
  deeds_in (next first others) = deeds_of first ++ deeds_in others

  pub deeds_of_arms : Arms → List Deed
  deeds_of_arms no_arm = []
  deeds_of_arms (arm at e inside others) = deeds_in inside ++ deeds_of_arms others
