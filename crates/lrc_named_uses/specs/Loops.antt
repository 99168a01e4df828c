-- Loops that wait for shared items but learn of no write of another node.
use Rattle.std.specs.Prelude.{ℕ, ◌&&◌, Bool, true, false, not, List, [], ◌∷◌, ◌++◌, if◌then◌else◌, is_some}
use Rattle.std.specs.List.{list_any}
use Rattle.std.specs.Str.{bytes_eq}
use Rattle.lrc_named_tokens.specs.Token.{Lexeme, Located, name, token}
use Rattle.lrc_named_tree.specs.Tree.{Arms, Block, Expression, Statement, arm, empty, next, no_arm}
use Rattle.lrc_named_tree.specs.Tree.{assign, acquire, release, with_do, barrier, print, assert, if_else, while_do, for_do}
use Rattle.lrc_named_names.specs.Names.{Declared, meaning_of}
use Rattle.lrc_named_uses.specs.Deeds.{Deed, deeds_in, learns, sets}
use Rattle.lrc_named_uses.specs.Names.{tokens_in}
use Rattle.lrc_named_uses.specs.Shared.{has_shared}

abbrev pub sets_name : List ℕ → Deed → Bool
sets_name bytes learns = false
sets_name bytes (sets named) = bytes_eq named.bytes bytes

abbrev pub is_learning : Deed → Bool
is_learning learns = true
is_learning (sets named) = false

-- a private name, which is declared nowhere, that one of these sets
abbrev pub is_set_name : List Declared → List Deed → List ℕ → Bool
is_set_name declared deeds bytes = not (is_some (meaning_of declared bytes)) && list_any (sets_name bytes) deeds

abbrev pub is_set_in : List Declared → List Deed → Lexeme → Bool
is_set_in declared deeds (token (name bytes)) = is_set_name declared deeds bytes
is_set_in declared deeds _ = false

-- some such name among tokens
abbrev pub some_set : List Declared → List Deed → List Located → Bool
some_set declared deeds some = list_any (λ (found : Located). is_set_in declared deeds found.lexeme) some

-- a condition that has a shared item and no private name that is set in the loop, and nothing in the loop by which the node learns of a write
abbrev pub waits : List Declared → List Located → Expression → List Deed → Bool
waits declared tokens condition deeds =
    has_shared declared tokens condition && not (some_set declared deeds (tokens_in tokens condition)) && not (list_any is_learning deeds)

abbrev pub waits_at : List Declared → List Located → ℕ → Expression → List Deed → List ℕ
waits_at declared tokens at condition deeds = if waits declared tokens condition deeds then at ∷ [] else []

-- with which token such loops begin: a statement and those of its blocks, those of a block, those of each `else if`
abbrev mutual
  pub loops_of : List Declared → List Located → Statement → List ℕ
  loops_of declared tokens (assign p update e) = []
  loops_of declared tokens (acquire at p) = []
  loops_of declared tokens (release at p) = []
  loops_of declared tokens (with_do at p inside close) = loops_in declared tokens inside
  loops_of declared tokens (barrier at) = []
  loops_of declared tokens (print at values) = []
  loops_of declared tokens (assert at e) = []
  loops_of declared tokens (if_else at e one others otherwise) =
      loops_in declared tokens one ++ (loops_of_arms declared tokens others ++ loops_in declared tokens otherwise)
  loops_of declared tokens (while_do at e inside) = waits_at declared tokens at e (deeds_in inside) ++ loops_in declared tokens inside
  loops_of declared tokens (for_do at named first end inside) = loops_in declared tokens inside

  pub loops_in : List Declared → List Located → Block → List ℕ
  loops_in declared tokens empty = []
  loops_in declared tokens (next first others) = loops_of declared tokens first ++ loops_in declared tokens others

  pub loops_of_arms : List Declared → List Located → Arms → List ℕ
  loops_of_arms declared tokens no_arm = []
  loops_of_arms declared tokens (arm at e inside others) = loops_in declared tokens inside ++ loops_of_arms declared tokens others
