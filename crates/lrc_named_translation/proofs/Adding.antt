-- Statements that come behind others.
use Rattle.std.proofs.Common.{◌≡◌, List, [], ◌∷◌, ◌++◌, refl, ap, sym, subst, ◌∙◌, append_assoc, append-nil}
use Rattle.lrc_named_core.specs.declared.tree.Statement.{Statement}
use Rattle.lrc_named_core.specs.Tree.{Block, empty, next, only, behind}
use Rattle.lrc_named_core.specs.View.{statement_of, block_of}
use Rattle.lrc_named_translation.specs.Added.{IsAdded}

pub block_of-append : (xs ys : List Statement) → block_of (xs ++ ys) ≡ behind (block_of xs) (block_of ys)
block_of-append [] ys = refl
block_of-append (x ∷ xs) ys = ap (next (statement_of x)) (block_of-append xs ys)

-- none
pub added_none : (P : Block → Type 0) (old : List Statement) → P empty → IsAdded P old old
added_none P old h = record { more = []; grown = sym (append-nil old); made = h }

-- the same, of which something else is so
pub added_as : (P Q : Block → Type 0) (old new : List Statement) → ((b : Block) → P b → Q b) → IsAdded P old new → IsAdded Q old new
added_as P Q old new f h = record { more = h.more; grown = h.grown; made = f (block_of h.more) h.made }

-- some, and then others
pub added_then : (P Q R : Block → Type 0) (old mid new : List Statement) → ((b c : Block) → P b → Q c → R (behind b c))
    → IsAdded P old mid → IsAdded Q mid new → IsAdded R old new
added_then P Q R old mid new f h k = record {
  more = h.more ++ k.more;
  grown = k.grown ∙ ap (λ l. l ++ k.more) h.grown ∙ append_assoc old h.more k.more;
  made = subst R (sym (block_of-append h.more k.more)) (f (block_of h.more) (block_of k.more) h.made k.made);
}

-- some, and then one
pub added_one : (P R : Block → Type 0) (old mid new : List Statement) (s : Statement) → ((b : Block) → P b → R (behind b (only (statement_of s))))
    → IsAdded P old mid → new ≡ mid ++ s ∷ [] → IsAdded R old new
added_one P R old mid new s f h is = record {
  more = h.more ++ s ∷ [];
  grown = is ∙ ap (λ l. l ++ s ∷ []) h.grown ∙ append_assoc old h.more (s ∷ []);
  made = subst R (sym (block_of-append h.more (s ∷ []))) (f (block_of h.more) h.made);
}
