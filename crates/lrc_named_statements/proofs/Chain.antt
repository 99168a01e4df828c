-- Statements that come one after the other.
use Rattle.std.proofs.Common.{◌≡◌, ℕ, List, [], ◌∷◌, ◌++◌, length, take, sym, ap, subst, ◌∙◌, append_assoc}
use Rattle.std.specs.Prelude.{Result, Ok, Err, OnOk}
use Rattle.std.proofs.lemmas.List.{take_at}
use Rattle.lrc_named_core.specs.declared.tree.Statement.{Statement}
use Rattle.lrc_named_core.specs.Tree.{Block, next, only, behind}
use Rattle.lrc_named_core.specs.Tree as core
use Rattle.lrc_named_core.specs.View.{statement_of, block_of}
use Rattle.lrc_named_translation.specs.Added.{IsAdded}
use Rattle.lrc_named_translation.proofs.Adding.{block_of-append}

-- some, and then others
pub chain : (P R : Block → Type 0) (old mid new : List Statement) (h : IsAdded P old mid)
    → IsAdded (λ c. R (behind (block_of h.more) c)) mid new → IsAdded R old new
chain P R old mid new h k = record {
  more = h.more ++ k.more;
  grown = k.grown ∙ ap (λ l. l ++ k.more) h.grown ∙ append_assoc old h.more k.more;
  made = subst R (sym (block_of-append h.more k.more)) k.made;
}

-- one, and then others
pub push_then : (R : Block → Type 0) (old mid new : List Statement) (s : Statement) (x : core.Statement) → statement_of s ≡ x → mid ≡ old ++ s ∷ []
    → IsAdded (λ c. R (next x c)) mid new → IsAdded R old new
push_then R old mid new s x so is k = record {
  more = s ∷ k.more;
  grown = k.grown ∙ ap (λ l. l ++ k.more) is ∙ append_assoc old (s ∷ []) k.more;
  made = subst (λ y. R (next y (block_of k.more))) (sym so) k.made;
}

-- one
pub push_last : (R : Block → Type 0) (old new : List Statement) (s : Statement) (x : core.Statement) → statement_of s ≡ x → new ≡ old ++ s ∷ []
    → R (only x) → IsAdded R old new
push_last R old new s x so is r = record { more = s ∷ []; grown = is; made = subst (λ y. R (only y)) (sym so) r }

-- what has come is taken back
pub taken_back : (P : Block → Type 0) (old mid : List Statement) (n : ℕ) → length old ≡ n → IsAdded P old mid → take n mid ≡ old
taken_back P old mid n is h = ap (take n) h.grown ∙ take_at old h.more n is

-- what is so of a result that went well
pub well : {A E : Type 0} (P Q : Type 0) (r : Result A E) → (P → Q) → OnOk r P → OnOk r Q
well P Q (Ok x) f h = f h
well P Q (Err e) f h = tt
