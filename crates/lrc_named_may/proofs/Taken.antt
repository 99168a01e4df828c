-- Kinds that the parser takes, one more.
use Rattle.std.proofs.Common.{◌≡◌, ◌<◌, ◌≤◌, ◌+◌, ℕ, Bool, List, [], ◌∷◌, ◌++◌, filter, length, get_or, take, sym, ap, subst, ◌∙◌}
use Rattle.std.proofs.lemmas.List.{take_all, take_more}
use Rattle.std.proofs.lemmas.List.Elements.{filter-append}
use Rattle.lrc_named_may.specs.declared.kind.Kind.{Kind}

pub taken_more : (test : Kind → Bool) (xs : List Kind) (i : ℕ) (d : Kind) (old new : List Kind) → i < length xs → old ≡ filter test (take i xs)
    → new ≡ old ++ filter test (get_or xs i d ∷ []) → new ≡ filter test (take (i + 1) xs)
taken_more test xs i d old new lt is more =
    more ∙ ap (λ l. l ++ filter test (get_or xs i d ∷ [])) is ∙ sym (filter-append test (take i xs) (get_or xs i d ∷ []))
    ∙ ap (filter test) (sym (take_more xs i d lt))

-- the same, where the list is seen elsewhere
pub taken_in : (test : Kind → Bool) (xs ks : List Kind) (i : ℕ) (d : Kind) (old new : List Kind) → xs ≡ ks → i < length xs → old ≡ filter test (take i ks)
    → new ≡ old ++ filter test (get_or xs i d ∷ []) → new ≡ filter test (take (i + 1) ks)
taken_in test xs ks i d old new same lt is more =
    taken_more test ks i d old new (subst (λ l. i < length l) same lt) is (subst (λ l. new ≡ old ++ filter test (get_or l i d ∷ [])) same more)

pub taken_all : (test : Kind → Bool) (xs ks : List Kind) (i : ℕ) (some : List Kind) → xs ≡ ks → length xs ≤ i → some ≡ filter test (take i ks)
    → some ≡ filter test ks
taken_all test xs ks i some same past is = is ∙ ap (filter test) (take_all i ks (subst (λ l. length l ≤ i) same past))
