-- Following the links gives the lists.
use Rattle.std.proofs.Common.{◌≡◌, ℕ, zero, suc, ◌+◌, ◌<◌, ◌≤◌, ◌∙◌, Bool, true, false, cond, eqb, eqb-true, Option, Some}
use Rattle.std.proofs.Common.{List, [], ◌∷◌, ◌++◌, length, get_or, take, reverse, refl, ap, sym, subst, arith}
use Rattle.std.proofs.lemmas.List.{take_more, take_all, length-take-le, reverse-append, append-nil}
use Rattle.lrc_store.specs.Lists.{Follows, head_of, link_of, list_of, places_from}
use Rattle.lrc_store.proofs.Chained.{last_at-push_here, last_at-push_other, reach, reach-taken}

pub places_from-push : (key start : ℕ) (xs : List ℕ) (x : ℕ)
    → places_from key start (xs ++ x ∷ []) ≡ places_from key start xs ++ cond (eqb x key) ((start + length xs) ∷ []) []
places_from-push key start [] x = ap (λ n. cond (eqb x key) (n ∷ []) []) (omega arith)
places_from-push key start (y ∷ ys) x =
    ap (λ (l : List ℕ). cond (eqb y key) (start ∷ l) l) (places_from-push key (start + 1) ys x)
    ∙ by_test (eqb y key) (places_from key (start + 1) ys)
    ∙ ap (λ n. cond (eqb y key) (start ∷ places_from key (start + 1) ys) (places_from key (start + 1) ys) ++ cond (eqb x key) (n ∷ []) []) (omega arith)
  where
    by_test : (b : Bool) (rest : List ℕ)
        → cond b (start ∷ (rest ++ cond (eqb x key) ((start + 1 + length ys) ∷ []) [])) (rest ++ cond (eqb x key) ((start + 1 + length ys) ∷ []) [])
        ≡ cond b (start ∷ rest) rest ++ cond (eqb x key) ((start + 1 + length ys) ∷ []) []
    by_test true rest = refl
    by_test false rest = refl

pub list_of-push : (key : ℕ) (xs : List ℕ) (x : ℕ) (b : Bool) → eqb x key ≡ b
    → list_of (xs ++ x ∷ []) key ≡ cond b (length xs ∷ list_of xs key) (list_of xs key)
list_of-push key xs x true is =
    ap reverse (places_from-push key 0 xs x ∙ ap (λ b. places_from key 0 xs ++ cond b ((0 + length xs) ∷ []) []) is)
    ∙ reverse-append (places_from key 0 xs) ((0 + length xs) ∷ [])
    ∙ ap (λ n. n ∷ list_of xs key) (omega arith)
list_of-push key xs x false is =
    ap reverse (places_from-push key 0 xs x ∙ ap (λ b. places_from key 0 xs ++ cond b ((0 + length xs) ∷ []) []) is
    ∙ append-nil (places_from key 0 xs))

module _ (keys : List ℕ) (key : ℕ) where
  follows_more : (n : ℕ) → n < length keys → Follows (link_of keys) (head_of (take n keys) key) (list_of (take n keys) key)
      → (b : Bool) → eqb (get_or keys n 0) key ≡ b
      → Follows (link_of keys) (head_of (take (n + 1) keys) key) (list_of (take (n + 1) keys) key)
  follows_more n within before true is =
      let more : take (n + 1) keys ≡ take n keys ++ get_or keys n 0 ∷ [] = take_more keys n 0 within in
      let count : length (take n keys) ≡ n = length-take-le n keys (omega arith) in
      let first : head_of (take (n + 1) keys) key ≡ Some n =
      ap (λ (l : List ℕ). head_of l key) more ∙ last_at-push_here (λ other. eqb other key) (take n keys) (get_or keys n 0) is ∙ ap Some count in
      let list : list_of (take (n + 1) keys) key ≡ n ∷ list_of (take n keys) key =
      ap (λ (l : List ℕ). list_of l key) more ∙ list_of-push key (take n keys) (get_or keys n 0) true is
      ∙ ap (λ m. m ∷ list_of (take n keys) key) count in
      let same : get_or keys n 0 ≡ key = eqb-true _ _ is in
      let next : head_of (take n keys) key ≡ link_of keys n = ap (head_of (take n keys)) (sym same) in
      subst (Follows (link_of keys) (head_of (take (n + 1) keys) key)) (sym list)
      (first, subst (λ (f : Option ℕ). Follows (link_of keys) f (list_of (take n keys) key)) next before)
  follows_more n within before false is =
      let more : take (n + 1) keys ≡ take n keys ++ get_or keys n 0 ∷ [] = take_more keys n 0 within in
      let first : head_of (take (n + 1) keys) key ≡ head_of (take n keys) key =
      ap (λ (l : List ℕ). head_of l key) more ∙ last_at-push_other (λ other. eqb other key) (take n keys) (get_or keys n 0) is in
      let list : list_of (take (n + 1) keys) key ≡ list_of (take n keys) key =
      ap (λ (l : List ℕ). list_of l key) more ∙ list_of-push key (take n keys) (get_or keys n 0) false is in
      subst (Follows (link_of keys) (head_of (take (n + 1) keys) key)) (sym list)
      (subst (λ (f : Option ℕ). Follows (link_of keys) f (list_of (take n keys) key)) (sym first) before)

  follows_taken : (n : ℕ) → n ≤ length keys → Follows (link_of keys) (head_of (take n keys) key) (list_of (take n keys) key)
  follows_taken zero within = refl
  follows_taken (suc n) within =
      let here = follows_more n (omega arith) (follows_taken n (omega arith)) (eqb (get_or keys n 0) key) refl in
      let next : n + 1 ≡ suc n = omega arith in
      subst (λ m. Follows (link_of keys) (head_of (take m keys) key) (list_of (take m keys) key)) next here

  -- following the links of a key ends, and gives its list
  pub follows : Follows (link_of keys) (head_of keys key) (list_of keys key)
  follows =
      let whole : take (length keys) keys ≡ keys = take_all (length keys) keys (omega arith) in
      subst (λ (l : List ℕ). Follows (link_of keys) (head_of l key) (list_of l key)) whole (follows_taken (length keys) (omega arith))

-- ---- a link is in use

pub head_within : (keys : List ℕ) (key at : ℕ) → head_of keys key ≡ Some at → at < length keys
head_within keys key at is =
    let whole : take (length keys) keys ≡ keys = take_all (length keys) keys (omega arith) in
    let most : reach (head_of keys key) ≤ length keys =
    subst (λ (l : List ℕ). reach (head_of l key) ≤ length keys) whole
    (reach-taken (λ other. eqb other key) keys 0 (length keys) (omega arith)) in
    subst (λ (r : Option ℕ). reach r ≤ length keys) is most

pub link_within : (keys : List ℕ) (from at : ℕ) → from < length keys → link_of keys from ≡ Some at → at < from
link_within keys from at within is =
    let most = reach-taken (λ other. eqb other (get_or keys from 0)) keys 0 from (omega arith) in
    subst (λ (r : Option ℕ). reach r ≤ from) is most
