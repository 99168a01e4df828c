-- Lists that grow by what stands for one item more, and what is found in lists.
use Rattle.std.proofs.Common.{◌≡◌, ◌∙◌, ◌<◌, ◌≤◌, ◌+◌, ℕ, ap, sym, List, [], ◌∷◌, ◌++◌, length, map, take, drop, get_or, replicate, zero, suc, append_assoc, append-nil, Bool, ◌||◌, refl}
use Rattle.std.specs.Prelude.{find, cond, count_by, fold, ◌&&◌, true, false, Some, None}
use Rattle.std.specs.List.{flat_map, list_all, list_any, range_with_len}
use Rattle.std.proofs.lemmas.List.{map_more, drop_more, drop_all, take_all, flat_map_more}
use Rattle.std.proofs.lemmas.List.Folds.{list_any-append}
use Rattle.lrc_text.proofs.Each.{range_more}

pub any_seen : {A B : Type 0} (seen : A → B) (test : B → Bool) (items : List A) → list_any (λ item. test (seen item)) items ≡ list_any test (map seen items)
any_seen seen test [] = refl
any_seen seen test (item ∷ others) = ap (λ (b : Bool). test (seen item) || b) (any_seen seen test others)

-- a list that grows by what stands for each item
module _ {A S Y : Type 0} (of : S → List Y) (seen : A → S) (items : List A) where
  pub flat_none : (old : List Y) → old ≡ old ++ flat_map of (map seen (take 0 items))
  flat_none old = sym (append-nil old)

  pub flat_more : (i : ℕ) (x : A) (old now next : List Y) → i < length items → x ≡ get_or items i x
      → now ≡ old ++ flat_map of (map seen (take i items)) → next ≡ now ++ of (seen x)
      → next ≡ old ++ flat_map of (map seen (take (i + 1) items))
  flat_more i x old now next lt here is more =
      more ∙ ap (λ l. l ++ of (seen x)) is
      ∙ flat_map_more of old (map seen (take i items)) (seen x)
      ∙ ap (λ (y : A). old ++ flat_map of (map seen (take i items) ++ seen y ∷ [])) here
      ∙ ap (λ (l : List S). old ++ flat_map of l) (sym (map_more seen items i x lt))

  pub flat_all : (i : ℕ) (old now : List Y) → length items ≤ i → now ≡ old ++ flat_map of (map seen (take i items)) → now ≡ old ++ flat_map of (map seen items)
  flat_all i old now past is = is ∙ ap (λ (l : List A). old ++ flat_map of (map seen l)) (take_all i items past)

-- the same of the first numbers
pub count_more : {Y : Type 0} (of : ℕ → List Y) (n : ℕ) (old now next : List Y) → now ≡ old ++ flat_map of (range_with_len 0 n) → next ≡ now ++ of n
    → next ≡ old ++ flat_map of (range_with_len 0 (n + 1))
count_more of n old now next is more =
    more ∙ ap (λ l. l ++ of n) is ∙ append_assoc old (flat_map of (range_with_len 0 n)) (of n) ∙ ap (λ l. old ++ l) (sym (range_more of n))

-- what a search finds from one item on
module _ {A S : Type 0} (seen : A → S) (test : S → Bool) (items : List A) where
  from_here : (i : ℕ) (x : A) → i < length items → x ≡ get_or items i x
      → find test (map seen (drop i items)) ≡ cond (test (seen x)) (Some (seen x)) (find test (map seen (drop (i + 1) items)))
  from_here i x lt here =
      ap (λ (l : List A). find test (map seen l)) (drop_more items i x lt)
      ∙ ap (λ (y : A). cond (test (seen y)) (Some (seen y)) (find test (map seen (drop (i + 1) items)))) (sym here)

  pub find_here : (i : ℕ) (x : A) → i < length items → x ≡ get_or items i x → test (seen x) ≡ true
      → find test (map seen (drop i items)) ≡ Some (seen x)
  find_here i x lt here holds =
      from_here i x lt here ∙ ap (λ (b : Bool). cond b (Some (seen x)) (find test (map seen (drop (i + 1) items)))) holds

  pub find_later : (i : ℕ) (x : A) → i < length items → x ≡ get_or items i x → test (seen x) ≡ false
      → find test (map seen (drop i items)) ≡ find test (map seen (drop (i + 1) items))
  find_later i x lt here fails =
      from_here i x lt here ∙ ap (λ (b : Bool). cond b (Some (seen x)) (find test (map seen (drop (i + 1) items)))) fails

  pub find_nowhere : (i : ℕ) → length items ≤ i → find test (map seen (drop i items)) ≡ None
  find_nowhere i past = ap (λ (l : List A). find test (map seen l)) (drop_all i items past)

or_false : (b : Bool) → (b || false) ≡ b
or_false true = refl
or_false false = refl

-- some and all of a list, with one item more
pub any_more : {A S : Type 0} (seen : A → S) (test : S → Bool) (items : List A) (i : ℕ) (x : A) → i < length items → x ≡ get_or items i x
    → list_any test (map seen (take (i + 1) items)) ≡ (list_any test (map seen (take i items)) || test (seen x))
any_more seen test items i x lt here =
    ap (list_any test) (map_more seen items i x lt)
    ∙ list_any-append test (map seen (take i items)) (seen (get_or items i x) ∷ [])
    ∙ ap (λ (b : Bool). list_any test (map seen (take i items)) || b) (or_false (test (seen (get_or items i x))) ∙ ap (λ (y : _). test (seen y)) (sym here))

pub any_same : {A : Type 0} (p q : A → Bool) → ((x : A) → p x ≡ q x) → (items : List A) → list_any p items ≡ list_any q items
any_same p q same [] = refl
any_same p q same (x ∷ others) = ap (λ (b : Bool). b || list_any p others) (same x) ∙ ap (λ (b : Bool). q x || b) (any_same p q same others)

pub all_same : {A : Type 0} (p q : A → Bool) → ((x : A) → p x ≡ q x) → (items : List A) → list_all p items ≡ list_all q items
all_same p q same [] = refl
all_same p q same (x ∷ others) = ap (λ (b : Bool). b && list_all p others) (same x) ∙ ap (λ (b : Bool). q x && b) (all_same p q same others)

count_from : {A S : Type 0} (seen : A → S) (test : S → Bool) (n : ℕ) (items : List A)
    → fold (λ m x. m + cond (test (seen x)) 1 0) n items ≡ fold (λ m x. m + cond (test x) 1 0) n (map seen items)
count_from seen test n [] = refl
count_from seen test n (x ∷ others) = count_from seen test (n + cond (test (seen x)) 1 0) others

pub count_seen : {A S : Type 0} (seen : A → S) (test : S → Bool) (items : List A) → count_by (λ x. test (seen x)) items ≡ count_by test (map seen items)
count_seen seen test items = count_from seen test 0 items

pub unmarked : (n k : ℕ) → get_or (replicate n false) k false ≡ false
unmarked zero k = refl
unmarked (suc n) zero = refl
unmarked (suc n) (suc k) = unmarked n k
