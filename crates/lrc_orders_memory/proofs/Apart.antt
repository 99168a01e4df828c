-- A number stands for one thing, a thing has one number, and both last.
use Rattle.std.proofs.Common.{◌≡◌, ℕ, zero, suc, ◌/◌, List, [], ◌∷◌, ◌++◌, true, length, take, drop, refl, sym, subst, ◌∙◌, ap, arith}
use Rattle.std.specs.Prelude.{Option, Some, None, nat_eq}
use Rattle.std.specs.Option.{option_eq}
use Rattle.std.proofs.lemmas.Bool.{and_parts, eqb-true}
use Rattle.std.proofs.lemmas.List.{drop_at, length-append, take_at}
use Rattle.std.proofs.lemmas.Option.{same_Some}
use lib.Pointwise.{pointwise}
use Rattle.lrc_orders.proofs.KeptAlike.{both_true, equal_items, nat_itself, one_place}
use Rattle.lrc_orders.proofs.Same.{option_same, pointwise_same}
use Rattle.lrc_orders_memory.specs.declared.parts.Halves.{Halves}
use Rattle.lrc_orders_memory.specs.declared.parts.Memory.{Memory}
use Rattle.lrc_orders_memory.specs.declared.parts.Parts.{Parts}
use Rattle.lrc_orders_memory.specs.declared.sharing.AllShared.{AllShared}
use Rattle.lrc_orders_memory.specs.declared.sharing.Shared.{Shared}
use Rattle.lrc_orders_memory.specs.contracts.parts.HalvesPartialEq.TheImpl.{eq-value as halves_eq}
use Rattle.lrc_orders_memory.specs.contracts.parts.MemoryPartialEq.TheImpl.{eq-value as memory_eq}
use Rattle.lrc_orders_memory.specs.contracts.sharing.SharedPartialEq.TheImpl.{eq-value as shared_eq}
use Rattle.lrc_orders_memory.specs.Parts.{ArePartsDistinct, AreWordsAt, IsMemory, KeepsParts}
use Rattle.lrc_orders_memory.specs.Sharing.{AreSharedDistinct, IsSharedAt, KeepsShared}
use Rattle.lrc_orders_memory.proofs.Halving.{keeps_again, keeps_not, stays_again, stays_not, two_halves, words_kept}

-- ---- words

words_one : (parts : Parts) (levels others number : ℕ) (xs ys : List ℕ) → length xs ≡ length ys → AreWordsAt parts levels number xs
    → AreWordsAt parts others number ys → xs ≡ ys
words_one parts levels others number [] [] long a b = refl
words_one parts levels others number [] (y ∷ ys) long a b = absurd (omega (arith, long))
words_one parts levels others number (x ∷ []) [] long a b = absurd (omega (arith, long))
words_one parts levels others number (x ∷ []) (y ∷ []) long a b = ap (λ w. w ∷ []) (same_Some x y (sym a ∙ b))
words_one parts levels others number (x ∷ []) (y ∷ w ∷ ys) long a b = absurd (omega (arith, long))
words_one parts zero others number (x ∷ v ∷ xs) ys long a b = absurd a
words_one parts (suc levels) others number (x ∷ v ∷ xs) ys long a b =
    let (under, level, h) = two_halves parts others number ys (omega (arith, long)) b in
    let same : h.halves ≡ a.halves = same_Some h.halves a.halves (sym h.there ∙ a.there) in
    let half : length a.first ≡ length h.first = a.half ∙ ap (λ n. n / 2) long ∙ sym h.half in
    let one = ap length a.whole ∙ length-append a.first a.second in
    let two = ap length h.whole ∙ length-append h.first h.second in
    let first : a.first ≡ h.first =
    words_one parts levels under a.halves.first a.first h.first half a.first_at
    (subst (λ (k : Halves). AreWordsAt parts under k.first h.first) same h.first_at) in
    let second : a.second ≡ h.second =
    words_one parts levels under a.halves.second a.second h.second (omega (arith, one, two, half, long)) a.second_at
    (subst (λ (k : Halves). AreWordsAt parts under k.second h.second) same h.second_at) in
    a.whole ∙ ap (λ l. l ++ a.second) first ∙ ap (λ l. h.first ++ l) second ∙ sym h.whole

words_place : (parts : Parts) → ArePartsDistinct parts → (levels others m n : ℕ) (words : List ℕ) → AreWordsAt parts levels m words
    → AreWordsAt parts others n words → m ≡ n
words_place parts distinct levels others m n [] a b = a ∙ sym b
words_place parts distinct levels others m n (x ∷ []) a b =
    one_place nat_eq parts.words.keys distinct.words m n x x a b (nat_itself x) (nat_itself x)
words_place parts distinct zero others m n (x ∷ v ∷ xs) a b = absurd a
words_place parts distinct (suc levels) others m n (x ∷ v ∷ xs) a b =
    let words = x ∷ v ∷ xs in
    let (under, level, h) = two_halves parts others n words (omega arith) b in
    let half = length words / 2 in
    let whole = sym a.whole ∙ h.whole in
    let first : a.first ≡ h.first = sym (take_at a.first a.second half a.half) ∙ ap (take half) whole ∙ take_at h.first h.second half h.half in
    let second : a.second ≡ h.second = sym (drop_at a.first a.second half a.half) ∙ ap (drop half) whole ∙ drop_at h.first h.second half h.half in
    let one : a.halves.first ≡ h.halves.first =
    words_place parts distinct levels under a.halves.first h.halves.first a.first a.first_at
    (subst (λ l. AreWordsAt parts under h.halves.first l) (sym first) h.first_at) in
    let two : a.halves.second ≡ h.halves.second =
    words_place parts distinct levels under a.halves.second h.halves.second a.second a.second_at
    (subst (λ l. AreWordsAt parts under h.halves.second l) (sym second) h.second_at) in
    one_place halves_eq.it parts.halves.keys distinct.halves m n a.halves h.halves a.there h.there
    (halves_alike a.halves h.halves one two) (halves_alike h.halves a.halves (sym one) (sym two))
  where
    halves_alike : (a b : Halves) → a.first ≡ b.first → a.second ≡ b.second → halves_eq.it a b ≡ true
    halves_alike a b f s =
        both_true _ _ (subst (λ k. nat_eq a.first k ≡ true) f (nat_itself a.first)) (subst (λ k. nat_eq a.second k ≡ true) s (nat_itself a.second))

-- ---- memories

pub memory_one : (parts : Parts) (memory : Memory) (xs ys : List ℕ) → IsMemory parts memory xs → IsMemory parts memory ys → xs ≡ ys
memory_one parts memory xs ys a b = words_one parts memory.count memory.count memory.number xs ys (sym a.long ∙ b.long) a.at b.at

memory_place : (parts : Parts) → ArePartsDistinct parts → (a b : Memory) (words : List ℕ) → IsMemory parts a words → IsMemory parts b words → a ≡ b
memory_place parts distinct a b words m n =
    ap (λ k. record { count = k; number = a.number }) (m.long ∙ sym n.long)
    ∙ ap (λ k. record { count = b.count; number = k }) (words_place parts distinct a.count b.count a.number b.number words m.at n.at)

pub memory_kept : (old new : Parts) (memory : Memory) (words : List ℕ) → KeepsParts old new → IsMemory old memory words → IsMemory new memory words
memory_kept old new memory words keeps m = record { long = m.long; at = words_kept old new keeps memory.count memory.number words m.at }

-- ---- what nodes share

pub shared_same : (a b : Shared) → shared_eq.it a b ≡ true → (a.memory ≡ b.memory) × (a.holders.items ≡ b.holders.items)
shared_same a b e =
    let p = and_parts (memory_eq.it a.memory b.memory) (pointwise (option_eq nat_eq) a.holders.items b.holders.items) e in
    let q = and_parts (nat_eq a.memory.count b.memory.count) (nat_eq a.memory.number b.memory.number) p.0 in (
      ap (λ k. record { count = k; number = a.memory.number }) (eqb-true a.memory.count b.memory.count q.0)
          ∙ ap (λ k. record { count = b.memory.count; number = k }) (eqb-true a.memory.number b.memory.number q.1),
      pointwise_same (option_eq nat_eq) option_same a.holders.items b.holders.items p.1,
    )

option_itself : (x : Option ℕ) → option_eq nat_eq x x ≡ true
option_itself None = refl
option_itself (Some n) = nat_itself n

memory_itself : (m : Memory) → memory_eq.it m m ≡ true
memory_itself m = both_true _ _ (nat_itself m.count) (nat_itself m.number)

shared_alike : (a b : Shared) → a.memory ≡ b.memory → a.holders.items ≡ b.holders.items → shared_eq.it a b ≡ true
shared_alike a b m h =
    both_true _ _ (subst (λ k. memory_eq.it a.memory k ≡ true) m (memory_itself a.memory))
    (equal_items (option_eq nat_eq) option_itself a.holders.items b.holders.items h)

pub shared_one : (all : AllShared) (number : ℕ) (xs ys : List ℕ) (gs hs : List (Option ℕ)) → IsSharedAt all number xs gs → IsSharedAt all number ys hs
    → (xs ≡ ys) × (gs ≡ hs)
shared_one all number xs ys gs hs a b =
    let same : b.shared ≡ a.shared = same_Some b.shared a.shared (sym b.there ∙ a.there) in (
      memory_one all.parts a.shared.memory xs ys a.memory (subst (λ (s : Shared). IsMemory all.parts s.memory ys) same b.memory),
      sym a.holders_are ∙ ap (λ (s : Shared). s.holders.items) (sym same) ∙ b.holders_are,
    )

pub shared_place : (all : AllShared) → AreSharedDistinct all → (m n : ℕ) (words : List ℕ) (holders : List (Option ℕ)) → IsSharedAt all m words holders
    → IsSharedAt all n words holders → m ≡ n
shared_place all distinct m n words holders a b =
    let memory = memory_place all.parts distinct.parts a.shared.memory b.shared.memory words a.memory b.memory in
    let held = a.holders_are ∙ sym b.holders_are in
    one_place shared_eq.it all.kept.keys distinct.kept m n a.shared b.shared a.there b.there
    (shared_alike a.shared b.shared memory held) (shared_alike b.shared a.shared (sym memory) (sym held))

pub shared_kept : (old new : AllShared) (number : ℕ) (words : List ℕ) (holders : List (Option ℕ)) → KeepsShared old new
    → IsSharedAt old number words holders → IsSharedAt new number words holders
shared_kept old new number words holders keeps a = record {
  shared = a.shared;
  there = keeps.kept.each number a.shared a.there;
  memory = memory_kept old.parts new.parts a.shared.memory words keeps.parts a.memory;
  holders_are = a.holders_are;
}

pub shared_not : (all : AllShared) → KeepsShared all all
shared_not all = record { parts = keeps_not all.parts; kept = stays_not all.kept.keys all.kept.keys refl }

pub shared_again : (a b c : AllShared) → KeepsShared a b → KeepsShared b c → KeepsShared a c
shared_again a b c g h = record {
  parts = keeps_again a.parts b.parts c.parts g.parts h.parts;
  kept = stays_again a.kept.keys b.kept.keys c.kept.keys g.kept h.kept;
}

pub shared_stays : (old new : AllShared) → new ≡ old → KeepsShared old new
shared_stays old new e = subst (KeepsShared old) (sym e) (shared_not old)
