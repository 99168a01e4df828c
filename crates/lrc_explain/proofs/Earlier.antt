-- What stands before the acts of a run, one act further.
use Rattle.std.proofs.Common.{◌≡◌, ◌∙◌, ℕ, ◌+◌, ◌<◌, ◌++◌, inl, inr, cond, All, List, [], ◌∷◌, Some, length, take, get_or, refl, sym, ap, arith}
use Rattle.std.specs.Prelude.{if◌then◌else◌, unwrap_or}
use Rattle.std.specs.BTreeMap.{BTreeMap, get, Updates}
use Rattle.std.specs.Ordering.{nat_cmp}
use Rattle.std.proofs.lemmas.Bool.{cases_eq, eq-eqb, ne_eqb}
use Rattle.std.proofs.lemmas.List.{length_push}
use Rattle.std.proofs.lemmas.List.Elements.{Contains-get_or}
use Rattle.std.proofs.lemmas.List.Sums.{fold_more}
use Rattle.std.proofs.lemmas.Option.{slice_get-get_or, get_or_from_slice_get}
use Rattle.lrc_trace.specs.declared.act.Act.{Act}
use Rattle.lrc_trace.specs.declared.act.Deed.{Deed}
use Rattle.lrc_trace.specs.declared.act.Deed.TheVariants.{Quiet, Write}
use Rattle.lrc_trace.specs.Conflict.{Races}
use Rattle.lrc_trace.proofs.Positions.{slice_get-front, slice_get-seam}
use Rattle.lrc_judge.specs.declared.lanes.Pair.{Pair}
use Rattle.lrc_judge.specs.FirstPairs.{AreFirstPairs}
use Rattle.lrc_judge.specs.Races.{word_of}
use Rattle.lrc_judge.proofs.Ascending.{is_eq-nat}
use Rattle.lrc_judge.proofs.Naming.{accesses_within}
use Rattle.lrc_acts_text.specs.Acts.{act_at}
use Rattle.lrc_explain.specs.Access.{left_in, stored}
use Rattle.lrc_explain.specs.Before.{AreLefts}
use Rattle.lrc_explain.specs.Groups.{IsWithin}

-- what a list has in front of an element that is added, and that element
front : (xs : List ℕ) (x k : ℕ) → k < length xs → get_or (xs ++ x ∷ []) k 0 ≡ get_or xs k 0
front xs x k within = get_or_from_slice_get _ k (get_or xs k 0) 0 (slice_get-front xs (x ∷ []) k within ∙ slice_get-get_or xs k 0 within)

seam : (xs : List ℕ) (x : ℕ) → get_or (xs ++ x ∷ []) (length xs) 0 ≡ x
seam xs x = get_or_from_slice_get _ (length xs) x 0 (slice_get-seam xs x [])

-- ---- what acts leave in words

abbrev quiet : Act
quiet = record { node = 0; deed = Quiet }

-- the map has of each word what the first acts leave in it
abbrev pub Remembers : List Act → ℕ → BTreeMap ℕ ℕ → Type 0
Remembers acts n memory = (word : ℕ) → unwrap_or (get nat_cmp memory word) 0 ≡ left_in word (take n acts)

stored-same : (word value : ℕ) (deed : Deed) → ((w v : ℕ) → deed ≡ Write w v → ⊥) → stored word value deed ≡ value
stored-same word value (Write w v) none = absurd (none w v refl)
stored-same word value _ none = refl

module _ (acts : List Act) (n : ℕ) (within : n < length acts) where
  left_more : (word : ℕ) → left_in word (take (n + 1) acts) ≡ stored word (left_in word (take n acts)) (get_or acts n quiet).deed
  left_more word = fold_more (λ (x : ℕ) (a : Act). stored word x a.deed) 0 acts n quiet within

  pub remembers-same : (memory : BTreeMap ℕ ℕ) → ((w v : ℕ) → (get_or acts n quiet).deed ≡ Write w v → ⊥) → Remembers acts n memory
      → Remembers acts (n + 1) memory
  remembers-same memory none old = λ word.
      old word ∙ sym (left_more word ∙ stored-same word (left_in word (take n acts)) (get_or acts n quiet).deed none)

  pub remembers-next : (memory after : BTreeMap ℕ ℕ) (written value : ℕ) → (get_or acts n quiet).deed ≡ Write written value
      → Updates nat_cmp memory after written (Some value) → Remembers acts n memory → Remembers acts (n + 1) after
  remembers-next memory after written value is updates old = λ word.
      let left = left_in word (take n acts) in
      let step = left_more word ∙ ap (stored word left) is in
      elim (cases_eq written word) [
        | inl same ↦
            let yes = eq-eqb written word same in
            ap (λ o. unwrap_or o 0) (updates.0 word ∙ ap (λ b. cond b (Some value) (get nat_cmp memory word)) (is_eq-nat written word ∙ yes))
            ∙ sym (step ∙ ap (λ b. if b then value else left) yes)
        | inr other ↦
            let no = ne_eqb written word other in
            ap (λ o. unwrap_or o 0) (updates.0 word ∙ ap (λ b. cond b (Some value) (get nat_cmp memory word)) (is_eq-nat written word ∙ no))
            ∙ old word ∙ sym (step ∙ ap (λ b. if b then value else left) no)
      ]

pub lefts-more : (acts : List Act) (n : ℕ) (xs zs : List ℕ) (left : ℕ) → left ≡ left_in (word_of (act_at acts n).deed) (take n acts)
    → zs ≡ xs ++ left ∷ [] → AreLefts acts n xs → AreLefts acts (n + 1) zs
lefts-more acts n xs zs left is pushed old = record {
  long = ap length pushed ∙ length_push xs left ∙ ap (λ m. m + 1) old.long;
  each = λ k lt.
      let long = old.long in
      elim (cases_eq k n) [
        | inl same ↦
            let at : k ≡ length xs = same ∙ sym long in
            rw (pushed, at) (seam xs left ∙ is ∙ ap (λ m. left_in (word_of (act_at acts m).deed) (take m acts)) (sym same ∙ at))
        | inr other ↦ rw pushed (front xs left k (omega arith) ∙ old.each k (omega arith))
      ];
}

-- ---- pairs that race

race_within : (run : List Act) (pair : Pair) → Races run pair.earlier pair.later → IsWithin run pair
race_within run pair races =
    let (p, q, word, conflict) = races.conflict in
    record { earlier = accesses_within conflict.first; later = accesses_within conflict.second }

pub pairs_within : (run : List Act) (pairs : List Pair) → AreFirstPairs run pairs → All (IsWithin run) pairs
pairs_within run pairs are = λ k d inside.
    let pair = get_or pairs k d in
    let (race, first) = (are.exact pair).0 (Contains-get_or pairs k d inside) in
    race_within run pair first.of.races
