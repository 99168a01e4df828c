-- What was last written to each word, one position further.
use Rattle.std.proofs.Common.{◌≡◌, ℕ, ◌+◌, List, inl, inr, sym, subst, ◌∙◌, ap, arith}
use Rattle.std.specs.Prelude.{Some, None, false}
use Rattle.std.specs.Option.{option_map_or}
use Rattle.std.specs.Ordering.{is_eq, nat_cmp}
use Rattle.std.specs.Cmp.{nat_cmp_is}
use Rattle.std.specs.BTreeMap.{BTreeMap, get, is_at, IsEmpty, Updates}
use Rattle.std.specs.Map.{lookup}
use Rattle.std.specs.declared.cmp.Ordering.TheVariants.{Less, Greater}
use Rattle.std.proofs.lemmas.Bool.{cases_eq, cases_lt}
use Rattle.lrc_trace.specs.declared.act.Act.{Act}
use Rattle.lrc_trace.specs.declared.act.Deed.TheVariants.{Write}
use Rattle.lrc_trace.specs.Run.{Does, IsDone}
use Rattle.lrc_trace.proofs.Positions.{Does-one_deed}
use Rattle.lrc_judge.specs.InOrder.{IsLastWritten}
use Rattle.lrc_judge_all.specs.Steps.{IsMemory}

-- another word is at another key
apart_at : (k q : ℕ) → (q ≡ k → ⊥) → is_at (nat_cmp k) q ≡ false
apart_at k q other =
    elim (cases_lt k q) [
      | inl less ↦ ap is_eq (sym (nat_cmp_is k q Less less))
      | inr not_less ↦
          elim (cases_lt q k) [
            | inl more ↦ ap is_eq (sym (nat_cmp_is k q Greater more))
            | inr not_more ↦ absurd (other (omega arith))
          ]
    ]

pub memory_none : (run : List Act) (memory : BTreeMap ℕ ℕ) → IsEmpty memory → IsMemory run 0 memory
memory_none run memory empty = λ word.
    let none : get nat_cmp memory word ≡ None = ap (λ es. lookup (is_at (nat_cmp word)) es) empty in
    record {
      none = λ _. ap (λ o. option_map_or (λ value. value) o 0) none;
      last = λ i v lt. absurd (omega arith);
    }

-- a position that does not write the word
last_same : (run : List Act) (n word value : ℕ) → ((v : ℕ) → IsDone run n (Write word v) → ⊥)
    → IsLastWritten run n word value → IsLastWritten run (n + 1) word value
last_same run n word value absent old = record {
  none = λ h. old.none (λ i v lt. h i v (omega arith));
  last = λ i v lt w last.
      elim (cases_eq i n) [
        | inl same ↦ absurd (absent v (subst (λ k. IsDone run k (Write word v)) same w))
        | inr other ↦ old.last i v (omega arith) w (λ k u above below. last k u above (omega arith))
      ];
}

pub memory_same : (run : List Act) (n : ℕ) (memory : BTreeMap ℕ ℕ) → ((word v : ℕ) → IsDone run n (Write word v) → ⊥)
    → IsMemory run n memory → IsMemory run (n + 1) memory
memory_same run n memory absent old = λ word. last_same run n word _ (absent word) (old word)

pub memory_next : (run : List Act) (n node word value : ℕ) (memory after : BTreeMap ℕ ℕ) → Does run n node (Write word value)
    → Updates nat_cmp memory after word (Some value) → IsMemory run n memory → IsMemory run (n + 1) after
memory_next run n node word value memory after here updates old = λ w.
    elim (cases_eq w word) [
      | inl same ↦
          let is : get nat_cmp after w ≡ Some value = ap (λ q. get nat_cmp after q) same ∙ updates.1 in
          let value_is : option_map_or (λ x. x) (get nat_cmp after w) 0 ≡ value = ap (λ o. option_map_or (λ x. x) o 0) is in
          record {
            none = λ h. absurd (h n value (omega arith) (node, subst (λ q. Does run n node (Write q value)) (sym same) here));
            last = λ i v lt done last.
                elim (cases_eq i n) [
                  | inl there ↦
                      let both : Write word value ≡ Write w v = Does-one_deed here (subst (λ k. IsDone run k (Write w v)) there done).1 in
                      let values : value ≡ v = cc in
                      value_is ∙ values
                  | inr other ↦ absurd (last n value (omega arith) (omega arith) (node, subst (λ q. Does run n node (Write q value)) (sym same) here))
                ];
          }
      | inr other ↦
          let is : get nat_cmp after w ≡ get nat_cmp memory w = updates.2 w (apart_at word w other) in
          let kept = last_same run n w _ (λ v (p, d). let both : Write word value ≡ Write w v = Does-one_deed here d in other (cc)) (old w) in
          subst (λ o. IsLastWritten run (n + 1) w (option_map_or (λ x. x) o 0)) (sym is) kept
    ]
