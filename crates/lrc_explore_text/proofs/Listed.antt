-- The lines of outcomes in order.
use Rattle.std.proofs.Common.{◌≡◌, ℕ, ◌+◌, List, [], ◌∷◌, ◌++◌, length, get_or, map, refl, subst, ◌∙◌, ap, arith}
use Rattle.std.specs.Prelude.{Vec, codes, decimal}
use Rattle.std.specs.declared.alloc.Global.{Global}
use Rattle.std.specs.Cmp.Lexicographic.{slice_cmp}
use Rattle.std.specs.List.{concat}
use Rattle.std.specs.List.Sorted.{IsPermutation, IsSorted}
use Rattle.std.specs.Ordering.{nat_cmp}
use Rattle.std.proofs.lemmas.List.{get_or-map, length-map}
use Rattle.std.proofs.lemmas.List.Sorted.{IsPermutation-map}
use Rattle.lrc_text.specs.Parts.{texts_of, whole_text}
use Rattle.lrc_orders.specs.declared.outcomes.Outcome.{Outcome}
use Rattle.lrc_explore_text.specs.Outcomes.{AreLinesOf, ListsOutcomes, none_ends, outcome_line}

abbrev pub Part : Type 0
Part = Vec ℕ Global

abbrev part_text : Part → List ℕ
part_text part = part.items

joined : (parts : List Part) → whole_text parts ≡ concat (texts_of parts)
joined [] = refl
joined (part ∷ parts) = ap (λ l. part.items ++ l) (joined parts)

ascending_texts : (any : Part) (parts : List Part) → IsSorted (λ (x y : Part). slice_cmp nat_cmp x.items y.items) parts
    → IsSorted (slice_cmp nat_cmp) (texts_of parts)
ascending_texts any parts sorted k d low lt =
    let long = length-map parts part_text in
    let later : get_or (texts_of parts) (k + 1) d ≡ part_text (get_or parts (k + 1) any) = get_or-map part_text parts (k + 1) any d (omega (arith, lt, long)) in
    let sooner : get_or (texts_of parts) k d ≡ part_text (get_or parts k any) = get_or-map part_text parts k any d (omega (arith, lt, long)) in
    rw (later, sooner) (sorted k any low (omega (arith, lt, long)))

all_ascending : (parts : List Part) → IsSorted (λ (x y : Part). slice_cmp nat_cmp x.items y.items) parts → IsSorted (slice_cmp nat_cmp) (texts_of parts)
all_ascending [] sorted = λ k d low lt. absurd (omega (arith, lt))
all_ascending (part ∷ parts) sorted = ascending_texts part (part ∷ parts) sorted

-- the lines of outcomes, sorted
pub sorted_lines : (nodes : ℕ) (outcomes : List Outcome) (found sorted : List Part)
    → texts_of found ≡ map (λ outcome. outcome_line nodes outcome.notes.items) outcomes → IsPermutation found sorted
    → IsSorted (λ (x y : Part). slice_cmp nat_cmp x.items y.items) sorted → AreLinesOf nodes outcomes (texts_of sorted)
sorted_lines nodes outcomes found sorted are permutation in_order = record {
  same = subst (λ l. IsPermutation l (texts_of sorted)) are (IsPermutation-map part_text found sorted permutation);
  ascending = all_ascending sorted in_order;
}

pub listed : (nodes : ℕ) (outcomes : List Outcome) (head : Part) (sorted : List Part) (out : List ℕ)
    → head.items ≡ codes "outcomes " ++ decimal (length outcomes) ++ codes " in every order\n" ++ none_ends (length outcomes)
    → AreLinesOf nodes outcomes (texts_of sorted) → out ≡ head.items ++ whole_text sorted → ListsOutcomes nodes outcomes out
listed nodes outcomes head sorted out is_head are whole = record {
  lines = texts_of sorted;
  are = are;
  whole =
      whole ∙ ap (λ l. l ++ whole_text sorted) is_head
      ∙ ap (λ l. codes "outcomes " ++ decimal (length outcomes) ++ codes " in every order\n" ++ none_ends (length outcomes) ++ l) (joined sorted);
}
