-- Lines with seeds, sorted, and as a text.
use Rattle.std.proofs.Common.{◌≡◌, ℕ, ◌+◌, List, [], ◌∷◌, ◌++◌, length, false, get_or, map, take, refl, sym, ◌∙◌, ap, ap₂, arith, add-one}
use Rattle.std.specs.Prelude.{Option, Some, Vec, slice_get}
use Rattle.std.specs.declared.alloc.Global.{Global}
use Rattle.std.specs.declared.cmp.Ordering.{Ordering}
use Rattle.std.specs.declared.cmp.Ordering.TheVariants.{Less, Equal, Greater}
use Rattle.std.specs.Cmp.Lexicographic.{slice_cmp}
use Rattle.std.specs.List.{flat_map}
use Rattle.std.specs.List.Sorted.{IsPermutation, IsSorted}
use Rattle.std.specs.Ordering.{is_lt, nat_cmp, ordering_then}
use Rattle.std.proofs.Math.Seq.{take-suc}
use Rattle.std.proofs.lemmas.List.{append-nil, append_assoc, get_or-map, length-map, length-take-le, map-append}
use Rattle.std.proofs.lemmas.List.Sorted.{IsPermutation-map}
use Rattle.std.proofs.lemmas.Option.{get_or_from_slice_get, slice_get_within}
use Rattle.lrc_text.specs.Parts.{whole_text}
use Rattle.lrc_orders.specs.declared.outcomes.Outcome.{Outcome}
use Rattle.lrc_explore_text.specs.Outcomes.{outcome_line}
use Rattle.lrc_lazy_text.specs.declared.listed.ToldOutcome.{ToldOutcome}
use Rattle.lrc_lazy_text.specs.Listed.{AreAscending, AreToldOf, ListsLazyOutcomes, lazy_head, lines_with, marked_line, marked_lines, told_pair}

-- ---- what is sorted by lines and then by seeds ascends by lines

first_lt : (x y : Ordering) → is_lt (ordering_then x y) ≡ false → is_lt x ≡ false
first_lt Less y e = e
first_lt Equal y e = refl
first_lt Greater y e = refl

abbrev line_of : ToldOutcome → List ℕ
line_of told = told.line.items

lines_twice : (told : List ToldOutcome) → map (λ (line : List ℕ × Option ℕ). line.0) (map told_pair told) ≡ map line_of told
lines_twice [] = refl
lines_twice (one ∷ told) = ap (λ l. line_of one ∷ l) (lines_twice told)

ascending_lines : (second : ToldOutcome → ToldOutcome → Ordering) (any : ToldOutcome) (told : List ToldOutcome)
    → IsSorted (λ (x y : ToldOutcome). ordering_then (slice_cmp nat_cmp x.line.items y.line.items) (second x y)) told
    → IsSorted (slice_cmp nat_cmp) (map line_of told)
ascending_lines second any told sorted k d low lt =
    let long = length-map told line_of in
    let later : get_or (map line_of told) (k + 1) d ≡ line_of (get_or told (k + 1) any) = get_or-map line_of told (k + 1) any d (omega (arith, lt, long)) in
    let sooner : get_or (map line_of told) k d ≡ line_of (get_or told k any) = get_or-map line_of told k any d (omega (arith, lt, long)) in
    rw (later, sooner) (first_lt _ _ (sorted k any low (omega (arith, lt, long))))

all_ascending : (second : ToldOutcome → ToldOutcome → Ordering) (told : List ToldOutcome)
    → IsSorted (λ (x y : ToldOutcome). ordering_then (slice_cmp nat_cmp x.line.items y.line.items) (second x y)) told
    → IsSorted (slice_cmp nat_cmp) (map line_of told)
all_ascending second [] sorted = λ k d low lt. absurd (omega (arith, lt))
all_ascending second (one ∷ told) sorted = ascending_lines second one (one ∷ told) sorted

pub sorted_told : (second : ToldOutcome → ToldOutcome → Ordering) (nodes : ℕ) (outcomes : List Outcome) (seeds : List (Option ℕ)) (found sorted : List ToldOutcome)
    → map told_pair found ≡ lines_with nodes outcomes seeds → IsPermutation found sorted
    → IsSorted (λ (x y : ToldOutcome). ordering_then (slice_cmp nat_cmp x.line.items y.line.items) (second x y)) sorted
    → AreAscending nodes outcomes seeds (map told_pair sorted)
sorted_told second nodes outcomes seeds found sorted are permutation in_order = record {
  same = rw (← are) (IsPermutation-map told_pair found sorted permutation);
  ascending = rw (lines_twice sorted) (all_ascending second sorted in_order);
}

-- ---- lines that are made one by one

next_front : {A : Type 0} (xs : List A) (k : ℕ) (x : A) → slice_get xs k ≡ Some x → take (k + 1) xs ≡ take k xs ++ x ∷ []
next_front xs k x at =
    rw add-one (take-suc xs k x (slice_get_within xs k x at) ∙ ap (λ y. take k xs ++ y ∷ []) (get_or_from_slice_get xs k x x at))

lines_append : (nodes : ℕ) (outcomes : List Outcome) (seeds : List (Option ℕ)) (outcome : Outcome) (seed : Option ℕ) → length seeds ≡ length outcomes
    → lines_with nodes (outcomes ++ outcome ∷ []) (seeds ++ seed ∷ [])
    ≡ lines_with nodes outcomes seeds ++ (outcome_line nodes outcome.notes.items, seed) ∷ []
lines_append nodes [] [] outcome seed long = refl
lines_append nodes [] (s ∷ seeds) outcome seed long = absurd (omega (arith, long))
lines_append nodes (o ∷ outcomes) [] outcome seed long = absurd (omega (arith, long))
lines_append nodes (o ∷ outcomes) (s ∷ seeds) outcome seed long =
    ap (λ l. (outcome_line nodes o.notes.items, s) ∷ l) (lines_append nodes outcomes seeds outcome seed (omega (arith, long)))

pub one_more : (nodes : ℕ) (outcomes : List Outcome) (seeds : List (Option ℕ)) (told : List ToldOutcome) (k : ℕ) (outcome : Outcome) (seed : Option ℕ)
    (one : ToldOutcome) → slice_get outcomes k ≡ Some outcome → slice_get seeds k ≡ Some seed → one.line.items ≡ outcome_line nodes outcome.notes.items
    → one.seed ≡ seed → map told_pair told ≡ lines_with nodes (take k outcomes) (take k seeds)
    → map told_pair (told ++ one ∷ []) ≡ lines_with nodes (take (k + 1) outcomes) (take (k + 1) seeds)
one_more nodes outcomes seeds told k outcome seed one at marked line is so_far =
    let within = slice_get_within outcomes k outcome at in
    let fits = slice_get_within seeds k seed marked in
    let long : length (take k seeds) ≡ length (take k outcomes) =
    length-take-le k seeds (omega (arith, fits)) ∙ sym (length-take-le k outcomes (omega (arith, within))) in
    map-append told_pair told (one ∷ []) ∙ ap (λ l. l ++ told_pair one ∷ []) so_far
    ∙ ap₂ (λ (l : List ℕ) (s : Option ℕ). lines_with nodes (take k outcomes) (take k seeds) ++ (l, s) ∷ []) line is
    ∙ sym (lines_append nodes (take k outcomes) (take k seeds) outcome seed long)
    ∙ ap₂ (λ (o : List Outcome) (s : List (Option ℕ)). lines_with nodes o s) (sym (next_front outcomes k outcome at)) (sym (next_front seeds k seed marked))

-- ---- the text

pub marked_text : (told : List ToldOutcome) → marked_lines told ≡ flat_map marked_line (map told_pair told)
marked_text [] = refl
marked_text (one ∷ told) = ap (λ l. marked_line (told_pair one) ++ l) (marked_text told)

abbrev pub Part : Type 0
Part = Vec ℕ Global

whole_push : (parts : List Part) (part : Part) → whole_text (parts ++ part ∷ []) ≡ whole_text parts ++ part.items
whole_push [] part = append-nil part.items
whole_push (first ∷ parts) part =
    ap (λ l. first.items ++ l) (whole_push parts part) ∙ sym (append_assoc first.items (whole_text parts) part.items)

marked_push : (told : List ToldOutcome) (one : ToldOutcome) → marked_lines (told ++ one ∷ []) ≡ marked_lines told ++ marked_line (told_pair one)
marked_push [] one = append-nil (marked_line (told_pair one))
marked_push (first ∷ told) one =
    ap (λ l. marked_line (told_pair first) ++ l) (marked_push told one)
    ∙ sym (append_assoc (marked_line (told_pair first)) (marked_lines told) (marked_line (told_pair one)))

-- the text with the line of the next outcome
pub text_more : (parts : List Part) (head : List ℕ) (told : List ToldOutcome) (k : ℕ) (one : ToldOutcome) (part : Part) → slice_get told k ≡ Some one
    → part.items ≡ marked_line (told_pair one) → whole_text parts ≡ head ++ marked_lines (take k told)
    → whole_text (parts ++ part ∷ []) ≡ head ++ marked_lines (take (k + 1) told)
text_more parts head told k one part at is so_far =
    whole_push parts part ∙ ap₂ (λ (l m : List ℕ). l ++ m) so_far is ∙ append_assoc head (marked_lines (take k told)) (marked_line (told_pair one))
    ∙ ap (λ l. head ++ l) (sym (marked_push (take k told) one) ∙ ap marked_lines (sym (next_front told k one at)))

-- the text of all lines behind the first
pub listed : (nodes : ℕ) (outcomes : List Outcome) (seeds : List (Option ℕ)) (told : List ToldOutcome) (head out : List ℕ)
    → AreToldOf nodes outcomes seeds told → head ≡ lazy_head (length outcomes) → out ≡ head ++ marked_lines told → ListsLazyOutcomes nodes outcomes seeds out
listed nodes outcomes seeds told head out are is_head whole = record {
  told = map told_pair told;
  are = are;
  whole = whole ∙ ap₂ (λ (h m : List ℕ). h ++ m) is_head (marked_text told);
}
