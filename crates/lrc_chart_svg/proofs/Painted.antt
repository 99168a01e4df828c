-- What elements show, as a row and as a list.
use Rattle.std.proofs.Common.{◌≡◌, ◌∙◌, ◌++◌, ◌∷◌, [], ◌+◌, ◌<◌, ℕ, List, true, ap, ap₂, refl, sym}
use Rattle.std.proofs.Common.{append_assoc, append-nil, get_or, length, take}
use Rattle.std.specs.Prelude.{Vec, cond}
use Rattle.std.specs.declared.alloc.Global.{Global}
use Rattle.std.proofs.lemmas.List.{take_more}
use Rattle.std.proofs.lemmas.List.Concat.{flat_map-append}
use Rattle.std.specs.List.{flat_map}
use Rattle.lrc_text.specs.Each.{each}
use Rattle.lrc_text.proofs.Each.{each_more}
use Rattle.lrc_svg.specs.declared.element.Attribute.{Attribute}
use Rattle.lrc_svg.specs.declared.element.Content.{Content, Row_of-Content, end_of-Content, more_of-Content}
use Rattle.lrc_svg.specs.declared.element.Content.{items-the_row-Content, items_hidden-the_row-Content-0}
use Rattle.lrc_svg.specs.declared.element.Content.TheBlock.{hidden-the_row-Content-0}
use Rattle.lrc_svg.specs.declared.element.Content.TheVariants.{Element}
use Rattle.lrc_chart_svg.specs.Marks.{Mark, all_marks, all_words, begins, behind, ends, has_its_own, held, hint, marks, own, plain_words, row_marks, row_words, shown_marks, unreadable}

row_marks_are : (n : _) (row : Row_of-Content n) → row_marks row ≡ all_marks (items-the_row-Content n row)
row_marks_are _ end_of-Content = refl
row_marks_are _ (more_of-Content first more) = ap (λ l. marks first ++ l) (row_marks_are _ more)

row_words_are : (n : _) (row : Row_of-Content n) → row_words row ≡ all_words (items-the_row-Content n row)
row_words_are _ end_of-Content = refl
row_words_are _ (more_of-Content first more) = ap (λ l. plain_words first ++ l) (row_words_are _ more)

pub element_marks : (tag : _) (a : Vec Attribute Global) (v : Vec Content Global) → has_its_own tag a.items ≡ true
    → marks (Element tag a v) ≡ own tag a.items (all_words v.items) ++ held tag (all_marks v.items) ++ behind tag
element_marks tag a v once =
    ap₂ (λ (w : List ℕ) (l : List Mark). shown_marks tag a.items w l)
    (row_words_are _ (hidden-the_row-Content-0 v) ∙ ap all_words (items_hidden-the_row-Content-0 v))
    (row_marks_are _ (hidden-the_row-Content-0 v) ∙ ap all_marks (items_hidden-the_row-Content-0 v))
    ∙ ap (λ b. cond b (own tag a.items (all_words v.items) ++ held tag (all_marks v.items) ++ behind tag) (unreadable ∷ [])) once

regrouped_three : (start a b c : List Mark) → start ++ ((a ++ b) ++ c) ≡ ((start ++ a) ++ b) ++ c
regrouped_three start a b c = simp append_assoc

-- an element more
pub one_more : (old : List Content) (tag : _) (a : Vec Attribute Global) (v : Vec Content Global) → has_its_own tag a.items ≡ true
    → all_marks (old ++ Element tag a v ∷ []) ≡ all_marks old ++ own tag a.items (all_words v.items) ++ held tag (all_marks v.items) ++ behind tag
one_more old tag a v once =
    flat_map-append marks old (Element tag a v ∷ [])
    ∙ ap (λ l. all_marks old ++ l) (append-nil (marks (Element tag a v)) ∙ element_marks tag a v once)
    ∙ regrouped_three (all_marks old) (own tag a.items (all_words v.items)) (held tag (all_marks v.items)) (behind tag)

-- one item more, by its position
pub each_marked : {X : Type 0} (of : ℕ → X → List Mark) (items : List X) (k : ℕ) (item : X) (start old new : List Mark) → k < length items
    → item ≡ get_or items k item → old ≡ start ++ each of (take k items) → new ≡ old ++ of k item
    → new ≡ start ++ each of (take (k + 1) items)
each_marked of items k item start old new within item_is old_is new_is =
    let before = each of (take k items) in
    new_is ∙ ap (λ l. l ++ of k item) old_is ∙ append_assoc start before (of k item)
    ∙ ap (λ l. start ++ l) (ap (λ x. before ++ of k x) item_is ∙ sym (each_more of items k item within))

pub flat_marked : {X : Type 0} (of : X → List Mark) (items : List X) (k : ℕ) (item : X) (start old new : List Mark) → k < length items
    → item ≡ get_or items k item → old ≡ start ++ flat_map of (take k items) → new ≡ old ++ of item
    → new ≡ start ++ flat_map of (take (k + 1) items)
flat_marked of items k item start old new within item_is old_is new_is =
    let before = flat_map of (take k items) in
    let more : flat_map of (take (k + 1) items) ≡ before ++ of item =
    ap (flat_map of) (take_more items k item within) ∙ flat_map-append of (take k items) (get_or items k item ∷ [])
    ∙ ap (λ l. before ++ l) (append-nil (of (get_or items k item)) ∙ ap of (sym item_is)) in
    new_is ∙ ap (λ l. l ++ of item) old_is ∙ append_assoc start before (of item) ∙ ap (λ l. start ++ l) (sym more)

regrouped : (start a b c d e : List Mark) → (((((start ++ a) ++ b) ++ c) ++ d) ++ e) ≡ start ++ ((((a ++ b) ++ c) ++ d) ++ e)
regrouped start a b c d e = simp append_assoc

-- five pieces, one behind another
pub five : (start one two three four end a b c d e : List Mark) → one ≡ start ++ a → two ≡ one ++ b → three ≡ two ++ c → four ≡ three ++ d
    → end ≡ four ++ e → end ≡ start ++ ((((a ++ b) ++ c) ++ d) ++ e)
five start one two three four end a b c d e first second third fourth last =
    let here = second ∙ ap (λ (l : List Mark). l ++ b) first in
    let further = fourth ∙ ap (λ (l : List Mark). l ++ d) (third ∙ ap (λ (l : List Mark). l ++ c) here) in
    last ∙ ap (λ (l : List Mark). l ++ e) further ∙ regrouped start a b c d e

pub joined : {X : Type 0} (start middle end a b : List X) → middle ≡ start ++ a → end ≡ middle ++ b → end ≡ start ++ (a ++ b)
joined start middle end a b first second = second ∙ ap (λ l. l ++ b) first ∙ append_assoc start a b

-- a group of a hint and other marks
pub group_of_two : (old new none one two three : List Mark) (words : List ℕ) (a b : List Mark) → none ≡ [] → one ≡ none ++ hint words ∷ []
    → two ≡ one ++ a → three ≡ two ++ b → new ≡ old ++ begins ∷ (three ++ ends ∷ []) → new ≡ old ++ begins ∷ hint words ∷ (a ++ b ++ ends ∷ [])
group_of_two old new none one two three words a b empty first second third last =
    last ∙ ap (λ (l : List Mark). old ++ begins ∷ (l ++ ends ∷ []))
    (third ∙ ap (λ (l : List Mark). l ++ b) (second ∙ ap (λ (l : List Mark). l ++ a) (first ∙ ap (λ (l : List Mark). l ++ hint words ∷ []) empty)))

pub group_of_three : (old new none one two three four : List Mark) (words : List ℕ) (a b c : List Mark) → none ≡ [] → one ≡ none ++ hint words ∷ []
    → two ≡ one ++ a → three ≡ two ++ b → four ≡ three ++ c → new ≡ old ++ begins ∷ (four ++ ends ∷ [])
    → new ≡ old ++ begins ∷ hint words ∷ (a ++ b ++ c ++ ends ∷ [])
group_of_three old new none one two three four words a b c empty first second third fourth last =
    last ∙ ap (λ (l : List Mark). old ++ begins ∷ (l ++ ends ∷ []))
    (fourth ∙ ap (λ (l : List Mark). l ++ c)
    (third ∙ ap (λ (l : List Mark). l ++ b) (second ∙ ap (λ (l : List Mark). l ++ a) (first ∙ ap (λ (l : List Mark). l ++ hint words ∷ []) empty))))
