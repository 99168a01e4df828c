-- What stands in an element, as a row and as a list.
use Rattle.std.proofs.Common.{◌≡◌, ◌∙◌, ◌++◌, ℕ, List, ap, append_assoc, refl, sym}
use Rattle.std.specs.Prelude.{Result, Ok, Err, OnOk}
use Rattle.std.specs.List.{flat_map}
use Rattle.lrc_svg.specs.declared.element.Attribute.{Attribute}
use Rattle.lrc_svg.specs.declared.element.Content.{Content, Row_of-Content, end_of-Content, more_of-Content}
use Rattle.lrc_svg.specs.declared.element.Content.{items-the_row-Content, items_hidden-the_row-Content-0}
use Rattle.lrc_svg.specs.declared.element.Content.TheBlock.{hidden-the_row-Content-0}
use Rattle.lrc_svg.specs.declared.element.Content.TheVariants.{Text, Element}
use Rattle.lrc_svg.specs.Texts.{close_text, content_text, escaped, open_text, row_text}

row_is : (n : _) (row : Row_of-Content n) → row_text row ≡ flat_map content_text (items-the_row-Content n row)
row_is _ end_of-Content = refl
row_is _ (more_of-Content first more) = ap (λ l. content_text first ++ l) (row_is _ more)

pub text_is : (c : Content) (v : _) → c ≡ Text v → content_text c ≡ escaped v.items
text_is c v is = ap content_text is

rows_are : (v : _) → row_text (hidden-the_row-Content-0 v) ≡ flat_map content_text v.items
rows_are v = row_is _ (hidden-the_row-Content-0 v) ∙ ap (flat_map content_text) (items_hidden-the_row-Content-0 v)

pub element_is : (c : Content) (tag : _) (a v : _) → c ≡ Element tag a v
    → content_text c ≡ (open_text tag a.items ++ flat_map content_text v.items) ++ close_text tag
element_is c tag a v is = ap content_text is ∙ ap (λ l. (open_text tag a.items ++ l) ++ close_text tag) (rows_are v)

-- an element is written: what it begins with, what stands in it, and what it ends with
pub element_pushed : (c : Content) (tag : _) (a v : _) (before begun filled ended : List ℕ)
    (attributes : List Attribute) (contents : List Content) → c ≡ Element tag a v → attributes ≡ a.items → contents ≡ v.items → begun ≡ before ++ open_text tag attributes
    → filled ≡ begun ++ flat_map content_text contents → ended ≡ filled ++ close_text tag → ended ≡ before ++ content_text c
element_pushed c tag a v before begun filled ended attributes contents is first second opening filling ending =
    let head = open_text tag a.items in
    let within = flat_map content_text v.items in
    let foot = close_text tag in
    let opened : begun ≡ before ++ head = opening ∙ ap (λ l. before ++ open_text tag l) first in
    let full : filled ≡ (before ++ head) ++ within =
    filling ∙ ap (λ l. begun ++ flat_map content_text l) second ∙ ap (λ l. l ++ within) opened in
    ending ∙ ap (λ l. l ++ foot) (full ∙ append_assoc before head within) ∙ append_assoc before (head ++ within) foot
    ∙ ap (λ l. before ++ l) (sym (element_is c tag a v is))

pub on_ok : {E A : Type 0} {P Q : Type 0} (r : Result A E) → (P → Q) → OnOk r P → OnOk r Q
on_ok (Ok x) f h = f h
on_ok (Err e) f h = tt
