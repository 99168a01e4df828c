use Rattle.std.proofs.Common.{◌≡◌, ◌∙◌, ◌<◌, ◌≤◌, ◌+◌, ℕ, Bool, List, [], ◌∷◌, add-one, ap, drop, get_or, length, map, sym}
use Rattle.std.specs.Prelude.{if◌then◌else◌}
use Rattle.std.specs.Str.{bytes_eq}
use Rattle.std.proofs.Math.Seq.{drop-cons}
use Rattle.std.proofs.lemmas.List.{drop_all}
use Rattle.lrc_named_held.specs.declared.held.Held as code
use Rattle.lrc_named_held.specs.Held.{held_seen}
use Rattle.lrc_source.specs.Telling.{name_held}
use Rattle.lrc_source.proofs.read_text.name_held.Goals as goal

-- what is told by the first of those that are left, or by the others
abbrev told_by : List code.Held → (name : List ℕ) → code.Held → Bool → List ℕ
told_by others name one here = if here then one.source.items else name_held (map held_seen others) name

at_place : (held : List code.Held) (i : ℕ) (one : code.Held) (name told : List ℕ) (here : Bool) → i < length held → one ≡ get_or held i one
    → here ≡ bytes_eq one.name.items name → name_held (map held_seen (drop i held)) name ≡ told
    → told_by (drop (i + 1) held) name one here ≡ told
at_place held i one name told here lt is test before =
    let cut : drop i held ≡ get_or held i one ∷ drop (i + 1) held = rw add-one (drop-cons held i one lt) in
    ap (told_by (drop (i + 1) held) name one) test
    ∙ ap (λ x. told_by (drop (i + 1) held) name x (bytes_eq x.name.items name)) is
    ∙ sym (ap (λ l. name_held (map held_seen l) name) cut) ∙ before

nothing_left : (held : List code.Held) (i : ℕ) (name told : List ℕ) → length held ≤ i → name_held (map held_seen (drop i held)) name ≡ told → name ≡ told
nothing_left held i name told past before =
    let nothing : drop i held ≡ [] = drop_all i held past in
    sym (ap (λ l. name_held (map held_seen l) name) nothing) ∙ before

pub loop-one-preserved : goal.loop-one-preserved
loop-one-preserved c =
    let held = c.args.held.now in
    let name = c.args.name.now in
    let i = c.loop-one.one-index in
    sym (ap (told_by (drop (i + 1) held) name c.one-item.result) c.if-is_of.false)
    ∙ at_place held i c.one-item.result name (name_held (map held_seen held) name) c.is_of.result c.loop-one-test.true c.one-item.is c.is_of.ensures
    c.loop-one.invariant

pub returns-then-is_of : goal.returns-then-is_of
returns-then-is_of c =
    let held = c.args.held.now in
    let name = c.args.name.now in
    let i = c.loop-one.one-index in
    c.as_slice.ensures.value ∙ sym (ap (told_by (drop (i + 1) held) name c.one-item.result) c.if-is_of.true)
    ∙ at_place held i c.one-item.result name (name_held (map held_seen held) name) c.is_of.result c.loop-one-test.true c.one-item.is c.is_of.ensures
    c.loop-one.invariant

pub returns : goal.returns
returns c =
    let held = c.args.held.now in
    nothing_left held c.loop-one.one-index c.args.name.now (name_held (map held_seen held) c.args.name.now) c.loop-one-test.false c.loop-one.invariant
