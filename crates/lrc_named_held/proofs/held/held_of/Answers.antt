-- One statement more.
use Rattle.std.proofs.Common.{◌≡◌, ◌∙◌, ◌<◌, ◌+◌, ◌++◌, ◌∷◌, [], ℕ, List, Vec, ap, ap₂, get_or, length, map, sym, take}
use Rattle.std.specs.declared.alloc.Global.{Global}
use Rattle.std.proofs.lemmas.List.{map_more, map_push}
use Rattle.lrc_named_held.specs.declared.held.Held as code
use Rattle.lrc_named_held.specs.declared.owns.Own.{Own}
use Rattle.lrc_named_held.specs.Held.{Held, held_in, held_of, held_seen}
use Rattle.lrc_named_held.proofs.held.held_of.Goals as goal

abbrev items_of : Vec Own Global → List Own
items_of one = one.items

abbrev seen_row : Vec code.Held Global → List Held
seen_row one = map held_seen one.items

one_row : (text offsets : List ℕ) (owns : List (Vec Own Global)) (i : ℕ) (one : Vec Own Global) (row : List Own) (old new : List (Vec code.Held Global))
    (told : Vec code.Held Global) → i < length owns → one ≡ get_or owns i one → row ≡ one.items
    → map seen_row old ≡ held_of text offsets (map items_of (take i owns)) → seen_row told ≡ held_in text offsets row → new ≡ old ++ told ∷ []
    → map seen_row new ≡ held_of text offsets (map items_of (take (i + 1) owns))
one_row text offsets owns i one row old new told lt is row_is before seen grown =
    ap (map seen_row) grown ∙ map_push seen_row old told
    ∙ ap₂ (λ (l : List (List Held)) (x : List Held). l ++ x ∷ []) before
    (seen ∙ ap (held_in text offsets) row_is ∙ ap (λ (o : Vec Own Global). held_in text offsets o.items) is)
    ∙ sym (map_push (held_in text offsets) (map items_of (take i owns)) (items_of (get_or owns i one)))
    ∙ sym (ap (map (held_in text offsets)) (map_more items_of owns i one lt))

pub loop-one-preserved : goal.loop-one-preserved
loop-one-preserved c =
    one_row c.args.text.now c.args.offsets.now c.args.owns.now c.loop-one.one-index c.one-item.result c.deref.result.now c.loop-one.held.items c.push.new.self.items
    c.in_ok-told.told c.loop-one-test.true c.one-item.is c.deref.ensures.value c.loop-one.invariant c.in_ok-told.ensures c.in_ok-push.ensures.items
