-- A name met before is found at its number, and a new one goes last.
use Rattle.std.proofs.Common.{◌≡◌, [], ◌∷◌, ◌++◌, ◌∙◌, false, length, map, nat_eq, sym, subst, ap}
use Rattle.std.specs.Prelude.{Some, cond, option_map}
use Rattle.std.specs.List.{list_any}
use Rattle.std.specs.Cmp.Lexicographic.{pointwise, same_text}
use Rattle.std.proofs.lemmas.Option.{slice_get-map}
use Rattle.std.proofs.lemmas.List.{length-map, map-append}
use Rattle.lrc_races_lines.specs.Table.{IsNumbered, met, new}
use Rattle.lrc_races_lines.proofs.Named.{bytes, not_there, found_passes, names_differ}
use Rattle.lrc_races_lines.proofs.table.Table.number.Goals as goal

pub returns-in-Some-clause-numbered : goal.returns-in-Some-clause-numbered
returns-in-Some-clause-numbered c =
    let keys = c.args.self.now.names.keys in
    let number = c.in-Some.number in
    let found = c.in-Some._met.now in
    let name = c.args.name.now in
    let passes = found_passes (λ key. pointwise nat_eq name key.items) keys found (sym c.in-Some.ensures.key) in
    let same : name ≡ found.items = same_text name found.items (sym passes) in
    met (slice_get-map bytes keys number ∙ ap (λ key. option_map bytes key) c.in-Some.ensures.stored ∙ ap Some (sym same))

pub returns-in-Some-clause-distinct : goal.returns-in-Some-clause-distinct
returns-in-Some-clause-distinct c = names_differ c.args.self.now.names.keys c.len-next.ensures.unique

pub returns-clause-numbered : goal.returns-clause-numbered
returns-clause-numbered c =
    let keys = c.args.self.now.names.keys in
    let name = c.args.name.now in
    let before = map bytes keys in
    let none : list_any (λ key. pointwise nat_eq name key.items) keys ≡ false = sym c.in_default.ensures.found in
    let value = c.in_ok-from_slice.field-0 in
    let items : value.items ≡ name = c.in_ok-from_slice.ensures.items in
    let next : c.len-next.result ≡ length before = c.len-next.ensures.len ∙ sym (length-map keys bytes) in
    let after : map bytes c.insert.new.self.keys ≡ before ++ name ∷ [] =
    ap (map bytes) (c.in_ok-insert.ensures.keys ∙ ap (λ b. cond b keys (keys ++ value ∷ [])) (ap (λ bs. list_any (λ key. pointwise nat_eq bs key.items) keys) items ∙ none))
    ∙ map-append bytes keys (value ∷ []) ∙ ap (λ bs. before ++ bs ∷ []) items in
    subst (λ names. IsNumbered before name names c.len-next.result) (sym after)
    (subst (λ number. IsNumbered before name (before ++ name ∷ []) number) (sym next) (new (not_there name keys none)))

pub returns-clause-distinct : goal.returns-clause-distinct
returns-clause-distinct c = names_differ c.insert.new.self.keys c.in_ok-insert.ensures.unique
