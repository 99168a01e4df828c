use Rattle.std.proofs.Common.{◌≡◌, ◌∙◌, ◌++◌, ◌∷◌, [], List, ap, map, refl, subst, sym}
use Rattle.std.proofs.lemmas.List.{map-append}
use Rattle.lrc_labels.specs.declared.known.Known.{Known}
use Rattle.lrc_labels.specs.Known.{Tells}
use Rattle.lrc_labels.specs.Reading.{Label, label_seen}
use Rattle.lrc_labels.proofs.Noted.{tells_same}
use Rattle.lrc_labels.proofs.known.Known.push.Goals as goal

pub returns-clause-known : goal.returns-clause-known
returns-clause-known c =
    let taken = c.take.new.self in
    let new : Known = record { said = c.push.new.self; words = taken.words; locks = taken.locks; names = taken.names } in
    let all = map label_seen c.args.self.now.said.items ++ label_seen c.args.label ∷ [] in
    let said : map label_seen c.push.new.self.items ≡ all =
    ap (map label_seen) (c.in_ok-push.ensures.items ∙ ap (λ l. l ++ c.args.label ∷ []) c.in_ok-take.ensures.said)
    ∙ map-append label_seen c.args.self.now.said.items (c.args.label ∷ []) in
    subst (λ (l : List Label). Tells l new) (sym said)
    (tells_same all taken new refl refl refl (c.in_ok-take.ensures.known (label_seen c.args.label) refl refl))
