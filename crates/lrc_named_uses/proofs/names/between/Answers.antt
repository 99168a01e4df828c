use Rattle.std.proofs.Common.{◌≡◌, ◌+◌, ◌-◌, ◌∙◌, ap, arith, drop, map, sym, take}
use Rattle.std.proofs.lemmas.List.{drop-map, take-map}
use Rattle.lrc_named_tokens.specs.View.{located_of}
use Rattle.lrc_named_uses.proofs.names.between.Goals as goal

pub returns : goal.returns
returns c =
    let xs = c.args.tokens.now in
    let a = c.args.first in
    let n = c.saturating_sub.result in
    let count : n ≡ c.args.last + 1 - a = omega (arith, c.saturating_sub.ensures) in
    ap (map located_of) c.part.ensures ∙ sym (take-map located_of n (drop a xs)) ∙ ap (take n) (sym (drop-map located_of a xs))
    ∙ ap (λ m. take m (drop a (map located_of xs))) count
