-- No more names follow one another than are declared.
use Rattle.std.proofs.Common.{◌≡◌, [], ap, arith, length, map, rules, sym, ◌∙◌}
use Rattle.std.proofs.lemmas.List.{length-map}
use Rattle.lrc_named_tokens.specs.View.{located_of}
use Rattle.lrc_named_names.specs.View.{declared_of, entry_of}
use Rattle.lrc_named_uses.specs.Shared.{some_shared}
use Rattle.lrc_named_uses.proofs.shared.has_shared.Goals as goal

pub returns : goal.returns
returns c =
    let declared = declared_of c.args.names.now in
    let tokens = map located_of c.args.tokens.now in
    let long : c.len.result ≡ length c.args.names.now.declared.items = first_of (omega arith, search rules) in
    c.some_shared.ensures
    ∙ ap (λ n. some_shared declared tokens n [] (map located_of c.tokens_in.result.now)) (long ∙ sym (length-map c.args.names.now.declared.items entry_of))
    ∙ ap (some_shared declared tokens (length declared) []) c.tokens_in.ensures
