-- The tokens of a text are those that it has.
use Rattle.std.proofs.Common.{◌≡◌, ◌≤◌, arith, length, map, ap, sym, subst, ◌∙◌}
use Rattle.lrc_named_parse.specs.Faults.{FirstBeginsNamed}
use Rattle.lrc_named_tokens.specs.View.{located_of}
use Rattle.lrc_named_tokens.proofs.Unique.{unique}
use Rattle.lrc_named.proofs.named.is_read_as_named.Goals as goal

pub returns : goal.returns
returns c =
    let tokens = map located_of c.in_ok-tokens.tokens.items in
    let same : map located_of c.deref.result.now ≡ tokens = ap (map located_of) c.deref.ensures.value in
    let fits : length c.args.text.now ≤ 65536 = omega arith in (
      λ h. (fits, (tokens, c.in_ok-tokens.ensures, subst FirstBeginsNamed same (c.is_named.ensures.0 h))),
      λ h. c.is_named.ensures.1 (subst FirstBeginsNamed (unique h.1.1 c.in_ok-tokens.ensures ∙ sym same) h.1.2),
    )
