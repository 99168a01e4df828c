use Rattle.std.proofs.Common.{◌≡◌, ◌∙◌, true, false, List, [], ◌∷◌, ◌++◌, Bor, refl, sym, ap, arith}
use Rattle.std.specs.Prelude.{if◌then◌else◌}
use Rattle.std.proofs.lemmas.List.{map-append}
use Rattle.lrc_lang.specs.Symbol.{is_among}
use Rattle.lrc_lang.proofs.Names.{texts, length-texts}
use Rattle.lrc_lang.proofs.limits.Limits.take_name.Goals as goal

among : (c : goal.Then-is_among) → is_among (texts c.args.self.now.names.items) c.args.bytes.now ≡ true
among c =
    sym (c.is_among.ensures ∙ ap (λ names. is_among (texts names) c.args.bytes.now) c.deref.ensures.value) ∙ c.if-is_among.true

other : (c : goal.Then-len-ge-MOST_NAMES) → is_among (texts c.args.self.now.names.items) c.args.bytes.now ≡ false
other c =
    sym (c.is_among.ensures ∙ ap (λ names. is_among (texts names) c.args.bytes.now) c.deref.ensures.value) ∙ c.if-is_among.false

pub returns-then-is_among : goal.returns-then-is_among
returns-then-is_among c =
    let names = texts c.args.self.now.names.items in
    let is = among c in (
      sym (ap (λ b. if b then names else names ++ c.args.bytes.now ∷ []) is),
      refl,
      refl,
      λ deep. deep.0,
      λ many. let e : true ≡ false = sym is ∙ many.0 in cc,
      λ long. long.0,
    )

pub returns-then-len-ge-MOST_NAMES : goal.returns-then-len-ge-MOST_NAMES
returns-then-len-ge-MOST_NAMES c = (other c, omega (arith, length-texts c.args.self.now.names.items, c.args.self.now.names.ok.0))

pub returns : goal.returns
returns c =
    let old = c.args.self.now.names.items in
    let is = sym (c.is_among.ensures ∙ ap (λ names. is_among (texts names) c.args.bytes.now) c.deref.ensures.value) ∙ c.if-is_among.false in (
      ap texts c.in_ok-push.ensures.items ∙ map-append (λ (name : Bor (List _)). name.now) old (c.args.bytes ∷ [])
          ∙ sym (ap (λ b. if b then texts old else texts old ++ c.args.bytes.now ∷ []) is),
      refl,
      refl,
      λ deep. deep.0,
      λ many. omega (arith, many.1, length-texts old, c.args.self.now.names.ok.0),
      λ long. long.0,
    )
