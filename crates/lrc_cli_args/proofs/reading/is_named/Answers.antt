use Rattle.std.proofs.Common.{◌≡◌, ◌⊎◌, ◌∙◌, Bool, Option, Some, None, IsSomeAnd, ap, codes, false, inl, inr, sym, true}
use Rattle.clap.specs.Values.{bool_text}
use Rattle.clap.specs.Words.{Text, first_of, found_of, rows_of}
use Rattle.clap.proofs.WalkLemmas.{one_text-rows}
use Rattle.lrc_cli_args.proofs.reading.is_named.Goals as goal

-- what clap says of a flag is what `get_flag` reads
flag_read : (text : Option Text) (named : Bool) → IsSomeAnd text (λ t. (t ≡ codes "true") ⊎ (t ≡ codes "false"))
    → (text ≡ Some (codes "true") → named ≡ true) → (text ≡ Some (codes "false") → named ≡ false) → text ≡ Some (bool_text named)
flag_read None named said is_true is_false = absurd said
flag_read (Some t) named said is_true is_false = elim said [
  | inl e ↦
      let is : Some t ≡ Some (codes "true") = ap Some e in
      is ∙ ap (λ b. Some (bool_text b)) (sym (is_true is))
  | inr e ↦
      let is : Some t ≡ Some (codes "false") = ap Some e in
      is ∙ ap (λ b. Some (bool_text b)) (sym (is_false is))
]

pub returns : goal.returns
returns c =
    let text_is = one_text-rows (found_of c.args.options.now) c.args.name.now ∙ c.requires.as_written in
    flag_read (first_of c.args.name.now (rows_of (found_of c.args.options.now))) _ c.requires.said
    (λ e. c.get_flag.ensures.value (text_is ∙ e)) (λ e. c.get_flag.ensures.other (text_is ∙ e))
