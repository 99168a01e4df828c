use Rattle.std.proofs.Common.{◌≡◌, ◌∙◌, Option, Some, None, IsSome, refl, sym, ap, option_map}
use Rattle.std.specs.Borrow.{Bor}
use Rattle.clap.specs.Words.{Text, found_of}
use Rattle.clap.proofs.WalkLemmas.{first_value-rows}
use Rattle.lrc_cli_args.proofs.reading.text_of.Goals as goal

some_read : (o : Option (Bor Text)) (p : Option Text) → option_map (λ s. s.now) o ≡ p → IsSome p → IsSome o
some_read None None e h = h
some_read None (Some t) e h = absurd cc
some_read (Some s) p e h = refl

pub unwrap-requires : goal.unwrap-requires
unwrap-requires c =
    some_read c.get_str.result _ (c.get_str.ensures ∙ first_value-rows (found_of c.args.options.now) c.args.name.now) c.requires

pub returns : goal.returns
returns c =
    sym (c.get_str.ensures ∙ first_value-rows (found_of c.args.options.now) c.args.name.now)
    ∙ ap (option_map (λ s. s.now)) c.unwrap.ensures
