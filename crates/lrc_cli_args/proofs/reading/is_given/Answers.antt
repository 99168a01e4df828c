use Rattle.std.proofs.Common.{◌≡◌, ◌∙◌, Option, None, Some, ap, false, is_some, refl, sym, true, true≢false}
use Rattle.std.specs.Prelude.{option_and_then}
use Rattle.std.specs.Option.{option_map_or}
use Rattle.clap.specs.Facts.{explicit_source}
use Rattle.clap.specs.Words.{found_of, matched_of}
use Rattle.clap.specs.declared.parser.matches.MatchedArg.{MatchedArg}
use Rattle.clap.proofs.TakesLemmas.{present_row}
use Rattle.lrc_cli_args.proofs.reading.is_given.Goals as goal

there : (m : Option MatchedArg) → true ≡ is_some m
    → explicit_source (option_and_then (λ a. a.source) m) ≡ option_map_or (λ a. explicit_source a.source) m false
there None e = absurd (true≢false e)
there (Some a) e = refl

missing : (m : Option MatchedArg) → false ≡ is_some m → false ≡ option_map_or (λ a. explicit_source a.source) m false
missing None e = refl
missing (Some a) e = absurd (true≢false (sym e))

pub returns-then-contains_id : goal.returns-then-contains_id
returns-then-contains_id c =
    c.is_explicit.ensures ∙ ap explicit_source c.value_source.ensures
    ∙ there (matched_of (found_of c.args.options.now) c.args.name.now) (sym c.if-contains_id.true ∙ c.contains_id.ensures)
    ∙ present_row (found_of c.args.options.now) c.args.name.now

pub returns-else-contains_id : goal.returns-else-contains_id
returns-else-contains_id c =
    c.if-contains_id.false
    ∙ missing (matched_of (found_of c.args.options.now) c.args.name.now) (sym c.if-contains_id.false ∙ c.contains_id.ensures)
    ∙ present_row (found_of c.args.options.now) c.args.name.now
