use Rattle.std.proofs.Common.{◌≡◌, ◌∙◌, ℕ, Option, Some, None, IfSome, Result, Ok, Err, ap, option_map, refl}
use Rattle.std.specs.Str.Parse.{ExplainsUnsignedError, HasUnsignedDigitsIfOk, ParsesUnsigned, digits_value, without_leading_plus}
use Rattle.clap.specs.Words.{IsUnsignedIn, Text, first_of, found_of, rows_of}
use Rattle.clap.specs.Matches.{ReadsOne}
use Rattle.clap.proofs.WalkLemmas.{one_text-rows}
use Rattle.lrc_cli_args.proofs.reading.some_number_of.Goals as goal

-- a number that clap let through is read by `u64`, and where there is none, none is read
number_read : {E : Type 0} (gives : Text → Result ℕ E → Type 0) (text : Option Text) (read : Option ℕ)
    → ((t : Text) (r : Result ℕ E) → gives t r → ParsesUnsigned 64 10 t r) → (text ≡ None → read ≡ None)
    → ((t : Text) → text ≡ Some t → ReadsOne gives t read) → IfSome text (IsUnsignedIn 0 18446744073709551615)
    → read ≡ option_map (λ t. digits_value 10 (without_leading_plus t)) text
number_read gives None read parses none value fits = none refl
number_read gives (Some t) (Some n) parses none value fits = ap Some (parses t (Ok n) (value t refl)).1
number_read gives (Some t) None parses none value fits =
    let refusal = value t refl in
    absurd (parses t (Err refusal.0) refusal.1 (fits.0, fits.1))

pub returns : goal.returns
returns c =
    let text_is = one_text-rows (found_of c.args.options.now) c.args.name.now ∙ c.requires.as_written in
    number_read (λ bs r. ParsesUnsigned 64 10 bs r × ExplainsUnsignedError 10 bs r × HasUnsignedDigitsIfOk bs r)
    (first_of c.args.name.now (rows_of (found_of c.args.options.now))) c.get_one.result (λ t r g. g.0)
    (λ e. c.get_one.ensures.none (text_is ∙ e)) (λ t e. c.get_one.ensures.value t (text_is ∙ e)) c.requires.number
