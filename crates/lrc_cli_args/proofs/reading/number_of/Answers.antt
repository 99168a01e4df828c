use Rattle.std.proofs.Common.{◌≡◌, ◌∙◌, ℕ, Option, Some, None, IsSome, IsSomeAnd, Result, Ok, Err, ap, refl, sym}
use Rattle.std.specs.Option.{option_map_or}
use Rattle.std.specs.Str.Parse.{ExplainsUnsignedError, HasUnsignedDigitsIfOk, ParsesUnsigned, digits_value, without_leading_plus}
use Rattle.clap.specs.Words.{IsUnsignedIn, Text, first_of, found_of, rows_of}
use Rattle.clap.specs.Matches.{ReadsOne}
use Rattle.clap.proofs.WalkLemmas.{one_text-rows}
use Rattle.lrc_cli_args.specs.Options.{option_number}
use Rattle.lrc_cli_args.proofs.reading.number_of.Goals as goal

abbrev value_of : Option Text → ℕ
value_of text = option_map_or (λ t. digits_value 10 (without_leading_plus t)) text 0

some_is : (o : Option ℕ) (n : ℕ) → o ≡ Some n → IsSome o
some_is None n e = absurd cc
some_is (Some m) n e = refl

-- a number that clap let through is read by `u64`
number_read : {E : Type 0} (gives : Text → Result ℕ E → Type 0) (text : Option Text) (read : Option ℕ)
    → ((t : Text) (r : Result ℕ E) → gives t r → ParsesUnsigned 64 10 t r)
    → ((t : Text) → text ≡ Some t → ReadsOne gives t read) → IsSomeAnd text (IsUnsignedIn 0 18446744073709551615)
    → read ≡ Some (value_of text)
number_read gives None read parses value fits = absurd fits
number_read gives (Some t) (Some n) parses value fits = ap Some (parses t (Ok n) (value t refl)).1
number_read gives (Some t) None parses value fits =
    let refusal = value t refl in
    absurd (parses t (Err refusal.0) refusal.1 (fits.0, fits.1))

pub unwrap-requires : goal.unwrap-requires
unwrap-requires c =
    let text_is = one_text-rows (found_of c.args.options.now) c.args.name.now ∙ c.requires.as_written in
    some_is c.get_one.result _
    (number_read (λ bs r. ParsesUnsigned 64 10 bs r × ExplainsUnsignedError 10 bs r × HasUnsignedDigitsIfOk bs r)
    (first_of c.args.name.now (rows_of (found_of c.args.options.now))) c.get_one.result (λ t r g. g.0)
    (λ t e. c.get_one.ensures.value t (text_is ∙ e)) c.requires.number)

pub returns : goal.returns
returns c =
    let text_is = one_text-rows (found_of c.args.options.now) c.args.name.now ∙ c.requires.as_written in
    let read = number_read (λ bs r. ParsesUnsigned 64 10 bs r × ExplainsUnsignedError 10 bs r × HasUnsignedDigitsIfOk bs r)
    (first_of c.args.name.now (rows_of (found_of c.args.options.now))) c.get_one.result (λ t r g. g.0)
    (λ t e. c.get_one.ensures.value t (text_is ∙ e)) c.requires.number in
    let same : Some c.unwrap.result ≡ Some (option_number c.args.name.now (rows_of (found_of c.args.options.now))) = sym c.unwrap.ensures ∙ read in
    cc
