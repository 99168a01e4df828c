-- What is known of the command that clap found, by its name.
use Rattle.std.proofs.Common.{◌≡◌, List, Option, None, Some, IsSomeAnd, Result, Ok, Err, IfErr, IsErrAnd, codes, option_map}
use Rattle.std.proofs.Common.{◌∙◌, ap, false, inl, inr, refl, subst, sym, true}
use Rattle.std.specs.Prelude.{Box, Bool}
use Rattle.std.specs.Str.{bytes_eq}
use Rattle.std.specs.Borrow.{Bor}
use Rattle.std.specs.Box.{box_value}
use Rattle.clap.specs.Words.{Row, Text}
use Rattle.clap.specs.Simple.{subcommand_rows}
use Rattle.clap.specs.declared.parser.matches.ArgMatches.TheViews.{out-SubCommand}
use Rattle.clap.specs.declared.parser.matches.SubCommand.{SubCommand}
use Rattle.lrc_cli_args.specs.CommandLine.{IsAskTaken, IsCommandTaken, IsRequestTaken, IsShowTaken}
use Rattle.lrc_cli_args.specs.Options.{HasValue, IsChartTaken, IsExploreTaken, IsJudgeTaken, IsPlainTaken, IsRacesTaken, IsRunTaken, IsShowingTaken, IsSimTaken, IsTraceTaken}
use Rattle.lrc_cli_args.specs.Options.{IsStepTaken, IsWhyTaken}
use Rattle.lrc_cli_args.specs.declared.misfit.Misfit.{Misfit}

-- what a text that was read is among the rows
pub read_is : (got : Option (Bor Text)) (value row : Option Text) (was : Option (Bor Text)) → option_map (λ s. s.now) got ≡ value → value ≡ row → got ≡ was
    → row ≡ option_map (λ s. s.now) was
read_is got value row was reads is got_is = sym is ∙ sym reads ∙ ap (option_map (λ s. s.now)) got_is

module _ {Z : Type 0} where
  -- the name of a subcommand stands before its rows
  pub name_before : (sub : Option (Box SubCommand Z))
      → option_map (λ p. p.0) (subcommand_rows sub) ≡ option_map (λ b. (out-SubCommand (box_value b)).name.now) sub
  name_before None = refl
  name_before (Some b) = refl

-- what holds of a name and rows holds of what has both
pub found_by : (found : Option (Text × List Row)) (name : Text) (rows : List Row) (P : Text × List Row → Type 0)
    → option_map (λ p. p.0) found ≡ Some name → option_map (λ p. p.1) found ≡ Some rows
    → ((f : Text × List Row) → f.0 ≡ name → f.1 ≡ rows → P f) → IsSomeAnd found P
found_by None name rows P named held h = absurd (let bad : None ≡ Some name = named in cc)
found_by (Some f) name rows P named held h =
    let name_is : Some f.0 ≡ Some name = named in
    let rows_is : Some f.1 ≡ Some rows = held in
    let same_name : f.0 ≡ name = cc in
    let same_rows : f.1 ≡ rows = cc in
    h f same_name same_rows

-- what holds of a name with its rows
pub found_at : (found : Option (Text × List Row)) (name : Text) (rows : List Row) (P : Text × List Row → Type 0)
    → option_map (λ p. p.0) found ≡ Some name → option_map (λ p. p.1) found ≡ Some rows → P (name, rows) → IsSomeAnd found P
found_at found name rows P named held h =
    found_by found name rows P named held (λ f name_is rows_is.
    subst (λ (n : Text). P (n, f.1)) (sym name_is) (subst (λ (r : List Row). P (name, r)) (sym rows_is) h))

-- the same of what is named, and of its rows
pub found_as : (found : Option (Text × List Row)) (name : Text) (rows : List Row) (Q : List Row → Type 0)
    → option_map (λ p. p.0) found ≡ Some name → option_map (λ p. p.1) found ≡ Some rows → Q rows → IsSomeAnd found (λ f. (f.0 ≡ name) × Q f.1)
found_as found name rows Q named held h = found_at found name rows (λ f. (f.0 ≡ name) × Q f.1) named held (refl, h)

-- what holds of a misfit holds of the result that hands it on
pub misfit_up : {T : Type 0} (r : Result T Misfit) (misfit : Misfit) (P : Misfit → Type 0) → IsErrAnd r (λ m. m ≡ misfit) → P misfit → IfErr r P
misfit_up (Ok x) misfit P is h = tt
misfit_up (Err m) misfit P is h = subst P (sym is) h

abbrev one_or : Bool → Type 0 → Type 0 → Type 0
one_or true A B = A
one_or false A B = B

-- what clap makes sure of in the rows of the command with this name
abbrev taken_as : Text → List Row → Type 0
taken_as name rows =
    one_or (bytes_eq name (codes "help")) (Unit {0}) (
    one_or (bytes_eq name (codes "version")) (Unit {0}) (
    one_or (bytes_eq name (codes "races")) (IsRacesTaken rows) (
    one_or (bytes_eq name (codes "lint")) (HasValue (codes "FILE") rows) (
    one_or (bytes_eq name (codes "why")) (IsWhyTaken rows) (
    one_or (bytes_eq name (codes "check")) (HasValue (codes "FILE") rows) (
    one_or (bytes_eq name (codes "core")) (HasValue (codes "FILE") rows) (
    one_or (bytes_eq name (codes "plain")) (IsPlainTaken rows) (
    one_or (bytes_eq name (codes "judge")) (IsJudgeTaken rows) (
    one_or (bytes_eq name (codes "explore")) (IsExploreTaken rows) (
    one_or (bytes_eq name (codes "sim")) (IsSimTaken rows) (
    one_or (bytes_eq name (codes "run")) (IsRunTaken rows) (
    one_or (bytes_eq name (codes "trace")) (IsTraceTaken rows) (
    one_or (bytes_eq name (codes "step")) (IsStepTaken rows) (
    one_or (bytes_eq name (codes "chart")) (IsChartTaken rows) (
    IsShowingTaken rows)))))))))))))))

-- the rows of a command whose name is known are as clap makes sure of for it
named_rows : (found : Option (Text × List Row)) (name : Text) (rows : List Row) → option_map (λ p. p.0) found ≡ Some name
    → option_map (λ p. p.1) found ≡ Some rows → IsRequestTaken found → taken_as name rows
named_rows None name rows named held taken = elim taken [
  | inl t ↦ absurd t
  | inr (inl t) ↦ absurd t
  | inr (inr (inl t)) ↦ absurd t
  | inr (inr (inr t)) ↦ absurd t
]
named_rows (Some f) name rows named held taken =
    let name_is : Some f.0 ≡ Some name = named in
    let rows_is : Some f.1 ≡ Some rows = held in
    let same_name : f.0 ≡ name = cc in
    let same_rows : f.1 ≡ rows = cc in
    let as_named = λ (n : Text) (e : f.0 ≡ n) (h : taken_as n f.1). subst (λ (m : Text). taken_as m f.1) (sym e) h in
    subst (λ (n : Text). taken_as n rows) same_name (subst (taken_as f.0) same_rows (elim taken [
      | inl (inl t) ↦ as_named (codes "help") t tt
      | inl (inr t) ↦ as_named (codes "version") t tt
      | inr (inl t) ↦ as_named (codes "races") t.0 t.1
      | inr (inr (inl (inl t))) ↦ as_named (codes "lint") t.0 t.1
      | inr (inr (inl (inr t))) ↦ as_named (codes "why") t.0 t.1
      | inr (inr (inr (inl t))) ↦ as_named (codes "check") t.0 t.1
      | inr (inr (inr (inr (inl t)))) ↦ as_named (codes "core") t.0 t.1
      | inr (inr (inr (inr (inr (inl t))))) ↦ as_named (codes "plain") t.0 t.1
      | inr (inr (inr (inr (inr (inr (inl t)))))) ↦ as_named (codes "judge") t.0 t.1
      | inr (inr (inr (inr (inr (inr (inr (inl t))))))) ↦ as_named (codes "explore") t.0 t.1
      | inr (inr (inr (inr (inr (inr (inr (inr (inl t)))))))) ↦ as_named (codes "sim") t.0 t.1
      | inr (inr (inr (inr (inr (inr (inr (inr (inr (inl t))))))))) ↦ as_named (codes "run") t.0 t.1
      | inr (inr (inr (inr (inr (inr (inr (inr (inr (inr (inl t)))))))))) ↦ as_named (codes "trace") t.0 t.1
      | inr (inr (inr (inr (inr (inr (inr (inr (inr (inr (inr (inl t))))))))))) ↦ as_named (codes "step") t.0 t.1
      | inr (inr (inr (inr (inr (inr (inr (inr (inr (inr (inr (inr (inl t)))))))))))) ↦ as_named (codes "explain") t.0 t.1
      | inr (inr (inr (inr (inr (inr (inr (inr (inr (inr (inr (inr (inr (inl t))))))))))))) ↦ as_named (codes "stats") t.0 t.1
      | inr (inr (inr (inr (inr (inr (inr (inr (inr (inr (inr (inr (inr (inr t))))))))))))) ↦ as_named (codes "chart") t.0 t.1
    ]))

module _ (found : Option (Text × List Row)) (rows : List Row) (held : option_map (λ p. p.1) found ≡ Some rows) (taken : IsCommandTaken found) where
  pub check_rows : option_map (λ p. p.0) found ≡ Some (codes "check") → HasValue (codes "FILE") rows
  check_rows named = named_rows found (codes "check") rows named held (inr (inr (inr taken)))

  pub core_rows : option_map (λ p. p.0) found ≡ Some (codes "core") → HasValue (codes "FILE") rows
  core_rows named = named_rows found (codes "core") rows named held (inr (inr (inr taken)))

  pub plain_rows : option_map (λ p. p.0) found ≡ Some (codes "plain") → IsPlainTaken rows
  plain_rows named = named_rows found (codes "plain") rows named held (inr (inr (inr taken)))

  pub judge_rows : option_map (λ p. p.0) found ≡ Some (codes "judge") → IsJudgeTaken rows
  judge_rows named = named_rows found (codes "judge") rows named held (inr (inr (inr taken)))

  pub explore_rows : option_map (λ p. p.0) found ≡ Some (codes "explore") → IsExploreTaken rows
  explore_rows named = named_rows found (codes "explore") rows named held (inr (inr (inr taken)))

  pub sim_rows : option_map (λ p. p.0) found ≡ Some (codes "sim") → IsSimTaken rows
  sim_rows named = named_rows found (codes "sim") rows named held (inr (inr (inr taken)))

  pub run_rows : option_map (λ p. p.0) found ≡ Some (codes "run") → IsRunTaken rows
  run_rows named = named_rows found (codes "run") rows named held (inr (inr (inr taken)))

  pub trace_rows : option_map (λ p. p.0) found ≡ Some (codes "trace") → IsTraceTaken rows
  trace_rows named = named_rows found (codes "trace") rows named held (inr (inr (inr taken)))

  pub step_rows : option_map (λ p. p.0) found ≡ Some (codes "step") → IsStepTaken rows
  step_rows named = named_rows found (codes "step") rows named held (inr (inr (inr taken)))

  pub explain_rows : option_map (λ p. p.0) found ≡ Some (codes "explain") → IsShowingTaken rows
  explain_rows named = named_rows found (codes "explain") rows named held (inr (inr (inr taken)))

  pub stats_rows : option_map (λ p. p.0) found ≡ Some (codes "stats") → IsShowingTaken rows
  stats_rows named = named_rows found (codes "stats") rows named held (inr (inr (inr taken)))

  pub chart_rows : option_map (λ p. p.0) found ≡ Some (codes "chart") → IsChartTaken rows
  chart_rows named = named_rows found (codes "chart") rows named held (inr (inr (inr taken)))

-- the rows of the command that looks for races
pub races_rows : (found : Option (Text × List Row)) (rows : List Row) → option_map (λ p. p.1) found ≡ Some rows → IsRequestTaken found
    → option_map (λ p. p.0) found ≡ Some (codes "races") → IsRacesTaken rows
races_rows found rows held taken named = named_rows found (codes "races") rows named held taken

-- a command that shows something of a run is one of all commands
pub show_taken : (found : Option (Text × List Row)) → IsSomeAnd found IsShowTaken → IsCommandTaken found
show_taken None shows = absurd shows
show_taken (Some f) shows = inr (inr (inr (inr (inr shows))))

-- so is one that asks more of a run
pub ask_taken : (found : Option (Text × List Row)) → IsSomeAnd found IsAskTaken → IsCommandTaken found
ask_taken None asks = absurd asks
ask_taken (Some f) asks = inr (inr (inr (inr (inr (inr (inr asks))))))

-- a command that is none of the first five shows something of a run
pub show_left : (found : Option (Text × List Row)) → (option_map (λ p. p.0) found ≡ Some (codes "check") → false ≡ true)
    → (option_map (λ p. p.0) found ≡ Some (codes "core") → false ≡ true) → (option_map (λ p. p.0) found ≡ Some (codes "plain") → false ≡ true)
    → (option_map (λ p. p.0) found ≡ Some (codes "judge") → false ≡ true) → (option_map (λ p. p.0) found ≡ Some (codes "explore") → false ≡ true)
    → IsCommandTaken found → IsSomeAnd found IsShowTaken
show_left None check core plain judge explore taken = absurd taken
show_left (Some f) check core plain judge explore taken = elim taken [
  | inl t ↦ let bad : false ≡ true = check (ap Some t.0) in absurd cc
  | inr (inl t) ↦ let bad : false ≡ true = core (ap Some t.0) in absurd cc
  | inr (inr (inl t)) ↦ let bad : false ≡ true = plain (ap Some t.0) in absurd cc
  | inr (inr (inr (inl t))) ↦ let bad : false ≡ true = judge (ap Some t.0) in absurd cc
  | inr (inr (inr (inr (inl t)))) ↦ let bad : false ≡ true = explore (ap Some t.0) in absurd cc
  | inr (inr (inr (inr (inr shows)))) ↦ shows
]

-- and one of these that is neither `sim` nor `run` asks more of it
pub ask_left : (found : Option (Text × List Row)) → (option_map (λ p. p.0) found ≡ Some (codes "sim") → false ≡ true)
    → (option_map (λ p. p.0) found ≡ Some (codes "run") → false ≡ true) → IsSomeAnd found IsShowTaken → IsSomeAnd found IsAskTaken
ask_left None sim run shows = absurd shows
ask_left (Some f) sim run shows = elim shows [
  | inl t ↦ let bad : false ≡ true = sim (ap Some t.0) in absurd cc
  | inr (inl t) ↦ let bad : false ≡ true = run (ap Some t.0) in absurd cc
  | inr (inr asks) ↦ asks
]

-- one that is none of the other four is `stats`
pub stats_left : (found : Option (Text × List Row)) → (option_map (λ p. p.0) found ≡ Some (codes "trace") → false ≡ true)
    → (option_map (λ p. p.0) found ≡ Some (codes "step") → false ≡ true) → (option_map (λ p. p.0) found ≡ Some (codes "chart") → false ≡ true)
    → (option_map (λ p. p.0) found ≡ Some (codes "explain") → false ≡ true) → IsSomeAnd found IsAskTaken
    → option_map (λ p. p.0) found ≡ Some (codes "stats")
stats_left None trace step chart explain asks = absurd asks
stats_left (Some f) trace step chart explain asks = elim asks [
  | inl t ↦ let bad : false ≡ true = trace (ap Some t.0) in absurd cc
  | inr (inl t) ↦ let bad : false ≡ true = step (ap Some t.0) in absurd cc
  | inr (inr (inl t)) ↦ let bad : false ≡ true = explain (ap Some t.0) in absurd cc
  | inr (inr (inr (inl t))) ↦ ap Some t.0
  | inr (inr (inr (inr t))) ↦ let bad : false ≡ true = chart (ap Some t.0) in absurd cc
]
