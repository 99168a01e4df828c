-- What clap's definitions say of words in which they find no fault: they name one of the commands, with a FILE, and
-- the values of its options are such as they take.
use Rattle.std.proofs.Common.{◌≡◌, ◌∙◌, ◌⊎◌, ◌||◌, Bool, cond, true, false, refl, codes, List, [], ◌∷◌}
use Rattle.std.proofs.Common.{Option, Some, None, IfSome, IsSome, IsSomeAnd, inl, inr, is_some, lit<, option_map}
use Rattle.std.specs.List.{AllByRecursion}
use Rattle.std.specs.Option.{option_map_or}
use Rattle.std.specs.Str.{bytes_eq}
use Rattle.clap.specs.Words.{App, IsUnsignedIn, Row, Shape, Text, first_of, subcommand_of}
use Rattle.clap.specs.Walk.{answers_to, arg_by_id, finished, nothing_held, rows_after, settled, stop_after, walk, walk_from}
use Rattle.clap.specs.Simple.{built_leaf, entered, filled, inherited, label_of, names_of, rows_at}
use Rattle.clap.specs.Kinds.{value_kinds}
use Rattle.clap.specs.ValueTests.{accepts}
use Rattle.clap.specs.Faults.{check_fault, defaults_fault, entered_fault, fault_of, level_fault, settle_fault, walk_fault}
use Rattle.clap.specs.declared.builder.value_parser.ValueParser.TheVariants.{Unsigned, Bool as BoolParser}
use Rattle.clap.specs.declared.error.kind.ErrorKind.TheVariants.{InvalidValue, ValueValidation}
use Rattle.clap.proofs.ValueTestLemmas.{accepts-Accepts}
use Rattle.lrc_cli_args.specs.CommandLine.{IsRequestTaken}
use Rattle.lrc_cli_words.specs.Commands.{act, bare_number, chart_command, check_command, collect, core_command, explain_command, explore_command, flag_option, form, help_command, judge_command, lint_command, memory, nodes, number_option, order, page}
use Rattle.lrc_cli_words.specs.Commands.{plain_command, races_command, run_command, sim_command, stats_command, step_command, steps, trace_command, trace_form, treadmarks, treadmarks_shape, version_command}
use Rattle.lrc_cli_words.specs.Commands.{why_command}
use Rattle.lrc_cli_args.specs.Options.{HasValue, IsBareNumber, IsChartTaken, IsExploreTaken, IsFlagOption, IsJudgeTaken, IsNumberOption, IsPlainTaken, IsRunTaken}
use Rattle.lrc_cli_args.specs.Options.{IsPartTaken, IsRacesTaken, IsShowingTaken, IsSimTaken, IsStepTaken, IsTraceTaken, IsWhyTaken}
use Rattle.lrc_cli_args.proofs.RowLemmas.{IsKeyed, IsLevel, first_passes, given_some, level_good, neither, required_given, same_bytes}

abbrev check_built : Shape
check_built = built_leaf (inherited treadmarks_shape check_command.top)

abbrev core_built : Shape
core_built = built_leaf (inherited treadmarks_shape core_command.top)

abbrev plain_built : Shape
plain_built = built_leaf (inherited treadmarks_shape plain_command.top)

abbrev sim_built : Shape
sim_built = built_leaf (inherited treadmarks_shape sim_command.top)

abbrev run_built : Shape
run_built = built_leaf (inherited treadmarks_shape run_command.top)

abbrev trace_built : Shape
trace_built = built_leaf (inherited treadmarks_shape trace_command.top)

abbrev step_built : Shape
step_built = built_leaf (inherited treadmarks_shape step_command.top)

abbrev explain_built : Shape
explain_built = built_leaf (inherited treadmarks_shape explain_command.top)

abbrev stats_built : Shape
stats_built = built_leaf (inherited treadmarks_shape stats_command.top)

abbrev chart_built : Shape
chart_built = built_leaf (inherited treadmarks_shape chart_command.top)

abbrev judge_built : Shape
judge_built = built_leaf (inherited treadmarks_shape judge_command.top)

abbrev explore_built : Shape
explore_built = built_leaf (inherited treadmarks_shape explore_command.top)

abbrev why_built : Shape
why_built = built_leaf (inherited treadmarks_shape why_command.top)

abbrev lint_built : Shape
lint_built = built_leaf (inherited treadmarks_shape lint_command.top)

abbrev races_built : Shape
races_built = built_leaf (inherited treadmarks_shape races_command.top)

abbrev help_built : Shape
help_built = built_leaf (inherited treadmarks_shape help_command.top)

abbrev version_built : Shape
version_built = built_leaf (inherited treadmarks_shape version_command.top)

check_keyed : AllByRecursion (IsKeyed check_built.rules) check_built.rules
check_keyed = (
  record { own = refl; acts = inl (refl, lit< tt) },
  (
    record { own = refl; acts = inr (inr refl) },
    tt,
  ),
)

core_keyed : AllByRecursion (IsKeyed core_built.rules) core_built.rules
core_keyed = (record { own = refl; acts = inl (refl, lit< tt) }, (record { own = refl; acts = inr (inr refl) }, tt))

plain_keyed : AllByRecursion (IsKeyed plain_built.rules) plain_built.rules
plain_keyed = (
  record { own = refl; acts = inl (refl, lit< tt) },
  (
    record { own = refl; acts = inl (refl, lit< tt) },
    (
      record { own = refl; acts = inl (refl, lit< tt) },
      (
        record { own = refl; acts = inr (inr refl) },
        tt,
      ),
    ),
  ),
)

sim_keyed : AllByRecursion (IsKeyed sim_built.rules) sim_built.rules
sim_keyed = (
  record { own = refl; acts = inl (refl, lit< tt) },
  (
    record { own = refl; acts = inl (refl, lit< tt) },
    (
      record { own = refl; acts = inl (refl, lit< tt) },
      (
        record { own = refl; acts = inl (refl, lit< tt) },
        (
          record { own = refl; acts = inl (refl, lit< tt) },
          (
            record { own = refl; acts = inl (refl, lit< tt) },
            (
              record { own = refl; acts = inl (refl, lit< tt) },
              (
                record { own = refl; acts = inl (refl, lit< tt) },
                (
                  record { own = refl; acts = inl (refl, lit< tt) },
                  (
                    record { own = refl; acts = inr (inr refl) },
                    tt,
                  ),
                ),
              ),
            ),
          ),
        ),
      ),
    ),
  ),
)

run_keyed : AllByRecursion (IsKeyed run_built.rules) run_built.rules
run_keyed = (
  record { own = refl; acts = inl (refl, lit< tt) },
  (
    record { own = refl; acts = inl (refl, lit< tt) },
    (
      record { own = refl; acts = inl (refl, lit< tt) },
      (
        record { own = refl; acts = inl (refl, lit< tt) },
        (
          record { own = refl; acts = inl (refl, lit< tt) },
          (
            record { own = refl; acts = inl (refl, lit< tt) },
            (
              record { own = refl; acts = inr (inr refl) },
              tt,
            ),
          ),
        ),
      ),
    ),
  ),
)

trace_keyed : AllByRecursion (IsKeyed trace_built.rules) trace_built.rules
trace_keyed = (record { own = refl; acts = inl (refl, lit< tt) }, (record { own = refl; acts = inl (refl, lit< tt) }, (record { own = refl; acts = inl (refl, lit< tt) }, (record { own = refl; acts = inl (refl, lit< tt) }, (record { own = refl; acts = inl (refl, lit< tt) }, (record { own = refl; acts = inl (refl, lit< tt) }, (record { own = refl; acts = inl (refl, lit< tt) }, (record { own = refl; acts = inl (refl, lit< tt) }, (record { own = refl; acts = inl (refl, lit< tt) }, (record { own = refl; acts = inr (inl (refl, lit< tt)) }, (record { own = refl; acts = inl (refl, lit< tt) }, (record { own = refl; acts = inr (inl (refl, lit< tt)) }, (record { own = refl; acts = inl (refl, lit< tt) }, (record { own = refl; acts = inl (refl, lit< tt) }, (record { own = refl; acts = inr (inr refl) }, tt)))))))))))))))

step_keyed : AllByRecursion (IsKeyed step_built.rules) step_built.rules
step_keyed = (record { own = refl; acts = inl (refl, lit< tt) }, (record { own = refl; acts = inl (refl, lit< tt) }, (record { own = refl; acts = inl (refl, lit< tt) }, (record { own = refl; acts = inl (refl, lit< tt) }, (record { own = refl; acts = inl (refl, lit< tt) }, (record { own = refl; acts = inl (refl, lit< tt) }, (record { own = refl; acts = inl (refl, lit< tt) }, (record { own = refl; acts = inl (refl, lit< tt) }, (record { own = refl; acts = inl (refl, lit< tt) }, (record { own = refl; acts = inr (inl (refl, lit< tt)) }, (record { own = refl; acts = inl (refl, lit< tt) }, (record { own = refl; acts = inl (refl, lit< tt) }, (record { own = refl; acts = inr (inr refl) }, tt)))))))))))))

explain_keyed : AllByRecursion (IsKeyed explain_built.rules) explain_built.rules
explain_keyed = (
  record { own = refl; acts = inl (refl, lit< tt) },
  (
    record { own = refl; acts = inl (refl, lit< tt) },
    (
      record { own = refl; acts = inl (refl, lit< tt) },
      (
        record { own = refl; acts = inl (refl, lit< tt) },
        (
          record { own = refl; acts = inl (refl, lit< tt) },
          (
            record { own = refl; acts = inl (refl, lit< tt) },
            (
              record { own = refl; acts = inl (refl, lit< tt) },
              (
                record { own = refl; acts = inl (refl, lit< tt) },
                (
                  record { own = refl; acts = inl (refl, lit< tt) },
                  (
                    record { own = refl; acts = inr (inl (refl, lit< tt)) },
                    (
                      record { own = refl; acts = inr (inr refl) },
                      tt,
                    ),
                  ),
                ),
              ),
            ),
          ),
        ),
      ),
    ),
  ),
)

stats_keyed : AllByRecursion (IsKeyed stats_built.rules) stats_built.rules
stats_keyed = (
  record { own = refl; acts = inl (refl, lit< tt) },
  (
    record { own = refl; acts = inl (refl, lit< tt) },
    (
      record { own = refl; acts = inl (refl, lit< tt) },
      (
        record { own = refl; acts = inl (refl, lit< tt) },
        (
          record { own = refl; acts = inl (refl, lit< tt) },
          (
            record { own = refl; acts = inl (refl, lit< tt) },
            (
              record { own = refl; acts = inl (refl, lit< tt) },
              (
                record { own = refl; acts = inl (refl, lit< tt) },
                (
                  record { own = refl; acts = inl (refl, lit< tt) },
                  (
                    record { own = refl; acts = inr (inl (refl, lit< tt)) },
                    (
                      record { own = refl; acts = inr (inr refl) },
                      tt,
                    ),
                  ),
                ),
              ),
            ),
          ),
        ),
      ),
    ),
  ),
)

chart_keyed : AllByRecursion (IsKeyed chart_built.rules) chart_built.rules
chart_keyed = (record { own = refl; acts = inl (refl, lit< tt) }, (record { own = refl; acts = inl (refl, lit< tt) }, (record { own = refl; acts = inl (refl, lit< tt) }, (record { own = refl; acts = inl (refl, lit< tt) }, (record { own = refl; acts = inl (refl, lit< tt) }, (record { own = refl; acts = inl (refl, lit< tt) }, (record { own = refl; acts = inl (refl, lit< tt) }, (record { own = refl; acts = inl (refl, lit< tt) }, (record { own = refl; acts = inl (refl, lit< tt) }, (record { own = refl; acts = inr (inl (refl, lit< tt)) }, (record { own = refl; acts = inl (refl, lit< tt) }, (record { own = refl; acts = inr (inl (refl, lit< tt)) }, (record { own = refl; acts = inl (refl, lit< tt) }, (record { own = refl; acts = inl (refl, lit< tt) }, (record { own = refl; acts = inl (refl, lit< tt) }, (record { own = refl; acts = inr (inl (refl, lit< tt)) }, (record { own = refl; acts = inr (inr refl) }, tt)))))))))))))))))

judge_keyed : AllByRecursion (IsKeyed judge_built.rules) judge_built.rules
judge_keyed = (
  record { own = refl; acts = inl (refl, lit< tt) },
  (
    record { own = refl; acts = inl (refl, lit< tt) },
    (
      record { own = refl; acts = inr (inl (refl, lit< tt)) },
      (
        record { own = refl; acts = inr (inl (refl, lit< tt)) },
        (
          record { own = refl; acts = inl (refl, lit< tt) },
          (
            record { own = refl; acts = inl (refl, lit< tt) },
            (
              record { own = refl; acts = inl (refl, lit< tt) },
              (
                record { own = refl; acts = inr (inr refl) },
                tt,
              ),
            ),
          ),
        ),
      ),
    ),
  ),
)

explore_keyed : AllByRecursion (IsKeyed explore_built.rules) explore_built.rules
explore_keyed = (record { own = refl; acts = inl (refl, lit< tt) }, (record { own = refl; acts = inl (refl, lit< tt) }, (record { own = refl; acts = inl (refl, lit< tt) }, (record { own = refl; acts = inl (refl, lit< tt) }, (record { own = refl; acts = inr (inl (refl, lit< tt)) }, (record { own = refl; acts = inl (refl, lit< tt) }, (record { own = refl; acts = inl (refl, lit< tt) }, (record { own = refl; acts = inr (inl (refl, lit< tt)) }, (record { own = refl; acts = inr (inl (refl, lit< tt)) }, (record { own = refl; acts = inl (refl, lit< tt) }, (record { own = refl; acts = inl (refl, lit< tt) }, (record { own = refl; acts = inl (refl, lit< tt) }, (record { own = refl; acts = inl (refl, lit< tt) }, (record { own = refl; acts = inr (inr refl) }, tt))))))))))))))

why_keyed : AllByRecursion (IsKeyed why_built.rules) why_built.rules
why_keyed = (record { own = refl; acts = inl (refl, lit< tt) }, (record { own = refl; acts = inl (refl, lit< tt) }, (record { own = refl; acts = inl (refl, lit< tt) }, (record { own = refl; acts = inl (refl, lit< tt) }, (record { own = refl; acts = inl (refl, lit< tt) }, (record { own = refl; acts = inl (refl, lit< tt) }, (record { own = refl; acts = inl (refl, lit< tt) }, (record { own = refl; acts = inl (refl, lit< tt) }, (record { own = refl; acts = inl (refl, lit< tt) }, (record { own = refl; acts = inl (refl, lit< tt) }, (record { own = refl; acts = inl (refl, lit< tt) }, (record { own = refl; acts = inl (refl, lit< tt) }, (record { own = refl; acts = inr (inr refl) }, tt)))))))))))))

lint_keyed : AllByRecursion (IsKeyed lint_built.rules) lint_built.rules
lint_keyed = (record { own = refl; acts = inl (refl, lit< tt) }, (record { own = refl; acts = inr (inr refl) }, tt))

races_keyed : AllByRecursion (IsKeyed races_built.rules) races_built.rules
races_keyed = (record { own = refl; acts = inl (refl, lit< tt) }, (record { own = refl; acts = inl (refl, lit< tt) }, (record { own = refl; acts = inr (inl (refl, lit< tt)) }, (record { own = refl; acts = inr (inl (refl, lit< tt)) }, (record { own = refl; acts = inr (inl (refl, lit< tt)) }, (record { own = refl; acts = inr (inl (refl, lit< tt)) }, (record { own = refl; acts = inr (inl (refl, lit< tt)) }, (record { own = refl; acts = inl (refl, lit< tt) }, (record { own = refl; acts = inl (refl, lit< tt) }, (record { own = refl; acts = inl (refl, lit< tt) }, (record { own = refl; acts = inr (inr refl) }, tt)))))))))))

-- a value that the parser of numbers let through
bare_passed : (text : Option Text) → IfSome text (λ t. value_kinds false (Unsigned 0 18446744073709551615) t ≡ [])
    → IfSome text (IsUnsignedIn 0 18446744073709551615)
bare_passed None none = tt
bare_passed (Some t) none = accepts-Accepts false (Unsigned 0 18446744073709551615) t (go (accepts false (Unsigned 0 18446744073709551615) t) none)
  where
    go : (b : Bool) → cond b [] (ValueValidation ∷ []) ≡ [] → b ≡ true
    go true e = refl
    go false e = absurd cc

number_passed : (text : Option Text) → IsSome text → IfSome text (IsUnsignedIn 0 18446744073709551615)
    → IsSomeAnd text (IsUnsignedIn 0 18446744073709551615)
number_passed None there fits = absurd cc
number_passed (Some t) there fits = fits

either_true : (a b : Bool) → (a || b) ≡ true → (a ≡ true) ⊎ (b ≡ true)
either_true true b e = inl refl
either_true false b e = inr e

-- a value that the parser of flags let through
flag_passed : (text : Option Text) → IsSome text → IfSome text (λ t. value_kinds false BoolParser t ≡ [])
    → IsSomeAnd text (λ t. (t ≡ codes "true") ⊎ (t ≡ codes "false"))
flag_passed None there none = absurd cc
flag_passed (Some t) there none =
    let takes = accepts-Accepts false BoolParser t (go (accepts false BoolParser t) none) in
    elim (either_true (bytes_eq t (codes "true")) (bytes_eq t (codes "false")) takes) [
      | inl e ↦ inl (same_bytes t (codes "true") e)
      | inr e ↦ inr (same_bytes t (codes "false") e)
    ]
  where
    go : (b : Bool) → cond b [] (InvalidValue ∷ []) ≡ [] → b ≡ true
    go true e = refl
    go false e = absurd cc

same_text : (o : Option Text) → option_map (λ t. t) o ≡ o
same_text None = refl
same_text (Some t) = refl

-- what clap makes sure of in the rows of a level
module _ (s : Shape) (rows : List Row) (level : IsLevel s rows) where
  number_taken : (name value : Text) → arg_by_id s.rules name ≡ Some (filled (number_option name value)) → IsNumberOption name rows
  number_taken name value own =
      let first = first_passes s.rules (filled (number_option name value)) rows level.good own in
      record {
        number = number_passed (first_of name rows) (level.there (filled (number_option name value)) own (lit< tt)) (bare_passed (first_of name rows) first.0);
        as_written = first.1 ∙ same_text (first_of name rows);
      }

  bare_taken : (name : Text) → arg_by_id s.rules name ≡ Some (filled (bare_number name)) → IsBareNumber name rows
  bare_taken name own =
      let first = first_passes s.rules (filled (bare_number name)) rows level.good own in
      record { number = bare_passed (first_of name rows) first.0; as_written = first.1 ∙ same_text (first_of name rows) }

  flag_taken : (name : Text) → arg_by_id s.rules name ≡ Some (filled (flag_option name)) → IsFlagOption name rows
  flag_taken name own =
      let first = first_passes s.rules (filled (flag_option name)) rows level.good own in
      record {
        said = flag_passed (first_of name rows) (level.there (filled (flag_option name)) own (lit< tt)) first.0;
        as_written = first.1 ∙ same_text (first_of name rows);
      }

  -- of a command with a FILE and the two numbers of a run on the plain machine
  all_plain_taken : HasValue (codes "FILE") rows → arg_by_id s.rules (codes "nodes") ≡ Some (filled nodes)
      → arg_by_id s.rules (codes "steps") ≡ Some (filled steps) → IsPlainTaken rows
  all_plain_taken file nodes_own steps_own = record {
    file = file;
    nodes = number_taken (codes "nodes") (codes "1") nodes_own;
    steps = number_taken (codes "steps") (codes "1000000") steps_own;
  }

  -- of one that has the other options of a run too
  all_run_taken : IsPlainTaken rows → arg_by_id s.rules (codes "collect") ≡ Some (filled collect)
      → arg_by_id s.rules (codes "order") ≡ Some (filled order) → arg_by_id s.rules (codes "page") ≡ Some (filled page) → IsRunTaken rows
  all_run_taken plain collect_own order_own page_own = record {
    plain = plain;
    collect = number_taken (codes "collect") (codes "0") collect_own;
    order = level.there (filled order) order_own (lit< tt);
    page = level.there (filled page) page_own (lit< tt);
  }

  -- of one that has a seed too
  all_sim_taken : IsRunTaken rows → arg_by_id s.rules (codes "seed") ≡ Some (filled (bare_number (codes "seed"))) → IsSimTaken rows
  all_sim_taken run seed_own = record { run = run; seed = bare_taken (codes "seed") seed_own }

  -- of one that has a flag for threads too
  all_showing_taken : IsSimTaken rows → arg_by_id s.rules (codes "threads") ≡ Some (filled (flag_option (codes "threads"))) → IsShowingTaken rows
  all_showing_taken sim threads_own = record { sim = sim; threads = flag_taken (codes "threads") threads_own }

  -- of one that shows a part of a run
  all_part_taken : arg_by_id s.rules (codes "from") ≡ Some (filled (bare_number (codes "from")))
      → arg_by_id s.rules (codes "to") ≡ Some (filled (bare_number (codes "to"))) → IsPartTaken rows
  all_part_taken from_own to_own = record { from = bare_taken (codes "from") from_own; to = bare_taken (codes "to") to_own }

check_taken : (words : List Text) → level_fault check_built [] nothing_held words false [] ≡ [] → HasValue (codes "FILE") (rows_after check_built.rules [] words)
check_taken words none =
    let rows = rows_after check_built.rules [] words in
    let level = level_good check_built words check_keyed none in
    let file = given_some check_built.rules (codes "FILE") rows level.good ((required_given check_built rows level.checked).0 refl) in
    file

core_taken : (words : List Text) → level_fault core_built [] nothing_held words false [] ≡ [] → HasValue (codes "FILE") (rows_after core_built.rules [] words)
core_taken words none =
    let rows = rows_after core_built.rules [] words in
    let level = level_good core_built words core_keyed none in
    given_some core_built.rules (codes "FILE") rows level.good ((required_given core_built rows level.checked).0 refl)

plain_taken : (words : List Text) → level_fault plain_built [] nothing_held words false [] ≡ [] → IsPlainTaken (rows_after plain_built.rules [] words)
plain_taken words none =
    let rows = rows_after plain_built.rules [] words in
    let level = level_good plain_built words plain_keyed none in
    let file = given_some plain_built.rules (codes "FILE") rows level.good ((required_given plain_built rows level.checked).0 refl) in
    all_plain_taken plain_built rows level file refl refl

sim_taken : (words : List Text) → level_fault sim_built [] nothing_held words false [] ≡ [] → IsSimTaken (rows_after sim_built.rules [] words)
sim_taken words none =
    let rows = rows_after sim_built.rules [] words in
    let level = level_good sim_built words sim_keyed none in
    let file = given_some sim_built.rules (codes "FILE") rows level.good ((required_given sim_built rows level.checked).0 refl) in
    all_sim_taken sim_built rows level (all_run_taken sim_built rows level (all_plain_taken sim_built rows level file refl refl) refl refl refl) refl

run_taken : (words : List Text) → level_fault run_built [] nothing_held words false [] ≡ [] → IsRunTaken (rows_after run_built.rules [] words)
run_taken words none =
    let rows = rows_after run_built.rules [] words in
    let level = level_good run_built words run_keyed none in
    let file = given_some run_built.rules (codes "FILE") rows level.good ((required_given run_built rows level.checked).0 refl) in
    all_run_taken run_built rows level (all_plain_taken run_built rows level file refl refl) refl refl refl

trace_taken : (words : List Text) → level_fault trace_built [] nothing_held words false [] ≡ [] → IsTraceTaken (rows_after trace_built.rules [] words)
trace_taken words none =
    let rows = rows_after trace_built.rules [] words in
    let level = level_good trace_built words trace_keyed none in
    let file = given_some trace_built.rules (codes "FILE") rows level.good ((required_given trace_built rows level.checked).0 refl) in
    let run = all_run_taken trace_built rows level (all_plain_taken trace_built rows level file refl refl) refl refl refl in
    record {
      showing = all_showing_taken trace_built rows level (all_sim_taken trace_built rows level run refl) refl;
      form = level.there (filled form) refl (lit< tt);
      messages = flag_taken trace_built rows level (codes "messages") refl;
      part = all_part_taken trace_built rows level refl refl;
    }

step_taken : (words : List Text) → level_fault step_built [] nothing_held words false [] ≡ [] → IsStepTaken (rows_after step_built.rules [] words)
step_taken words none =
    let rows = rows_after step_built.rules [] words in
    let level = level_good step_built words step_keyed none in
    let file = given_some step_built.rules (codes "FILE") rows level.good ((required_given step_built rows level.checked).0 refl) in
    let run = all_run_taken step_built rows level (all_plain_taken step_built rows level file refl refl) refl refl refl in
    record {
      showing = all_showing_taken step_built rows level (all_sim_taken step_built rows level run refl) refl;
      part = all_part_taken step_built rows level refl refl;
    }

explain_taken : (words : List Text) → level_fault explain_built [] nothing_held words false [] ≡ [] → IsShowingTaken (rows_after explain_built.rules [] words)
explain_taken words none =
    let rows = rows_after explain_built.rules [] words in
    let level = level_good explain_built words explain_keyed none in
    let file = given_some explain_built.rules (codes "FILE") rows level.good ((required_given explain_built rows level.checked).0 refl) in
    let run = all_run_taken explain_built rows level (all_plain_taken explain_built rows level file refl refl) refl refl refl in
    all_showing_taken explain_built rows level (all_sim_taken explain_built rows level run refl) refl

stats_taken : (words : List Text) → level_fault stats_built [] nothing_held words false [] ≡ [] → IsShowingTaken (rows_after stats_built.rules [] words)
stats_taken words none =
    let rows = rows_after stats_built.rules [] words in
    let level = level_good stats_built words stats_keyed none in
    let file = given_some stats_built.rules (codes "FILE") rows level.good ((required_given stats_built rows level.checked).0 refl) in
    let run = all_run_taken stats_built rows level (all_plain_taken stats_built rows level file refl refl) refl refl refl in
    all_showing_taken stats_built rows level (all_sim_taken stats_built rows level run refl) refl

chart_taken : (words : List Text) → level_fault chart_built [] nothing_held words false [] ≡ [] → IsChartTaken (rows_after chart_built.rules [] words)
chart_taken words none =
    let rows = rows_after chart_built.rules [] words in
    let level = level_good chart_built words chart_keyed none in
    record {
      nodes = number_taken chart_built rows level (codes "nodes") (codes "1") refl;
      run = λ file.
          all_showing_taken chart_built rows level
          (all_sim_taken chart_built rows level (all_run_taken chart_built rows level (all_plain_taken chart_built rows level file refl refl) refl refl refl) refl)
          refl;
      text = flag_taken chart_built rows level (codes "text") refl;
      from = bare_taken chart_built rows level (codes "from") refl;
      to = bare_taken chart_built rows level (codes "to") refl;
      source = flag_taken chart_built rows level (codes "source") refl;
    }

judge_taken : (words : List Text) → level_fault judge_built [] nothing_held words false [] ≡ [] → IsJudgeTaken (rows_after judge_built.rules [] words)
judge_taken words none =
    let rows = rows_after judge_built.rules [] words in
    let level = level_good judge_built words judge_keyed none in
    let file = given_some judge_built.rules (codes "FILE") rows level.good ((required_given judge_built rows level.checked).0 refl) in
    record {
      file = file;
      nodes = bare_taken judge_built rows level (codes "nodes") refl;
      pairs = flag_taken judge_built rows level (codes "pairs") refl;
      all = flag_taken judge_built rows level (codes "all") refl;
      page = level.there (filled page) refl (lit< tt);
      collect = number_taken judge_built rows level (codes "collect") (codes "0") refl;
    }

explore_taken : (words : List Text) → level_fault explore_built [] nothing_held words false [] ≡ [] → IsExploreTaken (rows_after explore_built.rules [] words)
explore_taken words none =
    let rows = rows_after explore_built.rules [] words in
    let level = level_good explore_built words explore_keyed none in
    let file = given_some explore_built.rules (codes "FILE") rows level.good ((required_given explore_built rows level.checked).0 refl) in
    record {
      file = file;
      nodes = number_taken explore_built rows level (codes "nodes") (codes "1") refl;
      most = number_taken explore_built rows level (codes "most") (codes "1000000") refl;
      memory = level.there (filled memory) refl (lit< tt);
      outcomes = flag_taken explore_built rows level (codes "outcomes") refl;
      outcome = bare_taken explore_built rows level (codes "outcome") refl;
      tries = bare_taken explore_built rows level (codes "tries") refl;
      races = flag_taken explore_built rows level (codes "ignore-races") refl;
      ends = flag_taken explore_built rows level (codes "ends") refl;
      page = level.there (filled page) refl (lit< tt);
      collect = number_taken explore_built rows level (codes "collect") (codes "0") refl;
    }

lint_taken : (words : List Text) → level_fault lint_built [] nothing_held words false [] ≡ [] → HasValue (codes "FILE") (rows_after lint_built.rules [] words)
lint_taken words none =
    let rows = rows_after lint_built.rules [] words in
    let level = level_good lint_built words lint_keyed none in
    given_some lint_built.rules (codes "FILE") rows level.good ((required_given lint_built rows level.checked).0 refl)

races_taken : (words : List Text) → level_fault races_built [] nothing_held words false [] ≡ [] → IsRacesTaken (rows_after races_built.rules [] words)
races_taken words none =
    let rows = rows_after races_built.rules [] words in
    let level = level_good races_built words races_keyed none in
    record {
      file = given_some races_built.rules (codes "FILE") rows level.good ((required_given races_built rows level.checked).0 refl);
      form = level.there (filled trace_form) refl (lit< tt);
      group = flag_taken races_built rows level (codes "group") refl;
      locations = flag_taken races_built rows level (codes "locations") refl;
      sure = flag_taken races_built rows level (codes "sure") refl;
      json = flag_taken races_built rows level (codes "json") refl;
      strict = flag_taken races_built rows level (codes "strict") refl;
    }

why_taken : (words : List Text) → level_fault why_built [] nothing_held words false [] ≡ [] → IsWhyTaken (rows_after why_built.rules [] words)
why_taken words none =
    let rows = rows_after why_built.rules [] words in
    let level = level_good why_built words why_keyed none in
    let asked = given_some why_built.rules (codes "act") rows level.good ((required_given why_built rows level.checked).1.1.1.1.1.1.1.1.1.1.0 refl) in
    let first = first_passes why_built.rules (filled act) rows level.good refl in
    record {
      nodes = number_taken why_built rows level (codes "nodes") (codes "1") refl;
      page = level.there (filled page) refl (lit< tt);
      act = record {
        number = number_passed (first_of (codes "act") rows) asked (bare_passed (first_of (codes "act") rows) first.0);
        as_written = first.1 ∙ same_text (first_of (codes "act") rows);
      };
      other = bare_taken why_built rows level (codes "and") refl;
      run = λ file.
          all_sim_taken why_built rows level (all_run_taken why_built rows level (all_plain_taken why_built rows level file refl refl) refl refl refl) refl;
    }

-- the top of the command line, as clap builds it
abbrev top_built : App
top_built = record {
  top = built_leaf (record treadmarks_shape { is_leaf = false });
  subs = check_built ∷ core_built ∷ plain_built ∷ sim_built ∷ run_built ∷ trace_built ∷ step_built ∷ explain_built ∷ stats_built ∷ chart_built ∷ judge_built ∷ explore_built ∷ why_built ∷ lint_built ∷ races_built ∷ help_built ∷ version_built ∷ [];
}

one_named : (rows : List Row) (stop : Option (Text × List Text)) → entered_fault top_built stop ≡ []
    → check_fault top_built.top rows (is_some (entered top_built stop)) ≡ []
    → IsRequestTaken (entered top_built stop)
one_named rows None none checked = absurd cc
one_named rows (Some p) none checked =
    go (answers_to p.0 (label_of check_built)) (answers_to p.0 (label_of core_built)) (answers_to p.0 (label_of plain_built)) (answers_to p.0 (label_of sim_built))
    (answers_to p.0 (label_of run_built)) (answers_to p.0 (label_of trace_built)) (answers_to p.0 (label_of step_built)) (answers_to p.0 (label_of explain_built))
    (answers_to p.0 (label_of stats_built)) (answers_to p.0 (label_of chart_built)) (answers_to p.0 (label_of judge_built)) (answers_to p.0 (label_of explore_built))
    (answers_to p.0 (label_of why_built)) (answers_to p.0 (label_of lint_built)) (answers_to p.0 (label_of races_built)) (answers_to p.0 (label_of help_built)) (answers_to p.0 (label_of version_built)) none checked
  where
    shape : Bool → Bool → Bool → Bool → Bool → Bool → Bool → Bool → Bool → Bool → Bool → Bool → Bool → Bool → Bool → Bool → Bool → Option Shape
    shape a z b d f h j i k l m n o q t u w =
        cond a (Some check_built) (cond z (Some core_built) (cond b (Some plain_built) (cond d (Some sim_built) (
        cond f (Some run_built) (cond h (Some trace_built) (cond j (Some step_built) (cond i (Some explain_built) (
        cond k (Some stats_built) (cond l (Some chart_built) (cond m (Some judge_built) (cond n (Some explore_built) (
        cond o (Some why_built) (cond q (Some lint_built) (cond t (Some races_built) (cond u (Some help_built) (cond w (Some version_built) None))))))))))))))))

    go : (a z b d f h j i k l m n o q t u w : Bool) → option_map_or (λ s. level_fault s [] nothing_held p.1 false []) (shape a z b d f h j i k l m n o q t u w) [] ≡ []
        → check_fault top_built.top rows (is_some (option_map (λ s. rows_at s p.1) (shape a z b d f h j i k l m n o q t u w))) ≡ []
        → IsRequestTaken (option_map (λ s. rows_at s p.1) (shape a z b d f h j i k l m n o q t u w))
    go true z b d f h j i k l m n o q t u w e checked = inr (inr (inr (inl (refl, check_taken p.1 e))))
    go false true b d f h j i k l m n o q t u w e checked = inr (inr (inr (inr (inl (refl, core_taken p.1 e)))))
    go false false true d f h j i k l m n o q t u w e checked = inr (inr (inr (inr (inr (inl (refl, plain_taken p.1 e))))))
    go false false false true f h j i k l m n o q t u w e checked = inr (inr (inr (inr (inr (inr (inr (inr (inl (refl, sim_taken p.1 e)))))))))
    go false false false false true h j i k l m n o q t u w e checked = inr (inr (inr (inr (inr (inr (inr (inr (inr (inl (refl, run_taken p.1 e))))))))))
    go false false false false false true j i k l m n o q t u w e checked = inr (inr (inr (inr (inr (inr (inr (inr (inr (inr (inl (refl, trace_taken p.1 e)))))))))))
    go false false false false false false true i k l m n o q t u w e checked = inr (inr (inr (inr (inr (inr (inr (inr (inr (inr (inr (inl (refl, step_taken p.1 e))))))))))))
    go false false false false false false false true k l m n o q t u w e checked = inr (inr (inr (inr (inr (inr (inr (inr (inr (inr (inr (inr (inl (refl, explain_taken p.1 e)))))))))))))
    go false false false false false false false false true l m n o q t u w e checked = inr (inr (inr (inr (inr (inr (inr (inr (inr (inr (inr (inr (inr (inl (refl, stats_taken p.1 e))))))))))))))
    go false false false false false false false false false true m n o q t u w e checked = inr (inr (inr (inr (inr (inr (inr (inr (inr (inr (inr (inr (inr (inr (refl, chart_taken p.1 e))))))))))))))
    go false false false false false false false false false false true n o q t u w e checked = inr (inr (inr (inr (inr (inr (inl (refl, judge_taken p.1 e)))))))
    go false false false false false false false false false false false true o q t u w e checked = inr (inr (inr (inr (inr (inr (inr (inl (refl, explore_taken p.1 e))))))))
    go false false false false false false false false false false false false true q t u w e checked = inr (inr (inl (inr (refl, why_taken p.1 e))))
    go false false false false false false false false false false false false false true t u w e checked = inr (inr (inl (inl (refl, lint_taken p.1 e))))
    go false false false false false false false false false false false false false false true u w e checked = inr (inl (refl, races_taken p.1 e))
    go false false false false false false false false false false false false false false false true w e checked = inl (inl refl)
    go false false false false false false false false false false false false false false false false true e checked = inl (inr refl)
    go false false false false false false false false false false false false false false false false false e checked = absurd cc

pub taken : (words : List Text) → fault_of treadmarks words ≡ [] → IsRequestTaken (subcommand_of treadmarks words)
unfolding treadmarks
taken words none =
    let stop = stop_after top_built.top.rules (names_of top_built) words in
    let end = (walk top_built.top.rules (names_of top_built) nothing_held words).held in
    let first = neither (walk_fault top_built.top (names_of top_built) (walk_from nothing_held) words) _ none in
    let second = neither (entered_fault top_built stop) _ first.1 in
    let third = neither (settle_fault top_built.top.rules false end) _ second.1 in
    let fourth = neither (defaults_fault (settled top_built.top.rules end).rows top_built.top.rules) _ third.1 in
    one_named (finished top_built.top.rules end) stop second.0 fourth.1
