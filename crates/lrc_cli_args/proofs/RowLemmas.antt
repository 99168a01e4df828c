-- What clap's definitions say of the rows of a command in which it finds no fault: each has a value, and the values
-- pass their argument's parser.
use Rattle.std.proofs.Common.{◌≡◌, ◌∙◌, ◌<◌, ◌&&◌, ◌||◌, ◌⊎◌, ℕ, Bool, cond, true, false, not, zero, suc, refl, sym, ap, subst, arith, List, [], ◌∷◌}
use Rattle.std.proofs.Common.{◌++◌, length, drop, fold, Option, Some, None, inl, inr, is_some, find, IfSome, IsSome, option_map, true≢false, nat_lt}
use Rattle.std.proofs.Common.{tests, rules, length-append}
use Rattle.std.specs.Prelude.{encode_utf8, option_and_then, slice_get}
use Rattle.std.specs.List.{AllByRecursion, list_any}
use Rattle.std.specs.Option.{option_map_or}
use Rattle.std.specs.Str.{bytes_eq, chars}
use Rattle.std.proofs.lemmas.Slice.Eq.{bytes_eq-Decides}
use Rattle.clap.specs.Lexer.{long_of, short_of}
use Rattle.clap.specs.Facts.{explicit_source, parser_of_value, unwrap_or_range}
use Rattle.clap.specs.Values.{read_as}
use Rattle.clap.specs.Walk.{Held, Names, Outcome, Row, Rule, Step, Text, Waiting, Walk, action_of, after_flag, after_step, arg_by_id, arg_by_index}
use Rattle.clap.specs.Walk.{arg_by_long, arg_by_short, at_row, attached_value, bundle, bundle_met, bundle_step, default_rows, done, first_of, flag_met}
use Rattle.clap.specs.Walk.{has_row, idle, is_empty, is_pending, long_met, long_or_other, more_values, most_values, next, nothing_held}
use Rattle.clap.specs.Walk.{one_of, option, option_met}
use Rattle.clap.specs.Walk.{option_word, plain, plain_word, positional, reacted, reading_by, refused, row_text, rows_after, settled, settled_rows}
use Rattle.clap.specs.Walk.{short_met, short_or_plain, subcommand, subcommand_met, subcommand_or_other, takes_several, takes_values, to_positional}
use Rattle.clap.specs.Walk.{trailing, used, used_as, used_by_id, value, values_or_missing, waits, walk, walk_from, walked, walked_from, with_default}
use Rattle.clap.specs.Walk.{with_values, without, word_met}
use Rattle.clap.specs.Simple.{Shape}
use Rattle.clap.specs.Takes.{is_given}
use Rattle.clap.specs.Kinds.{Kinds, check_kinds, or_else, range_kinds, request_kinds, value_kinds, values_kinds}
use Rattle.clap.specs.Faults.{action_fault, bundle_fault, bundle_step_fault, check_fault, default_fault, defaults_fault, flag_word_fault}
use Rattle.clap.specs.Faults.{flags_fault, given_default_fault, level_fault, long_fault, option_fault, other_fault, positional_fault, react_fault}
use Rattle.clap.specs.Faults.{set_fault, settle_fault, short_fault, step_fault, turn_fault, use_fault, values_fault, walk_fault, word_fault}
use Rattle.clap.specs.declared.builder.action.ArgAction.{ArgAction}
use Rattle.clap.specs.declared.builder.action.ArgAction.TheVariants.{Set, SetTrue, Help}
use Rattle.clap.specs.declared.builder.value_parser.Reading.{Reading}
use Rattle.clap.specs.declared.builder.value_parser.ValueParser.{ValueParser}
use Rattle.clap.specs.declared.error.kind.ErrorKind.TheVariants.{InvalidValue, TooManyValues}
use Rattle.clap.specs.declared.parser.matches.ValueSource.{ValueSource}
use Rattle.clap.specs.declared.parser.matches.ValueSource.TheVariants.{CommandLine, DefaultValue}

-- ---- no fault

pub neither : (a b : Kinds) → or_else a b ≡ [] → (a ≡ []) × (b ≡ [])
neither [] b none = (refl, none)
neither (k ∷ ks) b none = absurd cc

if_all : {X : Type 0} (P : X → Type 0) (b : Bool) (x y : X) → (b ≡ true → P x) → (b ≡ false → P y) → P (cond b x y)
if_all P true x y h k = h refl
if_all P false x y h k = k refl

values_kinds-append : (ignore : Bool) (p : ValueParser) (xs ys : List Text) → values_kinds ignore p xs ≡ [] → values_kinds ignore p ys ≡ []
    → values_kinds ignore p (xs ++ ys) ≡ []
values_kinds-append ignore p [] ys h k = k
values_kinds-append ignore p (x ∷ xs) ys h k =
    let parts = neither _ _ h in
    ap (λ a. or_else a (values_kinds ignore p (xs ++ ys))) parts.0 ∙ values_kinds-append ignore p xs ys parts.1 k

-- ---- rows

-- the argument is the first of its id, and each use of it sets its values, or one that stands for them, or asks for help
pub record IsKeyed (c : List Rule) (a : Rule) : Type 0 where
  pub own : arg_by_id c a.id ≡ Some a
  pub acts : ((action_of a ≡ Set) × (0 < (unwrap_or_range a.range).start_inclusive)) ⊎ ((action_of a ≡ SetTrue) × (0 < length a.missing)) ⊎ (action_of a ≡ Help)

-- the row has a value, and it is as its argument wants
pub record IsGood (c : List Rule) (r : Row) : Type 0 where
  pub some : 0 < length r.values
  pub reading : (a : Rule) → arg_by_id c r.id ≡ Some a → r.reading ≡ reading_by a
  pub passes : (a : Rule) → arg_by_id c r.id ≡ Some a → values_fault a r.values ≡ []

abbrev pub AreGood : List Rule → List Row → Type 0
AreGood c = AllByRecursion (IsGood c)

good-append : (c : List Rule) (xs ys : List Row) → AreGood c xs → AreGood c ys → AreGood c (xs ++ ys)
good-append c [] ys h k = k
good-append c (x ∷ xs) ys h k = (h.0, good-append c xs ys h.1 k)

pub same_bytes : (xs ys : List ℕ) → bytes_eq xs ys ≡ true → xs ≡ ys
same_bytes xs ys h = (bytes_eq-Decides xs ys).0 h

good-at_row : (c : List Rule) (id : Text) (change : Row → List Row) (missing rows : List Row)
    → ((r : Row) → r.id ≡ id → IsGood c r → AreGood c (change r)) → AreGood c missing → AreGood c rows → AreGood c (at_row id change missing rows)
good-at_row c id change missing [] h k good = k
good-at_row c id change missing (r ∷ rs) h k good =
    if_all (AreGood c) (bytes_eq r.id id) _ _
    (λ e. good-append c (change r) rs (h r (same_bytes r.id id e) good.0) good.1)
    (λ e. (good.0, good-at_row c id change missing rs h k good.1))

good-with_values : (c : List Rule) (a : Rule) (source : ValueSource) (values : List Text) (rows : List Row) → IsKeyed c a → 0 < length values
    → values_fault a values ≡ [] → AreGood c rows → AreGood c (with_values a.id (reading_by a) source values rows)
good-with_values c a source values rows keyed some pass good =
    let same = λ (id : Text) (b : Rule) (e : id ≡ a.id) (f : arg_by_id c id ≡ Some b). let g : Some a ≡ Some b = sym keyed.own ∙ ap (arg_by_id c) (sym e) ∙ f in
    let h : a ≡ b = cc in h in
    good-at_row c a.id (more_values source values) _ rows
    (λ r e g. (
      record {
        some = omega (arith, length-append r.values values);
        reading = g.reading;
        passes = λ b f. values_kinds-append b.ignore_case (parser_of_value b.parser) r.values values (g.passes b f)
            (subst (λ (x : Rule). values_fault x values ≡ []) (same r.id b e f) pass);
      },
      tt,
    )) (
      record {
        some = some;
        reading = λ b f. ap reading_by (same a.id b refl f);
        passes = λ b f. subst (λ (x : Rule). values_fault x values ≡ []) (same a.id b refl f) pass;
      },
      tt,
    )
    good

good-without : (c : List Rule) (id : Text) (rows : List Row) → AreGood c rows → AreGood c (without id rows)
good-without c id rows good = good-at_row c id (λ _. []) [] rows (λ r e g. tt) tt good

-- ---- one use of an argument

some_values : (least most n : ℕ) → range_kinds least most n ≡ [] → 0 < least → 0 < n
some_values least most zero none some =
    let tested : nat_lt 0 least ≡ true = search (rules, tests) in
    let refusal : range_kinds least most 0 ≡ InvalidValue ∷ [] = rw tested refl in
    absurd cc
some_values least most (suc n) none some = omega arith

-- where there are values, they are used
given_some_values : (a : Rule) (values : List Text) → 0 < length values → 0 < length (values_or_missing a values)
given_some_values a [] some = absurd (omega arith)
given_some_values a (v ∷ vs) some = some

-- and where there are none, those that stand for them
missing_some_values : (a : Rule) (values : List Text) → 0 < length a.missing → 0 < length (values_or_missing a values)
missing_some_values a [] some = some
missing_some_values a (v ∷ vs) some = omega arith

set_good : (c : List Rule) (again : Bool) (a : Rule) (values : List Text) (rows : List Row) → IsKeyed c a → 0 < length values
    → set_fault again a values rows ≡ [] → AreGood c rows → AreGood c (with_values a.id (reading_by a) CommandLine values (without a.id rows))
set_good c again a values rows keyed some none good =
    good-with_values c a CommandLine values (without a.id rows) keyed some (neither _ _ none).1 (good-without c a.id rows good)

used_good : (c : List Rule) (again : Bool) (a : Rule) (values : List Text) (rows : List Row) → IsKeyed c a → use_fault again a values rows ≡ [] → AreGood c rows
    → AreGood c (used a values rows)
used_good c again a values rows keyed none good =
    let parts = neither (range_kinds (unwrap_or_range a.range).start_inclusive (most_values a) (length values)) _ none in
    elim keyed.acts [
      | inl sets ↦
          let some = given_some_values a values (some_values _ _ _ parts.0 sets.1) in
          let asks = subst (λ (x : ArgAction). action_fault x again a (values_or_missing a values) rows ≡ []) sets.0 parts.1 in
          subst (λ (x : ArgAction). AreGood c (used_as x a.id (reading_by a) (values_or_missing a values) rows)) (sym sets.0)
          (set_good c again a (values_or_missing a values) rows keyed some asks good)
      | inr (inl flags) ↦
          let some = missing_some_values a values flags.1 in
          let asks = subst (λ (x : ArgAction). action_fault x again a (values_or_missing a values) rows ≡ []) flags.0 parts.1 in
          subst (λ (x : ArgAction). AreGood c (used_as x a.id (reading_by a) (values_or_missing a values) rows)) (sym flags.0)
          (set_good c again a (values_or_missing a values) rows keyed some asks good)
      | inr (inr helps) ↦
          let asks = subst (λ (x : ArgAction). action_fault x again a (values_or_missing a values) rows ≡ []) helps parts.1 in
          absurd cc
    ]

-- ---- the walk over the words

found_keyed : (c d : List Rule) (p : Rule → Bool) (a : Rule) → AllByRecursion (IsKeyed c) d → find p d ≡ Some a → IsKeyed c a
found_keyed c [] p a keyed is = absurd (let bad : None ≡ Some a = is in cc)
found_keyed c (x ∷ xs) p a keyed is = go (p x) is (found_keyed c xs p a keyed.1)
  where
    go : (b : Bool) → cond b (Some x) (find p xs) ≡ Some a → (find p xs ≡ Some a → IsKeyed c a) → IsKeyed c a
    go true e later = let same : x ≡ a = cc in subst (IsKeyed c) same keyed.0
    go false e later = later e

module _ (c : List Rule) (again : Bool) (keyed : AllByRecursion (IsKeyed c) c) where
  -- an argument that is found, or none
  abbrev IsFoundIn : Option Rule → Type 0
  IsFoundIn found = (a : Rule) → found ≡ Some a → IsKeyed c a

  settled_good : (h : Held) → settle_fault c again h ≡ [] → AreGood c h.rows → AreGood c (settled c h).rows
  settled_good h none good = go h.pending none
    where
      by_id : (found : Option Rule) (values : List Text) → IsFoundIn found → option_map_or (λ a. use_fault again a values h.rows) found [] ≡ []
          → AreGood c (used_by_id found values h.rows)
      by_id None values is e = good
      by_id (Some a) values is e = used_good c again a values h.rows (is a refl) e good

      go : (p : Option (Text × List Text)) → option_map_or (λ p. option_map_or (λ a. use_fault again a p.1 h.rows) (arg_by_id c p.0) []) p [] ≡ []
          → AreGood c (settled_rows c p h.rows)
      go None e = good
      go (Some p) e = by_id (arg_by_id c p.0) p.1 (λ a is. found_keyed c c (λ x. bytes_eq x.id p.0) a keyed is) e

  reacted_good : (a : Rule) (values : List Text) (h : Held) → IsKeyed c a → react_fault c again a values h ≡ [] → AreGood c h.rows
      → AreGood c (reacted c a values h).rows
  reacted_good a values h is none good =
      let parts = neither (settle_fault c again h) _ none in
      used_good c again a values (settled c h).rows is parts.1 (settled_good h parts.0 good)

  option_good : (a : Rule) (v : Option Text) (h : Held) → IsKeyed c a → option_fault c again a v h ≡ [] → AreGood c h.rows
      → AreGood c (option_met c a v h).0.rows
  option_good a (Some v) h is none good = reacted_good a (v ∷ []) h is none good
  option_good a None h is none good = settled_good h none good

  flag_good : (a : Rule) (v : Option Text) (h : Held) → IsKeyed c a → cond (is_some v) (TooManyValues ∷ []) (react_fault c again a [] h) ≡ []
      → AreGood c h.rows → AreGood c (flag_met c a v h).0.rows
  flag_good a (Some v) h is none good = good
  flag_good a None h is none good = reacted_good a [] h is none good

  long_good : (found : Option Rule) (v : Option Text) (h : Held) → IsFoundIn found → long_fault c again found v h ≡ [] → AreGood c h.rows
      → AreGood c (long_met c found v h).0.rows
  long_good None v h is none good = good
  long_good (Some a) v h is none good = go (takes_values a) none
    where
      go : (b : Bool) → cond b (option_fault c again a v h) (cond (is_some v) (TooManyValues ∷ []) (react_fault c again a [] h)) ≡ []
          → AreGood c (cond b (option_met c a v h) (flag_met c a v h)).0.rows
      go true e = option_good a v h (is a refl) e good
      go false e = flag_good a v h (is a refl) e good

  short_good : (found : Option Rule) (rest : Text) (h : Held) (met : Held → Held × Outcome) (fault : Held → Kinds) → IsFoundIn found
      → ((k : Held) → fault k ≡ [] → AreGood c k.rows → AreGood c (met k).0.rows)
      → short_fault c again found rest h fault ≡ [] → AreGood c h.rows → AreGood c (short_met c found rest h met).0.rows
  short_good None rest h met fault is more none good = good
  short_good (Some a) rest h met fault is more none good = go (takes_values a) none
    where
      go : (b : Bool) → cond b (option_fault c again a (attached_value rest) h) (or_else (react_fault c again a [] h) (fault (reacted c a [] h))) ≡ []
          → AreGood c (cond b (option_met c a (attached_value rest) h) (met (reacted c a [] h))).0.rows
      go true e = option_good a (attached_value rest) h (is a refl) e good
      go false e =
          let parts = neither (react_fault c again a [] h) _ e in
          more _ parts.1 (reacted_good a [] h (is a refl) parts.0 good)

  step_good : (first : Option ℕ) (flags : Text) (skip : ℕ) (so_far : Outcome) (h : Held) (met : Text → ℕ → Outcome → Held → Held × Outcome) (fault : Text → ℕ
      → Held → Kinds)
      → ((t : Text) (n : ℕ) (o : Outcome) (k : Held) → fault t n k ≡ [] → AreGood c k.rows → AreGood c (met t n o k).0.rows)
      → bundle_step_fault c again first flags skip h fault ≡ [] → AreGood c h.rows → AreGood c (bundle_step c first flags skip so_far h met).0.rows
  step_good None flags skip so_far h met fault more none good = good
  step_good (Some x) flags zero so_far h met fault more none good =
      let rest = drop (length (encode_utf8 x)) flags in
      short_good (arg_by_short c x) rest h (met rest 0 done) (fault rest 0) (λ a is. found_keyed c c _ a keyed is) (λ k e g. more rest 0 done k e g) none good
  step_good (Some x) flags (suc skip) so_far h met fault more none good = more _ skip so_far h none good

  bundle_good : (k : ℕ) (flags : Text) (skip : ℕ) (so_far : Outcome) (h : Held) → flags_fault c again k flags skip h ≡ [] → AreGood c h.rows
      → AreGood c (bundle_met c k flags skip so_far h).0.rows
  unfolding flags_fault bundle_met
  bundle_good zero flags skip so_far h none good = good
  bundle_good (suc k) flags skip so_far h none good =
      step_good (slice_get (chars flags) 0) flags skip so_far h (bundle_met c k) (flags_fault c again k) (bundle_good k) none good

  plain_good : (waiting : Waiting) (word : Text) (h : Held) → AreGood c h.rows → AreGood c (plain_word c waiting word h).0.rows
  plain_good idle word h good = good
  plain_good positional word h good = good
  plain_good (option id) word h good = go (arg_by_id c id)
    where
      go : (found : Option Rule) → AreGood c (option_word found id word h).0.rows
      go None = good
      go (Some a) = good

  after_good : (waiting : Waiting) (word : Text) (h : Held) (o : Outcome) → AreGood c h.rows → AreGood c (after_flag c waiting word h o).0.rows
  after_good waiting word h done good = good
  after_good waiting word h (waits id) good = good
  after_good waiting word h plain good = plain_good waiting word h good
  after_good waiting word h refused good = plain_good waiting word h good

  flag_word_good : (waiting : Waiting) (word : Text) (name : Option (Text × Option Text)) (h : Held) → flag_word_fault c again name word h ≡ []
      → AreGood c h.rows
      → AreGood c (long_or_other c waiting word name h).0.rows
  flag_word_good waiting word (Some p) h none good =
      after_good waiting word _ (long_met c (arg_by_long c p.0) p.1 h).1
      (long_good (arg_by_long c p.0) p.1 h (λ a is. found_keyed c c _ a keyed is) none good)
  flag_word_good waiting word None h none good = go (short_of word) none
    where
      go : (flags : Option Text) → option_map_or (λ flags. bundle_fault c again flags h) flags [] ≡ []
          → AreGood c (short_or_plain c waiting word flags h).0.rows
      go None e = plain_good waiting word h good
      go (Some flags) e =
          after_good waiting word _ (bundle c flags h).1
          (bundle_good (length flags) flags h.skip plain (record h { skip = 0 }) e good)

  other_good : (waiting : Waiting) (position : ℕ) (word : Text) (h : Held)
      → cond (bytes_eq word (45 ∷ 45 ∷ [])) [] (flag_word_fault c again (long_of word) word h) ≡ [] → AreGood c h.rows
      → AreGood c (subcommand_or_other c None waiting position word h).0.rows
  other_good waiting position word h none good = go (bytes_eq word (45 ∷ 45 ∷ [])) none
    where
      go : (b : Bool) → cond b [] (flag_word_fault c again (long_of word) word h) ≡ []
          → AreGood c (cond b (h, trailing position) (long_or_other c waiting word (long_of word) h)).0.rows
      go true e = good
      go false e = flag_word_good waiting word (long_of word) h e good

  positional_good : (found : Option Rule) (word : Text) (w : Walk) (h : Held) (stray : Kinds) → IsFoundIn found
      → option_map_or (λ a. positional_fault c again a h) found stray ≡ [] → AreGood c h.rows → AreGood c (to_positional c found word w h).held.rows
  positional_good None word w h stray is none good = good
  positional_good (Some a) word w h stray is none good = go (is_pending a h.pending && takes_several a) none
    where
      go : (b : Bool) → cond b [] (settle_fault c again h) ≡ [] → AreGood c (cond b h (settled c h)).rows
      go true e = good
      go false e = settled_good h e good

-- a turn of the walk over a level's words
module _ (s : Shape) (keyed : AllByRecursion (IsKeyed s.rules) s.rules) where
  abbrev c : List Rule
  c = s.rules

  met_good : (names : Names) (is_trailing : Bool) (waiting : Waiting) (position : ℕ) (word : Text) (h : Held)
      → word_fault s names is_trailing waiting word h ≡ [] → AreGood c h.rows
      → AreGood c (word_met c names is_trailing waiting position word h).0.rows
  met_good names true waiting position word h none good = good
  met_good names false waiting position word h none good = go (subcommand_met names waiting word) none
    where
      go : (name : Option Text) → other_fault s name word h ≡ [] → AreGood c (subcommand_or_other c name waiting position word h).0.rows
      go (Some name) e = good
      go None e = other_good c s.args_override_self keyed waiting position word h e good

  stepped_good : (word : Text) (w : Walk) (h : Held) (met : Step) → step_fault s w.position h met ≡ [] → AreGood c h.rows
      → AreGood c (after_step c word w h met).held.rows
  stepped_good word w h (next waiting) none good = good
  stepped_good word w h (trailing position) none good = good
  stepped_good word w h (subcommand name) none good = good
  stepped_good word w h value none good =
      positional_good c s.args_override_self keyed (arg_by_index c w.position) word w h _ (λ a is. found_keyed c c _ a keyed is) none good

  turn_good : (names : Names) (w : Walk) (word : Text) → turn_fault s names w word ≡ [] → AreGood c w.held.rows → AreGood c (walked c names w word).held.rows
  unfolding walked
  turn_good names w word none good = go w.stopped none
    where
      go : (stopped : Option (Text × List Text))
          → cond (is_some stopped) [] (or_else (word_fault s names w.is_trailing w.waiting word w.held)
          (step_fault s w.position (word_met c names w.is_trailing w.waiting w.position word w.held).0
          (word_met c names w.is_trailing w.waiting w.position word w.held).1)) ≡ []
          → AreGood c (walked_from c names stopped w word).held.rows
      go (Some p) e = good
      go None e =
          let parts = neither (word_fault s names w.is_trailing w.waiting word w.held) _ e in
          stepped_good word w _ _ parts.1 (met_good names w.is_trailing w.waiting w.position word w.held parts.0 good)

  walk_good : (names : Names) (w : Walk) (words : List Text) → walk_fault s names w words ≡ [] → AreGood c w.held.rows
      → AreGood c (fold (walked c names) w words).held.rows
  unfolding walk_fault
  walk_good names w [] none good = good
  walk_good names w (word ∷ rest) none good =
      let parts = neither (turn_fault s names w word) _ none in
      walk_good names (walked c names w word) rest parts.1 (turn_good names w word parts.0 good)

-- ---- defaults

-- the defaults of the arguments that have no row yet
defaulted_good : (all d : List Rule) (rows : List Row) → AllByRecursion (IsKeyed all) d → defaults_fault rows d ≡ [] → AreGood all rows
    → AreGood all (fold with_default rows d)
unfolding defaults_fault
defaulted_good all [] rows keyed none good = good
defaulted_good all (a ∷ d) rows keyed none good =
    let parts = neither (default_fault rows a) _ none in
    defaulted_good all d (with_default rows a) keyed.1 parts.1 (go (has_row a.id rows) a.defaults parts.0)
  where
    go : (b : Bool) (defaults : List Text) → cond (b || is_empty defaults) [] (given_default_fault a defaults) ≡ []
        → AreGood all (cond b rows (default_rows a.id (reading_by a) defaults rows))
    go true defaults e = good
    go false [] e = good
    go false (v ∷ vs) e =
        let full : is_empty (v ∷ vs) ≡ false = search (rules, tests) in
        let passes = subst (λ (empty : Bool). cond empty [] (given_default_fault a (v ∷ vs)) ≡ []) full e in
        good-with_values all a DefaultValue (v ∷ vs) rows keyed.0 (omega arith)
        (neither (request_kinds (action_of a)) (values_fault a (v ∷ vs)) passes).1 good

or_left : (a b : Bool) → a ≡ true → (a || b) ≡ true
or_left true b e = refl
or_left false b e = absurd (true≢false (sym e))

or_right : (a b : Bool) → b ≡ true → (a || b) ≡ true
or_right true b e = refl
or_right false b e = e

or_with : (a b c : Bool) → (b ≡ true → c ≡ true) → (a || b) ≡ true → (a || c) ≡ true
or_with true b c h e = refl
or_with false b c h e = h e

module _ (how : Reading) (source : ValueSource) (values : List Text) where
  -- values that come leave no row out
  row_kept : (id other : Text) (rows : List Row) → has_row id rows ≡ true → has_row id (with_values other how source values rows) ≡ true
  row_kept id other [] there = absurd (true≢false (sym there))
  row_kept id other (r ∷ rs) there = if_all (λ rows. has_row id rows ≡ true) (bytes_eq r.id other) _ _ (λ e. there)
      (λ e. or_with (bytes_eq r.id id) (has_row id rs) _ (row_kept id other rs) there)

  -- and there is a row of their own
  row_placed : (id : Text) (rows : List Row) → has_row id (with_values id how source values rows) ≡ true
  row_placed id [] = or_left (bytes_eq id id) false ((bytes_eq-Decides id id).1 refl)
  row_placed id (r ∷ rs) = if_all (λ rows. has_row id rows ≡ true) (bytes_eq r.id id) _ _ (λ e. or_left (bytes_eq r.id id) (has_row id rs) e)
      (λ e. or_right (bytes_eq r.id id) _ (row_placed id rs))

defaults_kept : (id : Text) (d : List Rule) (rows : List Row) → has_row id rows ≡ true → has_row id (fold with_default rows d) ≡ true
defaults_kept id [] rows there = there
defaults_kept id (a ∷ d) rows there = defaults_kept id d (with_default rows a) (go (has_row a.id rows) a.defaults)
  where
    go : (b : Bool) (defaults : List Text) → has_row id (cond b rows (default_rows a.id (reading_by a) defaults rows)) ≡ true
    go true defaults = there
    go false [] = there
    go false (v ∷ vs) = row_kept (reading_by a) DefaultValue (v ∷ vs) id a.id rows there

-- an argument with a default has a row
defaulted_there : (d : List Rule) (a : Rule) (rows : List Row) → arg_by_id d a.id ≡ Some a → 0 < length a.defaults
    → has_row a.id (fold with_default rows d) ≡ true
defaulted_there [] a rows own some = absurd (let bad : None ≡ Some a = own in cc)
defaulted_there (x ∷ d) a rows own some = go (bytes_eq x.id a.id) own (λ e. defaulted_there d a (with_default rows x) e some)
  where
    placed : (b : Bool) (defaults : List Text) → has_row a.id rows ≡ b → 0 < length defaults
        → has_row a.id (cond b rows (default_rows a.id (reading_by a) defaults rows)) ≡ true
    placed true defaults is h = is
    placed false [] is h = absurd (omega arith)
    placed false (v ∷ vs) is h = row_placed (reading_by a) DefaultValue (v ∷ vs) a.id rows

    go : (b : Bool) → cond b (Some x) (arg_by_id d a.id) ≡ Some a
        → (arg_by_id d a.id ≡ Some a → has_row a.id (fold with_default (with_default rows x) d) ≡ true)
        → has_row a.id (fold with_default (with_default rows x) d) ≡ true
    go true e later =
        let same : x ≡ a = cc in
        defaults_kept a.id d (with_default rows x)
        (subst (λ (y : Rule). has_row a.id (with_default rows y) ≡ true) (sym same) (placed (has_row a.id rows) a.defaults refl some))
    go false e later = later e

first_some : (values : List Text) → 0 < length values → IsSome (slice_get values 0)
first_some [] none = absurd (omega arith)
first_some (v ∷ vs) has = refl

-- a row has a first value
row_some : (all : List Rule) (id : Text) (rows : List Row) → AreGood all rows → has_row id rows ≡ true → IsSome (first_of id rows)
row_some all id [] good there = absurd (true≢false (sym there))
row_some all id (r ∷ rs) good there = go (bytes_eq r.id id) there (row_some all id rs good.1)
  where
    go : (b : Bool) → (b || has_row id rs) ≡ true → (has_row id rs ≡ true → IsSome (first_of id rs))
        → IsSome (option_and_then (λ x. slice_get x.values 0) (cond b (Some r) (find (λ x. bytes_eq x.id id) rs)))
    go true e later = first_some r.values good.0.some
    go false e later = later e

-- what holds of the rows of a level in which clap finds no fault
pub record IsLevel (s : Shape) (rows : List Row) : Type 0 where
  pub good : AreGood s.rules rows
  -- an argument with a default has a value
  pub there : (a : Rule) → arg_by_id s.rules a.id ≡ Some a → 0 < length a.defaults → IsSome (first_of a.id rows)
  pub checked : check_fault s rows false ≡ []

pub level_good : (s : Shape) (words : List Text) → AllByRecursion (IsKeyed s.rules) s.rules → level_fault s [] nothing_held words false [] ≡ []
    → IsLevel s (rows_after s.rules [] words)
level_good s words keyed none =
    let end = (walk s.rules [] nothing_held words).held in
    let first = neither (walk_fault s [] (walk_from nothing_held) words) _ none in
    let second = neither (settle_fault s.rules s.args_override_self end) _ first.1 in
    let third = neither (defaults_fault (settled s.rules end).rows s.rules) _ second.1 in
    let walked_good = walk_good s keyed [] (walk_from nothing_held) words first.0 tt in
    let settled_rows_good = settled_good s.rules s.args_override_self keyed end second.0 walked_good in
    let good = defaulted_good s.rules s.rules (settled s.rules end).rows keyed third.0 settled_rows_good in
    record {
      good = good;
      there = λ a own some. row_some s.rules a.id _ good (defaulted_there s.rules a (settled s.rules end).rows own some);
      checked = third.1;
    }

-- ---- what is read of good rows

-- the row of an id, where there is one
pub found_good : (c : List Rule) (id : Text) (rows : List Row) (r : Row) → AreGood c rows → find (λ x. bytes_eq x.id id) rows ≡ Some r
    → IsGood c r × (r.id ≡ id)
found_good c id [] r good is = absurd (let bad : None ≡ Some r = is in cc)
found_good c id (x ∷ xs) r good is = go (bytes_eq x.id id) refl is (found_good c id xs r good.1)
  where
    go : (b : Bool) → bytes_eq x.id id ≡ b → cond b (Some x) (find (λ y. bytes_eq y.id id) xs) ≡ Some r
        → (find (λ y. bytes_eq y.id id) xs ≡ Some r → IsGood c r × (r.id ≡ id)) → IsGood c r × (r.id ≡ id)
    go true tested e later = let same : x ≡ r = cc in subst (λ (y : Row). IsGood c y × (y.id ≡ id)) same (good.0, same_bytes x.id id tested)
    go false tested e later = later e

-- an argument that was given has a value
pub given_some : (c : List Rule) (id : Text) (rows : List Row) → AreGood c rows → is_given id rows ≡ true → IsSome (first_of id rows)
given_some c id rows good given = go (find (λ r. bytes_eq r.id id) rows) refl given
  where
    go : (o : Option Row) → find (λ r. bytes_eq r.id id) rows ≡ o → option_map_or (λ r. explicit_source r.source) o false ≡ true
        → IsSome (option_and_then (λ r. slice_get r.values 0) o)
    go None is e = absurd (true≢false (sym e))
    go (Some r) is e = first_some r.values (found_good c id rows r good is).0.some

-- the first value of an argument passes its parser, and is read as the parser says
pub first_passes : (c : List Rule) (a : Rule) (rows : List Row) → AreGood c rows → arg_by_id c a.id ≡ Some a
    → IfSome (first_of a.id rows) (λ text. value_kinds a.ignore_case (parser_of_value a.parser) text ≡ [])
    × (one_of a.id rows ≡ option_map (read_as (reading_by a)) (first_of a.id rows))
first_passes c a rows good own = go (find (λ r. bytes_eq r.id a.id) rows) refl
  where
    pass : (values : List Text) → values_fault a values ≡ []
        → IfSome (slice_get values 0) (λ text. value_kinds a.ignore_case (parser_of_value a.parser) text ≡ [])
    pass [] e = tt
    pass (v ∷ vs) e = (neither _ _ e).0

    go : (o : Option Row) → find (λ r. bytes_eq r.id a.id) rows ≡ o
        → IfSome (option_and_then (λ r. slice_get r.values 0) o) (λ text. value_kinds a.ignore_case (parser_of_value a.parser) text ≡ [])
        × (option_and_then row_text o ≡ option_map (read_as (reading_by a)) (option_and_then (λ r. slice_get r.values 0) o))
    go None is = (tt, refl)
    go (Some r) is =
        let found = found_good c a.id rows r good is in
        let own_id : arg_by_id c r.id ≡ Some a = ap (arg_by_id c) found.1 ∙ own in
        (pass r.values (found.0.passes a own_id), ap (λ how. option_map (read_as how) (slice_get r.values 0)) (found.0.reading a own_id))

wanted_none : (help sub wanted : Bool) → check_kinds help sub wanted ≡ [] → wanted ≡ false
wanted_none true sub wanted e = absurd cc
wanted_none false true wanted e = absurd cc
wanted_none false false true e = absurd cc
wanted_none false false false e = refl

given_of : (required given : Bool) → (required && not given) ≡ false → required ≡ true → given ≡ true
given_of true true e r = refl
given_of true false e r = absurd (true≢false e)
given_of false given e r = absurd (true≢false (sym r))

either_none : (a b : Bool) → (a || b) ≡ false → (a ≡ false) × (b ≡ false)
either_none true b e = absurd (true≢false e)
either_none false b e = (refl, e)

-- each required argument was given
pub required_given : (s : Shape) (rows : List Row) → check_fault s rows false ≡ [] → AllByRecursion (λ a. a.required ≡ true → is_given a.id rows ≡ true) s.rules
required_given s rows none = each s.rules (unless s.subcommand_negates_reqs (wanted_none _ _ _ none))
  where
    unless : (b : Bool) → (not (b && false) && list_any (λ a. a.required && not (is_given a.id rows)) s.rules) ≡ false
        → list_any (λ a. a.required && not (is_given a.id rows)) s.rules ≡ false
    unless true e = e
    unless false e = e

    each : (c : List Rule) → list_any (λ a. a.required && not (is_given a.id rows)) c ≡ false
        → AllByRecursion (λ a. a.required ≡ true → is_given a.id rows ≡ true) c
    each [] e = tt
    each (a ∷ c) e =
        let parts = either_none (a.required && not (is_given a.id rows)) _ e in
        (given_of a.required (is_given a.id rows) parts.0, each c parts.1)
