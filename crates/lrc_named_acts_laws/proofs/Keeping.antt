-- The core of statements sets no name that the statements around them hold.
use Rattle.std.proofs.Common.{◌≡◌, ◌≢◌, ℕ, ◌+◌, ◌≤◌, List, arith}
use Rattle.lrc_named_tree.specs.Tree.{Expressions, Place, Named, Arms}
use Rattle.lrc_named_tree.specs.Tree as tree
use Rattle.lrc_named_names.specs.Names.{Declared, Item}
use Rattle.lrc_named_constants.specs.Constant.{Known}
use Rattle.lrc_named_core.specs.Tree.{own, Expression, Statement, Block, Origin, assign, read, write, acquire, release, barrier, print, if_else, while_do, empty, next, only, behind}
use Rattle.lrc_named_translation.specs.Made.{IsMade, IsByRule, AreMade}
use Rattle.lrc_named_translation.specs.Made as made
use Rattle.lrc_named_statements.specs.Statements.{AreCores, ArePrinted, IsAddress, IsChoice, IsCore, IsElse, IsHeldFor, IsHeldWith}
use Rattle.lrc_named_statements.specs.Statements as rule
use Rattle.lrc_named_acts_laws.specs.Coded.{AllSet, IsNotOwn, KeepAll, Keeps, Numbers, Sets, block_coded, number_of, statement_coded}

-- these statements do not set the name of the translation's own with this number
abbrev pub Keep : ℕ → Block → Type 0
Keep k b = AllSet (IsNotOwn k) b

-- ---- by numbers

mutual
  pub sets_keep : (numbers : Numbers) (k : ℕ) (s : Statement) → Sets (λ name. number_of numbers name ≢ numbers.of_own k) s
      → Keeps (numbers.of_own k) (statement_coded numbers s)
  sets_keep numbers k (assign origin name value) other = other
  sets_keep numbers k (read origin name word) other = other
  sets_keep numbers k (write origin word value) other = tt
  sets_keep numbers k (acquire origin lock) other = tt
  sets_keep numbers k (release origin lock) other = tt
  sets_keep numbers k (barrier origin) other = tt
  sets_keep numbers k (print origin value) other = tt
  sets_keep numbers k (if_else origin condition first second) other = (all_keep numbers k first other.0, all_keep numbers k second other.1)
  sets_keep numbers k (while_do origin condition inside) other = all_keep numbers k inside other

  pub all_keep : (numbers : Numbers) (k : ℕ) (b : Block) → AllSet (λ name. number_of numbers name ≢ numbers.of_own k) b
      → KeepAll (numbers.of_own k) (block_coded numbers b)
  all_keep numbers k empty other = tt
  all_keep numbers k (next first others) other = (sets_keep numbers k first other.0, all_keep numbers k others other.1)

-- ---- by the rules

-- What comes before an expression sets no name that is held, and names are only taken.
record Before (k taken after : ℕ) (before : Block) : Type 0 where
  keeps : k ≤ taken → Keep k before
  grows : taken ≤ after

module _ (k : ℕ) (declared : List Declared) where
  pub both : (a b : Block) → Keep k a → Keep k b → Keep k (behind a b)
  both empty b has more = more
  both (next s a) b has more = (has.0, both a b has.1 more)

  later : (j : ℕ) → k ≤ j → j + 1 ≢ k
  later j le same = omega (arith, same)

  no_more : (taken : ℕ) → Before k taken taken empty
  no_more taken = record { keeps = λ le. tt; grows = omega arith }

  within : (a b c : ℕ) → a ≤ b → b ≤ c → a ≤ c
  within a b c le less = omega arith

  in_turn : (taken between after : ℕ) (before inside : Block) (at : Origin) (f l g m : ℕ) (x c y : Expression)
      → Before k taken between before → Before k (between + 1) after inside
      → Before k taken after (behind before (next (assign at (own (between + 1) f l) x)
      (only (if_else at c (behind inside (only (assign at (own (between + 1) g m) y))) empty))))
  in_turn taken between after before inside at f l g m x c y one other =
      record {
        keeps = λ le.
            let now : k ≤ between = within k taken between le one.grows in
            let set = later between now in
            let then_le : k ≤ between + 1 = omega arith in
            both before _ (one.keeps le) (set, ((both inside _ (other.keeps then_le) (set, tt), tt), tt));
        grows = let a = one.grows in let b = other.grows in omega (arith, a, b);
      }

  mutual
    made_before : {at : Origin} {known : List Known} {cores : List Expression} {e : tree.Expression} {taken after : ℕ} {before : Block} {p : Expression}
        → IsMade declared at known cores e taken before p after → Before k taken after before
    made_before (made.a_value {taken = taken} c) = no_more taken
    made_before (made.by_rule c h r) = ruled r

    ruled : {at : Origin} {known : List Known} {cores : List Expression} {e : tree.Expression} {taken after : ℕ} {before : Block} {p : Expression}
        → IsByRule declared at known cores e taken before p after → Before k taken after before
    ruled (made.a_number {taken = taken}) = no_more taken
    ruled (made.the_node {taken = taken}) = no_more taken
    ruled (made.node_count {taken = taken}) = no_more taken
    ruled (made.a_parameter {taken = taken} h c) = no_more taken
    ruled (made.a_private_name {taken = taken} h c) = no_more taken
    ruled (made.a_constant {taken = taken} h c) = no_more taken
    ruled (made.a_shared_item {taken = taken} {after = after} {before = before} h c m) =
        let f = all_before m in record {
          keeps = λ le. both before _ (f.keeps le) (later after (within k taken after le f.grows), tt);
          grows = let g = f.grows in omega (arith, g);
        }
    ruled (made.a_call {taken = taken} {between = between} {after = after} {before = before} {inside = inside} h c m n) =
        let f = all_before m in
        let g = made_before n in record {
          keeps = λ le. both before inside (f.keeps le) (g.keeps (within k taken between le f.grows));
          grows = within taken between after f.grows g.grows;
        }
    ruled (made.parentheses m) = made_before m
    ruled (made.a_negation m) = made_before m
    ruled (made.a_binary {taken = taken} {between = between} {after = after} {first = first} {second = second} m n) =
        let f = made_before m in
        let g = made_before n in record {
          keeps = λ le. both first second (f.keeps le) (g.keeps (within k taken between le f.grows));
          grows = within taken between after f.grows g.grows;
        }
    ruled (made.both_at_once m n h) = made_before m
    ruled (made.both_in_turn {taken = taken} {between = between} {after = after} {before = before} {inside = inside} m n h) =
        in_turn taken between after before inside _ _ _ _ _ _ _ _ (made_before m) (made_before n)
    ruled (made.either_at_once m n h) = made_before m
    ruled (made.either_in_turn {taken = taken} {between = between} {after = after} {before = before} {inside = inside} m n h) =
        in_turn taken between after before inside _ _ _ _ _ _ _ _ (made_before m) (made_before n)

    all_before : {at : Origin} {known : List Known} {cores : List Expression} {es : Expressions} {taken after : ℕ} {before : Block} {ps : List Expression}
        → AreMade declared at known cores es taken before ps after → Before k taken after before
    all_before (made.no_expression {taken = taken}) = no_more taken
    all_before (made.one_expression {taken = taken} {between = between} {after = after} {before = before} {behind_it = second} m n) =
        let f = made_before m in
        let g = all_before n in record {
          keeps = λ le. both before second (f.keeps le) (g.keeps (within k taken between le f.grows));
          grows = within taken between after f.grows g.grows;
        }

  address_before : {token : ℕ} {item : Item} {indices : Expressions} {taken after : ℕ} {before : Block} {p : Expression}
      → IsAddress declared token item indices taken before p after → Before k taken after before
  address_before (rule.an_address m) = all_before m

  next_le : (j : ℕ) → k ≤ j → k ≤ j + 1
  next_le j le = omega arith

  mutual
    core_keeps : {held : ℕ} {s : tree.Statement} {core : Block} → IsCore declared held s core → k ≤ held → Keep k core
    core_keeps (rule.read_into {p = p} {before = before} pr h m x) le = both before _ ((address_before x).keeps le) (tt, tt)
    core_keeps (rule.set_to {p = p} {before = before} pr alone m) le = both before _ ((made_before m).keeps le) (tt, tt)
    core_keeps (rule.changed_by {p = p} {before = before} pr op m) le = both before _ ((made_before m).keeps le) (tt, tt)
    core_keeps (rule.written {held = held} {between = between} {first = first} {second = second} m x n) le =
        let f = address_before x in
        both first _ (f.keeps le) (both second _ ((made_before n).keeps (within k held between le f.grows)) (tt, tt))
    core_keeps (rule.written_over {held = held} {between = between} {first = first} {second = second} m op x n) le =
        let f = address_before x in
        let now = within k held between le f.grows in
        both first _ (f.keeps le) (later between now, both second _ ((made_before n).keeps (next_le between now)) (tt, tt))
    core_keeps (rule.acquired {before = before} m x) le = both before _ ((address_before x).keeps le) (tt, tt)
    core_keeps (rule.released {before = before} m x) le = both before _ ((address_before x).keeps le) (tt, tt)
    core_keeps (rule.with_lock {before = before} {within = inside} m x free c) le =
        both before _ ((address_before x).keeps le) (tt, both inside _ (cores_keep c le) (tt, tt))
    core_keeps (rule.with_lock_held m x has h) le = held_with_keeps h le
    core_keeps rule.at_barrier le = (tt, tt)
    core_keeps (rule.printed ps) le = printed_keep ps le
    core_keeps (rule.asserted {held = held} {after = after} {before = before} m free) le =
        let f = made_before m in both before _ (f.keeps le) (later after (within k held after le f.grows), tt)
    core_keeps (rule.asserted_after {held = held} {after = after} {before = before} m divides) le =
        let f = made_before m in
        let set = later after (within k held after le f.grows) in
        both before _ (f.keeps le) (set, (set, tt))
    core_keeps (rule.chosen c) le = choice_keeps c le
    core_keeps (rule.repeated {before = before} {within = inside} {again = again} m c n) le =
        both before _ ((made_before m).keeps le) (both inside again (cores_keep c le) ((made_before n).keeps le), tt)
    core_keeps (rule.counted {held = held} {between = between} {name = name} {one = one} {two = two} {within = inside} m n free c) le =
        let f = made_before m in
        both one _ (f.keeps le) (both two _ ((made_before n).keeps (within k held between le f.grows))
        (tt, ((both inside _ (cores_keep c le) (tt, tt)), tt)))
    core_keeps (rule.counted_held m n has h) le = held_for_keeps h le

    held_with_keeps : {held token close : ℕ} {p : Place} {inside : tree.Block} {core : Block} → IsHeldWith declared held token p inside close core
        → k ≤ held → Keep k core
    held_with_keeps (rule.a_held_with {held = held} {before = before} {within = inside} m x c) le =
        both before _ ((address_before x).keeps (next_le held le))
        (later held le, (tt, both inside _ (cores_keep c (next_le held le)) (tt, tt)))

    held_for_keeps : {held token : ℕ} {name : Named} {first end : tree.Expression} {inside : tree.Block} {core : Block}
        → IsHeldFor declared held token name first end inside core → k ≤ held → Keep k core
    held_for_keeps (rule.a_held_for {held = held} {between = between} {name = name} {one = one} {two = two} {within = inside} m n c) le =
        let f = made_before m in
        let now = next_le held le in
        both one _ (f.keeps now) (both two _ ((made_before n).keeps (within k (held + 1) between now f.grows))
        (later held le, (tt, ((both inside _ (cores_keep c now) (tt, tt)), tt))))

    choice_keeps : {held token : ℕ} {condition : tree.Expression} {then otherwise : tree.Block} {others : Arms} {core : Block}
        → IsChoice declared held token condition then others otherwise core → k ≤ held → Keep k core
    choice_keeps (rule.a_choice {before = before} m c e) le = both before _ ((made_before m).keeps le) ((cores_keep c le, else_keeps e le), tt)

    else_keeps : {held : ℕ} {others : Arms} {otherwise : tree.Block} {core : Block} → IsElse declared held others otherwise core → k ≤ held
        → Keep k core
    else_keeps (rule.last_block c) le = cores_keep c le
    else_keeps (rule.else_if c) le = choice_keeps c le

    printed_keep : {held token : ℕ} {es : Expressions} {core : Block} → ArePrinted declared held token es core → k ≤ held → Keep k core
    printed_keep rule.none_printed le = tt
    printed_keep (rule.one_printed {before = before} m f) le = both before _ ((made_before m).keeps le) (tt, printed_keep f le)

    pub cores_keep : {held : ℕ} {statements : tree.Block} {core : Block} → AreCores declared held statements core → k ≤ held → Keep k core
    cores_keep rule.no_statement le = tt
    cores_keep (rule.one_statement {first = first} {second = second} c f) le = both first second (core_keeps c le) (cores_keep f le)
