-- All that is found of a program: nothing twice.
use Rattle.std.proofs.Common.{◌≡◌, ◌∙◌, ◌+◌, ℕ, Option, Some, None, List, [], ◌++◌, refl, sym, ap, arith}
use Rattle.std.specs.Prelude.{◌&&◌, nat_lt, option_map, slice_get, slice_index_or}
use Rattle.std.proofs.lemmas.Option.{same_Some}
use Rattle.std.specs.List.{flat_map, list_any}
use Rattle.lrc_lang.specs.Grammar.{IsProgram}
use Rattle.lrc_lang.specs.Token.{Token}
use Rattle.lrc_program.specs.Tree.{ProgramTree}
use Rattle.lrc_lint_warned.specs.declared.found.Found.{Found}
use Rattle.lrc_lint_warned.specs.declared.found.Kind.{Kind}
use Rattle.lrc_lint_warned.specs.declared.found.Kind.TheVariants as kinds
use Rattle.lrc_lint_warned.specs.declared.held.Side.TheVariants.{Acquired, Released}
use Rattle.lrc_lint_warned.specs.Access.{lock_beyond, no_such_lock, no_such_lock_at, no_such_word}
use Rattle.lrc_lint_warned.specs.Blocks.{is_barrier, learning_nothing, learns_kind, rounds_kind, uncertain_rounds, unchanged_conditions, unchanged_kind}
use Rattle.lrc_lint_warned.specs.Blocks.{uneven_barriers, uneven_kind}
use Rattle.lrc_lint_warned.specs.Constant.{constant_of}
use Rattle.lrc_program.specs.Statements.{Statement, assign, read, write, acquire, release, barrier, print, if_else, while_do}
use Rattle.lrc_lint_warned.specs.Found.{StatementAt, found_at}
use Rattle.lrc_lint_warned.specs.Held.{Path, held_already, held_already_at, held_at_barrier, held_at_barrier_at, is_under, least_held}
use Rattle.lrc_lint_warned.specs.Held.{not_held, not_held_at, paths, with_path}
use Rattle.lrc_lint_warned.specs.Locks.{acquires, may_release, never_released, never_released_of, releases}
use Rattle.lrc_lint_warned.specs.Names.{never_read, never_set}
use Rattle.lrc_lint_warned.specs.Operations.{below_zero, division_by_zero}
use Rattle.lrc_lint_warned.specs.Words.{is_known, never_written, never_written_at, unless_known, word_read}
use Rattle.lrc_lint_warnings.specs.Collected.{found_in}
use Rattle.lrc_lint_laws.specs.Once.{IsOnce}
use Rattle.lrc_lint_laws.proofs.Turns.{N, Part, S, at_part, below_part, division_part, each_part, learns_turn, lock_turn, never_read_part}
use Rattle.lrc_lint_laws.proofs.Turns.{never_set_part, range_part}
use Rattle.lrc_lint_laws.proofs.Turns.{rounds_turn, statement_once, together, turn_of, unchanged_turn, uneven_turn, word_part}
use Rattle.lrc_lint_laws.proofs.Once.{In, in_each_at, in_found_at_some, in_found_if_some, in_found_where_some, in_none_at, in_one_at, in_unless}
use Rattle.lrc_lint_laws.proofs.Once.{in_where, once_each}
use Rattle.lrc_lint_laws.proofs.Once.{once_found_at, once_found_if, once_found_where, once_if, once_none, once_one}

-- fifteen lists, one behind the other as they are put together
all_once : (a b c d e f g h i j k l m n o : List Found) → Part 0 1 a → Part 1 2 b → Part 2 3 c → Part 3 4 d → Part 4 5 e → Part 5 6 f → Part 6 7 g
    → Part 7 8 h → Part 8 9 i → Part 9 10 j → Part 10 11 k → Part 11 12 l → Part 12 13 m → Part 13 14 n → Part 14 15 o
    → IsOnce (((([] ++ a ++ b ++ c ++ d) ++ e ++ f ++ g ++ h) ++ i ++ j ++ k) ++ l ++ m ++ n ++ o)
all_once a b c d e f g h i j k l m n o pa pb pc pd pe pf pg ph pi pj pk pl pm pn po =
    let u2 = together 0 1 2 _ b (omega arith) (omega arith) pa pb in
    let u3 = together 0 2 3 _ c (omega arith) (omega arith) u2 pc in
    let u4 = together 0 3 4 _ d (omega arith) (omega arith) u3 pd in
    let u5 = together 0 4 5 _ e (omega arith) (omega arith) u4 pe in
    let u6 = together 0 5 6 _ f (omega arith) (omega arith) u5 pf in
    let u7 = together 0 6 7 _ g (omega arith) (omega arith) u6 pg in
    let u8 = together 0 7 8 _ h (omega arith) (omega arith) u7 ph in
    let u9 = together 0 8 9 _ i (omega arith) (omega arith) u8 pi in
    let u10 = together 0 9 10 _ j (omega arith) (omega arith) u9 pj in
    let u11 = together 0 10 11 _ k (omega arith) (omega arith) u10 pk in
    let u12 = together 0 11 12 _ l (omega arith) (omega arith) u11 pl in
    let u13 = together 0 12 13 _ m (omega arith) (omega arith) u12 pm in
    let u14 = together 0 13 14 _ n (omega arith) (omega arith) u13 pn in
    (together 0 14 15 _ o (omega arith) (omega arith) u14 po).once

module _ (p : ProgramTree) (tokens : List Token) (is_text : IsProgram p tokens) where
  abbrev All' : List StatementAt
  All' = S p tokens is_text

  -- a place so many tokens behind the beginning of a statement
  behind_once : (n k l : ℕ) (s t : StatementAt) → slice_get All' k ≡ Some s → slice_get All' l ≡ Some t
      → s.at + n ≡ t.at + n → k ≡ l
  behind_once n k l s t is also same = statement_once p tokens is_text k l s t is also (omega (arith, same))

  lock_in : (locks at : ℕ) (s : Statement) (z : Found) → In (no_such_lock_at locks at s) z → (at + 1 ≡ z.at) × (turn_of z.kind ≡ 5)
  lock_in locks at (acquire e) z has = let h = in_found_at_some (at + 1) (lock_beyond locks (constant_of e)) z has in (h.0, lock_turn locks (constant_of e) z.kind h.1)
  lock_in locks at (release e) z has = let h = in_found_at_some (at + 1) (lock_beyond locks (constant_of e)) z has in (h.0, lock_turn locks (constant_of e) z.kind h.1)
  lock_in locks at (assign k e) z has = absurd (in_none_at z has)
  lock_in locks at (read k e) z has = absurd (in_none_at z has)
  lock_in locks at (write e v) z has = absurd (in_none_at z has)
  lock_in locks at barrier z has = absurd (in_none_at z has)
  lock_in locks at (print e) z has = absurd (in_none_at z has)
  lock_in locks at (if_else e a b) z has = absurd (in_none_at z has)
  lock_in locks at (while_do e a) z has = absurd (in_none_at z has)

  once_lock : (locks at : ℕ) (s : Statement) → IsOnce (no_such_lock_at locks at s)
  once_lock locks at (acquire e) = once_found_at (at + 1) (lock_beyond locks (constant_of e))
  once_lock locks at (release e) = once_found_at (at + 1) (lock_beyond locks (constant_of e))
  once_lock locks at (assign k e) = once_none
  once_lock locks at (read k e) = once_none
  once_lock locks at (write e v) = once_none
  once_lock locks at barrier = once_none
  once_lock locks at (print e) = once_none
  once_lock locks at (if_else e a b) = once_none
  once_lock locks at (while_do e a) = once_none

  lock_part : (locks : ℕ) → Part 5 6 (no_such_lock locks All')
  lock_part locks =
      at_part 5 All' (λ s. s.at + 1) (behind_once 1) (λ s. no_such_lock_at locks s.at s.statement) (λ s. once_lock locks s.at s.statement)
      (λ s z has. lock_in locks s.at s.statement z has)

  written_in : (words k at : ℕ) (o : Option ℕ) (z : Found) → In (unless_known words All' k at o) z → (at ≡ z.at) × (turn_of z.kind ≡ 6)
  written_in words k at None z has = absurd (in_none_at z has)
  written_in words k at (Some w) z has =
      let same =
      in_one_at (record { at = at; kind = kinds.NeverWritten w }) z
      (in_unless (is_known All' k w) _ z (in_where (nat_lt w words) _ z has)) in
      (ap (λ (f : Found). f.at) same, ap (λ (f : Found). turn_of f.kind) (sym same))

  once_written : (words k at : ℕ) (o : Option ℕ) → IsOnce (unless_known words All' k at o)
  once_written words k at None = once_none
  once_written words k at (Some w) =
      once_if (nat_lt w words) _ [] (once_if (is_known All' k w) [] _ once_none (once_one (record { at = at; kind = kinds.NeverWritten w }))) once_none

  written_part : (words : ℕ) → Part 6 7 (never_written words All')
  written_part words =
      each_part 6 All' (λ s. s.at + 3) (behind_once 3) (never_written_at words All') (λ k s. once_written words k (s.at + 3) (word_read s.statement))
      (λ k s z has. written_in words k (s.at + 3) (word_read s.statement) z has)

  released_part : (locks : ℕ) → Part 7 8 (never_released locks All')
  released_part locks =
      range_part 7 (λ a. kinds.NeverReleased a) (λ a b is. cc) (λ a. refl) (never_released_of All') locks
      (λ x. once_if (list_any (λ s. may_release x s.statement) All') [] _ once_none (once_found_where _ (kinds.NeverReleased x)))
      (λ x z has. in_found_where_some _ (kinds.NeverReleased x) z (in_unless (list_any (λ s. may_release x s.statement) All') _ z has))

  module _ (all : List Path) where
    held_once : (lock : ℕ) → IsOnce (with_path (held_already_at lock) All' all)
    held_once lock =
        once_each (λ i s. held_already_at lock s (slice_index_or all i [])) All'
        (λ k s. once_found_if (acquires lock s.statement && is_under Acquired lock (slice_index_or all k [])) s.at (kinds.HeldAlready lock))
        (λ k l s t z is also one other.
        statement_once p tokens is_text k l s t is also
        ((in_found_if_some _ s.at (kinds.HeldAlready lock) z one).0 ∙ sym (in_found_if_some _ t.at (kinds.HeldAlready lock) z other).0))

    held_part : (locks : ℕ) → Part 8 9 (held_already locks All' all)
    held_part locks =
        range_part 8 (λ a. kinds.HeldAlready a) (λ a b is. cc) (λ a. refl) (λ lock. with_path (held_already_at lock) All' all) locks held_once
        (λ lock z has.
        let (k, s, is, h) = in_each_at (λ i s. held_already_at lock s (slice_index_or all i [])) All' z has in
        (in_found_if_some _ s.at (kinds.HeldAlready lock) z h).1)

    not_held_once : (lock : ℕ) → IsOnce (with_path (not_held_at lock) All' all)
    not_held_once lock =
        once_each (λ i s. not_held_at lock s (slice_index_or all i [])) All'
        (λ k s. once_found_if (releases lock s.statement && is_under Released lock (slice_index_or all k [])) s.at (kinds.NotHeld lock))
        (λ k l s t z is also one other.
        statement_once p tokens is_text k l s t is also
        ((in_found_if_some _ s.at (kinds.NotHeld lock) z one).0 ∙ sym (in_found_if_some _ t.at (kinds.NotHeld lock) z other).0))

    not_held_part : (locks : ℕ) → Part 9 10 (not_held locks All' all)
    not_held_part locks =
        range_part 9 (λ a. kinds.NotHeld a) (λ a b is. cc) (λ a. refl) (λ lock. with_path (not_held_at lock) All' all) locks not_held_once
        (λ lock z has.
        let (k, s, is, h) = in_each_at (λ i s. not_held_at lock s (slice_index_or all i [])) All' z has in
        (in_found_if_some _ s.at (kinds.NotHeld lock) z h).1)

    barrier_turn : (o : Option ℕ) (kind : Kind) → option_map kinds.HeldAtBarrier o ≡ Some kind → turn_of kind ≡ 10
    barrier_turn None kind is = cc
    barrier_turn (Some l) kind is = ap turn_of (sym (same_Some (kinds.HeldAtBarrier l) kind is))

    barrier_part : (locks : ℕ) → Part 10 11 (held_at_barrier locks All' all)
    barrier_part locks =
        each_part 10 All' (λ s. s.at) (statement_once p tokens is_text) (λ i s. held_at_barrier_at locks s (slice_index_or all i []))
        (λ k s. once_if (is_barrier s.statement) _ [] (once_found_at s.at (option_map kinds.HeldAtBarrier (least_held locks (slice_index_or all k [])))) once_none)
        (λ k s z has.
        let h =
        in_found_at_some s.at (option_map kinds.HeldAtBarrier (least_held locks (slice_index_or all k []))) z (in_where (is_barrier s.statement) _ z has) in
        (h.0, barrier_turn (least_held locks (slice_index_or all k [])) z.kind h.1))

  kind_part : (r : ℕ) (kind : Statement → Option Kind) → ((s : Statement) (k : Kind) → kind s ≡ Some k → turn_of k ≡ r)
      → Part r (r + 1) (flat_map (λ s. found_at s.at (kind s.statement)) All')
  kind_part r kind turn =
      at_part r All' (λ s. s.at) (statement_once p tokens is_text) (λ s. found_at s.at (kind s.statement)) (λ s. once_found_at s.at (kind s.statement))
      (λ s z has. let h = in_found_at_some s.at (kind s.statement) z has in (h.0, turn s.statement z.kind h.1))

pub found_once : (p : ProgramTree) (tokens : List Token) → IsProgram p tokens → IsOnce (found_in p tokens)
found_once p tokens is_text =
    let all = paths [] p.statements in
    all_once (never_set (N p tokens is_text) (S p tokens is_text)) (never_read (N p tokens is_text) (S p tokens is_text))
    (division_by_zero (N p tokens is_text)) (below_zero (N p tokens is_text))
    (no_such_word p.words (S p tokens is_text)) (no_such_lock p.locks (S p tokens is_text))
    (never_written p.words (S p tokens is_text)) (never_released p.locks (S p tokens is_text))
    (held_already p.locks (S p tokens is_text) all) (not_held p.locks (S p tokens is_text) all) (held_at_barrier p.locks (S p tokens is_text) all)
    (uneven_barriers (S p tokens is_text)) (uncertain_rounds (S p tokens is_text)) (unchanged_conditions (S p tokens is_text)) (learning_nothing (S p tokens is_text))
    (never_set_part p tokens is_text) (never_read_part p tokens is_text) (division_part p tokens is_text) (below_part p tokens is_text)
    (word_part p tokens is_text p.words) (lock_part p tokens is_text p.locks) (written_part p tokens is_text p.words) (released_part p tokens is_text p.locks)
    (held_part p tokens is_text all p.locks) (not_held_part p tokens is_text all p.locks) (barrier_part p tokens is_text all p.locks)
    (kind_part p tokens is_text 11 uneven_kind uneven_turn) (kind_part p tokens is_text 12 rounds_kind rounds_turn)
    (kind_part p tokens is_text 13 unchanged_kind unchanged_turn) (kind_part p tokens is_text 14 learns_kind learns_turn)
