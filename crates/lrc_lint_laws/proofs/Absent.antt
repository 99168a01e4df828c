-- Words that no statement writes, and locks that none releases.
use Rattle.std.proofs.Common.{◌≡◌, ◌∙◌, ◌+◌, ◌⊎◌, inl, inr, ℕ, Bool, true, false, Option, Some, None, List, [], ◌∷◌, refl, sym, ap, arith}
use Rattle.std.specs.Prelude.{◌||◌, slice_get, if◌then◌else◌, find, nat_lt, option_map}
use Rattle.std.specs.List.{Contains, list_any, range_with_len}
use Rattle.std.proofs.lemmas.Bool.{eq-eqb}
use Rattle.std.proofs.lemmas.Option.{same_Some, slice_get_within}
use Rattle.lrc_program.specs.declared.Program.{Program}
use Rattle.lrc_program.specs.declared.Statement.{Statement}
use Rattle.lrc_lang.specs.Grammar.{IsProgram}
use Rattle.lrc_program.specs.Statements.{Statement as Tree, expression_of, statement_of, block_of}
use Rattle.lrc_lang.specs.Token.{Token}
use Rattle.lrc_program.specs.Tree.{program_of}
use Rattle.lrc_trace.specs.declared.act.Act.{Act}
use Rattle.lrc_trace.specs.declared.act.Deed.TheVariants as deeds
use Rattle.lrc_trace.specs.Reading.{ReadsLazily, WrittenBefore}
use Rattle.lrc_trace.specs.Run.{Does, IsDone}
use Rattle.lrc_exec.specs.Meaning.{Thread}
use Rattle.lrc_exec.specs.Plain.{plain}
use Rattle.lrc_exec.specs.Follows.{FollowsText}
use Rattle.lrc_consistency_laws.specs.InOrder.{ReadsInOrder, last_value}
use Rattle.lrc_consistency_laws.proofs.LastValue.{Unwritten, Written, found as last_found}
use Rattle.lrc_consistency_laws.proofs.Plainly.{facts}
use Rattle.lrc_consistency_laws.proofs.UpToRace.{in_range}
use Rattle.lrc_lint_warned.specs.declared.found.Found.{Found}
use Rattle.lrc_lint_warned.specs.declared.found.Kind.TheVariants.{NeverReleased, NeverWritten}
use Rattle.lrc_lint_warned.specs.Constant.{constant_of}
use Rattle.lrc_lint_warned.specs.Found.{StatementAt, found_where}
use Rattle.lrc_lint_warned.specs.Inside.{statements_in}
use Rattle.lrc_lint_warned.specs.Locks.{acquires, may_release, never_released, never_released_of}
use Rattle.lrc_lint_warned.specs.Words.{is_known, may_be, may_write, never_written, never_written_at, unless_known, word_read}
use Rattle.lrc_lint_laws.specs.Comes.{statements_of_text}
use Rattle.lrc_lint_laws.proofs.Counted.{placed}
use Rattle.lrc_lint_laws.proofs.Listed.{in_each, in_flat, in_found_where, in_none, in_one, passes_none}
use Rattle.lrc_lint_laws.proofs.Made.{Fits, deed_made_by, fits_write, fits_release}
use Rattle.lrc_lint_laws.proofs.Values.{constant_value}

-- what may be a number is not told from it
pub not_other : (o : Option ℕ) (n : ℕ) → may_be o n ≡ false → (c : ℕ) × (o ≡ Some c) × (c ≡ n → ⊥)
not_other None n is = cc
not_other (Some c) n is = (c, refl, λ same. let yes = eq-eqb c n same in cc)

-- ---- words

or_left : (a b : Bool) → (a || b) ≡ false → a ≡ false
or_left true b is = cc
or_left false b is = refl

none_written : (words : ℕ) (all : List StatementAt) (found : Found) (word : ℕ) → found.kind ≡ NeverWritten word
    → Contains (never_written words all) found → list_any (λ s. may_write word s.statement) all ≡ false
none_written words all found word kind has =
    let one = in_each (never_written_at words all) all found has in
    by (one.x.at + 3) one.k (word_read one.x.statement) one.has
  where
    same_word : (a b : ℕ) → NeverWritten a ≡ NeverWritten b → a ≡ b
    same_word a b is = cc

    told : (at k other : ℕ) (inside known : Bool) → is_known all k other ≡ known
        → Contains (if inside then (if known then [] else record { at = at; kind = NeverWritten other } ∷ []) else []) found
        → list_any (λ s. may_write word s.statement) all ≡ false
    told at k other false known is c = absurd (in_none found c)
    told at k other true true is c = absurd (in_none found c)
    told at k other true false is c =
        let same = in_one (record { at = at; kind = NeverWritten other }) found c in
        ap (λ n. list_any (λ s. may_write n s.statement) all)
        (sym (same_word other word (ap (λ (f : Found). f.kind) same ∙ kind)))
        ∙ or_left _ _ is

    by : (at k : ℕ) (o : Option ℕ) → Contains (unless_known words all k at o) found → list_any (λ s. may_write word s.statement) all ≡ false
    by at k None c = absurd (in_none found c)
    by at k (Some other) c = told at k other (nat_lt other words) (is_known all k other) refl c

no_write : (word v : ℕ) (t : Thread) (s : Statement) → may_write word (statement_of s) ≡ false → Fits t s (deeds.Write word v) → ⊥
no_write word v t s free (fits_write {e = e} value) =
    let (c, is, other) = not_other (constant_of (expression_of e)) word free in
    other (same_Some c word (sym (constant_value t.setting.me t.setting.nodes t.privates e c is) ∙ value))

module _ (program : Program) (tokens : List Token) (is_text : IsProgram (program_of program) tokens) where
  -- a statement of the text does not pass a test that none of them passes
  untested : (test : Tree → Bool) → list_any (λ s. test s.statement) (statements_of_text program tokens) ≡ false → (k : ℕ) (s : Tree)
      → slice_get (statements_in (block_of program.statements.items)) k ≡ Some s → test s ≡ false
  untested test none k s is =
      let (at, place, stands) = placed program tokens is_text k s is in
      passes_none (λ x. test x.statement) (statements_of_text program tokens) k (record { at = at; statement = s }) none stands

  pub unwritten : (word at : ℕ) → Contains (never_written program.words (statements_of_text program tokens)) (record { at = at; kind = NeverWritten word })
      → (nodes : ℕ) (acts : List Act) (i node v : ℕ) → FollowsText program nodes acts → Does acts i node (deeds.Write word v) → ⊥
  unwritten word at has nodes acts i node v follows does =
      let none = none_written program.words (statements_of_text program tokens) (record { at = at; kind = NeverWritten word }) word refl has in
      let made = deed_made_by program nodes acts i node (deeds.Write word v) follows does (in_range follows i node (deeds.Write word v) does) (λ e. cc) (λ e. cc) in
      no_write word v made.t made.s (untested (may_write word) none made.k (statement_of made.s) made.stands) made.fit

  unread_but_zero : (word at : ℕ) → Contains (never_written program.words (statements_of_text program tokens)) (record { at = at; kind = NeverWritten word })
      → (nodes : ℕ) (run : List Act) (j v : ℕ) → FollowsText program nodes run → ReadsInOrder run → IsDone run j (deeds.Read word v) → v ≡ 0
  unread_but_zero word at has nodes run j v follows reads (node, does) =
      reads j word v (node, does)
      ∙ nothing (last_found run word j (omega (arith, slice_get_within run j (record { node = node; deed = deeds.Read word v }) does.stands)))
    where
      nothing : Unwritten run j word ⊎ ((i : ℕ) × Written run j word i) → last_value run j word ≡ 0
      nothing (inl none) = none.zero
      nothing (inr (i, w)) = absurd (unwritten word at has nodes run i w.write.0 w.value follows w.write.1)

  pub plainly_zero : (word at : ℕ) → Contains (never_written program.words (statements_of_text program tokens)) (record { at = at; kind = NeverWritten word })
      → (nodes : ℕ) (order : List ℕ) (run : List Act) (j v : ℕ) → plain program nodes order ≡ Some run → IsDone run j (deeds.Read word v) → v ≡ 0
  plainly_zero word at has nodes order run j v made is =
      let f = facts program nodes order run made in
      unread_but_zero word at has nodes run j v f.follows f.in_order is

  pub lazily_zero : (word at : ℕ) → Contains (never_written program.words (statements_of_text program tokens)) (record { at = at; kind = NeverWritten word })
      → (nodes : ℕ) (run : List Act) (j v : ℕ) → FollowsText program nodes run → ReadsLazily run → IsDone run j (deeds.Read word v) → v ≡ 0
  lazily_zero word at has nodes run j v follows reads is = some_write (reads j word v is).weak
    where
      some_write : (v ≡ 0) ⊎ ((i : ℕ) × WrittenBefore run j word i v) → v ≡ 0
      some_write (inl same) = same
      some_write (inr (i, w)) = absurd (unwritten word at has nodes run i w.write.0 v follows w.write.1)

-- ---- locks

none_released : (locks : ℕ) (all : List StatementAt) (found : Found) (lock : ℕ) → found.kind ≡ NeverReleased lock
    → Contains (never_released locks all) found → list_any (λ s. may_release lock s.statement) all ≡ false
none_released locks all found lock kind has =
    let one = in_flat (never_released_of all) (range_with_len 0 locks) found has in
    by one.x (list_any (λ s. may_release one.x s.statement) all) refl one.has
  where
    same_lock : (a b : ℕ) → NeverReleased a ≡ NeverReleased b → a ≡ b
    same_lock a b is = cc

    by : (other : ℕ) (b : Bool) → list_any (λ s. may_release other s.statement) all ≡ b
        → Contains (if b then [] else found_where (option_map (λ s. s.at) (find (λ s. acquires other s.statement) all)) (NeverReleased other)) found
        → list_any (λ s. may_release lock s.statement) all ≡ false
    by other true is c = absurd (in_none found c)
    by other false is c =
        let h = in_found_where (option_map (λ s. s.at) (find (λ s. acquires other s.statement) all)) (NeverReleased other) found c in
        ap (λ n. list_any (λ s. may_release n s.statement) all) (sym (same_lock other lock (h.1 ∙ kind))) ∙ is

no_release : (lock : ℕ) (t : Thread) (s : Statement) → may_release lock (statement_of s) ≡ false → Fits t s (deeds.Release lock) → ⊥
no_release lock t s free (fits_release {e = e} value) =
    let (c, is, other) = not_other (constant_of (expression_of e)) lock free in
    other (same_Some c lock (sym (constant_value t.setting.me t.setting.nodes t.privates e c is) ∙ value))

module _ (program : Program) (tokens : List Token) (is_text : IsProgram (program_of program) tokens) where
  pub unreleased : (lock at : ℕ) → Contains (never_released program.locks (statements_of_text program tokens)) (record { at = at; kind = NeverReleased lock })
      → (nodes : ℕ) (acts : List Act) (i node : ℕ) → FollowsText program nodes acts → Does acts i node (deeds.Release lock) → ⊥
  unreleased lock at has nodes acts i node follows does =
      let none = none_released program.locks (statements_of_text program tokens) (record { at = at; kind = NeverReleased lock }) lock refl has in
      let made = deed_made_by program nodes acts i node (deeds.Release lock) follows does (in_range follows i node (deeds.Release lock) does) (λ e. cc) (λ e. cc) in
      no_release lock made.t made.s (untested program tokens is_text (may_release lock) none made.k (statement_of made.s) made.stands) made.fit
