-- Which statement of the text makes a deed.
use Rattle.std.proofs.Common.{◌≡◌, ◌∙◌, ◌<◌, ℕ, Option, Some, List, [], length, take, refl, sym, ap, subst}
use Rattle.std.specs.Prelude.{nat_lt, slice_get}
use Rattle.std.specs.List.{All}
use Rattle.std.proofs.lemmas.List.Elements.{All-head}
use Rattle.lrc_program.specs.declared.Expression.{Expression}
use Rattle.lrc_program.specs.declared.Program.{Program}
use Rattle.lrc_program.specs.declared.Statement.{Statement}
use Rattle.lrc_program.specs.declared.Statement.TheVariants.{Assign, Read, Write, Acquire, Release, Barrier, Print, If', While'}
use Rattle.lrc_program.specs.Statements.{statement_of, block_of}
use Rattle.lrc_trace.specs.declared.act.Act.{Act}
use Rattle.lrc_trace.specs.declared.act.Cause.{Cause}
use Rattle.lrc_trace.specs.declared.act.Deed.{Deed}
use Rattle.lrc_trace.specs.declared.act.Deed.TheVariants as deeds
use Rattle.lrc_trace.specs.Run.{Does}
use Rattle.lrc_exec.specs.Meaning.{Thread, Next, quiet, prints, writes, arrives, traps, holds, next_of_statement, value_in}
use Rattle.lrc_exec.specs.Follows.{FollowsText, Goes, quietly, printing, reading, writing, acquiring, releasing, arriving, trapping}
use Rattle.lrc_lines.specs.Makes.{MakesNext, statement, barrier, end}
use Rattle.lrc_lines.specs.Places.{StandsAmong, in_order}
use Rattle.lrc_lines.specs.Walks.{Walk, walk_behind}
use Rattle.lrc_lines.proofs.Agreeing.{on_value, on_if}
use Rattle.lrc_lines.proofs.Making.{makes_behind}
use Rattle.lrc_lines.proofs.Placing.{stand_behind}
use Rattle.lrc_lint_warned.specs.Inside.{statements_in}
use Rattle.lrc_lint_laws.proofs.Reached.{number_of, order_is}

-- the deeds that a statement may make
pub data Fits (t : Thread) : Statement → Deed → Type 0 where
  fits_quiet : {s : Statement} → Fits t s deeds.Quiet
  fits_print : {s : Statement} {v : ℕ} → Fits t s (deeds.Print v)
  fits_read : {k w v : ℕ} {e : Expression} → value_in t e ≡ Some w → Fits t (Read k e) (deeds.Read w v)
  fits_write : {w v : ℕ} {e x : Expression} → value_in t e ≡ Some w → Fits t (Write e x) (deeds.Write w v)
  fits_acquire : {l : ℕ} {e : Expression} → value_in t e ≡ Some l → Fits t (Acquire e) (deeds.Acquire l)
  fits_release : {l : ℕ} {e : Expression} → value_in t e ≡ Some l → Fits t (Release e) (deeds.Release l)
  fits_arrive : Fits t Barrier deeds.Arrive
  fits_trap : {s : Statement} {c : Cause} → Fits t s (deeds.Trap c)

module _ (t : Thread) (d : Deed) (after : Option Thread) where
  abbrev Leads : Statement → Next → Type 0
  Leads s next = Goes next d after → Fits t s d

by_trap : {t : Thread} {d : Deed} {after : Option Thread} (s : Statement) (c : Cause) → Goes (traps c) d after → Fits t s d
by_trap s c trapping = fits_trap

by_quiet : {t : Thread} {d : Deed} {after : Option Thread} (s : Statement) (u : Thread) → Goes (quiet u) d after → Fits t s d
by_quiet s u quietly = fits_quiet

by_print : {t : Thread} {d : Deed} {after : Option Thread} (s : Statement) (v : ℕ) (u : Thread) → Goes (prints v u) d after → Fits t s d
by_print s v u printing = fits_print

by_read : {t : Thread} {d : Deed} {after : Option Thread} (k w : ℕ) (e : Expression) (u : ℕ → Thread) → value_in t e ≡ Some w → Goes (Next.reads w u) d after
    → Fits t (Read k e) d
by_read k w e u is reading = fits_read is

by_write : {t : Thread} {d : Deed} {after : Option Thread} (w v : ℕ) (e x : Expression) (u : Thread) → value_in t e ≡ Some w → Goes (writes w v u) d after
    → Fits t (Write e x) d
by_write w v e x u is writing = fits_write is

by_acquire : {t : Thread} {d : Deed} {after : Option Thread} (l : ℕ) (e : Expression) (u : Thread) → value_in t e ≡ Some l → Goes (Next.acquires l u) d after
    → Fits t (Acquire e) d
by_acquire l e u is acquiring = fits_acquire is

by_release : {t : Thread} {d : Deed} {after : Option Thread} (l : ℕ) (e : Expression) (u : Thread) → value_in t e ≡ Some l → Goes (Next.releases l u) d after
    → Fits t (Release e) d
by_release l e u is releasing = fits_release is

by_arrive : {t : Thread} {d : Deed} {after : Option Thread} (u : Thread) → Goes (arrives u) d after → Fits t Barrier d
by_arrive u arriving = fits_arrive

pub fits : (t : Thread) (d : Deed) (after : Option Thread) (s : Statement) (rest : List Statement) → Goes (next_of_statement t s rest) d after → Fits t s d
fits t d after (Assign k e) rest =
    on_value (Leads t d after (Assign k e)) (value_in t e) _ (by_trap _ _) (λ v is. by_quiet _ _)
fits t d after (Read k e) rest =
    on_value (Leads t d after (Read k e)) (value_in t e) _ (by_trap _ _)
    (λ w is. on_if (Leads t d after (Read k e)) (nat_lt w t.setting.words) _ _ (by_read k w e _ is) (by_trap _ _))
fits t d after (Write e x) rest =
    on_value (Leads t d after (Write e x)) (value_in t e) _ (by_trap _ _)
    (λ w is. on_value (Leads t d after (Write e x)) (value_in t x) _ (by_trap _ _)
    (λ v is_v. on_if (Leads t d after (Write e x)) (nat_lt w t.setting.words) _ _ (by_write w v e x _ is) (by_trap _ _)))
fits t d after (Acquire e) rest =
    on_value (Leads t d after (Acquire e)) (value_in t e) _ (by_trap _ _)
    (λ l is. on_if (Leads t d after (Acquire e)) (nat_lt l t.setting.locks) _ _
    (on_if (Leads t d after (Acquire e)) (holds t l) _ _ (by_trap _ _) (by_acquire l e _ is)) (by_trap _ _))
fits t d after (Release e) rest =
    on_value (Leads t d after (Release e)) (value_in t e) _ (by_trap _ _)
    (λ l is. on_if (Leads t d after (Release e)) (nat_lt l t.setting.locks) _ _
    (on_if (Leads t d after (Release e)) (holds t l) _ _ (by_release l e _ is) (by_trap _ _)) (by_trap _ _))
fits t d after Barrier rest = by_arrive _
fits t d after (Print e) rest = on_value (Leads t d after (Print e)) (value_in t e) _ (by_trap _ _) (λ v is. by_print _ v _)
fits t d after (If' e p a q b) rest = on_value (Leads t d after (If' e p a q b)) (value_in t e) _ (by_trap _ _) (λ v is. by_quiet _ _)
fits t d after (While' e p a) rest = on_value (Leads t d after (While' e p a)) (value_in t e) _ (by_trap _ _) (λ v is. by_quiet _ _)

-- the statement of the text that makes a deed, by its number
pub record MadeBy (program : Program) (d : Deed) : Type 0 where
  pub k : ℕ
  pub s : Statement
  pub t : Thread
  pub stands : slice_get (statements_in (block_of program.statements.items)) k ≡ Some (statement_of s)
  pub fit : Fits t s d

made_by : (program : Program) (lines : List ℕ) (d : Deed) (walk : Walk)
    → All (StandsAmong (in_order program.statements.items) lines) walk.todo → MakesNext walk d
    → (d ≡ deeds.Depart → ⊥) → (d ≡ deeds.End → ⊥) → MadeBy program d
made_by program lines d walk stand (statement {task = task} {more = more} {after = after} todo goes) not_depart not_end =
    let all = in_order program.statements.items in
    let here : StandsAmong all lines task = All-head (StandsAmong all lines) task more (subst (All (StandsAmong all lines)) todo stand) in
    record {
      k = length here.before;
      s = task.statement;
      t = walk.thread;
      stands =
          ap (λ l. slice_get l (length here.before)) (sym (order_is program.statements.items)) ∙ number_of all lines task here;
      fit = fits walk.thread d after task.statement _ goes;
    }
made_by program lines d walk stand (barrier todo meets) not_depart not_end = absurd (not_depart refl)
made_by program lines d walk stand (end none) not_depart not_end = absurd (not_end refl)

pub deed_made_by : (program : Program) (nodes : ℕ) (acts : List Act) (i node : ℕ) (d : Deed) → FollowsText program nodes acts
    → Does acts i node d → node < nodes → (d ≡ deeds.Depart → ⊥) → (d ≡ deeds.End → ⊥) → MadeBy program d
deed_made_by program nodes acts i node d follows does within not_depart not_end =
    made_by program [] d (walk_behind program nodes [] (take i acts) node) (stand_behind program nodes [] (take i acts) node)
    (makes_behind program nodes [] acts i node d follows does within) not_depart not_end
