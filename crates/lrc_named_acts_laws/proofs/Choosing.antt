-- What an assignment and a choice of a core do: assertions, `and`, `or`.
use Rattle.std.proofs.Common.{◌≡◌, ◌≢◌, ℕ, ◌<◌, Bool, true, false, not, Some, None, List, [], ◌∷◌, ◌++◌, length, refl, sym, ap, ap₂, subst, ◌∙◌}
use Rattle.std.specs.Prelude.{Option, ◌||◌, nat_eq, slice_index}
use Rattle.std.proofs.lemmas.Bool.{ne_eqb}
use Rattle.std.proofs.lemmas.List.{get_or-set_same}
use Rattle.lrc_program.specs.declared.Operator.{Operator}
use Rattle.lrc_program.specs.declared.Operator.TheVariants.{Add, Subtract, Multiply, Divide, Remainder, Equal, NotEqual, Less, LessOrEqual, Greater, GreaterOrEqual}
use Rattle.lrc_program.specs.declared.Statement.{Statement}
use Rattle.lrc_program.specs.Statements as lang
use Rattle.lrc_trace.specs.declared.act.Cause.TheVariants.{DivisionByZero}
use Rattle.lrc_trace.specs.declared.act.Deed.{Deed}
use Rattle.lrc_trace.specs.declared.act.Deed.TheVariants as deeds
use Rattle.lrc_exec.specs.Meaning.{Thread, quiet, chosen, combined, next_of, next_of_statement, one_if, operated, or_trap, then_does, then_keeps}
use Rattle.lrc_exec.specs.Follows.{Goes}
use Rattle.lrc_named_core.specs.Tree.{Private, private, number, me, nodes, binary, Expression, Block, Origin, assign, if_else, empty, next, only, divides, has_division}
use Rattle.lrc_named_translation.specs.Made.{truth}
use Rattle.lrc_named_statements.specs.Statements.{trial_of}
use Rattle.lrc_named_acts_laws.specs.Coded.{Numbers, number_of, coded, block_coded}
use Rattle.lrc_named_acts_laws.specs.Standing.{StandsBefore, is_zero, value_at, worth}
use Rattle.lrc_named_acts_laws.proofs.Coding.{assign_is, choice_is, none_is, value_coded}
use Rattle.lrc_named_acts_laws.proofs.Steps.{after_quiet, after_trap, next_here, some_is}
use Rattle.lrc_named_acts_laws.proofs.Locking.{Before, before}

module _ (numbers : Numbers) (t : Thread) (at : Origin) (name : Private) (p : Expression) (others : Block) (more : List Statement) where
  -- an assignment sets its name, or traps
  assign_next : (b : Before numbers t (assign at name p) others more) → t.arrived ≡ false
      → next_of t ≡ or_trap (value_at numbers t p) (λ v. quiet (then_keeps t (b.rest ++ more) (number_of numbers name) v))
  assign_next b here =
      let (e, is, e_is) = assign_is b.first (number_of numbers name) (coded numbers p) b.first_is in
      next_here t b.first (b.rest ++ more) b.todo here ∙ ap (λ s. next_of_statement t s (b.rest ++ more)) is
      ∙ ap (λ o. or_trap o (λ v. quiet (then_keeps t (b.rest ++ more) (number_of numbers name) v))) (value_coded numbers t e p e_is)

  -- then it stands before the others, and the name is worth the value
  pub record Set (v : ℕ) (d : Deed) (after : Option Thread) : Type 0 where
    pub deed : d ≡ deeds.Quiet
    pub then_at : Thread
    pub goes_on : after ≡ Some then_at
    pub stands : StandsBefore numbers then_at others more
    pub worth_is : number_of numbers name < length t.privates → worth numbers then_at name ≡ v
    pub then_rest : List Statement
    pub keeps : then_at ≡ then_keeps t then_rest (number_of numbers name) v

  pub set : (v : ℕ) → StandsBefore numbers t (next (assign at name p) others) more → value_at numbers t p ≡ Some v → (d : Deed) (after : Option Thread)
      → Goes (next_of t) d after → Set v d after
  set v stands is d after g =
      let b = before numbers t (assign at name p) others more stands in
      let k = number_of numbers name in
      let next_is = assign_next b stands.here ∙ ap (λ o. or_trap o (λ x. quiet (then_keeps t (b.rest ++ more) k x))) is in
      let h = after_quiet (subst (λ n. Goes n d after) next_is g) in
      record {
        deed = h.0;
        then_at = then_keeps t (b.rest ++ more) k v;
        goes_on = h.1;
        stands = record { statements = b.rest; rest = refl; are = b.rest_is; here = stands.here };
        worth_is = λ fits. get_or-set_same t.privates k v 0 fits;
        then_rest = b.rest ++ more;
        keeps = refl;
      }

  pub trapped : StandsBefore numbers t (next (assign at name p) others) more → value_at numbers t p ≡ None → (d : Deed) (after : Option Thread)
      → Goes (next_of t) d after → (d ≡ deeds.Trap DivisionByZero) × (after ≡ None)
  trapped stands is d after g =
      let b = before numbers t (assign at name p) others more stands in
      let next_is =
      assign_next b stands.here
      ∙ ap (λ o. or_trap o (λ x. quiet (then_keeps t (b.rest ++ more) (number_of numbers name) x))) is in
      after_trap (subst (λ n. Goes n d after) next_is g)

-- ---- assertions

pub trial_zero : (numbers : Numbers) (t : Thread) (p : Expression) → value_at numbers t p ≡ Some 0 → value_at numbers t (trial_of p) ≡ None
trial_zero numbers t p is = ap (λ o. combined Divide (Some 1) (combined NotEqual o (Some 0))) is

pub trial_not_zero : (numbers : Numbers) (t : Thread) (p : Expression) (v : ℕ) → value_at numbers t p ≡ Some v → v ≢ 0
    → value_at numbers t (trial_of p) ≡ Some 1
trial_not_zero numbers t p v is other =
    ap (λ o. combined Divide (Some 1) (combined NotEqual o (Some 0))) is
    ∙ ap (λ b. combined Divide (Some 1) (Some (one_if (not b)))) (ne_eqb v 0 other)

neither : (a b c : Bool) → (a || b || c) ≡ false → (a ≡ false) × (b ≡ false) × (c ≡ false)
neither true b c is = absurd (cc)
neither false true c is = absurd (cc)
neither false false c is = (refl, refl, is)

gives : (o : Operator) (x y : ℕ) → divides o ≡ false → (v : ℕ) × (operated o x y ≡ Some v)
gives Add x y is = (_, refl)
gives Subtract x y is = (_, refl)
gives Multiply x y is = (_, refl)
gives Divide x y is = absurd (cc)
gives Remainder x y is = absurd (cc)
gives Equal x y is = (_, refl)
gives NotEqual x y is = (_, refl)
gives Less x y is = (_, refl)
gives LessOrEqual x y is = (_, refl)
gives Greater x y is = (_, refl)
gives GreaterOrEqual x y is = (_, refl)

pub has_value : (numbers : Numbers) (t : Thread) (p : Expression) → has_division p ≡ false → (v : ℕ) × (value_at numbers t p ≡ Some v)
has_value numbers t (number n) is = (n, refl)
has_value numbers t (private name) is = (worth numbers t name, refl)
has_value numbers t me is = (t.setting.me, refl)
has_value numbers t nodes is = (t.setting.nodes, refl)
has_value numbers t (binary left o right) is =
    let (free, first, second) = neither (divides o) (has_division left) (has_division right) is in
    let (x, x_is) = has_value numbers t left first in
    let (y, y_is) = has_value numbers t right second in
    let (v, v_is) = gives o x y free in (v, ap₂ (combined o) x_is y_is ∙ v_is)

-- ---- choices

-- a choice without an `else` leads into its block or behind it
pub record Chosen (numbers : Numbers) (s u : Thread) (inside : Block) (more : List Statement) (y : ℕ) (d : Deed) : Type 0 where
  pub deed : d ≡ deeds.Quiet
  pub same : u.privates ≡ s.privates
  pub behind_it : y ≡ 0 → StandsBefore numbers u empty more
  pub into_it : y ≡ 1 → StandsBefore numbers u inside more

pub choose : (numbers : Numbers) (s u : Thread) (at : Origin) (c : Expression) (inside : Block) (more : List Statement) (y : ℕ) (d : Deed)
    → StandsBefore numbers s (only (if_else at c inside empty)) more → value_at numbers s c ≡ Some y → Goes (next_of s) d (Some u)
    → Chosen numbers s u inside more y d
choose numbers s u at c inside more y d stands is g =
    let b = before numbers s (if_else at c inside empty) empty more stands in
    let choice = choice_is b.first (coded numbers c) (block_coded numbers inside) lang.empty b.first_is in
    let rest = b.rest ++ more in
    let rest_is : rest ≡ more = ap (λ l. l ++ more) (none_is b.rest b.rest_is) in
    let next_is =
    next_here s b.first rest b.todo stands.here ∙ choice.does s rest
    ∙ ap (λ o. or_trap o (λ v. quiet (then_does s (chosen v (choice.first ++ rest) (choice.second ++ rest))))) (value_coded numbers s choice.condition c choice.asks ∙ is) in
    let h = after_quiet (subst (λ n. Goes n d (Some u)) next_is g) in
    let u_is = some_is h.1 in
    record {
      deed = h.0;
      same = ap (λ x. x.privates) u_is;
      behind_it = λ zero. record {
        statements = choice.second;
        rest = ap (λ x. x.rest) u_is ∙ ap (λ v. chosen v (choice.first ++ rest) (choice.second ++ rest)) zero ∙ ap (λ l. choice.second ++ l) rest_is;
        are = choice.off;
        here = ap (λ x. x.arrived) u_is ∙ stands.here;
      };
      into_it = λ one. record {
        statements = choice.first;
        rest = ap (λ x. x.rest) u_is ∙ ap (λ v. chosen v (choice.first ++ rest) (choice.second ++ rest)) one ∙ ap (λ l. choice.first ++ l) rest_is;
        are = choice.on;
        here = ap (λ x. x.arrived) u_is ∙ stands.here;
      };
    }

-- ---- `and`, `or`

-- the truth of a value
pub truth_is : (numbers : Numbers) (t : Thread) (p : Expression) (v : ℕ) → value_at numbers t p ≡ Some v
    → value_at numbers t (truth p) ≡ Some (one_if (not (nat_eq v 0)))
truth_is numbers t p v is = ap (λ o. combined NotEqual o (Some 0)) is

zero_truth : (v : ℕ) → v ≡ 0 → one_if (not (nat_eq v 0)) ≡ 0
zero_truth v is = ap (λ n. one_if (not (nat_eq n 0))) is

one_truth : (v : ℕ) → v ≢ 0 → one_if (not (nat_eq v 0)) ≡ 1
one_truth v other = ap (λ b. one_if (not b)) (ne_eqb v 0 other)

module _ (numbers : Numbers) (at : Origin) (name : Private) (p : Expression) (inside : Block) (more : List Statement) (t s u : Thread) (v : ℕ) (d e : Deed)
    (fits : number_of numbers name < length t.privates) (value : value_at numbers t p ≡ Some v)
    (g : Goes (next_of t) d (Some s)) (h : Goes (next_of s) e (Some u)) where
  -- what the first statement leaves
  first : (others : Block) → StandsBefore numbers t (next (assign at name (truth p)) others) more
      → Set numbers t at name (truth p) others more (one_if (not (nat_eq v 0))) d (Some s)
  first others stands = set numbers t at name (truth p) others more (one_if (not (nat_eq v 0))) stands (truth_is numbers t p v value) d (Some s) g

  moved : (others : Block) (r : Set numbers t at name (truth p) others more (one_if (not (nat_eq v 0))) d (Some s)) → StandsBefore numbers s others more
  moved others r = subst (λ x. StandsBefore numbers x others more) (sym (some_is r.goes_on)) r.stands

  worth_then : (others : Block) (r : Set numbers t at name (truth p) others more (one_if (not (nat_eq v 0))) d (Some s))
      → worth numbers s name ≡ one_if (not (nat_eq v 0))
  worth_then others r = ap (λ x. worth numbers x name) (some_is r.goes_on) ∙ r.worth_is fits

  pub left_of_and : StandsBefore numbers t (next (assign at name (truth p)) (only (if_else at (private name) inside empty))) more
      → (d ≡ deeds.Quiet) × (e ≡ deeds.Quiet) × ((v ≡ 0) → StandsBefore numbers u empty more × (worth numbers u name ≡ 0))
      × ((v ≢ 0) → StandsBefore numbers u inside more)
  left_of_and stands =
      let others = only (if_else at (private name) inside empty) in
      let r = first others stands in
      let x = one_if (not (nat_eq v 0)) in
      let c = choose numbers s u at (private name) inside more x e (moved others r) (ap Some (worth_then others r)) h in (
        r.deed,
        c.deed,
        λ zero. (c.behind_it (zero_truth v zero), ap (λ l. slice_index l (number_of numbers name)) c.same ∙ worth_then others r ∙ zero_truth v zero),
        λ other. c.into_it (one_truth v other),
      )

  pub left_of_or : StandsBefore numbers t (next (assign at name (truth p)) (only (if_else at (is_zero name) inside empty))) more
      → (d ≡ deeds.Quiet) × (e ≡ deeds.Quiet) × ((v ≢ 0) → StandsBefore numbers u empty more × (worth numbers u name ≡ 1))
      × ((v ≡ 0) → StandsBefore numbers u inside more)
  left_of_or stands =
      let others = only (if_else at (is_zero name) inside empty) in
      let r = first others stands in
      let x = one_if (not (nat_eq v 0)) in
      let c =
      choose numbers s u at (is_zero name) inside more (one_if (nat_eq x 0)) e (moved others r)
      (ap (λ o. combined Equal (Some o) (Some 0)) (worth_then others r)) h in (
        r.deed,
        c.deed,
        λ other. (
          c.behind_it (ap (λ n. one_if (nat_eq n 0)) (one_truth v other)),
          ap (λ l. slice_index l (number_of numbers name)) c.same ∙ worth_then others r ∙ one_truth v other,
        ),
        λ zero. c.into_it (ap (λ n. one_if (nat_eq n 0)) (zero_truth v zero)),
      )
