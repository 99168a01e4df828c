-- The rounds of a `for`.
use Rattle.std.proofs.Common.{◌≡◌, ◌≢◌, ◌⊎◌, inl, inr, ℕ, zero, suc, ◌+◌, ◌%◌, ◌^◌, ◌<◌, ◌≤◌, Bool, true, false, Some, None, List, [], ◌∷◌, ◌++◌, length, refl, sym, ap, ap₂, subst, append-nil, ltb-false, arith, ◌∙◌}
use Rattle.std.specs.Prelude.{Option, nat_lt, slice_index, slice_set}
use Rattle.std.proofs.lemmas.Bool.{ltb-true}
use Rattle.std.proofs.lemmas.List.{append_assoc, get_or-set_other, get_or-set_same, length-append, length-set}
use Rattle.std.proofs.Math.Nat.{mod-eq_of_lt}
use Rattle.lrc_program.specs.declared.Operator.TheVariants.{Add, Less}
use Rattle.lrc_program.specs.declared.Statement.{Statement}
use Rattle.lrc_program.specs.declared.Statement.TheVariants.{Assign}
use Rattle.lrc_program.specs.Statements as lang
use Rattle.lrc_program.specs.Statements.{statement_of, block_of}
use Rattle.lrc_trace.specs.declared.act.Deed.{Deed}
use Rattle.lrc_trace.specs.declared.act.Deed.TheVariants.{Quiet}
use Rattle.lrc_exec.specs.Meaning.{Thread, Next, quiet, chosen, combined, next_of, next_of_statement, one_if, or_trap, then_does, then_keeps}
use Rattle.lrc_exec.specs.Follows.{Goes}
use Rattle.lrc_named_core.specs.Tree.{Private, named, Expression, number, private, binary, Block, empty, next, only, behind, Origin}
use Rattle.lrc_named_tree.specs.Tree.{Named}
use Rattle.lrc_named_statements.specs.Statements.{counting, from}
use Rattle.lrc_named_acts_laws.specs.Coded.{coded, KeepAll, Numbers, statement_coded, block_coded}
use Rattle.lrc_named_acts_laws.specs.Rounds.{Begins, Ends, Rounds, nothing_yet, leaves, in_a_round, a_round, loop_of, step_of}
use Rattle.lrc_named_acts_laws.specs.Standing.{HasMore, IsSteady, StandsBefore, Stays, no_deed, one_deed, value_at, worth}
use Rattle.lrc_named_acts_laws.proofs.Coding.{IsLoop, assign_is, keep_parts, block_joined, coded_behind, first_is, joined, loop_is, none_is, split_joined, value_coded}
use Rattle.lrc_named_acts_laws.proofs.Steps.{after_quiet, next_here, some_is}
use Rattle.lrc_named_acts_laws.proofs.Choosing.{set}
use Rattle.lrc_named_acts_laws.proofs.Staying.{Split, along, none_left, split, steady}

-- what one assignment does
pub record Sets (t : Thread) (k v : ℕ) (rest : List Statement) (d : Deed) (u : Thread) : Type 0 where
  pub deed : d ≡ Quiet
  pub is : u ≡ then_keeps t rest k v

pub assigned : (numbers : Numbers) (t u : Thread) (d : Deed) (s : Statement) (rest : List Statement) (k : ℕ) (p : Expression) (v : ℕ)
    → t.rest ≡ s ∷ rest → t.arrived ≡ false → statement_of s ≡ lang.assign k (coded numbers p) → value_at numbers t p ≡ Some v
    → Goes (next_of t) d (Some u) → Sets t k v rest d u
assigned numbers t u d s rest k p v is here kind worth_is g =
    let (e, s_is, e_is) = assign_is s k (coded numbers p) kind in
    let next_is : next_of t ≡ quiet (then_keeps t rest k v) =
    next_here t s rest is here ∙ ap (λ x. next_of_statement t x rest) s_is
    ∙ ap (λ o. or_trap o (λ x. quiet (then_keeps t rest k x))) (value_coded numbers t e p e_is ∙ worth_is) in
    let after = after_quiet (subst (λ n. Goes n d (Some u)) next_is g) in
    record { deed = after.0; is = some_is after.1 }

module _ (numbers : Numbers) (at : Origin) (bytes : List ℕ) (limit : Expression) (inside : Block) (more : List Statement)
    (b : ℕ) (small : b < 2 ^ 64) (is_steady : IsSteady numbers limit (behind inside (only (step_of at (named bytes))))) (keeps : KeepAll (numbers.of_named bytes) (block_coded numbers inside)) where
  -- what block and step keep, each keeps
  kept_split : (k : ℕ) → KeepAll k (block_coded numbers (behind inside (only (step_of at (named bytes)))))
      → KeepAll k (block_coded numbers inside) × (numbers.of_named bytes ≢ k)
  kept_split k all =
      let parts =
      keep_parts k (block_coded numbers inside) (block_coded numbers (only (step_of at (named bytes))))
      (subst (KeepAll k) (coded_behind numbers inside (only (step_of at (named bytes)))) all) in
      (parts.0, parts.1.0)

  pub record AtLoop (i : ℕ) (t : Thread) : Type 0 where
    pub loop : Statement
    pub is_loop : statement_of loop ≡ statement_coded numbers (loop_of at (named bytes) limit inside)
    pub rest : t.rest ≡ loop ∷ more
    pub here : t.arrived ≡ false
    pub worth_is : slice_index t.privates (numbers.of_named bytes) ≡ i
    pub limit_is : value_at numbers t limit ≡ Some b
    pub fits : numbers.of_named bytes < length t.privates

  at_least : (i : ℕ) → nat_lt i b ≡ false → b ≤ i
  at_least i off = ltb-false i b off

  -- the loop's block: the statements of the `for`, and what adds one to its name
  record Body (here : List Statement) : Type 0 where
    block : List Statement
    inc : Statement
    parts : here ≡ block ++ (inc ∷ [])
    block_is : block_of block ≡ block_coded numbers inside
    inc_is : statement_of inc ≡ statement_coded numbers (step_of at (named bytes))

  body_of : (body : List Statement) → block_of body ≡ block_coded numbers (behind inside (only (step_of at (named bytes)))) → Body body
  body_of body is =
      let (ys, zs, parts, ys_is, zs_is) =
      split_joined body (block_coded numbers inside) (block_coded numbers (only (step_of at (named bytes))))
      (is ∙ coded_behind numbers inside (only (step_of at (named bytes)))) in
      let (x, rest, zs_parts, x_is, rest_is) = first_is zs (statement_coded numbers (step_of at (named bytes))) lang.empty zs_is in
      record {
        block = ys;
        inc = x;
        parts = parts ∙ ap (λ l. ys ++ l) (zs_parts ∙ ap (λ l. x ∷ l) (none_is rest rest_is));
        block_is = ys_is;
        inc_is = x_is;
      }

  -- the loop's condition is asked
  asks : (i : ℕ) (t : Thread) (l : AtLoop i t) (is : IsLoop l.loop (coded numbers (binary (private (named bytes)) Less limit))
      (block_coded numbers (behind inside (only (step_of at (named bytes))))))
      → next_of t ≡ quiet (then_does t (chosen (one_if (nat_lt i b)) (is.body ++ l.loop ∷ more) more))
  asks i t l is =
      let value =
      value_coded numbers t is.condition (binary (private (named bytes)) Less limit) is.asks
      ∙ ap₂ (combined Less) (ap Some l.worth_is) l.limit_is in
      next_here t l.loop more l.rest l.here ∙ is.does t more
      ∙ ap (λ o. or_trap o (λ v. quiet (then_does t (chosen v (is.body ++ l.loop ∷ more) more)))) value

  one_more : (i : ℕ) → i < b → (i + 1) % 2 ^ 64 ≡ i + 1
  one_more i lt = mod-eq_of_lt (omega arith)

  -- what holds when the block begins
  begun : (i : ℕ) (t s : Thread) (l : AtLoop i t) (body : List Statement) (made : Body body) → s ≡ then_does t (body ++ l.loop ∷ more)
      → s.rest ≡ made.block ++ (made.inc ∷ l.loop ∷ more)
  begun i t s l body made is =
      ap (λ x. x.rest) is ∙ ap (λ x. x ++ l.loop ∷ more) made.parts ∙ append_assoc made.block (made.inc ∷ []) (l.loop ∷ more)

  begins : (i : ℕ) (t s : Thread) (l : AtLoop i t) (body : List Statement) (made : Body body) → s ≡ then_does t (body ++ l.loop ∷ more)
      → Begins numbers at (named bytes) limit inside more b i s
  begins i t s l body made is =
      record {
        stands = record {
          statements = made.block ++ (made.inc ∷ l.loop ∷ []);
          rest = begun i t s l body made is ∙ sym (append_assoc made.block (made.inc ∷ l.loop ∷ []) more);
          are =
              block_joined made.block (made.inc ∷ l.loop ∷ [])
              ∙ ap₂ joined made.block_is (ap₂ lang.next made.inc_is (ap (λ x. lang.next x lang.empty) l.is_loop))
              ∙ sym (coded_behind numbers inside (next (step_of at (named bytes)) (only (loop_of at (named bytes) limit inside))));
          here = ap (λ x. x.arrived) is ∙ l.here;
        };
        worth_is = ap (λ x. slice_index x.privates (numbers.of_named bytes)) is ∙ l.worth_is;
      }

  ends : (i : ℕ) (t v : Thread) (l : AtLoop i t) (body : List Statement) (made : Body body) → v.rest ≡ made.inc ∷ l.loop ∷ more → v.arrived ≡ false
      → Ends numbers at (named bytes) limit inside more b v
  ends i t v l body made is here =
      record {
        statements = made.inc ∷ l.loop ∷ [];
        rest = is;
        are = ap₂ lang.next made.inc_is (ap (λ x. lang.next x lang.empty) l.is_loop);
        here = here;
      }

  -- what the block has kept
  record Kept (i : ℕ) (v : Thread) : Type 0 where
    worth_is : slice_index v.privates (numbers.of_named bytes) ≡ i
    limit_is : value_at numbers v limit ≡ Some b
    fits : numbers.of_named bytes < length v.privates

  kept : (i : ℕ) (t s v : Thread) (ds : List Deed) (l : AtLoop i t) (body : List Statement) (made : Body body) → s ≡ then_does t (body ++ l.loop ∷ more)
      → Stays (length (made.inc ∷ l.loop ∷ more)) s ds v → Kept i v
  kept i t s v ds l body made is stays =
      let by = along (made.inc ∷ l.loop ∷ more) s v ds made.block (begun i t s l body made is) stays in
      let within : (k : ℕ) → KeepAll k (block_coded numbers inside) → slice_index v.privates k ≡ slice_index t.privates k =
      λ k all. by.worth_kept k (subst (KeepAll k) (sym made.block_is) all) ∙ ap (λ x. slice_index x.privates k) is in
      record {
        worth_is = within (numbers.of_named bytes) keeps ∙ l.worth_is;
        limit_is =
            steady numbers t v limit (behind inside (only (step_of at (named bytes)))) is_steady (by.setting ∙ ap (λ x. x.setting) is)
            (λ k all. within (numbers.of_own k) (kept_split (numbers.of_own k) all).0) ∙ l.limit_is;
        fits = subst (λ n. numbers.of_named bytes < n) (sym (by.size ∙ ap (λ x. length x.privates) is)) l.fits;
      }

  limit_then : (v w : Thread) (x : ℕ) (rest : List Statement) → w ≡ then_keeps v rest (numbers.of_named bytes) x
      → value_at numbers w limit ≡ value_at numbers v limit
  limit_then v w x rest is =
      steady numbers v w limit (behind inside (only (step_of at (named bytes)))) is_steady (ap (λ y. y.setting) is)
      (λ k all. ap (λ y. slice_index y.privates (numbers.of_own k)) is
      ∙ get_or-set_other v.privates (numbers.of_named bytes) (numbers.of_own k) x 0 (λ same. (kept_split (numbers.of_own k) all).1 (sym same)))

  -- and then one is added to the name
  again : (i : ℕ) (t v w : Thread) (l : AtLoop i t) (d : Deed) (body : List Statement) (made : Body body) → i < b → Kept i v
      → v.rest ≡ made.inc ∷ l.loop ∷ more → v.arrived ≡ false → Goes (next_of v) d (Some w) → (d ≡ Quiet) × AtLoop (i + 1) w
  again i t v w l d body made lt k is here g =
      let sum : value_at numbers v (binary (private (named bytes)) Add (number 1)) ≡ Some (i + 1) =
      ap (λ x. combined Add (Some x) (Some 1)) k.worth_is ∙ ap Some (one_more i lt) in
      let set = assigned numbers v w d made.inc (l.loop ∷ more) (numbers.of_named bytes) (binary (private (named bytes)) Add (number 1)) (i + 1) is here made.inc_is sum g in (
        set.deed,
        record {
          loop = l.loop;
          is_loop = l.is_loop;
          rest = ap (λ x. x.rest) set.is;
          here = ap (λ x. x.arrived) set.is ∙ here;
          worth_is = ap (λ x. slice_index x.privates (numbers.of_named bytes)) set.is ∙ get_or-set_same v.privates (numbers.of_named bytes) (i + 1) 0 k.fits;
          limit_is = limit_then v w (i + 1) (l.loop ∷ more) set.is ∙ k.limit_is;
          fits =
              subst (λ n. numbers.of_named bytes < n)
              (sym (ap (λ x. length x.privates) set.is ∙ length-set v.privates (numbers.of_named bytes) (i + 1))) k.fits;
        },
      )

  -- ---- all of it

  abbrev Is : ℕ → Thread → List Deed → Thread → Type 0
  Is i t ds u = Rounds numbers at (named bytes) limit inside more b i t ds u

  out_of_loop : (i : ℕ) (t s u : Thread) (d : Deed) (ds : List Deed) → b ≤ i → d ≡ Quiet → s.rest ≡ more → s.arrived ≡ false
      → Goes (next_of t) d (Some s) → Stays (length more) s ds u → Is i t (d ∷ ds) u
  out_of_loop i t s u d ds le quiet_is rest here g no_deed =
      subst (λ x. Is i t (x ∷ []) s) (sym quiet_is)
      (leaves le (subst (λ x. Goes (next_of t) x (Some s)) quiet_is g) (record { statements = []; rest = rest; are = refl; here = here }))
  out_of_loop i t s u d ds le quiet_is rest here g (one_deed has h stays) = absurd (none_left (length more) s has (ap length rest) here)

  longer : (x y : Statement) → length (x ∷ y ∷ more) ≡ length more + 2
  longer x y = omega (arith, length-append (x ∷ y ∷ []) more)

  -- behind the block: nothing more, or one is added and it goes on
  on_from : (n i : ℕ) (t s v u : Thread) (l : AtLoop i t) (body : List Statement) (made : Body body) (first second : List Deed) → i < b
      → Goes (next_of t) Quiet (Some s) → s ≡ then_does t (body ++ l.loop ∷ more)
      → Stays (length (made.inc ∷ l.loop ∷ more)) s first v → v.rest ≡ made.inc ∷ l.loop ∷ more → v.arrived ≡ false
      → ((w : Thread) (es : List Deed) → length es < length second → AtLoop (i + 1) w → Stays (length more) w es u → Is (i + 1) w es u)
      → Stays (length more) v second u → Is i t (Quiet ∷ (first ++ second)) u
  on_from n i t s v u l body made first second lt g is comes there here next_rounds no_deed =
      subst (λ x. Is i t (Quiet ∷ x) v) (sym (append-nil first))
      (in_a_round lt g (begins i t s l body made is) (subst (λ x. Stays x s first v) (longer made.inc l.loop) comes))
  on_from n i t s v u l body made first second lt g is comes there here next_rounds (one_deed {u = w} {d = d} {ds = es} has h stays) =
      let next_is = again i t v w l d body made lt (kept i t s v first l body made is comes) there here h in
      subst (λ x. Is i t (Quiet ∷ (first ++ x ∷ es)) u) (sym next_is.0)
      (a_round lt g (begins i t s l body made is) (subst (λ x. Stays x s first v) (longer made.inc l.loop) comes) (ends i t v l body made there here)
      (subst (λ x. Goes (next_of v) x (Some w)) next_is.0 h) (next_rounds w es (omega arith) next_is.1 stays))

  -- the loop is asked whether it goes on, and does
  into : (n i : ℕ) (t s u : Thread) (es : List Deed) (l : AtLoop i t) (body : List Statement) (made : Body body) → length es ≤ n → i < b
      → Goes (next_of t) Quiet (Some s) → s ≡ then_does t (body ++ l.loop ∷ more)
      → ((w : Thread) (fs : List Deed) → length fs ≤ n → AtLoop (i + 1) w → Stays (length more) w fs u → Is (i + 1) w fs u)
      → Stays (length (made.inc ∷ l.loop ∷ more)) s es u ⊎ Split (length more) (made.inc ∷ l.loop ∷ more) s u es → Is i t (Quiet ∷ es) u
  into n i t s u es l body made few lt g s_is then_rounds (inl inner) =
      in_a_round lt g (begins i t s l body made s_is) (subst (λ x. Stays x s es u) (longer made.inc l.loop) inner)
  into n i t s u es l body made few lt g s_is then_rounds (inr parts) =
      subst (λ x. Is i t (Quiet ∷ x) u) (sym parts.is)
      (on_from n i t s parts.between u l body made parts.first parts.second lt g s_is parts.comes parts.there parts.here
      (λ w fs less at_loop stay. then_rounds w fs
      (let e = ap length parts.is in let f = length-append parts.first parts.second in omega (arith, e, f, few, less)) at_loop stay) parts.goes)

  step : (n i : ℕ) (t s u : Thread) (d : Deed) (es : List Deed) → AtLoop i t → length es ≤ n → Goes (next_of t) d (Some s) → Stays (length more) s es u
      → ((w : Thread) (fs : List Deed) → length fs ≤ n → AtLoop (i + 1) w → Stays (length more) w fs u → Is (i + 1) w fs u)
      → (x : Bool) → nat_lt i b ≡ x → Is i t (d ∷ es) u
  step n i t s u d es l few g stays then_rounds true lt =
      let is =
      loop_is l.loop (coded numbers (binary (private (named bytes)) Less limit)) (block_coded numbers (behind inside (only (step_of at (named bytes))))) l.is_loop in
      let made = body_of is.body is.inside in
      let next_is = asks i t l is ∙ ap (λ x. quiet (then_does t (chosen (one_if x) (is.body ++ l.loop ∷ more) more))) lt in
      let after = after_quiet (subst (λ x. Goes x d (Some s)) next_is g) in
      let s_is = some_is after.1 in
      subst (λ x. Is i t (x ∷ es) u) (sym after.0)
      (into n i t s u es l is.body made few (ltb-true i b lt) (subst (λ x. Goes (next_of t) x (Some s)) after.0 g) s_is then_rounds
      (split (length more) (made.inc ∷ l.loop ∷ more) s u es made.block (begun i t s l is.body made s_is) stays))
  step n i t s u d es l few g stays then_rounds false off =
      let is =
      loop_is l.loop (coded numbers (binary (private (named bytes)) Less limit)) (block_coded numbers (behind inside (only (step_of at (named bytes))))) l.is_loop in
      let next_is = asks i t l is ∙ ap (λ x. quiet (then_does t (chosen (one_if x) (is.body ++ l.loop ∷ more) more))) off in
      let after = after_quiet (subst (λ x. Goes x d (Some s)) next_is g) in
      let s_is = some_is after.1 in
      out_of_loop i t s u d es (at_least i off) after.0 (ap (λ x. x.rest) s_is) (ap (λ x. x.arrived) s_is ∙ l.here) g stays

  pub rounds : (n i : ℕ) (t u : Thread) (ds : List Deed) → length ds ≤ n → AtLoop i t → Stays (length more) t ds u → Is i t ds u
  rounds n i t u ds few l no_deed = nothing_yet
  rounds zero i t u ds few l (one_deed has g stays) = absurd (omega (arith, few))
  rounds (suc n) i t u ds few l (one_deed {u = s} {d = d} {ds = es} has g stays) =
      step n i t s u d es l (omega (arith, few)) g stays (λ w fs less at_loop stay. rounds n (i + 1) w u fs less at_loop stay) (nat_lt i b) refl

pub whole : (numbers : Numbers) (token : ℕ) (name : Named) (first limit : Expression) (inside : Block) (more : List Statement) (t : Thread) (a b : ℕ)
    → numbers.of_named name.bytes < length t.privates
    → StandsBefore numbers t (counting token name first limit inside) more
    → value_at numbers t first ≡ Some a → value_at numbers t limit ≡ Some b → b < 2 ^ 64
    → IsSteady numbers limit (behind inside (only (step_of (from token) (named name.bytes)))) → KeepAll (numbers.of_named name.bytes) (block_coded numbers inside)
    → (ds : List Deed) (u : Thread) → Stays (length more) t ds u
    → ((ds ≡ []) × (u ≡ t)) ⊎ ((s : Thread) × (es : List Deed) × (ds ≡ Quiet ∷ es)
    × Goes (next_of t) Quiet (Some s) × (worth numbers s (named name.bytes) ≡ a)
    × Rounds numbers (from token) (named name.bytes) limit inside more b a s es u)
whole numbers token name first limit inside more t a b fits stands value limit_value small is_steady keeps ds u no_deed = inl (refl, refl)
whole numbers token name first limit inside more t a b fits stands value limit_value small is_steady keeps ds u (one_deed {u = s} {d = d} {ds = es} has g stays) =
    let r = set numbers t (from token) (named name.bytes) first (only (loop_of (from token) (named name.bytes) limit inside)) more a stands value d (Some s) g in
    let s_is : s ≡ then_keeps t r.then_rest (numbers.of_named name.bytes) a = some_is r.goes_on ∙ r.keeps in
    let now : StandsBefore numbers s (only (loop_of (from token) (named name.bytes) limit inside)) more =
    subst (λ x. StandsBefore numbers x (only (loop_of (from token) (named name.bytes) limit inside)) more) (sym (some_is r.goes_on)) r.stands in
    let (x, ys, list_is, x_is, ys_is) = loop_first now.statements now.are in
    let worth_is : worth numbers s (named name.bytes) ≡ a = ap (λ y. worth numbers y (named name.bytes)) (some_is r.goes_on) ∙ r.worth_is fits in
    let l : AtLoop numbers (from token) name.bytes limit inside more b small is_steady keeps a s = record {
      loop = x;
      is_loop = x_is;
      rest = now.rest ∙ ap (λ y. y ++ more) (list_is ∙ ap (λ y. x ∷ y) (none_is ys ys_is));
      here = now.here;
      worth_is = worth_is;
      limit_is = limit_then numbers (from token) name.bytes limit inside more b small is_steady keeps t s a r.then_rest s_is ∙ limit_value;
      fits = subst (λ n. numbers.of_named name.bytes < n) (sym (ap (λ y. length y.privates) s_is ∙ length-set t.privates (numbers.of_named name.bytes) a)) fits;
    } in
    inr (
      s,
      es,
      ap (λ y. y ∷ es) r.deed,
      subst (λ y. Goes (next_of t) y (Some s)) r.deed g,
      worth_is,
      rounds numbers (from token) name.bytes limit inside more b small is_steady keeps (length es) a s u es (omega arith) l stays,
    )
  where
    loop_first : (xs : List Statement) → block_of xs ≡ block_coded numbers (only (loop_of (from token) (named name.bytes) limit inside))
        → (x : Statement) × (ys : List Statement) × (xs ≡ x ∷ ys) × (statement_of x ≡ statement_coded numbers (loop_of (from token) (named name.bytes) limit inside))
        × (block_of ys ≡ lang.empty)
    loop_first xs is = first_is xs (statement_coded numbers (loop_of (from token) (named name.bytes) limit inside)) lang.empty is
