-- Deeds that lead a thread on while it has more than some statements to do.
use Rattle.std.proofs.Common.{◌≡◌, ◌≢◌, ◌⊎◌, inl, inr, ℕ, ◌+◌, ◌<◌, ◌≤◌, Bool, true, false, Some, None, List, [], ◌∷◌, ◌++◌, length, refl, sym, ap, ap₂, subst, arith, ◌∙◌}
use Rattle.std.specs.Prelude.{Option, ◌||◌, slice_index}
use Rattle.std.proofs.lemmas.List.{length-append}
use Rattle.lrc_program.specs.declared.Statement.{Statement}
use Rattle.lrc_program.specs.declared.Operator.{Operator}
use Rattle.lrc_program.specs.Statements.{block_of}
use Rattle.lrc_trace.specs.declared.act.Deed.{Deed}
use Rattle.lrc_exec.specs.Meaning.{Thread, combined, next_of}
use Rattle.lrc_exec.specs.Follows.{Goes}
use Rattle.lrc_named_core.specs.Tree.{Private, own, Expression, number, private, me, nodes, binary, Block, has_name}
use Rattle.lrc_named_address_laws.specs.Values.{value_of}
use Rattle.lrc_named_acts_laws.specs.Coded.{Numbers, KeepAll, block_coded}
use Rattle.lrc_named_acts_laws.specs.Standing.{HasMore, IsSteady, Stays, no_deed, one_deed, value_at, worth}
use Rattle.lrc_named_acts_laws.proofs.Steps.{Leads, after_depart, by_statement, next_here, next_waiting, some_is}

pub none_left : (n : ℕ) (t : Thread) → HasMore n t → length t.rest ≡ n → t.arrived ≡ false → ⊥
none_left n t (inl lt) is here = omega arith
none_left n t (inr there) is here = absurd (cc)

pub leads : (t u : Thread) (todo base : List Statement) (d : Deed) → t.rest ≡ todo ++ base → HasMore (length base) t → Goes (next_of t) d (Some u)
    → Leads t u todo base
leads t u todo base d is more g = by t.arrived refl todo is
  where
    by : (b : Bool) → t.arrived ≡ b → (xs : List Statement) → t.rest ≡ xs ++ base → Leads t u xs base
    by true here xs rest =
        let same : u ≡ record t { arrived = false } = some_is (after_depart (subst (λ n. Goes n d (Some u)) (next_waiting t here) g)) in
        record {
          then_todo = xs;
          rest = ap (λ x. x.rest) same ∙ rest;
          setting = ap (λ x. x.setting) same;
          size = ap (λ x. length x.privates) same;
          worth_kept = λ k all. ap (λ x. slice_index x.privates k) same;
          still_kept = λ k all. all;
        }
    by false here [] rest = absurd (none_left (length base) t more (ap length rest) here)
    by false here (x ∷ xs) rest = by_statement t xs base x (subst (λ n. Goes n d (Some u)) (next_here t x (xs ++ base) rest here) g)

no_step : (t : Thread) (todo base : List Statement) → t.rest ≡ todo ++ base → Leads t t todo base
no_step t todo base is =
    record { then_todo = todo; rest = is; setting = refl; size = refl; worth_kept = λ k all. refl; still_kept = λ k all. all }

both : (t u v : Thread) (todo base : List Statement) (l : Leads t u todo base) → Leads u v l.then_todo base → Leads t v todo base
both t u v todo base l m =
    record {
      then_todo = m.then_todo;
      rest = m.rest;
      setting = m.setting ∙ l.setting;
      size = m.size ∙ l.size;
      worth_kept = λ k all. m.worth_kept k (l.still_kept k all) ∙ l.worth_kept k all;
      still_kept = λ k all. m.still_kept k (l.still_kept k all);
    }

-- deeds keep what each of them keeps
pub along : (base : List Statement) (t u : Thread) (ds : List Deed) (todo : List Statement) → t.rest ≡ todo ++ base → Stays (length base) t ds u → Leads t u todo base
along base t u ds todo is no_deed = no_step t todo base is
along base t v ds todo is (one_deed {u = u} {d = d} {ds = es} more g rest) =
    let l = leads t u todo base d is more g in
    both t u v todo base l (along base u v es l.then_todo l.rest rest)

-- ---- up to where it comes to some statements

pub record Split (n : ℕ) (base : List Statement) (t u : Thread) (ds : List Deed) : Type 0 where
  pub first : List Deed
  pub second : List Deed
  pub between : Thread
  pub is : ds ≡ first ++ second
  pub comes : Stays (length base) t first between
  pub there : between.rest ≡ base
  pub here : between.arrived ≡ false
  pub goes : Stays n between second u

module _ (n : ℕ) (base : List Statement) where
  joins : (t w u : Thread) (d : Deed) (ds : List Deed) → HasMore (length base) t → Goes (next_of t) d (Some w)
      → Stays (length base) w ds u ⊎ Split n base w u ds → Stays (length base) t (d ∷ ds) u ⊎ Split n base t u (d ∷ ds)
  joins t w u d ds has g (inl stays) = inl (one_deed has g stays)
  joins t w u d ds has g (inr s) = inr (record {
    first = d ∷ s.first;
    second = s.second;
    between = s.between;
    is = ap (λ l. d ∷ l) s.is;
    comes = one_deed has g s.comes;
    there = s.there;
    here = s.here;
    goes = s.goes;
  })

  longer : (t : Thread) (x : Statement) (xs : List Statement) → t.rest ≡ x ∷ (xs ++ base) → length base < length t.rest
  longer t x xs is = let e = ap length is in let f = length-append (x ∷ xs) base in omega (arith, e, f)

  begins : (t w u : Thread) (d : Deed) (ds : List Deed) → HasMore n t → (g : Goes (next_of t) d (Some w)) → Stays n w ds u
      → ((ys : List Statement) → w.rest ≡ ys ++ base → Stays (length base) w ds u ⊎ Split n base w u ds)
      → (b : Bool) → t.arrived ≡ b → (xs : List Statement) → t.rest ≡ xs ++ base → Stays (length base) t (d ∷ ds) u ⊎ Split n base t u (d ∷ ds)
  begins t w u d ds more g rest on true here xs is =
      let l = leads t w xs base d is (inr here) g in joins t w u d ds (inr here) g (on l.then_todo l.rest)
  begins t w u d ds more g rest on false here [] is = inr (record {
    first = [];
    second = d ∷ ds;
    between = t;
    is = refl;
    comes = no_deed;
    there = is;
    here = here;
    goes = one_deed more g rest;
  })
  begins t w u d ds more g rest on false here (x ∷ xs) is =
      let has : HasMore (length base) t = inl (longer t x xs is) in
      let l = leads t w (x ∷ xs) base d is has g in joins t w u d ds has g (on l.then_todo l.rest)

  pub split : (t u : Thread) (ds : List Deed) (todo : List Statement) → t.rest ≡ todo ++ base → Stays n t ds u
      → Stays (length base) t ds u ⊎ Split n base t u ds
  split t u ds todo is no_deed = inl no_deed
  split t u ds todo is (one_deed {u = w} {d = d} {ds = es} more g rest) =
      begins t w u d es more g rest (λ ys there. split w u es ys there rest) t.arrived refl todo is

-- ---- values that stay

neither : (a b : Bool) → (a || b) ≡ false → (a ≡ false) × (b ≡ false)
neither true b is = absurd (cc)
neither false b is = (refl, is)

pub nameless : (f g : Private → ℕ) (here count : ℕ) (p : Expression) → has_name p ≡ false → value_of f here count p ≡ value_of g here count p
nameless f g here count (number n) is = refl
nameless f g here count (private name) is = absurd (cc)
nameless f g here count me is = refl
nameless f g here count nodes is = refl
nameless f g here count (binary left o right) is =
    let free = neither (has_name left) (has_name right) is in
    ap₂ (combined o) (nameless f g here count left free.0) (nameless f g here count right free.1)

-- what a block does not change has the same value where its names have the same
pub steady : (numbers : Numbers) (t u : Thread) (p : Expression) (inside : Block) → IsSteady numbers p inside → u.setting ≡ t.setting
    → ((k : ℕ) → KeepAll (numbers.of_own k) (block_coded numbers inside) → slice_index u.privates (numbers.of_own k) ≡ slice_index t.privates (numbers.of_own k))
    → value_at numbers u p ≡ value_at numbers t p
steady numbers t u p inside (inl free) same kept =
    ap (λ s. value_of (worth numbers u) s.me s.nodes p) same ∙ nameless (worth numbers u) (worth numbers t) t.setting.me t.setting.nodes p free
steady numbers t u p inside (inr (k, first, last, is, keeps)) same kept =
    ap (value_at numbers u) is ∙ ap Some (kept k keeps) ∙ sym (ap (value_at numbers t) is)
