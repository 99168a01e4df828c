-- Private names of a core that have one number are one name.
use Rattle.std.proofs.Common.{◌≡◌, ◌+◌, ◌||◌, not, ℕ, Bool, true, false, if◌then◌else◌, cond, List, [], ◌∷◌, ◌++◌, refl, sym, ap, subst, ◌∙◌, arith, inl, inr}
use Rattle.std.specs.Prelude.{codes, decimal}
use Rattle.std.specs.Str.{bytes_eq}
use Rattle.std.proofs.lemmas.Fmt.{decimal_injective}
use Rattle.lrc_lang.specs.Symbol.{Names}
use Rattle.lrc_lang.specs.Symbol as symbol
use Rattle.lrc_named_tree.specs.Tree.{Expressions, Named, none, more}
use Rattle.lrc_named_constants.specs.Well.{bytes_of, is_among}
use Rattle.lrc_named_core.specs.Tree.{Private, named, own, Expression, number, private, me, nodes, binary, Statement, Block, empty, next}
use Rattle.lrc_named_core.specs.Tree.{assign, read, write, acquire, release, barrier, print, if_else, while_do}
use Rattle.lrc_named_expression_faults.specs.declared.fault.Fault.{Fault}
use Rattle.lrc_named_expression_faults.specs.declared.fault.FaultKind.TheVariants.{ReservedName}
use Rattle.lrc_named_expression_faults.specs.Fault.{IsNone, fault_at}
use Rattle.lrc_named_expression_faults.specs.Scope.{Scope}
use Rattle.lrc_named_statement_faults.specs.Parts.{Part, counter, lock_place, target, value}
use Rattle.lrc_named_statement_faults.specs.Statements.{IsInPart, IsInParts, IsReserved, IsReservedTarget, is_reserved, set_in, set_names, set_without_index}
use Rattle.lrc_named_text.specs.Expressions.{private_text}
use Rattle.lrc_named_acts_laws.specs.Coded.{number_of}
use Rattle.lrc_named_text_laws.specs.Named.{numbers_among, with_expression, with_name, with_statement, with_statements}
use Rattle.lrc_named_text_laws.specs.Spelled.{Fits}
use Rattle.lrc_named_laws.specs.Names.{AllIn, AllInStatement, AllNames, AreOne}
use Rattle.lrc_named_laws.specs.Printed.{numbers_in}
use Rattle.lrc_named_laws.proofs.Cores.{AreFit, IsFit, IsFitStatement}
use Rattle.lrc_named_laws.proofs.Counting.{bytes_of-append, equal_bytes, front_or_back, in_back, in_front, or_behind, or_cases, or_true, same_bytes}

-- ---- what is said of all names

module _ (IsSuch IsTold : Private → Type 0) (told : (name : Private) → IsSuch name → IsTold name) where
  all_in : (e : Expression) → AllIn IsSuch e → AllIn IsTold e
  all_in (number n) all = tt
  all_in (private name) all = told name all
  all_in me all = tt
  all_in nodes all = tt
  all_in (binary left o right) all = (all_in left all.0, all_in right all.1)

  mutual
    all_in_statement : (s : Statement) → AllInStatement IsSuch s → AllInStatement IsTold s
    all_in_statement (assign o name e) all = (told name all.0, all_in e all.1)
    all_in_statement (read o name word) all = (told name all.0, all_in word all.1)
    all_in_statement (write o word e) all = (all_in word all.0, all_in e all.1)
    all_in_statement (acquire o word) all = all_in word all
    all_in_statement (release o word) all = all_in word all
    all_in_statement (barrier o) all = tt
    all_in_statement (print o e) all = all_in e all
    all_in_statement (if_else o condition first second) all = (all_in condition all.0, all_names first all.1, all_names second all.2)
    all_in_statement (while_do o condition inside) all = (all_in condition all.0, all_names inside all.1)

    all_names : (b : Block) → AllNames IsSuch b → AllNames IsTold b
    all_names empty all = tt
    all_names (next first others) all = (all_in_statement first all.0, all_names others all.1)

-- ---- the names that have come

stays_by : (names : Names) (bytes n : List ℕ) (b : Bool) → is_among names n ≡ true → is_among (if b then names else names ++ bytes ∷ []) n ≡ true
stays_by names bytes n true is = is
stays_by names bytes n false is = in_front names (bytes ∷ []) n is

stays : (name : Private) (names : Names) (n : List ℕ) → is_among names n ≡ true → is_among (with_name names name) n ≡ true
stays name names n is = stays_by names (private_text name) n (is_among names (private_text name)) is

stays_in : (e : Expression) (names : Names) (n : List ℕ) → is_among names n ≡ true → is_among (with_expression names e) n ≡ true
stays_in (number v) names n is = is
stays_in (private name) names n is = stays name names n is
stays_in me names n is = is
stays_in nodes names n is = is
stays_in (binary left o right) names n is = stays_in right (with_expression names left) n (stays_in left names n is)

mutual
  stays_statement : (s : Statement) (names : Names) (n : List ℕ) → is_among names n ≡ true → is_among (with_statement names s) n ≡ true
  stays_statement (assign o name e) names n is = stays_in e (with_name names name) n (stays name names n is)
  stays_statement (read o name word) names n is = stays_in word (with_name names name) n (stays name names n is)
  stays_statement (write o word e) names n is = stays_in e (with_expression names word) n (stays_in word names n is)
  stays_statement (acquire o word) names n is = stays_in word names n is
  stays_statement (release o word) names n is = stays_in word names n is
  stays_statement (barrier o) names n is = is
  stays_statement (print o e) names n is = stays_in e names n is
  stays_statement (if_else o condition first second) names n is =
      stays_all second (with_statements (with_expression names condition) first) n (stays_all first (with_expression names condition) n (stays_in condition names n is))
  stays_statement (while_do o condition inside) names n is = stays_all inside (with_expression names condition) n (stays_in condition names n is)

  stays_all : (b : Block) (names : Names) (n : List ℕ) → is_among names n ≡ true → is_among (with_statements names b) n ≡ true
  stays_all empty names n is = is
  stays_all (next first others) names n is = stays_all others (with_statement names first) n (stays_statement first names n is)

-- it has come
abbrev HasCome : Names → Private → Type 0
HasCome names name = is_among names (private_text name) ≡ true

come_by : (names : Names) (bytes : List ℕ) (b : Bool) → is_among names bytes ≡ b → is_among (if b then names else names ++ bytes ∷ []) bytes ≡ true
come_by names bytes true is = is
come_by names bytes false is = in_back names (bytes ∷ []) bytes (or_true (bytes_eq bytes bytes) false (equal_bytes bytes bytes refl))

comes : (name : Private) (names : Names) → HasCome (with_name names name) name
comes name names = come_by names (private_text name) (is_among names (private_text name)) refl

-- those of one list are among the other
abbrev AreAmong : Names → Names → Type 0
AreAmong names all = (n : List ℕ) → is_among names n ≡ true → is_among all n ≡ true

-- where these all stay, those of an expression and of statements have come
module _ (all : Names) (IsSuch : Private → Type 0) where
  abbrev Comes : Private → Type 0
  Comes name = IsSuch name × HasCome all name

  come_in : (e : Expression) (names : Names) → AreAmong (with_expression names e) all → IsFit IsSuch e → AllIn Comes e
  come_in (number v) names kept fit = tt
  come_in (private name) names kept fit = (fit, kept (private_text name) (comes name names))
  come_in me names kept fit = tt
  come_in nodes names kept fit = tt
  come_in (binary left o right) names kept fit =
      (come_in left names (λ n h. kept n (stays_in right (with_expression names left) n h)) fit.0, come_in right (with_expression names left) kept fit.1)

  mutual
    come_statement : (s : Statement) (names : Names) → AreAmong (with_statement names s) all → IsFitStatement IsSuch s → AllInStatement Comes s
    come_statement (assign o name e) names kept fit = (
      (fit.0, kept (private_text name) (stays_in e (with_name names name) (private_text name) (comes name names))),
      come_in e (with_name names name) kept fit.1,
    )
    come_statement (read o name word) names kept fit = (
      (fit.0, kept (private_text name) (stays_in word (with_name names name) (private_text name) (comes name names))),
      come_in word (with_name names name) kept fit.1,
    )
    come_statement (write o word e) names kept fit =
        (come_in word names (λ n h. kept n (stays_in e (with_expression names word) n h)) fit.0, come_in e (with_expression names word) kept fit.1)
    come_statement (acquire o word) names kept fit = come_in word names kept fit
    come_statement (release o word) names kept fit = come_in word names kept fit
    come_statement (barrier o) names kept fit = tt
    come_statement (print o e) names kept fit = come_in e names kept fit
    come_statement (if_else o condition first second) names kept fit =
        let before = with_expression names condition in (
          come_in condition names (λ n h. kept n (stays_all second (with_statements before first) n (stays_all first before n h))) fit.0,
          come_all first before (λ n h. kept n (stays_all second (with_statements before first) n h)) fit.1,
          come_all second (with_statements before first) kept fit.2,
        )
    come_statement (while_do o condition inside) names kept fit =
        let before = with_expression names condition in
        (come_in condition names (λ n h. kept n (stays_all inside before n h)) fit.0, come_all inside before kept fit.1)

    come_all : (b : Block) (names : Names) → AreAmong (with_statements names b) all → AreFit IsSuch b → AllNames Comes b
    come_all empty names kept fit = tt
    come_all (next first others) names kept fit = (
      come_statement first names (λ n h. kept n (stays_all others (with_statement names first) n h)) fit.0,
      come_all others (with_statement names first) kept fit.1,
    )

-- ---- one number

same_place_by : (a b : List ℕ) (x : List ℕ) (xs : Names) (c d : Bool) → bytes_eq x a ≡ c → bytes_eq x b ≡ d → (c || is_among xs a) ≡ true → (d || is_among xs b) ≡ true
    → (is_among xs a ≡ true → is_among xs b ≡ true → symbol.number_of xs a ≡ symbol.number_of xs b → a ≡ b)
    → cond (not c) (1 + symbol.number_of xs a) 0 ≡ cond (not d) (1 + symbol.number_of xs b) 0 → a ≡ b
same_place_by a b x xs true true is other here there rest same = sym (same_bytes x a is) ∙ same_bytes x b other
same_place_by a b x xs true false is other here there rest same = absurd (omega (arith, same))
same_place_by a b x xs false true is other here there rest same = absurd (omega (arith, same))
same_place_by a b x xs false false is other here there rest same = rest here there (omega (arith, same))

same_place : (names : Names) (a b : List ℕ) → is_among names a ≡ true → is_among names b ≡ true → symbol.number_of names a ≡ symbol.number_of names b → a ≡ b
same_place [] a b here there same = absurd (cc)
same_place (x ∷ xs) a b here there same =
    same_place_by a b x xs (bytes_eq x a) (bytes_eq x b) refl refl here there (λ h k e. same_place xs a b h k e) same

-- ---- no reserved name is set

reserved_by : (b : Bool) (name : Named) → is_reserved name.bytes ≡ b → ((f : Fault) → IsReserved name f → ⊥) → b ≡ false
reserved_by true name is clean = absurd (clean (fault_at name.at ReservedName) (is, refl))
reserved_by false name is clean = refl

set_unreserved : (name : Named) (indices : Expressions) → ((f : Fault) → IsReservedTarget indices name f → ⊥) → (n : List ℕ)
    → is_among (bytes_of (set_without_index name indices)) n ≡ true → is_reserved n ≡ false
set_unreserved name none clean n is =
    or_cases (bytes_eq name.bytes n) false is
    (λ h. ap is_reserved (sym (same_bytes name.bytes n h)) ∙ reserved_by (is_reserved name.bytes) name refl clean) (λ h. absurd (cc))
set_unreserved name (more e others) clean n is = absurd (cc)

part_unreserved : (scope : Scope) (part : Part) → IsNone (λ f. IsInPart scope part f) → (n : List ℕ) → is_among (bytes_of (set_in part)) n ≡ true
    → is_reserved n ≡ false
part_unreserved scope (target p) clean n is = set_unreserved p.name p.indices (λ f h. clean f (inl (inl h))) n is
part_unreserved scope (lock_place p) clean n is = absurd (cc)
part_unreserved scope (counter name) clean n is = set_unreserved name none (λ f h. clean f (inl h)) n is
part_unreserved scope (value e) clean n is = absurd (cc)

pub unreserved : (scope : Scope) (parts : List Part) → IsNone (λ f. IsInParts scope parts f) → (n : List ℕ) → is_among (bytes_of (set_names parts)) n ≡ true
    → is_reserved n ≡ false
unreserved scope [] clean n is = absurd (cc)
unreserved scope (part ∷ parts) clean n is =
    front_or_back (bytes_of (set_in part)) (bytes_of (set_names parts)) n
    (subst (λ l. is_among l n ≡ true) (bytes_of-append (set_in part) (set_names parts)) is)
    (λ h. part_unreserved scope part (λ f k. clean f (inl k)) n h) (λ h. unreserved scope parts (λ f k. clean f (inr k)) n h)

-- ---- told apart

abbrev pub IsApart : Private → Type 0
IsApart (named bytes) = is_reserved bytes ≡ false
IsApart (own k first last) = Fits k

no_own : (bytes : List ℕ) (k : ℕ) → is_reserved bytes ≡ false → bytes ≡ codes "_" ++ decimal k → ⊥
no_own bytes k is same = let e : is_reserved bytes ≡ true = ap is_reserved same in cc

behind : (j k : ℕ) → codes "_" ++ decimal j ≡ codes "_" ++ decimal k → decimal j ≡ decimal k
behind j k e = cc

one_text : (x y : Private) → IsApart x → IsApart y → private_text x ≡ private_text y → AreOne x y
one_text (named bytes) (named other) is that same = same
one_text (named bytes) (own k first last) is that same = no_own bytes k is same
one_text (own j first last) (named bytes) is that same = no_own bytes j that (sym same)
one_text (own j first last) (own k one other) is that same = decimal_injective j k is that (behind j k same)

by_text : (names : Names) (x : Private) → number_of (numbers_among names) x ≡ symbol.number_of names (private_text x)
by_text names (named bytes) = refl
by_text names (own k first last) = refl

pub told_apart : (core : Block) → AreFit IsApart core
    → AllNames (λ x. AllNames (λ y. number_of (numbers_in core) x ≡ number_of (numbers_in core) y → AreOne x y) core) core
told_apart core fit =
    let all = with_statements [] core in
    let come = come_all all IsApart core [] (λ n h. h) fit in
    all_names (Comes all IsApart) (λ x. AllNames (λ y. number_of (numbers_in core) x ≡ number_of (numbers_in core) y → AreOne x y) core)
    (λ x hx.
    all_names (Comes all IsApart) (λ y. number_of (numbers_in core) x ≡ number_of (numbers_in core) y → AreOne x y)
    (λ y hy same.
    one_text x y hx.0 hy.0
    (same_place all (private_text x) (private_text y) hx.1 hy.1 (sym (by_text all x) ∙ same ∙ by_text all y)))
    core come)
    core come
