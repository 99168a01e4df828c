-- A core has at most 32 private names.
use Rattle.std.proofs.Common.{◌≡◌, ◌≤◌, ◌<◌, ◌+◌, ◌-◌, ◌||◌, ◌&&◌, not, ℕ, zero, suc, Bool, true, false, if◌then◌else◌, cond, filter, List, [], ◌∷◌, ◌++◌, length, append_assoc, append-nil, length-append, refl, sym, ap, subst, ◌∙◌, arith, inl, inr}
use Rattle.std.specs.Prelude.{Option, Some, None, min, is_some}
use Rattle.std.specs.Str.{bytes_eq}
use Rattle.std.proofs.lemmas.Bool.{cases_eq, cases_lt}
use Rattle.std.proofs.lemmas.Map.Views.{any-filter_same}
use Rattle.std.proofs.lemmas.Slice.Eq.{bytes_eq-Decides}
use Rattle.lrc_lang.specs.Symbol.{Names}
use Rattle.lrc_named_tree.specs.Tree.{Block as Tree, Expressions, Named, none, more}
use Rattle.lrc_named_names.specs.Names.{Declared, Meaning, meaning_of}
use Rattle.lrc_named_constants.specs.Well.{bytes_of, is_among}
use Rattle.lrc_named_core.specs.Tree.{Private, named, own, Expression, number, private, me, nodes, binary, Statement, Block, empty, next}
use Rattle.lrc_named_core.specs.Tree.{assign, read, write, acquire, release, barrier, print, if_else, while_do}
use Rattle.lrc_named_expression_faults.specs.declared.fault.FaultKind.TheVariants.{TooManyNames}
use Rattle.lrc_named_expression_faults.specs.Fault.{IsNone, fault_at}
use Rattle.lrc_named_expression_faults.specs.Scope.{sense_by, sense_of}
use Rattle.lrc_named_statement_faults.specs.Parts.{Part, counter, lock_place, parts_of_block, target, value}
use Rattle.lrc_named_statement_faults.specs.Statements.{IsInStatements, IsOneTooMany, different, is_private_sense, names_in_all, names_in_part, names_in_parts, private_names, set_in, set_names, set_without_index, statement_scope}
use Rattle.lrc_named_statement_faults.proofs.Different.{different_last, unless_known}
use Rattle.lrc_named_limits.specs.Limits.{IsBeyond, own_number}
use Rattle.lrc_named_text.specs.Expressions.{private_text}
use Rattle.lrc_named_written.specs.Privates.{is_undeclared, privates, undeclared}
use Rattle.lrc_named_text_laws.specs.Named.{with_expression, with_name, with_statement, with_statements}
use Rattle.lrc_named_text_laws.specs.Spelled.{IsSpelledName}
use Rattle.lrc_named_laws.proofs.Cores.{AreFit, IsFit, IsFitStatement}
use Rattle.lrc_named_laws.proofs.Expressions.{IsOfCore}

pub same_bytes : (xs ys : List ℕ) → bytes_eq xs ys ≡ true → xs ≡ ys
same_bytes xs ys e = (bytes_eq-Decides xs ys).0 e

pub equal_bytes : (xs ys : List ℕ) → xs ≡ ys → bytes_eq xs ys ≡ true
equal_bytes xs ys e = (bytes_eq-Decides xs ys).1 e

-- ---- names among others

pub or_true : (a b : Bool) → a ≡ true → (a || b) ≡ true
or_true true b is = refl
or_true false b is = absurd (cc)

pub or_behind : (a b : Bool) → b ≡ true → (a || b) ≡ true
or_behind true b is = refl
or_behind false b is = is

pub or_cases : {A : Type 0} (a b : Bool) → (a || b) ≡ true → (a ≡ true → A) → (b ≡ true → A) → A
or_cases true b is first other = first refl
or_cases false b is first other = other is

pub in_front : (xs ys : List (List ℕ)) (n : List ℕ) → is_among xs n ≡ true → is_among (xs ++ ys) n ≡ true
in_front [] ys n is = absurd (cc)
in_front (x ∷ xs) ys n is =
    or_cases (bytes_eq x n) (is_among xs n) is (λ h. or_true (bytes_eq x n) (is_among (xs ++ ys) n) h)
    (λ h. or_behind (bytes_eq x n) (is_among (xs ++ ys) n) (in_front xs ys n h))

pub in_back : (xs ys : List (List ℕ)) (n : List ℕ) → is_among ys n ≡ true → is_among (xs ++ ys) n ≡ true
in_back [] ys n is = is
in_back (x ∷ xs) ys n is = or_behind (bytes_eq x n) (is_among (xs ++ ys) n) (in_back xs ys n is)

pub front_or_back : {A : Type 0} (xs ys : List (List ℕ)) (n : List ℕ) → is_among (xs ++ ys) n ≡ true → (is_among xs n ≡ true → A) → (is_among ys n ≡ true → A) → A
front_or_back [] ys n is first other = other is
front_or_back (x ∷ xs) ys n is first other =
    or_cases (bytes_eq x n) (is_among (xs ++ ys) n) is (λ h. first (or_true (bytes_eq x n) (is_among xs n) h))
    (λ h. front_or_back xs ys n h (λ k. first (or_behind (bytes_eq x n) (is_among xs n) k)) other)

-- those of a list that pass a test, where one does
passes : (p : List ℕ → Bool) (names : List (List ℕ)) (n : List ℕ) → p n ≡ true → is_among names n ≡ true → is_among (filter p names) n ≡ true
passes p names n is there =
    any-filter_same (λ k. bytes_eq k n) p true (λ k e. ap p (same_bytes k n e) ∙ is) names ∙ there

-- ---- how many different ones

-- the others
abbrev without : List ℕ → List (List ℕ) → List (List ℕ)
without n names = filter (λ k. not (bytes_eq k n)) names

not_same : (b : Bool) → b ≡ false → not b ≡ true
not_same b is = ap not is

among_without : (m : List ℕ) (names : List (List ℕ)) (n : List ℕ) → bytes_eq n m ≡ false → is_among (without m names) n ≡ is_among names n
among_without m names n other =
    any-filter_same (λ k. bytes_eq k n) (λ k. not (bytes_eq k m)) true
    (λ k e. ap (λ l. not (bytes_eq l m)) (same_bytes k n e) ∙ ap not other) names

-- without one that is among them there is one less
one_less_by : (e a k : Bool) (m : List ℕ) (ms rest : List (List ℕ)) (w : Bool) → (e ≡ true → k ≡ a) → (e ≡ false → w ≡ k)
    → different rest + unless_known (not a) ≤ different ms
    → (if e then different rest else unless_known w + different rest) + unless_known (not (e || a)) ≤ unless_known k + different ms
one_less_by true true k m ms rest w same other less = let known = ap unless_known (same refl) in omega (arith, known, less)
one_less_by true false k m ms rest w same other less = let known = ap unless_known (same refl) in omega (arith, known, less)
one_less_by false a k m ms rest w same other less = let known = ap unless_known (other refl) in omega (arith, known, less)

counted_without : (b : Bool) (m : List ℕ) (rest : List (List ℕ))
    → different (cond (not b) (m ∷ rest) rest) ≡ (if b then different rest else unless_known (is_among rest m) + different rest)
counted_without true m rest = refl
counted_without false m rest = refl

one_less : (n : List ℕ) (names : List (List ℕ)) → different (without n names) + unless_known (not (is_among names n)) ≤ different names
one_less n [] = omega arith
one_less n (m ∷ ms) =
    let rest = without n ms in
    let step = one_less_by (bytes_eq m n) (is_among ms n) (is_among ms m) m ms rest (is_among rest m) (λ e. ap (is_among ms) (same_bytes m n e))
    (λ e. among_without n ms m e) (one_less n ms) in
    let cut = counted_without (bytes_eq m n) m rest in
    omega (arith, step, cut)

apart_by : (b : Bool) (n m : List ℕ) (ns : List (List ℕ)) → b ≡ bytes_eq n m → is_among ns n ≡ true → is_among ns m ≡ false → b ≡ false
apart_by true n m ns is there nothing = let e = ap (is_among ns) (same_bytes n m (sym is)) in absurd (cc)
apart_by false n m ns is there nothing = refl

abbrev AreAmong : (ns ms : List (List ℕ)) → Type 0
AreAmong ns ms = (n : List ℕ) → is_among ns n ≡ true → is_among ms n ≡ true

one_more : (b : Bool) (n : List ℕ) (ns ms : List (List ℕ)) → is_among ns n ≡ b → AreAmong (n ∷ ns) ms
    → ((ks : List (List ℕ)) → AreAmong ns ks → different ns ≤ different ks) → unless_known (is_among ns n) + different ns ≤ different ms
one_more true n ns ms is within rest =
    let known = ap unless_known is in
    let h = rest ms (λ m h. within m (or_behind (bytes_eq n m) (is_among ns m) h)) in
    omega (arith, known, h)
one_more false n ns ms is within rest =
    let known = ap unless_known is in
    let here = within n (or_true (bytes_eq n n) (is_among ns n) (equal_bytes n n refl)) in
    let there = ap (λ b. unless_known (not b)) here in
    let less = one_less n ms in
    let h = rest (without n ms)
    (λ m h. among_without n ms m (apart_by (bytes_eq m n) m n ns refl h is) ∙ within m (or_behind (bytes_eq n m) (is_among ns m) h)) in
    omega (arith, known, there, less, h)

-- there are no more different names than among those that they all are among
pub different_within : (ns ms : List (List ℕ)) → AreAmong ns ms → different ns ≤ different ms
different_within [] ms within = omega arith
different_within (n ∷ ns) ms within = one_more (is_among ns n) n ns ms refl within (λ ks h. different_within ns ks h)

unless_fewer : (a b : Bool) → (a ≡ true → b ≡ true) → unless_known b ≤ unless_known a
unless_fewer true b there = let e = ap unless_known (there refl) in omega (arith, e)
unless_fewer false true there = omega arith
unless_fewer false false there = omega arith

at_most_one : (b : Bool) → unless_known b ≤ 1
at_most_one true = omega arith
at_most_one false = omega arith

at_most_all : (ns : List (List ℕ)) → different ns ≤ length ns
at_most_all [] = omega arith
at_most_all (n ∷ ns) = let one = at_most_one (is_among ns n) in let rest = at_most_all ns in omega (arith, one, rest)

different_behind : (xs ys : List (List ℕ)) → different (xs ++ ys) ≤ different xs + length ys
different_behind [] ys = let h = at_most_all ys in omega (arith, h)
different_behind (x ∷ xs) ys =
    let one = unless_fewer (is_among xs x) (is_among (xs ++ ys) x) (λ h. in_front xs ys x h) in
    let rest = different_behind xs ys in
    omega (arith, one, rest)

-- ---- the private names of a text without a fault

pub bytes_of-append : (xs ys : List Named) → bytes_of (xs ++ ys) ≡ bytes_of xs ++ bytes_of ys
bytes_of-append [] ys = refl
bytes_of-append (x ∷ xs) ys = ap (λ l. x.bytes ∷ l) (bytes_of-append xs ys)

-- where none is one too many, there are at most 32
few_so_far : (front rest : List Named) → IsNone (λ f. IsOneTooMany (front ++ rest) f) → different (bytes_of front) ≤ 32 → different (bytes_of (front ++ rest)) ≤ 32
few_so_far front [] clean few = subst (λ l. different (bytes_of l) ≤ 32) (sym (append-nil front)) few
few_so_far front (n ∷ rest) clean few =
    let moved : (front ++ n ∷ []) ++ rest ≡ front ++ n ∷ rest = append_assoc front (n ∷ []) rest in
    let last = ap different (bytes_of-append front (n ∷ [])) ∙ different_last (bytes_of front) n.bytes in
    let now : different (bytes_of (front ++ n ∷ [])) ≤ 32 = by (is_among (bytes_of front) n.bytes) refl last in
    subst (λ l. different (bytes_of l) ≤ 32) moved
    (few_so_far (front ++ n ∷ []) rest (subst (λ l. IsNone (λ f. IsOneTooMany l f)) (sym moved) clean) now)
  where
    by : (b : Bool) → is_among (bytes_of front) n.bytes ≡ b
        → different (bytes_of (front ++ n ∷ [])) ≡ unless_known (is_among (bytes_of front) n.bytes) + different (bytes_of front)
        → different (bytes_of (front ++ n ∷ [])) ≤ 32
    by true is last = let known = ap unless_known is in omega (arith, known, last, few)
    by false is last = elim (cases_eq (different (bytes_of front)) 32) [
      | inl all ↦ absurd (clean (fault_at n.at TooManyNames) ((front, n, rest, (refl, is, all), refl)))
      | inr room ↦ let known = ap unless_known is in omega (arith, known, last, few, room)
    ]

few_different : (names : List Named) → IsNone (λ f. IsOneTooMany names f) → different (bytes_of names) ≤ 32
few_different names clean = few_so_far [] names clean (omega arith)

-- what is set is named
set_is_named : (n : Named) (indices : Expressions) (m : List ℕ) → is_among (bytes_of (set_without_index n indices)) m ≡ true
    → is_among (bytes_of (n ∷ names_in_all indices)) m ≡ true
set_is_named n none m is = is
set_is_named n (more e others) m is = absurd (cc)

part_names : (part : Part) (m : List ℕ) → is_among (bytes_of (set_in part)) m ≡ true → is_among (bytes_of (names_in_part part)) m ≡ true
part_names (target p) m is = set_is_named p.name p.indices m is
part_names (lock_place p) m is = absurd (cc)
part_names (counter n) m is = is
part_names (value e) m is = absurd (cc)

parts_names : (parts : List Part) (m : List ℕ) → is_among (bytes_of (set_names parts)) m ≡ true → is_among (bytes_of (names_in_parts parts)) m ≡ true
parts_names [] m is = absurd (cc)
parts_names (part ∷ parts) m is =
    let one = bytes_of (set_in part) in
    let others = bytes_of (set_names parts) in
    let here = bytes_of (names_in_part part) in
    let there = bytes_of (names_in_parts parts) in
    subst (λ l. is_among l m ≡ true) (sym (bytes_of-append (names_in_part part) (names_in_parts parts)))
    (front_or_back one others m (subst (λ l. is_among l m ≡ true) (bytes_of-append (set_in part) (set_names parts)) is)
    (λ h. in_front here there m (part_names part m h)) (λ h. in_back here there m (parts_names parts m h)))

-- of named ones, those that pass a test
named_pass : (p : List ℕ → Bool) (names : List Named) (m : List ℕ) → p m ≡ true → is_among (bytes_of names) m ≡ true
    → is_among (bytes_of (filter (λ (n : Named). p n.bytes) names)) m ≡ true
named_pass p [] m is there = absurd (cc)
named_pass p (n ∷ names) m is there =
    or_cases (bytes_eq n.bytes m) (is_among (bytes_of names) m) there
    (λ h. kept (p n.bytes) (ap p (same_bytes n.bytes m h) ∙ is) (or_true (bytes_eq n.bytes m) _ h))
    (λ h. passed (p n.bytes) (named_pass p names m is h))
  where
    kept : (b : Bool) → b ≡ true → is_among (n.bytes ∷ bytes_of (filter (λ (k : Named). p k.bytes) names)) m ≡ true
        → is_among (bytes_of (cond b (n ∷ filter (λ (k : Named). p k.bytes) names) (filter (λ (k : Named). p k.bytes) names))) m ≡ true
    kept true e h = h
    kept false e h = absurd (cc)

    passed : (b : Bool) → is_among (bytes_of (filter (λ (k : Named). p k.bytes) names)) m ≡ true
        → is_among (bytes_of (cond b (n ∷ filter (λ (k : Named). p k.bytes) names) (filter (λ (k : Named). p k.bytes) names))) m ≡ true
    passed true h = or_behind (bytes_eq n.bytes m) _ h
    passed false h = h

abbrev IsSetAlone : List Declared → List (List ℕ) → List ℕ → Type 0
IsSetAlone declared set n = (meaning_of declared n ≡ None) × (is_among set n ≡ true)

nothing_by : (m : Option Meaning) → not (is_some m) ≡ true → m ≡ None
nothing_by None is = refl
nothing_by (Some x) is = absurd (cc)

alone_by : (b : Bool) (declared : List Declared) (x : List ℕ) (set : List (List ℕ)) (n : List ℕ) → is_undeclared declared x ≡ b
    → (is_among (undeclared declared set) n ≡ true → IsSetAlone declared set n)
    → is_among (cond b (x ∷ undeclared declared set) (undeclared declared set)) n ≡ true → IsSetAlone declared (x ∷ set) n
alone_by true declared x set n is rest h =
    or_cases (bytes_eq x n) (is_among (undeclared declared set) n) h
    (λ k.
    (nothing_by (meaning_of declared n) (ap (is_undeclared declared) (sym (same_bytes x n k)) ∙ is), or_true (bytes_eq x n) (is_among set n) k))
    (λ k. let r = rest k in (r.0, or_behind (bytes_eq x n) (is_among set n) r.1))
alone_by false declared x set n is rest h = let r = rest h in (r.0, or_behind (bytes_eq x n) (is_among set n) r.1)

set_alone : (declared : List Declared) (set : List (List ℕ)) (n : List ℕ) → is_among (undeclared declared set) n ≡ true → IsSetAlone declared set n
set_alone declared [] n is = absurd (cc)
set_alone declared (x ∷ set) n is = alone_by (is_undeclared declared x) declared x set n refl (λ h. set_alone declared set n h) is

private_by : (m : Option Meaning) (s : Bool) → m ≡ None → s ≡ true → is_private_sense (sense_by false m s) ≡ true
private_by None true nothing set = refl
private_by None false nothing set = absurd (cc)
private_by (Some x) s nothing set = absurd (cc)

-- the names that are set and not declared are private, and there are at most 32
few_private : (declared : List Declared) (b : Tree) → IsNone (λ f. IsInStatements declared b f)
    → different (undeclared declared (bytes_of (set_names (parts_of_block b)))) ≤ 32
few_private declared b clean =
    let parts = parts_of_block b in
    let scope = statement_scope declared parts in
    let set = bytes_of (set_names parts) in
    let all = names_in_parts parts in
    let most = few_different (private_names scope all) (λ f h. clean f (inr h)) in
    let fewer = different_within (undeclared declared set) (bytes_of (private_names scope all))
    (λ n h.
    let alone = set_alone declared set n h in
    named_pass (λ m. is_private_sense (sense_of scope m)) all n (private_by (meaning_of declared n) (is_among set n) alone.0 alone.1)
    (parts_names parts n alone.1)) in
    omega (arith, most, fewer)

-- ---- the names of a core

-- the first so many of the translation's own
abbrev owns : ℕ → List (List ℕ)
owns zero = []
owns (suc n) = private_text (own (suc n) 0 0) ∷ owns n

owns_length : (n : ℕ) → length (owns n) ≡ n
owns_length zero = refl
owns_length (suc n) = let h = owns_length n in omega (arith, h)

among_owns : (n k first last : ℕ) → 1 ≤ k → k ≤ n → is_among (owns n) (private_text (own k first last)) ≡ true
among_owns zero k first last some few = absurd (omega (arith, some, few))
among_owns (suc n) k first last some few =
    elim (cases_eq k (suc n)) [
      | inl last_one ↦ or_true (bytes_eq (private_text (own (suc n) 0 0)) (private_text (own k first last))) _
          (equal_bytes (private_text (own (suc n) 0 0)) (private_text (own k first last)) (ap (λ j. private_text (own j 0 0)) (sym last_one)))
      | inr other ↦ or_behind (bytes_eq (private_text (own (suc n) 0 0)) (private_text (own k first last))) _
          (among_owns n k first last some (omega (arith, few, other)))
    ]

-- those that a core may have: the private ones of the text, and those of the translation's own for which there is room
abbrev pub allowed : List Declared → Tree → List (List ℕ)
allowed declared b = undeclared declared (bytes_of (set_names (parts_of_block b))) ++ owns (32 - privates declared b)

abbrev pub IsAllowed : List Declared → Tree → Private → Type 0
IsAllowed declared b name = IsSpelledName name × (is_among (allowed declared b) (private_text name) ≡ true)

counted_privates : (declared : List Declared) (b : Tree) → IsNone (λ f. IsInStatements declared b f)
    → privates declared b ≡ different (undeclared declared (bytes_of (set_names (parts_of_block b))))
counted_privates declared b clean = let few = few_private declared b clean in omega (arith, few)

pub few_allowed : (declared : List Declared) (b : Tree) → IsNone (λ f. IsInStatements declared b f) → different (allowed declared b) ≤ 32
few_allowed declared b clean =
    let set = undeclared declared (bytes_of (set_names (parts_of_block b))) in
    let room = 32 - privates declared b in
    let few = few_private declared b clean in
    let many = counted_privates declared b clean in
    let all = different_behind set (owns room) in
    let long = owns_length room in
    omega (arith, few, many, all, long)

-- a name of the core for which there is room is one of these
pub is_allowed : (declared : List Declared) (b : Tree) → IsNone (λ f. IsInStatements declared b f) → (name : Private)
    → IsOfCore declared (bytes_of (set_names (parts_of_block b))) name → (IsBeyond (privates declared b) (own_number name) → ⊥) → IsAllowed declared b name
is_allowed declared b clean (named bytes) is room =
    let set = bytes_of (set_names (parts_of_block b)) in
    let alone : is_undeclared declared bytes ≡ true = ap (λ m. not (is_some m)) is.2 in (
      is.0,
      in_front (undeclared declared set) (owns (32 - privates declared b)) bytes (passes (is_undeclared declared) set bytes alone is.1),
    )
is_allowed declared b clean (own k first last) is room =
    let set = bytes_of (set_names (parts_of_block b)) in
    let fits : k ≤ 32 - privates declared b = elim (cases_lt 32 (k + privates declared b)) [
      | inl beyond ↦ absurd (room (is, beyond))
      | inr few ↦ omega (arith, few)
    ] in (
      omega (arith, fits),
      in_back (undeclared declared set) (owns (32 - privates declared b)) (private_text (own k first last)) (among_owns (32 - privates declared b) k first last is fits),
    )

-- ---- in the order of the text

module _ (all : List (List ℕ)) (IsSuch : Private → Type 0) (there : (name : Private) → IsSuch name → is_among all (private_text name) ≡ true) where
  -- so far each name has come once, and is one of these
  record AreCounted (names : Names) : Type 0 where
    once : length names ≡ different names
    within : AreAmong names all

  with_one : (names : Names) (bytes : List ℕ) (b : Bool) → is_among names bytes ≡ b → is_among all bytes ≡ true → AreCounted names
      → AreCounted (if b then names else names ++ bytes ∷ [])
  with_one names bytes true is here counted = counted
  with_one names bytes false is here counted =
      let known = ap unless_known is in
      let last = different_last names bytes in
      let long = length-append names (bytes ∷ []) in
      let before = counted.once in
      record {
        once = omega (arith, known, last, long, before);
        within = λ n h.
            front_or_back names (bytes ∷ []) n h (λ k. counted.within n k)
            (λ k.
            or_cases (bytes_eq bytes n) false k (λ e. subst (λ m. is_among all m ≡ true) (same_bytes bytes n e) here) (λ e. absurd (cc)));
      }

  name_counted : (names : Names) (name : Private) → IsSuch name → AreCounted names → AreCounted (with_name names name)
  name_counted names name is counted = with_one names (private_text name) (is_among names (private_text name)) refl (there name is) counted

  expression_counted : (e : Expression) (names : Names) → IsFit IsSuch e → AreCounted names → AreCounted (with_expression names e)
  expression_counted (number n) names fit counted = counted
  expression_counted (private name) names fit counted = name_counted names name fit counted
  expression_counted me names fit counted = counted
  expression_counted nodes names fit counted = counted
  expression_counted (binary left o right) names fit counted =
      expression_counted right (with_expression names left) fit.1 (expression_counted left names fit.0 counted)

  mutual
    statement_counted : (s : Statement) (names : Names) → IsFitStatement IsSuch s → AreCounted names → AreCounted (with_statement names s)
    statement_counted (assign o name e) names fit counted = expression_counted e (with_name names name) fit.1 (name_counted names name fit.0 counted)
    statement_counted (read o name word) names fit counted = expression_counted word (with_name names name) fit.1 (name_counted names name fit.0 counted)
    statement_counted (write o word e) names fit counted = expression_counted e (with_expression names word) fit.1 (expression_counted word names fit.0 counted)
    statement_counted (acquire o word) names fit counted = expression_counted word names fit counted
    statement_counted (release o word) names fit counted = expression_counted word names fit counted
    statement_counted (barrier o) names fit counted = counted
    statement_counted (print o e) names fit counted = expression_counted e names fit counted
    statement_counted (if_else o condition first second) names fit counted =
        all_counted second (with_statements (with_expression names condition) first) fit.2
        (all_counted first (with_expression names condition) fit.1 (expression_counted condition names fit.0 counted))
    statement_counted (while_do o condition inside) names fit counted =
        all_counted inside (with_expression names condition) fit.1 (expression_counted condition names fit.0 counted)

    all_counted : (b : Block) (names : Names) → AreFit IsSuch b → AreCounted names → AreCounted (with_statements names b)
    all_counted empty names fit counted = counted
    all_counted (next first others) names fit counted =
        all_counted others (with_statement names first) fit.1 (statement_counted first names fit.0 counted)

  pub few_names : (b : Block) → AreFit IsSuch b → different all ≤ 32 → length (with_statements [] b) ≤ 32
  few_names b fit few =
      let counted = all_counted b [] fit (record { once = refl; within = λ n h. absurd (cc) }) in
      let once = counted.once in
      let fewer = different_within (with_statements [] b) all counted.within in
      omega (arith, once, fewer, few)
