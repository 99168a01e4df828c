-- Indices behind declarations without a fault.
use Rattle.std.proofs.Common.{◌≡◌, ◌==◌, ◌-◌, ◌≤◌, ◌<◌, ◌⊎◌, ℕ, true, false, zero, suc, List, [], ◌∷◌, ◌++◌, length, map, take, refl, sym, ap, subst, ◌∙◌, arith, inl, inr, length-append}
use Rattle.std.specs.Prelude.{Option, Some, None, slice_get, is_some}
use Rattle.lrc_named_tree.specs.declared.tree.Statement as code_statement
use Rattle.lrc_named_tree.specs.Tree.{Declaration}
use Rattle.std.proofs.lemmas.Bool.Decides.{nat_tests}
use Rattle.std.proofs.lemmas.List.{map-append}
use Rattle.lrc_named_tree.specs.declared.tree.Declaration as code_declaration
use Rattle.lrc_named_tree.specs.View.{block_of, declaration_of}
use Rattle.lrc_named_names.specs.Names.{Declared}
use Rattle.lrc_named_constants.specs.Layout.{AreDeclared, no_declaration, one_declaration}
use Rattle.lrc_named_expression_faults.specs.declared.fault.Fault.{Fault}
use Rattle.lrc_named_expression_faults.specs.Fault.{IsNone}
use Rattle.lrc_named_expression_faults.specs.Scope.{Scope}
use Rattle.lrc_named_faults.specs.Program.{IsInProgram}
use Rattle.lrc_named_faults.proofs.Declared.{one_table}
use Rattle.lrc_named_tree.specs.Tree.{empty}
use Rattle.lrc_named_index_hint.specs.declared.over.Beyond.{Beyond}
use Rattle.lrc_named_index_hint.specs.Out.{IsBehind, IsOutIn, IsOutInOne}
use Rattle.lrc_named_index_hint.specs.declared.spots.Spot as code_spot
use Rattle.lrc_named_index_hint.specs.Over.{IsFound, IsOneOver}
use Rattle.lrc_named_index_hint.specs.Spots.{Spot, spot_seen}

one_list : {old one other : List Declared} {all : List Declaration} → AreDeclared old all one → AreDeclared old all other → one ≡ other
one_list no_declaration no_declaration = refl
one_list {other = other} (one_declaration {others = others} first rest) (one_declaration again more) =
    one_list rest (subst (λ table. AreDeclared table others other) (one_table again first) more)

-- what is found by the table of what these declare, which have no fault
pub behind_found : (front : List Declaration) (table : List Declared) (IsSo : List Declared → ℕ → ℕ → Type 0) (found : Option Beyond)
    → IsNone (λ f. IsInProgram None [] front empty f) → AreDeclared [] front table → IsFound (λ v s. IsSo table v s) found
    → IsFound (λ v s. IsBehind front (λ t. IsSo t v s)) found
behind_found front table IsSo None clean declared h = λ v s b. h v s (subst (λ t. IsSo t v s) (one_list b.declared declared) b.so)
behind_found front table IsSo (Some x) clean declared h = record { clean = clean; table = table; declared = declared; so = h }

-- behind a fault nothing is
pub not_behind : (front : List Declaration) (rest : List code_statement.Statement) (fault : Fault) (IsSo : List Declared → ℕ → ℕ → Type 0) → rest ≡ []
    → IsInProgram None [] front (block_of rest) fault → IsFound (λ v s. IsBehind front (λ t. IsSo t v s)) None
not_behind front rest fault IsSo e h = λ v s b. b.clean fault (subst (λ l. IsInProgram None [] front (block_of l) fault) e h)

-- where nothing is so, nothing is
pub nothing_behind : (front : List Declaration) (IsSo : List Declared → ℕ → ℕ → Type 0) → ((t : List Declared) (v s : ℕ) → IsSo t v s → ⊥)
    → IsFound (λ v s. IsBehind front (λ t. IsSo t v s)) None
nothing_behind front IsSo not = λ v s b. not b.table v s b.so

-- what was found where nothing stands behind these
pub clean_of : (front : List Declaration) (rest : List code_statement.Statement) → rest ≡ [] → IsNone (λ f. IsInProgram None [] front (block_of rest) f)
    → IsNone (λ f. IsInProgram None [] front empty f)
clean_of front rest e h = subst (λ l. IsNone (λ f. IsInProgram None [] front (block_of l) f)) e h

pub is_zero : (n : ℕ) → (n == 0) ≡ true → n ≡ 0
is_zero n e = grind (arith, nat_tests)

-- none of no indices is over its size
pub none_seen : (xs : List code_spot.Spot) → length xs ≡ 0 → map spot_seen xs ≡ []
none_seen [] e = refl
none_seen (x ∷ xs) e = absurd (omega arith)

pub none_of_none : (scope : Scope) (spots : List Spot) (v s : ℕ) → spots ≡ [] → IsOneOver scope spots v s → ⊥
none_of_none scope spots v s e h = subst (λ l. IsOneOver scope l v s) e h

-- ---- one declaration more

at_append : (front : List Declaration) (d e : Declaration) (k : ℕ) → slice_get (front ++ d ∷ []) k ≡ Some e
    → ((k < length front) × (slice_get front k ≡ Some e)) ⊎ ((k ≡ length front) × (d ≡ e))
at_append [] d e zero is = inr (refl, cc)
at_append [] d e (suc k) is = absurd (cc)
at_append (x ∷ front) d e zero is = inl (omega arith, is)
at_append (x ∷ front) d e (suc k) is =
    elim (at_append front d e k is) [
      | inl h ↦ let lt = h.0 in inl (omega arith, h.1)
      | inr h ↦ inr (ap suc h.0, h.1)
    ]

take_before : (front : List Declaration) (d : Declaration) (k : ℕ) → k ≤ length front → take k (front ++ d ∷ []) ≡ take k front
take_before front d zero le = refl
take_before [] d (suc k) le = absurd (omega arith)
take_before (x ∷ front) d (suc k) le = ap (λ l. x ∷ l) (take_before front d k (omega arith))

take_whole : (front : List Declaration) (k : ℕ) → k ≡ length front → take k front ≡ front
take_whole [] zero e = refl
take_whole [] (suc k) e = absurd (omega arith)
take_whole (x ∷ front) zero e = absurd (omega arith)
take_whole (x ∷ front) (suc k) e = ap (λ l. x ∷ l) (take_whole front k (omega arith))

at_front : (front : List Declaration) (d e : Declaration) (k : ℕ) → slice_get front k ≡ Some e → (slice_get (front ++ d ∷ []) k ≡ Some e) × (k < length front)
at_front [] d e k is = absurd (cc)
at_front (x ∷ front) d e zero is = (is, omega arith)
at_front (x ∷ front) d e (suc k) is = let h = at_front front d e k is in let lt = h.1 in (h.0, omega arith)

-- what stands at its end, and what stands before it
pub at_place : (front : List Declaration) (d : Declaration) (rest : List Declaration) → slice_get (front ++ d ∷ rest) (length front) ≡ Some d
at_place [] d rest = refl
at_place (x ∷ front) d rest = at_place front d rest

pub front_of : (front : List Declaration) (d : Declaration) (rest : List Declaration) → take (length front) (front ++ d ∷ rest) ≡ front
front_of [] d rest = refl
front_of (x ∷ front) d rest = ap (λ l. x ∷ l) (front_of front d rest)

-- an index in one of these, and in the last
pub in_front : (front : List Declaration) (d : Declaration) (at v s : ℕ) → IsOutInOne front at v s → IsOutInOne (front ++ d ∷ []) at v s
in_front front d at v s h =
    let there = at_front front d h.1 h.0 h.2 in
    let lt = there.1 in
    (h.0, h.1, there.0, subst (λ l. IsBehind l (λ t. IsOutIn t at h.1 v s)) (sym (take_before front d h.0 (omega arith))) h.3)

pub in_last : (front : List Declaration) (d : Declaration) (at v s : ℕ) → IsBehind front (λ t. IsOutIn t at d v s) → IsOutInOne (front ++ d ∷ []) at v s
in_last front d at v s h = (length front, d, at_place front d [], subst (λ l. IsBehind l (λ t. IsOutIn t at d v s)) (sym (front_of front d [])) h)

pub in_either : (front : List Declaration) (d : Declaration) (at v s : ℕ) → IsOutInOne (front ++ d ∷ []) at v s
    → IsOutInOne front at v s ⊎ IsBehind front (λ t. IsOutIn t at d v s)
in_either front d at v s h =
    elim (at_append front d h.1 h.0 h.2) [
      | inl a ↦
          let lt = a.0 in
          inl (h.0, h.1, a.1, subst (λ l. IsBehind l (λ t. IsOutIn t at h.1 v s)) (take_before front d h.0 (omega arith)) h.3)
      | inr a ↦
          let all = a.0 in
          inr (subst (λ x. IsBehind front (λ t. IsOutIn t at x v s)) (sym a.1)
          (subst (λ l. IsBehind l (λ t. IsOutIn t at h.1 v s)) (take_before front d h.0 (omega arith) ∙ take_whole front h.0 a.0) h.3))
    ]

-- what is in all is in those that are left, and back
abbrev pub AreLeft : (all rest : List Declaration) → (at : ℕ) → Type 0
AreLeft all rest at = (v s : ℕ) → (IsOutInOne all at v s → IsOutInOne rest at v s) × (IsOutInOne rest at v s → IsOutInOne all at v s)

pub all_left : (all : List Declaration) (at : ℕ) → AreLeft all all at
all_left all at = λ v s. (λ h. h, λ h. h)

pub one_less : (all old new : List Declaration) (d : Declaration) (at : ℕ) → old ≡ new ++ d ∷ [] → AreLeft all old at
    → IsFound (λ v s. IsBehind new (λ t. IsOutIn t at d v s)) None → AreLeft all new at
one_less all old new d at e left not = λ v s. (
  λ h. elim (in_either new d at v s (subst (λ l. IsOutInOne l at v s) e ((left v s).0 h))) [ inl there ↦ there | inr last ↦ absurd (not v s last) ],
  λ h. (left v s).1 (subst (λ l. IsOutInOne l at v s) (sym e) (in_front new d at v s h)),
)

pub here_left : (all old new : List Declaration) (d : Declaration) (at v s : ℕ) → old ≡ new ++ d ∷ [] → AreLeft all old at
    → IsBehind new (λ t. IsOutIn t at d v s) → IsOutInOne all at v s
here_left all old new d at v s e left h = (left v s).1 (subst (λ l. IsOutInOne l at v s) (sym e) (in_last new d at v s h))

no_place : (k : ℕ) (d : Declaration) → slice_get [] k ≡ Some d → ⊥
no_place zero d e = absurd (cc)
no_place (suc k) d e = absurd (cc)

nowhere : (at v s : ℕ) → IsOutInOne [] at v s → ⊥
nowhere at v s h = no_place h.0 h.1 h.2

pub none_left : (all rest : List Declaration) (at : ℕ) → rest ≡ [] → AreLeft all rest at → IsFound (λ v s. IsOutInOne all at v s) None
none_left all rest at e left = λ v s h. nowhere at v s (subst (λ l. IsOutInOne l at v s) e ((left v s).0 h))

-- what was found, and that nothing was
pub some_found : (A B : ℕ → ℕ → Type 0) (found : Option Beyond) → is_some found ≡ true → ((v s : ℕ) → A v s → B v s) → IsFound A found → IsFound B found
some_found A B None e f h = absurd (cc)
some_found A B (Some x) e f h = f x.value x.size h

pub none_found : (A : ℕ → ℕ → Type 0) (found : Option Beyond) → is_some found ≡ false → IsFound A found → IsFound A None
none_found A None e h = h
none_found A (Some x) e h = absurd (cc)

-- the last one of these is taken away
pub last_taken : (all front : List code_declaration.Declaration) (d : code_declaration.Declaration) → all ≡ front ++ d ∷ []
    → map declaration_of all ≡ map declaration_of front ++ declaration_of d ∷ []
last_taken all front d e = ap (map declaration_of) e ∙ map-append declaration_of front (d ∷ [])

-- the last one of these
placed : {A : Type 0} (before : List A) (last : A) → slice_get (before ++ last ∷ []) (length before) ≡ Some last
placed [] last = refl
placed (x ∷ before) last = placed before last

last_is : {A : Type 0} (all before : List A) (last : A) → all ≡ before ++ last ∷ [] → slice_get all (length all - 1) ≡ Some last
last_is all before last e =
    let count : length (before ++ last ∷ []) - 1 ≡ length before = omega (arith, length-append before (last ∷ [])) in
    subst (λ l. slice_get l (length l - 1) ≡ Some last) (sym e) (ap (λ (n : ℕ). slice_get (before ++ last ∷ []) n) count ∙ placed before last)

same_last : {A : Type 0} {x y : A} → Some x ≡ Some y → x ≡ y
same_last e = cc

-- what is found of the last one
abbrev pub IsFoundIn : (front : List Declaration) (at : ℕ) → code_declaration.Declaration → Option Beyond → Type 0
IsFoundIn front at d found = IsFound (λ v s. IsBehind front (λ t. IsOutIn t at (declaration_of d) v s)) found

pub last_found : (front : List Declaration) (at : ℕ) (all : List code_declaration.Declaration) (d : code_declaration.Declaration) (found : Option Beyond)
    → slice_get all (length all - 1) ≡ Some d → IsFoundIn front at d found → (before : List code_declaration.Declaration) (last : code_declaration.Declaration)
    → all ≡ before ++ last ∷ [] → IsFoundIn front at last found
last_found front at all d found is h before last e = subst (λ x. IsFoundIn front at x found) (same_last (sym is ∙ last_is all before last e)) h

pub none_last : (front : List Declaration) (at : ℕ) (all : List code_declaration.Declaration) → slice_get all (length all - 1) ≡ None
    → (before : List code_declaration.Declaration) (last : code_declaration.Declaration) → all ≡ before ++ last ∷ [] → IsFoundIn front at last None
none_last front at all is before last e = let some = last_is all before last e in absurd (cc)
