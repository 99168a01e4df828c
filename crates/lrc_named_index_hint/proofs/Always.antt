-- The first fault of a program, where it is an index that is out of range: the index has a value and a size.
use Rattle.std.proofs.Common.{◌≡◌, ◌≤◌, ◌⊎◌, ℕ, List, [], ◌∷◌, ◌++◌, length, take, refl, sym, ap, subst, ◌∙◌, append-nil, append_assoc, arith, inl, inr}
use Rattle.std.specs.Prelude.{Option, Some, None, slice_get}
use Rattle.lrc_named_tokens.specs.Token.{Token}
use Rattle.lrc_named_tree.specs.Tree.{Named, Expressions, none, more, Place, Declaration, NamedTree, empty, node_count, constant, shared, lock, function}
use Rattle.lrc_named_tree.specs.Grammar.{IsNamedProgram}
use Rattle.lrc_named_names.specs.Names.{Declared}
use Rattle.lrc_named_constants.specs.Layout.{no_declaration}
use Rattle.lrc_named_expression_faults.specs.declared.fault.Fault.{Fault}
use Rattle.lrc_named_expression_faults.specs.declared.fault.FaultKind.TheVariants.{IndexOutOfRange}
use Rattle.lrc_named_expression_faults.specs.Fault.{IsFirstOf}
use Rattle.lrc_named_statement_faults.specs.Statements.{IsInStatements}
use Rattle.lrc_named_faults.specs.Checked.{LeadsTo}
use Rattle.lrc_named_faults.specs.Declarations.{IsInDeclaration, IsInItem, IsInItems, IsInName, IsInParameters, IsInSizes, Kind, body_scope, constant_scope, with_item}
use Rattle.lrc_named_faults.specs.Program.{IsFaultOf, IsInProgram, counted_with}
use Rattle.lrc_named_faults.proofs.Leading.{next, start}
use Rattle.lrc_named_index_hint.specs.Out.{IsBehind, IsOutAmong, IsOutIn, IsOutInOne, IsOutOfRange}
use Rattle.lrc_named_index_hint.proofs.Behind.{at_place, front_of}
use Rattle.lrc_named_index_hint.proofs.Declared.{OrderedAll, OrderedIn, OrderedItems, all_ordered}
use Rattle.lrc_named_index_hint.proofs.Earlier.{earlier_in}
use Rattle.lrc_named_index_hint.proofs.Ordered.{AreOrdered}
use Rattle.lrc_named_index_hint.proofs.Standing.{in_expression, in_statements, of_kind}

-- ---- names and sizes have no such fault

name_other : (table : List Declared) (others : List (List ℕ)) (named : Named) (f : Fault) → f.kind ≡ IndexOutOfRange → IsInName table others named f → ⊥
name_other table others named f is h =
    elim h [ inl a ↦ (let e = of_kind is a.1 in absurd (cc)) | inr b ↦ (let e = of_kind is b.1 in absurd (cc)) ]

parameters_other : (table : List Declared) (before : List (List ℕ)) (parameters : List Named) (f : Fault) → f.kind ≡ IndexOutOfRange
    → IsInParameters table before parameters f → ⊥
parameters_other table before [] f is h = h
parameters_other table before (named ∷ others) f is h =
    elim h [ inl a ↦ name_other table before named f is a | inr b ↦ parameters_other table (before ++ named.bytes ∷ []) others f is b ]

-- no fault of these stands before this one
abbrev IsFirstHere : (Fault → Type 0) → Fault → Type 0
IsFirstHere IsOne f = (g : Fault) → IsOne g → f.at ≤ g.at

sizes_other : (table : List Declared) (es : Expressions) (f : Fault) → f.kind ≡ IndexOutOfRange → AreOrdered es
    → IsFirstHere (λ g. IsInSizes (constant_scope table) es g) f → IsInSizes (constant_scope table) es f → ⊥
sizes_other table none f is ordered first h = h
sizes_other table (more e others) f is ordered first h =
    elim h [
      | inl one ↦ elim one [
        | inl inside ↦
            let before = earlier_in (constant_scope table) e f refl ordered.0 is inside in
            let lt = before.2 in
            let le = first before.0 (inl (inl before.1)) in
            absurd (omega arith)
        | inr over ↦ (let e = of_kind is over.1 in absurd (cc))
      ]
      | inr later ↦ sizes_other table others f is ordered.1 (λ g b. first g (inr b)) later
    ]

item_other : (kind : Kind) (table : List Declared) (p : Place) (f : Fault) → f.kind ≡ IndexOutOfRange → AreOrdered p.indices
    → IsFirstHere (λ g. IsInItem kind table p g) f → IsInItem kind table p f → ⊥
item_other kind table p f is ordered first h =
    elim h [
      | inl own ↦ elim own [
        | inl named ↦ name_other table [] p.name f is named
        | inr sizes ↦ sizes_other table p.indices f is ordered (λ g b. first g (inl (inr b))) sizes
      ]
      | inr large ↦ (let e = of_kind is large.1 in absurd (cc))
    ]

items_other : (kind : Kind) (table : List Declared) (items : List Place) (f : Fault) → f.kind ≡ IndexOutOfRange → OrderedItems items
    → IsFirstHere (λ g. IsInItems kind table items g) f → IsInItems kind table items f → ⊥
items_other kind table [] f is ordered first h = h
items_other kind table (p ∷ others) f is ordered first h =
    elim h [
      | inl one ↦ item_other kind table p f is ordered.0 (λ g b. first g (inl b)) one
      | inr later ↦
          let sizes = later.1.0 in
          items_other kind (with_item kind table p sizes) others f is ordered.1 (λ g b. first g (inr (later.0, (sizes, later.1.1, b)))) later.1.2
    ]

-- a declaration that has it is a function
in_declaration : (counted : Option ℕ) (table : List Declared) (d : Declaration) (f : Fault) → f.kind ≡ IndexOutOfRange → OrderedIn d
    → IsFirstHere (λ g. IsInDeclaration counted table d g) f → IsInDeclaration counted table d f → (v : ℕ) × (s : ℕ) × IsOutIn table f.at d v s
in_declaration counted table (node_count begins n) f is ordered first h =
    elim h [ inl a ↦ (let e = of_kind is a.1 in absurd (cc)) | inr b ↦ (let e = of_kind is b.1 in absurd (cc)) ]
in_declaration counted table (constant begins named value) f is ordered first h =
    elim h [
      | inl own ↦ absurd (name_other table [] named f is own)
      | inr inside ↦ elim inside [
        | inl e ↦
            let before = earlier_in (constant_scope table) value f refl ordered is e in
            let lt = before.2 in
            let le = first before.0 (inr (inl before.1)) in
            absurd (omega arith)
        | inr over ↦ (let e = of_kind is over.1 in absurd (cc))
      ]
    ]
in_declaration counted table (shared begins items) f is ordered first h = absurd (items_other Kind.words table items f is ordered first h)
in_declaration counted table (lock begins items) f is ordered first h = absurd (items_other Kind.locks table items f is ordered first h)
in_declaration counted table (function begins named parameters body) f is ordered first h =
    elim h [
      | inl own ↦ elim own [
        | inl name ↦ absurd (name_other table [] named f is name)
        | inr others ↦ absurd (parameters_other table (named.bytes ∷ []) parameters f is others)
      ]
      | inr inside ↦ elim inside [
        | inl e ↦ in_expression (body_scope table parameters) f.at body f is refl e
        | inr over ↦ (let e = of_kind is over.1 in absurd (cc))
      ]
    ]

-- ---- the program

not_nothing : (xs ys : List Named) (y : Named) → [] ≡ xs ++ y ∷ ys → ⊥
not_nothing [] ys y e = absurd (cc)
not_nothing (x ∷ xs) ys y e = absurd (cc)

no_statement : (table : List Declared) (f : Fault) → IsInStatements table empty f → ⊥
no_statement table f h = elim h [ inl part ↦ part | inr many ↦ not_nothing many.0 many.2 many.1 many.3.0 ]

-- these declarations have no fault, and lead to this table
abbrev Leads : List Declaration → Option ℕ → List Declared → Type 0
Leads front counted table = (rest : List Declaration) → LeadsTo None [] (front ++ rest) counted table rest

behind : (front : List Declaration) (counted : Option ℕ) (table : List Declared) (IsSo : List Declared → Type 0) → Leads front counted table → IsSo table
    → IsBehind front IsSo
behind front counted table IsSo leads so =
    let same : front ++ [] ≡ front = append-nil front in
    let lead = subst (λ l. LeadsTo None [] l counted table []) same (leads []) in
    record {
      clean = λ f h. no_statement table f (lead.there empty f h);
      table = table;
      declared = lead.declared table no_declaration;
      so = so;
    }

leads_more : (front : List Declaration) (counted : Option ℕ) (table : List Declared) (d : Declaration) (new : List Declared) → Leads front counted table
    → ((rest : List Declaration) → LeadsTo None [] (front ++ d ∷ rest) counted table (d ∷ rest) → LeadsTo None [] (front ++ d ∷ rest) (counted_with counted d) new rest)
    → Leads (front ++ d ∷ []) (counted_with counted d) new
leads_more front counted table d new leads step rest =
    subst (λ l. LeadsTo None [] l (counted_with counted d) new rest) (sym (append_assoc front (d ∷ []) rest)) (step rest (leads (d ∷ rest)))

in_program : (p : NamedTree) (f : Fault) → f.kind ≡ IndexOutOfRange → IsFirstHere (λ g. IsFaultOf p g) f
    → (front : List Declaration) (counted : Option ℕ) (table : List Declared) (rest : List Declaration) → front ++ rest ≡ p.declarations → OrderedAll rest
    → Leads front counted table → IsInProgram counted table rest p.statements f → (v : ℕ) × (s : ℕ) × IsOutOfRange p f.at v s
in_program p f is first front counted table [] whole ordered leads h =
    let out = in_statements table f.at p.statements f is refl h in
    let all : front ≡ p.declarations = sym (append-nil front) ∙ whole in (
      out.0,
      out.1,
      inl (subst (λ l. IsBehind l (λ t. IsOutAmong t f.at p.statements out.0 out.1)) all
          (behind front counted table (λ t. IsOutAmong t f.at p.statements out.0 out.1) leads out.2)),
    )
in_program p f is first front counted table (d ∷ others) whole ordered leads h =
    elim h [
      | inl own ↦
          let lead = subst (λ l. LeadsTo None [] l counted table (d ∷ others)) whole (leads (d ∷ others)) in
          let out = in_declaration counted table d f is ordered.0 (λ g b. first g (lead.back p.statements g (inl b))) own in
          let here = behind front counted table (λ t. IsOutIn t f.at d out.0 out.1) leads out.2 in
          let there : IsOutInOne (front ++ d ∷ others) f.at out.0 out.1 = (
            length front,
            d,
            at_place front d others,
            subst (λ l. IsBehind l (λ t. IsOutIn t f.at d out.0 out.1)) (sym (front_of front d others)) here,
          ) in
          (out.0, out.1, inr (subst (λ l. IsOutInOne l f.at out.0 out.1) whole there))
      | inr later ↦
          in_program p f is first (front ++ d ∷ []) (counted_with counted d) later.1.0 others (append_assoc front (d ∷ []) others ∙ whole) ordered.1
          (leads_more front counted table d later.1.0 leads
          (λ rest lead. next None [] (front ++ d ∷ rest) counted table d rest later.1.0 lead later.0 later.1.1))
          later.1.2
    ]

pub always : (p : NamedTree) (tokens : List Token) (f : Fault) → IsNamedProgram p tokens → IsFirstOf (λ g. IsFaultOf p g) (Some f) → f.kind ≡ IndexOutOfRange
    → (v : ℕ) × (s : ℕ) × IsOutOfRange p f.at v s
always p tokens f named first is =
    in_program p f is (λ g h. (first.1 g h).place) [] None [] p.declarations refl (all_ordered p tokens named) (λ rest. start None [] rest) first.0
