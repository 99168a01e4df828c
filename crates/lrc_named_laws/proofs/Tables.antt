-- What a named text without a fault declares.
use Rattle.std.proofs.Common.{◌≡◌, ◌≤◌, ◌<◌, ◌+◌, ◌-◌, ◌*◌, ◌⊎◌, inl, inr, ℕ, List, [], ◌∷◌, ◌++◌, refl, sym, subst, arith, mul-le-mul_left, All}
use Rattle.std.specs.Prelude.{Option, Some, None}
use Rattle.std.specs.List.{AllByRecursion}
use Rattle.std.proofs.lemmas.Bool.{cases_lt}
use Rattle.lrc_lang.specs.Lexemes.{IsLetterOrDigit}
use Rattle.lrc_named_tree.specs.Tree.{Named, Expression, Expressions, Place, Declaration, Block}
use Rattle.lrc_named_tree.specs.Ends.{first_of}
use Rattle.lrc_named_names.specs.Elements.{elements}
use Rattle.lrc_named_names.specs.Names.{Declared, Item, Meaning, constant, shared, lock, function, meaning_at}
use Rattle.lrc_named_constants.specs.declared.constancy.Constancy.TheVariants.{Value}
use Rattle.lrc_named_constants.specs.Constant.{IsConstancy}
use Rattle.lrc_named_constants.specs.Layout.{AreDeclared, DeclareLocks, DeclareShared, Declares, HaveSizes, as_meaning, locks_in, locks_of, words_in, words_of}
use Rattle.lrc_named_constants.specs.Layout as layout
use Rattle.lrc_named_expression_faults.specs.declared.fault.FaultKind.TheVariants.{OverLimit}
use Rattle.lrc_named_expression_faults.specs.declared.fault.Limit.TheVariants as limits
use Rattle.lrc_named_expression_faults.specs.Fault.{IsNone, fault_at}
use Rattle.lrc_named_statement_faults.specs.Statements.{IsInStatements}
use Rattle.lrc_named_faults.specs.Bodies.{AreBodiesClean}
use Rattle.lrc_named_faults.specs.Declarations.{IsClean, IsInDeclaration, IsInItem, IsInItems, IsInSize, IsInSizes, Kind, body_scope, constant_scope, limit_of, locks, most, used, words}
use Rattle.lrc_named_faults.specs.Program.{IsInProgram, counted_with}
use Rattle.lrc_named_faults.proofs.Finding.{no_other_size}
use Rattle.lrc_named_faults.proofs.Tables.{at_append, bodies_more, locks_in-append, words_in-append}
use Rattle.lrc_named_text_laws.specs.Spelled.{AreLabelled, Fits, IsLabelled, IsLabelledAs}
use Rattle.lrc_named_laws.proofs.Addresses.{row_smaller, rows_fewer, some_rest}
use Rattle.lrc_named_laws.proofs.Parsed.{AreLegibleDeclarations, AreLegiblePlaces, IsLegibleDeclaration}
use Rattle.lrc_named_laws.proofs.Places.{AreInOrder, BeginsAt, lock_item, locks_are, order_next, shared_item, words_are}
use Rattle.lrc_named_laws.proofs.Values.{IsPlaced, IsSoundMeaning, IsSoundTable, constancy_fits}

pub record IsLaid (declared : List Declared) : Type 0 where
  pub bodies : AreBodiesClean declared
  pub sound : IsSoundTable declared
  pub labelled : AreLabelled declared
  pub few_words : words_in declared ≤ 65536
  pub few_locks : locks_in declared ≤ 64
  pub words_in_order : AreInOrder shared_item 0 declared
  pub locks_in_order : AreInOrder lock_item 0 declared

-- ---- one more

sound_more : (table : List Declared) (named : Named) (m : Meaning) → IsSoundTable table → IsSoundMeaning m → IsSoundTable (table ++ as_meaning named m ∷ [])
sound_more table named m sound last place n is =
    elim (at_append table (as_meaning named m) place n is) [
      | inl h ↦ sound place n h.1
      | inr h ↦ subst IsSoundMeaning h.1 last
    ]

labelled_more : (table : List Declared) (named : Named) (m : Meaning) → AreLabelled table → IsLabelledAs named.bytes m
    → AreLabelled (table ++ as_meaning named m ∷ [])
labelled_more [] named m labelled last = (last, tt)
labelled_more (d ∷ table) named m labelled last = (labelled.0, labelled_more table named m labelled.1 last)

laid_more : (table : List Declared) (named : Named) (m : Meaning) → IsLaid table → IsSoundMeaning m → IsLabelledAs named.bytes m
    → words_in table + words_of m ≤ 65536 → locks_in table + locks_of m ≤ 64 → BeginsAt (words_in table) (shared_item m)
    → BeginsAt (locks_in table) (lock_item m) → ((own : List Named) (body : Expression) → m ≡ function own body → IsClean (body_scope table own) body)
    → IsLaid (table ++ as_meaning named m ∷ [])
laid_more table named m laid sound labelled few less word key body =
    let w = words_in-append table (as_meaning named m) in
    let l = locks_in-append table (as_meaning named m) in
    record {
      bodies = bodies_more table named m laid.bodies body;
      sound = sound_more table named m laid.sound sound;
      labelled = labelled_more table named m laid.labelled labelled;
      few_words = omega (arith, w, few);
      few_locks = omega (arith, l, less);
      words_in_order = order_next shared_item table (as_meaning named m) laid.words_in_order (subst (λ n. BeginsAt n (shared_item m)) (words_are table) word);
      locks_in_order = order_next lock_item table (as_meaning named m) laid.locks_in_order (subst (λ n. BeginsAt n (lock_item m)) (locks_are table) key);
    }

-- ---- sizes

size_some : (table : List Declared) (e : Expression) (size : ℕ) → IsNone (λ f. IsInSize (constant_scope table) e f) → IsConstancy table [] e (Value size) → 1 ≤ size
size_some table e size none is =
    elim (cases_lt 0 size) [
      | inl some ↦ some
      | inr zero_or_less ↦
          absurd (none (fault_at (first_of e) (OverLimit limits.Size))
          (inr ((λ f h. none f (inl h), no_other_size (constant_scope table) e size is (λ low high. omega (arith, low, zero_or_less))), refl)))
    ]

product_some : (a b : ℕ) → 1 ≤ a → 1 ≤ b → 1 ≤ a * b
product_some a b one other = let le = mul-le-mul_left a other in omega (arith, le, one)

sizes_some : {table : List Declared} {es : Expressions} {sizes : List ℕ} → HaveSizes table es sizes → IsNone (λ f. IsInSizes (constant_scope table) es f)
    → 1 ≤ elements sizes
sizes_some layout.no_size none = omega arith
sizes_some {table = table} (layout.one_size {e = e} {size = size} {sizes = sizes} is rest) none =
    product_some size (elements sizes) (size_some table e size (λ f h. none f (inl h)) is) (sizes_some rest (λ f h. none f (inr h)))

-- ---- items

few_sizes : (sizes : List ℕ) → 1 ≤ elements sizes → elements sizes ≤ 65536 → AllByRecursion Fits sizes
few_sizes [] some few = tt
few_sizes (size ∷ sizes) some few =
    let rows = rows_fewer size (elements sizes) some in
    let row = row_smaller size (elements sizes) some in
    (omega (arith, rows, few), few_sizes sizes (some_rest size (elements sizes) some) (omega (arith, row, few)))

item_labelled : (name : List ℕ) (first : ℕ) (sizes : List ℕ) → All IsLetterOrDigit name → 1 ≤ elements sizes → first + elements sizes ≤ 65536
    → IsLabelled name first sizes
item_labelled name first [] spelled some few = (spelled, omega (arith, few))
item_labelled name first (size ∷ sizes) spelled some few =
    let row = row_smaller size (elements sizes) some in (
      spelled,
      omega (arith, few),
      omega (arith, few),
      few_sizes sizes (some_rest size (elements sizes) some) (omega (arith, row, few)),
    )

item_few : (kind : Kind) (table : List Declared) (p : Place) (sizes : List ℕ) → IsNone (λ f. IsInItem kind table p f) → HaveSizes table p.indices sizes
    → used kind table + elements sizes ≤ most kind
item_few kind table p sizes none have =
    elim (cases_lt (most kind) (used kind table + elements sizes)) [
      | inl more ↦ absurd (none (fault_at p.name.at (OverLimit (limit_of kind))) (inr ((λ f h. none f (inl (inr h)), (sizes, have, more)), refl)))
      | inr few ↦ few
    ]

no_function : {A : Type 0} (item : Item) (own : List Named) (body : Expression) → shared item ≡ function own body → A
no_function item own body e = absurd (cc)

no_function_lock : {A : Type 0} (item : Item) (own : List Named) (body : Expression) → lock item ≡ function own body → A
no_function_lock item own body e = absurd (cc)

no_function_constant : {A : Type 0} (v : ℕ) (own : List Named) (body : Expression) → constant v ≡ function own body → A
no_function_constant v own body e = absurd (cc)

items_laid : {old new : List Declared} {items : List Place} → DeclareShared old items new → IsNone (λ f. IsInItems words old items f) → AreLegiblePlaces items
    → IsLaid old → IsLaid new
items_laid layout.no_more_shared none legible laid = laid
items_laid {old = old} (layout.one_more_shared {p = p} {sizes = sizes} have rest) none legible laid =
    let item : Item = record { first = words_in old; sizes = sizes } in
    let own : IsNone (λ f. IsInItem words old p f) = λ f h. none f (inl h) in
    let some = sizes_some have (λ f h. own f (inl (inr h))) in
    let few : words_in old + elements sizes ≤ 65536 = item_few words old p sizes own have in
    let less = laid.few_locks in
    items_laid rest (λ f h. none f (inr (own, (sizes, have, h)))) legible.1
    (laid_more old p.name (shared item) laid (record { some = some; few = few })
    (item_labelled p.name.bytes (words_in old) sizes legible.0.0.each some few) few (omega (arith, less)) refl tt (λ own body e. no_function item own body e))

locks_laid : {old new : List Declared} {items : List Place} → DeclareLocks old items new → IsNone (λ f. IsInItems locks old items f) → AreLegiblePlaces items
    → IsLaid old → IsLaid new
locks_laid layout.no_more_lock none legible laid = laid
locks_laid {old = old} (layout.one_more_lock {p = p} {sizes = sizes} have rest) none legible laid =
    let item : Item = record { first = locks_in old; sizes = sizes } in
    let own : IsNone (λ f. IsInItem locks old p f) = λ f h. none f (inl h) in
    let some = sizes_some have (λ f h. own f (inl (inr h))) in
    let few : locks_in old + elements sizes ≤ 64 = item_few locks old p sizes own have in
    let less = laid.few_words in
    let fit : locks_in old + elements sizes ≤ 65536 = omega (arith, few) in
    locks_laid rest (λ f h. none f (inr (own, (sizes, have, h)))) legible.1
    (laid_more old p.name (lock item) laid (record { some = some; few = fit })
    (item_labelled p.name.bytes (locks_in old) sizes legible.0.0.each some fit) (omega (arith, less)) few tt refl (λ own body e. no_function_lock item own body e))

-- ---- declarations

same_own : (ps qs : List Named) (one other : Expression) → function ps one ≡ function qs other → ps ≡ qs
same_own ps qs one other e = cc

same_body : (ps qs : List Named) (one other : Expression) → function ps one ≡ function qs other → one ≡ other
same_body ps qs one other e = cc

declares_laid : {old new : List Declared} {d : Declaration} (counted : Option ℕ) → Declares old d new → IsNone (λ f. IsInDeclaration counted old d f)
    → IsLegibleDeclaration d → IsLaid old → IsLaid new
declares_laid counted layout.a_node_count none legible laid = laid
declares_laid {old = old} counted (layout.a_constant {v = v} {named = named} is) none legible laid =
    let few = laid.few_words in
    let less = laid.few_locks in
    laid_more old named (constant v) laid (constancy_fits old laid.sound is tt legible.1) tt (omega (arith, few)) (omega (arith, less)) tt tt
    (λ own body e. no_function_constant v own body e)
declares_laid counted (layout.shared_items are) none legible laid = items_laid are none legible laid
declares_laid counted (layout.locks are) none legible laid = locks_laid are none legible laid
declares_laid {old = old} counted (layout.a_function {named = named} {parameters = parameters} {body = body}) none legible laid =
    let few = laid.few_words in
    let less = laid.few_locks in
    let clean : IsClean (body_scope old parameters) body = λ f h. none f (inr (inl h)) in
    laid_more old named (function parameters body) laid legible.1 tt (omega (arith, few)) (omega (arith, less)) tt tt
    (λ own other e.
    subst (λ q. IsClean (body_scope old q) other) (same_own parameters own body other e)
    (subst (λ y. IsClean (body_scope old parameters) y) (same_body parameters own body other e) clean))

nothing_laid : IsLaid []
nothing_laid = record {
  bodies = λ place own body is. absurd (cc);
  sound = λ place m is. absurd (cc);
  labelled = tt;
  few_words = omega arith;
  few_locks = omega arith;
  words_in_order = tt;
  locks_in_order = tt;
}

declarations_laid : {old new : List Declared} (counted : Option ℕ) (declarations : List Declaration) (b : Block) → AreDeclared old declarations new
    → IsNone (λ f. IsInProgram counted old declarations b f) → AreLegibleDeclarations declarations → IsLaid old
    → IsLaid new × IsNone (λ f. IsInStatements new b f)
declarations_laid counted [] b layout.no_declaration none legible laid = (laid, none)
declarations_laid counted (first ∷ others) b (layout.one_declaration {between = between} is rest) none legible laid =
    let own : IsNone (λ f. IsInDeclaration counted _ first f) = λ f h. none f (inl h) in
    declarations_laid (counted_with counted first) others b rest (λ f h. none f (inr (own, (between, is, h)))) legible.1
    (declares_laid counted is own legible.0 laid)

pub program_laid : {declared : List Declared} (declarations : List Declaration) (b : Block) → AreDeclared [] declarations declared
    → IsNone (λ f. IsInProgram None [] declarations b f) → AreLegibleDeclarations declarations → IsLaid declared × IsNone (λ f. IsInStatements declared b f)
program_laid declarations b are none legible = declarations_laid None declarations b are none legible nothing_laid
