-- What a named program declares, where it has no fault, lies one behind the other.
use Rattle.std.proofs.Common.{◌≡◌, ◌≢◌, ◌∙◌, ◌⊎◌, inl, inr, ℕ, ◌+◌, ◌<◌, ◌≤◌, Bool, true, false, List, [], ◌∷◌, ◌++◌, refl, sym, subst, arith}
use Rattle.std.specs.Prelude.{Option, Some, None, is_some}
use Rattle.std.specs.List.{AllByRecursion}
use Rattle.std.specs.Str.{bytes_eq}
use Rattle.std.proofs.lemmas.Bool.{cases_lt, false_from_ne_true}
use Rattle.std.proofs.lemmas.Slice.Eq.{bytes_eq-Decides}
use Rattle.lrc_labels.specs.Name.{is_name}
use Rattle.lrc_named_tree.specs.Tree.{Named, Expression, Expressions, Place, Declaration, Block}
use Rattle.lrc_named_names.specs.Names.{Declared, Meaning, constant, function, lock, meaning_of, shared}
use Rattle.lrc_named_constants.specs.declared.constancy.Constancy.TheVariants.{Value}
use Rattle.lrc_named_constants.specs.Constant.{IsConstancy}
use Rattle.lrc_named_constants.specs.Layout.{AreDeclared, DeclareLocks, DeclareShared, Declares, HaveSizes, a_constant, a_function, a_node_count, as_meaning, core_words}
use Rattle.lrc_named_constants.specs.Layout.{locks, locks_in, locks_of, no_declaration, no_more_lock, no_more_shared, no_size, one_declaration, one_more_lock, one_more_shared, one_size, shared_items, words_in, words_of}
use Rattle.lrc_named_constants.proofs.Unique.{one_constancy, value_alike}
use Rattle.lrc_named_expression_faults.specs.declared.fault.FaultKind.TheVariants.{DeclaredTwice, OverLimit}
use Rattle.lrc_named_expression_faults.specs.declared.fault.Limit.TheVariants as limits
use Rattle.lrc_named_expression_faults.specs.Fault.{IsNone, fault_at}
use Rattle.lrc_named_faults.specs.Declarations.{IsInDeclaration, IsInItem, IsInItems, IsInName, IsInSize, IsInSizes, Kind, constant_scope, most, used}
use Rattle.lrc_named_faults.specs.Declarations as kinds
use Rattle.lrc_named_faults.specs.Program.{IsInProgram}
use Rattle.lrc_named_tree.specs.Ends.{first_of}
use Rattle.lrc_named_faults.proofs.Placing.{room_left}
use Rattle.lrc_named_faults.proofs.Tables.{locks_in-append, words_in-append}
use Rattle.lrc_named_label_laws.proofs.Shape.{AreDifferent, AreLaidOut, AreSizes, BeginsAt, HaveNames, LieBelow, lock_behind, word_behind}
use Rattle.lrc_named_label_laws.proofs.Elements.{meaning_first, meaning_later}

-- ---- names

no_some : {A : Type 0} → (o : Option A) → is_some o ≡ false → o ≡ None
no_some None e = refl
no_some (Some x) e = absurd (cc)

-- a name without a fault is not declared so far
pub fresh : (table : List Declared) (named : Named) → IsNone (λ fault. IsInName table [] named fault) → meaning_of table named.bytes ≡ None
fresh table named none =
    no_some (meaning_of table named.bytes)
    (false_from_ne_true (is_some (meaning_of table named.bytes)) (λ e. none (fault_at named.at DeclaredTwice) (inl (e, refl))))

others_differ : (table : List Declared) (name : List ℕ) → meaning_of table name ≡ None → AllByRecursion (λ (d : Declared). d.name ≢ name) table
others_differ [] name none = tt
others_differ (d ∷ table) name none = by (others_differ table name) (bytes_eq d.name name) refl
  where
    by : (meaning_of table name ≡ None → AllByRecursion (λ (other : Declared). other.name ≢ name) table) → (b : Bool) → bytes_eq d.name name ≡ b
        → (d.name ≢ name) × AllByRecursion (λ (other : Declared). other.name ≢ name) table
    by later true e = let here = sym (meaning_first d table name e) ∙ none in absurd (cc)
    by later false e = (λ same. let eq = (bytes_eq-Decides d.name name).1 same in cc, later (sym (meaning_later d table name e) ∙ none))

-- ---- one more at the end

with_last : (P : Declared → Type 0) (table : List Declared) (d : Declared) → AllByRecursion P table → P d → AllByRecursion P (table ++ d ∷ [])
with_last P [] d all one = (one, tt)
with_last P (other ∷ table) d all one = (all.0, with_last P table d all.1 one)

different_more : (table : List Declared) (d : Declared) → AreDifferent table → AllByRecursion (λ (other : Declared). other.name ≢ d.name) table
    → AreDifferent (table ++ d ∷ [])
different_more [] d differ all = (tt, tt)
different_more (one ∷ table) d differ all =
    (with_last (λ (other : Declared). one.name ≢ other.name) table d differ.0 all.0, different_more table d differ.1 all.1)

lower : (word key more above : ℕ) (m : Meaning) → word ≤ more → key ≤ above → BeginsAt more above m → BeginsAt word key m
lower word key more above (constant n) le ke h = tt
lower word key more above (shared item) le ke h = (omega (arith, le, h.0), h.1)
lower word key more above (lock item) le ke h = (omega (arith, ke, h.0), h.1)
lower word key more above (function parameters body) le ke h = tt

further : (word key more above : ℕ) (m : Meaning) → word ≤ more → key ≤ above
    → (word_behind word m ≤ word_behind more m) × (lock_behind key m ≤ lock_behind above m)
further word key more above (constant n) le ke = (le, ke)
further word key more above (shared item) le ke = (omega arith, ke)
further word key more above (lock item) le ke = (le, omega arith)
further word key more above (function parameters body) le ke = (le, ke)

lie_more : (words keys word key : ℕ) (table : List Declared) (d : Declared) → LieBelow words keys word key table → BeginsAt words keys d.meaning
    → LieBelow (word_behind words d.meaning) (lock_behind keys d.meaning) word key (table ++ d ∷ [])
lie_more words keys word key [] d lie h = (lower word key words keys d.meaning lie.0 lie.1 h, further word key words keys d.meaning lie.0 lie.1)
lie_more words keys word key (one ∷ table) d lie h = (lie.0, lie_more words keys (word_behind word one.meaning) (lock_behind key one.meaning) table d lie.1 h)

-- ---- what is declared so far

pub record IsLaid (table : List Declared) : Type 0 where
  pub names : AllByRecursion (λ (d : Declared). is_name d.name ≡ true) table
  pub different : AreDifferent table
  pub lie : LieBelow (words_in table) (locks_in table) 0 0 table
  pub few_words : words_in table ≤ 65536
  pub few_locks : locks_in table ≤ 64

pub nothing_laid : IsLaid []
nothing_laid = record { names = tt; different = tt; lie = (omega arith, omega arith); few_words = omega arith; few_locks = omega arith }

one_more : (table : List Declared) (named : Named) (m : Meaning) → IsLaid table → is_name named.bytes ≡ true
    → IsNone (λ fault. IsInName table [] named fault) → BeginsAt (words_in table) (locks_in table) m
    → word_behind (words_in table) m ≡ words_in table + words_of m → lock_behind (locks_in table) m ≡ locks_in table + locks_of m
    → words_in table + words_of m ≤ 65536 → locks_in table + locks_of m ≤ 64 → IsLaid (table ++ as_meaning named m ∷ [])
one_more table named m laid is none begins word_is lock_is few_words few_locks =
    let d = as_meaning named m in
    let ws = words_in-append table d in
    let ks = locks_in-append table d in
    record {
      names = with_last (λ (d : Declared). is_name d.name ≡ true) table d laid.names is;
      different = different_more table d laid.different (others_differ table named.bytes (fresh table named none));
      lie = subst (λ n. LieBelow n (locks_in (table ++ d ∷ [])) 0 0 (table ++ d ∷ [])) (word_is ∙ sym ws)
          (subst (λ n. LieBelow (word_behind (words_in table) m) n 0 0 (table ++ d ∷ [])) (lock_is ∙ sym ks)
          (lie_more (words_in table) (locks_in table) 0 0 table d laid.lie begins));
      few_words = omega (arith, ws, few_words);
      few_locks = omega (arith, ks, few_locks);
    }

-- ---- sizes

size_within : (table : List Declared) (e : Expression) (size : ℕ) → IsNone (λ fault. IsInSize (constant_scope table) e fault) → IsConstancy table [] e (Value size)
    → (1 ≤ size) × (size ≤ 65536)
size_within table e size none is =
    let refused : (1 ≤ size → size ≤ 65536 → ⊥) → ⊥ =
    λ out. none (fault_at (first_of e) (OverLimit limits.Size))
    (inr ((λ fault h. none fault (inl h), λ v other low high. let same = value_alike (one_constancy is other) in out (omega (arith, same, low)) (omega (arith, same, high))), refl)) in
    (low refused (cases_lt 0 size), high refused (cases_lt 65536 size))
  where
    low : ((1 ≤ size → size ≤ 65536 → ⊥) → ⊥) → (0 < size) ⊎ (size ≤ 0) → 1 ≤ size
    low refused (inl h) = omega (arith, h)
    low refused (inr h) = absurd (refused (λ one many. omega (arith, one, h)))

    high : ((1 ≤ size → size ≤ 65536 → ⊥) → ⊥) → (65536 < size) ⊎ (size ≤ 65536) → size ≤ 65536
    high refused (inl h) = absurd (refused (λ one many. omega (arith, many, h)))
    high refused (inr h) = h

sizes_within : (table : List Declared) (es : Expressions) (sizes : List ℕ) → IsNone (λ fault. IsInSizes (constant_scope table) es fault) → HaveSizes table es sizes
    → AreSizes sizes
sizes_within table es sizes none no_size = tt
sizes_within table es sizes none (one_size {e = e} {others = others} {size = size} {sizes = more} is rest) =
    (size_within table e size (λ fault h. none fault (inl h)) is, sizes_within table others more (λ fault h. none fault (inr h)) rest)

-- ---- items

shared_more : (table : List Declared) (p : Place) (sizes : List ℕ) → IsLaid table → is_name p.name.bytes ≡ true
    → IsNone (λ fault. IsInItem kinds.words table p fault) → HaveSizes table p.indices sizes
    → IsLaid (table ++ as_meaning p.name (shared (record { first = words_in table; sizes = sizes })) ∷ [])
shared_more table p sizes laid is none has =
    let clean : IsNone (λ fault. IsInSizes (constant_scope table) p.indices fault) = λ fault h. none fault (inl (inr h)) in
    let room = room_left kinds.words table p sizes none clean has in
    let few = laid.few_locks in
    one_more table p.name (shared (record { first = words_in table; sizes = sizes })) laid is (λ fault h. none fault (inl (inl h)))
    (omega arith, sizes_within table p.indices sizes clean has) refl (omega arith) room (omega (arith, few))

locks_more : (table : List Declared) (p : Place) (sizes : List ℕ) → IsLaid table → is_name p.name.bytes ≡ true
    → IsNone (λ fault. IsInItem kinds.locks table p fault) → HaveSizes table p.indices sizes
    → IsLaid (table ++ as_meaning p.name (lock (record { first = locks_in table; sizes = sizes })) ∷ [])
locks_more table p sizes laid is none has =
    let clean : IsNone (λ fault. IsInSizes (constant_scope table) p.indices fault) = λ fault h. none fault (inl (inr h)) in
    let room = room_left kinds.locks table p sizes none clean has in
    let few = laid.few_words in
    one_more table p.name (lock (record { first = locks_in table; sizes = sizes })) laid is (λ fault h. none fault (inl (inl h)))
    (omega arith, sizes_within table p.indices sizes clean has) (omega arith) refl (omega (arith, few)) room

all_shared : (table new : List Declared) (items : List Place) → IsLaid table → AllByRecursion (λ (p : Place). is_name p.name.bytes ≡ true) items
    → IsNone (λ fault. IsInItems kinds.words table items fault) → DeclareShared table items new → IsLaid new
all_shared table new items laid is none no_more_shared = laid
all_shared table new items laid is none (one_more_shared {p = p} {others = others} {sizes = sizes} has rest) =
    let clean : IsNone (λ fault. IsInItem kinds.words table p fault) = λ fault h. none fault (inl h) in
    all_shared (table ++ as_meaning p.name (shared (record { first = words_in table; sizes = sizes })) ∷ []) new others
    (shared_more table p sizes laid is.0 clean has) is.1 (λ fault h. none fault (inr (clean, (sizes, has, h)))) rest

all_locks : (table new : List Declared) (items : List Place) → IsLaid table → AllByRecursion (λ (p : Place). is_name p.name.bytes ≡ true) items
    → IsNone (λ fault. IsInItems kinds.locks table items fault) → DeclareLocks table items new → IsLaid new
all_locks table new items laid is none no_more_lock = laid
all_locks table new items laid is none (one_more_lock {p = p} {others = others} {sizes = sizes} has rest) =
    let clean : IsNone (λ fault. IsInItem kinds.locks table p fault) = λ fault h. none fault (inl h) in
    all_locks (table ++ as_meaning p.name (lock (record { first = locks_in table; sizes = sizes })) ∷ []) new others
    (locks_more table p sizes laid is.0 clean has) is.1 (λ fault h. none fault (inr (clean, (sizes, has, h)))) rest

-- ---- declarations

constant_more : (table : List Declared) (named : Named) (m : Meaning) → IsLaid table → is_name named.bytes ≡ true
    → IsNone (λ fault. IsInName table [] named fault) → BeginsAt (words_in table) (locks_in table) m → word_behind (words_in table) m ≡ words_in table
    → lock_behind (locks_in table) m ≡ locks_in table → words_of m ≡ 0 → locks_of m ≡ 0 → IsLaid (table ++ as_meaning named m ∷ [])
constant_more table named m laid is none begins word_is lock_is no_word no_lock =
    let few = laid.few_words in
    let less = laid.few_locks in
    one_more table named m laid is none begins (omega (arith, word_is, no_word)) (omega (arith, lock_is, no_lock)) (omega (arith, few, no_word)) (omega (arith, less, no_lock))

declared_more : (counted : Option ℕ) (table new : List Declared) (d : Declaration) → IsLaid table → HaveNames d
    → IsNone (λ fault. IsInDeclaration counted table d fault) → Declares table d new → IsLaid new
declared_more counted table new d laid is none a_node_count = laid
declared_more counted table new d laid is none (a_constant {v = v} {named = named} has) =
    constant_more table named (constant v) laid is (λ fault h. none fault (inl h)) tt refl refl refl refl
declared_more counted table new d laid is none (shared_items {items = items} has) = all_shared table new items laid is none has
declared_more counted table new d laid is none (locks {items = items} has) = all_locks table new items laid is none has
declared_more counted table new d laid is none (a_function {named = named} {parameters = parameters} {body = body}) =
    constant_more table named (function parameters body) laid is (λ fault h. none fault (inl (inl h))) tt refl refl refl refl

pub all_laid : (counted : Option ℕ) (table new : List Declared) (declarations : List Declaration) (statements : Block) → IsLaid table
    → AllByRecursion HaveNames declarations → IsNone (λ fault. IsInProgram counted table declarations statements fault)
    → AreDeclared table declarations new → IsLaid new
all_laid counted table new declarations statements laid is none no_declaration = laid
all_laid counted table new declarations statements laid is none (one_declaration {between = between} {first = first} {others = others} here rest) =
    let clean : IsNone (λ fault. IsInDeclaration counted table first fault) = λ fault h. none fault (inl h) in
    all_laid _ between new others statements (declared_more counted table between first laid is.0 clean here) is.1
    (λ fault h. none fault (inr (clean, (between, here, h)))) rest

-- more words than the items have
lie_wider : (words more keys word key : ℕ) (table : List Declared) → words ≤ more → LieBelow words keys word key table → LieBelow more keys word key table
lie_wider words more keys word key [] le lie = (omega (arith, le, lie.0), lie.1)
lie_wider words more keys word key (d ∷ table) le lie =
    (lie.0, lie_wider words more keys (word_behind word d.meaning) (lock_behind key d.meaning) table le lie.1)

pub laid_out : (declared : List Declared) → IsLaid declared → AreLaidOut (core_words declared) (locks_in declared) declared
laid_out declared laid = record {
  names = laid.names;
  different = laid.different;
  lie = lie_wider (words_in declared) (core_words declared) (locks_in declared) 0 0 declared (omega arith) laid.lie;
}
