-- What a name means, by how the code finds it.
use Rattle.std.proofs.Common.{◌≡◌, ◌<◌, ◌≤◌, ◌+◌, ◌||◌, ℕ, Bool, true, false, List, [], ◌∷◌, map, length, drop, get_or, sym, ap, ◌∙◌, add-one}
use Rattle.std.specs.Prelude.{Option, Some, None}
use Rattle.std.specs.Str.{bytes_eq}
use Rattle.std.proofs.Math.Seq.{drop-cons}
use Rattle.std.proofs.lemmas.List.{drop_all}
use Rattle.lrc_named_tree.specs.declared.tree.Name as code_name
use Rattle.lrc_named_tree.specs.View.{named_of}
use Rattle.lrc_named_names.specs.Names.{Meaning, meaning_of}
use Rattle.lrc_named_constants.specs.Constant.{names_of}
use Rattle.lrc_named_constants.specs.Well.{bytes_of, is_among}
use Rattle.lrc_named_expression_faults.specs.Scope.{Scope, parameter, declared, sense_by, sense_of, undeclared_sense}

pub is_parameter : (a : Bool) (o : Option Meaning) (s : Bool) → a ≡ true → parameter ≡ sense_by a o s
is_parameter a o s e = ap (λ x. sense_by x o s) (sym e)

pub is_declared : (a : Bool) (o : Option Meaning) (s : Bool) (m : Meaning) → a ≡ false → o ≡ Some m → declared m ≡ sense_by a o s
is_declared a o s m e f = ap (λ x. sense_by false x s) (sym f) ∙ ap (λ x. sense_by x o s) (sym e)

pub is_undeclared : (a : Bool) (o : Option Meaning) (s : Bool) → a ≡ false → o ≡ None → undeclared_sense s ≡ sense_by a o s
is_undeclared a o s e f = ap (λ x. sense_by false x s) (sym f) ∙ ap (λ x. sense_by x o s) (sym e)

declared_by : (a : Bool) (o : Option Meaning) (s : Bool) (m : Meaning) → declared m ≡ sense_by a o s → o ≡ Some m
declared_by true o s m e = absurd (cc)
declared_by false None true m e = absurd (cc)
declared_by false None false m e = absurd (cc)
declared_by false (Some x) s m e = cc

pub declared_means : (scope : Scope) (name : List ℕ) (m : Meaning) → declared m ≡ sense_of scope name → meaning_of scope.declared name ≡ Some m
declared_means scope name m e = declared_by (is_among (names_of scope.known) name) (meaning_of scope.declared name) (is_among scope.assigned name) m e

-- the names that a loop has passed are others
pub among_cut : (xs : List code_name.Name) (i : ℕ) (e : code_name.Name) (name : List ℕ) → i < length xs
    → is_among (bytes_of (map named_of (drop i xs))) name ≡ (bytes_eq (get_or xs i e).bytes.now name || is_among (bytes_of (map named_of (drop (i + 1) xs))) name)
among_cut xs i e name lt =
    let cut : drop i xs ≡ get_or xs i e ∷ drop (i + 1) xs = rw add-one (drop-cons xs i e lt) in
    ap (λ l. is_among (bytes_of (map named_of l)) name) cut

pub among_on : (xs : List code_name.Name) (i : ℕ) (e : code_name.Name) (name : List ℕ) (all : Bool) → i < length xs → bytes_eq (get_or xs i e).bytes.now name ≡ false
    → is_among (bytes_of (map named_of (drop i xs))) name ≡ all → is_among (bytes_of (map named_of (drop (i + 1) xs))) name ≡ all
among_on xs i e name all lt other before =
    sym (among_cut xs i e name lt ∙ ap (λ b. b || is_among (bytes_of (map named_of (drop (i + 1) xs))) name) other) ∙ before

pub among_here : (xs : List code_name.Name) (i : ℕ) (e : code_name.Name) (name : List ℕ) (all : Bool) → i < length xs → bytes_eq (get_or xs i e).bytes.now name ≡ true
    → is_among (bytes_of (map named_of (drop i xs))) name ≡ all → true ≡ all
among_here xs i e name all lt same before =
    sym (among_cut xs i e name lt ∙ ap (λ b. b || is_among (bytes_of (map named_of (drop (i + 1) xs))) name) same) ∙ before

pub among_none : (xs : List code_name.Name) (i : ℕ) (name : List ℕ) (all : Bool) → length xs ≤ i → is_among (bytes_of (map named_of (drop i xs))) name ≡ all → false ≡ all
among_none xs i name all past before =
    let nothing : drop i xs ≡ [] = drop_all i xs past in
    sym (ap (λ l. is_among (bytes_of (map named_of l)) name) nothing) ∙ before
