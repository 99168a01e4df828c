-- What is told of a text, by what was found in it.
use Rattle.std.proofs.Common.{◌≡◌, ◌⊎◌, ℕ, List, Option, Some, None, MatchOption, Result, Ok, Err, IfOk, refl, subst}
use Rattle.std.specs.Prelude.{slice_index}
use Rattle.lrc_lang.specs.declared.fault.FaultKind.{FaultKind}
use Rattle.lrc_lang.specs.declared.fault.FaultKind.TheVariants as kinds
use Rattle.lrc_lint_fault.specs.declared.linted.Linted.{Linted}
use Rattle.lrc_text.specs.Parts.{whole_text}
use Rattle.lrc_named_tokens.specs.Token.{Located, Place}
use Rattle.lrc_named_tree.specs.Tree.{NamedTree}
use Rattle.lrc_named_parse.specs.Faults.{HasFirstFault, IsNamed}
use Rattle.lrc_named_names.specs.Names.{Declared}
use Rattle.lrc_named_names.specs.View.{declared_of}
use Rattle.lrc_named_expression_faults.specs.declared.fault.Fault.{Fault}
use Rattle.lrc_named_expression_faults.specs.Fault.{IsFirstOf}
use Rattle.lrc_named_faults.specs.declared.layout.Layout as code_layout
use Rattle.lrc_named_faults.specs.Checked.{counted_in}
use Rattle.lrc_named_faults.specs.Program.{IsFaultOf}
use Rattle.lrc_named_core.specs.Tree.{Origin}
use Rattle.lrc_named_limits.specs.declared.excess.Excess.{Excess}
use Rattle.lrc_named_held.specs.declared.owns.Own.{Own}
use Rattle.lrc_named_check.specs.Program.{IsClean}
use Rattle.lrc_named_written.specs.Written.{IsCoreLong, IsCoreOver, IsCoreText, IsCoreTextFrom}
use Rattle.lrc_named.specs.declared.fault.NamedFault.TheVariants.{Names, NoMemory, Text}
use Rattle.lrc_named.specs.Faults.{fault_of_kind}
use Rattle.lrc_named.specs.Lines.{lines_of}
use Rattle.lrc_named.specs.Named.{IsFaultless}
use Rattle.lrc_named.specs.Named as named
use Rattle.lrc_named.proofs.Answering.{long_found, name_fault, over_found, text_fault}
use Rattle.lrc_named.proofs.OneCore.{no_fault}
use Rattle.lrc_named_laws.proofs.Printed.{is_a_program}
use Rattle.lrc_named_laws.specs.Printed.{program_of}
use Rattle.lrc_named_warned.specs.Warned.{HasFault, IsProgramText, TellsCore, WarnsNamed}

still_a_fault : (line : ℕ) (kind : FaultKind) → (kind ≡ kinds.NoMemory → ⊥) → fault_of_kind line kind ≡ NoMemory → ⊥
still_a_fault line kinds.TooLong other e = cc
still_a_fault line kinds.BadByte other e = cc
still_a_fault line kinds.BadNumber other e = cc
still_a_fault line kinds.Unexpected other e = cc
still_a_fault line kinds.TooDeep other e = cc
still_a_fault line kinds.TooManyNames other e = cc
still_a_fault line kinds.OverLimit other e = cc
still_a_fault line kinds.NoMemory other e = other refl

-- ---- a text that has a fault: as such, of its names, of its core

pub text_faulty : (text : List ℕ) (place : Place) (kind : FaultKind) → (kind ≡ kinds.NoMemory) ⊎ HasFirstFault text place kind
    → (kind ≡ kinds.NoMemory → ⊥) → HasFault text
text_faulty text place kind found other =
    (fault_of_kind place.line kind, text_fault text place kind found, still_a_fault place.line kind other)

pub names_faulty : (text : List ℕ) (t : List Located) (tree : NamedTree) (fault : Fault) → IsNamed text t tree
    → IsFirstOf (λ f. IsFaultOf tree f) (Some fault) → HasFault text
names_faulty text t tree fault parsed first =
    let line = slice_index (lines_of t) fault.at in
    (Names line fault.kind, name_fault text t tree fault (lines_of t) line parsed refl refl first, λ e. cc)

pub over_faulty : (text : List ℕ) (t : List Located) (tree : NamedTree) (layout : code_layout.Layout) (x : Excess) → IsNamed text t tree → IsClean tree layout
    → IsCoreOver (declared_of layout.names) tree x → HasFault text
over_faulty text t tree layout x parsed clean over =
    let line = slice_index (lines_of t) x.at in
    (Text line kinds.OverLimit, over_found text t tree layout (lines_of t) line x parsed clean refl refl over, λ e. cc)

pub long_faulty : (text : List ℕ) (t : List Located) (tree : NamedTree) (layout : code_layout.Layout) → IsNamed text t tree → IsClean tree layout
    → IsCoreLong (declared_of layout.names) (lines_of t) tree → HasFault text
long_faulty text t tree layout parsed clean long =
    (Text 1 kinds.TooLong, long_found text t tree layout (lines_of t) 1 parsed clean refl refl long, λ e. cc)

-- ---- a text that has none

pub not_faulty : (text : List ℕ) (t : List Located) (tree : NamedTree) (declared : List Declared) (core : List ℕ) → IsFaultless text t tree declared
    → IsCoreText declared (lines_of t) tree core → HasFault text → ⊥
not_faulty text t tree declared core is written fault =
    fault.2 (no_fault text (counted_in None tree.declarations) core fault.0
    (record { tokens = t; tree = tree; declared = declared; is = is; asked = refl; core_is = written }) fault.1)

-- the core is a program of the language
pub core_is_program : (text : List ℕ) (t : List Located) (tree : NamedTree) (layout : code_layout.Layout) (core : List ℕ) (origins : List Origin)
    (owns : List (List Own)) → IsNamed text t tree → IsClean tree layout
    → IsCoreTextFrom (declared_of layout.names) (lines_of t) tree core origins owns → IsProgramText core
core_is_program text t tree layout core origins owns parsed clean from =
    let printed : named.IsCoreText text (counted_in None tree.declarations) core = record {
      tokens = t;
      tree = tree;
      declared = declared_of layout.names;
      is = record { parsed = parsed; faultless = clean.no_fault; are_declared = clean.declared };
      asked = refl;
      core_is = from.is;
    } in
    (program_of printed, is_a_program text core (counted_in None tree.declarations) printed)

pub warned : (file text printed : List ℕ) (t : List Located) (tree : NamedTree) (layout : code_layout.Layout) (core : List ℕ) (origins : List Origin)
    (owns : List (List Own)) → IsNamed text t tree → IsClean tree layout
    → IsCoreTextFrom (declared_of layout.names) (lines_of t) tree core origins owns
    → TellsCore file t tree (declared_of layout.names) core origins printed → WarnsNamed file text printed
warned file text printed t tree layout core origins owns parsed clean from tells = record {
  tokens = t;
  tree = tree;
  declared = declared_of layout.names;
  is = record { parsed = parsed; faultless = clean.no_fault; are_declared = clean.declared };
  core = core;
  core_is = from.is;
  tells = subst (λ o. TellsCore file t tree (declared_of layout.names) core o printed) from.origins_are tells;
}

-- what is told of a core is told of the same core
pub told_same : (file : List ℕ) (t : List Located) (tree : NamedTree) (declared : List Declared) (core same : List ℕ) (origins others : List Origin)
    (printed : List ℕ) → same ≡ core → others ≡ origins → TellsCore file t tree declared same others printed → TellsCore file t tree declared core origins printed
told_same file t tree declared core same origins others printed one other h =
    subst (λ x. TellsCore file t tree declared core x printed) other (subst (λ x. TellsCore file t tree declared x others printed) one h)

-- ---- what is answered

-- this is told of a text, or it has a fault
abbrev pub IsAnswer : List ℕ → List ℕ → Option Linted → Type 0
IsAnswer file text told = MatchOption told (HasFault text) (λ linted. WarnsNamed file text (whole_text linted.parts.items) × (linted.status ≡ 0))

-- none of a text that has a fault as such
pub nothing_told : {E : Type 0} (file text : List ℕ) (place : Place) (kind : FaultKind) (r : Result (Option Linted) E)
    → (kind ≡ kinds.NoMemory) ⊎ HasFirstFault text place kind → IfOk r (λ told. (told ≡ None) × (kind ≡ kinds.NoMemory → ⊥)) → IfOk r (IsAnswer file text)
nothing_told file text place kind (Ok None) found none = text_faulty text place kind found none.1
nothing_told file text place kind (Ok (Some linted)) found none = let e = none.0 in absurd (cc)
nothing_told file text place kind (Err e) found none = tt
