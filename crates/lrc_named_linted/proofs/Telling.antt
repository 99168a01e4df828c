-- What is told of a text, by what was found in it.
use Rattle.std.proofs.Common.{◌≡◌, ◌⊎◌, ℕ, List, [], ◌∷◌, ◌++◌, Vec, map, Option, Some, None, MatchOption, Result, Ok, Err, IfOk, ap, sym, subst, ◌∙◌, append-nil, append_assoc, inl, inr}
use Rattle.std.specs.declared.alloc.Global.{Global}
use Rattle.std.specs.Option.{option_map}
use Rattle.lrc_text.specs.Parts.{whole_text}
use Rattle.lrc_lint_fault.specs.declared.linted.Linted.{Linted}
use Rattle.lrc_named_tokens.specs.Token.{Located}
use Rattle.lrc_named_tree.specs.Tree.{NamedTree}
use Rattle.lrc_named_names.specs.Names.{Declared}
use Rattle.lrc_named_names.specs.View.{declared_of}
use Rattle.lrc_named_parse.specs.Faults.{IsNamed}
use Rattle.lrc_named_check.specs.Program.{IsClean}
use Rattle.lrc_named_expression_faults.specs.declared.fault.Fault.{Fault}
use Rattle.lrc_named_expression_faults.specs.Fault.{IsFirstOf}
use Rattle.lrc_named_faults.specs.Program.{IsFaultOf}
use Rattle.lrc_named_faults.specs.declared.layout.Layout as code_layout
use Rattle.lrc_named_written.specs.Written.{IsWritten}
use Rattle.lrc_named_written.specs.declared.written.Written.{Written}
use Rattle.lrc_named_written.specs.declared.written.Written.TheVariants as written
use Rattle.lrc_named.specs.Lines.{lines_of}
use Rattle.lrc_named.specs.Named.{IsFaultless}
use Rattle.lrc_named_index_hint.specs.Line.{IsIndexHint}
use Rattle.lrc_named_lint_core.specs.Told.{IsFaulty, told_of}
use Rattle.lrc_named_lint_names.specs.Told.{TellsFault}
use Rattle.lrc_named_linted.specs.Linted.{IsSound, TellsNamed}

pub some_case : {A : Type 0} (P : Type 0) (Q : A → Type 0) (o : Option A) (a : A) → o ≡ Some a → MatchOption o P Q → Q a
some_case P Q None a e h = absurd (cc)
some_case P Q (Some b) a e h = subst Q (cc) h

some_same : {A : Type 0} {a b : A} → Some a ≡ Some b → a ≡ b
some_same e = cc

some_not_none : {A : Type 0} {a : A} → Some a ≡ None → ⊥
some_not_none e = cc

none_not_some : {A : Type 0} {a : A} → None ≡ Some a → ⊥
none_not_some e = cc

-- of a result, by what two clauses say
pub by_both : {A E : Type 0} {P Q R : A → Type 0} (r : Result A E) → ((x : A) → P x → Q x → R x) → IfOk r P → IfOk r Q → IfOk r R
by_both (Ok x) f p q = f x p q
by_both (Err e) f p q = tt

-- this is told of a text, or it has no fault
abbrev pub IsAnswer : List ℕ → List ℕ → Option Linted → Type 0
IsAnswer file text told =
    MatchOption told (IsSound text) (λ linted. TellsNamed file text (whole_text linted.parts.items) × (linted.status ≡ 1))

-- parts, with one more behind them
pub one_part_more : (parts : List (Vec ℕ Global)) (line : Vec ℕ Global) → whole_text (parts ++ line ∷ []) ≡ whole_text parts ++ line.items
one_part_more [] line = append-nil line.items
one_part_more (part ∷ parts) line =
    ap (λ l. part.items ++ l) (one_part_more parts line) ∙ sym (append_assoc part.items (whole_text parts) line.items)

-- of the first fault of the names
pub name_told : (file text : List ℕ) (tokens : List Located) (tree : NamedTree) (fault : Fault) (first all : Linted) (line : List ℕ) → IsNamed text tokens tree
    → IsFirstOf (λ f. IsFaultOf tree f) (Some fault) → TellsFault file text tokens tree fault (whole_text first.parts.items) → first.status ≡ 1
    → IsIndexHint fault.kind tree fault.at line → whole_text all.parts.items ≡ whole_text first.parts.items ++ line → all.status ≡ first.status
    → TellsNamed file text (whole_text all.parts.items) × (all.status ≡ 1)
name_told file text tokens tree fault first all line parsed is_first tells is hint behind same = (
  inr (inl (record {
    tokens = tokens;
    tree = tree;
    fault = fault;
    has = record { parsed = parsed; first = is_first };
    told = whole_text first.parts.items;
    tells = tells;
    line = line;
    hint = hint;
    is = behind;
  })),
  same ∙ is,
)

-- the names have no fault
faultless : (text : List ℕ) (tokens : List Located) (tree : NamedTree) (layout : code_layout.Layout) → IsNamed text tokens tree → IsClean tree layout
    → IsFaultless text tokens tree (declared_of layout.names)
faultless text tokens tree layout parsed clean = record { parsed = parsed; faultless = clean.no_fault; are_declared = clean.declared }

-- of the core
pub core_told : (file text : List ℕ) (tokens : List Located) (tree : NamedTree) (layout : code_layout.Layout) (found : Written) (told : Option Linted)
    → IsNamed text tokens tree → IsClean tree layout → IsWritten (declared_of layout.names) (lines_of tokens) tree found
    → option_map (λ (linted : Linted). whole_text linted.parts.items) told ≡ told_of file text tokens found → IsFaulty told → IsAnswer file text told
core_told file text tokens tree layout (written.Core core origins owns) None parsed clean is told faulty =
    record {
      tokens = tokens;
      tree = tree;
      declared = declared_of layout.names;
      core = core.items;
      is = faultless text tokens tree layout parsed clean;
      written = is.is;
    }
core_told file text tokens tree layout (written.Core core origins owns) (Some linted) parsed clean is told faulty = absurd (some_not_none told)
core_told file text tokens tree layout (written.Over x) None parsed clean is told faulty = absurd (none_not_some told)
core_told file text tokens tree layout (written.Over x) (Some linted) parsed clean is told faulty = (
  inr (inr (record {
    tokens = tokens;
    tree = tree;
    declared = declared_of layout.names;
    is = faultless text tokens tree layout parsed clean;
    tells = inl (x, is, some_same told);
  })),
  faulty,
)
core_told file text tokens tree layout written.TooLong None parsed clean is told faulty = absurd (none_not_some told)
core_told file text tokens tree layout written.TooLong (Some linted) parsed clean is told faulty = (
  inr (inr (record {
    tokens = tokens;
    tree = tree;
    declared = declared_of layout.names;
    is = faultless text tokens tree layout parsed clean;
    tells = inr (is, some_same told);
  })),
  faulty,
)
