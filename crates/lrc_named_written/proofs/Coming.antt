-- What a core comes to is what its program does.
use Rattle.std.proofs.Common.{◌≡◌, ◌≤◌, ℕ, List, length, sym, subst}
use Rattle.std.specs.Prelude.{None, Result, Ok, Err, IfOk}
use Rattle.lrc_named_tree.specs.Tree.{NamedTree}
use Rattle.lrc_named_names.specs.Names.{Declared}
use Rattle.lrc_named_core.specs.Tree.{Block}
use Rattle.lrc_named_limits.specs.Limits.{IsFirstOf}
use Rattle.lrc_named_program.specs.Program.{IsCoreOf}
use Rattle.lrc_named_text.specs.Statements.{core_text}
use Rattle.lrc_named_written.specs.declared.written.Written.{Written}
use Rattle.lrc_named_written.specs.declared.written.Written.TheVariants.{Core, Over, TooLong}
use Rattle.lrc_named_written.specs.Privates.{privates}
use Rattle.lrc_named_written.specs.Written.{AreOver, ComesTo, IsTextOf, IsWritten}

-- a text of statements that are not over a limit
pub with_text : (count words locks : ℕ) (declared : List Declared) (lines : List ℕ) (statements : Block) (w : Written) → IsFirstOf (AreOver count statements) None
    → IsTextOf (core_text words locks declared lines statements) statements w → ComesTo count words locks declared lines statements w
with_text count words locks declared lines statements (Core text origins owns) within is = (within, is)
with_text count words locks declared lines statements (Over x) within is = absurd is
with_text count words locks declared lines statements TooLong within is = (within, is)

pub as_program : (count words locks : ℕ) (declared : List Declared) (lines : List ℕ) (tree : NamedTree) (statements : Block) (w : Written)
    → count ≡ privates declared tree.statements → IsCoreOf declared tree words locks statements
    → ComesTo count words locks declared lines statements w → IsWritten declared lines tree w
as_program count words locks declared lines tree statements (Core text origins owns) counted core comes = record {
  is = record {
    words = words;
    locks = locks;
    statements = statements;
    translated = core;
    within = subst (λ n. IsFirstOf (AreOver n statements) None) counted comes.0;
    written = comes.1.0;
    fits = subst (λ l. length l ≤ 65536) (sym comes.1.0) comes.1.1;
  };
  origins_are = comes.1.2;
  owns_are = comes.1.3;
}
as_program count words locks declared lines tree statements (Over x) counted core comes = record {
  words = words;
  locks = locks;
  statements = statements;
  translated = core;
  first = subst (λ n. ComesTo n words locks declared lines statements (Over x)) counted comes;
}
as_program count words locks declared lines tree statements TooLong counted core comes = record {
  words = words;
  locks = locks;
  statements = statements;
  translated = core;
  within = subst (λ n. IsFirstOf (AreOver n statements) None) counted comes.0;
  long = comes.1;
}

pub if_ok : {A E : Type 0} (P Q : A → Type 0) (r : Result A E) → ((x : A) → P x → Q x) → IfOk r P → IfOk r Q
if_ok P Q (Ok x) f h = f x h
if_ok P Q (Err e) f h = tt
