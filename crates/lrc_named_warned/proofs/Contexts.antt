-- What the warnings of a named program are told by, field by field.
use Rattle.std.proofs.Common.{◌≡◌, ◌∙◌, ℕ, List, [], ap, subst}
use Rattle.lrc_program.specs.Tree.{ProgramTree}
use Rattle.lrc_labels.specs.Reading.{Label}
use Rattle.lrc_lint_warnings.specs.declared.warning.Spot.{Spot}
use Rattle.lrc_lint_warnings.specs.declared.warning.Warning.{Warning}
use Rattle.lrc_named_tokens.specs.Token.{Located}
use Rattle.lrc_named_tree.specs.Tree.{NamedTree}
use Rattle.lrc_named_names.specs.Names.{Declared}
use Rattle.lrc_named_core.specs.Tree.{Origin}
use Rattle.lrc_named_entries.specs.Entry.{Entry}
use Rattle.lrc_named_warnings.specs.Context.{Context}
use Rattle.lrc_named_warnings.specs.Told.{Tells}
use Rattle.lrc_named_warned.specs.Side.{IsCoreSide, Side}
use Rattle.lrc_named_warned.specs.Warned.{TellsCore, TellsOf}

abbrev made : List Spot → List Origin → List ℕ → List (List ℕ) → List Label → List ℕ → List Entry → Context
made spots origins begins names labels loops unused =
    record { spots = spots; origins = origins; begins = begins; names = names; labels = labels; loops = loops; unused = unused }

same_context : (one other : Context) → one.spots ≡ other.spots → one.origins ≡ other.origins → one.begins ≡ other.begins → one.names ≡ other.names
    → one.labels ≡ other.labels → one.loops ≡ other.loops → one.unused ≡ other.unused → one ≡ other
same_context one other s o b n l p u =
    ap (λ x. made x one.origins one.begins one.names one.labels one.loops one.unused) s
    ∙ ap (λ x. made other.spots x one.begins one.names one.labels one.loops one.unused) o
    ∙ ap (λ x. made other.spots other.origins x one.names one.labels one.loops one.unused) b
    ∙ ap (λ x. made other.spots other.origins other.begins x one.labels one.loops one.unused) n
    ∙ ap (λ x. made other.spots other.origins other.begins other.names x one.loops one.unused) l
    ∙ ap (λ x. made other.spots other.origins other.begins other.names other.labels x one.unused) p
    ∙ ap (λ x. made other.spots other.origins other.begins other.names other.labels other.loops x) u

pub tells_same : (file : List ℕ) (one other : Context) (warned same : List Warning) (before printed : List ℕ) → one.spots ≡ other.spots
    → one.origins ≡ other.origins → one.begins ≡ other.begins → one.names ≡ other.names → one.labels ≡ other.labels → one.loops ≡ other.loops
    → one.unused ≡ other.unused → warned ≡ same → before ≡ [] → Tells file one warned before printed → Tells file other same [] printed
tells_same file one other warned same before printed s o b n l p u w e h =
    subst (λ x. Tells file other same x printed) e
    (subst (λ x. Tells file other x before printed) w (subst (λ x. Tells file x warned before printed) (same_context one other s o b n l p u) h))

pub core_told : (file : List ℕ) (t : List Located) (tree : NamedTree) (declared : List Declared) (core : List ℕ) (origins : List Origin) (printed : List ℕ)
    (program : ProgramTree) (side : Side) → IsCoreSide core program side → TellsOf file t tree declared origins side printed
    → TellsCore file t tree declared core origins printed
core_told file t tree declared core origins printed program side is tells = record { program = program; side = side; is_side = is; tells = tells }
