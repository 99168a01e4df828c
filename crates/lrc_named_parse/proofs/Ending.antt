-- Where the text ends: what the parser keeps then, and the program that it gives.
use Rattle.std.proofs.Common.{◌≡◌, List, Option, Some, None, option_map, map, refl, sym, ap, ap₂, ◌∙◌}
use Rattle.lrc_lang.specs.declared.fault.FaultKind.{FaultKind}
use Rattle.lrc_lang.specs.declared.fault.FaultKind.TheVariants.{Unexpected, NoMemory}
use Rattle.lrc_lang.specs.Parser.Seen.{Fails}
use Rattle.lrc_named_tree.specs.declared.tree.NamedProgram as code_program
use Rattle.lrc_named_tree.specs.Tree.{Block, Declaration, NamedTree}
use Rattle.lrc_named_tree.specs.View.{declaration_of, block_of, program_of}
use Rattle.lrc_named_expression.specs.Partial.{Partial}
use Rattle.lrc_named_expression.specs.Seen.{partial_seen}
use Rattle.lrc_named_expression.proofs.Options.{none_some, some_same}
use Rattle.lrc_named_statement.specs.Body.{Body, holding}
use Rattle.lrc_named_statement.specs.Seen.{body_seen}
use Rattle.lrc_named_parse.specs.declared.state.Stage as code_stage
use Rattle.lrc_named_parse.specs.declared.state.Stage.TheVariants as code_stages
use Rattle.lrc_named_parse.specs.declared.state.State as code_state
use Rattle.lrc_named_parse.specs.State.{at, ended, finished, IsEnded, block_in, program_in}
use Rattle.lrc_named_parse.specs.SeenState.{stage_seen, declared_seen, state_seen}

pub finished_with : (before : List Declaration) (found : Option Block) (b : Body) → option_map holding found ≡ Some b → finished before found ≡ at before (ended b.before)
finished_with before None b q = absurd (none_some q)
finished_with before (Some r) b q = ap (λ (c : Body). at before (ended c.before)) (some_same q)

not_finished : (before : List Declaration) (found : Option Block) → option_map holding found ≡ None → finished before found ≡ None
not_finished before None q = refl
not_finished before (Some r) q = absurd (none_some (sym q))

pub finished_fails : (kind : FaultKind) (before : List Declaration) (found : Option Block) → Fails kind (option_map holding found) → Fails kind (finished before found)
finished_fails Unexpected before found q = not_finished before found q
finished_fails NoMemory before found q = tt
finished_fails _ before found q = absurd q

ended_block : (stage : code_stage.Stage) (x : Partial) (b : Body) → IsEnded (stage_seen stage x b) → block_in (stage_seen stage x b) ≡ b.before
ended_block code_stages.Ended x b h = refl
ended_block _ x b h = absurd h

abbrev tree_of : List Declaration → Block → NamedTree
tree_of declarations statements = record { declarations = declarations; statements = statements }

pub ended_program : (s : code_state.State) (p : code_program.NamedProgram) → IsEnded (state_seen s).stage →
    map declaration_of p.declarations.items ≡ declared_seen s → block_of p.statements.items ≡ (body_seen s.body).before →
    program_in (state_seen s) ≡ program_of p
ended_program s p h declarations statements =
    ap₂ tree_of (sym declarations) (ended_block s.stage (partial_seen s.expression) (body_seen s.body) h ∙ sym statements)
