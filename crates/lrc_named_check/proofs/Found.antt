-- What was checked, as what the names mean.
use Rattle.std.proofs.Common.{◌≤◌, inl, inr, List, [], ◌∷◌, subst}
use Rattle.std.specs.Prelude.{Option, None, Result, IfOk, ℕ}
use Rattle.lrc_named_tree.specs.Tree.{Block, Declaration, NamedTree}
use Rattle.lrc_named_names.specs.Names.{Declared}
use Rattle.lrc_named_names.specs.View.{declared_of}
use Rattle.lrc_named_constants.specs.Layout.{AreDeclared, no_declaration, one_declaration}
use Rattle.lrc_named_expression_faults.specs.Fault.{IsNone}
use Rattle.lrc_named_expression_faults.proofs.First.{if_ok}
use Rattle.lrc_named_statement_faults.specs.Statements.{IsInStatements}
use Rattle.lrc_named_faults.specs.declared.layout.Layout as code_layout
use Rattle.lrc_named_faults.specs.declared.values.Found.{Found}
use Rattle.lrc_named_faults.specs.declared.values.Found.TheVariants.{Good, Bad}
use Rattle.lrc_named_faults.specs.Checked.{IsChecked}
use Rattle.lrc_named_faults.specs.Program.{IsInProgram, counted_with}
use Rattle.lrc_named_faults.proofs.Laid.{laid_out_is_sound}
use Rattle.lrc_named_check.specs.Program.{AreNamesFound}
use Rattle.lrc_named_check.proofs.Statements.{clean_block}

-- of a program without a fault the declarations have none, and then the statements
statements_clean : {old new : List Declared} (counted : Option ℕ) (declarations : List Declaration) (b : Block) → AreDeclared old declarations new
    → IsNone (λ f. IsInProgram counted old declarations b f) → IsNone (λ f. IsInStatements new b f)
statements_clean counted [] b no_declaration clean = clean
statements_clean counted (first ∷ others) b (one_declaration {between = between} is rest) clean =
    statements_clean (counted_with counted first) others b rest (λ f h. clean f (inr (λ g own. clean g (inl own), (between, is, h))))

found_as_names : (p : NamedTree) (found : Found code_layout.Layout) → IsChecked p found → AreNamesFound p found
found_as_names p (Good layout) h =
    let laid = h.2 in
    record {
      no_fault = h.0;
      declared = h.1;
      laid_out = laid;
      table = laid_out_is_sound layout laid;
      well = clean_block (declared_of layout.names) p.statements (statements_clean None p.declarations p.statements h.1 h.0);
      few_words = subst (λ n. n ≤ 65536) laid.words laid.few_words;
      few_locks = subst (λ n. n ≤ 64) laid.locks laid.few_locks;
      nodes = h.3;
    }
found_as_names p (Bad fault) h = h

pub checked_as_names : {E : Type 0} (p : NamedTree) (r : Result (Found code_layout.Layout) E) → IfOk r (λ found. IsChecked p found)
    → IfOk r (λ found. AreNamesFound p found)
checked_as_names p r h = if_ok (λ found. IsChecked p found) (λ found. AreNamesFound p found) r (λ found k. found_as_names p found k) h
