-- What is told of a fault of names, from what was found.
use Rattle.std.proofs.Common.{◌≡◌, ℕ, List, ◌++◌, map, get_or, Option, refl, sym, ap, subst, ◌∙◌, append_assoc}
use Rattle.lrc_lint_fault.specs.Hint.{words_line}
use Rattle.lrc_named_expression_faults.specs.declared.fault.Fault.{Fault}
use Rattle.lrc_named_tokens.specs.declared.token.Located as code_located
use Rattle.lrc_named_tokens.specs.Token.{Located}
use Rattle.lrc_named_tokens.specs.View.{located_of}
use Rattle.lrc_named_tree.specs.declared.tree.Name as code_name
use Rattle.lrc_named_tree.specs.Tree.{Named, NamedTree}
use Rattle.lrc_named_tree.specs.View.{named_of}
use Rattle.lrc_named_entries.specs.declared.entry.Entry as code_entry
use Rattle.lrc_named_entries.specs.Entry.{Entry, entries_of, first_nodes, parameters_around}
use Rattle.lrc_named_entries.specs.View.{entry_seen}
use Rattle.lrc_named_name_hints.specs.declared.seen.Seen as code_seen
use Rattle.lrc_named_name_hints.specs.Hints.{IsHintOf}
use Rattle.lrc_named_name_hints.specs.Seen.{Seen, seen_of}
use Rattle.lrc_named_lint_names.specs.Told.{TellsFault, head_lines, nowhere, seen_by, seen_in}

pub two_pushed : (old : List ℕ) {first second : List ℕ} (a b : List ℕ) → first ≡ old ++ a → second ≡ first ++ b → second ≡ old ++ (a ++ b)
two_pushed old a b h1 h2 = rw (h2, h1) (append_assoc old a b)

pub three_pushed : (old : List ℕ) {first second third : List ℕ} (a b c : List ℕ) → first ≡ old ++ a → second ≡ first ++ b → third ≡ second ++ c
    → third ≡ old ++ (a ++ b ++ c)
three_pushed old a b c h1 h2 h3 = rw (h3, h2, h1) (simp append_assoc)

-- what the code goes by
pub seen_there : (seen : code_seen.Seen) (tokens : List code_located.Located) (entries : List code_entry.Entry) (parameters : List code_name.Name) (counted : Option ℕ) (at : ℕ)
    → seen.tokens.now ≡ tokens → seen.entries.now ≡ entries → seen.parameters.now ≡ parameters → seen.counted ≡ counted → seen.at ≡ at
    → seen_of seen ≡ seen_by (map located_of tokens) (map entry_seen entries) (map named_of parameters) counted at
seen_there seen tokens entries parameters counted at tokens_are entries_are parameters_are counted_is at_is =
    ap (λ ts. seen_by (map located_of ts) (map entry_seen seen.entries.now) (map named_of seen.parameters.now) seen.counted seen.at) tokens_are
    ∙ ap (λ es. seen_by (map located_of tokens) (map entry_seen es) (map named_of seen.parameters.now) seen.counted seen.at) entries_are
    ∙ ap (λ ps. seen_by (map located_of tokens) (map entry_seen entries) (map named_of ps) seen.counted seen.at) parameters_are
    ∙ ap (λ n. seen_by (map located_of tokens) (map entry_seen entries) (map named_of parameters) n seen.at) counted_is
    ∙ ap (seen_by (map located_of tokens) (map entry_seen entries) (map named_of parameters) counted) at_is

-- is what the hint goes by
pub seen_found : (tokens : List Located) (tree : NamedTree) (at : ℕ) (entries : List Entry) (parameters : List Named) (counted : Option ℕ)
    → entries ≡ entries_of tree.declarations → parameters ≡ parameters_around at tree.declarations → counted ≡ first_nodes tree.declarations
    → seen_by tokens entries parameters counted at ≡ seen_in tokens tree at
seen_found tokens tree at entries parameters counted entries_are parameters_are counted_is =
    ap (λ es. seen_by tokens es parameters counted at) entries_are
    ∙ ap (λ ps. seen_by tokens (entries_of tree.declarations) ps counted at) parameters_are
    ∙ ap (λ n. seen_by tokens (entries_of tree.declarations) (parameters_around at tree.declarations) n at) counted_is

-- where the fault is, and behind it its hint
pub told : (file text : List ℕ) (tokens : List Located) (tree : NamedTree) (fault : Fault) (found : Located) (seen : Seen) (hint : Option (List ℕ))
    (old first second : List ℕ) → found ≡ get_or tokens fault.at nowhere → seen ≡ seen_in tokens tree fault.at → IsHintOf fault.kind seen hint
    → first ≡ old ++ head_lines file text found fault.kind → second ≡ first ++ words_line hint
    → (lines : List ℕ) × (second ≡ old ++ lines) × TellsFault file text tokens tree fault lines
told file text tokens tree fault found seen hint old first second there is is_hint head last =
    let headed = head ∙ ap (λ it. old ++ head_lines file text it fault.kind) there in (
      head_lines file text (get_or tokens fault.at nowhere) fault.kind ++ words_line hint,
      two_pushed old (head_lines file text (get_or tokens fault.at nowhere) fault.kind) (words_line hint) headed last,
      record { hint = hint; is_hint = subst (λ s. IsHintOf fault.kind s hint) is is_hint; is = refl },
    )
