use Rattle.std.proofs.Common.{◌≡◌, ℕ, ◌<◌, length, sym, ◌∙◌, ap, subst, arith, rules}
use Rattle.std.specs.Prelude.{Some, None, unwrap_or}
use Rattle.std.proofs.lemmas.Bool.{cond-true}
use Rattle.std.proofs.lemmas.Result.{IfOk-from_err}
use Rattle.lrc_exec.specs.declared.machine.Ask.TheVariants.{Read, Write}
use Rattle.lrc_page.specs.declared.size.Size.{Size}
use Rattle.lrc_page.specs.Place.{page_of, pages_of}
use Rattle.lrc_page.proofs.PageLists.{page_of-within}
use Rattle.lrc_memory.specs.View.{NodeMemory}
use Rattle.lrc_protocol.specs.Pages.{is_readable, copy_at, value_at, with_written_word}
use Rattle.lrc_protocol.specs.Node.{Node, with_memory}
use Rattle.lrc_node.specs.Effects.{CanAccess, memory_asked, value_asked}
use Rattle.lrc_node.specs.Seen.{node_of}
use Rattle.lrc_node.proofs.Kept.{kept_memory}
use Rattle.lrc_node.proofs.state.NodeState.access.Goals as goal

-- a word is on one of the pages
on_a_page : (size : Size) (node : Node) (word : ℕ) → size ≡ node.options.size
    → length node.memory.copies ≡ pages_of node.setting.words node.options.size
    → word < node.setting.words → page_of word size < length node.memory.copies
on_a_page size node word sized pages within =
    subst (λ n. page_of word size < n) (sym pages)
    (subst (λ s. page_of word s < pages_of node.setting.words node.options.size) (sym sized)
    (page_of-within word node.setting.words node.options.size within))

pub read-requires-clause-in_range : goal.read-requires-clause-in_range
read-requires-clause-in_range c =
    let is : c.args.asked ≡ Some (Read c.in-Some-Read.word) = search rules in
    let can = subst (CanAccess c.args.self.now) is c.requires in
    let word = subst (λ (n : Node). c.in-Some-Read.word < n.setting.words) (sym c.self.view_is) can.0 in
    omega (arith, word, c.self.invariant.few_words)

pub read-requires-clause-on_a_page : goal.read-requires-clause-on_a_page
read-requires-clause-on_a_page c =
    let is : c.args.asked ≡ Some (Read c.in-Some-Read.word) = search rules in
    let can = subst (CanAccess c.args.self.now) is c.requires in
    on_a_page c.self.inside.memory.size (node_of c.self.inside) c.in-Some-Read.word c.self.invariant.sized c.self.invariant.pages
    (subst (λ (n : Node). c.in-Some-Read.word < n.setting.words) (sym c.self.view_is) can.0)

pub write-requires-clause-in_range : goal.write-requires-clause-in_range
write-requires-clause-in_range c =
    let is : c.args.asked ≡ Some (Write c.in-Some-Write.word c.in-Some-Write.value) = search rules in
    let can = subst (CanAccess c.args.self.now) is c.requires in
    let word = subst (λ (n : Node). c.in-Some-Write.word < n.setting.words) (sym c.self.view_is) can.0 in
    omega (arith, word, c.self.invariant.few_words)

pub write-requires-clause-on_a_page : goal.write-requires-clause-on_a_page
write-requires-clause-on_a_page c =
    let is : c.args.asked ≡ Some (Write c.in-Some-Write.word c.in-Some-Write.value) = search rules in
    let can = subst (CanAccess c.args.self.now) is c.requires in
    on_a_page c.self.inside.memory.size (node_of c.self.inside) c.in-Some-Write.word c.self.invariant.sized c.self.invariant.pages
    (subst (λ (n : Node). c.in-Some-Write.word < n.setting.words) (sym c.self.view_is) can.0)

pub invariant_of-self : goal.invariant_of-self
invariant_of-self c = kept_memory (node_of c.self.inside) c.self.inside.memory c.write.new.self c.self.invariant c.write.ensures.same

pub returns-in_err-write-in-Some-Write-clause-value : goal.returns-in_err-write-in-Some-Write-clause-value
returns-in_err-write-in-Some-Write-clause-value c = IfOk-from_err _ _ c.from_residual.ensures.0

pub returns-in_err-write-in-Some-Write-clause-node : goal.returns-in_err-write-in-Some-Write-clause-node
returns-in_err-write-in-Some-Write-clause-node c = IfOk-from_err _ _ c.from_residual.ensures.0

pub returns-in-Some-Read-clause-value : goal.returns-in-Some-Read-clause-value
returns-in-Some-Read-clause-value c =
    let now : Node = c.args.self.now in
    let word = c.in-Some-Read.word in
    let memory : NodeMemory = c.self.inside.memory in
    let is : c.args.asked ≡ Some (Read c.in-Some-Read.word) = search rules in
    let can = subst (CanAccess now) is c.requires in
    let readable = ap (λ size. is_readable (copy_at memory.memory (page_of word size))) c.self.invariant.sized
    ∙ ap (λ (n : Node). is_readable (copy_at n.memory (page_of word n.options.size))) c.self.view_is ∙ can.1 in
    let read : c.read.result ≡ Some (value_at memory.size memory.memory word) =
    c.read.ensures ∙ cond-true _ (Some (value_at memory.size memory.memory word)) None readable in
    let value : c.unwrap_or.result ≡ value_at memory.size memory.memory word = c.unwrap_or.ensures ∙ ap (λ r. unwrap_or r 0) read in
    value
    ∙ ap (λ size. value_at size memory.memory word) c.self.invariant.sized
    ∙ ap (λ (n : Node). value_at n.options.size n.memory word) c.self.view_is ∙ ap (value_asked now) (sym is)

pub returns-in-Some-Read-clause-node : goal.returns-in-Some-Read-clause-node
returns-in-Some-Read-clause-node c =
    let is : c.args.asked ≡ Some (Read c.in-Some-Read.word) = search rules in
    ap (λ asked. with_memory c.args.self.now (memory_asked c.args.self.now asked)) (sym is)

pub returns-in_ok-write-in-Some-Write-clause-value : goal.returns-in_ok-write-in-Some-Write-clause-value
returns-in_ok-write-in-Some-Write-clause-value c =
    let is : c.args.asked ≡ Some (Write c.in-Some-Write.word c.in-Some-Write.value) = search rules in
    ap (value_asked c.args.self.now) (sym is)

pub returns-in_ok-write-in-Some-Write-clause-node : goal.returns-in_ok-write-in-Some-Write-clause-node
returns-in_ok-write-in-Some-Write-clause-node c =
    let now : Node = c.args.self.now in
    let node = node_of c.self.inside in
    let word = c.in-Some-Write.word in
    let value = c.in-Some-Write.value in
    let is : c.args.asked ≡ Some (Write c.in-Some-Write.word c.in-Some-Write.value) = search rules in
    ap (λ (m : NodeMemory). with_memory node m.memory) c.in_ok-write-in-Some-Write.ensures.ok
    ∙ ap (λ size. with_memory node (with_written_word size word value node.memory)) c.self.invariant.sized
    ∙ ap (λ (n : Node). with_memory n (with_written_word n.options.size word value n.memory)) c.self.view_is
    ∙ ap (λ asked. with_memory now (memory_asked now asked)) (sym is)
