use Rattle.std.proofs.Common.{◌≡◌, ℕ, List, ◌∙◌, ap, length, subst, sym, rules}
use Rattle.std.specs.List.Sorted.{IsPermutation}
use Rattle.std.proofs.lemmas.List.Sorted.{length_permutation}
use Rattle.lrc_envelope.specs.Records.{AreIndices}
use Rattle.lrc_need.proofs.Asking.{listed, refill-whole, sorted-indices, sorted-AreIndices}
use Rattle.lrc_need.proofs.asked.ask_maker.Goals as goal

pub from_short-requires : goal.from_short-requires
from_short-requires c =
    let sorted = c.sort_unstable.new.self in
    let found : c.deref_mut.result.now ≡ listed c.args.keys.now c.args.maker = search rules in
    let before : c.deref_mut.result.now ≡ c.in_ok-list.list.items = search rules in
    subst AreIndices
    (sym (refill-whole c.in_ok-list.list.items sorted (length_permutation c.deref_mut.result.now sorted c.sort_unstable.ensures.permutation ∙ ap length before)))
    (sorted-AreIndices c.args.keys.now c.args.maker sorted c.requires
    (subst (λ (l : List ℕ). IsPermutation l sorted) found c.sort_unstable.ensures.permutation) c.sort_unstable.ensures.sorted)

pub returns : goal.returns
returns c =
    let sorted = c.sort_unstable.new.self in
    let found : c.deref_mut.result.now ≡ listed c.args.keys.now c.args.maker = search rules in
    let before : c.deref_mut.result.now ≡ c.in_ok-list.list.items = search rules in
    c.from_short.ensures
    ∙ refill-whole c.in_ok-list.list.items sorted (length_permutation c.deref_mut.result.now sorted c.sort_unstable.ensures.permutation ∙ ap length before)
    ∙ sorted-indices c.args.keys.now c.args.maker sorted c.requires
    (subst (λ (l : List ℕ). IsPermutation l sorted) found c.sort_unstable.ensures.permutation) c.sort_unstable.ensures.sorted
