use Rattle.std.proofs.Common.{◌≡◌, ◌+◌, sym, append-nil, append_assoc, ap, arith, ◌∙◌, ◌++◌, ◌∷◌, [], length, map}
use Rattle.std.specs.List.{range_with_len}
use Rattle.std.proofs.lemmas.List.{length-map}
use Rattle.std.proofs.lemmas.List.FromFn.{map-range_with_len_more}
use Rattle.lrc_named_entries.specs.View.{entry_seen}
use Rattle.lrc_named_warnings.specs.Notes.{unused_note}
use Rattle.lrc_named_warnings.proofs.notes.put_unused.Goals as goal

pub loop-i-init : goal.loop-i-init
loop-i-init c = sym (append-nil c.args.notes.now.items)

pub loop-i-preserved : goal.loop-i-preserved
loop-i-preserved c =
    let f = unused_note c.args.spots.now (map entry_seen c.args.unused.now) in
    let old = c.args.notes.now.items in
    let i = c.loop-i.i in
    c.in_ok-push.ensures.items ∙ ap (λ n. c.loop-i.notes.items ++ n ∷ []) c.unused_note.ensures ∙ ap (λ l. l ++ f i ∷ []) c.loop-i.invariant
    ∙ append_assoc old (map f (range_with_len 0 i)) (f i ∷ []) ∙ ap (λ l. old ++ l) (sym (map-range_with_len_more f 0 i i (omega arith)))

pub returns : goal.returns
returns c =
    let f = unused_note c.args.spots.now (map entry_seen c.args.unused.now) in
    let same : length (map entry_seen c.args.unused.now) ≡ length c.args.unused.now = length-map c.args.unused.now entry_seen in
    let all : c.loop-i.i ≡ length (map entry_seen c.args.unused.now) = omega (arith, c.loop-i-test.false, same) in
    c.loop-i.invariant ∙ ap (λ n. c.args.notes.now.items ++ map f (range_with_len 0 n)) all
