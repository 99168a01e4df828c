-- The name is seen already, or it is from now on.
use Rattle.std.proofs.Common.{map, sym, ap, ◌∙◌}
use Rattle.lrc_named_tree.specs.View.{named_of}
use Rattle.lrc_named_constants.specs.Well.{bytes_of, is_among}
use Rattle.lrc_named_written.proofs.Seen.{add_seen, keep_seen, pass_seen}
use Rattle.lrc_named_written.proofs.privates.note_private.Goals as goal

pub returns-then-is_one_of : goal.returns-then-is_one_of
returns-then-is_one_of c =
    let name = (named_of c.in-Some.name).bytes in
    keep_seen _ _ name c.in-Some.ensures
    (ap (λ l. is_among (bytes_of (map named_of l)) name) (sym c.deref.ensures.value) ∙ sym c.is_one_of.ensures ∙ c.if-is_one_of.true)

pub returns-in_ok-push-in-Some : goal.returns-in_ok-push-in-Some
returns-in_ok-push-in-Some c =
    let name = (named_of c.in-Some.name).bytes in
    add_seen c.args.seen.now.items c.push.new.self.items c.in-Some.name _ c.in-Some.ensures
    (ap (λ l. is_among (bytes_of (map named_of l)) name) (sym c.deref.ensures.value) ∙ sym c.is_one_of.ensures ∙ c.if-is_one_of.false)
    c.in_ok-push-in-Some.ensures.items

pub returns-in-None : goal.returns-in-None
returns-in-None c = pass_seen _ _ c.in-None.ensures
