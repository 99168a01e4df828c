use Rattle.std.proofs.Common.{◌≡◌, ◌<◌, ℕ, true, List, length, sym, ◌∙◌, ap, subst}
use Rattle.std.specs.Prelude.{All, flat_map}
use Rattle.std.specs.List.{list_all}
use Rattle.lrc_protocol.specs.Pages.{Need, is_met}
use Rattle.lrc_protocol.specs.Barriers.{kept_pages}
use Rattle.lrc_protocol.specs.Node.{Letter, Node}
use Rattle.lrc_protocol.specs.Turn.{requests_of, needs_of_kept, keeps_up}
use Rattle.lrc_node.specs.Keeping.{CanClean}
use Rattle.lrc_node.specs.State.{AreFor}
use Rattle.lrc_node.proofs.Keeping.{kept_within, begins_clean, begins_for}
use Rattle.lrc_node.proofs.state.NodeState.collects.Goals as goal

pub needs_to_keep-requires : goal.needs_to_keep-requires
needs_to_keep-requires c =
    subst (λ (kept : List ℕ). All (λ page. page < length c.take_keepers.new.self.memory.copies) kept) (sym c.in_ok-kept.ensures)
    (subst (λ (n : Node). All (λ page. page < length n.memory.copies) (kept_pages n.setting.me n.memory)) (sym c.take_keepers.ensures)
    (kept_within c.args.self.now c.requires))

pub keep_up-requires-clause-can : goal.keep_up-requires-clause-can
keep_up-requires-clause-can c =
    let now : Node = c.take_keepers.new.self in
    subst (λ (needs : List Need). list_all is_met needs ≡ true → CanClean now c.in_ok-kept.kept needs) (sym c.in_ok-needs.ensures)
    (subst (λ (kept : List ℕ). list_all is_met (needs_of_kept now kept) ≡ true → CanClean now kept (needs_of_kept now kept)) (sym c.in_ok-kept.ensures)
    (subst (λ (n : Node). list_all is_met (needs_of_kept n (kept_pages n.setting.me n.memory)) ≡ true
    → CanClean n (kept_pages n.setting.me n.memory) (needs_of_kept n (kept_pages n.setting.me n.memory))) (sym c.take_keepers.ensures)
    (begins_clean c.args.self.now c.requires)))

pub keep_up-requires-clause-to : goal.keep_up-requires-clause-to
keep_up-requires-clause-to c =
    let now : Node = c.take_keepers.new.self in
    let sent : c.in_ok-letters.letters.items ≡ flat_map requests_of c.in_ok-needs.needs.items = c.in_ok-letters.ensures
    ∙ ap (flat_map requests_of) c.deref.ensures.value in
    subst (AreFor now.setting.nodes) (sym sent)
    (subst (λ (needs : List Need). AreFor now.setting.nodes (flat_map requests_of needs)) (sym c.in_ok-needs.ensures)
    (subst (λ (kept : List ℕ). AreFor now.setting.nodes (flat_map requests_of (needs_of_kept now kept))) (sym c.in_ok-kept.ensures)
    (subst (λ (n : Node). AreFor n.setting.nodes (flat_map requests_of (needs_of_kept n (kept_pages n.setting.me n.memory)))) (sym c.take_keepers.ensures)
    (begins_for c.args.self.now c.requires))))

pub returns-clause-effect : goal.returns-clause-effect
returns-clause-effect c =
    let now : Node = c.take_keepers.new.self in
    let time : List ℕ = c.args.time.now in
    let sent : c.in_ok-letters.letters.items ≡ flat_map requests_of c.in_ok-needs.needs.items = c.in_ok-letters.ensures
    ∙ ap (flat_map requests_of) c.deref.ensures.value in
    let node = ap (λ (n : Node). let kept = kept_pages n.setting.me n.memory in
    keeps_up (flat_map requests_of (needs_of_kept n kept)) n
    (record { time = time; kept = kept }) (needs_of_kept n kept)) (sym c.take_keepers.ensures) in
    let kept = ap (λ (kept : List ℕ). keeps_up (flat_map requests_of (needs_of_kept now kept)) now
    (record { time = time; kept = kept }) (needs_of_kept now kept))
    (sym c.in_ok-kept.ensures) in
    let needs = ap (λ (needs : List Need). keeps_up (flat_map requests_of needs) now
    (record { time = time; kept = c.in_ok-kept.kept }) needs) (sym c.in_ok-needs.ensures) in
    let letters = ap (λ (letters : List Letter). keeps_up letters now
    (record { time = time; kept = c.in_ok-kept.kept }) c.in_ok-needs.needs.items) (sym sent) in
    let until = ap (λ (t : List ℕ). keeps_up c.in_ok-letters.letters.items now
    (record { time = t; kept = c.in_ok-kept.kept }) c.in_ok-needs.needs.items)
    (sym c.copy-time.ensures) in
    rw (node ∙ kept ∙ needs ∙ letters ∙ until) c.keep_up.ensures.effect
