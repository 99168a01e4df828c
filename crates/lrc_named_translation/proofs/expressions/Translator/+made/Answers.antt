-- Each form of an expression has a rule.
use Rattle.std.proofs.Common.{◌≡◌, ◌<◌, ◌+◌, ◌*◌, true, false, Some, map, length, sym, ap, subst, arith, ◌∙◌}
use Rattle.std.proofs.lemmas.List.{length-map}
use Rattle.lrc_program.specs.declared.Operator.TheVariants.{Equal}
use Rattle.lrc_named_tree.specs.Tree.{Expressions}
use Rattle.lrc_named_tree.specs.Tree as tree
use Rattle.lrc_named_tree.specs.View.{named_of, expressions_of, row_of}
use Rattle.lrc_named_tree.specs.View as trees
use Rattle.lrc_named_tree.specs.declared.tree.Expression.TheBlock.{hidden-the_row-Expression-0}
use Rattle.lrc_named_names.specs.Names.{IsFunction, function, meaning_at, meaning_of}
use Rattle.lrc_named_names.specs.View.{declared_of, item_of}
use Rattle.lrc_named_address.specs.Address.{address}
use Rattle.lrc_named_constants.specs.View.{known_of}
use Rattle.lrc_named_constants.specs.Constant.{IsConstancy, bound, names_of}
use Rattle.lrc_named_constants.specs.Well.{IsWell, AreWell, Takes, ValueUnless, bytes_of, count}
use Rattle.lrc_named_constants.proofs.Among.{function_takes, length_of_constancies, names_of-bound, takes_all, unknown_is_among_none}
use Rattle.lrc_named_constants.proofs.Each.{smaller_at, well_at}
use Rattle.lrc_named_constants.proofs.Measure.{size, sizes}
use Rattle.lrc_named_constants.proofs.Rows.{row_of_hidden}
use Rattle.lrc_named_core.specs.View.{block_of, expression_of, origin_of, private_of}
use Rattle.lrc_named_core.specs.Tree.{number, private, me, nodes, binary, empty}
use Rattle.lrc_named_translation.specs.Added.{IsAdded}
use Rattle.lrc_named_translation.specs.Made.{IsMade, IsByRule, a_number, a_constant, a_private_name, the_node, node_count, holding, is_plain, using_item}
use Rattle.lrc_named_translation.specs.Turn.{joined_by}
use Rattle.lrc_named_translation.proofs.Measure.{lighter}
use Rattle.lrc_named_translation.proofs.Making.{made_none, made_step, count_added, few_bound}
use Rattle.lrc_named_translation.proofs.Parameters.{no_parameter, rule_parameter}
use Rattle.lrc_named_translation.proofs.Rules.{rule_alone, rule_group, rule_not, rule_binary, rule_call, rule_read, rule_as, rule_as_call, made_by_rule, made_value, none_valued, read_is, right_as, rule_once, rule_turned, turned_as, both_same, either_same}
use Rattle.lrc_named_translation.proofs.expressions.Translator.+made.Goals as goal

pub all_made-loop-expression-preserved : goal.all_made-loop-expression-preserved
all_made-loop-expression-preserved t c =
    made_step (declared_of c.args.self.now.names.now) (origin_of c.args.self.now.origin) (map known_of c.args.with.known.now)
    (map expression_of c.args.with.cores.now) c.args.expressions.now c.loop-expression.expression-index c.expression-item.result
    c.args.taken.now c.loop-expression.taken c.made.new.taken c.args.before.now.items c.loop-expression.before.items c.made.new.before.items
    c.loop-expression.all.items c.push.new.self.items c.in_ok-p.p
    c.loop-expression-test.true c.expression-item.is c.in_ok-push.ensures.items c.loop-expression.invariant c.in_ok-p.ensures

pub all_made-loop-expression-init : goal.all_made-loop-expression-init
all_made-loop-expression-init t c =
    made_none (declared_of c.args.self.now.names.now) (origin_of c.args.self.now.origin) (map known_of c.args.with.known.now)
    (map expression_of c.args.with.cores.now) c.args.taken.now c.args.before.now.items c.new-all.result.items c.new-all.ensures.items

pub all_made-made-requires : goal.all_made-made-requires
all_made-made-requires t c =
    let declared = declared_of c.args.self.now.names.now in
    let parameters = names_of (map known_of c.args.with.known.now) in
    let xs = c.args.expressions.now in
    let x = c.expression-item.result in
    let i = c.loop-expression.expression-index in
    let h : size (trees.expression_of x) < sizes (expressions_of xs) =
    subst (λ y. size (trees.expression_of y) < sizes (expressions_of xs)) (sym c.expression-item.is) (smaller_at xs i x c.loop-expression-test.true) in
    let w : IsWell declared parameters c.args.below (trees.expression_of x) =
    subst (λ y. IsWell declared parameters c.args.below (trees.expression_of y)) (sym c.expression-item.is) (well_at declared parameters c.args.below xs i x c.loop-expression-test.true c.requires.well) in
    (omega (arith, h), (c.requires.table, (w, c.requires.whole)))

pub by_rule-returns-in-Number : goal.by_rule-returns-in-Number
by_rule-returns-in-Number t c =
    let declared = declared_of c.args.self.now.names.now in
    let at = origin_of c.args.self.now.origin in
    let known = map known_of c.args.with.known.now in
    let cores = map expression_of c.args.with.cores.now in
    rule_alone declared at known cores (trees.expression_of c.args.expression.now) c.args.taken.now (expression_of c.number.result) c.args.before.now.items
    (subst (λ p. IsByRule declared at known cores (trees.expression_of c.args.expression.now) c.args.taken.now empty p c.args.taken.now) (sym c.number.ensures)
    (subst (λ x. IsByRule declared at known cores (trees.expression_of x) c.args.taken.now empty (number c.in-Number.n) c.args.taken.now) (sym c.in-Number.is) a_number))

pub by_rule-returns-in-Me : goal.by_rule-returns-in-Me
by_rule-returns-in-Me t c =
    let declared = declared_of c.args.self.now.names.now in
    let at = origin_of c.args.self.now.origin in
    let known = map known_of c.args.with.known.now in
    let cores = map expression_of c.args.with.cores.now in
    rule_alone declared at known cores (trees.expression_of c.args.expression.now) c.args.taken.now (expression_of c.me.result) c.args.before.now.items
    (subst (λ p. IsByRule declared at known cores (trees.expression_of c.args.expression.now) c.args.taken.now empty p c.args.taken.now) (sym c.me.ensures)
    (subst (λ x. IsByRule declared at known cores (trees.expression_of x) c.args.taken.now empty me c.args.taken.now) (sym c.in-Me.is) the_node))

pub by_rule-returns-in-Nodes : goal.by_rule-returns-in-Nodes
by_rule-returns-in-Nodes t c =
    let declared = declared_of c.args.self.now.names.now in
    let at = origin_of c.args.self.now.origin in
    let known = map known_of c.args.with.known.now in
    let cores = map expression_of c.args.with.cores.now in
    rule_alone declared at known cores (trees.expression_of c.args.expression.now) c.args.taken.now (expression_of c.nodes.result) c.args.before.now.items
    (subst (λ p. IsByRule declared at known cores (trees.expression_of c.args.expression.now) c.args.taken.now empty p c.args.taken.now) (sym c.nodes.ensures)
    (subst (λ x. IsByRule declared at known cores (trees.expression_of x) c.args.taken.now empty nodes c.args.taken.now) (sym c.in-Nodes.is) node_count))

pub by_rule-returns-in_ok-p-in-Group : goal.by_rule-returns-in_ok-p-in-Group
by_rule-returns-in_ok-p-in-Group t c =
    let declared = declared_of c.args.self.now.names.now in
    let at = origin_of c.args.self.now.origin in
    let known = map known_of c.args.with.known.now in
    let cores = map expression_of c.args.with.cores.now in
    let p = expression_of c.in_ok-p-in-Group.p in
    let old = c.args.before.now.items in
    let new = c.made.new.before.items in
    let after = c.made.new.taken in
    rule_group declared at known cores (trees.expression_of c.args.expression.now) _ _ _ c.args.taken.now after p old new
    (ap trees.expression_of c.in-Group.is)
    (subst (λ x. IsAdded (λ b. IsMade declared at known cores (trees.expression_of x) c.args.taken.now b p after) old new) c.deref-in-Group.ensures c.in_ok-p-in-Group.ensures)

pub by_rule-returns-in_ok-e-in-Not : goal.by_rule-returns-in_ok-e-in-Not
by_rule-returns-in_ok-e-in-Not t c =
    let declared = declared_of c.args.self.now.names.now in
    let at = origin_of c.args.self.now.origin in
    let known = map known_of c.args.with.known.now in
    let cores = map expression_of c.args.with.cores.now in
    let p = expression_of c.in_ok-p-in-Not.p in
    let old = c.args.before.now.items in
    let new = c.made-in-Not.new.before.items in
    let after = c.made-in-Not.new.taken in
    rule_not declared at known cores (trees.expression_of c.args.expression.now) _ _ c.args.taken.now after p (expression_of c.in_ok-e-in-Not.e) old new
    (ap trees.expression_of c.in-Not.is) (c.in_ok-e-in-Not.ensures ∙ ap (λ z. binary p Equal z) c.number-in-Not.ensures)
    (subst (λ x. IsAdded (λ b. IsMade declared at known cores (trees.expression_of x) c.args.taken.now b p after) old new) c.deref-in-Not.ensures c.in_ok-p-in-Not.ensures)

pub by_rule-returns-in_ok-e-in-Binary : goal.by_rule-returns-in_ok-e-in-Binary
by_rule-returns-in_ok-e-in-Binary t c =
    let declared = declared_of c.args.self.now.names.now in
    let at = origin_of c.args.self.now.origin in
    let known = map known_of c.args.with.known.now in
    let cores = map expression_of c.args.with.cores.now in
    let p = expression_of c.in_ok-p-in-Binary.p in
    let q = expression_of c.in_ok-q-in-Binary.q in
    let old = c.args.before.now.items in
    let mid = c.made-in-Binary.new.before.items in
    let new = c.made-in-Binary-2.new.before.items in
    let between = c.made-in-Binary.new.taken in
    let after = c.made-in-Binary-2.new.taken in
    rule_binary declared at known cores (trees.expression_of c.args.expression.now) _ _ c.in-Binary.operator c.args.taken.now between after p q
    (expression_of c.in_ok-e-in-Binary.e) old mid new
    (ap trees.expression_of c.in-Binary.is) c.in_ok-e-in-Binary.ensures
    (subst (λ x. IsAdded (λ b. IsMade declared at known cores (trees.expression_of x) c.args.taken.now b p between) old mid) c.deref-in-Binary.ensures c.in_ok-p-in-Binary.ensures)
    (subst (λ x. IsAdded (λ b. IsMade declared at known cores (trees.expression_of x) between b q after) mid new) c.deref-in-Binary-2.ensures c.in_ok-q-in-Binary.ensures)

pub by_rule-returns-in_ok-p-in-Element : goal.by_rule-returns-in_ok-p-in-Element
by_rule-returns-in_ok-p-in-Element t c =
    let declared = declared_of c.args.self.now.names.now in
    let at = origin_of c.args.self.now.origin in
    let known = map known_of c.args.with.known.now in
    let cores = map expression_of c.args.with.cores.now in
    let e : row_of (hidden-the_row-Expression-0 c.in-Element.indices) ≡ expressions_of c.deref.result.now =
    row_of_hidden c.in-Element.indices ∙ ap expressions_of (sym c.deref.ensures.value) in
    rule_as declared at known cores (trees.expression_of c.args.expression.now) (tree.element (named_of c.in-Element.name) (expressions_of c.deref.result.now) c.in-Element.last)
    c.args.taken.now c.element.new.taken (expression_of c.in_ok-p-in-Element.p) c.args.before.now.items c.element.new.before.items
    (ap trees.expression_of c.in-Element.is ∙ ap (λ l. tree.element (named_of c.in-Element.name) l c.in-Element.last) e) c.in_ok-p-in-Element.ensures

pub by_rule-returns-in_ok-p-in-Call : goal.by_rule-returns-in_ok-p-in-Call
by_rule-returns-in_ok-p-in-Call t c =
    let declared = declared_of c.args.self.now.names.now in
    let at = origin_of c.args.self.now.origin in
    let known = map known_of c.args.with.known.now in
    let cores = map expression_of c.args.with.cores.now in
    let es = expressions_of c.deref-in-Call.result.now in
    let e : row_of (hidden-the_row-Expression-0 c.in-Call.arguments) ≡ es =
    row_of_hidden c.in-Call.arguments ∙ ap expressions_of (sym c.deref-in-Call.ensures.value) in
    rule_as_call declared at known cores (trees.expression_of c.args.expression.now) (named_of c.in-Call.name) es c.in-Call.field-2
    c.args.taken.now c.call.new.taken (expression_of c.in_ok-p-in-Call.p) c.args.before.now.items c.call.new.before.items
    (ap trees.expression_of c.in-Call.is ∙ ap (λ l. tree.call (named_of c.in-Call.name) l c.in-Call.field-2) e) c.in_ok-p-in-Call.ensures

pub made-returns-in-Value : goal.made-returns-in-Value
made-returns-in-Value t c =
    let declared = declared_of c.args.self.now.names.now in
    let known = map known_of c.args.with.known.now in
    let at = origin_of c.args.self.now.origin in
    let cores = map expression_of c.args.with.cores.now in
    let e = trees.expression_of c.args.expression.now in
    let old = c.args.before.now.items in
    subst (λ p. IsAdded (λ b. IsMade declared at known cores e c.args.taken.now b p c.args.taken.now) old old) (sym c.number.ensures)
    (made_value declared at known cores e c.in-Value.v c.args.taken.now old (subst (λ w. IsConstancy declared known e w) c.in-Value.is c.in_ok-constancy.ensures))

pub call-returns : goal.call-returns
call-returns t c =
    let declared = declared_of c.args.self.now.names.now in
    let known = map known_of c.args.with.known.now in
    let parameters = map named_of c.function.result.0.now in
    let inner : map known_of c.deref-2.result.now ≡ bound parameters c.in_ok-constancies.constancies.items =
    ap (λ l. map known_of l) c.deref-2.ensures.value ∙ c.in_ok-known.ensures ∙ ap (λ l. bound parameters l) c.deref.ensures.value in
    let ps = map expression_of c.in_ok-cores.cores.items in
    let body = trees.expression_of c.function.result.1.now in
    let q = expression_of c.in_ok-p.p in
    let between = c.all_made.new.taken in
    let after = c.made.new.taken in
    let mid = c.all_made.new.before.items in
    let new = c.made.new.before.items in
    rule_call declared (origin_of c.args.self.now.origin) known (map known_of c.deref-2.result.now) (map expression_of c.args.with.cores.now) ps
    (named_of c.args.name) (expressions_of c.args.arguments.now) parameters body c.args.taken.now between after c.in_ok-constancies.constancies.items q
    c.args.before.now.items mid new
    (ap (λ n. meaning_at declared n) (sym c.place-place.ensures) ∙ c.function.ensures) inner c.in_ok-constancies.ensures c.in_ok-cores.ensures
    (subst (λ l. IsAdded (λ b. IsMade declared (origin_of c.args.self.now.origin) (map known_of c.deref-2.result.now) (map expression_of l) body between b q after) mid new)
    c.deref-3.ensures.value c.in_ok-p.ensures)

pub call-function-requires : goal.call-function-requires
call-function-requires t c =
    let declared = declared_of c.args.self.now.names.now in
    subst (λ n. IsFunction (meaning_at declared n)) (sym c.place-place.ensures) (function_takes _ _ c.requires.function)

pub call-made-requires : goal.call-made-requires
call-made-requires t c =
    let declared = declared_of c.args.self.now.names.now in
    let place = c.place-place.result in
    let parameters = map named_of c.function.result.0.now in
    let inner : map known_of c.deref-2.result.now ≡ bound parameters c.in_ok-constancies.constancies.items =
    ap (λ l. map known_of l) c.deref-2.ensures.value ∙ c.in_ok-known.ensures ∙ ap (λ l. bound parameters l) c.deref.ensures.value in
    let before : place < c.args.below = omega (arith, c.place-place.ensures, c.requires.before) in
    let d = lighter declared place c.args.below (6 * sizes (expressions_of c.args.arguments.now)) _ _ c.function.ensures before in
    let n = length_of_constancies c.in_ok-constancies.ensures in
    let m = count_added declared _ _ _ _ _ _ _ _ _ c.in_ok-cores.ensures in
    let f = few_bound parameters c.in_ok-constancies.constancies.items in
    let l : length c.deref-2.result.now ≡ length (map known_of c.deref-2.result.now) = sym (length-map c.deref-2.result.now known_of) in
    let k : length c.deref-3.result.now ≡ length (map expression_of c.in_ok-cores.cores.items) =
    ap length c.deref-3.ensures.value ∙ sym (length-map c.in_ok-cores.cores.items expression_of) in
    let i = ap length inner in
    let means : meaning_of declared c.args.name.bytes.now ≡ Some (function parameters (trees.expression_of c.function.result.1.now)) =
    ap (λ n. meaning_at declared n) (sym c.place-place.ensures) ∙ c.function.ensures in
    let all : length c.in_ok-constancies.constancies.items ≡ length parameters = n ∙ takes_all _ _ _ _ c.requires.function means in
    let names : names_of (map known_of c.deref-2.result.now) ≡ bytes_of parameters =
    ap names_of inner ∙ names_of-bound parameters c.in_ok-constancies.constancies.items all in
    let well = subst (λ l. IsWell declared l place (trees.expression_of c.function.result.1.now)) (sym names) (c.requires.table place _ _ c.function.ensures) in
    (omega (arith, d), (c.requires.table, (well, omega (arith, n, m, f, l, k, i))))

pub by_rule-returns-in_ok-p-in-And : goal.by_rule-returns-in_ok-p-in-And
by_rule-returns-in_ok-p-in-And t c =
    let declared = declared_of c.args.self.now.names.now in
    let at = origin_of c.args.self.now.origin in
    let known = map known_of c.args.with.known.now in
    let cores = map expression_of c.args.with.cores.now in
    rule_as declared at known cores (trees.expression_of c.args.expression.now)
    (tree.both (trees.expression_of c.deref-in-And.result.now) (trees.expression_of c.deref-in-And-2.result.now))
    c.args.taken.now c.junction.new.taken (expression_of c.in_ok-p-in-And.p) c.args.before.now.items c.junction.new.before.items
    (ap trees.expression_of c.in-And.is ∙ sym (both_same c.deref-in-And.ensures c.deref-in-And-2.ensures)) c.in_ok-p-in-And.ensures

pub by_rule-returns-in_ok-p-in-Or : goal.by_rule-returns-in_ok-p-in-Or
by_rule-returns-in_ok-p-in-Or t c =
    let declared = declared_of c.args.self.now.names.now in
    let at = origin_of c.args.self.now.origin in
    let known = map known_of c.args.with.known.now in
    let cores = map expression_of c.args.with.cores.now in
    rule_as declared at known cores (trees.expression_of c.args.expression.now)
    (tree.either (trees.expression_of c.deref-in-Or.result.now) (trees.expression_of c.deref-in-Or-2.result.now))
    c.args.taken.now c.junction-in-Or.new.taken (expression_of c.in_ok-p-in-Or.p) c.args.before.now.items c.junction-in-Or.new.before.items
    (ap trees.expression_of c.in-Or.is ∙ sym (either_same c.deref-in-Or.ensures c.deref-in-Or-2.ensures)) c.in_ok-p-in-Or.ensures

pub read-returns : goal.read-returns
read-returns t c =
    let declared = declared_of c.args.self.now.names.now in
    let at = origin_of c.args.self.now.origin in
    let known = map known_of c.args.with.known.now in
    let name = named_of c.args.element.name in
    let indices = expressions_of c.args.element.indices.now in
    let item = item_of c.shared_item-item.result.now in
    let ps = map expression_of c.in_ok-cores.cores.items in
    let after = c.all_made.new.taken in
    let w : expression_of c.in_ok-word.word ≡ address item ps =
    c.in_ok-word.ensures ∙ ap (λ l. address item (map expression_of l)) c.deref.ensures.value in
    let cores = map expression_of c.args.with.cores.now in
    subst (λ p. IsAdded (λ b. IsByRule declared at known cores (tree.element name indices c.args.element.last) c.args.taken.now b p c.in_ok-next.next)
    c.args.before.now.items c.push.new.self.items) (sym c.private.ensures)
    (rule_read declared at known cores name indices item c.args.element.last c.args.taken.now after c.in_ok-next.next ps _
    c.args.before.now.items c.all_made.new.before.items c.push.new.self.items c.requires.unknown c.shared_item-item.ensures c.in_ok-next.ensures
    (read_is c.using_item-origin.result c.in_ok-next.next (after + 1) c.args.element.name.at c.args.element.last c.in_ok-word.word
    (using_item at name.bytes indices) (address item ps) c.using_item-origin.ensures c.in_ok-next.ensures w)
    c.in_ok-push.ensures.items c.in_ok-cores.ensures)

pub made-returns-in_ok-p-in_default : goal.made-returns-in_ok-p-in_default
made-returns-in_ok-p-in_default t c =
    made_by_rule (declared_of c.args.self.now.names.now) (origin_of c.args.self.now.origin) (map known_of c.args.with.known.now)
    (map expression_of c.args.with.cores.now) (trees.expression_of c.args.expression.now) c.in_ok-constancy.constancy c.args.taken.now c.by_rule.new.taken
    (expression_of c.in_ok-p-in_default.p) c.args.before.now.items c.by_rule.new.before.items c.in_ok-constancy.ensures
    (none_valued c.in_ok-constancy.constancy c.in_default.not-Value) c.in_ok-p-in_default.ensures

pub junction-returns-then-plain : goal.junction-returns-then-plain
junction-returns-then-plain t c =
    let declared = declared_of c.args.self.now.names.now in
    let at = origin_of c.args.self.now.origin in
    let known = map known_of c.args.with.known.now in
    let cores = map expression_of c.args.with.cores.now in
    let left = trees.expression_of c.args.junction.left.now in
    let right = trees.expression_of c.args.junction.right.now in
    let inside = c.made-2.new.before.items in
    let q = expression_of c.in_ok-q.q in
    let between = c.made.new.taken in
    let safe : is_plain (block_of inside) q ≡ true =
    ap (λ l. is_plain (block_of l) q) (sym c.deref.ensures.value) ∙ sym c.is_plain-plain.ensures ∙ c.if-plain.true in
    rule_once declared at known cores c.args.junction.kind left right c.args.taken.now between c.made-2.new.taken (expression_of c.in_ok-p.p) q
    (expression_of c.in_ok-e.e) inside c.args.before.now.items c.made.new.before.items safe c.in_ok-e.ensures c.in_ok-p.ensures
    (right_as declared at known cores right c.in_ok-number.number between c.made-2.new.taken q _ inside c.in_ok-number.ensures c.new-inside.ensures.items c.in_ok-q.ensures)

pub junction-returns : goal.junction-returns
junction-returns t c =
    let declared = declared_of c.args.self.now.names.now in
    let at = origin_of c.args.self.now.origin in
    let known = map known_of c.args.with.known.now in
    let cores = map expression_of c.args.with.cores.now in
    let kind = c.args.junction.kind in
    let left = trees.expression_of c.args.junction.left.now in
    let right = trees.expression_of c.args.junction.right.now in
    let inside = c.made-2.new.before.items in
    let p = expression_of c.in_ok-p.p in
    let q = expression_of c.in_ok-q.q in
    let between = c.made.new.taken in
    let after = c.made-2.new.taken in
    let old = c.args.before.now.items in
    let mid = c.made.new.before.items in
    let new = c.take.new.before.items in
    let j = joined_by kind left right in
    let may : is_plain (block_of inside) q ≡ false =
    ap (λ l. is_plain (block_of l) q) (sym c.deref.ensures.value) ∙ sym c.is_plain-plain.ensures ∙ c.if-plain.false in
    let l : private_of c.holding-left.result ≡ holding (between + 1) left = c.holding-left.ensures ∙ ap (λ m. holding m left) c.in_ok-number.ensures in
    let w : private_of c.holding_junction-whole.result ≡ holding (between + 1) j =
    c.holding_junction-whole.ensures ∙ ap (λ m. holding m j) c.in_ok-number.ensures in
    subst (λ x. IsAdded (λ b. IsByRule declared at known cores j c.args.taken.now b x after) old new) (sym (c.private.ensures ∙ ap private w))
    (rule_turned declared at known cores kind left right c.args.taken.now between after p q inside old mid new may c.in_ok-p.ensures
    (right_as declared at known cores right c.in_ok-number.number between after q _ inside c.in_ok-number.ensures c.new-inside.ensures.items c.in_ok-q.ensures)
    (turned_as at kind _ _ _ _ p (block_of inside) q mid new l w c.in_ok-take.ensures))

pub by_rule-element-requires : goal.by_rule-element-requires
by_rule-element-requires t c =
    let declared = declared_of c.args.self.now.names.now in
    let parameters = names_of (map known_of c.args.with.known.now) in
    let es = expressions_of c.deref.result.now in
    let e : row_of (hidden-the_row-Expression-0 c.in-Element.indices) ≡ es = row_of_hidden c.in-Element.indices ∙ ap expressions_of (sym c.deref.ensures.value) in
    let well = subst (λ x. IsWell declared parameters c.args.below (trees.expression_of x)) c.in-Element.is c.requires.well in
    let w : AreWell declared parameters c.args.below es = subst (λ l. AreWell declared parameters c.args.below l) e well.1 in
    let m : size (trees.expression_of c.args.expression.now) ≡ 1 + sizes es = ap (λ x. size (trees.expression_of x)) c.in-Element.is ∙ ap (λ l. 1 + sizes l) e in
    (omega (arith, m), (c.requires.table, (well.0, (w, c.requires.whole))))

pub by_rule-call-requires : goal.by_rule-call-requires
by_rule-call-requires t c =
    let declared = declared_of c.args.self.now.names.now in
    let parameters = names_of (map known_of c.args.with.known.now) in
    let es = expressions_of c.deref-in-Call.result.now in
    let e : row_of (hidden-the_row-Expression-0 c.in-Call.arguments) ≡ es = row_of_hidden c.in-Call.arguments ∙ ap expressions_of (sym c.deref-in-Call.ensures.value) in
    let well = subst (λ x. IsWell declared parameters c.args.below (trees.expression_of x)) c.in-Call.is c.requires.well in
    let w : AreWell declared parameters c.args.below es = subst (λ l. AreWell declared parameters c.args.below l) e well.2 in
    let m : size (trees.expression_of c.args.expression.now) ≡ 2 + sizes es = ap (λ x. size (trees.expression_of x)) c.in-Call.is ∙ ap (λ l. 2 + sizes l) e in
    let n : Takes (meaning_of declared c.in-Call.name.bytes.now) (count es) =
    subst (λ l. Takes (meaning_of declared c.in-Call.name.bytes.now) (count l)) e well.1 in
    (omega (arith, m), (c.requires.table, (well.0, (n, (w, c.requires.whole)))))

pub element-kind_of-requires : goal.element-kind_of-requires
element-kind_of-requires t c =
    let name = c.args.element.name.bytes.now in
    let known = map known_of c.args.with.known.now in
    let unknown = no_parameter c.args.with.known.now name c.parameter_place-place.result c.parameter_place-place.ensures c.if-place-with.false in
    subst (λ b. ValueUnless b (meaning_of (declared_of c.args.self.now.names.now) name)) (unknown_is_among_none known name unknown) c.requires.name

pub element-returns-then-place-with : goal.element-returns-then-place-with
element-returns-then-place-with t c =
    rule_parameter (declared_of c.args.self.now.names.now) (origin_of c.args.self.now.origin) c.args.with.known.now c.args.with.cores.now
    (named_of c.args.element.name) (expressions_of c.args.element.indices.now) c.args.element.last c.args.taken.now c.parameter_place-place.result
    (expression_of c.in_ok-p.p) c.args.before.now.items c.parameter_place-place.ensures c.if-place-with.true c.in_ok-p.ensures

pub element-returns-in-Private : goal.element-returns-in-Private
element-returns-in-Private t c =
    let declared = declared_of c.args.self.now.names.now in
    let at = origin_of c.args.self.now.origin in
    let known = map known_of c.args.with.known.now in
    let cores = map expression_of c.args.with.cores.now in
    let e = tree.element (named_of c.args.element.name) (expressions_of c.args.element.indices.now) c.args.element.last in
    let unknown = no_parameter c.args.with.known.now c.args.element.name.bytes.now c.parameter_place-place.result c.parameter_place-place.ensures c.if-place-with.false in
    rule_alone declared at known cores e c.args.taken.now (expression_of c.private_name.result) c.args.before.now.items
    (subst (λ p. IsByRule declared at known cores e c.args.taken.now empty p c.args.taken.now) (sym c.private_name.ensures) (a_private_name unknown c.in-Private.ensures))

pub element-returns-in-Constant : goal.element-returns-in-Constant
element-returns-in-Constant t c =
    let unknown = no_parameter c.args.with.known.now c.args.element.name.bytes.now c.parameter_place-place.result c.parameter_place-place.ensures c.if-place-with.false in
    rule_alone (declared_of c.args.self.now.names.now) (origin_of c.args.self.now.origin) (map known_of c.args.with.known.now) (map expression_of c.args.with.cores.now)
    (tree.element (named_of c.args.element.name) (expressions_of c.args.element.indices.now) c.args.element.last) c.args.taken.now (expression_of c.number.result)
    c.args.before.now.items
    (subst (λ p. IsByRule (declared_of c.args.self.now.names.now) (origin_of c.args.self.now.origin) (map known_of c.args.with.known.now) (map expression_of c.args.with.cores.now)
    (tree.element (named_of c.args.element.name) (expressions_of c.args.element.indices.now) c.args.element.last) c.args.taken.now empty p c.args.taken.now)
    (sym c.number.ensures) (a_constant unknown c.in-Constant.ensures))

pub element-read-requires : goal.element-read-requires
element-read-requires t c =
    let unknown = no_parameter c.args.with.known.now c.args.element.name.bytes.now c.parameter_place-place.result c.parameter_place-place.ensures c.if-place-with.false in
    (omega arith, (c.requires.table, (c.requires.well, (c.requires.whole, (unknown, c.in-Shared.ensures)))))
