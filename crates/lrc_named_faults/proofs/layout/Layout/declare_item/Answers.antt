-- Words and locks are counted.
use Rattle.std.proofs.Common.{◌≡◌, ◌≤◌, ◌+◌, refl, sym, subst}
use Rattle.lrc_named_tree.specs.View.{place_of}
use Rattle.lrc_named_names.specs.Elements.{elements}
use Rattle.lrc_named_names.specs.View.{declared_of, item_of}
use Rattle.lrc_named_faults.specs.Declarations.{most, used}
use Rattle.lrc_named_faults.specs.Found.{IsItemDeclared, kind_of}
use Rattle.lrc_named_faults.proofs.Placing.{locks_declared, words_declared}
use Rattle.lrc_named_faults.proofs.layout.Layout.declare_item.Goals as goal

pub returns-in_ok-declare-in-Words : goal.returns-in_ok-declare-in-Words
returns-in_ok-declare-in-Words c =
    let table = declared_of c.args.self.now.names in
    let many = elements c.args.item.sizes.items in
    subst (λ k. IsItemDeclared (kind_of k) c.args.self.now (record c.declare.new.self { words = c.declare.new.self.words + c.args.item.count }) (place_of c.args.place.now) c.args.item.sizes.items) (sym c.in-Words.is)
    (words_declared c.args.self.now c.declare.new.self (record c.declare.new.self { words = c.declare.new.self.words + c.args.item.count }) (place_of c.args.place.now) (item_of c.args.item) _ c.args.item.count c.requires.laid_out
    c.in_ok-declare-in-Words.ensures (subst (λ k. c.args.item.first ≡ used (kind_of k) table) c.in-Words.is c.requires.next) c.args.item.counted
    (subst (λ k. used (kind_of k) table + many ≤ most (kind_of k)) c.in-Words.is c.requires.few) refl refl refl refl refl)

pub returns-in_ok-declare-in-Locks : goal.returns-in_ok-declare-in-Locks
returns-in_ok-declare-in-Locks c =
    let table = declared_of c.args.self.now.names in
    let many = elements c.args.item.sizes.items in
    subst (λ k. IsItemDeclared (kind_of k) c.args.self.now (record c.declare-in-Locks.new.self { locks = c.declare-in-Locks.new.self.locks + c.args.item.count }) (place_of c.args.place.now) c.args.item.sizes.items) (sym c.in-Locks.is)
    (locks_declared c.args.self.now c.declare-in-Locks.new.self (record c.declare-in-Locks.new.self { locks = c.declare-in-Locks.new.self.locks + c.args.item.count }) (place_of c.args.place.now) (item_of c.args.item) _ c.args.item.count c.requires.laid_out
    c.in_ok-declare-in-Locks.ensures (subst (λ k. c.args.item.first ≡ used (kind_of k) table) c.in-Locks.is c.requires.next) c.args.item.counted
    (subst (λ k. used (kind_of k) table + many ≤ most (kind_of k)) c.in-Locks.is c.requires.few) refl refl refl refl refl)
