-- Which tokens of the text an expression begins and ends with, and which a statement begins with.
use Rattle.std.specs.Prelude.{ℕ}
use Rattle.lrc_named_tree.specs.Tree.{Expression, number, me, nodes, element, call, group, negation, binary, both, either}
use Rattle.lrc_named_tree.specs.Tree.{Statement, assign, acquire, release, with_do, barrier, print, assert, if_else, while_do, for_do}

-- the token with which an expression begins, its parentheses with it
abbrev pub first_of : Expression → ℕ
first_of (number at n) = at
first_of (me at) = at
first_of (nodes at) = at
first_of (element named indices last) = named.at
first_of (call named arguments last) = named.at
first_of (group at e last) = at
first_of (negation at e) = at
first_of (binary left o right) = first_of left
first_of (both left right) = first_of left
first_of (either left right) = first_of left

-- the token with which it ends
abbrev pub last_of : Expression → ℕ
last_of (number at n) = at
last_of (me at) = at
last_of (nodes at) = at
last_of (element named indices last) = last
last_of (call named arguments last) = last
last_of (group at e last) = last
last_of (negation at e) = last_of e
last_of (binary left o right) = last_of right
last_of (both left right) = last_of right
last_of (either left right) = last_of right

-- the token with which a statement begins
abbrev pub first_of_statement : Statement → ℕ
first_of_statement (assign p update value) = p.name.at
first_of_statement (acquire at p) = at
first_of_statement (release at p) = at
first_of_statement (with_do at p inside close) = at
first_of_statement (barrier at) = at
first_of_statement (print at values) = at
first_of_statement (assert at condition) = at
first_of_statement (if_else at condition then others otherwise) = at
first_of_statement (while_do at condition inside) = at
first_of_statement (for_do at name first end inside) = at
