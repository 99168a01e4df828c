-- Statements and expressions of a program that are those of a core.
use Rattle.std.proofs.Common.{◌≡◌, ℕ, Some, List, [], ◌∷◌, ◌++◌, refl, sym, ap, ap₂, ◌∙◌}
use Rattle.std.specs.Prelude.{Option, slice_index}
use Rattle.lrc_program.specs.declared.Expression as code
use Rattle.lrc_program.specs.declared.Expression.{Number, Private, Me, Nodes, Binary'}
use Rattle.lrc_program.specs.declared.Statement.{Statement, Row_of-Statement, end_of-Statement, more_of-Statement}
use Rattle.lrc_program.specs.declared.Statement.TheVariants.{Assign, Read, Write, Acquire, Release, Barrier, Print, If', While'}
use Rattle.lrc_program.specs.Statements as lang
use Rattle.lrc_program.specs.Statements.{expression_of, statement_of, row_of, block_of}
use Rattle.lrc_exec.specs.Meaning.{Thread, Next, quiet, block, chosen, combined, next_of_statement, then_does, value_in, with_value}
use Rattle.lrc_named_core.specs.Tree.{Expression, number, private, me, nodes, binary, Block, empty, next, behind}
use Rattle.lrc_named_acts_laws.specs.Coded.{KeepAll, Numbers, number_of, coded, statement_coded, block_coded}
use Rattle.lrc_named_acts_laws.specs.Standing.{value_at}

pub value_coded : (numbers : Numbers) (t : Thread) (e : code.Expression) (p : Expression) → expression_of e ≡ coded numbers p
    → value_in t e ≡ value_at numbers t p
value_coded numbers t (Number m) (number n) is = let same : m ≡ n = cc in ap Some same
value_coded numbers t (Number m) (private name) is = absurd (cc)
value_coded numbers t (Number m) me is = absurd (cc)
value_coded numbers t (Number m) nodes is = absurd (cc)
value_coded numbers t (Number m) (binary left o right) is = absurd (cc)
value_coded numbers t (Private k) (number n) is = absurd (cc)
value_coded numbers t (Private k) (private name) is = let same : k ≡ number_of numbers name = cc in ap (λ j. Some (slice_index t.privates j)) same
value_coded numbers t (Private k) me is = absurd (cc)
value_coded numbers t (Private k) nodes is = absurd (cc)
value_coded numbers t (Private k) (binary left o right) is = absurd (cc)
value_coded numbers t Me (number n) is = absurd (cc)
value_coded numbers t Me (private name) is = absurd (cc)
value_coded numbers t Me me is = refl
value_coded numbers t Me nodes is = absurd (cc)
value_coded numbers t Me (binary left o right) is = absurd (cc)
value_coded numbers t Nodes (number n) is = absurd (cc)
value_coded numbers t Nodes (private name) is = absurd (cc)
value_coded numbers t Nodes me is = absurd (cc)
value_coded numbers t Nodes nodes is = refl
value_coded numbers t Nodes (binary left o right) is = absurd (cc)
value_coded numbers t (Binary' at x q bt y) (number n) is = absurd (cc)
value_coded numbers t (Binary' at x q bt y) (private name) is = absurd (cc)
value_coded numbers t (Binary' at x q bt y) me is = absurd (cc)
value_coded numbers t (Binary' at x q bt y) nodes is = absurd (cc)
value_coded numbers t (Binary' at x q bt y) (binary left o right) is =
    let first : expression_of x ≡ coded numbers left = cc in
    let second : expression_of y ≡ coded numbers right = cc in
    let same : q ≡ o = cc in
    ap (λ r. combined r (value_in t x) (value_in t y)) same
    ∙ ap₂ (combined o) (value_coded numbers t x left first) (value_coded numbers t y right second)

-- ---- statements by what they are

pub assign_is : (s : Statement) (k : ℕ) (x : lang.Expression) → statement_of s ≡ lang.assign k x
    → (e : code.Expression) × (s ≡ Assign k e) × (expression_of e ≡ x)
assign_is (Assign j e) k x is = let same : j ≡ k = cc in (e, ap (λ i. Assign i e) same, cc)
assign_is (Read j e) k x is = absurd (cc)
assign_is (Write e f) k x is = absurd (cc)
assign_is (Acquire e) k x is = absurd (cc)
assign_is (Release e) k x is = absurd (cc)
assign_is Barrier k x is = absurd (cc)
assign_is (Print e) k x is = absurd (cc)
assign_is (If' e p a q b) k x is = absurd (cc)
assign_is (While' e p a) k x is = absurd (cc)

pub read_is : (s : Statement) (k : ℕ) (x : lang.Expression) → statement_of s ≡ lang.read k x
    → (e : code.Expression) × (s ≡ Read k e) × (expression_of e ≡ x)
read_is (Assign j e) k x is = absurd (cc)
read_is (Read j e) k x is = let same : j ≡ k = cc in (e, ap (λ i. Read i e) same, cc)
read_is (Write e f) k x is = absurd (cc)
read_is (Acquire e) k x is = absurd (cc)
read_is (Release e) k x is = absurd (cc)
read_is Barrier k x is = absurd (cc)
read_is (Print e) k x is = absurd (cc)
read_is (If' e p a q b) k x is = absurd (cc)
read_is (While' e p a) k x is = absurd (cc)

pub write_is : (s : Statement) (x y : lang.Expression) → statement_of s ≡ lang.write x y
    → (e : code.Expression) × (f : code.Expression) × (s ≡ Write e f) × (expression_of e ≡ x)
write_is (Assign j e) x y is = absurd (cc)
write_is (Read j e) x y is = absurd (cc)
write_is (Write e f) x y is = (e, f, refl, cc)
write_is (Acquire e) x y is = absurd (cc)
write_is (Release e) x y is = absurd (cc)
write_is Barrier x y is = absurd (cc)
write_is (Print e) x y is = absurd (cc)
write_is (If' e p a q b) x y is = absurd (cc)
write_is (While' e p a) x y is = absurd (cc)

pub acquire_is : (s : Statement) (x : lang.Expression) → statement_of s ≡ lang.acquire x
    → (e : code.Expression) × (s ≡ Acquire e) × (expression_of e ≡ x)
acquire_is (Assign j e) x is = absurd (cc)
acquire_is (Read j e) x is = absurd (cc)
acquire_is (Write e f) x is = absurd (cc)
acquire_is (Acquire e) x is = (e, refl, cc)
acquire_is (Release e) x is = absurd (cc)
acquire_is Barrier x is = absurd (cc)
acquire_is (Print e) x is = absurd (cc)
acquire_is (If' e p a q b) x is = absurd (cc)
acquire_is (While' e p a) x is = absurd (cc)

pub release_is : (s : Statement) (x : lang.Expression) → statement_of s ≡ lang.release x
    → (e : code.Expression) × (s ≡ Release e) × (expression_of e ≡ x)
release_is (Assign j e) x is = absurd (cc)
release_is (Read j e) x is = absurd (cc)
release_is (Write e f) x is = absurd (cc)
release_is (Acquire e) x is = absurd (cc)
release_is (Release e) x is = (e, refl, cc)
release_is Barrier x is = absurd (cc)
release_is (Print e) x is = absurd (cc)
release_is (If' e p a q b) x is = absurd (cc)
release_is (While' e p a) x is = absurd (cc)

pub row_block : {m : _} (row : Row_of-Statement m) → block_of (block row) ≡ row_of row
row_block end_of-Statement = refl
row_block (more_of-Statement first rest) = ap (lang.next (statement_of first)) (row_block rest)

-- a choice of the code, with the statements of its blocks as lists
pub record IsChoice (s : Statement) (c : lang.Expression) (a b : lang.Block) : Type 0 where
  pub condition : code.Expression
  pub first : List Statement
  pub second : List Statement
  pub asks : expression_of condition ≡ c
  pub on : block_of first ≡ a
  pub off : block_of second ≡ b
  pub does : (t : Thread) (rest : List Statement)
      → next_of_statement t s rest ≡ with_value t condition (λ v. quiet (then_does t (chosen v (first ++ rest) (second ++ rest))))

pub choice_is : (s : Statement) (c : lang.Expression) (x y : lang.Block) → statement_of s ≡ lang.if_else c x y → IsChoice s c x y
choice_is (Assign j e) c x y is = absurd (cc)
choice_is (Read j e) c x y is = absurd (cc)
choice_is (Write e f) c x y is = absurd (cc)
choice_is (Acquire e) c x y is = absurd (cc)
choice_is (Release e) c x y is = absurd (cc)
choice_is Barrier c x y is = absurd (cc)
choice_is (Print e) c x y is = absurd (cc)
choice_is (If' e p a q b) c x y is = record {
  condition = e;
  first = block a;
  second = block b;
  asks = cc;
  on = let same : row_of a ≡ x = cc in row_block a ∙ same;
  off = let same : row_of b ≡ y = cc in row_block b ∙ same;
  does = λ t rest. refl;
}
choice_is (While' e p a) c x y is = absurd (cc)

pub record IsLoop (s : Statement) (c : lang.Expression) (a : lang.Block) : Type 0 where
  pub condition : code.Expression
  pub body : List Statement
  pub asks : expression_of condition ≡ c
  pub inside : block_of body ≡ a
  pub does : (t : Thread) (rest : List Statement)
      → next_of_statement t s rest ≡ with_value t condition (λ v. quiet (then_does t (chosen v (body ++ s ∷ rest) rest)))

pub loop_is : (s : Statement) (c : lang.Expression) (x : lang.Block) → statement_of s ≡ lang.while_do c x → IsLoop s c x
loop_is (Assign j e) c x is = absurd (cc)
loop_is (Read j e) c x is = absurd (cc)
loop_is (Write e f) c x is = absurd (cc)
loop_is (Acquire e) c x is = absurd (cc)
loop_is (Release e) c x is = absurd (cc)
loop_is Barrier c x is = absurd (cc)
loop_is (Print e) c x is = absurd (cc)
loop_is (If' e p a q b) c x is = absurd (cc)
loop_is (While' e p a) c x is = record {
  condition = e;
  body = block a;
  asks = cc;
  inside = let same : row_of a ≡ x = cc in row_block a ∙ same;
  does = λ t rest. refl;
}

-- ---- lists of statements

-- the first of them, and those behind it
pub first_is : (xs : List Statement) (s : lang.Statement) (more : lang.Block) → block_of xs ≡ lang.next s more
    → (x : Statement) × (ys : List Statement) × (xs ≡ x ∷ ys) × (statement_of x ≡ s) × (block_of ys ≡ more)
first_is [] s more is = absurd (cc)
first_is (x ∷ ys) s more is = (x, ys, refl, cc, cc)

pub none_is : (xs : List Statement) → block_of xs ≡ lang.empty → xs ≡ []
none_is [] is = refl
none_is (x ∷ ys) is = absurd (cc)

-- statements one behind the other
abbrev pub joined : lang.Block → lang.Block → lang.Block
joined lang.empty b = b
joined (lang.next s a) b = lang.next s (joined a b)

pub block_joined : (xs ys : List Statement) → block_of (xs ++ ys) ≡ joined (block_of xs) (block_of ys)
block_joined [] ys = refl
block_joined (x ∷ xs) ys = ap (lang.next (statement_of x)) (block_joined xs ys)

pub coded_behind : (numbers : Numbers) (a b : Block) → block_coded numbers (behind a b) ≡ joined (block_coded numbers a) (block_coded numbers b)
coded_behind numbers empty b = refl
coded_behind numbers (next s a) b = ap (lang.next (statement_coded numbers s)) (coded_behind numbers a b)

pub split_joined : (xs : List Statement) (a b : lang.Block) → block_of xs ≡ joined a b
    → (ys : List Statement) × (zs : List Statement) × (xs ≡ ys ++ zs) × (block_of ys ≡ a) × (block_of zs ≡ b)
split_joined xs lang.empty b is = ([], xs, refl, refl, is)
split_joined xs (lang.next s a) b is =
    let (x, rest, xs_is, x_is, rest_is) = first_is xs s (joined a b) is in
    let (ys, zs, rest_parts, ys_is, zs_is) = split_joined rest a b rest_is in
    (x ∷ ys, zs, xs_is ∙ ap (λ l. x ∷ l) rest_parts, ap₂ lang.next x_is ys_is, zs_is)

pub keep_parts : (k : ℕ) (a b : lang.Block) → KeepAll k (joined a b) → KeepAll k a × KeepAll k b
keep_parts k lang.empty b all = (tt, all)
keep_parts k (lang.next s a) b all = let rest = keep_parts k a b all.1 in ((all.0, rest.0), rest.1)
