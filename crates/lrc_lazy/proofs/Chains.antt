-- What the threads of store buffering do.
use Rattle.std.proofs.Common.{◌≡◌, ℕ, zero, suc, List, [], ◌∷◌, refl, sym, subst, ◌∙◌, ap}
use Rattle.std.specs.Prelude.{Some, nat_lt, true, replicate}
use Rattle.lrc_program.specs.declared.Expression.{Expression}
use Rattle.lrc_program.specs.declared.Expression.TheVariants.{Number, Private, Me, Nodes, Binary'}
use Rattle.lrc_program.specs.declared.Operator.TheVariants.{Subtract}
use Rattle.lrc_program.specs.declared.Program.{Program}
use Rattle.lrc_program.specs.declared.Statement.{Statement}
use Rattle.lrc_program.specs.declared.Statement.TheVariants.{Assign, Read, Write, Acquire, Release, Barrier, Print, If', While'}
use Rattle.lrc_program.specs.Tree as tree
use Rattle.lrc_program.specs.Tree.{ProgramTree, program_of, expression_of, statement_of, block_of}
use Rattle.lrc_exec.specs.Meaning.{Setting, Thread, thread_at_start, prints, reads, writes, ends, next_of, value_of, combined, then_does, then_keeps}
use Rattle.lrc_exec.specs.Plain.{start_of}
use Rattle.lrc_lazy.specs.Buffering.{store_buffering}

-- ---- the statements of the tree

record IsFirst (items : List Statement) (first : tree.Statement) (rest : tree.Block) : Type 0 where
  statement : Statement
  more : List Statement
  items_are : items ≡ statement ∷ more
  is : statement_of statement ≡ first
  are : block_of more ≡ rest

first_of : (items : List Statement) (first : tree.Statement) (rest : tree.Block) → block_of items ≡ tree.next first rest → IsFirst items first rest
first_of [] first rest e = cc
first_of (s ∷ more) first rest e = record { statement = s; more = more; items_are = refl; is = cc; are = cc }

none_left : (items : List Statement) → block_of items ≡ tree.empty → items ≡ []
none_left [] e = refl
none_left (s ∷ more) e = cc

record IsWrite (s : Statement) (word value : tree.Expression) : Type 0 where
  at : Expression
  what : Expression
  is : s ≡ Write at what
  at_is : expression_of at ≡ word
  what_is : expression_of what ≡ value

write_of : (s : Statement) (word value : tree.Expression) → statement_of s ≡ tree.write word value → IsWrite s word value
write_of (Write at what) word value e = record { at = at; what = what; is = refl; at_is = cc; what_is = cc }
write_of (Assign k v) word value e = cc
write_of (Read k v) word value e = cc
write_of (Acquire v) word value e = cc
write_of (Release v) word value e = cc
write_of Barrier word value e = cc
write_of (Print v) word value e = cc
write_of (If' v p a q b) word value e = cc
write_of (While' v p a) word value e = cc

record IsRead (s : Statement) (name : ℕ) (word : tree.Expression) : Type 0 where
  at : Expression
  is : s ≡ Read name at
  at_is : expression_of at ≡ word

read_of : (s : Statement) (name : ℕ) (word : tree.Expression) → statement_of s ≡ tree.read name word → IsRead s name word
read_of (Read k at) name word e = let same : k ≡ name = cc in record { at = at; is = ap (λ n. Read n at) same; at_is = cc }
read_of (Assign k v) name word e = cc
read_of (Write v w) name word e = cc
read_of (Acquire v) name word e = cc
read_of (Release v) name word e = cc
read_of Barrier name word e = cc
read_of (Print v) name word e = cc
read_of (If' v p a q b) name word e = cc
read_of (While' v p a) name word e = cc

record IsPrint (s : Statement) (value : tree.Expression) : Type 0 where
  what : Expression
  is : s ≡ Print what
  what_is : expression_of what ≡ value

print_of : (s : Statement) (value : tree.Expression) → statement_of s ≡ tree.print value → IsPrint s value
print_of (Print what) value e = record { what = what; is = refl; what_is = cc }
print_of (Assign k v) value e = cc
print_of (Read k v) value e = cc
print_of (Write v w) value e = cc
print_of (Acquire v) value e = cc
print_of (Release v) value e = cc
print_of Barrier value e = cc
print_of (If' v p a q b) value e = cc
print_of (While' v p a) value e = cc

-- ---- the values of the expressions

value_me : (e : Expression) (node nodes : ℕ) (privates : List ℕ) → expression_of e ≡ tree.me → value_of node nodes privates e ≡ Some node
value_me Me node nodes privates e = refl
value_me (Number n) node nodes privates e = cc
value_me (Private k) node nodes privates e = cc
value_me Nodes node nodes privates e = cc
value_me (Binary' p a o q b) node nodes privates e = cc

value_number : (e : Expression) (n node nodes : ℕ) (privates : List ℕ) → expression_of e ≡ tree.number n → value_of node nodes privates e ≡ Some n
value_number (Number k) n node nodes privates e = let same : k ≡ n = cc in ap (λ x. Some x) same
value_number Me n node nodes privates e = cc
value_number (Private k) n node nodes privates e = cc
value_number Nodes n node nodes privates e = cc
value_number (Binary' p a o q b) n node nodes privates e = cc

value_private : (e : Expression) (node nodes v : ℕ) (privates : List ℕ) → expression_of e ≡ tree.private 0
    → value_of node nodes (v ∷ privates) e ≡ Some v
value_private (Private zero) node nodes v privates e = refl
value_private (Private (suc n)) node nodes v privates e = cc
value_private (Number n) node nodes v privates e = cc
value_private Me node nodes v privates e = cc
value_private Nodes node nodes v privates e = cc
value_private (Binary' p a o q b) node nodes v privates e = cc

value_other : (e : Expression) (node nodes : ℕ) (privates : List ℕ) → expression_of e ≡ tree.binary (tree.number 1) Subtract tree.me
    → value_of node nodes privates e ≡ combined Subtract (Some 1) (Some node)
value_other (Binary' p a o q b) node nodes privates e =
    let operator : o ≡ Subtract = cc in
    let left : expression_of a ≡ tree.number 1 = cc in
    let right : expression_of b ≡ tree.me = cc in
    ap (λ x. combined x (value_of node nodes privates a) (value_of node nodes privates b)) operator
    ∙ ap (λ x. combined Subtract x (value_of node nodes privates b)) (value_number a 1 node nodes privates left)
    ∙ ap (λ x. combined Subtract (Some 1) x) (value_me b node nodes privates right)
value_other (Number n) node nodes privates e = cc
value_other (Private n) node nodes privates e = cc
value_other Me node nodes privates e = cc
value_other Nodes node nodes privates e = cc

-- ---- the thread of a node

-- a thread writes 1 to its node's word, reads the other's, prints the value and ends
pub record Chain (mine its : ℕ) (thread : Thread) : Type 0 where
  pub wrote : Thread
  pub read : ℕ → Thread
  pub printed : ℕ → Thread
  pub writes_own : next_of thread ≡ writes mine 1 wrote
  pub reads_other : next_of wrote ≡ reads its read
  pub prints_it : (v : ℕ) → next_of (read v) ≡ prints v (printed v)
  pub ends_then : (v : ℕ) → next_of (printed v) ≡ ends

-- so does each of two nodes, where the statements are these
module _ (node : ℕ) (below : nat_lt node 2 ≡ true) (its : ℕ) (its_is : combined Subtract (Some 1) (Some node) ≡ Some its) (its_below : nat_lt its 2 ≡ true)
    (locks : ℕ) (w v r p : Expression) (w_is : expression_of w ≡ tree.me) (v_is : expression_of v ≡ tree.number 1)
    (r_is : expression_of r ≡ tree.binary (tree.number 1) Subtract tree.me) (p_is : expression_of p ≡ tree.private 0) where
  abbrev setting : Setting
  setting = record { words = 2; locks = locks; me = node; nodes = 2 }

  abbrev start : Thread
  start = thread_at_start setting (Write w v ∷ Read 0 r ∷ Print p ∷ [])

  abbrev first : Thread
  first = then_does start (Read 0 r ∷ Print p ∷ [])

  abbrev second : ℕ → Thread
  second value = then_keeps first (Print p ∷ []) 0 value

  abbrev third : ℕ → Thread
  third value = then_does (second value) []

  own : next_of start ≡ writes node 1 first
  own = rw (value_me w node 2 start.privates w_is) (rw (value_number v 1 node 2 start.privates v_is) (rw below refl))

  other : next_of first ≡ reads its second
  other = rw (value_other r node 2 first.privates r_is ∙ its_is) (rw its_below refl)

  printing : (value : ℕ) → next_of (second value) ≡ prints value (third value)
  printing value = rw (value_private p node 2 value (replicate 31 0) p_is) refl

  chain_of : Chain node its start
  chain_of = record {
    wrote = first;
    read = second;
    printed = third;
    writes_own = own;
    reads_other = other;
    prints_it = printing;
    ends_then = λ value. refl;
  }

pub chain : (program : Program) → program_of program ≡ store_buffering → (node its : ℕ) → nat_lt node 2 ≡ true
    → combined Subtract (Some 1) (Some node) ≡ Some its → nat_lt its 2 ≡ true → Chain node its (start_of program 2 node)
chain program is node its below its_is its_below =
    let one = first_of program.statements.items _ _ (ap (λ (t : ProgramTree). t.statements) is) in
    let two = first_of one.more _ _ one.are in
    let three = first_of two.more _ _ two.are in
    let w = write_of one.statement _ _ one.is in
    let r = read_of two.statement _ _ two.is in
    let p = print_of three.statement _ three.is in
    let items_are : program.statements.items ≡ Write w.at w.what ∷ Read 0 r.at ∷ Print p.what ∷ [] =
    one.items_are ∙ ap (λ s. s ∷ one.more) w.is
    ∙ ap (λ l. Write w.at w.what ∷ l) (two.items_are ∙ ap (λ s. s ∷ two.more) r.is)
    ∙ ap (λ l. Write w.at w.what ∷ Read 0 r.at ∷ l) (three.items_are ∙ ap (λ s. s ∷ three.more) p.is ∙ ap (λ l. Print p.what ∷ l) (none_left three.more three.are)) in
    let words_are : program.words ≡ 2 = ap (λ (t : ProgramTree). t.words) is in
    subst (λ words. Chain node its (thread_at_start (record { words = words; locks = program.locks; me = node; nodes = 2 }) program.statements.items)) (sym words_are)
    (subst (λ items. Chain node its (thread_at_start (record { words = 2; locks = program.locks; me = node; nodes = 2 }) items)) (sym items_are)
    (chain_of node below its its_is its_below program.locks w.at w.what r.at p.what w.at_is w.what_is r.at_is p.what_is))
