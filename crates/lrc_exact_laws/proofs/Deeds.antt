-- The deeds of a node and the acquirers of a lock, from one position of a run to the next.
use Rattle.std.proofs.Common.{◌≡◌, ℕ, zero, suc, ◌+◌, ◌-◌, ◌<◌, ◌≤◌, Bool, true, false, cond, List, [], ◌∷◌, ◌++◌, length, take, drop, map}
use Rattle.std.proofs.Common.{refl, sym, ap, ◌∙◌, arith, append_assoc, add-zero}
use Rattle.std.specs.Prelude.{◌==◌, ◌&&◌, filter, count_by}
use Rattle.std.proofs.lemmas.Bool.{eq-eqb, ne_eqb}
use Rattle.std.proofs.lemmas.List.{take_more, take-append-drop, map-append}
use Rattle.std.proofs.lemmas.List.Elements.{filter-append}
use Rattle.std.proofs.lemmas.Option.{get_or_from_slice_get}
use Rattle.lrc_trace.specs.declared.act.Act.{Act}
use Rattle.lrc_trace.specs.declared.act.Deed.{Deed}
use Rattle.lrc_trace.specs.declared.act.Deed.TheVariants.{Acquire}
use Rattle.lrc_trace.specs.Run.{Does, act_of, count_of}
use Rattle.lrc_trace.proofs.Positions.{Does-within}
use Rattle.lrc_exec.specs.Follows.{deeds_of}
use Rattle.lrc_exact_laws.specs.Order.{is_acquire, acquirers}
use Rattle.lrc_exact_laws.proofs.Lists.{one_if, count-cons, count-all, is_number}

-- one position further
pub taken : (run : List Act) (j node : ℕ) (deed : Deed) → Does run j node deed → take (j + 1) run ≡ take j run ++ act_of node deed ∷ []
taken run j node deed h =
    let a = act_of node deed in
    take_more run j a (Does-within h) ∙ ap (λ x. take j run ++ x ∷ []) (get_or_from_slice_get run j a a h.stands)

-- what each act between two positions leaves as it is is the same at both
steady_for : {X : Type 0} (f : List Act → X) (run : List Act) (a n : ℕ) → ((k : ℕ) → a ≤ k → k < a + n → f (take (k + 1) run) ≡ f (take k run))
    → f (take (a + n) run) ≡ f (take a run)
steady_for f run a zero same = ap (λ k. f (take k run)) (add-zero a)
steady_for f run a (suc n) same =
    let step : a + suc n ≡ a + n + 1 = omega arith in
    ap (λ k. f (take k run)) step ∙ same (a + n) (omega arith) (omega arith) ∙ steady_for f run a n (λ k le lt. same k le (omega arith))

pub steady : {X : Type 0} (f : List Act → X) (run : List Act) (a b : ℕ) → a ≤ b → ((k : ℕ) → a ≤ k → k < b → f (take (k + 1) run) ≡ f (take k run))
    → f (take b run) ≡ f (take a run)
steady f run a b le same =
    let long : a + (b - a) ≡ b = omega arith in
    ap (λ k. f (take k run)) (sym long) ∙ steady_for f run a (b - a) (λ k least most. same k least (omega arith))

-- the deeds of a node
pub deeds_of-append : (node : ℕ) (xs ys : List Act) → deeds_of node (xs ++ ys) ≡ deeds_of node xs ++ deeds_of node ys
deeds_of-append node xs ys =
    ap (λ zs. map (λ (a : Act). a.deed) zs) (filter-append (λ (a : Act). a.node == node) xs ys)
    ∙ map-append (λ (a : Act). a.deed) (filter (λ (a : Act). a.node == node) xs) (filter (λ (a : Act). a.node == node) ys)

deeds_of-one : (node : ℕ) (deed : Deed) → deeds_of node (act_of node deed ∷ []) ≡ deed ∷ []
deeds_of-one node deed = ap (λ b. map (λ (a : Act). a.deed) (cond b (act_of node deed ∷ []) [])) (eq-eqb node node refl)

deeds_of-none : (node other : ℕ) (deed : Deed) → (other ≡ node → ⊥) → deeds_of node (act_of other deed ∷ []) ≡ []
deeds_of-none node other deed h = ap (λ b. map (λ (a : Act). a.deed) (cond b (act_of other deed ∷ []) [])) (ne_eqb other node h)

pub deeds_of-here : (run : List Act) (j node : ℕ) (deed : Deed) → Does run j node deed
    → deeds_of node (take (j + 1) run) ≡ deeds_of node (take j run) ++ deed ∷ []
deeds_of-here run j node deed h =
    ap (deeds_of node) (taken run j node deed h) ∙ deeds_of-append node (take j run) (act_of node deed ∷ [])
    ∙ ap (λ xs. deeds_of node (take j run) ++ xs) (deeds_of-one node deed)

pub deeds_of-not_here : (run : List Act) (j node other : ℕ) (deed : Deed) → Does run j other deed → (other ≡ node → ⊥)
    → deeds_of node (take (j + 1) run) ≡ deeds_of node (take j run)
deeds_of-not_here run j node other deed h apart =
    ap (deeds_of node) (taken run j other deed h) ∙ deeds_of-append node (take j run) (act_of other deed ∷ [])
    ∙ ap (λ xs. deeds_of node (take j run) ++ xs) (deeds_of-none node other deed apart) ∙ no_more (deeds_of node (take j run))
  where
    no_more : (xs : List Deed) → xs ++ [] ≡ xs
    no_more [] = refl
    no_more (x ∷ xs) = ap (λ ys. x ∷ ys) (no_more xs)

-- those of the whole run, at a position of the node's
pub deeds_of-split : (run : List Act) (j node : ℕ) (deed : Deed) → Does run j node deed
    → deeds_of node run ≡ deeds_of node (take j run) ++ deed ∷ deeds_of node (drop (j + 1) run)
deeds_of-split run j node deed h =
    ap (deeds_of node) (sym (take-append-drop (j + 1) run))
    ∙ deeds_of-append node (take (j + 1) run) (drop (j + 1) run)
    ∙ ap (λ xs. xs ++ deeds_of node (drop (j + 1) run)) (deeds_of-here run j node deed h)
    ∙ append_assoc (deeds_of node (take j run)) (deed ∷ []) (deeds_of node (drop (j + 1) run))

-- counts of a node's acts are counts of its deeds
pub count_of-deeds : (kind : Deed → Bool) (node : ℕ) (acts : List Act) → count_of kind node acts ≡ count_by kind (deeds_of node acts)
count_of-deeds kind node [] = refl
count_of-deeds kind node (a ∷ acts) =
    let first = count-cons (λ (x : Act). x.node == node && kind x.deed) a acts in
    let rest = count_of-deeds kind node acts in
    let both = go (a.node == node) in
    omega arith
  where
    go : (b : Bool) → one_if (b && kind a.deed) + count_by kind (deeds_of node acts)
        ≡ count_by kind (map (λ (x : Act). x.deed) (cond b (a ∷ filter (λ (x : Act). x.node == node) acts) (filter (λ (x : Act). x.node == node) acts)))
    go true = sym (count-cons kind a.deed (deeds_of node acts))
    go false = omega arith

-- how many acts of the node stand before a position
abbrev pub any_deed : Deed → Bool
any_deed deed = true

abbrev pub acts_before : List Act → ℕ → ℕ → ℕ
acts_before run node j = count_of any_deed node (take j run)

pub acts_before-length : (run : List Act) (node j : ℕ) → acts_before run node j ≡ length (deeds_of node (take j run))
acts_before-length run node j = count_of-deeds any_deed node (take j run) ∙ count-all (deeds_of node (take j run))

-- the acquirers of a lock
pub acquirers-append : (l : ℕ) (xs ys : List Act) → acquirers l (xs ++ ys) ≡ acquirers l xs ++ acquirers l ys
acquirers-append l xs ys =
    ap (λ zs. map (λ (a : Act). a.node) zs) (filter-append (λ (a : Act). is_acquire l a.deed) xs ys)
    ∙ map-append (λ (a : Act). a.node) (filter (λ (a : Act). is_acquire l a.deed) xs) (filter (λ (a : Act). is_acquire l a.deed) ys)

acquirers-one : (l node : ℕ) (deed : Deed) → is_acquire l deed ≡ true → acquirers l (act_of node deed ∷ []) ≡ node ∷ []
acquirers-one l node deed h = ap (λ b. map (λ (a : Act). a.node) (cond b (act_of node deed ∷ []) [])) h

acquirers-none : (l node : ℕ) (deed : Deed) → is_acquire l deed ≡ false → acquirers l (act_of node deed ∷ []) ≡ []
acquirers-none l node deed h = ap (λ b. map (λ (a : Act). a.node) (cond b (act_of node deed ∷ []) [])) h

pub acquirers-here : (run : List Act) (j node l : ℕ) → Does run j node (Acquire l) → acquirers l (take (j + 1) run) ≡ acquirers l (take j run) ++ node ∷ []
acquirers-here run j node l h =
    ap (acquirers l) (taken run j node (Acquire l) h) ∙ acquirers-append l (take j run) (act_of node (Acquire l) ∷ [])
    ∙ ap (λ xs. acquirers l (take j run) ++ xs) (acquirers-one l node (Acquire l) (eq-eqb l l refl))

pub acquirers-not_here : (run : List Act) (j node l : ℕ) (deed : Deed) → Does run j node deed → is_acquire l deed ≡ false
    → acquirers l (take (j + 1) run) ≡ acquirers l (take j run)
acquirers-not_here run j node l deed h not =
    ap (acquirers l) (taken run j node deed h) ∙ acquirers-append l (take j run) (act_of node deed ∷ [])
    ∙ ap (λ xs. acquirers l (take j run) ++ xs) (acquirers-none l node deed not) ∙ no_more (acquirers l (take j run))
  where
    no_more : (xs : List ℕ) → xs ++ [] ≡ xs
    no_more [] = refl
    no_more (x ∷ xs) = ap (λ ys. x ∷ ys) (no_more xs)

pub acquirers-split : (run : List Act) (j node l : ℕ) → Does run j node (Acquire l)
    → acquirers l run ≡ acquirers l (take j run) ++ node ∷ acquirers l (drop (j + 1) run)
acquirers-split run j node l h =
    ap (acquirers l) (sym (take-append-drop (j + 1) run))
    ∙ acquirers-append l (take (j + 1) run) (drop (j + 1) run)
    ∙ ap (λ xs. xs ++ acquirers l (drop (j + 1) run)) (acquirers-here run j node l h)
    ∙ append_assoc (acquirers l (take j run)) (node ∷ []) (acquirers l (drop (j + 1) run))

-- a node is among them as often as it acquires the lock
pub count-acquirers : (l node : ℕ) (acts : List Act) → count_by (is_number node) (acquirers l acts) ≡ count_of (is_acquire l) node acts
count-acquirers l node [] = refl
count-acquirers l node (a ∷ acts) =
    let first = count-cons (λ (x : Act). x.node == node && is_acquire l x.deed) a acts in
    let rest = count-acquirers l node acts in
    let both = go (is_acquire l a.deed) in
    omega arith
  where
    here : (b : Bool) → one_if (b && true) ≡ one_if b
    here true = refl
    here false = refl

    not_here : (b : Bool) → one_if (b && false) ≡ 0
    not_here true = refl
    not_here false = refl

    go : (b : Bool)
        → count_by (is_number node) (map (λ (x : Act). x.node)
        (cond b (a ∷ filter (λ (x : Act). is_acquire l x.deed) acts) (filter (λ (x : Act). is_acquire l x.deed) acts)))
        ≡ one_if (a.node == node && b) + count_by (is_number node) (acquirers l acts)
    go true = let more = count-cons (is_number node) a.node (acquirers l acts) in let same = here (a.node == node) in omega arith
    go false = let same = not_here (a.node == node) in omega arith
