use Rattle.std.proofs.Common.{◌≡◌, ℕ, ◌+◌, ◌<◌, Bool, true, false, List, ◌∷◌, ◌++◌, [], length, get_or, map, take, sym, ◌∙◌, ap}
use Rattle.std.specs.Prelude.{filter, not, if◌then◌else◌}
use Rattle.std.proofs.lemmas.List.{map-append, take_all, take_more, append-nil}
use Rattle.std.proofs.lemmas.List.Elements.{filter-append}
use Rattle.std.proofs.lemmas.Result.{IfOk-from_err}
use Rattle.lrc_protocol.specs.Pages.{is_readable, Need, need_of, copy_at}
use Rattle.lrc_node.proofs.collections.begin.unread_needs.Goals as goal
use Rattle.lrc_node.proofs.collections.begin.unread_needs.Goals.{then-not-is_readable+in_ok-need+in_ok-push, else-not-is_readable}

-- one page more
one_of : (p : ℕ → Bool) (f : ℕ → Need) (x : ℕ) (b : Bool) → p x ≡ b → map f (filter p (x ∷ [])) ≡ (if b then (f x ∷ []) else [])
one_of p f x true e = ap (λ b. map f (if b then (x ∷ []) else [])) e
one_of p f x false e = ap (λ b. map f (if b then (x ∷ []) else [])) e

one_more : (p : ℕ → Bool) (f : ℕ → Need) (pages : List ℕ) (i : ℕ) → i < length pages
    → map f (filter p (take (i + 1) pages)) ≡ map f (filter p (take i pages)) ++ map f (filter p (get_or pages i 0 ∷ []))
one_more p f pages i lt =
    ap (λ xs. map f (filter p xs)) (take_more pages i 0 lt)
    ∙ ap (map f) (filter-append p (take i pages) (get_or pages i 0 ∷ []))
    ∙ map-append f (filter p (take i pages)) (filter p (get_or pages i 0 ∷ []))

pub loop-page-init : goal.loop-page-init
loop-page-init c = record { so_far = c.new-needs.ensures.items }

pub is_readable-requires : goal.is_readable-requires
is_readable-requires c = c.requires c.loop-page.page-index 0 c.loop-page-test.true

pub need-requires : goal.need-requires
need-requires c = c.requires c.loop-page.page-index 0 c.loop-page-test.true

pub returns-in_err-need : goal.returns-in_err-need
returns-in_err-need c = IfOk-from_err _ _ c.from_residual.ensures.0

pub returns-in_err-push : goal.returns-in_err-push
returns-in_err-push c = IfOk-from_err _ _ c.from_residual-in_err-push.ensures.0

pub loop-page-preserved : goal.loop-page-preserved
loop-page-preserved c =
    let memory = c.args.memory.now.memory in
    let pages = c.args.pages.now in
    let i = c.loop-page.page-index in
    let page = get_or pages i 0 in
    let unread : ℕ → Bool = λ page. not (is_readable (copy_at memory page)) in
    let needed : ℕ → Need = need_of (length memory.store.last) memory in
    let more = one_more unread needed pages i c.loop-page-test.true in
    let before : List Need = map needed (filter unread (take i pages)) in
    let so_far : c.loop-page.needs.items ≡ before = c.loop-page.invariant.so_far in
    record {
      so_far = elim c.if-not-is_readable.branch [
        | then-not-is_readable+in_ok-need+in_ok-push w ↦
            ap (λ v. v.items) w.needs-is ∙ w.in_ok-push.ensures.items
            ∙ ap (λ xs. xs ++ (w.in_ok-need.field-0 ∷ [])) so_far
            ∙ ap (λ n. before ++ (n ∷ [])) w.in_ok-need.ensures.need
            ∙ ap (λ xs. before ++ xs) (sym (one_of unread needed page true (ap not (sym c.is_readable.ensures ∙ w.if-not-is_readable.true))))
            ∙ sym more
        | else-not-is_readable w ↦
            ap (λ v. v.items) w.needs-is ∙ so_far ∙ sym (append-nil before)
            ∙ ap (λ xs. before ++ xs) (sym (one_of unread needed page false (ap not (sym c.is_readable.ensures ∙ w.if-not-is_readable.false))))
            ∙ sym more
      ];
    }

pub returns : goal.returns
returns c =
    let memory = c.args.memory.now.memory in
    c.loop-page.invariant.so_far
    ∙ ap (λ pages. map (need_of (length memory.store.last) memory) (filter (λ page. not (is_readable (copy_at memory page))) pages))
    (take_all _ _ c.loop-page-test.false)
