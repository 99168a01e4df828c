-- What a thread does next, after the same deeds, is the same deed, or a read of the same word.
use Rattle.std.proofs.Common.{◌≡◌, ℕ, List, [], ◌∷◌, ◌++◌, inl, inr, refl, sym, subst, ap, ◌∙◌}
use Rattle.std.specs.Prelude.{◌⊎◌, Option, Some, None}
use Rattle.std.proofs.lemmas.Option.{same_Some}
use Rattle.lrc_trace.specs.declared.act.Deed.{Deed}
use Rattle.lrc_trace.specs.declared.act.Deed.TheVariants.{Quiet, Print, Read, Write, Acquire, Release, Arrive, Depart, Trap, End}
use Rattle.lrc_exec.specs.Meaning.{Thread, Next, quiet, prints, reads, writes, acquires, releases, arrives, departs, traps, ends, next_of}
use Rattle.lrc_exec.specs.Follows.{Goes, quietly, printing, reading, writing, acquiring, releasing, arriving, departing, trapping, ending}
use Rattle.lrc_exec.specs.Follows.{Makes}
use Rattle.lrc_consistency_laws.proofs.Runs.{makes_first}

-- the deed that is next, a read with the value 0, and the thread after a deed
abbrev deed_next : Next → Deed
deed_next (quiet t) = Quiet
deed_next (prints v t) = Print v
deed_next (reads w t) = Read w 0
deed_next (writes w v t) = Write w v
deed_next (acquires l t) = Acquire l
deed_next (releases l t) = Release l
deed_next (arrives t) = Arrive
deed_next (departs t) = Depart
deed_next (traps c) = Trap c
deed_next ends = End

abbrev value_read : Deed → ℕ
value_read (Read w v) = v
value_read _ = 0

abbrev thread_next : Next → ℕ → Option Thread
thread_next (quiet t) v = Some t
thread_next (prints x t) v = Some t
thread_next (reads w t) v = Some (t v)
thread_next (writes w x t) v = Some t
thread_next (acquires l t) v = Some t
thread_next (releases l t) v = Some t
thread_next (arrives t) v = Some t
thread_next (departs t) v = Some t
thread_next (traps c) v = None
thread_next ends v = None

-- two deeds are the same, or read one word
abbrev pub IsSameOrRead : Deed → Deed → Type 0
IsSameOrRead d e = (d ≡ e) ⊎ ((w : ℕ) × (u : ℕ) × (v : ℕ) × (d ≡ Read w u) × (e ≡ Read w v))

goes_deed : {n : Next} {d : Deed} {t : Option Thread} → Goes n d t → IsSameOrRead d (deed_next n)
goes_deed quietly = inl refl
goes_deed printing = inl refl
goes_deed (reading {w = w} {v = v}) = inr (w, v, 0, refl, refl)
goes_deed writing = inl refl
goes_deed acquiring = inl refl
goes_deed releasing = inl refl
goes_deed arriving = inl refl
goes_deed departing = inl refl
goes_deed trapping = inl refl
goes_deed ending = inl refl

goes_thread : {n : Next} {d : Deed} {t : Option Thread} → Goes n d t → t ≡ thread_next n (value_read d)
goes_thread quietly = refl
goes_thread printing = refl
goes_thread reading = refl
goes_thread writing = refl
goes_thread acquiring = refl
goes_thread releasing = refl
goes_thread arriving = refl
goes_thread departing = refl
goes_thread trapping = refl
goes_thread ending = refl

alike : (d e x : Deed) → IsSameOrRead d x → IsSameOrRead e x → IsSameOrRead d e
alike d e x (inl p) (inl q) = inl (p ∙ sym q)
alike d e x (inl p) (inr (w, u, v, a, b)) = inr (w, v, u, p ∙ b, a)
alike d e x (inr (w, u, v, a, b)) (inl q) = inr (w, u, v, a, q ∙ b)
alike d e x (inr (w, u, v, a, b)) (inr (w', u', v', a', b')) =
    let same : w' ≡ w = cc in
    inr (w, u, u', a, a' ∙ ap (λ y. Read y u') same)

pub next_deeds : (t : Option Thread) (ds : List Deed) (d e : Deed) (more more' : List Deed) → Makes t (ds ++ d ∷ more) → Makes t (ds ++ e ∷ more')
    → IsSameOrRead d e
next_deeds t [] d e more more' a b =
    let first = makes_first a in
    let second = makes_first b in
    let same : second.thread ≡ first.thread = same_Some second.thread first.thread (sym second.is ∙ first.is) in
    alike d e (deed_next (next_of first.thread)) (goes_deed first.goes)
    (subst (λ s. IsSameOrRead e (deed_next (next_of s))) same (goes_deed second.goes))
next_deeds t (x ∷ ds) d e more more' a b =
    let first = makes_first a in
    let second = makes_first b in
    let same : second.thread ≡ first.thread = same_Some second.thread first.thread (sym second.is ∙ first.is) in
    let after : second.after ≡ first.after = goes_thread second.goes ∙ ap (λ s. thread_next (next_of s) (value_read x)) same ∙ sym (goes_thread first.goes) in
    next_deeds first.after ds d e more more' first.more (subst (λ s. Makes s (ds ++ e ∷ more')) after second.more)
