-- for crates above: the first event that is due is the first event, where that is due; and what a
-- walk finds at the top is when the first event comes
use Rattle.std.proofs.Common.{◌≡◌, inl, inr, ℕ, suc, ◌<◌, ◌≤◌, cond, Bool, true, false}
use Rattle.std.proofs.Common.{[], ◌∷◌, Option, Some, None, refl, sym, ap, ◌∙◌, arith, subst}
use Rattle.std.specs.Prelude.{◌&&◌, IfSome, not, nat_le, nat_lt}
use Rattle.std.specs.List.{fold}
use Rattle.std.specs.FinSet.{contains}
use Rattle.std.proofs.lemmas.Bool.{cases_Bool, leb-false, lt-leb, ltb-false, ltb-true}
use Rattle.std.proofs.lemmas.Bool.{lt-ltb}
use Rattle.tm_base.specs.CpuSet.{Cpus}
use Rattle.tm_base.specs.declared.names.TheConstants.{NEVER}
use Rattle.event_queue.specs.declared.event.Event.{Event}
use Rattle.event_queue.specs.EventMap.{Counts, EventMap, event_at}
use Rattle.walk_rules.specs.Stages.{first_of, sooner_event}
use Rattle.step_play.specs.Rules.Live.{due_only, expiry_of, is_due}

-- THE LOOK
module _ (time : ℕ) (tried : Cpus) where
  -- an event whose CPU wasn't tried, or that is still to come
  abbrev pub Fresh : Event → Type 0
  Fresh e = contains tried e.cpu.0 ≡ true → time < e.expiry

  abbrev pub come : Event → Option Event
  come e = cond (nat_le e.expiry time) (Some e) None

  pub due_is : (e : Event) → Fresh e → due_only time tried (Some e) ≡ come e
  due_is e fresh = elim (cases_Bool (contains tried e.cpu.0)) [
    | inl is ↦
        ap (λ b. cond (nat_le e.expiry time && not b) (Some e) None) is
        ∙ (by_order (nat_le e.expiry time)
        ∙ ap (λ b. cond b (Some e) None) (sym (lt-leb e.expiry time (fresh is))))
    | inr untried ↦
        ap (λ b. cond (nat_le e.expiry time && not b) (Some e) None) untried
        ∙ as_it_is (nat_le e.expiry time)
  ]
    where
      by_order : (b : Bool) → cond (b && false) (Some e) None ≡ None
      by_order true = refl
      by_order false = refl

      as_it_is : (b : Bool) → cond (b && true) (Some e) None ≡ cond b (Some e) None
      as_it_is true = refl
      as_it_is false = refl

  -- an ignored event changes nothing
  ignored_out : (o : Option Event) (e : Event) → e.ignored ≡ true → sooner_event o (Some e) ≡ o
  ignored_out None e out = ap (λ b. cond b None (Some e)) out
  ignored_out (Some b) e out =
      ap (λ v. cond v (Some b) (cond (nat_lt e.expiry b.expiry) (Some e) (Some b))) out

  dropped : (o : Option Event) (e : Event) → e.ignored ≡ true →
      sooner_event o (due_only time tried (Some e)) ≡ o
  dropped o e out = elim (cases_Bool (is_due time tried e)) [
    | inl due ↦ ap (λ b. sooner_event o (cond b (Some e) None)) due ∙ ignored_out o e out
    | inr other ↦ ap (λ b. sooner_event o (cond b (Some e) None)) other ∙ none_more o
  ]
    where
      none_more : (m : Option Event) → sooner_event m None ≡ m
      none_more None = refl
      none_more (Some b) = refl

  none_before : (e : Event) → Counts e → sooner_event None (Some e) ≡ Some e
  none_before e counts = ap (λ b. cond b None (Some e)) counts

  which : (b e : Event) → Counts e →
      sooner_event (Some b) (Some e) ≡ cond (nat_lt e.expiry b.expiry) (Some e) (Some b)
  which b e counts =
      ap (λ v. cond v (Some b) (cond (nat_lt e.expiry b.expiry) (Some e) (Some b))) counts

  two : (b e : Event) → Counts e → Fresh b → Fresh e →
      sooner_event (come b) (come e) ≡ due_only time tried (sooner_event (Some b) (Some e))
  two b e counts fresh_b fresh_e =
      elim (cases_Bool (nat_lt e.expiry b.expiry)) [
        | inl less ↦
            let early : e.expiry < b.expiry = ltb-true e.expiry b.expiry less in
            let goal : due_only time tried (sooner_event (Some b) (Some e)) ≡ come e =
            ap (due_only time tried) (which b e counts
            ∙ ap (λ v. cond v (Some e) (Some b)) less) ∙ due_is e fresh_e in
            elim (cases_Bool (nat_le e.expiry time)) [
              | inl due ↦
                  ap (λ v. sooner_event (come b) (cond v (Some e) None)) due
                  ∙ (sooner early (nat_le b.expiry time)
                  ∙ (sym (ap (λ v. cond v (Some e) None) due) ∙ sym goal))
              | inr late ↦
                  let far = leb-false e.expiry time late in
                  ap (λ v. sooner_event (come b) (cond v (Some e) None)) late
                  ∙ (ap (λ v. sooner_event (cond v (Some b) None) None)
                  (lt-leb b.expiry time (omega arith))
                  ∙ (sym (ap (λ v. cond v (Some e) None) late) ∙ sym goal))
            ]
        | inr more ↦
            let early : b.expiry ≤ e.expiry = ltb-false e.expiry b.expiry more in
            let goal : due_only time tried (sooner_event (Some b) (Some e)) ≡ come b =
            ap (due_only time tried) (which b e counts
            ∙ ap (λ v. cond v (Some e) (Some b)) more) ∙ due_is b fresh_b in
            elim (cases_Bool (nat_le b.expiry time)) [
              | inl due ↦
                  ap (λ v. sooner_event (cond v (Some b) None) (come e)) due
                  ∙ (stays more (nat_le e.expiry time)
                  ∙ (sym (ap (λ v. cond v (Some b) None) due) ∙ sym goal))
              | inr late ↦
                  let far = leb-false b.expiry time late in
                  ap (λ v. sooner_event (cond v (Some b) None) (come e)) late
                  ∙ (ap (λ v. sooner_event None (cond v (Some e) None))
                  (lt-leb e.expiry time (omega arith))
                  ∙ (sym (ap (λ v. cond v (Some b) None) late) ∙ sym goal))
            ]
      ]
    where
      sooner : e.expiry < b.expiry → (v : Bool) →
          sooner_event (cond v (Some b) None) (Some e) ≡ Some e
      sooner early true =
          which b e counts ∙ ap (λ v. cond v (Some e) (Some b)) (lt-ltb e.expiry b.expiry early)
      sooner early false = none_before e counts

      stays : nat_lt e.expiry b.expiry ≡ false → (v : Bool) →
          sooner_event (Some b) (cond v (Some e) None) ≡ Some b
      stays more true = which b e counts ∙ ap (λ v. cond v (Some e) (Some b)) more
      stays more false = refl

  one : (e : Event) → Counts e → Fresh e →
      sooner_event None (come e) ≡ due_only time tried (sooner_event None (Some e))
  one e counts fresh =
      at (nat_le e.expiry time)
      ∙ (sym (due_is e fresh) ∙ ap (due_only time tried) (sym (none_before e counts)))
    where
      at : (v : Bool) → sooner_event None (cond v (Some e) None) ≡ cond v (Some e) None
      at true = none_before e counts
      at false = refl

  step : (best slot : Option Event) → IfSome best Fresh → IfSome slot (λ e. Counts e → Fresh e) →
      sooner_event (due_only time tried best) (due_only time tried slot)
      ≡ due_only time tried (sooner_event best slot)
  step None None was is = refl
  step (Some b) None was is = none_more (due_only time tried (Some b))
    where
      none_more : (m : Option Event) → sooner_event m None ≡ m
      none_more None = refl
      none_more (Some b) = refl
  step None (Some e) was is = elim (cases_Bool e.ignored) [
    | inl out ↦
        dropped None e out ∙ ap (due_only time tried) (sym (ignored_out None e out))
    | inr counts ↦
        ap (sooner_event None) (due_is e (is counts)) ∙ one e counts (is counts)
  ]
  step (Some b) (Some e) was is = elim (cases_Bool e.ignored) [
    | inl out ↦
        dropped (due_only time tried (Some b)) e out
        ∙ ap (due_only time tried) (sym (ignored_out (Some b) e out))
    | inr counts ↦
        (λ i. sooner_event (due_is b was i) (due_is e (is counts) i))
        ∙ two b e counts was (is counts)
  ]

  next_fresh : (best slot : Option Event) → IfSome best Fresh →
      IfSome slot (λ e. Counts e → Fresh e) → IfSome (sooner_event best slot) Fresh
  next_fresh None None was is = tt
  next_fresh (Some b) None was is = was
  next_fresh None (Some e) was is = elim (cases_Bool e.ignored) [
    | inl out ↦ subst (λ o. IfSome o Fresh) (sym (ignored_out None e out)) tt
    | inr counts ↦ subst (λ o. IfSome o Fresh) (sym (none_before e counts)) (is counts)
  ]
  next_fresh (Some b) (Some e) was is = elim (cases_Bool e.ignored) [
    | inl out ↦ subst (λ o. IfSome o Fresh) (sym (ignored_out (Some b) e out)) was
    | inr counts ↦
        subst (λ o. IfSome o Fresh) (sym (which b e counts))
        (by (nat_lt e.expiry b.expiry) (is counts))
  ]
    where
      by : (v : Bool) → Fresh e → IfSome (cond v (Some e) (Some b)) Fresh
      by true fresh = fresh
      by false fresh = was

  pub first_due : (best : Option Event) (events : EventMap) → IfSome best Fresh →
      ((k : ℕ) → IfSome (event_at events k) (λ e. Counts e → Fresh e)) →
      fold (λ sofar slot. sooner_event sofar (due_only time tried slot)) (due_only time tried best)
      events ≡ due_only time tried (fold sooner_event best events)
  first_due best [] was each = refl
  first_due best (slot ∷ events) was each =
      ap (λ o. fold (λ sofar slot. sooner_event sofar (due_only time tried slot)) o events)
      (step best slot was (each 0))
      ∙ first_due (sooner_event best slot) events (next_fresh best slot was (each 0))
      (λ k. each (suc k))

-- AT THE TOP
found_step : (best slot : Option Event) →
    IfSome slot (λ e. Counts e → e.expiry < NEVER) →
    first_of (expiry_of best) slot ≡ expiry_of (sooner_event best slot)
found_step None None comes = refl
found_step (Some b) None comes = refl
found_step None (Some e) comes = elim (cases_Bool e.ignored) [
  | inl out ↦
      ap (λ v. cond v NEVER (cond (nat_lt e.expiry NEVER) e.expiry NEVER)) out
      ∙ sym (ap (λ v. expiry_of (cond v None (Some e))) out)
  | inr counts ↦
      ap (λ v. cond v NEVER (cond (nat_lt e.expiry NEVER) e.expiry NEVER)) counts
      ∙ (ap (λ v. cond v e.expiry NEVER) (lt-ltb e.expiry NEVER (comes counts))
      ∙ sym (ap (λ v. expiry_of (cond v None (Some e))) counts))
]
found_step (Some b) (Some e) comes =
    by e.ignored (nat_lt e.expiry b.expiry)
  where
    by : (out less : Bool) →
        cond out b.expiry (cond less e.expiry b.expiry)
        ≡ expiry_of (cond out (Some b) (cond less (Some e) (Some b)))
    by true less = refl
    by false true = refl
    by false false = refl

-- what the walk finds, slot by slot
pub found_first : (best : Option Event) (events : EventMap) →
    ((k : ℕ) → IfSome (event_at events k) (λ e. Counts e → e.expiry < NEVER)) →
    fold first_of (expiry_of best) events ≡ expiry_of (fold sooner_event best events)
found_first best [] comes = refl
found_first best (slot ∷ events) comes =
    ap (λ n. fold first_of n events) (found_step best slot (comes 0))
    ∙ found_first (sooner_event best slot) events (λ k. comes (suc k))
