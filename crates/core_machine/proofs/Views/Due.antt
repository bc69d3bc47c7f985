-- the event that a queue finds for a look is the one that the rules of steps name
use Rattle.std.proofs.Common.{◌≡◌, ◌⊎◌, ℕ, zero, suc, ◌<◌, ◌≤◌, Bool, true, false, [], ◌∷◌}
use Rattle.std.proofs.Common.{Option, Some, None, cond, refl, sym, ap, ◌∙◌, subst, arith, inl, inr}
use Rattle.std.proofs.Common.{true≢false}
use Rattle.std.specs.Prelude.{not, nat_le, nat_lt}
use Rattle.std.specs.List.{fold}
use Rattle.std.specs.FinSet.{contains}
use Rattle.std.proofs.lemmas.Bool.{and_from, cases_Bool, cases_lt}
use Rattle.std.proofs.lemmas.Bool.{false_from_ne_true, le-ltb, leb-true, lt-ltb, and_parts}
use Rattle.std.proofs.lemmas.Bool.{le-leb, not-true, not_from_false}
use Rattle.tm_base.specs.CpuSet.{Cpus}
use Rattle.event_queue.specs.declared.event.Event.{Event}
use Rattle.event_queue.specs.EventMap.{EventMap, IsTakenUp, IsFirst, NoneFits, event_at}
use Rattle.walk_rules.specs.Stages.{sooner_event}
use Rattle.step_play.specs.Rules.Live.{due_only, first_due_in, is_due}

module _ (time : ℕ) (tried : Cpus) where
  abbrev more_due : Option Event → Option Event → Option Event
  more_due best slot = sooner_event best (due_only time tried slot)

  none_more : (best : Option Event) → sooner_event best None ≡ best
  none_more None = refl
  none_more (Some b) = refl

  ignored_out : (best : Option Event) (e : Event) → e.ignored ≡ true →
      sooner_event best (Some e) ≡ best
  ignored_out None e out = ap (λ b. cond b None (Some e)) out
  ignored_out (Some b) e out =
      ap (λ v. cond v (Some b) (cond (nat_lt e.expiry b.expiry) (Some e) (Some b))) out

  tested : (e : Event) → IsTakenUp time tried e → is_due time tried e ≡ true
  tested e due =
      and_from (nat_le e.expiry time) (not (contains tried e.cpu.0)) (le-leb e.expiry time due.come)
      (not_from_false (contains tried e.cpu.0)
      (false_from_ne_true (contains tried e.cpu.0) due.untried))

  -- an event that isn't due changes nothing
  passed_over : (best : Option Event) (e : Event) → (IsTakenUp time tried e → ⊥) →
      more_due best (Some e) ≡ best
  passed_over best e apart = elim (cases_Bool (is_due time tried e)) [
    | inr other ↦ ap (λ b. sooner_event best (cond b (Some e) None)) other ∙ none_more best
    | inl passes ↦
        ap (λ b. sooner_event best (cond b (Some e) None)) passes
        ∙ elim (cases_Bool e.ignored) [
          | inl out ↦ ignored_out best e out
          | inr counts ↦
              let parts =
              and_parts (nat_le e.expiry time) (not (contains tried e.cpu.0)) passes in
              absurd (apart (record {
                counts = counts;
                come = leb-true e.expiry time parts.0;
                untried = λ was. true≢false (sym was
                    ∙ not-true (contains tried e.cpu.0) parts.1);
              }))
        ]
  ]

  -- a due event that comes before the first so far takes its place, and one that doesn't leaves it
  abbrev IsBefore : Event → Option Event → Type 0
  IsBefore e None = Unit {0}
  IsBefore e (Some b) = e.expiry < b.expiry

  taken_up : (best : Option Event) (e : Event) → IsTakenUp time tried e → IsBefore e best →
      more_due best (Some e) ≡ Some e
  taken_up best e due before =
      ap (λ b. sooner_event best (cond b (Some e) None)) (tested e due) ∙ by best before
    where
      by : (o : Option Event) → IsBefore e o → sooner_event o (Some e) ≡ Some e
      by None less = ap (λ b. cond b None (Some e)) due.counts
      by (Some b) less =
          ap (λ v. cond v (Some b) (cond (nat_lt e.expiry b.expiry) (Some e) (Some b))) due.counts
          ∙ ap (λ v. cond v (Some e) (Some b)) (lt-ltb e.expiry b.expiry less)

  left_as : (b e : Event) → IsTakenUp time tried e → b.expiry ≤ e.expiry →
      more_due (Some b) (Some e) ≡ Some b
  left_as b e due low =
      ap (λ v. sooner_event (Some b) (cond v (Some e) None)) (tested e due)
      ∙ (ap (λ v. cond v (Some b) (cond (nat_lt e.expiry b.expiry) (Some e) (Some b))) due.counts
      ∙ ap (λ v. cond v (Some e) (Some b)) (le-ltb e.expiry b.expiry low))

  -- of two outcomes
  due_or_not : (e : Event) → (b : Bool) → is_due time tried e ≡ b → (v : Bool) → e.ignored ≡ v →
      IsTakenUp time tried e ⊎ (IsTakenUp time tried e → ⊥)
  due_or_not e false is v ignored = inr (λ due. true≢false (sym (tested e due) ∙ is))
  due_or_not e true is true ignored = inr (λ due. true≢false (sym ignored ∙ due.counts))
  due_or_not e true is false ignored =
      let parts = and_parts (nat_le e.expiry time) (not (contains tried e.cpu.0)) is in
      inl (record {
        counts = ignored;
        come = leb-true e.expiry time parts.0;
        untried = λ was. true≢false (sym was ∙ not-true (contains tried e.cpu.0) parts.1);
      })

  -- ALONG A QUEUE
  abbrev searched : Option Event → EventMap → Option Event
  searched best events = fold more_due best events

  none_due : (events : EventMap) (best : Option Event) → NoneFits (IsTakenUp time tried) events →
      searched best events ≡ best
  none_due [] best none = refl
  none_due (slot ∷ events) best none =
      ap (λ o. searched o events) (here slot (none 0))
      ∙ none_due events best (λ k. none (suc k))
    where
      here : (o : Option Event) → ((e : Event) → o ≡ Some e → IsTakenUp time tried e → ⊥) →
          more_due best o ≡ best
      here None each = none_more best
      here (Some e) each = passed_over best e (each e refl)

  none_sooner : (events : EventMap) (b : Event) →
      ((k : ℕ) (e : Event) → event_at events k ≡ Some e → IsTakenUp time tried e →
      b.expiry ≤ e.expiry) → searched (Some b) events ≡ Some b
  none_sooner [] b later = refl
  none_sooner (slot ∷ events) b later =
      ap (λ o. searched o events) (here slot (later 0))
      ∙ none_sooner events b (λ k. later (suc k))
    where
      here : (o : Option Event) → ((e : Event) → o ≡ Some e → IsTakenUp time tried e →
          b.expiry ≤ e.expiry) → more_due (Some b) o ≡ Some b
      here None each = refl
      here (Some e) each = elim (due_or_not e (is_due time tried e) refl e.ignored refl) [
        | inl due ↦ left_as b e due (each e refl due)
        | inr apart ↦ passed_over (Some b) e apart
      ]

  -- each due event of the queue is later, or stands behind child k
  abbrev Follows : ℕ → Event → EventMap → Type 0
  Follows k e events = (j : ℕ) (f : Event) → event_at events j ≡ Some f → IsTakenUp time tried f →
      (e.expiry < f.expiry) ⊎ ((e.expiry ≤ f.expiry) × (k ≤ j))

  first_is : (events : EventMap) (k : ℕ) (e : Event) (best : Option Event) → IsBefore e best →
      event_at events k ≡ Some e → IsTakenUp time tried e → Follows k e events →
      searched best events ≡ Some e
  first_is [] k e best before there due follows = cc
  first_is (slot ∷ events) zero e best before there due follows =
      ap (λ o. searched o events) (ap (more_due best) there ∙ taken_up best e due before)
      ∙ none_sooner events e (λ j f at fits. elim (follows (suc j) f at fits) [
        | inl less ↦ omega (arith, less)
        | inr low ↦ low.0
      ])
  first_is (slot ∷ events) (suc k) e best before there due follows =
      first_is events k e (more_due best slot) (still slot (follows 0)) there due
      (λ j f at fits. elim (follows (suc j) f at fits) [
        | inl less ↦ inl less
        | inr low ↦ inr (low.0, (let far = low.1 in omega (arith, far)))
      ])
    where
      still : (o : Option Event) → ((f : Event) → o ≡ Some f → IsTakenUp time tried f →
          (e.expiry < f.expiry) ⊎ ((e.expiry ≤ f.expiry) × (suc k ≤ 0))) →
          IsBefore e (more_due best o)
      still None each = subst (IsBefore e) (sym (none_more best)) before
      still (Some f) each = elim (due_or_not f (is_due time tried f) refl f.ignored refl) [
        | inr apart ↦ subst (IsBefore e) (sym (passed_over best f apart)) before
        | inl fits ↦ elim (each f refl fits) [
          | inr low ↦ absurd (let far = low.1 in omega (arith, far))
          | inl less ↦ by best before fits less
        ]
      ]
        where
          by : (o : Option Event) → IsBefore e o → IsTakenUp time tried f → e.expiry < f.expiry →
              IsBefore e (more_due o (Some f))
          by None was fits less =
              subst (IsBefore e) (sym (taken_up None f fits tt)) less
          by (Some b) was fits less = elim (cases_lt f.expiry b.expiry) [
            | inl sooner ↦ subst (IsBefore e) (sym (taken_up (Some b) f fits sooner)) less
            | inr high ↦ subst (IsBefore e) (sym (left_as b f fits high)) was
          ]

  -- WHAT IS FOUND
  pub found_due : (events : EventMap) (k : ℕ) (e : Event) →
      IsFirst (IsTakenUp time tried) events k e → first_due_in time tried events ≡ Some e
  found_due events k e first =
      first_is events k e None tt first.there first.fits follows
    where
      follows : Follows k e events
      follows j f at fits =
          let p = first.first j f at fits in
          elim (cases_lt e.expiry f.expiry) [
            | inl less ↦ inl less
            | inr high ↦
                let low = p.expiry in inr (low, p.child (omega (arith, low, high)))
          ]

  pub found_none : (events : EventMap) → NoneFits (IsTakenUp time tried) events →
      first_due_in time tried events ≡ None
  found_none events none = none_due events None none
