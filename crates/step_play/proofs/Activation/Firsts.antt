-- for crates above: the first live event of a queue, slot by slot
use Rattle.std.proofs.Common.{◌≡◌, inl, inr, ℕ, suc, ◌+◌, ◌<◌, ◌≤◌, cond, nat_lt}
use Rattle.std.proofs.Common.{Bool, true, false, true≢false, [], ◌∷◌, length}
use Rattle.std.proofs.Common.{Option, Some, None, refl, sym, ap, ◌∙◌, subst, arith}
use Rattle.std.specs.List.{fold}
use Rattle.std.proofs.lemmas.Bool.{cases_eq, cases_lt, ltb-true, ltb-false}
use Rattle.std.proofs.lemmas.List.{get_or_past}
use Rattle.std.proofs.lemmas.Option.{none-some, same_Some}
use Rattle.event_queue.specs.declared.event.Event.{Event}
use Rattle.event_queue.specs.EventMap.{Counts, EventMap, IsFirst, NoneFits, Precedes, event_at}
use Rattle.walk_rules.specs.Stages.{best_event, sooner_event}
use Rattle.step_play.specs.Rules.Live.{counting, first_in}

counted_as : (f e : Event) (b : Bool) → f.ignored ≡ b → cond b None (Some f) ≡ Some e →
    (Some f ≡ Some e) × Counts e
counted_as f e true is at = absurd (none-some e at)
counted_as f e false is at = (at, ap (λ (z : Event). z.ignored) (sym (same_Some _ _ at)) ∙ is)

-- what is live is there, and isn't ignored
pub counted : (m : Option Event) (e : Event) → counting m ≡ Some e → (m ≡ Some e) × Counts e
counted None e is = absurd (none-some e is)
counted (Some f) e is = counted_as f e f.ignored refl is

pub counts : (m : Option Event) (e : Event) → m ≡ Some e → Counts e → counting m ≡ Some e
counts m e is live = ap counting is ∙ ap (λ b. cond b None (Some e)) live

-- an event, of child k, is first of those of the children below n that count
pub record Leads (es : EventMap) (n k : ℕ) (e : Event) : Type 0 where
  pub low : k < n
  pub there : event_at es k ≡ Some e
  pub live : Counts e
  pub first : (j : ℕ) (f : Event) → j < n → event_at es j ≡ Some f → Counts f → Precedes k e j f

-- the first of those of the children below n, or there is none
abbrev pub SoFar : EventMap → (n : ℕ) → Option Event → Type 0
SoFar es n None = (j : ℕ) (f : Event) → j < n → event_at es j ≡ Some f → Counts f → ⊥
SoFar es n (Some e) = (k : ℕ) × Leads es n k e

-- one slot more
module _ (es : EventMap) (n : ℕ) where
  none_more : (m : Option Event) → SoFar es n None → event_at es n ≡ m →
      ((e : Event) → m ≡ Some e → Counts e → ⊥) → SoFar es (suc n) None
  none_more m h is dead j f low there live = elim (cases_eq j n) [
    | inl same ↦ dead f (sym is ∙ (ap (event_at es) (sym same) ∙ there)) live
    | inr ne ↦ h j f (omega (arith, ne)) there live
  ]

  still : (b : Event) (m : Option Event) → SoFar es n (Some b) → event_at es n ≡ m →
      ((f : Event) → m ≡ Some f → Counts f → b.expiry ≤ f.expiry) → SoFar es (suc n) (Some b)
  still b m (k, h) is later = (
    k,
    record {
      low = (let l = h.low in omega arith);
      there = h.there;
      live = h.live;
      first = λ j f low there live. elim (cases_eq j n) [
        | inl same ↦
            let late = later f (sym is ∙ (ap (event_at es) (sym same) ∙ there)) live in
            record { expiry = late; child = λ e. (let l = h.low in omega arith) }
        | inr ne ↦ h.first j f (omega (arith, ne)) there live
      ];
    },
  )

  now_first : (e : Event) → event_at es n ≡ Some e → Counts e →
      ((j : ℕ) (f : Event) → j < n → event_at es j ≡ Some f → Counts f → e.expiry < f.expiry) →
      SoFar es (suc n) (Some e)
  now_first e is live sooner = (
    n,
    record {
      low = omega arith;
      there = is;
      live = live;
      first = λ j f low there counts. elim (cases_eq j n) [
        | inl same ↦
            let one : e ≡ f = same_Some _ _ (sym is ∙ (ap (event_at es) (sym same) ∙ there)) in
            record {
              expiry = (let p = ap (λ (z : Event). z.expiry) one in omega arith);
              child = λ q. omega (arith, same);
            }
        | inr ne ↦
            let less = sooner j f (omega (arith, ne)) there counts in
            record { expiry = omega arith; child = λ q. absurd (omega (arith, less, q)) }
      ];
    },
  )

  ignored_dead : (e f : Event) → e.ignored ≡ true → Some e ≡ Some f → Counts f → ⊥
  ignored_dead e f is same live = true≢false (sym is ∙ (ap (λ (z : Event). z.ignored)
      (same_Some _ _ same) ∙ live))

  more_none : (e : Event) (ignored : Bool) → e.ignored ≡ ignored → SoFar es n None →
      event_at es n ≡ Some e → SoFar es (suc n) (cond ignored None (Some e))
  more_none e true is h at = none_more (Some e) h at (λ f same live. ignored_dead e f is same live)
  more_none e false is h at =
      now_first e at is (λ j f low there live. absurd (h j f low there live))

  more_some : (b e : Event) (ignored sooner : Bool) → e.ignored ≡ ignored →
      nat_lt e.expiry b.expiry ≡ sooner → SoFar es n (Some b) → event_at es n ≡ Some e →
      SoFar es (suc n) (cond ignored (Some b) (cond sooner (Some e) (Some b)))
  more_some b e true sooner is less h at =
      still b (Some e) h at (λ f same live. absurd (ignored_dead e f is same live))
  more_some b e false true is less h at =
      now_first e at is (λ j f low there live. (
      let soon = ltb-true e.expiry b.expiry less in
      let p = (h.1.first j f low there live).expiry in
      omega arith))
  more_some b e false false is less h at =
      still b (Some e) h at (λ f same live. (
      let late = ltb-false e.expiry b.expiry less in
      let p = ap (λ (z : Event). z.expiry) (same_Some _ _ same) in
      omega arith))

  pub one_more : (best m : Option Event) → SoFar es n best → event_at es n ≡ m →
      SoFar es (suc n) (sooner_event best m)
  one_more None None h at = none_more None h at (λ f same live. none-some f same)
  one_more (Some b) None h at = still b None h at (λ f same live. absurd (none-some f same))
  one_more None (Some e) h at = more_none e e.ignored refl h at
  one_more (Some b) (Some e) h at =
      more_some b e e.ignored (nat_lt e.expiry b.expiry) refl refl h at

all_more : (es xs : EventMap) (n : ℕ) (best : Option Event) →
    ((j : ℕ) → event_at es (n + j) ≡ event_at xs j) → SoFar es n best →
    SoFar es (n + length xs) (fold sooner_event best xs)
all_more es [] n best same h = let e : n ≡ n + 0 = omega arith in
    subst (λ m. SoFar es m best) e h
all_more es (x ∷ xs) n best same h =
    let here : n + 0 ≡ n = omega arith in
    let e : suc n + length xs ≡ n + suc (length xs) = omega arith in
    subst (λ m. SoFar es m (fold sooner_event (sooner_event best x) xs)) e
    (all_more es xs (suc n) (sooner_event best x)
    (λ j. (let on : suc n + j ≡ n + suc j = omega arith in ap (event_at es) on ∙ same (suc j)))
    (one_more es n best x h (ap (event_at es) (sym here) ∙ same 0)))

-- the first of a queue is first of all its slots
whole : (es : EventMap) → SoFar es (length es) (first_in es)
whole es =
    let e : 0 + length es ≡ length es = omega arith in
    subst (λ m. SoFar es m (first_in es)) e
    (all_more es es 0 None (λ j. (let on : 0 + j ≡ j = omega arith in ap (event_at es) on))
    (λ j f low there live. absurd (omega arith)))

within : (es : EventMap) (j : ℕ) (f : Event) → event_at es j ≡ Some f → j < length es
within es j f there = elim (cases_lt j (length es)) [
  | inl low ↦ low
  | inr high ↦ absurd (none-some f (sym (get_or_past es j None (omega arith)) ∙ there))
]

first_as : (es : EventMap) (m : Option Event) (e : Event) → SoFar es (length es) m → m ≡ Some e →
    (k : ℕ) × IsFirst Counts es k e
first_as es None e h is = absurd (none-some e is)
first_as es (Some f) e (k, h) is = subst (λ z. (i : ℕ) × IsFirst Counts es i z) (same_Some _ _ is) (
  k,
  record {
    there = h.there;
    fits = h.live;
    first = λ j g there live. h.first j g (within es j g there) there live;
  },
)

none_as : (es : EventMap) (m : Option Event) → SoFar es (length es) m → m ≡ None →
    NoneFits Counts es
none_as es None h is = λ k e there live. h k e (within es k e there) there live
none_as es (Some f) h is = absurd (none-some f (sym is))

-- THE FIRST is first, and there is none exactly where no event counts
pub first_is : (es : EventMap) (e : Event) → first_in es ≡ Some e → (k : ℕ) × IsFirst Counts es k e
first_is es e is = first_as es (first_in es) e (whole es) is

pub none_is : (es : EventMap) → first_in es ≡ None → NoneFits Counts es
none_is es is = none_as es (first_in es) (whole es) is

one_first : (es : EventMap) (k : ℕ) (e : Event) (m : Option Event) → IsFirst Counts es k e →
    first_in es ≡ m → m ≡ Some e
one_first es k e None h is = absurd (none_is es is k e h.there h.fits)
one_first es k e (Some f) h is =
    let (i, g) = first_is es f is in
    let a = h.first i f g.there g.fits in
    let b = g.first k e h.there h.fits in
    let time : e.expiry ≡ f.expiry = (let p = a.expiry in let q = b.expiry in omega arith) in
    let low = a.child time in
    let high = b.child (sym time) in
    let child : i ≡ k = omega arith in
    sym g.there ∙ (ap (event_at es) child ∙ h.there)

pub is_first : (es : EventMap) (k : ℕ) (e : Event) → IsFirst Counts es k e → first_in es ≡ Some e
is_first es k e h = one_first es k e (first_in es) h refl

no_first : (es : EventMap) (m : Option Event) → NoneFits Counts es → first_in es ≡ m → m ≡ None
no_first es None h is = refl
no_first es (Some e) h is = let (k, f) = first_is es e is in absurd (h k e f.there f.fits)

pub is_none_first : (es : EventMap) → NoneFits Counts es → first_in es ≡ None
is_none_first es h = no_first es (first_in es) h refl

-- queues in which the same is live at each slot have the same first
module _ (es fs : EventMap) (same : (k : ℕ) → counting (event_at es k) ≡ counting (event_at fs k))
  where
    across : (k : ℕ) (e : Event) → event_at es k ≡ Some e → Counts e → event_at fs k ≡ Some e
    across k e there live = (counted (event_at fs k) e
        (sym (same k) ∙ counts (event_at es k) e there live)).0

    back : (k : ℕ) (e : Event) → event_at fs k ≡ Some e → Counts e → event_at es k ≡ Some e
    back k e there live = (counted (event_at es k) e
        (same k ∙ counts (event_at fs k) e there live)).0

    by_first : (m : Option Event) → first_in es ≡ m → m ≡ first_in fs
    by_first None is = sym (is_none_first fs (λ k e there live.
        none_is es is k e (back k e there live) live))
    by_first (Some e) is =
        let (k, h) = first_is es e is in
        sym (is_first fs k e (record {
          there = across k e h.there h.fits;
          fits = h.fits;
          first = λ j f there live. h.first j f (back j f there live) live;
        }))

    pub same_first : first_in es ≡ first_in fs
    same_first = by_first (first_in es) refl

-- the first counts, and is stored as it is
live_best : (m : Option Event) → ((e : Event) → m ≡ Some e → Counts e) → best_event m ≡ m
live_best None h = refl
live_best (Some e) h = λ i. Some (record e { ignored = sym (h e refl) i })

live_count : (m : Option Event) → ((e : Event) → m ≡ Some e → Counts e) → counting m ≡ m
live_count None h = refl
live_count (Some e) h = counts (Some e) e refl (h e refl)

pub first_counts : (es : EventMap) (e : Event) → first_in es ≡ Some e → Counts e
first_counts es e is = (first_is es e is).1.fits

pub best_first : (es : EventMap) → best_event (first_in es) ≡ first_in es
best_first es = live_best (first_in es) (first_counts es)

pub counting_first : (es : EventMap) → counting (first_in es) ≡ first_in es
counting_first es = live_count (first_in es) (first_counts es)
