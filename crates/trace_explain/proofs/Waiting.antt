-- a timer waits on the CPU on which it is queued, and on no other one
use Rattle.std.proofs.Common.{◌≡◌, ℕ, zero, suc, ◌+◌, true, false, List, [], ◌∷◌, ◌++◌}
use Rattle.std.proofs.Common.{Option, Some, None, refl, sym, ap, ◌∙◌, subst, arith, inl, inr}
use Rattle.std.proofs.Common.{append_assoc, true≢false}
use Rattle.std.specs.Prelude.{◌==◌, codes, is_some, option_map, slice_get}
use Rattle.std.proofs.lemmas.Bool.{cases_Bool, cond-false, cond-true, eq-eqb, eqb-true, false≢true}
use Rattle.std.proofs.lemmas.List.{append-nil}
use Rattle.std.proofs.lemmas.Option.{none-some, same_Some, slice_get-get_or}
use Rattle.tm_base.specs.declared.names.Class.{Class}
use Rattle.tm_base.specs.declared.names.Class.TheVariants.{Pinned, Global, Deferrable}
use Rattle.wheel_core.specs.declared.item.Item.{Item}
use Rattle.wheel_core.specs.PlainBase.{item_of}
use Rattle.cpu_bases.specs.CpuBases.{CpuBases, base_of, found_or}
use Rattle.step_causes.specs.core_facts.Cover.Once.{IsOnce, IsQueuedAt}
use Rattle.step_causes.specs.core_state.Kept.{is_queued}
use Rattle.core_world.specs.World.{World, cpu_of}
use Rattle.trace_check.specs.declared.reason.Reason.{Reason}
use Rattle.trace_check.specs.Reasons.{HasNoReason, IsAsked, IsReason}
use Rattle.trace_explain.specs.Answers.{AreAnswers, answered, nobody_waits, told_answer, told_text}
use Rattle.trace_explain.specs.Telling.{AddsAnswer, AddsAnswers, AddsTold}

-- ---- where a timer is queued

place_in : (t : ℕ) (items : List Item) (item : Item) → item_of t items ≡ Some item →
    (place : ℕ) × (slice_get items place ≡ Some item) × (item.id ≡ t)
place_in t [] item is = absurd (none-some item is)
place_in t (x ∷ xs) item is = elim (cases_Bool (x.id == t)) [
  | inl here ↦
      let same : x ≡ item =
      same_Some x item (sym (cond-true (x.id == t) (Some x) (item_of t xs) here) ∙ is) in
      (0, ap Some same, ap (λ (y : Item). y.id) (sym same) ∙ eqb-true x.id t here)
  | inr other ↦
      let rest = place_in t xs item
      (sym (cond-false (x.id == t) (Some x) (item_of t xs) other) ∙ is) in
      (suc rest.0, rest.1, rest.2)
]

queued_at : (w : World) (timer c : ℕ) → is_queued timer (cpu_of w c).bases ≡ true →
    (class : Class) × (place : ℕ) × IsQueuedAt w timer c class place
queued_at w timer c is =
    by (item_of timer (base_of Pinned bases).items) refl (item_of timer (base_of Global bases).items) refl
    (item_of timer (base_of Deferrable bases).items) refl is
  where
    bases : CpuBases
    bases = (cpu_of w c).bases

    at : (class : Class) (item : Item) → item_of timer (base_of class bases).items ≡ Some item →
        (class : Class) × (place : ℕ) × IsQueuedAt w timer c class place
    at class item is =
        let place = place_in timer (base_of class bases).items item is in
        (class, place.0, record { item = item; there = place.1; timers = place.2 })

    by : (p : Option Item) → item_of timer (base_of Pinned bases).items ≡ p → (g : Option Item) →
        item_of timer (base_of Global bases).items ≡ g → (d : Option Item) →
        item_of timer (base_of Deferrable bases).items ≡ d →
        is_some (option_map (λ (found : Class × Item). found.0)
        (found_or Pinned p (found_or Global g (found_or Deferrable d None)))) ≡ true →
        (class : Class) × (place : ℕ) × IsQueuedAt w timer c class place
    by (Some x) pinned g global d deferrable is = at Pinned x pinned
    by None pinned (Some x) global d deferrable is = at Global x global
    by None pinned None global (Some x) deferrable is = at Deferrable x deferrable
    by None pinned None global None deferrable is = absurd (false≢true is)

asked_at : (w : World) (c timer : ℕ) (item : Item) → IsAsked w c timer item →
    (place : ℕ) × IsQueuedAt w timer c Global place
asked_at w c timer item asked =
    let queued = asked.waiting.queued in
    let items = (base_of Global (cpu_of w c).bases).items in (
      queued.0,
      record {
        item = item;
        there = slice_get-get_or items queued.0 item queued.1 ∙ ap Some queued.2;
        timers = asked.timers;
      },
    )

-- what is queued on one CPU waits on no other
elsewhere : (w : World) → IsOnce w → (timer d : ℕ) → is_queued timer (cpu_of w d).bases ≡ true →
    HasNoReason w d timer → (c : ℕ) → HasNoReason w c timer
elsewhere w once timer d is none c item asked =
    let here = queued_at w timer d is in
    let there = asked_at w c timer item asked in
    let one = once.queued timer c d Global here.0 there.0 here.1 there.1 here.2 in
    none item (subst (λ n. IsAsked w n timer item) one.cpu asked)

-- ---- what is queued nowhere

not_in : (t : ℕ) (items : List Item) (place : ℕ) (item : Item) → slice_get items place ≡ Some item →
    item.id ≡ t → item_of t items ≡ None → ⊥
not_in t [] place item there id none = none-some item there
not_in t (x ∷ xs) zero item there id none =
    none-some x (sym none ∙ cond-true (x.id == t) (Some x) (item_of t xs)
    (eq-eqb x.id t (ap (λ (y : Item). y.id) (same_Some x item there) ∙ id)))
not_in t (x ∷ xs) (suc place) item there id none = elim (cases_Bool (x.id == t)) [
  | inl here ↦
      none-some x (sym none ∙ cond-true (x.id == t) (Some x) (item_of t xs) here)
  | inr other ↦
      not_in t xs place item there id
      (sym (cond-false (x.id == t) (Some x) (item_of t xs) other) ∙ none)
]

no_global : (p g d : Option Item) →
    is_some (option_map (λ (found : Class × Item). found.0)
    (found_or Pinned p (found_or Global g (found_or Deferrable d None)))) ≡ false → g ≡ None
no_global (Some x) g d is = absurd (true≢false is)
no_global None (Some x) d is = absurd (true≢false is)
no_global None None d is = refl

nowhere : (w : World) (timer : ℕ) → ((d : ℕ) → is_queued timer (cpu_of w d).bases ≡ false) →
    (c : ℕ) → HasNoReason w c timer
nowhere w timer none c item asked =
    let there = asked_at w c timer item asked in
    let bases = (cpu_of w c).bases in
    not_in timer (base_of Global bases).items there.0 there.1.item there.1.there there.1.timers
    (no_global (item_of timer (base_of Pinned bases).items) (item_of timer (base_of Global bases).items)
    (item_of timer (base_of Deferrable bases).items) (none c))

-- ---- lines of timers

pub none_nowhere : (w : World) (timer : ℕ) (old : List ℕ) →
    ((d : ℕ) → is_queued timer (cpu_of w d).bases ≡ false) → AddsAnswer w timer old old
none_nowhere w timer old none = record {
  last = [];
  answer = nobody_waits (nowhere w timer none) refl;
  written = sym (append-nil old);
}

pub none_here : (w : World) → IsOnce w → (timer d : ℕ) (old : List ℕ) →
    is_queued timer (cpu_of w d).bases ≡ true → HasNoReason w d timer → AddsAnswer w timer old old
none_here w once timer d old is none = record {
  last = [];
  answer = nobody_waits (elsewhere w once timer d is none) refl;
  written = sym (append-nil old);
}

pub one_here : (w : World) (timer d : ℕ) (reason : Reason) (front old new : List ℕ) →
    front ≡ codes "  timer " → IsReason w d timer reason →
    new ≡ old ++ told_text front w d timer reason → AddsAnswer w timer old new
one_here w timer d reason front old new is first written = record {
  last = told_text front w d timer reason;
  answer = answered d reason first (ap (λ t. told_text t w d timer reason) is);
  written = written;
}

pub no_answers : (w : World) (old : List ℕ) → AddsAnswers w 0 old old
unfolding AreAnswers
no_answers w old = record { answers = []; who = refl; written = sym (append-nil old) }

pub more_answers : (w : World) (n : ℕ) (old new newer : List ℕ) → AddsAnswers w n old new →
    AddsAnswer w n new newer → AddsAnswers w (n + 1) old newer
unfolding AreAnswers
more_answers w n old new newer some one =
    let same : suc n ≡ n + 1 = omega arith in
    record {
      answers = some.answers ++ one.last;
      who =
          subst (λ k. AreAnswers w k (some.answers ++ one.last)) same (record {
            front = some.answers;
            last = one.last;
            before = some.who;
            answer = one.answer;
            joined = refl;
          });
      written =
          one.written
          ∙ (ap (λ t. t ++ one.last) some.written ∙ append_assoc old some.answers one.last);
    }

pub one_told : (w : World) (timer c : ℕ) (reason : Reason) (front old new : List ℕ) →
    front ≡ codes "why: timer " → IsReason w c timer reason →
    new ≡ old ++ told_text front w c timer reason → AddsTold w c timer old new
one_told w timer c reason front old new is first written = record {
  told = told_text front w c timer reason;
  is_told = told_answer reason first (ap (λ t. told_text t w c timer reason) is);
  written = written;
}
