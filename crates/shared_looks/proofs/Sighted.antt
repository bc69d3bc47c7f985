-- a pass that loads the slots of a group
use Rattle.std.proofs.Common.{◌≡◌, ◌≢◌, inl, inr, ℕ, zero, suc, ◌+◌, List, [], ◌∷◌, ◌++◌}
use Rattle.std.proofs.Common.{Option, Some, length, refl, sym, ap, ◌∙◌, subst, arith}
use Rattle.std.proofs.lemmas.Bool.{cases_eq}
use Rattle.std.proofs.lemmas.Option.{none-some}
use Rattle.atomic_table.specs.Seated.{TableId}
use Rattle.event_queue.specs.declared.event.Event.{Event}
use Rattle.event_queue.specs.EventMap.{EventMap, IsTakenUp, IsFirst, NoneFits, NoEvents, event_at}
use Rattle.event_queue.specs.Word.{slot_of}
use Rattle.std.specs.FinSet.{empty}
use Rattle.tm_base.specs.CpuSet.{Cpus}
use Rattle.tree_plan.specs.Paths.{group_at_of}
use Rattle.walk_rules.specs.Hierarchy.{side}
use Rattle.core_world.specs.World.{World}
use Rattle.shared_cpus.specs.shared_rule.declared.parts.Look.{Look}
use Rattle.shared_cpus.specs.shared_rule.declared.parts.PassView.{PassView}
use Rattle.shared_cpus.specs.shared_rule.Plays.{seen_pass}
use Rattle.shared_cpus.specs.shared_rule.Slots.{IsGrouped}
use Rattle.shared_cpus.specs.shared_rule.Passes.{HeldPass, IsOfRun, IsPassIn, Seated, with_pass}
use Rattle.shared_looks.specs.Looks.{seen_all}
use Rattle.shared_looks.specs.Sights.{HasSeenGroup, HasSeenSlot, HasSeenSlots, LooksBy}
use Rattle.shared_looks.specs.Sights.{NothingBelow, ShowsDue, ShowsNothing, events_in, slot_look}
use Rattle.shared_looks.specs.Sights.{slot_looks, state_look}
use Rattle.shared_looks.proofs.Looks.{loads_after, more_loads, no_loads}

-- one word more
one_slot : (o : World) (g child : ℕ) (founds : List ℕ) (found : ℕ)
    → slot_looks o g child (founds ++ found ∷ [])
    ≡ slot_looks o g child founds ++ slot_look o g (child + length founds) found ∷ []
one_slot o g child [] found =
    ap (λ n. slot_look o g n found ∷ []) {x = child} {y = child + 0} (omega arith)
one_slot o g child (x ∷ founds) found =
    ap (λ l. slot_look o g child x ∷ l)
    (one_slot o g (suc child) founds found
    ∙ ap (λ n. slot_looks o g (suc child) founds ++ slot_look o g n found ∷ [])
    {x = suc child + length founds} {y = child + suc (length founds)} (omega arith))

-- its event stands behind those before
there : (founds : List ℕ) (found : ℕ)
    → event_at (events_in (founds ++ found ∷ [])) (length founds) ≡ slot_of found
there [] found = refl
there (x ∷ founds) found = there founds found

elsewhere : (founds : List ℕ) (found k : ℕ) → k ≢ length founds
    → event_at (events_in (founds ++ found ∷ [])) k ≡ event_at (events_in founds) k
elsewhere [] found zero ne = absurd (ne refl)
elsewhere [] found (suc k) ne = refl
elsewhere (x ∷ founds) found zero ne = refl
elsewhere (x ∷ founds) found (suc k) ne = elsewhere founds found k (λ e. ne (ap suc e))

one_longer : (founds : List ℕ) (found : ℕ) → length (founds ++ found ∷ []) ≡ length founds + 1
one_longer [] found = refl
one_longer (x ∷ founds) found = omega (arith, one_longer founds found)

-- before the first
pub none_seen : (table : TableId) (o : World) (g : ℕ) (held : HeldPass) (events : EventMap)
    → NoEvents events → HasSeenSlots table o g 0 held held events
none_seen table o g held events none = record {
  founds = [];
  count_is = refl;
  pass_is = sym (no_loads held);
  events_are = λ k. none k;
  named = λ p k e is at. absurd (none-some e at);
}

-- the opening is that with which the pass began
opening_after : (xs : List Look) (p : PassView) → (seen_all xs p).opening ≡ p.opening
opening_after [] p = refl
opening_after (x ∷ xs) p = opening_after xs (seen_pass x.word x.found p)

-- a pass after loads is one
pub pass_after : (table : TableId) (held after : HeldPass) (xs : List Look) (p : PassView)
    → IsPassIn table held p → after ≡ with_pass (seen_all xs) held
    → IsPassIn table after (seen_all xs p)
pass_after table held after xs p is same =
    ap (λ (z : HeldPass). z.seated) same ∙ ap (λ (m : Option Seated).
    (with_pass (seen_all xs) (record held { seated = m })).seated) is

-- after one more
pub one_more_seen : (table : TableId) (o : World) (g count : ℕ) (held mid after : HeldPass)
    (old new : EventMap) → HasSeenSlots table o g count held mid old
    → HasSeenSlot table o g count mid after old new
    → HasSeenSlots table o g (count + 1) held after new
one_more_seen table o g count held mid after old new was one =
    let founds = was.founds in
    let found = one.found in
    let look : Look = slot_look o g count found in
    let looks : slot_looks o g 0 founds ++ look ∷ [] ≡ slot_looks o g 0 (founds ++ found ∷ []) =
    ap (λ n. slot_looks o g 0 founds ++ slot_look o g n found ∷ []) {x = count}
    {y = 0 + length founds} (omega (arith, was.count_is))
    ∙ sym (one_slot o g 0 founds found) in
    let at_end : event_at (events_in (founds ++ found ∷ [])) count ≡ slot_of found =
    ap (event_at (events_in (founds ++ found ∷ []))) (sym was.count_is) ∙ there founds found in
    let before : (k : ℕ) → k ≢ count
    → event_at (events_in (founds ++ found ∷ [])) k ≡ event_at (events_in founds) k =
    λ k ne. elsewhere founds found k (λ e. ne (e ∙ was.count_is)) in
    record {
      founds = founds ++ found ∷ [];
      count_is = one_longer founds found ∙ ap (λ n. n + 1) was.count_is;
      pass_is =
          one.pass_is
          ∙ (ap (with_pass (seen_pass look.word found)) was.pass_is
          ∙ (more_loads (slot_looks o g 0 founds) look held
          ∙ ap (λ l. with_pass (seen_all l) held) looks));
      events_are = λ k. elim (cases_eq k count) [
        | inl is ↦
            ap (event_at new) is ∙ (one.changes.changed
            ∙ (sym at_end ∙ ap (event_at (events_in (founds ++ found ∷ []))) (sym is)))
        | inr ne ↦ one.changes.others k ne ∙ (was.events_are k ∙ sym (before k ne))
      ];
      named = λ p k e is at. elim (cases_eq k count) [
        | inl here ↦
            subst (λ (w : World). IsGrouped w e.cpu.0)
            (opening_after (slot_looks o g 0 founds) p)
            (one.named (seen_all (slot_looks o g 0 founds) p) e
            (pass_after table held mid (slot_looks o g 0 founds) p is was.pass_is)
            (sym at_end ∙ (ap (event_at (events_in (founds ++ found ∷ []))) (sym here) ∙ at)))
        | inr ne ↦ was.named p k e is (sym (before k ne) ∙ at)
      ];
    }

-- the pass is still one of the run
pub still_run : (table : TableId) (held after : HeldPass) (word found : ℕ) → IsOfRun table held
    → after ≡ with_pass (seen_pass word found) held → IsOfRun table after
still_run table held after word found run same = (
  seen_pass word found run.0,
  ap (λ (z : HeldPass). z.seated) same
      ∙ ap (λ (m : Option Seated).
      (with_pass (seen_pass word found) (record held { seated = m })).seated) run.1,
)

pub still_run_all : (table : TableId) (held after : HeldPass) (xs : List Look)
    → IsOfRun table held → after ≡ with_pass (seen_all xs) held → IsOfRun table after
still_run_all table held after xs run same =
    (seen_all xs run.0, pass_after table held after xs run.0 run.1 same)

-- what is first among some events is so among those that stand at the same places
pub first_as : (Fits : Event → Type 0) (events other : EventMap) (child : ℕ) (e : Event)
    → ((k : ℕ) → event_at events k ≡ event_at other k) → IsFirst Fits events child e
    → IsFirst Fits other child e
first_as Fits events other child e same is = record {
  there = sym (same child) ∙ is.there;
  fits = is.fits;
  first = λ j f at fits. is.first j f (same j ∙ at) fits;
}

pub none_as : (Fits : Event → Type 0) (events other : EventMap)
    → ((k : ℕ) → event_at events k ≡ event_at other k) → NoneFits Fits events
    → NoneFits Fits other
none_as Fits events other same none k e at fits = none k e (same k ∙ at) fits

-- a group that was looked at: its word, and then its slots
abbrev pub group_seen : (table : TableId) (o : World) (cpu level g word by : ℕ)
    (held mid after : HeldPass) (events : EventMap) → Some g ≡ group_at_of o.tree cpu level
    → LooksBy word by → by ≡ side o.tree cpu level
    → mid ≡ with_pass (seen_pass (state_look o g word).word word) held
    → HasSeenSlots table o g 8 mid after events → HasSeenGroup o cpu level held after
group_seen table o cpu level g word by held mid after events path looks is loaded seen = record {
  group = g;
  path = sym path;
  word = word;
  looks = subst (LooksBy word) is looks;
  founds = seen.founds;
  eight = seen.count_is;
  pass_is =
      seen.pass_is
      ∙ (ap (with_pass (seen_all (slot_looks o g 0 seen.founds))) loaded
      ∙ loads_after (state_look o g word) (slot_looks o g 0 seen.founds) held);
}

-- where nothing was due there
pub shows_nothing : (table : TableId) (o : World) (now : ℕ) (tried : Cpus)
    (cpu level g word by : ℕ) (held mid after : HeldPass) (events : EventMap)
    → Some g ≡ group_at_of o.tree cpu level → LooksBy word by → by ≡ side o.tree cpu level
    → mid ≡ with_pass (seen_pass (state_look o g word).word word) held
    → HasSeenSlots table o g 8 mid after events → NoneFits (IsTakenUp now tried) events
    → ShowsNothing o now tried cpu level held after
shows_nothing table o now tried cpu level g word by held mid after events path looks is loaded seen
    none = record {
      seen =
          group_seen table o cpu level g word by held mid after events path looks is loaded seen;
      none = none_as (IsTakenUp now tried) events (events_in seen.founds) seen.events_are none;
    }

-- and where an event was
pub shows_due : (table : TableId) (o : World) (now : ℕ) (tried : Cpus)
    (cpu level g word by : ℕ) (held mid after : HeldPass) (events : EventMap) (child : ℕ)
    (e : Event) → Some g ≡ group_at_of o.tree cpu level → LooksBy word by
    → by ≡ side o.tree cpu level
    → mid ≡ with_pass (seen_pass (state_look o g word).word word) held
    → HasSeenSlots table o g 8 mid after events → IsFirst (IsTakenUp now tried) events child e
    → ShowsDue table o now tried cpu level held after e.cpu
shows_due table o now tried cpu level g word by held mid after events child e path looks is loaded
    seen first =
    let one = first_as (IsTakenUp now tried) events (events_in seen.founds) child e seen.events_are
    first in
    record {
      seen =
          group_seen table o cpu level g word by held mid after events path looks is loaded seen;
      child = child;
      event = e;
      first = one;
      cpu_is = refl;
      of_run = λ p at.
          seen.named (seen_pass (state_look o g word).word word p) child e
          (ap (λ (z : HeldPass). z.seated) loaded
          ∙ ap (λ (m : Option Seated). (with_pass (seen_pass (state_look o g word).word word)
          (record held { seated = m })).seated) at) one.there;
    }

-- LEVEL BY LEVEL
pub nothing_more : (table : TableId) (o : World) (now cpu level next : ℕ)
    (held mid after : HeldPass) → NothingBelow table o now cpu level held mid
    → ShowsNothing o now empty cpu level mid after → next ≡ suc level
    → NothingBelow table o now cpu next held after
nothing_more table o now cpu level next held mid after below one is =
    subst (λ n. NothingBelow table o now cpu n held after) (sym is) (mid, below, one)
