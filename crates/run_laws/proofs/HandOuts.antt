-- what is handed out in a moment was queued as it began, and goes out once: a timer that is armed
-- comes past now
use Rattle.std.proofs.Common.{◌≡◌, ℕ, zero, suc, ◌+◌, ◌-◌, ◌<◌, ◌≤◌, List, []}
use Rattle.std.proofs.Common.{◌∷◌, ◌++◌, true, Option, Some, None, refl, sym, ap, ◌∙◌}
use Rattle.std.proofs.Common.{subst, arith, inl, inr}
use Rattle.std.specs.Prelude.{◌==◌, IsSomeAnd, nat_lt, option_map, slice_get, if◌then◌else◌}
use Rattle.std.proofs.lemmas.Bool.{cases_Bool, cond_both, eqb-true, ltb-true}
use Rattle.std.proofs.lemmas.Option.{none-some, same_Some}
use Rattle.tm_base.specs.Classes.{same_class}
use Rattle.tm_base.specs.declared.names.Class.{Class}
use Rattle.wheel_core.specs.declared.item.Item.{Item}
use Rattle.wheel_core.specs.PlainBase.{PlainBase}
use Rattle.wheel_core.specs.WheelExpiry.{cutoff, granule_end, greatest_timeout}
use Rattle.wheel_core.specs.WheelExpiry.{level_of_delay, level_start, wheel_expiry_of}
use Rattle.wheel_core.proofs.Ids.{item_holds}
use Rattle.wheel_core.proofs.Levels.{level_fits}
use Rattle.cpu_bases.specs.ByClass.{ByClass, of_class}
use Rattle.cpu_bases.specs.declared.entry.Act.{Act}
use Rattle.cpu_bases.specs.declared.entry.Act.TheVariants.{Armed, Cancelled, Handed, MovedIn}
use Rattle.cpu_bases.specs.declared.entry.Act.TheVariants.{MovedOut, Ticked}
use Rattle.cpu_bases.specs.declared.entry.Entry.{Entry}
use Rattle.cpu_bases.specs.CpuBases.{base_of, class_in}
use Rattle.cpu_bases.specs.Journals.{EachMayFollow, MayFollow, arming_of, ended, entries_of}
use Rattle.cpu_bases.specs.Journals.{queued_after, queued_by, queued_from}
use Rattle.cpu_bases.specs.Laws.{is_arming}
use Rattle.cpu_bases.specs.Replay.{EachSays, Says, redo}
use Rattle.cpu_bases.proofs.Agreeing.{agreed_armed}
use Rattle.cpu_bases.proofs.Classes.{class_itself}
use Rattle.cpu_bases.proofs.Keyed.{HasDistinctKeys, drop_other, found_key, found_part, none_dropped}
use Rattle.cpu_bases.proofs.Keyed.{push_other, push_own}
use Rattle.cpu_bases.proofs.Legal.{distinct_after, ended_is}
use Rattle.cpu_bases.proofs.Queued.{queued_once}
use Rattle.core_world.specs.World.{World, cpu_of}
use Rattle.run_laws.proofs.Homes.{HasTimers}

-- ---- a wheel expiry is past now, where what was asked for isn't in the past

granule_past : (level time : ℕ) → level < 9 → time < granule_end level time
granule_past zero time l = omega arith
granule_past (suc zero) time l = omega arith
granule_past (suc (suc zero)) time l = omega arith
granule_past (suc (suc (suc zero))) time l = omega arith
granule_past (suc (suc (suc (suc zero)))) time l = omega arith
granule_past (suc (suc (suc (suc (suc zero))))) time l = omega arith
granule_past (suc (suc (suc (suc (suc (suc zero)))))) time l = omega arith
granule_past (suc (suc (suc (suc (suc (suc (suc zero))))))) time l = omega arith
granule_past (suc (suc (suc (suc (suc (suc (suc (suc zero)))))))) time l = omega arith
granule_past (suc (suc (suc (suc (suc (suc (suc (suc (suc more))))))))) time l =
    absurd (omega arith)

pub wheel_past : (now expires clock : ℕ) → now ≤ greatest_timeout → now ≤ expires
    → now < wheel_expiry_of expires clock
unfolding wheel_expiry_of
wheel_past now expires clock soon later =
    let level = level_of_delay (expires - clock) in
    cond_both (nat_lt expires clock) clock
    (if nat_lt (expires - clock) (level_start 1) then expires + 1
    else if nat_lt (expires - clock) cutoff then granule_end level expires
    else granule_end 8 (clock + greatest_timeout)) (λ x. now < x)
    (λ past. let before = ltb-true expires clock past in omega (arith, later, before))
    (λ ahead.
    cond_both (nat_lt (expires - clock) (level_start 1)) (expires + 1)
    (if nat_lt (expires - clock) cutoff then granule_end level expires
    else granule_end 8 (clock + greatest_timeout)) (λ x. now < x)
    (λ near. omega (arith, later))
    (λ far.
    cond_both (nat_lt (expires - clock) cutoff) (granule_end level expires)
    (granule_end 8 (clock + greatest_timeout)) (λ x. now < x)
    (λ within.
    let past = granule_past level expires (level_fits (expires - clock)).0 in
    omega (arith, later, past))
    (λ beyond.
    let past = granule_past 8 (clock + greatest_timeout) (omega arith) in
    omega (arith, soon, past))))

-- ---- in a journal that goes on legally

abbrev timer_of : Entry → ℕ
timer_of e = e.timer.0

-- the timer's arming hasn't ended, and is due by now
pub record WasQueued (now : ℕ) (queued : List Entry) (timer : ℕ) : Type 0 where
  pub arming : Entry
  pub found : arming_of timer queued ≡ Some arming
  pub due : arming.wheel ≤ now

-- what is armed comes past now
abbrev pub ComesLate : (now : ℕ) → Entry → Type 0
ComesLate now e = is_arming e.act ≡ true → now < e.wheel

abbrev pub EachComesLate : (now : ℕ) → List Entry → Type 0
EachComesLate now more =
    (p : ℕ) (e : Entry) → slice_get more p ≡ Some e → ComesLate now e

module _ (now : ℕ) (queued : List Entry) (f : Entry) (timer : ℕ)
    (distinct : HasDistinctKeys timer_of queued) where
  -- before an arming that comes late
  before_arming : arming_of f.timer.0 queued ≡ None → now < f.wheel
      → WasQueued now (queued ++ f ∷ []) timer → WasQueued now queued timer
  before_arming none late was = elim (cases_Bool (f.timer.0 == timer)) [
    | inr apart ↦ record {
      arming = was.arming;
      found = sym (push_other timer_of timer queued f apart) ∙ was.found;
      due = was.due;
    }
    | inl same ↦
        let is : f.timer.0 ≡ timer = eqb-true f.timer.0 timer same in
        let it : f ≡ was.arming = same_Some f was.arming
        (sym (push_own timer_of queued f none)
        ∙ (ap (λ t. arming_of t (queued ++ f ∷ [])) is ∙ was.found)) in
        let wheel : f.wheel ≡ was.arming.wheel = ap (λ (e : Entry). e.wheel) it in
        let due = was.due in
        absurd (omega (arith, late, wheel, due))
  ]

  -- before an end
  before_end : WasQueued now (ended f.timer.0 queued) timer → WasQueued now queued timer
  before_end was =
      let at : arming_of timer (ended f.timer.0 queued) ≡ Some was.arming = was.found in
      elim (cases_Bool (f.timer.0 == timer)) [
        | inr apart ↦ record {
          arming = was.arming;
          found =
              sym (ap (arming_of timer) (ended_is f.timer.0 queued)
              ∙ drop_other timer_of timer f.timer.0 queued apart) ∙ at;
          due = was.due;
        }
        | inl same ↦
            let is : f.timer.0 ≡ timer = eqb-true f.timer.0 timer same in
            absurd (none-some was.arming (sym (gone timer is) ∙ at))
      ]
    where
      gone : (t : ℕ) → f.timer.0 ≡ t → arming_of t (ended f.timer.0 queued) ≡ None
      gone t is =
          ap (λ k. arming_of k (ended f.timer.0 queued)) (sym is)
          ∙ (ap (arming_of f.timer.0) (ended_is f.timer.0 queued)
          ∙ none_dropped timer_of f.timer.0 queued distinct)

  -- before an entry
  before : (act : Act) → MayFollow act queued f → (is_arming act ≡ true → now < f.wheel)
      → WasQueued now (queued_after act queued f) timer → WasQueued now queued timer
  before Armed may late was = before_arming may (late refl) was
  before MovedIn may late was = before_arming may (late refl) was
  before Handed may late was = before_end was
  before Cancelled may late was = before_end was
  before MovedOut may late was = before_end was
  before Ticked may late was = was

-- a timer that is handed out in it was queued, and due
handed_queued : (now : ℕ) (queued : List Entry) (e : Entry) → MayFollow Handed queued e
    → e.at ≡ now → WasQueued now queued e.timer.0
handed_queued now queued e may at = by (arming_of e.timer.0 queued) refl may.0
  where
    by : (o : Option Entry) → arming_of e.timer.0 queued ≡ o
        → IsSomeAnd o (λ arming. (arming.class ≡ e.class) × (arming.wheel ≡ e.wheel))
        → WasQueued now queued e.timer.0
    by None is none = absurd none
    by (Some arming) is fits = record {
      arming = arming;
      found = is;
      due = (let wheel = fits.1 in let due = may.1 in omega (arith, wheel, due, at));
    }

pub was_queued : (now : ℕ) (queued more : List Entry) → HasDistinctKeys timer_of queued
    → EachMayFollow queued more → EachComesLate now more → (p : ℕ) (e : Entry)
    → slice_get more p ≡ Some e → e.act ≡ Handed → e.at ≡ now → WasQueued now queued e.timer.0
was_queued now queued [] distinct each late p e is handed at = absurd (none-some e is)
was_queued now queued (f ∷ more) distinct each late zero e is handed at =
    let same : f ≡ e = same_Some f e is in
    handed_queued now queued e
    (by_act e handed (subst (λ (x : Entry). MayFollow x.act queued x) same each.0)) at
  where
    by_act : (x : Entry) → x.act ≡ Handed → MayFollow x.act queued x → MayFollow Handed queued x
    by_act x is may = subst (λ a. MayFollow a queued x) is may
was_queued now queued (f ∷ more) distinct each late (suc p) e is handed at =
    before now queued f e.timer.0 distinct f.act each.0 (late 0 f refl)
    (was_queued now (queued_after f.act queued f) more
    (distinct_after f.act queued f distinct each.0) each.1 (λ q x there. late (suc q) x there) p e
    is handed at)

-- .. and it goes out once
gone_by : (now : ℕ) (queued : List Entry) (f : Entry) (timer : ℕ) → HasDistinctKeys timer_of queued
    → f.act ≡ Handed → f.timer.0 ≡ timer → WasQueued now (queued_after f.act queued f) timer → ⊥
gone_by now queued f timer distinct handed same was =
    let at : arming_of timer (ended f.timer.0 queued) ≡ Some was.arming =
    subst (λ a. arming_of timer (queued_after a queued f) ≡ Some was.arming) handed was.found in
    let none : arming_of timer (ended f.timer.0 queued) ≡ None =
    ap (λ k. arming_of k (ended f.timer.0 queued)) (sym same)
    ∙ (ap (arming_of f.timer.0) (ended_is f.timer.0 queued)
    ∙ none_dropped timer_of f.timer.0 queued distinct) in
    none-some was.arming (sym none ∙ at)

pub out_once : (now : ℕ) (queued more : List Entry) → HasDistinctKeys timer_of queued
    → EachMayFollow queued more → EachComesLate now more → (p q : ℕ) (a b : Entry) → p < q
    → slice_get more p ≡ Some a → slice_get more q ≡ Some b → a.act ≡ Handed → b.act ≡ Handed
    → b.at ≡ now → a.timer.0 ≡ b.timer.0 → ⊥
out_once now queued [] distinct each late p q a b less first second out again at same =
    none-some a first
out_once now queued (f ∷ more) distinct each late p zero a b less first second out again at same =
    omega (arith, less)
out_once now queued (f ∷ more) distinct each late zero (suc q) a b less first second out again at
    same =
    let is : f ≡ a = same_Some f a first in
    gone_by now queued f b.timer.0 distinct (ap (λ (e : Entry). e.act) is ∙ out)
    (ap (λ (e : Entry). e.timer.0) is ∙ same)
    (was_queued now (queued_after f.act queued f) more
    (distinct_after f.act queued f distinct each.0) each.1 (λ n x there. late (suc n) x there) q b
    second again at)
out_once now queued (f ∷ more) distinct each late (suc p) (suc q) a b less first second out again at
    same =
    out_once now (queued_after f.act queued f) more (distinct_after f.act queued f distinct each.0)
    each.1 (λ n x there. late (suc n) x there) p q a b (omega (arith, less)) first second out again
    at same

-- the entries behind those of a journal
pub follow_behind : (queued first more : List Entry) → EachMayFollow queued (first ++ more)
    → EachMayFollow (queued_from queued first) more
follow_behind queued [] more each = each
follow_behind queued (f ∷ first) more each =
    follow_behind (queued_after f.act queued f) first more each.1

-- each says what some base gives
pub says_at : (more : List Entry) (bases : ByClass PlainBase) → EachSays more bases → (p : ℕ)
    (e : Entry) → slice_get more p ≡ Some e → (base : PlainBase) × Says e.act e base
says_at [] bases says p e is = absurd (none-some e is)
says_at (f ∷ more) bases says zero e is = (
  of_class e.class bases,
  subst (λ (x : Entry). Says x.act x (of_class x.class bases))
      (same_Some f e is) says.0,
)
says_at (f ∷ more) bases says (suc p) e is = says_at more (redo f bases) says.1 p e is

-- ---- in a core whose timers are in order

-- a timer whose arming hasn't ended is queued
pub record IsQueuedOn (w : World) (d timer : ℕ) : Type 0 where
  pub known : timer < w.timers
  pub class : Class
  pub queued : class_in timer (cpu_of w d).bases ≡ Some class

pub queued_on : (w : World) → HasTimers w → (now d timer : ℕ)
    → WasQueued now (queued_by (cpu_of w d).bases.journal) timer → IsQueuedOn w d timer
queued_on w has now d timer was =
    let b = (cpu_of w d).bases in
    let class = was.arming.class in
    let items = (base_of class b).items in
    let queued = queued_by b.journal in
    let consistent = has.consistent d in
    let there = agreed_armed items (entries_of class queued) (consistent.agrees class) timer
    was.arming
    (found_part timer_of (λ e. same_class e.class class) timer queued was.arming was.found
    (class_itself class)) in
    let key : there.0.id ≡ timer = found_key (λ (i : Item). i.id) timer items there.0 there.1 in
    let known : there.0.id < w.timers =
    item_holds (λ i. i.id < w.timers) timer items there.0 (has.known d class) there.1 in
    record {
      known = omega (arith, key, known);
      class = class;
      queued = ap (option_map (λ found. found.0))
          (queued_once b timer class there.0 consistent there.1);
    }
