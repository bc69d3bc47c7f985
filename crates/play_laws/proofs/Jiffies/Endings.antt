-- for crates above: each arming whose wheel expiry has come has its end
use Rattle.std.proofs.Common.{◌≡◌, ℕ, ◌<◌, ◌≤◌, true, false}
use Rattle.std.proofs.Common.{Some, sym, ap, ◌∙◌, subst, arith, inl, inr}
use Rattle.std.specs.Prelude.{slice_get}
use Rattle.std.proofs.lemmas.Bool.{cases_Bool, false≢true}
use Rattle.std.proofs.lemmas.List.Elements.{All-weaker}
use Rattle.std.proofs.lemmas.Option.{get_or_from_slice_get, none-some}
use Rattle.std.proofs.lemmas.Option.{slice_get_within}
use Rattle.tm_base.specs.declared.names.Class.{Class}
use Rattle.tm_base.specs.declared.names.Class.TheVariants.{Pinned, Global, Deferrable}
use Rattle.wheel_core.specs.declared.item.Item.{Item}
use Rattle.wheel_core.specs.PlainBase.{item_of}
use Rattle.wheel_core.proofs.Ids.{item_holds}
use Rattle.cpu_bases.specs.declared.entry.Act.TheVariants as acts
use Rattle.cpu_bases.specs.declared.entry.Entry.{Entry}
use Rattle.cpu_bases.specs.CpuBases.{base_of}
use Rattle.cpu_bases.specs.Laws.{is_arming}
use Rattle.cpu_bases.proofs.Ends.{each_end_fits}
use Rattle.cpu_bases.proofs.Opens.{queued_or_ended}
use Rattle.play_rules.specs.Moments.{Turn}
use Rattle.play_rules.specs.State.{State, cpu_at, cpu_count}
use Rattle.play_rules.specs.Timers.{bases_at}
use Rattle.play_rules.specs.Play.{play_turns}
use Rattle.play_laws.specs.Jiffies.Jiffies.{EachHasEnded, EachHasEndedAfterEach, HandedOnTime}
use Rattle.play_laws.specs.Jiffies.Jiffies.{HasEndOnTime, InItsJiffy, IsOnTime, wakes}
use Rattle.play_laws.proofs.Jiffies.Jiffies.{in_its_jiffy_after_each}

-- A HAND-OUT of a timer that wakes is at its wheel expiry
at_wheel : (class : Class) (at wheel : ℕ) → wakes class ≡ true → IsOnTime class at wheel
    → at ≡ wheel
at_wheel Pinned at wheel is on_time = on_time
at_wheel Global at wheel is on_time = on_time
at_wheel Deferrable at wheel is on_time = absurd (false≢true is)

handed_at : (entry : Entry) → wakes entry.class ≡ true → HandedOnTime entry.act entry
    → entry.act ≡ acts.Handed → entry.at ≡ entry.wheel
handed_at entry waking on_time handed =
    at_wheel entry.class entry.at entry.wheel waking
    (subst (λ act. HandedOnTime act entry) handed on_time)

-- NOTHING THAT HAS COME is still queued
module _ (s : State) (is : InItsJiffy s) (c : ℕ) (low : c < cpu_count s) where
  none_waits : (class : Class) (item : Item) (timer : ℕ) → wakes class ≡ true
      → item_of timer (base_of class (bases_at s c)).items ≡ Some item → (cpu_at s c).online ≡ true
      → s.clock < item.wheel
  none_waits Pinned item timer waking there online =
      item_holds (λ i. s.clock < i.wheel) timer (base_of Pinned (bases_at s c)).items item
      (is.none_due c low online).pinned there
  none_waits Global item timer waking there online =
      item_holds (λ i. s.clock < i.wheel) timer (base_of Global (bases_at s c)).items item
      (is.none_due c low online).global there
  none_waits Deferrable item timer waking there online = absurd (false≢true waking)

  none_queued : (class : Class) (item : Item) (timer : ℕ) → (cpu_at s c).online ≡ false
      → item_of timer (base_of class (bases_at s c)).items ≡ Some item → ⊥
  none_queued class item timer off there =
      none-some item (sym (ap (item_of timer) (is.none_offline c class low off)) ∙ there)

  ended_by : (i : ℕ) (arming : Entry) → slice_get (bases_at s c).journal i ≡ Some arming
      → is_arming arming.act ≡ true → wakes arming.class ≡ true → arming.wheel ≤ s.clock
      → HasEndOnTime (bases_at s c).journal i arming
  ended_by i arming there arms waking come =
      let told = is.journals.recorded c low in
      let journal = (bases_at s c).journal in
      elim (queued_or_ended (bases_at s c) i arming told.consistent there arms) [
        | inl queued ↦
            let item = queued.0 in
            let same : item.wheel ≡ arming.wheel = ap (λ told. told.wheel) queued.2 in
            absurd
            (elim (cases_Bool (cpu_at s c).online) [
              | inl on ↦
                  let late = none_waits arming.class item arming.timer.0 waking queued.1 on in
                  omega (arith, late, same, come)
              | inr off ↦ none_queued arming.class item arming.timer.0 off queued.1
            ])
        | inr (j, ending, end) ↦
            let fits = each_end_fits c journal i j arming ending told.legal.legal end in
            let within = slice_get_within journal j ending end.ending_there in
            let here = get_or_from_slice_get journal j ending ending end.ending_there in
            let on_time : HandedOnTime ending.act ending =
            subst (λ e. HandedOnTime e.act e) here (told.on_time j ending within) in
            record {
              place = j;
              ending = ending;
              is_end = end;
              on_time = λ handed.
                  handed_at ending (ap wakes fits.class ∙ waking) on_time handed ∙ fits.wheel;
            }
      ]

pub each_has_ended : (s : State) → InItsJiffy s → EachHasEnded s
each_has_ended s is c i arming low there arms waking come =
    ended_by s is c low i arming there arms waking come

pub each_has_ended_after_each : EachHasEndedAfterEach
each_has_ended_after_each jobs script is =
    All-weaker (λ (u : Turn State). InItsJiffy u.played.state) (λ u. EachHasEnded u.played.state)
    (λ u in_jiffy. each_has_ended u.played.state in_jiffy) (play_turns jobs script)
    (in_its_jiffy_after_each jobs script is)
