-- for crates above: after each moment of every script's play each timer was handed out in its jiffy
use Rattle.std.proofs.Common.{◌≡◌, ℕ, suc, ◌+◌, ◌^◌, ◌<◌, ◌≤◌, List, [], ◌∷◌, true, Option, Some}
use Rattle.std.proofs.Common.{None, refl, sym, ap, ◌∙◌, arith, max}
use Rattle.std.specs.Prelude.{All, is_some, option_map}
use Rattle.std.proofs.lemmas.Bool.{both_ways, false≢true}
use Rattle.std.proofs.lemmas.List.Elements.{All-weaker}
use Rattle.tm_base.specs.declared.names.Class.{Class}
use Rattle.tm_script.specs.declared.syntax.Script.{Script}
use Rattle.tm_script.specs.Grammar.{IsScript}
use Rattle.tree_plan.specs.Shape.{Shape}
use Rattle.tree_plan.specs.Paths.{cpu_count_of, level_count_of}
use Rattle.wheel_core.specs.declared.item.Item.{Item}
use Rattle.wheel_core.proofs.Ids.{item_holds}
use Rattle.cpu_bases.specs.CpuBases.{CpuBases, base_of, found_in}
use Rattle.cpu_bases.proofs.Keeping.{found_at}
use Rattle.play_rules.specs.Interrupts.{Replies, having_interrupt}
use Rattle.play_rules.specs.Moments.{Turn}
use Rattle.play_rules.specs.State.{State, cpu_at, cpu_count, start}
use Rattle.play_rules.specs.Hierarchy.{woken}
use Rattle.play_rules.specs.Timers.{bases_at}
use Rattle.play_rules.specs.Play.{AfterEachMoment, at_clock, next_interrupt, plain_rules}
use Rattle.play_rules.specs.Play.{play_turns, successor}
use Rattle.play_laws.proofs.Answered.Hotplug.{successor_is}
use Rattle.play_laws.proofs.Answered.Plays.{kept_after_each}
use Rattle.play_laws.proofs.Answered.Scripts.{moments_rise, tree_for}
use Rattle.play_laws.proofs.Answered.Settles.{Whole}
use Rattle.play_laws.proofs.Shape.Shape.{Stage, begun, between, climbed, leaving, looked, looking}
use Rattle.play_laws.proofs.Shape.Shape.{moving}
use Rattle.play_laws.proofs.Shape.Shape.{own, running, taking}
use Rattle.play_laws.proofs.Answered.States.{IsKept, Nobody}
use Rattle.play_laws.specs.Jiffies.Jiffies.{AreRecordedOnce, InItsJiffy, InItsJiffyAfterEach}
use Rattle.play_laws.proofs.Jiffies.Comes.{comes, none_passed}
use Rattle.play_laws.proofs.Jiffies.Course.{KeepsCourse}
use Rattle.play_laws.proofs.Jiffies.CourseTurns.{course_kept}
use Rattle.play_laws.proofs.Jiffies.CpuKept.{IsCpu, IsItemOf}
use Rattle.play_laws.proofs.Jiffies.InterruptEnds.{ends_all, ends_one}
use Rattle.play_laws.proofs.Jiffies.InterruptSteps.{Begun, Between, Climbed, HadOwn, Looked, Looking}
use Rattle.play_laws.proofs.Jiffies.InterruptSteps.{Own, Rested, Running, SeenBefore, Taking, all_tried}
use Rattle.play_laws.proofs.Jiffies.InterruptSteps.{climbs, drained_own, entered_on, looks_no_more}
use Rattle.play_laws.proofs.Jiffies.InterruptSteps.{looks_there, none_more, out_known, passed_on}
use Rattle.play_laws.proofs.Jiffies.InterruptSteps.{ran_own, top_seen}
use Rattle.play_laws.proofs.Jiffies.LookSteps.{drains_taken, lets_go, out_taken, ran_taken, takes}
use Rattle.play_laws.proofs.Jiffies.Starts.{first_begun}
use Rattle.play_laws.proofs.Jiffies.MovingSteps.{Moving, controls_leaving, has_controller}
use Rattle.play_laws.proofs.Jiffies.MovingSteps.{leaves_again, left_empty, moves_one, none_moves}
use Rattle.play_laws.proofs.Jiffies.MovingSteps.{wakes_leaving}
use Rattle.play_laws.proofs.Jiffies.Empty.{empty_by}
use Rattle.play_laws.proofs.Jiffies.OperationSteps.{Leaves, Leaving, arms, cancels, comes_online}
use Rattle.play_laws.proofs.Jiffies.OperationSteps.{goes_offline, idles, rested_of_bases, wakes}

-- AT EACH STAGE
abbrev pub Keep : (cpus levels now : ℕ) → Stage → State → Type 0
Keep cpus levels now between s = Between cpus levels now s
Keep cpus levels now (begun due c) s = Begun cpus levels now due c s
Keep cpus levels now (own due c bases) s = Own cpus levels now due c bases s
Keep cpus levels now (climbed due c level) s = Climbed cpus levels now due c level s
Keep cpus levels now (looking due c level n tried) s = Looking cpus levels now due c level n s
Keep cpus levels now (taking due c level n tried d) s = Taking cpus levels now due c level n d s
Keep cpus levels now (running due c level n tried d) s = Running cpus levels now due c level n d s
Keep cpus levels now (looked due c) s = Looked cpus levels now due c s
Keep cpus levels now (leaving c) s = Leaving cpus levels now c s
Keep cpus levels now (moving from to n) s = Moving cpus levels now from to n s

module _ (cpus levels : ℕ) where
  -- the other CPU to which the duty is handed on
  hands : (now c d : ℕ) (s : State) → successor s c ≡ Some d → Leaving cpus levels now c s
      → Leaving cpus levels now c (woken s d)
  hands now c d s is was =
      let low = (successor_is s c d is).low in
      let count = was.quiet.holds.count in
      wakes_leaving cpus levels now c d s (omega (arith, low, count)) was

  pub course : KeepsCourse cpus levels (Keep cpus levels)
  course = record {
    clock = λ now s was. was.at;
    all_cpus = λ now due s was. was.holds.count;
    all_levels = λ now due c s low was. was.levels_are;
    passed = λ now due c s low out was. passed_on cpus levels now due c s out was;
    entered = λ now due c s low is was. entered_on cpus levels now due c s is was;
    drained = λ now due c k s low few was. drained_own cpus levels now due c k s low was;
    out =
        λ now due c k s low few was. out_known cpus levels now due (HadOwn due c k 1)
        (HadOwn due c k 2) (SeenBefore c) c c _ s low was.inside;
    ran =
        λ now due c k s a low few known none was. ran_own cpus levels now due c
        (k + 1) s a low known none was;
    drained_all = λ now due c s low was. climbs cpus levels now due c s was;
    looks = λ now due c level s low below is was. looks_there cpus levels now due c level s was;
    looks_not =
        λ now due c level s low below not was. looks_no_more cpus levels now due c level s not was;
    top_looked = λ now due c s low was. top_seen cpus levels now due c s was;
    named_none =
        λ now due c level n tried s low none was. none_more cpus levels now due c level
        (suc n) s none was;
    none_left = λ now due c level tried s low was. all_tried cpus levels now due c level s was;
    taken =
        λ now due c level n tried d s low is was. takes cpus levels now due c level n d s is was;
    drained_for =
        λ now due c level n tried d s low was. drains_taken cpus levels now due c level n d s was;
    out_for =
        λ now due c level n tried d s low was. out_taken cpus levels now due c level n d s was;
    ran_for =
        λ now due c level n tried d s a low known none was. ran_taken cpus levels now due c level n
        d s a low known none was;
    let_go = λ now due c level n tried d s low was. lets_go cpus levels now due c level n d s was;
    ended = λ now due c s low is was. ends_one cpus levels now due c s low is was;
    interrupted = λ now due s was. ends_all cpus levels now due s was;
    armed =
        λ now c s a low known online active none was. arms cpus levels now s was c a low known
        online none;
    cancelled = λ now s held a is was. cancels cpus levels now s was held a is;
    idled =
        λ now c s low online active was. idles cpus levels now Rested rested_of_bases c low s was;
    woken = λ now c s low online idle was. wakes cpus levels now Rested rested_of_bases c low s was;
    come_online = λ now c s low offline was. comes_online cpus levels now c s low offline was;
    gone_offline =
        λ now c s low online active others was. goes_offline cpus levels now s was c low others;
    handed_on = λ now c d s low does is was. hands now c d s is was;
    none_queued =
        λ now c s low none was. left_empty cpus levels now c s
        (empty_by (bases_at s c) (omega (arith, none))) was;
    no_controller =
        λ now c s low none was. absurd (has_controller cpus levels now (Leaves c) s was.quiet none);
    controlling = λ now from d s low is was. controls_leaving cpus levels now from d s is was;
    moved = λ now from to n s m low is was. moves_one cpus levels now from to n s m low is was;
    moved_none =
        λ now from to n s low none was. left_empty cpus levels now from s
        (none_moves cpus levels now from to s none) was.leaving;
    all_moved =
        λ now from to s low was. left_empty cpus levels now from s
        (empty_by (bases_at s from) was.few) was.leaving;
    still_online = λ now c s online was. absurd (both_ways (cpu_at s c).online was.gone online);
    was_offline = λ now c s low off was. leaves_again cpus levels now c s off was;
  }

-- WHAT IS KEPT says that each timer is in its jiffy
owns_by : (timer c now : ℕ) (owner : ℕ → ℕ) (b : CpuBases) (o : Option (Class × Item))
    → found_in timer b ≡ o
    → IsCpu now c owner b → is_some (option_map (λ (found : Class × Item). found.0) o) ≡ true
    → owner timer ≡ c
owns_by timer c now owner b None at cpu is = absurd (false≢true is)
owns_by timer c now owner b (Some (class, item)) at cpu is =
    let there = found_at timer class item b at in
    let own =
    item_holds (IsItemOf owner c) timer (base_of class b).items item
    (cpu.items class).all there.found in
    ap owner (sym there.same) ∙ own

none_there : (items : List Item) → All (λ (item : Item). ⊥) items → items ≡ []
none_there [] none = refl
none_there (item ∷ items) none = absurd (none 0 item (omega arith))

module _ (cpus levels now : ℕ) (s : State) (quiet : Between cpus levels now s)
    (kept : IsKept Nobody (Unit {0}) s) where
  low_in : (c : ℕ) → c < cpu_count s → c < cpus
  low_in c low = let count = quiet.holds.count in omega (arith, low, count)

  recorded_once : AreRecordedOnce s
  recorded_once = record {
    recorded = λ c low. (quiet.holds.each c (low_in c low)).cpu.told;
    queued_on_one = λ timer c d c_low d_low on_c on_d.
        sym (owns_by timer c s.clock quiet.holds.owner (bases_at s c)
        (found_in timer (bases_at s c)) refl (quiet.holds.each c (low_in c c_low)).cpu on_c)
        ∙ owns_by timer d s.clock quiet.holds.owner (bases_at s d)
        (found_in timer (bases_at s d)) refl (quiet.holds.each d (low_in d d_low)).cpu on_d;
  }

  pub in_its_jiffy : InItsJiffy s
  in_its_jiffy = record {
    journals = recorded_once;
    none_due = λ c low online. (
        let waking = (quiet.holds.each c (low_in c low)).is.waking online in
        record {
          pinned = λ k d below. (let at = waking.pinned k d below in omega (arith, at));
          global = λ k d below. (let at = waking.global k d below in omega (arith, at));
        });
    none_passed = λ c low online. none_passed cpus levels now s quiet kept c (low_in c low) online;
    none_offline =
        λ c class low off. none_there (base_of class (bases_at s c)).items
        ((quiet.holds.each c (low_in c low)).is.away off class);
  }

-- THE LAW
module _ (jobs : Replies) (script : Script) (is : IsScript script) where
  abbrev tree : Shape
  tree = tree_for script

  abbrev pub Known : State → Type 0
  Known s = (now : ℕ) × Whole tree now s

  pub comes_on : (now next : ℕ) (s : State) → Between (cpu_count_of tree) (level_count_of tree) now s
      → Known s → now < next
      → next ≤ script.end → next ≤ max (s.clock + 1) (next_interrupt s)
      → Begun (cpu_count_of tree) (level_count_of tree) next
      (having_interrupt plain_rules (at_clock next s)) 0 (at_clock next s)
  comes_on now next s quiet known later by_end no_later =
      let clock = quiet.at in
      let early = is.early_end in
      comes (cpu_count_of tree) (level_count_of tree) now next s quiet known.1.kept
      (omega (arith, clock, later))
      (omega (arith, by_end, early)) no_later

  pub few_timers : script.timers ≤ 2 ^ 16
  few_timers = let few = is.few_timers in omega (arith, few)

  law : AfterEachMoment InItsJiffy jobs script
  law =
      All-weaker
      (λ (u : Turn State).
      ((now : ℕ) × Between (cpu_count_of tree) (level_count_of tree) now u.played.state)
      × Known u.played.state)
      (λ u. InItsJiffy u.played.state)
      (λ u both. in_its_jiffy (cpu_count_of tree) (level_count_of tree) both.0.0 u.played.state
      both.0.1 both.1.1.kept)
      (play_turns jobs script)
      (course_kept jobs (cpu_count_of tree) (level_count_of tree) script.end script.version
      script.timers few_timers
      (Keep (cpu_count_of tree) (level_count_of tree))
      (course (cpu_count_of tree) (level_count_of tree)) Known comes_on
      (script.end + 1) 0 script.moments (start tree script.timers) is.moments
      (moments_rise script is) (omega arith)
      (first_begun script is) (kept_after_each jobs script is))

pub in_its_jiffy_after_each : InItsJiffyAfterEach
in_its_jiffy_after_each jobs script is = law jobs script is
