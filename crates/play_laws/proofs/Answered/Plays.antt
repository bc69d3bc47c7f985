-- for crates above: the rules of the plain machine keep what carries the law at each stage, and so
-- it holds after each
-- moment of every script's play
use Rattle.std.proofs.Common.{◌≡◌, ℕ, ◌+◌, ◌<◌, ◌≤◌, Bool, true, false, Some, None, refl, sym, ap}
use Rattle.std.proofs.Common.{◌∙◌, arith}
use Rattle.std.specs.Prelude.{if◌then◌else◌, is_some, not}
use Rattle.std.specs.Ordering.{nat_cmp}
use Rattle.std.specs.FinSet as set
use Rattle.std.proofs.lemmas.Bool.{and_parts, both_ways, false≢true, not_from_true}
use Rattle.std.proofs.lemmas.List.{length-set}
use Rattle.std.proofs.lemmas.List.Elements.{All-weaker}
use Rattle.tm_base.specs.declared.limits.TheConstants.{SCRIPT_TIME_LIMIT}
use Rattle.tm_base.specs.declared.names.Class.TheVariants.{Global}
use Rattle.tm_script.specs.declared.syntax.Script.{Script}
use Rattle.tm_script.specs.Grammar.{IsScript}
use Rattle.tree_plan.specs.Shape.{Shape}
use Rattle.tree_plan.specs.Paths.{cpu_count_of, level_count_of}
use Rattle.cpu_bases.specs.CpuBases.{CpuBases}
use Rattle.play_rules.specs.declared.asks.Arming.{Arming}
use Rattle.play_rules.specs.Rules.{Moved}
use Rattle.play_rules.specs.State.{Cpu, State, cpu_at, cpu_count, has_group, start, with_bases}
use Rattle.play_rules.specs.Hierarchy.{gone_offline, named, told_again, woken}
use Rattle.play_rules.specs.Timers.{controlling, moved_first}
use Rattle.play_rules.specs.Interrupts.{Replies, having_interrupt}
use Rattle.play_rules.specs.Moments.{Turn}
use Rattle.play_rules.specs.Operations.{last_online}
use Rattle.play_rules.specs.Play.{AfterEachMoment, at_clock, plain_rules, play_turns, successor}
use Rattle.play_laws.specs.Answered.Settled.{EachAnswered, AnsweredAfterEach}
use Rattle.play_laws.proofs.Answered.Covered.{settled}
use Rattle.play_laws.proofs.Answered.Ends.{comes_kept, controls_busy, controls_kept, ends_kept, wakes_from}
use Rattle.play_laws.proofs.Answered.Hotplug.{controller_is, handed_kept, hands_placed, others_online}
use Rattle.play_laws.proofs.Answered.Hotplug.{stays_kept}
use Rattle.play_laws.proofs.Answered.Invariant.{busy, rests}
use Rattle.play_laws.proofs.Answered.Scripts.{moments_in, moments_rise, planned_for, tree_for}
use Rattle.play_laws.proofs.Answered.Settles.{AreOnline, Begun, Inside, IsAt, Leaving, Looking, Moving}
use Rattle.play_laws.proofs.Answered.Settles.{Settles, Taking, Whole, due_online, ended_at, ended_online}
use Rattle.play_laws.proofs.Answered.Settles.{later_kept, looker_grouped, low_in, named_sleeper}
use Rattle.play_laws.proofs.Shape.Shape.{KeptByRules, Stage, nth_class}
use Rattle.play_laws.proofs.Shape.ShapeTurns.{turns_kept}
use Rattle.play_laws.proofs.Answered.Starts.{start_kept}
use Rattle.play_laws.proofs.Answered.States.{IsKept, Nobody, Only, told_kept, weaker, written_alike}
use Rattle.play_laws.proofs.Answered.Timers.{MayArm, arms_kept, bases_alike, cancels_kept, drains_kept}
use Rattle.play_laws.proofs.Answered.Timers.{moves_alike, moves_frame, moves_kept, queued_low}
use Rattle.play_laws.proofs.Answered.Wakes.{goes_kept, idles_kept}

not_resting : (x : Cpu) → x.idle ≡ false → rests x ≡ true → ⊥
not_resting x busy_now rest = both_ways x.idle busy_now (and_parts x.online x.idle rest).1

busy_not_resting : (x : Cpu) → busy x ≡ true → rests x ≡ true → ⊥
busy_not_resting x on rest =
    both_ways (not x.idle) (not_from_true x.idle (and_parts x.online x.idle rest).1)
    (and_parts x.online (not x.idle) on).1

-- WITHIN AN INTERRUPT the bases of a CPU change, and who is online stays
module _ (t : Shape) (now : ℕ) (due : set.FinSet nat_cmp) (c : ℕ) (s : State) (d : ℕ) (b : CpuBases)
    (low : d < cpu_count s) where
  online_still : AreOnline due s → AreOnline due (with_bases s d b)
  online_still online e is = bases_alike s d b low (λ x. x.online) refl e ∙ online e is

  inside_still : Inside t now due c s → IsKept (Only c) (has_group s c ≡ false) (with_bases s d b)
      → Inside t now due c (with_bases s d b)
  inside_still was kept =
      record {
        at = record { tree = was.at.tree; clock = was.at.clock };
        kept = kept;
        online = online_still was.online;
      }

  taking_still : (e : ℕ) → Taking t now due c e s
      → IsKept (Only c) (has_group s c ≡ false) (with_bases s d b)
      → Taking t now due c e (with_bases s d b)
  taking_still e was kept = record {
    looking = record {
      inside = inside_still was.looking.inside kept;
      grouped = was.looking.grouped;
    };
    low = (let many = length-set s.cpus d (record (cpu_at s d) { bases = b }) in let below =
        was.low in omega (arith, below, many));
    sleeps = bases_alike s d b low rests refl e ∙ was.sleeps;
  }

whole_at : (t : Shape) (now : ℕ) (s : State) → IsAt t now s → IsKept Nobody (Unit {0}) s
    → Whole t now s
whole_at t now s at kept = record { at = at; kept = kept }

module _ (t : Shape) (timers end : ℕ) (in_time : end < SCRIPT_TIME_LIMIT) where
  abbrev P : ℕ → Stage → State → Type 0
  P now stage s = Settles t now stage s

  comes : (now next : ℕ) (s : State) → Whole t now s → now < next → next ≤ end
      → Begun t next (having_interrupt plain_rules (at_clock next s)) (at_clock next s)
  comes now next s was later by_end =
      let is = was.at.clock in
      record {
        whole = record {
          at = record { tree = was.at.tree; clock = refl };
          kept = later_kept s next (omega (arith, is, later)) (omega (arith, by_end, in_time))
              was.kept;
        };
        online = due_online (at_clock next s);
      }

  entered : (now : ℕ) (due : set.FinSet nat_cmp) (c : ℕ) (s : State) → Begun t now due s
      → Inside t now due c s
  entered now due c s was = record {
    at = was.whole.at;
    kept = weaker Nobody (Only c) (Unit {0}) (has_group s c ≡ false) s (λ d none. absurd none)
        (λ out. tt) was.whole.kept;
    online = was.online;
  }

  drained : (now : ℕ) (due : set.FinSet nat_cmp) (c k : ℕ) (s : State) → c < cpu_count_of t
      → Inside t now due c s
      → Inside t now due c (plain_rules.drained s c (nth_class k) c).state
  drained now due c k s low was =
      let here = low_in t now (Only c) (has_group s c ≡ false) s c was.at was.kept low in
      inside_still t now due c s c _ here was
      (drains_kept (Only c) (has_group s c ≡ false) s was.kept c (nth_class k) c here)

  ran : (now : ℕ) (due : set.FinSet nat_cmp) (c : ℕ) (s : State) (a : Arming) → c < cpu_count_of t
      → Inside t now due c s
      → Inside t now due c (plain_rules.armed s c a).state
  ran now due c s a low was =
      let here = low_in t now (Only c) (has_group s c ≡ false) s c was.at was.kept low in
      inside_still t now due c s c _ here was
      (arms_kept (Only c) (has_group s c ≡ false) s was.kept c a here
      (λ free. absurd (free refl)))

  taken : (now : ℕ) (due : set.FinSet nat_cmp) (c level d : ℕ) (s : State)
      → named s c level ≡ Some d
      → Looking t now due c s → Taking t now due c d s
  taken now due c level d s is was =
      let sleeper = named_sleeper (Only c) (has_group s c ≡ false) s c level d was.inside.kept is in
      record { looking = was; low = sleeper.low; sleeps = sleeper.sleeps }

  drained_for : (now : ℕ) (due : set.FinSet nat_cmp) (c d : ℕ) (s : State) → Taking t now due c d s
      → Taking t now due c d (plain_rules.drained s d Global c).state
  drained_for now due c d s was =
      taking_still t now due c s d _ was.low d was
      (drains_kept (Only c) (has_group s c ≡ false) s was.looking.inside.kept d Global c was.low)

  ran_for : (now : ℕ) (due : set.FinSet nat_cmp) (c d : ℕ) (s : State) (a : Arming)
      → c < cpu_count_of t
      → Taking t now due c d s → Taking t now due c d (plain_rules.armed s c a).state
  ran_for now due c d s a low was =
      let inside = was.looking.inside in
      let here = low_in t now (Only c) (has_group s c ≡ false) s c inside.at inside.kept low in
      taking_still t now due c s c _ here d was
      (arms_kept (Only c) (has_group s c ≡ false) s inside.kept c a here
      (λ free. absurd (free refl)))

  let_go : (now : ℕ) (due : set.FinSet nat_cmp) (c d : ℕ) (s : State) → Taking t now due c d s
      → Looking t now due c (told_again s d)
  let_go now due c d s was =
      let inside = was.looking.inside in
      record {
        inside = record {
          at = record { tree = inside.at.tree; clock = inside.at.clock };
          kept = told_kept (Only c) (has_group s c ≡ false) s inside.kept d was.low was.sleeps
              (λ out. absurd (both_ways (has_group s c) out was.looking.grouped));
          online = λ e is. written_alike s d (record (cpu_at s d) { told = _ }) was.low
              (λ x. x.online) refl e ∙ inside.online e is;
        };
        grouped = was.looking.grouped;
      }

  ended : (now : ℕ) (due : set.FinSet nat_cmp) (c : ℕ) (s : State) → c < cpu_count_of t
      → set.contains due c ≡ true
      → Inside t now due c s → Begun t now due (plain_rules.ended s c)
  ended now due c s low is was =
      let here = low_in t now (Only c) (has_group s c ≡ false) s c was.at was.kept low in
      record {
        whole = record {
          at = ended_at s c here t now was.at;
          kept = ends_kept s c here was.kept (was.online c is);
        };
        online = λ d there. ended_online s c here d ∙ was.online d there;
      }

  -- OPERATIONS
  here_in : (now : ℕ) (s : State) (c : ℕ) → Whole t now s → c < cpu_count_of t → c < cpu_count s
  here_in now s c was low = low_in t now Nobody (Unit {0}) s c was.at was.kept low

  gone : (now c : ℕ) (s : State) → c < cpu_count_of t → last_online plain_rules s c ≡ None
      → Whole t now s
      → Leaving t now c (gone_offline s c)
  gone now c s low none was =
      let here = here_in now s c was low in
      record {
        at = record { tree = was.at.tree; clock = was.at.clock };
        kept = goes_kept s c here was.kept;
        others = others_online s c here was.kept none;
      }

  handed : (now c d : ℕ) (s : State) → successor s c ≡ Some d → Leaving t now c s
      → Whole t now (woken s d)
  handed now c d s is was = record {
    at = record { tree = was.at.tree; clock = was.at.clock };
    kept = handed_kept s c d was.kept is;
  }

  nobody : (now c : ℕ) (s : State) → plain_rules.hands_on s c ≡ true → successor s c ≡ None
      → Leaving t now c s
      → Whole t now s
  nobody now c s hands none was =
      absurd (false≢true (sym (ap is_some none) ∙ was.others (hands_placed s c was.kept hands)))

  -- MOVING
  control_at : (now d : ℕ) (s : State) (b : Bool) → IsAt t now s
      → IsAt t now (if b then woken s d else s)
  control_at now d s true at = record { tree = at.tree; clock = at.clock }
  control_at now d s false at = at

  control : (now d : ℕ) (s : State) → plain_rules.controller s ≡ Some d → Whole t now s
      → Moving t now d (controlling s d)
  control now d s is was =
      let to = controller_is s d is in
      let kept = controls_kept s d to.low was.kept to.online in
      let count = kept.cpus in
      let at = control_at now d s (cpu_at s d).idle was.at in
      record {
        whole = record { at = at; kept = kept };
        low = (
            let low = to.low in
            let before = was.kept.cpus in
            let same : cpu_count_of (controlling s d).tree ≡ cpu_count_of s.tree =
            ap cpu_count_of (at.tree ∙ sym was.at.tree) in
            omega (arith, low, before, count, same));
        active = controls_busy s d to.low was.kept to.online;
      }

  moves_on : (now from to : ℕ) (s : State) (m : Moved State) → from < cpu_count_of t
      → moved_first s from to ≡ Some m
      → Moving t now to s → Moving t now to m.state
  moves_on now from to s m low is was =
      let here = here_in now s from was.whole low in
      let may : MayArm Nobody s to = λ free rest. busy_not_resting (cpu_at s to) was.active rest in
      let kept = moves_kept Nobody (Unit {0}) s was.whole.kept from to here was.low may m is in
      let frame = moves_frame s from to m is in
      record {
        whole = record {
          at = record { tree = frame.0 ∙ was.whole.at.tree; clock = frame.1 ∙ was.whole.at.clock };
          kept = kept;
        };
        low = (
            let below = was.low in
            let before = was.whole.kept.cpus in
            let count = kept.cpus in
            let same = ap cpu_count_of frame.0 in
            omega (arith, below, before, count, same));
        active = moves_alike Nobody (Unit {0}) s was.whole.kept from to here was.low may busy
            (λ x b. refl) m is to ∙ was.active;
      }

  -- EACH RULE keeps it
  pub rules_keep : KeptByRules plain_rules (cpu_count_of t) timers (level_count_of t) end (λ a. Unit {0}) P
  rules_keep = record {
    clock = λ now s was. was.at.clock;
    all_cpus = λ now due s was. was.whole.kept.cpus ∙ ap cpu_count_of was.whole.at.tree;
    all_levels = λ now due c s low was. ap level_count_of was.whole.at.tree;
    comes = λ now next s was later by_end no_later. comes now next s was later by_end;
    passed = λ now due c s low is was. was;
    entered = λ now due c s low is was. entered now due c s was;
    drained = λ now due c k s low few was. drained now due c k s low was;
    known = λ now due c k s low few was n d less class delay. tt;
    ran = λ now due c k s a low few fits none was. ran now due c s a low was;
    drained_all = λ now due c s low was. was;
    looks = λ now due c level s low below is was.
        record { inside = was; grouped = looker_grouped s c level was.kept.planned is };
    looks_not = λ now due c level s low below is was. was;
    top_looked = λ now due c s low was. was;
    named_none = λ now due c level n tried s low is was. was.inside;
    none_left = λ now due c level tried s low was. was.inside;
    left_alone = λ now due c level n tried d s low is takes was. was;
    taken = λ now due c level n tried d s low is takes was. taken now due c level d s is was;
    drained_for = λ now due c level n tried d s low was. drained_for now due c d s was;
    known_for = λ now due c level n tried d s low was i x less class delay. tt;
    ran_for = λ now due c level n tried d s a low fits none was. ran_for now due c d s a low was;
    let_go = λ now due c level n tried d s low was. let_go now due c d s was;
    ended = λ now due c s low is was. ended now due c s low is was;
    interrupted = λ now due s was. was.whole;
    armed = λ now c s a low known short online active none was. record {
      at = record { tree = was.at.tree; clock = was.at.clock };
      kept = arms_kept Nobody (Unit {0}) s was.kept c a (here_in now s c was low)
          (λ free rest. not_resting (cpu_at s c) active rest);
    };
    cancelled = λ now c s held a low known online active is was. record {
      at = record { tree = was.at.tree; clock = was.at.clock };
      kept = cancels_kept Nobody (Unit {0}) s was.kept held.cpu.0 a
          (queued_low s a.timer.0 held is);
    };
    idled = λ now c s low online active later was. record {
      at = record { tree = was.at.tree; clock = was.at.clock };
      kept = idles_kept s c (here_in now s c was low) was.kept online;
    };
    woken = λ now c s low online idle was. record {
      at = record { tree = was.at.tree; clock = was.at.clock };
      kept = wakes_from s c (here_in now s c was low) was.kept online;
    };
    come_online = λ now c s low offline was. record {
      at = record { tree = was.at.tree; clock = was.at.clock };
      kept = comes_kept s c (here_in now s c was low) was.kept offline;
    };
    gone_offline = λ now c s low online active none was. gone now c s low none was;
    keeps_on = λ now c s low none was. record { at = was.at; kept = stays_kept s c was.kept none };
    no_successor = λ now c s low hands none was. nobody now c s hands none was;
    handed_on = λ now c d s low hands is was. handed now c d s is was;
    controlling = λ now from d s low offline is was. control now d s is was;
    moved = λ now from to n s m low is was. moves_on now from to s m low is was;
    moved_none = λ now from to n s low none was. was.whole;
    all_moved = λ now from to s low was. was.whole;
  }

-- THE LAW
module _ (jobs : Replies) (script : Script) (is : IsScript script) where
  abbrev tree : Shape
  tree = tree_for script

  first : Begun tree 0 (having_interrupt plain_rules (at_clock 0 (start tree script.timers)))
      (at_clock 0 (start tree script.timers))
  first =
      let kept = start_kept tree script.timers (planned_for script is) in
      record {
        whole = record { at = record { tree = refl; clock = refl }; kept = kept };
        online = due_online (at_clock 0 (start tree script.timers));
      }

  -- what carries the law holds after each moment
  pub kept_after_each : AfterEachMoment (λ s. (now : ℕ) × Whole tree now s) jobs script
  kept_after_each =
      turns_kept jobs plain_rules (cpu_count_of tree) script.timers (level_count_of tree) script.end
      (Settles tree) (λ a. Unit {0})
      (rules_keep tree script.timers script.end is.early_end) (script.end + 1) 0 script.moments
      (start tree script.timers)
      (moments_in script is) (moments_rise script is) (omega arith) first

  law : AfterEachMoment EachAnswered jobs script
  law =
      All-weaker (λ (u : Turn State). (now : ℕ) × Whole tree now u.played.state)
      (λ u. EachAnswered u.played.state)
      (λ u whole. settled u.played.state whole.1.kept) (play_turns jobs script) kept_after_each

pub settled_after_each : AnsweredAfterEach
settled_after_each jobs script is = law jobs script is
