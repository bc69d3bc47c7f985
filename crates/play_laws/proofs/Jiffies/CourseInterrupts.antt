-- what is kept holds after each interrupt
use Rattle.std.proofs.Common.{◌≡◌, ℕ, zero, suc, ◌+◌, ◌<◌, List, [], ◌∷◌, Bool, true, false}
use Rattle.std.proofs.Common.{Option, Some, None, refl, sym, ap, ◌∙◌, subst, arith, zero-add}
use Rattle.std.proofs.Common.{◌≤◌}
use Rattle.std.specs.Prelude.{All}
use Rattle.std.specs.Ordering.{nat_cmp}
use Rattle.std.specs.FinSet as set
use Rattle.std.proofs.lemmas.List.Elements.{All-head, All-tail}
use Rattle.tm_base.specs.declared.names.Class.{Class}
use Rattle.tm_base.specs.declared.names.Class.TheVariants.{Global}
use Rattle.job_table.specs.declared.jobs.JobReply.{JobReply}
use Rattle.job_table.specs.declared.jobs.JobReply.TheVariants as replies
use Rattle.wheel_core.specs.declared.item.Item.{Item}
use Rattle.play_rules.specs.declared.asks.Arming.{Arming}
use Rattle.play_rules.specs.declared.asks.Queued.{Queued}
use Rattle.play_rules.specs.Parts.{Played, and_then}
use Rattle.play_rules.specs.State.{State, cpu_count}
use Rattle.play_rules.specs.Hierarchy.{looks_after, named}
use Rattle.play_rules.specs.Timers.{armed_on, drained_on, where_queued}
use Rattle.play_rules.specs.Interrupts.{Replies, again, answered, arming_again, drain, drains}
use Rattle.play_rules.specs.Interrupts.{interrupt, interrupt_where, interrupts, job_call, look}
use Rattle.play_rules.specs.Interrupts.{look_at, look_where, looks, run_jobs, try}
use Rattle.play_rules.specs.Play.{plain_rules}
use Rattle.play_laws.proofs.Shape.Shape.{Stage, begun, between, climbed, looked, looking, nth_class, own}
use Rattle.play_laws.proofs.Shape.Shape.{running}
use Rattle.play_laws.proofs.Jiffies.Course.{IsArmingIn, IsItemIn, KeepsCourse}

module _ (jobs : Replies) where
  -- THE JOBS that a drain hands out keep what arming on the runner keeps
  module _ (runner : ℕ) (P : State → Type 0)
      (arms : (s : State) (a : Arming) → IsArmingIn a → where_queued s a.timer.0 ≡ None → P s
      → P (armed_on s runner a).state)
    where
      again_kept : (o : Option Queued) (item : Item) (class : Class) (delay : ℕ) (s : State)
          → IsItemIn item → where_queued s item.id ≡ o → P s
          → P (again plain_rules o runner item class delay s).state
      again_kept None item class delay s known none holds =
          arms s (arming_again item class delay)
          (record { timer = known; delay = omega arith }) none holds
      again_kept (Some held) item class delay s known there holds = holds

      answer_kept : (reply : JobReply) (item : Item) (s : State) → IsItemIn item
          → P s → P (answered plain_rules reply runner item s).state
      answer_kept replies.Done item s known holds = holds
      answer_kept (replies.Mark n) item s known holds = holds
      answer_kept (replies.Again class delay) item s known holds =
          again_kept (where_queued s item.id) item class delay s known refl holds

      jobs_kept : (home : ℕ) (items : List Item) (s : State) → All IsItemIn items → P s
          → P (run_jobs jobs plain_rules home runner items s).state
      unfolding run_jobs
      jobs_kept home [] s known holds = holds
      jobs_kept home (item ∷ items) s known holds =
          let this = All-head IsItemIn item items known in
          jobs_kept home items _ (All-tail IsItemIn item items known)
          (answer_kept (jobs item.job (job_call plain_rules s runner item)) item s this holds)

  module _ (cpus levels : ℕ) (P : (now : ℕ) → Stage → State → Type 0)
      (keeps : KeepsCourse cpus levels P) (now : ℕ) (due : set.FinSet nat_cmp) (c : ℕ)
      (low : c < cpus) where
    -- its own bases
    own_kept : (k : ℕ) (s : State) → k < 3 → P now (own due c k) s
        → P now (own due c (k + 1)) (drain jobs plain_rules c (nth_class k) c s).state
    own_kept k s few holds =
        jobs_kept c (P now (own due c (k + 1)))
        (λ t a known none at. keeps.ran now due c k t a low few known none at) c
        (drained_on s c (nth_class k) c).items (drained_on s c (nth_class k) c).state
        (keeps.out now due c k s low few holds) (keeps.drained now due c k s low few holds)

    drains_kept : (s : State) → P now (own due c 0) s
        → P now (climbed due c 0) (drains jobs plain_rules c s).state
    drains_kept s holds =
        let first = own_kept 0 s (omega arith) holds in
        let second = own_kept 1 _ (omega arith) first in
        let third = own_kept 2 _ (omega arith) second in
        keeps.drained_all now due c _ low third

    -- a CPU that is tried
    pub try_kept : (level n : ℕ) (tried : set.FinSet nat_cmp) (d : ℕ) (s : State)
        → named s c level ≡ Some d → P now (looking due c level (suc n) tried) s
        → P now (looking due c level n (set.insert tried d)) (try jobs plain_rules c d s).state
    try_kept level n tried d s is holds =
        let took = keeps.taken now due c level n tried d s low is holds in
        let out = drained_on s d Global c in
        keeps.let_go now due c level n tried d _ low
        (jobs_kept c (P now (running due c level n tried d))
        (λ t a known none at. keeps.ran_for now due c level n tried d t a low known none at) d
        out.items out.state
        (keeps.out_for now due c level n tried d s low took)
        (keeps.drained_for now due c level n tried d s low took))

    -- a turn at a level, where the turns behind it keep it
    look_at_kept : (o : Option ℕ) (level n : ℕ) (tried : set.FinSet nat_cmp) (s : State)
        → named s c level ≡ o
        → P now (looking due c level (suc n) tried) s
        → ((more : set.FinSet nat_cmp) (t : State) → P now (looking due c level n more) t
        → P now (climbed due c (level + 1)) (look jobs plain_rules n c level more t).state)
        → P now (climbed due c (level + 1))
        (look_at jobs plain_rules o c (look jobs plain_rules n c level) tried s).state
    look_at_kept None level n tried s none holds rest =
        keeps.named_none now due c level n tried s low none holds
    look_at_kept (Some d) level n tried s is holds rest =
        rest (set.insert tried d) _ (try_kept level n tried d s is holds)

    look_kept : (n level : ℕ) (tried : set.FinSet nat_cmp) (s : State)
        → P now (looking due c level n tried) s
        → P now (climbed due c (level + 1)) (look jobs plain_rules n c level tried s).state
    unfolding look
    look_kept zero level tried s holds = keeps.none_left now due c level tried s low holds
    look_kept (suc n) level tried s holds =
        look_at_kept (named s c level) level n tried s refl holds
        (λ more t at. look_kept n level more t at)

    -- a level of the look, where the levels above it keep it
    level_kept : (b : Bool) (level : ℕ) (above : State → Played State) (s : State) → level < levels
        → looks_after s c level ≡ b → P now (climbed due c level) s
        → ((t : State) → P now (climbed due c (level + 1)) t → P now (looked due c) (above t).state)
        → P now (looked due c) (look_where jobs plain_rules b c level above s).state
    level_kept false level above s below is holds rest =
        keeps.looks_not now due c level s low below is holds
    level_kept true level above s below is holds rest =
        rest _
        (look_kept (cpu_count s) level set.empty s
        (keeps.looks now due c level s low below is holds))

    looks_kept : (n level : ℕ) (s : State) → level + n ≡ levels → P now (climbed due c level) s
        → P now (looked due c) (looks jobs plain_rules n c level s).state
    unfolding looks
    looks_kept zero level s all holds =
        let same : level ≡ levels = omega (arith, all) in
        keeps.top_looked now due c s low (subst (λ k. P now (climbed due c k) s) same holds)
    looks_kept (suc n) level s all holds =
        level_kept (looks_after s c level) level (looks jobs plain_rules n c (level + 1)) s
        (omega (arith, all)) refl holds
        (λ t at. looks_kept n (level + 1) t (omega (arith, all)) at)

    -- as far as it looks after its groups it climbs
    climb_one : (n level : ℕ) (s : State) → looks_after s c level ≡ true
        → looks jobs plain_rules (suc n) c level s
        ≡ and_then (look jobs plain_rules (cpu_count s) c level set.empty s)
        (looks jobs plain_rules n c (level + 1))
    unfolding looks
    climb_one n level s is =
        ap (λ b. look_where jobs plain_rules b c level (looks jobs plain_rules n c (level + 1)) s)
        is

    pub climbs_to : (n level : ℕ) (s : State) → level + n ≤ levels → P now (climbed due c level) s
        → ((l : ℕ) → l < n
        → looks_after (looks jobs plain_rules l c level s).state c (level + l) ≡ true)
        → P now (climbed due c (level + n)) (looks jobs plain_rules n c level s).state
    unfolding looks
    climbs_to zero level s within holds up =
        let same : level ≡ level + 0 = omega arith in
        subst (λ k. P now (climbed due c k) s) same holds
    climbs_to (suc n) level s within holds up =
        let here : looks_after s c level ≡ true =
        subst (λ k. looks_after s c k ≡ true) (add_none level) (up 0 (omega arith)) in
        let after = (look jobs plain_rules (cpu_count s) c level set.empty s).state in
        let next = look_kept (cpu_count s) level set.empty s
        (keeps.looks now due c level s low (omega (arith, within)) here holds) in
        subst (λ (p : Played State). P now (climbed due c (level + suc n)) p.state)
        (sym (climb_one n level s here))
        (subst
        (λ k. P now (climbed due c k) (looks jobs plain_rules n c (level + 1) after).state)
        (add_one level n)
        (climbs_to n (level + 1) after (omega (arith, within)) next
        (λ l below.
        subst (λ k. looks_after (looks jobs plain_rules l c (level + 1) after).state c k ≡ true)
        (sym (add_one level l))
        (subst (λ (p : Played State). looks_after p.state c (level + suc l) ≡ true)
        (climb_one l level s here) (up (suc l) (omega (arith, below)))))))
      where
        add_none : (k : ℕ) → k + 0 ≡ k
        add_none k = omega arith

        add_one : (k m : ℕ) → (k + 1) + m ≡ k + suc m
        add_one k m = omega arith

    -- where a CPU that is due comes to look, and to its group at a level
    pub comes_to_look : (s : State) → set.contains due c ≡ true → P now (begun due c) s
        → P now (climbed due c 0) (drains jobs plain_rules c s).state
    comes_to_look s is holds = drains_kept s (keeps.entered now due c s low is holds)

    interrupt_kept : (s : State) → set.contains due c ≡ true → P now (begun due c) s
        → P now (begun due (c + 1)) (interrupt jobs plain_rules c s).state
    interrupt_kept s is holds =
        let drained = drains_kept s (keeps.entered now due c s low is holds) in
        let all : 0 + plain_rules.levels s ≡ levels =
        zero-add (plain_rules.levels s) ∙ keeps.all_levels now due c s low holds in
        keeps.ended now due c _ low is (looks_kept (plain_rules.levels s) 0 _ all drained)

    pub turn_kept : (b : Bool) (s : State) → set.contains due c ≡ b → P now (begun due c) s
        → P now (begun due (c + 1)) (interrupt_where jobs plain_rules b c s).state
    turn_kept false s is holds = keeps.passed now due c s low is holds
    turn_kept true s is holds = interrupt_kept s is holds

  -- all interrupts of a moment
  module _ (cpus levels : ℕ) (P : (now : ℕ) → Stage → State → Type 0)
      (keeps : KeepsCourse cpus levels P) (now : ℕ) (due : set.FinSet nat_cmp) where
    from_kept : (n c : ℕ) (s : State) → c + n ≡ cpus → P now (begun due c) s
        → P now (begun due cpus) (interrupts jobs plain_rules n c due s).state
    unfolding interrupts
    from_kept zero c s all holds =
        let same : c ≡ cpus = omega (arith, all) in subst (λ k. P now (begun due k) s) same holds
    from_kept (suc n) c s all holds =
        from_kept n (c + 1) _ (omega (arith, all))
        (turn_kept cpus levels P keeps now due c (omega (arith, all))
        (set.contains due c) s refl holds)

    pub interrupts_kept : (s : State) → P now (begun due 0) s
        → P now between (interrupts jobs plain_rules (cpu_count s) 0 due s).state
    interrupts_kept s holds =
        let all : 0 + cpu_count s ≡ cpus =
        zero-add (cpu_count s) ∙ keeps.all_cpus now due s holds in
        keeps.interrupted now due _ (from_kept (cpu_count s) 0 s all holds)

    -- those of the first n CPUs
    pub first_kept : (n c : ℕ) (s : State) → c + n ≤ cpus → P now (begun due c) s
        → P now (begun due (c + n)) (interrupts jobs plain_rules n c due s).state
    unfolding interrupts
    first_kept zero c s within holds =
        let same : c ≡ c + 0 = omega arith in subst (λ k. P now (begun due k) s) same holds
    first_kept (suc n) c s within holds =
        let same : (c + 1) + n ≡ c + suc n = omega arith in
        let next = turn_kept cpus levels P keeps now due c (omega (arith, within))
        (set.contains due c) s refl holds in
        subst
        (λ k. P now (begun due k)
        (interrupts jobs plain_rules n (c + 1) due
        (interrupt_where jobs plain_rules (set.contains due c) c s).state).state)
        same (first_kept n (c + 1) _ (omega (arith, within)) next)
