-- for crates above: no interrupt changes who is online
use Rattle.std.proofs.Common.{◌≡◌, ℕ, zero, suc, ◌+◌, List, [], ◌∷◌, Bool, true, false}
use Rattle.std.proofs.Common.{Option, Some, None, refl, ap, ◌∙◌, inl, inr, min}
use Rattle.std.specs.Prelude.{if◌then◌else◌}
use Rattle.std.specs.Ordering.{nat_cmp}
use Rattle.std.specs.FinSet as set
use Rattle.std.proofs.lemmas.Bool.{cases_lt}
use Rattle.std.proofs.lemmas.List.{set_past}
use Rattle.tm_base.specs.declared.names.TheConstants.{NEVER}
use Rattle.tm_base.specs.declared.names.Class.{Class}
use Rattle.tm_base.specs.declared.names.Class.TheVariants.{Pinned, Global, Deferrable}
use Rattle.job_table.specs.declared.jobs.JobReply.{JobReply}
use Rattle.job_table.specs.declared.jobs.JobReply.TheVariants as replies
use Rattle.wheel_core.specs.declared.item.Item.{Item}
use Rattle.play_rules.specs.declared.asks.Queued.{Queued}
use Rattle.play_rules.specs.Parts.{Played}
use Rattle.play_rules.specs.State.{Cpu, State, cpu_at, cpu_count, has_group, with_cpu}
use Rattle.play_rules.specs.Hierarchy.{duty, looks_after, named, next_of, pin_of, reevaluated}
use Rattle.play_rules.specs.Hierarchy.{told_again}
use Rattle.play_rules.specs.Timers.{armed_bases, drained_on, where_queued}
use Rattle.play_rules.specs.Interrupts.{Replies, again, answered, arming_again, drain, drains}
use Rattle.play_rules.specs.Interrupts.{having_interrupt, interrupt, interrupt_where, interrupts}
use Rattle.play_rules.specs.Interrupts.{job_call, look, look_at, look_where, looks, run_jobs, try}
use Rattle.play_rules.specs.Play.{plain_rules}
use Rattle.play_laws.proofs.Answered.Settles.{due_online}
use Rattle.play_laws.proofs.Answered.States.{written_alike}
use Rattle.play_laws.specs.Jiffies.Jiffies.{RunnersAreOnline}

-- THE SAME CPUs are online
abbrev SameOnline : (s t : State) → Type 0
SameOnline s t = (d : ℕ) → (cpu_at t d).online ≡ (cpu_at s d).online

one_written : (s : State) (c : ℕ) (x : Cpu) → x.online ≡ (cpu_at s c).online
    → SameOnline s (with_cpu s c x)
one_written s c x same d =
    elim (cases_lt c (cpu_count s)) [
      | inl low ↦ written_alike s c x low (λ (y : Cpu). y.online) same d
      | inr beyond ↦
          ap (λ cpus. (cpu_at (record s { cpus = cpus }) d).online) (set_past s.cpus c x beyond)
    ]

module _ (jobs : Replies) where
  -- JOBS
  again_online : (o : Option Queued) (runner : ℕ) (item : Item) (class : Class) (delay : ℕ)
      (s : State)
      → SameOnline s (again plain_rules o runner item class delay s).state
  again_online None runner item class delay s =
      one_written s runner
      (record (cpu_at s runner) { bases = armed_bases s runner (arming_again item class delay) })
      refl
  again_online (Some held) runner item class delay s = λ d. refl

  answer_online : (reply : JobReply) (runner : ℕ) (item : Item) (s : State)
      → SameOnline s (answered plain_rules reply runner item s).state
  answer_online replies.Done runner item s = λ d. refl
  answer_online (replies.Mark n) runner item s = λ d. refl
  answer_online (replies.Again class delay) runner item s =
      again_online (where_queued s item.id) runner item class delay s

  jobs_online : (home runner : ℕ) (items : List Item) (s : State)
      → SameOnline s (run_jobs jobs plain_rules home runner items s).state
  unfolding run_jobs
  jobs_online home runner [] s = λ d. refl
  jobs_online home runner (item ∷ items) s = λ d.
      jobs_online home runner items _ d
      ∙ answer_online (jobs item.job (job_call plain_rules s runner item)) runner item s d

  drain_online : (home : ℕ) (class : Class) (runner : ℕ) (s : State)
      → SameOnline s (drain jobs plain_rules home class runner s).state
  drain_online home class runner s = λ d.
      jobs_online home runner (drained_on s home class runner).items _ d
      ∙ one_written s home (record (cpu_at s home) { bases = _ }) refl d

  -- THE LOOK
  again_told : (s : State) (c : ℕ) → SameOnline s (told_again s c)
  again_told s c =
      one_written s c (record (cpu_at s c) { told = if has_group s c then next_of s c else NEVER })
      refl

  try_online : (c d : ℕ) (s : State) → SameOnline s (try jobs plain_rules c d s).state
  try_online c d s = λ e.
      again_told (drain jobs plain_rules d Global c s).state d e
      ∙ drain_online d Global c s e

  look_at_online : (o : Option ℕ) (n c level : ℕ) (tried : set.FinSet nat_cmp) (s : State)
      → ((more : set.FinSet nat_cmp) (t : State)
      → SameOnline t (look jobs plain_rules n c level more t).state)
      → SameOnline s (look_at jobs plain_rules o c (look jobs plain_rules n c level) tried s).state
  look_at_online None n c level tried s rest = λ d. refl
  look_at_online (Some d) n c level tried s rest =
      λ e. rest (set.insert tried d) _ e ∙ try_online c d s e

  look_online : (n c level : ℕ) (tried : set.FinSet nat_cmp) (s : State)
      → SameOnline s (look jobs plain_rules n c level tried s).state
  unfolding look
  look_online zero c level tried s = λ d. refl
  look_online (suc n) c level tried s =
      look_at_online (named s c level) n c level tried s (λ more t. look_online n c level more t)

  level_online : (b : Bool) (c level : ℕ) (above : State → Played State) (s : State)
      → ((t : State) → SameOnline t (above t).state)
      → SameOnline s (look_where jobs plain_rules b c level above s).state
  level_online false c level above s rest = λ d. refl
  level_online true c level above s rest = λ d.
      rest _ d ∙ look_online (cpu_count s) c level set.empty s d

  looks_online : (n c level : ℕ) (s : State)
      → SameOnline s (looks jobs plain_rules n c level s).state
  unfolding looks
  looks_online zero c level s = λ d. refl
  looks_online (suc n) c level s =
      level_online (looks_after s c level) c level (looks jobs plain_rules n c (level + 1)) s
      (λ t. looks_online n c (level + 1) t)

  -- INTERRUPTS
  drains_online : (c : ℕ) (s : State) → SameOnline s (drains jobs plain_rules c s).state
  drains_online c s = λ d.
      drain_online c Deferrable c _ d ∙ drain_online c Global c _ d ∙ drain_online c Pinned c s d

  ended_by : (b : Bool) (c : ℕ) (s : State) → SameOnline s (if b then reevaluated s c else s)
  ended_by true c s = λ d.
      one_written (told_again s c) c
      (record (cpu_at (told_again s c) c)
      { wakeup = min (pin_of (told_again s c) c) (duty (told_again s c) c) }) refl d
      ∙ again_told s c d
  ended_by false c s = λ d. refl

  interrupt_online : (c : ℕ) (s : State) → SameOnline s (interrupt jobs plain_rules c s).state
  interrupt_online c s = λ d.
      ended_by
      (cpu_at
      (looks jobs plain_rules (plain_rules.levels s) c 0
      (drains jobs plain_rules c s).state).state c).idle c _ d
      ∙ looks_online (plain_rules.levels s) c 0 _ d ∙ drains_online c s d

  where_online : (b : Bool) (c : ℕ) (s : State)
      → SameOnline s (interrupt_where jobs plain_rules b c s).state
  where_online false c s = λ d. refl
  where_online true c s = interrupt_online c s

  all_online : (n c : ℕ) (due : set.FinSet nat_cmp) (s : State)
      → SameOnline s (interrupts jobs plain_rules n c due s).state
  unfolding interrupts
  all_online zero c due s = λ d. refl
  all_online (suc n) c due s = λ d.
      all_online n (c + 1) due _ d ∙ where_online (set.contains due c) c s d

pub runners_are_online : RunnersAreOnline
runners_are_online jobs s n c is =
    all_online jobs n 0 (having_interrupt plain_rules s) s c ∙ due_online s c is
