-- the work of the interrupts of a moment: one for each CPU, and one for each timer that may go out
use Rattle.std.proofs.Common.{◌≡◌, ℕ, zero, suc, ◌+◌, ◌<◌, ◌≤◌, List, [], ◌∷◌, Bool, true, false}
use Rattle.std.proofs.Common.{Option, Some, None, refl, ◌∙◌, arith, length}
use Rattle.std.specs.Prelude.{All}
use Rattle.std.specs.Ordering.{nat_cmp}
use Rattle.std.specs.FinSet as set
use Rattle.std.proofs.lemmas.List.Elements.{All-head, All-tail}
use Rattle.tm_base.specs.declared.names.Class.{Class}
use Rattle.tm_base.specs.declared.names.Class.TheVariants.{Pinned, Global, Deferrable}
use Rattle.job_table.specs.declared.jobs.JobReply.{JobReply}
use Rattle.job_table.specs.declared.jobs.JobReply.TheVariants as replies
use Rattle.wheel_core.specs.declared.item.Item.{Item}
use Rattle.wheel_core.specs.WheelExpiry.{greatest_timeout}
use Rattle.play_rules.specs.declared.asks.Queued.{Queued}
use Rattle.play_rules.specs.Parts.{Played, and_then, counting, silent}
use Rattle.play_rules.specs.State.{State, cpu_count}
use Rattle.play_rules.specs.Hierarchy.{looks_after, named, told_again}
use Rattle.play_rules.specs.Timers.{drained_on, where_queued}
use Rattle.play_rules.specs.Interrupts.{Replies, again, answered, arming_again, drain, drains}
use Rattle.play_rules.specs.Interrupts.{interrupt, interrupt_where, interrupts, job_call, look}
use Rattle.play_rules.specs.Interrupts.{look_at, look_where, looks, run_jobs, try}
use Rattle.play_rules.specs.Play.{ended as interrupt_ended, plain_rules}
use Rattle.play_laws.proofs.Jiffies.Sleepers.{named_is}
use Rattle.play_laws.proofs.Work.Alikes.{alike_homes, ended_alike, told_alike}
use Rattle.play_laws.proofs.Work.Comings.{armed_later, arms_home}
use Rattle.play_laws.proofs.Work.Drains.{drain_paid, out_known}
use Rattle.play_laws.proofs.Work.Homes.{AreHomes, count_of}
use Rattle.play_laws.proofs.Work.Whole.{again_fits}

module _ (timers cpus levels now : ℕ) (soon : now ≤ greatest_timeout) where
  -- at this time, and so many timers may still go out
  pub record Stands (may : ℕ → Bool) (s : State) : Type 0 where
    pub at : s.clock ≡ now
    pub homes : AreHomes timers cpus levels may s

  -- A PART's work, and the timers that may go out after it, come to so much at most
  pub record Pays (most : ℕ) (p : Played State) : Type 0 where
    pub after : ℕ → Bool
    pub stands : Stands after p.state
    pub paid : p.work + count_of timers after ≤ most

  -- one part, and then another one, which has so much work besides
  then_pays : (most more : ℕ) (p : Played State) (f : State → Played State) → Pays most p
      → ((may : ℕ → Bool) → Stands may p.state → Pays (count_of timers may + more) (f p.state))
      → Pays (most + more) (and_then p f)
  then_pays most more p f first rest =
      let second = rest first.after first.stands in
      let before = first.paid in
      let after = second.paid in
      record {
        after = second.after;
        stands = second.stands;
        paid = omega (arith, before, after);
      }

  and_pays : (most : ℕ) (p : Played State) (f : State → Played State) → Pays most p
      → ((may : ℕ → Bool) → Stands may p.state → Pays (count_of timers may) (f p.state))
      → Pays most (and_then p f)
  and_pays most p f first rest =
      let second = rest first.after first.stands in
      let before = first.paid in
      let after = second.paid in
      record {
        after = second.after;
        stands = second.stands;
        paid = omega (arith, before, after);
      }

  silent_pays : (may : ℕ → Bool) (s : State) → Stands may s
      → Pays (count_of timers may) (silent s)
  silent_pays may s is = record { after = may; stands = is; paid = omega arith }

  told_pays : (may : ℕ → Bool) (s : State) (d : ℕ) → Stands may s
      → Pays (count_of timers may) (silent (told_again s d))
  told_pays may s d is =
      silent_pays may (told_again s d)
      (record {
        at = is.at;
        homes = alike_homes timers cpus levels may s is.homes (told_again s d) (told_alike s d);
      })

  ended_pays : (may : ℕ → Bool) (s : State) (c : ℕ) → Stands may s
      → Pays (count_of timers may) (silent (interrupt_ended s c))
  ended_pays may s c is =
      let same = ended_alike s c in
      silent_pays may (interrupt_ended s c)
      (record {
        at = same.0 ∙ is.at;
        homes = alike_homes timers cpus levels may s is.homes (interrupt_ended s c) same;
      })

  module _ (jobs : Replies) where
    -- THE JOBS of the items that go out, one for each
    module _ (runner : ℕ) (low : runner < cpus) (may : ℕ → Bool) where
      again_stands : (o : Option Queued) (item : Item) (class : Class) (delay : ℕ) (s : State)
          → item.id < timers → where_queued s item.id ≡ o → Stands may s
          → Stands may (again plain_rules o runner item class delay s).state
      again_stands None item class delay s known none is =
          let a = arming_again item class delay in
          let fits = again_fits timers item known class delay in
          let clock = is.at in
          let later = armed_later timers cpus levels may s is.homes runner a low
          (omega (arith, soon, clock)) fits.short in
          record {
            at = is.at;
            homes = arms_home timers cpus levels may s is.homes runner a fits.known fits.short none
                (λ due. absurd (omega (arith, due, later)));
          }
      again_stands (Some held) item class delay s known there is = is

      answer_stands : (reply : JobReply) (item : Item) (s : State) → item.id < timers
          → Stands may s → Stands may (answered plain_rules reply runner item s).state
      answer_stands replies.Done item s known is = is
      answer_stands (replies.Mark n) item s known is = is
      answer_stands (replies.Again class delay) item s known is =
          again_stands (where_queued s item.id) item class delay s known refl is

      jobs_pay : (home : ℕ) (items : List Item) (s : State) → All (λ item. item.id < timers) items
          → Stands may s
          → Pays (length items + count_of timers may)
          (run_jobs jobs plain_rules home runner items s)
      unfolding run_jobs
      jobs_pay home [] s known is =
          record { after = may; stands = is; paid = omega arith }
      jobs_pay home (item ∷ items) s known is =
          let rest =
          jobs_pay home items _ (All-tail (λ (i : Item). i.id < timers) item items known)
          (answer_stands (jobs item.job (job_call plain_rules s runner item)) item s
          (All-head (λ (i : Item). i.id < timers) item items known) is) in
          let paid = rest.paid in
          record { after = rest.after; stands = rest.stands; paid = omega (arith, paid) }

    -- A DRAIN has the work that it lowers the number of timers by
    drain_pays : (home : ℕ) (class : Class) (runner : ℕ) (may : ℕ → Bool) (s : State)
        → home < cpus → runner < cpus → Stands may s
        → Pays (count_of timers may) (drain jobs plain_rules home class runner s)
    drain_pays home class runner may s low runs is =
        let out = drain_paid timers cpus levels may s is.homes home low class runner in
        let done =
        jobs_pay runner runs out.after home (drained_on s home class runner).items
        (drained_on s home class runner).state
        (out_known timers cpus levels may s is.homes home low class runner)
        (record { at = is.at; homes = out.homes }) in
        let enough = out.enough in
        let paid = done.paid in
        record { after = done.after; stands = done.stands; paid = omega (arith, enough, paid) }

    -- THE LOOK of CPU c
    module _ (c : ℕ) (low : c < cpus) where
      try_pays : (level d : ℕ) (may : ℕ → Bool) (s : State) → named s c level ≡ Some d
          → Stands may s → Pays (count_of timers may) (try jobs plain_rules c d s)
      try_pays level d may s is stands =
          let count = stands.homes.count in
          let below = (named_is s c level d is).low in
          and_pays (count_of timers may) (drain jobs plain_rules d Global c s)
          (λ t. silent (told_again t d))
          (drain_pays d Global c may s (omega (arith, count, below)) low stands)
          (λ after there. told_pays after _ d there)

      look_at_pays : (o : Option ℕ) (n level : ℕ) (tried : set.FinSet nat_cmp) (may : ℕ → Bool)
          (s : State) → named s c level ≡ o → Stands may s
          → ((more : set.FinSet nat_cmp) (after : ℕ → Bool) (t : State) → Stands after t
          → Pays (count_of timers after) (look jobs plain_rules n c level more t))
          → Pays (count_of timers may)
          (look_at jobs plain_rules o c (look jobs plain_rules n c level) tried s)
      look_at_pays None n level tried may s is stands rest = silent_pays may s stands
      look_at_pays (Some d) n level tried may s is stands rest =
          and_pays (count_of timers may) (try jobs plain_rules c d s)
          (look jobs plain_rules n c level (set.insert tried d))
          (try_pays level d may s is stands)
          (λ after there. rest (set.insert tried d) after _ there)

      look_pays : (n level : ℕ) (tried : set.FinSet nat_cmp) (may : ℕ → Bool) (s : State)
          → Stands may s → Pays (count_of timers may) (look jobs plain_rules n c level tried s)
      unfolding look
      look_pays zero level tried may s stands = silent_pays may s stands
      look_pays (suc n) level tried may s stands =
          look_at_pays (named s c level) n level tried may s refl stands
          (λ more after t there. look_pays n level more after t there)

      level_pays : (b : Bool) (level : ℕ) (above : State → Played State) (may : ℕ → Bool)
          (s : State) → Stands may s
          → ((after : ℕ → Bool) (t : State) → Stands after t
          → Pays (count_of timers after) (above t))
          → Pays (count_of timers may) (look_where jobs plain_rules b c level above s)
      level_pays false level above may s stands rest = silent_pays may s stands
      level_pays true level above may s stands rest =
          and_pays (count_of timers may)
          (look jobs plain_rules (cpu_count s) c level set.empty s) above
          (look_pays (cpu_count s) level set.empty may s stands)
          (λ after there. rest after _ there)

      looks_pay : (n level : ℕ) (may : ℕ → Bool) (s : State) → Stands may s
          → Pays (count_of timers may) (looks jobs plain_rules n c level s)
      unfolding looks
      looks_pay zero level may s stands = silent_pays may s stands
      looks_pay (suc n) level may s stands =
          level_pays (looks_after s c level) level (looks jobs plain_rules n c (level + 1)) may s
          stands (λ after t there. looks_pay n (level + 1) after t there)

      -- AN INTERRUPT has one besides
      drains_pay : (may : ℕ → Bool) (s : State) → Stands may s
          → Pays (count_of timers may) (drains jobs plain_rules c s)
      drains_pay may s stands =
          and_pays (count_of timers may)
          (and_then (drain jobs plain_rules c Pinned c s) (drain jobs plain_rules c Global c))
          (drain jobs plain_rules c Deferrable c)
          (and_pays (count_of timers may) (drain jobs plain_rules c Pinned c s)
          (drain jobs plain_rules c Global c) (drain_pays c Pinned c may s low low stands)
          (λ after there. drain_pays c Global c after _ low low there))
          (λ after there. drain_pays c Deferrable c after _ low low there)

      counting_pays : (may : ℕ → Bool) (s : State) → Stands may s
          → Pays (count_of timers may + 1) (counting s)
      counting_pays may s stands = record { after = may; stands = stands; paid = omega arith }

      interrupt_pays : (may : ℕ → Bool) (s : State) → Stands may s
          → Pays (count_of timers may + 1) (interrupt jobs plain_rules c s)
      interrupt_pays may s stands =
          and_pays (count_of timers may + 1) _ (λ t. silent (interrupt_ended t c))
          (and_pays (count_of timers may + 1) _
          (looks jobs plain_rules (plain_rules.levels s) c 0)
          (and_pays (count_of timers may + 1) (counting s) (drains jobs plain_rules c)
          (counting_pays may s stands) (λ after there. drains_pay after s there))
          (λ after there. looks_pay (plain_rules.levels s) 0 after _ there))
          (λ after there. ended_pays after _ c there)

      where_pays : (b : Bool) (may : ℕ → Bool) (s : State) → Stands may s
          → Pays (count_of timers may + 1) (interrupt_where jobs plain_rules b c s)
      where_pays false may s stands =
          record { after = may; stands = stands; paid = omega arith }
      where_pays true may s stands = interrupt_pays may s stands

    -- THE INTERRUPTS of a moment
    pub interrupts_pay : (n c : ℕ) (due : set.FinSet nat_cmp) (may : ℕ → Bool) (s : State)
        → c + n ≤ cpus → Stands may s
        → Pays (count_of timers may + n) (interrupts jobs plain_rules n c due s)
    unfolding interrupts
    interrupts_pay zero c due may s low stands =
        record { after = may; stands = stands; paid = omega arith }
    interrupts_pay (suc n) c due may s low stands =
        let all = then_pays (count_of timers may + 1) n
        (interrupt_where jobs plain_rules (set.contains due c) c s)
        (interrupts jobs plain_rules n (c + 1) due)
        (where_pays c (omega (arith, low)) (set.contains due c) may s stands)
        (λ after there. interrupts_pay n (c + 1) due after _ (omega (arith, low)) there) in
        let paid = all.paid in
        record { after = all.after; stands = all.stands; paid = omega (arith, paid) }
