-- the work of the interrupts of a plain moment: one for each CPU, and one for each timer that may
-- go out
use Rattle.std.proofs.Common.{◌≡◌, ℕ, zero, suc, ◌+◌, ◌<◌, ◌≤◌, List, [], ◌∷◌, Bool, true, false}
use Rattle.std.proofs.Common.{Option, Some, None, refl, sym, ap, ◌∙◌, subst, arith, length}
use Rattle.std.specs.Prelude.{All}
use Rattle.std.specs.Ordering.{nat_cmp}
use Rattle.std.specs.FinSet as set
use Rattle.std.proofs.lemmas.List.Elements.{All-head, All-tail}
use Rattle.tm_base.specs.declared.names.Class.{Class}
use Rattle.tm_base.specs.declared.names.Class.TheVariants.{Pinned, Global, Deferrable}
use Rattle.job_table.specs.declared.jobs.JobReply.{JobReply}
use Rattle.job_table.specs.declared.jobs.JobReply.TheVariants as replies
use Rattle.wheel_core.specs.declared.item.Item.{Item}
use Rattle.wheel_core.specs.WheelExpiry.{greatest_timeout}
use Rattle.play_rules.specs.declared.asks.Arming.{Arming}
use Rattle.play_rules.specs.declared.asks.Queued.{Queued}
use Rattle.play_rules.specs.Parts.{Played, and_then, counting, silent}
use Rattle.play_rules.specs.State as play
use Rattle.play_rules.specs.Timers.{armed_on, drained_on, where_queued}
use Rattle.play_rules.specs.Interrupts.{Replies, again, answered, arming_again, drain, drains}
use Rattle.play_rules.specs.Interrupts.{interrupt, interrupt_where, interrupts, job_call, look}
use Rattle.play_rules.specs.Interrupts.{look_at, look_where, looks, run_jobs, try, try_where}
use Rattle.play_laws.proofs.Work.Alikes.{alike_homes}
use Rattle.play_laws.proofs.Work.Comings.{armed_later, arms_home}
use Rattle.play_laws.proofs.Work.Drains.{drain_paid, out_known}
use Rattle.play_laws.proofs.Work.Homes.{AreHomes, count_of}
use Rattle.play_laws.proofs.Work.Whole.{again_fits}
use Rattle.cpu_bases.specs.CpuBases.{CpuBases, armed}
use Rattle.core_world.specs.Steps.{with_bases}
use Rattle.core_world.specs.World.{World, cpu_of, group_of}
use Rattle.step_play.specs.Rules.Seen.{state_of}
use Rattle.step_play.specs.Rules.StepRules.{can_be_taken, named_by_queue, step_rules}
use Rattle.step_play.proofs.Held.{bases_seen}
use Rattle.step_play.proofs.Takes.{takeable, there}
use Rattle.step_play.proofs.Worlds.{bases_shown, own_is}
use Rattle.run_laws.proofs.Alikes.{SameBases, ended_alike, entered_alike, let_go_alike, seen_alike}
use Rattle.run_laws.proofs.Alikes.{taken_alike}
use Rattle.run_laws.proofs.Built.{hands_built, moved_built}
use Rattle.run_laws.proofs.Drains.{drain_seen}

module _ (timers cpus levels now : ℕ) (soon : now ≤ greatest_timeout) where
  -- at this time, and so many timers may still go out
  pub record Stands (may : ℕ → Bool) (w : World) : Type 0 where
    pub at : w.clock ≡ now
    pub count : length w.cpus ≡ cpus
    pub homes : AreHomes timers cpus levels may (state_of w)

  same_stands : (may : ℕ → Bool) (w v : World) → SameBases w v → Stands may w → Stands may v
  same_stands may w v same is = record {
    at = same.built.clock ∙ is.at;
    count = same.built.cpus ∙ is.count;
    homes = alike_homes timers cpus levels may (state_of w) is.homes (state_of v)
        (seen_alike w v same);
  }

  -- A PART's work, and the timers that may go out after it, come to so much at most
  pub record Pays (most : ℕ) (p : Played World) : Type 0 where
    pub after : ℕ → Bool
    pub stands : Stands after p.state
    pub paid : p.work + count_of timers after ≤ most

  -- one part, and then another one, which has so much work besides
  then_pays : (most more : ℕ) (p : Played World) (f : World → Played World) → Pays most p
      → ((may : ℕ → Bool) → Stands may p.state → Pays (count_of timers may + more) (f p.state))
      → Pays (most + more) (and_then p f)
  then_pays most more p f first rest =
      let second = rest first.after first.stands in
      let before = first.paid in
      let after = second.paid in
      record {
        after = second.after;
        stands = second.stands;
        paid = omega (arith, before, after);
      }

  and_pays : (most : ℕ) (p : Played World) (f : World → Played World) → Pays most p
      → ((may : ℕ → Bool) → Stands may p.state → Pays (count_of timers may) (f p.state))
      → Pays most (and_then p f)
  and_pays most p f first rest =
      let second = rest first.after first.stands in
      let before = first.paid in
      let after = second.paid in
      record {
        after = second.after;
        stands = second.stands;
        paid = omega (arith, before, after);
      }

  silent_pays : (may : ℕ → Bool) (w : World) → Stands may w → Pays (count_of timers may) (silent w)
  silent_pays may w is = record { after = may; stands = is; paid = omega arith }

  module _ (jobs : Replies) where
    -- THE JOBS of the items that go out, one for each
    module _ (runner : ℕ) (low : runner < cpus) (may : ℕ → Bool) where
      abbrev armed_with : Arming → World → CpuBases → CpuBases
      armed_with a w b = armed w.clock a.class a.timer.0 (w.clock + a.delay) a.job a.arg a.line
          (record { 0 = runner }) b

      armed_seen : (a : Arming) (w : World) → runner < length w.cpus
          → state_of (step_rules.armed w runner a).state ≡ (armed_on (state_of w) runner a).state
      armed_seen a w below =
          let b = armed_with a w (cpu_of w runner).bases in
          ap state_of (own_is w runner (with_bases (cpu_of w runner) b))
          ∙ (bases_shown w runner b below
          ∙ ap (λ x. play.with_bases (state_of w) runner (armed_with a w x))
          (sym (bases_seen w runner below)))

      armed_count : (a : Arming) (w : World)
          → length (step_rules.armed w runner a).state.cpus ≡ length w.cpus
      armed_count a w =
          (moved_built w 0 (group_of w 0) runner
          (with_bases (cpu_of w runner) (armed_with a w (cpu_of w runner).bases)) false).cpus

      again_stands : (o : Option Queued) (item : Item) (class : Class) (delay : ℕ) (w : World)
          → item.id < timers → where_queued (state_of w) item.id ≡ o → Stands may w
          → Stands may (again step_rules o runner item class delay w).state
      again_stands None item class delay w known none is =
          let a = arming_again item class delay in
          let fits = again_fits timers item known class delay in
          let clock = is.at in
          let count = is.count in
          let later = armed_later timers cpus levels may (state_of w) is.homes runner a low
          (omega (arith, soon, clock)) fits.short in
          record {
            at = is.at;
            count = armed_count a w ∙ is.count;
            homes =
                subst (AreHomes timers cpus levels may)
                (sym (armed_seen a w (omega (arith, low, count))))
                (arms_home timers cpus levels may (state_of w) is.homes runner a fits.known
                fits.short none (λ due. absurd (omega (arith, due, later))));
          }
      again_stands (Some held) item class delay w known there is = is

      answer_stands : (reply : JobReply) (item : Item) (w : World) → item.id < timers
          → Stands may w → Stands may (answered step_rules reply runner item w).state
      answer_stands replies.Done item w known is = is
      answer_stands (replies.Mark n) item w known is = is
      answer_stands (replies.Again class delay) item w known is =
          again_stands (where_queued (state_of w) item.id) item class delay w known refl is

      jobs_pay : (home : ℕ) (items : List Item) (w : World) → All (λ item. item.id < timers) items
          → Stands may w
          → Pays (length items + count_of timers may)
          (run_jobs jobs step_rules home runner items w)
      unfolding run_jobs
      jobs_pay home [] w known is =
          record { after = may; stands = is; paid = omega arith }
      jobs_pay home (item ∷ items) w known is =
          let rest =
          jobs_pay home items _ (All-tail (λ (i : Item). i.id < timers) item items known)
          (answer_stands (jobs item.job (job_call step_rules w runner item)) item w
          (All-head (λ (i : Item). i.id < timers) item items known) is) in
          let paid = rest.paid in
          record { after = rest.after; stands = rest.stands; paid = omega (arith, paid) }

    -- A DRAIN has the work that it lowers the number of timers by
    drain_pays : (home : ℕ) (class : Class) (runner : ℕ) (may : ℕ → Bool) (w : World)
        → home < cpus → runner < cpus → Stands may w
        → Pays (count_of timers may) (drain jobs step_rules home class runner w)
    drain_pays home class runner may w low runs is =
        let s = state_of w in
        let many = is.count in
        let seen = drain_seen timers cpus levels may w is.homes home low
        (omega (arith, many, low)) class runner in
        let out = drain_paid timers cpus levels may s is.homes home low class runner in
        let built = hands_built home class runner (step_rules.drained w home class runner).items w
        in
        let done =
        jobs_pay runner runs out.after home (step_rules.drained w home class runner).items
        (step_rules.drained w home class runner).state
        (subst (All (λ (item : Item). item.id < timers)) (sym seen.items)
        (out_known timers cpus levels may s is.homes home low class runner))
        (record {
          at = built.clock ∙ is.at;
          count = built.cpus ∙ is.count;
          homes = subst (AreHomes timers cpus levels out.after) (sym seen.state) out.homes;
        }) in
        let enough = out.enough in
        let paid = done.paid in
        let same : length (step_rules.drained w home class runner).items
        ≡ length (drained_on s home class runner).items = (λ i. length (seen.items i)) in
        record {
          after = done.after;
          stands = done.stands;
          paid = omega (arith, enough, paid, same);
        }

    -- THE LOOK of CPU c
    module _ (c : ℕ) (low : c < cpus) where
      let_go_pays : (d : ℕ) (may : ℕ → Bool) (w : World) → Stands may w
          → Pays (count_of timers may) (silent (step_rules.let_go w c d))
      let_go_pays d may w is =
          silent_pays may (step_rules.let_go w c d)
          (same_stands may w (step_rules.let_go w c d) (let_go_alike w c d) is)

      try_pays : (takes : Bool) (d : ℕ) (may : ℕ → Bool) (w : World)
          → (takes ≡ true → d < cpus) → Stands may w
          → Pays (count_of timers may) (try_where jobs step_rules takes c d w)
      try_pays false d may w in_range stands = silent_pays may w stands
      try_pays true d may w in_range stands =
          and_pays (count_of timers may) (drain jobs step_rules d Global c (step_rules.taken w c d))
          (λ v. silent (step_rules.let_go v c d))
          (drain_pays d Global c may (step_rules.taken w c d) (in_range refl) low
          (same_stands may w (step_rules.taken w c d) (taken_alike w c d) stands))
          (λ after there. let_go_pays d after _ there)

      -- whoever is online is there
      taken_low : (d : ℕ) (may : ℕ → Bool) (w : World) → Stands may w → can_be_taken w d ≡ true
          → d < cpus
      taken_low d may w stands takes =
          let count = stands.count in
          let here = there w d (takeable w d takes).online in
          omega (arith, count, here)

      look_at_pays : (o : Option ℕ) (n level : ℕ) (tried : set.FinSet nat_cmp) (may : ℕ → Bool)
          (w : World) → Stands may w
          → ((more : set.FinSet nat_cmp) (after : ℕ → Bool) (v : World) → Stands after v
          → Pays (count_of timers after) (look jobs step_rules n c level more v))
          → Pays (count_of timers may)
          (look_at jobs step_rules o c (look jobs step_rules n c level) tried w)
      look_at_pays None n level tried may w stands rest = silent_pays may w stands
      look_at_pays (Some d) n level tried may w stands rest =
          and_pays (count_of timers may) (try jobs step_rules c d w)
          (look jobs step_rules n c level (set.insert tried d))
          (try_pays (can_be_taken w d) d may w (taken_low d may w stands) stands)
          (λ after there. rest (set.insert tried d) after _ there)

      look_pays : (n level : ℕ) (tried : set.FinSet nat_cmp) (may : ℕ → Bool) (w : World)
          → Stands may w → Pays (count_of timers may) (look jobs step_rules n c level tried w)
      unfolding look
      look_pays zero level tried may w stands = silent_pays may w stands
      look_pays (suc n) level tried may w stands =
          look_at_pays (named_by_queue w c level tried) n level tried may w stands
          (λ more after v there. look_pays n level more after v there)

      level_pays : (b : Bool) (level : ℕ) (above : World → Played World) (may : ℕ → Bool)
          (w : World) → Stands may w
          → ((after : ℕ → Bool) (v : World) → Stands after v
          → Pays (count_of timers after) (above v))
          → Pays (count_of timers may) (look_where jobs step_rules b c level above w)
      level_pays false level above may w stands rest = silent_pays may w stands
      level_pays true level above may w stands rest =
          and_pays (count_of timers may)
          (look jobs step_rules (step_rules.cpus w) c level set.empty w) above
          (look_pays (step_rules.cpus w) level set.empty may w stands)
          (λ after there. rest after _ there)

      looks_pay : (n level : ℕ) (may : ℕ → Bool) (w : World) → Stands may w
          → Pays (count_of timers may) (looks jobs step_rules n c level w)
      unfolding looks
      looks_pay zero level may w stands = silent_pays may w stands
      looks_pay (suc n) level may w stands =
          level_pays (step_rules.looks_after w c level) level
          (looks jobs step_rules n c (level + 1)) may w stands
          (λ after v there. looks_pay n (level + 1) after v there)

      -- AN INTERRUPT has one besides
      drains_pay : (may : ℕ → Bool) (w : World) → Stands may w
          → Pays (count_of timers may) (drains jobs step_rules c w)
      drains_pay may w stands =
          and_pays (count_of timers may)
          (and_then (drain jobs step_rules c Pinned c w) (drain jobs step_rules c Global c))
          (drain jobs step_rules c Deferrable c)
          (and_pays (count_of timers may) (drain jobs step_rules c Pinned c w)
          (drain jobs step_rules c Global c) (drain_pays c Pinned c may w low low stands)
          (λ after there. drain_pays c Global c after _ low low there))
          (λ after there. drain_pays c Deferrable c after _ low low there)

      entering_pays : (may : ℕ → Bool) (w : World) → Stands may w
          → Pays (count_of timers may + 1) (counting (step_rules.entered w c))
      entering_pays may w stands = record {
        after = may;
        stands = same_stands may w (step_rules.entered w c) (entered_alike w c) stands;
        paid = omega arith;
      }

      ending_pays : (may : ℕ → Bool) (w : World) → Stands may w
          → Pays (count_of timers may) (silent (step_rules.ended w c))
      ending_pays may w stands =
          silent_pays may (step_rules.ended w c)
          (same_stands may w (step_rules.ended w c) (ended_alike w c) stands)

      interrupt_pays : (may : ℕ → Bool) (w : World) → Stands may w
          → Pays (count_of timers may + 1) (interrupt jobs step_rules c w)
      interrupt_pays may w stands =
          and_pays (count_of timers may + 1) _ (λ v. silent (step_rules.ended v c))
          (and_pays (count_of timers may + 1) _
          (looks jobs step_rules (step_rules.levels w) c 0)
          (and_pays (count_of timers may + 1) (counting (step_rules.entered w c))
          (drains jobs step_rules c)
          (entering_pays may w stands) (λ after there. drains_pay after _ there))
          (λ after there. looks_pay (step_rules.levels w) 0 after _ there))
          (λ after there. ending_pays after _ there)

      where_pays : (b : Bool) (may : ℕ → Bool) (w : World) → Stands may w
          → Pays (count_of timers may + 1) (interrupt_where jobs step_rules b c w)
      where_pays false may w stands =
          record { after = may; stands = stands; paid = omega arith }
      where_pays true may w stands = interrupt_pays may w stands

    -- THE INTERRUPTS of a moment
    pub interrupts_pay : (n c : ℕ) (due : set.FinSet nat_cmp) (may : ℕ → Bool) (w : World)
        → c + n ≤ cpus → Stands may w
        → Pays (count_of timers may + n) (interrupts jobs step_rules n c due w)
    unfolding interrupts
    interrupts_pay zero c due may w low stands =
        record { after = may; stands = stands; paid = omega arith }
    interrupts_pay (suc n) c due may w low stands =
        let all = then_pays (count_of timers may + 1) n
        (interrupt_where jobs step_rules (set.contains due c) c w)
        (interrupts jobs step_rules n (c + 1) due)
        (where_pays c (omega (arith, low)) (set.contains due c) may w stands)
        (λ after there. interrupts_pay n (c + 1) due after _ (omega (arith, low)) there) in
        let paid = all.paid in
        record { after = all.after; stands = all.stands; paid = omega (arith, paid) }
