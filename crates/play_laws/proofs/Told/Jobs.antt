-- the lines of a drain and of its jobs tell what they write into the journals
use Rattle.std.proofs.Common.{◌<◌}
use Rattle.std.proofs.Common.{◌≡◌, ℕ, List, [], ◌∷◌, ◌++◌, Bool, true, false, Option, Some}
use Rattle.std.proofs.Common.{None, refl, sym, ap, ◌∙◌, arith, inl, inr, length}
use Rattle.std.specs.Prelude.{All, ◌==◌, filter, flat_map}
use Rattle.std.proofs.lemmas.Bool.{cases_Bool, eq-eqb, ne_eqb}
use Rattle.std.proofs.lemmas.List.{append-nil, length-set}
use Rattle.std.proofs.lemmas.List.Elements.{All-weaker, filter-append}
use Rattle.tm_base.specs.declared.names.Class.{Class}
use Rattle.tm_base.specs.declared.names.CpuId.{CpuId}
use Rattle.job_table.specs.declared.jobs.JobReply.{JobReply}
use Rattle.job_table.specs.declared.jobs.JobReply.TheVariants as replies
use Rattle.tm_report.specs.declared.lines.Line.{Line}
use Rattle.tm_report.specs.declared.lines.Line.TheVariants as lines
use Rattle.tm_report.specs.declared.lines.ShownReply.{ShownReply}
use Rattle.tm_report.specs.declared.lines.ShownReply.TheVariants as shown
use Rattle.wheel_core.specs.declared.item.Item.{Item}
use Rattle.wheel_core.specs.PlainBase.{IsSound}
use Rattle.cpu_bases.specs.declared.entry.Act.TheVariants as acts
use Rattle.cpu_bases.specs.CpuBases.{base_of, drained, entry_of}
use Rattle.play_rules.specs.declared.asks.Arming.{Arming}
use Rattle.play_rules.specs.declared.asks.Queued.{Queued}
use Rattle.play_rules.specs.Interrupts.{Replies, again, answered, arming_again, drain, job_call}
use Rattle.play_rules.specs.Interrupts.{reply_to, run_jobs}
use Rattle.play_rules.specs.State.{State, cpu_count}
use Rattle.play_rules.specs.Timers.{armed_bases, armed_item, armed_on, bases_at, drained_on}
use Rattle.play_rules.specs.Timers.{due_items}
use Rattle.play_rules.specs.Play.{plain_rules}
use Rattle.play_laws.specs.Told.Journals.{Deed, arms, by_lines, by_reply, hands_out, told_if}
use Rattle.play_laws.proofs.Shape.ShapeInterrupts.{answer_kept}
use Rattle.play_laws.proofs.Told.Goes.{Goes, goes_both, goes_none, goes_same, goes_written, middle}
use Rattle.play_laws.proofs.Told.Drained.{AreApart, Swaps, all_handed, drain_writes, due_apart}
use Rattle.play_laws.proofs.Told.Drained.{if_none, outs, outs_home, outs_none, outs_other}

-- what is told of CPU d alone
pub told_other : (c d : ℕ) (told : Deed) → (c ≡ d → ⊥) → told_if (c == d) told ≡ []
told_other c d told other = ap (λ b. told_if b told) (ne_eqb c d other)

pub told_own : (d : ℕ) (told : Deed) → told_if (d == d) told ≡ told ∷ []
told_own d told = ap (λ b. told_if b told) (eq-eqb d d refl)

module _ (passes : Deed → Bool) where
  -- AN ARMING by CPU c
  pub arms_go : (s : State) (c : ℕ) (a : Arming) → c < cpu_count s
      → Goes passes s
      (λ d. told_if (d == c) (arms s.clock a.timer.0 a.class (armed_item s c a).wheel))
      (armed_on s c a).state
  arms_go s c a low =
      let told = arms s.clock a.timer.0 a.class (armed_item s c a).wheel in
      goes_written passes s c low (armed_bases s c a)
      (entry_of acts.Armed a.line s.clock a.class (armed_item s c a) (record { 0 = c }) ∷ []) refl
      (λ d. told_if (d == c) told) (ap (filter passes) (sym (told_own c told)))
      (λ d other. told_other d c told other)

  -- ONE JOB
  module _ (runner : ℕ) (item : Item) (s : State) (low : runner < cpu_count s) where
    again_goes : (o : Option Queued) (class : Class) (delay : ℕ)
        → let reply = again plain_rules o runner item class delay s in
        Goes passes s (λ c. by_reply c s.clock runner item.id reply.reply) reply.state
    again_goes None class delay = arms_go s runner (arming_again item class delay) low
    again_goes (Some held) class delay = goes_none passes s

    answer_goes : (reply : JobReply) → let all = answered plain_rules reply runner item s in
        Goes passes s (λ c. by_reply c s.clock runner item.id all.reply) all.state
    answer_goes replies.Done = goes_none passes s
    answer_goes (replies.Mark n) = goes_none passes s
    answer_goes (replies.Again class delay) =
        again_goes (plain_rules.queued s item.id) class delay

-- the armings that these lines tell of
abbrev again_by : (c : ℕ) → Line → List Deed
again_by c (lines.Run now runner timer home wheel reply) =
    by_reply c now runner.0 timer.0 reply
again_by c line = []

abbrev agains : (c : ℕ) → List Line → List Deed
agains c ls = flat_map (again_by c) ls

module _ (passes : Deed → Bool) (swaps : Swaps passes) (jobs : Replies) (home runner : ℕ) where
  clock_still : (now : ℕ) (item : Item) (s : State) → s.clock ≡ now
      → (reply_to jobs plain_rules runner item s).state.clock ≡ now
  clock_still now item s at =
      answer_kept jobs plain_rules runner (λ t. t.clock ≡ now) (λ a. Unit {0})
      (λ t a fits none is. is) (jobs item.job (job_call plain_rules s runner item)) item s
      (λ class delay. tt) at

  jobs_go : (items : List Item) (s : State) → runner < cpu_count s
      → let all = run_jobs jobs plain_rules home runner items s in
      Goes passes s (λ c. agains c all.lines) all.state
  unfolding run_jobs
  jobs_go [] s low = goes_none passes s
  jobs_go (item ∷ items) s low =
      let answer = reply_to jobs plain_rules runner item s in
      let rest = run_jobs jobs plain_rules home runner items answer.state in
      let here =
      answer_goes passes runner item s low (jobs item.job (job_call plain_rules s runner item)) in
      let count = here.count in
      goes_both passes s answer.state rest.state
      (λ c. by_reply c s.clock runner item.id answer.reply) (λ c. agains c rest.lines) here
      (jobs_go items answer.state (omega (arith, low, count)))

  -- THE LINES, against what was handed out and what was armed again
  module _ (now c : ℕ) where
    none_passes : (item : Item) (class : Class) (wheel : ℕ) (items : List Item)
        → All (λ (other : Item). other.id ≡ item.id → ⊥) items
        → passes (arms now item.id class wheel) ≡ true
        → filter passes (outs now home runner c items) ≡ []
    none_passes item class wheel items apart is =
        outs_none passes now home runner c items
        (All-weaker (λ (other : Item). other.id ≡ item.id → ⊥)
        (λ (other : Item). passes (hands_out now other.id other.wheel runner) ≡ false)
        (λ other different.
        swaps now item.id class wheel now other.id other.wheel runner different is)
        items apart)

    change_places : (item : Item) (reply : ShownReply) (items : List Item)
        → All (λ (other : Item). other.id ≡ item.id → ⊥) items
        → filter passes (by_reply c now runner item.id reply)
        ++ filter passes (outs now home runner c items)
        ≡ filter passes (outs now home runner c items)
        ++ filter passes (by_reply c now runner item.id reply)
    change_places item shown.Done items apart =
        sym (append-nil (filter passes (outs now home runner c items)))
    change_places item (shown.Mark n) items apart =
        sym (append-nil (filter passes (outs now home runner c items)))
    change_places item (shown.Skip cpu) items apart =
        sym (append-nil (filter passes (outs now home runner c items)))
    change_places item (shown.Again class wheel) items apart =
        let told = arms now item.id class wheel in
        let mine = filter passes (told_if (c == runner) told) in
        let others = filter passes (outs now home runner c items) in
        elim (cases_Bool (passes told)) [
          | inl is ↦
              let none = none_passes item class wheel items apart is in
              ap (λ x. mine ++ x) none ∙ (append-nil mine ∙ ap (λ x. x ++ mine) (sym none))
          | inr not ↦
              let none = if_none passes now home runner (c == runner) told not in
              ap (λ x. x ++ others) none
              ∙ (sym (append-nil others) ∙ ap (λ x. others ++ x) (sym none))
        ]

    lines_split : (items : List Item) (s : State) → s.clock ≡ now → AreApart items
        → let all = run_jobs jobs plain_rules home runner items s in
        filter passes (by_lines c all.lines)
        ≡ filter passes (outs now home runner c items) ++ filter passes (agains c all.lines)
    unfolding run_jobs
    lines_split [] s at apart = refl
    lines_split (item ∷ items) s at (apart, rest_apart) =
        let answer = reply_to jobs plain_rules runner item s in
        let ls = (run_jobs jobs plain_rules home runner items answer.state).lines in
        let out = told_if (c == home) (hands_out now item.id item.wheel runner) in
        let again = by_reply c now runner item.id answer.reply in
        let rest = lines_split items answer.state (clock_still now item s at) rest_apart in
        ap (λ t. filter passes
        ((told_if (c == home) (hands_out t item.id item.wheel runner)
        ++ by_reply c t runner item.id answer.reply) ++ by_lines c ls)) at
        ∙ (filter-append passes (out ++ again) (by_lines c ls)
        ∙ (ap (λ x. x ++ filter passes (by_lines c ls)) (filter-append passes out again)
        ∙ (ap (λ x. (filter passes out ++ filter passes again) ++ x) rest
        ∙ (middle (filter passes out) (filter passes again)
        (filter passes (outs now home runner c items)) (filter passes (agains c ls))
        (change_places item answer.reply items apart)
        ∙ (ap (λ x. x ++ (filter passes again ++ filter passes (agains c ls)))
        (sym (filter-append passes out (outs now home runner c items)))
        ∙ ap (λ x. filter passes (out ++ outs now home runner c items) ++ x)
        (sym (filter-append passes again (agains c ls))
        ∙ ap (λ t. filter passes (by_reply c t runner item.id answer.reply ++ agains c ls))
        (sym at)))))))

  -- A DRAIN of a base of CPU `home` by CPU `runner`, and its jobs
  pub drain_goes : (class : Class) (s : State) → home < cpu_count s → runner < cpu_count s
      → IsSound (base_of class (bases_at s home)).items
      → let all = drain jobs plain_rules home class runner s in
      Goes passes s (λ c. by_lines c all.lines) all.state
  drain_goes class s low runner_low sound =
      let b = bases_at s home in
      let n = length (base_of class b).items in
      let by : CpuId = record { 0 = runner } in
      let items = due_items n s.clock (base_of class b) in
      let out = drained_on s home class runner in
      let all = run_jobs jobs plain_rules home runner items out.state in
      let many : cpu_count out.state ≡ cpu_count s = length-set s.cpus home _ in
      goes_same passes s all.state
      (λ c. outs s.clock home runner c items ++ agains c all.lines) (λ c. by_lines c all.lines)
      (λ c.
      filter-append passes (outs s.clock home runner c items) (agains c all.lines)
      ∙ sym (lines_split s.clock c items out.state refl
      (due_apart n s.clock (base_of class b) sound)))
      (goes_both passes s out.state all.state (λ c. outs s.clock home runner c items)
      (λ c. agains c all.lines)
      (goes_written passes s home low (drained n s.clock class by b)
      (all_handed s.clock class by items)
      (drain_writes s.clock class by n b sound (omega arith))
      (λ c. outs s.clock home runner c items)
      (ap (filter passes) (outs_home s.clock home runner class items))
      (λ c other. outs_other s.clock home runner c other items))
      (jobs_go items out.state (omega (arith, runner_low, many))))
