-- for crates above: what the rules keep holds after each interrupt
use Rattle.std.proofs.Common.{◌≡◌, ℕ, zero, suc, ◌+◌, ◌<◌, List, [], ◌∷◌, Bool, true, false, Option}
use Rattle.std.proofs.Common.{Some, None, refl, ◌∙◌, subst, arith, zero-add}
use Rattle.std.specs.Prelude.{All}
use Rattle.std.proofs.lemmas.List.Elements.{All-head, All-tail}
use Rattle.std.specs.Ordering.{nat_cmp}
use Rattle.std.specs.FinSet as set
use Rattle.tm_base.specs.declared.names.Class.{Class}
use Rattle.tm_base.specs.declared.names.Class.TheVariants.{Global}
use Rattle.job_table.specs.declared.jobs.JobReply.{JobReply}
use Rattle.job_table.specs.declared.jobs.JobReply.TheVariants as replies
use Rattle.wheel_core.specs.declared.item.Item.{Item}
use Rattle.play_rules.specs.declared.asks.Arming.{Arming}
use Rattle.play_rules.specs.declared.asks.Queued.{Queued}
use Rattle.play_rules.specs.Parts.{Played}
use Rattle.play_rules.specs.Rules.{Rules}
use Rattle.play_rules.specs.Interrupts.{Replies, again, answered, arming_again, drain, drains}
use Rattle.play_rules.specs.Interrupts.{interrupt, interrupt_where, interrupts, look, look_at}
use Rattle.play_rules.specs.Interrupts.{look_where, looks, run_jobs, try_where}
use Rattle.play_laws.proofs.Shape.Shape.{KeptByRules, MayRunAgain, Stage, begun, between, climbed, looked, looking}
use Rattle.play_laws.proofs.Shape.Shape.{nth_class, own, running}

-- THE JOBS that a drain hands out keep what arming on the runner keeps
module _ {S : Type 0} (jobs : Replies) (r : Rules S) (runner : ℕ) (P : S → Type 0)
    (Fits : Arming → Type 0)
    (arms : (s : S) (a : Arming) → Fits a → r.queued s a.timer.0 ≡ None → P s
    → P (r.armed s runner a).state) where
  again_kept : (o : Option Queued) (item : Item) (class : Class) (delay : ℕ) (s : S)
      → MayRunAgain Fits item → r.queued s item.id ≡ o → P s
      → P (again r o runner item class delay s).state
  again_kept None item class delay s fits none holds =
      arms s (arming_again item class delay) (fits class delay) none holds
  again_kept (Some held) item class delay s fits there holds = holds

  pub answer_kept : (reply : JobReply) (item : Item) (s : S) → MayRunAgain Fits item → P s
      → P (answered r reply runner item s).state
  answer_kept replies.Done item s fits holds = holds
  answer_kept (replies.Mark n) item s fits holds = holds
  answer_kept (replies.Again class delay) item s fits holds =
      again_kept (r.queued s item.id) item class delay s fits refl holds

  pub jobs_kept : (home : ℕ) (items : List Item) (s : S) → All (MayRunAgain Fits) items → P s
      → P (run_jobs jobs r home runner items s).state
  unfolding run_jobs
  jobs_kept home [] s fits holds = holds
  jobs_kept home (item ∷ items) s fits holds =
      jobs_kept home items _ (All-tail (MayRunAgain Fits) item items fits)
      (answer_kept _ item s (All-head (MayRunAgain Fits) item items fits) holds)

module _ {S : Type 0} (jobs : Replies) (r : Rules S) (cpus timers levels end : ℕ)
    (P : (now : ℕ) → Stage → S → Type 0)
    (Fits : Arming → Type 0) (keeps : KeptByRules r cpus timers levels end Fits P) (now : ℕ) (due : set.FinSet nat_cmp) (c : ℕ)
    (low : c < cpus) where
  -- its own bases
  pub own_kept : (k : ℕ) (s : S) → k < 3 → P now (own due c k) s
      → P now (own due c (k + 1)) (drain jobs r c (nth_class k) c s).state
  own_kept k s few holds =
      jobs_kept jobs r c (P now (own due c (k + 1))) Fits
      (λ t a fits none at. keeps.ran now due c k t a low few fits none at) c
      (r.drained s c (nth_class k) c).items (r.drained s c (nth_class k) c).state
      (keeps.known now due c k s low few holds) (keeps.drained now due c k s low few holds)

  pub drains_kept : (s : S) → P now (own due c 0) s → P now (climbed due c 0) (drains jobs r c s).state
  drains_kept s holds =
      let first = own_kept 0 s (omega arith) holds in
      let second = own_kept 1 _ (omega arith) first in
      let third = own_kept 2 _ (omega arith) second in
      keeps.drained_all now due c _ low third

  -- a CPU that is tried
  pub try_kept : (level n : ℕ) (tried : set.FinSet nat_cmp) (d : ℕ) (s : S) (takes : Bool)
      → r.takes s c d ≡ takes
      → r.named s c level tried ≡ Some d → P now (looking due c level (suc n) tried) s
      → P now (looking due c level n (set.insert tried d)) (try_where jobs r takes c d s).state
  try_kept level n tried d s false takes is holds =
      keeps.left_alone now due c level n tried d s low is takes holds
  try_kept level n tried d s true takes is holds =
      let out = r.drained (r.taken s c d) d Global c in
      let taken = keeps.taken now due c level n tried d s low is takes holds in
      let had = keeps.drained_for now due c level n tried d _ low taken in
      keeps.let_go now due c level n tried d _ low
      (jobs_kept jobs r c (P now (running due c level n tried d)) Fits
      (λ t a fits none at. keeps.ran_for now due c level n tried d t a low fits none at) d out.items
      out.state (keeps.known_for now due c level n tried d _ low taken) had)

  -- a turn at a level, where the turns behind it keep it
  look_at_kept : (o : Option ℕ) (level n : ℕ) (tried : set.FinSet nat_cmp) (s : S)
      → r.named s c level tried ≡ o
      → P now (looking due c level (suc n) tried) s
      → ((more : set.FinSet nat_cmp) (t : S) → P now (looking due c level n more) t
      → P now (climbed due c (level + 1)) (look jobs r n c level more t).state)
      → P now (climbed due c (level + 1)) (look_at jobs r o c (look jobs r n c level) tried s).state
  look_at_kept None level n tried s none holds rest =
      keeps.named_none now due c level n tried s low none holds
  look_at_kept (Some d) level n tried s is holds rest =
      rest (set.insert tried d) _ (try_kept level n tried d s (r.takes s c d) refl is holds)

  pub look_kept : (n level : ℕ) (tried : set.FinSet nat_cmp) (s : S)
      → P now (looking due c level n tried) s
      → P now (climbed due c (level + 1)) (look jobs r n c level tried s).state
  unfolding look
  look_kept zero level tried s holds = keeps.none_left now due c level tried s low holds
  look_kept (suc n) level tried s holds =
      look_at_kept (r.named s c level tried) level n tried s refl holds
      (λ more t at. look_kept n level more t at)

  -- a level of the look, where the levels above it keep it
  level_kept : (b : Bool) (level : ℕ) (above : S → Played S) (s : S) → level < levels
      → r.looks_after s c level ≡ b
      → P now (climbed due c level) s
      → ((t : S) → P now (climbed due c (level + 1)) t → P now (looked due c) (above t).state)
      → P now (looked due c) (look_where jobs r b c level above s).state
  level_kept false level above s below is holds rest =
      keeps.looks_not now due c level s low below is holds
  level_kept true level above s below is holds rest =
      rest _ (look_kept (r.cpus s) level set.empty s
      (keeps.looks now due c level s low below is holds))

  pub looks_kept : (n level : ℕ) (s : S) → level + n ≡ levels → P now (climbed due c level) s
      → P now (looked due c) (looks jobs r n c level s).state
  unfolding looks
  looks_kept zero level s all holds =
      let same : level ≡ levels = omega (arith, all) in
      keeps.top_looked now due c s low (subst (λ k. P now (climbed due c k) s) same holds)
  looks_kept (suc n) level s all holds =
      level_kept (r.looks_after s c level) level (looks jobs r n c (level + 1)) s
      (omega (arith, all)) refl holds
      (λ t at. looks_kept n (level + 1) t (omega (arith, all)) at)

  interrupt_kept : (s : S) → set.contains due c ≡ true → P now (begun due c) s
      → P now (begun due (c + 1)) (interrupt jobs r c s).state
  interrupt_kept s is holds =
      let drained = drains_kept (r.entered s c) (keeps.entered now due c s low is holds) in
      let all : 0 + r.levels s ≡ levels =
      zero-add (r.levels s) ∙ keeps.all_levels now due c s low holds in
      keeps.ended now due c _ low is (looks_kept (r.levels s) 0 _ all drained)

  pub turn_kept : (b : Bool) (s : S) → set.contains due c ≡ b → P now (begun due c) s
      → P now (begun due (c + 1)) (interrupt_where jobs r b c s).state
  turn_kept false s is holds = keeps.passed now due c s low is holds
  turn_kept true s is holds = interrupt_kept s is holds

-- all interrupts of a moment
module _ {S : Type 0} (jobs : Replies) (r : Rules S) (cpus timers levels end : ℕ)
    (P : (now : ℕ) → Stage → S → Type 0)
    (Fits : Arming → Type 0) (keeps : KeptByRules r cpus timers levels end Fits P) (now : ℕ) (due : set.FinSet nat_cmp) where
  from_kept : (n c : ℕ) (s : S) → c + n ≡ cpus → P now (begun due c) s
      → P now (begun due cpus) (interrupts jobs r n c due s).state
  unfolding interrupts
  from_kept zero c s all holds =
      let same : c ≡ cpus = omega (arith, all) in subst (λ k. P now (begun due k) s) same holds
  from_kept (suc n) c s all holds =
      from_kept n (c + 1) _ (omega (arith, all))
      (turn_kept jobs r cpus timers levels end P Fits keeps now due c (omega (arith, all))
      (set.contains due c) s refl holds)

  pub interrupts_kept : (s : S) → P now (begun due 0) s
      → P now between (interrupts jobs r (r.cpus s) 0 due s).state
  interrupts_kept s holds =
      let all : 0 + r.cpus s ≡ cpus = zero-add (r.cpus s) ∙ keeps.all_cpus now due s holds in
      keeps.interrupted now due _ (from_kept (r.cpus s) 0 s all holds)
