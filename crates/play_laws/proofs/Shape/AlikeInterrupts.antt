-- for crates above: interrupts under rules that are alike
use Rattle.std.proofs.Common.{◌≡◌, ℕ, zero, suc, ◌+◌, ◌<◌, List, [], ◌∷◌, Bool, true, false, Option, Some, None, refl, sym, ap, ◌∙◌, subst, arith, zero-add}
use Rattle.std.specs.Ordering.{nat_cmp}
use Rattle.std.specs.FinSet as set
use Rattle.std.specs.Prelude.{All}
use Rattle.std.proofs.lemmas.List.Elements.{All-head, All-tail}
use Rattle.tm_base.specs.declared.names.Class.{Class}
use Rattle.tm_base.specs.declared.names.Class.TheVariants.{Global}
use Rattle.job_table.specs.declared.jobs.JobReply.{JobReply}
use Rattle.job_table.specs.declared.jobs.JobReply.TheVariants as replies
use Rattle.tm_report.specs.declared.lines.Line.TheVariants as lines
use Rattle.wheel_core.specs.declared.item.Item.{Item}
use Rattle.play_rules.specs.declared.asks.Arming.{Arming}
use Rattle.play_rules.specs.declared.asks.Queued.{Queued}
use Rattle.play_rules.specs.Parts.{Played, and_then, counting, silent}
use Rattle.play_rules.specs.Rules.{Rules}
use Rattle.play_rules.specs.Interrupts.{Replied, Replies, again, answered, armed_again, arming_again, cpu_id, drain, drains, interrupt, interrupt_where, interrupts, job_call, look, look_at, look_where, looks, reply_to, run_drained, run_job, run_jobs, timer_id, try, try_where}
use Rattle.play_laws.proofs.Shape.Shape.{KeptByRules, MayRunAgain, Stage, begun, climbed, looked, looking, nth_class, own, running}
use Rattle.play_laws.proofs.Shape.ShapeInterrupts.{answer_kept, jobs_kept, turn_kept}
use Rattle.play_laws.proofs.Shape.Alike.{Alike, drained_seen, placed_seen, seen, then_seen}

-- JOBS: those of a drain answer alike, and arm alike on the runner
module _ {S T : Type 0} (jobs : Replies) (r : Rules S) (q : Rules T) (f : S → T) (runner : ℕ) (P : S → Type 0)
    (clock : (s : S) → q.clock (f s) ≡ r.clock s) (queued : (s : S) (timer : ℕ) → q.queued (f s) timer ≡ r.queued s timer)
    (Fits : Arming → Type 0)
    (keeps : (s : S) (a : Arming) → Fits a → r.queued s a.timer.0 ≡ None → P s → P (r.armed s runner a).state)
    (alike : (s : S) (a : Arming) → Fits a → r.queued s a.timer.0 ≡ None → P s → placed_seen f (r.armed s runner a) ≡ q.armed (f s) runner a) where
  abbrev replied_seen : Replied S → Replied T
  replied_seen x = record { reply = x.reply; state = f x.state }

  again_alike : (o : Option Queued) (item : Item) (class : Class) (delay : ℕ) (s : S) → MayRunAgain Fits item → r.queued s item.id ≡ o → P s
      → replied_seen (again r o runner item class delay s) ≡ again q o runner item class delay (f s)
  again_alike None item class delay s fits none holds = ap (armed_again class) (alike s (arming_again item class delay) (fits class delay) none holds)
  again_alike (Some held) item class delay s fits is holds = refl

  answer_alike : (reply : JobReply) (item : Item) (s : S) → MayRunAgain Fits item → P s
      → replied_seen (answered r reply runner item s) ≡ answered q reply runner item (f s)
  answer_alike replies.Done item s fits holds = refl
  answer_alike (replies.Mark n) item s fits holds = refl
  answer_alike (replies.Again class delay) item s fits holds =
      again_alike (r.queued s item.id) item class delay s fits refl holds
      ∙ ap (λ o. again q o runner item class delay (f s)) (sym (queued s item.id))

  reply_alike : (item : Item) (s : S) → MayRunAgain Fits item → P s → replied_seen (reply_to jobs r runner item s) ≡ reply_to jobs q runner item (f s)
  reply_alike item s fits holds =
      answer_alike (jobs item.job (job_call r s runner item)) item s fits holds
      ∙ ap (λ now. answered q (jobs item.job (record { timer = timer_id item.id; arg = item.arg; now = now; runner = cpu_id runner })) runner item (f s))
      (sym (clock s))

  job_alike : (home : ℕ) (item : Item) (s : S) → MayRunAgain Fits item → P s → seen f (run_job jobs r home runner item s) ≡ run_job jobs q home runner item (f s)
  job_alike home item s fits holds =
      ap (λ (x : Replied T). record {
        lines = lines.Run (r.clock s) (cpu_id runner) (timer_id item.id) (cpu_id home) item.wheel x.reply ∷ [];
        work = 1;
        state = x.state;
      }) (reply_alike item s fits holds)
      ∙ ap (λ now. record {
        lines = lines.Run now (cpu_id runner) (timer_id item.id) (cpu_id home) item.wheel (reply_to jobs q runner item (f s)).reply ∷ [];
        work = 1;
        state = (reply_to jobs q runner item (f s)).state;
      }) (sym (clock s))

  pub jobs_alike : (home : ℕ) (items : List Item) (s : S) → All (MayRunAgain Fits) items → P s
      → seen f (run_jobs jobs r home runner items s) ≡ run_jobs jobs q home runner items (f s)
  unfolding run_jobs
  jobs_alike home [] s fits holds = refl
  jobs_alike home (item ∷ items) s fits holds =
      then_seen f (run_job jobs r home runner item s) (run_job jobs q home runner item (f s)) (run_jobs jobs r home runner items) (run_jobs jobs q home runner items)
      (job_alike home item s (All-head (MayRunAgain Fits) item items fits) holds)
      (jobs_alike home items _ (All-tail (MayRunAgain Fits) item items fits)
      (answer_kept jobs r runner P Fits keeps (jobs item.job (job_call r s runner item)) item s (All-head (MayRunAgain Fits) item items fits) holds))

  -- what was drained, and its jobs
  pub drain_alike : (home : ℕ) (class : Class) (s : S) → drained_seen f (r.drained s home class runner) ≡ q.drained (f s) home class runner
      → All (MayRunAgain Fits) (r.drained s home class runner).items → P (r.drained s home class runner).state
      → seen f (drain jobs r home class runner s) ≡ drain jobs q home class runner (f s)
  drain_alike home class s is fits holds =
      jobs_alike home (r.drained s home class runner).items (r.drained s home class runner).state fits holds
      ∙ ap (run_drained jobs q home runner) is

module _ {S T : Type 0} (jobs : Replies) (r : Rules S) (q : Rules T) (f : S → T) (cpus timers levels end : ℕ)
    (P : (now : ℕ) → Stage → S → Type 0) (Fits : Arming → Type 0) (keeps : KeptByRules r cpus timers levels end Fits P)
    (alike : Alike r q f cpus timers levels end Fits P) (now : ℕ) (due : set.FinSet nat_cmp) (c : ℕ) (low : c < cpus) where
  -- its own bases
  own_alike : (k : ℕ) (s : S) → k < 3 → P now (own due c k) s
      → seen f (drain jobs r c (nth_class k) c s) ≡ drain jobs q c (nth_class k) c (f s)
  own_alike k s few holds =
      drain_alike jobs r q f c (P now (own due c (k + 1))) alike.clock alike.queued Fits
      (λ t a fits none at. keeps.ran now due c k t a low few fits none at) (λ t a fits none at. alike.ran now due c k t a low few fits none at)
      c (nth_class k) s (alike.drained now due c k s low few holds) (keeps.known now due c k s low few holds) (keeps.drained now due c k s low few holds)

  own_holds : (k : ℕ) (s : S) → k < 3 → P now (own due c k) s → P now (own due c (k + 1)) (drain jobs r c (nth_class k) c s).state
  own_holds k s few holds =
      jobs_kept jobs r c (P now (own due c (k + 1))) Fits (λ t a fits none at. keeps.ran now due c k t a low few fits none at) c
      (r.drained s c (nth_class k) c).items (r.drained s c (nth_class k) c).state
      (keeps.known now due c k s low few holds) (keeps.drained now due c k s low few holds)

  drains_alike : (s : S) → P now (own due c 0) s → seen f (drains jobs r c s) ≡ drains jobs q c (f s)
  drains_alike s holds =
      let first = own_holds 0 s (omega arith) holds in
      let second = own_holds 1 _ (omega arith) first in
      then_seen f (and_then (drain jobs r c (nth_class 0) c s) (drain jobs r c (nth_class 1) c)) (and_then (drain jobs q c (nth_class 0) c (f s)) (drain jobs q c (nth_class 1) c))
      (drain jobs r c (nth_class 2) c) (drain jobs q c (nth_class 2) c)
      (then_seen f (drain jobs r c (nth_class 0) c s) (drain jobs q c (nth_class 0) c (f s)) (drain jobs r c (nth_class 1) c) (drain jobs q c (nth_class 1) c)
      (own_alike 0 s (omega arith) holds) (own_alike 1 _ (omega arith) first))
      (own_alike 2 _ (omega arith) second)

  drains_hold : (s : S) → P now (own due c 0) s → P now (climbed due c 0) (drains jobs r c s).state
  drains_hold s holds =
      let first = own_holds 0 s (omega arith) holds in
      let second = own_holds 1 _ (omega arith) first in
      let third = own_holds 2 _ (omega arith) second in
      keeps.drained_all now due c _ low third

  -- a CPU that is tried
  try_alike : (level n : ℕ) (tried : set.FinSet nat_cmp) (d : ℕ) (s : S) (takes : Bool) → r.takes s c d ≡ takes
      → r.named s c level tried ≡ Some d → P now (looking due c level (suc n) tried) s
      → seen f (try_where jobs r takes c d s) ≡ try_where jobs q takes c d (f s)
  try_alike level n tried d s false takes is holds = refl
  try_alike level n tried d s true takes is holds =
      let taken = keeps.taken now due c level n tried d s low is takes holds in
      let had = keeps.drained_for now due c level n tried d _ low taken in
      let arms : (t : S) (a : Arming) → Fits a → r.queued t a.timer.0 ≡ None → P now (running due c level n tried d) t → P now (running due c level n tried d) (r.armed t c a).state =
      λ t a fits none at. keeps.ran_for now due c level n tried d t a low fits none at in
      let known = keeps.known_for now due c level n tried d _ low taken in
      let out = r.drained (r.taken s c d) d Global c in
      let ran = jobs_kept jobs r c (P now (running due c level n tried d)) Fits arms d out.items out.state known had in
      then_seen f (drain jobs r d Global c (r.taken s c d)) (drain jobs q d Global c (q.taken (f s) c d)) (λ t. silent (r.let_go t c d)) (λ t. silent (q.let_go t c d))
      (drain_alike jobs r q f c (P now (running due c level n tried d)) alike.clock alike.queued Fits arms
      (λ t a fits none at. alike.ran_for now due c level n tried d t a low fits none at)
      d Global (r.taken s c d) (alike.drained_for now due c level n tried d _ low taken) known had
      ∙ ap (drain jobs q d Global c) (alike.taken now due c level n tried d s low is takes holds))
      (ap silent (alike.let_go now due c level n tried d _ low ran))

  try_holds : (level n : ℕ) (tried : set.FinSet nat_cmp) (d : ℕ) (s : S) (takes : Bool) → r.takes s c d ≡ takes
      → r.named s c level tried ≡ Some d → P now (looking due c level (suc n) tried) s
      → P now (looking due c level n (set.insert tried d)) (try_where jobs r takes c d s).state
  try_holds level n tried d s false takes is holds = keeps.left_alone now due c level n tried d s low is takes holds
  try_holds level n tried d s true takes is holds =
      let out = r.drained (r.taken s c d) d Global c in
      let taken = keeps.taken now due c level n tried d s low is takes holds in
      let had = keeps.drained_for now due c level n tried d _ low taken in
      keeps.let_go now due c level n tried d _ low
      (jobs_kept jobs r c (P now (running due c level n tried d)) Fits
      (λ t a fits none at. keeps.ran_for now due c level n tried d t a low fits none at) d out.items out.state
      (keeps.known_for now due c level n tried d _ low taken) had)

  look_at_alike : (o : Option ℕ) (level n : ℕ) (tried : set.FinSet nat_cmp) (s : S) → r.named s c level tried ≡ o
      → P now (looking due c level (suc n) tried) s
      → ((more : set.FinSet nat_cmp) (t : S) → P now (looking due c level n more) t
      → seen f (look jobs r n c level more t) ≡ look jobs q n c level more (f t))
      → seen f (look_at jobs r o c (look jobs r n c level) tried s) ≡ look_at jobs q o c (look jobs q n c level) tried (f s)
  look_at_alike None level n tried s none holds rest = refl
  look_at_alike (Some d) level n tried s is holds rest =
      then_seen f (try jobs r c d s) (try jobs q c d (f s)) (look jobs r n c level (set.insert tried d)) (look jobs q n c level (set.insert tried d))
      (try_alike level n tried d s (r.takes s c d) refl is holds
      ∙ ap (λ b. try_where jobs q b c d (f s)) (sym (alike.takes now due c level n tried d s low is holds)))
      (rest (set.insert tried d) _ (try_holds level n tried d s (r.takes s c d) refl is holds))

  look_alike : (n level : ℕ) (tried : set.FinSet nat_cmp) (s : S) → P now (looking due c level n tried) s
      → seen f (look jobs r n c level tried s) ≡ look jobs q n c level tried (f s)
  unfolding look
  look_alike zero level tried s holds = refl
  look_alike (suc n) level tried s holds =
      look_at_alike (r.named s c level tried) level n tried s refl holds (λ more t at. look_alike n level more t at)
      ∙ ap (λ o. look_at jobs q o c (look jobs q n c level) tried (f s)) (sym (alike.named now due c level n tried s low holds))

  look_at_holds : (o : Option ℕ) (level n : ℕ) (tried : set.FinSet nat_cmp) (s : S) → r.named s c level tried ≡ o
      → P now (looking due c level (suc n) tried) s
      → ((more : set.FinSet nat_cmp) (t : S) → P now (looking due c level n more) t
      → P now (climbed due c (level + 1)) (look jobs r n c level more t).state)
      → P now (climbed due c (level + 1)) (look_at jobs r o c (look jobs r n c level) tried s).state
  look_at_holds None level n tried s none holds rest = keeps.named_none now due c level n tried s low none holds
  look_at_holds (Some d) level n tried s is holds rest =
      rest (set.insert tried d) _ (try_holds level n tried d s (r.takes s c d) refl is holds)

  look_holds : (n level : ℕ) (tried : set.FinSet nat_cmp) (s : S) → P now (looking due c level n tried) s
      → P now (climbed due c (level + 1)) (look jobs r n c level tried s).state
  unfolding look
  look_holds zero level tried s holds = keeps.none_left now due c level tried s low holds
  look_holds (suc n) level tried s holds =
      look_at_holds (r.named s c level tried) level n tried s refl holds (λ more t at. look_holds n level more t at)

  level_alike : (b : Bool) (level : ℕ) (above : S → Played S) (over : T → Played T) (s : S) → level < levels → r.looks_after s c level ≡ b
      → P now (climbed due c level) s
      → ((t : S) → P now (climbed due c (level + 1)) t → seen f (above t) ≡ over (f t))
      → seen f (look_where jobs r b c level above s) ≡ look_where jobs q b c level over (f s)
  level_alike false level above over s below is holds rest = refl
  level_alike true level above over s below is holds rest =
      let begins = keeps.looks now due c level s low below is holds in
      then_seen f (look jobs r (r.cpus s) c level set.empty s) (look jobs q (q.cpus (f s)) c level set.empty (f s)) above over
      (look_alike (r.cpus s) level set.empty s begins
      ∙ ap (λ n. look jobs q n c level set.empty (f s)) (sym (alike.cpus_are s)))
      (rest _ (look_holds (r.cpus s) level set.empty s begins))

  looks_alike : (n level : ℕ) (s : S) → level + n ≡ levels → P now (climbed due c level) s
      → seen f (looks jobs r n c level s) ≡ looks jobs q n c level (f s)
  unfolding looks
  looks_alike zero level s all holds = refl
  looks_alike (suc n) level s all holds =
      level_alike (r.looks_after s c level) level (looks jobs r n c (level + 1)) (looks jobs q n c (level + 1)) s (omega (arith, all)) refl holds
      (λ t at. looks_alike n (level + 1) t (omega (arith, all)) at)
      ∙ ap (λ b. look_where jobs q b c level (looks jobs q n c (level + 1)) (f s)) (sym (alike.looks_after s c level))

  level_holds : (b : Bool) (level : ℕ) (above : S → Played S) (s : S) → level < levels → r.looks_after s c level ≡ b
      → P now (climbed due c level) s
      → ((t : S) → P now (climbed due c (level + 1)) t → P now (looked due c) (above t).state)
      → P now (looked due c) (look_where jobs r b c level above s).state
  level_holds false level above s below is holds rest = keeps.looks_not now due c level s low below is holds
  level_holds true level above s below is holds rest =
      rest _ (look_holds (r.cpus s) level set.empty s (keeps.looks now due c level s low below is holds))

  looks_hold : (n level : ℕ) (s : S) → level + n ≡ levels → P now (climbed due c level) s
      → P now (looked due c) (looks jobs r n c level s).state
  unfolding looks
  looks_hold zero level s all holds =
      let same : level ≡ levels = omega (arith, all) in
      keeps.top_looked now due c s low (subst (λ k. P now (climbed due c k) s) same holds)
  looks_hold (suc n) level s all holds =
      level_holds (r.looks_after s c level) level (looks jobs r n c (level + 1)) s (omega (arith, all)) refl holds
      (λ t at. looks_hold n (level + 1) t (omega (arith, all)) at)

  interrupt_alike : (s : S) → set.contains due c ≡ true → P now (begun due c) s
      → seen f (interrupt jobs r c s) ≡ interrupt jobs q c (f s)
  interrupt_alike s is holds =
      let inside = keeps.entered now due c s low is holds in
      let drained = drains_hold (r.entered s c) inside in
      let all : 0 + r.levels s ≡ levels = zero-add (r.levels s) ∙ keeps.all_levels now due c s low holds in
      let begins : seen f (counting (r.entered s c)) ≡ counting (q.entered (f s) c) = ap counting (alike.entered now due c s low is holds) in
      then_seen f (and_then (and_then (counting (r.entered s c)) (drains jobs r c)) (looks jobs r (r.levels s) c 0))
      (and_then (and_then (counting (q.entered (f s) c)) (drains jobs q c)) (looks jobs q (q.levels (f s)) c 0))
      (λ t. silent (r.ended t c)) (λ t. silent (q.ended t c))
      (then_seen f (and_then (counting (r.entered s c)) (drains jobs r c)) (and_then (counting (q.entered (f s) c)) (drains jobs q c))
      (looks jobs r (r.levels s) c 0) (looks jobs q (q.levels (f s)) c 0)
      (then_seen f (counting (r.entered s c)) (counting (q.entered (f s) c)) (drains jobs r c) (drains jobs q c) begins (drains_alike (r.entered s c) inside))
      (looks_alike (r.levels s) 0 _ all drained
      ∙ ap (λ n. looks jobs q n c 0 (f (drains jobs r c (r.entered s c)).state)) (sym (alike.levels_are s))))
      (ap silent (alike.ended now due c _ low is (looks_hold (r.levels s) 0 _ all drained)))

  pub turn_alike : (b : Bool) (s : S) → set.contains due c ≡ b → P now (begun due c) s
      → seen f (interrupt_where jobs r b c s) ≡ interrupt_where jobs q b c (f s)
  turn_alike false s is holds = refl
  turn_alike true s is holds = interrupt_alike s is holds

-- all interrupts of a moment
module _ {S T : Type 0} (jobs : Replies) (r : Rules S) (q : Rules T) (f : S → T) (cpus timers levels end : ℕ)
    (P : (now : ℕ) → Stage → S → Type 0) (Fits : Arming → Type 0) (keeps : KeptByRules r cpus timers levels end Fits P)
    (alike : Alike r q f cpus timers levels end Fits P) (now : ℕ) (due : set.FinSet nat_cmp) where
  from_alike : (n c : ℕ) (s : S) → c + n ≡ cpus → P now (begun due c) s
      → seen f (interrupts jobs r n c due s) ≡ interrupts jobs q n c due (f s)
  unfolding interrupts
  from_alike zero c s all holds = refl
  from_alike (suc n) c s all holds =
      let low : c < cpus = omega (arith, all) in
      then_seen f (interrupt_where jobs r (set.contains due c) c s) (interrupt_where jobs q (set.contains due c) c (f s))
      (interrupts jobs r n (c + 1) due) (interrupts jobs q n (c + 1) due)
      (turn_alike jobs r q f cpus timers levels end P Fits keeps alike now due c low (set.contains due c) s refl holds)
      (from_alike n (c + 1) _ (omega (arith, all))
      (turn_kept jobs r cpus timers levels end P Fits keeps now due c low (set.contains due c) s refl holds))

  pub interrupts_alike : (s : S) → P now (begun due 0) s
      → seen f (interrupts jobs r (r.cpus s) 0 due s) ≡ interrupts jobs q (q.cpus (f s)) 0 due (f s)
  interrupts_alike s holds =
      let all : 0 + r.cpus s ≡ cpus = zero-add (r.cpus s) ∙ keeps.all_cpus now due s holds in
      from_alike (r.cpus s) 0 s all holds
      ∙ ap (λ n. interrupts jobs q n 0 due (f s)) (sym (alike.cpus_are s))
