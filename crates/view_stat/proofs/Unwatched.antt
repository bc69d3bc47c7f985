-- a play that is watched, without what was counted, is the play: rule by rule, line by line
use Rattle.std.proofs.Common.{◌≡◌, ℕ, zero, suc, ◌+◌, ◌==◌, List, [], ◌∷◌, Bool, true, false}
use Rattle.std.proofs.Common.{◌++◌, Option, Some, None, refl, ap, ◌∙◌, map}
use Rattle.std.specs.Prelude.{if◌then◌else◌, nat_le, option_map}
use Rattle.std.specs.Ordering.{nat_cmp}
use Rattle.std.specs.FinSet as set
use Rattle.tm_base.specs.declared.names.Class.{Class}
use Rattle.tm_base.specs.declared.names.Class.TheVariants.{Deferrable, Global, Pinned}
use Rattle.tm_base.specs.declared.names.CpuId.{CpuId}
use Rattle.tm_base.specs.declared.faults.OpFault.{OpFault}
use Rattle.tm_report.specs.declared.lines.Line.{Line}
use Rattle.tm_report.specs.declared.lines.Line.TheVariants as lines
use Rattle.tm_script.specs.declared.syntax.Moment.{Moment}
use Rattle.tm_script.specs.declared.syntax.Op.{Op}
use Rattle.tm_script.specs.declared.syntax.What.{What}
use Rattle.tm_script.specs.declared.syntax.What.TheVariants as whats
use Rattle.job_table.specs.declared.jobs.JobReply.{JobReply}
use Rattle.job_table.specs.declared.jobs.JobReply.TheVariants as replies
use Rattle.wheel_core.specs.declared.item.Item.{Item}
use Rattle.play_rules.specs.declared.asks.Answerer.{Answerer}
use Rattle.play_rules.specs.declared.asks.Cancelling.{Cancelling}
use Rattle.play_rules.specs.declared.asks.Queued.{Queued}
use Rattle.play_rules.specs.Parts.{Played, and_then, counting, lines_told, printing, silent}
use Rattle.play_rules.specs.Rules.{Moved, Rules}
use Rattle.play_rules.specs.Interrupts.{Replied, Replies, again, answered, cpu_id, drain, drains}
use Rattle.play_rules.specs.Interrupts.{having_interrupt, interrupt, interrupt_where, interrupts}
use Rattle.play_rules.specs.Interrupts.{job_call, look, look_at, look_where, looks, ran}
use Rattle.play_rules.specs.Interrupts.{run_job, run_jobs, try, try_where}
use Rattle.play_rules.specs.Moments.{Turn, moment_at, moment_now, moments_after, next_moment}
use Rattle.play_rules.specs.Moments.{scripted, turn, turn_then, turns}
use Rattle.play_rules.specs.Operations.{cancel_where, clear_after, clear_where, cover_lines}
use Rattle.play_rules.specs.Operations.{cover_or, covers, done, done_unless, hand_on, hand_on_to}
use Rattle.play_rules.specs.Operations.{hand_on_where, idle_where, leaver, move_all, move_printed}
use Rattle.play_rules.specs.Operations.{moves, moves_to, offline, operation, operations, refusal}
use Rattle.view_stat.specs.Watched.{Dues, Watched, let_go_where, put_moved, unwatched}
use Rattle.view_stat.specs.Watched.{unwatched_turn, watched_rules}

module _ {S : Type 0} where
  and_seen : (p : Played (Watched S)) (g : Watched S → Played (Watched S)) (h : S → Played S)
      → unwatched (g p.state) ≡ h p.state.world
      → unwatched (and_then p g) ≡ and_then (unwatched p) h
  and_seen p g h e = λ i. record {
    lines = p.lines ++ (e i).lines;
    work = p.work + (e i).work;
    state = (e i).state;
  }

  -- one part after the other
  then_seen : (p : Played (Watched S)) (q : Played S) (g : Watched S → Played (Watched S))
      (h : S → Played S) → unwatched p ≡ q → unwatched (g p.state) ≡ h p.state.world
      → unwatched (and_then p g) ≡ and_then q h
  then_seen p q g h e more = and_seen p g h more ∙ ap (λ x. and_then x h) e

  abbrev replied_seen : Replied (Watched S) → Replied S
  replied_seen x = record { reply = x.reply; state = x.state.world }

module _ {S : Type 0} (r : Rules S) (due : Dues S) where
  abbrev w : Rules (Watched S)
  w = watched_rules r due

  -- a CPU is let go, itself or another
  go_where : (itself : Bool) (s : Watched S) (c d count : ℕ)
      → (let_go_where r itself s c d count).world ≡ r.let_go s.world c d
  go_where true s c d count = refl
  go_where false s c d count = refl

  go_seen : (s : Watched S) (c d : ℕ) → (w.let_go s c d).world ≡ r.let_go s.world c d
  go_seen s c d = go_where (d == c) s c d _

  -- OPERATIONS
  refusal_seen : (what : What) (c : ℕ) (s : Watched S)
      → refusal w what c s ≡ refusal r what c s.world
  refusal_seen (whats.Arm timer class delay job arg) c s = refl
  refusal_seen (whats.Cancel timer) c s = refl
  refusal_seen whats.Idle c s = refl
  refusal_seen whats.Wake c s = refl
  refusal_seen whats.Offline c s = refl
  refusal_seen whats.Online c s = refl

  cancel_seen : (o : Option Queued) (a : Cancelling) (s : Watched S)
      → unwatched (cancel_where w o a s) ≡ cancel_where r o a s.world
  cancel_seen None a s = refl
  cancel_seen (Some held) a s = refl

  idle_seen : (stays : Bool) (cpu : CpuId) (s : Watched S)
      → unwatched (idle_where w stays cpu s) ≡ idle_where r stays cpu s.world
  idle_seen true cpu s = refl
  idle_seen false cpu s = refl

  heir_seen : (o : Option ℕ) (cpu : CpuId) (s : Watched S)
      → unwatched (hand_on_to w o cpu s) ≡ hand_on_to r o cpu s.world
  heir_seen None cpu s = refl
  heir_seen (Some d) cpu s = refl

  hand_seen : (b : Bool) (cpu : CpuId) (s : Watched S)
      → unwatched (hand_on_where w b cpu s) ≡ hand_on_where r b cpu s.world
  hand_seen false cpu s = refl
  hand_seen true cpu s = heir_seen (r.successor s.world cpu.0) cpu s

  offline_seen : (cpu : CpuId) (s : Watched S)
      → unwatched (offline w cpu s) ≡ offline r cpu s.world
  offline_seen cpu s =
      then_seen (printing (lines.Offline (w.clock s) cpu) (w.gone_offline s cpu.0))
      (printing (lines.Offline (r.clock s.world) cpu) (r.gone_offline s.world cpu.0))
      (hand_on w cpu) (hand_on r cpu) refl
      (hand_seen (r.hands_on (r.gone_offline s.world cpu.0) cpu.0) cpu (w.gone_offline s cpu.0))

  done_seen : (what : What) (line : ℕ) (cpu : CpuId) (s : Watched S)
      → unwatched (done w what line cpu s) ≡ done r what line cpu s.world
  done_seen (whats.Arm timer class delay job arg) line cpu s = refl
  done_seen (whats.Cancel timer) line cpu s =
      cancel_seen (r.queued s.world timer.0) (record { timer = timer; by = cpu; line = line }) s
  done_seen whats.Idle line cpu s =
      idle_seen (nat_le (r.first_event s.world cpu.0) (r.clock s.world + 1)) cpu s
  done_seen whats.Wake line cpu s = refl
  done_seen whats.Offline line cpu s = offline_seen cpu s
  done_seen whats.Online line cpu s = refl

  unless_seen : (fault : Option OpFault) (o : Op) (s : Watched S)
      → unwatched (done_unless w fault o s) ≡ done_unless r fault o s.world
  unless_seen None o s = done_seen o.what o.line o.cpu s
  unless_seen (Some fault) o s = refl

  operation_seen : (o : Op) (s : Watched S) → unwatched (operation w o s) ≡ operation r o s.world
  operation_seen o s =
      unless_seen (refusal w o.what o.cpu.0 s) o s
      ∙ ap (λ fault. done_unless r fault o s.world) (refusal_seen o.what o.cpu.0 s)

  operations_seen : (os : List Op) (s : Watched S)
      → unwatched (operations w os s) ≡ operations r os s.world
  unfolding operations
  operations_seen [] s = refl
  operations_seen (o ∷ os) s =
      then_seen (operation w o s) (operation r o s.world) (operations w os) (operations r os)
      (operation_seen o s) (operations_seen os (operation w o s).state)

  -- MOVING
  move_seen : (o : Option (Moved S)) (n from to : ℕ) (s : Watched S)
      → ((t : Watched S) → unwatched (moves w n from to t) ≡ moves r n from to t.world)
      → unwatched (move_printed w from to (option_map (put_moved s) o) (moves w n from to) s)
      ≡ move_printed r from to o (moves r n from to) s.world
  move_seen None n from to s rest = refl
  move_seen (Some m) n from to s rest =
      then_seen
      (printing (lines.Moved (w.clock s) m.mover.timer (cpu_id from) (cpu_id to) m.mover.wheel)
      (put_moved s m).state)
      (printing (lines.Moved (r.clock s.world) m.mover.timer (cpu_id from) (cpu_id to)
      m.mover.wheel) m.state)
      (moves w n from to) (moves r n from to) refl (rest (put_moved s m).state)

  moves_seen : (n from to : ℕ) (s : Watched S)
      → unwatched (moves w n from to s) ≡ moves r n from to s.world
  unfolding moves
  moves_seen zero from to s = refl
  moves_seen (suc n) from to s =
      move_seen (r.moved s.world from to) n from to s (λ t. moves_seen n from to t)

  control_seen : (o : Option ℕ) (from : ℕ) (s : Watched S)
      → unwatched (moves_to w o from s) ≡ moves_to r o from s.world
  control_seen None from s = refl
  control_seen (Some d) from s =
      then_seen (printing (lines.Control (w.clock s) (cpu_id d)) (w.controlling s d))
      (printing (lines.Control (r.clock s.world) (cpu_id d)) (r.controlling s.world d))
      (move_all w from d) (move_all r from d) refl
      (moves_seen (r.count_queued (r.controlling s.world d) from) from d (w.controlling s d))

  cleared_seen : (queued from : ℕ) (s : Watched S)
      → unwatched (clear_where w queued from s) ≡ clear_where r queued from s.world
  cleared_seen zero from s = refl
  cleared_seen (suc n) from s = control_seen (r.controller s.world) from s

  clear_by : (online : Bool) (from : ℕ) (s : Watched S)
      → unwatched (if online then silent s else clear_where w (w.count_queued s from) from s)
      ≡ (if online then silent s.world
      else clear_where r (r.count_queued s.world from) from s.world)
  clear_by true from s = refl
  clear_by false from s = cleared_seen (r.count_queued s.world from) from s

  clear_seen : (o : Option ℕ) (s : Watched S)
      → unwatched (clear_after w o s) ≡ clear_after r o s.world
  clear_seen None s = refl
  clear_seen (Some c) s = clear_by (r.is_online s.world c) c s

  -- COVERS
  cover_seen : (o : Option Answerer) (c : ℕ) (s : Watched S) (others : List Line)
      → cover_or w o c s others ≡ cover_or r o c s.world others
  cover_seen None c s others = refl
  cover_seen (Some a) c s others = refl

  cover_lines_seen : (n c : ℕ) (s : Watched S) → cover_lines w n c s ≡ cover_lines r n c s.world
  unfolding cover_lines
  cover_lines_seen zero c s = refl
  cover_lines_seen (suc n) c s =
      ap (cover_or w (r.cover s.world c) c s) (cover_lines_seen n (c + 1) s)
      ∙ cover_seen (r.cover s.world c) c s (cover_lines r n (c + 1) s.world)

  covers_seen : (s : Watched S) → unwatched (covers w s) ≡ covers r s.world
  covers_seen s =
      ap (λ ls. lines_told ls s.world) (cover_lines_seen (r.cpus s.world) 0 s)

  scripted_seen : (o : Option Moment) (s : Watched S)
      → unwatched (scripted w o s) ≡ scripted r o s.world
  scripted_seen None s = refl
  scripted_seen (Some m) s =
      let ops = operations_seen m.ops s in
      let cleared =
      then_seen (operations w m.ops s) (operations r m.ops s.world)
      (clear_after w (leaver m.ops)) (clear_after r (leaver m.ops)) ops
      (clear_seen (leaver m.ops) (operations w m.ops s).state) in
      then_seen (and_then (operations w m.ops s) (clear_after w (leaver m.ops)))
      (and_then (operations r m.ops s.world) (clear_after r (leaver m.ops)))
      (covers w) (covers r) cleared (covers_seen _)

  -- INTERRUPTS
  module _ (jobs : Replies) where
    again_seen : (o : Option Queued) (runner : ℕ) (item : Item) (class : Class) (delay : ℕ)
        (s : Watched S) → replied_seen (again w o runner item class delay s)
        ≡ again r o runner item class delay s.world
    again_seen None runner item class delay s = refl
    again_seen (Some held) runner item class delay s = refl

    answer_seen : (reply : JobReply) (runner : ℕ) (item : Item) (s : Watched S)
        → replied_seen (answered w reply runner item s) ≡ answered r reply runner item s.world
    answer_seen replies.Done runner item s = refl
    answer_seen (replies.Mark n) runner item s = refl
    answer_seen (replies.Again class delay) runner item s =
        again_seen (r.queued s.world item.id) runner item class delay s

    job_seen : (home runner : ℕ) (item : Item) (s : Watched S)
        → unwatched (run_job jobs w home runner item s) ≡ run_job jobs r home runner item s.world
    job_seen home runner item s =
        ap (ran r s.world home runner item)
        (answer_seen (jobs item.job (job_call r s.world runner item)) runner item s)

    jobs_seen : (home runner : ℕ) (items : List Item) (s : Watched S)
        → unwatched (run_jobs jobs w home runner items s)
        ≡ run_jobs jobs r home runner items s.world
    unfolding run_jobs
    jobs_seen home runner [] s = refl
    jobs_seen home runner (item ∷ items) s =
        then_seen (run_job jobs w home runner item s) (run_job jobs r home runner item s.world)
        (run_jobs jobs w home runner items) (run_jobs jobs r home runner items)
        (job_seen home runner item s)
        (jobs_seen home runner items (run_job jobs w home runner item s).state)

    drain_seen : (home : ℕ) (class : Class) (runner : ℕ) (s : Watched S)
        → unwatched (drain jobs w home class runner s) ≡ drain jobs r home class runner s.world
    drain_seen home class runner s =
        jobs_seen home runner (r.drained s.world home class runner).items
        (w.drained s home class runner).state

    try_seen : (takes : Bool) (c d : ℕ) (s : Watched S)
        → unwatched (try_where jobs w takes c d s) ≡ try_where jobs r takes c d s.world
    try_seen false c d s = refl
    try_seen true c d s =
        then_seen (drain jobs w d Global c (w.taken s c d))
        (drain jobs r d Global c (r.taken s.world c d))
        (λ t. silent (w.let_go t c d)) (λ t. silent (r.let_go t c d))
        (drain_seen d Global c (w.taken s c d)) (ap silent (go_seen _ c d))

    look_at_seen : (o : Option ℕ) (c level n : ℕ) (tried : set.FinSet nat_cmp) (s : Watched S)
        → ((more : set.FinSet nat_cmp) (t : Watched S)
        → unwatched (look jobs w n c level more t) ≡ look jobs r n c level more t.world)
        → unwatched (look_at jobs w o c (look jobs w n c level) tried s)
        ≡ look_at jobs r o c (look jobs r n c level) tried s.world
    look_at_seen None c level n tried s rest = refl
    look_at_seen (Some d) c level n tried s rest =
        then_seen (try jobs w c d s) (try jobs r c d s.world)
        (look jobs w n c level (set.insert tried d)) (look jobs r n c level (set.insert tried d))
        (try_seen (r.takes s.world c d) c d s) (rest (set.insert tried d) _)

    look_seen : (n c level : ℕ) (tried : set.FinSet nat_cmp) (s : Watched S)
        → unwatched (look jobs w n c level tried s) ≡ look jobs r n c level tried s.world
    unfolding look
    look_seen zero c level tried s = refl
    look_seen (suc n) c level tried s =
        look_at_seen (r.named s.world c level tried) c level n tried s
        (λ more t. look_seen n c level more t)

    level_seen : (b : Bool) (c level : ℕ) (above : Watched S → Played (Watched S))
        (over : S → Played S) (s : Watched S)
        → ((t : Watched S) → unwatched (above t) ≡ over t.world)
        → unwatched (look_where jobs w b c level above s)
        ≡ look_where jobs r b c level over s.world
    level_seen false c level above over s rest = refl
    level_seen true c level above over s rest =
        then_seen (look jobs w (w.cpus s) c level set.empty s)
        (look jobs r (r.cpus s.world) c level set.empty s.world) above over
        (look_seen (r.cpus s.world) c level set.empty s) (rest _)

    looks_seen : (n c level : ℕ) (s : Watched S)
        → unwatched (looks jobs w n c level s) ≡ looks jobs r n c level s.world
    unfolding looks
    looks_seen zero c level s = refl
    looks_seen (suc n) c level s =
        level_seen (r.looks_after s.world c level) c level (looks jobs w n c (level + 1))
        (looks jobs r n c (level + 1)) s (λ t. looks_seen n c (level + 1) t)

    drains_seen : (c : ℕ) (s : Watched S)
        → unwatched (drains jobs w c s) ≡ drains jobs r c s.world
    drains_seen c s =
        then_seen (and_then (drain jobs w c Pinned c s) (drain jobs w c Global c))
        (and_then (drain jobs r c Pinned c s.world) (drain jobs r c Global c))
        (drain jobs w c Deferrable c) (drain jobs r c Deferrable c)
        (then_seen (drain jobs w c Pinned c s) (drain jobs r c Pinned c s.world)
        (drain jobs w c Global c) (drain jobs r c Global c) (drain_seen c Pinned c s)
        (drain_seen c Global c _))
        (drain_seen c Deferrable c _)

    interrupt_seen : (c : ℕ) (s : Watched S)
        → unwatched (interrupt jobs w c s) ≡ interrupt jobs r c s.world
    interrupt_seen c s =
        let own =
        then_seen (counting (w.entered s c)) (counting (r.entered s.world c)) (drains jobs w c)
        (drains jobs r c) refl (drains_seen c (w.entered s c)) in
        let looked =
        then_seen (and_then (counting (w.entered s c)) (drains jobs w c))
        (and_then (counting (r.entered s.world c)) (drains jobs r c))
        (looks jobs w (w.levels s) c 0) (looks jobs r (r.levels s.world) c 0) own
        (looks_seen (r.levels s.world) c 0 _) in
        then_seen
        (and_then (and_then (counting (w.entered s c)) (drains jobs w c))
        (looks jobs w (w.levels s) c 0))
        (and_then (and_then (counting (r.entered s.world c)) (drains jobs r c))
        (looks jobs r (r.levels s.world) c 0))
        (λ t. silent (w.ended t c)) (λ t. silent (r.ended t c)) looked refl

    where_seen : (b : Bool) (c : ℕ) (s : Watched S)
        → unwatched (interrupt_where jobs w b c s) ≡ interrupt_where jobs r b c s.world
    where_seen false c s = refl
    where_seen true c s = interrupt_seen c s

    interrupts_seen : (n c : ℕ) (cpus : set.FinSet nat_cmp) (s : Watched S)
        → unwatched (interrupts jobs w n c cpus s) ≡ interrupts jobs r n c cpus s.world
    unfolding interrupts
    interrupts_seen zero c cpus s = refl
    interrupts_seen (suc n) c cpus s =
        then_seen (interrupt_where jobs w (set.contains cpus c) c s)
        (interrupt_where jobs r (set.contains cpus c) c s.world)
        (interrupts jobs w n (c + 1) cpus) (interrupts jobs r n (c + 1) cpus)
        (where_seen (set.contains cpus c) c s) (interrupts_seen n (c + 1) cpus _)

    -- MOMENTS
    moment_seen : (ms : List Moment) (now : ℕ) (s : Watched S)
        → unwatched (moment_now jobs w ms now s) ≡ moment_now jobs r ms now s.world
    moment_seen ms now s =
        let cpus = having_interrupt r s.world in
        let m = moment_at now ms in
        then_seen (and_then (counting s) (interrupts jobs w (w.cpus s) 0 cpus))
        (and_then (counting s.world) (interrupts jobs r (r.cpus s.world) 0 cpus))
        (scripted w m) (scripted r m)
        (then_seen (counting s) (counting s.world) (interrupts jobs w (w.cpus s) 0 cpus)
        (interrupts jobs r (r.cpus s.world) 0 cpus) refl
        (interrupts_seen (r.cpus s.world) 0 cpus s))
        (scripted_seen m _)

    turn_seen : (ms : List Moment) (now : ℕ) (s : Watched S)
        → unwatched_turn (turn jobs w ms now s) ≡ turn jobs r ms now s.world
    turn_seen ms now s =
        ap (λ (p : Played S). record { at = now; played = p })
        (moment_seen ms now (w.at_clock now s))

    then_turns : (is_last : Bool) (rest : Watched S → List (Turn (Watched S)))
        (others : S → List (Turn S)) (t : Turn (Watched S)) (u : Turn S) → unwatched_turn t ≡ u
        → map unwatched_turn (rest t.played.state) ≡ others t.played.state.world
        → map unwatched_turn (turn_then is_last rest t) ≡ turn_then is_last others u
    then_turns true rest others t u here there = ap (λ x. x ∷ []) here
    then_turns false rest others t u here there =
        ap (λ xs. unwatched_turn t ∷ xs) there
        ∙ ap (λ (x : Turn S). x ∷ others x.played.state) here

    -- TURN BY TURN
    pub turns_seen : (n end now : ℕ) (ms : List Moment) (s : Watched S)
        → map unwatched_turn (turns jobs w n end now ms s) ≡ turns jobs r n end now ms s.world
    unfolding turns
    turns_seen zero end now ms s = refl
    turns_seen (suc n) end now ms s =
        let left = moments_after now ms in
        then_turns (now == end)
        (λ t. turns jobs w n end (next_moment w end left t) left t)
        (λ t. turns jobs r n end (next_moment r end left t) left t)
        (turn jobs w ms now s) (turn jobs r ms now s.world) (turn_seen ms now s)
        (turns_seen n end (next_moment w end left (turn jobs w ms now s).played.state) left
        (turn jobs w ms now s).played.state)
