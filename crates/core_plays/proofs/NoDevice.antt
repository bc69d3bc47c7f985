-- no line of a play is a device's, under any rules
use Rattle.std.proofs.Common.{◌≡◌, ℕ, zero, suc, ◌+◌, Bool, true, false, List, [], ◌∷◌, ◌++◌, Option}
use Rattle.std.proofs.Common.{Some, None, append-nil, refl, ap, ◌∙◌}
use Rattle.std.specs.Prelude.{◌==◌, if◌then◌else◌, not}
use Rattle.std.specs.Ordering.{nat_cmp}
use Rattle.std.specs.FinSet as set
use Rattle.std.proofs.lemmas.List.Elements.{filter-append}
use Rattle.tm_base.specs.declared.names.Class.{Class}
use Rattle.tm_base.specs.declared.names.Class.TheVariants.{Pinned, Global, Deferrable}
use Rattle.tm_base.specs.declared.names.CpuId.{CpuId}
use Rattle.tm_base.specs.declared.faults.OpFault.{OpFault}
use Rattle.tm_base.specs.declared.faults.OpFault.TheVariants as faults
use Rattle.deep_idle.specs.Device.{DeviceState}
use Rattle.wheel_core.specs.declared.item.Item.{Item}
use Rattle.tm_report.specs.declared.lines.Line.{Line}
use Rattle.tm_report.specs.declared.lines.Line.TheVariants as lines
use Rattle.tm_script.specs.declared.syntax.Moment.{Moment}
use Rattle.tm_script.specs.declared.syntax.Op.{Op}
use Rattle.tm_script.specs.declared.syntax.What.{What}
use Rattle.tm_script.specs.declared.syntax.What.TheVariants as whats
use Rattle.play_rules.specs.declared.asks.Answerer.{Answerer}
use Rattle.play_rules.specs.declared.asks.Cancelling.{Cancelling}
use Rattle.play_rules.specs.declared.asks.Queued.{Queued}
use Rattle.play_rules.specs.Rules.{Moved, Rules}
use Rattle.play_rules.specs.Parts.{Played, and_then, counting, printing, silent}
use Rattle.play_rules.specs.Interrupts.{Replies, cpu_id, drain, drains, timer_id, having_interrupt}
use Rattle.play_rules.specs.Interrupts.{interrupt_where, interrupts, look, look_at, look_where}
use Rattle.play_rules.specs.Interrupts.{looks, run_job, run_jobs, try, try_where}
use Rattle.play_rules.specs.Operations.{cancel_where, clear_after, covers, move_all, clear_where, cover_lines}
use Rattle.play_rules.specs.Operations.{cover_or, done, done_unless, hand_on, hand_on_to}
use Rattle.play_rules.specs.Operations.{hand_on_where, idle_where, leaver, move_printed, moves}
use Rattle.play_rules.specs.Operations.{moves_to, operation, operations, refusal, refused_line}
use Rattle.play_rules.specs.Moments.{Turn, closing, left, left_or, moment_at}
use Rattle.play_rules.specs.Moments.{moments_after, next_moment, scripted, turn, turn_lines}
use Rattle.play_rules.specs.Moments.{turn_then, turns}
use Rattle.core_plays.specs.Deep.{device_after, device_line, is_device, with_device}
use Rattle.core_plays.specs.Deep.{without_device}

-- none of these lines is a device's
abbrev Plain : List Line → Type 0
Plain ls = without_device ls ≡ ls

plain_append : (xs ys : List Line) → Plain xs → Plain ys → Plain (xs ++ ys)
plain_append xs ys one two =
    filter-append (λ line. not (is_device line)) xs ys ∙ (λ i. one i ++ two i)

refused_plain : (fault : OpFault) (now line : ℕ) (cpu : CpuId)
    → is_device (refused_line fault now line cpu) ≡ false
refused_plain faults.NotActive now line cpu = refl
refused_plain faults.NotIdle now line cpu = refl
refused_plain faults.Offline now line cpu = refl
refused_plain faults.AlreadyOnline now line cpu = refl
refused_plain faults.LastOnline now line cpu = refl
refused_plain (faults.Queued holder) now line cpu = refl
refused_plain (faults.Spent made) now line cpu = refl
refused_plain faults.NoMemory now line cpu = refl

one_plain : (line : Line) → is_device line ≡ false → Plain (line ∷ [])
one_plain line is = rw is refl

module _ {S : Type 0} where
  abbrev IsPlain : Played S → Type 0
  IsPlain p = Plain p.lines

  then_plain : (p : Played S) (f : S → Played S) → IsPlain p → ((s : S) → IsPlain (f s))
      → IsPlain (and_then p f)
  then_plain p f one two = plain_append p.lines (f p.state).lines one (two p.state)

module _ {S : Type 0} (jobs : Replies) (r : Rules S) where
  -- INTERRUPTS
  jobs_plain : (home runner : ℕ) (items : List Item) (s : S)
      → IsPlain (run_jobs jobs r home runner items s)
  unfolding run_jobs
  jobs_plain home runner [] s = refl
  jobs_plain home runner (item ∷ items) s =
      then_plain (run_job jobs r home runner item s) (run_jobs jobs r home runner items) refl
      (jobs_plain home runner items)

  drain_plain : (home : ℕ) (class : Class) (runner : ℕ) (s : S)
      → IsPlain (drain jobs r home class runner s)
  drain_plain home class runner s =
      jobs_plain home runner (r.drained s home class runner).items
      (r.drained s home class runner).state

  try_plain_where : (b : Bool) (c d : ℕ) (s : S) → IsPlain (try_where jobs r b c d s)
  try_plain_where false c d s = refl
  try_plain_where true c d s =
      then_plain (drain jobs r d Global c (r.taken s c d)) (λ t. silent (r.let_go t c d)) (drain_plain d Global c (r.taken s c d))
      (λ t. refl)

  look_at_plain : (o : Option ℕ) (c : ℕ) (rest : set.FinSet nat_cmp → S → Played S)
      (tried : set.FinSet nat_cmp) (s : S)
      → ((more : set.FinSet nat_cmp) (t : S) → IsPlain (rest more t))
      → IsPlain (look_at jobs r o c rest tried s)
  look_at_plain None c rest tried s all = refl
  look_at_plain (Some d) c rest tried s all =
      then_plain (try jobs r c d s) (rest (set.insert tried d))
      (try_plain_where (r.takes s c d) c d s) (all (set.insert tried d))

  look_plain : (n c level : ℕ) (tried : set.FinSet nat_cmp) (s : S)
      → IsPlain (look jobs r n c level tried s)
  unfolding look
  look_plain zero c level tried s = refl
  look_plain (suc n) c level tried s =
      look_at_plain (r.named s c level tried) c (look jobs r n c level) tried s
      (look_plain n c level)

  look_where_plain : (b : Bool) (c level : ℕ) (above : S → Played S) (s : S)
      → ((t : S) → IsPlain (above t)) → IsPlain (look_where jobs r b c level above s)
  look_where_plain false c level above s all = refl
  look_where_plain true c level above s all =
      then_plain (look jobs r (r.cpus s) c level set.empty s) above
      (look_plain (r.cpus s) c level set.empty s) all

  looks_plain : (n c level : ℕ) (s : S) → IsPlain (looks jobs r n c level s)
  unfolding looks
  looks_plain zero c level s = refl
  looks_plain (suc n) c level s =
      look_where_plain (r.looks_after s c level) c level (looks jobs r n c (level + 1)) s
      (looks_plain n c (level + 1))

  drains_plain : (c : ℕ) (s : S) → IsPlain (drains jobs r c s)
  drains_plain c s =
      then_plain (and_then (drain jobs r c Pinned c s) (drain jobs r c Global c))
      (drain jobs r c Deferrable c)
      (then_plain (drain jobs r c Pinned c s) (drain jobs r c Global c)
      (drain_plain c Pinned c s) (drain_plain c Global c))
      (drain_plain c Deferrable c)

  interrupt_plain : (b : Bool) (c : ℕ) (s : S) → IsPlain (interrupt_where jobs r b c s)
  interrupt_plain false c s = refl
  interrupt_plain true c s =
      then_plain
      (and_then (and_then (counting (r.entered s c)) (drains jobs r c)) (looks jobs r (r.levels s) c 0))
      (λ t. silent (r.ended t c))
      (then_plain (and_then (counting (r.entered s c)) (drains jobs r c))
      (looks jobs r (r.levels s) c 0)
      (then_plain (counting (r.entered s c)) (drains jobs r c) refl (drains_plain c))
      (looks_plain (r.levels s) c 0))
      (λ t. refl)

  interrupts_plain : (n c : ℕ) (due : set.FinSet nat_cmp) (s : S)
      → IsPlain (interrupts jobs r n c due s)
  unfolding interrupts
  interrupts_plain zero c due s = refl
  interrupts_plain (suc n) c due s =
      then_plain (interrupt_where jobs r (set.contains due c) c s) (interrupts jobs r n (c + 1) due)
      (interrupt_plain (set.contains due c) c s) (interrupts_plain n (c + 1) due)

module _ {S : Type 0} (r : Rules S) where
  -- OPERATIONS
  cancel_plain : (o : Option Queued) (c : Cancelling) (s : S) → IsPlain (cancel_where r o c s)
  cancel_plain None c s = refl
  cancel_plain (Some held) c s = refl

  idle_plain : (stays : Bool) (cpu : CpuId) (s : S) → IsPlain (idle_where r stays cpu s)
  idle_plain true cpu s = refl
  idle_plain false cpu s = refl

  hand_on_to_plain : (o : Option ℕ) (cpu : CpuId) (s : S) → IsPlain (hand_on_to r o cpu s)
  hand_on_to_plain None cpu s = refl
  hand_on_to_plain (Some d) cpu s = refl

  hand_on_plain : (b : Bool) (cpu : CpuId) (s : S) → IsPlain (hand_on_where r b cpu s)
  hand_on_plain false cpu s = refl
  hand_on_plain true cpu s = hand_on_to_plain (r.successor s cpu.0) cpu s

  done_plain : (what : What) (line : ℕ) (cpu : CpuId) (s : S) → IsPlain (done r what line cpu s)
  done_plain (whats.Arm timer class delay job arg) line cpu s = refl
  done_plain (whats.Cancel timer) line cpu s =
      cancel_plain (r.queued s timer.0) (record { timer = timer; by = cpu; line = line }) s
  done_plain whats.Idle line cpu s = idle_plain _ cpu s
  done_plain whats.Wake line cpu s = refl
  done_plain whats.Offline line cpu s =
      then_plain (printing (lines.Offline (r.clock s) cpu) (r.gone_offline s cpu.0)) (hand_on r cpu)
      refl (λ t. hand_on_plain (r.hands_on t cpu.0) cpu t)
  done_plain whats.Online line cpu s = refl

  unless_plain : (refused : Option OpFault) (o : Op) (s : S) → IsPlain (done_unless r refused o s)
  unless_plain None o s = done_plain o.what o.line o.cpu s
  unless_plain (Some fault) o s = one_plain (refused_line fault (r.clock s) o.line o.cpu) (refused_plain fault (r.clock s) o.line o.cpu)

  operations_plain : (os : List Op) (s : S) → IsPlain (operations r os s)
  unfolding operations
  operations_plain [] s = refl
  operations_plain (o ∷ os) s =
      then_plain (operation r o s) (operations r os)
      (unless_plain (refusal r o.what o.cpu.0 s) o s) (operations_plain os)

  -- MOVING
  printed_plain : (from to : ℕ) (o : Option (Moved S)) (rest : S → Played S) (s : S)
      → ((t : S) → IsPlain (rest t)) → IsPlain (move_printed r from to o rest s)
  printed_plain from to None rest s all = refl
  printed_plain from to (Some m) rest s all =
      then_plain
      (printing
      (lines.Moved (r.clock s) m.mover.timer (cpu_id from) (cpu_id to) m.mover.wheel) m.state)
      rest refl all

  moves_plain : (n from to : ℕ) (s : S) → IsPlain (moves r n from to s)
  unfolding moves
  moves_plain zero from to s = refl
  moves_plain (suc n) from to s =
      printed_plain from to (r.moved s from to) (moves r n from to) s (moves_plain n from to)

  moves_to_plain : (o : Option ℕ) (from : ℕ) (s : S) → IsPlain (moves_to r o from s)
  moves_to_plain None from s = refl
  moves_to_plain (Some d) from s =
      then_plain (printing (lines.Control (r.clock s) (cpu_id d)) (r.controlling s d))
      (move_all r from d) refl
      (λ t. moves_plain (r.count_queued t from) from d t)

  clear_where_plain : (queued from : ℕ) (s : S) → IsPlain (clear_where r queued from s)
  clear_where_plain zero from s = refl
  clear_where_plain (suc n) from s = moves_to_plain (r.controller s) from s

  clear_plain : (o : Option ℕ) (s : S) → IsPlain (clear_after r o s)
  clear_plain None s = refl
  clear_plain (Some c) s =
      elim (r.is_online s c) as (λ b. IsPlain
      (if b then record { lines = []; work = 0; state = s } else clear_where r (r.count_queued s c) c s)) [
        | true ↦ refl
        | false ↦ clear_where_plain (r.count_queued s c) c s
      ]

  -- COVERS, and what is left
  cover_plain : (o : Option Answerer) (c : ℕ) (s : S) (ls : List Line) → Plain ls
      → Plain (cover_or r o c s ls)
  cover_plain None c s ls rest = rest
  cover_plain (Some a) c s ls rest = plain_append (lines.Cover (r.clock s) (cpu_id c) a.wheel a.cover ∷ []) ls refl rest

  covers_plain : (n c : ℕ) (s : S) → Plain (cover_lines r n c s)
  unfolding cover_lines
  covers_plain zero c s = refl
  covers_plain (suc n) c s =
      cover_plain (r.cover s c) c s (cover_lines r n (c + 1) s) (covers_plain n (c + 1) s)

  left_or_plain : (t : ℕ) (o : Option Queued) (ls : List Line) → Plain ls → Plain (left_or t o ls)
  left_or_plain t None ls rest = rest
  left_or_plain t (Some held) ls rest = plain_append (lines.Left (timer_id t) held.cpu held.class held.wheel ∷ []) ls refl rest

  left_plain : (n t : ℕ) (s : S) → Plain (left r n t s)
  unfolding left
  left_plain zero t s = refl
  left_plain (suc n) t s = left_or_plain t (r.queued s t) (left r n (t + 1) s) (left_plain n (t + 1) s)

  closing_plain : (end : ℕ) (s : S) → Plain (closing r end s)
  closing_plain end s = plain_append (left r (r.timers s) 0 s) (lines.End end ∷ []) (left_plain (r.timers s) 0 s) refl

  -- what the script has
  scripted_plain : (o : Option Moment) (s : S) → IsPlain (scripted r o s)
  scripted_plain None s = refl
  scripted_plain (Some m) s =
      then_plain (and_then (operations r m.ops s) (clear_after r (leaver m.ops))) (covers r)
      (then_plain (operations r m.ops s) (clear_after r (leaver m.ops)) (operations_plain m.ops s)
      (clear_plain (leaver m.ops)))
      (λ t. covers_plain (r.cpus t) 0 t)

-- each of these moments tells plain lines
abbrev EachPlain : {S : Type 0} → List (Turn S) → Type 0
EachPlain [] = Unit {0}
EachPlain (t ∷ ts) = Plain t.played.lines × EachPlain ts

module _ {S : Type 0} (jobs : Replies) (r : Rules S) where
  turn_plain : (ms : List Moment) (now : ℕ) (s : S) → Plain (turn jobs r ms now s).played.lines
  turn_plain ms now s =
      let t = r.at_clock now s in
      let due = having_interrupt r t in
      then_plain (and_then (counting t) (interrupts jobs r (r.cpus t) 0 due))
      (scripted r (moment_at now ms))
      (then_plain (counting t) (interrupts jobs r (r.cpus t) 0 due) refl
      (interrupts_plain jobs r (r.cpus t) 0 due))
      (scripted_plain r (moment_at now ms))

  pub turns_plain : (n end now : ℕ) (ms : List Moment) (s : S) → EachPlain (turns jobs r n end now ms s)
  unfolding turns
  turns_plain zero end now ms s = tt
  turns_plain (suc n) end now ms s =
      let here = turn jobs r ms now s in
      let later = moments_after now ms in
      elim (now == end) as (λ b. EachPlain (turn_then b
      (λ t. turns jobs r n end (next_moment r end later t) later t) here)) [
        | true ↦ (turn_plain ms now s, tt)
        | false ↦ (
          turn_plain ms now s,
          turns_plain n end (next_moment r end later here.played.state) later here.played.state,
        )
      ]

-- THE DEVICE'S LINES are left out
no_line : (now before after : ℕ) → without_device (device_line now before after) ≡ []
no_line now before after =
    elim (before == after) as (λ b. without_device (if b then [] else lines.Device now after ∷ []) ≡ []) [
      | true ↦ refl
      | false ↦ refl
    ]

module _ {S : Type 0} (r : Rules S) where
  turns_without : (device : DeviceState) (ts : List (Turn S)) → EachPlain ts
      → without_device (turn_lines (with_device r device ts)) ≡ turn_lines ts
  turns_without device [] plain = refl
  turns_without device (t ∷ ts) plain =
      let line = device_line t.at device.time (device_after r t device).time in
      let rest = turn_lines (with_device r (device_after r t device) ts) in
      filter-append (λ l. not (is_device l)) (t.played.lines ++ line) rest
      ∙ (λ i. filter-append (λ l. not (is_device l)) t.played.lines line i
      ++ turns_without (device_after r t device) ts plain.1 i)
      ∙ (λ i. (plain.0 i ++ no_line t.at device.time (device_after r t device).time i)
      ++ turn_lines ts)
      ∙ ap (λ ls. ls ++ turn_lines ts) (append-nil t.played.lines)

  pub whole_without : (end : ℕ) (device : DeviceState) (ts : List (Turn S)) (last : S)
      → EachPlain ts
      → without_device (turn_lines (with_device r device ts) ++ closing r end last)
      ≡ turn_lines ts ++ closing r end last
  whole_without end device ts last plain =
      filter-append (λ line. not (is_device line)) (turn_lines (with_device r device ts))
      (closing r end last)
      ∙ (λ i. turns_without device ts plain i ++ closing_plain r end last i)
