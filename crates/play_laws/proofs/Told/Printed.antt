-- which lines the parts of a moment print, whatever the rules are
use Rattle.std.proofs.Common.{◌≡◌, ℕ, zero, suc, ◌+◌, List, [], ◌∷◌, ◌++◌, Bool, true, false}
use Rattle.std.proofs.Common.{Option, Some, None, refl}
use Rattle.std.specs.Prelude.{All, if◌then◌else◌}
use Rattle.std.specs.Ordering.{nat_cmp}
use Rattle.std.specs.FinSet as set
use Rattle.std.proofs.lemmas.List.Elements.{All-append, All-cons, All-nil}
use Rattle.tm_base.specs.declared.faults.OpFault.{OpFault}
use Rattle.tm_base.specs.declared.faults.OpFault.TheVariants as faults
use Rattle.tm_base.specs.declared.names.Class.TheVariants.{Pinned, Global, Deferrable}
use Rattle.tm_base.specs.declared.names.CpuId.{CpuId}
use Rattle.tm_base.specs.declared.names.TimerId.{TimerId}
use Rattle.tm_report.specs.declared.lines.Line.{Line}
use Rattle.tm_report.specs.declared.lines.Line.TheVariants as lines
use Rattle.tm_report.specs.declared.lines.ShownReply.{ShownReply}
use Rattle.tm_script.specs.declared.syntax.Op.{Op}
use Rattle.tm_script.specs.declared.syntax.What.{What}
use Rattle.tm_script.specs.declared.syntax.What.TheVariants as whats
use Rattle.wheel_core.specs.declared.item.Item.{Item}
use Rattle.play_rules.specs.declared.asks.Cancelling.{Cancelling}
use Rattle.play_rules.specs.declared.asks.Queued.{Queued}
use Rattle.play_rules.specs.Parts.{Played, and_then, silent}
use Rattle.play_rules.specs.Rules.{Moved, Rules}
use Rattle.play_rules.specs.Interrupts.{Replies, cpu_id, drain, drains, interrupt}
use Rattle.play_rules.specs.Interrupts.{interrupt_where, interrupts, look, look_at, look_where}
use Rattle.play_rules.specs.Interrupts.{looks, reply_to, run_jobs, try_where}
use Rattle.play_rules.specs.Operations.{cancel_where, clear_after, clear_where, done}
use Rattle.play_rules.specs.Operations.{done_unless, hand_on_to, hand_on_where, idle_where}
use Rattle.play_rules.specs.Operations.{move_printed, moves, moves_to, operations, refusal}
use Rattle.play_rules.specs.Operations.{refused_line}

-- the lines of two parts, one after the other
pub both_print : {S : Type 0} (Q : Line → Type 0) (p : Played S) (f : S → Played S) → All Q p.lines
    → All Q (f p.state).lines → All Q (and_then p f).lines
both_print {S} Q p f first rest = All-append Q p.lines (f p.state).lines first rest

-- the lines of CPU c's interrupt are runs on it
module _ {S : Type 0} (jobs : Replies) (r : Rules S) (Q : Line → Type 0) (c : ℕ)
    (runs : (now : ℕ) (timer : TimerId) (home : CpuId) (wheel : ℕ) (reply : ShownReply)
    → Q (lines.Run now (cpu_id c) timer home wheel reply)) where
  jobs_print : (home : ℕ) (items : List Item) (s : S)
      → All Q (run_jobs jobs r home c items s).lines
  unfolding run_jobs
  jobs_print home [] s = All-nil Q
  jobs_print home (item ∷ items) s =
      All-cons Q _ _ (runs _ _ _ _ _) (jobs_print home items (reply_to jobs r c item s).state)

  try_prints : (takes : Bool) (d : ℕ) (s : S) → All Q (try_where jobs r takes c d s).lines
  try_prints false d s = All-nil Q
  try_prints true d s =
      both_print Q (drain jobs r d Global c (r.taken s c d)) (λ t. silent (r.let_go t c d))
      (jobs_print d _ _) (All-nil Q)

  look_at_prints : (o : Option ℕ) (n level : ℕ) (tried : set.FinSet nat_cmp) (s : S)
      → ((more : set.FinSet nat_cmp) (t : S) → All Q (look jobs r n c level more t).lines)
      → All Q (look_at jobs r o c (look jobs r n c level) tried s).lines
  look_at_prints None n level tried s rest = All-nil Q
  look_at_prints (Some d) n level tried s rest =
      both_print Q (try_where jobs r (r.takes s c d) c d s)
      (look jobs r n c level (set.insert tried d))
      (try_prints (r.takes s c d) d s) (rest (set.insert tried d) _)

  look_prints : (n level : ℕ) (tried : set.FinSet nat_cmp) (s : S)
      → All Q (look jobs r n c level tried s).lines
  unfolding look
  look_prints zero level tried s = All-nil Q
  look_prints (suc n) level tried s =
      look_at_prints (r.named s c level tried) n level tried s
      (λ more t. look_prints n level more t)

  level_prints : (b : Bool) (level : ℕ) (above : S → Played S) (s : S)
      → ((t : S) → All Q (above t).lines) → All Q (look_where jobs r b c level above s).lines
  level_prints false level above s rest = All-nil Q
  level_prints true level above s rest =
      both_print Q (look jobs r (r.cpus s) c level set.empty s) above (look_prints _ level _ s)
      (rest _)

  looks_print : (n level : ℕ) (s : S) → All Q (looks jobs r n c level s).lines
  unfolding looks
  looks_print zero level s = All-nil Q
  looks_print (suc n) level s =
      level_prints (r.looks_after s c level) level (looks jobs r n c (level + 1)) s
      (λ t. looks_print n (level + 1) t)

  drains_print : (s : S) → All Q (drains jobs r c s).lines
  drains_print s =
      both_print Q (and_then (drain jobs r c Pinned c s) (drain jobs r c Global c))
      (drain jobs r c Deferrable c)
      (both_print Q (drain jobs r c Pinned c s) (drain jobs r c Global c) (jobs_print c _ _)
      (jobs_print c _ _)) (jobs_print c _ _)

  pub interrupt_prints : (s : S) → All Q (interrupt jobs r c s).lines
  interrupt_prints s =
      let own = drains jobs r c (r.entered s c) in
      All-append Q (own.lines ++ (looks jobs r (r.levels s) c 0 own.state).lines) []
      (All-append Q own.lines (looks jobs r (r.levels s) c 0 own.state).lines (drains_print _)
      (looks_print (r.levels s) 0 own.state))
      (All-nil Q)

-- the lines of the interrupts are runs on CPUs that are due one
module _ {S : Type 0} (jobs : Replies) (r : Rules S) (Q : Line → Type 0)
    (due : set.FinSet nat_cmp)
    (runs : (c now : ℕ) (timer : TimerId) (home : CpuId) (wheel : ℕ) (reply : ShownReply)
    → set.contains due c ≡ true → Q (lines.Run now (cpu_id c) timer home wheel reply)) where
  turn_prints : (b : Bool) (c : ℕ) (s : S) → set.contains due c ≡ b
      → All Q (interrupt_where jobs r b c s).lines
  turn_prints false c s is = All-nil Q
  turn_prints true c s is =
      interrupt_prints jobs r Q c
      (λ now timer home wheel reply. runs c now timer home wheel reply is) s

  pub interrupts_print : (n c : ℕ) (s : S) → All Q (interrupts jobs r n c due s).lines
  unfolding interrupts
  interrupts_print zero c s = All-nil Q
  interrupts_print (suc n) c s =
      both_print Q (interrupt_where jobs r (set.contains due c) c s)
      (interrupts jobs r n (c + 1) due)
      (turn_prints (set.contains due c) c s refl) (interrupts_print n (c + 1) _)

-- whether an operation, or a move after them, tells the line
abbrev pub is_of_operation : Line → Bool
is_of_operation (lines.Arm now cpu timer class wheel) = true
is_of_operation (lines.Cancel now cpu timer home) = true
is_of_operation (lines.NotQueued now cpu timer) = true
is_of_operation (lines.Idle now cpu until) = true
is_of_operation (lines.Stay now cpu first) = true
is_of_operation (lines.Wake now cpu) = true
is_of_operation (lines.Offline now cpu) = true
is_of_operation (lines.Handed now cpu to) = true
is_of_operation (lines.Online now cpu) = true
is_of_operation (lines.Control now cpu) = true
is_of_operation (lines.Moved now timer from to wheel) = true
is_of_operation (lines.Refused now cpu line number) = true
is_of_operation (lines.RefusedQueued now cpu line number holder) = true
is_of_operation line = false

module _ {S : Type 0} (r : Rules S) (Q : Line → Type 0)
    (told : (line : Line) → is_of_operation line ≡ true → Q line) where
  one_told : (line : Line) → is_of_operation line ≡ true → All Q (line ∷ [])
  one_told line is = All-cons Q line [] (told line is) (All-nil Q)

  -- ONE OPERATION
  refused_told : (fault : OpFault) (now line : ℕ) (cpu : CpuId)
      → All Q (refused_line fault now line cpu ∷ [])
  refused_told (faults.Queued holder) now line cpu = one_told _ refl
  refused_told faults.NotActive now line cpu = one_told _ refl
  refused_told faults.NotIdle now line cpu = one_told _ refl
  refused_told faults.Offline now line cpu = one_told _ refl
  refused_told faults.AlreadyOnline now line cpu = one_told _ refl
  refused_told faults.LastOnline now line cpu = one_told _ refl
  refused_told (faults.Spent step) now line cpu = one_told _ refl
  refused_told faults.NoMemory now line cpu = one_told _ refl

  cancel_prints : (o : Option Queued) (a : Cancelling) (s : S)
      → All Q (cancel_where r o a s).lines
  cancel_prints None a s = one_told _ refl
  cancel_prints (Some held) a s = one_told _ refl

  idle_prints : (stays : Bool) (cpu : CpuId) (s : S) → All Q (idle_where r stays cpu s).lines
  idle_prints true cpu s = one_told _ refl
  idle_prints false cpu s = one_told _ refl

  hand_on_prints : (o : Option ℕ) (cpu : CpuId) (s : S) → All Q (hand_on_to r o cpu s).lines
  hand_on_prints None cpu s = All-nil Q
  hand_on_prints (Some d) cpu s = one_told _ refl

  hand_on_told : (b : Bool) (cpu : CpuId) (s : S) → All Q (hand_on_where r b cpu s).lines
  hand_on_told false cpu s = All-nil Q
  hand_on_told true cpu s = hand_on_prints (r.successor s cpu.0) cpu s

  done_prints : (what : What) (line : ℕ) (cpu : CpuId) (s : S)
      → All Q (done r what line cpu s).lines
  done_prints (whats.Arm timer class delay job arg) line cpu s = one_told _ refl
  done_prints (whats.Cancel timer) line cpu s = cancel_prints (r.queued s timer.0) _ s
  done_prints whats.Idle line cpu s = idle_prints _ cpu s
  done_prints whats.Wake line cpu s = one_told _ refl
  done_prints whats.Offline line cpu s =
      All-cons Q _ _ (told _ refl) (hand_on_told (r.hands_on _ cpu.0) cpu _)
  done_prints whats.Online line cpu s = one_told _ refl

  operation_prints : (fault : Option OpFault) (o : Op) (s : S)
      → All Q (done_unless r fault o s).lines
  operation_prints None o s = done_prints o.what o.line o.cpu s
  operation_prints (Some fault) o s = refused_told fault (r.clock s) o.line o.cpu

  pub operations_print : (os : List Op) (s : S) → All Q (operations r os s).lines
  unfolding operations
  operations_print [] s = All-nil Q
  operations_print (o ∷ os) s =
      both_print Q (done_unless r (refusal r o.what o.cpu.0 s) o s) (operations r os)
      (operation_prints (refusal r o.what o.cpu.0 s) o s) (operations_print os _)

  -- MOVES
  move_prints : (o : Option (Moved S)) (from to : ℕ) (rest : S → Played S) (s : S)
      → ((t : S) → All Q (rest t).lines) → All Q (move_printed r from to o rest s).lines
  move_prints None from to rest s more = All-nil Q
  move_prints (Some m) from to rest s more = All-cons Q _ _ (told _ refl) (more m.state)

  moves_print : (n from to : ℕ) (s : S) → All Q (moves r n from to s).lines
  unfolding moves
  moves_print zero from to s = All-nil Q
  moves_print (suc n) from to s =
      move_prints (r.moved s from to) from to (moves r n from to) s (λ t. moves_print n from to t)

  control_prints : (o : Option ℕ) (from : ℕ) (s : S) → All Q (moves_to r o from s).lines
  control_prints None from s = All-nil Q
  control_prints (Some d) from s =
      All-cons Q _ _ (told _ refl) (moves_print (r.count_queued _ from) from d _)

  clear_prints : (queued from : ℕ) (s : S) → All Q (clear_where r queued from s).lines
  clear_prints zero from s = All-nil Q
  clear_prints (suc n) from s = control_prints (r.controller s) from s

  clear_told : (b : Bool) (from : ℕ) (s : S)
      → All Q (if b then silent s else clear_where r (r.count_queued s from) from s).lines
  clear_told true from s = All-nil Q
  clear_told false from s = clear_prints (r.count_queued s from) from s

  pub after_prints : (o : Option ℕ) (s : S) → All Q (clear_after r o s).lines
  after_prints None s = All-nil Q
  after_prints (Some c) s = clear_told (r.is_online s c) c s
