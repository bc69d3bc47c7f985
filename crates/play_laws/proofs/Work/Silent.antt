-- operations, moves and covers are no work, whatever the rules are
use Rattle.std.proofs.Common.{◌≡◌, ℕ, zero, suc, ◌+◌, List, [], ◌∷◌, Bool, true, false, Option}
use Rattle.std.proofs.Common.{Some, None, refl, arith}
use Rattle.std.specs.Prelude.{if◌then◌else◌}
use Rattle.tm_base.specs.declared.faults.OpFault.{OpFault}
use Rattle.tm_base.specs.declared.names.CpuId.{CpuId}
use Rattle.tm_script.specs.declared.syntax.Moment.{Moment}
use Rattle.tm_script.specs.declared.syntax.Op.{Op}
use Rattle.tm_script.specs.declared.syntax.What.{What}
use Rattle.tm_script.specs.declared.syntax.What.TheVariants as whats
use Rattle.play_rules.specs.declared.asks.Cancelling.{Cancelling}
use Rattle.play_rules.specs.declared.asks.Queued.{Queued}
use Rattle.play_rules.specs.Rules.{Moved, Rules}
use Rattle.play_rules.specs.Parts.{Played, silent}
use Rattle.play_rules.specs.Operations.{cancel_where, clear_after, clear_where, done}
use Rattle.play_rules.specs.Operations.{done_unless, hand_on_to, hand_on_where, idle_where}
use Rattle.play_rules.specs.Operations.{leaver, move_printed, moves, moves_to}
use Rattle.play_rules.specs.Operations.{operations, refusal}
use Rattle.play_rules.specs.Moments.{scripted}

abbrev pub IsNoWork : {S : Type 0} → Played S → Type 0
IsNoWork p = p.work ≡ 0

-- one part after another
both_none : (a b : ℕ) → a ≡ 0 → b ≡ 0 → a + b ≡ 0
both_none a b first rest = omega (arith, first, rest)

module _ {S : Type 0} (r : Rules S) where
  -- ONE OPERATION
  cancel_none : (o : Option Queued) (a : Cancelling) (s : S) → IsNoWork (cancel_where r o a s)
  cancel_none None a s = refl
  cancel_none (Some held) a s = refl

  idle_none : (stays : Bool) (cpu : CpuId) (s : S) → IsNoWork (idle_where r stays cpu s)
  idle_none true cpu s = refl
  idle_none false cpu s = refl

  hand_on_none : (o : Option ℕ) (cpu : CpuId) (s : S) → IsNoWork (hand_on_to r o cpu s)
  hand_on_none None cpu s = refl
  hand_on_none (Some d) cpu s = refl

  hand_on_no : (b : Bool) (cpu : CpuId) (s : S) → IsNoWork (hand_on_where r b cpu s)
  hand_on_no false cpu s = refl
  hand_on_no true cpu s = hand_on_none (r.successor s cpu.0) cpu s

  done_none : (what : What) (line : ℕ) (cpu : CpuId) (s : S) → IsNoWork (done r what line cpu s)
  done_none (whats.Arm timer class delay job arg) line cpu s = refl
  done_none (whats.Cancel timer) line cpu s = cancel_none (r.queued s timer.0) _ s
  done_none whats.Idle line cpu s = idle_none _ cpu s
  done_none whats.Wake line cpu s = refl
  done_none whats.Offline line cpu s =
      both_none 0 _ refl (hand_on_no (r.hands_on _ cpu.0) cpu _)
  done_none whats.Online line cpu s = refl

  operation_none : (fault : Option OpFault) (o : Op) (s : S) → IsNoWork (done_unless r fault o s)
  operation_none None o s = done_none o.what o.line o.cpu s
  operation_none (Some fault) o s = refl

  operations_none : (os : List Op) (s : S) → IsNoWork (operations r os s)
  unfolding operations
  operations_none [] s = refl
  operations_none (o ∷ os) s =
      both_none _ _
      (operation_none (refusal r o.what o.cpu.0 s) o s) (operations_none os _)

  -- MOVES
  move_none : (o : Option (Moved S)) (from to : ℕ) (rest : S → Played S) (s : S)
      → ((t : S) → IsNoWork (rest t)) → IsNoWork (move_printed r from to o rest s)
  move_none None from to rest s none = refl
  move_none (Some m) from to rest s none = both_none 0 _ refl (none m.state)

  moves_none : (n from to : ℕ) (s : S) → IsNoWork (moves r n from to s)
  unfolding moves
  moves_none zero from to s = refl
  moves_none (suc n) from to s =
      move_none (r.moved s from to) from to (moves r n from to) s (λ t. moves_none n from to t)

  control_none : (o : Option ℕ) (from : ℕ) (s : S) → IsNoWork (moves_to r o from s)
  control_none None from s = refl
  control_none (Some d) from s = both_none 0 _ refl (moves_none (r.count_queued _ from) from d _)

  clear_none : (queued from : ℕ) (s : S) → IsNoWork (clear_where r queued from s)
  clear_none zero from s = refl
  clear_none (suc n) from s = control_none (r.controller s) from s

  clear_no : (b : Bool) (from : ℕ) (s : S)
      → IsNoWork (if b then silent s else clear_where r (r.count_queued s from) from s)
  clear_no true from s = refl
  clear_no false from s = clear_none (r.count_queued s from) from s

  after_none : (o : Option ℕ) (s : S) → IsNoWork (clear_after r o s)
  after_none None s = refl
  after_none (Some c) s = clear_no (r.is_online s c) c s

  -- WHAT THE SCRIPT HAS for a moment
  pub scripted_none : (o : Option Moment) (s : S) → IsNoWork (scripted r o s)
  scripted_none None s = refl
  scripted_none (Some m) s =
      both_none _ 0
      (both_none _ _ (operations_none m.ops s) (after_none (leaver m.ops) _)) refl
