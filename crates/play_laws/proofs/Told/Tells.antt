-- for crates above: what the lines of each rule tell of its change, the lines of a play tell of all
-- changes: within an interrupt
use Rattle.std.proofs.Common.{◌≡◌, ℕ, zero, suc, ◌+◌, ◌<◌, List, [], ◌∷◌, ◌++◌, Bool, true, false}
use Rattle.std.proofs.Common.{Option, Some, None, refl, ◌∙◌, arith, zero-add}
use Rattle.std.specs.Prelude.{◌^◌}
use Rattle.std.specs.Ordering.{nat_cmp}
use Rattle.std.specs.FinSet as set
use Rattle.tm_base.specs.declared.names.Class.TheVariants.{Pinned, Global, Deferrable}
use Rattle.tm_base.specs.declared.names.CpuId.{CpuId}
use Rattle.tm_report.specs.declared.lines.Line.{Line}
use Rattle.tm_report.specs.declared.lines.Line.TheVariants as lines
use Rattle.play_rules.specs.declared.asks.Arming.{Arming}
use Rattle.play_rules.specs.declared.asks.Cancelling.{Cancelling}
use Rattle.play_rules.specs.declared.asks.Queued.{Queued}
use Rattle.play_rules.specs.Parts.{Played, and_then, counting, silent}
use Rattle.play_rules.specs.Rules.{Moved, Rules}
use Rattle.play_rules.specs.Interrupts.{Replies, cpu_id, drain, drains, interrupt}
use Rattle.play_rules.specs.Interrupts.{interrupt_where, interrupts, look, look_at, look_where}
use Rattle.play_rules.specs.Interrupts.{looks, try_where}
use Rattle.play_rules.specs.Operations.{arm}
use Rattle.play_laws.proofs.Shape.Shape.{KeptByRules, Stage, begun, between, climbed, looking, moving}
use Rattle.play_laws.proofs.Shape.Shape.{nth_class, own, taking}
use Rattle.play_laws.proofs.Shape.ShapeInterrupts.{drains_kept, look_kept, own_kept}
use Rattle.play_laws.proofs.Shape.ShapeInterrupts.{try_kept, turn_kept}

-- whether a line tells of no timer that is armed, run, cancelled or moved
abbrev pub is_quiet : Line → Bool
is_quiet (lines.Arm now cpu timer class wheel) = false
is_quiet (lines.Run now runner timer home wheel reply) = false
is_quiet (lines.Cancel now cpu timer home) = false
is_quiet (lines.Moved now timer from to wheel) = false
is_quiet line = true

-- the lines of a part tell of its change
abbrev pub Tell : {S : Type 0} → (S → List Line → S → Type 0) → S → Played S → Type 0
Tell R s p = R s p.lines p.state

-- WHAT EACH RULE TELLS: lines and change stand in a relation that goes on from part to part, where
-- the shape of a play asks the rule
pub record Tells {S : Type 0} (jobs : Replies) (r : Rules S) (cpus timers : ℕ)
    (P : (now : ℕ) → Stage → S → Type 0) (R : S → List Line → S → Type 0) : Type 0 where
  pub none : (s : S) → R s [] s
  pub both : (s t u : S) (ls ms : List Line) → R s ls t → R t ms u → R s (ls ++ ms) u
  pub quiet : (line : Line) (s : S) → is_quiet line ≡ true → R s (line ∷ []) s
  -- with no line of its own
  pub at_clock : (next : ℕ) (s : S) → R s [] (r.at_clock next s)
  pub entered : (c : ℕ) (s : S) → R s [] (r.entered s c)
  pub taken : (c d : ℕ) (s : S) → R s [] (r.taken s c d)
  pub let_go : (c d : ℕ) (s : S) → R s [] (r.let_go s c d)
  pub ended : (c : ℕ) (s : S) → R s [] (r.ended s c)
  pub idled : (c : ℕ) (s : S) → R s [] (r.idled s c)
  pub woken : (c : ℕ) (s : S) → R s [] (r.woken s c)
  pub come_online : (c : ℕ) (s : S) → R s [] (r.come_online s c)
  pub gone_offline : (c : ℕ) (s : S) → R s [] (r.gone_offline s c)
  pub handed_on : (c d : ℕ) (s : S) → R s [] (r.handed_on s c d)
  pub controlling : (d : ℕ) (s : S) → R s [] (r.controlling s d)
  -- timers
  pub drained : (now : ℕ) (due : set.FinSet nat_cmp) (c k : ℕ) (s : S) → c < cpus → k < 3
      → P now (own due c k) s → Tell R s (drain jobs r c (nth_class k) c s)
  pub drained_for : (now : ℕ) (due : set.FinSet nat_cmp) (c level n : ℕ)
      (tried : set.FinSet nat_cmp) (d : ℕ) (s : S) → c < cpus
      → P now (taking due c level n tried d) s → Tell R s (drain jobs r d Global c s)
  pub armed : (now : ℕ) (cpu : CpuId) (s : S) (a : Arming) → cpu.0 < cpus → a.timer.0 < timers
      → a.delay < 2 ^ 32 → r.queued s a.timer.0 ≡ None → P now between s
      → Tell R s (arm r cpu a s)
  pub cancelled : (now : ℕ) (s : S) (held : Queued) (a : Cancelling)
      → r.queued s a.timer.0 ≡ Some held → P now between s
      → R s (lines.Cancel (r.clock s) a.by a.timer held.cpu ∷ []) (r.cancelled s held.cpu.0 a)
  pub moved : (now from to n : ℕ) (s : S) (m : Moved S) → from < cpus
      → r.moved s from to ≡ Some m → P now (moving from to (suc n)) s
      → R s
      (lines.Moved (r.clock s) m.mover.timer (cpu_id from) (cpu_id to) m.mover.wheel ∷ [])
      m.state

module _ {S : Type 0} (jobs : Replies) (r : Rules S) (cpus timers levels end : ℕ)
    (P : (now : ℕ) → Stage → S → Type 0) (Fits : Arming → Type 0)
    (keeps : KeptByRules r cpus timers levels end Fits P) (R : S → List Line → S → Type 0)
    (tells : Tells jobs r cpus timers P R) where
  -- one part after the other
  pub then_told : (s : S) (p : Played S) (f : S → Played S) → Tell R s p
      → Tell R p.state (f p.state) → Tell R s (and_then p f)
  then_told s p f first rest =
      tells.both s p.state (f p.state).state p.lines (f p.state).lines first rest

  module _ (now : ℕ) (due : set.FinSet nat_cmp) (c : ℕ) (low : c < cpus) where
    drains_told : (s : S) → P now (own due c 0) s → Tell R s (drains jobs r c s)
    drains_told s holds =
        let kept = own_kept jobs r cpus timers levels end P Fits keeps now due c low in
        let one = drain jobs r c Pinned c s in
        let first = kept 0 s (omega arith) holds in
        let second = kept 1 one.state (omega arith) first in
        then_told s (and_then one (drain jobs r c Global c)) (drain jobs r c Deferrable c)
        (then_told s one (drain jobs r c Global c)
        (tells.drained now due c 0 s low (omega arith) holds)
        (tells.drained now due c 1 one.state low (omega arith) first))
        (tells.drained now due c 2 _ low (omega arith) second)

    try_told : (level n : ℕ) (tried : set.FinSet nat_cmp) (d : ℕ) (s : S) (takes : Bool)
        → r.takes s c d ≡ takes → r.named s c level tried ≡ Some d
        → P now (looking due c level (suc n) tried) s → Tell R s (try_where jobs r takes c d s)
    try_told level n tried d s false takes is holds = tells.none s
    try_told level n tried d s true takes is holds =
        let taken = keeps.taken now due c level n tried d s low is takes holds in
        let out = drain jobs r d Global c (r.taken s c d) in
        then_told s out (λ t. silent (r.let_go t c d))
        (tells.both s (r.taken s c d) out.state [] out.lines (tells.taken c d s)
        (tells.drained_for now due c level n tried d (r.taken s c d) low taken))
        (tells.let_go c d out.state)

    look_at_told : (o : Option ℕ) (level n : ℕ) (tried : set.FinSet nat_cmp) (s : S)
        → r.named s c level tried ≡ o → P now (looking due c level (suc n) tried) s
        → ((more : set.FinSet nat_cmp) (t : S) → P now (looking due c level n more) t
        → Tell R t (look jobs r n c level more t))
        → Tell R s (look_at jobs r o c (look jobs r n c level) tried s)
    look_at_told None level n tried s none holds rest = tells.none s
    look_at_told (Some d) level n tried s is holds rest =
        then_told s (try_where jobs r (r.takes s c d) c d s)
        (look jobs r n c level (set.insert tried d))
        (try_told level n tried d s (r.takes s c d) refl is holds)
        (rest (set.insert tried d) _
        (try_kept jobs r cpus timers levels end P Fits keeps now due c low level n tried d s
        (r.takes s c d) refl is holds))

    look_told : (n level : ℕ) (tried : set.FinSet nat_cmp) (s : S)
        → P now (looking due c level n tried) s → Tell R s (look jobs r n c level tried s)
    unfolding look
    look_told zero level tried s holds = tells.none s
    look_told (suc n) level tried s holds =
        look_at_told (r.named s c level tried) level n tried s refl holds
        (λ more t at. look_told n level more t at)

    level_told : (b : Bool) (level : ℕ) (above : S → Played S) (s : S) → level < levels
        → r.looks_after s c level ≡ b → P now (climbed due c level) s
        → ((t : S) → P now (climbed due c (level + 1)) t → Tell R t (above t))
        → Tell R s (look_where jobs r b c level above s)
    level_told false level above s below is holds rest = tells.none s
    level_told true level above s below is holds rest =
        let at = keeps.looks now due c level s low below is holds in
        then_told s (look jobs r (r.cpus s) c level set.empty s) above
        (look_told (r.cpus s) level set.empty s at)
        (rest _
        (look_kept jobs r cpus timers levels end P Fits keeps now due c low (r.cpus s) level
        set.empty s at))

    looks_told : (n level : ℕ) (s : S) → level + n ≡ levels → P now (climbed due c level) s
        → Tell R s (looks jobs r n c level s)
    unfolding looks
    looks_told zero level s all holds = tells.none s
    looks_told (suc n) level s all holds =
        level_told (r.looks_after s c level) level (looks jobs r n c (level + 1)) s
        (omega (arith, all)) refl holds
        (λ t at. looks_told n (level + 1) t (omega (arith, all)) at)

    interrupt_told : (s : S) → set.contains due c ≡ true → P now (begun due c) s
        → Tell R s (interrupt jobs r c s)
    interrupt_told s is holds =
        let in_it = r.entered s c in
        let enters = keeps.entered now due c s low is holds in
        let own = drains jobs r c in_it in
        let all : 0 + r.levels s ≡ levels =
        zero-add (r.levels s) ∙ keeps.all_levels now due c s low holds in
        let drained =
        drains_kept jobs r cpus timers levels end P Fits keeps now due c low in_it enters in
        let first : Tell R s (and_then (counting in_it) (drains jobs r c)) =
        tells.both s in_it own.state [] own.lines (tells.entered c s) (drains_told in_it enters) in
        let rest = looks jobs r (r.levels s) c 0 own.state in
        then_told s
        (and_then (and_then (counting in_it) (drains jobs r c)) (looks jobs r (r.levels s) c 0))
        (λ t. silent (r.ended t c))
        (then_told s (and_then (counting in_it) (drains jobs r c)) (looks jobs r (r.levels s) c 0)
        first (looks_told (r.levels s) 0 own.state all drained))
        (tells.ended c rest.state)

    turn_told : (b : Bool) (s : S) → set.contains due c ≡ b → P now (begun due c) s
        → Tell R s (interrupt_where jobs r b c s)
    turn_told false s is holds = tells.none s
    turn_told true s is holds = interrupt_told s is holds

  module _ (now : ℕ) (due : set.FinSet nat_cmp) where
    from_told : (n c : ℕ) (s : S) → c + n ≡ cpus → P now (begun due c) s
        → Tell R s (interrupts jobs r n c due s)
    unfolding interrupts
    from_told zero c s all holds = tells.none s
    from_told (suc n) c s all holds =
        let low : c < cpus = omega (arith, all) in
        then_told s (interrupt_where jobs r (set.contains due c) c s)
        (interrupts jobs r n (c + 1) due)
        (turn_told now due c low (set.contains due c) s refl holds)
        (from_told n (c + 1) _ (omega (arith, all))
        (turn_kept jobs r cpus timers levels end P Fits keeps now due c low (set.contains due c) s
        refl holds))

    pub interrupts_told : (s : S) → P now (begun due 0) s
        → Tell R s (interrupts jobs r (r.cpus s) 0 due s)
    interrupts_told s holds =
        from_told (r.cpus s) 0 s (zero-add (r.cpus s) ∙ keeps.all_cpus now due s holds) holds
