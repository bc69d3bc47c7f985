-- what the rule says of the steps of a CPU's interrupt, idling and running of timers, as laws for
-- crates above
use Rattle.std.specs.Prelude.{◌≡◌, ◌⊎◌, ℕ, suc, ◌+◌, ◌^◌, ◌<◌, ◌≤◌, true, false, [], ◌∷◌, length}
use Rattle.std.specs.Prelude.{None, Some}
use mathlib.Core.Option.{none}
use Rattle.atomic_table.specs.Table.{step}
use Rattle.tm_base.specs.declared.names.Class.{Class}
use Rattle.event_queue.specs.declared.event.Event.{Event}
use Rattle.event_queue.specs.EventMap.{Counts}
use Rattle.cpu_bases.specs.CpuBases.{base_of}
use Rattle.tree_plan.specs.Paths.{group_at_of, is_placed_in}
use Rattle.wheel_core.specs.PlainBase.{next_out}
use Rattle.walk_rules.specs.declared.walk.Walk.{Walk}
use Rattle.walk_rules.specs.declared.walk.WalkKind.{WalkKind}
use Rattle.walk_rules.specs.declared.walk.WalkKind.TheVariants as kinds
use Rattle.walk_rules.specs.declared.walk.Stage.TheVariants as stages
use Rattle.walk_rules.specs.Hierarchy.{side}
use Rattle.core_world.specs.declared.step.Step.TheVariants as steps
use Rattle.core_world.specs.Enabled.{first_event}
use Rattle.core_world.specs.Steps.{finished}
use Rattle.core_world.specs.World.{World, CpuRecord, is_active}
use Rattle.shared_words.specs.Layout.{index_of}
use Rattle.shared_rule.specs.declared.parts.BoxView.{BoxView}
use Rattle.shared_rule.specs.declared.parts.PassView.{PassView}
use Rattle.shared_rule.specs.Whole.{cpu_at, layout_of, own_word, slot_at}
use Rattle.shared_rule.specs.Rule.{seat_of}
use Rattle.shared_rule.specs.Turns.{Carries, CarryEnds, MayRunOf}
use Rattle.shared_rule.specs.Turns.{Enters, Exits, Idles, Reevaluates, Releases, Rests, Retells}
use Rattle.shared_rule.specs.Turns.{Takes, Ticks, entered, idled, outside, released, taken}
use Rattle.shared_rule.specs.Turns.{SeesCpu, SeesLeaf}
use Rattle.shared_rule.specs.Laws.{Stays, none_made, walk_always}

-- DRAINING: what has to be known where a base of a CPU counts as drained by the CPU of a pass:
-- nothing more of it is due, and the pass's CPU runs its own timers inside its interrupt, or the
-- global ones of a CPU that it has marked
pub record MayStoreTick (o : World) (b : BoxView) (class : Class) (p : PassView) : Type 0 where
  pub cpu : b.cpu < length o.cpus
  pub free : b.own.walk ≡ None
  pub none_due : next_out o.clock (base_of class b.own.bases) ≡ None
  pub may_run : MayRunOf b class p

-- the load of the CPU's word at which it does keeps the rule, and the seat is told that the entry
-- is written and noted
abbrev pub TickStays : World → Type 0
TickStays o = (slots id : ℕ) (class : Class) (b : BoxView) (p : PassView) →
    MayStoreTick o b class p →
    Stays o slots id b (p ∷ []) (cpu_at b.cpu) (λ n. n)
    (λ n. Some (steps.Ticked (record { 0 = b.cpu }) class (record { 0 = p.cpu })))
    (Ticks class (step slots (index_of (layout_of o) (cpu_at b.cpu)) 0 0 none)
    (seat_of (b ∷ []) (p ∷ [])))

-- A CPU WITH ITS OWN PASS: what has to be known where it makes a step of its own, besides what it
-- is: it has no walk, is online, and has this word afterwards
pub record IsOwnTurn (o : World) (b : BoxView) (p : PassView) (y : CpuRecord) (new : ℕ) : Type 0
  where
    pub cpu : b.cpu < length o.cpus
    pub own : p.cpu ≡ b.cpu
    pub free : b.own.walk ≡ None
    pub online : b.own.online ≡ true
    pub word : new ≡ own_word y

-- ENTER: the store of a CPU's word by which its interrupt begins keeps the rule
abbrev pub EnterStays : World → Type 0
EnterStays o = (slots id : ℕ) (b : BoxView) (p : PassView) (new : ℕ) →
    IsOwnTurn o b p (entered b.own) new → b.own.inside ≡ false →
    Stays o slots id b (p ∷ []) (cpu_at b.cpu) (λ n. new)
    (λ n. Some (steps.Enter (record { 0 = b.cpu })))
    (λ n. Enters (step slots (index_of (layout_of o) (cpu_at b.cpu)) new 0 none)
    (seat_of (b ∷ []) (p ∷ [])) new)

-- LEAVE: what has to be known where an interrupt ends: its CPU is awake and marks nobody
pub record MayStoreLeave (b : BoxView) (p : PassView) : Type 0 where
  pub inside : b.own.inside ≡ true
  pub busy : b.own.idle ≡ false
  pub marks_nobody : p.marks ≡ []

-- the store of the CPU's word by which it does keeps the rule
abbrev pub LeaveStays : World → Type 0
LeaveStays o = (slots id : ℕ) (b : BoxView) (p : PassView) (new : ℕ) →
    IsOwnTurn o b p (outside b.own) new → MayStoreLeave b p →
    Stays o slots id b (p ∷ []) (cpu_at b.cpu) (λ n. new)
    (λ n. Some (steps.Leave (record { 0 = b.cpu })))
    (λ n. Exits (step slots (index_of (layout_of o) (cpu_at b.cpu)) new 0 none)
    (seat_of (b ∷ []) (p ∷ [])) new)

-- IDLE: what has to be known where a CPU goes idle: it is active and outside its interrupt, its
-- first event is more than a jiffy ahead, and one walk more may begin
pub record MayStoreIdle (o : World) (b : BoxView) (p : PassView) : Type 0 where
  pub active : is_active b.own ≡ true
  pub outside : b.own.inside ≡ false
  pub rests : o.clock + 1 < first_event b.own.bases
  pub left : suc p.walks < 2 ^ 32

-- the store of its word by which it does keeps the rule
abbrev pub IdleStays : World → Type 0
IdleStays o = (slots id : ℕ) (b : BoxView) (p : PassView) (new : ℕ) →
    IsOwnTurn o b p (idled o b.cpu b.own) new → MayStoreIdle o b p →
    Stays o slots id b (p ∷ []) (cpu_at b.cpu) (λ n. new)
    (λ n. Some (steps.Idle (record { 0 = b.cpu })))
    (λ n. Idles (step slots (index_of (layout_of o) (cpu_at b.cpu)) new 0 none)
    (seat_of (b ∷ []) (p ∷ [])) new)

-- REEVAL: what has to be known where a re-evaluation begins: its CPU is idle, inside its interrupt,
-- and marks nobody, and one walk more may begin
pub record MayRetell (b : BoxView) (p : PassView) : Type 0 where
  pub idle : b.own.idle ≡ true
  pub inside : b.own.inside ≡ true
  pub marks_nobody : p.marks ≡ []
  pub left : suc p.walks < 2 ^ 32

-- the load of the CPU's word at which it does keeps the rule
abbrev pub RetellStays : World → Type 0
RetellStays o = (slots id : ℕ) (b : BoxView) (p : PassView) →
    IsOwnTurn o b p b.own (own_word b.own) → MayRetell b p →
    Stays o slots id b (p ∷ []) (cpu_at b.cpu) (λ n. n)
    (λ n. Some (steps.Reeval (record { 0 = b.cpu })))
    (Retells (step slots (index_of (layout_of o) (cpu_at b.cpu)) 0 0 none)
    (seat_of (b ∷ []) (p ∷ [])))

-- TAKE: what has to be known where the CPU of a pass marks a CPU: the one is placed, inside its
-- interrupt and makes no re-evaluation; the other is idle, unmarked, and due by its slot in its
-- leaf
pub record MayStoreTake (o : World) (b : BoxView) (p : PassView) (leaf : ℕ) (e : Event) (new : ℕ)
    : Type 0 where
  pub cpu : b.cpu < length o.cpus
  pub placed : is_placed_in o.tree p.cpu ≡ true
  pub inside : p.inside ≡ true
  pub goes_on : p.reeval ≡ false
  pub free : b.own.walk ≡ None
  pub online : b.own.online ≡ true
  pub idle : b.own.idle ≡ true
  pub unmarked : b.own.mark ≡ None
  pub path : group_at_of o.tree b.cpu 0 ≡ Some leaf
  pub there : b.leaf ≡ Some e
  pub counts : Counts e
  pub come : e.expiry ≤ o.clock
  pub word : new ≡ own_word (taken p.cpu b.own)

-- the store of the CPU's word by which it does keeps the rule
abbrev pub TakeStays : World → Type 0
TakeStays o = (slots id leaf : ℕ) (e : Event) (b : BoxView) (p : PassView) (new : ℕ) →
    MayStoreTake o b p leaf e new →
    Stays o slots id b (p ∷ []) (cpu_at b.cpu) (λ n. new)
    (λ n. Some (steps.Take (record { 0 = b.cpu }) (record { 0 = p.cpu })))
    (λ n. Takes (step slots (index_of (layout_of o) (cpu_at b.cpu)) new 0 none)
    (seat_of (b ∷ []) (p ∷ [])) new)

-- RELEASE: what has to be known where the CPU of a pass takes back its mark of a CPU, which is
-- awake
pub record MayStoreRelease (o : World) (b : BoxView) (p : PassView) (new : ℕ) : Type 0 where
  pub cpu : b.cpu < length o.cpus
  pub free : b.own.walk ≡ None
  pub marked : b.own.mark ≡ Some p.cpu
  pub awake : (b.own.online ≡ false) ⊎ (b.own.idle ≡ false)
  pub word : new ≡ own_word (released b.own)

-- the store of the CPU's word by which it does keeps the rule
abbrev pub ReleaseStays : World → Type 0
ReleaseStays o = (slots id : ℕ) (b : BoxView) (p : PassView) (new : ℕ) →
    MayStoreRelease o b p new →
    Stays o slots id b (p ∷ []) (cpu_at b.cpu) (λ n. new)
    (λ n. Some (steps.Release (record { 0 = b.cpu })))
    (λ n. Releases (step slots (index_of (layout_of o) (cpu_at b.cpu)) new 0 none)
    (seat_of (b ∷ []) (p ∷ [])) new)

-- FINISH: what has to be known where a CPU stores its word as its walk of a kind ends, with its own
-- pass
pub record MayFinish (o : World) (b : BoxView) (p : PassView) (k : Walk) (sort : WalkKind)
    (new : ℕ) : Type 0 where
  pub cpu : b.cpu < length o.cpus
  pub own : p.cpu ≡ b.cpu
  pub walk : b.own.walk ≡ Some k
  pub stage : k.stage ≡ stages.Finish
  pub kind : k.kind ≡ sort
  pub word : new ≡ own_word (finished b.own k sort)

-- the store keeps the rule as a walk out of the active sets ends, and the seat is told what the CPU
-- will be woken for
abbrev pub RestStays : World → Type 0
RestStays o = (slots id : ℕ) (b : BoxView) (k : Walk) (p : PassView) (new : ℕ) →
    MayFinish o b p k kinds.Deactivate new →
    Stays o slots id b (p ∷ []) (cpu_at b.cpu) (λ n. new)
    (walk_always b.cpu)
    (λ n. Rests (step slots (index_of (layout_of o) (cpu_at b.cpu)) new 0 none)
    (seat_of (b ∷ []) (p ∷ [])) new)

-- and as a re-evaluation ends
abbrev pub ReevaluateStays : World → Type 0
ReevaluateStays o = (slots id : ℕ) (b : BoxView) (k : Walk) (p : PassView) (new : ℕ) →
    MayFinish o b p k kinds.Reeval new →
    Stays o slots id b (p ∷ []) (cpu_at b.cpu) (λ n. new)
    (walk_always b.cpu)
    (λ n. Reevaluates (step slots (index_of (layout_of o) (cpu_at b.cpu)) new 0 none)
    (seat_of (b ∷ []) (p ∷ [])) new)

-- CARRY: what has to be known where the CPU of a pass begins to carry the next event of a CPU that
-- it has marked: that is still idle, and one walk more may begin
pub record MayCarryOn (o : World) (b : BoxView) (p : PassView) : Type 0 where
  pub cpu : b.cpu < length o.cpus
  pub free : b.own.walk ≡ None
  pub marked : b.own.mark ≡ Some p.cpu
  pub online : b.own.online ≡ true
  pub idle : b.own.idle ≡ true
  pub left : suc p.walks < 2 ^ 32

-- the load of the CPU's word at which it does keeps the rule
abbrev pub CarryStays : World → Type 0
CarryStays o = (slots id : ℕ) (b : BoxView) (p : PassView) → MayCarryOn o b p →
    Stays o slots id b (p ∷ []) (cpu_at b.cpu) (λ n. n)
    (λ n. Some (steps.Carry (record { 0 = b.cpu })))
    (Carries (step slots (index_of (layout_of o) (cpu_at b.cpu)) 0 0 none)
    (seat_of (b ∷ []) (p ∷ [])))

-- what has to be known where the CPU of a pass stores the word of a CPU whose event it has carried
pub record MayEndCarry (o : World) (b : BoxView) (p : PassView) (k : Walk) (new : ℕ) : Type 0 where
  pub cpu : b.cpu < length o.cpus
  pub walk : b.own.walk ≡ Some k
  pub stage : k.stage ≡ stages.Finish
  pub kind : k.kind ≡ kinds.Remote (record { 0 = p.cpu })
  pub word : new ≡ own_word (finished b.own k (kinds.Remote (record { 0 = p.cpu })))

-- the store keeps the rule, and the seat is told that the mark is gone, and what was carried
abbrev pub CarryEndStays : World → Type 0
CarryEndStays o = (slots id : ℕ) (b : BoxView) (k : Walk) (p : PassView) (new : ℕ) →
    MayEndCarry o b p k new →
    Stays o slots id b (p ∷ []) (cpu_at b.cpu) (λ n. new)
    (walk_always b.cpu)
    (λ n. CarryEnds (step slots (index_of (layout_of o) (cpu_at b.cpu)) new 0 none)
    (seat_of (b ∷ []) (p ∷ [])) new)

-- LOOKS AT A CPU: a load of its word, with its box and a pass, keeps the rule; the pass remembers
-- what it found, and that is what the box says
abbrev pub SeeCpuStays : World → Type 0
SeeCpuStays o = (slots id : ℕ) (b : BoxView) (p : PassView) → b.cpu < length o.cpus →
    Stays o slots id b (p ∷ []) (cpu_at b.cpu) (λ n. n)
    none_made
    (SeesCpu (step slots (index_of (layout_of o) (cpu_at b.cpu)) 0 0 none)
    (seat_of (b ∷ []) (p ∷ [])))

-- and so does a load of its slot in its leaf
abbrev pub SeeLeafStays : World → Type 0
SeeLeafStays o = (slots id g : ℕ) (b : BoxView) (p : PassView) → g < length o.groups →
    side o.tree b.cpu 0 < 8 → group_at_of o.tree b.cpu 0 ≡ Some g →
    Stays o slots id b (p ∷ []) (slot_at g (side o.tree b.cpu 0)) (λ n. n)
    none_made
    (SeesLeaf (step slots (index_of (layout_of o) (slot_at g (side o.tree b.cpu 0))) 0 0 none)
    (seat_of (b ∷ []) (p ∷ [])))
