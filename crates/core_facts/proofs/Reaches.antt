-- journals, CPUs and worlds after a step of the general form
use Rattle.std.proofs.Common.{◌≡◌, ◌≢◌, ℕ, ◌<◌, ◌++◌, Bool, true, false, true≢false, List, []}
use Rattle.std.proofs.Common.{◌∷◌, length, Option, Some, None, refl, sym, ap, ◌∙◌, subst, arith}
use Rattle.std.proofs.Common.{inl, inr}
use Rattle.std.specs.Prelude.{◌==◌}
use Rattle.std.proofs.lemmas.Bool.{cases_eq, eq-eqb}
use Rattle.std.proofs.lemmas.List.{append-nil}
use Rattle.tm_base.specs.declared.names.Class.{Class}
use Rattle.tm_base.specs.declared.names.CpuId.{CpuId}
use Rattle.wheel_core.specs.declared.item.Item.{Item}
use Rattle.wheel_core.specs.PlainBase.{next_out}
use Rattle.cpu_bases.specs.declared.entry.Entry.{Entry}
use Rattle.cpu_bases.specs.CpuBases.{CpuBases, after_cancel, after_hand_out, after_move_out}
use Rattle.cpu_bases.specs.CpuBases.{base_of}
use Rattle.tree_plan.specs.Shape.{Shape}
use Rattle.walk_rules.specs.declared.walk.Walk.{Walk}
use Rattle.walk_rules.specs.declared.walk.WalkKind.{WalkKind}
use Rattle.walk_rules.specs.declared.walk.WalkKind.TheVariants as kinds
use Rattle.walk_rules.specs.declared.walk.Stage.{Stage}
use Rattle.walk_rules.specs.declared.walk.Stage.TheVariants as stages
use Rattle.walk_rules.specs.Scene.{Group}
use Rattle.core_world.specs.Frames.{SameSize}
use Rattle.core_world.specs.Steps.{finished, handed_of}
use Rattle.core_world.specs.Steps.{swapped, walk_made, walked}
use Rattle.core_world.specs.World.{CpuRecord, World, cpu_of, group_of, moved, own}
use Rattle.core_world.proofs.Moves.{beside, cpu_else, cpu_same, moved_laws}
use Rattle.core_world.proofs.Quiet.{own_group}
use Rattle.core_facts.specs.Reach.{CpuKeeps, Grows, IsBeside, KeepsReach, Reach, only}
use Rattle.core_facts.specs.Reach.{with_timers}

-- JOURNALS
pub none_more : (journal : List Entry) → Grows journal journal
none_more journal = record {
  more = [];
  written = sym (append-nil journal);
  at_most_one = omega arith;
}

pub one_more : (journal : List Entry) (entry : Entry) → Grows journal (journal ++ entry ∷ [])
one_more journal entry = record {
  more = entry ∷ [];
  written = refl;
  at_most_one = omega arith;
}

pub same_grows : (old new : CpuBases) → new ≡ old → Grows old.journal new.journal
same_grows old new same =
    subst (λ (b : CpuBases). Grows old.journal b.journal) (sym same) (none_more old.journal)

pub cancel_grows : (found : Option (Class × Item)) (now line : ℕ) (by : CpuId) (b : CpuBases)
    → Grows b.journal (after_cancel found now line by b).journal
cancel_grows None now line by b = none_more b.journal
cancel_grows (Some f) now line by b = one_more b.journal _

pub hand_grows : (out : Option Item) (now : ℕ) (class : Class) (by : CpuId) (b : CpuBases)
    → Grows b.journal (after_hand_out out now class by b).journal
hand_grows None now class by b = one_more b.journal _
hand_grows (Some item) now class by b = one_more b.journal _

pub handed_grows : (class : Option Class) (now : ℕ) (by : CpuId) (b : CpuBases)
    → Grows b.journal (handed_of now class by b).journal
handed_grows None now by b = none_more b.journal
handed_grows (Some class) now by b = hand_grows (next_out now (base_of class b)) now class by b

pub out_grows : (first : Option Item) (now : ℕ) (class : Class) (by : CpuId) (b : CpuBases)
    → Grows b.journal (after_move_out first now class by b).journal
out_grows None now class by b = none_more b.journal
out_grows (Some item) now class by b = one_more b.journal _

-- where nothing is due the base counts as drained, and stays
pub drained_same : (out : Option Item) (now : ℕ) (class : Class) (by : CpuId) (b : CpuBases)
    → out ≡ None → (after_hand_out out now class by b).bases ≡ b.bases
drained_same None now class by b is = refl
drained_same (Some item) now class by b is = cc

-- CPUS: what a step makes of the data of the CPU that it reaches
pub record Here (r : Reach) (old new : CpuRecord) : Type 0 where
  pub journal : Grows old.bases.journal new.bases.journal
  pub unwritten : r.journals ≡ false → new.bases.journal ≡ old.bases.journal
  pub queues : r.queues ≡ false → new.bases.bases ≡ old.bases.bases
  pub online : r.online ≡ false → new.online ≡ old.online

-- timers stay, and so does the CPU's being online
pub quiet : (r : Reach) (old new : CpuRecord) → new.bases ≡ old.bases → new.online ≡ old.online
    → Here r old new
quiet r old new same on = record {
  journal = same_grows old.bases new.bases same;
  unwritten = λ _. ap (λ (b : CpuBases). b.journal) same;
  queues = λ _. ap (λ (b : CpuBases). b.bases) same;
  online = λ _. on;
}

-- timers change
pub timed : (c : ℕ) (old new : CpuRecord) → Grows old.bases.journal new.bases.journal
    → new.online ≡ old.online → Here (with_timers (only c)) old new
timed c old new grows on = record {
  journal = grows;
  unwritten = λ e. cc;
  queues = λ e. cc;
  online = λ _. on;
}

pub reached : (r : Reach) (d : ℕ) (old new : CpuRecord) → r.cpu d ≡ true → Here r old new
    → CpuKeeps r d old new
reached r d old new reaches here = record {
  journal = here.journal;
  unwritten = here.unwritten;
  queues = here.queues;
  online = here.online;
  others = λ off. absurd (true≢false (sym reaches ∙ off));
  untouched = λ off _. absurd (true≢false (sym reaches ∙ off));
}

itself : (y : CpuRecord) → IsBeside y y
itself y = record { all_else = refl; walk = refl; fresh = λ e. e }

pub still : (r : Reach) (d : ℕ) (y : CpuRecord) → CpuKeeps r d y y
still r d y = record {
  journal = none_more y.bases.journal;
  unwritten = λ _. refl;
  queues = λ _. refl;
  online = λ _. refl;
  others = λ _. itself y;
  untouched = λ _ _. refl;
}

beside_bases : (t : Shape) (q : Bool) (g d : ℕ) (y : CpuRecord) → (beside t q g d y).bases ≡ y.bases
beside_bases t true g d y = refl
beside_bases t false g d y = refl

beside_all : (t : Shape) (q : Bool) (g d : ℕ) (y : CpuRecord)
    → beside t q g d y ≡ record y { walk = (beside t q g d y).walk }
beside_all t true g d y = refl
beside_all t false g d y = refl

beside_none : (t : Shape) (q : Bool) (g d : ℕ) (y : CpuRecord) → q ≡ false → beside t q g d y ≡ y
beside_none t true g d y e = cc
beside_none t false g d y e = refl

-- WORLDS: a step of the general form
module _ (r : Reach) (w : World) (g : ℕ) (x : Group) (c : ℕ) (y : CpuRecord) (q : Bool)
    (low : c < length w.cpus) (reaches : r.cpu c ≡ true) (exchange : r.group ≡ false → q ≡ false)
    (here : Here r (cpu_of w c) y) where
  after : World
  after = moved w g x c y q

  beside_it : (d : ℕ) → d ≢ c → CpuKeeps r d (cpu_of w d) (cpu_of (moved w g x c y q) d)
  beside_it d apart =
      let new = cpu_of (moved w g x c y q) d in
      let is = cpu_else w g x c y q d apart in
      let same : new.bases ≡ (cpu_of w d).bases =
      ap (λ (z : CpuRecord). z.bases) is ∙ beside_bases w.tree q g d (cpu_of w d) in
      let laws = (moved_laws w g x c y q).changes in
      record {
        journal = same_grows (cpu_of w d).bases new.bases same;
        unwritten = λ _. ap (λ (b : CpuBases). b.journal) same;
        queues = λ _. ap (λ (b : CpuBases). b.bases) same;
        online = λ _. laws.online d apart;
        others = λ _. record {
          all_else =
              subst (λ z. z ≡ record (cpu_of w d) { walk = z.walk }) (sym is)
              (beside_all w.tree q g d (cpu_of w d));
          walk = laws.walk d apart;
          fresh = laws.fresh d apart;
        };
        untouched = λ _ no_group. is ∙ beside_none w.tree q g d (cpu_of w d) (exchange no_group);
      }

  each_cpu : (d : ℕ) → CpuKeeps r d (cpu_of w d) (cpu_of (moved w g x c y q) d)
  each_cpu d = elim (cases_eq d c) [
    | inl same ↦
        subst (λ n. CpuKeeps r n (cpu_of w n) (cpu_of (moved w g x c y q) n)) (sym same)
        (reached r c (cpu_of w c) (cpu_of (moved w g x c y q) c) reaches
        (subst (Here r (cpu_of w c)) (sym (cpu_same w g x c y q low)) here))
    | inr apart ↦ beside_it d apart
  ]

  keeps : SameSize w (moved w g x c y q)
      → (r.group ≡ false → (h : ℕ) → group_of (moved w g x c y q) h ≡ group_of w h)
      → KeepsReach r w (moved w g x c y q)
  keeps size groups = record {
    size = size;
    clock = omega arith;
    time = λ _. refl;
    cpu = each_cpu;
    groups = groups;
    one_group = (g, (moved_laws w g x c y q).changes.group);
  }

-- one CPU's own data
pub own_keeps : (r : Reach) (w : World) (c : ℕ) (y : CpuRecord) → SameSize w (own w c y)
    → c < length w.cpus → r.cpu c ≡ true → Here r (cpu_of w c) y → KeepsReach r w (own w c y)
own_keeps r w c y size low reaches here =
    keeps r w 0 (group_of w 0) c y false low reaches (λ _. refl) here size
    (λ _ h. own_group w c y h)

pub itself_reached : (c : ℕ) → (c == c) ≡ true
itself_reached c = eq-eqb c c refl

-- a step of a walk
abbrev by_walk : (c : ℕ) → Reach
by_walk c = record (only c) { group = true }

walk_keeps : (w : World) (g : ℕ) (x : Group) (c : ℕ) (y : CpuRecord) (q : Bool)
    → SameSize w (moved w g x c y q) → c < length w.cpus → y.bases ≡ (cpu_of w c).bases
    → y.online ≡ (cpu_of w c).online → KeepsReach (by_walk c) w (moved w g x c y q)
walk_keeps w g x c y q size low same on =
    keeps (by_walk c) w g x c y q low (itself_reached c) (λ e. cc)
    (quiet (by_walk c) (cpu_of w c) y same on) size (λ e. cc)

pub no_step : (r : Reach) (w : World) → SameSize w w → KeepsReach r w w
no_step r w size = record {
  size = size;
  clock = omega arith;
  time = λ _. refl;
  cpu = λ d. still r d (cpu_of w d);
  groups = λ _ h. refl;
  one_group = (0, λ h _. refl);
}

finished_bases : (y : CpuRecord) (k : Walk) (kind : WalkKind) → (finished y k kind).bases ≡ y.bases
finished_bases y k kinds.Activate = refl
finished_bases y k kinds.Deactivate = refl
finished_bases y k kinds.Offline = refl
finished_bases y k kinds.Reeval = refl
finished_bases y k (kinds.Remote by) = refl

finished_online : (y : CpuRecord) (k : Walk) (kind : WalkKind)
    → (finished y k kind).online ≡ y.online
finished_online y k kinds.Activate = refl
finished_online y k kinds.Deactivate = refl
finished_online y k kinds.Offline = refl
finished_online y k kinds.Reeval = refl
finished_online y k (kinds.Remote by) = refl

swap_keeps : (w : World) (c : ℕ) (k : Walk) (fresh : Bool) → SameSize w (swapped w c k fresh)
    → c < length w.cpus → KeepsReach (by_walk c) w (swapped w c k fresh)
swap_keeps w c k true size low = walk_keeps w _ _ c _ true size low refl refl
swap_keeps w c k false size low = walk_keeps w _ _ c _ false size low refl refl

stage_keeps : (w : World) (c : ℕ) (k : Walk) (st : Stage) → SameSize w (walked w c k st)
    → c < length w.cpus → KeepsReach (by_walk c) w (walked w c k st)
stage_keeps w c k stages.Own size low = walk_keeps w _ _ c _ false size low refl refl
stage_keeps w c k stages.Up size low = walk_keeps w _ _ c _ true size low refl refl
stage_keeps w c k (stages.Mark more) size low = walk_keeps w _ _ c _ false size low refl refl
stage_keeps w c k stages.Read size low = walk_keeps w _ _ c _ false size low refl refl
stage_keeps w c k stages.Child size low = walk_keeps w _ _ c _ false size low refl refl
stage_keeps w c k stages.Swap size low = swap_keeps w c k k.fresh size low
stage_keeps w c k stages.LockChild size low = walk_keeps w _ _ c _ false size low refl refl
stage_keeps w c k stages.LockGroup size low = walk_keeps w _ _ c _ false size low refl refl
stage_keeps w c k stages.SeeChild size low = walk_keeps w _ _ c _ false size low refl refl
stage_keeps w c k stages.SeeGroup size low = walk_keeps w _ _ c _ false size low refl refl
stage_keeps w c k (stages.Scan j) size low = walk_keeps w _ _ c _ false size low refl refl
stage_keeps w c k stages.Store size low = walk_keeps w _ _ c _ false size low refl refl
stage_keeps w c k (stages.First j) size low = walk_keeps w _ _ c _ false size low refl refl
stage_keeps w c k stages.FreeGroup size low = walk_keeps w _ _ c _ false size low refl refl
stage_keeps w c k stages.FreeChild size low = walk_keeps w _ _ c _ false size low refl refl
stage_keeps w c k stages.Finish size low =
    walk_keeps w _ _ c _ false size low (finished_bases (cpu_of w c) k k.kind)
    (finished_online (cpu_of w c) k k.kind)
stage_keeps w c k stages.Handing size low = no_step (by_walk c) w size

pub made_keeps : (w : World) (c : ℕ) (m : Option Walk) → SameSize w (walk_made w c m)
    → c < length w.cpus → KeepsReach (by_walk c) w (walk_made w c m)
made_keeps w c None size low = no_step (by_walk c) w size
made_keeps w c (Some k) size low = stage_keeps w c k k.stage size low
