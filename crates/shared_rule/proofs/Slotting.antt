-- for crates above: a walk's step that changes one slot of a group
use Rattle.std.proofs.Common.{◌≡◌, ◌≢◌, ◌↔◌, ℕ, suc, ◌<◌, ◌≤◌, Bool, false, true≢false, List}
use Rattle.std.proofs.Common.{[], ◌∷◌, length}
use Rattle.std.proofs.Common.{Option, Some, None, refl, sym, ap, ◌∙◌, subst, inl, inr, arith}
use Rattle.std.specs.Prelude.{Contains}
use Rattle.std.proofs.lemmas.Bool.{cases_eq}
use Rattle.std.proofs.lemmas.List.{get_or-set_other, get_or-set_same}
use Rattle.std.proofs.lemmas.Option.{same_Some}
use Rattle.tm_base.specs.declared.names.Child.{Child}
use Rattle.tm_base.specs.declared.names.Child.TheVariants as sorts
use Rattle.tm_base.specs.Children.{of_cpu}
use Rattle.event_queue.specs.declared.event.Event.{Event}
use Rattle.event_queue.specs.EventMap.{event_at}
use Rattle.tree_plan.specs.Laws.{PathLaws}
use Rattle.tree_plan.specs.Shape.{Shape}
use Rattle.tree_plan.specs.Paths.{bit_of, child_at, child_towards, group_at_of}
use Rattle.walk_rules.specs.declared.walk.Walk.{Walk}
use Rattle.walk_rules.specs.declared.walk.Stage.{Stage}
use Rattle.walk_rules.specs.Hierarchy.{side}
use Rattle.walk_rules.specs.Scene.{Group, no_group}
use Rattle.walk_rules.specs.Stages.{with_event}
use Rattle.core_world.specs.declared.step.Step.TheVariants as steps
use Rattle.core_world.specs.Enabled.{MayGoOn}
use Rattle.core_world.specs.Steps.{walk_made, walked, with_walk}
use Rattle.core_world.specs.World.{World, CpuRecord, cpu_of, group_of, is_reading, moved}
use Rattle.shared_words.specs.Layout.{index_of}
use Rattle.shared_words.specs.Words.{word_of_slot}
use Rattle.shared_rule.specs.declared.parts.PassView.{PassView}
use Rattle.shared_rule.specs.CoreLaws.{CoreLaws}
use Rattle.shared_rule.specs.Whole.{Whole, box_as, box_of, group_word, layout_of, leaf_in, leaf_of}
use Rattle.shared_rule.specs.Whole.{slot_at, word_at}
use Rattle.shared_rule.specs.Shows.{ReadsOf, after, is_reeval, owes, reevaluates, set_at}
use Rattle.shared_rule.specs.Rule.{Goes, Me, seat_of}
use Rattle.shared_rule.proofs.Made.{made}
use Rattle.shared_rule.proofs.Moving.{cpu_field, set_else, set_here}
use Rattle.shared_rule.proofs.Rising.{as_they_were}
use Rattle.shared_rule.proofs.Walking.{WalksAt}
use Rattle.shared_rule.specs.Laws.{walk_always}

-- a walk that doesn't read is right in what it reads
pub none_read : (t : Shape) (c : ℕ) (m : Option Walk) (n : ℕ) (word seq : ℕ → ℕ)
    → ((z : Walk) → m ≡ Some z → is_reading z.stage ≡ false) → ReadsOf t c m n word seq
none_read t c m n word seq reads = record {
  fresh = λ z i e rd there. absurd (true≢false (sym rd ∙ reads z e));
  before = λ z i e rd there. absurd (true≢false (sym rd ∙ reads z e));
  good = λ z e rd. absurd (true≢false (sym rd ∙ reads z e));
}

-- the number of a child
abbrev child_number : Child → ℕ
child_number (sorts.Cpu c) = c.0
child_number (sorts.Group g) = g.0

-- the child of a leaf at a CPU's side is the CPU
leaf_child : (t : Shape) → PathLaws t → (c g : ℕ) → group_at_of t c 0 ≡ Some g
    → child_at t g (side t c 0) ≡ Some (of_cpu c)
unfolding child_towards
leaf_child t laws c g path =
    let a = laws.towards c 0 g path in
    subst (λ (m : Child). child_at t g (bit_of t m) ≡ Some m) (same_Some _ _ (sym a.1)) a.3

-- two CPUs of one leaf have their slots apart
pub sides_apart : (t : Shape) → PathLaws t → (c d g : ℕ) → group_at_of t c 0 ≡ Some g
    → group_at_of t d 0 ≡ Some g → side t d 0 ≡ side t c 0 → d ≡ c
sides_apart t laws c d g here there e =
    ap child_number
    (same_Some _ _
    (sym (leaf_child t laws d g there) ∙ (ap (child_at t g) e ∙ leaf_child t laws c g here)))

-- a group of a path above its leaf is no leaf
pub no_leaf : (t : Shape) → PathLaws t → (c d l g : ℕ) → group_at_of t c (suc l) ≡ Some g
    → group_at_of t d 0 ≡ Some g → ⊥
no_leaf t laws c d l g here there =
    let a = laws.level c (suc l) g here in
    let b = laws.level d 0 g there in
    omega (arith, a, b)

-- a slot of the group g is changed
module _ (w : World) (c g n : ℕ) (e : Option Event) (y : CpuRecord) (hg : g < length w.groups) where
  abbrev set_to : Group
  set_to = with_event (group_of w g) n e

  abbrev then_world : World
  then_world = moved w g set_to c y false

  own_group : group_of then_world g ≡ set_to
  own_group = get_or-set_same w.groups g set_to no_group hg

  -- the slots of other CPUs in their leaves stay
  pub leaf_else : (d : ℕ)
      → ((h : ℕ) → group_at_of w.tree d 0 ≡ Some h → h ≡ g → side w.tree d 0 ≢ n)
      → leaf_of then_world d ≡ leaf_of w d
  leaf_else d apart = by_leaf (group_at_of w.tree d 0) apart
    where
      at_side : Group → Option Event
      at_side z = event_at z.events (side w.tree d 0)

      by_leaf : (m : Option ℕ) → ((h : ℕ) → m ≡ Some h → h ≡ g → side w.tree d 0 ≢ n)
          → leaf_in then_world d m ≡ leaf_in w d m
      by_leaf None away = refl
      by_leaf (Some h) away = elim (cases_eq h g) [
        | inl is ↦
            ap (λ i. at_side (group_of then_world i)) is
            ∙ (ap at_side own_group
            ∙ (get_or-set_other (group_of w g).events n (side w.tree d 0) e None
            (away h refl is)
            ∙ ap (λ i. at_side (group_of w i)) (sym is)))
        | inr ne ↦ ap at_side (get_or-set_other w.groups g h set_to no_group ne)
      ]

  -- the slot that was set, where it is the CPU's own in its leaf
  pub leaf_now : group_at_of w.tree c 0 ≡ Some g → side w.tree c 0 ≡ n
      → n < length (group_of w g).events → leaf_of then_world c ≡ e
  leaf_now path is low =
      ap (leaf_in then_world c) path
      ∙ (ap (λ (z : Group). event_at z.events (side w.tree c 0)) own_group
      ∙ (ap (event_at set_to.events) is ∙ get_or-set_same (group_of w g).events n e None low))

-- what a step of c's walk has to show that sets slot n of the group g to e: the bit that is left
-- where it is empty, the walk afterwards, and the CPU's own slot in its leaf
pub record SetsSlot (o : World) (s : Whole) (c g n : ℕ) (e : Option Event) (bit : Bool) (k : Walk)
    (m : Option Walk) (leaf : Option Event) (ps : List PassView) (f : ℕ → ℕ)
    (then : ℕ → Me → Type 0) : Type 0 where
  pub low : n < 8
  pub may : MayGoOn s.world c k k.stage
  pub is : walked s.world c k k.stage
      ≡ moved s.world g (with_event (group_of s.world g) n e) c (with_walk (cpu_of s.world c) m)
      false
  pub kind : (z : Walk) → m ≡ Some z → z.kind ≡ k.kind
  pub reads : (z : Walk) → m ≡ Some z → is_reading z.stage ≡ false
  pub reeval : is_reeval k.kind ≡ reevaluates m
  pub owed : (h : ℕ) → owes o.tree h c m ≤ owes o.tree h c (Some k)
  pub leaf_is : leaf
      ≡ leaf_of (moved s.world g (with_event (group_of s.world g) n e) c
      (with_walk (cpu_of s.world c) m) false) c
  pub leaves : (d : ℕ) → d ≢ c
      → leaf_of (moved s.world g (with_event (group_of s.world g) n e) c
      (with_walk (cpu_of s.world c) m) false) d ≡ leaf_of s.world d
  pub word : word_of_slot bit e ≡ f (word_at s (slot_at g n))
  pub told : then (word_at s (slot_at g n))
      (seat_of
      (box_as o c (with_walk (cpu_of s.world c) m) leaf (s.read c) (s.looked c) ∷ []) ps)

module _ (law : CoreLaws) (o : World) (s : Whole) (c g n : ℕ) (e : Option Event) (bit : Bool)
    (k : Walk) (m : Option Walk) (leaf : Option Event) (ps : List PassView) (f : ℕ → ℕ)
    (then : ℕ → Me → Type 0) (at : Stage) (level : ℕ) (q : WalksAt o s c ps k at level g)
    (t : SetsSlot o s c g n e bit k m leaf ps f then) where
  abbrev w : World
  w = s.world

  abbrev x : Group
  x = with_event (group_of w g) n e

  abbrev y : CpuRecord
  y = with_walk (cpu_of w c) m

  abbrev v : World
  v = moved w g x c y false

  abbrev stray : ℕ → ℕ → Bool
  stray = set_at g (set_at n bit (s.stray g)) s.stray

  abbrev next : Whole
  next = after s g x c y false (s.read c) stray (s.looked c) s.pass

  stray_here : (j : ℕ) → stray g j ≡ set_at n bit (s.stray g) j
  stray_here j = ap (λ (z : ℕ → Bool). z j) (set_here g (set_at n bit (s.stray g)) s.stray)

  pub slotted : Goes o s (box_of o s c) ps (slot_at g n) f (walk_always c) then
  slotted =
      let h = q.shown in
      let hc : c < length w.cpus = omega (arith, q.cpu, h.same.cpus) in
      let hg : g < length w.groups = omega (arith, q.group, h.same.groups) in
      let eight = h.fits.lawful.sized.slots g hg in
      let in_slots : n < length (group_of w g).events = omega (arith, t.low, eight) in
      made law o s h c g x y false (s.read c) stray (s.looked c) s.pass ps ps (slot_at g n) f then
      (record {
        step = steps.Walk (record { 0 = c });
        enabled = record { in_range = hc; made = k; walk = q.walk; may_go_on = t.may };
        is = ap (walk_made w c) q.walk ∙ t.is;
        plain = record { time = refl; queues = refl; journals = refl; online = refl };
        in_range = q.cpu;
        group = inl q.group;
        kept = λ z. (refl, refl);
        staying = λ z is off. h.staying c k q.walk (sym (t.kind z is) ∙ off);
        reads = none_read w.tree c m (s.read c) (group_word next) s.seq t.reads;
        owed = λ i.
            let a = t.owed i in
            let b : owes o.tree i c (cpu_of w c).walk ≡ owes o.tree i c (Some k)
            = ap (owes o.tree i c) q.walk in
            omega (arith, a, b);
        few = h.few;
        opened = h.opened;
        passes = h.passes;
        flags =
            let was = h.flags c in
            record {
              idle = was.idle;
              inside = was.inside;
              wakeup = was.wakeup;
              reeval = was.reeval ∙ (ap reevaluates q.walk ∙ t.reeval);
            };
        flags_else = λ d ne. h.flags d;
        marked = λ d i.
            subst (λ z. (z ≡ Some i) ↔ Contains (s.pass i).marks d)
            (sym (cpu_field w g x c y false (λ z. z.mark) (λ z u. refl) hc refl d))
            (h.marked d i);
        journal = λ d. refl;
        receipts = λ d. refl;
        did = h.seen;
        leaf = leaf;
        leaf_is = t.leaf_is;
        leaves = t.leaves;
        word =
            (λ i. word_of_slot ((stray_here n ∙ set_here n bit (s.stray g)) i)
            (event_at (own_group w c g n e y hg i).events n))
            ∙ (ap (word_of_slot bit) (get_or-set_same (group_of w g).events n e None in_slots)
            ∙ t.word);
        state = λ ne. refl;
        lock = λ ne. refl;
        slots = λ j low ne.
            let other : j ≢ n = λ z. ne (ap (λ i. index_of (layout_of o) (slot_at g i)) z) in
            λ i. word_of_slot ((stray_here j ∙ set_else n bit (s.stray g) j other) i)
            (get_or-set_other (group_of w g).events n j e None other i);
        strays = λ i j ne.
            ap (λ (z : ℕ → Bool). z j) (set_else g (set_at n bit (s.stray g)) s.stray i ne);
        cpu = λ ne. refl;
        same = refl;
        brought = as_they_were o s ps q.known;
        others = λ d ne. refl;
        told = t.told;
      })
