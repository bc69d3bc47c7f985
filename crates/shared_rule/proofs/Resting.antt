-- for crates above: a CPU goes idle, or tells its first event anew, and a walk begins
use Rattle.std.proofs.Common.{◌≡◌, ℕ, ◌+◌, ◌<◌, Bool, true, false, true≢false, []}
use Rattle.std.proofs.Common.{◌∷◌, Option, Some, refl, sym, ap, ◌∙◌, subst, arith}
use Rattle.std.specs.Prelude.{is_some, option_map}
use Rattle.std.proofs.lemmas.Option.{none-some, same_Some}
use Rattle.cpu_bases.specs.CpuBases.{events_of}
use Rattle.tree_plan.specs.Paths.{group_at_of}
use Rattle.walk_rules.specs.declared.walk.Walk.{Walk}
use Rattle.walk_rules.specs.declared.walk.WalkKind.{WalkKind}
use Rattle.walk_rules.specs.declared.walk.WalkKind.TheVariants as kinds
use Rattle.walk_rules.specs.declared.walk.Stage.{Stage}
use Rattle.walk_rules.specs.declared.walk.Stage.TheVariants as stages
use Rattle.walk_rules.specs.Stages.{forget}
use Rattle.core_world.specs.declared.step.Step.TheVariants as steps
use Rattle.core_world.specs.Enabled.{first_event}
use Rattle.walk_rules.specs.Stages.{begun_where}
use Rattle.core_world.specs.World.{World, CpuRecord, cpu_of, is_active, is_reading}
use Rattle.shared_rule.specs.declared.parts.BoxView.{BoxView}
use Rattle.shared_rule.specs.CoreLaws.{CoreLaws}
use Rattle.shared_rule.specs.Whole.{box_of, no_looks, own_word, quiet}
use Rattle.shared_rule.specs.Shows.{reevaluates}
use Rattle.shared_rule.specs.Rule.{seat_of}
use Rattle.shared_rule.specs.Plays.{on_both}
use Rattle.shared_rule.specs.Turns.{idled, idled_box, idled_pass, retold, retold_box, retold_pass}
use Rattle.shared_rule.specs.TurnLaws.{IdleStays, RetellStays}
use Rattle.shared_rule.proofs.Owing.{owes_one}
use Rattle.shared_rule.proofs.Turning.{at_turn, marks_nobody, turns}
use Rattle.shared_rule.proofs.Waking.{is_offline}

-- WALKS THAT BEGIN
module _ (kind : WalkKind) (stage : Stage) (pin next : ℕ) where
  abbrev begins : Bool → Option Walk
  begins b = begun_where b kind stage pin next

  pub begun_kind : (b : Bool) (k : Walk) → begins b ≡ Some k → k.kind ≡ kind
  begun_kind true k e = ap (λ (z : Walk). z.kind) (sym (same_Some _ _ e))
  begun_kind false k e = alone kind k e
    where
      alone : (q : WalkKind) (k : Walk) → begun_where false q stage pin next ≡ Some k → k.kind ≡ q
      alone kinds.Activate k e = absurd (none-some k e)
      alone kinds.Deactivate k e = ap (λ (z : Walk). z.kind) (sym (same_Some _ _ e))
      alone kinds.Offline k e = ap (λ (z : Walk). z.kind) (sym (same_Some _ _ e))
      alone kinds.Reeval k e = ap (λ (z : Walk). z.kind) (sym (same_Some _ _ e))
      alone (kinds.Remote by) k e = ap (λ (z : Walk). z.kind) (sym (same_Some _ _ e))

  pub begun_reads : is_reading stage ≡ false → (b : Bool) (k : Walk) → begins b ≡ Some k
      → is_reading k.stage ≡ false
  begun_reads not true k e = ap (λ (z : Walk). is_reading z.stage) (sym (same_Some _ _ e)) ∙ not
  begun_reads not false k e = alone kind k e
    where
      alone : (q : WalkKind) (k : Walk) → begun_where false q stage pin next ≡ Some k
          → is_reading k.stage ≡ false
      alone kinds.Activate k e = absurd (none-some k e)
      alone kinds.Deactivate k e = ap (λ (z : Walk). is_reading z.stage) (sym (same_Some _ _ e))
      alone kinds.Offline k e = ap (λ (z : Walk). is_reading z.stage) (sym (same_Some _ _ e))
      alone kinds.Reeval k e = ap (λ (z : Walk). is_reading z.stage) (sym (same_Some _ _ e))
      alone (kinds.Remote by) k e = ap (λ (z : Walk). is_reading z.stage) (sym (same_Some _ _ e))

  pub forget_begun : (b : Bool) → option_map forget (begins b) ≡ begins b
  forget_begun true = refl
  forget_begun false = alone kind
    where
      alone : (q : WalkKind) → option_map forget (begun_where false q stage pin next)
          ≡ begun_where false q stage pin next
      alone kinds.Activate = refl
      alone kinds.Deactivate = refl
      alone kinds.Offline = refl
      alone kinds.Reeval = refl
      alone (kinds.Remote by) = refl

-- a walk out of the active sets is no re-evaluation, and one is
idle_reeval : (pin next : ℕ) (b : Bool)
    → false ≡ reevaluates (begun_where b kinds.Deactivate stages.Read pin next)
idle_reeval pin next true = refl
idle_reeval pin next false = refl

retold_reeval : (pin next : ℕ) (b : Bool)
    → true ≡ reevaluates (begun_where b kinds.Reeval stages.LockGroup pin next)
retold_reeval pin next true = refl
retold_reeval pin next false = refl

pub idles : (law : CoreLaws) (o : World) → IdleStays o
idles law o slots id b p new may rest =
    at_turn law o slots id b p (idled o b.cpu b.own) new (λ n. new)
    (steps.Idle (record { 0 = b.cpu }))
    (λ z n v. v ≡ on_both idled_box idled_pass (seat_of (z ∷ []) (p ∷ []))) may
    (λ s q.
    let c = b.cpu in
    let w = s.world in
    let h = q.shown in
    let y0 = cpu_of w c in
    let pin = (events_of y0.bases).pin in
    let next = (events_of y0.bases).next in
    let has = is_some (group_at_of w.tree c 0) in
    let y : CpuRecord = idled w c y0 in
    let box_is : quiet y ≡ idled o c (quiet y0)
    = (λ i. record y0 {
      idle = true;
      walk = forget_begun kinds.Deactivate stages.Read pin next has i;
    })
    ∙ (λ i. record y0 {
      idle = true;
      walk = begun_where (is_some (group_at_of (h.same.tree i) c 0)) kinds.Deactivate stages.Read
          pin next;
    }) in
    turns law o s h c y p (idled_pass b p) no_looks (λ n. new)
    (λ n v. v ≡ on_both idled_box idled_pass (seat_of (box_of o s c ∷ []) (p ∷ [])))
    (record {
      step = steps.Idle (record { 0 = c });
      enabled = record {
        is_free = record { in_range = omega (arith, q.in_range, h.same.cpus); free = q.free };
        active = ap (λ (z : BoxView). is_active z.own) (sym q.box) ∙ rest.active;
        outside = ap (λ (z : BoxView). z.own.inside) (sym q.box) ∙ rest.outside;
        rests =
            subst (λ (z : BoxView). w.clock + 1 < first_event z.own.bases) q.box
            (subst (λ z. z + 1 < first_event b.own.bases) (sym h.clock) rest.rests);
      };
      is = refl;
      plain = record { time = refl; queues = refl; journals = refl; online = refl };
      in_range = q.in_range;
      brought = q.brought;
      whose = q.whose;
      staying = λ k at z.
          true≢false
          (sym (ap is_offline
          (sym (begun_kind kinds.Deactivate stages.Read pin next has k at) ∙ z)));
      reads = begun_reads kinds.Deactivate stages.Read pin next refl has;
      mark = refl;
      owed = λ m. let a = owes_one o.tree m c y.walk in omega (arith, a);
      few = rest.left;
      opening = refl;
      cpu = refl;
      journal = refl;
      receipts = refl;
      did = refl;
      marks = refl;
      flags = record {
        idle = refl;
        inside = q.flags.inside;
        wakeup = q.flags.wakeup;
        reeval = idle_reeval pin next has;
      };
      word = sym (may.word ∙ ap (λ (z : BoxView). own_word (idled o c z.own)) q.box);
      told = λ i. seat_of (record (box_of o s c) { own = box_is i; looked = no_looks } ∷ [])
          (idled_pass b p ∷ []);
    }))

pub retells : (law : CoreLaws) (o : World) → RetellStays o
retells law o slots id b p may again =
    at_turn law o slots id b p b.own (own_word b.own) (λ n. n) (steps.Reeval (record { 0 = b.cpu }))
    (λ z n v. v ≡ on_both retold_box retold_pass (seat_of (z ∷ []) (p ∷ []))) may
    (λ s q.
    let c = b.cpu in
    let w = s.world in
    let h = q.shown in
    let y0 = cpu_of w c in
    let pin = (events_of y0.bases).pin in
    let next = (events_of y0.bases).next in
    let has = is_some (group_at_of w.tree c 0) in
    let y : CpuRecord = retold w c y0 in
    let box_is : quiet y ≡ retold o c (quiet y0)
    = (λ i. record y0 { walk = forget_begun kinds.Reeval stages.LockGroup pin next has i })
    ∙ (λ i. record y0 {
      walk = begun_where (is_some (group_at_of (h.same.tree i) c 0)) kinds.Reeval
          stages.LockGroup pin next;
    }) in
    turns law o s h c y p (retold_pass b p) no_looks (λ n. n)
    (λ n v. v ≡ on_both retold_box retold_pass (seat_of (box_of o s c ∷ []) (p ∷ [])))
    (record {
      step = steps.Reeval (record { 0 = c });
      enabled = record {
        is_free = record { in_range = omega (arith, q.in_range, h.same.cpus); free = q.free };
        online = q.online;
        idle = ap (λ (z : BoxView). z.own.idle) (sym q.box) ∙ again.idle;
        inside = ap (λ (z : BoxView). z.own.inside) (sym q.box) ∙ again.inside;
        marks_nobody = marks_nobody o s b p q again.marks_nobody;
      };
      is = refl;
      plain = record { time = refl; queues = refl; journals = refl; online = refl };
      in_range = q.in_range;
      brought = q.brought;
      whose = q.whose;
      staying = λ k at z.
          true≢false
          (sym (ap is_offline
          (sym (begun_kind kinds.Reeval stages.LockGroup pin next has k at) ∙ z)));
      reads = begun_reads kinds.Reeval stages.LockGroup pin next refl has;
      mark = refl;
      owed = λ m. let a = owes_one o.tree m c y.walk in omega (arith, a);
      few = again.left;
      opening = refl;
      cpu = refl;
      journal = refl;
      receipts = refl;
      did = refl;
      marks = refl;
      flags = record {
        idle = q.flags.idle;
        inside = q.flags.inside;
        wakeup = q.flags.wakeup;
        reeval = retold_reeval pin next has;
      };
      word = refl;
      told = λ i. seat_of (record (box_of o s c) { own = box_is i; looked = no_looks } ∷ [])
          (retold_pass b p ∷ []);
    }))
