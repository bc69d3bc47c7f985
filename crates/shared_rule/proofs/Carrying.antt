-- for crates above: a pass carries the next event of a CPU that it has marked upwards
use Rattle.std.proofs.Common.{◌≡◌, ◌↔◌, ℕ, ◌^◌, ◌<◌, Bool, true, false, true≢false}
use Rattle.std.proofs.Common.{[], ◌∷◌, Some, None, length, refl, sym, ap, ◌∙◌, subst}
use Rattle.std.proofs.Common.{arith}
use Rattle.std.specs.Prelude.{Contains, is_some, option_map, unwrap_or}
use Rattle.std.proofs.lemmas.Option.{none-some, same_Some}
use Rattle.tm_base.specs.declared.names.CpuId.{CpuId}
use Rattle.cpu_bases.specs.CpuBases.{events_of}
use Rattle.tree_plan.specs.Paths.{group_at_of}
use Rattle.walk_rules.specs.declared.walk.Walk.{Walk}
use Rattle.walk_rules.specs.declared.walk.WalkKind.TheVariants as kinds
use Rattle.walk_rules.specs.declared.walk.Stage.TheVariants as stages
use Rattle.walk_rules.specs.Stages.{forget}
use Rattle.core_world.specs.declared.step.Step.TheVariants as steps
use Rattle.core_world.specs.Enabled.{MayGoOn}
use Rattle.core_world.specs.Steps.{finished, walk_made, walked, with_walk}
use Rattle.walk_rules.specs.Stages.{begun_where}
use Rattle.core_world.specs.World.{World, CpuRecord, cpu_of, own}
use Rattle.shared_rule.specs.declared.parts.BoxView.{BoxView}
use Rattle.shared_rule.specs.declared.parts.Deed.TheVariants as deeds
use Rattle.shared_rule.specs.declared.parts.PassView.{PassView}
use Rattle.shared_rule.specs.CoreLaws.{CoreLaws}
use Rattle.shared_rule.specs.Whole.{box_of, cpu_at, no_looks, own_word, quiet}
use Rattle.shared_rule.specs.Shows.{is_reeval, reevaluates}
use Rattle.shared_rule.specs.Rule.{Goes, seat_of}
use Rattle.shared_rule.specs.Turns.{carried, carried_box, carried_pass, carry_ended_box}
use Rattle.shared_rule.specs.Turns.{carry_ended_pass, finish_of, found_next, on_pair}
use Rattle.shared_rule.specs.TurnLaws.{CarryEndStays, CarryStays}
use Rattle.shared_rule.proofs.Fits.{shown_walk}
use Rattle.shared_rule.proofs.Going.{allows}
use Rattle.shared_rule.proofs.Owing.{owes_one}
use Rattle.shared_rule.proofs.Remarking.{remarks}
use Rattle.shared_rule.proofs.Resting.{begun_kind, begun_reads, forget_begun}
use Rattle.shared_rule.proofs.Taking.{gone, more_did, old_did, stay, unseen}
use Rattle.shared_rule.proofs.Waking.{is_offline, none_shown}
use Rattle.shared_rule.specs.Laws.{walk_always}

remote_reeval : (by : CpuId) (pin next : ℕ) (b : Bool)
    → reevaluates (begun_where b (kinds.Remote by) stages.LockGroup pin next) ≡ false
remote_reeval by pin next true = refl
remote_reeval by pin next false = refl

pub carries : (law : CoreLaws) (o : World) → CarryStays o
carries law o slots id b p may =
    allows law o slots id b (p ∷ []) (cpu_at b.cpu) (λ n. n)
    (λ n. Some (steps.Carry (record { 0 = b.cpu })))
    (λ n v. v ≡ on_pair carried_box carried_pass (seat_of (b ∷ []) (p ∷ []))) may.cpu
    (λ s h hc is known fits.
    subst (λ (z : BoxView). Goes o s z (p ∷ []) (cpu_at b.cpu) (λ n. n)
    (λ n. Some (steps.Carry (record { 0 = b.cpu })))
    (λ n v. v ≡ on_pair carried_box carried_pass (seat_of (z ∷ []) (p ∷ [])))) (sym is)
    (let c = b.cpu in
    let w = s.world in
    let y0 = cpu_of w c in
    let by : CpuId = record { 0 = p.cpu } in
    let pin = (events_of y0.bases).pin in
    let next = (events_of y0.bases).next in
    let has = is_some (group_at_of w.tree c 0) in
    let y : CpuRecord = carried w c p.cpu y0 in
    let marked : y0.mark ≡ Some p.cpu
    = ap (λ (z : BoxView). z.own.mark) (sym is) ∙ may.marked in
    let free : y0.walk ≡ None = none_shown _ (ap (λ (z : BoxView). z.own.walk) (sym is)
    ∙ may.free) in
    let box_is : quiet y ≡ carried o c p.cpu (quiet y0)
    = (λ i. record y0 { walk = forget_begun (kinds.Remote by) stages.LockGroup pin next has i })
    ∙ (λ i. record y0 {
      walk = begun_where (is_some (group_at_of (h.same.tree i) c 0)) (kinds.Remote by)
          stages.LockGroup pin next;
    }) in
    remarks law o s h c y p (carried_pass b p) no_looks (λ n. n)
    (λ n v. v ≡ on_pair carried_box carried_pass (seat_of (box_of o s c ∷ []) (p ∷ [])))
    (record {
      step = steps.Carry (record { 0 = c });
      enabled = record {
        is_free = record { in_range = omega (arith, hc, h.same.cpus); free = free };
        marked = (p.cpu, marked);
        online = ap (λ (z : BoxView). z.own.online) (sym is) ∙ may.online;
        idle = ap (λ (z : BoxView). z.own.idle) (sym is) ∙ may.idle;
      };
      is = λ i. own w c
          (with_walk y0
          (begun_where has (kinds.Remote (record { 0 = unwrap_or (marked i) 0 })) stages.LockGroup
          pin next));
      plain = record { time = refl; queues = refl; journals = refl; online = refl };
      in_range = hc;
      brought = known.0.1;
      runner = known.0.0;
      staying = λ k at z.
          true≢false
          (sym (ap is_offline
          (sym (begun_kind (kinds.Remote by) stages.LockGroup pin next has k at) ∙ z)));
      reads = begun_reads (kinds.Remote by) stages.LockGroup pin next refl has;
      still_idle = refl;
      still_inside = refl;
      still_wakes = refl;
      still_reeval = remote_reeval by pin next has ∙ ap reevaluates (sym free);
      owed = λ m. let a = owes_one o.tree m c y.walk in omega (arith, a);
      few = may.left;
      opening = refl;
      cpu = refl;
      receipts = refl;
      idle = refl;
      inside = refl;
      reeval = refl;
      wakeup = refl;
      journal = refl;
      did = old_did o s p h known.0.1;
      mine = subst (λ (z : PassView). (y0.mark ≡ Some p.cpu) ↔ Contains z.marks c) (sym known.0.1)
          (h.marked c p.cpu);
      other = λ i ne. h.marked c i;
      others = λ d ne. ((λ x. x), (λ x. x));
      word = refl;
      told = λ i. seat_of (record (box_of o s c) { own = box_is i; looked = no_looks } ∷ [])
          (carried_pass b p ∷ []);
    })))

pub carry_ends : (law : CoreLaws) (o : World) → CarryEndStays o
carry_ends law o slots id b k p new may =
    allows law o slots id b (p ∷ []) (cpu_at b.cpu) (λ n. new) (walk_always b.cpu)
    (λ n v. v ≡ on_pair carry_ended_box carry_ended_pass (seat_of (b ∷ []) (p ∷ []))) may.cpu
    (λ s h hc is known fits.
    subst (λ (z : BoxView). Goes o s z (p ∷ []) (cpu_at b.cpu) (λ n. new) (walk_always b.cpu)
    (λ n v. v ≡ on_pair carry_ended_box carry_ended_pass (seat_of (z ∷ []) (p ∷ [])))) (sym is)
    (let c = b.cpu in
    let w = s.world in
    let y0 = cpu_of w c in
    let by : CpuId = record { 0 = p.cpu } in
    let shown = shown_walk _ k (ap (λ (z : BoxView). z.own.walk) (sym is) ∙ may.walk) in
    let j = shown.0 in
    let at : y0.walk ≡ Some j = shown.1 in
    let stage : j.stage ≡ stages.Finish = ap (λ (z : Walk). z.stage) shown.2 ∙ may.stage in
    let kind : j.kind ≡ kinds.Remote by = ap (λ (z : Walk). z.kind) shown.2 ∙ may.kind in
    let marked : y0.mark ≡ Some p.cpu
    = (law.marks w h.fits.lawful).remote c j by at kind in
    let y : CpuRecord = finished y0 j (kinds.Remote by) in
    let q = carry_ended_pass (box_of o s c) p in
    remarks law o s h c y p q (s.looked c) (λ n. new)
    (λ n v. v ≡ on_pair carry_ended_box carry_ended_pass (seat_of (box_of o s c ∷ []) (p ∷ [])))
    (record {
      step = steps.Walk (record { 0 = c });
      enabled = record {
        in_range = omega (arith, hc, h.same.cpus);
        made = j;
        walk = at;
        may_go_on = subst (MayGoOn w c j) (sym stage) tt;
      };
      is =
          ap (walk_made w c) at
          ∙ (ap (walked w c j) stage ∙ ap (λ z. own w c (finished y0 j z)) kind);
      plain = record { time = refl; queues = refl; journals = refl; online = refl };
      in_range = hc;
      brought = known.0.1;
      runner = known.0.0;
      staying = λ z e. absurd (none-some z e);
      reads = λ z e. absurd (none-some z e);
      still_idle = refl;
      still_inside = refl;
      still_wakes = refl;
      still_reeval = sym (ap reevaluates at ∙ ap is_reeval kind);
      owed = λ m. omega arith;
      few = subst (λ (z : PassView). z.walks < 2 ^ 32) (sym known.0.1) (h.few p.cpu);
      opening = refl;
      cpu = refl;
      receipts = refl;
      idle = refl;
      inside = refl;
      reeval = refl;
      wakeup = refl;
      journal = refl;
      did = more_did o w p
          (record {
            held = length p.receipts;
            deed = deeds.Carried c (found_next (option_map forget y0.walk));
          })
          (old_did o s p h known.0.1)
          (unseen o w p.receipts (deeds.Carried c (found_next (option_map forget y0.walk)))
          (not_saw c (found_next (option_map forget y0.walk))));
      mine = ((λ x. absurd (none-some p.cpu x)), (λ x. absurd (gone c p.marks x)));
      other = λ i ne. (
        (λ x. absurd (none-some i x)),
        (λ x. absurd (ne (same_Some _ _ (sym ((h.marked c i).1 x) ∙ marked)))),
      );
      others = stay c p.marks;
      word = (λ i. own_word (finished (sym is i).own (shown.2 i) (kinds.Remote by))) ∙ sym may.word;
      told = λ i. seat_of (record (box_of o s c) {
        own = finish_of (kinds.Remote by) (quiet y0) (option_map forget (sym at i));
      } ∷ []) (q ∷ []);
    })))
  where
    not_saw : (c next word found : ℕ) → deeds.Carried c next ≡ deeds.Saw word found → ⊥
    not_saw c next word found z = cc
