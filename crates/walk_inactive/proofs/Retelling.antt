-- a whole walk that retells, or carries
use Rattle.std.proofs.Common.{◌≡◌, ℕ, suc, Bool, true, false, true≢false, List, [], ◌∷◌, ◌++◌}
use Rattle.std.proofs.Common.{None, length, refl, sym, ap, ◌∙◌, subst, min}
use Rattle.std.specs.Prelude.{is_some}
use Rattle.cpu_bases.specs.CpuBases.{events_of}
use Rattle.walk_rules.specs.declared.walk.Walk.{Walk}
use Rattle.walk_rules.specs.declared.walk.WalkKind.{WalkKind}
use Rattle.walk_rules.specs.declared.walk.WalkKind.TheVariants as kinds
use Rattle.walk_rules.specs.declared.walk.Stage.TheVariants as stages
use Rattle.core_world.specs.World.{CpuRecord}
use Rattle.shared_cpus.specs.core_state.Shown.{as_cpu}
use Rattle.shared_cpus.specs.shared_rule.declared.parts.BoxView.{BoxView}
use Rattle.shared_cpus.specs.shared_rule.declared.parts.Deed.TheVariants as deeds
use Rattle.shared_cpus.specs.shared_rule.declared.parts.PassView.{PassView}
use Rattle.shared_cpus.specs.shared_rule.Plays.{head_pass}
use Rattle.shared_cpus.specs.shared_rule.Turns.{carried, carried_box, carried_pass, marks_without}
use Rattle.shared_cpus.specs.shared_rule.Turns.{retold_box}
use Rattle.shared_cpus.specs.shared_rule.Turns.{retold_pass}
use Rattle.shared_cpus.specs.shared_rule.Turns as turns
use Rattle.shared_cpus.specs.shared_rule.Parts.{HeldPart}
use Rattle.shared_cpus.specs.Conditions.{CanCarry, CanFinish, CanRetell, HasPassFor}
use Rattle.shared_cpus.specs.Pairs.{HasOwn, by_pair, of_box}
use Rattle.shared_cpus.specs.Steps.{ended}
use Rattle.walk_inactive.specs.Ends.{HasCarried, HasWalked, has_carried, box_leaf_of, next_of}
use Rattle.walk_inactive.specs.Ends.{cpu_reevaluated, pass_retold, told_leaf, unmarked}
use Rattle.walk_inactive.specs.Looks.{FindsFirst}
use Rattle.walk_inactive.specs.Ways.{HasComeToEnd, HasSetOut}
use Rattle.walk_inactive.proofs.Resting.{begun_part, came, ended_so, first_kind, first_next}
use Rattle.walk_inactive.proofs.Resting.{first_pin, first_walk, sets_out, with_one}

-- a part after a whole walk, with this CPU and these passes
abbrev pub ended_part : HeldPart → HeldPart → CpuRecord → List PassView → HeldPart
ended_part old end own passes = record old {
  box = record old.box {
    own = own;
    leaf = end.box.leaf;
    read = end.box.read;
    looked = end.box.looked;
  };
  brought = passes;
}

-- what such a part says of the walk
walked_so : (old end new : HeldPart) (k w : Walk) (kind : WalkKind)
    (change : ℕ → CpuRecord → CpuRecord) (with_it : BoxView → PassView → PassView)
    (own : CpuRecord) (passes : List PassView) → new ≡ ended_part old end own passes
    → FindsFirst (box_leaf_of old.box) old.box.opening old.box.cpu k.kind k.next end.box.looked.seen w.first
    → k.kind ≡ kind → k.next ≡ next_of old.box
    → end.box.leaf ≡ told_leaf (box_leaf_of old.box) old.box.cpu k.next old.box.leaf
    → own ≡ change w.first old.box.own
    → passes ≡ head_pass (with_it (ended_part old end own passes).box) old.brought
    → HasWalked kind change with_it old new
walked_so old end new k w kind change with_it own passes final found of_kind next leaf own_is
    passes_are = record {
      told = record {
        first = w.first;
        found =
            subst (λ z. FindsFirst (box_leaf_of old.box) old.box.opening old.box.cpu kind (next_of old.box)
            z w.first) (ap (λ z. z.box.looked.seen) back)
            (subst (λ z. FindsFirst (box_leaf_of old.box) old.box.opening old.box.cpu kind z
            end.box.looked.seen w.first) next
            (subst (λ z. FindsFirst (box_leaf_of old.box) old.box.opening old.box.cpu z k.next
            end.box.looked.seen w.first) of_kind found));
        box =
            ap (λ z. z.box) final
            ∙ (λ i. record old.box {
              own = own_is i;
              leaf = told i;
              read = (back i).box.read;
              looked = (back i).box.looked;
            });
      };
      rest =
          final
          ∙ (λ i. record old { box = (ended_part old end own passes).box; brought = passes_are i })
          ∙ (λ i. record old {
            box = (back i).box;
            brought = head_pass (with_it (back i).box) old.brought;
          });
    }
  where
    back : ended_part old end own passes ≡ new
    back = sym final

    told : end.box.leaf ≡ told_leaf (box_leaf_of old.box) old.box.cpu (next_of old.box) old.box.leaf
    told = leaf ∙ ap (λ n. told_leaf (box_leaf_of old.box) old.box.cpu n old.box.leaf) next

-- neither re-evaluating nor carrying is waking
abbrev is_waking : WalkKind → Bool
is_waking kinds.Activate = true
is_waking kinds.Deactivate = false
is_waking kinds.Offline = false
is_waking kinds.Reeval = false
is_waking (kinds.Remote by) = false

-- a part that re-evaluates with its own pass
module _ (old mid end new : HeldPart) (can : CanRetell old)
    (begun_is : mid ≡ by_pair (of_box retold_box) retold_pass old) where
  abbrev own : CpuRecord
  own = old.box.own

  -- the walk by which it does
  abbrev pub retell_walk : Walk
  retell_walk =
      first_walk (is_some (box_leaf_of old.box)) kinds.Reeval stages.LockGroup
      (events_of own.bases).pin (events_of own.bases).next

  -- the part as that begins
  abbrev begun_retell : HeldPart
  begun_retell =
      begun_part old (turns.retold old.box.opening old.box.cpu own) (retold_pass old.box can.pass)

  retell_here : mid ≡ begun_retell
  retell_here = begun_is ∙ with_one (of_box retold_box) retold_pass old can.pass can.turn.brought

  pub retell_sets_out : HasSetOut mid retell_walk
  retell_sets_out =
      subst (λ z. HasSetOut z retell_walk) (sym retell_here)
      (sets_out begun_retell kinds.Reeval stages.LockGroup (events_of own.bases).pin
      (events_of own.bases).next (λ z. true≢false (sym (ap is_waking z))) refl refl (refl, refl))

  retell_comes : ((k : Walk) → HasSetOut mid k → HasComeToEnd mid end k)
      → HasComeToEnd begun_retell end retell_walk
  retell_comes comes =
      subst (λ z. HasComeToEnd z end retell_walk) retell_here (comes retell_walk retell_sets_out)

  pub retell_finishes : ((k : Walk) → HasSetOut mid k → HasComeToEnd mid end k) → CanFinish end
  retell_finishes comes =
      let come = retell_comes comes in
      let kind : come.walk.kind ≡ kinds.Reeval =
      come.errand.kind
      ∙ first_kind (is_some (box_leaf_of old.box)) kinds.Reeval stages.LockGroup
      (events_of own.bases).pin (events_of own.bases).next in
      record {
        made = come.walk;
        walk = come.has;
        stage = come.stage;
        pass =
            subst (λ z. HasPassFor z end) (sym kind)
            (subst HasOwn (sym (came old (turns.retold old.box.opening old.box.cpu own)
            (retold_pass old.box can.pass) end retell_walk come))
            (retold_pass old.box can.pass, refl, can.turn.own));
      }

  pub retell_ends : ((k : Walk) → HasSetOut mid k → HasComeToEnd mid end k)
      → new ≡ ended end.box.own.walk end
      → HasWalked kinds.Reeval cpu_reevaluated pass_retold old new
  retell_ends comes is =
      let come = retell_comes comes in
      let has = is_some (box_leaf_of old.box) in
      let pin = (events_of own.bases).pin in
      let next = (events_of own.bases).next in
      let kind = first_kind has kinds.Reeval stages.LockGroup pin next in
      let pinned : come.walk.pin ≡ pin =
      come.errand.pin ∙ first_pin has kinds.Reeval stages.LockGroup pin next in
      let free = sym can.turn.free in
      let p = can.pass in
      let wakeup = min come.walk.pin come.walk.first in
      walked_so old end new retell_walk come.walk kinds.Reeval cpu_reevaluated pass_retold
      (record own { wakeup = wakeup; inside = false; walk = None })
      (record p { walks = suc p.walks; wakeup = wakeup; inside = false; reeval = false } ∷ [])
      (ended_so old (turns.retold old.box.opening old.box.cpu own) (retold_pass old.box p) end new
      retell_walk kinds.Reeval come kind is)
      come.found kind (first_next has kinds.Reeval stages.LockGroup pin next) come.leaf
      (λ i. record own {
        wakeup = min (pinned i) come.walk.first;
        inside = false;
        walk = free i;
      })
      (ap (head_pass (pass_retold (record old.box {
        own = record own { wakeup = wakeup; inside = false; walk = None };
        leaf = end.box.leaf;
        read = end.box.read;
        looked = end.box.looked;
      }))) (sym can.turn.brought))

-- a part that is carried for, with the pass of the CPU that has marked it
module _ (old mid end new : HeldPart) (can : CanCarry old)
    (begun_is : mid ≡ by_pair carried_box carried_pass old) where
  abbrev its : CpuRecord
  its = old.box.own

  abbrev kind : WalkKind
  kind = kinds.Remote (as_cpu can.pass.cpu)

  -- the walk by which it is
  abbrev pub carry_walk : Walk
  carry_walk =
      first_walk (is_some (box_leaf_of old.box)) kind stages.LockGroup (events_of its.bases).pin
      (events_of its.bases).next

  -- the part as that begins
  abbrev begun_carry : HeldPart
  begun_carry =
      begun_part old (carried old.box.opening old.box.cpu can.pass.cpu its)
      (carried_pass old.box can.pass)

  carry_here : mid ≡ begun_carry
  carry_here = begun_is ∙ with_one carried_box carried_pass old can.pass can.brought

  pub carry_sets_out : HasSetOut mid carry_walk
  carry_sets_out =
      subst (λ z. HasSetOut z carry_walk) (sym carry_here)
      (sets_out begun_carry kind stages.LockGroup (events_of its.bases).pin
      (events_of its.bases).next (λ z. true≢false (sym (ap is_waking z))) refl refl (refl, refl))

  carry_comes : ((k : Walk) → HasSetOut mid k → HasComeToEnd mid end k)
      → HasComeToEnd begun_carry end carry_walk
  carry_comes comes =
      subst (λ z. HasComeToEnd z end carry_walk) carry_here (comes carry_walk carry_sets_out)

  pub carry_finishes : ((k : Walk) → HasSetOut mid k → HasComeToEnd mid end k) → CanFinish end
  carry_finishes comes =
      let come = carry_comes comes in
      let of_kind : come.walk.kind ≡ kind =
      come.errand.kind
      ∙ first_kind (is_some (box_leaf_of old.box)) kind stages.LockGroup
      (events_of its.bases).pin (events_of its.bases).next in
      record {
        made = come.walk;
        walk = come.has;
        stage = come.stage;
        pass =
            subst (λ z. HasPassFor z end) (sym of_kind)
            (subst (HasPassFor kind) (sym (came old
            (carried old.box.opening old.box.cpu can.pass.cpu its)
            (carried_pass old.box can.pass) end carry_walk come))
            (carried_pass old.box can.pass, refl, refl));
      }

  carry_ends_with : ((k : Walk) → HasSetOut mid k → HasComeToEnd mid end k)
      → new ≡ ended end.box.own.walk end
      → HasWalked kind unmarked has_carried old new
  carry_ends_with comes is =
      let come = carry_comes comes in
      let has = is_some (box_leaf_of old.box) in
      let pin = (events_of its.bases).pin in
      let next = (events_of its.bases).next in
      let of_kind = first_kind has kind stages.LockGroup pin next in
      let tells = first_next has kind stages.LockGroup pin next in
      let told : come.walk.next ≡ next = come.errand.next ∙ tells in
      let free = sym can.free in
      let p = can.pass in
      let brought = sym can.brought in
      let box : BoxView = record old.box {
        own = record its { mark = None; walk = None };
        leaf = end.box.leaf;
        read = end.box.read;
        looked = end.box.looked;
      } in
      walked_so old end new carry_walk come.walk kind unmarked has_carried
      (record its { mark = None; walk = None })
      (record p {
        walks = suc p.walks;
        marks = marks_without old.box.cpu p.marks;
        did =
            p.did
            ++ record {
              held = length p.receipts;
              deed = deeds.Carried old.box.cpu come.walk.next;
            } ∷ [];
      } ∷ [])
      (ended_so old (carried old.box.opening old.box.cpu p.cpu its) (carried_pass old.box p) end
      new carry_walk kind come of_kind is)
      come.found of_kind tells come.leaf
      (λ i. record its { mark = None; walk = free i })
      ((λ i. record p {
        walks = suc p.walks;
        marks = marks_without old.box.cpu p.marks;
        did =
            p.did
            ++ record {
              held = length p.receipts;
              deed = deeds.Carried old.box.cpu (told i);
            } ∷ [];
      } ∷ []) ∙ ap (head_pass (has_carried box)) brought)

  pub carry_ends : ((k : Walk) → HasSetOut mid k → HasComeToEnd mid end k)
      → new ≡ ended end.box.own.walk end → HasCarried old new
  carry_ends comes is = λ p brought.
      subst (λ n. HasWalked (kinds.Remote (as_cpu n)) unmarked has_carried old new)
      (ap (cpu_in can.pass.cpu) (sym can.brought ∙ brought)) (carry_ends_with comes is)
    where
      cpu_in : ℕ → List PassView → ℕ
      cpu_in none [] = none
      cpu_in none (x ∷ xs) = x.cpu
