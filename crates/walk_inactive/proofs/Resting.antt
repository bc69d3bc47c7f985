-- a whole walk: as it begins, and as it ends
use Rattle.std.proofs.Common.{◌≡◌, ◌≢◌, ℕ, suc, Bool, true, false, [], ◌∷◌, Option, Some, None}
use Rattle.std.proofs.Common.{refl, sym, ap, ◌∙◌, subst, min, true≢false}
use Rattle.std.specs.Prelude.{is_some}
use Rattle.tm_base.specs.declared.names.TheConstants.{NEVER}
use Rattle.event_queue.specs.declared.event.Event.{Event}
use Rattle.cpu_bases.specs.CpuBases.{events_of}
use Rattle.walk_rules.specs.declared.walk.Walk.{Walk}
use Rattle.walk_rules.specs.declared.walk.WalkKind.{WalkKind}
use Rattle.walk_rules.specs.declared.walk.WalkKind.TheVariants as kinds
use Rattle.walk_rules.specs.declared.walk.Stage.{Stage}
use Rattle.walk_rules.specs.declared.walk.Stage.TheVariants as stages
use Rattle.walk_rules.specs.Stages.{started}
use Rattle.walk_rules.specs.Standing.{Tells, is_leaving}
use Rattle.walk_rules.specs.Stages.{begun_where}
use Rattle.core_world.specs.World.{CpuRecord}
use Rattle.shared_cpus.specs.shared_rule.declared.parts.BoxView.{BoxView}
use Rattle.shared_cpus.specs.shared_rule.declared.parts.Looked.{Looked}
use Rattle.shared_cpus.specs.shared_rule.Whole.{no_looks}
use Rattle.shared_cpus.specs.shared_rule.declared.parts.PassView.{PassView}
use Rattle.shared_cpus.specs.shared_rule.Plays.{head_pass}
use Rattle.shared_cpus.specs.shared_rule.Turns.{idled, idled_box, idled_pass}
use Rattle.shared_cpus.specs.shared_rule.Parts.{HeldPart}
use Rattle.shared_cpus.specs.Conditions.{CanFinish, CanIdle, HasPassFor}
use Rattle.shared_cpus.specs.Pairs.{HasOwn, box_by, by_pair, of_box}
use Rattle.shared_cpus.specs.Steps.{ended, ended_as}
use Rattle.shared_walks.specs.Steps.{on_part}
use Rattle.walk_inactive.specs.Ends.{HasWalked, pass_at_rest, gone_idle, box_leaf_of, next_of}
use Rattle.walk_inactive.specs.Ends.{told_leaf}
use Rattle.walk_inactive.specs.Frames.{box_with}
use Rattle.walk_inactive.specs.Looks.{FindsFirst}
use Rattle.walk_inactive.specs.Ways.{HasComeToEnd, HasSetOut, LooksAt}

-- the walk that begins, with a group or without
abbrev pub first_walk : Bool → WalkKind → Stage → (pin next : ℕ) → Walk
first_walk true kind stage pin next = started kind stage pin next NEVER
first_walk false kind stage pin next = started kind stages.Finish pin next next

-- a walk that tells begins so
pub begun_as : (has : Bool) (kind : WalkKind) (stage : Stage) (pin next : ℕ) → Tells kind
    → begun_where has kind stage pin next ≡ Some (first_walk has kind stage pin next)
begun_as true kind stage pin next tells = refl
begun_as false kinds.Activate stage pin next tells = absurd (tells refl)
begun_as false kinds.Deactivate stage pin next tells = refl
begun_as false kinds.Offline stage pin next tells = refl
begun_as false kinds.Reeval stage pin next tells = refl
begun_as false (kinds.Remote by) stage pin next tells = refl

-- it is of its kind, and for what its CPU's timers say
pub first_kind : (has : Bool) (kind : WalkKind) (stage : Stage) (pin next : ℕ)
    → (first_walk has kind stage pin next).kind ≡ kind
first_kind true kind stage pin next = refl
first_kind false kind stage pin next = refl

pub first_pin : (has : Bool) (kind : WalkKind) (stage : Stage) (pin next : ℕ)
    → (first_walk has kind stage pin next).pin ≡ pin
first_pin true kind stage pin next = refl
first_pin false kind stage pin next = refl

pub first_next : (has : Bool) (kind : WalkKind) (stage : Stage) (pin next : ℕ)
    → (first_walk has kind stage pin next).next ≡ next
first_next true kind stage pin next = refl
first_next false kind stage pin next = refl

-- a part as a walk begins there: its CPU is this, with this pass
abbrev pub begun_part : HeldPart → CpuRecord → PassView → HeldPart
begun_part part y p =
    record part { box = record part.box { own = y; looked = no_looks }; brought = p ∷ [] }

-- a part whose one pass has changed with it
pub with_one : (f : BoxView → PassView → BoxView) (h : BoxView → PassView → PassView)
    (part : HeldPart) (p : PassView) → part.brought ≡ p ∷ []
    → by_pair f h part ≡ record part { box = f part.box p; brought = h part.box p ∷ [] }
with_one f h part p brought =
    λ i. record part {
      box = box_by f part.box (brought i);
      brought = head_pass (h part.box) (brought i);
    }

-- the walk that begins in a part, and sets out
module _ (part : HeldPart) (kind : WalkKind) (stage : Stage) (pin next : ℕ) where
  -- the walk
  abbrev pub begins : Walk
  begins = first_walk (is_some (box_leaf_of part.box)) kind stage pin next

  pub sets_out : Tells kind
      → part.box.own.walk ≡ begun_where (is_some (box_leaf_of part.box)) kind stage pin next
      → part.box.looked ≡ no_looks
      → LooksAt part.box.opening part.box.cpu (started kind stage pin next NEVER) [] stage
      → HasSetOut part begins
  sets_out tells is none looks = record {
    walk = is ∙ begun_as (is_some (box_leaf_of part.box)) kind stage pin next tells;
    tells = subst Tells (sym (first_kind (is_some (box_leaf_of part.box)) kind stage pin next)) tells;
    none = none;
    looks = λ group.
        subst (λ m. LooksAt part.box.opening part.box.cpu (first_walk (is_some m) kind stage pin next)
        [] (first_walk (is_some m) kind stage pin next).stage) (sym group.1) looks;
  }

-- a part whose walk has come to its end
abbrev pub come_part : HeldPart → CpuRecord → PassView → Walk → Option Event → (read : ℕ)
    → Looked → HeldPart
come_part part y p w leaf read looked =
    on_part (λ b. box_with b (Some w) leaf read looked) (begun_part part y p)

-- so it is where its walk ends
pub came : (part : HeldPart) (y : CpuRecord) (p : PassView) (end : HeldPart) (k : Walk)
    (come : HasComeToEnd (begun_part part y p) end k)
    → end ≡ come_part part y p come.walk end.box.leaf end.box.read end.box.looked
came part y p end k come =
    come.rest
    ∙ (λ i. on_part (λ b. box_with b (come.has i) end.box.leaf end.box.read end.box.looked)
    (begun_part part y p))

-- and so after that, by the kind of the walk
pub ended_so : (part : HeldPart) (y : CpuRecord) (p : PassView) (end new : HeldPart) (k : Walk)
    (kind : WalkKind) (come : HasComeToEnd (begun_part part y p) end k) → k.kind ≡ kind
    → new ≡ ended end.box.own.walk end
    → new
    ≡ ended_as kind (come_part part y p come.walk end.box.leaf end.box.read end.box.looked)
ended_so part y p end new k kind come of_kind is =
    let there = came part y p end k come in
    let same : come.walk.kind ≡ kind = come.errand.kind ∙ of_kind in
    is ∙ (λ i. ended (there i).box.own.walk (there i))
    ∙ (λ i. ended_as (same i)
    (come_part part y p come.walk end.box.leaf end.box.read end.box.looked))

-- A CPU HAS GONE IDLE
module _ (old : HeldPart) (p : PassView) (end new : HeldPart) (k : Walk)
    (come : HasComeToEnd (begun_part old (idled old.box.opening old.box.cpu old.box.own)
    (idled_pass old.box p)) end k) where
  abbrev own : CpuRecord
  own = old.box.own

  -- its part then
  abbrev rested_part : HeldPart
  rested_part = record old {
    box = record old.box {
      own = record own {
        idle = true;
        wakeup = min come.walk.pin come.walk.first;
        walk = None;
      };
      leaf = end.box.leaf;
      read = end.box.read;
      looked = end.box.looked;
    };
    brought =
        record p {
          walks = suc p.walks;
          idle = true;
          reeval = false;
          wakeup = min come.walk.pin come.walk.first;
        } ∷ [];
  }

  pub rests : old.brought ≡ p ∷ [] → own.walk ≡ None → k.kind ≡ kinds.Deactivate
      → k.pin ≡ (events_of own.bases).pin → k.next ≡ (events_of own.bases).next
      → new ≡ ended end.box.own.walk end
      → HasWalked kinds.Deactivate gone_idle pass_at_rest old new
  rests brought free of_kind pin next is = record {
    told = record {
      first = come.walk.first;
      found =
          subst (λ z. FindsFirst (box_leaf_of old.box) old.box.opening old.box.cpu kinds.Deactivate
          (next_of old.box) z come.walk.first) (sym (ap (λ z. z.box.looked.seen) final))
          (subst (λ z. FindsFirst (box_leaf_of old.box) old.box.opening old.box.cpu kinds.Deactivate z
          end.box.looked.seen come.walk.first) next
          (subst (λ z. FindsFirst (box_leaf_of old.box) old.box.opening old.box.cpu z k.next
          end.box.looked.seen come.walk.first) of_kind come.found));
      box =
          ap (λ z. z.box) final
          ∙ (λ i. record old.box {
            own = record own {
              idle = true;
              wakeup = min (pinned i) come.walk.first;
              walk = sym free i;
            };
            leaf = leaf i;
            read = (back i).box.read;
            looked = (back i).box.looked;
          });
    };
    rest =
        final
        ∙ (λ i. record old {
          box = (back i).box;
          brought =
              record p {
                walks = suc p.walks;
                idle = true;
                reeval = false;
                wakeup = (back i).box.own.wakeup;
              } ∷ [];
        })
        ∙ (λ i. record old {
          box = new.box;
          brought = head_pass (pass_at_rest new.box) (sym brought i);
        });
  }
    where
      final : new ≡ rested_part
      final =
          ended_so old (idled old.box.opening old.box.cpu own) (idled_pass old.box p) end new k
          kinds.Deactivate come of_kind is

      back : rested_part ≡ new
      back = sym final

      pinned : come.walk.pin ≡ (events_of own.bases).pin
      pinned = come.errand.pin ∙ pin

      leaf : end.box.leaf
          ≡ told_leaf (box_leaf_of old.box) old.box.cpu (next_of old.box) old.box.leaf
      leaf = come.leaf ∙ ap (λ n. told_leaf (box_leaf_of old.box) old.box.cpu n old.box.leaf) next

-- going idle isn't waking
idles : Tells kinds.Deactivate
idles z = true≢false (ap is_leaving z)

-- a part that goes idle with its own pass
module _ (old mid end new : HeldPart) (can : CanIdle old)
    (begun_is : mid ≡ by_pair (of_box idled_box) idled_pass old) where
  -- the walk by which it does
  abbrev pub idle_walk : Walk
  idle_walk =
      first_walk (is_some (box_leaf_of old.box)) kinds.Deactivate stages.Read
      (events_of old.box.own.bases).pin (events_of old.box.own.bases).next

  -- the part as that begins
  abbrev begun_idle : HeldPart
  begun_idle =
      begun_part old (idled old.box.opening old.box.cpu old.box.own) (idled_pass old.box can.pass)

  begun_here : mid ≡ begun_idle
  begun_here = begun_is ∙ with_one (of_box idled_box) idled_pass old can.pass can.turn.brought

  pub idle_sets_out : HasSetOut mid idle_walk
  idle_sets_out =
      subst (λ z. HasSetOut z idle_walk) (sym begun_here)
      (sets_out begun_idle kinds.Deactivate stages.Read (events_of old.box.own.bases).pin
      (events_of old.box.own.bases).next idles refl refl (refl, refl))

  idle_comes : ((k : Walk) → HasSetOut mid k → HasComeToEnd mid end k) → HasComeToEnd begun_idle end idle_walk
  idle_comes comes =
      subst (λ z. HasComeToEnd z end idle_walk) begun_here (comes idle_walk idle_sets_out)

  pub idle_finishes : ((k : Walk) → HasSetOut mid k → HasComeToEnd mid end k) → CanFinish end
  idle_finishes comes =
      let come = idle_comes comes in
      let kind : come.walk.kind ≡ kinds.Deactivate =
      come.errand.kind
      ∙ first_kind (is_some (box_leaf_of old.box)) kinds.Deactivate stages.Read
      (events_of old.box.own.bases).pin (events_of old.box.own.bases).next in
      record {
        made = come.walk;
        walk = come.has;
        stage = come.stage;
        pass =
            subst (λ z. HasPassFor z end) (sym kind)
            (subst HasOwn (sym (came old (idled old.box.opening old.box.cpu old.box.own)
            (idled_pass old.box can.pass) end idle_walk come))
            (idled_pass old.box can.pass, refl, can.turn.own));
      }

  pub idle_rests : ((k : Walk) → HasSetOut mid k → HasComeToEnd mid end k)
      → new ≡ ended end.box.own.walk end
      → HasWalked kinds.Deactivate gone_idle pass_at_rest old new
  idle_rests comes is =
      let has = is_some (box_leaf_of old.box) in
      let pin = (events_of old.box.own.bases).pin in
      let next = (events_of old.box.own.bases).next in
      rests old can.pass end new idle_walk (idle_comes comes) can.turn.brought can.turn.free
      (first_kind has kinds.Deactivate stages.Read pin next)
      (first_pin has kinds.Deactivate stages.Read pin next)
      (first_next has kinds.Deactivate stages.Read pin next) is
