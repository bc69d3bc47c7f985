-- the steps of a CPU leave its part driven, from the call that brings its pass to the one that
-- parts it off
use Rattle.std.proofs.Common.{◌≡◌, ℕ, zero, suc, ◌+◌, ◌-◌, ◌^◌, ◌<◌, Bool, true, false, Option}
use Rattle.std.proofs.Common.{Some}
use Rattle.std.proofs.Common.{None, [], ◌∷◌, refl, sym, ap, ◌∙◌, subst}
use Rattle.std.proofs.lemmas.Option.{same_Some}
use Rattle.atomic_table.specs.Seated.{TableId}
use Rattle.walk_rules.specs.declared.walk.Walk.{Walk}
use Rattle.walk_rules.specs.declared.walk.WalkKind.TheVariants as kinds
use Rattle.walk_rules.specs.declared.walk.Stage.{Stage}
use Rattle.walk_rules.specs.declared.walk.Stage.TheVariants as stages
use Rattle.core_world.specs.Enabled.{first_event}
use Rattle.core_world.specs.World.{CpuRecord, World}
use Rattle.idle_wakeup.specs.shared_rule.declared.parts.BoxView.{BoxView}
use Rattle.idle_wakeup.specs.shared_rule.declared.parts.PassView.{PassView}
use Rattle.idle_wakeup.specs.shared_rule.Rule.{Each, renewed, with_journal}
use Rattle.idle_wakeup.specs.shared_rule.Plays.{Agree, by_walk, child_freed_walk, child_locked_walk}
use Rattle.idle_wakeup.specs.shared_rule.Plays.{child_read_walk, child_sight, group_freed_walk}
use Rattle.idle_wakeup.specs.shared_rule.Plays.{head_pass}
use Rattle.idle_wakeup.specs.shared_rule.Plays.{locked_walk, marked_walk, own_marked_box, risen_box}
use Rattle.idle_wakeup.specs.shared_rule.Plays.{own_read_walk, read_walk, reading, scan_sight}
use Rattle.idle_wakeup.specs.shared_rule.Plays.{stored_box}
use Rattle.idle_wakeup.specs.shared_rule.Plays.{swap_box, taken_lock, trying, woken_box, woken_pass}
use Rattle.idle_wakeup.specs.shared_rule.Turns.{finish_of, finished_box, idled_box, idled_pass}
use Rattle.idle_wakeup.specs.shared_rule.Turns.{rested_pass}
use Rattle.idle_wakeup.specs.shared_rule.Parts.{HasGuest, HeldPart, pass_parted, with_guest}
use Rattle.idle_wakeup.specs.shared_rule.Parts.{without_guest}
use Rattle.idle_wakeup.specs.shared_rule.Passes.{HeldPass, IsPassIn, Seated, passes_of, seated_of}
use Rattle.idle_wakeup.specs.shared_cpus.Conditions.{CanIdle, CanWake}
use Rattle.idle_wakeup.specs.shared_cpus.Pairs.{HasOwn, box_by, by_pair, of_box}
use Rattle.shared_rows.specs.shared_table.Begun.{IsFree}
use Rattle.shared_rows.specs.shared_table.Ended.{IsPassAt}
use Rattle.shared_rows.specs.shared_table.Readied.{HasNoneBehind}
use Rattle.idle_wakeup.specs.shared_walks.Steps.{LockTried, group_seen, lock_place, on_part}
use Rattle.idle_wakeup.specs.shared_walks.Steps.{state_place}
use Rattle.idle_wakeup.specs.shared_walks.Steps.{top_seen}
use Rattle.idle_wakeup.specs.shared_walks.Walks.{HasReadChild, StepOf}
use Rattle.shared_rows.specs.Looks.{StaysAt}
use Rattle.walk_rows.specs.Driven.{DrivenOn, IsDriven}
use Rattle.walk_rows.specs.Standing.{IsOneOf}

-- a change of a box that leaves its CPU, whether that is inside an interrupt, and its bases
record Spares (f : BoxView → BoxView) : Type 0 where
  cpus : (b : BoxView) → (f b).cpu ≡ b.cpu
  insides : (b : BoxView) → (f b).own.inside ≡ b.own.inside
  bases : (b : BoxView) → (f b).own.bases ≡ b.own.bases

-- a change of a pass that leaves its CPU, and whether that is inside an interrupt
record SparesPass (h : BoxView → PassView → PassView) : Type 0 where
  cpus : (b : BoxView) (p : PassView) → (h b p).cpu ≡ p.cpu
  insides : (b : BoxView) (p : PassView) → (h b p).inside ≡ p.inside

-- a part whose box has changed
changed : (f : BoxView → BoxView) → Spares f → (old new : HeldPart) → new ≡ on_part f old
    → DrivenOn old new
changed f spares old new is cpu d =
    let now : IsDriven cpu (on_part f old) = record {
      pass = d.pass;
      brought = d.brought;
      own = d.own;
      left_out = d.left_out;
      here = spares.cpus old.box ∙ d.here;
      outside = spares.insides old.box ∙ d.outside;
      whole = subst HasNoneBehind (sym (spares.bases old.box)) d.whole;
    } in
    subst (IsDriven cpu) (sym is) now

-- a walk that goes on spares all that
walks : (g : BoxView → Walk → Option Walk) → Spares (by_walk g)
walks g = record { cpus = λ b. refl; insides = λ b. refl; bases = λ b. refl }

walked : (g : BoxView → Walk → Option Walk) (old new : HeldPart) → new ≡ on_part (by_walk g) old
    → DrivenOn old new
walked g = changed (by_walk g) (walks g)

locks : (o : World) (g : BoxView → Walk → Option Walk) (level : ℕ) (made : Bool)
    (old new : HeldPart) → LockTried o g level made old new → DrivenOn old new
locks o g level true old new s =
    changed (taken_lock g)
    (record { cpus = λ b. refl; insides = λ b. refl; bases = λ b. refl }) old new s
locks o g level false old new s =
    changed (trying (lock_place o old.box.cpu level) s.found)
    (record { cpus = λ b. refl; insides = λ b. refl; bases = λ b. refl }) old new s.box

swaps : (made : Bool) (found : ℕ) → Spares (swap_box made found)
swaps true found = record { cpus = λ b. refl; insides = λ b. refl; bases = λ b. refl }
swaps false found = record { cpus = λ b. refl; insides = λ b. refl; bases = λ b. refl }

child_driven : (level : ℕ) (old new : HeldPart) → HasReadChild level old new → DrivenOn old new
child_driven zero old new is = walked own_read_walk old new is
child_driven (suc l) old new s = walked (child_read_walk s.0) old new s.1

-- A STEP of a walk
pub step_driven : (o : World) (k : Walk) (at : Stage) (made : Bool) (old new : HeldPart)
    → StepOf o k at made old new → DrivenOn old new
step_driven o k stages.Own made old new s =
    changed own_marked_box
    (record { cpus = λ b. refl; insides = λ b. refl; bases = λ b. refl }) old new s.1
step_driven o k stages.Up true old new s =
    changed (risen_box s.0)
    (record { cpus = λ b. refl; insides = λ b. refl; bases = λ b. refl }) old new s.1
step_driven o k stages.Up false old new s =
    let place = state_place o old.box.cpu k.level in
    changed (λ b. trying place s.found (trying place s.loaded b))
    (record { cpus = λ b. refl; insides = λ b. refl; bases = λ b. refl }) old new s.box
step_driven o k (stages.Mark more) made old new s = walked marked_walk old new s.1
step_driven o k stages.Read made old new s =
    changed (λ b. reading s.1.0 (by_walk read_walk b))
    (record { cpus = λ b. refl; insides = λ b. refl; bases = λ b. refl }) old new s.1.1
step_driven o k stages.Child made old new s = child_driven k.level old new s.1
step_driven o k stages.Swap made old new s =
    changed (swap_box s.1 s.2.found) (swaps s.1 s.2.found) old new s.2.box
step_driven o k stages.LockChild made old new s =
    locks o child_locked_walk (k.level - 1) made old new s
step_driven o k stages.LockGroup made old new s = locks o locked_walk k.level made old new s
step_driven o k stages.SeeChild made old new s = walked (child_sight s.1.0) old new s.1.1
step_driven o k stages.SeeGroup made old new s =
    changed (group_seen o k s.1.0)
    (record { cpus = λ b. refl; insides = λ b. refl; bases = λ b. refl }) old new s.1.1
step_driven o k (stages.Scan j) made old new s = walked (scan_sight s.1.0) old new s.1.1
step_driven o k stages.Store made old new s =
    changed stored_box (record { cpus = λ b. refl; insides = λ b. refl; bases = λ b. refl }) old
    new s.1
step_driven o k (stages.First j) made old new s =
    changed (top_seen o k j s.1.0)
    (record { cpus = λ b. refl; insides = λ b. refl; bases = λ b. refl }) old new s.1.1
step_driven o k stages.FreeGroup made old new s = walked group_freed_walk old new s.1
step_driven o k stages.FreeChild made old new s = walked child_freed_walk old new s.1
step_driven o k stages.Finish made old new s = absurd s
step_driven o k stages.Handing made old new s = absurd s

-- box and pass have changed
paired : (f : BoxView → BoxView) (h : BoxView → PassView → PassView) → Spares f → SparesPass h
    → (old new : HeldPart) → new ≡ by_pair (of_box f) h old → DrivenOn old new
paired f h spares passes old new is cpu d =
    let after : HeldPart = record old { box = f old.box; brought = h old.box d.pass ∷ [] } in
    let to : by_pair (of_box f) h old ≡ after = λ i. record old {
      box = box_by (of_box f) old.box (d.brought i);
      brought = head_pass (h old.box) (d.brought i);
    } in
    let now : IsDriven cpu after = record {
      pass = h old.box d.pass;
      brought = refl;
      own = passes.cpus old.box d.pass ∙ d.own;
      left_out = passes.insides old.box d.pass ∙ d.left_out;
      here = spares.cpus old.box ∙ d.here;
      outside = spares.insides old.box ∙ d.outside;
      whole = subst HasNoneBehind (sym (spares.bases old.box)) d.whole;
    } in
    subst (IsDriven cpu) (sym (is ∙ to)) now

pub idle_driven : (old new : HeldPart) → new ≡ by_pair (of_box idled_box) idled_pass old
    → DrivenOn old new
idle_driven =
    paired idled_box idled_pass
    (record { cpus = λ b. refl; insides = λ b. refl; bases = λ b. refl })
    (record { cpus = λ b p. refl; insides = λ b p. refl })

pub wake_driven : (old new : HeldPart) → new ≡ by_pair (of_box woken_box) woken_pass old
    → DrivenOn old new
wake_driven =
    paired woken_box woken_pass
    (record { cpus = λ b. refl; insides = λ b. refl; bases = λ b. refl })
    (record { cpus = λ b p. refl; insides = λ b p. refl })

ended_inside : (y : CpuRecord) (m : Option Walk)
    → (finish_of kinds.Deactivate y m).inside ≡ y.inside
ended_inside y None = refl
ended_inside y (Some k) = refl

ended_bases : (y : CpuRecord) (m : Option Walk)
    → (finish_of kinds.Deactivate y m).bases ≡ y.bases
ended_bases y None = refl
ended_bases y (Some k) = refl

pub rest_driven : (old new : HeldPart)
    → new ≡ by_pair (of_box (finished_box kinds.Deactivate)) rested_pass old → DrivenOn old new
rest_driven =
    paired (finished_box kinds.Deactivate) rested_pass
    (record {
      cpus = λ b. refl;
      insides = λ b. ended_inside b.own b.own.walk;
      bases = λ b. ended_bases b.own b.own.walk;
    })
    (record { cpus = λ b p. refl; insides = λ b p. refl })

-- WHERE A STEP MAY BE MADE
module _ (cpu : ℕ) (part : HeldPart) (d : IsDriven cpu part) where
  pub has_own : HasOwn part
  has_own = (d.pass, d.brought, d.own ∙ sym d.here)

  pub guest : (n : ℕ) → n ≡ cpu → HasGuest n part
  guest n is = (d.pass, d.brought, d.own ∙ sym is)

  module _ (free : part.box.own.walk ≡ None) (online : part.box.own.online ≡ true)
      (left : (p : PassView) → part.brought ≡ p ∷ [] → suc p.walks < 2 ^ 32) where
    pub can_wake : part.box.own.idle ≡ true → CanWake part
    can_wake idle = record {
      pass = d.pass;
      turn = record {
        brought = d.brought;
        own = d.own ∙ sym d.here;
        free = free;
        online = online;
      };
      idle = idle;
      left = left d.pass d.brought;
    }

    pub can_idle : part.box.own.idle ≡ false
        → part.box.opening.clock + 1 < first_event part.box.own.bases → CanIdle part
    can_idle awake rests = record {
      pass = d.pass;
      turn = record {
        brought = d.brought;
        own = d.own ∙ sym d.here;
        free = free;
        online = online;
      };
      awake = awake;
      outside = d.outside;
      rests = rests;
      left = left d.pass d.brought;
    }

  -- AT THE END its walk is over, and the pass goes
  pub parted : (table : TableId) (n : ℕ) → IsPassAt table cpu (pass_parted table n part)
  parted table n = record {
    part = with_journal part.box d.pass;
    seated = λ i. seated_of table (renewed (part.box ∷ []) (d.brought i));
    cpu = d.own;
    outside = d.left_out;
  }

  pub is_free : part.box.own.walk ≡ None → IsFree (without_guest part)
  is_free over = record { walkless = over; alone = refl; whole = d.whole }

-- AT THE BEGINNING its own pass is brought
pub begins : (table : TableId) (part : HeldPart) (held : HeldPass)
    → IsPassAt table part.box.cpu held → IsFree part → Each (Agree part.box) (passes_of held.seated)
    → IsDriven part.box.cpu (with_guest part held)
begins table part held at free agrees =
    let brought : passes_of held.seated ≡ at.part ∷ [] = ap passes_of at.seated in
    let agree : Agree part.box at.part = (subst (Each (Agree part.box)) brought agrees).0 in
    record {
      pass = at.part;
      brought = brought;
      own = at.cpu;
      left_out = at.outside;
      here = refl;
      outside = sym (agree.inside at.cpu) ∙ at.outside;
      whole = free.whole;
    }

-- whatever CPU's part it is
pub at_home : (cpu : ℕ) (part : HeldPart) → IsDriven cpu part → IsDriven part.box.cpu part
at_home cpu part d = subst (λ n. IsDriven n part) (sym d.here) d

-- and so it is once the call has brought it
pub brought_in : (table : TableId) (part new : HeldPart) (held : HeldPass) (n : ℕ)
    → part.box.cpu ≡ n → IsPassAt table n held → IsFree part → new ≡ with_guest part held
    → Each (Agree new.box) new.brought → IsDriven n new
brought_in table part new held n cpu at free is agrees =
    let first : IsDriven part.box.cpu (with_guest part held) =
    begins table part held (subst (λ k. IsPassAt table k held) (sym cpu) at) free
    (subst (λ (z : HeldPart). Each (Agree z.box) z.brought) is agrees) in
    subst (IsDriven n) (sym is) (subst (λ k. IsDriven k (with_guest part held)) cpu first)

-- THE PASS of a CPU of the run
pub at_own : (table : TableId) (o : World) (held : HeldPass) → IsOneOf table o held
    → ((p : PassView) → IsPassIn table held p → p.cpu ≡ held.cpu) → IsPassAt table held.cpu held
at_own table o held one own = record {
  part = one.at.part;
  seated = one.at.seated;
  cpu = own one.at.part one.at.seated;
  outside = one.at.outside;
}

-- is that CPU's still
pub stays_at : (table : TableId) (cpu : ℕ) (old new : HeldPass) → IsPassAt table cpu old
    → IsPassAt table cpu new → StaysAt table old new
stays_at table cpu old new was is k at =
    let one = same_Some (record { table = table; pass = was.part })
    (record { table = table; pass = at.part }) (sym was.seated ∙ at.seated) in
    let same : cpu ≡ k = sym was.cpu ∙ ap (λ (x : Seated). x.pass.cpu) one ∙ at.cpu in
    subst (λ n. IsPassAt table n new) same is
