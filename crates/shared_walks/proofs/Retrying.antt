-- a step that is tried until it is made: what the tries leave, and what it has made in the end
use Rattle.std.proofs.Common.{◌≡◌, ◌-◌, true, false, true≢false, List, [], ◌∷◌, ◌++◌, Some}
use Rattle.std.proofs.Common.{refl, sym, ap, ◌∙◌, subst}
use Rattle.walk_rules.specs.declared.walk.Walk.{Walk}
use Rattle.walk_rules.specs.declared.walk.Stage.{Stage}
use Rattle.walk_rules.specs.declared.walk.Stage.TheVariants as stages
use Rattle.core_world.specs.World.{World}
use Rattle.shared_rule.specs.declared.parts.BoxView.{BoxView}
use Rattle.shared_rule.specs.declared.parts.Look.{Look}
use Rattle.shared_rule.specs.Plays.{child_locked_walk, locked_walk, risen_box, taken_lock}
use Rattle.shared_rule.specs.Plays.{trying}
use Rattle.shared_rule.specs.Parts.{HeldPart}
use Rattle.shared_walks.specs.Steps.{lock_place, on_part, state_place}
use Rattle.shared_walks.specs.Walks.{GoesOn, HasStepped, StepOf}

-- a box that has found this as it tried
abbrev pub having_tried : List Look → BoxView → BoxView
having_tried found b = record b { looked = record b.looked { tried = found } }

-- what tries at this stage may leave of a part
abbrev pub TriedAt : Stage → (start now : HeldPart) → Type 0
TriedAt stages.Up start now = (found : List Look) × (now ≡ on_part (having_tried found) start)
TriedAt stages.LockChild start now =
    (found : List Look) × (now ≡ on_part (having_tried found) start)
TriedAt stages.LockGroup start now =
    (found : List Look) × (now ≡ on_part (having_tried found) start)
TriedAt other start now = now ≡ start

-- nothing was tried yet
pub begins : (at : Stage) (start : HeldPart) → TriedAt at start start
begins stages.Own start = refl
begins stages.Up start = (start.box.looked.tried, refl)
begins (stages.Mark more) start = refl
begins stages.Read start = refl
begins stages.Child start = refl
begins stages.Swap start = refl
begins stages.LockChild start = (start.box.looked.tried, refl)
begins stages.LockGroup start = (start.box.looked.tried, refl)
begins stages.SeeChild start = refl
begins stages.SeeGroup start = refl
begins (stages.Scan j) start = refl
begins stages.Store start = refl
begins (stages.First j) start = refl
begins stages.FreeGroup start = refl
begins stages.FreeChild start = refl
begins stages.Finish start = refl
begins stages.Handing start = refl

-- tries leave the walk where it stood
pub walk_kept : (at : Stage) (start now : HeldPart) → TriedAt at start now
    → now.box.own.walk ≡ start.box.own.walk
walk_kept stages.Own start now is = ap (λ (z : HeldPart). z.box.own.walk) is
walk_kept stages.Up start now t = ap (λ (z : HeldPart). z.box.own.walk) t.1
walk_kept (stages.Mark more) start now is = ap (λ (z : HeldPart). z.box.own.walk) is
walk_kept stages.Read start now is = ap (λ (z : HeldPart). z.box.own.walk) is
walk_kept stages.Child start now is = ap (λ (z : HeldPart). z.box.own.walk) is
walk_kept stages.Swap start now is = ap (λ (z : HeldPart). z.box.own.walk) is
walk_kept stages.LockChild start now t = ap (λ (z : HeldPart). z.box.own.walk) t.1
walk_kept stages.LockGroup start now t = ap (λ (z : HeldPart). z.box.own.walk) t.1
walk_kept stages.SeeChild start now is = ap (λ (z : HeldPart). z.box.own.walk) is
walk_kept stages.SeeGroup start now is = ap (λ (z : HeldPart). z.box.own.walk) is
walk_kept (stages.Scan j) start now is = ap (λ (z : HeldPart). z.box.own.walk) is
walk_kept stages.Store start now is = ap (λ (z : HeldPart). z.box.own.walk) is
walk_kept (stages.First j) start now is = ap (λ (z : HeldPart). z.box.own.walk) is
walk_kept stages.FreeGroup start now is = ap (λ (z : HeldPart). z.box.own.walk) is
walk_kept stages.FreeChild start now is = ap (λ (z : HeldPart). z.box.own.walk) is
walk_kept stages.Finish start now is = ap (λ (z : HeldPart). z.box.own.walk) is
walk_kept stages.Handing start now is = ap (λ (z : HeldPart). z.box.own.walk) is

-- one more try that failed
pub tried : (o : World) (k : Walk) (at : Stage) (start now new : HeldPart) → TriedAt at start now
    → StepOf o k at false now new → TriedAt at start new
tried o k stages.Own start now new t s = absurd (true≢false (sym s.0))
tried o k stages.Up start now new t s =
    let place = state_place o start.box.cpu k.level in (
      (t.0 ++ record { word = place; found = s.loaded } ∷ [])
          ++ record { word = place; found = s.found } ∷ [],
      s.box
          ∙ ap (on_part (λ b. trying (state_place o b.cpu k.level) s.found
          (trying (state_place o b.cpu k.level) s.loaded b))) t.1,
    )
tried o k (stages.Mark more) start now new t s = absurd (true≢false (sym s.0))
tried o k stages.Read start now new t s = absurd (true≢false (sym s.0))
tried o k stages.Child start now new t s = absurd (true≢false (sym s.0))
tried o k stages.Swap start now new t s = absurd (true≢false (sym s.0))
tried o k stages.LockChild start now new t s = (
  t.0 ++ record { word = lock_place o start.box.cpu (k.level - 1); found = s.found } ∷ [],
  s.box ∙ ap (on_part (λ b. trying (lock_place o b.cpu (k.level - 1)) s.found b)) t.1,
)
tried o k stages.LockGroup start now new t s = (
  t.0 ++ record { word = lock_place o start.box.cpu k.level; found = s.found } ∷ [],
  s.box ∙ ap (on_part (λ b. trying (lock_place o b.cpu k.level) s.found b)) t.1,
)
tried o k stages.SeeChild start now new t s = absurd (true≢false (sym s.0))
tried o k stages.SeeGroup start now new t s = absurd (true≢false (sym s.0))
tried o k (stages.Scan j) start now new t s = absurd (true≢false (sym s.0))
tried o k stages.Store start now new t s = absurd (true≢false (sym s.0))
tried o k (stages.First j) start now new t s = absurd (true≢false (sym s.0))
tried o k stages.FreeGroup start now new t s = absurd (true≢false (sym s.0))
tried o k stages.FreeChild start now new t s = absurd (true≢false (sym s.0))
tried o k stages.Finish start now new t s = absurd s
tried o k stages.Handing start now new t s = absurd s

-- and the one that was made
pub made_of : (o : World) (k : Walk) (at : Stage) (start now new : HeldPart)
    → TriedAt at start now → StepOf o k at true now new → StepOf o k at true start new
made_of o k stages.Own start now new is s = subst (λ z. StepOf o k stages.Own true z new) is s
made_of o k stages.Up start now new t s =
    (s.0, s.1 ∙ ap (on_part (risen_box s.0)) t.1)
made_of o k (stages.Mark more) start now new is s =
    subst (λ z. StepOf o k (stages.Mark more) true z new) is s
made_of o k stages.Read start now new is s = subst (λ z. StepOf o k stages.Read true z new) is s
made_of o k stages.Child start now new is s = subst (λ z. StepOf o k stages.Child true z new) is s
made_of o k stages.Swap start now new is s = subst (λ z. StepOf o k stages.Swap true z new) is s
made_of o k stages.LockChild start now new t s =
    s ∙ ap (on_part (taken_lock child_locked_walk)) t.1
made_of o k stages.LockGroup start now new t s =
    s ∙ ap (on_part (taken_lock locked_walk)) t.1
made_of o k stages.SeeChild start now new is s =
    subst (λ z. StepOf o k stages.SeeChild true z new) is s
made_of o k stages.SeeGroup start now new is s =
    subst (λ z. StepOf o k stages.SeeGroup true z new) is s
made_of o k (stages.Scan j) start now new is s =
    subst (λ z. StepOf o k (stages.Scan j) true z new) is s
made_of o k stages.Store start now new is s = subst (λ z. StepOf o k stages.Store true z new) is s
made_of o k (stages.First j) start now new is s =
    subst (λ z. StepOf o k (stages.First j) true z new) is s
made_of o k stages.FreeGroup start now new is s =
    subst (λ z. StepOf o k stages.FreeGroup true z new) is s
made_of o k stages.FreeChild start now new is s =
    subst (λ z. StepOf o k stages.FreeChild true z new) is s
made_of o k stages.Finish start now new is s = absurd s
made_of o k stages.Handing start now new is s = absurd s

-- a part after tries of the step of its walk
abbrev pub HasTried : (start now : HeldPart) → Type 0
HasTried start now = (k : Walk) → start.box.own.walk ≡ Some k → TriedAt k.stage start now

-- its walk goes on as it did
pub still_goes : (start now : HeldPart) → GoesOn start → HasTried start now → GoesOn now
still_goes start now on t = record {
  walk = on.walk;
  has = walk_kept on.walk.stage start now (t on.walk on.has) ∙ on.has;
  stage = on.stage;
}

-- one more try that failed
pub tried_more : (o : World) (start now new : HeldPart) → HasTried start now
    → HasStepped o false now new → HasTried start new
tried_more o start now new t s k has =
    tried o k k.stage start now new (t k has)
    (s k (walk_kept k.stage start now (t k has) ∙ has))

-- and the one that was made
pub made_in_the_end : (o : World) (start now new : HeldPart) → HasTried start now
    → HasStepped o true now new → HasStepped o true start new
made_in_the_end o start now new t s k has =
    made_of o k k.stage start now new (t k has)
    (s k (walk_kept k.stage start now (t k has) ∙ has))
