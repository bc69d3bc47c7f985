-- a pass that is brought for a whole walk, and goes off again
use Rattle.std.proofs.Common.{◌≡◌, suc, ◌+◌, ◌<◌, ◌^◌, true, false, [], ◌∷◌, Some}
use Rattle.std.proofs.Common.{refl, sym, ap, ◌∙◌, subst, cond, eqb, eq-eqb}
use Rattle.std.specs.Prelude.{option_map}
use Rattle.atomic_table.specs.Seated.{TableId}
use Rattle.walk_rules.specs.declared.walk.WalkKind.TheVariants as kinds
use Rattle.core_world.specs.Enabled.{first_event}
use Rattle.shared_cpus.specs.shared_rule.declared.parts.PassView.{PassView}
use Rattle.shared_cpus.specs.shared_rule.Plays.{head_pass}
use Rattle.shared_cpus.specs.shared_rule.Rule.{renewed}
use Rattle.shared_cpus.specs.shared_rule.Parts.{HasGuest, HeldPart, pass_parted, with_guest}
use Rattle.shared_cpus.specs.shared_rule.Parts.{without_guest}
use Rattle.shared_cpus.specs.shared_rule.Passes.{HeldPass, IsPassIn, Seated, passes_of, seated_of}
use Rattle.shared_cpus.specs.shared_rule.Passes.{walks_of}
use Rattle.shared_cpus.specs.shared_rule.Passes.{with_pass}
use Rattle.shared_cpus.specs.Conditions.{CanIdle}
use Rattle.shared_table.specs.Begun.{IsFree}
use Rattle.shared_table.specs.Readied.{HasNoneBehind}
use Rattle.walk_inactive.specs.Ends.{HasWalked, pass_at_rest, gone_idle, pass_rested}

module _ (table : TableId) (part : HeldPart) (pass : HeldPass) (p : PassView)
    (here : IsPassIn table pass p) (own : p.cpu ≡ part.box.cpu) where
  -- the CPU can go idle with it
  pub can_idle : IsFree part → part.box.own.online ≡ true → part.box.own.idle ≡ false
      → part.box.own.inside ≡ false
      → part.box.opening.clock + 1 < first_event part.box.own.bases
      → suc (walks_of pass.seated) < 2 ^ 32 → CanIdle (with_guest part pass)
  can_idle free online awake outside rests left = record {
    pass = p;
    turn = record {
      brought = ap passes_of here;
      own = own;
      free = free.walkless;
      online = online;
    };
    awake = awake;
    outside = outside;
    rests = rests;
    left = subst (λ s. suc (walks_of s) < 2 ^ 32) here left;
  }

  -- and has gone idle with it
  module _ (new : HeldPart)
      (walked : HasWalked kinds.Deactivate gone_idle pass_at_rest (with_guest part pass) new) where
    brought : new.brought ≡ pass_at_rest new.box p ∷ []
    brought =
        ap (λ z. z.brought) walked.rest
        ∙ ap (λ s. head_pass (pass_at_rest new.box) (passes_of s)) here

    pub has_guest : pass.cpu ≡ part.box.cpu → HasGuest pass.cpu new
    has_guest cpu = (pass_at_rest new.box p, brought, own ∙ sym cpu)

    pub is_free : IsFree part → IsFree (without_guest new)
    is_free free = record {
      walkless = ap (λ b. b.own.walk) walked.told.box ∙ free.walkless;
      alone = refl;
      whole =
          subst HasNoneBehind (sym (ap (λ b. b.own.bases) walked.told.box)) free.whole;
    }

    pub parted : pass_parted table pass.cpu new ≡ with_pass (pass_rested new.box) pass
    parted =
        (λ i. record {
          cpu = pass.cpu;
          room = (walked.rest i).receipts_room;
          seated = seated_of table (renewed (new.box ∷ []) (brought i));
        })
        ∙ (λ i. record {
          cpu = pass.cpu;
          room = pass.room;
          seated = Some (record {
            table = table;
            pass = record (pass_at_rest new.box p) {
              journal = cond (mine i) new.box.own.bases.journal p.journal;
            };
          });
        })
        ∙ (λ i. record pass {
          seated =
              option_map (λ (s : Seated). record s { pass = pass_rested new.box s.pass }) (sym here i);
        })
      where
        mine : eqb p.cpu new.box.cpu ≡ true
        mine = eq-eqb p.cpu new.box.cpu (own ∙ sym (ap (λ b. b.cpu) walked.told.box))
