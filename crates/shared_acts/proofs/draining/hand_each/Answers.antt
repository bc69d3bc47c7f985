use Rattle.std.proofs.Common.{◌≡◌, ◌∷◌, ◌++◌, [], List, rules, arith, subst, sym}
use Rattle.std.specs.Prelude.{vec_capacity}
use Rattle.wheel_core.specs.declared.item.Item.{Item}
use Rattle.shared_acts.proofs.Handing.{HandsSoFar, all_out, goes_on, none_so_far, one_more}
use Rattle.shared_acts.proofs.draining.hand_each.Goals as goal

pub loop-item-init : goal.loop-item-init
loop-item-init g c =
    let o = g.N.RunName.opening in
    let part = c.args.part.now in
    let may = c.requires.may in
    record {
      so_far = subst (λ (xs : List Item). HandsSoFar o c.args.class part part xs)
          (sym c.requires.none) (none_so_far o c.args.class part may.pass may.brought);
      places = omega arith;
    }

pub hand_one-requires-clause-may : goal.hand_one-requires-clause-may
hand_one-requires-clause-may g c =
    goes_on g.N.RunName.opening c.args.class c.args.part.now c.loop-item.part
    c.loop-item.items.items c.loop-item.invariant.so_far (vec_capacity c.args.items.now)
    c.requires.may

pub loop-item-preserved : goal.loop-item-preserved
loop-item-preserved g c =
    let pushed : c.push.new.self.items ≡ c.loop-item.items.items ++ c.in-Some.item ∷ [] =
    search rules in
    let was = c.loop-item.invariant.places in
    let grown = c.push.ensures.capacity in
    record {
      so_far = one_more g.N.RunName.opening c.args.class c.args.part.now c.loop-item.part
          c.hand_one.new.part c.loop-item.items.items c.push.new.self.items c.in-Some.item
          c.loop-item.invariant.so_far c.in-Some.ensures pushed;
      places = omega (arith, was, grown);
    }

pub returns : goal.returns
returns g c p was =
    all_out g.N.RunName.opening c.args.class c.args.part.now c.loop-item.part c.hand_one.new.part
    c.loop-item.items.items p c.loop-item.invariant.so_far c.in_default.ensures was
