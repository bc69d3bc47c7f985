use Rattle.std.proofs.Common.{◌≡◌, ◌∷◌, [], Option, None, refl, sym, ap, ◌∙◌, subst, arith, false}
use mathlib.Core.Option.{none}
use Rattle.atomic_table.specs.Table.{step}
use Rattle.walk_rules.specs.declared.walk.Walk.{Walk}
use Rattle.walk_rules.specs.declared.walk.WalkKind.TheVariants as kinds
use Rattle.shared_rule.specs.Whole.{own_word}
use Rattle.core_world.specs.World.{World}
use Rattle.shared_rule.specs.Plays as plays
use Rattle.shared_rule.specs.Turns as turns
use Rattle.shared_rule.specs.Rule.{seat_of}
use Rattle.shared_rule.specs.Whole.{cpu_at}
use Rattle.shared_rule.specs.Parts.{HeldPart, Hosts, box_held, guest_room, looked_of}
use Rattle.shared_rule.proofs.Calls.{asks}
use Rattle.shared_cpus.specs.Conditions.{EndsAs}
use Rattle.shared_cpus.specs.Pairs.{HasOwn, by_pair, of_box}
use Rattle.shared_cpus.proofs.Guesting.{same_hosts}
use Rattle.shared_cpus.proofs.Turned.{keeps, shows}
use Rattle.shared_cpus.proofs.ending.reevaluated_step.Goals as goal

pub store-requires : goal.store-requires
store-requires g c =
    let run = c.args.run.now in
    let table = run.words.shared.table_id in
    let part = c.part.inside in
    let o : World = g.N.RunName.opening in
    let b = box_held o part.cpu.0 part.status part.bases.plain part.leaf part.read
    (looked_of part.seat.me.0.boxes) in
    let own = subst HasOwn (sym c.part.view_is) c.requires.own in
    let can = subst (λ (z : HeldPart). EndsAs z c.args.walk kinds.Reeval)
    (sym c.part.view_is) c.requires.ends in
    let p = own.0 in
    let me : part.seat.me ≡ seat_of (b ∷ []) (p ∷ []) =
    c.part.invariant.seat ∙ ap (seat_of (b ∷ [])) own.1 in
    let new = c.status_word-word.result in
    asks g.N.RunName.table o table run.words.shared.key.core run.tree run.layout run.fits
    part.seat.table_id part.seat.id c.index-place.result part.seat.me b (p ∷ []) (cpu_at b.cpu)
    (λ n. new) (λ i v n w. turns.Reevaluates (step table.slots i new 0 none) v new w)
    c.part.invariant.named me c.index-place.ensures c.part.invariant.fits.cpu
    (c.law_finish.ensures.reevaluate o table.slots part.seat.id b c.args.walk p new
    (record {
      cpu = c.part.invariant.fits.cpu;
      own = own.2;
      walk = can.walk;
      stage = can.stage;
      kind = can.sort;
      word = c.status_word-word.ensures part.bases.plain ∙ ap (λ n. own_word
          (record b.own { wakeup = n; inside = false; walk = None })) c.wakeup_of-wakeup.ensures.wakeup;
    }))

pub invariant_of-part : goal.invariant_of-part
invariant_of-part g c =
    let part = c.part.inside in
    let o : World = g.N.RunName.opening in
    let b = box_held o part.cpu.0 part.status part.bases.plain part.leaf part.read
    (looked_of part.seat.me.0.boxes) in
    let own = subst HasOwn (sym c.part.view_is) c.requires.own in
    let can = subst (λ (z : HeldPart). EndsAs z c.args.walk kinds.Reeval)
    (sym c.part.view_is) c.requires.ends in
    let p = own.0 in
    let me : part.seat.me ≡ seat_of (b ∷ []) (p ∷ []) =
    c.part.invariant.seat ∙ ap (seat_of (b ∷ [])) own.1 in
    let m = c.store.new.seat.me in
    let is : m ≡ seat_of (of_box (turns.finished_box kinds.Reeval) b p ∷ [])
    (turns.reevaluated_pass b p ∷ []) =
    c.store.ensures.2.0 ∙ ap (plays.on_both (turns.finished_box kinds.Reeval)
    turns.reevaluated_pass) me in
    let same : box_held o part.cpu.0 (record part.status {
      wakeup =
          c.wakeup_of-wakeup.result;
      inside = false;
      walk = None;
    }) part.bases.plain part.leaf part.read
    (looked_of part.seat.me.0.boxes) ≡ of_box (turns.finished_box kinds.Reeval) b p =
    ap (λ n. box_held o part.cpu.0 (record part.status {
      wakeup = n;
      inside = false;
      walk =
          None;
    }) part.bases.plain part.leaf part.read (looked_of part.seat.me.0.boxes))
    c.wakeup_of-wakeup.ensures.wakeup
    ∙ ap (λ (z : Option Walk). record b { own = turns.finish_of kinds.Reeval b.own z })
    (sym can.walk) in
    keeps g.N.RunName.table c.store.new.seat.table_id o part.cpu.0 (record part.status {
      wakeup =
          c.wakeup_of-wakeup.result;
      inside = false;
      walk = None;
    })
    part.bases.plain part.leaf part.read (looked_of part.seat.me.0.boxes) part.guest m (of_box
    (turns.finished_box kinds.Reeval)) (turns.reevaluated_pass) b p is same
    (c.store.ensures.0 ∙ c.part.invariant.named) c.store.ensures.2.1
    (same_hosts part.guest p (turns.reevaluated_pass b p) (subst
    (Hosts part.guest) own.1 c.part.invariant.hosts)
    (record { cpu = refl; walks_are = refl; receipts = refl }))

pub returns : goal.returns
returns g c =
    let part = c.part.inside in
    let o : World = g.N.RunName.opening in
    let b = box_held o part.cpu.0 part.status part.bases.plain part.leaf part.read
    (looked_of part.seat.me.0.boxes) in
    let own = subst HasOwn (sym c.part.view_is) c.requires.own in
    let can = subst (λ (z : HeldPart). EndsAs z c.args.walk kinds.Reeval)
    (sym c.part.view_is) c.requires.ends in
    let p = own.0 in
    let me : part.seat.me ≡ seat_of (b ∷ []) (p ∷ []) =
    c.part.invariant.seat ∙ ap (seat_of (b ∷ [])) own.1 in
    let m = c.store.new.seat.me in
    let is : m ≡ seat_of (of_box (turns.finished_box kinds.Reeval) b p ∷ [])
    (turns.reevaluated_pass b p ∷ []) =
    c.store.ensures.2.0 ∙ ap (plays.on_both (turns.finished_box kinds.Reeval)
    turns.reevaluated_pass) me in
    let same : box_held o part.cpu.0 (record part.status {
      wakeup =
          c.wakeup_of-wakeup.result;
      inside = false;
      walk = None;
    }) part.bases.plain part.leaf part.read
    (looked_of part.seat.me.0.boxes) ≡ of_box (turns.finished_box kinds.Reeval) b p =
    ap (λ n. box_held o part.cpu.0 (record part.status {
      wakeup = n;
      inside = false;
      walk =
          None;
    }) part.bases.plain part.leaf part.read (looked_of part.seat.me.0.boxes))
    c.wakeup_of-wakeup.ensures.wakeup
    ∙ ap (λ (z : Option Walk). record b { own = turns.finish_of kinds.Reeval b.own z })
    (sym can.walk) in
    shows g.N.RunName.table c.store.new.seat.table_id o part.cpu.0 (record part.status {
      wakeup =
          c.wakeup_of-wakeup.result;
      inside = false;
      walk = None;
    })
    part.bases.plain part.leaf part.read (looked_of part.seat.me.0.boxes) part.guest m (of_box
    (turns.finished_box kinds.Reeval)) (turns.reevaluated_pass) b p is same
    part.bases.room (guest_room part.guest) part.seat.me.0.passes refl own.1
    ∙ ap (by_pair (of_box (turns.finished_box kinds.Reeval)) (turns.reevaluated_pass))
    c.part.view_is

pub status_word-word-requires-clause-wakeup : goal.status_word-word-requires-clause-wakeup
status_word-word-requires-clause-wakeup g c =
    let part = c.part.inside in
    let at = ap (λ (z : HeldPart). z.box.own.walk) c.part.view_is ∙ c.requires.ends.walk in
    let low = (c.part.invariant.fits.walk c.args.walk at).ranges.pin in
    let least = c.wakeup_of-wakeup.ensures.least in
    omega (arith, low, least)
