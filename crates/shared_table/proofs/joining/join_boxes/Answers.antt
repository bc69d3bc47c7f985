use Rattle.std.proofs.Common.{◌≡◌, ◌++◌, ◌∷◌, [], List, length, length-append, sym, ap, ◌∙◌}
use Rattle.std.proofs.Common.{subst, arith}
use Rattle.std.proofs.lemmas.List.{append-nil, nil_from_length}
use Rattle.shared_rule.specs.Rule.{Each}
use Rattle.shared_rule.specs.Parts.{HeldPart}
use Rattle.shared_table.specs.Begun.{IsFree}
use Rattle.shared_table.specs.Ended.{BeganWith}
use Rattle.shared_table.specs.Joined.{owns_of, with_boxes}
use Rattle.shared_table.proofs.Together.{each_both, one_box, one_own, with_none}
use Rattle.shared_table.proofs.joining.join_boxes.Goals as goal

pub loop-cpu_box-init : goal.loop-cpu_box-init
loop-cpu_box-init g c =
    let all = c.args.boxes.items in
    let same : c.into_iter-cpu_box-iterator.result.rest.items ≡ all
    = c.into_iter-cpu_box-iterator.ensures.into_iter_gives.0 in
    record {
      seated = c.requires.table;
      room = omega (arith, c.requires.room, ap (λ (l : List HeldPart). length l) same);
      joined = ap (with_boxes c.args.seat.now.me) same;
      written = ap (λ l. c.args.cpus.now.items ++ owns_of l) same;
      free = λ h. subst (Each IsFree) same h;
      began = λ h. subst (Each (BeganWith g.N.RunName.opening)) same h;
    }

pub loop-cpu_box-preserved : goal.loop-cpu_box-preserved
loop-cpu_box-preserved g c =
    let rest = c.loop-cpu_box.cpu_box-iterator.rest.items in
    let later = c.next.new.self.rest.items in
    let steps = c.in-Some.ensures.steps.0 in
    let pushed : c.push.new.self.items ≡ c.loop-cpu_box.cpus.items ++ c.take_box-own.result ∷ []
    = rw c.unwrap.ensures at c.push.ensures.items in
    let longer = simp length-append at (ap length pushed) in
    let room = c.loop-cpu_box.invariant.room in
    record {
      seated = c.take_box-own.ensures.table;
      room = omega (arith, longer, ap length steps, room, c.push.ensures.capacity);
      joined = one_box c.loop-cpu_box.seat.me c.take_box-own.new.seat.me c.args.seat.now.me rest
          c.in-Some.cpu_box later c.args.boxes.items steps c.take_box-own.ensures.joined
          c.loop-cpu_box.invariant.joined;
      written = one_own c.loop-cpu_box.cpus.items c.push.new.self.items c.take_box-own.result rest
          c.in-Some.cpu_box later (c.args.cpus.now.items ++ owns_of c.args.boxes.items) steps
          c.take_box-own.ensures.own pushed c.loop-cpu_box.invariant.written;
      free = λ others. c.loop-cpu_box.invariant.free
          (each_both IsFree rest c.in-Some.cpu_box later steps c.take_box-own.ensures.free others);
      began = λ others. c.loop-cpu_box.invariant.began
          (each_both (BeganWith g.N.RunName.opening) rest c.in-Some.cpu_box later steps
          c.take_box-own.ensures.began others);
    }

pub returns-clause-joined : goal.returns-clause-joined
returns-clause-joined g c =
    let rest = c.loop-cpu_box.cpu_box-iterator.rest in
    let none : rest.items ≡ [] = nil_from_length rest.items (sym rest.ok.0 ∙ c.in-None.ensures.steps.0) in
    sym (with_none c.loop-cpu_box.seat.me)
    ∙ (ap (with_boxes c.loop-cpu_box.seat.me) (sym none) ∙ c.loop-cpu_box.invariant.joined)

pub returns-clause-cpus : goal.returns-clause-cpus
returns-clause-cpus g c =
    let rest = c.loop-cpu_box.cpu_box-iterator.rest in
    let none : rest.items ≡ [] = nil_from_length rest.items (sym rest.ok.0 ∙ c.in-None.ensures.steps.0) in
    sym (append-nil c.loop-cpu_box.cpus.items)
    ∙ (ap (λ l. c.loop-cpu_box.cpus.items ++ owns_of l) (sym none)
    ∙ c.loop-cpu_box.invariant.written)

pub returns-clause-free : goal.returns-clause-free
returns-clause-free g c =
    let rest = c.loop-cpu_box.cpu_box-iterator.rest in
    let none : rest.items ≡ [] = nil_from_length rest.items (sym rest.ok.0 ∙ c.in-None.ensures.steps.0) in
    c.loop-cpu_box.invariant.free (subst (Each IsFree) (sym none) tt)

pub returns-clause-began : goal.returns-clause-began
returns-clause-began g c =
    let rest = c.loop-cpu_box.cpu_box-iterator.rest in
    let none : rest.items ≡ [] = nil_from_length rest.items (sym rest.ok.0 ∙ c.in-None.ensures.steps.0) in
    c.loop-cpu_box.invariant.began
    (subst (Each (BeganWith g.N.RunName.opening)) (sym none) tt)

pub take_box-own-requires : goal.take_box-own-requires
take_box-own-requires g c = c.loop-cpu_box.invariant.seated

pub unwrap-requires : goal.unwrap-requires
unwrap-requires g c =
    let room = c.loop-cpu_box.invariant.room in
    let steps = ap length c.in-Some.ensures.steps.0 in
    c.push.ensures.succeeds (omega (arith, room, steps, c.loop-cpu_box.cpus.ok.0))

pub loop-cpu_box-smaller : goal.loop-cpu_box-smaller
loop-cpu_box-smaller g c =
    let rest = c.loop-cpu_box.cpu_box-iterator.rest in
    let later = c.next.new.self.rest in
    let steps = ap length c.in-Some.ensures.steps.0 in
    omega (arith, rest.ok.0, later.ok.0, steps)

pub returns-clause-table : goal.returns-clause-table
returns-clause-table g c = c.loop-cpu_box.invariant.seated
