use Rattle.std.proofs.Common.{◌≡◌, ◌+◌, ◌∙◌, ◌<◌, arith, sym, ap}
use Rattle.std.specs.Prelude.{slice_get}
use Rattle.tree_plan.specs.Shape.{joined}
use Rattle.tree_plan.specs.Paths.{child_count_of, group_count_of, groups_of}
use Rattle.tree_plan.specs.Store.{first_child_of}
use Rattle.tree_plan.proofs.Children.{child_stands, child_inside, child_narrow, no_group, no_child}
use Rattle.tree_plan.proofs.hierarchy.Tree.child.Goals as goal

pub returns-then-g-group_count : goal.returns-then-g-group_count
returns-then-g-group_count c = no_group c.args.self.now c.args.g.0 c.args.bit (omega (arith, c.group_count.ensures, c.if-g-group_count.true))

pub returns-then-bit-children : goal.returns-then-bit-children
returns-then-bit-children c = no_child c.args.self.now c.args.g.0 c.args.bit (omega (arith, c.children.ensures, c.if-bit-children.true))

pub overflow_add-first : goal.overflow_add-first
overflow_add-first c =
    let inside : c.args.g.0 < group_count_of c.args.self.now = omega (arith, c.group_count.ensures, c.if-g-group_count.false) in
    let low : c.args.bit < child_count_of c.args.self.now c.args.g.0 = omega (arith, c.children.ensures, c.if-bit-children.false) in
    omega (arith, child_narrow c.args.self.now c.args.g.0 c.args.bit c.first.ensures.planned inside low, c.first.ensures.first, c.from.ensures)

pub member-requires : goal.member-requires
member-requires c =
    let inside : c.args.g.0 < group_count_of c.args.self.now = omega (arith, c.group_count.ensures, c.if-g-group_count.false) in
    let low : c.args.bit < child_count_of c.args.self.now c.args.g.0 = omega (arith, c.children.ensures, c.if-bit-children.false) in
    omega (arith, child_inside c.args.self.now c.args.g.0 c.args.bit c.first.ensures.planned inside low, c.first.ensures.first, c.from.ensures)

pub returns : goal.returns
returns c =
    let t = c.args.self.now in
    let inside : c.args.g.0 < group_count_of t = omega (arith, c.group_count.ensures, c.if-g-group_count.false) in
    let low : c.args.bit < child_count_of t c.args.g.0 = omega (arith, c.children.ensures, c.if-bit-children.false) in
    let index : c.first.result + c.from.result ≡ first_child_of t c.args.g.0 + c.args.bit = omega (arith, c.first.ensures.first, c.from.ensures) in
    sym c.member.ensures ∙ (ap (slice_get (joined (groups_of t))) index ∙ child_stands t c.args.g.0 c.args.bit c.first.ensures.planned inside low)
