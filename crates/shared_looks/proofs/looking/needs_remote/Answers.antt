use Rattle.std.proofs.Common.{◌+◌, ◌∷◌, ap, ◌∙◌, subst, arith}
use Rattle.std.specs.FinSet.{empty}
use Rattle.tm_base.specs.CpuSet.{Cpus}
use Rattle.shared_cpus.specs.shared_rule.Passes.{HeldPass}
use Rattle.shared_looks.specs.Sights.{ShowsNothing, slot_looks, state_look}
use Rattle.shared_looks.proofs.Sighted.{nothing_more, still_run_all}
use Rattle.shared_looks.proofs.looking.needs_remote.Goals as goal

pub loop-level-preserved : goal.loop-level-preserved
loop-level-preserved g c =
    let table = g.N.RunName.table in
    let o = g.N.RunName.opening in
    let now = c.args.now in
    let level = c.loop-level.level in
    let was = c.loop-level.invariant in
    let mid = c.loop-level.pass in
    let after = c.look.new.pass in
    let shows = subst (λ (tried : Cpus). ShowsNothing o now tried mid.cpu level mid after)
    c.new-tried.ensures c.in-Nothing.ensures in
    let mine = subst (λ n. ShowsNothing o now empty n level mid after) was.1.1 shows in
    let seen = shows.seen in
    let loads = state_look o seen.group seen.word ∷ slot_looks o seen.group 0 seen.founds in (
      nothing_more table o now c.args.pass.now.cpu level (level + 1) c.args.pass.now mid after
          was.0 mine (omega arith),
      (
        still_run_all table mid after loads was.1.0 seen.pass_is,
        ap (λ (z : HeldPass). z.cpu) seen.pass_is ∙ was.1.1,
      ),
    )
